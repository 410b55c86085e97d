-- Windows that open on rows that are there.
use Rattle.std.proofs.Common.{◌≡◌, ◌⊎◌, inl, inr, ℕ, zero, suc, ◌/◌, ◌%◌, ◌==◌, ◌||◌, Bool, true, false, cond, List, [], ◌∷◌, slice_index, refl, sym, ap, ◌∙◌, subst}
use Rattle.std.specs.Prelude.{nat_lt}
use Rattle.std.proofs.lemmas.Bool.{and_parts, and_from, or_cases, eqb-true, eq-eqb, cases_Bool, or_left, or_right, false≢true}
use Rattle.seg_words.specs.Windows.{Aside, has, is_named}
use Rattle.seg_words.specs.EventWindows.{opened_for, event_begun}
use Rattle.entry_slots.specs.declared.slots.EntrySlots.{EntrySlots}
use Rattle.entry_slots.specs.Lists.{has_place}
use Rattle.entry_slots.specs.Entries.{Entries, listed}
use Rattle.entry_slots.specs.Standing.{Stands}
use Rattle.entry_slots.specs.Facts.{OnlyClose, OnlyOpensAt}

-- the place is 0, or that of a row or a removed row
abbrev Opens : Entries → ℕ → Type 0
Opens s at = (at ≡ 0) ⊎ (has_place at (listed s) ≡ true)

opened_ok : (s : Entries) (mask : ℕ) (held : List ℕ) → ((i : ℕ) → Opens s (slice_index held i)) → (w : ℕ) → has w (opened_for mask held) ≡ true → Opens s w
opened_ok s mask [] h w t = absurd (false≢true t)
opened_ok s mask (at ∷ held) h w t = elim (or_cases (w == cond {A = ℕ} (mask % 2 == 1) at 0) (has w (opened_for (mask / 2) held)) t) [
  | inl here ↦ elim (cases_Bool (mask % 2 == 1)) [
    | inl met ↦
        let same : w ≡ at = eqb-true w (cond {A = ℕ} (mask % 2 == 1) at 0) here ∙ ap (λ b. cond {A = ℕ} b at 0) met in
        subst (Opens s) (sym same) (h zero)
    | inr not_met ↦ inl (eqb-true w (cond {A = ℕ} (mask % 2 == 1) at 0) here ∙ ap (λ b. cond {A = ℕ} b at 0) not_met)
  ]
  | inr later ↦ opened_ok s (mask / 2) held (λ i. h (suc i)) w later
]

-- a place that is named is one of the windows
module _ (closed : (e : EntrySlots) (words : List ℕ) (old new : Aside) (s : Entries) → OnlyClose old new → Stands e words old s → Stands e words new s)
    (opened : (e : EntrySlots) (words : List ℕ) (old new : Aside) (s : Entries) (at : ℕ) → has_place at (listed s) ≡ true → OnlyOpensAt at old new → Stands e words old s → Stands e words new s)
    (e : EntrySlots) (words : List ℕ) (s : Entries) (first : Aside) (stand : Stands e words first s) (mask : ℕ) where
  at_most : (w : ℕ) (ws : List ℕ) (x : ℕ) → is_named (w ∷ ws) x ≡ true → (x ≡ w) ⊎ (is_named ws x ≡ true)
  at_most w ws x named =
      let parts = and_parts (nat_lt 0 x) ((x == w) || has x ws) named in
      elim (or_cases (x == w) (has x ws) parts.1) [
        | inl here ↦ inl (eqb-true x w here)
        | inr later ↦ inr (and_from (nat_lt 0 x) (has x ws) parts.0 later)
      ]

  abbrev with_windows : List ℕ → Aside
  with_windows ws = record { windows = ws; mask = mask; refused = [] }

  pub stands_open : (ws : List ℕ) → ((w : ℕ) → has w ws ≡ true → Opens s w) → Stands e words (record { windows = ws; mask = mask; refused = [] }) s
  stands_open [] ok = closed e words first (with_windows []) s (λ x named. absurd (false≢true (and_parts (nat_lt 0 x) false named).1)) stand
  stands_open (w ∷ ws) ok =
      let before = stands_open ws (λ x t. ok x (or_right (x == w) (has x ws) t)) in
      elim (ok w (or_left (w == w) (has w ws) (eq-eqb w w refl))) [
        | inl none ↦ closed e words (with_windows ws) (with_windows (w ∷ ws)) s (λ x named. elim (at_most w ws x named) [
          | inl here ↦
              let some : nat_lt 0 x ≡ true = (and_parts (nat_lt 0 x) ((x == w) || has x ws) named).0 in
              absurd (false≢true (ap (λ n. nat_lt 0 n) (sym (here ∙ none)) ∙ some))
          | inr later ↦ later
        ]) before
        | inr there ↦ opened e words (with_windows ws) (with_windows (w ∷ ws)) s w there (λ x named. at_most w ws x named) before
      ]

  pub stands_begun : (held : List ℕ) → ((i : ℕ) → Opens s (slice_index held i)) → Stands e words (event_begun mask held) s
  stands_begun held ok = stands_open (opened_for mask held) (opened_ok s mask held ok)
