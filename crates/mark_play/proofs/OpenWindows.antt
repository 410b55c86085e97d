-- An event as it begins: which windows are pos, and which blocks are held.
use Rattle.std.proofs.Common.{◌≡◌, ◌≢◌, ◌⊎◌, inl, inr, ℕ, zero, suc, ◌<◌, ◌/◌, ◌%◌, ◌==◌, ◌&&◌, ◌||◌, Bool, true, false, cond, ltb, List, [], ◌∷◌, length, refl, sym, ◌∙◌, subst, arith}
use Rattle.std.specs.Prelude.{nat_lt, slice_index}
use Rattle.std.specs.Int.{bit_at}
use Rattle.std.proofs.lemmas.Bool.{and_parts, and_from, or_cases, eqb-true, eq-eqb, cases_Bool, or_left, or_right, false≢true, false_from_ne_true, lt-ltb, ltb-true}
use Rattle.std.proofs.lemmas.Nat.Bits.{bit_at_lowest, bit_at-suc}
use Rattle.seg_words.specs.Windows.{Aside, has, is_named, held_by, held_blocks}
use Rattle.seg_words.specs.EventWindows.{opened_for, event_begun}
use Rattle.seg_words.specs.Probing.{Goes, IsDecided, held_named, stays_held}
use Rattle.entry_slots.specs.declared.slots.EntrySlots.{EntrySlots}
use Rattle.entry_slots.specs.Lists.{has_place}
use Rattle.entry_slots.specs.Entries.{Entries, listed}
use Rattle.entry_slots.specs.Standing.{Stands}
use Rattle.entry_slots.specs.Facts.{OnlyClose, OnlyOpensAt}

-- ---- whose windows are pos, and that they are held

-- a place under an pos window is held for a worker of the mask
pub opened_there : (mask : ℕ) (held : List ℕ) (b : ℕ) → has b (opened_for mask held) ≡ true → b ≢ 0 → (v : ℕ) × (v < length held) × (bit_at mask v ≡ 1) × (slice_index held v ≡ b)
opened_there mask [] b h some = absurd (false≢true h)
opened_there mask (at ∷ held) b h some = elim (or_cases (b == cond {A = ℕ} (mask % 2 == 1) at 0) (has b (opened_for (mask / 2) held)) h) [
  | inl here ↦ first (mask % 2 == 1) refl (eqb-true b (cond {A = ℕ} (mask % 2 == 1) at 0) here)
  | inr later ↦
      let r = opened_there (mask / 2) held b later some in
      (suc r.0, omega (arith, r.1), bit_at-suc mask r.0 ∙ r.2, r.3)
]
  where
    first : (t : Bool) → (mask % 2 == 1) ≡ t → b ≡ cond {A = ℕ} t at 0 → (v : ℕ) × (v < length (at ∷ held)) × (bit_at mask v ≡ 1) × (slice_index (at ∷ held) v ≡ b)
    first true met e = (0, omega arith, bit_at_lowest mask ∙ eqb-true (mask % 2) 1 met, sym e)
    first false met e = absurd (some e)

-- and the other way round
pub opened_held : (mask : ℕ) (held : List ℕ) (v b : ℕ) → v < length held → bit_at mask v ≡ 1 → slice_index held v ≡ b → b ≢ 0 → has b (held_by mask (opened_for mask held)) ≡ true
opened_held mask [] v b low bit at some = absurd (omega (arith, low))
opened_held mask (x ∷ held) zero b low bit at some =
    let met : (mask % 2 == 1) ≡ true = eq-eqb (mask % 2) 1 (sym (bit_at_lowest mask) ∙ bit) in
    let pos : ltb 0 x ≡ true = lt-ltb 0 x (omega (arith, at, some)) in
    rw (met, pos) (or_left (b == x) (has b (held_by (mask / 2) (opened_for (mask / 2) held))) (eq-eqb b x (sym at)))
opened_held mask (x ∷ held) (suc v) b low bit at some =
    go (mask % 2 == 1) (ltb 0 (cond {A = ℕ} (mask % 2 == 1) x 0)) (opened_held (mask / 2) held v b (omega (arith, low)) (sym (bit_at-suc mask v) ∙ bit) at some)
  where
    go : (met pos : Bool) → has b (held_by (mask / 2) (opened_for (mask / 2) held)) ≡ true
        → has b (cond (met && pos) (cond {A = ℕ} (mask % 2 == 1) x 0 ∷ held_by (mask / 2) (opened_for (mask / 2) held)) (held_by (mask / 2) (opened_for (mask / 2) held))) ≡ true
    go true true h = or_right (b == cond {A = ℕ} (mask % 2 == 1) x 0) (has b (held_by (mask / 2) (opened_for (mask / 2) held))) h
    go true false h = h
    go false true h = h
    go false false h = h

positive : (b : ℕ) → nat_lt 0 b ≡ true → b ≢ 0
positive b h z = omega (arith, ltb-true 0 b h, z)

pub named_there : (mask : ℕ) (held : List ℕ) (b : ℕ) → is_named (opened_for mask held) b ≡ true → (b ≢ 0) × ((v : ℕ) × (v < length held) × (bit_at mask v ≡ 1) × (slice_index held v ≡ b))
named_there mask held b named =
    let p = and_parts (nat_lt 0 b) (has b (opened_for mask held)) named in
    (positive b p.0, opened_there mask held b p.1 (positive b p.0))

-- every block is decided as the event begins
pub decided : (mask : ℕ) (held : List ℕ) (b : ℕ) → IsDecided (event_begun mask held) b
decided mask held b = elim (cases_Bool (is_named (opened_for mask held) b)) [
  | inl named ↦
      let t = named_there mask held b named in
      named ∙ sym (opened_held mask held t.1.0 b t.1.1 t.1.2 t.1.3 t.0)
  | inr none ↦ none ∙ sym (false_from_ne_true (has b (held_by mask (opened_for mask held))) (λ h. false≢true (sym none ∙ held_named (event_begun mask held) b h)))
]

-- so the probes of the event hold the same blocks
pub held_same : (mask : ℕ) (held : List ℕ) (new : Aside) → Goes (event_begun mask held) new → (b : ℕ) → has b (held_blocks new) ≡ has b (held_by mask (opened_for mask held))
held_same mask held new goes b = stays_held (event_begun mask held) new b goes (decided mask held b)

-- ---- words stand as the event begins

-- a place that is held for a worker of the mask is 0, or that of a row or a removed row
abbrev pub OpensMet : Entries → ℕ → List ℕ → Type 0
OpensMet s mask held = (v : ℕ) → v < length held → bit_at mask v ≡ 1 → slice_index held v ≢ 0 → has_place (slice_index held v) (listed s) ≡ true

-- a place that is named is one of the windows
module _ (closed : (e : EntrySlots) (words : List ℕ) (old new : Aside) (s : Entries) → OnlyClose old new → Stands e words old s → Stands e words new s)
    (opened : (e : EntrySlots) (words : List ℕ) (old new : Aside) (s : Entries) (at : ℕ) → has_place at (listed s) ≡ true → OnlyOpensAt at old new → Stands e words old s → Stands e words new s)
    (e : EntrySlots) (words : List ℕ) (s : Entries) (first : Aside) (stand : Stands e words first s) (mask : ℕ) where
  at_most : (w : ℕ) (ws : List ℕ) (x : ℕ) → is_named (w ∷ ws) x ≡ true → (x ≡ w) ⊎ (is_named ws x ≡ true)
  at_most w ws x named =
      let parts = and_parts (nat_lt 0 x) ((x == w) || has x ws) named in
      elim (or_cases (x == w) (has x ws) parts.1) [
        | inl here ↦ inl (eqb-true x w here)
        | inr later ↦ inr (and_from (nat_lt 0 x) (has x ws) parts.0 later)
      ]

  abbrev with_windows : List ℕ → Aside
  with_windows ws = record { windows = ws; mask = mask; refused = [] }

  pub stands_open : (ws : List ℕ) → ((w : ℕ) → has w ws ≡ true → w ≢ 0 → has_place w (listed s) ≡ true) → Stands e words (record { windows = ws; mask = mask; refused = [] }) s
  stands_open [] ok = closed e words first (with_windows []) s (λ x named. absurd (false≢true (and_parts (nat_lt 0 x) false named).1)) stand
  stands_open (w ∷ ws) ok =
      let before = stands_open ws (λ x t. ok x (or_right (x == w) (has x ws) t)) in
      elim (cases_Bool (w == 0)) [
        | inl none ↦ closed e words (with_windows ws) (with_windows (w ∷ ws)) s (λ x named. elim (at_most w ws x named) [
          | inl here ↦ absurd (positive x (and_parts (nat_lt 0 x) ((x == w) || has x ws) named).0 (here ∙ eqb-true w 0 none))
          | inr later ↦ later
        ]) before
        | inr some ↦
            let there : has_place w (listed s) ≡ true = ok w (or_left (w == w) (has w ws) (eq-eqb w w refl)) (λ z. false≢true (sym some ∙ eq-eqb w 0 z)) in
            opened e words (with_windows ws) (with_windows (w ∷ ws)) s w there (λ x named. at_most w ws x named) before
      ]

  pub stands_begun : (held : List ℕ) → OpensMet s mask held → Stands e words (event_begun mask held) s
  stands_begun held ok = stands_open (opened_for mask held) (λ w t some. let r = opened_there mask held w t some in
      subst (λ b. has_place b (listed s) ≡ true) r.3 (ok r.0 r.1 r.2 (λ z. some (sym r.3 ∙ z))))
