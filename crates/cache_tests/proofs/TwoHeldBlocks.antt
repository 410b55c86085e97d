-- Rows of zeros, and what is held for two workers.
use Rattle.std.proofs.Common.{◌≡◌, inl, inr, ℕ, zero, suc, ◌≤◌, ◌==◌, true, false, List, [], ◌∷◌, replicate, slice_index, slice_set, refl, sym, ap, ◌∙◌, arith}
use Rattle.std.specs.Prelude.{nat_lt}
use Rattle.std.proofs.lemmas.Bool.{and_parts, or_cases, eqb-true, false≢true, false_from_ne_true}
use Rattle.std.proofs.lemmas.List.{get_or_past, get_or-set_other}
use Rattle.seg_words.specs.Windows.{Aside, has, is_named}
use Rattle.seg_words.specs.EventWindows.{event_begun}
use Rattle.seg_words.specs.Kept.{Kept}
use Rattle.seg_words.specs.declared.segment.WordsIn.{Ghosts}
use Rattle.entry_slots.specs.declared.slots.EntrySlots.{EntrySlots}
use Rattle.entry_slots.specs.Lists.{has_place}
use Rattle.entry_slots.specs.Entries.{listed, Entries}
use Rattle.entry_slots.specs.Standing.{Stands, entries}
use Rattle.entry_slots.specs.Facts.{OnlyClose, OnlyOpensAt}
use Rattle.cache_core.specs.declared.cache.Core.{Core}
use Rattle.cache_tests.specs.TwoHolders.{IsRowsPlace, HoldsTwo}
use Rattle.cache_tests.proofs.OpenWindows.{stands_begun}

pub zero_at : (n i : ℕ) → slice_index (replicate n 0) i ≡ 0
zero_at zero i = get_or_past [] i 0 (omega arith)
zero_at (suc n) zero = refl
zero_at (suc n) (suc i) = zero_at n i

has_zero : (n at : ℕ) → has at (replicate n 0) ≡ true → at ≡ 0
has_zero zero at t = absurd (false≢true t)
has_zero (suc n) at t = elim (or_cases (at == 0) (has at (replicate n 0)) t) [
  | inl here ↦ eqb-true at 0 here
  | inr later ↦ has_zero n at later
]

-- a row of zeros names no block
pub unnamed : (n at : ℕ) → is_named (replicate n 0) at ≡ false
unnamed n at = false_from_ne_true (is_named (replicate n 0) at) (λ t.
    let parts = and_parts (nat_lt 0 at) (has at (replicate n 0)) t in
    false≢true (ap (λ x. nat_lt 0 x) (sym (has_zero n at parts.1)) ∙ parts.0))

pub no_others : (held : List ℕ) (first second : ℕ) → ((i : ℕ) → 2 ≤ i → slice_index held i ≡ 0)
    → (i : ℕ) → 2 ≤ i → slice_index (slice_set (slice_set held 0 first) 1 second) i ≡ 0
no_others held first second none i high =
    get_or-set_other (slice_set held 0 first) 1 i second 0 (λ q. omega (arith, high, q))
    ∙ (get_or-set_other held 0 i first 0 (λ q. omega (arith, high, q)) ∙ none i high)

all_there : (slots : EntrySlots) (held : List ℕ) (first second : ℕ) → ((i : ℕ) → 2 ≤ i → slice_index held i ≡ 0)
    → IsRowsPlace slots first → IsRowsPlace slots second
    → (i : ℕ) → IsRowsPlace slots (slice_index (slice_set (slice_set held 0 first) 1 second) i)
all_there slots [] first second none f s i = inl (get_or_past [] i 0 (omega arith))
all_there slots (a ∷ []) first second none f s zero = f
all_there slots (a ∷ []) first second none f s (suc i) = inl (get_or_past [] i 0 (omega arith))
all_there slots (a ∷ b ∷ held) first second none f s zero = f
all_there slots (a ∷ b ∷ held) first second none f s (suc zero) = s
all_there slots (a ∷ b ∷ held) first second none f s (suc (suc i)) = inl (none (suc (suc i)) (omega arith))

pub stands_with_two : ((e : EntrySlots) (words : List ℕ) (old new : Aside) (s : Entries) → OnlyClose old new → Stands e words old s → Stands e words new s)
    → ((e : EntrySlots) (words : List ℕ) (old new : Aside) (s : Entries) (at : ℕ) → has_place at (listed s) ≡ true → OnlyOpensAt at old new → Stands e words old s → Stands e words new s)
    → (slots : EntrySlots) (words : List ℕ) (aside : Aside) → Stands slots words aside (entries slots)
    → (held : List ℕ) → ((i : ℕ) → 2 ≤ i → slice_index held i ≡ 0)
    → (mask first second : ℕ) → IsRowsPlace slots first → IsRowsPlace slots second
    → Stands slots words (event_begun mask (slice_set (slice_set held 0 first) 1 second)) (entries slots)
stands_with_two closed opened slots words aside stand held none mask first second f s =
    stands_begun closed opened slots words (entries slots) aside stand mask (slice_set (slice_set held 0 first) 1 second) (all_there slots held first second none f s)

-- if the words and what is kept besides them are unchanged, so is all that they represent
pub two_kept : {X : Type 0} (g : Ghosts X (List ℕ)) (core : Core) (old new : X) → Kept g old new → HoldsTwo g core old → HoldsTwo g core new
two_kept g core old new kept two = record {
  stand = record { stand = rw (kept.words, kept.aside) two.stand.stand; whole = two.stand.whole };
  others = λ i high. ap (λ held. slice_index held i) kept.rest ∙ two.others i high;
}

pub two_begun : ((e : EntrySlots) (words : List ℕ) (old new : Aside) (s : Entries) → OnlyClose old new → Stands e words old s → Stands e words new s)
    → ((e : EntrySlots) (words : List ℕ) (old new : Aside) (s : Entries) (at : ℕ) → has_place at (listed s) ≡ true → OnlyOpensAt at old new → Stands e words old s → Stands e words new s)
    → {X : Type 0} (g : Ghosts X (List ℕ)) (core : Core) (old one both new : X) (mask first second : ℕ)
    → g.words one ≡ g.words old → g.words both ≡ g.words one → g.words new ≡ g.words both
    → g.rest one ≡ slice_set (g.rest old) 0 first → g.rest both ≡ slice_set (g.rest one) 1 second → g.rest new ≡ g.rest both
    → g.aside new ≡ event_begun mask (g.rest both)
    → IsRowsPlace core.slots first → IsRowsPlace core.slots second → HoldsTwo g core old → HoldsTwo g core new
two_begun closed opened g core old one both new mask first second w1 w2 w3 r1 r2 r3 a f s two =
    let words : g.words new ≡ g.words old = w3 ∙ (w2 ∙ w1) in
    let held : g.rest both ≡ slice_set (slice_set (g.rest old) 0 first) 1 second = r2 ∙ ap (λ (h : List ℕ). slice_set h 1 second) r1 in
    let aside : g.aside new ≡ event_begun mask (slice_set (slice_set (g.rest old) 0 first) 1 second) = a ∙ ap (event_begun mask) held in
    record {
      stand = record {
        stand = rw (words, aside) (stands_with_two closed opened core.slots (g.words old) (g.aside old) two.stand.stand (g.rest old) two.others mask first second f s);
        whole = two.stand.whole;
      };
      others = λ i high. ap (λ (h : List ℕ). slice_index h i) (r3 ∙ held) ∙ no_others (g.rest old) first second two.others i high;
    }
