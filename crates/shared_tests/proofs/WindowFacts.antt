-- The window of the worker 0, and no other.
use Rattle.std.proofs.Common.{◌≡◌, inl, inr, ℕ, zero, suc, ◌==◌, ◌||◌, true, false, List, ◌∷◌, replicate, slice_set, sym, ap, ◌∙◌}
use Rattle.std.specs.Prelude.{nat_lt}
use Rattle.std.proofs.lemmas.Bool.{and_parts, or_cases, eqb-true, false≢true, false_from_ne_true}
use Rattle.seg_words.specs.declared.segment.WordsIn.{Ghosts}
use Rattle.seg_words.specs.Windows.{Aside, has, is_named}
use Rattle.seg_words.specs.EventWindows.{event_begun}
use Rattle.entry_slots.specs.declared.slots.EntrySlots.{EntrySlots}
use Rattle.entry_slots.specs.Lists.{has_place}
use Rattle.entry_slots.specs.Entries.{listed, Entries}
use Rattle.entry_slots.specs.Standing.{Stands, entries}
use Rattle.entry_slots.specs.Facts.{OnlyClose, OnlyOpensAt}
use Rattle.cache_core.specs.declared.cache.Core.{Core}
use Rattle.cache_core.specs.CoreCache.{CacheStands}
use Rattle.shared_tests.specs.UnheldCaches.{Rests}

has_zero : (n at : ℕ) → has at (replicate n 0) ≡ true → at ≡ 0
has_zero zero at t = absurd (false≢true t)
has_zero (suc n) at t = elim (or_cases (at == 0) (has at (replicate n 0)) t) [
  | inl here ↦ eqb-true at 0 here
  | inr later ↦ has_zero n at later
]

-- a row of zeros names no block
pub unnamed : (n at : ℕ) → is_named (replicate n 0) at ≡ false
unnamed n at = false_from_ne_true (is_named (replicate n 0) at) (λ t.
    let parts = and_parts (nat_lt 0 at) (has at (replicate n 0)) t in
    false≢true (ap (λ x. nat_lt 0 x) (sym (has_zero n at parts.1)) ∙ parts.0))

-- the first one names its block, and no other is open
is_at : (at x : ℕ) → is_named (at ∷ replicate 63 0) x ≡ true → x ≡ at
is_at at x named =
    let parts = and_parts (nat_lt 0 x) ((x == at) || has x (replicate 63 0)) named in
    elim (or_cases (x == at) (has x (replicate 63 0)) parts.1) [
      | inl here ↦ eqb-true x at here
      | inr later ↦ absurd (false≢true (ap (λ n. nat_lt 0 n) (sym (has_zero 63 x later)) ∙ parts.0))
    ]

-- an event begins with an empty mask, whatever the worker 0 held
pub free_begun : ((e : EntrySlots) (words : List ℕ) (old new : Aside) (s : Entries) → OnlyClose old new → Stands e words old s → Stands e words new s)
    → {X : Type 0} (g : Ghosts X (List ℕ)) (core : Core) (old one new : X) (at : ℕ)
    → g.words one ≡ g.words old → g.words new ≡ g.words one
    → g.rest old ≡ slice_set (replicate 64 0) 0 at → g.rest one ≡ slice_set (g.rest old) 0 0 → g.rest new ≡ g.rest one
    → g.aside new ≡ event_begun 0 (g.rest one) → CacheStands g core old → Rests g core new
free_begun closes g core old one new at w1 w2 r0 r1 r2 a st =
    let words : g.words new ≡ g.words old = w2 ∙ w1 in
    let held : g.rest one ≡ replicate 64 0 = r1 ∙ ap (λ (h : List ℕ). slice_set h 0 0) r0 in
    let aside : g.aside new ≡ event_begun 0 (replicate 64 0) = a ∙ ap (event_begun 0) held in
    record {
      stand = record {
        stand = rw (words, aside) (closes core.slots (g.words old) (g.aside old) (event_begun 0 (replicate 64 0)) (entries core.slots) (λ x named. absurd (false≢true (sym (unnamed 64 x) ∙ named))) st.stand);
        whole = st.whole;
      };
      held = r2 ∙ held;
      closed = λ x. ap (λ (s : Aside). is_named s.windows x) aside ∙ unnamed 64 x;
    }

-- one begins that meets the worker 0, for whom a block is held that is there
pub held_begun : ((e : EntrySlots) (words : List ℕ) (old new : Aside) (s : Entries) (at : ℕ) → has_place at (listed s) ≡ true → OnlyOpensAt at old new → Stands e words old s → Stands e words new s)
    → {X : Type 0} (g : Ghosts X (List ℕ)) (core : Core) (old one new : X) (at : ℕ)
    → g.words one ≡ g.words old → g.words new ≡ g.words one
    → g.rest old ≡ replicate 64 0 → g.rest one ≡ slice_set (g.rest old) 0 at
    → g.aside new ≡ event_begun 1 (g.rest one) → has_place at (listed (entries core.slots)) ≡ true → CacheStands g core old → CacheStands g core new
held_begun opens g core old one new at w1 w2 r0 r1 a there st =
    let words : g.words new ≡ g.words old = w2 ∙ w1 in
    let held : g.rest one ≡ slice_set (replicate 64 0) 0 at = r1 ∙ ap (λ (h : List ℕ). slice_set h 0 at) r0 in
    let aside : g.aside new ≡ event_begun 1 (slice_set (replicate 64 0) 0 at) = a ∙ ap (event_begun 1) held in
    record {
      stand = rw (words, aside) (opens core.slots (g.words old) (g.aside old) (event_begun 1 (slice_set (replicate 64 0) 0 at)) (entries core.slots) at there (λ x named. inl (is_at at x named)) st.stand);
      whole = st.whole;
    }
