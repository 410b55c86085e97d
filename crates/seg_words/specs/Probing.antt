-- How the probes of an event change what is kept besides the words, and what they decide.
use Rattle.std.specs.Prelude.{◌≡◌, ◌⊎◌, ℕ, ◌/◌, ◌%◌, ◌==◌, ◌&&◌, ◌||◌, Bool, true, false, cond}
use Rattle.std.specs.Prelude.{nat_lt, List, [], ◌∷◌, refl}
use Rattle.std.proofs.Common.{inl, inr, sym, ap, ◌∙◌, subst}
use Rattle.std.proofs.lemmas.Bool.{and_parts, and_from, or_left, or_right, or_cases, eqb-true}
use Rattle.std.proofs.lemmas.Bool.{cases_Bool, false≢true, false_from_ne_true}
use Rattle.seg_words.specs.Windows.{Aside, has, is_named, held_by, held_blocks}

-- windows only close, and a block that is held stays held
pub record Goes (old new : Aside) : Type 0 where
  pub closes : (b : ℕ) → is_named new.windows b ≡ true → is_named old.windows b ≡ true
  pub holds : (b : ℕ) → has b (held_blocks old) ≡ true → has b (held_blocks new) ≡ true

-- What is decided of the block at a place: a window names it exactly if it is held. No later probe
-- of the event changes this.
abbrev pub IsDecided : Aside → ℕ → Type 0
IsDecided aside at = is_named aside.windows at ≡ has at (held_blocks aside)

-- The block at `at` was probed: it is decided, and it is the only one that may be refused now and
-- was not before; it is refused only if it is held.
pub record Met (old new : Aside) (at : ℕ) : Type 0 where
  pub goes : Goes old new
  pub decided : IsDecided new at
  pub refused : (b : ℕ) → has b new.refused ≡ true
      → ((b ≡ at) × (has at (held_blocks new) ≡ true)) ⊎ (has b old.refused ≡ true)

-- if nothing changes, this holds
pub goes_nowhere : (old new : Aside) → new ≡ old → Goes old new
goes_nowhere old new e = record {
  closes = λ b named. subst (λ (aside : Aside). is_named aside.windows b ≡ true) e named;
  holds = λ b held. subst (λ (aside : Aside). has b (held_blocks aside) ≡ true) (sym e) held;
}

-- one step after the other
pub goes_on : (first middle last : Aside) → Goes first middle → Goes middle last → Goes first last
goes_on first middle last one then = record {
  closes = λ b named. one.closes b (then.closes b named);
  holds = λ b held. then.holds b (one.holds b held);
}

held_named_by : (mask : ℕ) (windows : List ℕ) (b : ℕ) → has b (held_by mask windows) ≡ true
    → is_named windows b ≡ true
held_named_by mask [] b h = absurd (false≢true h)
held_named_by mask (w ∷ ws) b h =
    go ((mask % 2 == 1) && nat_lt 0 w) refl (held_named_by (mask / 2) ws b) h
  where
    later : is_named ws b ≡ true → is_named (w ∷ ws) b ≡ true
    later r =
        let p = and_parts (nat_lt 0 b) (has b ws) r in
        and_from (nat_lt 0 b) (b == w || has b ws) p.0 (or_right (b == w) (has b ws) p.1)

    go : (met : Bool) → ((mask % 2 == 1) && nat_lt 0 w) ≡ met
        → (has b (held_by (mask / 2) ws) ≡ true → is_named ws b ≡ true)
        → has b (cond met (w ∷ held_by (mask / 2) ws) (held_by (mask / 2) ws)) ≡ true
        → is_named (w ∷ ws) b ≡ true
    go false e rest q = later (rest q)
    go true e rest q = elim (or_cases (b == w) (has b (held_by (mask / 2) ws)) q) [
      | inl here ↦
          let same : b ≡ w = eqb-true b w here in
          let above : nat_lt 0 b ≡ true =
          ap (λ n. nat_lt 0 n) same ∙ (and_parts (mask % 2 == 1) (nat_lt 0 w) e).1 in
          and_from (nat_lt 0 b) (b == w || has b ws) above (or_left (b == w) (has b ws) here)
      | inr there ↦ later (rest there)
    ]

-- what is held is named
pub held_named : (aside : Aside) (b : ℕ) → has b (held_blocks aside) ≡ true
    → is_named aside.windows b ≡ true
held_named aside b h = held_named_by aside.mask aside.windows b h

-- what is not named is not held
pub held_unnamed : (aside : Aside) (b : ℕ) → is_named aside.windows b ≡ false
    → has b (held_blocks aside) ≡ false
held_unnamed aside b none =
    false_from_ne_true (has b (held_blocks aside))
    (λ held. false≢true (sym none ∙ held_named aside b held))

-- what is decided stays decided ..
pub stays_decided : (old new : Aside) (b : ℕ) → Goes old new → IsDecided old b → IsDecided new b
stays_decided old new b goes was = elim (cases_Bool (is_named new.windows b)) [
  | inl named ↦ named ∙ sym (goes.holds b (sym was ∙ goes.closes b named))
  | inr none ↦ none ∙ sym (held_unnamed new b none)
]

-- .. and with the same result
pub stays_held : (old new : Aside) (b : ℕ) → Goes old new → IsDecided old b
    → has b (held_blocks new) ≡ has b (held_blocks old)
stays_held old new b goes was = elim (cases_Bool (has b (held_blocks old))) [
  | inl held ↦ goes.holds b held ∙ sym held
  | inr free ↦
      held_unnamed new b (false_from_ne_true (is_named new.windows b)
      (λ named. false≢true (sym free ∙ (sym was ∙ goes.closes b named))))
      ∙ sym free
]
