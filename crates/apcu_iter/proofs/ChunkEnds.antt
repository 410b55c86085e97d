-- The slot at which a step of an iterator ends.
use Rattle.std.proofs.Common.{◌≡◌, ◌∙◌, ℕ, suc, ◌+◌, ◌-◌, ◌<◌, ◌≤◌, Bool, true, false, [], ◌++◌}
use Rattle.std.proofs.Common.{length, refl, ap, arith, inl, inr, eq-or-lt_of_le}
use Rattle.std.specs.Prelude.{nat_le, find, unwrap_or, Option}
use Rattle.std.specs.List.{flat_map, range_with_len}
use Rattle.std.proofs.lemmas.Bool.Decides.{nat_tests}
use Rattle.apcu_model.specs.declared.searching.Pattern.{Pattern}
use Rattle.apcu_model.specs.Cache.{Row, Cache}
use Rattle.apcu_model.specs.Chunks.{items_between, slot_items, chunk_end}
use Rattle.apcu_iter.proofs.SlotRows.{flat_last}

-- the first number from one on that passes, or the last number of all
abbrev pub end_from : (ℕ → Bool) → ℕ → ℕ → ℕ
end_from test slots from = unwrap_or (find test (range_with_len from (slots - from))) slots

end_skips : (test : ℕ → Bool) (slots from : ℕ) → from < slots → test from ≡ false
    → end_from test slots from ≡ end_from test slots (from + 1)
end_skips test slots from low fails =
    let many : slots - from ≡ suc (slots - (from + 1)) = omega (arith, low) in
    ap (λ n. unwrap_or (find test (range_with_len from n)) slots) many ∙ rw fails refl

end_here : (test : ℕ → Bool) (slots from : ℕ) → from < slots → test from ≡ true
    → end_from test slots from ≡ from
end_here test slots from low passes =
    let many : slots - from ≡ suc (slots - (from + 1)) = omega (arith, low) in
    ap (λ n. unwrap_or (find test (range_with_len from n)) slots) many ∙ rw passes refl

end_over : (test : ℕ → Bool) (slots from : ℕ) → slots ≤ from → end_from test slots from ≡ slots
end_over test slots from over =
    let none : slots - from ≡ 0 = omega (arith, over) in
    ap (λ n. unwrap_or (find test (range_with_len from n)) slots) none

-- there are this many items from a slot on to before another
abbrev pub has_many : Option Pattern → ℕ → Cache → ℕ → ℕ → ℕ → Bool
has_many wanted t c from size upto = nat_le size (length (items_between wanted t c from upto))

-- A step that begins at the slot `from` continues at the slot `at`: there are not yet enough items.
pub record Stepping (wanted : Option Pattern) (t : ℕ) (c : Cache) (from size at : ℕ) : Type 0 where
  pub low : from ≤ at
  pub few : length (items_between wanted t c from at) < size
  pub end : chunk_end wanted t c from size ≡ end_from (has_many wanted t c from size) c.conf.slots at

pub none_between : (wanted : Option Pattern) (t : ℕ) (c : Cache) (from : ℕ)
    → items_between wanted t c from from ≡ []
none_between wanted t c from =
    let none : from - from ≡ 0 = omega arith in
    ap (λ n. flat_map (slot_items wanted t c) (range_with_len from n)) none

pub step_starts : (wanted : Option Pattern) (t : ℕ) (c : Cache) (from size : ℕ) → 1 ≤ size
    → Stepping wanted t c from size from
step_starts wanted t c from size some = record {
  low = omega arith;
  few = omega (arith, some, ap (length {A = Row}) (none_between wanted t c from));
  end = refl;
}

-- the items of one slot more
pub one_more : (wanted : Option Pattern) (t : ℕ) (c : Cache) (from at : ℕ) → from ≤ at
    → items_between wanted t c from (at + 1)
    ≡ items_between wanted t c from at ++ slot_items wanted t c at
one_more wanted t c from at low =
    let many : (at + 1) - from ≡ suc (at - from) = omega (arith, low) in
    ap (λ n. flat_map (slot_items wanted t c) (range_with_len from n)) many
    ∙ flat_last (slot_items wanted t c) (at - from) from at (omega (arith, low))

not_yet : (wanted : Option Pattern) (t : ℕ) (c : Cache) (from size at : ℕ)
    → Stepping wanted t c from size at → has_many wanted t c from size at ≡ false
not_yet wanted t c from size at s = grind (arith, nat_tests, s.few)

pub step_on : (wanted : Option Pattern) (t : ℕ) (c : Cache) (from size at : ℕ)
    → Stepping wanted t c from size at → at < c.conf.slots
    → length (items_between wanted t c from (at + 1)) < size
    → Stepping wanted t c from size (at + 1)
step_on wanted t c from size at s low few = record {
  low = omega (arith, s.low);
  few = few;
  end = s.end ∙ end_skips (has_many wanted t c from size) c.conf.slots at low (not_yet wanted t c from size at s);
}

-- with the items of this slot there are enough
pub step_ends : (wanted : Option Pattern) (t : ℕ) (c : Cache) (from size at : ℕ)
    → Stepping wanted t c from size at → at < c.conf.slots
    → size ≤ length (items_between wanted t c from (at + 1))
    → chunk_end wanted t c from size ≡ at + 1
step_ends wanted t c from size at s low many =
    let test = has_many wanted t c from size in
    let passes : test (at + 1) ≡ true = grind (arith, nat_tests, many) in
    s.end ∙ end_skips test c.conf.slots at low (not_yet wanted t c from size at s)
    ∙ elim (eq-or-lt_of_le low) [
      | inl last ↦ end_over test c.conf.slots (at + 1) (omega (arith, last)) ∙ omega (arith, last)
      | inr more ↦ end_here test c.conf.slots (at + 1) (omega (arith, more)) passes
    ]

-- all slots were passed
pub step_over : (wanted : Option Pattern) (t : ℕ) (c : Cache) (from size at : ℕ)
    → Stepping wanted t c from size at → c.conf.slots ≤ at
    → chunk_end wanted t c from size ≡ c.conf.slots
step_over wanted t c from size at s over =
    s.end ∙ end_over (has_many wanted t c from size) c.conf.slots at over
