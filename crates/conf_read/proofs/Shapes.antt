-- The shapes that are good.
use Rattle.std.proofs.Common.{◌≡◌, ℕ, ◌+◌, ◌*◌, ◌/◌, ◌%◌, ◌≤◌, true, ◌==◌, nat_le, ap, sym, subst, ◌∙◌, arith}
use Rattle.std.proofs.Math.Nat as nat
use Rattle.std.proofs.lemmas.Bool.{eqb-true, leb-true}
use Rattle.apcu_model.specs.Conf.{IsGood, piece_of}
use Rattle.conf_read.specs.Options.{cache_with, is_in_order}
use Rattle.conf_read.proofs.Digits.{both}

-- segments of an even number of words are even together, in each of twice their number
even : (words count : ℕ) → words % 2 ≡ 0 → (count * words) % (2 * count) ≡ 0
even words count is_even =
    let whole : words ≡ words / 2 * 2 = let e = nat.div-add-mod' words 2 in omega arith in
    let parts : count * words ≡ words / 2 * (2 * count) =
    ap (λ n. count * n) whole ∙ nat.mul_comm count (words / 2 * 2) ∙ nat.mul_assoc (words / 2) 2 count in
    ap (λ n. n % (2 * count)) parts ∙ nat.mul-mod_left (words / 2) (2 * count)

-- a shape whose numbers are in their bounds and in order is good
pub good_by : (words count chains seconds : ℕ) → words % 2 ≡ 0 → 32 ≤ words → 1 ≤ count → count ≤ 64
    → 2 ≤ chains → chains ≤ 1048576 → is_in_order words count chains ≡ true → IsGood (cache_with words count chains seconds)
unfolding piece_of
good_by words count chains seconds is_even least some few chains_least chains_most order =
    let p = both (chains % 2 == 0) _ order in
    let q = both (nat_le (chains + 16) words) _ p.1 in
    let one : 1 * words ≤ count * words = nat.mul-le-mul_right words some in
    record {
      segments_least = some;
      segments_most = few;
      words_even = even words count is_even;
      words_least = omega (arith, one);
      words_most = leb-true _ _ q.1;
      slots_even = eqb-true _ _ p.0;
      slots_least = chains_least;
      slots_most = chains_most;
      room = subst (λ (n : ℕ). chains + 16 ≤ n) (sym (nat.mul-div_cancel_left words some)) (leb-true _ _ q.0);
    }
