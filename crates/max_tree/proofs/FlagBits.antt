-- Flags as the bits of a number: one flag more, and the highest bit.
use Rattle.std.proofs.Common.{◌≡◌, ℕ, ◌+◌, ◌-◌, ◌^◌, ◌<◌, ◌≤◌, Bool, true, false, nat_le, List, get_or, inl, inr, add-one, subst, arith}
use Rattle.std.proofs.Math.Nat.{two-pow-succ}
use Rattle.std.proofs.Math.Pow.{pow_mono}
use Rattle.std.proofs.lemmas.Bool.{cases_order, cases_lt, leb-false}
use Rattle.std.proofs.lemmas.Nat.{pow_pos, leading_top}
use Rattle.std.specs.Int.Count.{count_leading_zeros}
use Rattle.max_tree.specs.Marks.{IsTopFlag, IsMarked}
use Rattle.max_tree.specs.declared.row.TheConstants.{PAGE}

pub power_next : (k : ℕ) → 2 ^ (k + 1) ≡ 2 ^ k + 2 ^ k
power_next k = rw add-one (two-pow-succ k)

-- a number has one highest bit
pub one_top : (m s t : ℕ) → 2 ^ s ≤ m → m < 2 ^ (s + 1) → 2 ^ t ≤ m → m < 2 ^ (t + 1) → s ≡ t
one_top m s t low high low' high' = elim (cases_order s t) [
  | inl is ↦ is
  | inr (inl less) ↦ absurd (omega (arith, pow_mono {i = s + 1} {j = t} (omega arith)))
  | inr (inr more) ↦ absurd (omega (arith, pow_mono {i = t + 1} {j = s} (omega arith)))
]

pub one_marked : (flag : ℕ → Bool) (k m bit : ℕ) → bit ≡ 2 ^ k → IsMarked flag k m → flag k ≡ true → IsMarked flag (k + 1) (m + bit)
one_marked flag k m bit is marked on =
    let below : m < 2 ^ k = marked.below in
    record {
      below = omega (arith, power_next k);
      none = λ e j inside. absurd (omega (arith, pow_pos k));
      top = λ t low high.
          let place : k ≡ t = one_top (m + bit) k t (omega arith) (omega (arith, power_next k)) low high in
          subst (λ (n : ℕ). IsTopFlag flag (k + 1) n) place (record {
            inside = omega arith;
            set_is = on;
            last = λ j past inside. absurd (omega arith);
          });
    }

pub none_more : (flag : ℕ → Bool) (k m : ℕ) → IsMarked flag k m → flag k ≡ false → IsMarked flag (k + 1) m
none_more flag k m marked off =
    let below : m < 2 ^ k = marked.below in
    let still : (j : ℕ) → j < k + 1 → (j < k → flag j ≡ false) → flag j ≡ false = λ j inside before. elim (cases_lt j k) [
      | inl less ↦ before less
      | inr past ↦ subst (λ (n : ℕ). flag n ≡ false) (omega arith) off
    ] in
    record {
      below = omega (arith, power_next k);
      none = λ e j inside. still j inside (marked.none e j);
      top = λ t low high.
          let was : IsTopFlag flag k t = marked.top t low high in
          record {
            inside = let inside = was.inside in omega arith;
            set_is = was.set_is;
            last = λ j past inside. still j inside (was.last j past);
          };
    }

-- the highest bit by the count of zeros before it
pub highest_low : (marks : ℕ) → 1 ≤ marks → marks < 2 ^ 32 → 2 ^ (31 - count_leading_zeros 32 marks) ≤ marks
highest_low marks some fits =
    let (j, is, low, high) = leading_top 32 marks (omega arith) fits in
    subst (λ (n : ℕ). 2 ^ n ≤ marks) (omega arith) low

pub highest_high : (marks : ℕ) → 1 ≤ marks → marks < 2 ^ 32 → marks < 2 ^ (31 - count_leading_zeros 32 marks + 1)
highest_high marks some fits =
    let (j, is, low, high) = leading_top 32 marks (omega arith) fits in
    subst (λ (n : ℕ). marks < 2 ^ n) (omega arith) high

-- of a page's numbers, from the last one on: those that are n or more
abbrev pub is_enough : List ℕ → ℕ → ℕ → ℕ → Bool
is_enough xs start n j = nat_le n (get_or xs (start + (PAGE - 1 - j)) 0)

pub less_where : (xs : List ℕ) (start n i : ℕ) → start ≤ i → i < start + PAGE → is_enough xs start n (PAGE - 1 - (i - start)) ≡ false → get_or xs i 0 < n
less_where xs start n i low high off =
    let place : start + (PAGE - 1 - (PAGE - 1 - (i - start))) ≡ i = omega arith in
    subst (λ (k : ℕ). get_or xs k 0 < n) place (leb-false n _ off)

pub none_enough : (xs : List ℕ) (start n marks : ℕ) → IsMarked (is_enough xs start n) PAGE marks → marks ≡ 0 → (i : ℕ) → start ≤ i → i < start + PAGE → get_or xs i 0 < n
none_enough xs start n marks marked none i low high =
    less_where xs start n i low high (marked.none none (PAGE - 1 - (i - start)) (omega arith))

pub enough_first : (xs : List ℕ) (start n t : ℕ) → IsTopFlag (is_enough xs start n) PAGE t → (i : ℕ) → start ≤ i → i < start + (PAGE - 1 - t) → get_or xs i 0 < n
enough_first xs start n t top i low high =
    less_where xs start n i low (omega arith) (top.last (PAGE - 1 - (i - start)) (omega arith) (omega arith))
