-- Whole lists in a slice, each behind those before it.
use Rattle.std.proofs.Common.{◌≡◌, ◌∙◌, inl, inr, ℕ, zero, suc, ◌+◌, ◌-◌, ◌<◌, ◌≤◌, min, List, [], ◌++◌, length, take, drop, refl, sym, ap, subst, arith}
use Rattle.std.proofs.lemmas.Bool.{cases_lt}
use Rattle.std.proofs.lemmas.List.{drop-take, drop_at, drop_all, append-nil, length-drop, length-take-le}
use Rattle.std.proofs.lemmas.Slice.{take-put_mid_below}
use borrow.Rule.Slice.PartMut.{put_mid, mid_of, post_of, same_len_mid}
use Rattle.apcu_model.specs.Cache.{Row, Cache}
use Rattle.entry_slots.specs.Lists.{first_place}
use Rattle.cache_c.specs.declared.rows.ToldRow.{ToldRow}
use Rattle.cache_c.specs.Told.{AreRowsBy, IsWholeList, rows_of, rows_from}
use Rattle.cache_c.proofs.RowLists.{left_low}

-- ---- how many rows lists have

rows_grow : (c : Cache) (from i d : ℕ) → rows_from c from i ≤ rows_from c from (i + d)
rows_grow c from i zero = let e : i + 0 ≡ i = omega arith in subst (λ (n : ℕ). rows_from c from i ≤ rows_from c from n) (sym e) (omega arith)
rows_grow c from i (suc d) =
    let e : i + suc d ≡ suc (i + d) = omega arith in
    let more : rows_from c from (suc (i + d)) ≡ rows_from c from (i + d) + length (rows_of c (from + (i + d))) = refl in
    let before = rows_grow c from i d in
    subst (λ (n : ℕ). rows_from c from i ≤ rows_from c from n) (sym e) (omega (arith, more, before))

-- a list ends no later than those up to a slot behind it
rows_within : (c : Cache) (from slot i : ℕ) → from + i < slot → rows_from c from i + length (rows_of c (from + i)) ≤ rows_from c from (slot - from)
rows_within c from slot i low =
    let e : suc i + (slot - from - suc i) ≡ slot - from = omega (arith, low) in
    subst (λ (n : ℕ). rows_from c from (suc i) ≤ rows_from c from n) e (rows_grow c from (suc i) (slot - from - suc i))

pub rows_more : (c : Cache) (from slot : ℕ) → from ≤ slot → rows_from c from (slot + 1 - from) ≡ rows_from c from (slot - from) + length (rows_of c slot)
rows_more c from slot low =
    let one : slot + 1 - from ≡ suc (slot - from) = omega (arith, low) in
    let same : from + (slot - from) ≡ slot = omega (arith, low) in
    ap (λ (n : ℕ). rows_from c from n) one ∙ ap (λ (s : ℕ). rows_from c from (slot - from) + length (rows_of c s)) same

-- more rows are there than were passed
pub some_left : (rows : List Row) (n : ℕ) → (first_place (drop n rows) ≡ 0 → ⊥) → n < length rows
some_left rows n some = elim (cases_lt n (length rows)) [
  | inl low ↦ low
  | inr high ↦ absurd (some (ap first_place (drop_all n rows high)))
]

-- ---- a list is written behind others

module _ (words : List ℕ) (c : Cache) (n k : ℕ) (out ys : List ToldRow) (inside : n ≤ length out) (len : length ys ≡ length (mid_of n k out)) where
  part_kept : (s m : ℕ) → s + m ≤ n → take m (drop s (put_mid n k out ys)) ≡ take m (drop s out)
  part_kept s m low =
      sym (drop-take s m (put_mid n k out ys))
      ∙ ap (drop s) (take-put_mid_below n k out ys (s + m) low inside)
      ∙ drop-take s m out

  pub whole_kept : (list s m : ℕ) → s + m ≤ n → IsWholeList words c list (drop s out) m → IsWholeList words c list (drop s (put_mid n k out ys)) m
  whole_kept list s m low h =
      let long : length (drop s (put_mid n k out ys)) ≡ length (drop s out) = length-drop s (put_mid n k out ys) ∙ ap (λ (x : ℕ). x - s) (same_len_mid n k out ys len) ∙ sym (length-drop s out) in
      record {
        all = h.all;
        rows = record {
          count = h.rows.count ∙ ap (λ (x : ℕ). min (length (rows_of c list)) x) (sym long);
          rows = subst (λ (l : List ToldRow). AreRowsBy words list (take m (rows_of c list)) l) (sym (part_kept s m low)) h.rows.rows;
          others = refl;
        };
      }

  written_there : length out ≤ n + k → drop n (put_mid n k out ys) ≡ ys
  written_there wide =
      drop_at (take n out) (ys ++ post_of n k out) n (length-take-le n out inside)
      ∙ ap (λ (l : List ToldRow). ys ++ l) (drop_all k (drop n out) (omega (arith, length-drop n out, wide)))
      ∙ append-nil ys

  -- of each list before the slot all rows are there, and now of the slot too
  pub lists_more : (from slot : ℕ) → from ≤ slot → n ≡ rows_from c from (slot - from) → length out ≤ n + k
      → ((i : ℕ) → from + i < slot → IsWholeList words c (from + i) (drop (rows_from c from i) out) (length (rows_of c (from + i))))
      → (m : ℕ) → IsWholeList words c slot ys m
      → (i : ℕ) → from + i < slot + 1 → IsWholeList words c (from + i) (drop (rows_from c from i) (put_mid n k out ys)) (length (rows_of c (from + i)))
  lists_more from slot low count wide before m now i in_them = elim (cases_lt (from + i) slot) [
    | inl less ↦ whole_kept (from + i) (rows_from c from i) (length (rows_of c (from + i))) (omega (arith, count, rows_within c from slot i less)) (before i less)
    | inr high ↦
        let is : from + i ≡ slot = omega (arith, in_them, high) in
        let at : slot - from ≡ i = omega (arith, is) in
        let place : n ≡ rows_from c from i = count ∙ ap (λ (x : ℕ). rows_from c from x) at in
        let all = subst (λ (x : ℕ). IsWholeList words c slot ys x) now.all now in
        let there = subst (λ (l : List ToldRow). IsWholeList words c slot l (length (rows_of c slot))) (sym (written_there wide)) all in
        subst (λ (s : ℕ). IsWholeList words c s (drop (rows_from c from i) (put_mid n k out ys)) (length (rows_of c s))) (sym is) (subst (λ (x : ℕ). IsWholeList words c slot (drop x (put_mid n k out ys)) (length (rows_of c slot))) place there)
  ]

  pub lists_kept : (from slot : ℕ) → n ≡ rows_from c from (slot - from)
      → ((i : ℕ) → from + i < slot → IsWholeList words c (from + i) (drop (rows_from c from i) out) (length (rows_of c (from + i))))
      → (i : ℕ) → from + i < slot → IsWholeList words c (from + i) (drop (rows_from c from i) (put_mid n k out ys)) (length (rows_of c (from + i)))
  lists_kept from slot count before i less = whole_kept (from + i) (rows_from c from i) (length (rows_of c (from + i))) (omega (arith, count, rows_within c from slot i less)) (before i less)
