-- Walks along the lists of rows, and rows that are written one after the other.
use Rattle.std.proofs.Common.{◌≡◌, ◌≢◌, ◌∙◌, ℕ, zero, suc, ◌+◌, ◌<◌, ◌≤◌, Bool, true, false, List, [], ◌∷◌, ◌++◌, length, take, drop, refl, sym, ap, subst, arith}
use Rattle.std.specs.Prelude.{if◌then◌else◌, nat_lt, ◌==◌}
use Rattle.std.proofs.lemmas.Bool.{false≢true}
use Rattle.std.proofs.lemmas.Bool.Decides.{nat_tests}
use Rattle.std.proofs.lemmas.List.{take_more_set}
use Rattle.std.proofs.Math.Seq.{drop-nil}
use Rattle.std.specs.List.{slice_set}
use Rattle.seg_words.specs.Windows.{Aside}
use Rattle.apcu_model.specs.Cache.{Row, Cache}
use Rattle.entry_slots.specs.declared.slots.EntrySlots.{EntrySlots}
use Rattle.entry_slots.specs.Lists.{first_place, FollowsIn}
use Rattle.entry_slots.specs.Entries.{Entries, entries_of, chain_of, FollowsInChain}
use Rattle.entry_slots.specs.Standing.{Stands}
use Rattle.entry_slots.specs.RowWalks.{AllAreSound, AllAreWalked, IsHere, chain_here, chain_end, removed_here, removed_end}
use Rattle.cache_c.specs.declared.rows.ToldRow.{ToldRow}
use Rattle.cache_c.specs.Told.{IsRowBy, AreRowsBy, rows_of}

-- the rows of a list, as entries have them
abbrev pub list_of : Entries → ℕ → List Row
list_of s slot = if nat_lt slot s.conf.slots then chain_of s slot else if slot == s.conf.slots then s.removed else []

pub lists_are : (s : Entries) (c : Cache) (slot : ℕ) → s ≡ entries_of c → list_of s slot ≡ rows_of c slot
lists_are s c slot whole = ap (λ (x : Entries). list_of x slot) whole

pub drop_more : {X : Type 0} (n m : ℕ) (xs : List X) → drop n (drop m xs) ≡ drop (m + n) xs
drop_more n zero xs = ap (λ k. drop k xs) (omega arith)
drop_more {X} n (suc m) [] = drop-nil {A = X} n ∙ sym (drop-nil {A = X} (suc m + n))
drop_more n (suc m) (x ∷ xs) =
    let one : suc (m + n) ≡ suc m + n = omega arith in
    drop_more n m xs ∙ ap (λ k. drop k (x ∷ xs)) one

-- ---- a walk stands at a row

module _ (walked : AllAreWalked) (sound : AllAreSound) (e : EntrySlots) (words : List ℕ) (aside : Aside) (s : Entries) (stand : Stands e words aside s) (slot passed at : ℕ) where
  pub list_here : at ≡ first_place (drop passed (list_of s slot)) → at ≢ 0 → IsHere s (list_of s slot) passed at
  list_here is some = go (nat_lt slot s.conf.slots) (slot == s.conf.slots) is
    where
      go : (b d : Bool) → at ≡ first_place (drop passed (if b then chain_of s slot else if d then s.removed else [])) → IsHere s (if b then chain_of s slot else if d then s.removed else []) passed at
      go true d is = chain_here walked e words aside s slot passed at stand is some
      go false true is = removed_here sound e words aside s passed at stand is some
      go false false is = absurd (some (is ∙ ap first_place (none passed)))
        where
          none : (n : ℕ) → drop {A = Row} n [] ≡ []
          none zero = refl
          none (suc n) = refl

  pub list_end : 0 ≡ first_place (drop passed (list_of s slot)) → drop passed (list_of s slot) ≡ []
  list_end is = go (nat_lt slot s.conf.slots) (slot == s.conf.slots) is
    where
      go : (b d : Bool) → 0 ≡ first_place (drop passed (if b then chain_of s slot else if d then s.removed else [])) → drop passed (if b then chain_of s slot else if d then s.removed else []) ≡ []
      go true d is = chain_end sound e words aside s slot passed stand is
      go false true is = removed_end sound e words aside s passed stand is
      go false false is = none passed
        where
          none : (n : ℕ) → drop {A = Row} n [] ≡ []
          none zero = refl
          none (suc n) = refl

  pub list_next : (next : ℕ) → FollowsInChain s at next → FollowsIn s.removed at next → IsHere s (list_of s slot) passed at → next ≡ first_place (drop (passed + 1) (list_of s slot))
  list_next next chain removed here = go (nat_lt slot s.conf.slots) refl (slot == s.conf.slots) here
    where
      go : (b : Bool) → nat_lt slot s.conf.slots ≡ b → (d : Bool) → IsHere s (if b then chain_of s slot else if d then s.removed else []) passed at
          → next ≡ first_place (drop (passed + 1) (if b then chain_of s slot else if d then s.removed else []))
      go true low d h = chain slot (grind (arith, nat_tests, low)) h.in_rows ∙ h.next
      go false low true h = removed h.in_rows ∙ h.next
      go false low false h = absurd (false≢true h.in_rows)

  -- the same of the rows as the cache has them
  pub row_here : (rows : List Row) → list_of s slot ≡ rows → at ≡ first_place (drop passed rows) → at ≢ 0 → IsHere s rows passed at
  row_here rows are = subst (λ (l : List Row). at ≡ first_place (drop passed l) → at ≢ 0 → IsHere s l passed at) are list_here

  pub row_end : (rows : List Row) → list_of s slot ≡ rows → 0 ≡ first_place (drop passed rows) → drop passed rows ≡ []
  row_end rows are = subst (λ (l : List Row). 0 ≡ first_place (drop passed l) → drop passed l ≡ []) are list_end

  pub row_next : (rows : List Row) → list_of s slot ≡ rows → (next : ℕ) → FollowsInChain s at next → FollowsIn s.removed at next → IsHere s rows passed at → next ≡ first_place (drop (passed + 1) rows)
  row_next rows are next chain removed = subst (λ (l : List Row). IsHere s l passed at → next ≡ first_place (drop (passed + 1) l)) are (list_next next chain removed)

-- past the end none is left
pub none_past : (rows : List Row) (n m : ℕ) → drop n rows ≡ [] → n ≤ m → drop m rows ≡ []
none_past [] n m e low = none m
  where
    none : (k : ℕ) → drop {A = Row} k [] ≡ []
    none zero = refl
    none (suc k) = refl
none_past (r ∷ rows) zero m e low = absurd (cc e)
none_past (r ∷ rows) (suc n) zero e low = absurd (omega (arith, low))
none_past (r ∷ rows) (suc n) (suc m) e low = none_past rows n m e (omega (arith, low))

-- ---- rows that are written

rows_more : (words : List ℕ) (slot : ℕ) (rows : List Row) (told : List ToldRow) (row : Row) (t : ToldRow) → AreRowsBy words slot rows told → IsRowBy words slot row t
    → AreRowsBy words slot (rows ++ row ∷ []) (told ++ t ∷ [])
rows_more words slot [] [] row t are is = (is, tt)
rows_more words slot [] (x ∷ told) row t are is = absurd are
rows_more words slot (r ∷ rows) [] row t are is = absurd are
rows_more words slot (r ∷ rows) (x ∷ told) row t are is = (are.0, rows_more words slot rows told row t are.1 is)

-- what is left begins with the next row
take_next : (rows : List Row) (i : ℕ) (row : Row) (rest : List Row) → drop i rows ≡ row ∷ rest → take (i + 1) rows ≡ take i rows ++ row ∷ []
take_next [] i row rest e = absurd (cc (sym (none i) ∙ e))
  where
    none : (n : ℕ) → drop {A = Row} n [] ≡ []
    none zero = refl
    none (suc n) = refl
take_next (r ∷ rows) zero row rest e = let same : r ≡ row = cc e in ap (λ x. x ∷ []) same
take_next (r ∷ rows) (suc i) row rest e =
    let one : suc i + 1 ≡ suc (i + 1) = omega arith in
    ap (λ k. take k (r ∷ rows)) one ∙ ap (λ l. r ∷ l) (take_next rows i row rest e)

pub told_more : (words : List ℕ) (slot : ℕ) (rows : List Row) (out : List ToldRow) (i : ℕ) (row : Row) (rest : List Row) (t : ToldRow) → drop i rows ≡ row ∷ rest → i < length out
    → AreRowsBy words slot (take i rows) (take i out) → IsRowBy words slot row t → AreRowsBy words slot (take (i + 1) rows) (take (i + 1) (slice_set out i t))
told_more words slot rows out i row rest t left low are is =
    subst (λ l. AreRowsBy words slot (take (i + 1) rows) l) (sym (take_more_set out i t low))
    (subst (λ l. AreRowsBy words slot l (take i out ++ t ∷ [])) (sym (take_next rows i row rest left)) (rows_more words slot (take i rows) (take i out) row t are is))

pub left_low : (rows : List Row) (i : ℕ) (row : Row) (rest : List Row) → drop i rows ≡ row ∷ rest → i + 1 ≤ length rows
left_low [] i row rest e = absurd (cc (sym (none i) ∙ e))
  where
    none : (n : ℕ) → drop {A = Row} n [] ≡ []
    none zero = refl
    none (suc n) = refl
left_low (r ∷ rows) zero row rest e = omega arith
left_low (r ∷ rows) (suc i) row rest e = omega (arith, left_low rows i row rest e)

pub none_left : (rows : List Row) (i : ℕ) → drop i rows ≡ [] → length rows ≤ i
none_left [] i e = omega arith
none_left (r ∷ rows) zero e = absurd (cc e)
none_left (r ∷ rows) (suc i) e = omega (arith, none_left rows i e)
