-- Walks along the entries of a list, by the place of each: facts that proofs of the crates above
-- cite.
use Rattle.std.proofs.Common.{◌≡◌, ◌≢◌, ◌∙◌, inl, inr, ℕ, zero, suc, ◌+◌, ◌≤◌, true, false, cond}
use Rattle.std.proofs.Common.{List, [], ◌∷◌, ◌++◌, length, take, drop, refl, sym, ap, subst, arith}
use Rattle.std.proofs.lemmas.Bool.{eq-eqb, false≢true, or_left, or_right, cases_Bool}
use Rattle.std.proofs.lemmas.Bool.{false_from_ne_true}
use Rattle.std.proofs.lemmas.List.Elements.{Contains-append_left, Contains-append_right}
use Rattle.std.proofs.lemmas.List.Sums.{length-filter, count_by-le-length}
use Rattle.std.proofs.Math.ListN.{drop_of_length-le}
use Rattle.std.specs.List.{Contains, count_by}
use Rattle.seg_words.specs.Members.{count-cons, counted_some, Contains-first, Contains-later}
use Rattle.seg_words.specs.Members.{Contains-filter, any_there, any_from}
use Rattle.seg_words.specs.Windows.{Aside}
use Rattle.apcu_model.specs.Cache.{Row}
use Rattle.apcu_model.specs.SlotOrder.{is_in_slot}
use Rattle.entry_slots.specs.declared.slots.EntrySlots.{EntrySlots}
use Rattle.entry_slots.specs.Lists.{is_at, has_place, first_place, place_after}
use Rattle.entry_slots.specs.Entries.{Entries, IsListed, chain_of, listed}
use Rattle.entry_slots.specs.Standing.{Stands}
use Rattle.entry_slots.specs.Facts.{IsSound, IsAtRow}

-- ---- what the laws promise of all entries that are represented

-- no two are at one place, and none is at 0
abbrev pub AllAreSound : Type 0
AllAreSound =
    (e : EntrySlots) (words : List ℕ) (aside : Aside) (s : Entries)
    → Stands e words aside s → IsSound s words aside.windows

-- a walk along a chain is at each of its rows
abbrev pub AllAreWalked : Type 0
AllAreWalked =
    (e : EntrySlots) (words : List ℕ) (aside : Aside) (s : Entries) (slot : ℕ)
    (front : List Row) (row : Row) (back : List Row) → Stands e words aside s
    → chain_of s slot ≡ front ++ row ∷ back → IsAtRow s slot front row back

-- ---- lists

-- the part of a list after this many rows begins with this row
pub record IsLeft (rows : List Row) (passed at : ℕ) : Type 0 where
  pub row : Row
  pub place : row.place ≡ at
  pub left : drop passed rows ≡ row ∷ drop (passed + 1) rows
  pub whole : rows ≡ take passed rows ++ row ∷ drop (passed + 1) rows
  pub there : Contains rows row

drop_none : {X : Type 0} (n : ℕ) → drop {A = X} n [] ≡ []
drop_none zero = refl
drop_none (suc n) = refl

pub left_here : (rows : List Row) (passed at : ℕ) → at ≡ first_place (drop passed rows) → at ≢ 0
    → IsLeft rows passed at
left_here [] passed at is some = absurd (some (is ∙ ap first_place (drop_none passed)))
left_here (r ∷ rs) zero at is some = record {
  row = r;
  place = sym is;
  left = refl;
  whole = refl;
  there = Contains-first r rs;
}
left_here (r ∷ rs) (suc p) at is some =
    let i = left_here rs p at is some in
    let e : suc (p + 1) ≡ suc p + 1 = omega arith in
    record {
      row = i.row;
      place = i.place;
      left = i.left ∙ ap (λ n. i.row ∷ drop n (r ∷ rs)) e;
      whole = ap (λ l. r ∷ l) i.whole ∙ ap (λ n. r ∷ (take p rs ++ i.row ∷ drop n (r ∷ rs))) e;
      there = Contains-later r rs i.row i.there;
    }

-- no row is at 0, so if 0 comes next none is left
pub left_none : (rows : List Row) (passed : ℕ) → has_place 0 rows ≡ false
    → 0 ≡ first_place (drop passed rows) → drop passed rows ≡ []
left_none [] passed none is = drop_none passed
left_none (r ∷ rs) zero none is =
    absurd (false≢true
    (sym none ∙ or_left (is_at 0 r) (has_place 0 rs) (eq-eqb r.place 0 (sym is))))
left_none (r ∷ rs) (suc p) none is =
    left_none rs p
    (false_from_ne_true (has_place 0 rs) (λ t.
    false≢true (sym none ∙ or_right (is_at 0 r) (has_place 0 rs) t))) is

-- the row after a row
pub next_is : (front back : List Row) (row : Row)
    → count_by (is_at row.place) (front ++ row ∷ back) ≤ 1
    → place_after row.place (front ++ row ∷ back) ≡ first_place back
next_is [] back row one = rw (eq-eqb row.place row.place refl) refl
next_is (f ∷ fs) back row one = elim (cases_Bool (is_at row.place f)) [
  | inl t ↦
      let here : cond {A = ℕ} (is_at row.place f) 1 0 ≡ 1 = ap (λ b. cond {A = ℕ} b 1 0) t in
      let member = Contains-append_right fs (row ∷ back) row (Contains-first row back) in
      absurd (omega (
        arith,
        one,
        here,
        count-cons (is_at row.place) f (fs ++ row ∷ back),
        counted_some (is_at row.place) (fs ++ row ∷ back) row member
            (eq-eqb row.place row.place refl),
      ))
  | inr n ↦
      rw n (next_is fs back row
      (omega (arith, one, count-cons (is_at row.place) f (fs ++ row ∷ back))))
]

-- rows among others have no place that those do not have
none_among : (at : ℕ) (rows few : List Row) → ((row : Row) → Contains few row → Contains rows row)
    → has_place at rows ≡ false → has_place at few ≡ false
none_among at rows few among none =
    false_from_ne_true (has_place at few) (λ t.
    let r = any_there (is_at at) few t in
    false≢true (sym none ∙ any_from (is_at at) rows r.0 (among r.0 r.1) r.2))

-- ---- chains

pub record IsHere (s : Entries) (rows : List Row) (passed at : ℕ) : Type 0 where
  pub left : IsLeft rows passed at
  pub member : IsListed s at left.row
  pub in_listed : has_place at (listed s) ≡ true
  pub in_rows : has_place at rows ≡ true
  pub next : place_after at rows ≡ first_place (drop (passed + 1) rows)

pub chain_here : AllAreWalked → (e : EntrySlots) (words : List ℕ) (aside : Aside) (s : Entries)
    (slot passed at : ℕ) → Stands e words aside s
    → at ≡ first_place (drop passed (chain_of s slot)) → at ≢ 0
    → IsHere s (chain_of s slot) passed at
chain_here walked e words aside s slot passed at stand is some =
    let chain = chain_of s slot in
    let left = left_here chain passed at is some in
    let front = take passed chain in
    let back = drop (passed + 1) chain in
    let walk = walked e words aside s slot front left.row back stand left.whole in
    let there = Contains-append_left s.rows s.removed left.row walk.there in
    let same = eq-eqb left.row.place at left.place in
    record {
      left = left;
      member = record { there = there; place = left.place };
      in_listed = any_from (is_at at) (s.rows ++ s.removed) left.row there same;
      in_rows = any_from (is_at at) chain left.row left.there same;
      next = sym (ap (λ n. place_after n chain) left.place) ∙ walk.next;
    }

pub chain_end : AllAreSound → (e : EntrySlots) (words : List ℕ) (aside : Aside) (s : Entries)
    (slot passed : ℕ) → Stands e words aside s
    → 0 ≡ first_place (drop passed (chain_of s slot)) → drop passed (chain_of s slot) ≡ []
chain_end sound e words aside s slot passed stand is =
    left_none (chain_of s slot) passed
    (none_among 0 (listed s) (chain_of s slot)
    (λ row c. Contains-append_left s.rows s.removed row
    (Contains-filter (is_in_slot s.conf slot) s.rows row c).0)
    (sound e words aside s stand).placed) is

-- a chain is no longer than all rows
pub chain_over : (s : Entries) (slot end passed : ℕ) → end ≡ length s.rows → end ≤ passed
    → drop passed (chain_of s slot) ≡ []
chain_over s slot end passed is over =
    let short : length (chain_of s slot) ≤ passed =
    omega (
      arith,
      is,
      over,
      length-filter (is_in_slot s.conf slot) s.rows,
      count_by-le-length (is_in_slot s.conf slot) s.rows,
    ) in
    drop_of_length-le (chain_of s slot) short

-- ---- removed rows

pub removed_here : AllAreSound → (e : EntrySlots) (words : List ℕ) (aside : Aside) (s : Entries)
    (passed at : ℕ) → Stands e words aside s
    → at ≡ first_place (drop passed s.removed) → at ≢ 0 → IsHere s s.removed passed at
removed_here sound e words aside s passed at stand is some =
    let left = left_here s.removed passed at is some in
    let front = take passed s.removed in
    let back = drop (passed + 1) s.removed in
    let there = Contains-append_right s.rows s.removed left.row left.there in
    let same = eq-eqb left.row.place at left.place in
    let once = (sound e words aside s stand).once left.row.place in
    let one : count_by (is_at left.row.place) s.removed ≤ 1 = omega (arith, once) in
    let few = subst (λ l. count_by (is_at left.row.place) l ≤ 1) left.whole one in
    record {
      left = left;
      member = record { there = there; place = left.place };
      in_listed = any_from (is_at at) (s.rows ++ s.removed) left.row there same;
      in_rows = any_from (is_at at) s.removed left.row left.there same;
      next = sym (ap (λ n. place_after n s.removed) left.place)
          ∙ ap (place_after left.row.place) left.whole ∙ next_is front back left.row few;
    }

pub removed_end : AllAreSound → (e : EntrySlots) (words : List ℕ) (aside : Aside) (s : Entries)
    (passed : ℕ) → Stands e words aside s
    → 0 ≡ first_place (drop passed s.removed) → drop passed s.removed ≡ []
removed_end sound e words aside s passed stand is =
    left_none s.removed passed
    (none_among 0 (listed s) s.removed (λ row c. Contains-append_right s.rows s.removed row c)
    (sound e words aside s stand).placed) is
