-- The rows of one slot are asked, one after the other, whether they are expired, and so are those of all slots.
use Rattle.std.proofs.Common.{◌≡◌, ◌≢◌, inl, inr, ℕ, ◌+◌, ◌%◌, ◌<◌, ◌≤◌, true, List, [], ◌∷◌, ◌++◌, length, filter, refl, sym, ap, ◌∙◌, subst, append_assoc, arith}
use Rattle.std.proofs.lemmas.Bool.{cases_eq, eq-eqb, false≢true}
use Rattle.std.specs.List.{Contains}
use Rattle.std.proofs.lemmas.List.{append-nil}
use Rattle.std.proofs.lemmas.List.Elements.{Contains-append_left, Contains-append_right, Contains-append_cases}
use Rattle.seg_words.specs.Members.{filter_all, Contains-first, Contains-cases, Contains-filter, Contains-kept}
use Rattle.php_graph.specs.Numbers.{hash_of}
use Rattle.apcu_model.specs.Cache.{Row}
use Rattle.apcu_model.specs.Expiry.{is_expired}
use Rattle.apcu_model.specs.SlotOrder.{slot_of, is_in_slot}
use Rattle.entry_slots.specs.Lists.{has_place, first_place, place_after}
use Rattle.entry_slots.specs.Entries.{Entries, chain_of, listed, IsListed}
use Rattle.entry_slots.specs.Facts.{IsSound}
use Rattle.entry_slots.specs.RowPlaces.{place_there}
use Rattle.ttl_expunge.specs.Lists.{rows_from}
use Rattle.ttl_expunge.specs.Dropping.{expired_in}
use Rattle.ttl_expunge.proofs.Rows.{next_in, from_in, from_none}
use Rattle.ttl_expunge.proofs.SlotDrops.{IsNext, next_from, chain_left, none_at_zero}

-- Some rows of the slot were asked, and all of these are expired. The one at `at` is the next.
pub record Asking (s : Entries) (t slot at : ℕ) : Type 0 where
  pub done : List Row
  pub todo : List Row
  pub split : chain_of s slot ≡ done ++ todo
  pub here : at ≡ first_place todo
  pub over : (row : Row) → Contains done row → is_expired s.conf t row ≡ true

pub asking_starts : (s : Entries) (t slot at : ℕ) → at ≡ first_place (chain_of s slot) → Asking s t slot at
asking_starts s t slot at here = record {
  done = [];
  todo = chain_of s slot;
  split = refl;
  here = here;
  over = λ row c. absurd (omega (arith, c.1));
}

pub asking_next : {s : Entries} {t slot at : ℕ} {words windows : List ℕ} (w : Asking s t slot at) → IsSound s words windows → at ≢ 0 → IsNext s slot at w.done w.todo
asking_next {s = s} {slot = slot} {at = at} w sound some = next_from s slot at w.done w.todo w.split w.here sound some

pub asking_on : {s : Entries} {t slot at next : ℕ} (w : Asking s t slot at) (n : IsNext s slot at w.done w.todo) → is_expired s.conf t n.row ≡ true → next ≡ place_after at (chain_of s slot) → Asking s t slot next
asking_on {s} {t} {slot} {at} {next} w n is then = record {
  done = w.done ++ n.row ∷ [];
  todo = n.more;
  split = w.split ∙ (ap (λ l. w.done ++ l) n.todo_is ∙ sym (append_assoc w.done (n.row ∷ []) n.more));
  here = then ∙ (ap (place_after at) n.chain ∙ next_in at w.done n.row n.more n.before n.place);
  over = λ row c. elim (Contains-append_cases w.done (n.row ∷ []) row c) [
    | inl old ↦ w.over row old
    | inr one ↦ elim (Contains-cases n.row [] row one) [
      | inl same ↦ subst (λ (r : Row). is_expired s.conf t r ≡ true) same is
      | inr none ↦ absurd (omega (arith, none.1))
    ]
  ];
}

pub asking_falls : {s : Entries} {t slot at next : ℕ} {words windows : List ℕ} (w : Asking s t slot at) (n : IsNext s slot at w.done w.todo) → next ≡ place_after at (chain_of s slot) → IsSound s words windows → chain_left s slot next < chain_left s slot at
asking_falls {s} {t} {slot} {at} {next} {words} {windows} w n then sound =
    let before : chain_left s slot at ≡ length n.more + 1 = ap (λ l. length (rows_from at l)) n.chain ∙ (ap length (from_in at w.done n.row n.more n.before n.place) ∙ omega arith) in
    omega (arith, before, left)
  where
    split : chain_of s slot ≡ (w.done ++ n.row ∷ []) ++ n.more
    split = n.chain ∙ sym (append_assoc w.done (n.row ∷ []) n.more)

    here : next ≡ first_place n.more
    here = then ∙ (ap (place_after at) n.chain ∙ next_in at w.done n.row n.more n.before n.place)

    left : chain_left s slot next ≤ length n.more
    left = elim (cases_eq next 0) [
      | inl end ↦
          let none : rows_from next (chain_of s slot) ≡ [] = ap (λ k. rows_from k (chain_of s slot)) end ∙ from_none 0 (chain_of s slot) (none_at_zero s words windows slot sound) in
          let empty : chain_left s slot next ≡ 0 = ap length none in
          omega (arith, empty)
      | inr some ↦
          let m = next_from s slot next (w.done ++ n.row ∷ []) n.more split here sound some in
          let now : chain_left s slot next ≡ length m.more + 1 = ap (λ l. length (rows_from next l)) m.chain ∙ (ap length (from_in next (w.done ++ n.row ∷ []) m.row m.more m.before m.place) ∙ omega arith) in
          let long : length n.more ≡ length m.more + 1 = ap length m.todo_is ∙ omega arith in
          omega (arith, now, long)
    ]

-- the row that is asked is listed
pub next_listed : {s : Entries} {slot at : ℕ} {kept todo : List Row} (n : IsNext s slot at kept todo) → IsListed s at n.row
next_listed {s = s} n = record { there = Contains-append_left s.rows s.removed n.row n.member; place = n.place }

pub asking_ends : {s : Entries} {t slot at : ℕ} {words windows : List ℕ} → Asking s t slot at → IsSound s words windows → at ≡ 0 → expired_in t slot s ≡ chain_of s slot
asking_ends {s} {t} {slot} {at} {words} {windows} w sound end = go w.todo refl
  where
    go : (todo : List Row) → w.todo ≡ todo → expired_in t slot s ≡ chain_of s slot
    go [] e =
        let all : chain_of s slot ≡ w.done = w.split ∙ (ap (λ l. w.done ++ l) e ∙ append-nil w.done) in
        filter_all (is_expired s.conf t) (chain_of s slot) (λ row c. w.over row (subst (λ l. Contains l row) all c))
    go (row ∷ more) e =
        let place : row.place ≡ 0 = sym (w.here ∙ ap first_place e) ∙ end in
        let chain : chain_of s slot ≡ w.done ++ row ∷ more = w.split ∙ ap (λ l. w.done ++ l) e in
        let there : Contains (chain_of s slot) row = subst (λ l. Contains l row) (sym chain) (Contains-append_right w.done (row ∷ more) row (Contains-first row more)) in
        absurd (false≢true (sym (none_at_zero s words windows slot sound) ∙ subst (λ n. has_place n (chain_of s slot) ≡ true) place (place_there (chain_of s slot) row there)))

-- the rows of the slots below n are expired
pub record AreOver (s : Entries) (t n : ℕ) : Type 0 where
  pub each : (row : Row) → Contains s.rows row → slot_of s.conf row.key < n → is_expired s.conf t row ≡ true

pub over_starts : (s : Entries) (t : ℕ) → AreOver s t 0
over_starts s t = record { each = λ row c low. absurd (omega (arith, low)) }

pub over_on : {s : Entries} {t n : ℕ} → AreOver s t n → expired_in t n s ≡ chain_of s n → AreOver s t (n + 1)
over_on {s} {t} {n} w all = record {
  each = λ row c low. elim (cases_eq (slot_of s.conf row.key) n) [
    | inl here ↦
        let there : Contains (chain_of s n) row = Contains-kept (is_in_slot s.conf n) s.rows row c (eq-eqb (slot_of s.conf row.key) n here) in
        (Contains-filter (is_expired s.conf t) (chain_of s n) row (subst (λ l. Contains l row) (sym all) there)).1
    | inr other ↦ w.each row c (omega (arith, low, other))
  ];
}

slot_low : (n slots : ℕ) → 2 ≤ slots → n % slots < slots
slot_low n slots h = omega arith

pub over_ends : {s : Entries} {t n : ℕ} → AreOver s t n → s.conf.slots ≤ n → 2 ≤ s.conf.slots → filter (is_expired s.conf t) s.rows ≡ s.rows
over_ends {s} {t} {n} w end two =
    filter_all (is_expired s.conf t) s.rows (λ row c. w.each row c (omega (arith, end, slot_low (hash_of row.key) s.conf.slots two)))
