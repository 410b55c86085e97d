-- The rows of one slot are walked, and some of them dropped.
use Rattle.std.proofs.Common.{◌≡◌, ◌≢◌, inl, inr, ℕ, ◌+◌, ◌<◌, ◌≤◌, Bool, true, false, cond, not, ◌==◌, ◌&&◌, List, [], ◌∷◌, ◌++◌, length, filter, refl, sym, ap, ◌∙◌, subst, append_assoc, arith}
use Rattle.std.specs.Prelude.{nat_lt}
use Rattle.std.proofs.lemmas.Bool.{or_left, or_from, le-ltb, cases_eq, false≢true, false_from_ne_true}
use Rattle.std.specs.List.{Contains, count_by, list_any}
use Rattle.std.proofs.lemmas.List.{append-nil}
use Rattle.std.proofs.lemmas.List.Elements.{Contains-append_right, filter-append}
use Rattle.seg_words.specs.Windows.{Aside}
use Rattle.apcu_model.specs.Cache.{Row}
use Rattle.apcu_model.specs.Change.{left_of}
use Rattle.apcu_model.specs.Facts.{left_all}
use Rattle.apcu_model.specs.SlotOrder.{is_in_slot}
use Rattle.apcu_model.specs.declared.conf.Conf.{Conf}
use Rattle.apcu_model.specs.Expiry.{is_hard_expired, is_soft_expired, is_expired}
use Rattle.entry_slots.specs.declared.head.TheConstants.{NEXT}
use Rattle.entry_slots.specs.Links.{link_after}
use Rattle.entry_slots.specs.Spots.{IsSpot}
use Rattle.entry_slots.specs.Lists.{is_at, has_place, only_at, without_place, first_place, place_after}
use Rattle.ttl_expunge.specs.Lists.{rows_from}
use Rattle.entry_slots.specs.Entries.{Entries, chain_of}
use Rattle.entry_slots.specs.Facts.{IsSound}
use Rattle.ttl_expunge.specs.ProbedRows.{AreRemoved, Drops}
use Rattle.std.proofs.lemmas.List.Folds.{list_any-append}
use Rattle.seg_words.specs.Members.{count-cons, filter_alike, Contains-first, Contains-filter, filter_then}
use Rattle.entry_slots.specs.RowPlaces.{place_from, place_there}
use Rattle.ttl_expunge.proofs.Rows.{without_middle, next_in, from_in, from_none, alone, left_one}
use Rattle.ttl_expunge.proofs.DroppedRows.{only_once, drops_on, drops_none}

pub count_kept : {X : Type 0} (p q : X → Bool) (xs : List X) → count_by p (filter q xs) ≤ count_by p xs
count_kept p q [] = omega arith
count_kept {X = X} p q (x ∷ xs) = go (q x) refl (count_kept p q xs)
  where
    go : (b : Bool) → q x ≡ b → count_by p (filter q xs) ≤ count_by p xs → count_by p (filter q (x ∷ xs)) ≤ count_by p (x ∷ xs)
    go true e h = subst (λ (l : List X). count_by p l ≤ count_by p (x ∷ xs)) (sym (ap (λ b. cond b (x ∷ filter q xs) (filter q xs)) e)) (omega (arith, h, count-cons p x (filter q xs), count-cons p x xs))
    go false e h = subst (λ (l : List X). count_by p l ≤ count_by p (x ∷ xs)) (sym (ap (λ b. cond b (x ∷ filter q xs) (filter q xs)) e)) (omega (arith, h, count-cons p x xs))

and_flip : (a b : Bool) → (a && b) ≡ (b && a)
and_flip true true = refl
and_flip true false = refl
and_flip false true = refl
and_flip false false = refl

pub filter_swap : {X : Type 0} (p q : X → Bool) (xs : List X) → filter q (filter p xs) ≡ filter p (filter q xs)
filter_swap p q xs = filter_then p q xs ∙ (filter_alike (λ x. p x && q x) (λ x. q x && p x) xs (λ x c. and_flip (p x) (q x)) ∙ sym (filter_then q p xs))

-- Some rows of the slot were walked, and the one at `at` is the next: the word `link` names it.
pub record Chaining (pass : Row → Bool) (t : ℕ) (first s : Entries) (start aside : Aside) (slot at link : ℕ) : Type 0 where
  pub done : List Row
  pub todo : List Row
  pub kept : List Row
  pub split : chain_of first slot ≡ done ++ todo
  pub chain : chain_of s slot ≡ kept ++ todo
  pub here : at ≡ first_place todo
  pub link_is : link ≡ link_after slot kept
  pub drops : Drops first s start aside t (filter pass done)

pub chaining_starts : (pass : Row → Bool) (t : ℕ) (s : Entries) (start aside : Aside) (slot at : ℕ) → aside ≡ start → at ≡ first_place (chain_of s slot) → AreRemoved start s.removed → Chaining pass t s s start aside slot at slot
chaining_starts pass t s start aside slot at same here was = record {
  done = [];
  todo = chain_of s slot;
  kept = [];
  split = refl;
  chain = refl;
  here = here;
  link_is = refl;
  drops = drops_none s start aside t same was;
}

pub record IsNext (s : Entries) (slot at : ℕ) (kept todo : List Row) : Type 0 where
  pub row : Row
  pub more : List Row
  pub todo_is : todo ≡ row ∷ more
  pub member : Contains s.rows row
  pub place : row.place ≡ at
  pub chain : chain_of s slot ≡ kept ++ row ∷ more
  pub only : only_at at s.rows ≡ row ∷ []
  pub left : left_of (row ∷ []) s.rows ≡ without_place at s.rows
  pub before : has_place at kept ≡ false
  pub behind : has_place at more ≡ false
  pub there : has_place at (chain_of s slot) ≡ true
  pub listed : has_place at s.rows ≡ true

pub next_from : (s : Entries) (slot at : ℕ) (kept todo : List Row) {words windows : List ℕ} → chain_of s slot ≡ kept ++ todo → at ≡ first_place todo → IsSound s words windows → at ≢ 0 → IsNext s slot at kept todo
next_from s slot at kept [] chain here sound some = absurd (some here)
next_from s slot at kept (row ∷ more) chain here sound some =
    let there : Contains (chain_of s slot) row = subst (λ l. Contains l row) (sym chain) (Contains-append_right kept (row ∷ more) row (Contains-first row more)) in
    let listed = (Contains-filter (is_in_slot s.conf slot) s.rows row there).0 in
    let few : count_by (is_at at) s.rows ≤ 1 = omega (arith, sound.once at) in
    let fewer : count_by (is_at at) (chain_of s slot) ≤ 1 = omega (arith, few, count_kept (is_at at) (is_in_slot s.conf slot) s.rows) in
    let a = alone at kept row more (sym here) (subst (λ l. count_by (is_at at) l ≤ 1) chain fewer) in
    record {
      row = row;
      more = more;
      todo_is = refl;
      member = listed;
      place = sym here;
      chain = chain;
      only = only_once at s.rows row listed (sym here) few;
      left = left_one at s.rows row sound.apart listed (sym here) few;
      before = a.before;
      behind = a.behind;
      there = subst (λ n. has_place n (chain_of s slot) ≡ true) (sym here) (place_there (chain_of s slot) row there);
      listed = subst (λ n. has_place n s.rows ≡ true) (sym here) (place_there s.rows row listed);
    }

pub next_is : {pass : Row → Bool} {t : ℕ} {first s : Entries} {start aside : Aside} {slot at link : ℕ} {words windows : List ℕ} (w : Chaining pass t first s start aside slot at link) → IsSound s words windows → at ≢ 0 → IsNext s slot at w.kept w.todo
next_is {s = s} {slot = slot} {at = at} w sound some = next_from s slot at w.kept w.todo w.chain w.here sound some

-- the slot's chain after the row was asked
pub chain_on : (pass : Row → Bool) {t : ℕ} {s s' : Entries} {aside aside' : Aside} {slot at : ℕ} {kept todo : List Row} (n : IsNext s slot at kept todo)
    → Drops s s' aside aside' t (filter pass (only_at at s.rows)) → (k : List Row) × (chain_of s' slot ≡ k ++ n.more) × (k ≡ cond (pass n.row) kept (kept ++ n.row ∷ []))
chain_on pass {t} {s} {s'} {aside} {aside'} {slot} {at} {kept} {todo} n drops = go (pass n.row) refl
  where
    left : (b : Bool) → pass n.row ≡ b → chain_of s' slot ≡ filter (is_in_slot s.conf slot) (left_of (cond b (n.row ∷ []) []) s.rows)
    left b e = ap (λ (x : Entries). chain_of x slot) drops.dropped ∙ ap (λ l. filter (is_in_slot s.conf slot) (left_of l s.rows)) (ap (filter pass) n.only ∙ ap (λ b. cond b (n.row ∷ []) []) e)

    go : (b : Bool) → pass n.row ≡ b → (k : List Row) × (chain_of s' slot ≡ k ++ n.more) × (k ≡ cond (pass n.row) kept (kept ++ n.row ∷ []))
    go true e = (
      kept,
      left true e ∙ (ap (filter (is_in_slot s.conf slot)) n.left
          ∙ (filter_swap (λ (r : Row). not (is_at at r)) (is_in_slot s.conf slot) s.rows
          ∙ (ap (without_place at) n.chain ∙ without_middle at kept n.row n.more n.before n.place n.behind))),
      ap (λ b. cond b kept (kept ++ n.row ∷ [])) (sym e),
    )
    go false e = (
      kept ++ n.row ∷ [],
      left false e ∙ (ap (filter (is_in_slot s.conf slot)) (left_all s.rows) ∙ (n.chain ∙ sym (append_assoc kept (n.row ∷ []) n.more))),
      ap (λ b. cond b kept (kept ++ n.row ∷ [])) (sym e),
    )

link_push : (first : ℕ) (front : List Row) (row : Row) → link_after first (front ++ row ∷ []) ≡ row.place + NEXT
link_push first [] row = refl
link_push first (x ∷ front) row = link_push (x.place + NEXT) front row

-- the word that names what follows the row, whether it went or stayed
link_on : (b : Bool) (slot at link link' : ℕ) (kept k : List Row) (row : Row) → link' ≡ cond b link (at + NEXT) → link ≡ link_after slot kept → row.place ≡ at → k ≡ cond b kept (kept ++ row ∷ []) → link' ≡ link_after slot k
link_on true slot at link link' kept k row e was place is = e ∙ (was ∙ ap (link_after slot) (sym is))
link_on false slot at link link' kept k row e was place is = e ∙ (ap (λ n. n + NEXT) (sym place) ∙ (sym (link_push slot kept row) ∙ ap (link_after slot) (sym is)))

-- at moment 0 no row is expired
and_off : (a b : Bool) → b ≡ false → (a && b) ≡ false
and_off true b h = h
and_off false b h = refl

none_at_start : (conf : Conf) (rows : List Row) → list_any (is_expired conf 0) rows ≡ false
none_at_start conf [] = refl
none_at_start conf (row ∷ rows) =
    or_from (is_expired conf 0 row) (list_any (is_expired conf 0) rows)
    (or_from (is_hard_expired 0 row) (is_soft_expired conf 0 row)
    (and_off (nat_lt 0 row.ttl) (nat_lt (row.ctime + row.ttl) 0) (le-ltb (row.ctime + row.ttl) 0 (omega arith)))
    (and_off (row.ttl == 0 && nat_lt 0 conf.ttl) (nat_lt (row.atime + conf.ttl) 0) (le-ltb (row.atime + conf.ttl) 0 (omega arith))))
    (none_at_start conf rows)

-- the walk stands at a spot of the chain
pub chaining_spot : {pass : Row → Bool} {t : ℕ} {first s : Entries} {start aside : Aside} {slot at link : ℕ} → Chaining pass t first s start aside slot at link → slot < s.conf.slots
    → IsSpot s 0 (record { slot = slot; link = link; at = at; stale = false })
chaining_spot {s = s} w low = record {
  front = w.kept;
  back = w.todo;
  split = w.chain;
  low = low;
  link_is = w.link_is;
  at_is = w.here;
  stale_is = sym (none_at_start s.conf w.kept);
}

pub chaining_on : {pass : Row → Bool} {t : ℕ} {first s s' : Entries} {start aside aside' : Aside} {slot at link next link' : ℕ} (w : Chaining pass t first s start aside slot at link) → (n : IsNext s slot at w.kept w.todo)
    → Drops s s' aside aside' t (filter pass (only_at at s.rows)) → next ≡ place_after at (chain_of s slot) → link' ≡ cond (pass n.row) link (at + NEXT) → Chaining pass t first s' start aside' slot next link'
chaining_on {pass} {t} {first} {s} {s'} {start} {aside} {aside'} {slot} {at} {link} {next} {link'} w n drops then names =
    let k = chain_on pass n drops in
    record {
      done = w.done ++ n.row ∷ [];
      todo = n.more;
      kept = k.0;
      split = split;
      chain = k.1;
      here = here;
      link_is = link_on (pass n.row) slot at link link' w.kept k.0 n.row names w.link_is n.place k.2;
      drops = gone;
    }
  where
    one : filter pass (only_at at s.rows) ≡ filter pass (n.row ∷ [])
    one = ap (filter pass) n.only

    gone : Drops first s' start aside' t (filter pass (w.done ++ n.row ∷ []))
    gone = subst (λ l. Drops first s' start aside' t l) (ap (λ l. filter pass w.done ++ l) one ∙ sym (filter-append pass w.done (n.row ∷ []))) (drops_on w.drops drops)

    split : chain_of first slot ≡ (w.done ++ n.row ∷ []) ++ n.more
    split = w.split ∙ (ap (λ l. w.done ++ l) n.todo_is ∙ sym (append_assoc w.done (n.row ∷ []) n.more))

    here : next ≡ first_place n.more
    here = then ∙ (ap (place_after at) n.chain ∙ next_in at w.kept n.row n.more n.before n.place)

-- what is left to do
abbrev pub chain_left : Entries → ℕ → ℕ → ℕ
chain_left s slot at = length (rows_from at (chain_of s slot))

pub none_at_zero : (s : Entries) (words windows : List ℕ) (slot : ℕ) → IsSound s words windows → has_place 0 (chain_of s slot) ≡ false
none_at_zero s words windows slot sound = false_from_ne_true (has_place 0 (chain_of s slot)) (λ h.
    let r = place_from 0 (chain_of s slot) h in
    let listed = (Contains-filter (is_in_slot s.conf slot) s.rows r.0 r.1).0 in
    let is : has_place 0 s.rows ≡ true = subst (λ n. has_place n s.rows ≡ true) r.2 (place_there s.rows r.0 listed) in
    false≢true (sym sound.placed ∙ (list_any-append (is_at 0) s.rows s.removed ∙ or_left (has_place 0 s.rows) (has_place 0 s.removed) is)))

pub chaining_falls : {pass : Row → Bool} {t : ℕ} {first s s' : Entries} {start aside aside' : Aside} {slot at link next link' : ℕ} {words windows : List ℕ} (w : Chaining pass t first s start aside slot at link) (n : IsNext s slot at w.kept w.todo)
    → Drops s s' aside aside' t (filter pass (only_at at s.rows)) → next ≡ place_after at (chain_of s slot) → link' ≡ cond (pass n.row) link (at + NEXT) → IsSound s' words windows → chain_left s' slot next < chain_left s slot at
unfolding chaining_on
chaining_falls {pass} {t} {first} {s} {s'} {start} {aside} {aside'} {slot} {at} {link} {next} {link'} {words} {windows} w n drops then names sound' =
    let w' = chaining_on w n drops then names in
    let before : chain_left s slot at ≡ length n.more + 1 = ap (λ l. length (rows_from at l)) n.chain ∙ (ap length (from_in at w.kept n.row n.more n.before n.place) ∙ omega arith) in
    let same : length w'.todo ≡ length n.more = refl in
    omega (arith, before, todo_is w', same)
  where
    todo_is : (w' : Chaining pass t first s' start aside' slot next link') → chain_left s' slot next ≤ length w'.todo
    todo_is w' = elim (cases_eq next 0) [
      | inl end ↦
          let none : rows_from next (chain_of s' slot) ≡ [] = ap (λ k. rows_from k (chain_of s' slot)) end ∙ from_none 0 (chain_of s' slot) (none_at_zero s' words windows slot sound') in
          let empty : chain_left s' slot next ≡ 0 = ap length none in
          omega (arith, empty)
      | inr some ↦
          let m = next_is w' sound' some in
          let now : chain_left s' slot next ≡ length m.more + 1 = ap (λ l. length (rows_from next l)) m.chain ∙ (ap length (from_in next w'.kept m.row m.more m.before m.place) ∙ omega arith) in
          let long : length w'.todo ≡ length m.more + 1 = ap length m.todo_is ∙ omega arith in
          omega (arith, now, long)
    ]

pub chaining_ends : {pass : Row → Bool} {t : ℕ} {first s : Entries} {start aside : Aside} {slot at link : ℕ} {words windows : List ℕ} → Chaining pass t first s start aside slot at link → IsSound s words windows → at ≡ 0
    → Drops first s start aside t (filter pass (chain_of first slot))
chaining_ends {pass} {t} {first} {s} {start} {aside} {slot} {at} {link} {words} {windows} w sound end = go w.todo refl
  where
    go : (todo : List Row) → w.todo ≡ todo → Drops first s start aside t (filter pass (chain_of first slot))
    go [] e = subst (λ l. Drops first s start aside t (filter pass l)) (sym (w.split ∙ (ap (λ l. w.done ++ l) e ∙ append-nil w.done))) w.drops
    go (row ∷ more) e =
        let place : row.place ≡ 0 = sym (w.here ∙ ap first_place e) ∙ end in
        let chain : chain_of s slot ≡ w.kept ++ row ∷ more = w.chain ∙ ap (λ l. w.kept ++ l) e in
        let there : Contains (chain_of s slot) row = subst (λ l. Contains l row) (sym chain) (Contains-append_right w.kept (row ∷ more) row (Contains-first row more)) in
        absurd (false≢true (sym (none_at_zero s words windows slot sound) ∙ subst (λ n. has_place n (chain_of s slot) ≡ true) place (place_there (chain_of s slot) row there)))
