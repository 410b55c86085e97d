-- The rows of one slot are probed, and those that are held are moved to the removed ones.
use Rattle.std.proofs.Common.{◌≡◌, ◌≢◌, ◌⊎◌, inl, inr, ℕ, ◌+◌, ◌<◌, ◌≤◌, Bool, true, false, cond, not, List, [], ◌∷◌, ◌++◌, length, filter, refl, sym, ap, ◌∙◌, subst, append_assoc, add-one, arith}
use Rattle.std.proofs.lemmas.Bool.{cases_eq, false≢true, false_from_ne_true, not-true, or_right}
use Rattle.std.specs.List.{Contains}
use Rattle.std.proofs.lemmas.List.{append-nil}
use Rattle.std.proofs.lemmas.List.Elements.{Contains-append_right, filter-append}
use Rattle.seg_words.specs.Probing.{Goes, IsDecided, Met, goes_nowhere, goes_on, held_unnamed}
use Rattle.seg_words.specs.Windows.{Aside, has, is_named, held_blocks}
use Rattle.apcu_model.specs.Cache.{Row}
use Rattle.apcu_model.specs.Change.{is_among, is_held, leaving, left_of}
use Rattle.entry_slots.specs.Lists.{has_place, only_at, first_place, place_after, is_at}
use Rattle.ttl_expunge.specs.Lists.{rows_from}
use Rattle.entry_slots.specs.Entries.{Entries, chain_of}
use Rattle.entry_slots.specs.Facts.{IsSound}
use Rattle.std.specs.List.{flat_map, range_with_len}
use Rattle.entry_slots.specs.Entries.{without_rows}
use Rattle.ttl_expunge.specs.ProbedRows.{AreDecided, AreRemoved, Drops, Moves}
use Rattle.ttl_expunge.specs.DecidedRows.{same_held, all_stay}
use Rattle.apcu_model.specs.Facts.{among_there, held_is, leaving_from, leaving_there, left_all, dated}
use Rattle.entry_slots.specs.RowPlaces.{place_from, place_there}
use Rattle.seg_words.specs.Members.{filter_all, filter_none, Contains-first, Contains-cases, Contains-filter, Contains-kept}
use Rattle.std.proofs.lemmas.List.Folds.{list_any-append}
use Rattle.ttl_expunge.proofs.SlotDrops.{IsNext, next_from, chain_on, chain_left, none_at_zero}
use Rattle.ttl_expunge.proofs.SlotOrder.{flat_last, chain_beside}
use Rattle.ttl_expunge.specs.Dropping.{dropped_rows}
use Rattle.ttl_expunge.proofs.Rows.{next_in, from_in, from_none}
use Rattle.ttl_expunge.proofs.DroppedRows.{IsOnly, drops_on, drops_one, decided_both, made}

-- nothing is dropped, though probed
pub drops_nothing : {s : Entries} {before after : Aside} {t : ℕ} → Goes before after → AreRemoved after s.removed → Drops s s before after t []
drops_nothing {s} goes refused = record {
  dropped = made s s.rows (left_of [] s.rows) s.removed (s.removed ++ []) s.unlinked s.unlinked (sym (left_all s.rows)) (sym (append-nil s.removed)) refl;
  goes = goes;
  decided = record { each = λ row c. absurd (omega (arith, c.1)) };
  refused = refused;
}

pub moves_none : (s : Entries) (before after : Aside) (t : ℕ) → after ≡ before → AreRemoved before s.removed → Moves s s before after t []
moves_none s before after t same refused = record {
  drops = drops_nothing (goes_nowhere before after same) (subst (λ (a : Aside). AreRemoved a s.removed) (sym same) refused);
  decided = record { each = λ row c. absurd (omega (arith, c.1)) };
}

pub moves_on : {old mid new : Entries} {before between after : Aside} {t : ℕ} {seen more : List Row} → Moves old mid before between t seen → Moves mid new between after t more → Moves old new before after t (seen ++ more)
moves_on {old} {mid} {new} {before} {between} {after} {t} {seen} {more} first then = record {
  drops = subst (λ l. Drops old new before after t l)
      (ap (λ l. l ++ filter (is_held (held_blocks after)) more) (sym (same_held between after seen then.drops.goes first.decided)) ∙ sym (filter-append (is_held (held_blocks after)) seen more))
      (drops_on first.drops then.drops);
  decided = decided_both after seen more (all_stay between after seen then.drops.goes first.decided) then.decided;
}

only_decided : {s : Entries} {at : ℕ} (after : Aside) (o : IsOnly s at) → IsDecided after at → AreDecided after (only_at at s.rows)
only_decided {s} {at} after o d = record {
  each = λ row c. elim (Contains-cases o.row [] row (subst (λ l. Contains l row) o.only c)) [
    | inl same ↦ subst (λ n. IsDecided after n) (sym o.place ∙ ap (λ (r : Row). r.place) same) d
    | inr none ↦ absurd (omega (arith, none.1))
  ];
}

held_one : {s : Entries} {at : ℕ} (held : List ℕ) (b : Bool) (o : IsOnly s at) → has at held ≡ b → filter (is_held held) (only_at at s.rows) ≡ cond b (o.row ∷ []) []
held_one held b o e = ap (filter (is_held held)) o.only ∙ ap (λ b. cond b (o.row ∷ []) []) (held_is held o.row ∙ (ap (λ n. has n held) o.place ∙ e))

-- a row that is not held stays
pub stays_one : {s : Entries} {before after : Aside} {at t : ℕ} (o : IsOnly s at) → Met before after at → AreRemoved before s.removed → has at (held_blocks after) ≡ false → Moves s s before after t (only_at at s.rows)
stays_one {s} {before} {after} {at} {t} o met was free = record {
  drops = subst (λ l. Drops s s before after t l) (sym (held_one (held_blocks after) false o free)) (drops_nothing met.goes (record { each = λ b r. still b (met.refused b r) }));
  decided = only_decided after o met.decided;
}
  where
    still : (b : ℕ) → ((b ≡ at) × (has at (held_blocks after) ≡ true)) ⊎ (has b before.refused ≡ true) → has_place b s.removed ≡ true
    still b (inl (same, held)) = absurd (false≢true (sym free ∙ held))
    still b (inr r) = was.each b r

-- and one that is held is moved
pub moves_one : {s new : Entries} {before after : Aside} {at t : ℕ} (o : IsOnly s at) → Met before after at → AreRemoved before s.removed → has at (held_blocks after) ≡ true → new ≡ dropped_rows (held_blocks after) t (only_at at s.rows) s
    → Moves s new before after t (only_at at s.rows)
moves_one {s} {new} {before} {after} {at} {t} o met was held dropped = record {
  drops = subst (λ l. Drops s new before after t l) (o.only ∙ sym (held_one (held_blocks after) true o held)) (drops_one o met was dropped);
  decided = only_decided after o met.decided;
}

-- Some rows of the slot were probed, and the one at `at` is the next.
pub record Moving (t : ℕ) (first s : Entries) (start aside : Aside) (slot at : ℕ) : Type 0 where
  pub done : List Row
  pub todo : List Row
  pub kept : List Row
  pub split : chain_of first slot ≡ done ++ todo
  pub chain : chain_of s slot ≡ kept ++ todo
  pub here : at ≡ first_place todo
  pub moves : Moves first s start aside t done

pub moving_starts : (t : ℕ) (s : Entries) (start aside : Aside) (slot at : ℕ) → aside ≡ start → at ≡ first_place (chain_of s slot) → AreRemoved start s.removed → Moving t s s start aside slot at
moving_starts t s start aside slot at same here was = record {
  done = [];
  todo = chain_of s slot;
  kept = [];
  split = refl;
  chain = refl;
  here = here;
  moves = moves_none s start aside t same was;
}

pub moving_next : {t : ℕ} {first s : Entries} {start aside : Aside} {slot at : ℕ} {words windows : List ℕ} (w : Moving t first s start aside slot at) → IsSound s words windows → at ≢ 0 → IsNext s slot at w.kept w.todo
moving_next {s = s} {slot = slot} {at = at} w sound some = next_from s slot at w.kept w.todo w.chain w.here sound some

pub moving_on : {t : ℕ} {first s s' : Entries} {start aside aside' : Aside} {slot at next : ℕ} (w : Moving t first s start aside slot at) → IsNext s slot at w.kept w.todo
    → Moves s s' aside aside' t (only_at at s.rows) → next ≡ place_after at (chain_of s slot) → Moving t first s' start aside' slot next
moving_on {t} {first} {s} {s'} {start} {aside} {aside'} {slot} {at} {next} w n moves then =
    let k = chain_on (is_held (held_blocks aside')) n moves.drops in
    record {
      done = w.done ++ n.row ∷ [];
      todo = n.more;
      kept = k.0;
      split = w.split ∙ (ap (λ l. w.done ++ l) n.todo_is ∙ sym (append_assoc w.done (n.row ∷ []) n.more));
      chain = k.1;
      here = then ∙ (ap (place_after at) n.chain ∙ next_in at w.kept n.row n.more n.before n.place);
      moves = subst (λ l. Moves first s' start aside' t l) (ap (λ l. w.done ++ l) n.only) (moves_on w.moves moves);
    }

pub moving_falls : {t : ℕ} {first s s' : Entries} {start aside aside' : Aside} {slot at next : ℕ} {words windows : List ℕ} (w : Moving t first s start aside slot at) → IsNext s slot at w.kept w.todo
    → Moves s s' aside aside' t (only_at at s.rows) → next ≡ place_after at (chain_of s slot) → IsSound s' words windows → chain_left s' slot next < chain_left s slot at
unfolding moving_on
moving_falls {t} {first} {s} {s'} {start} {aside} {aside'} {slot} {at} {next} {words} {windows} w n moves then sound' =
    let w' = moving_on w n moves then in
    let before : chain_left s slot at ≡ length n.more + 1 = ap (λ l. length (rows_from at l)) n.chain ∙ (ap length (from_in at w.kept n.row n.more n.before n.place) ∙ omega arith) in
    let same : length w'.todo ≡ length n.more = refl in
    omega (arith, before, todo_is w', same)
  where
    todo_is : (w' : Moving t first s' start aside' slot next) → chain_left s' slot next ≤ length w'.todo
    todo_is w' = elim (cases_eq next 0) [
      | inl end ↦
          let none : rows_from next (chain_of s' slot) ≡ [] = ap (λ k. rows_from k (chain_of s' slot)) end ∙ from_none 0 (chain_of s' slot) (none_at_zero s' words windows slot sound') in
          let empty : chain_left s' slot next ≡ 0 = ap length none in
          omega (arith, empty)
      | inr some ↦
          let m = moving_next w' sound' some in
          let now : chain_left s' slot next ≡ length m.more + 1 = ap (λ l. length (rows_from next l)) m.chain ∙ (ap length (from_in next w'.kept m.row m.more m.before m.place) ∙ omega arith) in
          let long : length w'.todo ≡ length m.more + 1 = ap length m.todo_is ∙ omega arith in
          omega (arith, now, long)
    ]

pub moving_ends : {t : ℕ} {first s : Entries} {start aside : Aside} {slot at : ℕ} {words windows : List ℕ} → Moving t first s start aside slot at → IsSound s words windows → at ≡ 0
    → Moves first s start aside t (chain_of first slot)
moving_ends {t} {first} {s} {start} {aside} {slot} {at} {words} {windows} w sound end = go w.todo refl
  where
    go : (todo : List Row) → w.todo ≡ todo → Moves first s start aside t (chain_of first slot)
    go [] e = subst (λ l. Moves first s start aside t l) (sym (w.split ∙ (ap (λ l. w.done ++ l) e ∙ append-nil w.done))) w.moves
    go (row ∷ more) e =
        let place : row.place ≡ 0 = sym (w.here ∙ ap first_place e) ∙ end in
        let chain : chain_of s slot ≡ w.kept ++ row ∷ more = w.chain ∙ ap (λ l. w.kept ++ l) e in
        let there : Contains (chain_of s slot) row = subst (λ l. Contains l row) (sym chain) (Contains-append_right w.kept (row ∷ more) row (Contains-first row more)) in
        absurd (false≢true (sym (none_at_zero s words windows slot sound) ∙ subst (λ n. has_place n (chain_of s slot) ≡ true) place (place_there (chain_of s slot) row there)))

-- the slots below n were walked
pub record Passing (t : ℕ) (first s : Entries) (start aside : Aside) (n : ℕ) : Type 0 where
  pub moves : Moves first s start aside t (flat_map (chain_of first) (range_with_len 0 n))
  pub chains : (k : ℕ) → n ≤ k → chain_of s k ≡ chain_of first k

pub passing_starts : (t : ℕ) (s : Entries) (start aside : Aside) → aside ≡ start → AreRemoved start s.removed → Passing t s s start aside 0
passing_starts t s start aside same was = record { moves = moves_none s start aside t same was; chains = λ k l. refl }

pub passing_on : {t : ℕ} {first s s' : Entries} {start aside aside' : Aside} {n : ℕ} → Passing t first s start aside n
    → Moves s s' aside aside' t (chain_of s n) → Passing t first s' start aside' (n + 1)
passing_on {t} {first} {s} {s'} {start} {aside} {aside'} {n} w moves = record {
  moves = subst (λ l. Moves first s' start aside' t l)
      (ap (λ l. flat_map (chain_of first) (range_with_len 0 n) ++ l) (w.chains n (omega arith)) ∙ (sym (flat_last (chain_of first) n 0 n (omega arith)) ∙ ap (λ m. flat_map (chain_of first) (range_with_len 0 m)) (sym (add-one n))))
      (moves_on w.moves moves);
  chains = λ k l.
      ap (λ (x : Entries). chain_of x k) moves.drops.dropped
      ∙ (chain_beside s k n (filter (is_held (held_blocks aside')) (chain_of s n)) (λ e. omega (arith, e, l)) (λ row c. (Contains-filter (is_held (held_blocks aside')) (chain_of s n) row c).0)
      ∙ w.chains k (omega (arith, l)));
}

-- the rows that are left are not held
pub left_unnamed : {first s : Entries} {start aside : Aside} {t : ℕ} → Moves first s start aside t (leaving first.conf first.rows) → 2 ≤ first.conf.slots → (at : ℕ) → has_place at s.rows ≡ true → is_named aside.windows at ≡ false
left_unnamed {first} {s} {start} {aside} {t} m good at h =
    let all = leaving first.conf first.rows in
    let r = place_from at s.rows h in
    let left : Contains (left_of (filter (is_held (held_blocks aside)) all) first.rows) r.0 = subst (λ (x : Entries). Contains x.rows r.0) m.drops.dropped r.1 in
    let f = Contains-filter (λ (row : Row). not (is_among (filter (is_held (held_blocks aside)) all) row)) first.rows r.0 left in
    let seen = leaving_there first.conf first.rows r.0 good f.0 in
    let free : has r.0.place (held_blocks aside) ≡ false = false_from_ne_true (has r.0.place (held_blocks aside)) (λ held.
    let kept = Contains-kept (is_held (held_blocks aside)) all r.0 seen (held_is (held_blocks aside) r.0 ∙ held) in
    false≢true (sym (not-true (is_among (filter (is_held (held_blocks aside)) all) r.0) f.1) ∙ among_there (filter (is_held (held_blocks aside)) all) r.0 kept)) in
    subst (λ n. is_named aside.windows n ≡ false) r.2 (m.decided.each r.0 seen ∙ free)

-- all rows were dropped
pub all_gone : {first s new : Entries} {start aside aside' : Aside} {t : ℕ} → Moves first s start aside t (leaving first.conf first.rows) → 2 ≤ first.conf.slots → new ≡ without_rows s → aside' ≡ aside
    → Drops first new start aside' t (leaving first.conf first.rows)
all_gone {first} {s} {new} {start} {aside} {aside'} {t} m good freed same = subst (λ (a : Aside). Drops first new start a t all) (sym same) (record {
  dropped = dropped;
  goes = m.drops.goes;
  decided = m.decided;
  refused = subst (λ (x : Entries). AreRemoved aside x.removed) (sym freed) m.drops.refused;
})
  where
    all : List Row
    all = leaving first.conf first.rows

    held : List ℕ
    held = held_blocks aside

    dropped : new ≡ dropped_rows held t all first
    dropped =
        freed ∙ (ap without_rows m.drops.dropped
        ∙ made first [] (left_of all first.rows) (first.removed ++ dated t (filter (is_held held) (filter (is_held held) all))) (first.removed ++ dated t (filter (is_held held) all)) first.unlinked first.unlinked
        (sym (filter_none (λ (row : Row). not (is_among all row)) first.rows (λ row c. ap not (among_there all row (leaving_there first.conf first.rows row good c)))))
        (ap (λ l. first.removed ++ dated t l) (filter_all (is_held held) (filter (is_held held) all) (λ row c. (Contains-filter (is_held held) all row c).1)))
        refl)

-- or the rows that were left were dropped one after the other
pub all_left : {first s new : Entries} {start aside after : Aside} {t : ℕ} → Moves first s start aside t (leaving first.conf first.rows) → 2 ≤ first.conf.slots → Drops s new aside after t (leaving s.conf s.rows)
    → Drops first new start after t (leaving first.conf first.rows)
all_left {first} {s} {new} {start} {aside} {after} {t} m good d = record {
  dropped = dropped;
  goes = goes_on start aside after m.drops.goes d.goes;
  decided = all_stay aside after all d.goes m.decided;
  refused = d.refused;
}
  where
    all : List Row
    all = leaving first.conf first.rows

    last : List Row
    last = leaving s.conf s.rows

    held : List ℕ
    held = held_blocks aside

    later : List ℕ
    later = held_blocks after

    conf : 2 ≤ s.conf.slots
    conf = subst (λ (x : Entries). 2 ≤ x.conf.slots) (sym m.drops.dropped) good

    free : (row : Row) → Contains last row → is_held later row ≡ false
    free row c =
        let closed : is_named aside.windows row.place ≡ false = left_unnamed m good row.place (place_there s.rows row (leaving_from s.conf s.rows row c)) in
        held_is later row ∙ held_unnamed after row.place (false_from_ne_true (is_named after.windows row.place) (λ n. false≢true (sym closed ∙ d.goes.closes row.place n)))

    dropped : new ≡ dropped_rows later t all first
    dropped =
        d.dropped ∙ (made s (left_of last s.rows) [] (s.removed ++ dated t (filter (is_held later) last)) s.removed s.unlinked s.unlinked
        (filter_none (λ (row : Row). not (is_among last row)) s.rows (λ row c. ap not (among_there last row (leaving_there s.conf s.rows row conf c))))
        (ap (λ l. s.removed ++ dated t l) (filter_none (is_held later) last free) ∙ append-nil s.removed) refl
        ∙ (ap without_rows m.drops.dropped
        ∙ made first [] (left_of all first.rows) (first.removed ++ dated t (filter (is_held held) (filter (is_held held) all))) (first.removed ++ dated t (filter (is_held later) all)) first.unlinked first.unlinked
        (sym (filter_none (λ (row : Row). not (is_among all row)) first.rows (λ row c. ap not (among_there all row (leaving_there first.conf first.rows row good c)))))
        (ap (λ l. first.removed ++ dated t l) (filter_all (is_held held) (filter (is_held held) all) (λ row c. (Contains-filter (is_held held) all row c).1) ∙ sym (same_held aside after all d.goes m.decided)))
        refl))

-- the removed list is empty if it has no first row
pub none_removed : (s : Entries) (words windows : List ℕ) → IsSound s words windows → first_place s.removed ≡ 0 → s.removed ≡ []
none_removed s words windows sound h = go s.removed refl h
  where
    go : (rows : List Row) → s.removed ≡ rows → first_place rows ≡ 0 → rows ≡ []
    go [] e q = refl
    go (row ∷ rows) e q =
        let there : Contains s.removed row = subst (λ (l : List Row). Contains l row) (sym e) (Contains-first row rows) in
        let is : has_place 0 s.removed ≡ true = subst (λ n. has_place n s.removed ≡ true) q (place_there s.removed row there) in
        absurd (false≢true (sym sound.placed ∙ (list_any-append (is_at 0) s.rows s.removed ∙ or_right (has_place 0 s.rows) (has_place 0 s.removed) is)))
