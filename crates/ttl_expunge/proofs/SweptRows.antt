-- The removed rows are swept, one after the other.
use Rattle.std.proofs.Common.{◌≡◌, ◌≢◌, ◌⊎◌, inl, inr, ℕ, ◌+◌, ◌<◌, ◌≤◌, Bool, true, false, cond, List, [], ◌∷◌, ◌++◌, length, filter, refl, sym, ap, ◌∙◌, subst, append_assoc, arith}
use Rattle.std.proofs.lemmas.Bool.{or_parts, or_left, or_right, eq-eqb, cases_eq, false≢true, false_from_ne_true}
use Rattle.std.specs.List.{Contains, count_by}
use Rattle.std.proofs.lemmas.List.{append-nil}
use Rattle.std.proofs.lemmas.List.Elements.{Contains-append_right, Contains-append_cases, filter-append}
use Rattle.seg_words.specs.Probing.{Goes, IsDecided, Met, goes_nowhere, goes_on}
use Rattle.seg_words.specs.Windows.{Aside, has, held_blocks}
use Rattle.apcu_model.specs.Cache.{Row}
use Rattle.apcu_model.specs.Change.{is_held}
use Rattle.entry_slots.specs.Lists.{is_at, has_place, without_place, first_place, place_after}
use Rattle.ttl_expunge.specs.Lists.{rows_from}
use Rattle.entry_slots.specs.Entries.{Entries, freed_at}
use Rattle.entry_slots.specs.Facts.{IsSound}
use Rattle.ttl_expunge.specs.ProbedRows.{AreDecided, AreRemoved, Sweeps}
use Rattle.ttl_expunge.specs.Dropping.{swept_in, swept_at}
use Rattle.std.proofs.lemmas.List.Folds.{list_any-append}
use Rattle.seg_words.specs.Members.{none_counted, counted_some, Contains-first, Contains-cases}
use Rattle.entry_slots.specs.RowPlaces.{place_there, without_none}
use Rattle.ttl_expunge.specs.DecidedRows.{all_stay, same_held}
use Rattle.apcu_model.specs.Facts.{held_is}
use Rattle.ttl_expunge.proofs.Rows.{without_middle, next_in, from_in, from_none, alone}

-- Some removed rows were probed, and the one at `at` is the next.
pub record Sweeping (first s : Entries) (start aside : Aside) (at : ℕ) : Type 0 where
  pub done : List Row
  pub todo : List Row
  pub split : first.removed ≡ done ++ todo
  pub now : s ≡ record first { removed = filter (is_held (held_blocks aside)) done ++ todo }
  pub here : at ≡ first_place todo
  pub goes : Goes start aside
  pub decided : AreDecided aside done
  pub refused : AreRemoved aside (filter (is_held (held_blocks aside)) done)

pub sweeping_starts : (s : Entries) (aside : Aside) (at : ℕ) → at ≡ first_place s.removed → ((b : ℕ) → has b aside.refused ≡ false) → Sweeping s s aside aside at
sweeping_starts s aside at here unrefused = record {
  done = [];
  todo = s.removed;
  split = refl;
  now = refl;
  here = here;
  goes = goes_nowhere aside aside refl;
  decided = record { each = λ row c. absurd (omega (arith, c.1)) };
  refused = record { each = λ b r. absurd (false≢true (sym (unrefused b) ∙ r)) };
}

-- the row that is asked next
pub record IsTurn (first s : Entries) (aside : Aside) (at : ℕ) (done todo : List Row) : Type 0 where
  pub row : Row
  pub more : List Row
  pub todo_is : todo ≡ row ∷ more
  pub place : row.place ≡ at
  pub removed : s.removed ≡ filter (is_held (held_blocks aside)) done ++ row ∷ more
  pub before : has_place at (filter (is_held (held_blocks aside)) done) ≡ false
  pub behind : has_place at more ≡ false
  pub unlinked : has_place at s.unlinked ≡ false
  pub there : has_place at s.removed ≡ true

pub turn : {first s : Entries} {start aside : Aside} {at : ℕ} {words windows : List ℕ} (w : Sweeping first s start aside at) → IsSound s words windows → at ≢ 0 → IsTurn first s aside at w.done w.todo
turn {first} {s} {start} {aside} {at} w sound some = go w.todo refl
  where
    kept : List Row
    kept = filter (is_held (held_blocks aside)) w.done

    go : (todo : List Row) → w.todo ≡ todo → IsTurn first s aside at w.done w.todo
    go [] e = absurd (some (w.here ∙ ap first_place e))
    go (row ∷ more) e =
        let place : row.place ≡ at = sym (w.here ∙ ap first_place e) in
        let removed : s.removed ≡ kept ++ row ∷ more = ap (λ (x : Entries). x.removed) w.now ∙ ap (λ l. kept ++ l) e in
        let once = sound.once at in
        let there : Contains s.removed row = subst (λ l. Contains l row) (sym removed) (Contains-append_right kept (row ∷ more) row (Contains-first row more)) in
        let one : 1 ≤ count_by (is_at at) s.removed = counted_some (is_at at) s.removed row there (eq-eqb row.place at place) in
        let few : count_by (is_at at) s.removed ≤ 1 = omega (arith, once) in
        let a = alone at kept row more place (subst (λ l. count_by (is_at at) l ≤ 1) removed few) in
        record {
          row = row;
          more = more;
          todo_is = e;
          place = place;
          removed = removed;
          before = a.before;
          behind = a.behind;
          unlinked = none_counted (is_at at) s.unlinked (omega (arith, once, one));
          there = subst (λ n. has_place n s.removed ≡ true) place (place_there s.removed row there);
        }

-- its place was not refused
pub order_unrefused : {first s : Entries} {start aside : Aside} {at : ℕ} (w : Sweeping first s start aside at) → IsTurn first s aside at w.done w.todo → has at aside.refused ≡ false
order_unrefused {aside = aside} {at} w t = false_from_ne_true (has at aside.refused) (λ r. false≢true (sym t.before ∙ w.refused.each at r))

rebuilt : (s : Entries) (removed removed' unlinked unlinked' : List Row) → removed ≡ removed' → unlinked ≡ unlinked'
    → ◌≡◌ {A = Entries} (record s { removed = removed; unlinked = unlinked }) (record s { removed = removed'; unlinked = unlinked' })
rebuilt s removed removed' unlinked unlinked' p q = cc (p, q)

-- one step
pub sweeping_on : {first s s' : Entries} {start aside aside' : Aside} {at next : ℕ} {words windows : List ℕ} (w : Sweeping first s start aside at) → IsSound s words windows → at ≢ 0
    → s' ≡ swept_at (held_blocks aside') at s → Met aside aside' at → next ≡ place_after at s.removed → Sweeping first s' start aside' next
sweeping_on {first} {s} {s'} {start} {aside} {aside'} {at} {next} w sound some given met then =
    let t = turn w sound some in
    let decided : AreDecided aside' (w.done ++ t.row ∷ []) = record {
      each = λ row c. elim (Contains-append_cases w.done (t.row ∷ []) row c) [
        | inl old ↦ (all_stay aside aside' w.done met.goes w.decided).each row old
        | inr one ↦ elim (Contains-cases t.row [] row one) [
          | inl same ↦ subst (λ n. IsDecided aside' n) (sym t.place ∙ ap (λ (r : Row). r.place) same) met.decided
          | inr none ↦ absurd (omega (arith, none.1))
        ]
      ];
    } in
    record {
      done = w.done ++ t.row ∷ [];
      todo = t.more;
      split = w.split ∙ (ap (λ l. w.done ++ l) t.todo_is ∙ sym (append_assoc w.done (t.row ∷ []) t.more));
      now = now t (has at (held_blocks aside')) refl;
      here = then ∙ (ap (place_after at) t.removed ∙ next_in at kept t.row t.more t.before t.place);
      goes = goes_on start aside aside' w.goes met.goes;
      decided = decided;
      refused = record { each = λ b r. subst (λ l. has_place b l ≡ true) (sym (kept_is t)) (refused t b (met.refused b r)) };
    }
  where
    kept : List Row
    kept = filter (is_held (held_blocks aside)) w.done

    last : Row → List Row
    last row = filter (is_held (held_blocks aside')) (row ∷ [])

    kept_is : (t : IsTurn first s aside at w.done w.todo) → filter (is_held (held_blocks aside')) (w.done ++ t.row ∷ []) ≡ kept ++ last t.row
    kept_is t = filter-append (is_held (held_blocks aside')) w.done (t.row ∷ []) ∙ ap (λ l. l ++ last t.row) (same_held aside aside' w.done met.goes w.decided)

    last_is : (row : Row) (b : Bool) → row.place ≡ at → has at (held_blocks aside') ≡ b → last row ≡ cond b (row ∷ []) []
    last_is row b place e = ap (λ b. cond b (row ∷ []) []) (held_is (held_blocks aside') row ∙ (ap (λ n. has n (held_blocks aside')) place ∙ e))

    refused : (t : IsTurn first s aside at w.done w.todo) (b : ℕ) → ((b ≡ at) × (has at (held_blocks aside') ≡ true)) ⊎ (has b aside.refused ≡ true) → has_place b (kept ++ last t.row) ≡ true
    refused t b (inl (same, held)) =
        let here : has_place b (last t.row) ≡ true = subst (λ n. has_place n (last t.row) ≡ true) (t.place ∙ sym same) (subst (λ l. has_place t.row.place l ≡ true) (sym (last_is t.row true t.place held)) (place_there (t.row ∷ []) t.row (Contains-first t.row []))) in
        list_any-append (is_at b) kept (last t.row) ∙ or_right (has_place b kept) (has_place b (last t.row)) here
    refused t b (inr before) = list_any-append (is_at b) kept (last t.row) ∙ or_left (has_place b kept) (has_place b (last t.row)) (w.refused.each b before)

    now : (t : IsTurn first s aside at w.done w.todo) (b : Bool) → has at (held_blocks aside') ≡ b → s' ≡ record first { removed = filter (is_held (held_blocks aside')) (w.done ++ t.row ∷ []) ++ t.more }
    now t true e =
        let whole : filter (is_held (held_blocks aside')) (w.done ++ t.row ∷ []) ++ t.more ≡ kept ++ w.todo =
        ap (λ l. l ++ t.more) (kept_is t ∙ ap (λ l. kept ++ l) (last_is t.row true t.place e)) ∙ (append_assoc kept (t.row ∷ []) t.more ∙ ap (λ l. kept ++ l) (sym t.todo_is)) in
        given ∙ (ap (λ b. cond b s (freed_at at s)) e ∙ (w.now ∙ ap (λ l. let x : Entries = record first { removed = l } in x) (sym whole)))
    now t false e =
        let whole : filter (is_held (held_blocks aside')) (w.done ++ t.row ∷ []) ++ t.more ≡ kept ++ t.more =
        ap (λ l. l ++ t.more) (kept_is t ∙ (ap (λ l. kept ++ l) (last_is t.row false t.place e) ∙ append-nil kept)) in
        let out : without_place at s.removed ≡ filter (is_held (held_blocks aside')) (w.done ++ t.row ∷ []) ++ t.more =
        ap (without_place at) t.removed ∙ (without_middle at kept t.row t.more t.before t.place t.behind ∙ sym whole) in
        let loose : without_place at s.unlinked ≡ first.unlinked = without_none at s.unlinked t.unlinked ∙ ap (λ (x : Entries). x.unlinked) w.now in
        given ∙ (ap (λ b. cond b s (freed_at at s)) e
        ∙ (ap (λ (x : Entries). let y : Entries = record x { removed = without_place at s.removed; unlinked = without_place at s.unlinked } in y) w.now
        ∙ rebuilt first (without_place at s.removed) (filter (is_held (held_blocks aside')) (w.done ++ t.row ∷ []) ++ t.more) (without_place at s.unlinked) first.unlinked out loose))

-- what is left to do
abbrev pub sweep_left : Entries → ℕ → ℕ
sweep_left s at = length (rows_from at s.removed)

-- which falls
pub sweeping_falls : {first s s' : Entries} {start aside aside' : Aside} {at next : ℕ} {words windows words' windows' : List ℕ} → Sweeping first s start aside at → IsSound s words windows → at ≢ 0
    → s' ≡ swept_at (held_blocks aside') at s → Met aside aside' at → next ≡ place_after at s.removed → IsSound s' words' windows' → sweep_left s' next < sweep_left s at
unfolding turn sweeping_on
sweeping_falls {first} {s} {s'} {start} {aside} {aside'} {at} {next} {words' = words'} {windows' = windows'} w sound some given met then sound' =
    let t = turn w sound some in
    let w' = sweeping_on w sound some given met then in
    let before : sweep_left s at ≡ length t.more + 1 = ap (λ l. length (rows_from at l)) t.removed ∙ (ap length (from_in at (filter (is_held (held_blocks aside)) w.done) t.row t.more t.before t.place) ∙ omega arith) in
    let same : length w'.todo ≡ length t.more = refl in
    omega (arith, before, left w' sound', same)
  where
    left : (w' : Sweeping first s' start aside' next) → IsSound s' words' windows' → sweep_left s' next ≤ length w'.todo
    left w' sound' = elim (cases_eq next 0) [
      | inl end ↦
          let none : rows_from next s'.removed ≡ [] = ap (λ n. rows_from n s'.removed) end ∙ from_none 0 s'.removed (or_parts (has_place 0 s'.rows) (has_place 0 s'.removed) (sym (list_any-append (is_at 0) s'.rows s'.removed) ∙ sound'.placed)).1 in
          let empty : sweep_left s' next ≡ 0 = ap length none in
          omega (arith, empty)
      | inr some ↦
          let t = turn w' sound' some in
          let now : sweep_left s' next ≡ length t.more + 1 = ap (λ l. length (rows_from next l)) t.removed ∙ (ap length (from_in next (filter (is_held (held_blocks aside')) w'.done) t.row t.more t.before t.place) ∙ omega arith) in
          let long : length w'.todo ≡ length t.more + 1 = ap length t.todo_is ∙ omega arith in
          omega (arith, now, long)
    ]

-- all were probed
pub sweeping_ends : {first s : Entries} {start aside : Aside} {at : ℕ} {words windows : List ℕ} → Sweeping first s start aside at → IsSound s words windows → at ≡ 0 → Sweeps first s start aside
sweeping_ends {first} {s} {start} {aside} {at} w sound end = go w.todo refl
  where
    kept : List Row
    kept = filter (is_held (held_blocks aside)) w.done

    go : (todo : List Row) → w.todo ≡ todo → Sweeps first s start aside
    go (row ∷ more) e =
        let place : row.place ≡ 0 = sym (w.here ∙ ap first_place e) ∙ end in
        let removed : s.removed ≡ kept ++ row ∷ more = ap (λ (x : Entries). x.removed) w.now ∙ ap (λ l. kept ++ l) e in
        let there : Contains s.removed row = subst (λ l. Contains l row) (sym removed) (Contains-append_right kept (row ∷ more) row (Contains-first row more)) in
        let none = (or_parts (has_place 0 s.rows) (has_place 0 s.removed) (sym (list_any-append (is_at 0) s.rows s.removed) ∙ sound.placed)).1 in
        absurd (false≢true (sym none ∙ subst (λ n. has_place n s.removed ≡ true) place (place_there s.removed row there)))
    go [] e =
        let done : w.done ≡ first.removed = sym (w.split ∙ (ap (λ l. w.done ++ l) e ∙ append-nil w.done)) in
        let now : s ≡ swept_in (held_blocks aside) first = w.now ∙ ap (λ l. let x : Entries = record first { removed = l } in x) (ap (λ l. kept ++ l) e ∙ (append-nil kept ∙ ap (filter (is_held (held_blocks aside))) done)) in
        record {
          swept = now;
          goes = w.goes;
          decided = subst (λ l. AreDecided aside l) done w.decided;
          refused = subst (λ l. AreRemoved aside l) (ap (filter (is_held (held_blocks aside))) done ∙ sym (ap (λ (x : Entries). x.removed) now)) w.refused;
        }
