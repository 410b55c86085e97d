-- The old row of a key is dropped where a new one is put.
use Rattle.std.proofs.Common.{◌≡◌, ◌≢◌, ◌⊎◌, inl, inr, ℕ, ◌≤◌, ◌==◌, Bool, true, false, cond, not, ◌||◌, List, [], ◌∷◌, ◌++◌, length, map, filter, find, Option, Some, None, refl, sym, ap, ◌∙◌, subst, arith}
use Rattle.std.specs.Prelude.{option_map}
use Rattle.std.proofs.lemmas.Bool.{and_parts, or_parts, or_left, or_right, eq-eqb, false≢true, false_from_ne_true, not-true}
use Rattle.std.specs.List.{Contains, list_any, count_by}
use Rattle.std.proofs.lemmas.List.{append-nil}
use Rattle.std.proofs.lemmas.List.Elements.{Contains-append_left, Contains-append_right, Contains-append_cases}
use Rattle.std.proofs.lemmas.Slice.Eq.{bytes_eq-Decides}
use Rattle.seg_words.specs.declared.gaps.Extent.{Extent}
use Rattle.seg_words.specs.Windows.{Aside, has, is_named, held_blocks}
use Rattle.seg_words.specs.Probing.{Goes, IsDecided, Met, goes_on, goes_nowhere}
use Rattle.php_graph.specs.declared.kind.Kind.{Kind}
use Rattle.php_graph.specs.Size.{block_size}
use Rattle.apcu_model.specs.Cache.{Row, Cache, risen, has_key}
use Rattle.apcu_model.specs.Change.{expired_in, is_held, dropped, with_row, placed}
use Rattle.apcu_model.specs.Expiry.{is_expired}
use Rattle.apcu_model.specs.Rows.{are_apart}
use Rattle.apcu_model.specs.SlotOrder.{slot_of, is_in_slot}
use Rattle.entry_slots.specs.Lists.{is_at, has_place, only_at, without_place}
use Rattle.entry_slots.specs.Entries.{Entries, entries_of, chain_of, with_taken, linked, stored_row, freed_at, removed_at, found_place, old_place}
use Rattle.entry_slots.specs.Facts.{IsSound}
use Rattle.ttl_expunge.specs.ProbedRows.{AreRemoved, AreHeld, KeepsOpen, Drops}
use Rattle.ttl_expunge.specs.Dropping.{dropped_rows}
use Rattle.cache_core.specs.Laws.{CacheLaws}
use Rattle.cache_core.specs.Placing.{replaced_in, Replaces, Puts}
use Rattle.std.proofs.lemmas.List.Folds.{list_any-append}
use Rattle.seg_words.specs.Members.{counted_some, none_counted, Contains-first, Contains-later, Contains-cases, Contains-filter, Contains-kept, Contains-map}
use Rattle.entry_slots.specs.RowPlaces.{place_there, without_none, only_none}
use Rattle.apcu_model.specs.Facts.{held_is, dated, dated_held}
use Rattle.ttl_expunge.specs.DecidedRows.{same_held}

-- what changes where a row is put
pub built : (s : Entries) (rows : List Row) (number : ℕ) (removed removed' unlinked unlinked' : List Row) (taken : List Extent) → removed ≡ removed' → unlinked ≡ unlinked'
    → ◌≡◌ {A = Entries} (record s { rows = rows; next_number = number; removed = removed; unlinked = unlinked; taken = taken }) (record s { rows = rows; next_number = number; removed = removed'; unlinked = unlinked'; taken = taken })
built s rows number removed removed' unlinked unlinked' taken p q = cc (p, q)

none_found : (p : Row → Bool) (rows : List Row) → find p rows ≡ None → filter p rows ≡ []
none_found p [] h = refl
none_found p (row ∷ rows) h = go (p row) refl h (none_found p rows)
  where
    go : (b : Bool) → p row ≡ b → cond b (Some row) (find p rows) ≡ None → (find p rows ≡ None → filter p rows ≡ []) → filter p (row ∷ rows) ≡ []
    go true e q on = absurd (cc q)
    go false e q on = ap (λ b. cond b (row ∷ filter p rows) (filter p rows)) e ∙ on q

pub key_is : (key : List ℕ) (row : Row) → has_key key row ≡ true → row.key ≡ key
key_is key row h = (bytes_eq-Decides row.key key).0 h

none_has : (key : List ℕ) (rows : List Row) → list_any (has_key key) rows ≡ false → filter (has_key key) rows ≡ []
none_has key [] h = refl
none_has key (row ∷ rows) h =
    let parts = or_parts (has_key key row) (list_any (has_key key) rows) h in
    ap (λ b. cond b (row ∷ filter (has_key key) rows) (filter (has_key key) rows)) parts.0 ∙ none_has key rows parts.1

one_found : (key : List ℕ) (rows : List Row) (row : Row) → are_apart rows ≡ true → find (has_key key) rows ≡ Some row → (filter (has_key key) rows ≡ row ∷ []) × Contains rows row
one_found key [] row apart h = absurd (cc h)
one_found key (r ∷ rows) row apart h = go (has_key key r) refl h (one_found key rows row (and_parts (not (list_any (has_key r.key) rows)) (are_apart rows) apart).1)
  where
    parts : (not (list_any (has_key r.key) rows) ≡ true) × (are_apart rows ≡ true)
    parts = and_parts (not (list_any (has_key r.key) rows)) (are_apart rows) apart

    go : (b : Bool) → has_key key r ≡ b → cond b (Some r) (find (has_key key) rows) ≡ Some row → (find (has_key key) rows ≡ Some row → (filter (has_key key) rows ≡ row ∷ []) × Contains rows row) → (filter (has_key key) (r ∷ rows) ≡ row ∷ []) × Contains (r ∷ rows) row
    go true e q on =
        let same : r ≡ row = cc q in
        let none : list_any (has_key key) rows ≡ false = subst (λ k. list_any (has_key k) rows ≡ false) (key_is key r e) (not-true (list_any (has_key r.key) rows) parts.0) in (
          ap (λ b. cond b (r ∷ filter (has_key key) rows) (filter (has_key key) rows)) e ∙ (ap (λ l. r ∷ l) (none_has key rows none) ∙ ap (λ (x : Row). x ∷ []) same),
          subst (λ x. Contains (r ∷ rows) x) same (Contains-first r rows),
        )
    go false e q on =
        let r' = on q in
        (ap (λ b. cond b (r ∷ filter (has_key key) rows) (filter (has_key key) rows)) e ∙ r'.0, Contains-later r rows row r'.1)

-- the row of the key, which stands at `at`
pub record IsOld (s : Entries) (key : List ℕ) (old : ℕ) : Type 0 where
  pub row : Row
  pub there : Contains s.rows row
  pub place : row.place ≡ old
  pub found : find (has_key key) s.rows ≡ Some row
  pub one : filter (has_key key) s.rows ≡ row ∷ []
  pub removed : has_place old s.removed ≡ false
  pub unlinked : has_place old s.unlinked ≡ false
  pub listed : has_place old s.rows ≡ true

pub old_is : {s : Entries} {words windows : List ℕ} (key : List ℕ) (old : ℕ) → IsSound s words windows → Some old ≡ option_map (λ (row : Row). row.place) (find (has_key key) s.rows) → IsOld s key old
old_is {s} {words} {windows} key old sound h = go (find (has_key key) s.rows) refl h
  where
    go : (r : Option Row) → find (has_key key) s.rows ≡ r → Some old ≡ option_map (λ (row : Row). row.place) r → IsOld s key old
    go None e q = absurd (cc q)
    go (Some row) e q =
        let place : row.place ≡ old = cc q in
        let one = one_found key s.rows row sound.apart e in
        let counts = sound.once old in
        let some : 1 ≤ count_by (is_at old) s.rows = counted_some (is_at old) s.rows row one.1 (eq-eqb row.place old place) in
        record {
          row = row;
          there = one.1;
          place = place;
          found = e;
          one = one.0;
          removed = none_counted (is_at old) s.removed (omega (arith, counts, some));
          unlinked = none_counted (is_at old) s.unlinked (omega (arith, counts, some));
          listed = subst (λ n. has_place n s.rows ≡ true) place (place_there s.rows row one.1);
        }

pub none_is : (s : Entries) (key : List ℕ) → None ≡ option_map (λ (row : Row). row.place) (find (has_key key) s.rows) → find (has_key key) s.rows ≡ None
none_is s key h = go (find (has_key key) s.rows) h
  where
    go : (r : Option Row) → None ≡ option_map (λ (row : Row). row.place) r → r ≡ None
    go None q = refl
    go (Some row) q = absurd (cc q)

-- the spot of a key is at its row ..
pub spot_some : (s : Entries) (key : List ℕ) (at : ℕ) → at ≡ old_place key s → at ≢ 0 → Some at ≡ option_map (λ (row : Row). row.place) (find (has_key key) s.rows)
spot_some s key at is some = go (find (has_key key) s.rows) is
  where
    go : (r : Option Row) → at ≡ found_place r → Some at ≡ option_map (λ (row : Row). row.place) r
    go None q = absurd (some q)
    go (Some row) q = ap Some q

-- .. or no row has the key
pub spot_none : {s : Entries} {words windows : List ℕ} (key : List ℕ) (at : ℕ) → IsSound s words windows → at ≡ old_place key s → at ≡ 0 → find (has_key key) s.rows ≡ None
spot_none {s} {words} {windows} key at sound is none = go (find (has_key key) s.rows) refl is
  where
    go : (r : Option Row) → find (has_key key) s.rows ≡ r → at ≡ found_place r → find (has_key key) s.rows ≡ None
    go None e q = e
    go (Some row) e q =
        let c : Contains s.rows row = (one_found key s.rows row sound.apart e).1 in
        let zero' : has_place 0 s.rows ≡ true = subst (λ n. has_place n s.rows ≡ true) (sym q ∙ none) (place_there s.rows row c) in
        absurd (false≢true (sym sound.placed ∙ (list_any-append (is_at 0) s.rows s.removed ∙ or_left (has_place 0 s.rows) (has_place 0 s.removed) zero')))

-- where no row has the key
pub replaces_none : {s new : Entries} {before after : Aside} (at : ℕ) (key : List ℕ) (graph : List Kind) (ttl t : ℕ) → find (has_key key) s.rows ≡ None → after ≡ before → AreRemoved before s.removed
    → new ≡ linked at key graph ttl t s → Replaces s new before after at key graph ttl t
replaces_none {s} {new} {before} {after} at key graph ttl t none same was put =
    let empty = none_found (has_key key) s.rows none in
    let now : new ≡ replaced_in (held_blocks after) at key graph ttl t s =
    put ∙ built s (with_row (stored_row key graph ttl t at s.next_number) s.rows) (risen s.next_number) s.removed (s.removed ++ dated t (filter (is_held (held_blocks after)) (filter (has_key key) s.rows)))
    (filter (has_key key) s.rows ++ s.unlinked) s.unlinked (filter (λ block. not (block.place == at)) s.taken)
    (sym (append-nil s.removed) ∙ ap (λ l. s.removed ++ dated t (filter (is_held (held_blocks after)) l)) (sym empty)) (ap (λ l. l ++ s.unlinked) empty) in
    record {
      replaced = now;
      goes = goes_nowhere before after same;
      decided = record { each = λ row c. absurd (omega (arith, (subst (λ l. Contains l row) empty c).1)) };
      refused = record { each = λ b r. ap (λ (x : Entries). has_place b x.removed) put ∙ was.each b (subst (λ (a : Aside). has b a.refused ≡ true) same r) };
    }

held_old : {s : Entries} {key : List ℕ} {old : ℕ} (held : List ℕ) (b : Bool) (o : IsOld s key old) → has old held ≡ b → filter (is_held held) (filter (has_key key) s.rows) ≡ cond b (o.row ∷ []) []
held_old held b o e = ap (filter (is_held held)) o.one ∙ ap (λ b. cond b (o.row ∷ []) []) (held_is held o.row ∙ (ap (λ n. has n held) o.place ∙ e))

-- the old row is loose once the new one is put
pub old_loose : {s : Entries} {key : List ℕ} {old : ℕ} (o : IsOld s key old) → has_place old (filter (has_key key) s.rows ++ s.unlinked) ≡ true
old_loose {s} {key} {old} o = ap (λ l. has_place old (l ++ s.unlinked)) o.one ∙ or_left (is_at old o.row) (has_place old s.unlinked) (eq-eqb o.row.place old o.place)

without_old : {s : Entries} {key : List ℕ} {old : ℕ} (o : IsOld s key old) → without_place old (filter (has_key key) s.rows ++ s.unlinked) ≡ s.unlinked
without_old {s} {key} {old} o =
    ap (λ l. without_place old (l ++ s.unlinked)) o.one ∙ (ap (λ b. cond (not b) (o.row ∷ without_place old s.unlinked) (without_place old s.unlinked)) (eq-eqb o.row.place old o.place) ∙ without_none old s.unlinked o.unlinked)

pub replaced_free : {s new : Entries} {old : ℕ} (held : List ℕ) (at : ℕ) (key : List ℕ) (graph : List Kind) (ttl t : ℕ) (o : IsOld s key old) → has old held ≡ false
    → new ≡ freed_at old (linked at key graph ttl t s) → new ≡ replaced_in held at key graph ttl t s
replaced_free {s} {new} {old} held at key graph ttl t o free put =
    put ∙ built s (with_row (stored_row key graph ttl t at s.next_number) s.rows) (risen s.next_number) (without_place old s.removed) (s.removed ++ dated t (filter (is_held held) (filter (has_key key) s.rows)))
    (without_place old (filter (has_key key) s.rows ++ s.unlinked)) s.unlinked (filter (λ block. not (block.place == at)) s.taken)
    (without_none old s.removed o.removed ∙ (sym (append-nil s.removed) ∙ ap (λ l. s.removed ++ dated t l) (sym (held_old held false o free))))
    (without_old o)

pub replaced_held : {s new : Entries} {old : ℕ} (held : List ℕ) (at : ℕ) (key : List ℕ) (graph : List Kind) (ttl t : ℕ) (o : IsOld s key old) → has old held ≡ true
    → new ≡ removed_at old t (linked at key graph ttl t s) → new ≡ replaced_in held at key graph ttl t s
replaced_held {s} {new} {old} held at key graph ttl t o is put =
    put ∙ built s (with_row (stored_row key graph ttl t at s.next_number) s.rows) (risen s.next_number) (s.removed ++ dated t (only_at old (filter (has_key key) s.rows ++ s.unlinked))) (s.removed ++ dated t (filter (is_held held) (filter (has_key key) s.rows)))
    (without_place old (filter (has_key key) s.rows ++ s.unlinked)) s.unlinked (filter (λ block. not (block.place == at)) s.taken)
    (ap (λ l. s.removed ++ dated t l) (
    ap (λ l. only_at old (l ++ s.unlinked)) o.one ∙ (ap (λ b. cond b (o.row ∷ only_at old s.unlinked) (only_at old s.unlinked)) (eq-eqb o.row.place old o.place) ∙ ap (λ l. o.row ∷ l) (only_none old s.unlinked o.unlinked))
    ∙ sym (held_old held true o is)))
    (without_old o)

pub replaces_old : {s new : Entries} {before after : Aside} {old : ℕ} (at : ℕ) (key : List ℕ) (graph : List Kind) (ttl t : ℕ) (o : IsOld s key old) → Met before after old → AreRemoved before s.removed
    → new ≡ replaced_in (held_blocks after) at key graph ttl t s → Replaces s new before after at key graph ttl t
replaces_old {s} {new} {before} {after} {old} at key graph ttl t o met was now = record {
  replaced = now;
  goes = met.goes;
  decided = record {
    each = λ row c. elim (Contains-cases o.row [] row (subst (λ l. Contains l row) o.one c)) [
      | inl same ↦ subst (λ n. IsDecided after n) (sym o.place ∙ ap (λ (r : Row). r.place) same) met.decided
      | inr none ↦ absurd (omega (arith, none.1))
    ];
  };
  refused = record { each = λ b r. ap (λ (x : Entries). has_place b x.removed) now ∙ (list_any-append (is_at b) s.removed last ∙ here b (met.refused b r)) };
}
  where
    last : List Row
    last = dated t (filter (is_held (held_blocks after)) (filter (has_key key) s.rows))

    here : (b : ℕ) → ((b ≡ old) × (has old (held_blocks after) ≡ true)) ⊎ (has b before.refused ≡ true) → (has_place b s.removed || has_place b last) ≡ true
    here b (inr r) = or_left (has_place b s.removed) (has_place b last) (was.each b r)
    here b (inl (same, held)) =
        let placed : has_place b (dated t (o.row ∷ [])) ≡ true = or_left (o.row.place == b) false (eq-eqb o.row.place b (o.place ∙ sym same)) in
        or_right (has_place b s.removed) (has_place b last) (ap (λ l. has_place b (dated t l)) (held_old (held_blocks after) true o held) ∙ placed)

pub old_unrefused : {s : Entries} {aside : Aside} {key : List ℕ} {old : ℕ} → IsOld s key old → AreRemoved aside s.removed → has old aside.refused ≡ false
old_unrefused {aside = aside} {old = old} o was = false_from_ne_true (has old aside.refused) (λ r. false≢true (sym o.removed ∙ was.each old r))

with_keeps : (new : Row) (rows : List Row) (row : Row) → Contains rows row → has_key new.key row ≡ false → Contains (with_row new rows) row
with_keeps new rows row c other = go (list_any (has_key new.key) rows)
  where
    change : Row → Row
    change r = cond (has_key new.key r) new r

    go : (b : Bool) → Contains (cond b (map change rows) (rows ++ new ∷ [])) row
    go true = subst (λ x. Contains (map change rows) x) (ap (λ b. cond b new row) other) (Contains-map change rows row c)
    go false = Contains-append_left rows (new ∷ []) row c

replaces_open : {s new : Entries} {before after : Aside} {at : ℕ} {key : List ℕ} {graph : List Kind} {ttl t : ℕ} → Replaces s new before after at key graph ttl t → KeepsOpen after.windows s new
replaces_open {s} {new} {before} {after} {at} {key} {graph} {ttl} {t} r = record {
  each = λ row c named. elim (Contains-append_cases s.rows s.removed row c) [
    | inl listed ↦ go row listed named (has_key key row) refl
    | inr removed ↦ back row row refl refl (Contains-append_right rows' (s.removed ++ last) row (Contains-append_left s.removed last row removed))
  ];
}
  where
    rows' : List Row
    rows' = with_row (stored_row key graph ttl t at s.next_number) s.rows

    last : List Row
    last = dated t (filter (is_held (held_blocks after)) (filter (has_key key) s.rows))

    back : (row kept : Row) → kept.place ≡ row.place → kept.number ≡ row.number → Contains (rows' ++ (s.removed ++ last)) kept → (kept : Row) × Contains (new.rows ++ new.removed) kept × (kept.place ≡ row.place) × (kept.number ≡ row.number)
    back row kept place number c = (kept, subst (λ (x : Entries). Contains (x.rows ++ x.removed) kept) (sym r.replaced) c, place, number)

    go : (row : Row) → Contains s.rows row → is_named after.windows row.place ≡ true → (b : Bool) → has_key key row ≡ b → (kept : Row) × Contains (new.rows ++ new.removed) kept × (kept.place ≡ row.place) × (kept.number ≡ row.number)
    go row listed named false e = back row row refl refl (Contains-append_left rows' (s.removed ++ last) row (with_keeps (stored_row key graph ttl t at s.next_number) s.rows row listed e))
    go row listed named true e =
        let keyed = Contains-kept (has_key key) s.rows row listed e in
        let held : is_held (held_blocks after) row ≡ true = held_is (held_blocks after) row ∙ (sym (r.decided.each row keyed) ∙ named) in
        let date : Row → Row = λ x. record x { dtime = t } in
        let there : Contains last (date row) = Contains-map date (filter (is_held (held_blocks after)) (filter (has_key key) s.rows)) row (Contains-kept (is_held (held_blocks after)) (filter (has_key key) s.rows) row keyed held) in
        back row (date row) refl refl (Contains-append_right rows' (s.removed ++ last) (date row) (Contains-append_right s.removed last (date row) there))

replaces_held : {s new : Entries} {before after : Aside} {at : ℕ} {key : List ℕ} {graph : List Kind} {ttl t : ℕ} → Replaces s new before after at key graph ttl t → AreHeld before s.removed → AreHeld after new.removed
replaces_held {s} {new} {before} {after} {at} {key} {graph} {ttl} {t} r was = record {
  each = λ row c.
      elim (Contains-append_cases s.removed (dated t (filter (is_held (held_blocks after)) (filter (has_key key) s.rows))) row (subst (λ (x : Entries). Contains x.removed row) r.replaced c)) [
        | inl before' ↦ r.goes.holds row.place (was.each row before')
        | inr last ↦ dated_held (held_blocks after) t (filter (has_key key) s.rows) row last
      ];
}

closed : (s : Entries) (taken : List Extent) → taken ≡ [] → ◌≡◌ {A = Entries} (record s { taken = taken }) (record s { taken = [] })
closed s taken q = ap (λ l. let x : Entries = record s { taken = l } in x) q

-- the whole insertion
pub puts_from : (laws : CacheLaws) {s0 s1 s2 : Entries} {a0 a1 a2 : Aside} {words windows : List ℕ} (at : ℕ) (key : List ℕ) (graph : List Kind) (ttl t slot : ℕ) → IsSound s0 words windows → slot ≡ slot_of s0.conf key
    → Drops s0 s1 a0 a1 t (filter (is_expired s0.conf t) (chain_of s0 slot)) → Replaces s1 s2 a1 a2 at key graph ttl t → Puts s0 s2 a0 a2 at key graph ttl t
puts_from laws {s0} {s1} {s2} {a0} {a1} {a2} {words} {windows} at key graph ttl t slot sound is drops rep = record {
  placed_is = placed_is;
  goes = goes_on a0 a1 a2 drops.goes rep.goes;
  keeps = laws.drops.joined s0 s1 s2 a1 a2 rep.goes
      (laws.drops.keeps s0 s1 words windows a0 a1 t (filter (is_expired s0.conf t) (chain_of s0 slot)) sound (λ row c. (Contains-filter (is_in_slot s0.conf slot) s0.rows row (Contains-filter (is_expired s0.conf t) (chain_of s0 slot) row c).0).0) drops)
      (replaces_open rep);
  refused = rep.refused;
  held = λ was. replaces_held rep (laws.drops.held s0 s1 a0 a1 t (filter (is_expired s0.conf t) (chain_of s0 slot)) drops was);
}
  where
    n : ℕ
    n = block_size (length key) graph

    placed_is : (c : Cache) (later : Aside) → s0 ≡ with_taken at n (entries_of c) → Goes a2 later → s2 ≡ entries_of (placed (held_blocks later) key graph ttl t n c at)
    placed_is c later e on =
        let held = held_blocks later in
        let on1 = goes_on a1 a2 later rep.goes on in
        let unrefused : Cache = dropped held t (expired_in c.conf t (slot_of c.conf key) c.rows) c in
        let first : s1 ≡ with_taken at n (entries_of unrefused) =
        laws.drops.later s0 s1 a0 a1 later t (filter (is_expired s0.conf t) (chain_of s0 slot)) drops on1
        ∙ (ap (λ k. dropped_rows held t (expired_in s0.conf t k s0.rows) s0) is
        ∙ ap (λ (x : Entries). dropped_rows held t (expired_in x.conf t (slot_of x.conf key) x.rows) x) e) in
        let mid : s2 ≡ replaced_in held at key graph ttl t s1 =
        rep.replaced ∙ built s1 (with_row (stored_row key graph ttl t at s1.next_number) s1.rows) (risen s1.next_number)
        (s1.removed ++ dated t (filter (is_held (held_blocks a2)) (filter (has_key key) s1.rows))) (s1.removed ++ dated t (filter (is_held held) (filter (has_key key) s1.rows))) s1.unlinked s1.unlinked (filter (λ block. not (block.place == at)) s1.taken)
        (ap (λ l. s1.removed ++ dated t l) (sym (same_held a2 later (filter (has_key key) s1.rows) on rep.decided))) refl in
        mid ∙ (ap (replaced_in held at key graph ttl t) first
        ∙ closed (entries_of (placed held key graph ttl t n c at)) (filter (λ (block : Extent). not (block.place == at)) (record { place = at; size = n } ∷ []))
        (ap (λ b. cond (not b) (record { place = at; size = n } ∷ []) []) (eq-eqb at at refl)))
