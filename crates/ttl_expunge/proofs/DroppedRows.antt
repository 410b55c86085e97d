-- Rows are dropped, one after the other.
use Rattle.std.proofs.Common.{◌≡◌, ◌⊎◌, inl, inr, ℕ, ◌≤◌, ◌==◌, Bool, true, false, cond, not, ◌&&◌, ◌||◌, List, [], ◌∷◌, ◌++◌, filter, refl, sym, ap, ◌∙◌, subst, append_assoc, arith}
use Rattle.std.proofs.lemmas.Bool.{or_left, or_right, eq-eqb, false≢true, false_from_ne_true}
use Rattle.std.specs.List.{Contains, count_by}
use Rattle.std.proofs.lemmas.List.{append-nil}
use Rattle.std.proofs.lemmas.List.Elements.{Contains-append_cases, filter-append}
use Rattle.seg_words.specs.Probing.{IsDecided, Met, goes_nowhere, goes_on}
use Rattle.seg_words.specs.Windows.{Aside, has, held_blocks}
use Rattle.apcu_model.specs.Cache.{Row, has_key}
use Rattle.apcu_model.specs.Change.{is_among, is_held, left_of}
use Rattle.entry_slots.specs.Lists.{is_at, has_place, only_at, without_place}
use Rattle.entry_slots.specs.Entries.{Entries, unlinked_at, removed_at, freed_at}
use Rattle.entry_slots.specs.Facts.{IsSound}
use Rattle.ttl_expunge.specs.ProbedRows.{AreDecided, AreRemoved, Drops}
use Rattle.ttl_expunge.specs.Dropping.{dropped_rows}
use Rattle.std.proofs.lemmas.List.Folds.{list_any-append}
use Rattle.seg_words.specs.Members.{none_counted, count-cons, counted_some, filter_alike, Contains-cases, filter_then}
use Rattle.entry_slots.specs.RowPlaces.{place_from, without_none, only_none}
use Rattle.ttl_expunge.specs.DecidedRows.{all_stay, same_held}
use Rattle.apcu_model.specs.Facts.{held_is, dated, left_all}
use Rattle.ttl_expunge.proofs.Rows.{left_one}

dated-append : (t : ℕ) (xs ys : List Row) → dated t (xs ++ ys) ≡ dated t xs ++ dated t ys
dated-append t [] ys = refl
dated-append t (x ∷ xs) ys = ap (λ (l : List Row). record x { dtime = t } ∷ l) (dated-append t xs ys)

pub made : (s : Entries) (rows rows' removed removed' unlinked unlinked' : List Row) → rows ≡ rows' → removed ≡ removed' → unlinked ≡ unlinked'
    → ◌≡◌ {A = Entries} (record s { rows = rows; removed = removed; unlinked = unlinked }) (record s { rows = rows'; removed = removed'; unlinked = unlinked' })
made s rows rows' removed removed' unlinked unlinked' p q r = cc (p, q, r)

not_or : (a b : Bool) → not (a || b) ≡ (not a && not b)
not_or true b = refl
not_or false b = refl

left_append : (gone more rows : List Row) → left_of (gone ++ more) rows ≡ left_of more (left_of gone rows)
unfolding is_among
left_append gone more rows =
    filter_alike (λ (row : Row). not (is_among (gone ++ more) row)) (λ (row : Row). not (is_among gone row) && not (is_among more row)) rows
    (λ row c. ap not (list_any-append (has_key row.key) gone more) ∙ not_or (is_among gone row) (is_among more row))
    ∙ sym (filter_then (λ (row : Row). not (is_among gone row)) (λ (row : Row). not (is_among more row)) rows)

-- what is dropped after other rows
pub dropped_on : (held held' : List ℕ) (t : ℕ) (gone more : List Row) (s : Entries) → filter (is_held held') gone ≡ filter (is_held held) gone
    → dropped_rows held' t more (dropped_rows held t gone s) ≡ dropped_rows held' t (gone ++ more) s
dropped_on held held' t gone more s same =
    made s (left_of more (left_of gone s.rows)) (left_of (gone ++ more) s.rows)
    ((s.removed ++ dated t (filter (is_held held) gone)) ++ dated t (filter (is_held held') more)) (s.removed ++ dated t (filter (is_held held') (gone ++ more))) s.unlinked s.unlinked
    (sym (left_append gone more s.rows))
    (append_assoc s.removed (dated t (filter (is_held held) gone)) (dated t (filter (is_held held') more))
    ∙ ap (λ l. s.removed ++ l) (ap (λ l. dated t l ++ dated t (filter (is_held held') more)) (sym same)
    ∙ (sym (dated-append t (filter (is_held held') gone) (filter (is_held held') more)) ∙ ap (dated t) (sym (filter-append (is_held held') gone more)))))
    refl

pub decided_both : (aside : Aside) (xs ys : List Row) → AreDecided aside xs → AreDecided aside ys → AreDecided aside (xs ++ ys)
decided_both aside xs ys a b = record { each = λ row c. elim (Contains-append_cases xs ys row c) [ inl l ↦ a.each row l | inr r ↦ b.each row r ] }

-- what the calls dropped one after the other
pub drops_on : {old mid new : Entries} {before between after : Aside} {t : ℕ} {gone more : List Row} → Drops old mid before between t gone → Drops mid new between after t more → Drops old new before after t (gone ++ more)
drops_on {old} {mid} {new} {before} {between} {after} {t} {gone} {more} first then = record {
  dropped = then.dropped ∙ (ap (dropped_rows (held_blocks after) t more) first.dropped
      ∙ dropped_on (held_blocks between) (held_blocks after) t gone more old (same_held between after gone then.goes first.decided));
  goes = goes_on before between after first.goes then.goes;
  decided = decided_both after gone more (all_stay between after gone then.goes first.decided) then.decided;
  refused = then.refused;
}

-- nothing is dropped
pub drops_none : (s : Entries) (before after : Aside) (t : ℕ) → after ≡ before → AreRemoved before s.removed → Drops s s before after t []
drops_none s before after t same refused = record {
  dropped = made s s.rows (left_of [] s.rows) s.removed (s.removed ++ []) s.unlinked s.unlinked (sym (left_all s.rows)) (sym (append-nil s.removed)) refl;
  goes = goes_nowhere before after same;
  decided = record { each = λ row c. absurd (omega (arith, c.1)) };
  refused = subst (λ (a : Aside). AreRemoved a s.removed) (sym same) refused;
}

-- the row at a place
pub record IsOnly (s : Entries) (at : ℕ) : Type 0 where
  pub row : Row
  pub there : Contains s.rows row
  pub place : row.place ≡ at
  pub only : only_at at s.rows ≡ row ∷ []
  -- the rows without it
  pub left : left_of (row ∷ []) s.rows ≡ without_place at s.rows
  pub removed : has_place at s.removed ≡ false
  pub unlinked : has_place at s.unlinked ≡ false

pub only_once : (at : ℕ) (rows : List Row) (row : Row) → Contains rows row → row.place ≡ at → count_by (is_at at) rows ≤ 1 → only_at at rows ≡ row ∷ []
only_once at [] row c place few = absurd (omega (arith, c.1))
only_once at (r ∷ rows) row c place few = elim (Contains-cases r rows row c) [
  | inl same ↦
      let here : is_at at r ≡ true = eq-eqb r.place at (ap (λ (x : Row). x.place) same ∙ place) in
      let one : cond {A = ℕ} (is_at at r) 1 0 ≡ 1 = ap (λ (b : Bool). cond {A = ℕ} b 1 0) here in
      let none = none_counted (is_at at) rows (omega (arith, few, one, count-cons (is_at at) r rows)) in
      ap (λ b. cond b (r ∷ only_at at rows) (only_at at rows)) here ∙ (ap (λ l. r ∷ l) (only_none at rows none) ∙ ap (λ (x : Row). x ∷ []) same)
  | inr later ↦
      let some : 1 ≤ count_by (is_at at) rows = counted_some (is_at at) rows row later (eq-eqb row.place at place) in
      let none : is_at at r ≡ false = false_from_ne_true (is_at at r) (λ h.
      let one : cond {A = ℕ} (is_at at r) 1 0 ≡ 1 = ap (λ (b : Bool). cond {A = ℕ} b 1 0) h in
      omega (arith, few, one, some, count-cons (is_at at) r rows)) in
      ap (λ b. cond b (r ∷ only_at at rows) (only_at at rows)) none ∙ only_once at rows row later place (omega (arith, few, count-cons (is_at at) r rows))
]

pub only_is : {s : Entries} {words windows : List ℕ} (row : Row) → IsSound s words windows → Contains s.rows row → (at : ℕ) → row.place ≡ at → IsOnly s at
only_is {s} row sound there at place =
    let once = sound.once at in
    let one : 1 ≤ count_by (is_at at) s.rows = counted_some (is_at at) s.rows row there (eq-eqb row.place at place) in
    record {
      row = row;
      there = there;
      place = place;
      only = only_once at s.rows row there place (omega (arith, once));
      left = left_one at s.rows row sound.apart there place (omega (arith, once));
      removed = none_counted (is_at at) s.removed (omega (arith, once, one));
      unlinked = none_counted (is_at at) s.unlinked (omega (arith, once, one));
    }

pub only_of : {s : Entries} {words windows : List ℕ} (at : ℕ) → IsSound s words windows → has_place at s.rows ≡ true → IsOnly s at
only_of {s} at sound h = let r = place_from at s.rows h in only_is r.0 sound r.1 at r.2

-- a row that is not held is freed after it was unlinked
pub freed_one : {s : Entries} {at : ℕ} (t : ℕ) (held : List ℕ) (o : IsOnly s at) → has at held ≡ false → freed_at at (unlinked_at at s) ≡ dropped_rows held t (only_at at s.rows) s
freed_one {s} {at} t held o free =
    made s (without_place at s.rows) (left_of (only_at at s.rows) s.rows)
    (without_place at s.removed) (s.removed ++ dated t (filter (is_held held) (only_at at s.rows)))
    (without_place at (only_at at s.rows ++ s.unlinked)) s.unlinked
    (sym (ap (λ l. left_of l s.rows) o.only ∙ o.left))
    (without_none at s.removed o.removed ∙ (sym (append-nil s.removed) ∙ ap (λ l. s.removed ++ dated t l) (sym (ap (filter (is_held held)) o.only ∙ ap (λ b. cond b (o.row ∷ []) []) (held_is held o.row ∙ (ap (λ n. has n held) o.place ∙ free))))))
    (ap (λ l. without_place at (l ++ s.unlinked)) o.only ∙ (ap (λ b. cond (not b) (o.row ∷ without_place at s.unlinked) (without_place at s.unlinked)) (eq-eqb o.row.place at o.place) ∙ without_none at s.unlinked o.unlinked))

-- and one that is held is the last of the removed ones
pub removed_one : {s : Entries} {at : ℕ} (t : ℕ) (held : List ℕ) (o : IsOnly s at) → has at held ≡ true → removed_at at t (unlinked_at at s) ≡ dropped_rows held t (only_at at s.rows) s
removed_one {s} {at} t held o is =
    let here : is_at at o.row ≡ true = eq-eqb o.row.place at o.place in
    made s (without_place at s.rows) (left_of (only_at at s.rows) s.rows)
    (s.removed ++ dated t (only_at at (only_at at s.rows ++ s.unlinked))) (s.removed ++ dated t (filter (is_held held) (only_at at s.rows)))
    (without_place at (only_at at s.rows ++ s.unlinked)) s.unlinked
    (sym (ap (λ l. left_of l s.rows) o.only ∙ o.left))
    (ap (λ l. s.removed ++ dated t l) (
    ap (λ l. only_at at (l ++ s.unlinked)) o.only ∙ (ap (λ b. cond b (o.row ∷ only_at at s.unlinked) (only_at at s.unlinked)) here ∙ ap (λ l. o.row ∷ l) (only_none at s.unlinked o.unlinked))
    ∙ sym (ap (filter (is_held held)) o.only ∙ ap (λ b. cond b (o.row ∷ []) []) (held_is held o.row ∙ (ap (λ n. has n held) o.place ∙ is)))))
    (ap (λ l. without_place at (l ++ s.unlinked)) o.only ∙ (ap (λ b. cond (not b) (o.row ∷ without_place at s.unlinked) (without_place at s.unlinked)) here ∙ without_none at s.unlinked o.unlinked))

-- a row that was probed and dropped
pub drops_one : {s new : Entries} {before after : Aside} {at t : ℕ} (o : IsOnly s at) → Met before after at → AreRemoved before s.removed → new ≡ dropped_rows (held_blocks after) t (only_at at s.rows) s
    → Drops s new before after t (only_at at s.rows)
drops_one {s} {new} {before} {after} {at} {t} o met was dropped = record {
  dropped = dropped;
  goes = met.goes;
  decided = record {
    each = λ row c. elim (Contains-cases o.row [] row (subst (λ l. Contains l row) o.only c)) [
      | inl same ↦ subst (λ n. IsDecided after n) (sym o.place ∙ ap (λ (r : Row). r.place) same) met.decided
      | inr none ↦ absurd (omega (arith, none.1))
    ];
  };
  refused = record { each = λ b r. ap (λ (x : Entries). has_place b x.removed) dropped ∙ (list_any-append (is_at b) s.removed (last) ∙ here b (met.refused b r)) };
}
  where
    last : List Row
    last = dated t (filter (is_held (held_blocks after)) (only_at at s.rows))

    here : (b : ℕ) → ((b ≡ at) × (has at (held_blocks after) ≡ true)) ⊎ (has b before.refused ≡ true) → (has_place b s.removed || has_place b last) ≡ true
    here b (inr r) = or_left (has_place b s.removed) (has_place b last) (was.each b r)
    here b (inl (same, held)) =
        let one : filter (is_held (held_blocks after)) (only_at at s.rows) ≡ o.row ∷ [] =
        ap (filter (is_held (held_blocks after))) o.only ∙ ap (λ b. cond b (o.row ∷ []) []) (held_is (held_blocks after) o.row ∙ (ap (λ n. has n (held_blocks after)) o.place ∙ held)) in
        let placed : has_place b (dated t (o.row ∷ [])) ≡ true = or_left (o.row.place == b) false (eq-eqb o.row.place b (o.place ∙ sym same)) in
        or_right (has_place b s.removed) (has_place b last) (ap (λ l. has_place b (dated t l)) one ∙ placed)

-- it was not refused before
pub only_unrefused : {s : Entries} {aside : Aside} {at : ℕ} → IsOnly s at → AreRemoved aside s.removed → has at aside.refused ≡ false
only_unrefused {aside = aside} {at} o was = false_from_ne_true (has at aside.refused) (λ r. false≢true (sym o.removed ∙ was.each at r))

-- it is among the loose ones once it is unlinked
pub only_loose : {s : Entries} {at : ℕ} → IsOnly s at → has_place at (unlinked_at at s).unlinked ≡ true
only_loose {s} {at} o = ap (λ l. has_place at (l ++ s.unlinked)) o.only ∙ or_left (is_at at o.row) (has_place at s.unlinked) (eq-eqb o.row.place at o.place)
