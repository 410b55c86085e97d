-- The rows under open windows stay.
use Rattle.std.proofs.Common.{◌≡◌, inl, inr, ℕ, Bool, true, false, not, List, ◌++◌, filter, refl, sym, ap, ◌∙◌, subst}
use Rattle.std.specs.List.{Contains}
use Rattle.std.proofs.lemmas.List.Elements.{Contains-append_left, Contains-append_right, Contains-append_cases}
use Rattle.seg_words.specs.Probing.{Goes, goes_nowhere, held_named}
use Rattle.seg_words.specs.Windows.{Aside, is_named, held_blocks}
use Rattle.apcu_model.specs.Cache.{Row}
use Rattle.apcu_model.specs.Change.{is_among, is_held, left_of}
use Rattle.entry_slots.specs.Entries.{Entries}
use Rattle.entry_slots.specs.Facts.{IsSound}
use Rattle.ttl_expunge.specs.ProbedRows.{AreRemoved, AreHeld, KeepsOpen, Sweeps, Drops}
use Rattle.seg_words.specs.Members.{filter_all, Contains-filter, Contains-kept, Contains-map}
use Rattle.apcu_model.specs.Facts.{among_from, dated, dated_held, held_is, one_by_key}

pub sweeps_open : (old new : Entries) (before after : Aside) → Sweeps old new before after → KeepsOpen after.windows old new
sweeps_open old new before after s = record {
  each = λ row c named. elim (Contains-append_cases old.rows old.removed row c) [
    | inl listed ↦ (row, subst (λ (x : Entries). Contains (x.rows ++ x.removed) row) (sym s.swept) (Contains-append_left old.rows (filter (is_held (held_blocks after)) old.removed) row listed), refl, refl)
    | inr removed ↦
        let held : is_held (held_blocks after) row ≡ true = held_is (held_blocks after) row ∙ (sym (s.decided.each row removed) ∙ named) in
        (row, subst (λ (x : Entries). Contains (x.rows ++ x.removed) row) (sym s.swept) (Contains-append_right old.rows (filter (is_held (held_blocks after)) old.removed) row (Contains-kept (is_held (held_blocks after)) old.removed row removed held)), refl, refl)
  ];
}

pub drops_open : {words windows : List ℕ} (old new : Entries) (before after : Aside) (t : ℕ) (gone : List Row) → IsSound old words windows → ((row : Row) → Contains gone row → Contains old.rows row)
    → Drops old new before after t gone → KeepsOpen after.windows old new
drops_open old new before after t gone sound from d = record {
  each = λ row c named. elim (Contains-append_cases old.rows old.removed row c) [
    | inl listed ↦ go row listed named (is_among gone row) refl
    | inr removed ↦ back row row refl refl (Contains-append_right (left_of gone old.rows) (old.removed ++ last) row (Contains-append_left old.removed last row removed))
  ];
}
  where
    last : List Row
    last = dated t (filter (is_held (held_blocks after)) gone)

    back : (row kept : Row) → kept.place ≡ row.place → kept.number ≡ row.number → Contains (left_of gone old.rows ++ (old.removed ++ last)) kept → (kept : Row) × Contains (new.rows ++ new.removed) kept × (kept.place ≡ row.place) × (kept.number ≡ row.number)
    back row kept place number c = (kept, subst (λ (x : Entries). Contains (x.rows ++ x.removed) kept) (sym d.dropped) c, place, number)

    go : (row : Row) → Contains old.rows row → is_named after.windows row.place ≡ true → (b : Bool) → is_among gone row ≡ b → (kept : Row) × Contains (new.rows ++ new.removed) kept × (kept.place ≡ row.place) × (kept.number ≡ row.number)
    go row listed named false e =
        back row row refl refl (Contains-append_left (left_of gone old.rows) (old.removed ++ last) row (Contains-kept (λ (r : Row). not (is_among gone r)) old.rows row listed (ap not e)))
    go row listed named true e =
        let r = among_from gone row e in
        let same : r.0 ≡ row = one_by_key old.rows r.0 row sound.apart (from r.0 r.1) listed r.2 in
        let inside : Contains gone row = subst (λ x. Contains gone x) same r.1 in
        let held : is_held (held_blocks after) row ≡ true = held_is (held_blocks after) row ∙ (sym (d.decided.each row inside) ∙ named) in
        let date : Row → Row = λ x. record x { dtime = t } in
        let there : Contains last (date row) = Contains-map date (filter (is_held (held_blocks after)) gone) row (Contains-kept (is_held (held_blocks after)) gone row inside held) in
        back row (date row) refl refl (Contains-append_right (left_of gone old.rows) (old.removed ++ last) (date row) (Contains-append_right old.removed last (date row) there))

pub open_on : (old mid new : Entries) (between after : Aside) → Goes between after → KeepsOpen between.windows old mid → KeepsOpen after.windows mid new → KeepsOpen after.windows old new
open_on old mid new between after goes first then = record {
  each = λ row c named.
      let a = first.each row c (goes.closes row.place named) in
      let b = then.each a.0 a.1 (subst (λ n. is_named after.windows n ≡ true) (sym a.2) named) in
      (b.0, b.1, b.2 ∙ a.2, b.3 ∙ a.3);
}

-- what is left of swept rows is held, and so is what is dropped behind them
pub sweeps_held : (old new : Entries) (before after : Aside) → Sweeps old new before after → AreHeld after new.removed
sweeps_held old new before after s = record {
  each = λ row c.
      let f = Contains-filter (is_held (held_blocks after)) old.removed row (subst (λ (x : Entries). Contains x.removed row) s.swept c) in
      sym (held_is (held_blocks after) row) ∙ f.1;
}

pub drops_held : (old new : Entries) (before after : Aside) (t : ℕ) (gone : List Row) → Drops old new before after t gone → AreHeld before old.removed → AreHeld after new.removed
drops_held old new before after t gone d was = record {
  each = λ row c.
      elim (Contains-append_cases old.removed (dated t (filter (is_held (held_blocks after)) gone)) row (subst (λ (x : Entries). Contains x.removed row) d.dropped c)) [
        | inl before' ↦ d.goes.holds row.place (was.each row before')
        | inr last ↦ dated_held (held_blocks after) t gone row last
      ];
}

-- where all removed rows are held there is nothing to sweep
pub nothing_swept : (s : Entries) (aside : Aside) → AreHeld aside s.removed → AreRemoved aside s.removed → Sweeps s s aside aside
nothing_swept s aside held was = record {
  swept = ap (λ l. let x : Entries = record s { removed = l } in x) (sym (filter_all (is_held (held_blocks aside)) s.removed (λ row c. held_is (held_blocks aside) row ∙ held.each row c)));
  goes = goes_nowhere aside aside refl;
  decided = record { each = λ row c. held_named aside row.place (held.each row c) ∙ sym (held.each row c) };
  refused = was;
}
