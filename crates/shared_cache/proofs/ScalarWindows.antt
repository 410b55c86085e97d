-- No window names a row whose value is answered under the lock.
use Rattle.std.proofs.Common.{◌≡◌, ℕ, ◌<◌, ◌==◌, Bool, true, false, cond, List, [], ◌∷◌, ◌++◌, Some, ap, sym, ◌∙◌, subst, slice_set}
use Rattle.std.specs.Prelude.{Contains}
use Rattle.std.specs.Map.{lookup}
use Rattle.std.proofs.lemmas.Bool.{false≢true, false_from_ne_true}
use Rattle.std.proofs.lemmas.List.Elements.{Contains-append_left}
use mathlib.Core.Option.{some}
use lib.ListN.{get_elem?}
use Rattle.atomic_table.specs.Seated.{TableId}
use Rattle.seg_words.specs.Members.{Contains-first, Contains-later}
use Rattle.seg_words.specs.Windows.{is_named}
use Rattle.apcu_model.specs.declared.conf.Conf.{Conf}
use Rattle.apcu_model.specs.Cache.{Row, Cache}
use Rattle.apcu_model.specs.History.{Stage, stage_of, is_scalar}
use Rattle.apcu_model.specs.Journal.{Marks}
use Rattle.entry_slots.specs.Standing.{entries}
use Rattle.cache_core.specs.declared.cache.Core.{Core}
use Rattle.cache_core.specs.CoreCache.{cache_of}
use Rattle.cache_core.specs.Integers.{NameNoScalar}
use Rattle.pin_table.specs.declared.views.WriterState.{WriterState}
use Rattle.pin_table.specs.declared.writer.Writer.{Writer}
use Rattle.pin_table.specs.Values.{WriterView, PassView}
use Rattle.pin_table.specs.Views.{aside_of}
use Rattle.shared_cache.specs.Laws.{LockLaws}
use Rattle.shared_cache.specs.LockInvariant.{Settled}
use Rattle.shared_cache.proofs.Windows.{set_other}
use Rattle.shared_cache.proofs.EventEnds.{short_history}
use Rattle.shared_cache.proofs.EventProgress.{Took}

window_there : (v n : ℕ) (ws : List (ℕ × ℕ)) → lookup (λ y. y == v) ws ≡ Some n → (w : ℕ × ℕ) × Contains ws w × (w.1 ≡ n)
window_there v n [] h = absurd (cc h)
window_there v n (w ∷ ws) h = go (w.0 == v) (window_there v n ws) h
  where
    go : (b : Bool) → (lookup (λ y. y == v) ws ≡ Some n → (x : ℕ × ℕ) × Contains ws x × (x.1 ≡ n)) → cond b (Some w.1) (lookup (λ y. y == v) ws) ≡ Some n
        → (x : ℕ × ℕ) × Contains (w ∷ ws) x × (x.1 ≡ n)
    go true later q = let e : w.1 ≡ n = cc q in (w, Contains-first w ws, e)
    go false later q = let r = later q in (r.0, Contains-later w ws r.0 r.1, r.2)

module _ (laws : LockLaws) (t : TableId) (conf : Conf) (budgets : List ℕ) (s : WriterView) (c : Core) (j : Marks)
    (ok : Settled t conf budgets s c j) where
  abbrev pub m : Stage
  m = stage_of conf s.state.log.history

  -- a row under an open window
  pub not_scalar : (row : Row) (v : ℕ) → Contains (cache_of c).rows row → get_elem? s.state.windows v ≡ some row.place → 0 < row.place → is_scalar row.graph ≡ false
  not_scalar row v l named pos =
      let tie = ok.tied v row.place named pos in
      let listed : Contains ((cache_of c).rows ++ (cache_of c).removed) row = Contains-append_left (cache_of c).rows (cache_of c).removed row l in
      let there : Contains ((cache_of c).rows ++ (cache_of c).removed) tie.row = subst (λ (x : Cache). Contains (x.rows ++ x.removed) tie.row) (sym ok.cache) tie.there in
      let same : tie.row ≡ row = laws.standing.one c.slots s.state.words (aside_of s.state) (entries c.slots) tie.row row ok.stands.stand there listed tie.place in
      let w = window_there v tie.row.number m.windows tie.window in
      (laws.numbered conf s.state.log.history (short_history t conf budgets s c j ok) ok.shallow).whole w.0 row w.1
      (subst (λ (x : Cache). Contains (x.rows ++ x.removed) row) ok.cache listed) (ap (λ (r : Row). r.number) (sym same) ∙ sym w.2)

  -- as the writer w takes the pass p
  pub none_scalar : (p : PassView) (w : Writer) → Took t s p w → NameNoScalar (aside_of w.seat.now.state).windows (cache_of c).rows
  none_scalar p w took = record { each = each }
    where
      each : (row : Row) → Contains (cache_of c).rows row → is_scalar row.graph ≡ true → is_named w.seat.now.state.windows row.place ≡ false
      each row l scalar = false_from_ne_true (is_named w.seat.now.state.windows row.place) (λ (named : is_named w.seat.now.state.windows row.place ≡ true).
          let n : is_named (slice_set s.state.windows p.known.worker 0) row.place ≡ true = ap (λ (x : WriterState). is_named x.windows row.place) (sym took.state) ∙ named in
          let k = laws.rule.there (slice_set s.state.windows p.known.worker 0) row.place n in
          let o = set_other s.state.windows p.known.worker k.1.0 row.place k.1.1 k.0 in
          false≢true (sym (not_scalar row k.1.0 l o.1 k.0) ∙ scalar))
