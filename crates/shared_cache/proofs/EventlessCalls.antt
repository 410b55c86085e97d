-- A call under the lock that is no event.
use Rattle.std.proofs.Common.{◌≡◌, ℕ, List, Some, None, ap, sym, ◌∙◌, subst, slice_set}
use Rattle.atomic_table.specs.Seated.{TableId}
use Rattle.seg_words.specs.Windows.{Aside}
use Rattle.apcu_model.specs.declared.conf.Conf.{Conf}
use Rattle.apcu_model.specs.Journal.{Marks}
use Rattle.cache_core.specs.declared.cache.Core.{Core}
use Rattle.pin_table.specs.declared.views.EventLog.{EventLog}
use Rattle.pin_table.specs.declared.views.WriterState.{WriterState}
use Rattle.pin_table.specs.declared.views.Known.{Known}
use Rattle.pin_table.specs.declared.writer.Writer.{Writer}
use Rattle.pin_table.specs.Values.{WriterView, PassView}
use Rattle.pin_table.specs.Views.{with_hand, rested, in_hand, aside_of}
use Rattle.shared_cache.specs.LockInvariant.{Settled}
use Rattle.shared_cache.specs.UnderLock.{AtWork}
use Rattle.shared_cache.proofs.CopyEvents.{unchanged}

module _ (t : TableId) (conf : Conf) (budgets : List ℕ) (j : Marks) (w : Writer) (work : AtWork t conf budgets j w) where
  table : w.seat.now.table ≡ t
  table = work.writes_on.table ∙ work.taken.table

  log : w.seat.now.state.log ≡ with_hand work.seat.state.log (Some work.pass.known)
  log = work.writes_on.log ∙ ap (λ (x : WriterState). x.log) work.taken.state

  -- Neither words nor windows have changed, and the seat is returned as s1.
  pub settles : (s1 : WriterView) (core : Core) → core ≡ work.core → w.seat.now.state.words ≡ work.first.seat.now.state.words
      → aside_of w.seat.now.state ≡ aside_of work.first.seat.now.state → s1.table ≡ w.seat.now.table
      → s1.state ≡ rested w.seat.now.state (with_hand w.seat.now.state.log None) → Settled t conf budgets s1 core j
  settles s1 core same words aside seat state =
      let old_words : w.seat.now.state.words ≡ work.seat.state.words = words ∙ ap (λ (x : WriterState). x.words) work.taken.state in
      let windows : w.seat.now.state.windows ≡ slice_set work.seat.state.windows work.pass.known.worker 0 = ap (λ (a : Aside). a.windows) aside ∙ ap (λ (x : WriterState). x.windows) work.taken.state in
      subst (λ (c : Core). Settled t conf budgets s1 c j) (sym same)
      (unchanged work.taken.laws t conf budgets work.seat s1 work.core j work.pass.known.worker work.taken.settled (seat ∙ table)
      (ap (λ (x : WriterState). x.words) state ∙ old_words)
      (ap (λ (x : WriterState). x.log) state ∙ ap (λ (b : EventLog). with_hand b None) log)
      (ap (λ (x : WriterState). x.windows) state ∙ windows)
      (state ∙ sym (ap (λ (x : WriterState). rested x x.log) state)))

  -- and the pass as it was
  pub same_pass : (q : PassView) → q.table ≡ w.seat.now.table → q.known ≡ in_hand w.seat.now.state.log.hand → q ≡ work.pass
  same_pass q given known =
      let same_table : q.table ≡ work.pass.table = given ∙ (table ∙ sym work.taken.pass) in
      let same_known : q.known ≡ work.pass.known = known ∙ ap (λ (b : EventLog). in_hand b.hand) log in
      ap (λ tb. record { table = tb; known = q.known }) same_table ∙ ap (λ (k : Known). record { table = work.pass.table; known = k }) same_known
