use Rattle.std.proofs.Common.{◌≡◌, ◌∙◌, ◌≤◌, ℕ, List, length, sum, sym, ap, subst}
use Rattle.apcu_model.specs.declared.journal.TheConstants.{MOST_EVENTS}
use Rattle.apcu_model.specs.Cache.{Cache, empty_cache}
use Rattle.apcu_model.specs.Conf.{usable_of}
use Rattle.pin_table.specs.declared.views.WriterState.{WriterState}
use Rattle.pin_table.specs.Lists.{first_passes, first_state}
use Rattle.shared_cache.proofs.CopyEvents.{first_settled}
use Rattle.shared_cache.proofs.opening.opened.Goals as goal

pub format-core-requires-clause-usable : goal.format-core-requires-clause-usable
format-core-requires-clause-usable c = usable_of c.requires.may.good

pub invariant_of-result : goal.invariant_of-result
invariant_of-result c =
    let words = c.format-core.new.seg.items.items in
    let state = c.in_ok-table.ensures.state in
    let budgets : c.in_ok-table.seat.state.log.budgets ≡ c.args.budgets.now = ap (λ (x : WriterState). x.log.budgets) state in
    let conf : c.format-core.result.conf ≡ c.args.conf.now = ap (λ (x : Cache). x.conf) c.format-core.ensures.made in
    record {
      settled = first_settled c.lower_laws.ensures c.in_ok-table.table c.format-core.result.conf c.in_ok-table.seat.state.log.budgets c.in_ok-table.seat c.format-core.result c.in_ok-journal.journal words
          c.in_ok-table.ensures.table
          (state ∙ ap (first_state words) (sym budgets))
          (record { stand = c.format-core.ensures.stand.stand; whole = c.format-core.ensures.stand.whole })
          (c.format-core.ensures.made ∙ ap empty_cache (sym conf))
          c.in_ok-journal.ensures.0
          (c.in_ok-journal.ensures.1 ∙ (c.requires.events ∙ ap sum (sym budgets)))
          (subst (λ (l : List ℕ). sum l ≤ MOST_EVENTS) (sym budgets) c.requires.may.budgets_are.limited);
      no_event = ap (λ (x : WriterState). x.log.history) state;
      passes_are = c.in_ok-table.ensures.passes ∙ ap (λ (l : List ℕ). first_passes c.in_ok-table.table l (length l)) (sym budgets);
      none_ended = c.in_ok-table.ensures.ended;
      seats = subst (λ (l : List ℕ). length l ≤ c.in_ok-table.ended.room) (sym budgets) c.in_ok-table.ensures.room;
    }
