-- How a writer's work under the lock begins and ends.
use Rattle.std.proofs.Common.{◌≡◌, ℕ, ◌+◌, ◌≤◌, ◌<◌, List, length, sum, Some, ap, sym, ◌∙◌, subst}
use Rattle.std.specs.Prelude.{Result, Ok, Err, IfOk}
use mathlib.Core.List.{IsPrefix}
use Rattle.atomic_table.specs.Seated.{TableId}
use Rattle.seg_words.specs.Windows.{Aside, held_by}
use Rattle.apcu_model.specs.declared.conf.Conf.{Conf}
use Rattle.apcu_model.specs.declared.request.Event.{Event}
use Rattle.php_graph.specs.declared.kind.Kind.{Kind}
use Rattle.apcu_model.specs.declared.request.Request.TheVariants as request
use Rattle.apcu_model.specs.declared.request.Reply.TheVariants as reply
use Rattle.apcu_model.specs.Levels.{Generator}
use Rattle.apcu_model.specs.Generators.{Filling, entered}
use Rattle.apcu_model.specs.Cache.{Cache}
use Rattle.apcu_model.specs.History.{stage_of, held_places}
use Rattle.apcu_model.specs.Journal.{Marks}
use Rattle.cache_core.specs.declared.cache.Core.{Core}
use Rattle.cache_core.specs.CoreCache.{cache_of}
use Rattle.cache_core.specs.Events.{MayDrop, IsBy}
use Rattle.cache_core.proofs.Events.{by_now, may_insert}
use Rattle.counter_entry.specs.declared.answer.Fate.{Fate}
use Rattle.counter_entry.specs.Generating.{fate_of}
use Rattle.pin_table.specs.declared.views.Known.{Known}
use Rattle.pin_table.specs.declared.views.EventLog.{EventLog}
use Rattle.pin_table.specs.declared.views.WriterState.{WriterState}
use Rattle.pin_table.specs.contracts.writer.WriterWordsIn.TheImpl.{ghosts}
use Rattle.pin_table.specs.declared.writer.Writer.{Writer}
use Rattle.pin_table.specs.Values.{WriterView, PassView}
use Rattle.pin_table.specs.Events.{events_of}
use Rattle.pin_table.specs.Views.{with_hand, in_hand}
use Rattle.pin_table.specs.WriterRest.{rest_of}
use Rattle.shared_cache.specs.Laws.{LockLaws}
use Rattle.shared_cache.specs.LockInvariant.{Settled}
use Rattle.shared_cache.specs.Follows.{FollowsEntry}
use Rattle.shared_cache.specs.UnderLock.{Taken, WritesOn, AtWork, FollowsAt}
use Rattle.shared_cache.proofs.EventProgress.{Took, begun_stands, none_refused, writes_on}
use Rattle.shared_cache.proofs.ScalarWindows.{none_scalar}
use Rattle.shared_cache.proofs.EventEnds.{room_left}

-- what is known of the writer that took a pass
pub taken : LockLaws → (t : TableId) (conf : Conf) (budgets : List ℕ) (s : WriterView) (c : Core) (j : Marks) (p : PassView) (w : Writer)
    → Settled t conf budgets s c j → p.table ≡ t → 1 ≤ p.known.left → Took t s p w → w.left ≡ p.known.left → IsPrefix p.known.seen s.state.log.history
    → events_of p.known.worker s.state.log.history ≡ p.known.own → length s.state.log.history + p.known.left ≤ sum s.state.log.budgets
    → Taken t conf budgets s c j p w
taken laws t conf budgets s c j p w settled pass left took events_left seen own within = record {
  laws = laws;
  settled = settled;
  pass = pass;
  left = left;
  table = took.table;
  state = took.state;
  worker = took.worker;
  events_left = events_left;
  seen = seen;
  own = own;
  within = within;
  ready = may_insert (begun_stands laws t s p w c took settled.stands) (none_refused t s p w took);
  shape = ap (λ (x : Cache). x.conf) settled.cache ∙ laws.keep.conf_in conf s.state.log.history;
  unnamed = none_scalar laws t conf budgets s c j settled p w took;
}

module _ (t : TableId) (conf : Conf) (budgets : List ℕ) (j : Marks) (w : Writer) (work : AtWork t conf budgets j w) where
  log : w.seat.now.state.log ≡ with_hand work.seat.state.log (Some work.pass.known)
  log = work.writes_on.log ∙ ap (λ (x : WriterState). x.log) work.taken.state

  in_it : in_hand w.seat.now.state.log.hand ≡ work.pass.known
  in_it = ap (λ (b : EventLog). in_hand b.hand) log

  -- the pass is in the writer's hand
  pub hand : w.seat.now.state.log.hand ≡ Some (in_hand w.seat.now.state.log.hand)
  hand = ap (λ (b : EventLog). b.hand) log ∙ ap Some (sym in_it)

  pub worker_is : (in_hand w.seat.now.state.log.hand).worker ≡ w.worker
  worker_is = ap (λ (k : Known). k.worker) in_it ∙ sym (work.writes_on.worker ∙ work.taken.worker)

  pub left_is : (in_hand w.seat.now.state.log.hand).left ≡ w.left
  left_is = ap (λ (k : Known). k.left) in_it ∙ sym (work.writes_on.left ∙ work.taken.events_left)

  pub some_left : 1 ≤ w.left
  some_left = subst (λ n. 1 ≤ n) (sym (work.writes_on.left ∙ work.taken.events_left)) work.taken.left

  -- and the journal has room for the event
  pub roomy : 0 < j.room
  roomy = room_left t conf budgets work.seat work.core j work.taken.settled work.pass.known.left work.taken.left work.taken.within

-- a writer of which only words, and what it met, have changed since it took the pass
abbrev pub at_work : {t : TableId} {conf : Conf} {budgets : List ℕ} {s : WriterView} {c : Core} {j : Marks} {p : PassView} {first w : Writer} → Taken t conf budgets s c j p first
    → rest_of w ≡ rest_of first → AtWork t conf budgets j w
at_work {s} {c} {p} {first} took rest = record { seat = s; core = c; pass = p; first = first; taken = took; writes_on = writes_on rest }

-- a writer that goes on is at work still
abbrev pub later_work : {t : TableId} {conf : Conf} {budgets : List ℕ} {j : Marks} {w later : Writer} → AtWork t conf budgets j w → WritesOn w later → AtWork t conf budgets j later
later_work work on = record {
  seat = work.seat;
  core = work.core;
  pass = work.pass;
  first = work.first;
  taken = work.taken;
  writes_on = record {
    worker = on.worker ∙ work.writes_on.worker;
    left = on.left ∙ work.writes_on.left;
    table = on.table ∙ work.writes_on.table;
    log = on.log ∙ work.writes_on.log;
    begun = on.begun ∙ work.writes_on.begun;
  };
}

-- rows may be dropped
abbrev pub drops_first : {t : TableId} {conf : Conf} {budgets : List ℕ} {s : WriterView} {c : Core} {j : Marks} {p : PassView} {w : Writer} → Taken t conf budgets s c j p w → MayDrop ghosts c w
drops_first took = record { stand = took.ready.stand; refused = took.ready.refused }

-- the event of a generator
pub entry_of : (t : TableId) (conf : Conf) (budgets : List ℕ) (s : WriterView) (c : Core) (j : Marks) (p q : PassView) (first : Writer) → Taken t conf budgets s c j p first
    → (time : ℕ) (g : Generator) (value : List Kind) (fate : Fate) (mask : ℕ) (windows : List ℕ)
    → FollowsAt conf (length budgets) p q time (request.Entry g) (reply.Gave value) s.state.log.history mask windows
    → fate ≡ fate_of (entered (held_by mask windows) g time (cache_of c)).outermost → FollowsEntry conf (length budgets) p q time g value fate
entry_of t conf budgets s c j p q first took time g value fate mask windows at is =
    let m : Cache = (stage_of conf s.state.log.history).cache in
    let there : ℕ → List Event → Filling = λ n h. entered (held_places (stage_of conf h) n) g time (stage_of conf h).cache in
    let entering : entered (held_by mask windows) g time (cache_of c) ≡ there mask s.state.log.history =
    ap (entered (held_by mask windows) g time) took.settled.cache ∙ took.laws.alike.entered (held_by mask windows) (held_places (stage_of conf s.state.log.history) mask) at.held g time m in
    record {
      follows = at.follows;
      fate_is = is ∙ (ap (λ (f : Filling). fate_of f.outermost) entering
          ∙ (ap (λ n. fate_of (there n s.state.log.history).outermost) (sym at.mask_is)
          ∙ ap (λ h. fate_of (there at.follows.mask h).outermost) (sym at.before)));
    }

-- and so it is of each answer
pub entries_of : (t : TableId) (conf : Conf) (budgets : List ℕ) (s : WriterView) (c : Core) (j : Marks) (p q : PassView) (first : Writer) → Taken t conf budgets s c j p first
    → (time : ℕ) (g : Generator) (aside : Aside) {E : Type 0} (answer : Result (List Kind × Fate) E)
    → IfOk answer (λ v. FollowsAt conf (length budgets) p q time (request.Entry g) (reply.Gave v.0) s.state.log.history aside.mask aside.windows)
    → IfOk answer (λ v. IsBy aside (λ held. fate_of (entered held g time (cache_of c)).outermost) v.1) → IfOk answer (λ v. FollowsEntry conf (length budgets) p q time g v.0 v.1)
entries_of t conf budgets s c j p q first took time g aside (Ok v) at is =
    entry_of t conf budgets s c j p q first took time g v.0 v.1 aside.mask aside.windows at (by_now (λ held. fate_of (entered held g time (cache_of c)).outermost) is)
entries_of t conf budgets s c j p q first took time g aside (Err e) at is = tt
