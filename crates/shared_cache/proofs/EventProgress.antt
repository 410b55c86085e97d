-- An event under way.
use Rattle.std.proofs.Common.{◌≡◌, ℕ, ◌^◌, ◌<◌, ◌≤◌, true, false, List, Some, ap, sym, ◌∙◌, subst}
use mathlib.Core.List.{IsPrefix}
use Rattle.atomic_table.specs.Seated.{TableId}
use Rattle.seg_words.specs.Windows.{Aside, has, is_named, held_by}
use Rattle.apcu_model.specs.declared.conf.Conf.{Conf}
use Rattle.apcu_model.specs.declared.request.Request.{Request}
use Rattle.apcu_model.specs.declared.request.Reply.{Reply}
use Rattle.apcu_model.specs.Cache.{Cache}
use Rattle.apcu_model.specs.Change.{AreAlike}
use Rattle.apcu_model.specs.History.{stage_of, held_places, reply_in, after_event}
use Rattle.apcu_model.specs.Journal.{Marks}
use Rattle.apcu_model.specs.Sequential.{cache_after, reply_to}
use Rattle.entry_slots.specs.Standing.{entries}
use Rattle.cache_core.specs.declared.cache.Core.{Core}
use Rattle.cache_core.specs.CoreCache.{cache_of, CoreStands}
use Rattle.pin_table.specs.declared.views.EventLog.{EventLog}
use Rattle.pin_table.specs.declared.views.WriterState.{WriterState}
use Rattle.pin_table.specs.declared.writer.WriterRest.{WriterRest}
use Rattle.pin_table.specs.declared.writer.Writer.{Writer}
use Rattle.pin_table.specs.Values.{WriterView, PassView}
use Rattle.pin_table.specs.Order.{StateInOrder}
use Rattle.pin_table.specs.Events.{event, events_of}
use Rattle.pin_table.specs.Views.{with_hand, taken_in, aside_of}
use Rattle.pin_table.specs.WriterRest.{rest_of}
use Rattle.shared_cache.specs.Laws.{LockLaws}
use Rattle.shared_cache.specs.LockInvariant.{Settled}
use Rattle.shared_cache.specs.UnderLock.{WritesOn, AtWork}
use Rattle.shared_cache.proofs.Windows.{Running, named_set}
use Rattle.shared_cache.proofs.HeldBlocks.{held_alike}
use Rattle.shared_cache.proofs.EventEnds.{short_history}

-- words stand for the same cache where windows close and the mask and refused places change
pub core_closed : LockLaws → (c : Core) (words : List ℕ) (old new : Aside) → ((at : ℕ) → is_named new.windows at ≡ true → is_named old.windows at ≡ true)
    → CoreStands c words old → CoreStands c words new
core_closed laws c words old new fewer st = record { stand = laws.windows.closed c.slots words old new (entries c.slots) fewer st.stand; whole = st.whole }

-- What is known of the writer w that took the pass p.
pub record Took (t : TableId) (s : WriterView) (p : PassView) (w : Writer) : Type 0 where
  pub table : w.seat.now.table ≡ t
  pub state : w.seat.now.state ≡ taken_in s.state p.known
  pub worker : w.worker ≡ p.known.worker

-- the words stand for the cache as the event begins
pub begun_stands : LockLaws → (t : TableId) (s : WriterView) (p : PassView) (w : Writer) (c : Core) → Took t s p w → CoreStands c s.state.words (aside_of s.state)
    → CoreStands c w.seat.now.state.words (aside_of w.seat.now.state)
begun_stands laws t s p w c took st = subst (λ (x : WriterState). CoreStands c x.words (aside_of x)) (sym took.state)
    (core_closed laws c s.state.words (aside_of s.state) (aside_of (taken_in s.state p.known)) (named_set laws s.state.windows p.known.worker) st)

-- nothing is refused as the event begins
pub none_refused : (t : TableId) (s : WriterView) (p : PassView) (w : Writer) → Took t s p w → (b : ℕ) → has b (aside_of w.seat.now.state).refused ≡ false
none_refused t s p w took b = ap (λ (x : WriterState). has b (aside_of x).refused) took.state

-- a call of the core leaves what is kept besides the words
pub writes_on : {first w : Writer} → rest_of w ≡ rest_of first → WritesOn first w
writes_on rest = record {
  worker = ap (λ (b : WriterRest). b.worker) rest;
  left = ap (λ (b : WriterRest). b.left) rest;
  table = ap (λ (b : WriterRest). b.seat.table) rest;
  log = ap (λ (b : WriterRest). b.seat.state.log) rest;
  begun = ap (λ (b : WriterRest). b.seat.state.begun) rest;
}

-- An event of the pass p under way, from the seat s0 on: the writer is w0 as it begins and w as it ends.
pub record Works (t : TableId) (conf : Conf) (budgets : List ℕ) (s0 : WriterView) (w0 w : Writer) (c0 : Core) (p : PassView) (j0 : Marks) : Type 0 where
  pub laws : LockLaws
  pub settled : Settled t conf budgets s0 c0 j0
  pub pass : p.table ≡ t
  pub took : Took t s0 p w0
  pub writes_on : WritesOn w0 w
  pub order : (copying : List ℕ) × StateInOrder w.seat.now.state copying
  pub small : w.seat.now.state.mask < 2 ^ 64
  pub seen : IsPrefix p.known.seen s0.state.log.history
  pub own : events_of p.known.worker s0.state.log.history ≡ p.known.own
  pub some_left : 1 ≤ p.known.left

-- and so it is of a writer at work
abbrev pub works_of : {t : TableId} {conf : Conf} {budgets : List ℕ} {j : Marks} {w : Writer} (work : AtWork t conf budgets j w) → (copying : List ℕ) × StateInOrder w.seat.now.state copying
    → w.seat.now.state.mask < 2 ^ 64 → Works t conf budgets work.seat work.first w work.core work.pass j
works_of work order small = record {
  laws = work.taken.laws;
  settled = work.taken.settled;
  pass = work.taken.pass;
  took = record { table = work.taken.table; state = work.taken.state; worker = work.taken.worker };
  writes_on = work.writes_on;
  order = order;
  small = small;
  seen = work.taken.seen;
  own = work.taken.own;
  some_left = work.taken.left;
}

module _ (t : TableId) (conf : Conf) (budgets : List ℕ) (s0 : WriterView) (w0 w : Writer) (c0 : Core) (p : PassView) (j0 : Marks)
    (h : Works t conf budgets s0 w0 w c0 p j0) where
  pub worker : w.worker ≡ p.known.worker
  worker = h.writes_on.worker ∙ h.took.worker

  pub table : w.seat.now.table ≡ t
  table = h.writes_on.table ∙ h.took.table

  pub log : w.seat.now.state.log ≡ with_hand s0.state.log (Some p.known)
  log = h.writes_on.log ∙ ap (λ (x : WriterState). x.log) h.took.state

  pub run : Running w.seat.now.state p.known s0.state.windows
  run = record {
    copying = h.order.0;
    order = h.order.1;
    hand = ap (λ (b : EventLog). b.hand) log;
    begun = h.writes_on.begun ∙ ap (λ (x : WriterState). x.begun) h.took.state;
  }

  pub alike : AreAlike (held_by w.seat.now.state.mask w.seat.now.state.windows) (held_places (stage_of conf s0.state.log.history) w.seat.now.state.mask)
  alike = held_alike h.laws (stage_of conf s0.state.log.history) w.seat.now.state p.known s0.state.windows
      (h.laws.numbered conf s0.state.log.history (short_history t conf budgets s0 c0 j0 h.settled) h.settled.shallow) run h.settled.tied

  -- the cache after the event, by the history
  pub cache_in : (time : ℕ) (r : Request) (c : Cache) → c ≡ cache_after (held_by w.seat.now.state.mask w.seat.now.state.windows) time r (cache_of c0)
      → c ≡ (after_event (stage_of conf s0.state.log.history) (event p.known.worker time r w.seat.now.state.mask)).cache
  cache_in time r c is = is
      ∙ (ap (cache_after (held_by w.seat.now.state.mask w.seat.now.state.windows) time r) h.settled.cache
      ∙ h.laws.alike.cache (held_by w.seat.now.state.mask w.seat.now.state.windows) (held_places (stage_of conf s0.state.log.history) w.seat.now.state.mask) alike time r (stage_of conf s0.state.log.history).cache)

  -- and the reply
  pub reply_is : (time : ℕ) (r : Request) (y : Reply) → y ≡ reply_to (held_by w.seat.now.state.mask w.seat.now.state.windows) time r (cache_of c0)
      → y ≡ reply_in (stage_of conf s0.state.log.history) (event p.known.worker time r w.seat.now.state.mask)
  reply_is time r y is = is
      ∙ (ap (reply_to (held_by w.seat.now.state.mask w.seat.now.state.windows) time r) h.settled.cache
      ∙ h.laws.alike.reply (held_by w.seat.now.state.mask w.seat.now.state.windows) (held_places (stage_of conf s0.state.log.history) w.seat.now.state.mask) alike time r (stage_of conf s0.state.log.history).cache)
