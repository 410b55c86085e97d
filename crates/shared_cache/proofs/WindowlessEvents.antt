-- An event that opens no window of the segment.
use Rattle.std.proofs.Common.{◌≡◌, ℕ, ◌+◌, ◌<◌, ◌^◌, true, List, [], ◌∷◌, ◌++◌, length, refl, ap, sym, ◌∙◌, subst}
use Rattle.atomic_table.specs.Seated.{TableId}
use Rattle.seg_words.specs.Windows.{held_by}
use Rattle.apcu_model.specs.declared.conf.Conf.{Conf}
use Rattle.apcu_model.specs.declared.request.Event.{Event}
use Rattle.apcu_model.specs.declared.request.Request.{Request}
use Rattle.apcu_model.specs.declared.request.Reply.{Reply}
use Rattle.apcu_model.specs.Cache.{Cache}
use Rattle.apcu_model.specs.History.{Stage, stage_of, is_shallow, after_event}
use Rattle.apcu_model.specs.Journal.{Marks}
use Rattle.apcu_model.specs.Sequential.{cache_after, reply_to}
use Rattle.entry_slots.specs.Standing.{entries}
use Rattle.ttl_expunge.specs.ProbedRows.{KeepsOpen}
use Rattle.cache_core.specs.declared.cache.Core.{Core}
use Rattle.cache_core.specs.CoreCache.{cache_of, CoreStands}
use Rattle.cache_core.specs.Events.{Does}
use Rattle.cache_core.proofs.Events.{by_now}
use Rattle.pin_table.specs.contracts.writer.WriterWordsIn.TheImpl.{ghosts}
use Rattle.pin_table.specs.declared.views.WriterState.{WriterState}
use Rattle.pin_table.specs.declared.writer.Writer.{Writer}
use Rattle.pin_table.specs.Values.{WriterView, PassView}
use Rattle.pin_table.specs.Order.{StateInOrder}
use Rattle.pin_table.specs.Events.{event}
use Rattle.pin_table.specs.Views.{with_event, known_after, rested, aside_of}
use Rattle.shared_cache.specs.TiedWindows.{AreTied}
use Rattle.shared_cache.specs.LockInvariant.{Settled}
use Rattle.shared_cache.specs.UnderLock.{AtWork, FollowsAt}
use Rattle.shared_cache.proofs.Windows.{Running, StayOpen, tied_after}
use Rattle.shared_cache.proofs.EventEnds.{Ends}
use Rattle.shared_cache.proofs.EventProgress.{Works, works_of, worker, table, log, run, alike, cache_in, reply_is, core_closed}
use Rattle.shared_cache.proofs.EventEnds as all_ends

-- The writer w has recorded an event of r in the journal, has left the seat s1, and has given its pass back as q.
pub record Passes (w : Writer) (s1 : WriterView) (q : PassView) (time : ℕ) (r : Request) (j0 j1 : Marks) : Type 0 where
  pub order : (copying : List ℕ) × StateInOrder w.seat.now.state copying
  pub small : w.seat.now.state.mask < 2 ^ 64
  pub seat : s1.table ≡ w.seat.now.table
  pub state : s1.state ≡ rested w.seat.now.state (with_event w.seat.now.state.log (event w.worker time r w.seat.now.state.mask))
  pub given : q.table ≡ w.seat.now.table
  pub known : q.known ≡ known_after w.seat.now.state.log (event w.worker time r w.seat.now.state.mask)
  pub marks : j1.marks ≡ j0.marks ++ (record { worker = w.worker; mask = w.seat.now.state.mask }) ∷ []
  pub room : j1.room + 1 ≡ j0.room
  pub flat : is_shallow r ≡ true

-- A writer's work that ends so, where a writer of this state was left by what the event does.
module _ {t : TableId} {conf : Conf} {budgets : List ℕ} {j0 j1 : Marks} {w left : Writer} {s1 : WriterView} {q : PassView} {c1 : Core} {time : ℕ} {r : Request} {y : Reply}
    (work : AtWork t conf budgets j0 w) (h : Passes w s1 q time r j0 j1) (same : left.seat.now.state ≡ w.seat.now.state) (does : Does ghosts work.core c1 work.first left time r y) where
  abbrev pub d : WriterState
  d = w.seat.now.state

  abbrev pub m : Stage
  m = stage_of conf work.seat.state.log.history

  abbrev pub e : Event
  e = event work.pass.known.worker time r w.seat.now.state.mask

  abbrev works : Works t conf budgets work.seat work.first w work.core work.pass j0
  works = works_of work h.order h.small

  who : w.worker ≡ work.pass.known.worker
  who = worker t conf budgets work.seat work.first w work.core work.pass j0 works

  whose : w.seat.now.table ≡ t
  whose = table t conf budgets work.seat work.first w work.core work.pass j0 works

  runs : Running w.seat.now.state work.pass.known work.seat.state.windows
  runs = run t conf budgets work.seat work.first w work.core work.pass j0 works

  after : cache_of c1 ≡ (after_event m e).cache
  after = cache_in t conf budgets work.seat work.first w work.core work.pass j0 works time r (cache_of c1)
      (subst (λ (x : WriterState). cache_of c1 ≡ cache_after (held_by x.mask x.windows) time r (cache_of work.core)) same (by_now (λ held. cache_after held time r (cache_of work.core)) does.cache))

  keeps : KeepsOpen w.seat.now.state.windows (entries work.core.slots) (entries c1.slots)
  keeps = subst (λ (x : WriterState). KeepsOpen x.windows (entries work.core.slots) (entries c1.slots)) same does.step.keeps

  stay : StayOpen w.seat.now.state.windows m.cache (after_event m e).cache
  stay = subst (λ (x : Cache). StayOpen w.seat.now.state.windows x (after_event m e).cache) work.taken.settled.cache
      (subst (StayOpen w.seat.now.state.windows (cache_of work.core)) after (record { each = keeps.each }))

  pub ends : Ends t conf budgets work.seat s1 w.seat.now.state work.core c1 work.pass q time r j0 j1
  ends = record {
    laws = work.taken.laws;
    settled = work.taken.settled;
    run = runs;
    log = log t conf budgets work.seat work.first w work.core work.pass j0 works;
    small = h.small;
    flat = h.flat;
    table = h.seat ∙ whose;
    after = ap (λ (x : WriterState). x.log) h.state ∙ ap (λ v. with_event d.log (event v time r d.mask)) who;
    resting = h.state ∙ sym (ap (λ (x : WriterState). rested x x.log) h.state);
    pass_table = h.given ∙ (whose ∙ sym work.taken.pass);
    pass_known = h.known ∙ ap (λ v. known_after d.log (event v time r d.mask)) who;
    seen = work.taken.seen;
    own = work.taken.own;
    some_left = work.taken.left;
    tied = subst (AreTied (after_event m e)) (sym (ap (λ (x : WriterState). x.windows) h.state)) (tied_after work.taken.laws m e d work.pass.known work.seat.state.windows runs work.taken.settled.tied refl stay);
    stands = subst (λ (x : WriterState). CoreStands c1 x.words (aside_of x)) (sym h.state)
        (core_closed work.taken.laws c1 d.words (aside_of d) (aside_of (rested d (with_event d.log (event w.worker time r d.mask)))) (λ at n. n)
        (subst (λ (x : WriterState). CoreStands c1 x.words (aside_of x)) same does.step.stand));
    cache = after;
    marks = h.marks ∙ ap (λ v. j0.marks ++ (record { worker = v; mask = d.mask }) ∷ []) who;
    room = h.room;
  }

  pub settles : Settled t conf budgets s1 c1 j1
  settles = all_ends.settles t conf budgets work.seat s1 w.seat.now.state work.core c1 work.pass q time r j0 j1 ends

  -- at its place in the history
  pub follows_at : FollowsAt conf (length budgets) work.pass q time r y work.seat.state.log.history w.seat.now.state.mask w.seat.now.state.windows
  unfolding ends
  follows_at =
      let reply = subst (λ (x : WriterState). y ≡ reply_to (held_by x.mask x.windows) time r (cache_of work.core)) same (by_now (λ held. reply_to held time r (cache_of work.core)) does.reply) in
      let f = all_ends.follows_with t conf budgets work.seat s1 w.seat.now.state work.core c1 work.pass q time r j0 j1 ends y (reply_is t conf budgets work.seat work.first w work.core work.pass j0 works time r y reply)
      (λ mask between. (mask ≡ d.mask) × (work.pass.known.seen ++ between ≡ work.seat.state.log.history)) (refl, work.taken.seen.1) in
      record { follows = f.0; mask_is = f.1.0; before = f.1.1; held = alike t conf budgets work.seat work.first w work.core work.pass j0 works }
