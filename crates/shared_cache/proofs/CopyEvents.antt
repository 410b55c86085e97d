-- The event of a fetch that pins a block, an event that did not take place, and the start.
use Rattle.std.proofs.Common.{◌≡◌, ℕ, zero, suc, ◌+◌, ◌<◌, ◌≤◌, true, List, [], ◌∷◌, ◌++◌, length, Some, None, refl, ap, sym, ◌∙◌, subst, sum, slice_set, replicate, arith}
use Rattle.apcu_model.specs.declared.journal.TheConstants.{MOST_EVENTS}
use mathlib.Core.Option.{some, some-injective, some-ne-none}
use lib.ListN.{get_elem?}
use Rattle.atomic_table.specs.Seated.{TableId}
use Rattle.seg_words.specs.Windows.{is_named, nothing_aside}
use Rattle.apcu_model.specs.declared.conf.Conf.{Conf}
use Rattle.apcu_model.specs.declared.request.Event.{Event}
use Rattle.apcu_model.specs.declared.request.Request.TheVariants as request
use Rattle.apcu_model.specs.declared.request.Reply.TheVariants as reply
use Rattle.apcu_model.specs.Cache.{Cache, empty_cache}
use Rattle.apcu_model.specs.History.{Stage, start_of, stage_of, after_event, all_legal, are_shallow, marks_of}
use Rattle.apcu_model.specs.Journal.{Marks}
use Rattle.apcu_model.specs.Sequential.{looked_up, found_in}
use Rattle.apcu_model.specs.Expiry.{live_row}
use Rattle.cache_core.specs.declared.cache.Core.{Core}
use Rattle.cache_core.specs.declared.scalar.Look.TheVariants as look
use Rattle.cache_core.specs.CoreCache.{cache_of, CoreStands}
use Rattle.cache_core.specs.Looking.{look_of}
use Rattle.pin_table.specs.declared.views.EventLog.{EventLog}
use Rattle.pin_table.specs.declared.views.WriterState.{WriterState}
use Rattle.pin_table.specs.declared.views.Reader.{Reader}
use Rattle.pin_table.specs.declared.writer.Writer.{Writer}
use Rattle.pin_table.specs.Values.{WriterView, PassView, CopyView}
use Rattle.pin_table.specs.Events.{event}
use Rattle.pin_table.specs.Lists.{first_state}
use Rattle.pin_table.specs.Views.{with_hand, with_event, known_after, rested, copied, pinning_at, reader_after, in_hand, aside_of}
use Rattle.value_image.specs.Laws.{ImagesAreRuns}
use Rattle.shared_cache.specs.Laws.{LockLaws}
use Rattle.shared_cache.specs.TiedWindows.{AreTied}
use Rattle.shared_cache.specs.LockInvariant.{Settled}
use Rattle.shared_cache.specs.PinnedFetches.{FollowsFound, pass_view_of}
use Rattle.shared_cache.proofs.Windows.{Running, set_other, from_before, named_set}
use Rattle.shared_cache.proofs.EventEnds.{Ends}
use Rattle.shared_cache.proofs.EventEnds as all_ends
use Rattle.shared_cache.proofs.EventProgress.{Works, worker, table, log, run, cache_in, reply_is, core_closed}
use Rattle.shared_cache.proofs.Fetches.{IsHit, hit_of, IsUsed, used_in, core_opened, found_image, tied_opened}

-- One event of the pass p, from the seat s0 to the seat s1: a fetch that found a value in the block at `at`, from
-- which k copies.
pub record Copies (t : TableId) (conf : Conf) (budgets : List ℕ) (s0 s1 : WriterView) (w0 w : Writer) (c0 c1 : Core) (p : PassView) (k : CopyView) (time : ℕ) (key : List ℕ) (at : ℕ) (j0 j1 : Marks) : Type 0 where
  pub works : Works t conf budgets s0 w0 w c0 p j0
  pub images : ImagesAreRuns
  pub seat : s1.table ≡ w.seat.now.table
  pub state : s1.state ≡ copied (pinning_at w.seat.now.state at) (event w.worker time (request.Fetch key) w.seat.now.state.mask)
  pub given : k.table ≡ w.seat.now.table
  pub copy : k.copy ≡ reader_after (pinning_at w.seat.now.state at) (event w.worker time (request.Fetch key) w.seat.now.state.mask)
  pub hit : look.Hit at ≡ look_of (live_row key time (cache_of c0))
  pub stands : CoreStands c1 w.seat.now.state.words (aside_of w.seat.now.state)
  pub cache : cache_of c1 ≡ looked_up key time (live_row key time (cache_of c0)) (cache_of c0)
  pub marks : j1.marks ≡ j0.marks ++ (record { worker = w.worker; mask = w.seat.now.state.mask }) ∷ []
  pub room : j1.room + 1 ≡ j0.room

module _ (t : TableId) (conf : Conf) (budgets : List ℕ) (s0 s1 : WriterView) (w0 w : Writer) (c0 c1 : Core) (p : PassView) (k : CopyView) (time : ℕ) (key : List ℕ) (at : ℕ) (j0 j1 : Marks)
    (h : Copies t conf budgets s0 s1 w0 w c0 c1 p k time key at j0 j1) where
  abbrev pub d : WriterState
  d = w.seat.now.state

  abbrev pub m : Stage
  m = stage_of conf s0.state.log.history

  abbrev pub e : Event
  e = event p.known.worker time (request.Fetch key) w.seat.now.state.mask

  who : w.worker ≡ p.known.worker
  who = worker t conf budgets s0 w0 w c0 p j0 h.works

  whose : w.seat.now.table ≡ t
  whose = table t conf budgets s0 w0 w c0 p j0 h.works

  runs : Running w.seat.now.state p.known s0.state.windows
  runs = run t conf budgets s0 w0 w c0 p j0 h.works

  logs : w.seat.now.state.log ≡ with_hand s0.state.log (Some p.known)
  logs = log t conf budgets s0 w0 w c0 p j0 h.works

  found : IsHit key time (cache_of c0) at
  found = hit_of key time (cache_of c0) at h.hit

  use_of : IsUsed c1 at found.row.graph
  use_of = used_in key time at c0 c1 found h.cache

  hand : (in_hand w.seat.now.state.log.hand).worker ≡ p.known.worker
  hand = ap (λ (b : EventLog). (in_hand b.hand).worker) logs

  windows : s1.state.windows ≡ slice_set d.windows p.known.worker at
  windows = ap (λ (x : WriterState). x.windows) h.state ∙ ap (λ v. slice_set d.windows v at) hand

  ends : Ends t conf budgets s0 s1 w.seat.now.state c0 c1 p (pass_view_of k) time (request.Fetch key) j0 j1
  ends = record {
    laws = h.works.laws;
    settled = h.works.settled;
    run = runs;
    log = logs;
    small = h.works.small;
    flat = refl;
    table = h.seat ∙ whose;
    after = ap (λ (x : WriterState). x.log) h.state ∙ ap (λ v. with_event d.log (event v time (request.Fetch key) d.mask)) who;
    resting = h.state ∙ sym (ap (λ (x : WriterState). rested x x.log) h.state);
    pass_table = h.given ∙ (whose ∙ sym h.works.pass);
    pass_known = ap (λ (r : Reader). r.known) h.copy ∙ ap (λ v. known_after d.log (event v time (request.Fetch key) d.mask)) who;
    seen = h.works.seen;
    own = h.works.own;
    some_left = h.works.some_left;
    tied = subst (AreTied (after_event m e)) (sym windows)
        (tied_opened m p.known.worker time d.mask at key d.windows (subst (λ (x : Cache). IsHit key time x at) h.works.settled.cache found)
        (λ v x there pos other. h.works.settled.tied v x (from_before d p.known s0.state.windows runs v x there pos).1 pos));
    stands = subst (λ ws. CoreStands c1 ws (aside_of s1.state)) (sym (ap (λ (x : WriterState). x.words) h.state))
        (core_opened h.works.laws c1 d.words (aside_of d) (aside_of s1.state) p.known.worker at found.row.graph use_of windows h.stands);
    cache = cache_in t conf budgets s0 w0 w c0 p j0 h.works time (request.Fetch key) (cache_of c1) h.cache;
    marks = h.marks ∙ ap (λ v. j0.marks ++ (record { worker = v; mask = d.mask }) ∷ []) who;
    room = h.room;
  }

  pub settles : Settled t conf budgets s1 c1 j1
  settles = all_ends.settles t conf budgets s0 s1 w.seat.now.state c0 c1 p (pass_view_of k) time (request.Fetch key) j0 j1 ends

  pub follows_found : FollowsFound conf (length budgets) p k time key
  follows_found = record {
    graph = found.row.graph;
    follows = all_ends.follows t conf budgets s0 s1 w.seat.now.state c0 c1 p (pass_view_of k) time (request.Fetch key) j0 j1 ends (reply.Found found.row.graph)
        (reply_is t conf budgets s0 w0 w c0 p j0 h.works time (request.Fetch key) (reply.Found found.row.graph) (sym (ap found_in found.live)));
    whole = found.whole;
    image = subst (λ (r : Reader). Rattle.value_image.specs.Image.IsImageOf r.content 0 (length r.content) found.row.graph) (sym h.copy)
        (found_image h.images c1 d.words (aside_of d) at found.row.graph use_of h.stands);
  }

-- there was no event, and the window of the worker w is closed
pub unchanged : LockLaws → (t : TableId) (conf : Conf) (budgets : List ℕ) (s0 s1 : WriterView) (c : Core) (j : Marks) (w : ℕ) → Settled t conf budgets s0 c j → s1.table ≡ t → s1.state.words ≡ s0.state.words
    → s1.state.log ≡ with_hand s0.state.log None → s1.state.windows ≡ slice_set s0.state.windows w 0 → s1.state ≡ rested s1.state s1.state.log → Settled t conf budgets s1 c j
unchanged laws t conf budgets s0 s1 c j w ok table words log windows resting =
    let h : s1.state.log.history ≡ s0.state.log.history = ap (λ (b : EventLog). b.history) log in
    record {
      table = table;
      idle = ap (λ (b : EventLog). b.hand) log;
      resting = resting;
      budgets_are = ap (λ (b : EventLog). b.budgets) log ∙ ok.budgets_are;
      made = ap (λ (b : EventLog). b.made) log ∙ ok.made;
      stands = subst (λ ws. CoreStands c ws (aside_of s1.state)) (sym words)
          (core_closed laws c s0.state.words (aside_of s0.state) (aside_of s1.state) (λ at n. named_set laws s0.state.windows w at (subst (λ l. is_named l at ≡ true) windows n)) ok.stands);
      cache = ok.cache ∙ ap (λ es. (stage_of conf es).cache) (sym h);
      legal = ap (all_legal (length budgets) (start_of conf)) h ∙ ok.legal;
      shallow = ap are_shallow h ∙ ok.shallow;
      tied = subst (λ es. AreTied (stage_of conf es) s1.state.windows) (sym h) (subst (AreTied (stage_of conf s0.state.log.history)) (sym windows) (λ v at g pos. ok.tied v at (set_other s0.state.windows w v at g pos).1 pos));
      journal_is = ok.journal_is ∙ ap marks_of (sym h);
      enough = ok.enough;
      limited = ok.limited;
    }

zero_there : (n v at : ℕ) → get_elem? (replicate n 0) v ≡ some at → at ≡ 0
zero_there zero v at h = absurd (some-ne-none at (sym h))
zero_there (suc n) zero at h = sym (some-injective 0 at h)
zero_there (suc n) (suc v) at h = zero_there n v at h

-- a cache without an event, whose workers were all made
pub first_settled : LockLaws → (t : TableId) (conf : Conf) (budgets : List ℕ) (s : WriterView) (core : Core) (j : Marks) (words : List ℕ) → s.table ≡ t → s.state ≡ first_state words budgets
    → CoreStands core words nothing_aside → cache_of core ≡ empty_cache conf → j.marks ≡ [] → j.room ≡ sum budgets → sum budgets ≤ MOST_EVENTS
    → Settled t conf budgets s core j
first_settled laws t conf budgets s core j words table state st cache empty room few = record {
  table = table;
  idle = ap (λ (x : WriterState). x.log.hand) state;
  resting = state ∙ sym (ap (λ (x : WriterState). rested x x.log) state);
  budgets_are = ap (λ (x : WriterState). x.log.budgets) state;
  made = ap (λ (x : WriterState). x.log.made) state;
  stands = subst (λ (x : WriterState). CoreStands core x.words (aside_of x)) (sym state)
      (core_closed laws core words nothing_aside (aside_of (first_state words budgets)) none st);
  cache = cache ∙ ap (λ (x : WriterState). (stage_of conf x.log.history).cache) (sym state);
  legal = ap (λ (x : WriterState). all_legal (length budgets) (start_of conf) x.log.history) state;
  shallow = ap (λ (x : WriterState). are_shallow x.log.history) state;
  tied = λ v at h pos. absurd (closed at (zero_there (length budgets) v at (subst (λ (x : WriterState). get_elem? x.windows v ≡ some at) state h)) pos);
  journal_is = empty ∙ ap (λ (x : WriterState). marks_of x.log.history) (sym state);
  enough = let l = ap length empty in omega (arith, l, room);
  limited = few;
}
  where
    closed : (at : ℕ) → at ≡ 0 → 0 < at → ⊥
    closed at zero_is pos = omega (arith, zero_is, pos)

    none : (at : ℕ) → is_named (replicate (length budgets) 0) at ≡ true → is_named [] at ≡ true
    none at named = let k = laws.rule.there (replicate (length budgets) 0) at named in absurd (closed at (zero_there (length budgets) k.1.0 at k.1.1) k.0)
