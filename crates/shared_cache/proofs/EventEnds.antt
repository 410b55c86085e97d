-- An event keeps what the lock guards, and the pass knows it.
use Rattle.std.proofs.Common.{◌≡◌, ℕ, suc, ◌+◌, ◌^◌, ◌<◌, ◌≤◌, ◌==◌, ◌&&◌, true, List, [], ◌∷◌, ◌++◌, length, Some, refl, ap, sym, ◌∙◌, subst, arith, sum, length-append, cond}
use Rattle.apcu_model.specs.declared.journal.TheConstants.{MOST_EVENTS}
use Rattle.std.proofs.lemmas.Bool.{eq-eqb}
use mathlib.Core.List.{IsPrefix}
use Rattle.atomic_table.specs.Seated.{TableId}
use Rattle.apcu_model.specs.declared.conf.Conf.{Conf}
use Rattle.apcu_model.specs.declared.request.Event.{Event}
use Rattle.apcu_model.specs.declared.request.Request.{Request}
use Rattle.apcu_model.specs.declared.request.Reply.{Reply}
use Rattle.apcu_model.specs.History.{Stage, start_of, stage_of, all_legal, is_legal_mask, is_shallow, are_shallow, reply_in, after_event, mark_of, marks_of}
use Rattle.apcu_model.specs.Journal.{Marks}
use Rattle.cache_core.specs.declared.cache.Core.{Core}
use Rattle.cache_core.specs.CoreCache.{cache_of, CoreStands}
use Rattle.pin_table.specs.declared.views.Known.{Known}
use Rattle.pin_table.specs.declared.views.EventLog.{EventLog}
use Rattle.pin_table.specs.declared.views.WriterState.{WriterState}
use Rattle.pin_table.specs.Values.{WriterView, PassView}
use Rattle.pin_table.specs.Events.{event, events_of}
use Rattle.pin_table.specs.Views.{with_hand, with_event, known_after, rested, aside_of}
use Rattle.shared_cache.specs.Laws.{LockLaws}
use Rattle.shared_cache.specs.TiedWindows.{AreTied}
use Rattle.shared_cache.specs.LockInvariant.{Settled}
use Rattle.shared_cache.specs.Follows.{Follows}
use Rattle.shared_cache.proofs.Windows.{Running, legal_mask}

length_marks : (h : List Event) → length (marks_of h) ≡ length h
length_marks [] = refl
length_marks (e ∷ h) = ap suc (length_marks h)

module _ (t : TableId) (conf : Conf) (budgets : List ℕ) (s : WriterView) (c : Core) (j : Marks)
    (ok : Settled t conf budgets s c j) where
  -- the history is as long as the journal
  pub journal_long : length j.marks ≡ length s.state.log.history
  journal_long = ap length ok.journal_is ∙ length_marks s.state.log.history

  -- and no longer than all budgets
  pub short_history : length s.state.log.history ≤ MOST_EVENTS
  short_history = omega (arith, journal_long, ok.enough, ok.limited)

  -- where a worker may make an event, there is room for its mark
  pub room_left : (left : ℕ) → 1 ≤ left → length s.state.log.history + left ≤ sum s.state.log.budgets → 0 < j.room
  room_left left some_left within = let b = ap sum ok.budgets_are in omega (arith, journal_long, ok.enough, b, some_left, within)

-- One event of the pass p, from the seat s0 to the seat s1 by the state d at its end.
pub record Ends (t : TableId) (conf : Conf) (budgets : List ℕ) (s0 s1 : WriterView) (d : WriterState) (c0 c1 : Core) (p q : PassView) (time : ℕ) (r : Request) (j0 j1 : Marks) : Type 0 where
  pub laws : LockLaws
  pub settled : Settled t conf budgets s0 c0 j0
  pub run : Running d p.known s0.state.windows
  pub log : d.log ≡ with_hand s0.state.log (Some p.known)
  pub small : d.mask < 2 ^ 64
  pub flat : is_shallow r ≡ true
  pub table : s1.table ≡ t
  pub after : s1.state.log ≡ with_event d.log (event p.known.worker time r d.mask)
  pub resting : s1.state ≡ rested s1.state s1.state.log
  pub pass_table : q.table ≡ p.table
  pub pass_known : q.known ≡ known_after d.log (event p.known.worker time r d.mask)
  pub seen : IsPrefix p.known.seen s0.state.log.history
  pub own : events_of p.known.worker s0.state.log.history ≡ p.known.own
  pub some_left : 1 ≤ p.known.left
  pub tied : AreTied (after_event (stage_of conf s0.state.log.history) (event p.known.worker time r d.mask)) s1.state.windows
  pub stands : CoreStands c1 s1.state.words (aside_of s1.state)
  pub cache : cache_of c1 ≡ (after_event (stage_of conf s0.state.log.history) (event p.known.worker time r d.mask)).cache
  pub marks : j1.marks ≡ j0.marks ++ (record { worker = p.known.worker; mask = d.mask }) ∷ []
  pub room : j1.room + 1 ≡ j0.room

module _ (t : TableId) (conf : Conf) (budgets : List ℕ) (s0 s1 : WriterView) (d : WriterState) (c0 c1 : Core) (p q : PassView) (time : ℕ) (r : Request) (j0 j1 : Marks)
    (h : Ends t conf budgets s0 s1 d c0 c1 p q time r j0 j1) where
  abbrev pub e : Event
  e = event p.known.worker time r d.mask

  abbrev pub m : Stage
  m = stage_of conf s0.state.log.history

  history : s1.state.log.history ≡ s0.state.log.history ++ e ∷ []
  history = ap (λ (b : EventLog). b.history) h.after ∙ ap (λ (b : EventLog). b.history ++ e ∷ []) h.log

  next : stage_of conf s1.state.log.history ≡ after_event m e
  next = ap (stage_of conf) history ∙ h.laws.more.after (start_of conf) s0.state.log.history e

  seats : length d.log.budgets ≡ length budgets
  seats = ap (λ (b : EventLog). length b.budgets) h.log ∙ ap length h.settled.budgets_are

  legal : is_legal_mask (length budgets) p.known.worker m d.mask ≡ true
  legal = legal_mask (length budgets) m d p.known s0.state.windows h.run h.settled.tied seats h.small

  all : all_legal (length budgets) (start_of conf) (s0.state.log.history ++ e ∷ []) ≡ true
  all = h.laws.more.legal (length budgets) (start_of conf) s0.state.log.history e
      ∙ (ap (λ b. b && is_legal_mask (length budgets) p.known.worker m d.mask) h.settled.legal ∙ legal)

  pub settles : Settled t conf budgets s1 c1 j1
  settles = record {
    table = h.table;
    idle = ap (λ (b : EventLog). b.hand) h.after;
    resting = h.resting;
    budgets_are = ap (λ (b : EventLog). b.budgets) h.after ∙ (ap (λ (b : EventLog). b.budgets) h.log ∙ h.settled.budgets_are);
    made = ap (λ (b : EventLog). b.made) h.after ∙ (ap (λ (b : EventLog). b.made) h.log ∙ h.settled.made);
    stands = h.stands;
    cache = h.cache ∙ ap (λ (n : Stage). n.cache) (sym next);
    legal = ap (all_legal (length budgets) (start_of conf)) history ∙ all;
    shallow = ap are_shallow history ∙ (h.laws.more.shallow s0.state.log.history e ∙ (ap (λ b. b && is_shallow r) h.settled.shallow ∙ h.flat));
    tied = subst (λ (n : Stage). AreTied n s1.state.windows) (sym next) h.tied;
    journal_is = h.marks ∙ (ap (λ l. l ++ mark_of e ∷ []) h.settled.journal_is ∙ (sym (h.laws.more.marks s0.state.log.history e) ∙ ap marks_of (sym history)));
    enough = let l = ap length h.marks in omega (arith, l, length-append j0.marks (mark_of e ∷ []), h.room, h.settled.enough);
    limited = h.settled.limited;
  }

  pub follows : (y : Reply) → y ≡ reply_in m e → Follows conf (length budgets) p q time r y
  follows y is =
      let k : q.known ≡ known_after (with_hand s0.state.log (Some p.known)) e = h.pass_known ∙ ap (λ (b : EventLog). known_after b e) h.log in
      let w : q.known.worker ≡ p.known.worker = ap (λ (x : Known). x.worker) k in
      let mine : (e.worker == p.known.worker) ≡ true = eq-eqb p.known.worker p.known.worker refl in
      let hist : (p.known.seen ++ h.seen.0) ≡ s0.state.log.history = h.seen.1 in
      let saw : q.known.seen ≡ s0.state.log.history ++ e ∷ [] = ap (λ (x : Known). x.seen) k in
      let made : q.known.own ≡ p.known.own ++ e ∷ [] = ap (λ (x : Known). x.own) k in
      record {
        mask = d.mask;
        between = h.seen.0;
        table = h.pass_table;
        worker = w;
        left = let l = ap (λ (x : Known). x.left) k in omega (arith, l, h.some_left);
        own = made;
        seen = saw ∙ ap (λ l. l ++ e ∷ []) (sym hist);
        all_own = ap (λ v. events_of v q.known.seen) w
            ∙ (ap (events_of p.known.worker) saw
            ∙ (h.laws.rule.own p.known.worker s0.state.log.history e
            ∙ (ap (λ b. cond b (events_of p.known.worker s0.state.log.history ++ e ∷ []) (events_of p.known.worker s0.state.log.history)) mine
            ∙ (ap (λ l. l ++ e ∷ []) h.own ∙ sym made))));
        legal = ap (all_legal (length budgets) (start_of conf)) saw ∙ all;
        reply = is ∙ ap (λ l. reply_in (stage_of conf l) e) (sym hist);
      }

  -- and so is what else is so at the event's place
  pub follows_with : (y : Reply) → y ≡ reply_in m e → (At : ℕ → List Event → Type 0) → At d.mask h.seen.0 → (f : Follows conf (length budgets) p q time r y) × At f.mask f.between
  unfolding follows
  follows_with y is At a = (follows y is, a)
