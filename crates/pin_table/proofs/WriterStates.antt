-- Blocks that a store leaves alone, and the state after each step.
use Rattle.std.proofs.Common.{◌≡◌, ◌≢◌, ℕ, zero, suc, ◌+◌, ◌/◌, ◌<◌, ◌≤◌, ◌==◌, ⊎_elim, inl, inr, Bool, true, false, cond, List, [], ◌∷◌, ◌++◌, length, take, drop, set, slice_set, slice_index, Some, None, refl, ap, sym, ◌∙◌, subst, arith, length-set}
use Rattle.std.proofs.lemmas.Bool.{false≢true, false_from_ne_true, or_left, or_right}
use Rattle.std.proofs.lemmas.List.{get_or-set_other}
use Rattle.std.proofs.lemmas.Nat.Bits.{bit_at-zero}
use Rattle.seg_words.specs.declared.layout.TheConstants.{HEAD_WORDS, KEY_LENGTH, IMAGE_LENGTH, PIN_COUNT}
use mathlib.Core.Option.{some, some-injective}
use lib.ListN.{get_elem?}
use Rattle.atomic_table.proofs.Lists.{at_set, set_here, set_else}
use Rattle.seg_words.specs.Windows.{has, holders, held_by}
use Rattle.seg_words.specs.Blocks.{image_place, image_end, IsApart, MayStore}
use Rattle.apcu_model.specs.declared.request.Event.{Event}
use Rattle.pin_table.specs.declared.views.Known.{Known}
use Rattle.pin_table.specs.declared.views.EventLog.{EventLog}
use Rattle.pin_table.specs.declared.views.Reader.{Reader}
use Rattle.pin_table.specs.declared.views.WriterState.{WriterState}
use Rattle.pin_table.specs.Events.{fetched_last, is_fetch}
use Rattle.pin_table.specs.Pins.{pins_on, content_of, IsBlock, AreApart, refused_in}
use Rattle.pin_table.specs.Views.{in_hand, is_in_hand, has_worker, with_hand, with_event, with_closed, named_blocks, with_words, with_log, rested, taken_in, shut, freed, met, pinning_at, copied}
use Rattle.pin_table.specs.Order.{LogInOrder, StateInOrder, ReaderInOrder}
use Rattle.pin_table.proofs.WindowLists.{named_there, differs, unlike, alike, at_less, at_there, same_there, closed_back, closed_keeps, length-closed, holders_bit, held_bit, or_bit, pins_none, range_set}
use Rattle.pin_table.proofs.EventLogs.{fetched_after, fetched_nothing}

-- no worker relies on the word i
abbrev pub Outside : WriterState → ℕ → Type 0
Outside d i = (j at : ℕ) → get_elem? (named_blocks d) j ≡ some at → 0 < at → IsApart d.words at i

pub outside_from : (d : WriterState) (i : ℕ) → d.pinning ≡ 0 → MayStore d.words d.windows i → Outside d i
outside_from d i nothing may zero at h pos = absurd (omega (arith, some-injective d.pinning at h, nothing))
outside_from d i nothing may (suc j) at h pos = may at (named_there d.windows j at h pos)

module _ (ws : List ℕ) (i x at : ℕ) (out : IsApart ws at i) where
  same_place : image_place (slice_set ws i x) at ≡ image_place ws at
  same_place = ap (λ n. at + HEAD_WORDS + (n + 7) / 8) (get_or-set_other ws i (at + KEY_LENGTH) x 0 (λ e. out.key_length (sym e)))

  pub same_end : image_end (slice_set ws i x) at ≡ image_end ws at
  same_end = let l = get_or-set_other ws i (at + IMAGE_LENGTH) x 0 (λ e. out.image_length (sym e)) in omega (arith, l, same_place)

  pub stands_set : IsBlock ws at → IsBlock (slice_set ws i x) at
  stands_set s = record {
    positive = s.positive;
    zero_count = get_or-set_other ws i (at + PIN_COUNT) x 0 (λ e. out.pin_count (sym e)) ∙ s.zero_count;
    inside = omega (arith, same_end, length-set ws i x, s.inside);
  }

  pub content_set : content_of (slice_set ws i x) at ≡ content_of ws at
  content_set = ap (λ n. take n (drop (image_place (slice_set ws i x) at) (slice_set ws i x))) (get_or-set_other ws i (at + IMAGE_LENGTH) x 0 (λ e. out.image_length (sym e)))
      ∙ (ap (λ m. take (slice_index ws (at + IMAGE_LENGTH)) (drop m (slice_set ws i x))) same_place
      ∙ range_set ws i x (image_place ws at) (slice_index ws (at + IMAGE_LENGTH)) (⊎_elim (λ (a : i < image_place ws at). inl (omega arith)) (λ (a : image_end ws at ≤ i). inr (omega arith)) out.image))

apart_set : (ws : List ℕ) (i x a b : ℕ) → IsApart ws a i → IsApart ws b i → AreApart ws a b → AreApart (slice_set ws i x) a b
apart_set ws i x a b oa ob ap' =
    let ea = same_end ws i x a oa in
    let eb = same_end ws i x b ob in
    ⊎_elim (λ e. inl e) (λ r. inr (⊎_elim (λ (p : image_end ws a ≤ b). inl (omega (arith, ea, p))) (λ (p : image_end ws b ≤ a). inr (omega (arith, eb, p))) r)) ap'

pub state_store : (d : WriterState) (copying : List ℕ) (i x : ℕ) → StateInOrder d copying → Outside d i → StateInOrder (with_words d (slice_set d.words i x)) copying
state_store d copying i x ok out = record {
  log = ok.log;
  few = ok.few;
  seats = ok.seats;
  all_seats = ok.all_seats;
  pins = ok.pins;
  fetched = ok.fetched;
  stand = λ j at h pos. stands_set d.words i x at (out j at h pos) (ok.stand j at h pos);
  apart = λ j k a b ha hb pa pb. apart_set d.words i x a b (out j a ha pa) (out k b hb pb) (ok.apart j k a b ha hb pa pb);
  unread = ok.unread;
  masked = ok.masked;
  shrunk = ok.shrunk;
}

pub copy_store : (d : WriterState) (copying : List ℕ) (i x : ℕ) (c : Reader) → StateInOrder d copying → Outside d i → ReaderInOrder d copying c → ReaderInOrder (with_words d (slice_set d.words i x)) copying c
copy_store d copying i x c ok out copy =
    let o = out (suc c.known.worker) c.block (ok.pins c.known.worker c.block copy.copies copy.some_block) copy.some_block in
    record {
      some_block = copy.some_block;
      copies = copy.copies;
      first = copy.first ∙ sym (same_place d.words i x c.block o);
      content = copy.content ∙ sym (content_set d.words i x c.block o);
      pin = copy.pin;
    }

-- a word outside is the pin count of no block that is copied or being pinned
pub none_outside : (d : WriterState) (copying : List ℕ) (i : ℕ) → StateInOrder d copying → Outside d i → pins_on i (d.pinning ∷ copying) ≡ 0
none_outside d copying i ok out = pins_none i (d.pinning ∷ copying) go
  where
    go : (v at : ℕ) → get_elem? (d.pinning ∷ copying) v ≡ some at → 0 < at → i ≢ at + PIN_COUNT
    go zero at h pos = (out 0 at h pos).pin_count
    go (suc v) at h pos = (out (suc v) at (ok.pins v at h pos) pos).pin_count

-- the worker in the hand copies nothing
pub hand_free : (d : WriterState) (copying : List ℕ) (p : Known) → StateInOrder d copying → d.log.hand ≡ Some p → get_elem? copying p.worker ≡ some 0
hand_free d copying p ok inhand = go t.0 t.1
  where
    t : (a : ℕ) × (get_elem? copying p.worker ≡ some a)
    t = let m = (ok.log.hand p inhand).made in at_there copying p.worker (omega (arith, m, ok.log.count, ok.all_seats))

    go : (a : ℕ) → get_elem? copying p.worker ≡ some a → get_elem? copying p.worker ≡ some 0
    go zero h = h
    go (suc a) h =
        let f = ok.fetched p.worker (suc a) (ok.pins p.worker (suc a) h (omega arith)) (omega arith) in
        let away : (p.worker == p.worker) ≡ false = ap (is_in_hand p.worker) (sym inhand) ∙ f.0 in
        absurd (differs p.worker p.worker away refl)

-- nor does a worker that was not made
pub unmade_free : (d : WriterState) (copying : List ℕ) (v : ℕ) → StateInOrder d copying → d.log.made ≤ v → v < length copying → get_elem? copying v ≡ some 0
unmade_free d copying v ok high less = go t.0 t.1
  where
    t : (a : ℕ) × (get_elem? copying v ≡ some a)
    t = at_there copying v less

    go : (a : ℕ) → get_elem? copying v ≡ some a → get_elem? copying v ≡ some 0
    go zero h = h
    go (suc a) h =
        let f = ok.fetched v (suc a) (ok.pins v (suc a) h (omega arith)) (omega arith) in
        absurd (false≢true (sym (fetched_nothing v d.log.history (ok.log.none v high)) ∙ f.2))

-- a load of a pin count
unrefused_refused : (x n : ℕ) (rs : List (ℕ × ℕ)) (a : ℕ) → has a (refused_in rs) ≡ true → has a (refused_in ((x, n) ∷ rs)) ≡ true
unrefused_refused x n rs a h = go (n == 0)
  where
    go : (b : Bool) → has a (cond b (refused_in rs) (x ∷ refused_in rs)) ≡ true
    go true = h
    go false = or_right (a == x) (has a (refused_in rs)) h

pub state_freed : (d : WriterState) (copying : List ℕ) (x : ℕ) → StateInOrder d copying → ((v : ℕ) → 0 < x → get_elem? copying v ≡ some x → ⊥) → has x (refused_in d.readings) ≡ false → StateInOrder (freed d x) copying
state_freed d copying x ok nil unrefused = record {
  log = ok.log;
  few = ok.few;
  seats = length-closed x d.windows ∙ ok.seats;
  all_seats = ok.all_seats;
  pins = λ v at h p. closed_keeps x d.windows v at (ok.pins v at h p) (λ e. nil v (omega (arith, e, p)) (subst (λ k. get_elem? copying v ≡ some k) e h));
  fetched = λ v at h p. ok.fetched v at (closed_back x d.windows v at h p).0 p;
  stand = λ j at h p. ok.stand j at (back j at h p) p;
  apart = λ j k a b ha hb pa pb. ok.apart j k a b (back j a ha pa) (back k b hb pb) pa pb;
  unread = λ v at h p. let c = closed_back x d.windows v at h p in rw (unlike at x c.1) (ok.unread v at c.0 p);
  masked = λ v h. let m = ok.masked v h in (m.0, closed_keeps x d.windows v m.0 m.1 (λ e. false≢true (sym unrefused ∙ (ap (λ k. has k (refused_in d.readings)) (sym e) ∙ m.3))), m.2, m.3);
  shrunk = λ p e v at h pos. ok.shrunk p e v at (closed_back x d.windows v at h pos).0 pos;
}
  where
    back : (j at : ℕ) → get_elem? (named_blocks (freed d x)) j ≡ some at → 0 < at → get_elem? (named_blocks d) j ≡ some at
    back zero at h p = h
    back (suc j) at h p = (closed_back x d.windows j at h p).0

pub state_refused : (d : WriterState) (copying : List ℕ) (x n : ℕ) → StateInOrder d copying → 0 < x → (n == 0) ≡ false → StateInOrder (met d x n) copying
state_refused d copying x n ok pos is = record {
  log = ok.log;
  few = ok.few;
  seats = ok.seats;
  all_seats = ok.all_seats;
  pins = ok.pins;
  fetched = ok.fetched;
  stand = ok.stand;
  apart = ok.apart;
  unread = λ v at h p. rw is (ok.unread v at h p);
  masked = λ v h. elim (or_bit d.mask (holders d.windows x) v h) [
    | inl old ↦ let m = ok.masked v old in (m.0, m.1, m.2, unrefused_refused x n d.readings m.0 m.3)
    | inr new ↦ (x, holders_bit d.windows x v new, pos, rw is (or_left (x == x) (has x (refused_in d.readings)) (alike x x refl)))
  ];
  shrunk = ok.shrunk;
}

-- no worker that was met has its window on a block that was not probed
pub not_held : (d : WriterState) (copying : List ℕ) (x : ℕ) → StateInOrder d copying → has x (refused_in d.readings) ≡ false → has x (held_by d.mask d.windows) ≡ false
not_held d copying x ok unrefused = false_from_ne_true (has x (held_by d.mask d.windows)) (λ h.
    let t = held_bit d.mask d.windows x h in
    let m = ok.masked t.0 t.1 in
    let same : m.0 ≡ x = same_there d.windows t.0 m.0 x m.1 t.2 in
    false≢true (sym unrefused ∙ (ap (λ k. has k (refused_in d.readings)) (sym same) ∙ m.3)))

-- one more pin
pub state_pins : (d : WriterState) (copying : List ℕ) (x : ℕ) → StateInOrder d copying → IsBlock d.words x → ((j b : ℕ) → get_elem? d.windows j ≡ some b → 0 < b → AreApart d.words x b)
    → StateInOrder (pinning_at d x) copying
state_pins d copying x ok stands apart = record {
  log = ok.log;
  few = ok.few;
  seats = ok.seats;
  all_seats = ok.all_seats;
  pins = ok.pins;
  fetched = ok.fetched;
  stand = stand';
  apart = apart';
  unread = ok.unread;
  masked = ok.masked;
  shrunk = ok.shrunk;
}
  where
    stand' : (j at : ℕ) → get_elem? (x ∷ d.windows) j ≡ some at → 0 < at → IsBlock d.words at
    stand' zero at h p = subst (IsBlock d.words) (some-injective x at h) stands
    stand' (suc j) at h p = ok.stand (suc j) at h p

    turn : (a b : ℕ) → AreApart d.words a b → AreApart d.words b a
    turn a b r = ⊎_elim (λ e. inl (sym e)) (λ r. inr (⊎_elim (λ p. inr p) (λ p. inl p) r)) r

    apart' : (j k a b : ℕ) → get_elem? (x ∷ d.windows) j ≡ some a → get_elem? (x ∷ d.windows) k ≡ some b → 0 < a → 0 < b → AreApart d.words a b
    apart' zero zero a b ha hb pa pb = inl (some-injective a b (sym ha ∙ hb))
    apart' zero (suc k) a b ha hb pa pb = subst (λ y. AreApart d.words y b) (some-injective x a ha) (apart k b hb pb)
    apart' (suc j) zero a b ha hb pa pb = subst (λ y. AreApart d.words a y) (some-injective x b hb) (turn x a (apart j a ha pa))
    apart' (suc j) (suc k) a b ha hb pa pb = ok.apart (suc j) (suc k) a b ha hb pa pb

-- a window is closed
set_back : (pinning : ℕ) (ws : List ℕ) (w j at : ℕ) → get_elem? (pinning ∷ set ws w 0) j ≡ some at → 0 < at → get_elem? (pinning ∷ ws) j ≡ some at
set_back pinning ws w zero at h pos = h
set_back pinning ws w (suc j) at h pos = ⊎_elim (λ (t : (j ≡ w) × (0 ≡ at)). absurd (omega (arith, t.1))) (λ (t : (j ≢ w) × (get_elem? ws j ≡ some at)). t.1) (at_set ws w j 0 at h)

set_other : (ws : List ℕ) (w j at : ℕ) → get_elem? (set ws w 0) j ≡ some at → 0 < at → (j ≢ w) × (get_elem? ws j ≡ some at)
set_other ws w j at h pos = ⊎_elim (λ (t : (j ≡ w) × (0 ≡ at)). absurd (omega (arith, t.1))) (λ (t : (j ≢ w) × (get_elem? ws j ≡ some at)). t) (at_set ws w j 0 at h)

pins_shut : (ws copying : List ℕ) (w : ℕ) → get_elem? copying w ≡ some 0 → ((v at : ℕ) → get_elem? copying v ≡ some at → 0 < at → get_elem? ws v ≡ some at)
    → (v at : ℕ) → get_elem? copying v ≡ some at → 0 < at → get_elem? (set ws w 0) v ≡ some at
pins_shut ws copying w free pins v at h pos =
    set_else ws w v 0 (λ e. let s = same_there copying v 0 at (subst (λ u. get_elem? copying u ≡ some 0) (sym e) free) h in absurd (omega (arith, s))) ∙ pins v at h pos

-- a pass comes into the hand
pub state_taken : (d : WriterState) (copying : List ℕ) (p : Known) → StateInOrder d copying → LogInOrder (with_hand d.log (Some p)) → get_elem? copying p.worker ≡ some 0 → StateInOrder (taken_in d p) copying
state_taken d copying p ok log free = record {
  log = log;
  few = ok.few;
  seats = length-set d.windows p.worker 0 ∙ ok.seats;
  all_seats = ok.all_seats;
  pins = pins_shut d.windows copying p.worker free ok.pins;
  fetched = λ v at h pos. let o = set_other d.windows p.worker v at h pos in let f = ok.fetched v at o.1 pos in (unlike p.worker v (λ e. o.0 (sym e)), f.1, f.2);
  stand = λ j at h pos. ok.stand j at (set_back d.pinning d.windows p.worker j at h pos) pos;
  apart = λ j k a b ha hb pa pb. ok.apart j k a b (set_back d.pinning d.windows p.worker j a ha pa) (set_back d.pinning d.windows p.worker k b hb pb) pa pb;
  unread = λ v at h pos. refl;
  masked = λ v h. absurd (omega (arith, bit_at-zero v));
  shrunk = λ q e v at h pos. h;
}

-- a pass is taken in at the end
pub state_shut : (d : WriterState) (copying : List ℕ) (p : Known) → StateInOrder d copying → d.log.hand ≡ None → LogInOrder (with_closed d.log p) → get_elem? copying p.worker ≡ some 0 → StateInOrder (shut d p) copying
state_shut d copying p ok nobody log free = record {
  log = log;
  few = ok.few;
  seats = length-set d.windows p.worker 0 ∙ ok.seats;
  all_seats = ok.all_seats;
  pins = pins_shut d.windows copying p.worker free ok.pins;
  fetched = λ v at h pos. let o = set_other d.windows p.worker v at h pos in let f = ok.fetched v at o.1 pos in (f.0, rw (unlike p.worker v (λ e. o.0 (sym e))) f.1, f.2);
  stand = λ j at h pos. ok.stand j at (set_back d.pinning d.windows p.worker j at h pos) pos;
  apart = λ j k a b ha hb pa pb. ok.apart j k a b (set_back d.pinning d.windows p.worker j a ha pa) (set_back d.pinning d.windows p.worker k b hb pb) pa pb;
  unread = λ v at h pos. refl;
  masked = λ v h. absurd (omega (arith, bit_at-zero v));
  shrunk = λ q e. absurd (cc (e, nobody));
}

-- the worker in the hand leaves it
pub state_rested : (d : WriterState) (copying : List ℕ) (b : EventLog) → StateInOrder d copying → LogInOrder b → length b.budgets ≡ length d.log.budgets → b.hand ≡ None
    → ((v at : ℕ) → get_elem? d.windows v ≡ some at → 0 < at → (has_worker v b.closed ≡ false) × (fetched_last v b.history false ≡ true)) → StateInOrder (rested d b) copying
state_rested d copying b ok log seats nobody fetched = record {
  log = log;
  few = ok.few;
  seats = ok.seats;
  all_seats = seats ∙ ok.all_seats;
  pins = ok.pins;
  fetched = λ v at h pos. let f = fetched v at h pos in (ap (is_in_hand v) nobody, f.0, f.1);
  stand = ok.stand;
  apart = ok.apart;
  unread = λ v at h pos. refl;
  masked = λ v h. absurd (omega (arith, bit_at-zero v));
  shrunk = λ q e. absurd (cc (e, nobody));
}

pub other_fetched : (d : WriterState) (copying : List ℕ) (e : Event) (p : Known) → StateInOrder d copying → d.log.hand ≡ Some p → e.worker ≡ p.worker
    → (v at : ℕ) → get_elem? d.windows v ≡ some at → 0 < at → (v ≢ p.worker) × (has_worker v d.log.closed ≡ false) × (fetched_last v (d.log.history ++ e ∷ []) false ≡ true)
other_fetched d copying e p ok inhand same v at h pos =
    let f = ok.fetched v at h pos in
    let away : (p.worker == v) ≡ false = ap (is_in_hand v) (sym inhand) ∙ f.0 in
    let apart : v ≢ p.worker = λ q. differs p.worker v away (sym q) in
    let no_event : (e.worker == v) ≡ false = unlike e.worker v (λ q. apart (sym q ∙ same)) in
    (apart, f.1, fetched_after v d.log.history e false ∙ rw no_event f.2)

-- another log, where the same worker is in the hand
pub state_made : (d : WriterState) (copying : List ℕ) (b : EventLog) → StateInOrder d copying → LogInOrder b → b.budgets ≡ d.log.budgets → b.hand ≡ d.log.hand → b.history ≡ d.log.history → b.closed ≡ d.log.closed
    → StateInOrder (with_log d b) copying
state_made d copying b ok log budgets hand history closed = record {
  log = log;
  few = ok.few;
  seats = ok.seats;
  all_seats = ap length budgets ∙ ok.all_seats;
  pins = ok.pins;
  fetched = λ v at h pos. let f = ok.fetched v at h pos in (ap (is_in_hand v) hand ∙ f.0, ap (has_worker v) closed ∙ f.1, ap (λ es. fetched_last v es false) history ∙ f.2);
  stand = ok.stand;
  apart = ok.apart;
  unread = ok.unread;
  masked = ok.masked;
  shrunk = λ p e. ok.shrunk p (sym hand ∙ e);
}

-- the worker in the hand copies the pinned block
pub state_copied : (d : WriterState) (copying : List ℕ) (e : Event) (p : Known) → StateInOrder d copying → LogInOrder (with_event d.log e) → d.log.hand ≡ Some p → e.worker ≡ p.worker → is_fetch e.request ≡ true
    → StateInOrder (copied d e) (set copying p.worker d.pinning)
state_copied d copying e p ok log inhand same fetch = record {
  log = log;
  few = omega (arith, length-set copying p.worker d.pinning, ok.few);
  seats = length-set d.windows (in_hand d.log.hand).worker d.pinning ∙ (ok.seats ∙ sym (length-set copying p.worker d.pinning));
  all_seats = ok.all_seats ∙ sym (length-set copying p.worker d.pinning);
  pins = pins';
  fetched = λ v at h pos. fetched' v at (subst (λ w. get_elem? (set d.windows w d.pinning) v ≡ some at) who h) pos;
  stand = λ j at h pos. let b = back j at h pos in ok.stand b.0 at b.1 pos;
  apart = λ j k a b ha hb pa pb. let x = back j a ha pa in let y = back k b hb pb in ok.apart x.0 y.0 a b x.1 y.1 pa pb;
  unread = λ v at h pos. refl;
  masked = λ v h. absurd (omega (arith, bit_at-zero v));
  shrunk = λ q g. absurd (cc g);
}
  where
    who : (in_hand d.log.hand).worker ≡ p.worker
    who = ap (λ h. (in_hand h).worker) inhand

    fetched' : (v at : ℕ) → get_elem? (set d.windows p.worker d.pinning) v ≡ some at → 0 < at → (is_in_hand v None ≡ false) × (has_worker v d.log.closed ≡ false) × (fetched_last v (d.log.history ++ e ∷ []) false ≡ true)
    fetched' v at h pos = ⊎_elim
        (λ (t : (v ≡ p.worker) × (d.pinning ≡ at)).
        let mine : (e.worker == v) ≡ true = alike e.worker v (same ∙ sym t.0) in (
          refl,
          ap (λ u. has_worker u d.log.closed) t.0 ∙ ok.log.away p inhand,
          fetched_after v d.log.history e false ∙ rw mine fetch,
        ))
        (λ (t : (v ≢ p.worker) × (get_elem? d.windows v ≡ some at)). let f = other_fetched d copying e p ok inhand same v at t.1 pos in (refl, f.1, f.2))
        (at_set d.windows p.worker v d.pinning at h)

    pins' : (v at : ℕ) → get_elem? (set copying p.worker d.pinning) v ≡ some at → 0 < at → get_elem? (set d.windows (in_hand d.log.hand).worker d.pinning) v ≡ some at
    pins' v at h pos = subst (λ w. get_elem? (set d.windows w d.pinning) v ≡ some at) (sym who)
        (⊎_elim (λ (t : (v ≡ p.worker) × (d.pinning ≡ at)).
        let l = at_less copying p.worker 0 (hand_free d copying p ok inhand) in
        subst (λ w. get_elem? (set d.windows p.worker d.pinning) w ≡ some at) (sym t.0) (set_here d.windows p.worker d.pinning (omega (arith, l, ok.seats)) ∙ ap some t.1))
        (λ (t : (v ≢ p.worker) × (get_elem? copying v ≡ some at)). set_else d.windows p.worker v d.pinning t.0 ∙ ok.pins v at t.1 pos) (at_set copying p.worker v d.pinning at h))

    back : (j at : ℕ) → get_elem? (named_blocks (copied d e)) j ≡ some at → 0 < at → (k : ℕ) × (get_elem? (named_blocks d) k ≡ some at)
    back zero at h pos = let s : 0 ≡ at = some-injective 0 at h in absurd (omega arith)
    back (suc j) at h pos = ⊎_elim (λ (t : (j ≡ (in_hand d.log.hand).worker) × (d.pinning ≡ at)). (0, ap some t.1)) (λ (t : (j ≢ (in_hand d.log.hand).worker) × (get_elem? d.windows j ≡ some at)). (suc j, t.1)) (at_set d.windows (in_hand d.log.hand).worker j d.pinning at h)

-- a block is released
pub state_released : (d : WriterState) (copying : List ℕ) (w : ℕ) → StateInOrder d copying → w < length copying → StateInOrder d (set copying w 0)
state_released d copying w ok less = record {
  log = ok.log;
  few = omega (arith, length-set copying w 0, ok.few);
  seats = ok.seats ∙ sym (length-set copying w 0);
  all_seats = ok.all_seats ∙ sym (length-set copying w 0);
  pins = λ v at h pos. ok.pins v at (set_other copying w v at h pos).1 pos;
  fetched = ok.fetched;
  stand = ok.stand;
  apart = ok.apart;
  unread = ok.unread;
  masked = ok.masked;
  shrunk = ok.shrunk;
}
