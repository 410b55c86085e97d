-- The steps that split and join passes.
use Rattle.std.proofs.Common.{◌≡◌, ◌≢◌, ℕ, ◌+◌, ◌<◌, ◌==◌, ◌⊎◌, ⊎_elim, inl, inr, true, false, cond, [], ◌∷◌, ◌++◌, length, set, slice_index, Option, Some, None, refl, ap, sym, ◌∙◌, subst, arith, length-set}
use mathlib.Core.Option.{some}
use lib.ListN.{get_elem?}
use Rattle.atomic_table.specs.Table.{Splits, Joins}
use Rattle.atomic_table.proofs.Lists.{at_set, set_here, set_else, at_longer}
use Rattle.apcu_model.specs.declared.request.Event.{Event}
use Rattle.pin_table.specs.declared.views.Known.{Known}
use Rattle.pin_table.specs.declared.views.Reader.{Reader}
use Rattle.pin_table.specs.declared.views.WriterState.{WriterState}
use Rattle.pin_table.specs.declared.views.View.{View}
use Rattle.pin_table.specs.declared.views.View.TheVariants.{Writer, Idle, Copying, Spent}
use Rattle.pin_table.specs.Events.{is_fetch}
use Rattle.pin_table.specs.Pins.{pins_on, is_count}
use Rattle.pin_table.specs.Views.{in_hand, is_in_hand, has_worker, with_hand, with_event, known_after, taken_in, copied, reader_after, takes_in}
use Rattle.pin_table.specs.Order.{PassInOrder, ReaderInOrder}
use Rattle.pin_table.specs.Rule.{IsCarried}
use Rattle.pin_table.proofs.WindowLists.{differs, unlike, alike, at_end, at_less, pins_on-set}
use Rattle.pin_table.proofs.EventLogs.{takes_log, takes_old, gives_log, gives_old, gives_new, moved, last_after}
use Rattle.pin_table.proofs.PassPlaces.{placed_cut, placed_join, copies_out, copies_join}
use Rattle.pin_table.proofs.WriterStates.{hand_free, state_taken, state_copied}
use Rattle.pin_table.proofs.WriterSteps.{At, at_state}

-- a pass comes into the hand
pub takes : (d : WriterState) (other : ℕ) (p : Known) → d.log.hand ≡ None → Joins {S = ℕ} {V = View} IsCarried 0 (Writer d) other (Idle p) (takes_in (Writer d) (Idle p)) Spent
takes d other p nobody s kept at away there = record {
  state = taken_in d p;
  place = a.place;
  copying = a.copying;
  at = set_else (set s.views 0 (Writer (taken_in d p))) other 0 Spent (λ h. away (sym h)) ∙ set_here s.views 0 (Writer (taken_in d p)) a.some_view;
  count = a.count;
  each_word = a.each_word;
  state_ok = state_taken d a.copying p a.state_ok (takes_log d.log a.place other p a.state_ok.log ok.0) ok.1;
  idle = λ k q h. let b = back k (Idle q) (λ e. absurd (cc (e))) (λ e. absurd (cc (e))) h in let r = a.idle k q b.1 in (takes_old d.log a.place other k p q b.0 ok.0 r.0, r.1);
  copy = λ k c h. let b = back k (Copying c) (λ e. absurd (cc (e))) (λ e. absurd (cc (e))) h in let r = a.copy k c b.1 in (takes_old d.log a.place other k p c.known b.0 ok.0 r.0, record { some_block = r.1.some_block; copies = r.1.copies; first = r.1.first; content = r.1.content; pin = r.1.pin });
  placed = placed_join d.log (with_hand d.log (Some p)) a.place s.views d (Writer (taken_in d p)) p other a.at (sym (set_else s.views 0 other (Writer (taken_in d p)) away) ∙ there) older a.placed;
  copies = copies_join a.copying s.views d (taken_in d p) p other a.at there a.copies;
}
  where
    older : (w : ℕ) → w < d.log.made → is_in_hand w (with_hand d.log (Some p)).hand ≡ false → has_worker w (with_hand d.log (Some p)).closed ≡ false → (w ≢ p.worker) × (w < d.log.made) × (is_in_hand w d.log.hand ≡ false) × (has_worker w d.log.closed ≡ false)
    older w m h c = ((λ e. differs p.worker w h (sym e)), m, ap (is_in_hand w) nobody, c)

    a : At s.words s.views d
    a = at_state s.words s.views d kept at

    ok : PassInOrder d.log (at_state s.words s.views d kept at).place other p × (get_elem? (at_state s.words s.views d kept at).copying p.worker ≡ some 0)
    ok = (at_state s.words s.views d kept at).idle other p (sym (set_else s.views 0 other (Writer (taken_in d p)) away) ∙ there)

    back : (k : ℕ) (v : View) → (Spent ≡ v → ⊥) → (Writer (taken_in d p) ≡ v → ⊥) → get_elem? (set (set s.views 0 (Writer (taken_in d p))) other Spent) k ≡ some v → ¬ (k ≡ other) × (get_elem? s.views k ≡ some v)
    back k v ns nw h = ⊎_elim (λ (t : (k ≡ other) × (Spent ≡ v)). absurd (ns t.1)) (λ (t : (k ≢ other) × (get_elem? (set s.views 0 (Writer (taken_in d p))) k ≡ some v)).
        ⊎_elim (λ (u : (k ≡ 0) × (Writer (taken_in d p) ≡ v)). absurd (nw u.1)) (λ (u : (k ≢ 0) × (get_elem? s.views k ≡ some v)). (t.0, u.1)) (at_set s.views 0 k (Writer (taken_in d p)) v t.1)) (at_set (set s.views 0 (Writer (taken_in d p))) other k Spent v h)

-- the worker in the hand makes its event, and copies the pinned block
pub pins_out : (d : WriterState) (e : Event) (p : Known) → d.log.hand ≡ Some p → e.worker ≡ p.worker → is_fetch e.request ≡ true → 0 < p.left → 0 < d.pinning
    → Splits {S = ℕ} {V = View} IsCarried 0 (Writer d) (Writer (copied d e)) (Copying (reader_after d e))
pins_out d e p inhand same fetch some_left some_block s kept at = record {
  state = copied d e;
  place = moved a.place p.worker (length s.views);
  copying = set a.copying p.worker d.pinning;
  at = at_longer (set s.views 0 (Writer (copied d e))) (Copying (reader_after d e) ∷ []) 0 (Writer (copied d e)) (set_here s.views 0 (Writer (copied d e)) a.some_view);
  count = a.count;
  each_word = word;
  state_ok = state_copied d a.copying e p a.state_ok (gives_log d.log e p a.state_ok.log inhand same some_left) inhand same fetch;
  idle = λ k q h. ⊎_elim (λ (t : get_elem? s.views k ≡ some (Idle q)). let r = a.idle k q t in (gives_old d.log e p q a.place (length s.views) k inhand same r.0, set_else a.copying p.worker q.worker d.pinning (apart k q r.0) ∙ r.1))
      (λ (t : (k ≡ length s.views) × (Copying (reader_after d e) ≡ Idle q)). absurd (cc (t.1))) (back k (Idle q) (λ x. absurd (cc (x))) h);
  copy = λ k c h. ⊎_elim (λ (t : get_elem? s.views k ≡ some (Copying c)).
      let r = a.copy k c t in (gives_old d.log e p c.known a.place (length s.views) k inhand same r.0, record { some_block = r.1.some_block; copies = set_else a.copying p.worker c.known.worker d.pinning (apart k c.known r.0) ∙ r.1.copies; first = r.1.first; content = r.1.content; pin = r.1.pin }))
      (λ (t : (k ≡ length s.views) × (Copying (reader_after d e) ≡ Copying c)).
      let is : reader_after d e ≡ c = cc (t.1) in
      subst (λ j. PassInOrder (with_event d.log e) (moved a.place p.worker (length s.views)) j c.known × ReaderInOrder (copied d e) (set a.copying p.worker d.pinning) c) (sym t.0)
      (subst (λ (x : Reader). PassInOrder (with_event d.log e) (moved a.place p.worker (length s.views)) (length s.views) x.known × ReaderInOrder (copied d e) (set a.copying p.worker d.pinning) x) is new)) (back k (Copying c) (λ x. absurd (cc (x))) h);
  placed = placed_cut d.log (with_event d.log e) a.place s.views d (Writer (copied d e)) (Copying (reader_after d e)) p.worker a.at (alike (in_hand d.log.hand).worker p.worker who) older a.placed;
  copies = copies_out a.copying s.views d (copied d e) (reader_after d e) p.worker a.at free a.copies;
}
  where
    older : (w : ℕ) → w ≢ p.worker → w < d.log.made → is_in_hand w None ≡ false → has_worker w d.log.closed ≡ false → (w < d.log.made) × (is_in_hand w d.log.hand ≡ false) × (has_worker w d.log.closed ≡ false)
    older w n m h c = (m, ap (is_in_hand w) inhand ∙ unlike p.worker w (λ e. n (sym e)), c)

    a : At s.words s.views d
    a = at_state s.words s.views d kept at

    free : get_elem? (at_state s.words s.views d kept at).copying p.worker ≡ some 0
    free = hand_free d (at_state s.words s.views d kept at).copying p (at_state s.words s.views d kept at).state_ok inhand

    who : (in_hand d.log.hand).worker ≡ p.worker
    who = ap (λ h. (in_hand h).worker) inhand

    apart : (k : ℕ) (q : Known) → PassInOrder d.log (at_state s.words s.views d kept at).place k q → q.worker ≢ p.worker
    apart k q r =
        let aw : (p.worker == q.worker) ≡ false = subst (λ (h : Option Known). is_in_hand q.worker h ≡ false) inhand r.away in
        λ h. differs p.worker q.worker aw (sym h)

    word : (i : ℕ) → slice_index s.words i ≡ slice_index d.words i + pins_on i (0 ∷ set (at_state s.words s.views d kept at).copying p.worker d.pinning)
    word i =
        let c = pins_on-set i (at_state s.words s.views d kept at).copying p.worker d.pinning 0 free in
        let c2 : pins_on i (set (at_state s.words s.views d kept at).copying p.worker d.pinning) + 0 ≡ pins_on i (at_state s.words s.views d kept at).copying + cond (is_count i d.pinning) 1 0 = c in
        let w = (at_state s.words s.views d kept at).each_word i in
        omega (arith, w, c2)

    new : PassInOrder (with_event d.log e) (moved (at_state s.words s.views d kept at).place p.worker (length s.views)) (length s.views) (known_after d.log e) × ReaderInOrder (copied d e) (set (at_state s.words s.views d kept at).copying p.worker d.pinning) (reader_after d e)
    new =
        let x = at_state s.words s.views d kept at in (
          gives_new d.log e p x.place (length s.views) x.state_ok.log inhand same some_left,
          record {
            some_block = some_block;
            copies = ap (get_elem? (set x.copying p.worker d.pinning)) (ap (λ h. (in_hand h).worker) inhand) ∙ set_here x.copying p.worker d.pinning (at_less x.copying p.worker 0 (hand_free d x.copying p x.state_ok inhand));
            first = refl;
            content = refl;
            pin = (e, fetch, last_after None d.log.history e, last_after None (in_hand d.log.hand).own e);
          },
        )

    back : (k : ℕ) (v : View) → (Writer (copied d e) ≡ v → ⊥) → get_elem? (set s.views 0 (Writer (copied d e)) ++ Copying (reader_after d e) ∷ []) k ≡ some v
        → (get_elem? s.views k ≡ some v) ⊎ ((k ≡ length s.views) × (Copying (reader_after d e) ≡ v))
    back k v nw h = ⊎_elim (λ (g : get_elem? (set s.views 0 (Writer (copied d e))) k ≡ some v).
        ⊎_elim (λ (u : (k ≡ 0) × (Writer (copied d e) ≡ v)). absurd (nw u.1)) (λ (u : (k ≢ 0) × (get_elem? s.views k ≡ some v)). inl u.1) (at_set s.views 0 k (Writer (copied d e)) v g))
        (λ t. inr (t.0 ∙ length-set s.views 0 (Writer (copied d e)), t.1)) (at_end (set s.views 0 (Writer (copied d e))) (Copying (reader_after d e)) v k h)
