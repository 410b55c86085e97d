-- The steps of the first set, under the whole rule.
use Rattle.std.proofs.Common.{◌≡◌, ◌≢◌, ℕ, zero, suc, ◌+◌, ◌<◌, ◌≤◌, ◌==◌, ◌⊎◌, ⊎_elim, inl, inr, true, false, List, [], ◌∷◌, ◌++◌, length, set, slice_set, slice_index, replicate, Some, None, refl, ap, sym, ◌∙◌, subst, arith, length-set}
use Rattle.std.proofs.lemmas.Bool.{false≢true}
use Rattle.std.proofs.lemmas.Nat.Bits.{bit_at-zero}
use native.Mathlib.Decide.{dec_le}
use Rattle.std.proofs.lemmas.List.{ext_get_or}
use Rattle.seg_words.specs.declared.layout.TheConstants.{PIN_COUNT}
use Rattle.pin_table.proofs.EventLogs.{fetched_nothing}
use mathlib.Core.Option.{some, some-injective, some-ne-none}
use lib.ListN.{get_elem?}
use Rattle.atomic_table.specs.Table.{State, Splits, Joins, opening}
use Rattle.atomic_table.proofs.Lists.{at_set, set_here, set_else, at_longer}
use Rattle.seg_words.specs.Blocks.{image_place}
use Rattle.apcu_model.specs.declared.request.Event.{Event}
use Rattle.pin_table.specs.declared.views.Known.{Known}
use Rattle.pin_table.specs.declared.views.WriterState.{WriterState}
use Rattle.pin_table.specs.declared.views.Start.{Start}
use Rattle.pin_table.specs.declared.views.View.{View}
use Rattle.pin_table.specs.declared.views.View.TheVariants.{Writer, Idle, Copying, Spent}
use Rattle.pin_table.specs.Events.{fetched_last}
use Rattle.pin_table.specs.Pins.{pins_on, content_of}
use Rattle.pin_table.specs.Views.{in_hand, is_in_hand, has_worker, newcomer, with_newcomer, with_hand, with_event, known_after, seen_all, with_closed, state_of, with_log, rested, shut, on_state, from_log, closes, first_view}
use Rattle.pin_table.specs.Order.{PassInOrder, StateInOrder, Carried, AllPlaced}
use Rattle.pin_table.specs.Rule.{IsCarried}
use Rattle.pin_table.proofs.WindowLists.{differs, unlike, alike, at_end, pins_none}
use Rattle.pin_table.proofs.EventLogs.{makes_log, makes_new, makes_old, gives_log, gives_old, gives_new, back_log, back_old, back_new, seen_new, closes_log, closes_old, moved}
use Rattle.pin_table.proofs.PassPlaces.{placed_cut, placed_join, copies_cut, copies_join, both_false}
use Rattle.pin_table.proofs.WriterStates.{hand_free, unmade_free, state_shut, state_rested, other_fetched, state_made}
use Rattle.pin_table.proofs.WriterSteps.{At, at_state}

-- the writer's state changes, and there is a new pass
cut_idle : (words : List ℕ) (views : List View) (d e : WriterState) (a : At words views d) (place : ℕ → ℕ) (p : Known) → e.words ≡ d.words → e.pinning ≡ d.pinning → StateInOrder e a.copying
    → ((k : ℕ) (q : Known) → PassInOrder d.log a.place k q → PassInOrder e.log place k q) → PassInOrder e.log place (length views) p → get_elem? a.copying p.worker ≡ some 0
    → AllPlaced e.log place (set views 0 (Writer e) ++ Idle p ∷ [])
    → Carried words (slice_set views 0 (Writer e) ++ Idle p ∷ [])
cut_idle words views d e a place p ws pn ok old new free placed = record {
  state = e;
  place = place;
  copying = a.copying;
  at = at_longer (set views 0 (Writer e)) (Idle p ∷ []) 0 (Writer e) (set_here views 0 (Writer e) a.some_view);
  count = a.count ∙ ap length (sym ws);
  each_word = λ k. a.each_word k ∙ (ap (λ l. slice_index l k + pins_on k (d.pinning ∷ a.copying)) (sym ws) ∙ ap (λ q. slice_index e.words k + pins_on k (q ∷ a.copying)) (sym pn));
  state_ok = ok;
  idle = λ k q h. ⊎_elim (λ (t : get_elem? views k ≡ some (Idle q)). let r = a.idle k q t in (old k q r.0, r.1))
      (λ (t : (k ≡ length views) × (Idle p ≡ Idle q)).
      let same : p ≡ q = cc (t.1) in
      subst (λ j. PassInOrder e.log place j q × (get_elem? a.copying q.worker ≡ some 0)) (sym t.0) (subst (λ (x : Known). PassInOrder e.log place (length views) x × (get_elem? a.copying x.worker ≡ some 0)) same (new, free))) (back k (Idle q) (λ x. absurd (cc (x))) h);
  copy = λ k c h. ⊎_elim (λ (t : get_elem? views k ≡ some (Copying c)).
      let r = a.copy k c t in (old k c.known r.0, record { some_block = r.1.some_block; copies = r.1.copies; first = r.1.first ∙ ap (λ l. image_place l c.block) (sym ws); content = r.1.content ∙ ap (λ l. content_of l c.block) (sym ws); pin = r.1.pin }))
      (λ (t : (k ≡ length views) × (Idle p ≡ Copying c)). absurd (cc (t.1))) (back k (Copying c) (λ x. absurd (cc (x))) h);
  placed = placed;
  copies = copies_cut a.copying views d e p a.at a.copies;
}
  where
    back : (k : ℕ) (v : View) → (Writer e ≡ v → ⊥) → get_elem? (set views 0 (Writer e) ++ Idle p ∷ []) k ≡ some v
        → (get_elem? views k ≡ some v) ⊎ ((k ≡ length views) × (Idle p ≡ v))
    back k v nw h = ⊎_elim (λ (g : get_elem? (set views 0 (Writer e)) k ≡ some v).
        ⊎_elim (λ (u : (k ≡ 0) × (Writer e ≡ v)). absurd (nw u.1)) (λ (u : (k ≢ 0) × (get_elem? views k ≡ some v)). inl u.1) (at_set views 0 k (Writer e) v g))
        (λ t. inr (t.0 ∙ length-set views 0 (Writer e), t.1)) (at_end (set views 0 (Writer e)) (Idle p) v k h)

pub makes : (d : WriterState) → d.log.made < length d.log.budgets → Splits {S = ℕ} {V = View} IsCarried 0 (Writer d) (on_state (λ d. with_log d (with_newcomer d.log)) (Writer d)) (from_log newcomer (Writer d))
makes d room s kept at =
    let a = at_state s.words s.views d kept at in
    let b = with_newcomer d.log in
    let n = length s.views in
    cut_idle s.words s.views d (with_log d b) a (moved a.place d.log.made n) (newcomer d.log) refl refl
    (state_made d a.copying b a.state_ok (makes_log d.log a.state_ok.log room) refl refl refl refl)
    (λ k q r. makes_old d.log a.place n k q r) (makes_new d.log a.place n a.state_ok.log)
    (unmade_free d a.copying d.log.made a.state_ok (omega arith) (omega (arith, room, a.state_ok.all_seats)))
    (placed_cut d.log b a.place s.views d (Writer (with_log d b)) (Idle (newcomer d.log)) d.log.made a.at (alike d.log.made d.log.made refl) (λ w ne m h c. (omega (arith, m, ne), h, c)) a.placed)

pub gives : (d : WriterState) (e : Event) (p : Known) → d.log.hand ≡ Some p → e.worker ≡ p.worker → 0 < p.left
    → Splits {S = ℕ} {V = View} IsCarried 0 (Writer d) (on_state (λ d. rested d (with_event d.log e)) (Writer d)) (from_log (λ b. known_after b e) (Writer d))
gives d e p inhand same some_left s kept at =
    let a = at_state s.words s.views d kept at in
    let b = with_event d.log e in
    let n = length s.views in
    cut_idle s.words s.views d (rested d b) a (moved a.place p.worker n) (known_after d.log e) refl refl
    (state_rested d a.copying b a.state_ok (gives_log d.log e p a.state_ok.log inhand same some_left) refl refl (λ v at h pos. let f = other_fetched d a.copying e p a.state_ok inhand same v at h pos in (f.1, f.2)))
    (λ k q r. gives_old d.log e p q a.place n k inhand same r) (gives_new d.log e p a.place n a.state_ok.log inhand same some_left)
    (ap (λ h. get_elem? a.copying (in_hand h).worker) inhand ∙ hand_free d a.copying p a.state_ok inhand)
    (placed_cut d.log b a.place s.views d (Writer (rested d b)) (Idle (known_after d.log e)) p.worker a.at (alike (in_hand d.log.hand).worker p.worker (ap (λ h. (in_hand h).worker) inhand)) (λ w n m h c. (m, ap (is_in_hand w) inhand ∙ unlike p.worker w (λ q. n (sym q)), c)) a.placed)

pub goes_back : (d : WriterState) (p : Known) → d.log.hand ≡ Some p
    → Splits {S = ℕ} {V = View} IsCarried 0 (Writer d) (on_state (λ d. rested d (with_hand d.log None)) (Writer d)) (from_log (λ b. in_hand b.hand) (Writer d))
goes_back d p inhand s kept at =
    let a = at_state s.words s.views d kept at in
    let b = with_hand d.log None in
    let n = length s.views in
    cut_idle s.words s.views d (rested d b) a (moved a.place p.worker n) (in_hand d.log.hand) refl refl
    (state_rested d a.copying b a.state_ok (back_log d.log a.state_ok.log) refl refl (λ v at h pos. let f = a.state_ok.fetched v at h pos in (f.1, f.2)))
    (λ k q r. back_old d.log p q a.place n k inhand r) (back_new d.log p a.place n a.state_ok.log inhand)
    (ap (λ h. get_elem? a.copying (in_hand h).worker) inhand ∙ hand_free d a.copying p a.state_ok inhand)
    (placed_cut d.log b a.place s.views d (Writer (rested d b)) (Idle (in_hand d.log.hand)) p.worker a.at (alike (in_hand d.log.hand).worker p.worker (ap (λ h. (in_hand h).worker) inhand)) (λ w n m h c. (m, ap (is_in_hand w) inhand ∙ unlike p.worker w (λ q. n (sym q)), c)) a.placed)

pub goes_seen : (d : WriterState) (p : Known) → d.log.hand ≡ Some p
    → Splits {S = ℕ} {V = View} IsCarried 0 (Writer d) (on_state (λ d. rested d (with_hand d.log None)) (Writer d)) (from_log seen_all (Writer d))
goes_seen d p inhand s kept at =
    let a = at_state s.words s.views d kept at in
    let b = with_hand d.log None in
    let n = length s.views in
    cut_idle s.words s.views d (rested d b) a (moved a.place p.worker n) (seen_all d.log) refl refl
    (state_rested d a.copying b a.state_ok (back_log d.log a.state_ok.log) refl refl (λ v at h pos. let f = a.state_ok.fetched v at h pos in (f.1, f.2)))
    (λ k q r. back_old d.log p q a.place n k inhand r) (seen_new d.log p a.place n a.state_ok.log inhand)
    (ap (λ h. get_elem? a.copying (in_hand h).worker) inhand ∙ hand_free d a.copying p a.state_ok inhand)
    (placed_cut d.log b a.place s.views d (Writer (rested d b)) (Idle (seen_all d.log)) p.worker a.at (alike (in_hand d.log.hand).worker p.worker (ap (λ h. (in_hand h).worker) inhand)) (λ w n m h c. (m, ap (is_in_hand w) inhand ∙ unlike p.worker w (λ q. n (sym q)), c)) a.placed)

only_writer : (d : WriterState) (k : ℕ) (v : View) → (Writer d ≡ v → ⊥) → get_elem? (Writer d ∷ []) k ≡ some v → ⊥
only_writer d zero v n e = n (some-injective (Writer d) v e)
only_writer d (suc k) v n e = some-ne-none v (sym e)

zero_there : (n v at : ℕ) → get_elem? (replicate n 0) v ≡ some at → at ≡ 0
zero_there zero v at h = absurd (some-ne-none at (sym h))
zero_there (suc n) zero at h = sym (some-injective 0 at h)
zero_there (suc n) (suc v) at h = zero_there n v at h

zero_at : (n v : ℕ) → v < n → get_elem? {A = ℕ} (replicate n 0) v ≡ some 0
zero_at zero v h = absurd (omega arith)
zero_at (suc n) zero h = refl
zero_at (suc n) (suc v) h = zero_at n v (omega arith)

length_zeros : (n : ℕ) → length {A = ℕ} (replicate n 0) ≡ n
length_zeros zero = refl
length_zeros (suc n) = omega (arith, length_zeros n)

-- the state of the first seat
pub opens : (s : Start) → length s.budgets.items ≤ 64 → IsCarried {S = ℕ} (opening s.words.items [] (first_view s))
opens s few = record {
  state = state_of (first_view s);
  place = λ _. 0;
  copying = replicate (length s.budgets.items) 0;
  at = refl;
  count = refl;
  each_word = λ i. let z = pins_none i (0 ∷ replicate (length s.budgets.items) 0) (λ v at h pos. absurd (omega (arith, no_name v at h))) in omega (arith, z);
  state_ok = record {
    log = record {
      count = omega arith;
      none = λ w _. refl;
      bounded = λ w h. absurd (omega arith);
      hand = λ p e. absurd (cc e);
      away = λ p e. absurd (cc e);
      closed = λ k p e. absurd (cc (e));
    };
    few = omega (arith, length_zeros (length s.budgets.items), few);
    seats = refl;
    all_seats = sym (length_zeros (length s.budgets.items));
    pins = λ v at h pos. absurd (omega (arith, zero_there (length s.budgets.items) v at h));
    fetched = λ v at h pos. absurd (omega (arith, zero_there (length s.budgets.items) v at h));
    stand = λ j at h pos. absurd (omega (arith, no_name j at h));
    apart = λ j k a b ha hb pa pb. absurd (omega (arith, no_name j a ha));
    unread = λ v at h pos. refl;
    masked = λ v h. absurd (omega (arith, bit_at-zero v));
    shrunk = λ p e. absurd (cc e);
  };
  idle = λ k p e. absurd (only_writer (state_of (first_view s)) k (Idle p) (λ x. absurd (cc (x))) e);
  copy = λ k c e. absurd (only_writer (state_of (first_view s)) k (Copying c) (λ x. absurd (cc (x))) e);
  placed = λ w m h c. absurd (omega (arith, m));
  copies = λ i. pins_none i (replicate (length s.budgets.items) 0) (λ v at h pos. absurd (omega (arith, zero_there (length s.budgets.items) v at h)));
}
  where
    no_name : (j at : ℕ) → get_elem? (0 ∷ replicate (length s.budgets.items) 0) j ≡ some at → at ≡ 0
    no_name zero at h = sym (some-injective 0 at h)
    no_name (suc j) at h = zero_there (length s.budgets.items) j at h

-- a pass is taken in at the end
pub closed_in : (d : WriterState) (other : ℕ) (p : Known) → d.log.hand ≡ None → Joins {S = ℕ} {V = View} IsCarried 0 (Writer d) other (Idle p) (closes (Writer d) (Idle p)) Spent
closed_in d other p nobody s kept at away there = record {
  state = shut d p;
  place = a.place;
  copying = a.copying;
  at = set_else (set s.views 0 (Writer (shut d p))) other 0 Spent (λ h. away (sym h)) ∙ set_here s.views 0 (Writer (shut d p)) a.some_view;
  count = a.count;
  each_word = a.each_word;
  state_ok = state_shut d a.copying p a.state_ok nobody (closes_log d.log a.place other p a.state_ok.log nobody ok.0) ok.1;
  idle = λ k q h. let b = back k (Idle q) (λ e. absurd (cc (e))) (λ e. absurd (cc (e))) h in let r = a.idle k q b.1 in (closes_old d.log a.place other k p q b.0 ok.0 r.0, r.1);
  copy = λ k c h. let b = back k (Copying c) (λ e. absurd (cc (e))) (λ e. absurd (cc (e))) h in let r = a.copy k c b.1 in (closes_old d.log a.place other k p c.known b.0 ok.0 r.0, record { some_block = r.1.some_block; copies = r.1.copies; first = r.1.first; content = r.1.content; pin = r.1.pin });
  placed = placed_join d.log (with_closed d.log p) a.place s.views d (Writer (shut d p)) p other a.at (sym (set_else s.views 0 other (Writer (shut d p)) away) ∙ there) older a.placed;
  copies = copies_join a.copying s.views d (shut d p) p other a.at there a.copies;
}
  where
    older : (w : ℕ) → w < d.log.made → is_in_hand w (with_closed d.log p).hand ≡ false → has_worker w (with_closed d.log p).closed ≡ false → (w ≢ p.worker) × (w < d.log.made) × (is_in_hand w d.log.hand ≡ false) × (has_worker w d.log.closed ≡ false)
    older w m h c = let f = both_false (p.worker == w) (has_worker w d.log.closed) c in ((λ e. differs p.worker w f.0 (sym e)), m, h, f.1)

    a : At s.words s.views d
    a = at_state s.words s.views d kept at

    ok : PassInOrder d.log (at_state s.words s.views d kept at).place other p × (get_elem? (at_state s.words s.views d kept at).copying p.worker ≡ some 0)
    ok = (at_state s.words s.views d kept at).idle other p (sym (set_else s.views 0 other (Writer (shut d p)) away) ∙ there)

    back : (k : ℕ) (v : View) → (Spent ≡ v → ⊥) → (Writer (shut d p) ≡ v → ⊥) → get_elem? (set (set s.views 0 (Writer (shut d p))) other Spent) k ≡ some v → ¬ (k ≡ other) × (get_elem? s.views k ≡ some v)
    back k v ns nw h = ⊎_elim (λ (t : (k ≡ other) × (Spent ≡ v)). absurd (ns t.1)) (λ (t : (k ≢ other) × (get_elem? (set s.views 0 (Writer (shut d p))) k ≡ some v)).
        ⊎_elim (λ (u : (k ≡ 0) × (Writer (shut d p) ≡ v)). absurd (nw u.1)) (λ (u : (k ≢ 0) × (get_elem? s.views k ≡ some v)). (t.0, u.1)) (at_set s.views 0 k (Writer (shut d p)) v t.1)) (at_set (set s.views 0 (Writer (shut d p))) other k Spent v h)

-- at the end the words are the writer's
pub dissolves : (s : State ℕ View) (d : WriterState) → IsCarried s → get_elem? s.views 0 ≡ some (Writer d) → d.pinning ≡ 0 → ((w : ℕ) → w < d.log.made → has_worker w d.log.closed ≡ true) → s.words ≡ d.words
dissolves s d kept at nothing every = ext_get_or 0 s.words d.words (at_state s.words s.views d kept at).count (λ i _. let z = pins_none i (d.pinning ∷ a.copying) (nobody i) in omega (arith, a.each_word i, z))
  where
    a : At s.words s.views d
    a = at_state s.words s.views d kept at

    nobody : (i v b : ℕ) → get_elem? (d.pinning ∷ (at_state s.words s.views d kept at).copying) v ≡ some b → 0 < b → i ≢ b + PIN_COUNT
    nobody i zero b h pos = let e : d.pinning ≡ b = some-injective d.pinning b h in absurd (omega (arith, e, nothing))
    nobody i (suc v) b h pos = made (dec_le (suc v) d.log.made)
      where
        f : (is_in_hand v d.log.hand ≡ false) × (has_worker v d.log.closed ≡ false) × (fetched_last v d.log.history false ≡ true)
        f = let x = at_state s.words s.views d kept at in x.state_ok.fetched v b (x.state_ok.pins v b h pos) pos

        made : Dec (suc v ≤ d.log.made) → i ≢ b + PIN_COUNT
        made (yes l) = absurd (false≢true (sym f.1 ∙ every v (omega arith)))
        made (no l) = absurd (false≢true (sym (fetched_nothing v d.log.history ((at_state s.words s.views d kept at).state_ok.log.none v (grind arith))) ∙ f.2))
