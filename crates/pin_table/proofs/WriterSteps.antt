-- Each step keeps the rule.
use Rattle.std.proofs.Common.{◌≡◌, ◌≢◌, ℕ, zero, suc, ◌+◌, ◌-◌, ◌<◌, ◌==◌, ⊎_elim, Bool, true, false, cond, List, [], ◌∷◌, length, slice_set, slice_index, refl, ap, sym, ◌∙◌, subst, arith, length-set}
use Rattle.std.proofs.lemmas.Bool.Decides.{nat_tests}
use Rattle.std.proofs.lemmas.List.{get_or-set_other, get_or-set_same}
use Rattle.std.specs.Int.{bit_at}
use Rattle.seg_words.specs.declared.layout.TheConstants.{PIN_COUNT}
use native.Mathlib.Decide.{ℕ_discrete}
use mathlib.Core.Option.{some, none, some-injective}
use lib.ListN.{get_elem?}
use Rattle.atomic_table.specs.Table.{State, Me, Step, step, Act, keeps, Allows, Splits, Joins, opening}
use Rattle.atomic_table.proofs.Lists.{at_set, set_here, set_again}
use Rattle.seg_words.specs.Windows.{has, is_named, held_by}
use Rattle.seg_words.specs.Blocks.{IsTold, MayProbe, image_place}
use Rattle.pin_table.specs.declared.views.Known.{Known}
use Rattle.pin_table.specs.declared.views.Reader.{Reader}
use Rattle.pin_table.specs.declared.views.WriterState.{WriterState}
use Rattle.pin_table.specs.declared.views.View.{View}
use Rattle.pin_table.specs.declared.views.View.TheVariants.{Writer, Idle, Copying}
use Rattle.pin_table.specs.Pins.{pins_on, is_count, content_of, refused_in}
use Rattle.pin_table.specs.Views.{named_blocks, with_words, freed, met}
use Rattle.pin_table.specs.Order.{PassInOrder, StateInOrder, ReaderInOrder, Carried, AllPlaced}
use Rattle.pin_table.specs.Rule.{IsCarried}
use Rattle.pin_table.specs.Plays.{Looks, ReadsTold, Writes, Probes}
use Rattle.pin_table.proofs.WindowLists.{set_same, at_less, named_there, there_named, uncounted, pins_pos, pins_none, pins_exists, told_not}
use Rattle.pin_table.proofs.PassPlaces.{SameCopies, placed_writer, copies_writer}
use Rattle.pin_table.proofs.WriterStates.{Outside, state_store, copy_store, none_outside, state_freed, state_refused, not_held}

pub same_state : (words : List ℕ) (views : List View) (d : WriterState) (kept : Carried words views) → get_elem? views 0 ≡ some (Writer d) → kept.state ≡ d
same_state words views d kept at = cc (some-injective (Writer kept.state) (Writer d) (sym kept.at ∙ at))

-- the rule at a state that is known
pub record At (words : List ℕ) (views : List View) (d : WriterState) : Type 0 where
  pub place : ℕ → ℕ
  pub copying : List ℕ
  pub some_view : 0 < length views
  pub at : get_elem? views 0 ≡ some (Writer d)
  pub count : length words ≡ length d.words
  pub each_word : (i : ℕ) → slice_index words i ≡ slice_index d.words i + pins_on i (d.pinning ∷ copying)
  pub state_ok : StateInOrder d copying
  pub idle : (k : ℕ) (p : Known) → get_elem? views k ≡ some (Idle p) → PassInOrder d.log place k p × (get_elem? copying p.worker ≡ some 0)
  pub copy : (k : ℕ) (c : Reader) → get_elem? views k ≡ some (Copying c) → PassInOrder d.log place k c.known × ReaderInOrder d copying c
  pub placed : AllPlaced d.log place views
  pub copies : SameCopies copying views

at_kept : (words : List ℕ) (views : List View) (kept : Carried words views) → At words views kept.state
at_kept words views kept = record {
  place = kept.place;
  copying = kept.copying;
  some_view = at_less views 0 (Writer kept.state) kept.at;
  count = kept.count;
  each_word = kept.each_word;
  state_ok = kept.state_ok;
  idle = kept.idle;
  copy = kept.copy;
  at = kept.at;
  placed = kept.placed;
  copies = kept.copies;
}

pub at_state : (words : List ℕ) (views : List View) (d : WriterState) → Carried words views → get_elem? views 0 ≡ some (Writer d) → At words views d
at_state words views d kept at = subst (At words views) (same_state words views d kept at) (at_kept words views kept)

-- the writer's view becomes another
pub writer_goes : (words : List ℕ) (views : List View) (old d : WriterState) (place : ℕ → ℕ) (copying : List ℕ) → 0 < length views → get_elem? views 0 ≡ some (Writer old) → AllPlaced d.log place views → SameCopies copying views
    → length words ≡ length d.words
    → ((i : ℕ) → slice_index words i ≡ slice_index d.words i + pins_on i (d.pinning ∷ copying))
    → StateInOrder d copying
    → ((k : ℕ) (p : Known) → get_elem? views k ≡ some (Idle p) → PassInOrder d.log place k p × (get_elem? copying p.worker ≡ some 0))
    → ((k : ℕ) (c : Reader) → get_elem? views k ≡ some (Copying c) → PassInOrder d.log place k c.known × ReaderInOrder d copying c)
    → Carried words (slice_set views 0 (Writer d))
writer_goes words views old d place copying some_view was placed copies count each ok idle copy = record {
  state = d;
  place = place;
  copying = copying;
  at = set_here views 0 (Writer d) some_view;
  count = count;
  each_word = each;
  state_ok = ok;
  idle = λ k p e. ⊎_elim (λ (t : (k ≡ 0) × (Writer d ≡ Idle p)). absurd (cc (t.1))) (λ (t : (k ≢ 0) × (get_elem? views k ≡ some (Idle p))). idle k p t.1) (at_set views 0 k (Writer d) (Idle p) e);
  copy = λ k c e. ⊎_elim (λ (t : (k ≡ 0) × (Writer d ≡ Copying c)). absurd (cc (t.1))) (λ (t : (k ≢ 0) × (get_elem? views k ≡ some (Copying c))). copy k c t.1) (at_set views 0 k (Writer d) (Copying c) e);
  placed = placed_writer d.log place views old (Writer d) was placed;
  copies = copies_writer copying views old d was copies;
}

-- nothing changed
pub stays : (s : State ℕ View) (id : ℕ) (v : View) (i : ℕ) → Carried s.words s.views → get_elem? s.views id ≡ some v → Carried (slice_set s.words i (slice_index s.words i)) (slice_set s.views id v)
stays s id v i kept at = subst (λ ws. Carried ws (slice_set s.views id v)) (sym (set_same s.words i 0)) (subst (Carried s.words) (sym (set_again s.views id v at)) kept)

-- another state over the same words, log and pinned block
pub same_words : (s : State ℕ View) (d d2 : WriterState) (i : ℕ) → (a : At s.words s.views d) → d2.words ≡ d.words → d2.log ≡ d.log → d2.pinning ≡ d.pinning → StateInOrder d2 a.copying
    → Carried (slice_set s.words i (slice_index s.words i)) (slice_set s.views 0 (Writer d2))
same_words s d d2 i a ws bk pn ok = subst (λ l. Carried l (slice_set s.views 0 (Writer d2))) (sym (set_same s.words i 0))
    (writer_goes s.words s.views d d2 a.place a.copying a.some_view a.at (subst (λ b. AllPlaced b a.place s.views) (sym bk) a.placed) a.copies (a.count ∙ ap length (sym ws))
    (λ k. a.each_word k ∙ (ap (λ l. slice_index l k + pins_on k (d.pinning ∷ a.copying)) (sym ws) ∙ ap (λ q. slice_index d2.words k + pins_on k (q ∷ a.copying)) (sym pn)))
    ok (λ k p h. let r = a.idle k p h in (subst (λ b. PassInOrder b a.place k p) (sym bk) r.0, r.1))
    (λ k c h. let r = a.copy k c h in (
      subst (λ b. PassInOrder b a.place k c.known) (sym bk) r.0,
      record { some_block = r.1.some_block; copies = r.1.copies; first = r.1.first ∙ ap (λ l. image_place l c.block) (sym ws); content = r.1.content ∙ ap (λ l. content_of l c.block) (sym ws); pin = r.1.pin },
    )))

module _ (slots : ℕ) (d : WriterState) where
  pub looks : (i : ℕ) → Allows {S = ℕ} {V = View} IsCarried slots 0 (Writer d, []) i (λ n. n) (Looks (step slots i 0 0 none) (Writer d, []))
  looks i s kept _ at fits = (
    Writer d,
    keeps,
    tt,
    stays s 0 (Writer d) i kept at,
    (refl, ((at_state s.words s.views d kept at).copying, (at_state s.words s.views d kept at).state_ok)),
  )

  pub reads : (i : ℕ) → Allows {S = ℕ} {V = View} IsCarried slots 0 (Writer d, []) i (λ n. n) (ReadsTold (step slots i 0 0 none) (Writer d, []))
  reads i s kept _ at fits = (
    Writer d,
    keeps,
    tt,
    stays s 0 (Writer d) i kept at,
    (refl, told (at_state s.words s.views d kept at)),
  )
    where
      told : At s.words s.views d → IsTold (named_blocks d) i → slice_index d.words i ≡ slice_index s.words i
      told a o =
          let n = pins_none i (d.pinning ∷ a.copying) (others a o) in
          omega (arith, a.each_word i, n)
        where
          others : (a : At s.words s.views d) → IsTold (named_blocks d) i → (v at : ℕ) → get_elem? (d.pinning ∷ a.copying) v ≡ some at → 0 < at → i ≢ at + PIN_COUNT
          others a o zero at h pos = told_not (named_blocks d) i 0 at o h pos
          others a o (suc v) at h pos = told_not (named_blocks d) i (suc v) at o (a.state_ok.pins v at h pos) pos

  pub writes : (i x : ℕ) → i < length d.words → Outside d i → Allows {S = ℕ} {V = View} IsCarried slots 0 (Writer d, []) i (λ _. x) (λ _. Writes (step slots i x 0 none) (Writer d, []) x)
  writes i x less out s kept _ at fits =
      let a = at_state s.words s.views d kept at in
      let d2 = with_words d (slice_set d.words i x) in
      let here : i < length s.words = omega (arith, a.count) in (
        Writer d2,
        keeps,
        tt,
        writer_goes (slice_set s.words i x) s.views d d2 a.place a.copying a.some_view a.at a.placed a.copies (length-set s.words i x ∙ (a.count ∙ sym (length-set d.words i x)))
            (λ k. word a here k (ℕ_discrete k i))
            (state_store d a.copying i x a.state_ok out) a.idle (λ k c h. let r = a.copy k c h in (r.0, copy_store d a.copying i x c a.state_ok out r.1)),
        refl,
      )
    where
      word : (a : At s.words s.views d) → i < length s.words → (k : ℕ) → Dec (k ≡ i) → slice_index (slice_set s.words i x) k ≡ slice_index (slice_set d.words i x) k + pins_on k (d.pinning ∷ a.copying)
      word a here k (yes e) =
          let n : pins_on k (d.pinning ∷ a.copying) ≡ 0 = ap (λ j. pins_on j (d.pinning ∷ a.copying)) e ∙ none_outside d a.copying i a.state_ok out in
          let l : slice_index (slice_set s.words i x) k ≡ x = ap (slice_index (slice_set s.words i x)) e ∙ get_or-set_same s.words i x 0 here in
          let r : slice_index (slice_set d.words i x) k ≡ x = ap (slice_index (slice_set d.words i x)) e ∙ get_or-set_same d.words i x 0 less in
          omega (arith, n, l, r)
      word a here k (no ne) = get_or-set_other s.words i k x 0 ne ∙ (a.each_word k ∙ ap (λ w. w + pins_on k (d.pinning ∷ a.copying)) (sym (get_or-set_other d.words i k x 0 ne)))

-- a probe
module _ (slots : ℕ) (d : WriterState) (x : ℕ) (may : MayProbe d.words d.windows x) (unrefused : has x (refused_in d.readings) ≡ false) (nothing : d.pinning ≡ 0) where
  -- the number found is how many copy the block
  found : (s : State ℕ View) → (a : At s.words s.views d) → slice_index s.words (x + PIN_COUNT) ≡ pins_on (x + PIN_COUNT) a.copying
  found s a =
      let e : is_count (x + PIN_COUNT) d.pinning ≡ false = uncounted (x + PIN_COUNT) d.pinning (λ pos. absurd (omega (arith, nothing, pos))) in
      let t : pins_on (x + PIN_COUNT) (d.pinning ∷ a.copying) ≡ pins_on (x + PIN_COUNT) a.copying = rw e (omega arith) in
      omega (arith, a.each_word (x + PIN_COUNT), t, zero_word (is_named d.windows x) refl)
    where
      zero_word : (b : Bool) → is_named d.windows x ≡ b → slice_index d.words (x + PIN_COUNT) ≡ 0
      zero_word false is = may.count is
      zero_word true is = let t = there_named d.windows x is in (a.state_ok.stand (suc t.1.0) x t.1.1 t.0).zero_count

  probes_at : (s : State ℕ View) (a : At s.words s.views d) → (n : ℕ) → slice_index s.words (x + PIN_COUNT) ≡ n → (b : Bool) → (n == 0) ≡ b
      → (w : View) × (y : Act ℕ) × Rattle.atomic_table.specs.Table.Valid s.homes [] y × Carried (slice_set s.words (x + PIN_COUNT) (slice_index s.words (x + PIN_COUNT))) (slice_set s.views 0 w)
      × (◌≡◌ {A = Me ℕ View} (w, Rattle.atomic_table.specs.Table.carried_after [] y) (Writer (cond b (freed d x) (met d x n)), [])
      × Rattle.std.specs.Prelude.MatchBool b (has x (held_by d.mask d.windows) ≡ false) (is_named d.windows x ≡ true))
  probes_at s a n e true is = (
    Writer (freed d x),
    keeps,
    tt,
    same_words s d (freed d x) (x + PIN_COUNT) a refl refl refl (state_freed d a.copying x a.state_ok nobody unrefused),
    (refl, not_held d a.copying x a.state_ok unrefused),
  )
    where
      nobody : (v : ℕ) → 0 < x → get_elem? a.copying v ≡ some x → ⊥
      nobody v pos h =
          let q = pins_pos (x + PIN_COUNT) a.copying v x h pos refl in
          let z : n ≡ 0 = grind (arith, nat_tests) in
          omega (arith, q, e, z, found s a)
  probes_at s a n e false is =
      let nz : n ≢ 0 = grind (arith, nat_tests) in
      let f = found s a in
      let t = pins_exists (x + PIN_COUNT) a.copying (grind (arith, e, f, nz)) in
      let same : t.1 ≡ x = omega (arith, t.4) in
      let pos : 0 < x = omega (arith, t.3) in
      let h : get_elem? a.copying t.0 ≡ some x = t.2 ∙ ap some same in (
        Writer (met d x n),
        keeps,
        tt,
        same_words s d (met d x n) (x + PIN_COUNT) a refl refl refl (state_refused d a.copying x n a.state_ok pos is),
        (refl, named_there d.windows t.0 x (a.state_ok.pins t.0 x h pos) pos),
      )

  pub probes : Allows {S = ℕ} {V = View} IsCarried slots 0 (Writer d, []) (x + PIN_COUNT) (λ n. n) (Probes (step slots (x + PIN_COUNT) 0 0 none) (Writer d, []))
  probes s kept _ at fits =
      let back : x + PIN_COUNT - 11 ≡ x = omega arith in
      rw back (probes_at s (at_state s.words s.views d kept at) (slice_index s.words (x + PIN_COUNT)) refl (slice_index s.words (x + PIN_COUNT) == 0) refl)
