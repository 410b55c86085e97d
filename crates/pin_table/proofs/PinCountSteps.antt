-- The steps on a pin count, and those of a copying pass.
use Rattle.std.proofs.Common.{◌≡◌, ◌≢◌, ℕ, zero, suc, ◌+◌, ◌-◌, ◌%◌, ◌<◌, ◌≤◌, ⊎_elim, true, false, cond, List, [], ◌∷◌, length, take, drop, set, slice_set, slice_index, refl, ap, sym, ◌∙◌, subst, arith, length-set}
use Rattle.std.proofs.lemmas.List.{get_or-set_other, get_or-set_same}
use Rattle.std.proofs.Math.Nat.{mod-eq_of_lt, add-mod_right}
use Rattle.seg_words.specs.declared.layout.TheConstants.{IMAGE_LENGTH, PIN_COUNT}
use native.Mathlib.Decide.{ℕ_discrete}
use mathlib.Core.Option.{some, none, some-injective}
use lib.ListN.{get_elem?}
use Rattle.atomic_table.specs.Table.{step, keeps, Allows}
use Rattle.atomic_table.proofs.Lists.{at_set, set_here, set_else}
use Rattle.seg_words.specs.Blocks.{image_place, image_end}
use Rattle.pin_table.specs.declared.views.Known.{Known}
use Rattle.pin_table.specs.declared.views.Reader.{Reader}
use Rattle.pin_table.specs.declared.views.WriterState.{WriterState}
use Rattle.pin_table.specs.declared.views.View.{View}
use Rattle.pin_table.specs.declared.views.View.TheVariants.{Writer, Idle, Copying}
use Rattle.pin_table.specs.Pins.{pins_on, is_count, IsBlock, AreApart}
use Rattle.pin_table.specs.Views.{named_blocks, pinning_at}
use Rattle.pin_table.specs.Order.{PassInOrder, ReaderInOrder}
use Rattle.pin_table.specs.Rule.{IsCarried}
use Rattle.pin_table.specs.Plays.{Pins, Copies, Releases}
use Rattle.pin_table.proofs.WindowLists.{at_less, zero_set, counts, uncounted, pins_on-set, pins_on-le, pins_pos, pins_none, range_index}
use Rattle.pin_table.proofs.PassPlaces.{placed_release, copies_release}
use Rattle.pin_table.proofs.WriterStates.{state_pins, state_released}
use Rattle.pin_table.proofs.WriterSteps.{At, at_state, writer_goes, stays}

wrap_up : (n : ℕ) → n ≤ 64 → (n + 1) % 18446744073709551616 ≡ n + 1
wrap_up n h = mod-eq_of_lt (omega arith)

pub pins : (slots : ℕ) (d : WriterState) (x : ℕ) → d.pinning ≡ 0 → x + PIN_COUNT < length d.words → IsBlock d.words x → ((j b : ℕ) → get_elem? d.windows j ≡ some b → 0 < b → AreApart d.words x b)
    → Allows {S = ℕ} {V = View} IsCarried slots 0 (Writer d, []) (x + PIN_COUNT) (λ n. (n + 1) % 18446744073709551616) (Pins (step slots (x + PIN_COUNT) 1 0 none) (Writer d, []))
pins slots d x nothing less stands apart s kept _ at fits = (
  Writer (pinning_at d x),
  keeps,
  tt,
  writer_goes (slice_set s.words (x + PIN_COUNT) up) s.views d (pinning_at d x) a.place a.copying a.some_view a.at a.placed a.copies (length-set s.words (x + PIN_COUNT) up ∙ a.count)
      (λ k. word k (ℕ_discrete k (x + PIN_COUNT)))
      (state_pins d a.copying x a.state_ok stands apart) a.idle (λ k c h. let r = a.copy k c h in (r.0, record { some_block = r.1.some_block; copies = r.1.copies; first = r.1.first; content = r.1.content; pin = r.1.pin })),
  ap (λ y. (Writer (pinning_at d y), [])) (omega arith),
)
  where
    a : At s.words s.views d
    a = at_state s.words s.views d kept at

    up : ℕ
    up = (slice_index s.words (x + PIN_COUNT) + 1) % 18446744073709551616

    before : (k : ℕ) → pins_on k (d.pinning ∷ a.copying) ≡ pins_on k a.copying
    before k = let e : is_count k d.pinning ≡ false = uncounted k d.pinning (λ pos. absurd (omega (arith, nothing, pos))) in rw e (omega arith)

    word : (k : ℕ) → Dec (k ≡ x + PIN_COUNT) → slice_index (slice_set s.words (x + PIN_COUNT) ((slice_index s.words (x + PIN_COUNT) + 1) % 18446744073709551616)) k ≡ slice_index d.words k + pins_on k (x ∷ a.copying)
    word k (yes e) =
        let l : slice_index s.words (x + PIN_COUNT) ≡ pins_on (x + PIN_COUNT) a.copying = omega (arith, a.each_word (x + PIN_COUNT), before (x + PIN_COUNT), stands.zero_count) in
        let f = pins_on-le (x + PIN_COUNT) a.copying in
        let w = wrap_up (slice_index s.words (x + PIN_COUNT)) (omega (arith, l, f, a.state_ok.few)) in
        let g = get_or-set_same s.words (x + PIN_COUNT) ((slice_index s.words (x + PIN_COUNT) + 1) % 18446744073709551616) 0 (omega (arith, a.count)) in
        let b : is_count (x + PIN_COUNT) x ≡ true = counts (x + PIN_COUNT) x stands.positive refl in
        subst (λ j. slice_index (slice_set s.words (x + PIN_COUNT) ((slice_index s.words (x + PIN_COUNT) + 1) % 18446744073709551616)) j ≡ slice_index d.words j + pins_on j (x ∷ a.copying)) (sym e)
        (rw b (omega (arith, g, w, l, stands.zero_count)))
    word k (no ne) =
        let b : is_count k x ≡ false = uncounted k x (λ _ h. ne h) in
        get_or-set_other s.words (x + PIN_COUNT) k ((slice_index s.words (x + PIN_COUNT) + 1) % 18446744073709551616) 0 ne ∙ (a.each_word k ∙ ap (λ t. slice_index d.words k + t) (before k ∙ (rw b (omega arith))))

length-take-le : (n : ℕ) (l : List ℕ) → length (take n l) ≤ n
length-take-le zero [] = omega arith
length-take-le zero (x ∷ xs) = omega arith
length-take-le (suc n) [] = omega arith
length-take-le (suc n) (x ∷ xs) = omega (arith, length-take-le n xs)

-- a copying pass loads a word of its block's image
pub copies : (slots id : ℕ) (c : Reader) (i : ℕ) → c.first ≤ i → i < c.first + length c.content
    → Allows {S = ℕ} {V = View} IsCarried slots id (Copying c, []) i (λ n. n) (Copies (step slots i 0 0 none) (Copying c, []))
copies slots id c i lo hi s kept _ at fits = (
  Copying c,
  keeps,
  tt,
  stays s id (Copying c) i kept at,
  (refl, told),
)
  where
    told : slice_index c.content (i - c.first) ≡ slice_index s.words i
    told =
        let n : pins_on i (d.pinning ∷ kept.copying) ≡ 0 = pins_none i (d.pinning ∷ kept.copying) others in
        let w = kept.each_word i in
        let m : c.first + (i - c.first) ≡ i = omega arith in
        let r = range_index d.words c.first (slice_index d.words (c.block + IMAGE_LENGTH)) (i - c.first) (omega (arith, inside, ok.first)) in
        ap (λ l. slice_index l (i - c.first)) (ok.content ∙ ap (λ f. take (slice_index d.words (c.block + IMAGE_LENGTH)) (drop f d.words)) (sym ok.first)) ∙ (r ∙ (ap (slice_index d.words) m ∙ omega (arith, w, n)))
      where
        d : WriterState
        d = kept.state

        ok : ReaderInOrder kept.state kept.copying c
        ok = (kept.copy id c at).1

        inside : i < image_end kept.state.words c.block
        inside =
            let t : length (take (slice_index kept.state.words (c.block + IMAGE_LENGTH)) (drop (image_place kept.state.words c.block) kept.state.words)) ≤ slice_index kept.state.words (c.block + IMAGE_LENGTH) = length-take-le (slice_index kept.state.words (c.block + IMAGE_LENGTH)) (drop (image_place kept.state.words c.block) kept.state.words) in
            omega (arith, t, ap length ok.content, ok.first)

        own : get_elem? (named_blocks kept.state) (suc c.known.worker) ≡ some c.block
        own = kept.state_ok.pins c.known.worker c.block ok.copies ok.some_block

        clash : (j b : ℕ) → get_elem? (named_blocks kept.state) j ≡ some b → 0 < b → i ≢ b + PIN_COUNT
        clash j b h pos e = ⊎_elim (λ (q : c.block ≡ b). omega (arith, ok.first)) (λ r. ⊎_elim (λ (p : image_end kept.state.words c.block ≤ b). omega (arith, inside)) (λ (p : image_end kept.state.words b ≤ c.block). omega (arith, ok.first)) r)
            (kept.state_ok.apart (suc c.known.worker) j c.block b own h ok.some_block pos)

        others : (v b : ℕ) → get_elem? (kept.state.pinning ∷ kept.copying) v ≡ some b → 0 < b → i ≢ b + PIN_COUNT
        others zero b h pos = clash 0 b h pos
        others (suc v) b h pos = clash (suc v) b (kept.state_ok.pins v b h pos) pos

wrap_down : (n m : ℕ) → 0 < n → 0 < m → n ≤ m → (n + (m - 1)) % m ≡ n - 1
wrap_down n m pos posm le =
    let e : n + (m - 1) ≡ (n - 1) + m = omega arith in
    ap (λ k. k % m) e ∙ (add-mod_right (n - 1) m ∙ mod-eq_of_lt (omega arith))

-- a copying pass releases its block
pub releases : (slots id : ℕ) (c : Reader) → Allows {S = ℕ} {V = View} IsCarried slots id (Copying c, []) (c.block + PIN_COUNT) (λ n. (n + (18446744073709551616 - 1)) % 18446744073709551616) (Releases (step slots (c.block + PIN_COUNT) 1 0 none) (Copying c, []))
releases slots id c s kept _ at fits = (
  Idle c.known,
  keeps,
  tt,
  record {
    state = kept.state;
    place = kept.place;
    copying = free;
    at = set_else s.views id 0 (Idle c.known) away ∙ kept.at;
    count = length-set s.words (c.block + PIN_COUNT) down ∙ kept.count;
    each_word = λ k. word k (ℕ_discrete k (c.block + PIN_COUNT));
    state_ok = state_released kept.state kept.copying c.known.worker kept.state_ok less;
    idle = λ k p h. ⊎_elim (λ (t : (k ≡ id) × (Idle c.known ≡ Idle p)).
        let same : c.known ≡ p = cc (t.1) in
        subst (λ j. PassInOrder kept.state.log kept.place j p × (get_elem? free p.worker ≡ some 0)) (sym t.0)
        (subst (λ (q : Known). PassInOrder kept.state.log kept.place id q × (get_elem? free q.worker ≡ some 0)) same (ok.0, set_here kept.copying c.known.worker 0 less)))
        (λ (t : (k ≢ id) × (get_elem? s.views k ≡ some (Idle p))). let r = kept.idle k p t.1 in (r.0, zero_set kept.copying c.known.worker p.worker less r.1)) (at_set s.views id k (Idle c.known) (Idle p) h);
    copy = λ k q h. ⊎_elim (λ (t : (k ≡ id) × (Idle c.known ≡ Copying q)). absurd (cc (t.1)))
        (λ (t : (k ≢ id) × (get_elem? s.views k ≡ some (Copying q))).
        let r = kept.copy k q t.1 in
        let apart : q.known.worker ≢ c.known.worker = λ e. t.0 (sym r.0.placed ∙ (ap kept.place e ∙ ok.0.placed)) in
        (r.0, record { some_block = r.1.some_block; copies = set_else kept.copying c.known.worker q.known.worker 0 apart ∙ r.1.copies; first = r.1.first; content = r.1.content; pin = r.1.pin })) (at_set s.views id k (Idle c.known) (Copying q) h);
    placed = placed_release kept.state.log kept.place s.views id c at kept.placed;
    copies = copies_release kept.copying s.views id c at (kept.copy id c at).1.copies kept.copies;
  },
  refl,
)
  where
    ok : PassInOrder kept.state.log kept.place id c.known × ReaderInOrder kept.state kept.copying c
    ok = kept.copy id c at

    free : List ℕ
    free = set kept.copying c.known.worker 0

    down : ℕ
    down = (slice_index s.words (c.block + PIN_COUNT) + (18446744073709551616 - 1)) % 18446744073709551616

    less : c.known.worker < length kept.copying
    less = at_less kept.copying c.known.worker c.block (kept.copy id c at).1.copies

    away : 0 ≢ id
    away e = absurd (cc (some-injective (Writer kept.state) (Copying c) (sym kept.at ∙ (ap (get_elem? s.views) e ∙ at))))

    stand : IsBlock kept.state.words c.block
    stand = let o = (kept.copy id c at).1 in kept.state_ok.stand (suc c.known.worker) c.block (kept.state_ok.pins c.known.worker c.block o.copies o.some_block) o.some_block

    changed : (k : ℕ) → pins_on k (set kept.copying c.known.worker 0) + cond (is_count k c.block) 1 0 ≡ pins_on k kept.copying + cond (is_count k 0) 1 0
    changed k = pins_on-set k kept.copying c.known.worker 0 c.block (kept.copy id c at).1.copies

    word : (k : ℕ) → Dec (k ≡ c.block + PIN_COUNT) → slice_index (slice_set s.words (c.block + PIN_COUNT) ((slice_index s.words (c.block + PIN_COUNT) + (18446744073709551616 - 1)) % 18446744073709551616)) k ≡ slice_index kept.state.words k + pins_on k (kept.state.pinning ∷ set kept.copying c.known.worker 0)
    word k (yes e) =
        let b = c.block + PIN_COUNT in
        let some_pin = pins_pos b kept.copying c.known.worker c.block (kept.copy id c at).1.copies stand.positive refl in
        let o : is_count b c.block ≡ true = counts b c.block stand.positive refl in
        let ch : pins_on b (set kept.copying c.known.worker 0) + 1 ≡ pins_on b kept.copying + 0 = rw o at (changed b) in
        let w = kept.each_word b in
        let l = wrap_down (slice_index s.words b) 18446744073709551616 (omega (arith, w, some_pin)) (omega arith) (omega arith) in
        let here : b < length s.words = omega (arith, stand.inside, kept.count) in
        let x = get_or-set_same s.words b ((slice_index s.words b + (18446744073709551616 - 1)) % 18446744073709551616) 0 here in
        subst (λ j. slice_index (slice_set s.words (c.block + PIN_COUNT) ((slice_index s.words (c.block + PIN_COUNT) + (18446744073709551616 - 1)) % 18446744073709551616)) j ≡ slice_index kept.state.words j + pins_on j (kept.state.pinning ∷ set kept.copying c.known.worker 0)) (sym e)
        (omega (arith, x, l, w, ch, some_pin))
    word k (no ne) =
        let o : is_count k c.block ≡ false = uncounted k c.block (λ _ h. ne h) in
        let ch : pins_on k (set kept.copying c.known.worker 0) + 0 ≡ pins_on k kept.copying + 0 = rw o at (changed k) in
        let w = kept.each_word k in
        get_or-set_other s.words (c.block + PIN_COUNT) k ((slice_index s.words (c.block + PIN_COUNT) + (18446744073709551616 - 1)) % 18446744073709551616) 0 ne ∙ omega (arith, w, ch)
