-- What the steps carry gives the rule in all seven parts.
use Rattle.std.proofs.Common.{◌≡◌, ◌≢◌, ℕ, zero, suc, ◌+◌, ◌<◌, ◌≤◌, ◌==◌, true, false, ◌⊎◌, inl, inr, List, [], ◌∷◌, length, take, drop, slice_index, Option, Some, None, refl, ap, sym, ◌∙◌, subst, arith}
use Rattle.std.proofs.lemmas.Bool.{false≢true, eqb-true, or_cases}
use Rattle.seg_words.specs.declared.layout.TheConstants.{IMAGE_LENGTH, PIN_COUNT}
use mathlib.Core.Option.{some}
use lib.ListN.{get_elem?}
use Rattle.seg_words.specs.Windows.{is_named}
use Rattle.seg_words.specs.Blocks.{IsTold, image_place}
use Rattle.pin_table.specs.declared.views.Known.{Known}
use Rattle.pin_table.specs.declared.views.Reader.{Reader}
use Rattle.pin_table.specs.declared.views.View.{View}
use Rattle.pin_table.specs.declared.views.View.TheVariants.{Writer, Idle, Copying, Spent}
use Rattle.pin_table.specs.Events.{fetched_last}
use Rattle.pin_table.specs.Pins.{IsBlock}
use Rattle.pin_table.specs.Views.{is_in_hand, has_worker, known_of, named_blocks, carries}
use Rattle.pin_table.specs.Order.{Fits, PassInOrder, Carried}
use Rattle.pin_table.specs.Rule.{WordsAreWriters, PassesAreOne, HistoriesAgree, WindowsAreFetches, CountsAreCopies, BlocksAreApart, Rule}
use Rattle.pin_table.proofs.WindowLists.{there_named, told_not, pins_none}
use Rattle.pin_table.proofs.EventLogs.{fetched_own, fetched_nothing}

length_range : (l : List ℕ) (m n : ℕ) → m + n ≤ length l → length (take n (drop m l)) ≡ n
length_range l zero zero h = refl
length_range [] zero (suc n) h = absurd (omega (arith, h))
length_range (x ∷ xs) zero (suc n) h = omega (arith, length_range xs 0 n (omega (arith, h)))
length_range [] (suc m) n h = absurd (omega (arith, h))
length_range (x ∷ xs) (suc m) n h = length_range xs m n (omega (arith, h))

among_there : (ps : List Known) (w : ℕ) → has_worker w ps ≡ true → (k : ℕ) × (p : Known) × (get_elem? ps k ≡ some p) × (p.worker ≡ w)
among_there [] w h = absurd (false≢true h)
among_there (q ∷ qs) w h = go (among_there qs w) (or_cases (q.worker == w) (has_worker w qs) h)
  where
    go : (has_worker w qs ≡ true → (k : ℕ) × (p : Known) × (get_elem? qs k ≡ some p) × (p.worker ≡ w)) → ((q.worker == w) ≡ true) ⊎ (has_worker w qs ≡ true)
        → (k : ℕ) × (p : Known) × (get_elem? (q ∷ qs) k ≡ some p) × (p.worker ≡ w)
    go later (inl e) = (0, q, refl, eqb-true q.worker w e)
    go later (inr r) = let t = later r in (suc t.0, t.1, t.2, t.3)

module _ (words : List ℕ) (views : List View) (kept : Carried words views) where
  block_named : (at : ℕ) → is_named (named_blocks kept.state) at ≡ true → IsBlock kept.state.words at
  block_named at named = let t = there_named (named_blocks kept.state) at named in kept.state_ok.stand t.1.0 at t.1.1 t.0

  reader_named : (k : ℕ) (c : Reader) → get_elem? views k ≡ some (Copying c) → get_elem? (named_blocks kept.state) (suc c.known.worker) ≡ some c.block
  reader_named k c h = let r = kept.copy k c h in kept.state_ok.pins c.known.worker c.block r.1.copies r.1.some_block

  words_are : WordsAreWriters words kept.state
  words_are = record {
    count = kept.count;
    same = λ i told. let n = pins_none i (kept.state.pinning ∷ kept.copying) (others i told) in omega (arith, kept.each_word i, n);
    zero = λ at named. (block_named at named).zero_count;
  }
    where
      others : (i : ℕ) → IsTold (named_blocks kept.state) i → (v at : ℕ) → get_elem? (kept.state.pinning ∷ kept.copying) v ≡ some at → 0 < at → i ≢ at + PIN_COUNT
      others i told zero at h pos = told_not (named_blocks kept.state) i 0 at told h pos
      others i told (suc v) at h pos = told_not (named_blocks kept.state) i (suc v) at told (kept.state_ok.pins v at h pos) pos

  passes_are : PassesAreOne views kept.state kept.place
  passes_are = record {
    placed = kept.placed;
    once = once;
    hand = λ w. in_hand_made w kept.state.log.hand refl;
    closed = λ w h. let t = among_there kept.state.log.closed w h in subst (λ u. u < kept.state.log.made) t.3 (kept.state_ok.log.closed t.0 t.1 t.2).made;
    no_event = kept.state_ok.log.none;
    no_window = no_window;
    few = omega (arith, kept.state_ok.log.count, kept.state_ok.all_seats, kept.state_ok.few);
  }
    where
      from : (w k : ℕ) (p : Known) → PassInOrder kept.state.log kept.place k p → (p.worker == w) ≡ true → (kept.place w ≡ k) × (w < kept.state.log.made) × (is_in_hand w kept.state.log.hand ≡ false) × (has_worker w kept.state.log.closed ≡ false)
      from w k p ok same = subst (λ u. (kept.place u ≡ k) × (u < kept.state.log.made) × (is_in_hand u kept.state.log.hand ≡ false) × (has_worker u kept.state.log.closed ≡ false)) (eqb-true p.worker w same) (ok.placed, ok.fits.made, ok.away, ok.open_yet)

      once : (w k : ℕ) (v : View) → get_elem? views k ≡ some v → carries w v ≡ true → (kept.place w ≡ k) × (w < kept.state.log.made) × (is_in_hand w kept.state.log.hand ≡ false) × (has_worker w kept.state.log.closed ≡ false)
      once w k (Writer x) h c = absurd (false≢true c)
      once w k (Idle p) h c = from w k p (kept.idle k p h).0 c
      once w k (Copying q) h c = from w k q.known (kept.copy k q h).0 c
      once w k Spent h c = absurd (false≢true c)

      in_hand_made : (w : ℕ) (o : Option Known) → kept.state.log.hand ≡ o → is_in_hand w o ≡ true → (w < kept.state.log.made) × (has_worker w kept.state.log.closed ≡ false)
      in_hand_made w (Some p) e t = subst (λ u. (u < kept.state.log.made) × (has_worker u kept.state.log.closed ≡ false)) (eqb-true p.worker w t) ((kept.state_ok.log.hand p e).made, kept.state_ok.log.away p e)
      in_hand_made w None e t = absurd (false≢true t)

      no_window : (w at : ℕ) → kept.state.log.made ≤ w → get_elem? kept.state.windows w ≡ some at → at ≡ 0
      no_window w zero high h = refl
      no_window w (suc at) high h =
          let f = kept.state_ok.fetched w (suc at) h (omega arith) in
          absurd (false≢true (sym (fetched_nothing w kept.state.log.history (kept.state_ok.log.none w high)) ∙ f.2))

  histories_agree : HistoriesAgree views kept.state
  histories_agree = record { passes = passes; hand = kept.state_ok.log.hand; bounded = kept.state_ok.log.bounded }
    where
      passes : (w k : ℕ) (v : View) → get_elem? views k ≡ some v → carries w v ≡ true → Fits kept.state.log (known_of v)
      passes w k (Writer x) h c = absurd (false≢true c)
      passes w k (Idle p) h c = (kept.idle k p h).0.fits
      passes w k (Copying q) h c = (kept.copy k q h).0.fits
      passes w k Spent h c = absurd (false≢true c)

  windows_are : WindowsAreFetches views kept.state
  windows_are = record {
    windows = λ w at h pos. let f = kept.state_ok.fetched w at h pos in (f.0, f.2);
    block = λ k c h. ((kept.copy k c h).1.some_block, reader_named k c h);
    content = λ k c h. (kept.copy k c h).1.content;
    last = λ k c h.
        let r = kept.copy k c h in
        let f = kept.state_ok.fetched c.known.worker c.block (reader_named k c h) r.1.some_block in
        ap (λ l. fetched_last c.known.worker l false) (sym r.0.fits.own) ∙ (fetched_own c.known.worker kept.state.log.history false ∙ f.2);
    pin = λ k c h. (kept.copy k c h).1.pin;
  }

  counts_are : CountsAreCopies words views kept.state
  counts_are = record {
    count = λ at named. let z = (block_named at named).zero_count in omega (arith, kept.each_word (at + PIN_COUNT), z, kept.copies (at + PIN_COUNT));
  }

  blocks_apart : BlocksAreApart views kept.state
  blocks_apart = record {
    apart = λ a b ha hb. let s = there_named (named_blocks kept.state) a ha in let t = there_named (named_blocks kept.state) b hb in kept.state_ok.apart s.1.0 t.1.0 a b s.1.1 t.1.1 s.0 t.0;
    inside = λ at named. (block_named at named).inside;
    first = λ k c h. (kept.copy k c h).1.first;
    range = λ k c h.
        let r = kept.copy k c h in
        let i = (kept.state_ok.stand (suc c.known.worker) c.block (reader_named k c h) r.1.some_block).inside in
        ap length r.1.content ∙ length_range kept.state.words (image_place kept.state.words c.block) (slice_index kept.state.words (c.block + IMAGE_LENGTH)) i;
  }

  pub rule_of : Rule words views
  rule_of = record {
    state = kept.state;
    place = kept.place;
    writer = kept.at;
    one = words_are;
    two = passes_are;
    three = histories_agree;
    four = windows_are;
    five = counts_are;
    six = record { closed = kept.state_ok.unread };
    seven = blocks_apart;
    carried = kept;
  }
