-- The row that a look-up found, as a seat may hold it.
use Rattle.std.proofs.Common.{◌≡◌, ℕ, ◌+◌, ◌*◌, ◌<◌, ◌≤◌, ◌^◌, true, false, List, [], ◌∷◌, length, take, drop, Some, refl, ap, sym, ◌∙◌, subst, arith}
use Rattle.std.specs.Prelude.{slice_index, slice_set, nat_lt}
use Rattle.std.proofs.Math.Seq.{drop-cons}
use Rattle.std.proofs.lemmas.Bool.{eq-eqb, lt-ltb, ltb-true, false≢true, false_from_ne_true}
use Rattle.std.proofs.lemmas.List.{get_or-take, get_or-set_same, get_or-set_other, length-take, length-drop}
use Rattle.std.proofs.lemmas.List.Elements.{Contains-append_left}
use Rattle.std.proofs.lemmas.List.Sums.{sum_by-cons}
use Rattle.php_graph.specs.declared.kind.Kind.{Kind}
use Rattle.php_graph.specs.declared.kind.Kind.TheVariants as kinds
use Rattle.php_graph.specs.Size.{image_length, cells_of}
use Rattle.seg_words.specs.declared.layout.TheConstants.{HEAD_WORDS, IMAGE_LENGTH}
use Rattle.seg_words.specs.Layout.{words_in}
use Rattle.seg_words.specs.Windows.{nothing_aside}
use Rattle.seg_words.specs.Blocks.{image_place, image_end}
use Rattle.seg_words.specs.Members.{any_from}
use Rattle.value_image.specs.Texts.{IsToldImage, string_of}
use Rattle.value_image.proofs.Texts.{told-inside, string-there}
use Rattle.apcu_model.specs.Cache.{Row}
use Rattle.entry_slots.specs.Lists.{is_at, has_place}
use Rattle.entry_slots.specs.Entries.{listed}
use Rattle.entry_slots.specs.Standing.{IsEntry, entries}
use Rattle.entry_slots.proofs.RowWindows.{listed_copied}
use Rattle.cache_core.specs.CoreCache.{cache_of}
use Rattle.cache_core.specs.Looking.{IsRowOf}
use Rattle.cache_c.specs.declared.cache.Cache.{Cache}
use Rattle.cache_c.specs.declared.asking.Answer.{Answer}
use Rattle.cache_c.specs.declared.values.TheConstants as values
use Rattle.cache_c.specs.Seats.{HeldImage, held_image}
use Rattle.cache_c.specs.declared.asking.Ask.{Ask}
use Rattle.cache_c.specs.declared.asking.TheConstants as asking
use Rattle.cache_c.specs.Standing.{StandsForCache, IsHeld, LeavesHeld, StandAt, cache_words, words_memory, seats_of}
use Rattle.cache_c.specs.Asked.{IsValueBy, IsBlockOf, TakesSeat, KeepsSeats, HasLetGo}
use Rattle.cache_c.proofs.Standing.{words_short, held_beside}
use Rattle.cache_c.proofs.Seats.{image_words}

-- the block of the row of a key
pub record RowBlock (cache : Cache) (key : List ℕ) (at : ℕ) (row : Row) : Type 0 where
  pub positive : 0 < at
  pub there : has_place at (listed (entries cache.core.slots)) ≡ true
  pub place : at + HEAD_WORDS + words_in (length key) ≡ image_place (cache_words cache) at
  pub length_is : slice_index (cache_words cache) (at + IMAGE_LENGTH) ≡ image_length row.graph
  pub told : IsToldImage (cache_words cache) [] (image_place (cache_words cache) at) row.graph
  pub inside : image_end (cache_words cache) at ≤ length (cache_words cache)

pub row_block : (cache : Cache) (key : List ℕ) (at : ℕ) (row : Row) → StandsForCache cache → IsRowOf (cache_of cache.core) key at row → RowBlock cache key at row
row_block cache key at row stand is =
    let words = cache_words cache in
    let s = entries cache.core.slots in
    let there : has_place at (listed s) ≡ true = any_from (is_at at) (listed s) row (Contains-append_left s.rows s.removed row is.there) (eq-eqb row.place at is.place) in
    let entry : IsEntry words row = stand.alone.stand.rows row is.there in
    let copied = listed_copied cache.core.slots words nothing_aside s at stand.alone.stand there in
    let image : IsToldImage words [] (image_place words row.place) row.graph = record { image = entry.image; told = λ i low high. refl } in
    record {
      positive = copied.positive;
      there = there;
      place = sym (ap (λ (n : ℕ). image_place words n) (sym is.place) ∙ ap (λ (n : ℕ). row.place + HEAD_WORDS + words_in n) (entry.key_length ∙ ap length is.key_is) ∙ ap (λ (n : ℕ). n + HEAD_WORDS + words_in (length key)) is.place);
      length_is = ap (λ (n : ℕ). slice_index words (n + IMAGE_LENGTH)) (sym is.place) ∙ entry.value_length;
      told = subst (λ (n : ℕ). IsToldImage words [] (image_place words n) row.graph) is.place image;
      inside = copied.inside;
    }

-- what an answer tells by the number of a string is one
record Text (g : List Kind) (a : Answer) : Type 0 where
  bytes : List ℕ
  is : string_of g ≡ Some bytes
  count : a.len ≡ length bytes
  few : 1 + words_in (length bytes) ≤ image_length g

text_in : (words : List ℕ) (g : List Kind) (a : Answer) → IsValueBy words g a → a.kind ≡ values.STR → Text g a
text_in words [] a told text = absurd (omega (arith, told, text))
text_in words (kinds.Null ∷ ks) a told text = absurd (omega (arith, told, text))
text_in words (kinds.Bool b ∷ ks) a told text = absurd (omega (arith, told.0, text))
text_in words (kinds.Int n ∷ ks) a told text = absurd (omega (arith, told.0, text))
text_in words (kinds.Str bytes ∷ ks) a told text = record { bytes = bytes; is = refl; count = told.1; few = omega (arith, sum_by-cons cells_of (kinds.Str bytes) ks) }
text_in words (kinds.Array ms ∷ ks) a told text = absurd (omega (arith, told, text))
text_in words (kinds.Object class ps ∷ ks) a told text = absurd (omega (arith, told, text))
text_in words (kinds.Same x ∷ ks) a told text = absurd (omega (arith, told, text))

-- the answer about a row whose block is at a place
pub block_of : (cache : Cache) (key : List ℕ) (at : ℕ) (row : Row) (a : Answer) → StandsForCache cache → IsRowOf (cache_of cache.core) key at row → IsValueBy (cache_words cache) row.graph a
    → (a.kind ≡ values.STR → a.place ≡ image_place (cache_words cache) at + 1) → IsBlockOf cache at a
block_of cache key at row a stand is told placed =
    let words = cache_words cache in
    let block = row_block cache key at row stand is in
    let p = image_place words at in
    let m = slice_index words (at + IMAGE_LENGTH) in
    let image = image_words words at block.positive in
    let long : length (take m (drop p words)) ≡ image_length row.graph =
    length-take m (drop p words) ∙ omega (arith, length-drop p words, block.inside, block.length_is) in
    let count : length (held_image words at).words ≡ image_length row.graph = ap (λ (i : HeldImage). length i.words) image ∙ long in
    let short : image_length row.graph < 2 ^ 32 = omega (arith, (told-inside words [] p row.graph block.told).1, words_short cache) in
    record {
      there = block.there;
      text = λ text.
          let t = text_in words row.graph a told text in
          let tag = (string-there words nothing_aside p row.graph t.bytes block.told short t.is).1 in
          let any : 0 < m = omega (arith, block.length_is, t.few) in
          let inside = (told-inside words [] p row.graph block.told).0 in
          let front : slice_index (held_image words at).words 0 ≡ 3 + 8 * length t.bytes =
          ap (λ (i : HeldImage). slice_index i.words 0) image
          ∙ get_or-take m (drop p words) 0 0 any
          ∙ ap (λ (l : List ℕ). slice_index l 0) (drop-cons words p 0 inside)
          ∙ tag in
          (omega (arith, count, t.few), omega (arith, front));
      place = placed;
      long = λ text. let t = text_in words row.graph a told text in omega (arith, ap words_in t.count, count, t.few);
    }

-- ---- a seat that is taken

held_taken : {mid new : Cache} (seat at : ℕ) (a : Answer) → seat < 64 → length (seats_of mid) ≡ 64 → 0 < at → a.kind ≡ values.STR → IsBlockOf mid at a → cache_words new ≡ cache_words mid → seats_of new ≡ slice_set (seats_of mid) seat at
    → (bytes : List ℕ) → length bytes ≡ a.len → StandAt (cache_words new) a.place bytes → IsHeld new seat a.place bytes
held_taken {mid} {new} seat at a low all some text block words seats bytes count stand =
    let is : slice_index (seats_of new) seat ≡ at = ap (λ (l : List ℕ). slice_index l seat) seats ∙ get_or-set_same (seats_of mid) seat at 0 (omega (arith, low, all)) in
    let same : held_image (cache_words new) (slice_index (seats_of new) seat) ≡ held_image (cache_words mid) at = ap (λ (ws : List ℕ). held_image ws (slice_index (seats_of new) seat)) words ∙ ap (held_image (cache_words mid)) is in
    let place : (held_image (cache_words mid) at).place ≡ image_place (cache_words mid) at = ap (λ (i : HeldImage). i.place) (image_words (cache_words mid) at some) in
    let front : (held_image (cache_words mid) at).place ≤ a.place = omega (arith, place, block.place text) in
    let back : a.place + words_in (length bytes) ≤ (held_image (cache_words mid) at).place + length (held_image (cache_words mid) at).words = omega (arith, place, block.place text, block.long text, ap words_in count) in
    record {
      some = subst (λ (n : ℕ). 0 < n) (sym is) some;
      low = subst (λ (i : HeldImage). i.place ≤ a.place) (sym same) front;
      high = subst (λ (i : HeldImage). a.place + words_in (length bytes) ≤ i.place + length i.words) (sym same) back;
      stand = stand;
    }

pub seats_kept : {old mid new : Cache} (ask : Ask) (seat least at : ℕ) (a : Answer) → ask.kind ≡ asking.HOLD → ask.number ≡ seat → ask.set ≡ least → seat < 64 → a.kind ≡ values.STR → least ≤ a.len → length (seats_of mid) ≡ 64 → 0 < at
    → LeavesHeld old mid → IsBlockOf mid at a → words_memory new ≡ words_memory mid → cache_words new ≡ cache_words mid → seats_of new ≡ slice_set (seats_of mid) seat at → KeepsSeats ask old new a
seats_kept {old} {mid} {new} ask seat least at a kind number set low text long all some left block memory words seats =
    let takes : (other : ℕ) → other ≡ seat → TakesSeat ask a other = λ other e. record { hold = kind; number = number ∙ sym e; some = omega (arith, e, low); text = text; long = omega (arith, set, long) } in
    record {
      memory = memory ∙ left.memory;
      taken = λ other bytes takes count stand.
          let e : other ≡ seat = sym takes.number ∙ number in
          subst (λ (n : ℕ). IsHeld new n a.place bytes) (sym e) (held_taken {mid = mid} {new = new} seat at a low all some text block words seats bytes count stand);
      others = λ other place bytes no h. held_beside seat at words seats other place bytes (λ e. no (takes other e)) (left.held other place bytes h);
      seats = λ other no. ap (λ (l : List ℕ). slice_index l other) seats ∙ get_or-set_other (seats_of mid) seat other at 0 (λ e. no (takes other e)) ∙ ap (λ (l : List ℕ). slice_index l other) left.seats;
    }

-- none is
pub seats_left : {old new : Cache} (ask : Ask) (a : Answer) → ((seat : ℕ) → TakesSeat ask a seat → ⊥) → LeavesHeld old new → KeepsSeats ask old new a
seats_left ask a none left = record {
  memory = left.memory;
  taken = λ seat bytes takes count stand. absurd (none seat takes);
  others = λ seat place bytes no h. left.held seat place bytes h;
  seats = λ seat no. ap (λ (l : List ℕ). slice_index l seat) left.seats;
}

-- a seat is released
pub let_go : {old new : Cache} (seat : ℕ) → seat < 64 → length (seats_of old) ≡ 64 → new.core ≡ old.core → words_memory new ≡ words_memory old → cache_words new ≡ cache_words old → seats_of new ≡ slice_set (seats_of old) seat 0 → HasLetGo old new seat true
let_go {old} {new} seat low all core memory words seats = record {
  memory = memory;
  core = core;
  words = words;
  some = sym (lt-ltb seat 64 low);
  empty = λ _. ap (λ (l : List ℕ). slice_index l seat) seats ∙ get_or-set_same (seats_of old) seat 0 0 (omega (arith, low, all));
  seats = seats;
  others = λ other place bytes apart h. held_beside seat 0 words seats other place bytes apart h;
}

pub no_seat : (cache : Cache) (seat : ℕ) → 64 ≤ seat → HasLetGo cache cache seat false
no_seat cache seat high = record {
  memory = refl;
  core = refl;
  words = refl;
  some = sym (false_from_ne_true (nat_lt seat 64) (λ t. omega (arith, ltb-true seat 64 t, high)));
  empty = λ yes. absurd (false≢true yes);
  seats = refl;
  others = λ other place bytes apart h. h;
}
