-- What is kept of rows where words change elsewhere.
use Rattle.std.proofs.Common.{◌≡◌, ◌≢◌, ◌⊎◌, inl, inr, ℕ, ◌+◌, ◌/◌, ◌%◌, ◌<◌, ◌≤◌, List, [], ◌∷◌, length, slice_index, take, drop, sym, ap, ◌∙◌, subst, arith}
use Rattle.std.proofs.lemmas.List.{ext_get_or, get_or-take, get_or-drop, length-take, length-drop}
use Rattle.std.specs.List.{Contains}
use Rattle.seg_words.specs.declared.layout.TheConstants.{HEAD_WORDS, KEY_LENGTH, IMAGE_LENGTH, PIN_COUNT}
use Rattle.entry_slots.specs.declared.head.TheConstants.{NEXT, TTL, CTIME, MTIME, ATIME, DTIME, HITS, NUMBER}
use Rattle.seg_words.specs.declared.gaps.Extent.{Extent}
use Rattle.seg_words.specs.Windows.{Aside}
use Rattle.seg_words.specs.Blocks.{image_place}
use Rattle.seg_words.specs.Layout.{words_in}
use Rattle.php_graph.specs.Size.{image_length}
use Rattle.value_image.specs.PackedBytes.{words_of}
use Rattle.value_image.specs.Rows.{StandsAt}
use Rattle.value_image.specs.Image.{IsImageOf, image_of}
use Rattle.apcu_model.specs.Cache.{Row, extent_of}
use Rattle.entry_slots.specs.declared.slots.EntrySlots.{EntrySlots}
use Rattle.entry_slots.specs.Standing.{IsRowChain, IsEntry}
use Rattle.entry_slots.specs.Lower.{Laws}
use Rattle.entry_slots.proofs.Runs.{words_long}
use Rattle.seg_words.specs.Members.{Contains-first, Contains-later}
use Rattle.entry_slots.proofs.Blocks.{Apart, live_apart}
use Rattle.entry_slots.proofs.RowBlocks.{IsHome}

-- a run that stands in both rows of words
pub run_same : (ws ws' : List ℕ) (at : ℕ) (run : List ℕ) → length ws' ≡ length ws → ((i : ℕ) → at ≤ i → i < at + length run → slice_index ws' i ≡ slice_index ws i) → StandsAt ws at run → StandsAt ws' at run
run_same ws ws' at run count same h =
    let n : ℕ = length run in
    let long : length (take n (drop at ws')) ≡ length (take n (drop at ws)) = omega (arith, length-take n (drop at ws'), length-take n (drop at ws), length-drop at ws', length-drop at ws) in
    ext_get_or 0 (take n (drop at ws')) (take n (drop at ws)) long (λ i lt.
    let few : i < n = omega (arith, length-take n (drop at ws'), lt) in
    get_or-take n (drop at ws') i 0 few ∙ (get_or-drop at ws' i 0 ∙ (same (at + i) (omega arith) (omega arith) ∙ (sym (get_or-drop at ws i 0) ∙ sym (get_or-take n (drop at ws) i 0 few)))))
    ∙ h

-- the words of a row's block are unchanged, except the chain's
pub record SameRow (ws ws' : List ℕ) (row : Row) : Type 0 where
  pub count : length ws' ≡ length ws
  pub same : (i : ℕ) → row.place ≤ i → i < row.place + row.size → i ≢ row.place + NEXT → slice_index ws' i ≡ slice_index ws i

enough_is : (n size : ℕ) → size ≡ n + n % 2 → n ≤ size
enough_is n size h = omega arith

-- the same except for some words of the row's head
pub record SameBut (ws ws' : List ℕ) (row : Row) : Type 0 where
  pub count : length ws' ≡ length ws
  pub first : (k : ℕ) → k < MTIME → k ≢ NEXT → slice_index ws' (row.place + k) ≡ slice_index ws (row.place + k)
  pub later : (i : ℕ) → row.place + NUMBER ≤ i → i < row.place + row.size → slice_index ws' i ≡ slice_index ws i

pub entry_dated : Laws → (ws ws' : List ℕ) (row : Row) (mtime atime dtime hits : ℕ) → IsEntry ws row → SameBut ws ws' row
    → slice_index ws' (row.place + MTIME) ≡ mtime → slice_index ws' (row.place + ATIME) ≡ atime → slice_index ws' (row.place + DTIME) ≡ dtime → slice_index ws' (row.place + HITS) ≡ hits
    → IsEntry ws' (record row { mtime = mtime; atime = atime; dtime = dtime; hits = hits })
entry_dated law ws ws' row mtime atime dtime hits h s em ea ed eh =
    let enough : HEAD_WORDS + words_in (length row.key) + image_length row.graph ≤ row.size = enough_is (HEAD_WORDS + words_in (length row.key) + image_length row.graph) row.size h.whole in
    let zero : row.place + 0 ≡ row.place = omega arith in
    let klen = words_long row.key in
    let glen = law.images.long row.graph in
    let start : image_place ws row.place ≡ row.place + HEAD_WORDS + words_in (length row.key) = ap (λ n. row.place + HEAD_WORDS + (n + 7) / 8) h.key_length in
    let start' : image_place ws' row.place ≡ row.place + HEAD_WORDS + words_in (length row.key) = ap (λ n. row.place + HEAD_WORDS + (n + 7) / 8) (s.first KEY_LENGTH (omega arith) (omega arith) ∙ h.key_length) in
    let image : StandsAt ws (row.place + HEAD_WORDS + words_in (length row.key)) (image_of row.graph) =
    law.images.run ws (row.place + HEAD_WORDS + words_in (length row.key)) (image_length row.graph) row.graph (subst (λ n. IsImageOf ws n (image_length row.graph) row.graph) start h.image) in
    let image' : StandsAt ws' (row.place + HEAD_WORDS + words_in (length row.key)) (image_of row.graph) =
    run_same ws ws' (row.place + HEAD_WORDS + words_in (length row.key)) (image_of row.graph) s.count (λ i low high. s.later i (omega arith) (omega arith)) image in
    record {
      size = ap (slice_index ws') (sym zero) ∙ (s.first 0 (omega arith) (omega arith) ∙ (ap (slice_index ws) zero ∙ h.size));
      key_length = s.first KEY_LENGTH (omega arith) (omega arith) ∙ h.key_length;
      value_length = s.first IMAGE_LENGTH (omega arith) (omega arith) ∙ h.value_length;
      ttl = s.first TTL (omega arith) (omega arith) ∙ h.ttl;
      ctime = s.first CTIME (omega arith) (omega arith) ∙ h.ctime;
      mtime = em;
      atime = ea;
      dtime = ed;
      hits = eh;
      number = s.later (row.place + NUMBER) (omega arith) (omega arith) ∙ h.number;
      pin_count = s.later (row.place + PIN_COUNT) (omega arith) (omega arith) ∙ h.pin_count;
      key = run_same ws ws' (row.place + HEAD_WORDS) (words_of row.key) s.count (λ i low high. s.later i (omega arith) (omega arith)) h.key;
      image = subst (λ n. IsImageOf ws' n (image_length row.graph) row.graph) (sym start') (law.images.image ws' (row.place + HEAD_WORDS + words_in (length row.key)) row.graph h.image.graph image');
      whole = h.whole;
      bytes = h.bytes;
      short_ttl = h.short_ttl;
    }

pub entry_kept : Laws → (ws ws' : List ℕ) (row : Row) → IsEntry ws row → SameRow ws ws' row → IsEntry ws' row
entry_kept law ws ws' row h s =
    let enough : HEAD_WORDS + words_in (length row.key) + image_length row.graph ≤ row.size = enough_is (HEAD_WORDS + words_in (length row.key) + image_length row.graph) row.size h.whole in
    let at : (k : ℕ) → k < HEAD_WORDS → k ≢ NEXT → slice_index ws' (row.place + k) ≡ slice_index ws (row.place + k) = λ k few other. s.same (row.place + k) (omega arith) (omega arith) (λ q. other (omega arith)) in
    let but : SameBut ws ws' row = record {
      count = s.count;
      first = λ k few other. at k (omega arith) other;
      later = λ i low high. s.same i (omega arith) high (omega arith);
    } in
    entry_dated law ws ws' row row.mtime row.atime row.dtime row.hits h but (at 6 (omega arith) (omega arith) ∙ h.mtime) (at 7 (omega arith) (omega arith) ∙ h.atime) (at 8 (omega arith) (omega arith) ∙ h.dtime) (at 9 (omega arith) (omega arith) ∙ h.hits)

-- a chain is kept where word 1 of each of its blocks is
pub chain_kept : (ws ws' : List ℕ) (first : ℕ) (rows : List Row) → ((row : Row) → Contains rows row → slice_index ws' (row.place + NEXT) ≡ slice_index ws (row.place + NEXT)) → IsRowChain ws first rows → IsRowChain ws' first rows
chain_kept ws ws' first [] same h = h
chain_kept ws ws' first (row ∷ rows) same h =
    (h.0, subst (λ a. IsRowChain ws' a rows) (sym (same row (Contains-first row rows))) (chain_kept ws ws' (slice_index ws (row.place + NEXT)) rows (λ r c. same r (Contains-later row rows r c)) h.1))

-- blocks at two places have no word in common
pub rows_apart : {e : EntrySlots} {ws : List ℕ} {aside : Aside} (p q : Row) → IsHome e ws aside p → IsHome e ws aside q → p.place ≢ q.place → (p.place + p.size ≤ q.place) ⊎ (q.place + q.size ≤ p.place)
unfolding Apart
rows_apart {e} {ws} {aside} p q hp hq other =
    elim (live_apart e.sma ws aside (extent_of p) (extent_of q) hp.ready hp.live hq.live) [
      | inl same ↦ absurd (other (ap (λ (x : Extent). x.place) same))
      | inr apart ↦ apart
    ]
