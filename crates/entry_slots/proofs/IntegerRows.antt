-- A row that holds another integer.
use Rattle.std.proofs.Common.{◌≡◌, ◌≢◌, ℕ, zero, suc, ◌+◌, ◌/◌, ◌%◌, ◌<◌, ◌≤◌, true, false, cond, List, [], ◌∷◌, length, slice_index, slice_set, get_or, take, drop, Some, refl, sym, ap, ◌∙◌, subst, arith}
use Rattle.std.specs.Prelude.{ℤ, FitsSigned}
use Rattle.std.specs.Int.{w64, cast_unsigned}
use Rattle.std.proofs.lemmas.Bool.{eq-eqb, ne_eqb}
use Rattle.std.proofs.lemmas.List.{ext_get_or, get_or-take, get_or-drop, length-take, length-drop, length-set, get_or-set_same, get_or-set_other}
use Rattle.std.specs.List.{Contains}
use Rattle.seg_words.specs.declared.layout.TheConstants.{HEAD_WORDS, KEY_LENGTH}
use Rattle.entry_slots.specs.declared.head.TheConstants.{TTL, MTIME}
use Rattle.seg_words.specs.Windows.{Aside}
use Rattle.seg_words.specs.Blocks.{image_place}
use Rattle.php_graph.specs.declared.kind.Kind.{Kind}
use Rattle.php_graph.specs.declared.kind.Kind.TheVariants as kinds
use Rattle.php_graph.specs.Graph.{IsGraph, kind_at, end_of, child_end}
use Rattle.seg_words.specs.Layout.{words_in}
use Rattle.php_graph.specs.Size.{image_length, block_size}
use Rattle.value_image.specs.PackedBytes.{words_of}
use Rattle.value_image.specs.Rows.{StandsAt}
use Rattle.value_image.specs.Image.{IsImageOf, image_of}
use Rattle.apcu_model.specs.Cache.{Row}
use Rattle.entry_slots.specs.declared.slots.EntrySlots.{EntrySlots}
use Rattle.entry_slots.specs.Lists.{is_at}
use Rattle.entry_slots.specs.Entries.{Entries, number_row, with_number}
use Rattle.entry_slots.specs.Standing.{IsEntry, Stands}
use Rattle.entry_slots.specs.Lower.{Laws}
use Rattle.entry_slots.proofs.Runs.{words_long}
use Rattle.entry_slots.proofs.RowBlocks.{room, home_row}
use Rattle.entry_slots.proofs.WordChanges.{OnlyIn, only_none, only_set}
use Rattle.entry_slots.proofs.Frames.{run_same}
use Rattle.entry_slots.proofs.RowChanges.{Keeps, rewritten}
use Rattle.entry_slots.proofs.UnexpiredRows.{number_unexpired}
use Rattle.entry_slots.proofs.DistinctPlaces.{rows_removed, rows_unlinked, rows_one}

-- a graph whose first place is an integer has no other place
pub graph_one : (g : List Kind) (v : ℤ) → IsGraph g → kind_at g 1 ≡ Some (kinds.Int v) → g ≡ kinds.Int v ∷ []
unfolding end_of child_end
graph_one g v h k = go g h.sealed k
  where
    go : (g : List Kind) → end_of g 1 ≡ Some (length g + 1) → kind_at g 1 ≡ Some (kinds.Int v) → g ≡ kinds.Int v ∷ []
    go [] e k = cc
    go (x ∷ []) e k = let same : x ≡ kinds.Int v = cc in ap (λ y. y ∷ []) same
    go (x ∷ y ∷ g) e k =
        let same : x ≡ kinds.Int v = cc in
        let two : Some 2 ≡ Some (length (x ∷ y ∷ g) + 1) = subst (λ z. end_of (z ∷ y ∷ g) 1 ≡ Some (length (x ∷ y ∷ g) + 1)) same e in
        let n : 2 ≡ length (x ∷ y ∷ g) + 1 = cc in
        absurd (omega arith)

no_target : (n : ℤ) (p x : ℕ) → kind_at (kinds.Int n ∷ []) p ≡ Some (kinds.Same x) → ⊥
no_target n zero x k = cc
no_target n (suc zero) x k = cc
no_target n (suc (suc p)) x k = cc

pub int_graph : (n : ℤ) → FitsSigned w64 n → IsGraph (kinds.Int n ∷ [])
unfolding end_of child_end
int_graph n fits = record {
  sealed = refl;
  targets = λ p x k. absurd (no_target n p x k);
  well_formed = (refl, tt);
  fits = (fits, tt);
  count = omega arith;
}

-- the words of such a graph
int_words : (n : ℤ) → image_of (kinds.Int n ∷ []) ≡ 2 ∷ cast_unsigned w64 n ∷ []
unfolding image_of
int_words n = refl

-- a run that is there, word by word
run_from : (ws : List ℕ) (at : ℕ) (run : List ℕ) → at + length run ≤ length ws → ((i : ℕ) → i < length run → slice_index ws (at + i) ≡ get_or run i 0) → StandsAt ws at run
run_from ws at run inside each =
    let long : length (take (length run) (drop at ws)) ≡ length run = omega (arith, length-take (length run) (drop at ws), length-drop at ws) in
    ext_get_or 0 (take (length run) (drop at ws)) run long (λ i lt.
    let few : i < length run = omega (arith, lt, long) in
    get_or-take (length run) (drop at ws) i 0 few ∙ (get_or-drop at ws i 0 ∙ each i few))

two_words : (ws : List ℕ) (at a b : ℕ) → at + 2 ≤ length ws → slice_index ws at ≡ a → slice_index ws (at + 1) ≡ b → StandsAt ws at (a ∷ b ∷ [])
two_words ws at a b inside ea eb = run_from ws at (a ∷ b ∷ []) inside each
  where
    each : (i : ℕ) → i < 2 → slice_index ws (at + i) ≡ get_or (a ∷ b ∷ []) i 0
    each zero lt = ap (slice_index ws) (omega arith) ∙ ea
    each (suc zero) lt = eb
    each (suc (suc i)) lt = absurd (omega arith)

-- the words after another integer was written
abbrev pub number_words : List ℕ → ℕ → ℕ → ℕ → ℕ → List ℕ
number_words ws at i word t = slice_set (slice_set ws i word) (at + MTIME) t

pub number_entry : Laws → (ws : List ℕ) (row : Row) (at i t : ℕ) (n v : ℤ) → IsEntry ws row → row.graph ≡ kinds.Int v ∷ [] → FitsSigned w64 n → row.place ≡ at → at + row.size ≤ length ws → i ≡ at + 13 + words_in (length row.key)
    → IsEntry (number_words ws at i (cast_unsigned w64 n) t) (record row { graph = kinds.Int n ∷ []; mtime = t })
number_entry law ws row at i t n v h graph fits e inside ei =
    let once : List ℕ = slice_set ws i (cast_unsigned w64 n) in
    let ws' : List ℕ = number_words ws at i (cast_unsigned w64 n) t in
    let long : length once ≡ length ws = length-set ws i (cast_unsigned w64 n) in
    let count : length ws' ≡ length ws = length-set once (at + MTIME) t ∙ long in
    let two : image_length row.graph ≡ 2 = ap image_length graph in
    let size : row.size ≡ block_size (length row.key) (kinds.Int n ∷ []) = h.whole ∙ ap (λ (k : ℕ). HEAD_WORDS + words_in (length row.key) + k + (HEAD_WORDS + words_in (length row.key) + k) % 2) two in
    let enough : 14 + words_in (length row.key) ≤ row.size = size_enough (length row.key) row.size size in
    let other : (j : ℕ) → j ≢ i → j ≢ at + MTIME → slice_index ws' j ≡ slice_index ws j = λ j p q. get_or-set_other once (at + MTIME) j t 0 q ∙ get_or-set_other ws i j (cast_unsigned w64 n) 0 p in
    let word : (k : ℕ) → k < HEAD_WORDS → k ≢ MTIME → slice_index ws' (row.place + k) ≡ slice_index ws (row.place + k) = λ k few o. other (row.place + k) (omega arith) (λ q. o (omega arith)) in
    let zero' : row.place + 0 ≡ row.place = omega arith in
    let klen = words_long row.key in
    let start : image_place ws row.place ≡ row.place + HEAD_WORDS + words_in (length row.key) = ap (λ m. row.place + HEAD_WORDS + (m + 7) / 8) h.key_length in
    let key_length : slice_index ws' (row.place + KEY_LENGTH) ≡ length row.key = word 2 (omega arith) (omega arith) ∙ h.key_length in
    let start' : image_place ws' row.place ≡ row.place + HEAD_WORDS + words_in (length row.key) = ap (λ m. row.place + HEAD_WORDS + (m + 7) / 8) key_length in
    let old : IsImageOf ws (row.place + HEAD_WORDS + words_in (length row.key)) (image_length row.graph) row.graph = subst (λ m. IsImageOf ws m (image_length row.graph) row.graph) start h.image in
    let run : StandsAt ws (row.place + HEAD_WORDS + words_in (length row.key)) (2 ∷ cast_unsigned w64 v ∷ []) = subst (λ r. StandsAt ws (row.place + HEAD_WORDS + words_in (length row.key)) r) (ap image_of graph ∙ int_words v) (law.images.run ws (row.place + HEAD_WORDS + words_in (length row.key)) (image_length row.graph) row.graph old) in
    let tag : slice_index ws' (row.place + HEAD_WORDS + words_in (length row.key)) ≡ 2 = other (row.place + HEAD_WORDS + words_in (length row.key)) (omega arith) (omega arith) ∙ (ap (slice_index ws) (omega arith) ∙ law.runs.words ws (row.place + HEAD_WORDS + words_in (length row.key)) (2 ∷ cast_unsigned w64 v ∷ []) 0 run (omega arith)) in
    let value : slice_index ws' (row.place + HEAD_WORDS + words_in (length row.key) + 1) ≡ cast_unsigned w64 n =
    ap (slice_index ws') (omega arith) ∙ (get_or-set_other once (at + MTIME) i t 0 (omega arith) ∙ get_or-set_same ws i (cast_unsigned w64 n) 0 (omega arith)) in
    let image : StandsAt ws' (row.place + HEAD_WORDS + words_in (length row.key)) (image_of (kinds.Int n ∷ [])) = subst (λ r. StandsAt ws' (row.place + HEAD_WORDS + words_in (length row.key)) r) (sym (int_words n)) (two_words ws' (row.place + HEAD_WORDS + words_in (length row.key)) 2 (cast_unsigned w64 n) (omega (arith, count)) tag value) in
    record {
      size = ap (slice_index ws') (sym zero') ∙ (word 0 (omega arith) (omega arith) ∙ (ap (slice_index ws) zero' ∙ h.size));
      key_length = key_length;
      value_length = word 3 (omega arith) (omega arith) ∙ (h.value_length ∙ two);
      ttl = word 4 (omega arith) (omega arith) ∙ h.ttl;
      ctime = word 5 (omega arith) (omega arith) ∙ h.ctime;
      mtime = ap (slice_index ws') (ap (λ m. m + MTIME) e) ∙ get_or-set_same once (at + MTIME) t 0 (omega (arith, long));
      atime = word 7 (omega arith) (omega arith) ∙ h.atime;
      dtime = word 8 (omega arith) (omega arith) ∙ h.dtime;
      hits = word 9 (omega arith) (omega arith) ∙ h.hits;
      number = word 10 (omega arith) (omega arith) ∙ h.number;
      pin_count = word 11 (omega arith) (omega arith) ∙ h.pin_count;
      key = run_same ws ws' (row.place + HEAD_WORDS) (words_of row.key) count (λ j low high. other j (omega arith) (omega arith)) h.key;
      image = subst (λ m. IsImageOf ws' m 2 (kinds.Int n ∷ [])) (sym start') (law.images.image ws' (row.place + HEAD_WORDS + words_in (length row.key)) (kinds.Int n ∷ []) (int_graph n fits) image);
      whole = size;
      bytes = h.bytes;
      short_ttl = h.short_ttl;
    }
  where
    size_enough : (key size : ℕ) → size ≡ block_size key (kinds.Int n ∷ []) → 14 + words_in key ≤ size
    size_enough key size is = omega arith

pub number_keeps : (at : ℕ) (n : ℤ) (t : ℕ) → ((row : Row) → is_at at row ≡ true → row.size ≡ row.size) → Keeps (number_row at n t)
number_keeps at n t h = record {
  key = λ row. elim (is_at at row) as (λ b. (cond b (record row { graph = kinds.Int n ∷ []; mtime = t }) row).key ≡ row.key) [ true ↦ refl | false ↦ refl ];
  place = λ row. elim (is_at at row) as (λ b. (cond b (record row { graph = kinds.Int n ∷ []; mtime = t }) row).place ≡ row.place) [ true ↦ refl | false ↦ refl ];
  size = λ row. elim (is_at at row) as (λ b. (cond b (record row { graph = kinds.Int n ∷ []; mtime = t }) row).size ≡ row.size) [ true ↦ refl | false ↦ refl ];
}

pub number_stands : Laws → {e : EntrySlots} {ws : List ℕ} {aside : Aside} (s : Entries) (h : Stands e ws aside s) (at i t : ℕ) (n v : ℤ) (own : Row) → Contains s.rows own → own.place ≡ at → kind_at own.graph 1 ≡ Some (kinds.Int v) → FitsSigned w64 n → i ≡ at + 13 + words_in (length own.key)
    → Stands e (number_words ws at i (cast_unsigned w64 n) t) aside (with_number at n t s)
number_stands law {e} {ws} {aside} s h at i t n v own there place int fits ei =
    let home = home_row own h there in
    let w = room home in
    let graph : own.graph ≡ kinds.Int v ∷ [] = graph_one own.graph v home.entry.image.graph int in
    let two : image_length own.graph ≡ 2 = ap image_length graph in
    let ws' : List ℕ = number_words ws at i (cast_unsigned w64 n) t in
    let only : OnlyIn ws ws' (own.place + TTL) (own.place + own.size) =
    only_set ws (slice_set ws i (cast_unsigned w64 n)) (own.place + TTL) (own.place + own.size) (at + MTIME) t (only_set ws ws (own.place + TTL) (own.place + own.size) i (cast_unsigned w64 n) (only_none ws (own.place + TTL) (own.place + own.size)) (omega arith) (omega (arith, w.enough, two))) (omega arith) (omega (arith, w.enough)) in
    rewritten h ws' own there only law (number_row at n t) (number_keeps at n t (λ row y. refl))
    (λ row other. let no' : is_at at row ≡ false = ne_eqb row.place at (λ q. other (q ∙ sym place)) in rw no' refl)
    (λ row c same.
    let here : is_at at row ≡ true = eq-eqb row.place at (same ∙ place) in
    let is : own ≡ row = rows_one h own row there c (sym same) in
    let entry : IsEntry ws' (record own { graph = kinds.Int n ∷ []; mtime = t }) = number_entry law ws own at i t n v home.entry graph fits place (omega (arith, w.high, place)) ei in
    rw here (subst (λ (r : Row). IsEntry ws' (record r { graph = kinds.Int n ∷ []; mtime = t })) is entry))
    (λ row c. rows_removed h own row there c)
    (λ row c. rows_unlinked h own row there c)
    (number_unexpired s.conf e.soonest at n t s.rows h.unexpired)
