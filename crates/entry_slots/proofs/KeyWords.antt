-- Keys as words, and what makes two keys one.
use Rattle.std.proofs.Common.{◌≡◌, ◌≢◌, ℕ, ◌+◌, ◌<◌, true, false, List, length, slice_index, sym, ap, ◌∙◌, subst, arith}
use Rattle.std.proofs.lemmas.Bool.{false_from_ne_true}
use Rattle.std.proofs.lemmas.List.{same_lists}
use Rattle.std.proofs.lemmas.List.FromFn.{get_or-map-range_with_len}
use Rattle.std.proofs.lemmas.Slice.Eq.{bytes_eq-Decides}
use Rattle.seg_words.specs.declared.layout.TheConstants.{HEAD_WORDS, KEY_LENGTH}
use Rattle.seg_words.specs.Windows.{Aside}
use Rattle.php_graph.specs.ByteStrings.{AreBytes}
use Rattle.seg_words.specs.Layout.{words_in}
use Rattle.value_image.specs.PackedBytes.{words_of, word_at}
use Rattle.apcu_model.specs.Cache.{Row, has_key}
use Rattle.entry_slots.specs.declared.slots.EntrySlots.{EntrySlots}
use Rattle.entry_slots.specs.Lower.{Laws}
use Rattle.entry_slots.proofs.Runs.{words_long, word_there}
use Rattle.entry_slots.proofs.RowBlocks.{IsHome}

-- bytes with the same words are the same
pub same_bytes : Laws → (a b : List ℕ) → length a ≡ length b → AreBytes a → AreBytes b → ((j : ℕ) → j < words_in (length b) → word_at a j ≡ word_at b j) → a ≡ b
same_bytes law a b len sa sb each =
    law.packed.apart a b sa sb len (same_lists (words_of a) (words_of b) (words_long a ∙ (ap words_in len ∙ sym (words_long b))) (λ k d lt.
    let la = words_long a in
    let at : k < words_in (length a) = omega (arith, la, lt) in
    let too : k < words_in (length b) = subst (λ n. k < words_in n) len at in
    get_or-map-range_with_len (word_at a) 0 (words_in (length a)) k k d at (omega arith)
    ∙ (each k too ∙ sym (get_or-map-range_with_len (word_at b) 0 (words_in (length b)) k k d too (omega arith)))))

-- the words of a row's key
pub key_at : Laws → {e : EntrySlots} {ws : List ℕ} {aside : Aside} {row : Row} → IsHome e ws aside row → (at j : ℕ) → row.place ≡ at → j < words_in (length row.key) → slice_index ws (at + HEAD_WORDS + j) ≡ word_at row.key j
key_at law {ws = ws} {row = row} h at j e lt =
    let len = words_long row.key in
    ap (λ n. slice_index ws (n + HEAD_WORDS + j)) (sym e) ∙ (law.runs.words ws (row.place + HEAD_WORDS) (words_of row.key) j h.entry.key (omega (arith, len, lt)) ∙ word_there row.key j lt)

-- the length of a row's key
pub key_length_at : {e : EntrySlots} {ws : List ℕ} {aside : Aside} {row : Row} → IsHome e ws aside row → (at : ℕ) → row.place ≡ at → slice_index ws (at + KEY_LENGTH) ≡ length row.key
key_length_at {ws = ws} h at e = ap (λ n. slice_index ws (n + KEY_LENGTH)) (sym e) ∙ h.entry.key_length

pub key_differs : (row : Row) (key : List ℕ) → (row.key ≡ key → ⊥) → false ≡ has_key key row
key_differs row key other = sym (false_from_ne_true (has_key key row) (λ t. other ((bytes_eq-Decides row.key key).0 t)))

pub key_equal : (row : Row) (key : List ℕ) → row.key ≡ key → true ≡ has_key key row
key_equal row key e = sym ((bytes_eq-Decides row.key key).1 e)

pub key_of : (row : Row) (key : List ℕ) → has_key key row ≡ true → row.key ≡ key
key_of row key t = (bytes_eq-Decides row.key key).0 t

-- a word that differs
pub differs_at : Laws → {e : EntrySlots} {ws : List ℕ} {aside : Aside} (row : Row) (key : List ℕ) → IsHome e ws aside row → (at j w : ℕ) → row.place ≡ at → j < words_in (length key) → slice_index ws (at + HEAD_WORDS + j) ≢ word_at key j → false ≡ has_key key row
differs_at law row key h at j w e lt other =
    key_differs row key (λ same. other (key_at law h at j e (subst (λ k. j < words_in (length k)) (sym same) lt) ∙ ap (λ k. word_at k j) same))

-- all words are the same
pub equal_at : Laws → {e : EntrySlots} {ws : List ℕ} {aside : Aside} (row : Row) (key : List ℕ) → IsHome e ws aside row → (at : ℕ) → row.place ≡ at → slice_index ws (at + KEY_LENGTH) ≡ length key → AreBytes key → ((j : ℕ) → j < words_in (length key) → slice_index ws (at + HEAD_WORDS + j) ≡ word_at key j) → true ≡ has_key key row
equal_at law row key h at e long small each =
    let len : length row.key ≡ length key = sym (key_length_at h at e) ∙ long in
    key_equal row key (same_bytes law row.key key len h.entry.bytes small (λ j lt. sym (key_at law h at j e (subst (λ n. j < words_in n) (sym len) lt)) ∙ each j lt))
