-- The key of an entry, read from the words of its block.
use Rattle.std.proofs.Common.{◌≡◌, ◌∙◌, ℕ, ◌+◌, ◌<◌, ◌≤◌, true, List, ◌++◌, length, take, drop}
use Rattle.std.proofs.Common.{sym, ap, subst, arith}
use Rattle.std.proofs.lemmas.List.{take-append-drop}
use Rattle.seg_words.specs.declared.layout.TheConstants.{HEAD_WORDS}
use Rattle.seg_words.specs.Blocks.{IsTold}
use Rattle.seg_words.specs.Layout.{words_in}
use Rattle.seg_words.specs.Windows.{Aside}
use Rattle.php_graph.specs.ByteStrings.{AreBytes}
use Rattle.value_image.specs.PackedBytes.{words_of, bytes_of}
use Rattle.value_image.specs.Laws.{BytesArePacked}
use Rattle.value_image.specs.Rows.{StandsAt}
use Rattle.apcu_model.specs.declared.conf.TheConstants.{MOST_USABLE_WORDS}
use Rattle.apcu_model.specs.Cache.{Row}
use Rattle.entry_slots.specs.declared.slots.EntrySlots.{EntrySlots}
use Rattle.entry_slots.proofs.RowBlocks.{IsHome, room}

-- the first bytes of the words after the head of the block at this place are the key
pub record IsKeyAt (ws windows : List ℕ) (at : ℕ) (key : List ℕ) : Type 0 where
  pub back : take (length key) (bytes_of (drop (at + HEAD_WORDS) ws)) ≡ key
  pub inside : at + HEAD_WORDS + words_in (length key) ≤ length ws
  pub told : (i : ℕ) → at + HEAD_WORDS ≤ i → i < at + HEAD_WORDS + words_in (length key) → IsTold windows i
  pub short : length ws ≤ MOST_USABLE_WORDS

bytes_back : BytesArePacked → (ws : List ℕ) (at : ℕ) (key : List ℕ) → AreBytes key → StandsAt ws at (words_of key) → take (length key) (bytes_of (drop at ws)) ≡ key
bytes_back law ws at key are stands =
    let n = length (words_of key) in
    let split : drop at ws ≡ words_of key ++ drop n (drop at ws) =
    sym (take-append-drop n (drop at ws)) ∙ ap (λ l. l ++ drop n (drop at ws)) stands in
    ap (λ l. take (length key) (bytes_of l)) split ∙ law.back key (drop n (drop at ws)) are

pub key_at : BytesArePacked → {e : EntrySlots} {ws : List ℕ} {aside : Aside} (row : Row) → IsHome e ws aside row → (at : ℕ) → row.place ≡ at → IsKeyAt ws aside.windows at row.key
key_at law {e} {ws} {aside} row h at place =
    let w = room h in
    record {
      back = bytes_back law ws (at + HEAD_WORDS) row.key h.entry.bytes (subst (λ (n : ℕ). StandsAt ws (n + HEAD_WORDS) (words_of row.key)) place h.entry.key);
      inside = omega (arith, w.high, w.enough, place);
      told = λ i low high. w.told i (omega arith) (omega (arith, w.enough)) (omega arith);
      short = w.short;
    }
