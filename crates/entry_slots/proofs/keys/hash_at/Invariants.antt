use Rattle.std.proofs.Common.{◌≡◌, ℕ, ◌+◌, ◌/◌, ◌%◌, ◌<◌, List, take, fold, slice_index}
use Rattle.php_graph.specs.Numbers.{hash_step}
use Rattle.seg_words.specs.Kept.{Kept}
use Rattle.entry_slots.specs.EntryWords.{IsEntryKey}
use Rattle.entry_slots.proofs.keys.hash_at.Given as goal

abbrev pub invariant-loop-i : goal.invariant-loop-i
invariant-loop-i g l = record {
  hashed : (key : List ℕ) → IsEntryKey (g.S.WordsIn.words l.fn.seg) l.at l.len key → l.hash ≡ fold hash_step 5381 (take l.i key);
  held : 0 < l.i % 8 → l.word ≡ slice_index (g.S.WordsIn.words l.fn.seg) (l.at + l.i / 8);
  kept : Kept g.S.WordsIn l.fn.seg l.seg;
}
