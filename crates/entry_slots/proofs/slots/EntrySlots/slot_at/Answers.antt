use Rattle.std.proofs.Common.{◌≡◌, ℕ, ◌+◌, ◌<◌, ◌%◌, ◌≤◌, List, sym, ap, ◌∙◌, arith, length, subst}
use Rattle.seg_words.specs.Windows.{Aside}
use Rattle.seg_words.specs.Blocks.{IsTold}
use Rattle.php_graph.specs.Numbers.{hash_of}
use Rattle.seg_words.specs.Layout.{words_in}
use Rattle.value_image.specs.PackedBytes.{words_of}
use Rattle.value_image.specs.Rows.{StandsAt}
use Rattle.apcu_model.specs.Cache.{Row}
use Rattle.entry_slots.specs.declared.slots.EntrySlots.{EntrySlots}
use Rattle.entry_slots.specs.EntryWords.{IsEntryKey}
use Rattle.entry_slots.proofs.RowBlocks.{IsHome, room, told_at, home_row}
use Rattle.entry_slots.proofs.KeyWords.{key_length_at}
use Rattle.entry_slots.proofs.TouchedRows.{row_at}
use Rattle.entry_slots.proofs.GhostEntries.{row_now}
use Rattle.entry_slots.proofs.slots.EntrySlots.slot_at.Goals as goal

-- the key stands behind the first words
key_stands : {e : EntrySlots} {ws : List ℕ} {aside : Aside} (row : Row) → IsHome e ws aside row → (at len : ℕ) (ws' : List ℕ) → row.place ≡ at → len ≡ length row.key → ws' ≡ ws → IsEntryKey ws' (at + 12) len row.key
key_stands {ws = ws} row h at len ws' e el ew = record {
  stands = subst (λ (n : ℕ). StandsAt ws' (n + 12) (words_of row.key)) e (subst (λ (w : List ℕ). StandsAt w (row.place + 12) (words_of row.key)) (sym ew) h.entry.key);
  bytes = h.entry.bytes;
  count = sym el;
}

-- its words are there, and told
key_told : {e : EntrySlots} {ws : List ℕ} {aside : Aside} (row : Row) → IsHome e ws aside row → (at len i : ℕ) (aside' : Aside) → row.place ≡ at → len ≡ length row.key → aside' ≡ aside → at + 12 ≤ i → i < at + 12 + words_in len → IsTold aside'.windows i
key_told row h at len i aside' e el ea low high =
    let w = room h in
    let long : words_in len ≡ words_in (length row.key) = ap words_in el in
    subst (λ a. IsTold a.windows i) (sym ea) (w.told i (omega arith) (omega (arith, w.enough, long)) (omega arith))

pub overflow_add-at : goal.overflow_add-at
overflow_add-at g c = let r = row_at (row_now c.requires.stand c.requires.there) in let w = room r.1 in omega (arith, w.high, w.enough, w.short, r.2)

pub load-len-requires : goal.load-len-requires
load-len-requires g c = let r = row_at (row_now c.requires.stand c.requires.there) in let w = room r.1 in omega (arith, w.high, w.enough, w.short, r.2)

pub overflow_cast-len : goal.overflow_cast-len
overflow_cast-len g c =
    let r = row_at (row_now c.requires.stand c.requires.there) in
    let read = c.load-len.ensures.word (told_at r.1 c.args.at 2 r.2 (omega arith) (omega arith)) in
    omega (arith, read, key_length_at r.1 c.args.at r.2, r.1.entry.bytes.0)

pub overflow_add-at-2 : goal.overflow_add-at-2
overflow_add-at-2 g c = let r = row_at (row_now c.requires.stand c.requires.there) in let w = room r.1 in omega (arith, w.high, w.enough, w.short, r.2)

pub hash_at-requires-clause-inside : goal.hash_at-requires-clause-inside
hash_at-requires-clause-inside g c =
    let r = row_at (row_now c.requires.stand c.requires.there) in
    let w = room r.1 in
    let read = c.load-len.ensures.word (told_at r.1 c.args.at 2 r.2 (omega arith) (omega arith)) in
    let len : c.load-len.result ≡ length r.0.key = read ∙ key_length_at r.1 c.args.at r.2 in
    let long : words_in c.load-len.result ≡ words_in (length r.0.key) = ap words_in len in
    omega (arith, ap length c.load-len.ensures.words, long, w.high, w.enough, r.2)

pub hash_at-requires-clause-told : goal.hash_at-requires-clause-told
hash_at-requires-clause-told g c = λ i low high.
    let r = row_at (row_now c.requires.stand c.requires.there) in
    let read = c.load-len.ensures.word (told_at r.1 c.args.at 2 r.2 (omega arith) (omega arith)) in
    key_told r.0 r.1 c.args.at c.load-len.result i (g.S.WordsIn.aside c.load-len.new.self) r.2 (read ∙ key_length_at r.1 c.args.at r.2) c.load-len.ensures.aside low high

pub returns-clause-slot : goal.returns-clause-slot
returns-clause-slot g c = λ row there place.
    let h = c.requires.stand in
    let home = home_row row h there in
    let read = c.load-len.ensures.word (told_at home c.args.at 2 place (omega arith) (omega arith)) in
    let hash = c.hash_at.ensures.hash row.key (key_stands row home c.args.at c.load-len.result (g.S.WordsIn.words c.load-len.new.self) place (read ∙ key_length_at home c.args.at place) c.load-len.ensures.words) in
    c.slot_in.ensures.slot ∙ (ap (λ (n : ℕ). n % c.args.self.now.sma.bounds.from) hash ∙ ap (λ (n : ℕ). hash_of row.key % n) h.from)

pub slot_in-requires : goal.slot_in-requires
slot_in-requires g c = record { some = omega (arith, c.requires.stand.from, c.requires.stand.usable.slots_least) }
