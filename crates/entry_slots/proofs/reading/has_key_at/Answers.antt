use Rattle.std.proofs.Common.{◌≡◌, inl, inr, ℕ, ◌+◌, ◌<◌, List, sym, ap, ◌∙◌, arith, length, slice_index, subst}
use Rattle.std.proofs.lemmas.Bool.{cases_lt}
use Rattle.std.proofs.lemmas.List.Elements.{recursion_from_All, All-from_get_or}
use Rattle.value_image.specs.PackedBytes.{word_at}
use Rattle.seg_words.specs.Layout.{words_in}
use Rattle.seg_words.specs.Blocks.{IsTold}
use Rattle.seg_words.specs.Windows.{Aside}
use Rattle.entry_slots.specs.declared.slots.EntrySlots.{EntrySlots}
use Rattle.apcu_model.specs.Cache.{Row}
use Rattle.entry_slots.proofs.RowBlocks.{IsHome, row_there, room, told_at, home_listed}
use Rattle.entry_slots.proofs.Blocks.{read_along}
use Rattle.entry_slots.proofs.KeyWords.{key_differs, differs_at, equal_at, key_length_at}
use Rattle.entry_slots.proofs.GhostEntries.{entry_now}
use Rattle.entry_slots.proofs.reading.has_key_at.Goals as goal

-- so far the words are the same, and so is the next
more : (P : ℕ → Type 0) (i : ℕ) → ((j : ℕ) → j < i → P j) → P i → (j : ℕ) → j < i + 1 → P j
more P i h k j lt = elim (cases_lt j i) [ inl l ↦ h j l | inr r ↦ (let e : i ≡ j = omega arith in subst P e k) ]

-- a word of the key that is read
pub told_key : {e : EntrySlots} {ws : List ℕ} {aside : Aside} (row : Row) → IsHome e ws aside row → (at i n : ℕ) → row.place ≡ at → n ≡ length row.key → i < words_in n → (at + 12 + i < length ws) × IsTold aside.windows (at + 12 + i)
told_key row h at i n e len lt =
    let w = room h in
    (omega (arith, w.high, w.enough), w.told (at + 12 + i) (omega arith) (omega (arith, w.enough)) (omega arith))

pub overflow_add-at : goal.overflow_add-at
overflow_add-at g c = let r = row_there (entry_now c.requires.there.1.stand c.requires.there.1.there) in let w = room r.1 in omega (arith, w.high, w.enough, w.short, r.2)

pub load-requires : goal.load-requires
load-requires g c = let r = row_there (entry_now c.requires.there.1.stand c.requires.there.1.there) in let w = room r.1 in omega (arith, w.high, w.enough, w.short, r.2)

pub returns-then-load-key-clause-is : goal.returns-then-load-key-clause-is
returns-then-load-key-clause-is g c = λ e row has is.
    let place = is.place in
    let home = home_listed row has.stand is.there in
    let read = c.load.ensures.word (told_at home c.args.at 2 place (omega arith) (omega arith)) in
    key_differs row c.args.key.now (λ same. c.if-load-key.true (read ∙ (key_length_at home c.args.at place ∙ ap length same)))

pub overflow_add-at-in-loop-i : goal.overflow_add-at-in-loop-i
overflow_add-at-in-loop-i g c = let r = row_there (entry_now c.requires.there.1.stand c.requires.there.1.there) in let w = room r.1 in omega (arith, w.high, w.enough, w.short, r.2)

pub overflow_add-at-in-loop-i-2 : goal.overflow_add-at-in-loop-i-2
overflow_add-at-in-loop-i-2 g c =
    let r = row_there (entry_now c.requires.there.1.stand c.requires.there.1.there) in
    let w = room r.1 in
    let read = c.load.ensures.word (told_at r.1 c.args.at 2 r.2 (omega arith) (omega arith)) in
    let k = told_key r.0 r.1 c.args.at c.loop-i.i (length c.args.key.now) r.2 (sym c.if-load-key.false ∙ (read ∙ key_length_at r.1 c.args.at r.2)) (omega (arith, c.words_in-i-end.ensures)) in
    omega (arith, k.0, w.short)

pub load-requires-in-loop-i : goal.load-requires-in-loop-i
load-requires-in-loop-i g c =
    let r = row_there (entry_now c.requires.there.1.stand c.requires.there.1.there) in
    let read = c.load.ensures.word (told_at r.1 c.args.at 2 r.2 (omega arith) (omega arith)) in
    let k = told_key r.0 r.1 c.args.at c.loop-i.i (length c.args.key.now) r.2 (sym c.if-load-key.false ∙ (read ∙ key_length_at r.1 c.args.at r.2)) (omega (arith, c.words_in-i-end.ensures)) in
    rw c.loop-i.invariant.kept.words k.0

pub returns-then-load-byte_word-clause-is : goal.returns-then-load-byte_word-clause-is
returns-then-load-byte_word-clause-is g c = λ e row has is.
    let place = is.place in
    let home = home_listed row has.stand is.there in
    let read = c.load.ensures.word (told_at home c.args.at 2 place (omega arith) (omega arith)) in
    let lt : c.loop-i.i < words_in (length c.args.key.now) = omega (arith, c.words_in-i-end.ensures, c.loop-i-test.true) in
    let k = told_key row home c.args.at c.loop-i.i (length c.args.key.now) place (sym c.if-load-key.false ∙ (read ∙ key_length_at home c.args.at place)) lt in
    let word = read_along (g.S.WordsIn.words c.args.seg.now) (g.S.WordsIn.words c.loop-i.seg) (g.S.WordsIn.aside c.args.seg.now) (g.S.WordsIn.aside c.loop-i.seg) (c.args.at + 12 + c.loop-i.i) c.load-in-loop-i.result c.loop-i.invariant.kept.words c.loop-i.invariant.kept.aside k.1 c.load-in-loop-i.ensures.word in
    differs_at c.lower_laws.ensures row c.args.key.now home c.args.at c.loop-i.i c.byte_word.result place lt (λ same. c.if-load-byte_word.true (word ∙ (same ∙ sym c.byte_word.ensures)))

pub loop-i-preserved : goal.loop-i-preserved
loop-i-preserved g c =
    let r = row_there (entry_now c.requires.there.1.stand c.requires.there.1.there) in
    let read = c.load.ensures.word (told_at r.1 c.args.at 2 r.2 (omega arith) (omega arith)) in
    let k = told_key r.0 r.1 c.args.at c.loop-i.i (length c.args.key.now) r.2 (sym c.if-load-key.false ∙ (read ∙ key_length_at r.1 c.args.at r.2)) (omega (arith, c.words_in-i-end.ensures)) in
    let word = read_along (g.S.WordsIn.words c.args.seg.now) (g.S.WordsIn.words c.loop-i.seg) (g.S.WordsIn.aside c.args.seg.now) (g.S.WordsIn.aside c.loop-i.seg) (c.args.at + 12 + c.loop-i.i) c.load-in-loop-i.result c.loop-i.invariant.kept.words c.loop-i.invariant.kept.aside k.1 c.load-in-loop-i.ensures.word in
    record {
      same = more (λ j. slice_index (g.S.WordsIn.words c.args.seg.now) (c.args.at + 12 + j) ≡ word_at c.args.key.now j) c.loop-i.i c.loop-i.invariant.same (sym word ∙ (c.if-load-byte_word.false ∙ c.byte_word.ensures));
      kept = record { words = c.load-in-loop-i.ensures.words ∙ c.loop-i.invariant.kept.words; aside = c.load-in-loop-i.ensures.aside ∙ c.loop-i.invariant.kept.aside; rest = c.load-in-loop-i.ensures.rest ∙ c.loop-i.invariant.kept.rest };
    }

pub returns-clause-is : goal.returns-clause-is
returns-clause-is g c = λ e row has is.
    let place = is.place in
    let home = home_listed row has.stand is.there in
    let read = c.load.ensures.word (told_at home c.args.at 2 place (omega arith) (omega arith)) in
    equal_at c.lower_laws.ensures row c.args.key.now home c.args.at place (sym read ∙ c.if-load-key.false) (c.requires.short, recursion_from_All (λ b. b < 256) c.args.key.now (All-from_get_or (λ b. b < 256) c.args.key.now 0 (λ i lt. omega (arith, c.type_inv.key i)))) (λ j lt. c.loop-i.invariant.same j (omega (arith, c.words_in-i-end.ensures, lt)))
