use Rattle.std.proofs.Common.{◌≡◌, ℕ, ◌+◌, ◌/◌, ◌<◌, ◌≤◌, List, false, sym, ap, ◌∙◌, subst, slice_set, arith, rules, length, Some, refl}
use Rattle.std.specs.Prelude.{ℤ}
use Rattle.std.specs.Int.{w64, cast_unsigned}
use Rattle.std.proofs.lemmas.Bool.{false≢true}
use Rattle.std.proofs.lemmas.Int.{to_z-of_z}
use Rattle.std.proofs.lemmas.List.{length-set}
use Rattle.seg_words.specs.Windows.{Aside, is_named}
use Rattle.seg_words.specs.Blocks.{MayStore}
use Rattle.php_graph.specs.declared.kind.Kind.TheVariants as kinds
use Rattle.php_graph.specs.Graph.{kind_at}
use Rattle.seg_words.specs.Layout.{words_in}
use Rattle.php_graph.specs.Size.{image_length}
use Rattle.apcu_model.specs.declared.conf.TheConstants.{MOST_USABLE_WORDS}
use Rattle.apcu_model.specs.Cache.{Row, extent_of}
use Rattle.entry_slots.specs.declared.slots.EntrySlots.{EntrySlots}
use Rattle.entry_slots.specs.Entries.{with_number}
use Rattle.entry_slots.specs.Standing.{Stands, entries}
use Rattle.entry_slots.proofs.GhostEntries.{restand}
use Rattle.entry_slots.proofs.Runs.{may_store_set}
use Rattle.entry_slots.proofs.RowBlocks.{IsHome, room, told_at, home_row}
use Rattle.entry_slots.proofs.KeySearch.{stands_along}
use Rattle.entry_slots.proofs.KeyWords.{key_length_at}
use Rattle.entry_slots.proofs.StorableWords.{may_store_in, may_date, may_along}
use Rattle.entry_slots.proofs.IntegerRows.{graph_one, number_words, number_stands}
use Rattle.entry_slots.proofs.slots.EntrySlots.set_int.Goals as goal

-- the word of the integer is in the block
value_in : {e : EntrySlots} {ws : List ℕ} {aside : Aside} (row : Row) (v : ℤ) → IsHome e ws aside row → kind_at row.graph 1 ≡ Some (kinds.Int v) → (at len i : ℕ) → row.place ≡ at → len ≡ length row.key → i ≡ at + 13 + (len + 7) / 8
    → (i < at + row.size) × (at + row.size ≤ length ws) × (length ws ≤ MOST_USABLE_WORDS) × (14 ≤ row.size)
value_in row v h int at len i e el ei =
    let w = room h in
    let two : image_length row.graph ≡ 2 = ap image_length (graph_one row.graph v h.entry.image.graph int) in
    let long : words_in len ≡ words_in (length row.key) = ap words_in el in
    (omega (arith, w.enough, two, long), omega (arith, w.high), w.short, omega (arith, w.enough, two))

-- it may be stored
value_may : {e : EntrySlots} {ws : List ℕ} {aside : Aside} (row : Row) → IsHome e ws aside row → (at i : ℕ) → row.place ≡ at → is_named aside.windows at ≡ false → at ≤ i → i < at + row.size → MayStore ws aside.windows i
value_may {e} {ws} {aside} row h at i place free low high =
    may_store_in e.sma ws aside (extent_of row) i h.ready h.live (omega arith) (omega arith) (λ named. absurd (false≢true (sym (subst (λ (n : ℕ). is_named aside.windows n ≡ false) (sym place) free) ∙ named)))

pub overflow_add-at : goal.overflow_add-at
overflow_add-at g c = let m = c.requires.int in let w = room (home_row m.row c.requires.stand m.there) in omega (arith, w.high, w.enough, w.short, m.place)

pub load-len-requires : goal.load-len-requires
load-len-requires g c = let m = c.requires.int in let w = room (home_row m.row c.requires.stand m.there) in omega (arith, w.high, w.enough, w.short, m.place)

pub overflow_cast-len : goal.overflow_cast-len
overflow_cast-len g c =
    let m = c.requires.int in
    let home = home_row m.row c.requires.stand m.there in
    let read = c.load-len.ensures.word (told_at home c.args.at 2 m.place (omega arith) (omega arith)) in
    omega (arith, read, key_length_at home c.args.at m.place, home.entry.bytes.0)

pub overflow_add-at-2 : goal.overflow_add-at-2
overflow_add-at-2 g c = let m = c.requires.int in let w = room (home_row m.row c.requires.stand m.there) in omega (arith, w.high, w.enough, w.short, m.place)

pub overflow_add-at-3 : goal.overflow_add-at-3
overflow_add-at-3 g c =
    let m = c.requires.int in
    let home = home_row m.row c.requires.stand m.there in
    let read = c.load-len.ensures.word (told_at home c.args.at 2 m.place (omega arith) (omega arith)) in
    let v = value_in m.row m.number home m.int c.args.at c.load-len.result (c.args.at + 13 + c.words_in.result) m.place (read ∙ key_length_at home c.args.at m.place) (omega (arith, c.words_in.ensures)) in
    omega (arith, v.0, v.1, v.2)

pub overflow_add-at-4 : goal.overflow_add-at-4
overflow_add-at-4 g c = let m = c.requires.int in let w = room (home_row m.row c.requires.stand m.there) in omega (arith, w.high, w.enough, w.short, m.place)

pub store-requires : goal.store-requires
store-requires g c =
    let m = c.requires.int in
    let home = home_row m.row c.requires.stand m.there in
    let read = c.load-len.ensures.word (told_at home c.args.at 2 m.place (omega arith) (omega arith)) in
    let v = value_in m.row m.number home m.int c.args.at c.load-len.result (c.args.at + 13 + c.words_in.result) m.place (read ∙ key_length_at home c.args.at m.place) (omega (arith, c.words_in.ensures)) in
    record {
      place = omega (arith, v.0, v.1, ap length c.load-len.ensures.words);
      apart = may_along (g.S.WordsIn.words c.args.seg.now) (g.S.WordsIn.words c.load-len.new.self) (g.S.WordsIn.aside c.args.seg.now) (g.S.WordsIn.aside c.load-len.new.self) (c.args.at + 13 + c.words_in.result) c.load-len.ensures.words c.load-len.ensures.aside
          (value_may m.row home c.args.at (c.args.at + 13 + c.words_in.result) m.place c.requires.unnamed (omega arith) v.0);
    }

pub store-requires-2 : goal.store-requires-2
store-requires-2 g c =
    let m = c.requires.int in
    let home = home_row m.row c.requires.stand m.there in
    let w = room home in
    let ws : List ℕ = g.S.WordsIn.words c.args.seg.now in
    let i : ℕ = c.args.at + 13 + c.words_in.result in
    let read = c.load-len.ensures.word (told_at home c.args.at 2 m.place (omega arith) (omega arith)) in
    let v = value_in m.row m.number home m.int c.args.at c.load-len.result i m.place (read ∙ key_length_at home c.args.at m.place) (omega (arith, c.words_in.ensures)) in
    let words : g.S.WordsIn.words c.store.new.self ≡ slice_set ws i c.cast_unsigned.result = c.store.ensures.words ∙ ap (λ (u : List ℕ). slice_set u i c.cast_unsigned.result) c.load-len.ensures.words in
    record {
      place = omega (arith, w.high, w.enough, m.place, ap length words, length-set ws i c.cast_unsigned.result);
      apart = may_along (slice_set ws i c.cast_unsigned.result) (g.S.WordsIn.words c.store.new.self) (g.S.WordsIn.aside c.args.seg.now) (g.S.WordsIn.aside c.store.new.self) (c.args.at + 6) words (c.store.ensures.aside ∙ c.load-len.ensures.aside)
          (may_store_set c.lower_laws.ensures ws (g.S.WordsIn.aside c.args.seg.now).windows i (c.args.at + 6) c.cast_unsigned.result (omega (arith, v.0, v.1)) (value_may m.row home c.args.at i m.place c.requires.unnamed (omega arith) v.0) (may_date m.row home c.args.at 6 m.place (omega arith) (omega arith) (omega arith)));
    }

pub returns-clause-stand : goal.returns-clause-stand
returns-clause-stand g c =
    let s = entries c.args.self.now in
    let h = c.requires.stand in
    let m = c.requires.int in
    let row = m.row in
    let there = m.there in
    let place = m.place in
    let home = home_row row h there in
    let ws : List ℕ = g.S.WordsIn.words c.args.seg.now in
    let i : ℕ = c.args.at + 13 + c.words_in.result in
    let read = c.load-len.ensures.word (told_at home c.args.at 2 place (omega arith) (omega arith)) in
    let len : c.load-len.result ≡ length row.key = read ∙ key_length_at home c.args.at place in
    let long : words_in c.load-len.result ≡ words_in (length row.key) = ap words_in len in
    let cast : c.cast_unsigned.result ≡ cast_unsigned w64 c.args.n = search rules in
    let words : g.S.WordsIn.words c.store-2.new.self ≡ number_words ws c.args.at i (cast_unsigned w64 c.args.n) c.args.t =
    c.store-2.ensures.words ∙ (ap (λ (u : List ℕ). slice_set u (c.args.at + 6) c.args.t) (c.store.ensures.words ∙ ap (λ (u : List ℕ). slice_set u i c.cast_unsigned.result) c.load-len.ensures.words)
    ∙ ap (λ (n : ℕ). slice_set (slice_set ws i n) (c.args.at + 6) c.args.t) cast) in
    let e' = record c.args.self.now { standing = c.then-self.result } in
    let is : c.then-self.result.state ≡ with_number c.args.at c.args.n c.args.t s = c.then-self.ensures ∙ ap (λ z. with_number c.args.at z c.args.t s) (to_z-of_z w64 c.args.n c.ranges.n) in
    subst (λ x. Stands e' (g.S.WordsIn.words c.store-2.new.self) (g.S.WordsIn.aside c.store-2.new.self) x) (sym is)
    (restand {e' = e'} (stands_along (g.S.WordsIn.words c.store-2.new.self) (g.S.WordsIn.aside c.store-2.new.self)
    (number_stands c.lower_laws.ensures s h c.args.at i c.args.t c.args.n m.number row there place m.int c.ranges.n (omega (arith, c.words_in.ensures, long)))
    words (c.store-2.ensures.aside ∙ (c.store.ensures.aside ∙ c.load-len.ensures.aside))) refl refl refl refl refl refl)
