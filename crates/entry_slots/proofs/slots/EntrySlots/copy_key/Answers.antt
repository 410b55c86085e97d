use Rattle.std.proofs.Common.{◌≡◌, ◌∙◌, ◌+◌, ◌++◌, ap, sym, subst, arith, length, take, drop}
use Rattle.std.proofs.Math.Seq.{take-append_seam}
use Rattle.std.specs.Prelude.{vec_len}
use Rattle.seg_words.specs.Layout.{words_in}
use Rattle.value_image.specs.PackedBytes.{bytes_of}
use Rattle.apcu_model.specs.Cache.{Row}
use Rattle.entry_slots.proofs.RowBlocks.{home_listed, row_there}
use Rattle.entry_slots.proofs.KeyCopies.{key_at}
use Rattle.entry_slots.proofs.GhostEntries.{entry_now}
use Rattle.entry_slots.specs.RowPlaces.{place_from}
use Rattle.entry_slots.specs.Entries.{listed}
use Rattle.entry_slots.specs.Standing.{entries}
use Rattle.entry_slots.proofs.slots.EntrySlots.copy_key.Goals as goal

pub overflow_add-at : goal.overflow_add-at
overflow_add-at g c =
    let r = row_there (entry_now c.requires.stand c.requires.there) in
    let k = key_at c.lower_laws.ensures.packed r.0 r.1 c.args.at r.2 in
    omega (arith, k.inside, k.short)

pub get_bytes-requires-clause-inside : goal.get_bytes-requires-clause-inside
get_bytes-requires-clause-inside g c =
    let r = place_from c.args.at (listed (entries c.args.self.now)) c.requires.there in
    let k = key_at c.lower_laws.ensures.packed r.0 (home_listed r.0 c.requires.stand r.1) c.args.at r.2 in
    let many : length c.deref_mut.result.now ≡ length r.0.key = c.deref_mut.ensures.len ∙ c.in_ok-key.ensures.len ∙ c.requires.long r.0 (record { there = r.1; place = r.2 }) in
    omega (arith, k.inside, ap words_in many)

pub get_bytes-requires-clause-told : goal.get_bytes-requires-clause-told
get_bytes-requires-clause-told g c = λ i low high.
    let r = place_from c.args.at (listed (entries c.args.self.now)) c.requires.there in
    let k = key_at c.lower_laws.ensures.packed r.0 (home_listed r.0 c.requires.stand r.1) c.args.at r.2 in
    let many : length c.deref_mut.result.now ≡ length r.0.key = c.deref_mut.ensures.len ∙ c.in_ok-key.ensures.len ∙ c.requires.long r.0 (record { there = r.1; place = r.2 }) in
    k.told i low (omega (arith, high, ap words_in many))

pub returns-clause-key : goal.returns-clause-key
returns-clause-key g c = λ row is.
    let k = key_at c.lower_laws.ensures.packed row (home_listed row c.requires.stand is.there) c.args.at is.place in
    let out = c.get_bytes.new.out in
    let same = c.requires.long row is in
    let many : length c.deref_mut.result.now ≡ length row.key = c.deref_mut.ensures.len ∙ c.in_ok-key.ensures.len ∙ same in
    let bytes : out ≡ row.key =
    c.get_bytes.ensures.bytes
    ∙ ap (λ n. take n (bytes_of (drop (c.args.at + 12) (g.S.WordsIn.words c.args.seg.now)))) many
    ∙ k.back in
    let rest = drop (length out) c.in_ok-key.key.items in
    let long : vec_len c.in_ok-key.key ≡ length out = c.in_ok-key.ensures.len ∙ same ∙ sym (ap length bytes) in
    ap (λ n. take n (out ++ rest)) long ∙ take-append_seam out rest ∙ bytes
