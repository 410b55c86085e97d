use Rattle.std.proofs.Common.{◌≡◌, ℕ, ◌+◌, List, [], ◌∷◌, ◌++◌, ap, ◌∙◌, arith, length, length-append}
use Rattle.std.proofs.lemmas.List.{append_assoc}
use Rattle.seg_words.specs.Layout.{words_in}
use Rattle.php_graph.specs.Size.{image_length}
use Rattle.value_image.specs.PackedBytes.{words_of}
use Rattle.value_image.specs.Image.{image_of}
use Rattle.value_image.specs.Contained.{graph_of}
use Rattle.value_image.specs.Rows.{written}
use Rattle.entry_slots.proofs.Runs.{words_long, may_write_fewer, may_write_along, written_along}
use Rattle.entry_slots.specs.EntryWords.{head_words}
use Rattle.entry_slots.proofs.writing.put_entry.Goals as goal

abbrev run : ℕ → ℕ → ℕ → ℕ → ℕ → ℕ → List ℕ
run next key image ttl now number = next ∷ key ∷ image ∷ ttl ∷ now ∷ now ∷ now ∷ 0 ∷ 0 ∷ number ∷ 0 ∷ []

same_run : (row : List ℕ) (at next next' key image image' ttl ttl' now number : ℕ) → next ≡ next' → image ≡ image' → ttl ≡ ttl' → written row at (run next key image ttl now number) ≡ written row at (run next' key image' ttl' now number)
same_run row at next next' key image image' ttl ttl' now number en ei et =
    ap (λ (n : ℕ). written row at (run n key image ttl now number)) en
    ∙ (ap (λ (n : ℕ). written row at (run next' key n ttl now number)) ei ∙ ap (λ (n : ℕ). written row at (run next' key image' n now number)) et)

pub put_head-requires : goal.put_head-requires
put_head-requires g c = may_write_fewer (g.S.WordsIn.words c.args.seg.now) (g.S.WordsIn.aside c.args.seg.now).windows (c.args.at + 1) (11 + words_in (length c.args.key.now) + image_length (graph_of c.args.content.now)) 11 c.requires.apart (omega arith)

pub put_bytes-requires : goal.put_bytes-requires
put_bytes-requires g c =
    may_write_along c.lower_laws.ensures (g.S.WordsIn.words c.args.seg.now) (g.S.WordsIn.aside c.args.seg.now) (c.args.at + 1) (11 + words_in (length c.args.key.now) + image_length (graph_of c.args.content.now))
    (run c.from.result (length c.args.key.now) c.content_words.result c.from-2.result c.args.new_head.now c.args.new_head.number)
    (g.S.WordsIn.words c.put_head.new.seg) (g.S.WordsIn.aside c.put_head.new.seg) (c.args.at + 12) (words_in (length c.args.key.now)) c.requires.apart c.put_head.ensures.words c.put_head.ensures.beside.aside (omega arith) (omega arith)

pub persist_content-requires-clause-apart : goal.persist_content-requires-clause-apart
persist_content-requires-clause-apart g c =
    let ws : List ℕ = g.S.WordsIn.words c.args.seg.now in
    let first : List ℕ = run c.from.result (length c.args.key.now) c.content_words.result c.from-2.result c.args.new_head.now c.args.new_head.number in
    let key : List ℕ = words_of c.args.key.now in
    let both = written_along c.lower_laws.ensures ws (c.args.at + 1) first key (g.S.WordsIn.words c.put_head.new.seg) (g.S.WordsIn.words c.put_bytes.new.seg) (c.args.at + 12) c.put_head.ensures.words c.put_bytes.ensures.words (omega arith) in
    let long : length (first ++ key) ≡ 11 + words_in (length c.args.key.now) = length-append first key ∙ ap (λ (n : ℕ). 11 + n) (words_long c.args.key.now) in
    may_write_along c.lower_laws.ensures ws (g.S.WordsIn.aside c.args.seg.now) (c.args.at + 1) (11 + words_in (length c.args.key.now) + image_length (graph_of c.args.content.now)) (first ++ key)
    (g.S.WordsIn.words c.put_bytes.new.seg) (g.S.WordsIn.aside c.put_bytes.new.seg) (c.args.at + 12 + c.words_in.result) (image_length (graph_of c.args.content.now)) c.requires.apart both (c.put_bytes.ensures.beside.aside ∙ c.put_head.ensures.beside.aside) (omega (arith, c.words_in.ensures, long)) (omega (arith, long))

pub returns-clause-words : goal.returns-clause-words
returns-clause-words g c =
    let ws : List ℕ = g.S.WordsIn.words c.args.seg.now in
    let first : List ℕ = head_words c.args.key.now (graph_of c.args.content.now) c.args.new_head in
    let key : List ℕ = words_of c.args.key.now in
    let head : g.S.WordsIn.words c.put_head.new.seg ≡ written ws (c.args.at + 1) first =
    c.put_head.ensures.words ∙ same_run ws (c.args.at + 1) c.from.result c.args.new_head.next (length c.args.key.now) c.content_words.result (image_length (graph_of c.args.content.now)) c.from-2.result c.args.new_head.ttl c.args.new_head.now c.args.new_head.number c.from.ensures c.content_words.ensures.words c.from-2.ensures in
    let both = written_along c.lower_laws.ensures ws (c.args.at + 1) first key (g.S.WordsIn.words c.put_head.new.seg) (g.S.WordsIn.words c.put_bytes.new.seg) (c.args.at + 12) head c.put_bytes.ensures.words (omega arith) in
    let long : length (first ++ key) ≡ 11 + words_in (length c.args.key.now) = length-append first key ∙ ap (λ (n : ℕ). 11 + n) (words_long c.args.key.now) in
    written_along c.lower_laws.ensures ws (c.args.at + 1) (first ++ key) (image_of (graph_of c.args.content.now)) (g.S.WordsIn.words c.put_bytes.new.seg) (g.S.WordsIn.words c.persist_content.new.seg) (c.args.at + 12 + c.words_in.result) both c.persist_content.ensures.words (omega (arith, c.words_in.ensures, long))
    ∙ ap (λ (r : List ℕ). written ws (c.args.at + 1) r) (append_assoc first key (image_of (graph_of c.args.content.now)))
