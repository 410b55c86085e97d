use Rattle.std.proofs.Common.{◌≡◌, ℕ, ◌<◌, List, [], ◌∷◌, ◌++◌, map, Some, None, length, sym, ap, ◌∙◌, subst, arith}
use Rattle.std.specs.Option.{option_copied}
use Rattle.std.proofs.lemmas.List.{map-set, map-append, length-map}
use Rattle.reply_text.specs.Notes.{note_of, KnowsNotes}
use Rattle.reply_text.specs.Replies.{noted}
use Rattle.reply_text.proofs.NotedAnswers.{note_within, noted_there, noted_new, known_place, knows_set, knows_more}
use Rattle.reply_text.proofs.notes.Notes.note.Goals as goal

pub index_mut-requires : goal.index_mut-requires
index_mut-requires g c =
    let key : List ℕ = c.args.key.now in
    let ns : List (List ℕ × g.row.A.Denot) = map (λ note. (note.0.now, note.1)) c.self.inside.notes.items in
    let k : note_of key ns ≡ Some c.in-Some.place.now = known_place key ns c.self.inside.places (Some c.in-Some.place.now) c.self.invariant (ap option_copied (sym c.in-Some.is) ∙ c.get.ensures.value) in
    let within : c.in-Some.place.now < length ns = note_within key ns c.in-Some.place.now k in
    let same : length ns ≡ length c.self.inside.notes.items = length-map c.self.inside.notes.items (λ note. (note.0.now, note.1)) in
    omega (arith, within, same, c.self.inside.notes.ok.0)

pub invariant_of-self : goal.invariant_of-self
invariant_of-self g c =
    let key : List ℕ = c.args.key.now in
    let ns : List (List ℕ × g.row.A.Denot) = map (λ note. (note.0.now, note.1)) c.self.inside.notes.items in
    let k : note_of key ns ≡ Some c.in-Some.place.now = known_place key ns c.self.inside.places (Some c.in-Some.place.now) c.self.invariant (ap option_copied (sym c.in-Some.is) ∙ c.get.ensures.value) in
    subst (λ (l : List (List ℕ × g.row.A.Denot)). KnowsNotes l c.self.inside.places) (sym (map-set (λ note. (note.0.now, note.1)) c.self.inside.notes.items c.in-Some.place.now (c.args.key, c.args.answer)))
    (knows_set key c.args.answer ns c.self.inside.places c.in-Some.place.now c.self.invariant k)

pub returns-in-Some : goal.returns-in-Some
returns-in-Some g c =
    let key : List ℕ = c.args.key.now in
    let ns : List (List ℕ × g.row.A.Denot) = map (λ note. (note.0.now, note.1)) c.self.inside.notes.items in
    let k : note_of key ns ≡ Some c.in-Some.place.now = known_place key ns c.self.inside.places (Some c.in-Some.place.now) c.self.invariant (ap option_copied (sym c.in-Some.is) ∙ c.get.ensures.value) in
    map-set (λ note. (note.0.now, note.1)) c.self.inside.notes.items c.in-Some.place.now (c.args.key, c.args.answer)
    ∙ (sym (noted_there key c.args.answer ns c.in-Some.place.now k) ∙ ap (noted key c.args.answer) c.self.view_is)

pub invariant_of-self-in-None : goal.invariant_of-self-in-None
invariant_of-self-in-None g c =
    let key : List ℕ = c.args.key.now in
    let ns : List (List ℕ × g.row.A.Denot) = map (λ note. (note.0.now, note.1)) c.self.inside.notes.items in
    let k : note_of key ns ≡ None = known_place key ns c.self.inside.places None c.self.invariant (ap option_copied (sym c.in-None.is) ∙ c.get.ensures.value) in
    let same : length ns ≡ length c.self.inside.notes.items = length-map c.self.inside.notes.items (λ note. (note.0.now, note.1)) in
    let all : map (λ note. (note.0.now, note.1)) c.push_reserved.new.self.items ≡ ns ++ (key, c.args.answer) ∷ [] =
    ap (map (λ note. (note.0.now, note.1))) (c.push_reserved.ensures.items ∙ ap (λ l. l ++ (c.args.key, c.args.answer) ∷ []) c.reserve.ensures.items)
    ∙ map-append (λ note. (note.0.now, note.1)) c.self.inside.notes.items ((c.args.key, c.args.answer) ∷ []) in
    let count : c.len.result ≡ length ns = omega (arith, c.len.ensures, ap length c.reserve.ensures.items, same, c.reserve.new.self.ok.0) in
    subst (λ (l : List (List ℕ × g.row.A.Denot)). KnowsNotes l c.insert.new.self) (sym all)
    (knows_more key c.in_ok-own-in-None.own c.args.answer ns c.self.inside.places c.insert.new.self c.len.result c.self.invariant k
    (c.in_ok-own-in-None.ensures ∙ c.as_slice.ensures.bytes) count c.in_ok-insert-in-None.ensures.updates)

pub returns-in_ok-insert-in-None : goal.returns-in_ok-insert-in-None
returns-in_ok-insert-in-None g c =
    let key : List ℕ = c.args.key.now in
    let ns : List (List ℕ × g.row.A.Denot) = map (λ note. (note.0.now, note.1)) c.self.inside.notes.items in
    let k : note_of key ns ≡ None = known_place key ns c.self.inside.places None c.self.invariant (ap option_copied (sym c.in-None.is) ∙ c.get.ensures.value) in
    let all : map (λ note. (note.0.now, note.1)) c.push_reserved.new.self.items ≡ ns ++ (key, c.args.answer) ∷ [] =
    ap (map (λ note. (note.0.now, note.1))) (c.push_reserved.ensures.items ∙ ap (λ l. l ++ (c.args.key, c.args.answer) ∷ []) c.reserve.ensures.items)
    ∙ map-append (λ note. (note.0.now, note.1)) c.self.inside.notes.items ((c.args.key, c.args.answer) ∷ []) in
    all ∙ (sym (noted_new key c.args.answer ns k) ∙ ap (noted key c.args.answer) c.self.view_is)
