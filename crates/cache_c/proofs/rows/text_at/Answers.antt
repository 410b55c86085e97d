use Rattle.std.proofs.Common.{◌≡◌, ℕ, ◌+◌, List, Some, length, refl, arith}
use Rattle.value_image.specs.Texts.{string_of}
use Rattle.value_image.proofs.Texts.{told-inside, string-inside, string-bytes}
use Rattle.cache_c.specs.Standing.{StandAt}
use Rattle.cache_c.proofs.Lookups.{text_told, other_told}
use Rattle.cache_c.proofs.rows.text_at.Goals as goal

pub overflow_add-result : goal.overflow_add-result
overflow_add-result g c =
    let i = c.requires.image in
    let inside = (told-inside (g.W.WordsIn.words c.args.from.now) (g.W.WordsIn.aside c.args.from.now).windows c.args.image i.0 i.1).0 in
    omega (arith, inside, g.met.W.WordsIn.short c.args.from.now)

pub returns-in-Some-clause-told : goal.returns-in-Some-clause-told
returns-in-Some-clause-told g c = λ graph told none.
    let ws : List ℕ = g.W.WordsIn.words c.args.from.now in
    let aside = g.W.WordsIn.aside c.args.from.now in
    let short = g.met.W.WordsIn.short c.args.from.now in
    let at = c.args.image in
    let stands : (bytes : List ℕ) → string_of graph ≡ Some bytes → StandAt ws (at + 1) bytes = λ bytes text. record {
      inside = string-inside ws aside at (length bytes) graph bytes told short text refl;
      there = string-bytes ws aside at (length bytes) graph bytes told short text refl;
    } in
    text_told _ graph _ c.in-Some.len (c.in-Some.ensures.len graph told) refl c.from.ensures stands
