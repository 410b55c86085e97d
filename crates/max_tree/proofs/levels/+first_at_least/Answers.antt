use Rattle.std.proofs.Common.{take, refl, sym, ap, ◌∙◌, arith}
use Rattle.std.specs.Prelude.{nat_le}
use Rattle.std.specs.List.{position}
use Rattle.std.proofs.lemmas.List.{take_all}
use Rattle.max_tree.proofs.Rows.{alone_of, parts_of}
use Rattle.max_tree.proofs.PageLemmas.{first_none, first_is}
use Rattle.max_tree.proofs.LevelLemmas.{level_rows, first_alone}
use Rattle.max_tree.proofs.levels.+first_at_least.Goals as goal

pub returns-then-above-eq0 : goal.returns-then-above-eq0
returns-then-above-eq0 t c =
    let xs = c.args.levels.now in
    let alone = alone_of level_rows c.args.above c.args.count xs c.requires.levels c.if-above-eq0.true in
    first_alone xs c.args.n c.first_in_page.result (omega (arith, alone.0, alone.1)) c.first_in_page.ensures.none c.first_in_page.ensures.found
    ∙ ap (position (λ value. nat_le c.args.n value)) (sym (take_all c.args.count xs (omega (arith, alone.0))))

pub returns-in_default : goal.returns-in_default
returns-in_default t c =
    let xs = c.args.levels.now in
    let parts = parts_of level_rows c.args.above c.args.count c.page_count.result xs (take c.args.count xs) c.split_at.result.1.now c.requires.levels c.if-above-eq0.false c.page_count.ensures refl c.split_at.ensures.back in
    sym (first_none (take c.args.count xs) (take c.page_count.result c.split_at.result.1.now) c.args.n parts.1 c.requires.some (sym c.first_at_least.ensures ∙ c.in_default.is))

pub returns : goal.returns
returns t c =
    let own = c.split_at.result.0.now in
    let front = c.split_at.ensures.front in
    let parts = parts_of level_rows c.args.above c.args.count c.page_count.result c.args.levels.now own c.split_at.result.1.now c.requires.levels c.if-above-eq0.false c.page_count.ensures front c.split_at.ensures.back in
    first_is own (take c.page_count.result c.split_at.result.1.now) c.args.n c.in-Some.k c.first_in_page-2.result parts.1 c.requires.some (sym c.first_at_least.ensures ∙ c.in-Some.is) c.first_in_page-2.ensures.none c.first_in_page-2.ensures.found
    ∙ ap (position (λ value. nat_le c.args.n value)) front
