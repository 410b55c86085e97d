use Rattle.std.proofs.Common.{◌≡◌, ℕ, ◌+◌, List, ap, arith, drop, [], length, map}
use Rattle.std.proofs.Math.ListN.{drop_of_length-le}
use Rattle.std.specs.Prelude.{sum_by}
use Rattle.std.specs.Borrow.{Bor}
use Rattle.seg_words.specs.Layout.{words_in}
use Rattle.php_graph.specs.declared.key.Key.TheVariants as keys
use Rattle.info_tables.proofs.GraphLayout.{single_cells, key_words}
use Rattle.info_tables.proofs.telling.keys_of.Goals as goal

pub returns-clause-cells : goal.returns-clause-cells
returns-clause-cells c = λ place.
    let names = c.args.names.now in
    let as_keys = map (λ (name : Bor (List ℕ)). keys.Str name.now) names in
    let none : drop c.loop-name.name-index names ≡ [] = drop_of_length-le names c.loop-name-test.false in
    omega (
      arith,
      single_cells place as_keys,
      key_words names,
      c.loop-name.invariant.cells,
      ap (sum_by (λ (name : Bor (List ℕ)). 2 + words_in (length name.now))) none,
    )
