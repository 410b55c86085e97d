use Rattle.std.proofs.Common.{◌≡◌, ◌+◌, ◌*◌, ◌≤◌, ◌^◌, ◌++◌, true, length, drop, map}
use Rattle.std.specs.Prelude.{sum_by, nat_lt}
use Rattle.std.specs.List.{list_all}
use Rattle.seg_words.specs.Layout.{words_in}
use Rattle.php_graph.specs.declared.key.Key.TheVariants as keys
use Rattle.info_tables.proofs.telling.keys_of.Given as goal

abbrev pub invariant-loop-name : goal.invariant-loop-name
invariant-loop-name l = record {
  keys : l.keys.items ++ map (λ name. keys.Str name.now) (drop l.name-index l.names) ≡ map (λ name. keys.Str name.now) l.names;
  short : list_all (λ name. nat_lt (length name.now) (2 ^ 8)) (drop l.name-index l.names) ≡ true;
  cells : l.cells + sum_by (λ name. 2 + words_in (length name.now)) (drop l.name-index l.names) ≡ 1 + sum_by (λ name. 2 + words_in (length name.now)) l.names;
  small : l.cells ≤ 1 + l.name-index * 40;
  count : length l.keys.items ≡ l.name-index;
}
