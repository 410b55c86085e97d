use Rattle.std.proofs.Common.{◌≡◌, ℕ, ◌+◌, ◌-◌, ◌*◌, ◌^◌, ◌<◌, ◌≤◌, ◌++◌, ◌∷◌, [], ap, arith, sym, ◌∙◌, append-nil, length, length-append, map}
use Rattle.std.specs.List.{range_with_len}
use Rattle.std.proofs.lemmas.List.{length-map}
use Rattle.std.proofs.lemmas.List.FromFn.{length-range_with_len}
use Rattle.php_graph.specs.declared.kind.Kind.TheVariants as kinds
use Rattle.php_graph.specs.Size.{cells_of}
use Rattle.apcu_model.specs.Infos.{info_members, info_numbered, info_segment, gaps_in}
use Rattle.info_tables.proofs.ValueRuns.{segment_many, segment_few, lists_go_on, numbered_cells}
use Rattle.info_tables.proofs.tables.segment_lists.Goals as goal

pub overflow_cast-next : goal.overflow_cast-next
overflow_cast-next c = omega (arith, c.len.ensures, ap length c.in_ok-list.ensures.gaps, segment_few c.args.piece c.loop-k.k c.args.gaps.now, c.requires.few.0)

pub overflow_mul-next : goal.overflow_mul-next
overflow_mul-next c = omega (arith, c.len.ensures, ap length c.in_ok-list.ensures.gaps, segment_few c.args.piece c.loop-k.k c.args.gaps.now, c.requires.few.0)

pub overflow_add-next : goal.overflow_add-next
overflow_add-next c = omega (arith, c.len.ensures, ap length c.in_ok-list.ensures.gaps, segment_few c.args.piece c.loop-k.k c.args.gaps.now, c.requires.few.0)

pub overflow_add-next-in-loop-k : goal.overflow_add-next-in-loop-k
overflow_add-next-in-loop-k c = omega (arith, c.len.ensures, ap length c.in_ok-list.ensures.gaps, segment_few c.args.piece c.loop-k.k c.args.gaps.now, c.requires.few, c.loop-k.invariant.room, c.loop-k-test.true)

pub loop-k-preserved : goal.loop-k-preserved
loop-k-preserved c =
    let i = c.loop-k.invariant in
    let items = c.loop-k.items.items in
    let k = c.loop-k.k in
    let next = c.loop-k.next in
    let f = info_segment c.args.piece c.args.gaps.now in
    let few = segment_few c.args.piece k c.args.gaps.now in
    let long : length (f k next) ≡ 1 + 3 * c.len.result = omega (arith, segment_many c.args.piece k next c.args.gaps.now, c.len.ensures, ap length c.in_ok-list.ensures.gaps) in
    let items_are = c.in_ok-push.ensures.items ∙ ap (λ m. items ++ m ∷ []) c.item.ensures in
    record {
      members = ap (λ l. l ++ info_members (next + (1 + 3 * c.len.result)) (info_numbered (k + 1) (map f (range_with_len (k + 1) (c.args.segments - (k + 1)))))) items_are
          ∙ lists_go_on f items next k c.args.segments (1 + 3 * c.len.result) c.loop-k-test.true long ∙ i.members;
      count = omega (arith, ap length c.in_ok-push.ensures.items, length-append items (c.item.result ∷ []), i.count);
      room = omega (arith, i.room, c.len.ensures, ap length c.in_ok-list.ensures.gaps, few, c.requires.few.0);
    }

pub from_vec-requires : goal.from_vec-requires
from_vec-requires c = omega (arith, c.loop-k.invariant.count, c.loop-k.auto, c.requires.few)

pub returns-clause-cells : goal.returns-clause-cells
returns-clause-cells c =
    let i = c.loop-k.invariant in
    let f = info_segment c.args.piece c.args.gaps.now in
    let none : c.args.segments - c.loop-k.k ≡ 0 = omega (arith, c.loop-k-test.false) in
    let all = c.from_vec.ensures ∙ sym (append-nil c.loop-k.items.items) ∙ sym (ap (λ n. c.loop-k.items.items ++ info_members c.loop-k.next (info_numbered c.loop-k.k (map f (range_with_len c.loop-k.k n)))) none) ∙ i.members in
    let many = ap (λ l. cells_of (kinds.Array l)) all ∙ numbered_cells c.args.place 0 (map f (range_with_len 0 c.args.segments)) in
    omega (arith, many, c.from.ensures, length-map (range_with_len 0 c.args.segments) f, length-range_with_len 0 c.args.segments)
