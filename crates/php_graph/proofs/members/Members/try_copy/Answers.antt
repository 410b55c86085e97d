use Rattle.std.proofs.Common.{ap}
use Rattle.php_graph.specs.declared.key.Key.{Key}
use Rattle.php_graph.proofs.PlaceLemmas.{copied_one}
use Rattle.php_graph.proofs.members.Members.try_copy.Goals as goal

pub loop-item-preserved : goal.loop-item-preserved
loop-item-preserved c =
    copied_one c.loop-item.items.items c.push.new.self.items _ _ c.loop-item.item-index c.item-item.result (c.in_ok-try_copy.field-0, c.item-item.result.1) c.loop-item.invariant c.loop-item-test.true c.item-item.is
    (ap (λ (key : Key). (key, c.item-item.result.1)) c.in_ok-try_copy.ensures) c.in_ok-push.ensures.items
