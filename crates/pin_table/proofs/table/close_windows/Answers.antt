use Rattle.std.proofs.Common.{◌≡◌, ℕ, ◌<◌, ◌==◌, ◌∙◌, cond, ap, arith, List, length, set, get_or, length-set}
use Rattle.std.proofs.lemmas.List.{get_or_read}
use Rattle.pin_table.proofs.WindowLists.{closed_step, closed_here}
use Rattle.pin_table.proofs.table.close_windows.Goals as goal

pub loop-v-preserved : goal.loop-v-preserved
loop-v-preserved c =
    let ws : List ℕ = c.args.windows.now.items in
    let v = c.loop-v.v in
    let inv = c.loop-v.invariant in
    let less : v < length c.loop-v.windows.items = omega arith in
    let less2 : v < length ws = omega (arith, inv.same) in
    let kept : c.index-kept.result.now ≡ get_or c.loop-v.windows.items v 0 = get_or_read c.loop-v.windows.items _ _ less c.index-kept.ensures 0 in
    let k2 : c.index-kept.result.now ≡ get_or ws v 0 = kept ∙ (ap (λ (l : List ℕ). get_or l v 0) inv.items ∙ closed_here ws c.args.at v less2) in
    let n : c.unless_at.result ≡ cond (get_or ws v 0 == c.args.at) 0 (get_or ws v 0) = c.unless_at.ensures ∙ ap (λ k. cond (k == c.args.at) 0 k) k2 in
    record {
      within = omega (arith, length-set c.loop-v.windows.items v c.unless_at.result);
      same = length-set c.loop-v.windows.items v c.unless_at.result ∙ inv.same;
      items = ap (λ k. set c.loop-v.windows.items v k) n ∙ (ap (λ (l : List ℕ). set l v (cond (get_or ws v 0 == c.args.at) 0 (get_or ws v 0))) inv.items ∙ closed_step ws c.args.at v less2);
    }
