use Rattle.std.proofs.Common.{◌≡◌, ◌+◌, ◌≤◌, ◌++◌, false, true, length, map, vec_capacity}
use Rattle.std.specs.Prelude.{Ok, Err, Contains, Result, List, ℕ}
use Rattle.std.specs.Vec.Iter.{into_iter_items}
use Rattle.worker_play.specs.declared.script.PlayFault.{PlayFault}
use Rattle.worker_play.specs.declared.script.PlayFault.TheVariants.{Memory, Pattern}
use Rattle.crew_play.proofs.play.whole.Given as goal

abbrev pub invariant-loop-text : goal.invariant-loop-text
invariant-loop-text l =
    let rest = into_iter_items l.text-iterator in
    record {
      items : l.refused ≡ false → map Ok l.all.items ++ rest ≡ l.fn.texts.items;
      count : length l.all.items + length rest ≤ length l.fn.texts.items;
      room : length l.fn.texts.items ≤ vec_capacity l.all;
      behind : (x : Result (List ℕ) PlayFault) → Contains rest x → Contains l.fn.texts.items x;
      ahead : Contains l.fn.texts.items (Err Memory) → Contains rest (Err Memory);
      seen : l.refused ≡ true → Contains l.fn.texts.items (Err Pattern);
    }
