-- What is held is what was held at first and the bytes done so far, and no write has failed.
use Rattle.std.proofs.Common.{◌≡◌, ◌≤◌, ◌-◌, length, take}
use Rattle.std.specs.Io.KnownBytes.{append_known}
use Rattle.io_edges.proofs.writing.write_all.Given as goal

abbrev pub invariant-turns : goal.invariant-turns
invariant-turns g l =
    let k = g.K.Sink in
    record {
      in_range : l.done ≤ length l.bytes;
      held : k.held l.out ≡ append_known (k.held l.initial.out) (take l.done l.bytes);
      faults : k.faults l.out ≡ k.faults l.initial.out;
    }

abbrev pub decreases-turns : goal.decreases-turns
decreases-turns g l = length l.bytes - l.done
