-- What was left at first is the bytes so far and what is left now, and no read has failed.
use Rattle.std.proofs.Common.{◌≡◌, ◌≤◌, ◌-◌, ◌+◌, vec_len}
use Rattle.std.specs.Io.KnownBytes.{prepend_known}
use Rattle.io_edges.proofs.reading.read_all.Given as goal

abbrev pub invariant-turns : goal.invariant-turns
invariant-turns g l =
    let s = g.S.Source in
    record {
      within : vec_len l.bytes ≤ l.limit;
      room : vec_len l.buffer ≡ 65536;
      given : s.left l.initial.input ≡ prepend_known l.bytes.items (s.left l.input);
      faults : s.faults l.input ≡ s.faults l.initial.input;
    }

abbrev pub decreases-turns : goal.decreases-turns
decreases-turns g l = l.limit + 1 - vec_len l.bytes
