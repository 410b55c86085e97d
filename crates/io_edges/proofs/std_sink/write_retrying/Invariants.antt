-- A try that a signal cut off wrote nothing.
use Rattle.std.specs.Io.KnownBytes.{Keeps}
use Rattle.io_edges.proofs.std_sink.write_retrying.Given as goal

abbrev pub invariant-tries : goal.invariant-tries
invariant-tries g l = Keeps (g.W.Write.contents l.initial.writer) (g.W.Write.contents l.writer)
