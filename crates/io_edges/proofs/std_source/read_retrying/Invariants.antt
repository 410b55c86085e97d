-- A try that a signal cut off took nothing.
use Rattle.std.specs.Io.KnownBytes.{Keeps}
use Rattle.io_edges.proofs.std_source.read_retrying.Given as goal

abbrev pub invariant-tries : goal.invariant-tries
invariant-tries g l = Keeps (g.R.Read.remaining l.initial.reader) (g.R.Read.remaining l.reader)
