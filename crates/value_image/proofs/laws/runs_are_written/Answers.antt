use Rattle.value_image.proofs.Runs.{length-written, written-is, stands-written, written-before, written-behind, written-append, may_store-written}
use Rattle.value_image.proofs.laws.runs_are_written.Goals as goal

pub returns : goal.returns
returns c = record {
  long = length-written;
  cut = written-is;
  there = stands-written;
  before = written-before;
  behind = written-behind;
  joined = written-append;
  stored = may_store-written;
}
