use Rattle.entry_slots.proofs.lower.lower_laws.Goals as goal

pub returns : goal.returns
returns c = record {
  blocks = c.block_laws.ensures.inner;
  rows = c.rows_stay_apart.ensures;
  images = c.images_are_runs.ensures;
  runs = c.runs_stand.ensures;
  written = c.runs_are_written.ensures;
  packed = c.bytes_are_packed.ensures;
}
