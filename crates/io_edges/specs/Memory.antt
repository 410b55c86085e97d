-- A source and a sink in memory, as their callers see them.
use Rattle.std.specs.Prelude.{ℕ, ◌-◌, ◌==◌, ◌||◌, Bool, min, if◌then◌else◌, nat_le, List, ◌++◌}
use Rattle.std.specs.Prelude.{length, take, drop}
use Rattle.std.specs.List.{list_any}
use Rattle.io_edges.specs.declared.source.Got.{Got}
use Rattle.io_edges.specs.declared.source.Got.TheVariants as got
use Rattle.io_edges.specs.declared.sink.Put.{Put}
use Rattle.io_edges.specs.declared.sink.Put.TheVariants as put
use Rattle.io_edges.specs.Faults.{one_fault_more}

-- A source: the bytes that are left, the most that one read returns, the numbers of the reads that
-- fail, the number of the next read, and the count of faults. Both numbers stop at the maximum of a
-- `u64`.
pub record Input : Type 0 where
  pub left : List ℕ
  pub piece : ℕ
  pub fails : List ℕ
  pub call : ℕ
  pub faults : ℕ

-- the next read fails: its number is one of those that fail
abbrev pub read_fails : Input → Bool
read_fails source = list_any (λ number. number == source.call) source.fails

-- how many bytes the next read returns, if it does not fail
abbrev pub read_count : Input → ℕ → ℕ
read_count source room = min source.piece (min room (length source.left))

-- the result of a read with this much room
abbrev pub read_answer : Input → ℕ → Got
read_answer source room =
    if read_fails source then got.Failed
    else (if length source.left == 0 then got.End else got.Took (read_count source room))

-- the source after a read with this much room
abbrev pub after_read : Input → ℕ → Input
after_read source room = record {
  left = (if read_fails source then source.left else drop (read_count source room) source.left);
  piece = source.piece;
  fails = source.fails;
  call = one_fault_more source.call;
  faults = (if read_fails source then one_fault_more source.faults else source.faults);
}

-- A sink: the bytes that it holds, the room that it had from the start, the most that one write
-- takes, the numbers of the writes that fail, the number of the next write, and the count of
-- faults, as of a source.
pub record Output : Type 0 where
  pub held : List ℕ
  pub room : ℕ
  pub piece : ℕ
  pub fails : List ℕ
  pub call : ℕ
  pub faults : ℕ

-- the next write fails: its number is one of those that fail, or the room is used up
abbrev pub write_fails : Output → Bool
write_fails sink =
    list_any (λ number. number == sink.call) sink.fails || nat_le sink.room (length sink.held)

-- how many of this many bytes the next write takes, if it does not fail
abbrev pub write_count : Output → ℕ → ℕ
write_count sink count = min sink.piece (min count (sink.room - length sink.held))

-- the result of a write of this many bytes
abbrev pub write_answer : Output → ℕ → Put
write_answer sink count = if write_fails sink then put.Failed else put.Took (write_count sink count)

-- the sink after a write of these bytes
abbrev pub after_write : Output → List ℕ → Output
after_write sink bytes = record {
  held =
      (if write_fails sink then sink.held
      else sink.held ++ take (write_count sink (length bytes)) bytes);
  room = sink.room;
  piece = sink.piece;
  fails = sink.fails;
  call = one_fault_more sink.call;
  faults = (if write_fails sink then one_fault_more sink.faults else sink.faults);
}
