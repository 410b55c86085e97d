-- What a writer has besides its words, its windows and what its event's probes found.
use Rattle.std.specs.Prelude.{[]}
use Rattle.pin_table.specs.declared.writer.WriterRest.{WriterRest}
use Rattle.pin_table.specs.declared.writer.Writer.{Writer}

abbrev pub rest_of : Writer → WriterRest
rest_of w = record {
  name = w.seat.ghost_name;
  worker = w.worker;
  left = w.left;
  seat = record {
    table = w.seat.now.table;
    state = record {
      words = [];
      log = w.seat.now.state.log;
      windows = [];
      begun = w.seat.now.state.begun;
      mask = 0;
      readings = [];
      pinning = w.seat.now.state.pinning;
    };
  };
}
