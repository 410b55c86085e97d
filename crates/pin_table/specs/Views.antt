-- What a view holds, and how the steps change it.
use Rattle.std.specs.Prelude.{ℕ, ◌+◌, ◌-◌, Bool, false, ◌==◌, ◌||◌, cond, List, [], ◌∷◌, map, ◌++◌}
use Rattle.std.specs.Prelude.{length, slice_index, slice_set, replicate, bit_or, Option, Some, None}
use Rattle.seg_words.specs.Windows.{Aside, closed_on, holders}
use Rattle.seg_words.specs.Blocks.{image_place}
use Rattle.apcu_model.specs.declared.request.Event.{Event}
use Rattle.pin_table.specs.declared.views.Known.{Known}
use Rattle.pin_table.specs.declared.views.EventLog.{EventLog}
use Rattle.pin_table.specs.declared.views.Reader.{Reader}
use Rattle.pin_table.specs.declared.views.WriterState.{WriterState}
use Rattle.pin_table.specs.declared.views.View.{View}
use Rattle.pin_table.specs.declared.views.View.TheVariants.{Writer, Idle, Copying, Spent}
use Rattle.pin_table.specs.declared.views.Start.{Start}
use Rattle.pin_table.specs.Pins.{content_of, refused_in}

-- a default for a view that is of another kind
abbrev pub nobody : Known
nobody = record { worker = 0; left = 0; seen = []; own = [] }

abbrev pub blank : WriterState
blank = record {
  words = [];
  log = record { history = []; hand = None; made = 0; budgets = []; closed = [] };
  windows = [];
  begun = [];
  mask = 0;
  readings = [];
  pinning = 0;
}

abbrev pub state_of : View → WriterState
state_of (Writer d) = d
state_of (Idle p) = blank
state_of (Copying c) = blank
state_of Spent = blank

abbrev pub known_of : View → Known
known_of (Writer d) = nobody
known_of (Idle p) = p
known_of (Copying c) = c.known
known_of Spent = nobody

abbrev pub no_reader : Reader
no_reader = record { known = nobody; block = 0; first = 0; content = [] }

abbrev pub copying_reader : View → Reader
copying_reader (Writer d) = no_reader
copying_reader (Idle p) = no_reader
copying_reader (Copying c) = c
copying_reader Spent = no_reader

abbrev pub in_hand : Option Known → Known
in_hand (Some p) = p
in_hand None = nobody

abbrev pub is_in_hand : ℕ → Option Known → Bool
is_in_hand w (Some p) = p.worker == w
is_in_hand w None = false

abbrev pub has_worker : ℕ → List Known → Bool
has_worker w [] = false
has_worker w (p ∷ ps) = (p.worker == w) || has_worker w ps

-- the view is that of the pass of the worker w, idle or copying
abbrev pub carries : ℕ → View → Bool
carries w (Writer d) = false
carries w (Idle p) = p.worker == w
carries w (Copying c) = c.known.worker == w
carries w Spent = false

-- the block from which a view copies, or 0
abbrev pub copied_block : View → ℕ
copied_block (Writer d) = 0
copied_block (Idle p) = 0
copied_block (Copying c) = c.block
copied_block Spent = 0

abbrev pub copied_blocks : List View → List ℕ
copied_blocks views = map copied_block views

-- a new worker is made
abbrev pub newcomer : EventLog → Known
newcomer b = record { worker = b.made; left = slice_index b.budgets b.made; seen = []; own = [] }

abbrev pub with_newcomer : EventLog → EventLog
with_newcomer b = record {
  history = b.history;
  hand = b.hand;
  made = b.made + 1;
  budgets = b.budgets;
  closed = b.closed;
}

-- a pass is taken by the writer, or returned
abbrev pub with_hand : EventLog → Option Known → EventLog
with_hand b h = record {
  history = b.history;
  hand = h;
  made = b.made;
  budgets = b.budgets;
  closed = b.closed;
}

-- the event of the worker in the hand
abbrev pub with_event : EventLog → Event → EventLog
with_event b e = record {
  history = b.history ++ e ∷ [];
  hand = None;
  made = b.made;
  budgets = b.budgets;
  closed = b.closed;
}

-- the pass after its event: it has seen the history with the event, and has one less left
abbrev pub known_after : EventLog → Event → Known
known_after b e = record {
  worker = (in_hand b.hand).worker;
  left = (in_hand b.hand).left - 1;
  seen = b.history ++ e ∷ [];
  own = (in_hand b.hand).own ++ e ∷ [];
}

-- the pass of the worker in the hand, which has seen the whole history
abbrev pub seen_all : EventLog → Known
seen_all b = record {
  worker = (in_hand b.hand).worker;
  left = (in_hand b.hand).left;
  seen = b.history;
  own = (in_hand b.hand).own;
}

-- a pass is taken in at the end
abbrev pub with_closed : EventLog → Known → EventLog
with_closed b p = record {
  history = b.history;
  hand = b.hand;
  made = b.made;
  budgets = b.budgets;
  closed = p ∷ b.closed;
}

-- the blocks that are named: by a window, or as the one that is being pinned
abbrev pub named_blocks : WriterState → List ℕ
named_blocks d = d.pinning ∷ d.windows

-- what the trait of words sees besides the words
abbrev pub aside_of : WriterState → Aside
aside_of d = record { windows = d.windows; mask = d.mask; refused = refused_in d.readings }

abbrev pub with_words : WriterState → List ℕ → WriterState
with_words d ws = record {
  words = ws;
  log = d.log;
  windows = d.windows;
  begun = d.begun;
  mask = d.mask;
  readings = d.readings;
  pinning = d.pinning;
}

abbrev pub with_log : WriterState → EventLog → WriterState
with_log d b = record {
  words = d.words;
  log = b;
  windows = d.windows;
  begun = d.begun;
  mask = d.mask;
  readings = d.readings;
  pinning = d.pinning;
}

-- the worker in the hand leaves it, and what its event's probes found is forgotten
abbrev pub rested : WriterState → EventLog → WriterState
rested d b = record {
  words = d.words;
  log = b;
  windows = d.windows;
  begun = [];
  mask = 0;
  readings = [];
  pinning = d.pinning;
}

-- a pass is taken, and its window closes
abbrev pub taken_in : WriterState → Known → WriterState
taken_in d p = record {
  words = d.words;
  log = with_hand d.log (Some p);
  windows = slice_set d.windows p.worker 0;
  begun = slice_set d.windows p.worker 0;
  mask = 0;
  readings = [];
  pinning = d.pinning;
}

-- a load found that no worker copies the block at `at`, or that n workers do
abbrev pub freed : WriterState → ℕ → WriterState
freed d at = record {
  words = d.words;
  log = d.log;
  windows = closed_on at d.windows;
  begun = d.begun;
  mask = d.mask;
  readings = (at, 0) ∷ d.readings;
  pinning = d.pinning;
}

abbrev pub met : WriterState → ℕ → ℕ → WriterState
met d at n = record {
  words = d.words;
  log = d.log;
  windows = d.windows;
  begun = d.begun;
  mask = bit_or d.mask (holders d.windows at);
  readings = (at, n) ∷ d.readings;
  pinning = d.pinning;
}

-- a load found the pin count n in the block at `at`
abbrev pub probed : WriterState → ℕ → ℕ → WriterState
probed d at n = cond (n == 0) (freed d at) (met d at n)

abbrev pub pinning_at : WriterState → ℕ → WriterState
pinning_at d at = record {
  words = d.words;
  log = d.log;
  windows = d.windows;
  begun = d.begun;
  mask = d.mask;
  readings = d.readings;
  pinning = at;
}

-- the worker in the hand makes its event, and copies the pinned block from then on
abbrev pub copied : WriterState → Event → WriterState
copied d e = record {
  words = d.words;
  log = with_event d.log e;
  windows = slice_set d.windows (in_hand d.log.hand).worker d.pinning;
  begun = [];
  mask = 0;
  readings = [];
  pinning = 0;
}

abbrev pub reader_after : WriterState → Event → Reader
reader_after d e = record {
  known = known_after d.log e;
  block = d.pinning;
  first = image_place d.words d.pinning;
  content = content_of d.words d.pinning;
}

-- a pass is taken in at the end
abbrev pub shut : WriterState → Known → WriterState
shut d p = record {
  words = d.words;
  log = with_closed d.log p;
  windows = slice_set d.windows p.worker 0;
  begun = [];
  mask = 0;
  readings = [];
  pinning = d.pinning;
}

abbrev pub on_state : (WriterState → WriterState) → View → View
on_state f (Writer d) = Writer (f d)
on_state f (Idle p) = Idle p
on_state f (Copying c) = Copying c
on_state f Spent = Spent

abbrev pub takes_in : View → View → View
takes_in v w = on_state (λ d. taken_in d (known_of w)) v

abbrev pub closes : View → View → View
closes v w = on_state (λ d. shut d (known_of w)) v

abbrev pub from_state : (WriterState → Reader) → View → View
from_state f v = Copying (f (state_of v))

abbrev pub from_log : (EventLog → Known) → View → View
from_log f v = Idle (f (state_of v).log)

abbrev pub first_view : Start → View
first_view s = Writer (record {
  words = s.words.items;
  log = record { history = []; hand = None; made = 0; budgets = s.budgets.items; closed = [] };
  windows = replicate (length s.budgets.items) 0;
  begun = [];
  mask = 0;
  readings = [];
  pinning = 0;
})
