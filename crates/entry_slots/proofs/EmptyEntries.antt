-- Words that stand for no row.
use Rattle.std.proofs.Common.{◌≡◌, ℕ, ◌<◌, List, [], slice_index, refl, ap}
use Rattle.std.specs.List.{count_by}
use Rattle.seg_words.specs.Windows.{Aside}
use Rattle.sma_blocks.specs.Live.{live_blocks}
use Rattle.sma_blocks.specs.Ready.{IsReady}
use Rattle.apcu_model.specs.declared.conf.Conf.{Conf}
use Rattle.apcu_model.specs.Conf.{IsUsable, piece_of}
use Rattle.entry_slots.specs.declared.slots.EntrySlots.{EntrySlots}
use Rattle.entry_slots.specs.Entries.{Entries}
use Rattle.entry_slots.specs.Standing.{Stands}
use Rattle.seg_words.specs.Members.{none_in_nil}

-- no row and no block, in a segment of this shape
abbrev pub bare : Conf → ℕ → Entries
bare conf number = record { conf = conf; rows = []; removed = []; next_number = number; unlinked = []; taken = [] }

pub bare_stands : (e : EntrySlots) (ws : List ℕ) (aside : Aside) (conf : Conf) → IsUsable conf → ((slot : ℕ) → slot < conf.slots → slice_index ws slot ≡ 0) → e.removed ≡ 0 → e.count ≡ 0 → e.limit ≡ conf.ttl
    → IsReady e.sma ws aside → live_blocks ws e.sma.bounds.from ≡ [] → e.sma.bounds.from ≡ conf.slots → e.sma.bounds.to ≡ conf.words → e.sma.bounds.piece ≡ piece_of conf → Stands e ws aside (bare conf e.next_number)
bare_stands e ws aside conf usable ended removed count limit ready live from to piece = record {
  chains = ended;
  removed_chain = removed;
  rows = λ row x. absurd (none_in_nil row x);
  removed = λ row x. absurd (none_in_nil row x);
  unlinked = λ row x. absurd (none_in_nil row x);
  taken = λ block x. absurd (none_in_nil block x);
  ready = ready;
  blocks = record { count = λ test. ap (count_by test) live };
  apart = refl;
  number = refl;
  count = count;
  limit = limit;
  unexpired = λ t le row x. absurd (none_in_nil row x);
  usable = usable;
  from = from;
  to = to;
  piece = piece;
}
