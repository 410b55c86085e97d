-- The words that are left stand for the cache, with no window open.
use Rattle.std.proofs.Common.{◌≡◌, ℕ, false, List, subst, sym}
use Rattle.std.specs.Prelude.{nat_lt}
use Rattle.std.proofs.lemmas.Bool.{and_parts, false≢true}
use Rattle.atomic_table.specs.Seated.{TableId}
use Rattle.seg_words.specs.Windows.{nothing_aside}
use Rattle.apcu_model.specs.declared.conf.Conf.{Conf}
use Rattle.apcu_model.specs.Journal.{Marks}
use Rattle.cache_core.specs.declared.cache.Core.{Core}
use Rattle.cache_core.specs.CoreCache.{CoreStands}
use Rattle.entry_slots.specs.Standing.{Stands, entries}
use Rattle.pin_table.specs.Values.{WriterView}
use Rattle.pin_table.specs.Views.{aside_of}
use Rattle.shared_cache.specs.Laws.{LockLaws}
use Rattle.shared_cache.specs.LockInvariant.{Settled}

pub left_standing : LockLaws → (t : TableId) (conf : Conf) (budgets : List ℕ) (s : WriterView)
    (core : Core) (journal : Marks) (words : List ℕ) → Settled t conf budgets s core journal
    → words ≡ s.state.words → CoreStands core words nothing_aside
left_standing laws t conf budgets s core journal words settled same = record {
  stand = subst (λ ws. Stands core.slots ws nothing_aside (entries core.slots)) (sym same)
      (laws.windows.closed core.slots s.state.words (aside_of s.state) nothing_aside
      (entries core.slots) (λ at named. absurd (false≢true (and_parts (nat_lt 0 at) false named).1))
      settled.stands.stand);
  whole = settled.stands.whole;
}
