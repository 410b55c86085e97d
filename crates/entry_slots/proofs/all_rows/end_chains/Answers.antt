use Rattle.std.proofs.Common.{◌≡◌, sym, ◌∙◌, subst, false}
use Rattle.std.proofs.lemmas.Bool.{false≢true}
use Rattle.seg_words.specs.Windows.{Aside, is_named}
use Rattle.entry_slots.proofs.all_rows.end_chains.Goals as goal

pub store-requires-clause-apart : goal.store-requires-clause-apart
store-requires-clause-apart g c = λ at named.
    absurd (false≢true (sym (subst (λ (a : Aside). is_named a.windows at ≡ false) (sym c.loop-slot.invariant.beside.aside) (c.requires.closed at)) ∙ named))
