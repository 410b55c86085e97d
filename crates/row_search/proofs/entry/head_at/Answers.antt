use Rattle.std.proofs.Common.{◌∙◌, ◌+◌, List, ℕ, sym, arith}
use Rattle.seg_words.specs.Windows.{Aside}
use Rattle.entry_slots.specs.Standing.{entries}
use Rattle.row_search.proofs.ChosenRows.{left_out, by_key, by_none}
use Rattle.row_search.proofs.entry.head_at.Goals as goal

pub returns-then-leaves_out-clause-head : goal.returns-then-leaves_out-clause-head
returns-then-leaves_out-clause-head g c = λ row is.
    let said = c.head-head.ensures.head row is in
    left_out c.args.test.now row (sym (c.leaves_out.ensures row said.ttl said.ctime) ∙ c.if-leaves_out.true)

pub copy_key-requires-clause-long : goal.copy_key-requires-clause-long
copy_key-requires-clause-long g c = λ row is. (c.head-head.ensures.head row is).key_len

pub returns-then-not-matches-clause-head : goal.returns-then-not-matches-clause-head
returns-then-not-matches-clause-head g c = λ row is.
    let said = c.head-head.ensures.head row is in
    let read = c.in_ok-key.ensures.key row is in
    let stays = sym (c.leaves_out.ensures row said.ttl said.ctime) ∙ c.if-leaves_out.false in
    by_key c.args.test.now row c.deref.result.now c.matches.result stays (c.deref.ensures.value ∙ read) c.matches.ensures.matches ∙ c.if-not-matches.true

pub returns-else-not-matches-clause-head : goal.returns-else-not-matches-clause-head
returns-else-not-matches-clause-head g c = λ row is.
    let said = c.head-head.ensures.head row is in
    let read = c.in_ok-key.ensures.key row is in
    let stays = sym (c.leaves_out.ensures row said.ttl said.ctime) ∙ c.if-leaves_out.false in
    (by_key c.args.test.now row c.deref.result.now c.matches.result stays (c.deref.ensures.value ∙ read) c.matches.ensures.matches ∙ c.if-not-matches.false, said)

pub returns-else-is_picky-clause-head : goal.returns-else-is_picky-clause-head
returns-else-is_picky-clause-head g c = λ row is.
    let said = c.head-head.ensures.head row is in
    let stays = sym (c.leaves_out.ensures row said.ttl said.ctime) ∙ c.if-leaves_out.false in
    (by_none c.args.test.now row stays (sym c.is_picky.ensures ∙ c.if-is_picky.false), said)
