use Rattle.std.proofs.Common.{◌∙◌, ◌++◌, ap, sym, map, append-nil}
use Rattle.apcu_model.specs.Infos.{listed_of}
use Rattle.entry_slots.specs.Entries.{chain_of}
use Rattle.entry_slots.specs.Standing.{entries}
use Rattle.entry_slots.specs.RowWalks.{chain_here, chain_end, chain_over}
use Rattle.cache_info.proofs.ListedRows.{row_goes_on}
use Rattle.cache_info.proofs.rows.list_chain.Goals as goal

pub returns-then-at-eq0-clause-rows : goal.returns-then-at-eq0-clause-rows
returns-then-at-eq0-clause-rows g c =
    let s = entries c.args.slots.now in
    let i = c.loop-passed.invariant in
    let old = c.loop-passed.list.items in
    let none = chain_end c.standing_laws.ensures.sound c.args.slots.now (g.S.WordsIn.words c.args.seg.now) (g.S.WordsIn.aside c.args.seg.now) s c.args.slot c.loop-passed._passed c.requires.stand (sym c.if-at-eq0.true ∙ i.at) in
    sym (append-nil old) ∙ sym (ap (λ l. old ++ map listed_of l) none) ∙ i.rows

pub listed_at-requires-clause-there : goal.listed_at-requires-clause-there
listed_at-requires-clause-there g c = (chain_here c.standing_laws.ensures.walked c.args.slots.now (g.S.WordsIn.words c.args.seg.now) (g.S.WordsIn.aside c.args.seg.now) (entries c.args.slots.now) c.args.slot c.loop-passed._passed c.loop-passed.at c.requires.stand c.loop-passed.invariant.at c.if-at-eq0.false).in_listed

pub after-at-requires-clause-there : goal.after-at-requires-clause-there
after-at-requires-clause-there g c = (chain_here c.standing_laws.ensures.walked c.args.slots.now (g.S.WordsIn.words c.args.seg.now) (g.S.WordsIn.aside c.args.seg.now) (entries c.args.slots.now) c.args.slot c.loop-passed._passed c.loop-passed.at c.requires.stand c.loop-passed.invariant.at c.if-at-eq0.false).in_listed

pub loop-passed-preserved : goal.loop-passed-preserved
loop-passed-preserved g c =
    let s = entries c.args.slots.now in
    let i = c.loop-passed.invariant in
    let here = (chain_here c.standing_laws.ensures.walked c.args.slots.now (g.S.WordsIn.words c.args.seg.now) (g.S.WordsIn.aside c.args.seg.now) (entries c.args.slots.now) c.args.slot c.loop-passed._passed c.loop-passed.at c.requires.stand c.loop-passed.invariant.at c.if-at-eq0.false) in
    let row = c.in_ok-row.ensures in
    let next = c.after-at.ensures in
    record {
      at = next.row c.args.slot c.requires.slot here.in_rows ∙ here.next;
      rows = row_goes_on (chain_of s c.args.slot) c.loop-passed._passed here.left.row c.in_ok-row.row c.loop-passed.list.items c.push.new.self.items here.left.left (row.row here.left.row here.member) c.in_ok-push.ensures.items ∙ i.rows;
      kept = record { words = next.kept.words ∙ row.kept.words ∙ i.kept.words; aside = next.kept.aside ∙ row.kept.aside ∙ i.kept.aside; rest = next.kept.rest ∙ row.kept.rest ∙ i.kept.rest };
    }

pub returns-clause-rows : goal.returns-clause-rows
returns-clause-rows g c =
    let s = entries c.args.slots.now in
    let i = c.loop-passed.invariant in
    let old = c.loop-passed.list.items in
    let none = chain_over s c.args.slot c.rows-passed-end.result c.loop-passed._passed c.rows-passed-end.ensures.rows c.loop-passed-test.false in
    sym (append-nil old) ∙ sym (ap (λ l. old ++ map listed_of l) none) ∙ i.rows
