use Rattle.std.proofs.Common.{sym, ◌++◌}
use Rattle.std.proofs.lemmas.List.Elements.{Contains-append_left}
use Rattle.seg_words.specs.Members.{any_there, any_from}
use Rattle.entry_slots.specs.Lists.{is_at}
use Rattle.entry_slots.specs.Standing.{entries}
use Rattle.entry_slots.proofs.slots.EntrySlots.is_row_expired.Goals as goal

pub returns-then-t-self-clause-expired : goal.returns-then-t-self-clause-expired
returns-then-t-self-clause-expired g c = λ row there is. sym (c.requires.stand.unexpired c.args.t c.if-t-self.true row there)

pub is_expired-requires : goal.is_expired-requires
is_expired-requires g c =
    let s = entries c.args.self.now in
    let r = any_there (is_at c.args.at) s.rows c.requires.there in
    record {
      stand = c.requires.stand;
      there = any_from (is_at c.args.at) (s.rows ++ s.removed) r.0 (Contains-append_left s.rows s.removed r.0 r.1) r.2;
      limit = c.requires.limit;
    }

pub returns-clause-expired : goal.returns-clause-expired
returns-clause-expired g c = λ row there is.
    let s = entries c.args.self.now in
    c.is_expired.ensures.expired row (record { there = Contains-append_left s.rows s.removed row there; place = is })
