use Rattle.std.proofs.Common.{List, [], ap, ◌∙◌}
use Rattle.apcu_model.specs.Cache.{Row, Cache, gap_of}
use Rattle.apcu_model.specs.Change.{put_in, with_room}
use Rattle.plain_cache.specs.States.{cache_in}
use Rattle.apcu_model.specs.Sequential.{is_stored}
use Rattle.plain_cache.proofs.state.State.insert.Goals as goal

-- memory was taken, and the rows are the same

pub returns-clause-reply : goal.returns-clause-reply
returns-clause-reply c =
    let d = c.args.draft in
    c.insert_reserved.ensures.reply
    ∙ ap (λ (rows : List Row).
    let now : Cache = record (cache_in c.args.self.now) { rows = rows } in
    let room = with_room [] d.size c.args.t now in
    is_stored (put_in [] d.key d.graph d.ttl c.args.t d.size room (gap_of room d.size)).answer)
    c.reserve.ensures.items

pub returns-clause-after : goal.returns-clause-after
returns-clause-after c =
    let d = c.args.draft in
    c.insert_reserved.ensures.after
    ∙ ap (λ (rows : List Row).
    let now : Cache = record (cache_in c.args.self.now) { rows = rows } in
    let room = with_room [] d.size c.args.t now in
    (put_in [] d.key d.graph d.ttl c.args.t d.size room (gap_of room d.size)).cache)
    c.reserve.ensures.items
