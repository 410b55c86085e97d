use Rattle.std.proofs.Common.{◌∙◌, ◌<◌, true, Some, None, length, ap, sym, subst, arith}
use Rattle.std.specs.Prelude.{slice_set}
use Rattle.std.proofs.lemmas.List.{length-map}
use Rattle.std.proofs.lemmas.Option.{slice_get-get_or}
use Rattle.script_read.specs.Clock.{timed, all_timed}
use Rattle.script_read.specs.Play.{replies_of}
use Rattle.run_verify.specs.Marks.{IsMadeIfWanted}
use Rattle.run_verify.specs.Games.{Game, IsGame}
use Rattle.run_verify.proofs.Games.{no_worker, not_legal, legal_same, wanting, marked_after, game_on}
use Rattle.run_verify.proofs.TimedScripts.{script_at}
use Rattle.run_verify.proofs.marks.play_mark.Goals as goal
use Rattle.run_verify.proofs.marks.play_mark.Goals.{then-mark-count-via-then-mark-count, then-mark-count-via-else-mark-count+then-not-is_legal}

pub returns-then-mark-count-clause-marked : goal.returns-then-mark-count-clause-marked
returns-then-mark-count-clause-marked g c =
    let p = c.args.played.now.state.play in
    let scripts = all_timed c.args.clock c.args.scripts.now in
    let many = length-map c.args.scripts.now (timed c.args.clock) in
    elim c.then-mark-count.branch [
      | then-mark-count-via-then-mark-count w ↦ sym (no_worker c.args.conf.now scripts p c.args.mark (omega (arith, w.if-mark-count.true, c.len-count.ensures, many)))
      | then-mark-count-via-else-mark-count+then-not-is_legal w ↦
          sym (not_legal c.args.conf.now scripts p c.args.mark
          (legal_same (length scripts) c.len-count.result c.args.mark p.stage c.args.replay.now.stage w.is_legal.result _ (c.len-count.ensures ∙ sym many) c.requires.game.stage w.is_legal.ensures w.if-not-is_legal.true))
    ]

pub play_wish-requires-clause-seat : goal.play_wish-requires-clause-seat
play_wish-requires-clause-seat g c =
    let many = length-map c.args.scripts.now (timed c.args.clock) in
    let low : c.args.mark.worker < length c.args.seats.now = omega (arith, c.if-mark-count.false, c.len-count.ensures, c.requires.game.many, many) in
    record {
      replies = replies_of c.args.played.now.state.play c.args.mark.worker;
      at = c.requires.game.seated c.args.mark.worker (timed c.args.clock c.at-script.result.now) _ (script_at c.args.clock c.args.scripts.now c.args.mark.worker _ c.at-script.ensures)
          (slice_get-get_or c.args.seats.now c.args.mark.worker c.index-seats-mark.result low);
    }

pub returns-then-not-wants-clause-marked : goal.returns-then-not-wants-clause-marked
returns-then-not-wants-clause-marked g c =
    let p = c.args.played.now.state.play in
    let scripts = all_timed c.args.clock c.args.scripts.now in
    let script = timed c.args.clock c.at-script.result.now in
    let rs = replies_of p c.args.mark.worker in
    let many = length-map c.args.scripts.now (timed c.args.clock) in
    let low : c.args.mark.worker < length c.args.seats.now = omega (arith, c.if-mark-count.false, c.len-count.ensures, c.requires.game.many, many) in
    let here = script_at c.args.clock c.args.scripts.now c.args.mark.worker _ c.at-script.ensures in
    let s = c.requires.game.seated c.args.mark.worker script _ here (slice_get-get_or c.args.seats.now c.args.mark.worker c.index-seats-mark.result low) in
    let legal = legal_same (length scripts) c.len-count.result c.args.mark p.stage c.args.replay.now.stage c.is_legal.result true (c.len-count.ensures ∙ sym many) c.requires.game.stage c.is_legal.ensures c.if-not-is_legal.false in
    let m = subst (λ b. IsMadeIfWanted c.args.conf.now script rs c.args.replay.now c.play_wish.new.replay c.play_wish.new.seat c.args.mark b) c.if-not-wants.true (c.in_ok-wants.ensures.marked rs s) in
    sym (wanting c.args.conf.now scripts p c.args.mark script None legal here m)

pub returns-clause-marked : goal.returns-clause-marked
returns-clause-marked g c =
    let p = c.args.played.now.state.play in
    let scripts = all_timed c.args.clock c.args.scripts.now in
    let script = timed c.args.clock c.at-script.result.now in
    let rs = replies_of p c.args.mark.worker in
    let many = length-map c.args.scripts.now (timed c.args.clock) in
    let low : c.args.mark.worker < length c.args.seats.now = omega (arith, c.if-mark-count.false, c.len-count.ensures, c.requires.game.many, many) in
    let here = script_at c.args.clock c.args.scripts.now c.args.mark.worker _ c.at-script.ensures in
    let s = c.requires.game.seated c.args.mark.worker script _ here (slice_get-get_or c.args.seats.now c.args.mark.worker c.index-seats-mark.result low) in
    let legal = legal_same (length scripts) c.len-count.result c.args.mark p.stage c.args.replay.now.stage c.is_legal.result true (c.len-count.ensures ∙ sym many) c.requires.game.stage c.is_legal.ensures c.if-not-is_legal.false in
    let m = subst (λ b. IsMadeIfWanted c.args.conf.now script rs c.args.replay.now c.play_wish.new.replay c.play_wish.new.seat c.args.mark b) c.if-not-wants.false (c.in_ok-wants.ensures.marked rs s) in
    ap (λ (x : Game). Some x.play) c.then.ensures
    ∙ marked_after c.args.conf.now scripts c.args.replay.now c.play_wish.new.replay c.args.seats.now c.play_wish.new.seat c.args.played.now.state c.args.mark script c.requires.game here legal m

pub returns-clause-game : goal.returns-clause-game
returns-clause-game g c =
    let p = c.args.played.now.state.play in
    let scripts = all_timed c.args.clock c.args.scripts.now in
    let script = timed c.args.clock c.at-script.result.now in
    let rs = replies_of p c.args.mark.worker in
    let many = length-map c.args.scripts.now (timed c.args.clock) in
    let low : c.args.mark.worker < length c.args.seats.now = omega (arith, c.if-mark-count.false, c.len-count.ensures, c.requires.game.many, many) in
    let here = script_at c.args.clock c.args.scripts.now c.args.mark.worker _ c.at-script.ensures in
    let s = c.requires.game.seated c.args.mark.worker script _ here (slice_get-get_or c.args.seats.now c.args.mark.worker c.index-seats-mark.result low) in
    let legal = legal_same (length scripts) c.len-count.result c.args.mark p.stage c.args.replay.now.stage c.is_legal.result true (c.len-count.ensures ∙ sym many) c.requires.game.stage c.is_legal.ensures c.if-not-is_legal.false in
    let m = subst (λ b. IsMadeIfWanted c.args.conf.now script rs c.args.replay.now c.play_wish.new.replay c.play_wish.new.seat c.args.mark b) c.if-not-wants.false (c.in_ok-wants.ensures.marked rs s) in
    subst (λ (x : Game). IsGame c.args.conf.now scripts c.play_wish.new.replay (slice_set c.args.seats.now c.args.mark.worker c.play_wish.new.seat) x) (sym c.then.ensures)
    (game_on c.args.conf.now scripts c.args.replay.now c.play_wish.new.replay c.args.seats.now c.play_wish.new.seat c.args.played.now.state c.args.mark script c.requires.game here legal m)

pub returns-clause-left : goal.returns-clause-left
returns-clause-left g c =
    let script = timed c.args.clock c.at-script.result.now in
    let rs = replies_of c.args.played.now.state.play c.args.mark.worker in
    let many = length-map c.args.scripts.now (timed c.args.clock) in
    let low : c.args.mark.worker < length c.args.seats.now = omega (arith, c.if-mark-count.false, c.len-count.ensures, c.requires.game.many, many) in
    let here = script_at c.args.clock c.args.scripts.now c.args.mark.worker _ c.at-script.ensures in
    let s = c.requires.game.seated c.args.mark.worker script _ here (slice_get-get_or c.args.seats.now c.args.mark.worker c.index-seats-mark.result low) in
    let m = subst (λ b. IsMadeIfWanted c.args.conf.now script rs c.args.replay.now c.play_wish.new.replay c.play_wish.new.seat c.args.mark b) c.if-not-wants.false (c.in_ok-wants.ensures.marked rs s) in
    m.left
