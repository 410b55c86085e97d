use Rattle.std.proofs.Common.{◌∙◌, [], ◌∷◌, ◌++◌, ap, subst}
use Rattle.std.specs.Prelude.{option_map}
use Rattle.apcu_model.specs.declared.request.Event.{Event}
use Rattle.apcu_model.specs.declared.request.Request.{Request}
use Rattle.apcu_model.specs.declared.request.Reply.{Reply}
use Rattle.apcu_model.specs.History.{after_event, reply_in}
use Rattle.mark_play.specs.Events.{event_by}
use Rattle.script_read.specs.Clock.{timed}
use Rattle.run_verify.specs.Seats.{IsSeat, queried_wish}
use Rattle.run_verify.proofs.TimedScripts.{asked_timed, knows}
use Rattle.run_verify.proofs.marks.play_wish.Goals as goal

pub returns-in_default-clause-marked : goal.returns-in_default-clause-marked
returns-in_default-clause-marked g c rs s = c.in_ok-query.ensures.wish rs (c.in_ok-settle.ensures.seat c.args.clock rs s) ∙ ap (option_map queried_wish) c.in_default.is

pub search_for-requires : goal.search_for-requires
search_for-requires g c = knows c.args.clock c.args.conf.now c.args.script.now c.requires.seat.replies c.settle.new.seat (c.in_ok-settle.ensures.seat c.args.clock c.requires.seat.replies c.requires.seat.at)

pub returns-clause-marked : goal.returns-clause-marked
returns-clause-marked g c rs s =
    let first = c.in_ok-settle.ensures.seat c.args.clock rs s in
    let h = c.in_ok-search_for.ensures.made in
    let y = c.in_ok-reply.ensures in
    let on = asked_timed c.args.clock c.args.conf.now c.args.script.now rs c.settle.new.seat _ c.keep.new.seat c.in_ok-reply.reply first c.in_ok-settle.ensures.asking
    (record { step = h.step; replies = h.replies; from = h.from; text_is = h.text_is; search = λ step here. y.search ∙ h.search step here }) c.in_ok-keep.ensures in
    let by : Request → Event = λ r. event_by c.args.mark.worker c.args.mark.mask r c.in-Some.t in
    record {
      wish = queried_wish (c.in-Some.query, c.in-Some.t);
      wants = c.in_ok-query.ensures.wish rs first ∙ ap (option_map queried_wish) c.in-Some.is;
      stage = y.stage ∙ ap (λ r. after_event c.args.replay.now.stage (by r)) c.ask.ensures;
      shape = y.shape;
      left = y.left;
      seat_is = subst (λ (z : Reply). IsSeat c.args.conf.now (timed c.args.clock c.args.script.now) (rs ++ z ∷ []) c.keep.new.seat) (y.reply ∙ ap (λ r. reply_in c.args.replay.now.stage (by r)) c.ask.ensures) on;
    }
