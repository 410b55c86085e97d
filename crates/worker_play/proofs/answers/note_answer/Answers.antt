use Rattle.std.proofs.Common.{ℕ, List, ap, sym, ◌∙◌}
use Rattle.std.specs.Prelude.{unwrap_or, Option}
use Rattle.php_graph.specs.declared.kind.Kind.{Kind}
use Rattle.reply_text.specs.Replies.{noted}
use Rattle.worker_play.specs.Pools.{answers_noted}
use Rattle.worker_play.proofs.PassProgress.{on_ok, of_if_ok}
use Rattle.worker_play.proofs.PoolKeys.{answer_is, answer_noted}
use Rattle.worker_play.proofs.answers.note_answer.Goals as goal

pub returns-in-Some : goal.returns-in-Some
returns-in-Some c = λ y is.
    let key : List ℕ = c.args.key.now in
    let default : List Kind = c.args.default.now in
    let found = of_if_ok _ c.args.found c.in_ok-value.field-0 c.in_ok-value.was is in
    let value = ap (λ (o : Option (List Kind)). unwrap_or o default) (sym c.in-Some.is) ∙ answer_is c.in_ok-value.field-0 default y found in
    on_ok c.note.result (λ e. ap answers_noted e ∙ (answer_noted key _ c.args.answers.now ∙ ap (λ (v : List Kind). noted key v (answers_noted c.args.answers.now)) value)) c.note.ensures

pub returns-in-None : goal.returns-in-None
returns-in-None c = λ y is.
    let key : List ℕ = c.args.key.now in
    let default : List Kind = c.args.default.now in
    let found = of_if_ok _ c.args.found c.in_ok-value.field-0 c.in_ok-value.was is in
    let value = ap (λ (o : Option (List Kind)). unwrap_or o default) (sym c.in-None.is) ∙ answer_is c.in_ok-value.field-0 default y found in
    on_ok c.note-in-None.result (λ e. ap answers_noted e ∙ (answer_noted key _ c.args.answers.now ∙ ap (λ (v : List Kind). noted key v (answers_noted c.args.answers.now)) value)) c.note-in-None.ensures
