use Rattle.apcu_model.specs.SlotOrder.{slot_of}
use Rattle.cache_core.specs.declared.cache.Core.{Core}
use Rattle.std.proofs.Common.{◌≡◌, ◌∙◌, List, Option, Some, option_map, sym, subst, ap}
use Rattle.php_graph.specs.declared.kind.Kind.{Kind}
use Rattle.value_image.specs.declared.contents.Content.{Content}
use Rattle.value_image.specs.Contained.{graph_of}
use Rattle.apcu_model.specs.declared.request.Reply.TheVariants as replies
use Rattle.apcu_model.specs.Sequential.{is_stored}
use Rattle.cache_c.specs.Standing.{cache_words}
use Rattle.cache_c.specs.Asked.{scalar_value, store_if_value, plain_answer, IsAnswered}
use Rattle.cache_c.proofs.Standing.{left_begun, done_begun}
use Rattle.cache_c.proofs.cache.Cache.store_scalar.Goals as goal

pub returns-clause-left : goal.returns-clause-left
returns-clause-left c = left_begun c.requires.stand c.begin.ensures.begun c.store_content-answer.ensures.does

pub returns-clause-answered : goal.returns-clause-answered
returns-clause-answered c =
    let new = record c.begin.new.self { core = c.store_content-answer.new.self; words = c.store_content-answer.new.seg } in
    let value : Some (graph_of c.in-Some.value) ≡ scalar_value c.args.kind c.args.number =
    ap (option_map (λ (content : Content). graph_of content)) (sym c.in-Some.is) ∙ c.scalar_from.ensures.scalar in
    subst (λ (v : Option (List Kind)). IsAnswered c.args.self.now new c.args.t (store_if_value c.args.key.now c.args.ttl c.args.exclusive v) (plain_answer c.stored.result)) value
    (record { reply = replies.Flag (is_stored c.store_content-answer.result); done = done_begun c.begin.ensures.begun c.store_content-answer.ensures.does; told = c.stored.ensures (cache_words new) })

pub store_content-answer-requires-clause-slot : goal.store_content-answer-requires-clause-slot
store_content-answer-requires-clause-slot c = c.requires.slot ∙ ap (λ (x : Core). slot_of x.conf c.args.key.now) (sym c.begin.ensures.begun.core)
