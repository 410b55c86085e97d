use Rattle.std.proofs.Common.{◌≡◌, false, List, [], ◌∷◌, length, refl, sym, ap, ap₂, subst, ◌∙◌, rules, w64}
use Rattle.std.specs.Prelude.{pos}
use Rattle.std.specs.Int.RustNames.{FitsSigned}
use Rattle.std.proofs.lemmas.Int.{to_z-of_z}
use Rattle.php_graph.specs.declared.kind.Kind.{Kind}
use Rattle.php_graph.specs.declared.kind.Kind.TheVariants as kinds
use Rattle.apcu_model.specs.declared.request.Request.TheVariants as request
use Rattle.apcu_model.specs.declared.request.Reply.TheVariants as reply
use Rattle.apcu_model.specs.History.{is_scalar}
use Rattle.pin_table.specs.Values.{PassView}
use Rattle.script_read.specs.GeneratedScripts.{counter_key}
use Rattle.play_laws.specs.Summary.{first_number}
use Rattle.shared_cache.specs.PinnedFetches.{scalar_graph, pass_view_of}
use Rattle.worker_play.specs.Goes.{wish, GoesOn}
use Rattle.worker_play.proofs.PassProgress.{one}
use Rattle.worker_play.proofs.CounterLooks.{key_spelled}
use Rattle.worker_play.proofs.looks.look_at.Goals as goal

-- a value that is copied outside the lock begins with no integer
none_first : (g : List Kind) → is_scalar g ≡ false → pos 0 ≡ first_number g
none_first [] h = refl
none_first (kinds.Null ∷ ks) h = refl
none_first (kinds.Bool b ∷ ks) h = refl
none_first (kinds.Int n ∷ ks) h = absurd (cc h)
none_first (kinds.Str s ∷ ks) h = refl
none_first (kinds.Array ms ∷ ks) h = refl
none_first (kinds.Object class ps ∷ ks) h = refl
none_first (kinds.Same x ∷ ks) h = refl

pub returns-in-Miss : goal.returns-in-Miss
returns-in-Miss g c = (reply.Absent, one (record { more = c.one_event_own.ensures.more; others = c.one_event_own.ensures.others }) _ _ _ _ _ _ _ _ c.in-Miss.ensures c.requires.whole (ap request.Fetch (key_spelled c.args.number c.requires.counter)), refl)

pub returns-in-Scalar : goal.returns-in-Scalar
returns-in-Scalar g c =
    let fits : FitsSigned w64 c.number_of.result = search rules in (
      reply.Found (scalar_graph c.in-Scalar.scalar),
      one (record { more = c.one_event_own.ensures.more; others = c.one_event_own.ensures.others }) _ _ _ _ _ _ _ _ c.in-Scalar.ensures c.requires.whole (ap request.Fetch (key_spelled c.args.number c.requires.counter)),
      to_z-of_z w64 c.number_of.result fits ∙ c.number_of.ensures,
    )

pub returns-in-Hit : goal.returns-in-Hit
returns-in-Hit g c =
    let found = c.in-Hit.ensures in
    let back : pass_view_of c.in-Hit.copying ≡ c.copy_out-pass.result.0 =
    sym (ap₂ (λ t k. record { table = t; known = k }) c.copy_out-pass.ensures.table c.copy_out-pass.ensures.known) in (
      reply.Found found.graph,
      subst (λ (q : PassView). GoesOn g.N.TableName.conf (length g.N.TableName.budgets) c.args.pass q (wish 0 (request.Fetch (counter_key c.args.number)) ∷ []) (reply.Found found.graph ∷ [])) back
          (one (record { more = c.one_event_own.ensures.more; others = c.one_event_own.ensures.others }) _ _ _ _ _ _ _ _ found.follows c.requires.whole (ap request.Fetch (key_spelled c.args.number c.requires.counter))),
      none_first found.graph found.whole,
    )
