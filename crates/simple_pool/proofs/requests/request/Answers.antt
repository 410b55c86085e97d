use Rattle.std.proofs.Common.{rules, ◌≡◌, List, ℕ, Some, ap, ◌∙◌, subst, slice_get, option_map}
use Rattle.std.proofs.lemmas.Option.{slice_get-map}
use Rattle.std.proofs.lemmas.Result.{IfOk-weaker}
use Rattle.php_graph.specs.declared.kind.Kind.{Kind}
use Rattle.apcu_model.specs.declared.request.Request.TheVariants as asks
use Rattle.simple_pool.specs.Names.{pool_key}
use Rattle.simple_pool.specs.Requests.{asked_at, pool_asking, set_of, store_of}
use Rattle.simple_pool.proofs.KeyRequests.{made_map}
use Rattle.simple_pool.proofs.requests.request.Goals as goal

pub returns-in-SetMany : goal.returns-in-SetMany
returns-in-SetMany c =
    let pairs = c.in-SetMany.pairs in
    IfOk-weaker c.set_at.result _ _ (λ request e.
    let there : option_map (λ (pair : List ℕ × List Kind). set_of c.args.call.now.pool pair c.in-SetMany.ttl) (slice_get pairs c.args.i) ≡ Some request = search (rules, e) in
    ap (λ ask. asked_at (pool_asking c.args.call.now.pool ask) c.args.i) c.in-SetMany.is
    ∙ (slice_get-map (λ (pair : List ℕ × List Kind). set_of c.args.call.now.pool pair c.in-SetMany.ttl) pairs c.args.i ∙ there)) c.set_at.ensures

pub returns-in-SetManyPlain : goal.returns-in-SetManyPlain
returns-in-SetManyPlain c =
    let pairs = c.in-SetManyPlain.pairs in
    IfOk-weaker c.store_at.result _ _ (λ request e.
    ap (λ ask. asked_at (pool_asking c.args.call.now.pool ask) c.args.i) c.in-SetManyPlain.is
    ∙ (slice_get-map (λ (pair : List ℕ × List Kind). store_of c.args.call.now.pool pair 0) pairs c.args.i
    ∙ subst (λ pool. option_map (λ (pair : List ℕ × List Kind). store_of pool pair 0) (slice_get pairs c.args.i) ≡ Some request) c.as_slice-pool.ensures.bytes e)) c.store_at.ensures

pub returns-in_ok-key_at-in-DeleteMany : goal.returns-in_ok-key_at-in-DeleteMany
returns-in_ok-key_at-in-DeleteMany c =
    let keys = c.in-DeleteMany.keys in
    let key = c.in_ok-key_at-in-DeleteMany.field-0 in
    let e = subst (λ pool. option_map (pool_key pool) (slice_get keys c.args.i) ≡ Some key) c.as_slice-pool.ensures.bytes c.in_ok-key_at-in-DeleteMany.ensures in
    ap (λ ask. asked_at (pool_asking c.args.call.now.pool ask) c.args.i) c.in-DeleteMany.is ∙ made_map asks.Delete (pool_key c.args.call.now.pool) keys c.args.i key e
