use Rattle.std.proofs.Common.{◌≡◌, ◌<◌, ℕ, ◌++◌, true, List, length, refl, ap, sym, subst, ◌∙◌, rules}
use Rattle.std.specs.Prelude.{Option, Some}
use Rattle.apcu_model.specs.declared.request.Request.TheVariants as request
use Rattle.apcu_model.specs.declared.searching.Pattern.{Pattern}
use Rattle.simple_pool.specs.declared.call.PoolAsk.{PoolAsk}
use Rattle.simple_pool.specs.declared.call.PoolAsk.TheVariants.{Clear, GetMany, SetMany, SetManyPlain, DeleteMany}
use Rattle.simple_pool.specs.Names.{pattern_of}
use Rattle.simple_pool.specs.Requests.{ask_pattern, pool_bound}
use Rattle.script_read.specs.declared.call.Call.TheVariants.{Pool}
use Rattle.reply_text.specs.Replies.{flag_text}
use Rattle.worker_play.specs.Goes.{Reaches, Tells}
use Rattle.worker_play.specs.Pools.{life_of}
use Rattle.worker_play.specs.Turns.{steps_at}
use Rattle.worker_play.proofs.PassProgress.{on_ok}
use Rattle.worker_play.proofs.Iterators.{steps_reached, steps_told}
use Rattle.worker_play.proofs.PoolKeys.{pool_asks, pool_tells, sets_ask, sets_tell}
use Rattle.worker_play.proofs.pools.play_on_keys.Goals as goal

-- ---- Clear

pub delete_found-requires-clause-table : goal.delete_found-requires-clause-table
delete_found-requires-clause-table g c = c.requires.table

pub delete_found-requires-clause-whole : goal.delete_found-requires-clause-whole
delete_found-requires-clause-whole g c = c.requires.whole

pub delete_found-requires-clause-slots : goal.delete_found-requires-clause-slots
delete_found-requires-clause-slots g c = c.requires.slots

pub delete_found-requires-clause-left : goal.delete_found-requires-clause-left
delete_found-requires-clause-left g c =
    subst (λ n. n < c.args.pass.known.left) (sym c.requires.slots) (subst (λ (ask : PoolAsk). pool_bound g.N.TableName.conf.slots ask < c.args.pass.known.left) c.in-Clear.is c.requires.left)

pub returns-in-Clear-clause-reaches : goal.returns-in-Clear-clause-reaches
returns-in-Clear-clause-reaches g c =
    let pool : List ℕ = c.args.call.now.pool in
    let searched : c.args.search.now ≡ Some (pattern_of pool) = c.requires.search ∙ ap (ask_pattern pool) c.in-Clear.is in
    let form = ap (λ (ask : PoolAsk). Pool (record { pool = pool; ask = ask })) c.in-Clear.is in
    let found = subst (λ (s : Option Pattern). Reaches g.N.TableName.conf (length g.N.TableName.budgets) c.args.pass c.delete_found.result.0 (steps_at c.args.when.t c.args.context.now.slots (λ from. request.ChunkDelete s from 100) 0)) searched c.delete_found.ensures.reaches in
    steps_reached _ _ _ _ _ c.args.context.now.slots _ (Pool (record { pool = pool; ask = Clear })) (λ from. request.ChunkDelete (Some (pattern_of pool)) from 100) form c.requires.slots refl found

pub returns-in-Clear-clause-line : goal.returns-in-Clear-clause-line
returns-in-Clear-clause-line g c =
    let pool : List ℕ = c.args.call.now.pool in
    let searched : c.args.search.now ≡ Some (pattern_of pool) = c.requires.search ∙ ap (ask_pattern pool) c.in-Clear.is in
    let form = ap (λ (ask : PoolAsk). Pool (record { pool = pool; ask = ask })) c.in-Clear.is in
    on_ok c.delete_found.result.1
    (λ told.
    steps_told _ _ _ _ _ c.args.context.now.slots _ (Pool (record { pool = pool; ask = Clear })) (λ from. request.ChunkDelete (Some (pattern_of pool)) from 100) _ _ form c.requires.slots refl
    (subst (λ (s : Option Pattern). Tells g.N.TableName.conf (length g.N.TableName.budgets) c.args.pass c.delete_found.result.0 (steps_at c.args.when.t c.args.context.now.slots (λ from. request.ChunkDelete s from 100) 0) (λ replies. c.args.out.now ++ flag_text true) c.delete_found.new.out) searched told)) c.delete_found.ensures.line

-- ---- GetMany

pub returns-in-GetMany-clause-reaches : goal.returns-in-GetMany-clause-reaches
returns-in-GetMany-clause-reaches g c =
    let form = c.in-GetMany.is ∙ ap (λ keys. GetMany keys c.in-GetMany.default) (sym c.as_slice.ensures) in
    pool_asks _ _ _ _ _ c.args.call.now.pool _ _ form c.get_all.ensures.reaches

pub returns-in-GetMany-clause-line : goal.returns-in-GetMany-clause-line
returns-in-GetMany-clause-line g c =
    let form = c.in-GetMany.is ∙ ap (λ keys. GetMany keys c.in-GetMany.default) (sym c.as_slice.ensures) in
    on_ok c.get_all.result.1 (λ told. pool_tells _ _ _ _ _ c.args.call.now.pool _ _ _ _ form told) c.get_all.ensures.line

-- ---- SetMany

pub returns-in-SetMany-clause-reaches : goal.returns-in-SetMany-clause-reaches
returns-in-SetMany-clause-reaches g c =
    let pool : List ℕ = c.args.call.now.pool in
    let pairs = c.as_slice-in-SetMany.result.now in
    let life : c.life_of-life.result ≡ life_of c.in-SetMany.ttl = search (rules, c.life_of-life.ensures) in
    let form = c.in-SetMany.is ∙ ap (λ ps. SetMany ps c.in-SetMany.ttl) (sym c.as_slice-in-SetMany.ensures) in
    pool_asks _ _ _ _ _ pool _ _ form (sets_ask _ _ _ _ _ pool pairs c.in-SetMany.ttl c.life_of-life.result life c.put_all.ensures.reaches)

pub returns-in-SetMany-clause-line : goal.returns-in-SetMany-clause-line
returns-in-SetMany-clause-line g c =
    let pool : List ℕ = c.args.call.now.pool in
    let pairs = c.as_slice-in-SetMany.result.now in
    let life : c.life_of-life.result ≡ life_of c.in-SetMany.ttl = search (rules, c.life_of-life.ensures) in
    let form = c.in-SetMany.is ∙ ap (λ ps. SetMany ps c.in-SetMany.ttl) (sym c.as_slice-in-SetMany.ensures) in
    on_ok c.put_all.result.1
    (λ told. pool_tells _ _ _ _ _ pool _ _ _ _ form (sets_tell _ _ _ _ _ pool pairs c.in-SetMany.ttl c.life_of-life.result _ _ life told)) c.put_all.ensures.line

-- ---- SetManyPlain

pub returns-in-SetManyPlain-clause-reaches : goal.returns-in-SetManyPlain-clause-reaches
returns-in-SetManyPlain-clause-reaches g c =
    let form = c.in-SetManyPlain.is ∙ ap SetManyPlain (sym c.as_slice-in-SetManyPlain.ensures) in
    pool_asks _ _ _ _ _ c.args.call.now.pool _ _ form c.put_all-in-SetManyPlain.ensures.reaches

pub returns-in-SetManyPlain-clause-line : goal.returns-in-SetManyPlain-clause-line
returns-in-SetManyPlain-clause-line g c =
    let form = c.in-SetManyPlain.is ∙ ap SetManyPlain (sym c.as_slice-in-SetManyPlain.ensures) in
    on_ok c.put_all-in-SetManyPlain.result.1 (λ told. pool_tells _ _ _ _ _ c.args.call.now.pool _ _ _ _ form told) c.put_all-in-SetManyPlain.ensures.line

-- ---- DeleteMany

pub returns-in-DeleteMany-clause-reaches : goal.returns-in-DeleteMany-clause-reaches
returns-in-DeleteMany-clause-reaches g c =
    let form = c.in-DeleteMany.is ∙ ap DeleteMany (sym c.as_slice-in-DeleteMany.ensures) in
    pool_asks _ _ _ _ _ c.args.call.now.pool _ _ form c.drop_all.ensures.reaches

pub returns-in-DeleteMany-clause-line : goal.returns-in-DeleteMany-clause-line
returns-in-DeleteMany-clause-line g c =
    let form = c.in-DeleteMany.is ∙ ap DeleteMany (sym c.as_slice-in-DeleteMany.ensures) in
    on_ok c.drop_all.result.1 (λ told. pool_tells _ _ _ _ _ c.args.call.now.pool _ _ _ _ form told) c.drop_all.ensures.line
