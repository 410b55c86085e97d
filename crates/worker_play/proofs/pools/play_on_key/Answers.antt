use Rattle.std.proofs.Common.{◌≡◌, ℕ, ℤ, ◌++◌, Bool, false, List, refl, ap, sym, ◌∙◌, rules}
use Rattle.std.specs.Prelude.{unwrap_or, Option}
use Rattle.php_graph.specs.declared.kind.Kind.{Kind}
use Rattle.notation.specs.Notation.{text_of}
use Rattle.apcu_model.specs.declared.request.Request.TheVariants as request
use Rattle.apcu_model.specs.declared.request.Reply.{Reply}
use Rattle.simple_pool.specs.declared.call.PoolAsk.TheVariants.{Get, Set, SetPlain, Delete, Has}
use Rattle.simple_pool.specs.Names.{pool_key}
use Rattle.reply_text.specs.Replies.{flag_text}
use Rattle.worker_play.specs.Pools.{life_of, put_as, put_done}
use Rattle.worker_play.proofs.PassProgress.{on_ok, of_if_ok}
use Rattle.worker_play.proofs.PoolKeys.{pool_told_once, pool_asked_once, own_is, answer_is, lent_or, set_is_put, set_text}
use Rattle.worker_play.proofs.pools.play_on_key.Goals as goal

-- ---- Get

pub returns-in-Ok-clause-reaches : goal.returns-in-Ok-clause-reaches
returns-in-Ok-clause-reaches g c =
    let pool : List ℕ = c.args.call.now.pool in
    let same = own_is pool _ (Get c.in-Get.field-0 c.in-Get.default) _ c.in-Get.field-0 c.in-Get.is refl c.requires.own in
    pool_asked_once _ _ _ _ _ pool _ _ _ _ _ c.in-Get.is (ap request.Fetch same) c.fetch-pass.ensures.1 refl

pub returns-in-Ok-clause-line : goal.returns-in-Ok-clause-line
returns-in-Ok-clause-line g c =
    let pool : List ℕ = c.args.call.now.pool in
    let default : List Kind = c.in-Get.default in
    let same = own_is pool _ (Get c.in-Get.field-0 default) _ c.in-Get.field-0 c.in-Get.is refl c.requires.own in
    let found = of_if_ok _ c.fetch-pass.result.1 c.in-Ok.found c.in-Ok.is c.fetch-pass.ensures.2 in
    let value = ap (λ v. v.now) c.unwrap_or.ensures ∙ (lent_or c.as_ref.result _ ∙ (ap (λ (o : Option (List Kind)). unwrap_or o default) c.as_ref.ensures.value ∙ answer_is c.in-Ok.found default _ found)) in
    on_ok c.write_gave.result (λ e. pool_told_once _ _ _ _ _ pool _ _ _ _ _ _ _ c.in-Get.is (ap request.Fetch same) c.fetch-pass.ensures.1 refl refl (e ∙ ap (λ (v : List Kind). c.args.out.now ++ text_of v) value)) c.write_gave.ensures

pub returns-in-Err-clause-reaches : goal.returns-in-Err-clause-reaches
returns-in-Err-clause-reaches g c =
    let pool : List ℕ = c.args.call.now.pool in
    let same = own_is pool _ (Get c.in-Get.field-0 c.in-Get.default) _ c.in-Get.field-0 c.in-Get.is refl c.requires.own in
    pool_asked_once _ _ _ _ _ pool _ _ _ _ _ c.in-Get.is (ap request.Fetch same) c.fetch-pass.ensures.1 refl

-- ---- Set

pub returns-in-Set-clause-reaches : goal.returns-in-Set-clause-reaches
returns-in-Set-clause-reaches g c =
    let pool : List ℕ = c.args.call.now.pool in
    let key : List ℕ = c.in-Set.field-0 in
    let value : List Kind = c.in-Set.value in
    let same = own_is pool _ (Set key value c.in-Set.ttl) _ key c.in-Set.is refl c.requires.own in
    let life : c.life_of.result ≡ life_of c.in-Set.ttl = search (rules, c.life_of.ensures) in
    let asked = ap (λ k. put_as k value c.life_of.result) same ∙ (ap (put_as (pool_key pool key) value) life ∙ sym (set_is_put pool c.in-Set.ttl (key, value))) in
    pool_asked_once _ _ _ _ _ pool _ _ _ _ _ c.in-Set.is asked c.put-pass.ensures.1 refl

pub returns-in-Set-clause-line : goal.returns-in-Set-clause-line
returns-in-Set-clause-line g c =
    let pool : List ℕ = c.args.call.now.pool in
    let key : List ℕ = c.in-Set.field-0 in
    let value : List Kind = c.in-Set.value in
    let ttl : ℤ = c.in-Set.ttl in
    let y : Reply = c.put-pass.ensures.0 in
    let same = own_is pool _ (Set key value ttl) _ key c.in-Set.is refl c.requires.own in
    let life : c.life_of.result ≡ life_of ttl = search (rules, c.life_of.ensures) in
    let asked = ap (λ k. put_as k value c.life_of.result) same ∙ (ap (put_as (pool_key pool key) value) life ∙ sym (set_is_put pool ttl (key, value))) in
    let done : c.put-pass.result.1 ≡ put_done (life_of ttl) y = c.put-pass.ensures.2 ∙ ap (λ (l : Option ℕ). put_done l y) life in
    let text = ap (λ (b : Bool). c.args.out.now ++ flag_text b) done ∙ ap (λ (l : List ℕ). c.args.out.now ++ l) (set_text key value ttl y) in
    on_ok c.write_flag.result (λ e. pool_told_once _ _ _ _ _ pool _ _ _ _ y _ _ c.in-Set.is asked c.put-pass.ensures.1 refl refl (e ∙ text)) c.write_flag.ensures

-- ---- SetPlain

pub returns-in-SetPlain-clause-reaches : goal.returns-in-SetPlain-clause-reaches
returns-in-SetPlain-clause-reaches g c =
    let pool : List ℕ = c.args.call.now.pool in
    let same = own_is pool _ (SetPlain c.in-SetPlain.field-0 c.in-SetPlain.value) _ c.in-SetPlain.field-0 c.in-SetPlain.is refl c.requires.own in
    pool_asked_once _ _ _ _ _ pool _ _ _ _ _ c.in-SetPlain.is (ap (λ k. request.Store k c.in-SetPlain.value 0 false) same) c.store-pass.ensures refl

pub returns-in-SetPlain-clause-line : goal.returns-in-SetPlain-clause-line
returns-in-SetPlain-clause-line g c =
    let pool : List ℕ = c.args.call.now.pool in
    let same = own_is pool _ (SetPlain c.in-SetPlain.field-0 c.in-SetPlain.value) _ c.in-SetPlain.field-0 c.in-SetPlain.is refl c.requires.own in
    on_ok c.write_flag-in-SetPlain.result
    (λ e. pool_told_once _ _ _ _ _ pool _ _ _ _ _ _ _ c.in-SetPlain.is (ap (λ k. request.Store k c.in-SetPlain.value 0 false) same) c.store-pass.ensures refl refl e) c.write_flag-in-SetPlain.ensures

-- ---- Delete

pub returns-in-Delete-clause-reaches : goal.returns-in-Delete-clause-reaches
returns-in-Delete-clause-reaches g c =
    let pool : List ℕ = c.args.call.now.pool in
    let same = own_is pool _ (Delete c.in-Delete.field-0) _ c.in-Delete.field-0 c.in-Delete.is refl c.requires.own in
    pool_asked_once _ _ _ _ _ pool _ _ _ _ _ c.in-Delete.is (ap request.Delete same) c.delete-pass.ensures refl

pub returns-in-Delete-clause-line : goal.returns-in-Delete-clause-line
returns-in-Delete-clause-line g c =
    let pool : List ℕ = c.args.call.now.pool in
    let same = own_is pool _ (Delete c.in-Delete.field-0) _ c.in-Delete.field-0 c.in-Delete.is refl c.requires.own in
    on_ok c.write_flag-in-Delete.result (λ e. pool_told_once _ _ _ _ _ pool _ _ _ _ _ _ _ c.in-Delete.is (ap request.Delete same) c.delete-pass.ensures refl refl e) c.write_flag-in-Delete.ensures

-- ---- Has

pub returns-in-Has-clause-reaches : goal.returns-in-Has-clause-reaches
returns-in-Has-clause-reaches g c =
    let pool : List ℕ = c.args.call.now.pool in
    let same = own_is pool _ (Has c.in-Has.field-0) _ c.in-Has.field-0 c.in-Has.is refl c.requires.own in
    pool_asked_once _ _ _ _ _ pool _ _ _ _ _ c.in-Has.is (ap request.Exists same) c.exists-pass.ensures refl

pub returns-in-Has-clause-line : goal.returns-in-Has-clause-line
returns-in-Has-clause-line g c =
    let pool : List ℕ = c.args.call.now.pool in
    let same = own_is pool _ (Has c.in-Has.field-0) _ c.in-Has.field-0 c.in-Has.is refl c.requires.own in
    on_ok c.write_flag-in-Has.result (λ e. pool_told_once _ _ _ _ _ pool _ _ _ _ _ _ _ c.in-Has.is (ap request.Exists same) c.exists-pass.ensures refl refl e) c.write_flag-in-Has.ensures
