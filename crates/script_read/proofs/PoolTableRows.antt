-- The rows of pools' words, as the steps that a function of its own takes.
use Rattle.std.proofs.Common.{◌≡◌, ℕ, List, [], None, Result, Ok, Err, refl, ◌∙◌}
use Rattle.notation.specs.declared.fault.Fault.{Fault}
use Rattle.notation.specs.Marks.{◌>>=◌}
use Rattle.simple_pool.specs.declared.call.PoolAsk.TheVariants as asks_of
use Rattle.simple_pool.specs.declared.call.PoolAsk.TheVariants.{Get, GetMany, DeleteMany, Has}
use Rattle.script_read.specs.Arguments.{any_value, pool_name, own_key, own_keys, own_pairs, own_ttl, null_value}
use Rattle.script_read.specs.Table.{needs, may, pool_call, set_ask, set_many_ask, pool_get_form, pool_set_form, pool_delete_form, pool_clear_form, pool_get_multiple_form, pool_set_multiple_form, pool_delete_multiple_form, pool_has_form}
use Rattle.script_read.specs.Reading.{argument_at, optional_at, rest_at}
use Rattle.script_read.proofs.TableRows.{on, needs_is, may_is}

then_is : {A B : Type 0} (r : Result A Fault) (f g : A → Result B Fault) → ((x : A) → f x ≡ g x) → (r >>= f) ≡ (r >>= g)
then_is (Ok x) f g same = same x
then_is (Err e) f g same = refl

pub pool_get_is : (last bytes : List ℕ) → rest_at pool_get_form last bytes ≡ (argument_at pool_name bytes >>= λ p. argument_at own_key p.1 >>= λ k. on (λ d. pool_call p.0 (Get k.0 d)) (optional_at null_value any_value k.1))
unfolding rest_at
pool_get_is last bytes =
    needs_is pool_name (λ p. needs own_key (λ k. may null_value any_value (λ d. pool_call p (Get k d)))) last bytes (λ p. tt)
    ∙ then_is (argument_at pool_name bytes) _ _ (λ p. needs_is own_key (λ k. may null_value any_value (λ d. pool_call p.0 (Get k d))) [] p.1 (λ k. tt)
    ∙ then_is (argument_at own_key p.1) _ _ (λ k. may_is null_value any_value (λ d. pool_call p.0 (Get k.0 d)) [] k.1 (λ d. tt)))

pub pool_set_is : (last bytes : List ℕ) → rest_at pool_set_form last bytes ≡ (argument_at pool_name bytes >>= λ p. argument_at own_key p.1 >>= λ k. argument_at any_value k.1 >>= λ v. on (λ t. pool_call p.0 (set_ask k.0 v.0 t)) (optional_at None own_ttl v.1))
unfolding rest_at
pool_set_is last bytes =
    needs_is pool_name (λ p. needs own_key (λ k. needs any_value (λ v. may None own_ttl (λ t. pool_call p (set_ask k v t))))) last bytes (λ p. tt)
    ∙ then_is (argument_at pool_name bytes) _ _ (λ p. needs_is own_key (λ k. needs any_value (λ v. may None own_ttl (λ t. pool_call p.0 (set_ask k v t)))) [] p.1 (λ k. tt)
    ∙ then_is (argument_at own_key p.1) _ _ (λ k. needs_is any_value (λ v. may None own_ttl (λ t. pool_call p.0 (set_ask k.0 v t))) [] k.1 (λ v. tt)
    ∙ then_is (argument_at any_value k.1) _ _ (λ v. may_is None own_ttl (λ t. pool_call p.0 (set_ask k.0 v.0 t)) [] v.1 (λ t. tt))))

pub pool_delete_is : (last bytes : List ℕ) → rest_at pool_delete_form last bytes ≡ (argument_at pool_name bytes >>= λ p. on (λ k. pool_call p.0 (asks_of.Delete k)) (argument_at own_key p.1))
unfolding rest_at
pool_delete_is last bytes =
    needs_is pool_name (λ p. needs own_key (λ k. pool_call p (asks_of.Delete k))) last bytes (λ p. tt)
    ∙ then_is (argument_at pool_name bytes) _ _ (λ p. needs_is own_key (λ k. pool_call p.0 (asks_of.Delete k)) [] p.1 (λ k. tt))

pub pool_clear_is : (last bytes : List ℕ) → rest_at pool_clear_form last bytes ≡ on (λ p. pool_call p asks_of.Clear) (argument_at pool_name bytes)
unfolding rest_at
pool_clear_is last bytes =
    needs_is pool_name (λ p. pool_call p asks_of.Clear) last bytes (λ p. tt)

pub pool_get_multiple_is : (last bytes : List ℕ) → rest_at pool_get_multiple_form last bytes ≡ (argument_at pool_name bytes >>= λ p. argument_at own_keys p.1 >>= λ ks. on (λ d. pool_call p.0 (GetMany ks.0 d)) (optional_at null_value any_value ks.1))
unfolding rest_at
pool_get_multiple_is last bytes =
    needs_is pool_name (λ p. needs own_keys (λ ks. may null_value any_value (λ d. pool_call p (GetMany ks d)))) last bytes (λ p. tt)
    ∙ then_is (argument_at pool_name bytes) _ _ (λ p. needs_is own_keys (λ ks. may null_value any_value (λ d. pool_call p.0 (GetMany ks d))) [] p.1 (λ ks. tt)
    ∙ then_is (argument_at own_keys p.1) _ _ (λ ks. may_is null_value any_value (λ d. pool_call p.0 (GetMany ks.0 d)) [] ks.1 (λ d. tt)))

pub pool_set_multiple_is : (last bytes : List ℕ) → rest_at pool_set_multiple_form last bytes ≡ (argument_at pool_name bytes >>= λ p. argument_at own_pairs p.1 >>= λ ps. on (λ t. pool_call p.0 (set_many_ask ps.0 t)) (optional_at None own_ttl ps.1))
unfolding rest_at
pool_set_multiple_is last bytes =
    needs_is pool_name (λ p. needs own_pairs (λ ps. may None own_ttl (λ t. pool_call p (set_many_ask ps t)))) last bytes (λ p. tt)
    ∙ then_is (argument_at pool_name bytes) _ _ (λ p. needs_is own_pairs (λ ps. may None own_ttl (λ t. pool_call p.0 (set_many_ask ps t))) [] p.1 (λ ps. tt)
    ∙ then_is (argument_at own_pairs p.1) _ _ (λ ps. may_is None own_ttl (λ t. pool_call p.0 (set_many_ask ps.0 t)) [] ps.1 (λ t. tt)))

pub pool_delete_multiple_is : (last bytes : List ℕ) → rest_at pool_delete_multiple_form last bytes ≡ (argument_at pool_name bytes >>= λ p. on (λ ks. pool_call p.0 (DeleteMany ks)) (argument_at own_keys p.1))
unfolding rest_at
pool_delete_multiple_is last bytes =
    needs_is pool_name (λ p. needs own_keys (λ ks. pool_call p (DeleteMany ks))) last bytes (λ p. tt)
    ∙ then_is (argument_at pool_name bytes) _ _ (λ p. needs_is own_keys (λ ks. pool_call p.0 (DeleteMany ks)) [] p.1 (λ ks. tt))

pub pool_has_is : (last bytes : List ℕ) → rest_at pool_has_form last bytes ≡ (argument_at pool_name bytes >>= λ p. on (λ k. pool_call p.0 (Has k)) (argument_at own_key p.1))
unfolding rest_at
pool_has_is last bytes =
    needs_is pool_name (λ p. needs own_key (λ k. pool_call p (Has k))) last bytes (λ p. tt)
    ∙ then_is (argument_at pool_name bytes) _ _ (λ p. needs_is own_key (λ k. pool_call p.0 (Has k)) [] p.1 (λ k. tt))
