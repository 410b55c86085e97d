use Rattle.std.proofs.Common.{◌≡◌, true, false, ap}
use Rattle.script_read.specs.declared.keyword.Keyword.{Keyword}
use Rattle.script_read.specs.Arguments.{stored}
use Rattle.script_read.specs.Table.{needs, moment_form, store_by, count_form, form_in}
use Rattle.script_read.specs.Reading.{rest_at}
use Rattle.script_read.specs.Gives.{form_named}
use Rattle.script_read.proofs.TableRows.{moved}
use Rattle.script_read.proofs.lines.effect.Goals as goal

pub returns-in-Time-clause-read : goal.returns-in-Time-clause-read
unfolding form_in
returns-in-Time-clause-read c =
    let line = c.args.line.now in
    let rest = c.args.rest.now in
    let is : rest_at (form_named c.args.word) line rest ≡ rest_at (moment_form false) line rest = ap (λ (w : Keyword). rest_at (form_named w) line rest) c.in-Time.is in
    moved _ c.moment.result _ _ is (c.moment.ensures.read line)

pub returns-in-Request-clause-read : goal.returns-in-Request-clause-read
unfolding form_in
returns-in-Request-clause-read c =
    let line = c.args.line.now in
    let rest = c.args.rest.now in
    let is : rest_at (form_named c.args.word) line rest ≡ rest_at (moment_form true) line rest = ap (λ (w : Keyword). rest_at (form_named w) line rest) c.in-Request.is in
    moved _ c.moment-in-Request.result _ _ is (c.moment-in-Request.ensures.read line)

pub returns-in-Store-clause-read : goal.returns-in-Store-clause-read
unfolding form_in
returns-in-Store-clause-read c =
    let line = c.args.line.now in
    let rest = c.args.rest.now in
    moved _ c.store.result _ _ (ap (λ (w : Keyword). rest_at (form_named w) line rest) c.in-Store.is) (c.store.ensures.read line)

pub returns-in-Add-clause-read : goal.returns-in-Add-clause-read
unfolding form_in
returns-in-Add-clause-read c =
    let line = c.args.line.now in
    let rest = c.args.rest.now in
    let is : rest_at (form_named c.args.word) line rest ≡ rest_at (needs stored (store_by true)) line rest = ap (λ (w : Keyword). rest_at (form_named w) line rest) c.in-Add.is in
    moved _ c.store-in-Add.result _ _ is (c.store-in-Add.ensures.read line)

pub returns-in-Fetch-clause-read : goal.returns-in-Fetch-clause-read
unfolding form_in
returns-in-Fetch-clause-read c =
    let line = c.args.line.now in
    let rest = c.args.rest.now in
    moved _ c.fetch.result _ _ (ap (λ (w : Keyword). rest_at (form_named w) line rest) c.in-Fetch.is) (c.fetch.ensures.read line)

pub returns-in-Exists-clause-read : goal.returns-in-Exists-clause-read
unfolding form_in
returns-in-Exists-clause-read c =
    let line = c.args.line.now in
    let rest = c.args.rest.now in
    moved _ c.exists.result _ _ (ap (λ (w : Keyword). rest_at (form_named w) line rest) c.in-Exists.is) (c.exists.ensures.read line)

pub returns-in-Delete-clause-read : goal.returns-in-Delete-clause-read
unfolding form_in
returns-in-Delete-clause-read c =
    let line = c.args.line.now in
    let rest = c.args.rest.now in
    moved _ c.delete.result _ _ (ap (λ (w : Keyword). rest_at (form_named w) line rest) c.in-Delete.is) (c.delete.ensures.read line)

pub returns-in-Inc-clause-read : goal.returns-in-Inc-clause-read
unfolding form_in
returns-in-Inc-clause-read c =
    let line = c.args.line.now in
    let rest = c.args.rest.now in
    moved _ c.count.result _ _ (ap (λ (w : Keyword). rest_at (form_named w) line rest) c.in-Inc.is) (c.count.ensures.read line)

pub returns-in-Dec-clause-read : goal.returns-in-Dec-clause-read
unfolding form_in
returns-in-Dec-clause-read c =
    let line = c.args.line.now in
    let rest = c.args.rest.now in
    let is : rest_at (form_named c.args.word) line rest ≡ rest_at (count_form true) line rest = ap (λ (w : Keyword). rest_at (form_named w) line rest) c.in-Dec.is in
    moved _ c.count-in-Dec.result _ _ is (c.count-in-Dec.ensures.read line)

pub returns-in-Cas-clause-read : goal.returns-in-Cas-clause-read
unfolding form_in
returns-in-Cas-clause-read c =
    let line = c.args.line.now in
    let rest = c.args.rest.now in
    moved _ c.cas.result _ _ (ap (λ (w : Keyword). rest_at (form_named w) line rest) c.in-Cas.is) (c.cas.ensures.read line)

pub returns-in-Entry-clause-read : goal.returns-in-Entry-clause-read
unfolding form_in
returns-in-Entry-clause-read c =
    let line = c.args.line.now in
    let rest = c.args.rest.now in
    moved _ c.entry.result _ _ (ap (λ (w : Keyword). rest_at (form_named w) line rest) c.in-Entry.is) (c.entry.ensures.read line)

pub returns-in-Clear-clause-read : goal.returns-in-Clear-clause-read
unfolding form_in
returns-in-Clear-clause-read c =
    let line = c.args.line.now in
    let rest = c.args.rest.now in
    moved _ c.bare.result _ _ (ap (λ (w : Keyword). rest_at (form_named w) line rest) c.in-Clear.is) (c.bare.ensures.read line)

pub returns-in-Enabled-clause-read : goal.returns-in-Enabled-clause-read
unfolding form_in
returns-in-Enabled-clause-read c =
    let line = c.args.line.now in
    let rest = c.args.rest.now in
    moved _ c.bare-in-Enabled.result _ _ (ap (λ (w : Keyword). rest_at (form_named w) line rest) c.in-Enabled.is) (c.bare-in-Enabled.ensures.read line)

pub returns-in-KeyInfo-clause-read : goal.returns-in-KeyInfo-clause-read
unfolding form_in
returns-in-KeyInfo-clause-read c =
    let line = c.args.line.now in
    let rest = c.args.rest.now in
    moved _ c.key_info.result _ _ (ap (λ (w : Keyword). rest_at (form_named w) line rest) c.in-KeyInfo.is) (c.key_info.ensures.read line)

pub returns-in-CacheInfo-clause-read : goal.returns-in-CacheInfo-clause-read
unfolding form_in
returns-in-CacheInfo-clause-read c =
    let line = c.args.line.now in
    let rest = c.args.rest.now in
    moved _ c.cache_info.result _ _ (ap (λ (w : Keyword). rest_at (form_named w) line rest) c.in-CacheInfo.is) (c.cache_info.ensures.read line)

pub returns-in-SmaInfo-clause-read : goal.returns-in-SmaInfo-clause-read
unfolding form_in
returns-in-SmaInfo-clause-read c =
    let line = c.args.line.now in
    let rest = c.args.rest.now in
    moved _ c.sma_info.result _ _ (ap (λ (w : Keyword). rest_at (form_named w) line rest) c.in-SmaInfo.is) (c.sma_info.ensures.read line)

pub returns-in-Iterate-clause-read : goal.returns-in-Iterate-clause-read
unfolding form_in
returns-in-Iterate-clause-read c =
    let line = c.args.line.now in
    let rest = c.args.rest.now in
    moved _ c.walk.result _ _ (ap (λ (w : Keyword). rest_at (form_named w) line rest) c.in-Iterate.is) (c.walk.ensures.read line)

pub returns-in-IterateDelete-clause-read : goal.returns-in-IterateDelete-clause-read
unfolding form_in
returns-in-IterateDelete-clause-read c =
    let line = c.args.line.now in
    let rest = c.args.rest.now in
    moved _ c.walk_delete.result _ _ (ap (λ (w : Keyword). rest_at (form_named w) line rest) c.in-IterateDelete.is) (c.walk_delete.ensures.read line)

pub returns-in-IterateTotals-clause-read : goal.returns-in-IterateTotals-clause-read
unfolding form_in
returns-in-IterateTotals-clause-read c =
    let line = c.args.line.now in
    let rest = c.args.rest.now in
    moved _ c.totals.result _ _ (ap (λ (w : Keyword). rest_at (form_named w) line rest) c.in-IterateTotals.is) (c.totals.ensures.read line)

pub returns-in-PoolGet-clause-read : goal.returns-in-PoolGet-clause-read
unfolding form_in
returns-in-PoolGet-clause-read c =
    let line = c.args.line.now in
    let rest = c.args.rest.now in
    moved _ c.pool_get.result _ _ (ap (λ (w : Keyword). rest_at (form_named w) line rest) c.in-PoolGet.is) (c.pool_get.ensures.read line)

pub returns-in-PoolSet-clause-read : goal.returns-in-PoolSet-clause-read
unfolding form_in
returns-in-PoolSet-clause-read c =
    let line = c.args.line.now in
    let rest = c.args.rest.now in
    moved _ c.pool_set.result _ _ (ap (λ (w : Keyword). rest_at (form_named w) line rest) c.in-PoolSet.is) (c.pool_set.ensures.read line)

pub returns-in-PoolDelete-clause-read : goal.returns-in-PoolDelete-clause-read
unfolding form_in
returns-in-PoolDelete-clause-read c =
    let line = c.args.line.now in
    let rest = c.args.rest.now in
    moved _ c.pool_delete.result _ _ (ap (λ (w : Keyword). rest_at (form_named w) line rest) c.in-PoolDelete.is) (c.pool_delete.ensures.read line)

pub returns-in-PoolClear-clause-read : goal.returns-in-PoolClear-clause-read
unfolding form_in
returns-in-PoolClear-clause-read c =
    let line = c.args.line.now in
    let rest = c.args.rest.now in
    moved _ c.pool_clear.result _ _ (ap (λ (w : Keyword). rest_at (form_named w) line rest) c.in-PoolClear.is) (c.pool_clear.ensures.read line)

pub returns-in-PoolGetMany-clause-read : goal.returns-in-PoolGetMany-clause-read
unfolding form_in
returns-in-PoolGetMany-clause-read c =
    let line = c.args.line.now in
    let rest = c.args.rest.now in
    moved _ c.pool_get_multiple.result _ _ (ap (λ (w : Keyword). rest_at (form_named w) line rest) c.in-PoolGetMany.is) (c.pool_get_multiple.ensures.read line)

pub returns-in-PoolSetMany-clause-read : goal.returns-in-PoolSetMany-clause-read
unfolding form_in
returns-in-PoolSetMany-clause-read c =
    let line = c.args.line.now in
    let rest = c.args.rest.now in
    moved _ c.pool_set_multiple.result _ _ (ap (λ (w : Keyword). rest_at (form_named w) line rest) c.in-PoolSetMany.is) (c.pool_set_multiple.ensures.read line)

pub returns-in-PoolDeleteMany-clause-read : goal.returns-in-PoolDeleteMany-clause-read
unfolding form_in
returns-in-PoolDeleteMany-clause-read c =
    let line = c.args.line.now in
    let rest = c.args.rest.now in
    moved _ c.pool_delete_multiple.result _ _ (ap (λ (w : Keyword). rest_at (form_named w) line rest) c.in-PoolDeleteMany.is) (c.pool_delete_multiple.ensures.read line)

pub returns-in-PoolHas-clause-read : goal.returns-in-PoolHas-clause-read
unfolding form_in
returns-in-PoolHas-clause-read c =
    let line = c.args.line.now in
    let rest = c.args.rest.now in
    moved _ c.pool_has.result _ _ (ap (λ (w : Keyword). rest_at (form_named w) line rest) c.in-PoolHas.is) (c.pool_has.ensures.read line)
