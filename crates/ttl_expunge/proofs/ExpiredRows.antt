-- The time limit that is handed in is the cache's.
use Rattle.std.proofs.Common.{◌≡◌, ℕ, ◌+◌, ◌==◌, ◌&&◌, ◌||◌, ap, List, filter}
use Rattle.std.specs.Prelude.{nat_lt}
use Rattle.apcu_model.specs.declared.conf.Conf.{Conf}
use Rattle.apcu_model.specs.Cache.{Row}
use Rattle.apcu_model.specs.Expiry.{is_hard_expired, is_expired}
use Rattle.ttl_expunge.specs.DropRules.{is_to_drop}
use Rattle.ttl_expunge.specs.declared.chains.DropRule.TheVariants.{Expired}
use Rattle.seg_words.specs.Members.{filter_alike}

pub expired_rows : (conf : Conf) (ttl t : ℕ) (rows : List Row) → ttl ≡ conf.ttl → filter (is_to_drop (Expired ttl) t) rows ≡ filter (is_expired conf t) rows
expired_rows conf ttl t rows e =
    filter_alike (is_to_drop (Expired ttl) t) (is_expired conf t) rows
    (λ row c. ap (λ limit. is_hard_expired t row || (row.ttl == 0 && nat_lt 0 limit && nat_lt (row.atime + limit) t)) e)
