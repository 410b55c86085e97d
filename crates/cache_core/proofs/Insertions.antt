-- A value is stored: the tests before, and the ways of an insertion.
use Rattle.std.proofs.Common.{◌≡◌, ℕ, Bool, true, false, ◌&&◌, List, length, filter, Option, sym, ap, ◌∙◌}
use Rattle.std.specs.Prelude.{nat_lt, is_some, if◌then◌else◌}
use Rattle.php_graph.specs.declared.kind.Kind.{Kind}
use Rattle.php_graph.specs.Size.{block_size}
use Rattle.apcu_model.specs.Conf.{most_of}
use Rattle.apcu_model.specs.declared.request.StoreAnswer.TheVariants.{TooLarge, Exists}
use Rattle.apcu_model.specs.Cache.{Row, Cache, gap_of}
use Rattle.apcu_model.specs.Change.{is_held, swept, expired_dropped, expunged, has_gap, with_room, put_in, inserted}
use Rattle.apcu_model.specs.Expiry.{live_row}
use Rattle.cache_core.specs.Storing.{added}
use Rattle.seg_words.specs.Members.{filter_all, Contains-filter}

-- the three ways of an insertion
module _ (held key : List ℕ) (graph : List Kind) (ttl : ℕ) (exclusive : Bool) (t : ℕ) (c : Cache) where
  pub too_large : nat_lt (most_of c.conf) (block_size (length key) graph) ≡ true → inserted held key graph ttl exclusive t c ≡ record { answer = TooLarge; cache = c }
  too_large h =
      ap (λ b. if b then record { answer = TooLarge; cache = c } else if exclusive && is_some (live_row key t c) then record { answer = Exists; cache = c } else added held key graph ttl t c) h

  pub exists_there : nat_lt (most_of c.conf) (block_size (length key) graph) ≡ false → (exclusive && is_some (live_row key t c)) ≡ true → inserted held key graph ttl exclusive t c ≡ record { answer = Exists; cache = c }
  exists_there h e =
      ap (λ b. if b then record { answer = TooLarge; cache = c } else if exclusive && is_some (live_row key t c) then record { answer = Exists; cache = c } else added held key graph ttl t c) h
      ∙ ap (λ b. if b then record { answer = Exists; cache = c } else added held key graph ttl t c) e

  pub added_then : nat_lt (most_of c.conf) (block_size (length key) graph) ≡ false → (exclusive && is_some (live_row key t c)) ≡ false → inserted held key graph ttl exclusive t c ≡ added held key graph ttl t c
  added_then h e =
      ap (λ b. if b then record { answer = TooLarge; cache = c } else if exclusive && is_some (live_row key t c) then record { answer = Exists; cache = c } else added held key graph ttl t c) h
      ∙ ap (λ b. if b then record { answer = Exists; cache = c } else added held key graph ttl t c) e

-- where the place is known
pub added_at : (held key : List ℕ) (graph : List Kind) (ttl t : ℕ) (c : Cache) (place : Option ℕ) → place ≡ gap_of (with_room held (block_size (length key) graph) t c) (block_size (length key) graph)
    → added held key graph ttl t c ≡ put_in held key graph ttl t (block_size (length key) graph) (with_room held (block_size (length key) graph) t c) place
added_at held key graph ttl t c place is = ap (put_in held key graph ttl t (block_size (length key) graph) (with_room held (block_size (length key) graph) t c)) (sym is)

both : (held : List ℕ) (rows : List Row) → filter (is_held held) (filter (is_held held) rows) ≡ filter (is_held held) rows
both held rows = filter_all (is_held held) (filter (is_held held) rows) (λ row c. (Contains-filter (is_held held) rows row c).1)

-- sweeping first changes nothing of what is added
pub added_swept : (held key : List ℕ) (graph : List Kind) (ttl t : ℕ) (c : Cache) → added held key graph ttl t (swept held c) ≡ added held key graph ttl t c
added_swept held key graph ttl t c =
    let n = block_size (length key) graph in
    ap (λ (first : Cache). let second = expired_dropped held t first in
    let room = if has_gap n first then first else if has_gap n second then second else expunged held t second in
    put_in held key graph ttl t n room (gap_of room n))
    (ap (λ l. let x : Cache = record c { removed = l } in x) (both held c.removed))
