-- What each event leaves as it is: the cache's shape, and that no two rows have one key.
use Rattle.std.proofs.Common.{◌≡◌, ℕ, true, not, List, [], ◌∷◌, length, Option, Some, None, refl, ◌∙◌}
use Rattle.php_graph.specs.declared.kind.Kind.{Kind}
use Rattle.php_graph.specs.Size.{block_size}
use Rattle.apcu_model.specs.declared.conf.Conf.{Conf}
use Rattle.apcu_model.specs.declared.request.Event.{Event}
use Rattle.apcu_model.specs.declared.request.Request.{Request}
use Rattle.apcu_model.specs.Cache.{Row, Cache}
use Rattle.apcu_model.specs.Change.{dropped, expired_in, is_among, leaving, placed}
use Rattle.apcu_model.specs.Counters.{with_integer_at}
use Rattle.apcu_model.specs.History.{Stage, start_of, stage_of, held_places, after_event, after_events}
use Rattle.apcu_model.specs.Lookups.{looked_up}
use Rattle.apcu_model.specs.Rows.{are_apart, touched_at}
use Rattle.apcu_model.specs.Sequential.{cache_after}
use Rattle.apcu_model.specs.SlotOrder.{slot_of}
use Rattle.apcu_model.proofs.RequestSteps.{Steps, along}
use Rattle.apcu_model.proofs.RowsApart.{are_apart-filter, are_apart-map, are_apart-with_row, touched_key}
use Rattle.apcu_model.proofs.Scalars.{set_key}

pub record Keeps (old new : Cache) : Type 0 where
  pub shape : new.conf ≡ old.conf
  pub apart : are_apart old.rows ≡ true → are_apart new.rows ≡ true

kept_dropped : (held : List ℕ) (t : ℕ) (gone : List Row) (c : Cache) → Keeps c (dropped held t gone c)
kept_dropped held t gone c = record { shape = refl; apart = are_apart-filter (λ row. not (is_among gone row)) c.rows }

kept_placed : (held key : List ℕ) (graph : List Kind) (ttl t n : ℕ) (c : Cache) (place : ℕ) → Keeps c (placed held key graph ttl t n c place)
kept_placed held key graph ttl t n c place =
    let gone = expired_in c.conf t (slot_of c.conf key) c.rows in
    let new : Row = record { key = key; graph = graph; ttl = ttl; ctime = t; mtime = t; atime = t; dtime = 0; hits = 0; place = place; size = n; number = c.next_number } in
    record { shape = refl; apart = λ a. are_apart-with_row new (dropped held t gone c).rows ((kept_dropped held t gone c).apart a) }

kept_looked : (key : List ℕ) (t : ℕ) (o : Option Row) (c : Cache) → Keeps c (looked_up key t o c)
kept_looked key t None c = record { shape = refl; apart = λ a. a }
kept_looked key t (Some row) c = record { shape = refl; apart = λ a. are_apart-map (touched_at key t) (touched_key key t) c.rows ∙ a }

kept_steps : (held : List ℕ) (t : ℕ) (r : Request) → Steps held t r (λ n c d. Keeps c d)
kept_steps held t r = record {
  same = λ c. record { shape = refl; apart = λ a. a };
  onward = λ m n a b c f g. record { shape = g.shape ∙ f.shape; apart = λ k. g.apart (f.apart k) };
  wider = λ m n c d l f. f;
  sweep = λ c. record { shape = refl; apart = λ a. a };
  drop = λ gone c why. kept_dropped held t gone c;
  expunge = λ c. record { shape = refl; apart = (kept_dropped held t (leaving c.conf c.rows) c).apart };
  clear = λ c is. record { shape = refl; apart = (kept_dropped held t (leaving c.conf c.rows) c).apart };
  place = λ key graph ttl c place may fits. kept_placed held key graph ttl t (block_size (length key) graph) c place;
  look = λ key o c. kept_looked key t o c;
  set = λ key n was c row may live is. record { shape = refl; apart = λ a. are_apart-map (with_integer_at key n t) (set_key key n t) c.rows ∙ a };
}

pub kept_after : (held : List ℕ) (t : ℕ) (r : Request) (c : Cache) → Keeps c (cache_after held t r c)
kept_after held t r c = along held t r (λ n c d. Keeps c d) (kept_steps held t r) c

-- what holds of the cache after any events
pub record Sound (conf : Conf) (c : Cache) : Type 0 where
  pub shape : c.conf ≡ conf
  pub apart : are_apart c.rows ≡ true

sound_events : (conf : Conf) (m : Stage) (es : List Event) → Sound conf m.cache → Sound conf (after_events m es).cache
sound_events conf m [] s = s
sound_events conf m (e ∷ es) s =
    let k = kept_after (held_places m e.mask) e.t e.request m.cache in
    sound_events conf (after_event m e) es (record { shape = k.shape ∙ s.shape; apart = k.apart s.apart })

pub sound_stage : (conf : Conf) (history : List Event) → Sound conf (stage_of conf history).cache
sound_stage conf history = sound_events conf (start_of conf) history (record { shape = refl; apart = refl })
