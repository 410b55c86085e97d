-- A core's cache from its entries and counts.
use Rattle.std.proofs.Common.{◌≡◌, inl, inr, ℕ, Bool, true, false, List, ◌++◌, filter, refl, sym, ap, ◌∙◌, subst}
use Rattle.std.specs.Prelude.{if◌then◌else◌}
use Rattle.seg_words.specs.Windows.{Aside, held_blocks}
use Rattle.seg_words.specs.Probing.{Goes}
use Rattle.seg_words.specs.Kept.{Kept}
use Rattle.seg_words.specs.declared.segment.WordsIn.{Ghosts}
use Rattle.apcu_model.specs.declared.conf.Conf.{Conf}
use Rattle.apcu_model.specs.Cache.{Row, Cache, risen}
use Rattle.apcu_model.specs.Change.{is_held, swept, with_room, is_expunged}
use Rattle.entry_slots.specs.Entries.{Entries, entries_of}
use Rattle.entry_slots.specs.Standing.{entries}
use Rattle.ttl_expunge.specs.ProbedRows.{AreHeld, KeepsOpen, Sweeps}
use Rattle.cache_core.specs.declared.cache.Core.{Core}
use Rattle.cache_core.specs.declared.cache_counts.CacheCounts.{CacheCounts}
use Rattle.cache_core.specs.CoreCache.{cache_of, CacheStands}
use Rattle.cache_core.specs.Laws.{CacheLaws}
use Rattle.std.specs.List.{Contains}
use Rattle.std.proofs.lemmas.List.Elements.{Contains-append_left, Contains-append_right, Contains-append_cases}
use Rattle.ttl_expunge.specs.DecidedRows.{same_held}
use Rattle.apcu_model.specs.Facts.{held_is}
use Rattle.seg_words.specs.Members.{Contains-filter, Contains-kept}
use Rattle.cache_core.proofs.ReadOnlyCalls.{stand_kept}

-- these are a cache's counts
pub record AreCounts (cache_counts : CacheCounts) (c : Cache) : Type 0 where
  pub hits : cache_counts.hits ≡ c.hits
  pub misses : cache_counts.misses ≡ c.misses
  pub inserts : cache_counts.inserts ≡ c.inserts
  pub expunges : cache_counts.expunges ≡ c.expunges

alike : (conf conf' : Conf) (rows rows' removed removed' : List Row) (number number' hits hits' misses misses' inserts inserts' expunges expunges' : ℕ)
    → conf ≡ conf' → rows ≡ rows' → removed ≡ removed' → number ≡ number' → hits ≡ hits' → misses ≡ misses' → inserts ≡ inserts' → expunges ≡ expunges'
    → ◌≡◌ {A = Cache} (record { conf = conf; rows = rows; removed = removed; next_number = number; hits = hits; misses = misses; inserts = inserts; expunges = expunges })
    (record { conf = conf'; rows = rows'; removed = removed'; next_number = number'; hits = hits'; misses = misses'; inserts = inserts'; expunges = expunges' })
alike conf conf' rows rows' removed removed' number number' hits hits' misses misses' inserts inserts' expunges expunges' a b c d e f g h = cc (a, b, c, d, e, f, g, h)

pub cache_made : (core : Core) (c : Cache) → entries core.slots ≡ entries_of c → core.conf ≡ c.conf → AreCounts core.cache_counts c → cache_of core ≡ c
cache_made core c e conf counts =
    let s = entries core.slots in
    alike core.conf c.conf s.rows c.rows s.removed c.removed s.next_number c.next_number core.cache_counts.hits c.hits core.cache_counts.misses c.misses core.cache_counts.inserts c.inserts core.cache_counts.expunges c.expunges
    conf (ap (λ (s : Entries). s.rows) e) (ap (λ (s : Entries). s.removed) e) (ap (λ (s : Entries). s.next_number) e)
    counts.hits counts.misses counts.inserts counts.expunges

-- and then no block is loose
pub whole_made : (core : Core) (c : Cache) → entries core.slots ≡ entries_of c → cache_of core ≡ c → entries core.slots ≡ entries_of (cache_of core)
whole_made core c e same = e ∙ ap entries_of (sym same)

pub own_counts : (core : Core) → AreCounts core.cache_counts (cache_of core)
own_counts core = record { hits = refl; misses = refl; inserts = refl; expunges = refl }

-- what stands does so after a call that only reads
pub cache_kept : {X R : Type 0} {gh : Ghosts X R} {old new : X} (core : Core) → Kept gh old new → CacheStands gh core old → CacheStands gh core new
cache_kept core kept st = record { stand = stand_kept core.slots kept st.stand; whole = st.whole }

-- the counts once room was made
pub counts_after_room : (laws : CacheLaws) (held : List ℕ) (n t : ℕ) (c : Cache) (old new : CacheCounts) (full : Bool) → full ≡ is_expunged held n t c → AreCounts old c
    → new.hits ≡ (if full then 0 else old.hits) → new.misses ≡ (if full then 0 else old.misses) → new.inserts ≡ (if full then 0 else old.inserts)
    → new.expunges ≡ (if full then risen old.expunges else old.expunges) → AreCounts new (with_room held n t c)
counts_after_room laws held n t c old new full is counts hits misses inserts expunges = go full is hits misses inserts expunges
  where
    go : (b : Bool) → b ≡ is_expunged held n t c → new.hits ≡ (if b then 0 else old.hits) → new.misses ≡ (if b then 0 else old.misses) → new.inserts ≡ (if b then 0 else old.inserts)
        → new.expunges ≡ (if b then risen old.expunges else old.expunges) → AreCounts new (with_room held n t c)
    go true e h m i x =
        let f = laws.counts.forgotten held n t c (sym e) in
        record { hits = h ∙ sym f.hits; misses = m ∙ sym f.misses; inserts = i ∙ sym f.inserts; expunges = x ∙ (ap risen counts.expunges ∙ sym f.expunges) }
    go false e h m i x =
        let k = laws.counts.kept held n t c (sym e) in
        record { hits = h ∙ (counts.hits ∙ sym k.hits); misses = m ∙ (counts.misses ∙ sym k.misses); inserts = i ∙ (counts.inserts ∙ sym k.inserts); expunges = x ∙ (counts.expunges ∙ sym k.expunges) }

-- the removed rows were swept, by the blocks that are held later too
pub swept_later : {s new : Entries} {before after : Aside} (c : Cache) → Sweeps s new before after → s ≡ entries_of c → (later : Aside) → Goes after later → new ≡ entries_of (swept (held_blocks later) c)
swept_later {s} {new} {before} {after} c sweeps e later on =
    sweeps.swept
    ∙ (ap (λ l. let x : Entries = record s { removed = l } in x) (sym (same_held after later s.removed on sweeps.decided))
    ∙ ap (λ (y : Entries). let x : Entries = record y { removed = filter (is_held (held_blocks later)) y.removed } in x) e)

-- the rows under open windows stay where the removed ones are swept
pub sweeps_keep : {old new : Entries} {before after : Aside} → Sweeps old new before after → KeepsOpen after.windows old new
sweeps_keep {old} {new} {before} {after} s = record {
  each = λ row c named. elim (Contains-append_cases old.rows old.removed row c) [
    | inl listed ↦ (row, subst (λ (x : Entries). Contains (x.rows ++ x.removed) row) (sym s.swept) (Contains-append_left old.rows (filter (is_held (held_blocks after)) old.removed) row listed), refl, refl)
    | inr removed ↦
        let held : is_held (held_blocks after) row ≡ true = held_is (held_blocks after) row ∙ (sym (s.decided.each row removed) ∙ named) in
        (row, subst (λ (x : Entries). Contains (x.rows ++ x.removed) row) (sym s.swept) (Contains-append_right old.rows (filter (is_held (held_blocks after)) old.removed) row (Contains-kept (is_held (held_blocks after)) old.removed row removed held)), refl, refl)
  ];
}

pub sweeps_held : {old new : Entries} {before after : Aside} → Sweeps old new before after → AreHeld after new.removed
sweeps_held {old} {new} {before} {after} s = record {
  each = λ row c.
      let f = Contains-filter (is_held (held_blocks after)) old.removed row (subst (λ (x : Entries). Contains x.removed row) s.swept c) in
      sym (held_is (held_blocks after) row) ∙ f.1;
}
