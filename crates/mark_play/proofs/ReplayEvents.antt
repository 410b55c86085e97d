-- An event of a replay, from where it begins to where it leads.
use Rattle.std.proofs.Common.{◌≡◌, ℕ, ◌+◌, ◌<◌, ◌&&◌, true, false, List, [], ◌∷◌, ◌++◌, length, Option, Some, None, refl, ap, sym, ◌∙◌, subst, arith, length-append}
use Rattle.std.specs.Prelude.{Contains, slice_index, slice_index_or, slice_set}
use Rattle.std.proofs.lemmas.Bool.{and_from}
use Rattle.std.proofs.lemmas.List.{length-set}
use Rattle.std.proofs.lemmas.List.Elements.{Contains-append_left}
use Rattle.seg_words.specs.declared.segment.WordsIn.{Ghosts}
use Rattle.seg_words.specs.Windows.{Aside, has, is_named, held_blocks}
use Rattle.seg_words.specs.Probing.{Goes}
use Rattle.apcu_model.specs.declared.request.Event.{Event}
use Rattle.apcu_model.specs.declared.request.Request.{Request}
use Rattle.apcu_model.specs.declared.request.Reply.{Reply}
use Rattle.apcu_model.specs.Cache.{Row, Cache}
use Rattle.apcu_model.specs.Change.{AreAlike}
use Rattle.apcu_model.specs.History.{Stage, IsNumbered, start_of, is_shallow, held_places, reply_in, after_event}
use Rattle.apcu_model.specs.Sequential.{cache_after, reply_to}
use Rattle.entry_slots.specs.Lists.{has_place}
use Rattle.entry_slots.specs.Entries.{listed}
use Rattle.entry_slots.specs.Standing.{entries}
use Rattle.cache_core.specs.declared.cache.Core.{Core}
use Rattle.cache_core.specs.CoreCache.{cache_of, CacheStands}
use Rattle.cache_core.specs.Integers.{NameNoScalar}
use Rattle.apcu_model.specs.Numbers.{AreBelow, KeepsNumbers}
use Rattle.mark_play.specs.declared.answering.Window.{Window}
use Rattle.mark_play.specs.HeldPlaces.{IsHeldFor, HasKeyIn}
use Rattle.mark_play.specs.EventStarts.{Begins}
use Rattle.mark_play.specs.Laws.{PlayLaws}
use Rattle.mark_play.specs.ReplayStages.{IsReached}
use Rattle.mark_play.specs.Windows.{window_by}
use Rattle.mark_play.proofs.OpenWindows.{stands_begun, OpensMet}
use Rattle.mark_play.proofs.HeldRows.{Meets, opens_met, alike, not_scalar}
use Rattle.mark_play.proofs.Windows.{numbers_after, keys_after, window_new}

abbrev pub rows_in : Cache → List Row
rows_in c = c.rows ++ c.removed

-- what is so where a replay is
module _ {X : Type 0} (laws : PlayLaws) (g : Ghosts X (List ℕ)) (core : Core) (words : X) (windows : List (Option Window)) (m : Stage) (left : ℕ) (at : IsReached g core words windows m left) where
  pub numbered : IsNumbered m
  numbered = subst IsNumbered at.history.stage (laws.numbered at.history.conf at.history.history (omega (arith, at.history.few)) at.history.shallow)

  pub below : AreBelow m.cache
  below = subst (λ (n : Stage). AreBelow n.cache) at.history.stage (laws.numbers.below at.history.conf at.history.history (omega (arith, at.history.few)) at.history.shallow)

  pub zero_free : has_place 0 (rows_in m.cache) ≡ false
  zero_free = subst (λ (c : Cache). has_place 0 (rows_in c) ≡ false) at.cache (laws.standing.sound core.slots (g.words words) (g.aside words) (entries core.slots) at.stand.stand).placed

  pub one_place : (p q : Row) → Contains (rows_in m.cache) p → Contains (rows_in m.cache) q → p.place ≡ q.place → p ≡ q
  one_place = subst (λ (c : Cache). (p q : Row) → Contains (rows_in c) p → Contains (rows_in c) q → p.place ≡ q.place → p ≡ q) at.cache
      (λ p q. laws.standing.one core.slots (g.words words) (g.aside words) (entries core.slots) p q at.stand.stand)

  pub one_number : (p q : Row) → Contains (rows_in m.cache) p → Contains (rows_in m.cache) q → p.number ≡ q.number → p ≡ q
  one_number p q a b e = one_place p q a b (numbered.numbers p q a b e)

  -- each window has its key among the entries
  pub keyed : (v : ℕ) (w : Window) → slice_index_or windows v None ≡ Some w → HasKeyIn (listed (entries core.slots)) w
  keyed v w is = subst (λ (c : Cache). HasKeyIn (rows_in c) w) (sym at.cache) (at.keys v w is).key

module _ {X : Type 0} (g : Ghosts X (List ℕ)) (core : Core) (old new : X) (windows : List (Option Window)) (m : Stage) (left mask : ℕ) (b : Begins g core old new windows m left mask) where
  pub meets : Meets m windows mask b.held
  meets = record {
    seats = b.seats;
    small = b.small;
    numbers = b.at.numbers;
    held_for = λ v low bit. subst (λ (c : Cache). IsHeldFor (rows_in c) (slice_index_or windows v None) (slice_index b.held v)) b.at.cache (b.held_for v low bit);
    numbered = numbered b.laws g core old windows m left b.at;
  }

  opens : OpensMet (entries core.slots) mask b.held
  opens v low bit some = subst (λ (c : Cache). has_place (slice_index b.held v) (rows_in c) ≡ true) (sym b.at.cache) (opens_met m windows mask b.held meets v low bit some)

  pub begun_stand : CacheStands g core new
  begun_stand = record {
    stand = rw (b.words, b.aside) (stands_begun b.laws.windows.closed b.laws.windows.opened core.slots (g.words old) (entries core.slots) (g.aside old) b.at.stand.stand mask b.held opens);
    whole = b.at.stand.whole;
  }

  pub begun_unrefused : (x : ℕ) → has x (g.aside new).refused ≡ false
  begun_unrefused x = ap (λ (a : Aside). has x a.refused) b.aside

  pub begun_unnamed : NameNoScalar (g.aside new).windows (cache_of core).rows
  begun_unnamed = record {
    each = λ row c scalar.
        let there : Contains (rows_in m.cache) row = subst (λ (x : Cache). Contains (rows_in x) row) b.at.cache (Contains-append_left (cache_of core).rows (cache_of core).removed row c) in
        ap (λ (a : Aside). is_named a.windows row.place) b.aside
        ∙ not_scalar m windows mask b.held meets (one_place b.laws g core old windows m left b.at) row there scalar;
  }

  -- without memory for the answer it is as before
  pub begun_again : (core2 : Core) (later : X) → core2 ≡ core → CacheStands g core2 later → g.rest later ≡ g.rest new → IsReached g core2 later windows m left
  begun_again core2 later same stand rest = record {
    stand = stand;
    cache = ap cache_of same ∙ b.at.cache;
    full = b.at.full;
    seats = ap length (rest ∙ b.rest) ∙ b.seats;
    numbers = b.at.numbers;
    keys = b.at.keys;
    history = b.at.history;
  }

  held_alike : (later : X) → Goes (g.aside new) (g.aside later) → AreAlike (held_blocks (g.aside later)) (held_places m mask)
  held_alike later goes = alike m windows mask b.held meets (zero_free b.laws g core old windows m left b.at) (g.aside later) (subst (λ a. Goes a (g.aside later)) b.aside goes)

  -- the reply is the one of the history
  pub reply_is : (later : X) (worker t : ℕ) (r : Request) (y : Reply) → Goes (g.aside new) (g.aside later) → y ≡ reply_to (held_blocks (g.aside later)) t r (cache_of core)
      → y ≡ reply_in m (record { worker = worker; t = t; request = r; mask = mask })
  reply_is later worker t r y goes is = is
      ∙ (ap (reply_to (held_blocks (g.aside later)) t r) b.at.cache
      ∙ b.laws.alike.reply (held_blocks (g.aside later)) (held_places m mask) (held_alike later goes) t r m.cache)

  -- the shape stays
  pub shape_after : (e : Event) → (after_event m e).cache.conf ≡ m.cache.conf
  shape_after e = b.laws.keep.conf (held_places m e.mask) e.t e.request m.cache

  -- and rows keep their numbers and keys
  keeps_after : (e : Event) (less : ℕ) → less + 1 ≡ left → is_shallow e.request ≡ true → KeepsNumbers m.cache (after_event m e).cache
  keeps_after e less one flat =
      let h = b.at.history in
      subst (λ (n : Stage). KeepsNumbers n.cache (after_event n e).cache) h.stage
      (b.laws.numbers.later h.conf h.history (e ∷ []) (omega (arith, h.few, one)) h.shallow (and_from (is_shallow e.request) true flat refl))

  -- and so is where it leads
  pub reached : (core2 : Core) (later : X) (worker t : ℕ) (r : Request) (o : Option Window) (less : ℕ) → worker < 64 → less + 1 ≡ left → is_shallow r ≡ true
      → Goes (g.aside new) (g.aside later) → cache_of core2 ≡ cache_after (held_blocks (g.aside later)) t r (cache_of core) → o ≡ window_by t r (cache_of core)
      → CacheStands g core2 later → g.rest later ≡ g.rest new
      → IsReached g core2 later (slice_set windows worker o) (after_event m (record { worker = worker; t = t; request = r; mask = mask })) less
  reached core2 later worker t r o less low one flat goes cache window stand rest =
      let e : Event = record { worker = worker; t = t; request = r; mask = mask } in
      let h = b.at.history in
      let keeps = keeps_after e less one flat in
      let opened : o ≡ window_by t r m.cache = window ∙ ap (window_by t r) b.at.cache in
      record {
        stand = stand;
        cache = cache
            ∙ (ap (cache_after (held_blocks (g.aside later)) t r) b.at.cache
            ∙ b.laws.alike.cache (held_blocks (g.aside later)) (held_places m mask) (held_alike later goes) t r m.cache);
        full = length-set windows worker o ∙ b.at.full;
        seats = ap length (rest ∙ b.rest) ∙ b.seats;
        numbers = numbers_after m e windows o b.at.full low opened b.at.numbers;
        keys = keys_after m.cache (after_event m e).cache windows worker o b.at.full low keeps
            (λ w is. window_new t r m.cache w (below b.laws g core old windows m left b.at) (one_number b.laws g core old windows m left b.at) (sym opened ∙ is)) b.at.keys;
        history = record {
          conf = h.conf;
          history = h.history ++ e ∷ [];
          stage = b.laws.more.after (start_of h.conf) h.history e ∙ ap (λ (n : Stage). after_event n e) h.stage;
          few = omega (arith, length-append h.history (e ∷ []), h.few, one);
          shallow = b.laws.more.shallow h.history e ∙ (ap (λ b. b && is_shallow r) h.shallow ∙ flat);
        };
      }
