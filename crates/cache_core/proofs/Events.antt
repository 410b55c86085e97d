-- Steps of an event: nothing changes, and one after the other.
use Rattle.std.proofs.Common.{◌≡◌, inl, inr, ℕ, Bool, true, false, List, [], ◌∷◌, ◌++◌, map, refl, sym, ◌∙◌, ap, subst}
use Rattle.std.specs.Prelude.{ℤ, Contains, if◌then◌else◌, Result, Ok, Err, IfOk}
use Rattle.std.proofs.lemmas.Bool.{false≢true}
use Rattle.std.proofs.lemmas.List.Elements.{Contains-append_left, Contains-append_right, Contains-append_cases}
use Rattle.seg_words.specs.Members.{Contains-map}
use Rattle.seg_words.specs.declared.segment.WordsIn.{Ghosts}
use Rattle.seg_words.specs.Kept.{Kept, KeptBeside}
use Rattle.seg_words.specs.Probing.{goes_nowhere, goes_on}
use Rattle.seg_words.specs.Windows.{Aside, has, held_blocks}
use Rattle.apcu_model.specs.declared.request.Request.{Request}
use Rattle.apcu_model.specs.declared.request.Reply.{Reply}
use Rattle.apcu_model.specs.Cache.{Row}
use Rattle.apcu_model.specs.Sequential.{cache_after, reply_to}
use Rattle.php_graph.specs.declared.kind.Kind.TheVariants as kinds
use Rattle.apcu_model.specs.Lookups.{touched}
use Rattle.entry_slots.specs.Entries.{Entries, touched_row, touched_in, number_row, with_number}
use Rattle.entry_slots.specs.Lists.{is_at}
use Rattle.entry_slots.specs.Standing.{entries}
use Rattle.ttl_expunge.specs.ProbedRows.{AreHeld, AreRemoved, KeepsOpen}
use Rattle.ttl_expunge.proofs.OpenWindows.{open_on}
use Rattle.cache_core.specs.declared.cache.Core.{Core}
use Rattle.cache_core.specs.CoreCache.{cache_of, CacheStands}
use Rattle.cache_core.specs.Events.{MayDrop, MayInsert, IsBy, IsStep, Does, IsUnchanged, DoesIf}
use Rattle.cache_core.proofs.CoreCacheLemmas.{cache_kept}

-- as the call leaves the windows and the mask
pub by_now : {A : Type 0} {aside : Aside} (f : List ℕ → A) {x : A} → IsBy aside f x → x ≡ f (held_blocks aside)
by_now {aside = aside} f by = by aside (goes_nowhere aside aside refl)

-- the rows stay
pub same_open : (windows : List ℕ) (s : Entries) → KeepsOpen windows s s
same_open windows s = record { each = λ row there named. (row, there, refl, refl) }

-- a call that only reads is a step
pub still : {X R : Type 0} {g : Ghosts X R} {before after : X} (core : Core) → Kept g before after → CacheStands g core before → IsStep g core core before after
still {g = g} {before} {after} core kept st = record {
  goes = goes_nowhere (g.aside before) (g.aside after) kept.aside;
  keeps = same_open (g.aside after).windows (entries core.slots);
  refused = λ was. subst (λ (a : Aside). AreRemoved a (cache_of core).removed) (sym kept.aside) was;
  stand = cache_kept core kept st;
  rest = kept.rest;
}

-- so is no call at all
pub still_here : {X R : Type 0} {g : Ghosts X R} {core : Core} {seg : X} → CacheStands g core seg → IsStep g core core seg seg
still_here {core = core} st = still core (record { words = refl; aside = refl; rest = refl }) st

-- and a call that changed nothing
pub stays : {X R : Type 0} {g : Ghosts X R} {old new : Core} {before after : X} → IsUnchanged g old new before after → CacheStands g old before → IsStep g old new before after
stays {g = g} {old} {before = before} {after} same st = subst (λ (c : Core). IsStep g old c before after) (sym same.core) (still old same.kept st)

-- and it is the event of a request that changes nothing
pub does_nothing : {X R : Type 0} {g : Ghosts X R} {old new : Core} {before after : X} {t : ℕ} {r : Request} {y : Reply} → IsUnchanged g old new before after → CacheStands g old before
    → ((held : List ℕ) → y ≡ reply_to held t r (cache_of old)) → ((held : List ℕ) → cache_of old ≡ cache_after held t r (cache_of old)) → Does g old new before after t r y
does_nothing same st reply nothing = record {
  reply = λ later on. reply (held_blocks later);
  cache = λ later on. ap (λ (c : Core). cache_of c) same.core ∙ nothing (held_blocks later);
  step = stays same st;
}

-- a call that only tells, for whose answer there may be no memory
pub tells_as : {X R A E : Type 0} {g : Ghosts X R} {old new : Core} {before after : X} {t : ℕ} {r : Request} (answer : Result A E) (y : A → Reply) (z : Reply) → IfOk answer (λ a. y a ≡ z) → IsUnchanged g old new before after
    → CacheStands g old before → ((held : List ℕ) → z ≡ reply_to held t r (cache_of old)) → ((held : List ℕ) → cache_of old ≡ cache_after held t r (cache_of old)) → DoesIf g old new before after t r answer y
tells_as (Ok a) y z is same st reply nothing = record { done = does_nothing same st (λ held. is ∙ reply held) nothing; same = tt }
tells_as (Err e) y z is same st reply nothing = record { done = tt; same = same }

pub tells : {X R A E : Type 0} {g : Ghosts X R} {old new : Core} {before after : X} {t : ℕ} {r : Request} (answer : Result A E) (y : A → Reply) (x : A) → IfOk answer (λ a. a ≡ x) → IsUnchanged g old new before after
    → CacheStands g old before → ((held : List ℕ) → y x ≡ reply_to held t r (cache_of old)) → ((held : List ℕ) → cache_of old ≡ cache_after held t r (cache_of old)) → DoesIf g old new before after t r answer y
tells (Ok a) y x is same st reply nothing = record { done = does_nothing same st (λ held. ap y is ∙ reply held) nothing; same = tt }
tells (Err e) y x is same st reply nothing = record { done = tt; same = same }

-- in each case a step
pub step_if : {X R A E : Type 0} {g : Ghosts X R} {old new : Core} {before after : X} {t : ℕ} {r : Request} (answer : Result A E) {y : A → Reply} → CacheStands g old before → DoesIf g old new before after t r answer y → IsStep g old new before after
step_if (Ok a) st does = does.done.step
step_if (Err e) st does = stays does.same st

-- one step after the other
pub steps : {X R : Type 0} {g : Ghosts X R} {old mid new : Core} {before between after : X} → IsStep g old mid before between → IsStep g mid new between after → IsStep g old new before after
steps {g = g} {old} {mid} {new} {before} {between} {after} one two = record {
  goes = goes_on (g.aside before) (g.aside between) (g.aside after) one.goes two.goes;
  keeps = open_on (entries old.slots) (entries mid.slots) (entries new.slots) (g.aside between) (g.aside after) two.goes one.keeps two.keeps;
  refused = λ was. two.refused (one.refused was);
  stand = two.stand;
  rest = two.rest ∙ one.rest;
}

-- only places of removed rows are refused, if none is
pub none_removed : (aside : Aside) (removed : List Row) → ((b : ℕ) → has b aside.refused ≡ false) → AreRemoved aside removed
none_removed aside removed unrefused = record { each = λ b h. absurd (false≢true (sym (unrefused b) ∙ h)) }

-- the first call of an event may do either
pub may_drop : {X R : Type 0} {g : Ghosts X R} {core : Core} {seg : X} → CacheStands g core seg → ((b : ℕ) → has b (g.aside seg).refused ≡ false) → MayDrop g core seg
may_drop {g = g} {core} {seg} st unrefused = record { stand = st; refused = none_removed (g.aside seg) (cache_of core).removed unrefused }

pub may_insert : {X R : Type 0} {g : Ghosts X R} {core : Core} {seg : X} → CacheStands g core seg → ((b : ℕ) → has b (g.aside seg).refused ≡ false) → MayInsert g false core seg
may_insert {g = g} {core} {seg} st unrefused = record {
  stand = st;
  unrefused = λ was b. unrefused b;
  held = λ was. absurd (false≢true was);
  refused = none_removed (g.aside seg) (cache_of core).removed unrefused;
}

-- it still may after a call that only reads
pub insert_kept : {X R : Type 0} {g : Ghosts X R} {swept : Bool} {before after : X} (core : Core) → Kept g before after → MayInsert g swept core before → MayInsert g swept core after
insert_kept {g = g} {before = before} {after} core kept may = record {
  stand = cache_kept core kept may.stand;
  unrefused = λ was b. ap (λ (a : Aside). has b a.refused) kept.aside ∙ may.unrefused was b;
  held = λ was. subst (λ (a : Aside). AreHeld a (cache_of core).removed) (sym kept.aside) (may.held was);
  refused = subst (λ (a : Aside). AreRemoved a (cache_of core).removed) (sym kept.aside) may.refused;
}

-- rows that change, but not their places and numbers, are still there
mapped_open : (windows : List ℕ) (old new : Entries) (f : Row → Row) → ((row : Row) → (f row).place ≡ row.place) → ((row : Row) → (f row).number ≡ row.number)
    → new.rows ≡ map {A = Row} {B = Row} f old.rows → new.removed ≡ old.removed → KeepsOpen windows old new
mapped_open windows old new f place number rows removed = record {
  each = λ row there named. elim (Contains-append_cases old.rows old.removed row there) [
    | inl k ↦ (f row, subst (λ (l : List Row). Contains (l ++ new.removed) (f row)) (sym rows) (Contains-append_left (map {A = Row} {B = Row} f old.rows) new.removed (f row) (Contains-map f old.rows row k)), place row, number row)
    | inr k ↦ (row, subst (λ (l : List Row). Contains (new.rows ++ l) row) (sym removed) (Contains-append_right new.rows old.removed row k), refl, refl)
  ];
}

-- the same if one was used
pub touched_open : (windows : List ℕ) (old new : Entries) (at t : ℕ) → new ≡ touched_in at t old → KeepsOpen windows old new
touched_open windows old new at t is =
    mapped_open windows old new (touched_row at t) (λ row. place row (is_at at row)) (λ row. number row (is_at at row)) (ap (λ (x : Entries). x.rows) is) (ap (λ (x : Entries). x.removed) is)
  where
    place : (row : Row) (b : Bool) → (if b then touched t row else row).place ≡ row.place
    place row true = refl
    place row false = refl

    number : (row : Row) (b : Bool) → (if b then touched t row else row).number ≡ row.number
    number row true = refl
    number row false = refl

-- and where its integer was set
pub numbered_open : (windows : List ℕ) (old new : Entries) (at : ℕ) (n : ℤ) (t : ℕ) → new ≡ with_number at n t old → KeepsOpen windows old new
numbered_open windows old new at n t is =
    mapped_open windows old new (number_row at n t) (λ row. place row (is_at at row)) (λ row. number row (is_at at row)) (ap (λ (x : Entries). x.rows) is) (ap (λ (x : Entries). x.removed) is)
  where
    set : Row → Row
    set row = record row { graph = kinds.Int n ∷ []; mtime = t }

    place : (row : Row) (b : Bool) → (if b then set row else row).place ≡ row.place
    place row true = refl
    place row false = refl

    number : (row : Row) (b : Bool) → (if b then set row else row).number ≡ row.number
    number row true = refl
    number row false = refl

-- a call that probes nothing
pub quiet : {X R : Type 0} {g : Ghosts X R} {old new : Core} {before after : X} → KeptBeside g before after → KeepsOpen (g.aside after).windows (entries old.slots) (entries new.slots)
    → (entries new.slots).removed ≡ (entries old.slots).removed → CacheStands g new after → IsStep g old new before after
quiet {g = g} {old} {new} {before} {after} beside keeps removed st = record {
  goes = goes_nowhere (g.aside before) (g.aside after) beside.aside;
  keeps = keeps;
  refused = λ was. subst (λ (l : List Row). AreRemoved (g.aside after) l) (sym removed) (subst (λ (a : Aside). AreRemoved a (cache_of old).removed) (sym beside.aside) was);
  stand = st;
  rest = beside.rest;
}

-- and only reads before
pub beside_then : {X R : Type 0} {g : Ghosts X R} {before between after : X} → Kept g before between → KeptBeside g between after → KeptBeside g before after
beside_then kept beside = record { aside = beside.aside ∙ kept.aside; rest = beside.rest ∙ kept.rest }
