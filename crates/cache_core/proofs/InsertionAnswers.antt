-- What comes of an insertion is what storing does.
use Rattle.std.proofs.Common.{◌≡◌, ℕ, Bool, List, ap, sym}
use Rattle.seg_words.specs.declared.segment.WordsIn.{Ghosts}
use Rattle.seg_words.specs.Windows.{Aside, held_blocks}
use Rattle.php_graph.specs.declared.kind.Kind.{Kind}
use Rattle.apcu_model.specs.declared.request.Request.TheVariants.{Store}
use Rattle.apcu_model.specs.declared.request.Reply.TheVariants.{Flag}
use Rattle.apcu_model.specs.declared.request.StoreAnswer.{StoreAnswer}
use Rattle.apcu_model.specs.Cache.{Cache}
use Rattle.apcu_model.specs.Change.{Insertion, inserted}
use Rattle.apcu_model.specs.Sequential.{is_stored}
use Rattle.cache_core.specs.declared.cache.Core.{Core}
use Rattle.cache_core.specs.CoreCache.{cache_of}
use Rattle.cache_core.specs.Events.{IsBy, IsStep, Does}

-- it came to this answer and this cache
abbrev pub IsInserted : Aside → List ℕ → List Kind → ℕ → Bool → ℕ → Cache → StoreAnswer → Cache → Type 0
IsInserted aside key graph ttl exclusive t c answer after = IsBy aside (λ held. inserted held key graph ttl exclusive t c) (record { answer = answer; cache = after })

module _ (key : List ℕ) (graph : List Kind) (ttl : ℕ) (exclusive : Bool) (t : ℕ) where
  pub answers : (aside : Aside) (c : Cache) (answer : StoreAnswer) (after : Cache) → IsInserted aside key graph ttl exclusive t c answer after
      → IsBy aside (λ held. (inserted held key graph ttl exclusive t c).answer) answer
  answers aside c answer after is = λ later on. ap (λ (i : Insertion). i.answer) (is later on)

  pub inserted_is : (aside : Aside) (c : Cache) (answer : StoreAnswer) (after : Cache) → IsBy aside (λ held. (inserted held key graph ttl exclusive t c).answer) answer
      → IsBy aside (λ held. (inserted held key graph ttl exclusive t c).cache) after → IsInserted aside key graph ttl exclusive t c answer after
  inserted_is aside c answer after is left = λ later on. λ i. record { answer = is later on i; cache = left later on i }

  pub does_store : {X R : Type 0} {g : Ghosts X R} {old new : Core} {before after : X} {answer : StoreAnswer} → IsInserted (g.aside after) key graph ttl exclusive t (cache_of old) answer (cache_of new)
      → IsStep g old new before after → Does g old new before after t (Store key graph ttl exclusive) (Flag (is_stored answer))
  does_store is step = record {
    reply = λ later on. ap (λ (i : Insertion). Flag (is_stored i.answer)) (is later on);
    cache = λ later on. ap (λ (i : Insertion). i.cache) (is later on);
    step = step;
  }

  -- nothing was inserted
  pub refused : (aside : Aside) (c : Cache) (answer : StoreAnswer) → ((held : List ℕ) (ttl : ℕ) → inserted held key graph ttl exclusive t c ≡ record { answer = answer; cache = c })
      → IsInserted aside key graph ttl exclusive t c answer c
  refused aside c answer is = λ later on. sym (is (held_blocks later) ttl)
