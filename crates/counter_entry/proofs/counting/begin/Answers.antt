use Rattle.std.proofs.Common.{◌≡◌, ℕ, List, Option, sym, ap, subst, ◌∙◌, w64, to_z, of_z}
use Rattle.std.specs.Prelude.{ℤ, false}
use Rattle.std.proofs.lemmas.Int.{to_z-of_z}
use Rattle.seg_words.specs.Windows.{Aside, held_blocks}
use Rattle.php_graph.specs.declared.kind.Kind.{Kind}
use Rattle.apcu_model.specs.declared.request.StoreAnswer.{StoreAnswer}
use Rattle.apcu_model.specs.Cache.{Cache}
use Rattle.apcu_model.specs.Change.{Insertion, inserted}
use Rattle.apcu_model.specs.Counters.{Count, begun}
use Rattle.cache_core.specs.CoreCache.{cache_of}
use Rattle.cache_core.specs.Events.{IsBy}
use Rattle.cache_core.proofs.InsertionAnswers.{IsInserted, inserted_is}
use Rattle.counter_entry.specs.Numbers.{begun_answer, new_counter, number_answered}
use Rattle.counter_entry.proofs.IntegerLookUps.{number_begun}
use Rattle.counter_entry.proofs.counting.begin.Goals as goal

-- what came of storing, of a value that is known
stored : (aside : Aside) (key : List ℕ) (ttl t : ℕ) (c : Cache) (answer : StoreAnswer) (after : Cache) {v w : List Kind} → v ≡ w → IsBy aside (λ held. (inserted held key v ttl false t c).answer) answer
    → IsBy aside (λ held. (inserted held key v ttl false t c).cache) after → IsInserted aside key w ttl false t c answer after
stored aside key ttl t c answer after {v} e is left = subst (λ (x : List Kind). IsInserted aside key x ttl false t c answer after) e (inserted_is key v ttl false t aside c answer after is left)

pub returns : goal.returns
returns g c =
    let old = cache_of c.args.core.now in
    let key = c.args.key.now in
    let n = to_z w64 (of_z w64 c.args.step) in
    let same = to_z-of_z w64 c.args.step c.ranges.step in
    let is = stored (g.S.WordsIn.aside c.store_in.new.seg) key c.args.ttl c.args.t old c.store_in.result (cache_of c.store_in.new.self) c.integer-value.ensures c.store_in.ensures.answer c.store_in.ensures.does.cache in
    record {
      answer = λ later on. c.answer.ensures ∙ (ap (λ (i : Insertion). begun_answer n i.answer) (is later on) ∙ ap (λ (z : ℤ). begun_answer z (new_counter (held_blocks later) key z c.args.ttl c.args.t old).answer) same);
      counted = λ later on.
          ap (λ (o : Option ℤ). let x : Count = record { number = o; cache = cache_of c.store_in.new.self } in x) (sym (number_begun n c.store_in.result ∙ ap number_answered (sym c.answer.ensures)))
          ∙ (ap (begun n) (is later on) ∙ ap (λ (z : ℤ). begun z (new_counter (held_blocks later) key z c.args.ttl c.args.t old)) same);
      step = c.store_in.ensures.does.step;
    }
