use Rattle.std.proofs.Common.{◌≡◌, ℕ, true, false, List, [], Option, Some, None, sym, ap, ◌∙◌, arith, rules}
use Rattle.std.proofs.lemmas.Grind.{common_steps}
use Rattle.php_graph.specs.declared.kind.Kind.{Kind}
use Rattle.apcu_model.specs.Cache.{Cache, gap_of}
use Rattle.apcu_model.specs.Change.{placed, put_in}
use Rattle.apcu_model.specs.Sequential.{is_stored}
use Rattle.plain_cache.proofs.state.State.insert_reserved.Goals as goal

-- ---- a place was found

told_stored : (key : List ℕ) (graph : List Kind) (ttl t n : ℕ) (now room : Cache) (place : ℕ) → now ≡ room → Some place ≡ gap_of now n
    → true ≡ is_stored (put_in [] key graph ttl t n room (gap_of room n)).answer
told_stored key graph ttl t n now room place same found =
    ap (λ (gap : Option ℕ). is_stored (put_in [] key graph ttl t n room gap).answer) (found ∙ ap (λ (c : Cache). gap_of c n) same)

stored_there : (key : List ℕ) (graph : List Kind) (ttl t n : ℕ) (now room new : Cache) (place : ℕ) → now ≡ room → Some place ≡ gap_of now n → new ≡ placed [] key graph ttl t n now place
    → new ≡ (put_in [] key graph ttl t n room (gap_of room n)).cache
stored_there key graph ttl t n now room new place same found put =
    put
    ∙ (ap (λ (c : Cache). placed [] key graph ttl t n c place) same
    ∙ ap (λ (gap : Option ℕ). (put_in [] key graph ttl t n room gap).cache) (found ∙ ap (λ (c : Cache). gap_of c n) same))

-- ---- none was found

told_unstored : (key : List ℕ) (graph : List Kind) (ttl t n : ℕ) (now room : Cache) → now ≡ room → None ≡ gap_of now n → false ≡ is_stored (put_in [] key graph ttl t n room (gap_of room n)).answer
told_unstored key graph ttl t n now room same none =
    ap (λ (gap : Option ℕ). is_stored (put_in [] key graph ttl t n room gap).answer) (none ∙ ap (λ (c : Cache). gap_of c n) same)

stays : (key : List ℕ) (graph : List Kind) (ttl t n : ℕ) (now room : Cache) → now ≡ room → None ≡ gap_of now n → now ≡ (put_in [] key graph ttl t n room (gap_of room n)).cache
stays key graph ttl t n now room same none =
    same ∙ ap (λ (gap : Option ℕ). (put_in [] key graph ttl t n room gap).cache) (none ∙ ap (λ (c : Cache). gap_of c n) same)

pub returns-in-Some-clause-reply : goal.returns-in-Some-clause-reply
returns-in-Some-clause-reply c = told_stored c.args.draft.key c.args.draft.graph c.args.draft.ttl c.args.t c.args.draft.size _ _ _ c.make_room.ensures.cache (sym c.in-Some.is ∙ c.make_room.ensures.place)

pub returns-in-Some-clause-after : goal.returns-in-Some-clause-after
returns-in-Some-clause-after c = stored_there c.args.draft.key c.args.draft.graph c.args.draft.ttl c.args.t c.args.draft.size _ _ _ _ c.make_room.ensures.cache (sym c.in-Some.is ∙ c.make_room.ensures.place) c.put.ensures.cache

pub returns-in-Some-clause-valid : goal.returns-in-Some-clause-valid
returns-in-Some-clause-valid c = c.put.ensures.valid

pub returns-in-Some-clause-more : goal.returns-in-Some-clause-more
returns-in-Some-clause-more c = grind (arith, common_steps)

pub returns-in-Some-clause-capacity : goal.returns-in-Some-clause-capacity
returns-in-Some-clause-capacity c = grind (arith, common_steps)

pub returns-in-Some-clause-extents : goal.returns-in-Some-clause-extents
returns-in-Some-clause-extents c = grind (arith, common_steps)

pub returns-in-None-clause-reply : goal.returns-in-None-clause-reply
returns-in-None-clause-reply c = told_unstored c.args.draft.key c.args.draft.graph c.args.draft.ttl c.args.t c.args.draft.size _ _ c.make_room.ensures.cache (sym c.in-None.is ∙ c.make_room.ensures.place)

pub returns-in-None-clause-after : goal.returns-in-None-clause-after
returns-in-None-clause-after c = stays c.args.draft.key c.args.draft.graph c.args.draft.ttl c.args.t c.args.draft.size _ _ c.make_room.ensures.cache (sym c.in-None.is ∙ c.make_room.ensures.place)

pub returns-in-None-clause-valid : goal.returns-in-None-clause-valid
returns-in-None-clause-valid c = c.make_room.ensures.valid

pub returns-in-None-clause-more : goal.returns-in-None-clause-more
returns-in-None-clause-more c = grind (arith, common_steps)

pub returns-in-None-clause-capacity : goal.returns-in-None-clause-capacity
returns-in-None-clause-capacity c = grind (arith, common_steps)

pub returns-in-None-clause-extents : goal.returns-in-None-clause-extents
returns-in-None-clause-extents c = grind (arith, common_steps)

pub make_room-requires-clause-valid : goal.make_room-requires-clause-valid
make_room-requires-clause-valid c = search (rules, c.requires.valid)
