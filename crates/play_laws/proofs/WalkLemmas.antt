-- Walks: how often they give a key, and how many steps they have.
use Rattle.std.proofs.Common.{◌≡◌, ◌⊎◌, inl, inr, ℕ, suc, ◌+◌, ◌<◌, ◌≤◌, ◌==◌, Bool, true, false, not, if◌then◌else◌, List, [], ◌∷◌, length, Option, refl, ap, arith}
use Rattle.std.specs.List.{flat_map, list_all}
use Rattle.std.specs.Str.{bytes_eq}
use Rattle.std.proofs.lemmas.Bool.{and_parts, cases_lt, eqb-true, eqb-false, not-true}
use Rattle.seg_words.specs.Members.{count-append}
use Rattle.apcu_model.specs.declared.conf.Conf.{Conf}
use Rattle.apcu_model.specs.declared.searching.Pattern.{Pattern}
use Rattle.apcu_model.specs.declared.searching.Fields.{Fields}
use Rattle.apcu_model.specs.declared.searching.List.TheVariants.{Active}
use Rattle.apcu_model.specs.declared.items.Chunk.{Chunk}
use Rattle.apcu_model.specs.Chunks.{is_item, chunk_end, chunk_of}
use Rattle.apcu_model.specs.SlotOrder.{slot_of}
use Rattle.play_laws.specs.Walks.{WalkStep, AreSteps, walk_chunks, chunk_keys, walk_keys, times_given, is_under_way, is_whole_walk, has_item}
use Rattle.play_laws.proofs.KeyCounts.{is_of, one_of_key, some_of_key}
use Rattle.play_laws.proofs.WalkSteps.{ends, not_reached, reached}

-- the keys that a walk gives from a slot on
abbrev keys_from : Option Pattern → ℕ → Fields → ℕ → List WalkStep → List (List ℕ)
keys_from wanted size fields from steps = flat_map chunk_keys (walk_chunks wanted size fields from steps)

-- what its first step ends at
abbrev next_of : Option Pattern → ℕ → ℕ → WalkStep → ℕ
next_of wanted size from step = chunk_end wanted step.t step.cache from size

-- the keys of a step, and then those of the others
joined : (wanted : Option Pattern) (size : ℕ) (fields : Fields) (from : ℕ) (step : WalkStep) (steps : List WalkStep) (key : List ℕ)
    → times_given key (keys_from wanted size fields from (step ∷ steps))
    ≡ times_given key (chunk_keys (chunk_of wanted from size Active fields step.t step.cache)) + times_given key (keys_from wanted size fields (next_of wanted size from step) steps)
joined wanted size fields from step steps key =
    count-append (λ k. bytes_eq k key) (chunk_keys (chunk_of wanted from size Active fields step.t step.cache)) (keys_from wanted size fields (next_of wanted size from step) steps)

-- where a step ends, on a cache of this shape
record EndsIn (slots from size end : ℕ) : Type 0 where
  within : end ≤ slots
  low : from ≤ slots → from ≤ end
  further : 1 ≤ size → from < slots → from < end

ends_in : (wanted : Option Pattern) (size from : ℕ) (conf : Conf) (step : WalkStep) → step.cache.conf ≡ conf → EndsIn conf.slots from size (next_of wanted size from step)
ends_in wanted size from conf step shape =
    let e = ends wanted step.t step.cache from size in
    let slots : step.cache.conf.slots ≡ conf.slots = ap (λ (f : Conf). f.slots) shape in
    record { within = omega (arith, e.within, slots); low = λ l. e.low (omega (arith, l, slots)); further = λ s l. e.further s (omega (arith, l, slots)) }

-- ---- no key twice

-- a key whose slot is behind the walk is given no more
behind : (wanted : Option Pattern) (size : ℕ) (fields : Fields) (conf : Conf) (from : ℕ) (steps : List WalkStep) (key : List ℕ) → AreSteps conf steps → from ≤ conf.slots
    → slot_of conf key < from → times_given key (keys_from wanted size fields from steps) ≡ 0
behind wanted size fields conf from [] key are inside past = refl
behind wanted size fields conf from (step ∷ steps) key are inside past =
    let e = ends_in wanted size from conf step are.0 in
    let own : slot_of step.cache.conf key ≡ slot_of conf key = ap (λ f. slot_of f key) are.0 in
    let slots : step.cache.conf.slots ≡ conf.slots = ap (λ (f : Conf). f.slots) are.0 in
    let here = not_reached wanted fields step.t step.cache from size key (slot_of conf key) own (omega (arith, inside, slots)) (inl past) in
    let later = behind wanted size fields conf (next_of wanted size from step) steps key are.2 e.within (omega (arith, past, e.low inside)) in
    omega (arith, joined wanted size fields from step steps key, here, later)

once_from : (wanted : Option Pattern) (size : ℕ) (fields : Fields) (conf : Conf) (from : ℕ) (steps : List WalkStep) (key : List ℕ) → AreSteps conf steps → from ≤ conf.slots
    → from ≤ slot_of conf key → times_given key (keys_from wanted size fields from steps) ≤ 1
once_from wanted size fields conf from [] key are inside ahead = omega arith
once_from wanted size fields conf from (step ∷ steps) key are inside ahead =
    let e = ends_in wanted size from conf step are.0 in
    let own : slot_of step.cache.conf key ≡ slot_of conf key = ap (λ f. slot_of f key) are.0 in
    let slots : step.cache.conf.slots ≡ conf.slots = ap (λ (f : Conf). f.slots) are.0 in
    let both = joined wanted size fields from step steps key in
    elim (cases_lt (slot_of conf key) (next_of wanted size from step)) [
      | inl inner ↦
          let here = reached wanted fields step.t step.cache from size key (slot_of conf key) own ahead inner in
          let one = one_of_key key (is_item wanted step.t) step.cache.rows are.1 in
          let later = behind wanted size fields conf (next_of wanted size from step) steps key are.2 e.within inner in
          omega (arith, both, here, one, later)
      | inr outer ↦
          let here = not_reached wanted fields step.t step.cache from size key (slot_of conf key) own (omega (arith, inside, slots)) (inr outer) in
          let later = once_from wanted size fields conf (next_of wanted size from step) steps key are.2 e.within outer in
          omega (arith, both, here, later)
    ]

pub once : (wanted : Option Pattern) (size : ℕ) (fields : Fields) (conf : Conf) (steps : List WalkStep) (key : List ℕ) → AreSteps conf steps
    → times_given key (walk_keys wanted size fields steps) ≤ 1
once wanted size fields conf steps key are = once_from wanted size fields conf 0 steps key are (omega arith) (omega arith)

-- ---- each key that stays

-- a walk that is whole ends here, or goes on before the end
whole_cases : (slots next : ℕ) (chunks : List Chunk) → (if next == slots then length chunks == 0 else is_whole_walk slots chunks) ≡ true
    → ((next ≡ slots) × (length chunks ≡ 0)) ⊎ ((next ≡ slots → ⊥) × (is_whole_walk slots chunks ≡ true))
whole_cases slots next chunks whole = go (next == slots) refl whole
  where
    go : (b : Bool) → (next == slots) ≡ b → (if b then length chunks == 0 else is_whole_walk slots chunks) ≡ true
        → ((next ≡ slots) × (length chunks ≡ 0)) ⊎ ((next ≡ slots → ⊥) × (is_whole_walk slots chunks ≡ true))
    go true is w = inl (eqb-true next slots is, eqb-true (length chunks) 0 w)
    go false is w = inr (eqb-false next slots is, w)

all_from : (wanted : Option Pattern) (size : ℕ) (fields : Fields) (conf : Conf) (from : ℕ) (steps : List WalkStep) (key : List ℕ) → AreSteps conf steps → from ≤ conf.slots
    → from ≤ slot_of conf key → slot_of conf key < conf.slots → is_whole_walk conf.slots (walk_chunks wanted size fields from steps) ≡ true → list_all (has_item wanted key) steps ≡ true
    → times_given key (keys_from wanted size fields from steps) ≡ 1
all_from wanted size fields conf from [] key are inside ahead slot whole there = absurd cc
all_from wanted size fields conf from (step ∷ steps) key are inside ahead slot whole there =
    let e = ends_in wanted size from conf step are.0 in
    let own : slot_of step.cache.conf key ≡ slot_of conf key = ap (λ f. slot_of f key) are.0 in
    let slots : step.cache.conf.slots ≡ conf.slots = ap (λ (f : Conf). f.slots) are.0 in
    let both = joined wanted size fields from step steps key in
    let present = and_parts (has_item wanted key step) (list_all (has_item wanted key) steps) there in
    elim (cases_lt (slot_of conf key) (next_of wanted size from step)) [
      | inl inner ↦
          let here = reached wanted fields step.t step.cache from size key (slot_of conf key) own ahead inner in
          let one = one_of_key key (is_item wanted step.t) step.cache.rows are.1 in
          let some = some_of_key (is_of wanted step.t key) step.cache.rows present.0 in
          let later = behind wanted size fields conf (next_of wanted size from step) steps key are.2 e.within inner in
          omega (arith, both, here, one, some, later)
      | inr outer ↦
          let here = not_reached wanted fields step.t step.cache from size key (slot_of conf key) own (omega (arith, inside, slots)) (inr outer) in
          elim (whole_cases conf.slots (next_of wanted size from step) (walk_chunks wanted size fields (next_of wanted size from step) steps) whole) [
            | inl ended ↦ absurd (omega (arith, ended.0, outer, slot))
            | inr on ↦
                let later = all_from wanted size fields conf (next_of wanted size from step) steps key are.2 e.within outer slot on.1 present.1 in
                omega (arith, both, here, later)
          ]
    ]

pub all : (wanted : Option Pattern) (size : ℕ) (fields : Fields) (conf : Conf) (steps : List WalkStep) (key : List ℕ) → 1 ≤ conf.slots → AreSteps conf steps
    → is_whole_walk conf.slots (walk_chunks wanted size fields 0 steps) ≡ true → list_all (has_item wanted key) steps ≡ true
    → times_given key (walk_keys wanted size fields steps) ≡ 1
all wanted size fields conf steps key some are whole there =
    all_from wanted size fields conf 0 steps key are (omega arith) (omega arith) (omega (arith, some)) whole there

-- ---- how many steps

fewer_from : (wanted : Option Pattern) (size : ℕ) (fields : Fields) (conf : Conf) (from : ℕ) (steps : List WalkStep) → 1 ≤ size → from < conf.slots → AreSteps conf steps
    → is_under_way conf.slots (walk_chunks wanted size fields from steps) ≡ true → from + length steps < conf.slots
fewer_from wanted size fields conf from [] some inside are on = omega arith
fewer_from wanted size fields conf from (step ∷ steps) some inside are on =
    let next = next_of wanted size from step in
    let e = ends_in wanted size from conf step are.0 in
    let parts = and_parts (not (next == conf.slots)) (is_under_way conf.slots (walk_chunks wanted size fields next steps)) on in
    let other = eqb-false next conf.slots (not-true (next == conf.slots) parts.0) in
    let later = fewer_from wanted size fields conf next steps some (omega (arith, e.within, other)) are.2 parts.1 in
    omega (arith, e.further some inside, later)

pub fewer : (wanted : Option Pattern) (size : ℕ) (fields : Fields) (conf : Conf) (steps : List WalkStep) → 1 ≤ size → 1 ≤ conf.slots → AreSteps conf steps
    → is_under_way conf.slots (walk_chunks wanted size fields 0 steps) ≡ true → length steps < conf.slots
fewer wanted size fields conf steps some slots are on = omega (arith, fewer_from wanted size fields conf 0 steps some (omega (arith, slots)) are on)

length-chunks : (wanted : Option Pattern) (size : ℕ) (fields : Fields) (from : ℕ) (steps : List WalkStep) → length (walk_chunks wanted size fields from steps) ≡ length steps
length-chunks wanted size fields from [] = refl
length-chunks wanted size fields from (step ∷ steps) = ap suc (length-chunks wanted size fields (next_of wanted size from step) steps)

most_from : (wanted : Option Pattern) (size : ℕ) (fields : Fields) (conf : Conf) (from : ℕ) (steps : List WalkStep) → 1 ≤ size → from < conf.slots → AreSteps conf steps
    → is_whole_walk conf.slots (walk_chunks wanted size fields from steps) ≡ true → from + length steps ≤ conf.slots
most_from wanted size fields conf from [] some inside are whole = absurd cc
most_from wanted size fields conf from (step ∷ steps) some inside are whole =
    let next = next_of wanted size from step in
    let e = ends_in wanted size from conf step are.0 in
    let l = e.further some inside in
    elim (whole_cases conf.slots next (walk_chunks wanted size fields next steps) whole) [
      | inl ended ↦ omega (arith, l, ended.0, ended.1, length-chunks wanted size fields next steps)
      | inr on ↦
          let other = on.0 in
          let later = most_from wanted size fields conf next steps some (omega (arith, e.within, other)) are.2 on.1 in
          omega (arith, l, later)
    ]

pub most : (wanted : Option Pattern) (size : ℕ) (fields : Fields) (conf : Conf) (steps : List WalkStep) → 1 ≤ size → 1 ≤ conf.slots → AreSteps conf steps
    → is_whole_walk conf.slots (walk_chunks wanted size fields 0 steps) ≡ true → length steps ≤ conf.slots
most wanted size fields conf steps some slots are whole = omega (arith, most_from wanted size fields conf 0 steps some (omega (arith, slots)) are whole)
