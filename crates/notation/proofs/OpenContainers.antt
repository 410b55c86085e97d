-- The steps of a reader that goes on inside open containers.
use Rattle.std.proofs.Common.{◌≡◌, ℕ, zero, suc, ◌-◌, ◌<◌, Bool, true, false, cond, List, [], ◌∷◌, length, drop, Option, Some, None, Result, Ok, Err, refl, sym, ap, subst, ◌∙◌, arith, length-drop, ◌++◌}
use Rattle.std.specs.Prelude.{reverse, unwrap_or}
use Rattle.std.specs.Option.{option_to_list}
use Rattle.std.proofs.lemmas.List.{reverse-append}
use Rattle.std.specs.Prelude.{IsSome}
use Rattle.php_graph.specs.declared.item.Wants.{Wants}
use Rattle.php_graph.specs.declared.item.Wants.TheVariants as wants
use Rattle.php_graph.specs.declared.kind.Kind.{Kind}
use Rattle.php_graph.specs.declared.key.Key.{Key}
use Rattle.php_graph.specs.Graph.{levels, is_array_at}
use Rattle.php_graph.specs.Building.{Draft, nothing_drafted, wants_of, wants_by}
use Rattle.notation.specs.declared.fault.Fault.{Fault}
use Rattle.notation.specs.declared.fault.Stop.{Stop}
use Rattle.notation.specs.declared.fault.Stop.TheVariants as stops
use Rattle.notation.specs.Marks.{◌>>=◌, Fails}
use Rattle.notation.specs.Reading.{begun_at, key_at, closed_at, members_at, value_at}
use Rattle.notation.specs.Steps.{opened_count, IsValueStep, wants_key}
use Rattle.notation.specs.Outer.{outer_at, due_at, HasCome, outer_stack}

assoc : {A B C : Type 0} (r : Result A Fault) (f : A → Result B Fault) (g : B → Result C Fault) → ((r >>= f) >>= g) ≡ (r >>= λ x. f x >>= g)
assoc (Ok x) f g = refl
assoc (Err e) f g = refl

-- ---- what is due

-- the wants of a draft without a key, where a value was begun
no_value_inside : (b : Bool) (outer : List ℕ) (n : ℕ) (d : Draft) (bytes : List ℕ) → due_at (cond b wants.ArrayKey wants.Name) outer n d bytes ≡ outer_at outer n d bytes
no_value_inside true outer n d bytes = refl
no_value_inside false outer n d bytes = refl

due_by : (places : List Kind) (containers : List ℕ) (key : Option Key) → 0 < length places → key ≡ None → (outer : List ℕ) (n : ℕ) (d : Draft) (bytes : List ℕ) → due_at (wants_by places containers key) outer n d bytes ≡ outer_at outer n d bytes
due_by [] [] key some none outer n d bytes = absurd (omega arith)
due_by (kind ∷ places) [] key some none outer n d bytes = refl
due_by places (p ∷ containers) None some none outer n d bytes = no_value_inside (is_array_at places p) outer n d bytes
due_by places (p ∷ containers) (Some key) some none outer n d bytes = absurd cc

due_none : (d : Draft) → 0 < length d.places → d.key ≡ None → (outer : List ℕ) (n : ℕ) (bytes : List ℕ) → due_at (wants_of d) outer n d bytes ≡ outer_at outer n d bytes
due_none d some none outer n bytes = due_by d.places d.containers d.key some none outer n d bytes

value_by : (places : List Kind) (containers : List ℕ) (key : Option Key) → 0 < length containers → IsSome key → wants_by places containers key ≡ wants.Value
value_by places [] key some waits = absurd (omega arith)
value_by places (p ∷ containers) (Some key) some waits = refl
value_by places (p ∷ containers) None some waits = absurd cc

inside_by : (places : List Kind) (containers : List ℕ) (key : Option Key) → wants_key (wants_by places containers key) ≡ true → 0 < length containers
inside_by [] [] key e = absurd cc
inside_by (kind ∷ places) [] key e = absurd cc
inside_by places (p ∷ containers) key e = omega arith

done_inside : (b : Bool) → cond b wants.ArrayKey wants.Name ≡ wants.Done → ⊥
done_inside true e = cc
done_inside false e = cc

done_by : (places : List Kind) (containers : List ℕ) (key : Option Key) → wants_by places containers key ≡ wants.Done → length containers ≡ 0
done_by places [] key e = refl
done_by places (p ∷ containers) None e = absurd (done_inside (is_array_at places p) e)
done_by places (p ∷ containers) (Some key) e = absurd cc

value_top : (places : List Kind) (containers : List ℕ) (key : Option Key) → 0 < length places → wants_by places containers key ≡ wants.Value → 0 < length containers
value_top [] [] key some e = absurd (omega arith)
value_top (kind ∷ places) [] key some e = absurd cc
value_top places (p ∷ containers) key some e = omega arith

-- ---- a value is begun

abbrev after_value : List ℕ → ℕ → Draft × List ℕ → Result (Draft × List ℕ) Fault
after_value outer n p = outer_at outer n p.0 p.1

value_none : (level : ℕ) (d e : Draft) (bytes rest : List ℕ) → begun_at d bytes ≡ Ok (e, None, rest) → value_at level d bytes ≡ Ok (e, rest)
unfolding value_at
value_none zero d e bytes rest h = rw h refl
value_none (suc level) d e bytes rest h = rw h refl

value_some : (level : ℕ) (d e : Draft) (bytes rest : List ℕ) (count : ℕ) → begun_at d bytes ≡ Ok (e, Some count, rest) → value_at (suc level) d bytes ≡ (members_at (value_at level) count e rest >>= λ m. closed_at m.0 m.1)
unfolding value_at
value_some level d e bytes rest count h = rw h refl

value_fails : (level : ℕ) (d : Draft) (bytes : List ℕ) (fault : Fault) → begun_at d bytes ≡ Err fault → value_at level d bytes ≡ Err fault
unfolding value_at
value_fails zero d bytes fault h = rw h refl
value_fails (suc level) d bytes fault h = rw h refl

-- where a value was begun, the stack after it
pub began : (outer : List ℕ) (n : ℕ) (d e : Draft) (bytes rest : List ℕ) (count : Option ℕ) (m : ℕ) (stack : List ℕ) (total : Result (Draft × List ℕ) Fault)
    → length outer ≡ length d.containers → length d.containers < levels → begun_at d bytes ≡ Ok (e, count, rest) → IsValueStep d e (opened_count count)
    → outer_stack count n outer m stack → (value_at (levels - length outer) d bytes >>= after_value outer n) ≡ total → HasCome stack m e rest total
began outer n d e bytes rest None m stack total same room begun step put so_far =
    let one : (value_at (levels - length outer) d bytes >>= after_value outer n) ≡ outer_at outer n e rest = ap (λ (r : Result (Draft × List ℕ) Fault). r >>= after_value outer n) (value_none (levels - length outer) d e bytes rest begun) in
    let here : outer_at stack m e rest ≡ outer_at outer n e rest = rw (put.0, put.1) refl in
    record {
      open_are = ap length put.1 ∙ omega (arith, step.containers_are, same);
      few = omega (arith, ap length put.1);
      some = step.some;
      rest = due_none e step.some step.no_key stack m rest ∙ here ∙ sym one ∙ so_far;
    }
began outer n d e bytes rest (Some count) m stack total same room begun step put so_far =
    let level : levels - length outer ≡ suc (levels - suc (length outer)) = omega arith in
    let one : (value_at (levels - length outer) d bytes >>= after_value outer n) ≡ outer_at (n ∷ outer) count e rest = rw level (ap (λ (r : Result (Draft × List ℕ) Fault). r >>= after_value outer n) (value_some (levels - suc (length outer)) d e bytes rest count begun)) in
    let here : outer_at stack m e rest ≡ outer_at (n ∷ outer) count e rest = rw (put.0, put.1) refl in
    record {
      open_are = ap length put.1 ∙ omega (arith, step.containers_are, same);
      few = omega (arith, ap length put.1);
      some = step.some;
      rest = due_none e step.some step.no_key stack m rest ∙ here ∙ sym one ∙ so_far;
    }

pub begun_fails : (outer : List ℕ) (n : ℕ) (d : Draft) (bytes : List ℕ) (stop : Stop) (total : Result (Draft × List ℕ) Fault)
    → Fails stop (begun_at d bytes) → (value_at (levels - length outer) d bytes >>= after_value outer n) ≡ total → Fails stop total
begun_fails outer n d bytes stops.Memory total h so_far = tt
begun_fails outer n d bytes (stops.Fault fault) total h so_far =
    sym so_far ∙ ap (λ (r : Result (Draft × List ℕ) Fault). r >>= after_value outer n) (value_fails (levels - length outer) d bytes fault h)

-- what is due is a value
pub due_value : (outer : List ℕ) (n : ℕ) (d : Draft) (bytes : List ℕ) (total : Result (Draft × List ℕ) Fault) → wants_of d ≡ wants.Value → HasCome outer n d bytes total → (value_at (levels - length outer) d bytes >>= after_value outer n) ≡ total
due_value outer n d bytes total w h = sym (ap (λ (v : Wants). due_at v outer n d bytes) w) ∙ h.rest

key_due : (w : Wants) → wants_key w ≡ true → (outer : List ℕ) (n : ℕ) (d : Draft) (bytes : List ℕ) → due_at w outer n d bytes ≡ outer_at outer n d bytes
key_due wants.Value e outer n d bytes = absurd cc
key_due wants.ArrayKey e outer n d bytes = refl
key_due wants.Name e outer n d bytes = refl
key_due wants.Done e outer n d bytes = absurd cc

-- ---- a container ends

abbrev inner_at : List ℕ → ℕ → Draft → List ℕ → Result (Draft × List ℕ) Fault
inner_at outer n d bytes = members_at (value_at (levels - suc (length outer))) n d bytes >>= λ p. closed_at p.0 p.1

pub ended : (m : ℕ) (outer : List ℕ) (d e : Draft) (bytes rest : List ℕ) (total : Result (Draft × List ℕ) Fault)
    → wants_key (wants_of d) ≡ true → HasCome (m ∷ outer) 0 d bytes total → closed_at d bytes ≡ Ok (e, rest)
    → e.containers ≡ drop 1 d.containers → e.places ≡ d.places → e.key ≡ None → HasCome outer m e rest total
ended m outer d e bytes rest total w h closed containers places no_key =
    let some : 0 < length e.places = omega (arith, h.some, ap length places) in
    let one : outer_at (m ∷ outer) 0 d bytes ≡ outer_at outer m e rest = ap (λ (r : Result (Draft × List ℕ) Fault). r >>= after_value outer m) closed in
    record {
      open_are = omega (arith, h.open_are, ap length containers, length-drop 1 d.containers);
      few = omega (arith, h.few);
      some = some;
      rest = due_none e some no_key outer m rest ∙ sym one ∙ sym (key_due (wants_of d) w (m ∷ outer) 0 d bytes) ∙ h.rest;
    }

pub ended_fails : (m : ℕ) (outer : List ℕ) (d : Draft) (bytes : List ℕ) (stop : Stop) (total : Result (Draft × List ℕ) Fault)
    → wants_key (wants_of d) ≡ true → HasCome (m ∷ outer) 0 d bytes total → Fails stop (closed_at d bytes) → Fails stop total
ended_fails m outer d bytes stops.Memory total w h f = tt
ended_fails m outer d bytes (stops.Fault fault) total w h f =
    sym h.rest ∙ key_due (wants_of d) w (m ∷ outer) 0 d bytes ∙ ap (λ (r : Result (Draft × List ℕ) Fault). r >>= after_value outer m) f

-- ---- a key

pub keyed : (m : ℕ) (outer : List ℕ) (n : ℕ) (d e : Draft) (bytes rest : List ℕ) (total : Result (Draft × List ℕ) Fault)
    → wants_key (wants_of d) ≡ true → HasCome (m ∷ outer) (suc n) d bytes total → key_at d bytes ≡ Ok (e, rest)
    → e.containers ≡ d.containers → e.places ≡ d.places → IsSome e.key → HasCome (m ∷ outer) n e rest total
keyed m outer n d e bytes rest total w h key containers places waits =
    let inside : 0 < length d.containers = inside_by d.places d.containers d.key w in
    let want : wants_of e ≡ wants.Value = value_by e.places e.containers e.key (omega (arith, inside, ap length containers)) waits in
    let value = value_at (levels - suc (length outer)) in
    let step : outer_at (m ∷ outer) (suc n) d bytes ≡ (((value e rest >>= λ v. members_at value n v.0 v.1) >>= λ p. closed_at p.0 p.1) >>= after_value outer m)
    = ap (λ (r : Result (Draft × List ℕ) Fault). ((r >>= λ k. (value k.0 k.1 >>= λ v. members_at value n v.0 v.1)) >>= λ p. closed_at p.0 p.1) >>= after_value outer m) key in
    let flat : (((value e rest >>= λ v. members_at value n v.0 v.1) >>= λ p. closed_at p.0 p.1) >>= after_value outer m) ≡ (value e rest >>= after_value (m ∷ outer) n)
    = ap (λ (r : Result (Draft × List ℕ) Fault). r >>= after_value outer m) (assoc (value e rest) (λ v. members_at value n v.0 v.1) (λ p. closed_at p.0 p.1))
    ∙ assoc (value e rest) (λ v. members_at value n v.0 v.1 >>= λ p. closed_at p.0 p.1) (after_value outer m) in
    record {
      open_are = h.open_are ∙ ap length (sym containers);
      few = h.few;
      some = omega (arith, h.some, ap length places);
      rest = ap (λ (v : Wants). due_at v (m ∷ outer) n e rest) want ∙ sym flat ∙ sym step ∙ sym (key_due (wants_of d) w (m ∷ outer) (suc n) d bytes) ∙ h.rest;
    }

pub keyed_fails : (m : ℕ) (outer : List ℕ) (n : ℕ) (d : Draft) (bytes : List ℕ) (stop : Stop) (total : Result (Draft × List ℕ) Fault)
    → wants_key (wants_of d) ≡ true → HasCome (m ∷ outer) (suc n) d bytes total → Fails stop (key_at d bytes) → Fails stop total
keyed_fails m outer n d bytes stops.Memory total w h f = tt
keyed_fails m outer n d bytes (stops.Fault fault) total w h f =
    let value = value_at (levels - suc (length outer)) in
    sym h.rest ∙ key_due (wants_of d) w (m ∷ outer) (suc n) d bytes ∙ ap (λ (r : Result (Draft × List ℕ) Fault). ((r >>= λ k. (value k.0 k.1 >>= λ v. members_at value n v.0 v.1)) >>= λ p. closed_at p.0 p.1) >>= after_value outer m) f

-- ---- all is read

pub finished : (outer : List ℕ) (n : ℕ) (d : Draft) (bytes : List ℕ) (total : Result (Draft × List ℕ) Fault) → wants_of d ≡ wants.Done → HasCome outer n d bytes total → total ≡ Ok (d, bytes)
finished [] n d bytes total w h = sym h.rest ∙ ap (λ (v : Wants). due_at v [] n d bytes) w
finished (m ∷ outer) n d bytes total w h = absurd (omega (arith, h.open_are, done_by d.places d.containers d.key w))

-- ---- the same for a stack as the code keeps it

unit_right : (r : Result (Draft × List ℕ) Fault) → (r >>= λ p. Ok (p.0, p.1)) ≡ r
unit_right (Ok p) = refl
unit_right (Err f) = refl

-- at the beginning
pub at_first : (n : ℕ) (d : Draft) (bytes : List ℕ) → d ≡ nothing_drafted → (value_at (levels - 0) d bytes >>= after_value [] n) ≡ value_at levels nothing_drafted bytes
at_first n d bytes e = unit_right (value_at levels d bytes) ∙ ap (λ (x : Draft). value_at levels x bytes) e

pub fails_then : {A : Type 0} (stop : Stop) (r : Result (Draft × List ℕ) Fault) (f : Draft × List ℕ → Result A Fault) → Fails stop r → Fails stop (r >>= f)
fails_then stops.Memory r f h = tt
fails_then (stops.Fault fault) r f h = ap (λ (x : Result (Draft × List ℕ) Fault). x >>= f) h

is_key : (w v : Wants) → w ≡ v → (w ≡ wants.Value → ⊥) → (w ≡ wants.Done → ⊥) → wants_key v ≡ true
is_key wants.Value v e a b = absurd (a refl)
is_key wants.Done v e a b = absurd (b refl)
is_key wants.ArrayKey v e a b = ap wants_key (sym e)
is_key wants.Name v e a b = ap wants_key (sym e)

pub key_wanted : (w v : Wants) → w ≡ v → (w ≡ wants.Value → ⊥) → (w ≡ wants.Done → ⊥) → wants_key v ≡ true
key_wanted w v e a b = is_key w v e a b

pub stack_some : (stack : List ℕ) (n : ℕ) (d : Draft) (bytes : List ℕ) (total : Result (Draft × List ℕ) Fault) → wants_key (wants_of d) ≡ true → HasCome stack n d bytes total → 0 < length stack
stack_some stack n d bytes total w h = omega (arith, h.open_are, inside_by d.places d.containers d.key w)

pub closed_fails : (stack : List ℕ) (n : ℕ) (d : Draft) (bytes : List ℕ) (stop : Stop) (total : Result (Draft × List ℕ) Fault)
    → n ≡ 0 → wants_key (wants_of d) ≡ true → HasCome stack n d bytes total → Fails stop (closed_at d bytes) → Fails stop total
closed_fails [] n d bytes stop total z w h f = absurd (omega (arith, stack_some [] n d bytes total w h))
closed_fails (m ∷ outer) n d bytes stop total z w h f = ended_fails m outer d bytes stop total w (subst (λ (k : ℕ). HasCome (m ∷ outer) k d bytes total) z h) f

pub popped : (before after : List ℕ) (o : Option ℕ) → before ≡ after ++ option_to_list o → (0 < length before → IsSome o) → 0 < length before → reverse before ≡ unwrap_or o 0 ∷ reverse after
popped before after None e some lt = let is_some = some lt in absurd cc
popped before after (Some m) e some lt = ap reverse e ∙ reverse-append after (m ∷ [])

pub closed_on : (stack after : List ℕ) (m n : ℕ) (d e : Draft) (bytes rest : List ℕ) (total : Result (Draft × List ℕ) Fault)
    → stack ≡ m ∷ after → n ≡ 0 → wants_key (wants_of d) ≡ true → HasCome stack n d bytes total → closed_at d bytes ≡ Ok (e, rest)
    → e.containers ≡ drop 1 d.containers → e.places ≡ d.places → e.key ≡ None → HasCome after m e rest total
closed_on stack after m n d e bytes rest total s z w h closed containers places no_key =
    let here : HasCome (m ∷ after) 0 d bytes total = subst (λ (k : ℕ). HasCome (m ∷ after) k d bytes total) z (subst (λ (x : List ℕ). HasCome x n d bytes total) s h) in
    ended m after d e bytes rest total w here closed containers places no_key

pub keyed_on : (stack : List ℕ) (n : ℕ) (d e : Draft) (bytes rest : List ℕ) (total : Result (Draft × List ℕ) Fault)
    → 0 < n → wants_key (wants_of d) ≡ true → HasCome stack n d bytes total → key_at d bytes ≡ Ok (e, rest)
    → e.containers ≡ d.containers → e.places ≡ d.places → IsSome e.key → HasCome stack (n - 1) e rest total
keyed_on [] n d e bytes rest total lt w h key containers places waits = absurd (omega (arith, stack_some [] n d bytes total w h))
keyed_on (m ∷ outer) n d e bytes rest total lt w h key containers places waits =
    let again : n ≡ suc (n - 1) = omega arith in
    keyed m outer (n - 1) d e bytes rest total w (subst (λ (k : ℕ). HasCome (m ∷ outer) k d bytes total) again h) key containers places waits

pub key_fails_on : (stack : List ℕ) (n : ℕ) (d : Draft) (bytes : List ℕ) (stop : Stop) (total : Result (Draft × List ℕ) Fault)
    → 0 < n → wants_key (wants_of d) ≡ true → HasCome stack n d bytes total → Fails stop (key_at d bytes) → Fails stop total
key_fails_on [] n d bytes stop total lt w h f = absurd (omega (arith, stack_some [] n d bytes total w h))
key_fails_on (m ∷ outer) n d bytes stop total lt w h f =
    let again : n ≡ suc (n - 1) = omega arith in
    keyed_fails m outer (n - 1) d bytes stop total w (subst (λ (k : ℕ). HasCome (m ∷ outer) k d bytes total) again h) f
