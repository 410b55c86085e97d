-- A fault of scripts lies within their bytes.
use Rattle.std.proofs.Common.{◌≡◌, ℕ, zero, suc, ◌≤◌, Bool, true, false, cond, List, [], ◌∷◌, length, drop, Option, Some, None, Result, Ok, Err, subst, arith}
use Rattle.std.specs.Prelude.{◌==◌, nat_lt, MatchResult}
use Rattle.std.proofs.lemmas.List.{length-drop}
use Rattle.php_graph.specs.declared.kind.Kind.{Kind}
use Rattle.notation.specs.declared.fault.Reason.TheVariants as reasons
use Rattle.notation.specs.declared.fault.Fault.{Fault}
use Rattle.notation.specs.Marks.{◌>>=◌, fail}
use Rattle.notation.specs.Reading.{reading_of}
use Rattle.apcu_model.specs.declared.limits.TheConstants.{MOST_WORKERS}
use Rattle.apcu_model.specs.Levels.{Generator}
use Rattle.script_read.specs.declared.effect.Effect.{Effect}
use Rattle.script_read.specs.declared.effect.Effect.TheVariants.{Sets, Begins, Calls}
use Rattle.script_read.specs.declared.effect.Moments.{Moments}
use Rattle.script_read.specs.declared.script.Step.{Step}
use Rattle.script_read.specs.Table.{Form, Done, Need, May, Make, Refuse}
use Rattle.script_read.specs.Arguments.{key, ttl_in}
use Rattle.script_read.specs.GenParts.{literal_gen, entry_round}
use Rattle.script_read.specs.Grammar.{entry_word, inner_levels}
use Rattle.script_read.specs.Clock.{at_first, request_moments, step_at}
use Rattle.script_read.specs.Reading.{space_at, one_more_at, end_at, ends_here, chosen, choice_at, separator_at, limit_at, literal_at, entry_at, begins_entry, generator_at, rest_at, word_len, line_word, behind_word, worker_at, form_after, line_at, is_worker, Rest, with_effect, lines_at, scripts_at}

-- no more than n bytes are left, or are there from the fault on
abbrev Within : {A : Type 0} → ℕ → (A → List ℕ) → Result A Fault → Type 0
Within n left (Ok x) = length (left x) ≤ n
Within n left (Err f) = f.left ≤ n

-- reading a value stays inside its bytes
abbrev pub ValuesInside : Type 0
ValuesInside = (bytes : List ℕ) → MatchResult (reading_of bytes) (λ x. length x.1 ≤ length bytes) (λ fault. fault.left ≤ length bytes)

then_within : {A B : Type 0} (n : ℕ) (left : A → List ℕ) (left' : B → List ℕ) (r : Result A Fault) (f : A → Result B Fault) → Within n left r → ((x : A) → length (left x) ≤ n → Within n left' (f x)) → Within n left' (r >>= f)
then_within n left left' (Ok x) f h more = more x h
then_within n left left' (Err e) f h more = h

cond_within : {A : Type 0} (n : ℕ) (left : A → List ℕ) (b : Bool) (x y : Result A Fault) → Within n left x → Within n left y → Within n left (cond b x y)
cond_within n left true x y p q = p
cond_within n left false x y p q = q

abbrev same : List ℕ → List ℕ
same bytes = bytes

abbrev behind : {A : Type 0} → A × List ℕ → List ℕ
behind p = p.1

-- nothing is left
abbrev none : {A : Type 0} → A → List ℕ
none x = []

space_within : (n : ℕ) (bytes : List ℕ) → length bytes ≤ n → Within n same (space_at bytes)
unfolding space_at
space_within n [] h = omega arith
space_within n (b ∷ rest) h =
    cond_within n same (b == 32) (Ok rest) (cond (b == 10) (fail reasons.Argument (b ∷ rest)) (fail reasons.Separator (b ∷ rest))) (omega (arith, h))
    (cond_within n same (b == 10) (fail reasons.Argument (b ∷ rest)) (fail reasons.Separator (b ∷ rest)) h h)

one_more_within : (n : ℕ) (bytes : List ℕ) → length bytes ≤ n → Within n same (one_more_at bytes)
one_more_within n [] h = omega arith
one_more_within n (b ∷ rest) h = h

end_within : (n : ℕ) (bytes : List ℕ) → length bytes ≤ n → Within n same (end_at bytes)
unfolding end_at
end_within n [] h = omega arith
end_within n (b ∷ rest) h =
    cond_within n same (b == 10) (Ok rest) (cond (b == 32) (one_more_at rest) (fail reasons.Separator (b ∷ rest))) (omega (arith, h))
    (cond_within n same (b == 32) (one_more_at rest) (fail reasons.Separator (b ∷ rest)) (one_more_within n rest (omega (arith, h))) h)

value_within : ValuesInside → (n : ℕ) (bytes : List ℕ) → length bytes ≤ n → Within n (behind {A = List Kind}) (reading_of bytes)
value_within law n bytes h = by_result (reading_of bytes) (law bytes)
  where
    by_result : (r : Result (List Kind × List ℕ) Fault) → MatchResult r (λ x. length x.1 ≤ length bytes) (λ fault. fault.left ≤ length bytes) → Within n (behind {A = List Kind}) r
    by_result (Ok x) within = omega (arith, within, h)
    by_result (Err e) within = omega (arith, within, h)

chosen_within : {A : Type 0} (n : ℕ) (o : Option A) (argument rest : List ℕ) → length argument ≤ n → length rest ≤ n → Within n (behind {A = A}) (chosen o argument rest)
chosen_within n (Some x) argument rest h k = k
chosen_within n None argument rest h k = h

choice_within : {A : Type 0} → ValuesInside → (choose : List Kind → Option A) (n : ℕ) (bytes : List ℕ) → length bytes ≤ n → Within n (behind {A = A}) (choice_at choose bytes)
choice_within law choose n bytes h = then_within n behind behind (reading_of bytes) (λ v. chosen (choose v.0) bytes v.1) (value_within law n bytes h) (λ v k. chosen_within n (choose v.0) bytes v.1 h k)

separator_within : (separator n : ℕ) (bytes : List ℕ) → length bytes ≤ n → Within n same (separator_at separator bytes)
unfolding separator_at
separator_within separator n [] h = omega arith
separator_within separator n (b ∷ rest) h = cond_within n same (b == separator) (Ok rest) (fail reasons.Separator (b ∷ rest)) (omega (arith, h)) h

limit_within : ValuesInside → (n : ℕ) (bytes : List ℕ) → length bytes ≤ n → Within n (behind {A = ℕ}) (limit_at bytes)
unfolding limit_at
limit_within law n [] h = omega arith
limit_within law n (b ∷ rest) h =
    let fewer : length rest ≤ n = omega (arith, h) in
    cond_within n behind (b == 41) (Ok (0, rest)) (cond (b == 32) (choice_at ttl_in rest >>= λ t. separator_at 41 t.1 >>= λ after. Ok (t.0, after)) (fail reasons.Separator (b ∷ rest))) fewer
    (cond_within n behind (b == 32) (choice_at ttl_in rest >>= λ t. separator_at 41 t.1 >>= λ after. Ok (t.0, after)) (fail reasons.Separator (b ∷ rest))
    (then_within n behind behind (choice_at ttl_in rest) (λ t. separator_at 41 t.1 >>= λ after. Ok (t.0, after)) (choice_within law ttl_in n rest fewer)
    (λ t k. then_within n same behind (separator_at 41 t.1) (λ after. Ok (t.0, after)) (separator_within 41 n t.1 k) (λ after m. m))) h)

literal_within : ValuesInside → (n : ℕ) (bytes : List ℕ) → length bytes ≤ n → Within n (behind {A = Generator}) (literal_at bytes)
unfolding literal_at
literal_within law n [] h = omega arith
literal_within law n (b ∷ rest) h =
    let fewer : length rest ≤ n = omega (arith, h) in
    cond_within n behind (b == 40) (reading_of rest >>= λ v. separator_at 41 v.1 >>= λ after. Ok (literal_gen v.0, after)) (fail reasons.Argument (b ∷ rest))
    (then_within n behind behind (reading_of rest) (λ v. separator_at 41 v.1 >>= λ after. Ok (literal_gen v.0, after)) (value_within law n rest fewer)
    (λ v k. then_within n same behind (separator_at 41 v.1) (λ after. Ok (literal_gen v.0, after)) (separator_within 41 n v.1 k) (λ after m. m))) h

entry_within : ValuesInside → (n : ℕ) (inner_at : List ℕ → Result (Generator × List ℕ) Fault) → ((bytes : List ℕ) → length bytes ≤ n → Within n (behind {A = Generator}) (inner_at bytes)) → (bytes : List ℕ) → length bytes ≤ n → Within n (behind {A = Generator}) (entry_at inner_at bytes)
entry_within law n inner_at inner bytes h =
    then_within n behind behind (choice_at key bytes) (λ k. separator_at 32 k.1 >>= λ argument. inner_at argument >>= λ i. limit_at i.1 >>= λ t. Ok (entry_round k.0 t.0 i.0, t.1)) (choice_within law key n bytes h)
    (λ k p. then_within n same behind (separator_at 32 k.1) (λ argument. inner_at argument >>= λ i. limit_at i.1 >>= λ t. Ok (entry_round k.0 t.0 i.0, t.1)) (separator_within 32 n k.1 p)
    (λ argument q. then_within n behind behind (inner_at argument) (λ i. limit_at i.1 >>= λ t. Ok (entry_round k.0 t.0 i.0, t.1)) (inner argument q)
    (λ i r. then_within n behind behind (limit_at i.1) (λ t. Ok (entry_round k.0 t.0 i.0, t.1)) (limit_within law n i.1 r) (λ t m. m))))

gen_within : ValuesInside → (levels n : ℕ) (bytes : List ℕ) → length bytes ≤ n → Within n (behind {A = Generator}) (generator_at levels bytes)
unfolding generator_at
gen_within law zero n bytes h = cond_within n behind (begins_entry bytes) (fail reasons.Generator bytes) (literal_at bytes) h (literal_within law n bytes h)
gen_within law (suc levels) n bytes h =
    let inside = drop (length entry_word) bytes in
    cond_within n behind (begins_entry bytes) (entry_at (generator_at levels) inside) (literal_at bytes)
    (entry_within law n (generator_at levels) (gen_within law levels n) inside (omega (arith, h, length-drop (length entry_word) bytes))) (literal_within law n bytes h)

form_within : ValuesInside → (form : Form) (n : ℕ) (last bytes : List ℕ) → length last ≤ n → length bytes ≤ n → Within n (behind {A = Effect}) (rest_at form last bytes)
unfolding rest_at
form_within law (Done e) n last bytes l h = then_within n same behind (end_at bytes) (λ after. Ok (e, after)) (end_within n bytes h) (λ after k. k)
form_within law (Need next) n last bytes l h =
    then_within n same behind (space_at bytes) (λ argument. reading_of argument >>= λ v. rest_at (next v.0) argument v.1) (space_within n bytes h)
    (λ argument k. then_within n behind behind (reading_of argument) (λ v. rest_at (next v.0) argument v.1) (value_within law n argument k) (λ v m. form_within law (next v.0) n argument v.1 k m))
form_within law (May short next) n last bytes l h =
    cond_within n behind (ends_here bytes) (rest_at short last bytes) (space_at bytes >>= λ argument. reading_of argument >>= λ v. rest_at (next v.0) argument v.1) (form_within law short n last bytes l h)
    (then_within n same behind (space_at bytes) (λ argument. reading_of argument >>= λ v. rest_at (next v.0) argument v.1) (space_within n bytes h)
    (λ argument k. then_within n behind behind (reading_of argument) (λ v. rest_at (next v.0) argument v.1) (value_within law n argument k) (λ v m. form_within law (next v.0) n argument v.1 k m)))
form_within law (Make next) n last bytes l h =
    then_within n same behind (space_at bytes) (λ argument. generator_at inner_levels argument >>= λ v. rest_at (next v.0) argument v.1) (space_within n bytes h)
    (λ argument k. then_within n behind behind (generator_at inner_levels argument) (λ v. rest_at (next v.0) argument v.1) (gen_within law inner_levels n argument k) (λ v m. form_within law (next v.0) n argument v.1 k m))
form_within law (Refuse reason) n last bytes l h = l

worker_within : (n begun : ℕ) (line : List ℕ) → length line ≤ n → Within n same (worker_at begun line)
worker_within n begun line h =
    cond_within n same (nat_lt begun MOST_WORKERS) (end_at (behind_word line)) (fail reasons.Workers line) (end_within n (behind_word line) (omega (arith, h, length-drop (word_len line) line))) h

line_within : ValuesInside → (n begun : ℕ) (line : List ℕ) → length line ≤ n → Within n (behind {A = Effect}) (line_at begun line)
line_within law n begun line h = form_within law (form_after begun (line_word line)) n line (behind_word line) h (omega (arith, h, length-drop (word_len line) line))

effect_within : (n : ℕ) (now : Moments) (others : Moments → Result Rest Fault) (e : Effect) → ((later : Moments) → Within n (none {A = Rest}) (others later)) → Within n (none {A = Rest}) (with_effect now others e)
effect_within n now others (Sets u) within = within (record now { t = u })
effect_within n now others (Begins u) within = within (request_moments u)
effect_within n now others (Calls call) within = then_within n none none (others now) (λ more. Ok (step_at now call ∷ more.0, more.1)) (within now) (λ more k. omega arith)

lines_within : ValuesInside → (lines begun : ℕ) (now : Moments) (n : ℕ) (bytes : List ℕ) → length bytes ≤ n → Within n (none {A = Rest}) (lines_at lines begun now bytes)
unfolding lines_at
lines_within law zero begun now n [] h = omega arith
lines_within law (suc lines) begun now n [] h = omega arith
lines_within law zero begun now n (b ∷ rest) h = omega arith
lines_within law (suc lines) begun now n (b ∷ rest) h =
    cond_within n none (is_worker (b ∷ rest))
    (worker_at begun (b ∷ rest) >>= λ after. lines_at lines (suc begun) at_first after >>= λ more. Ok ([], more.0 ∷ more.1))
    (line_at begun (b ∷ rest) >>= λ e. with_effect now (λ later. lines_at lines begun later e.1) e.0)
    (then_within n same none (worker_at begun (b ∷ rest)) (λ after. lines_at lines (suc begun) at_first after >>= λ more. Ok ([], more.0 ∷ more.1)) (worker_within n begun (b ∷ rest) h)
    (λ after k. then_within n none none (lines_at lines (suc begun) at_first after) (λ more. Ok ([], more.0 ∷ more.1)) (lines_within law lines (suc begun) at_first n after k) (λ more m. omega arith)))
    (then_within n behind none (line_at begun (b ∷ rest)) (λ e. with_effect now (λ later. lines_at lines begun later e.1) e.0) (line_within law n begun (b ∷ rest) h)
    (λ e k. effect_within n now (λ later. lines_at lines begun later e.1) e.0 (λ later. lines_within law lines begun later n e.1 k)))

pub scripts_inside : ValuesInside → (bytes : List ℕ) (fault : Fault) → scripts_at bytes ≡ Err fault → fault.left ≤ length bytes
unfolding scripts_at
scripts_inside law bytes fault e =
    subst (λ (r : Result (List (List Step)) Fault). Within (length bytes) (none {A = List (List Step)}) r) e
    (then_within (length bytes) none none (lines_at (length bytes) 0 at_first bytes) (λ rest. Ok rest.1) (lines_within law (length bytes) 0 at_first (length bytes) bytes (omega arith)) (λ rest k. omega arith))
