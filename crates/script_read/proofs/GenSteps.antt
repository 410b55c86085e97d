-- A generator, as the steps that a function takes.
use Rattle.std.proofs.Common.{◌≡◌, ℕ, zero, suc, ◌-◌, ◌<◌, Bool, true, false, cond, List, ◌∷◌, length, drop, Result, Ok, sym, ap, ap₂, subst, ◌∙◌, arith}
use Rattle.php_graph.specs.declared.kind.Kind.{Kind}
use Rattle.notation.specs.declared.fault.Reason.TheVariants as reasons
use Rattle.notation.specs.declared.fault.Fault.{Fault}
use Rattle.notation.specs.Marks.{◌>>=◌, fail}
use Rattle.apcu_model.specs.Levels.{EntryLevel, Generator}
use Rattle.script_read.specs.declared.fault.Stop.{Stop}
use Rattle.script_read.specs.declared.fault.Stop.TheVariants as stops
use Rattle.script_read.specs.Gives.{Stops}
use Rattle.script_read.specs.Arguments.{key}
use Rattle.script_read.specs.GenParts.{entry_round}
use Rattle.script_read.specs.Grammar.{entry_word}
use Rattle.script_read.specs.Reading.{choice_at, separator_at, limit_at, literal_at, entry_at, begins_entry, generator_at}

pub literal_read : (levels : ℕ) (bytes : List ℕ) → begins_entry bytes ≡ false → generator_at levels bytes ≡ literal_at bytes
unfolding generator_at
literal_read zero bytes e = ap (λ (b : Bool). cond b (fail reasons.Generator bytes) (literal_at bytes)) e
literal_read (suc levels) bytes e = ap (λ (b : Bool). cond b (entry_at (generator_at levels) (drop (length entry_word) bytes)) (literal_at bytes)) e

pub too_deep : (levels : ℕ) (bytes : List ℕ) → begins_entry bytes ≡ true → levels ≡ 0 → generator_at levels bytes ≡ fail reasons.Generator bytes
unfolding generator_at
too_deep zero bytes e none = ap (λ (b : Bool). cond b (fail reasons.Generator bytes) (literal_at bytes)) e
too_deep (suc levels) bytes e none = absurd (omega (arith, none))

pub entry_read : (levels : ℕ) (bytes : List ℕ) → begins_entry bytes ≡ true → 0 < levels → generator_at levels bytes ≡ entry_at (generator_at (levels - 1)) (drop (length entry_word) bytes)
unfolding generator_at
entry_read zero bytes e some = absurd (omega (arith, some))
entry_read (suc levels) bytes e some =
    let one_less : suc levels - 1 ≡ levels = omega arith in
    ap (λ (b : Bool). cond b (entry_at (generator_at levels) (drop (length entry_word) bytes)) (literal_at bytes)) e
    ∙ ap (λ (n : ℕ). entry_at (generator_at n) (drop (length entry_word) bytes)) (sym one_less)

-- an entry begins, and one more may lie here
pub entry_begins : (levels : ℕ) (bytes inside : List ℕ) → begins_entry bytes ≡ true → inside ≡ drop (length entry_word) bytes → (levels ≡ 0 → ⊥) → generator_at levels bytes ≡ entry_at (generator_at (levels - 1)) inside
entry_begins levels bytes inside e behind some = entry_read levels bytes e (omega (arith, some)) ∙ ap (entry_at (generator_at (levels - 1))) (sym behind)

-- ---- an entry, step by step

abbrev Read : Type 0
Read = Result (Generator × List ℕ) Fault

abbrev after_inner : List ℕ → Generator × List ℕ → Read
after_inner k i = limit_at i.1 >>= λ t. Ok (entry_round k t.0 i.0, t.1)

abbrev after_space : (List ℕ → Read) → List ℕ → List ℕ → Read
after_space inner_at k argument = inner_at argument >>= λ i. after_inner k i

abbrev after_key : (List ℕ → Read) → List ℕ × List ℕ → Read
after_key inner_at k = separator_at 32 k.1 >>= λ argument. after_space inner_at k.0 argument

-- a step fails, and so does what begins with it
stops_with : {A B : Type 0} (e : Stop) (r : Result A Fault) (f : A → Result B Fault) → Stops e r → Stops e (r >>= f)
stops_with stops.Memory r f stop = tt
stops_with (stops.Fault fault) r f stop = ap (λ r. r >>= f) stop

-- a step was taken, and what comes after it fails
stops_after : {A B : Type 0} (e : Stop) (r : Result A Fault) (f : A → Result B Fault) (x : A) → r ≡ Ok x → Stops e (f x) → Stops e (r >>= f)
stops_after e r f x is stop = subst (λ r. Stops e (r >>= f)) (sym is) stop

pub key_fails : (e : Stop) (inner_at : List ℕ → Read) (inside : List ℕ) (whole : Read) → whole ≡ entry_at inner_at inside → Stops e (choice_at key inside) → Stops e whole
key_fails e inner_at inside whole is stop = subst (λ (r : Read). Stops e r) (sym is) (stops_with e (choice_at key inside) (after_key inner_at) stop)

pub space_fails : (e : Stop) (inner_at : List ℕ → Read) (inside k rest : List ℕ) (whole : Read) → whole ≡ entry_at inner_at inside → choice_at key inside ≡ Ok (k, rest) → Stops e (separator_at 32 rest) → Stops e whole
space_fails e inner_at inside k rest whole is e1 stop =
    subst (λ (r : Read). Stops e r) (sym is)
    (stops_after e (choice_at key inside) (after_key inner_at) (k, rest) e1 (stops_with e (separator_at 32 rest) (after_space inner_at k) stop))

pub inner_fails : (e : Stop) (inner_at : List ℕ → Read) (inside k rest argument : List ℕ) (whole : Read) → whole ≡ entry_at inner_at inside → choice_at key inside ≡ Ok (k, rest) → separator_at 32 rest ≡ Ok argument → Stops e (inner_at argument) → Stops e whole
inner_fails e inner_at inside k rest argument whole is e1 e2 stop =
    subst (λ (r : Read). Stops e r) (sym is)
    (stops_after e (choice_at key inside) (after_key inner_at) (k, rest) e1 (stops_after e (separator_at 32 rest) (after_space inner_at k) argument e2 (stops_with e (inner_at argument) (after_inner k) stop)))

pub limit_fails : (e : Stop) (inner_at : List ℕ → Read) (inside k rest argument : List ℕ) (inner : Generator) (behind : List ℕ) (whole : Read) → whole ≡ entry_at inner_at inside → choice_at key inside ≡ Ok (k, rest) → separator_at 32 rest ≡ Ok argument
    → inner_at argument ≡ Ok (inner, behind) → Stops e (limit_at behind) → Stops e whole
limit_fails e inner_at inside k rest argument inner behind whole is e1 e2 e3 stop =
    subst (λ (r : Read). Stops e r) (sym is)
    (stops_after e (choice_at key inside) (after_key inner_at) (k, rest) e1 (stops_after e (separator_at 32 rest) (after_space inner_at k) argument e2
    (stops_after e (inner_at argument) (after_inner k) (inner, behind) e3 (stops_with e (limit_at behind) (λ t. Ok (entry_round k t.0 inner, t.1)) stop))))

pub entry_ends : (inner_at : List ℕ → Read) (inside k rest argument : List ℕ) (inner : Generator) (behind : List ℕ) (t : ℕ) (after : List ℕ) (gen : Generator) (whole : Read) → whole ≡ entry_at inner_at inside → choice_at key inside ≡ Ok (k, rest) → separator_at 32 rest ≡ Ok argument
    → inner_at argument ≡ Ok (inner, behind) → limit_at behind ≡ Ok (t, after) → entry_round k t inner ≡ gen → whole ≡ Ok (gen, after)
entry_ends inner_at inside k rest argument inner behind t after gen whole is e1 e2 e3 e4 round =
    is ∙ (ap (λ (r : Result (List ℕ × List ℕ) Fault). r >>= λ x. after_key inner_at x) e1
    ∙ (ap (λ (r : Result (List ℕ) Fault). r >>= λ x. after_space inner_at k x) e2
    ∙ (ap (λ (r : Read). r >>= λ x. after_inner k x) e3
    ∙ (ap (λ (r : Result (ℕ × List ℕ) Fault). r >>= λ x. Ok (entry_round k x.0 inner, x.1)) e4
    ∙ ap (λ (g : Generator). Ok (g, after)) round))))

-- an entry round a generator in a box, known by its parts
pub round_is : (k : List ℕ) (t : ℕ) (inner boxed gen : Generator) → boxed ≡ inner → gen.levels ≡ record { key = k; ttl = t } ∷ boxed.levels → gen.literal ≡ boxed.literal → entry_round k t inner ≡ gen
round_is k t inner boxed gen is levels literal =
    ap (entry_round k t) (sym is) ∙ ap₂ (λ (l : List EntryLevel) (g : List Kind). record { levels = l; literal = g }) (sym levels) (sym literal)
