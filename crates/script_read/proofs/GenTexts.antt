-- A generator is read as it is spelled: by its levels.
use Rattle.std.proofs.Common.{◌≡◌, ℕ, zero, suc, true, false, cond, List, [], ◌∷◌, ◌++◌, length, take, drop, Option, Some, None, Result, Ok, inl, inr, refl, sym, ap, ap₂, subst, ◌∙◌, append_assoc, take-append-drop}
use Rattle.std.specs.Prelude.{◌==◌, ◌⊎◌, codes}
use Rattle.std.specs.Option.{option_and_then, option_map}
use Rattle.std.proofs.lemmas.Bool.{eqb-true}
use Rattle.std.proofs.lemmas.Slice.Eq.{bytes_eq-Decides}
use Rattle.php_graph.specs.declared.kind.Kind.{Kind}
use Rattle.php_graph.specs.declared.kind.Kind.TheVariants as kinds
use Rattle.php_graph.specs.Graph.{IsGraph}
use Rattle.notation.specs.declared.fault.Reason.TheVariants as reasons
use Rattle.notation.specs.declared.fault.Fault.{Fault}
use Rattle.notation.specs.Marks.{◌>>=◌, fail}
use Rattle.notation.specs.Notation.{text_of, child_text}
use Rattle.notation.specs.Reading.{reading_of}
use Rattle.apcu_model.specs.Levels.{Generator}
use Rattle.script_read.specs.Arguments.{key, ttl_in}
use Rattle.script_read.specs.GenParts.{literal_gen, entry_round}
use Rattle.script_read.specs.Grammar.{WrittenGen, Literal, Nested, Limited, entry_word, gen_text, IsWrittenGen, entry_meant, gen_meant}
use Rattle.script_read.specs.Reading.{chosen as found, choice_at, separator_at, limit_at, literal_at, entry_at, begins_entry, generator_at}
use Rattle.script_read.specs.Ties.{AreSomeBytes}
use Rattle.script_read.proofs.GenSteps.{literal_read}
use Rattle.script_read.proofs.ResultBinds.{ValuesTake, ValuesAgain, bind_ok, ok_is, some_is, then_some, map_some, chosen, bytes_after}

-- ---- what is said of generators

-- there is a generator with this meaning
pub record IsGenSaid (levels : ℕ) (bytes : List ℕ) (gen : Generator) (rest : List ℕ) : Type 0 where
  pub written : WrittenGen
  pub values : IsWrittenGen written
  pub meaning : gen_meant levels written ≡ Some gen
  pub text : bytes ≡ gen_text written ++ rest

abbrev pub GensTake : Type 0
GensTake = (levels : ℕ) (bytes : List ℕ) (gen : Generator) (rest : List ℕ) → AreSomeBytes bytes → generator_at levels bytes ≡ Ok (gen, rest) → IsGenSaid levels bytes gen rest

abbrev pub GensAgain : Type 0
GensAgain = (levels : ℕ) (written : WrittenGen) (gen : Generator) (rest : List ℕ) → IsWrittenGen written → gen_meant levels written ≡ Some gen → generator_at levels (gen_text written ++ rest) ≡ Ok (gen, rest)

-- ---- values as arguments, whatever is made of them

-- a value was read, and this was made of it
pub record IsChoice (A : Type 0) (choose : List Kind → Option A) (bytes : List ℕ) (x : A) (rest : List ℕ) : Type 0 where
  pub value : List Kind
  pub graph : IsGraph value
  pub meaning : choose value ≡ Some x
  pub text : bytes ≡ text_of value ++ rest

pub choice_again : {A : Type 0} → ValuesAgain → (choose : List Kind → Option A) (g : List Kind) (x : A) (rest : List ℕ) → IsGraph g → choose g ≡ Some x → choice_at choose (text_of g ++ rest) ≡ Ok (x, rest)
choice_again {A = A} values choose g x rest graph means =
    ap (λ (r : Result (List Kind × List ℕ) Fault). r >>= λ v. found (choose v.0) (text_of g ++ rest) v.1) (values g rest graph)
    ∙ ap (λ (o : Option A). found o (text_of g ++ rest) rest) means

found_is : {A : Type 0} (o : Option A) (argument after : List ℕ) (x : A) (rest : List ℕ) → found o argument after ≡ Ok (x, rest) → (o ≡ Some x) × (after ≡ rest)
found_is {A = A} (Some y) argument after x rest e =
    let is : (y, after) ≡ (x, rest) = ok_is (y, after) (x, rest) e in
    (ap (λ (p : A × List ℕ). Some p.0) is, ap (λ (p : A × List ℕ). p.1) is)
found_is {A = A} None argument after x rest e = absurd cc

pub choice_takes : {A : Type 0} → ValuesTake → (choose : List Kind → Option A) (bytes : List ℕ) (x : A) (rest : List ℕ) → AreSomeBytes bytes → choice_at choose bytes ≡ Ok (x, rest) → IsChoice A choose bytes x rest
choice_takes values choose bytes x rest fits e =
    let a = bind_ok (reading_of bytes) (λ v. found (choose v.0) bytes v.1) (x, rest) e in
    let f = found_is (choose a.0.0) bytes a.0.1 x rest a.2 in
    let v = values bytes a.0.0 a.0.1 fits a.1 in
    record { value = a.0.0; graph = v.0; meaning = f.0; text = v.1 ∙ ap (λ (r : List ℕ). text_of a.0.0 ++ r) f.1 }

-- ---- marks

separator_takes : (mark : ℕ) (bytes rest : List ℕ) → separator_at mark bytes ≡ Ok rest → bytes ≡ mark ∷ rest
unfolding separator_at
separator_takes mark [] rest e = absurd cc
separator_takes mark (b ∷ bytes) rest e =
    elim (chosen (b == mark) (Ok bytes) (fail reasons.Separator (b ∷ bytes)) (Ok rest) e) [
      | inl p ↦ ap₂ (λ (x : ℕ) (l : List ℕ). x ∷ l) (eqb-true b mark p.0) (ok_is bytes rest p.1)
      | inr p ↦ absurd (let h = p.1 in cc)
    ]

-- the end of an entry: at once, or after a limit of time
pub record HasLimit (bytes : List ℕ) (t : ℕ) (rest : List ℕ) : Type 0 where
  pub value : List Kind
  pub graph : IsGraph value
  pub meaning : ttl_in value ≡ Some t
  pub text : bytes ≡ codes " " ++ (text_of value ++ (codes ")" ++ rest))

abbrev LimitTaken : List ℕ → ℕ → List ℕ → Type 0
LimitTaken bytes t rest = ((t ≡ 0) × (bytes ≡ codes ")" ++ rest)) ⊎ HasLimit bytes t rest

limit_takes : ValuesTake → (bytes : List ℕ) (t : ℕ) (rest : List ℕ) → AreSomeBytes bytes → limit_at bytes ≡ Ok (t, rest) → LimitTaken bytes t rest
unfolding limit_at
limit_takes values [] t rest fits e = absurd cc
limit_takes values (b ∷ bytes) t rest fits e =
    elim (chosen (b == 41) (Ok (0, bytes)) (cond (b == 32) (choice_at ttl_in bytes >>= λ t. separator_at 41 t.1 >>= λ after. Ok (t.0, after)) (fail reasons.Separator (b ∷ bytes))) (Ok (t, rest)) e) [
      | inl p ↦
          let is : (0, bytes) ≡ (t, rest) = ok_is (0, bytes) (t, rest) p.1 in
          inl (sym (ap (λ (q : ℕ × List ℕ). q.0) is), ap₂ (λ (x : ℕ) (l : List ℕ). x ∷ l) (eqb-true b 41 p.0) (ap (λ (q : ℕ × List ℕ). q.1) is))
      | inr p ↦ elim (chosen (b == 32) (choice_at ttl_in bytes >>= λ t. separator_at 41 t.1 >>= λ after. Ok (t.0, after)) (fail reasons.Separator (b ∷ bytes)) (Ok (t, rest)) p.1) [
        | inl q ↦
            let a = bind_ok (choice_at ttl_in bytes) (λ t. separator_at 41 t.1 >>= λ after. Ok (t.0, after)) (t, rest) q.1 in
            let d = bind_ok (separator_at 41 a.0.1) (λ after. Ok (a.0.0, after)) (t, rest) a.2 in
            let is : (a.0.0, d.0) ≡ (t, rest) = ok_is (a.0.0, d.0) (t, rest) d.2 in
            let c = choice_takes values ttl_in bytes a.0.0 a.0.1 fits.1 a.1 in
            inr (record {
              value = c.value;
              graph = c.graph;
              meaning = c.meaning ∙ ap (λ (q : ℕ × List ℕ). Some q.0) is;
              text = ap₂ (λ (x : ℕ) (l : List ℕ). x ∷ l) (eqb-true b 32 q.0) (c.text ∙ ap (λ (l : List ℕ). text_of c.value ++ l) (separator_takes 41 a.0.1 d.0 d.1 ∙ ap (λ (q : ℕ × List ℕ). 41 ∷ q.1) is));
            })
        | inr q ↦ absurd (let h = q.1 in cc)
      ]
    ]

-- ---- what is spelled is read

-- no value's text goes on like an entry's word
no_entry : (g : List Kind) (rest : List ℕ) → begins_entry (40 ∷ (text_of g ++ (41 ∷ rest))) ≡ false
unfolding child_text
no_entry [] rest = refl
no_entry (kinds.Null ∷ places) rest = refl
no_entry (kinds.Bool true ∷ places) rest = refl
no_entry (kinds.Bool false ∷ places) rest = refl
no_entry (kinds.Int n ∷ places) rest = refl
no_entry (kinds.Str bytes ∷ places) rest = refl
no_entry (kinds.Array ms ∷ places) rest = refl
no_entry (kinds.Object class ps ∷ places) rest = refl
no_entry (kinds.Same x ∷ places) rest = refl

literal_again : ValuesAgain → (g : List Kind) (rest : List ℕ) → IsGraph g → literal_at (40 ∷ (text_of g ++ (41 ∷ rest))) ≡ Ok (literal_gen g, rest)
unfolding literal_at separator_at
literal_again values g rest graph = ap (λ (r : Result (List Kind × List ℕ) Fault). r >>= λ v. separator_at 41 v.1 >>= λ after. Ok (literal_gen v.0, after)) (values g (41 ∷ rest) graph)

entry_test : (levels : ℕ) (bytes : List ℕ) → generator_at (suc levels) (entry_word ++ bytes) ≡ entry_at (generator_at levels) bytes
unfolding generator_at
entry_test levels bytes = refl

entry_again : (read : List ℕ → Result (Generator × List ℕ) Fault) (bytes x y rest k : List ℕ) (made : Generator) (t : ℕ) → choice_at key bytes ≡ Ok (k, 32 ∷ x) → read x ≡ Ok (made, y) → limit_at y ≡ Ok (t, rest) → entry_at read bytes ≡ Ok (entry_round k t made, rest)
unfolding separator_at
entry_again read bytes x y rest k made t e1 e2 e3 =
    ap (λ (r : Result (List ℕ × List ℕ) Fault). r >>= λ k. separator_at 32 k.1 >>= λ argument. read argument >>= λ made. limit_at made.1 >>= λ t. Ok (entry_round k.0 t.0 made.0, t.1)) e1
    ∙ (ap (λ (r : Result (Generator × List ℕ) Fault). r >>= λ made. limit_at made.1 >>= λ t. Ok (entry_round k t.0 made.0, t.1)) e2
    ∙ ap (λ (r : Result (ℕ × List ℕ) Fault). r >>= λ t. Ok (entry_round k t.0 made, t.1)) e3)

-- the parts of an entry
pub record IsEntryMeant (k : Option (List ℕ)) (inner : Option Generator) (t : Option ℕ) (gen : Generator) : Type 0 where
  pub bytes : List ℕ
  pub made : Generator
  pub limit : ℕ
  pub key_is : k ≡ Some bytes
  pub inner_is : inner ≡ Some made
  pub limit_is : t ≡ Some limit
  pub whole : entry_round bytes limit made ≡ gen

entry_parts : (k : Option (List ℕ)) (inner : Option Generator) (t : Option ℕ) (gen : Generator) → entry_meant k inner t ≡ Some gen → IsEntryMeant k inner t gen
entry_parts k inner t gen e =
    let a = then_some (λ bytes. option_and_then (λ made. option_map (λ limit. entry_round bytes limit made) t) inner) k gen e in
    let b = then_some (λ made. option_map (λ limit. entry_round a.0 limit made) t) inner gen a.2 in
    let c = map_some (λ limit. entry_round a.0 limit b.0) t gen b.2 in
    record { bytes = a.0; made = b.0; limit = c.0; key_is = a.1; inner_is = b.1; limit_is = c.1; whole = c.2 }

limit_again : ValuesAgain → (g : List Kind) (t : ℕ) (rest : List ℕ) → IsGraph g → ttl_in g ≡ Some t → limit_at (32 ∷ (text_of g ++ (41 ∷ rest))) ≡ Ok (t, rest)
unfolding limit_at separator_at
limit_again values g t rest graph means = ap (λ (r : Result (ℕ × List ℕ) Fault). r >>= λ t. separator_at 41 t.1 >>= λ after. Ok (t.0, after)) (choice_again values ttl_in g t (41 ∷ rest) graph means)

no_limit_again : (rest : List ℕ) → limit_at (41 ∷ rest) ≡ Ok (0, rest)
unfolding limit_at
no_limit_again rest = refl

nested_text : (k inner rest : List ℕ) → (k ++ (codes " " ++ (inner ++ codes ")"))) ++ rest ≡ k ++ (32 ∷ (inner ++ (41 ∷ rest)))
nested_text k inner rest = append_assoc k (32 ∷ (inner ++ codes ")")) rest ∙ ap (λ (l : List ℕ). k ++ (32 ∷ l)) (append_assoc inner (codes ")") rest)

limited_text : (k inner t rest : List ℕ) → (k ++ (codes " " ++ (inner ++ (codes " " ++ (t ++ codes ")"))))) ++ rest ≡ k ++ (32 ∷ (inner ++ (32 ∷ (t ++ (41 ∷ rest)))))
limited_text k inner t rest =
    append_assoc k (32 ∷ (inner ++ (32 ∷ (t ++ codes ")")))) rest
    ∙ ap (λ (l : List ℕ). k ++ (32 ∷ l)) (append_assoc inner (32 ∷ (t ++ codes ")")) rest ∙ ap (λ (l : List ℕ). inner ++ (32 ∷ l)) (append_assoc t (codes ")") rest))

gen_is : (a b : Generator) (rest : List ℕ) (read : Result (Generator × List ℕ) Fault) → read ≡ Ok (a, rest) → a ≡ b → read ≡ Ok (b, rest)
gen_is a b rest read e is = e ∙ ap (λ (x : Generator). Ok (x, rest)) is

pub gens_again : ValuesAgain → GensAgain
gens_again values levels (Literal g) gen rest are means =
    let text : gen_text (Literal g) ++ rest ≡ 40 ∷ (text_of g ++ (41 ∷ rest)) = ap (λ (l : List ℕ). 40 ∷ l) (append_assoc (text_of g) (codes ")") rest) in
    gen_is (literal_gen g) gen rest (generator_at levels (gen_text (Literal g) ++ rest))
    (ap (generator_at levels) text ∙ (literal_read levels (40 ∷ (text_of g ++ (41 ∷ rest))) (no_entry g rest) ∙ literal_again values g rest are)) (some_is (literal_gen g) gen means)
gens_again values zero (Nested k inner) gen rest are means = absurd cc
gens_again values zero (Limited k inner t) gen rest are means = absurd cc
gens_again values (suc levels) (Nested k inner) gen rest are means =
    let p = entry_parts (key k) (gen_meant levels inner) (Some 0) gen means in
    let x = gen_text inner ++ (41 ∷ rest) in
    let first = choice_again values key k p.bytes (32 ∷ x) are.0 p.key_is in
    let second = gens_again values levels inner p.made (41 ∷ rest) are.1 p.inner_is in
    let whole : entry_round p.bytes 0 p.made ≡ gen = ap (λ (t : ℕ). entry_round p.bytes t p.made) (some_is 0 p.limit p.limit_is) ∙ p.whole in
    gen_is (entry_round p.bytes 0 p.made) gen rest (generator_at (suc levels) (gen_text (Nested k inner) ++ rest))
    (ap (λ (l : List ℕ). generator_at (suc levels) (entry_word ++ l)) (nested_text (text_of k) (gen_text inner) rest)
    ∙ (entry_test levels (text_of k ++ (32 ∷ x)) ∙ entry_again (generator_at levels) (text_of k ++ (32 ∷ x)) x (41 ∷ rest) rest p.bytes p.made 0 first second (no_limit_again rest))) whole
gens_again values (suc levels) (Limited k inner t) gen rest are means =
    let p = entry_parts (key k) (gen_meant levels inner) (ttl_in t) gen means in
    let y = 32 ∷ (text_of t ++ (41 ∷ rest)) in
    let x = gen_text inner ++ y in
    let first = choice_again values key k p.bytes (32 ∷ x) are.0 p.key_is in
    let second = gens_again values levels inner p.made y are.1 p.inner_is in
    gen_is (entry_round p.bytes p.limit p.made) gen rest (generator_at (suc levels) (gen_text (Limited k inner t) ++ rest))
    (ap (λ (l : List ℕ). generator_at (suc levels) (entry_word ++ l)) (limited_text (text_of k) (gen_text inner) (text_of t) rest)
    ∙ (entry_test levels (text_of k ++ (32 ∷ x)) ∙ entry_again (generator_at levels) (text_of k ++ (32 ∷ x)) x y rest p.bytes p.made p.limit first second (limit_again values t p.limit rest are.2 p.limit_is))) p.whole

-- ---- what is read is spelled

starts_takes : (bytes : List ℕ) → begins_entry bytes ≡ true → bytes ≡ entry_word ++ drop (length entry_word) bytes
starts_takes bytes e =
    let word : take (length entry_word) bytes ≡ entry_word = (bytes_eq-Decides (take (length entry_word) bytes) entry_word).0 e in
    sym (take-append-drop (length entry_word) bytes) ∙ ap (λ (l : List ℕ). l ++ drop (length entry_word) bytes) word

literal_takes : ValuesTake → (levels : ℕ) (bytes : List ℕ) (gen : Generator) (rest : List ℕ) → AreSomeBytes bytes → literal_at bytes ≡ Ok (gen, rest) → IsGenSaid levels bytes gen rest
unfolding literal_at
literal_takes values levels [] gen rest fits e = absurd cc
literal_takes values levels (b ∷ bytes) gen rest fits e =
    elim (chosen (b == 40) (reading_of bytes >>= λ v. separator_at 41 v.1 >>= λ after. Ok (literal_gen v.0, after)) (fail reasons.Argument (b ∷ bytes)) (Ok (gen, rest)) e) [
      | inl p ↦
          let a = bind_ok (reading_of bytes) (λ v. separator_at 41 v.1 >>= λ after. Ok (literal_gen v.0, after)) (gen, rest) p.1 in
          let d = bind_ok (separator_at 41 a.0.1) (λ after. Ok (literal_gen a.0.0, after)) (gen, rest) a.2 in
          let is : (literal_gen a.0.0, d.0) ≡ (gen, rest) = ok_is (literal_gen a.0.0, d.0) (gen, rest) d.2 in
          let v = values bytes a.0.0 a.0.1 fits.1 a.1 in
          record {
            written = Literal a.0.0;
            values = v.0;
            meaning = ap (λ (q : Generator × List ℕ). Some q.0) is;
            text = ap₂ (λ (x : ℕ) (l : List ℕ). x ∷ l) (eqb-true b 40 p.0) (v.1 ∙ (ap (λ (l : List ℕ). text_of a.0.0 ++ l) (separator_takes 41 a.0.1 d.0 d.1 ∙ ap (λ (q : Generator × List ℕ). 41 ∷ q.1) is) ∙ sym (append_assoc (text_of a.0.0) (codes ")") rest)));
          }
      | inr p ↦ absurd (let h = p.1 in cc)
    ]

entry_made : (levels : ℕ) (bytes inside last rest bs : List ℕ) (k : List Kind) (m : WrittenGen) (gen : Generator) (t : ℕ) → IsGraph k → key k ≡ Some bs → IsWrittenGen m → gen_meant levels m ≡ Some gen
    → bytes ≡ entry_word ++ inside → inside ≡ text_of k ++ (32 ∷ (gen_text m ++ last)) → LimitTaken last t rest → IsGenSaid (suc levels) bytes (entry_round bs t gen) rest
entry_made levels bytes inside last rest bs k m gen t graph key_is made gen_is word front (inl z) = record {
  written = Nested k m;
  values = (graph, made);
  meaning = ap₂ (λ (x : Option (List ℕ)) (y : Option Generator). entry_meant x y (Some 0)) key_is gen_is ∙ ap (λ (t : ℕ). Some (entry_round bs t gen)) (sym z.0);
  text = word ∙ ap (λ (l : List ℕ). entry_word ++ l) (front ∙ (ap (λ (l : List ℕ). text_of k ++ (32 ∷ (gen_text m ++ l))) z.1 ∙ sym (nested_text (text_of k) (gen_text m) rest)));
}
entry_made levels bytes inside last rest bs k m gen t graph key_is made gen_is word front (inr z) = record {
  written = Limited k m z.value;
  values = (graph, made, z.graph);
  meaning = ap₂ (λ (x : Option (List ℕ)) (y : Option Generator). entry_meant x y (ttl_in z.value)) key_is gen_is ∙ ap (λ (t : Option ℕ). option_map (λ limit. entry_round bs limit gen) t) z.meaning;
  text = word ∙ ap (λ (l : List ℕ). entry_word ++ l) (front ∙ (ap (λ (l : List ℕ). text_of k ++ (32 ∷ (gen_text m ++ l))) z.text ∙ sym (limited_text (text_of k) (gen_text m) (text_of z.value) rest)));
}

abbrev TakesAt : ℕ → Type 0
TakesAt levels = (bytes : List ℕ) (gen : Generator) (rest : List ℕ) → AreSomeBytes bytes → generator_at levels bytes ≡ Ok (gen, rest) → IsGenSaid levels bytes gen rest

entry_front : (inside key_text rest argument written behind : List ℕ) → inside ≡ key_text ++ rest → rest ≡ 32 ∷ argument → argument ≡ written ++ behind → inside ≡ key_text ++ (32 ∷ (written ++ behind))
entry_front inside key_text rest argument written behind e1 e2 e3 = e1 ∙ ap (λ (l : List ℕ). key_text ++ l) (e2 ∙ ap (λ (l : List ℕ). 32 ∷ l) e3)

entry_takes : ValuesTake → (levels : ℕ) → TakesAt levels → (bytes inside : List ℕ) (gen : Generator) (rest : List ℕ) → AreSomeBytes bytes → bytes ≡ entry_word ++ inside → entry_at (generator_at levels) inside ≡ Ok (gen, rest) → IsGenSaid (suc levels) bytes gen rest
entry_takes values levels gens bytes inside gen rest fits word e =
    let a = bind_ok (choice_at key inside) (λ k. separator_at 32 k.1 >>= λ argument. generator_at levels argument >>= λ made. limit_at made.1 >>= λ t. Ok (entry_round k.0 t.0 made.0, t.1)) (gen, rest) e in
    let b = bind_ok (separator_at 32 a.0.1) (λ argument. generator_at levels argument >>= λ made. limit_at made.1 >>= λ t. Ok (entry_round a.0.0 t.0 made.0, t.1)) (gen, rest) a.2 in
    let c = bind_ok (generator_at levels b.0) (λ made. limit_at made.1 >>= λ t. Ok (entry_round a.0.0 t.0 made.0, t.1)) (gen, rest) b.2 in
    let d = bind_ok (limit_at c.0.1) (λ t. Ok (entry_round a.0.0 t.0 c.0.0, t.1)) (gen, rest) c.2 in
    let is : (entry_round a.0.0 d.0.0 c.0.0, d.0.1) ≡ (gen, rest) = ok_is (entry_round a.0.0 d.0.0 c.0.0, d.0.1) (gen, rest) d.2 in
    let fits1 = bytes_after bytes entry_word inside word fits in
    let k = choice_takes values key inside a.0.0 a.0.1 fits1 a.1 in
    let fits2 = bytes_after inside (text_of k.value) a.0.1 k.text fits1 in
    let space = separator_takes 32 a.0.1 b.0 b.1 in
    let fits3 = bytes_after a.0.1 (codes " ") b.0 space fits2 in
    let m = gens b.0 c.0.0 c.0.1 fits3 c.1 in
    let fits4 = bytes_after b.0 (gen_text m.written) c.0.1 m.text fits3 in
    let front = entry_front inside (text_of k.value) a.0.1 b.0 (gen_text m.written) c.0.1 k.text space m.text in
    subst (λ (q : Generator × List ℕ). IsGenSaid (suc levels) bytes q.0 q.1) is
    (entry_made levels bytes inside c.0.1 d.0.1 a.0.0 k.value m.written c.0.0 d.0.0 k.graph k.meaning m.values m.meaning word front (limit_takes values c.0.1 d.0.0 d.0.1 fits4 d.1))

pub gens_take : ValuesTake → GensTake
unfolding generator_at
gens_take values zero bytes gen rest fits e =
    elim (chosen (begins_entry bytes) (fail reasons.Generator bytes) (literal_at bytes) (Ok (gen, rest)) e) [ inl p ↦ absurd (let h = p.1 in cc) | inr p ↦ literal_takes values zero bytes gen rest fits p.1 ]
gens_take values (suc levels) bytes gen rest fits e =
    elim (chosen (begins_entry bytes) (entry_at (generator_at levels) (drop (length entry_word) bytes)) (literal_at bytes) (Ok (gen, rest)) e) [
      | inl p ↦ entry_takes values levels (gens_take values levels) bytes (drop (length entry_word) bytes) gen rest fits (starts_takes bytes p.0) p.1
      | inr p ↦ literal_takes values (suc levels) bytes gen rest fits p.1
    ]
