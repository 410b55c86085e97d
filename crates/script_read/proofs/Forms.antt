-- What follows a word is read as it is spelled, whatever the form: by the cases of forms.
use Rattle.std.proofs.Common.{◌≡◌, ℕ, true, cond, List, [], ◌∷◌, ◌++◌, Some, Result, Ok, inl, inr, sym, ap, ap₂, ◌∙◌, append_assoc}
use Rattle.std.specs.Prelude.{◌==◌, codes}
use Rattle.std.specs.Option.{option_and_then}
use Rattle.std.proofs.lemmas.Bool.{eqb-true}
use Rattle.php_graph.specs.declared.kind.Kind.{Kind}
use Rattle.php_graph.specs.Graph.{IsGraph}
use Rattle.notation.specs.declared.fault.Reason.TheVariants as reasons
use Rattle.notation.specs.declared.fault.Fault.{Fault}
use Rattle.notation.specs.Marks.{◌>>=◌, fail}
use Rattle.notation.specs.Notation.{text_of}
use Rattle.notation.specs.Reading.{reading_of}
use Rattle.script_read.specs.declared.effect.Effect.{Effect}
use Rattle.apcu_model.specs.Levels.{Generator}
use Rattle.script_read.specs.Table.{Form, Done, Need, May, Make, Refuse}
use Rattle.script_read.specs.Grammar.{WrittenGen, Argument, Plain, Making, gen_text, arguments_text, AreArguments, ends_line, gen_meant, inner_levels, effect_by}
use Rattle.script_read.specs.Reading.{space_at, one_more_at, end_at, ends_here, generator_at, rest_at}
use Rattle.script_read.specs.Ties.{AreSomeBytes}
use Rattle.script_read.proofs.ResultBinds.{ValuesTake, ValuesAgain, bind_ok, ok_is, some_is, then_some, chosen, bytes_after}
use Rattle.script_read.proofs.GenTexts.{GensTake, GensAgain}

-- ---- what is said of forms

-- there are arguments with this effect
pub record IsSaid (form : Form) (bytes : List ℕ) (e : Effect) (rest : List ℕ) : Type 0 where
  pub arguments : List Argument
  pub values : AreArguments arguments
  pub meaning : effect_by form arguments ≡ Some e
  pub text : bytes ≡ arguments_text arguments ++ (ends_line ++ rest)

abbrev pub FormsTake : Type 0
FormsTake = (form : Form) (last bytes : List ℕ) (e : Effect) (rest : List ℕ) → AreSomeBytes bytes → rest_at form last bytes ≡ Ok (e, rest) → IsSaid form bytes e rest

abbrev pub FormsAgain : Type 0
FormsAgain = (form : Form) (arguments : List Argument) (e : Effect) (last rest : List ℕ) → AreArguments arguments → effect_by form arguments ≡ Some e
    → rest_at form last (arguments_text arguments ++ (ends_line ++ rest)) ≡ Ok (e, rest)

-- ---- spaces and ends

pub space_takes : (bytes rest : List ℕ) → space_at bytes ≡ Ok rest → bytes ≡ codes " " ++ rest
unfolding space_at
space_takes [] rest e = absurd cc
space_takes (b ∷ bytes) rest e =
    elim (chosen (b == 32) (Ok bytes) (cond (b == 10) (fail reasons.Argument (b ∷ bytes)) (fail reasons.Separator (b ∷ bytes))) (Ok rest) e) [
      | inl p ↦ ap₂ (λ (x : ℕ) (l : List ℕ). x ∷ l) (eqb-true b 32 p.0) (ok_is bytes rest p.1)
      | inr p ↦ elim (chosen (b == 10) (fail reasons.Argument (b ∷ bytes)) (fail reasons.Separator (b ∷ bytes)) (Ok rest) p.1) [ inl q ↦ absurd (let h = q.1 in cc) | inr q ↦ absurd (let h = q.1 in cc) ]
    ]

one_more_takes : {X : Type 0} (bytes rest : List ℕ) → one_more_at bytes ≡ Ok rest → X
one_more_takes [] rest e = absurd cc
one_more_takes (b ∷ bytes) rest e = absurd cc

pub end_takes : (bytes rest : List ℕ) → end_at bytes ≡ Ok rest → bytes ≡ ends_line ++ rest
unfolding end_at
end_takes [] rest e = absurd cc
end_takes (b ∷ bytes) rest e =
    elim (chosen (b == 10) (Ok bytes) (cond (b == 32) (one_more_at bytes) (fail reasons.Separator (b ∷ bytes))) (Ok rest) e) [
      | inl p ↦ ap₂ (λ (x : ℕ) (l : List ℕ). x ∷ l) (eqb-true b 10 p.0) (ok_is bytes rest p.1)
      | inr p ↦ elim (chosen (b == 32) (one_more_at bytes) (fail reasons.Separator (b ∷ bytes)) (Ok rest) p.1) [ inl q ↦ one_more_takes bytes rest q.1 | inr q ↦ absurd (let h = q.1 in cc) ]
    ]

-- ---- what is spelled is read

abbrev after_value : (List Kind → Form) → List ℕ → Result (List Kind × List ℕ) Fault → Result (Effect × List ℕ) Fault
after_value next argument r = r >>= λ v. rest_at (next v.0) argument v.1

abbrev after_gen : (Generator → Form) → List ℕ → Result (Generator × List ℕ) Fault → Result (Effect × List ℕ) Fault
after_gen next argument r = r >>= λ v. rest_at (next v.0) argument v.1

value_again : ValuesAgain → (next : List Kind → Form) (g : List Kind) (more behind : List ℕ) → IsGraph g
    → after_value next ((text_of g ++ more) ++ behind) (reading_of ((text_of g ++ more) ++ behind)) ≡ rest_at (next g) ((text_of g ++ more) ++ behind) (more ++ behind)
value_again values next g more behind graph =
    ap (after_value next ((text_of g ++ more) ++ behind)) (ap reading_of (append_assoc (text_of g) more behind) ∙ values g (more ++ behind) graph)

gen_again : GensAgain → (next : Generator → Form) (written : WrittenGen) (gen : Generator) (more behind : List ℕ) → AreArguments (Making written ∷ []) → gen_meant inner_levels written ≡ Some gen
    → after_gen next ((gen_text written ++ more) ++ behind) (generator_at inner_levels ((gen_text written ++ more) ++ behind)) ≡ rest_at (next gen) ((gen_text written ++ more) ++ behind) (more ++ behind)
gen_again gens next written gen more behind are means =
    ap (after_gen next ((gen_text written ++ more) ++ behind)) (ap (generator_at inner_levels) (append_assoc (gen_text written) more behind) ∙ gens inner_levels written gen (more ++ behind) are.0 means)

pub forms_again : ValuesAgain → GensAgain → FormsAgain
unfolding rest_at space_at end_at
forms_again values gens (Done x) [] e last rest are means = ap (λ (y : Effect). Ok (y, rest)) (some_is x e means)
forms_again values gens (Done x) (a ∷ more) e last rest are means = absurd cc
forms_again values gens (Need next) [] e last rest are means = absurd cc
forms_again values gens (Need next) (Making written ∷ more) e last rest are means = absurd cc
forms_again values gens (Need next) (Plain g ∷ more) e last rest are means =
    value_again values next g (arguments_text more) (ends_line ++ rest) are.0
    ∙ forms_again values gens (next g) more e ((text_of g ++ arguments_text more) ++ (ends_line ++ rest)) rest are.1 means
forms_again values gens (May short next) [] e last rest are means = forms_again values gens short [] e last rest are means
forms_again values gens (May short next) (Making written ∷ more) e last rest are means = absurd cc
forms_again values gens (May short next) (Plain g ∷ more) e last rest are means =
    value_again values next g (arguments_text more) (ends_line ++ rest) are.0
    ∙ forms_again values gens (next g) more e ((text_of g ++ arguments_text more) ++ (ends_line ++ rest)) rest are.1 means
forms_again values gens (Make next) [] e last rest are means = absurd cc
forms_again values gens (Make next) (Plain g ∷ more) e last rest are means = absurd cc
forms_again values gens (Make next) (Making written ∷ more) e last rest are means =
    let m = then_some (λ gen. effect_by (next gen) more) (gen_meant inner_levels written) e means in
    gen_again gens next written m.0 (arguments_text more) (ends_line ++ rest) (are.0, tt) m.1
    ∙ forms_again values gens (next m.0) more e ((gen_text written ++ arguments_text more) ++ (ends_line ++ rest)) rest are.1 m.2
forms_again values gens (Refuse reason) arguments e last rest are means = absurd cc

-- ---- what is read is spelled

-- one more argument stands before the others
one_more_said : (bytes argument text behind more : List ℕ) (rest : List ℕ) → bytes ≡ codes " " ++ argument → argument ≡ text ++ behind → behind ≡ more ++ (ends_line ++ rest)
    → bytes ≡ (codes " " ++ (text ++ more)) ++ (ends_line ++ rest)
one_more_said bytes argument text behind more rest e1 e2 e3 =
    e1 ∙ ap (λ (t : List ℕ). codes " " ++ t) (e2 ∙ (ap (λ (t : List ℕ). text ++ t) e3 ∙ sym (append_assoc text more (ends_line ++ rest))))

-- where a line ends, no argument stands
ends_said : (short : Form) (next : List Kind → Form) (bytes : List ℕ) (e : Effect) (rest : List ℕ) → ends_here bytes ≡ true → IsSaid short bytes e rest → IsSaid (May short next) bytes e rest
ends_said short next [] e rest ends said = absurd cc
ends_said short next (b ∷ bytes) e rest ends said = by_arguments said.arguments said.values said.meaning said.text
  where
    by_arguments : (arguments : List Argument) → AreArguments arguments → effect_by short arguments ≡ Some e → b ∷ bytes ≡ arguments_text arguments ++ (ends_line ++ rest) → IsSaid (May short next) (b ∷ bytes) e rest
    by_arguments [] are means text = record { arguments = []; values = tt; meaning = means; text = text }
    by_arguments (a ∷ more) are means text = let ten : b ≡ 10 = eqb-true b 10 ends in absurd cc

pub forms_take : ValuesTake → GensTake → FormsTake
unfolding rest_at
forms_take values gens (Done x) last bytes e rest fits read =
    let a = bind_ok (end_at bytes) (λ after. Ok (x, after)) (e, rest) read in
    let made : Effect × List ℕ = (x, a.0) in
    let is : made ≡ (e, rest) = ok_is made (e, rest) a.2 in
    record {
      arguments = [];
      values = tt;
      meaning = ap (λ (m : Effect × List ℕ). Some m.0) is;
      text = end_takes bytes a.0 a.1 ∙ ap (λ (m : Effect × List ℕ). ends_line ++ m.1) is;
    }
forms_take values gens (Need next) last bytes e rest fits read =
    let a = bind_ok (space_at bytes) (λ argument. after_value next argument (reading_of argument)) (e, rest) read in
    let b = bind_ok (reading_of a.0) (λ v. rest_at (next v.0) a.0 v.1) (e, rest) a.2 in
    let space = space_takes bytes a.0 a.1 in
    let inside = bytes_after bytes (codes " ") a.0 space fits in
    let v = values a.0 b.0.0 b.0.1 inside b.1 in
    let more = forms_take values gens (next b.0.0) a.0 b.0.1 e rest (bytes_after a.0 (text_of b.0.0) b.0.1 v.1 inside) b.2 in
    record {
      arguments = Plain b.0.0 ∷ more.arguments;
      values = (v.0, more.values);
      meaning = more.meaning;
      text = one_more_said bytes a.0 (text_of b.0.0) b.0.1 (arguments_text more.arguments) rest space v.1 more.text;
    }
forms_take values gens (May short next) last bytes e rest fits read =
    elim (chosen (ends_here bytes) (rest_at short last bytes) (space_at bytes >>= λ argument. after_value next argument (reading_of argument)) (Ok (e, rest)) read) [
      | inl p ↦ ends_said short next bytes e rest p.0 (forms_take values gens short last bytes e rest fits p.1)
      | inr p ↦
          let a = bind_ok (space_at bytes) (λ argument. after_value next argument (reading_of argument)) (e, rest) p.1 in
          let b = bind_ok (reading_of a.0) (λ v. rest_at (next v.0) a.0 v.1) (e, rest) a.2 in
          let space = space_takes bytes a.0 a.1 in
          let inside = bytes_after bytes (codes " ") a.0 space fits in
          let v = values a.0 b.0.0 b.0.1 inside b.1 in
          let more = forms_take values gens (next b.0.0) a.0 b.0.1 e rest (bytes_after a.0 (text_of b.0.0) b.0.1 v.1 inside) b.2 in
          record {
            arguments = Plain b.0.0 ∷ more.arguments;
            values = (v.0, more.values);
            meaning = more.meaning;
            text = one_more_said bytes a.0 (text_of b.0.0) b.0.1 (arguments_text more.arguments) rest space v.1 more.text;
          }
    ]
forms_take values gens (Make next) last bytes e rest fits read =
    let a = bind_ok (space_at bytes) (λ argument. after_gen next argument (generator_at inner_levels argument)) (e, rest) read in
    let b = bind_ok (generator_at inner_levels a.0) (λ v. rest_at (next v.0) a.0 v.1) (e, rest) a.2 in
    let space = space_takes bytes a.0 a.1 in
    let inside = bytes_after bytes (codes " ") a.0 space fits in
    let v = gens inner_levels a.0 b.0.0 b.0.1 inside b.1 in
    let more = forms_take values gens (next b.0.0) a.0 b.0.1 e rest (bytes_after a.0 (gen_text v.written) b.0.1 v.text inside) b.2 in
    record {
      arguments = Making v.written ∷ more.arguments;
      values = (v.values, more.values);
      meaning = ap (option_and_then (λ gen. effect_by (next gen) more.arguments)) v.meaning ∙ more.meaning;
      text = one_more_said bytes a.0 (gen_text v.written) b.0.1 (arguments_text more.arguments) rest space v.text more.text;
    }
forms_take values gens (Refuse reason) last bytes e rest fits read = absurd cc
