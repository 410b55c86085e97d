-- Scripts are read as they are spelled: by lines.
use Rattle.std.proofs.Common.{◌≡◌, ℕ, zero, suc, ◌+◌, ◌-◌, ◌≤◌, ◌<◌, Bool, true, false, cond, List, [], ◌∷◌, ◌++◌, length, take, drop, Option, Some, Result, Ok, inl, inr, refl, sym, ap, ap₂, subst, ◌∙◌, append_assoc, length-append, take-append-drop, arith}
use Rattle.std.specs.Prelude.{◌&&◌, not, nat_lt, codes}
use Rattle.std.specs.Option.{option_and_then, option_map}
use Rattle.std.specs.List.{flat_map, AllByRecursion, list_all, prefix_len}
use Rattle.std.specs.Str.{bytes_eq}
use Rattle.std.proofs.lemmas.Slice.Eq.{bytes_eq-Decides}
use Rattle.std.proofs.lemmas.List.Concat.{flat_map-cons}
use Rattle.std.proofs.Math.Seq.{take-append_seam, drop-append_seam}
use Rattle.notation.specs.declared.fault.Reason.TheVariants as reasons
use Rattle.notation.specs.declared.fault.Fault.{Fault}
use Rattle.notation.specs.Marks.{◌>>=◌, fail}
use Rattle.apcu_model.specs.declared.limits.TheConstants.{MOST_WORKERS}
use Rattle.script_read.specs.declared.effect.Effect.{Effect}
use Rattle.script_read.specs.declared.effect.Effect.TheVariants.{Sets, Begins, Calls}
use Rattle.script_read.specs.declared.effect.Moments.{Moments}
use Rattle.script_read.specs.declared.script.Step.{Step}
use Rattle.script_read.specs.Clock.{at_first, request_moments, step_at}
use Rattle.script_read.specs.Table.{Form, Refuse, table, form_in, form_of}
use Rattle.script_read.specs.Grammar.{Argument, Line, argument_text, arguments_text, AreArguments, ends_line, line_text, script_text, effect_by, effect_of, steps_after, steps_of, Mean, AreScripts}
use Rattle.script_read.specs.Reading.{ends_word, word_len, line_word, behind_word, end_at, rest_at, worker_at, line_at, is_worker, Rest, with_effect, lines_at, scripts_at}
use Rattle.script_read.specs.Ties.{AreSomeBytes}
use Rattle.script_read.proofs.ResultBinds.{ValuesTake, ValuesAgain, bind_ok, ok_is, some_is, then_some, map_some, chosen, bytes_after}
use Rattle.script_read.proofs.GenTexts.{gens_again, gens_take}
use Rattle.script_read.proofs.Forms.{FormsTake, FormsAgain, end_takes, forms_take, forms_again}

-- ---- words

abbrev is_letter : ℕ → Bool
is_letter b = not (ends_word b)

-- letters alone, and not `worker`
abbrev is_row_word : List ℕ → Bool
is_row_word w = list_all is_letter w && not (bytes_eq w (codes "worker"))

abbrev are_row_words : List (List ℕ × Form) → Bool
are_row_words [] = true
are_row_words (row ∷ rows) = is_row_word row.0 && are_row_words rows

both : (a b : Bool) → (a && b) ≡ true → (a ≡ true) × (b ≡ true)
both true b e = (refl, e)
both false b e = absurd cc

is_false : (b : Bool) → not b ≡ true → b ≡ false
is_false true e = absurd cc
is_false false e = refl

-- a line that says something begins with a word of the table
word_in_rows : (rows : List (List ℕ × Form)) (w : List ℕ) (arguments : List Argument) (e : Effect) → are_row_words rows ≡ true → effect_by (form_in rows w) arguments ≡ Some e → is_row_word w ≡ true
unfolding form_in
word_in_rows [] w arguments e words means = absurd cc
word_in_rows (row ∷ rows) w arguments e words means =
    let p = both (is_row_word row.0) (are_row_words rows) words in
    by_test (bytes_eq w row.0) (bytes_eq-Decides w row.0).0 p.0 (word_in_rows rows w arguments e p.1) means
  where
    by_test : (b : Bool) → (b ≡ true → w ≡ row.0) → is_row_word row.0 ≡ true → (effect_by (form_in rows w) arguments ≡ Some e → is_row_word w ≡ true) → effect_by (cond b row.1 (form_in rows w)) arguments ≡ Some e → is_row_word w ≡ true
    by_test true same first others means = ap is_row_word (same refl) ∙ first
    by_test false same first others means = others means

table_words : are_row_words table ≡ true
table_words = refl

one_more : (n : ℕ) → 1 + n ≡ suc n
one_more n = omega arith

word_len_again : (w : List ℕ) (b : ℕ) (rest : List ℕ) → list_all is_letter w ≡ true → ends_word b ≡ true → word_len (w ++ (b ∷ rest)) ≡ length w
word_len_again [] b rest letters ends = ap (λ (e : Bool). cond (not e) (1 + prefix_len is_letter rest) 0) ends
word_len_again (c ∷ w) b rest letters ends =
    let p = both (is_letter c) (list_all is_letter w) letters in
    ap (λ (e : Bool). cond e (1 + word_len (w ++ (b ∷ rest))) 0) p.0 ∙ (ap (λ (n : ℕ). 1 + n) (word_len_again w b rest p.1 ends) ∙ one_more (length w))

-- ---- lines that are spelled

-- what stands behind a word
pub record EndsWord (bytes : List ℕ) : Type 0 where
  pub first : ℕ
  pub others : List ℕ
  pub is : bytes ≡ first ∷ others
  pub ends : ends_word first ≡ true

behind_is : (arguments : List Argument) (rest : List ℕ) → EndsWord (arguments_text arguments ++ (ends_line ++ rest))
behind_is [] rest = record { first = 10; others = rest; is = refl; ends = refl }
behind_is (a ∷ more) rest = record { first = 32; others = (argument_text a ++ arguments_text more) ++ (ends_line ++ rest); is = refl; ends = refl }

len_again : (w behind : List ℕ) → list_all is_letter w ≡ true → EndsWord behind → word_len (w ++ behind) ≡ length w
len_again w behind letters p = ap (λ (l : List ℕ). word_len (w ++ l)) p.is ∙ word_len_again w p.first p.others letters p.ends

word_again : (w behind : List ℕ) → list_all is_letter w ≡ true → EndsWord behind → line_word (w ++ behind) ≡ w
word_again w behind letters p = ap (λ (n : ℕ). take n (w ++ behind)) (len_again w behind letters p) ∙ take-append_seam w behind

behind_again : (w behind : List ℕ) → list_all is_letter w ≡ true → EndsWord behind → behind_word (w ++ behind) ≡ behind
behind_again w behind letters p = ap (λ (n : ℕ). drop n (w ++ behind)) (len_again w behind letters p) ∙ drop-append_seam w behind

line_parts : (line : Line) (rest : List ℕ) → line_text line ++ rest ≡ line.word ++ (arguments_text line.arguments ++ (ends_line ++ rest))
line_parts line rest = append_assoc line.word (arguments_text line.arguments ++ ends_line) rest ∙ ap (λ (l : List ℕ). line.word ++ l) (append_assoc (arguments_text line.arguments) ends_line rest)

-- a line of a script is read
pub record IsLineRead (begun : ℕ) (bytes : List ℕ) (e : Effect) (rest : List ℕ) : Type 0 where
  pub no_worker : is_worker bytes ≡ false
  pub reads : line_at (suc begun) bytes ≡ Ok (e, rest)

line_again : FormsAgain → (begun : ℕ) (line : Line) (e : Effect) (rest : List ℕ) → AreArguments line.arguments → effect_of line ≡ Some e → IsLineRead begun (line_text line ++ rest) e rest
line_again forms begun line e rest are means =
    let w = line.word in
    let behind = arguments_text line.arguments ++ (ends_line ++ rest) in
    let row = both (list_all is_letter w) (not (bytes_eq w (codes "worker"))) (word_in_rows table w line.arguments e table_words means) in
    let p = behind_is line.arguments rest in
    let word : line_word (w ++ behind) ≡ w = word_again w behind row.0 p in
    subst (λ (l : List ℕ). IsLineRead begun l e rest) (sym (line_parts line rest))
    (record {
      no_worker = ap (λ (l : List ℕ). bytes_eq l (codes "worker")) word ∙ is_false (bytes_eq w (codes "worker")) row.1;
      reads = ap₂ (λ (x y : List ℕ). rest_at (form_of x) (w ++ behind) y) word (behind_again w behind row.0 p) ∙ forms (form_of w) line.arguments e (w ++ behind) rest are means;
    })

line_some : (line : Line) → 1 ≤ length (line_text line)
line_some line = omega (arith, length-append line.word (arguments_text line.arguments ++ ends_line), length-append (arguments_text line.arguments) ends_line)

-- ---- scripts that are spelled

abbrev AreLines : List Line → Type 0
AreLines lines = AllByRecursion (λ line. AreArguments line.arguments) lines

abbrev rest_is : List Step → List (List Step) → Result Rest Fault
rest_is steps scripts = Ok (steps, scripts)

-- the bytes hold these scripts, after this many have begun
abbrev ReadOn : ℕ → List ℕ → List (List Step) → Type 0
ReadOn begun bytes scripts = (lines : ℕ) (now : Moments) → length bytes ≤ lines → lines_at lines begun now bytes ≡ rest_is [] scripts

one_line : (lines begun : ℕ) (now : Moments) (bytes : List ℕ) (e : Effect) (rest : List ℕ) (read : Result Rest Fault) → 1 ≤ length bytes → IsLineRead begun bytes e rest
    → with_effect now (λ later. lines_at lines (suc begun) later rest) e ≡ read → lines_at (suc lines) (suc begun) now bytes ≡ read
unfolding lines_at
one_line lines begun now [] e rest read some line is = absurd (omega arith)
one_line lines begun now (b ∷ bytes) e rest read some line is =
    ap (λ (w : Bool). cond w (worker_at (suc begun) (b ∷ bytes) >>= λ after. lines_at lines (suc (suc begun)) at_first after >>= λ more. Ok ([], more.0 ∷ more.1)) (line_at (suc begun) (b ∷ bytes) >>= λ e. with_effect now (λ later. lines_at lines (suc begun) later e.1) e.0)) line.no_worker
    ∙ (ap (λ (r : Result (Effect × List ℕ) Fault). r >>= λ e. with_effect now (λ later. lines_at lines (suc begun) later e.1) e.0) line.reads ∙ is)

-- what an effect means for the lines after it
effect_again : (now : Moments) (lines begun : ℕ) (rest : List ℕ) (others : Moments → Option (List Step)) (e : Effect) (steps : List Step) (scripts : List (List Step))
    → ((later : Moments) (more : List Step) → others later ≡ Some more → lines_at lines begun later rest ≡ rest_is more scripts)
    → steps_after now others e ≡ Some steps → with_effect now (λ later. lines_at lines begun later rest) e ≡ rest_is steps scripts
effect_again now lines begun rest others (Sets u) steps scripts again means = again (record now { t = u }) steps means
effect_again now lines begun rest others (Begins u) steps scripts again means = again (request_moments u) steps means
effect_again now lines begun rest others (Calls call) steps scripts again means =
    let m = map_some (λ steps. step_at now call ∷ steps) (others now) steps means in
    ap (λ (r : Result Rest Fault). r >>= λ more. Ok (step_at now call ∷ more.0, more.1)) (again now m.0 m.1) ∙ ap (λ (s : List Step). rest_is s scripts) m.2

body_again : FormsAgain → (begun : ℕ) (tail : List ℕ) (scripts : List (List Step)) → ReadOn (suc begun) tail scripts → (body : List Line) (lines : ℕ) (now : Moments) (steps : List Step) → AreLines body → steps_of now body ≡ Some steps
    → length (flat_map line_text body ++ tail) ≤ lines → lines_at lines (suc begun) now (flat_map line_text body ++ tail) ≡ rest_is steps scripts
body_again forms begun tail scripts on [] lines now steps are means enough = on lines now enough ∙ ap (λ (s : List Step). rest_is s scripts) (some_is [] steps means)
body_again forms begun tail scripts on (line ∷ body) zero now steps are means enough =
    absurd (omega (arith, enough, ap length (ap (λ (l : List ℕ). l ++ tail) (flat_map-cons line_text line body) ∙ append_assoc (line_text line) (flat_map line_text body) tail), length-append (line_text line) (flat_map line_text body ++ tail), line_some line))
body_again forms begun tail scripts on (line ∷ body) (suc lines) now steps are means enough =
    let rest = flat_map line_text body ++ tail in
    let text : flat_map line_text (line ∷ body) ++ tail ≡ line_text line ++ rest = ap (λ (l : List ℕ). l ++ tail) (flat_map-cons line_text line body) ∙ append_assoc (line_text line) (flat_map line_text body) tail in
    let n = ap length text in
    let few : length rest ≤ lines = omega (arith, n, enough, length-append (line_text line) rest, line_some line) in
    let e = then_some (steps_after now (λ later. steps_of later body)) (effect_of line) steps means in
    ap (lines_at (suc lines) (suc begun) now) text
    ∙ one_line lines begun now (line_text line ++ rest) e.0 rest (rest_is steps scripts) (omega (arith, length-append (line_text line) rest, line_some line)) (line_again forms begun line e.0 rest are.0 e.1)
    (effect_again now lines (suc begun) rest (λ later. steps_of later body) e.0 steps scripts (λ later more is. body_again forms begun tail scripts on body lines later more are.1 is few) e.2)

abbrev AreAllLines : List (List Line) → Type 0
AreAllLines lines = AllByRecursion AreLines lines

script_parts : (body : List Line) (rest : List ℕ) → script_text body ++ rest ≡ codes "worker" ++ (ends_line ++ (flat_map line_text body ++ rest))
script_parts body rest = append_assoc (codes "worker") (ends_line ++ flat_map line_text body) rest

nat_lt_is : (a b : ℕ) → a < b → nat_lt a b ≡ true
nat_lt_is a b lt = grind (arith, lt)

worker_again : (lines begun : ℕ) (now : Moments) (rest : List ℕ) (steps : List Step) (scripts : List (List Step)) → begun < MOST_WORKERS → lines_at lines (suc begun) at_first rest ≡ rest_is steps scripts
    → lines_at (suc lines) begun now (codes "worker" ++ (ends_line ++ rest)) ≡ rest_is [] (steps ∷ scripts)
unfolding lines_at end_at
worker_again lines begun now rest steps scripts few read =
    ap (λ (b : Bool). cond b (Ok rest) (fail reasons.Workers (codes "worker" ++ (ends_line ++ rest))) >>= λ after. lines_at lines (suc begun) at_first after >>= λ more. Ok ([], more.0 ∷ more.1)) (nat_lt_is begun MOST_WORKERS few)
    ∙ ap (λ (r : Result Rest Fault). r >>= λ more. Ok ([], more.0 ∷ more.1)) read

others_again : FormsAgain → (begun : ℕ) (others : List (List Line)) (scripts : List (List Step)) → AreAllLines others → Mean others scripts → begun + length scripts ≤ MOST_WORKERS → ReadOn begun (flat_map script_text others) scripts
unfolding lines_at
others_again forms begun [] [] are means few lines now enough = refl
others_again forms begun [] (steps ∷ scripts) are means few lines now enough = absurd means
others_again forms begun (body ∷ others) [] are means few lines now enough = absurd means
others_again forms begun (body ∷ others) (steps ∷ scripts) are means few zero now enough =
    absurd (omega (arith, enough, ap length (flat_map-cons script_text body others ∙ script_parts body (flat_map script_text others))))
others_again forms begun (body ∷ others) (steps ∷ scripts) are means few (suc lines) now enough =
    let rest = flat_map line_text body ++ flat_map script_text others in
    let text : flat_map script_text (body ∷ others) ≡ codes "worker" ++ (ends_line ++ rest) = flat_map-cons script_text body others ∙ script_parts body (flat_map script_text others) in
    let n = ap length text in
    let fewer : length rest ≤ lines = omega (arith, n, enough) in
    ap (lines_at (suc lines) begun now) text
    ∙ worker_again lines begun now rest steps scripts (omega (arith, few))
    (body_again forms begun (flat_map script_text others) scripts (others_again forms (suc begun) others scripts are.1 means.1 (omega (arith, few))) body lines at_first steps are.0 means.0 fewer)

pub scripts_again : ValuesAgain → (bytes : List ℕ) (scripts : List (List Step)) → AreScripts bytes scripts → scripts_at bytes ≡ Ok scripts
unfolding scripts_at
scripts_again values bytes scripts are =
    let forms = forms_again values (gens_again values) in
    let read : lines_at (length bytes) 0 at_first bytes ≡ rest_is [] scripts = subst (λ (l : List ℕ). lines_at (length l) 0 at_first l ≡ rest_is [] scripts) (sym are.text)
    (others_again forms 0 are.lines scripts are.values are.meaning (omega (arith, are.workers)) (length (flat_map script_text are.lines)) at_first (omega arith)) in
    ap (λ (r : Result Rest Fault). r >>= λ rest. Ok rest.1) read

-- ---- scripts that are read

-- what was read of the lines from here on
pub record IsRest (begun : ℕ) (now : Moments) (bytes : List ℕ) (steps : List Step) (scripts : List (List Step)) : Type 0 where
  pub body : List Line
  pub others : List (List Line)
  pub values : AreLines body
  pub more_values : AreAllLines others
  pub meaning : steps_of now body ≡ Some steps
  pub more_meaning : Mean others scripts
  pub text : bytes ≡ flat_map line_text body ++ flat_map script_text others
  pub few : length scripts ≤ MOST_WORKERS - begun
  -- before the first script there is no line
  pub first : begun ≡ 0 → body ≡ []

no_worker_first : (last bytes : List ℕ) (e : Effect) (rest : List ℕ) → rest_at (Refuse reasons.Line) last bytes ≡ Ok (e, rest) → ⊥
unfolding rest_at
no_worker_first last bytes e rest read = cc

-- a line was read
pub record IsLineTaken (begun : ℕ) (bytes : List ℕ) (e : Effect) (rest : List ℕ) : Type 0 where
  pub line : Line
  pub values : AreArguments line.arguments
  pub meaning : effect_of line ≡ Some e
  pub text : bytes ≡ line_text line ++ rest
  pub some : 1 ≤ begun

line_takes : FormsTake → (begun : ℕ) (bytes : List ℕ) (e : Effect) (rest : List ℕ) → AreSomeBytes bytes → line_at begun bytes ≡ Ok (e, rest) → IsLineTaken begun bytes e rest
line_takes forms zero bytes e rest fits read = absurd (no_worker_first bytes (behind_word bytes) e rest read)
line_takes forms (suc begun) bytes e rest fits read =
    let parts = sym (take-append-drop (word_len bytes) bytes) in
    let said = forms (form_of (line_word bytes)) bytes (behind_word bytes) e rest (bytes_after bytes (line_word bytes) (behind_word bytes) parts fits) read in
    let line : Line = record { word = line_word bytes; arguments = said.arguments } in
    record {
      line = line;
      values = said.values;
      meaning = said.meaning;
      text = parts ∙ (ap (λ (l : List ℕ). line_word bytes ++ l) said.text ∙ sym (line_parts line rest));
      some = omega arith;
    }

worker_takes : (begun : ℕ) (bytes rest : List ℕ) → is_worker bytes ≡ true → worker_at begun bytes ≡ Ok rest → (begun < MOST_WORKERS) × (bytes ≡ codes "worker" ++ (ends_line ++ rest))
worker_takes begun bytes rest word e =
    elim (chosen (nat_lt begun MOST_WORKERS) (end_at (behind_word bytes)) (fail reasons.Workers bytes) (Ok rest) e) [
      | inl p ↦ (lt_is begun MOST_WORKERS p.0, sym (take-append-drop (word_len bytes) bytes) ∙ ap₂ (λ (x y : List ℕ). x ++ y) ((bytes_eq-Decides (line_word bytes) (codes "worker")).0 word) (end_takes (behind_word bytes) rest p.1))
      | inr p ↦ absurd (let h = p.1 in cc)
    ]
  where
    lt_is : (a b : ℕ) → nat_lt a b ≡ true → a < b
    lt_is a b e = grind (arith, e)

line_before : (line : Line) (body : List Line) (bytes rest tail : List ℕ) → bytes ≡ line_text line ++ rest → rest ≡ flat_map line_text body ++ tail → bytes ≡ flat_map line_text (line ∷ body) ++ tail
line_before line body bytes rest tail e1 e2 =
    e1 ∙ (ap (λ (l : List ℕ). line_text line ++ l) e2 ∙ (sym (append_assoc (line_text line) (flat_map line_text body) tail) ∙ ap (λ (l : List ℕ). l ++ tail) (sym (flat_map-cons line_text line body))))

-- the line's effect, before what comes after it
abbrev ReadAfter : ℕ → ℕ → List ℕ → Type 0
ReadAfter lines begun rest = (now : Moments) (steps : List Step) (scripts : List (List Step)) → lines_at lines begun now rest ≡ rest_is steps scripts → IsRest begun now rest steps scripts

line_rest : (begun : ℕ) (now later : Moments) (bytes rest : List ℕ) (e : Effect) (steps more : List Step) (scripts : List (List Step)) → IsLineTaken begun bytes e rest → IsRest begun later rest more scripts
    → ((others : Moments → Option (List Step)) → others later ≡ Some more → steps_after now others e ≡ Some steps) → IsRest begun now bytes steps scripts
line_rest begun now later bytes rest e steps more scripts line after means = record {
  body = line.line ∷ after.body;
  others = after.others;
  values = (line.values, after.values);
  more_values = after.more_values;
  meaning = ap (option_and_then (steps_after now (λ later. steps_of later after.body))) line.meaning ∙ means (λ later. steps_of later after.body) after.meaning;
  more_meaning = after.more_meaning;
  text = line_before line.line after.body bytes rest (flat_map script_text after.others) line.text after.text;
  few = after.few;
  first = λ none. absurd (let some = line.some in omega (arith, some, none));
}

effect_takes : (lines begun : ℕ) (now : Moments) (bytes rest : List ℕ) (e : Effect) (steps : List Step) (scripts : List (List Step)) → IsLineTaken begun bytes e rest → ReadAfter lines begun rest
    → with_effect now (λ later. lines_at lines begun later rest) e ≡ rest_is steps scripts → IsRest begun now bytes steps scripts
effect_takes lines begun now bytes rest (Sets u) steps scripts line after read = line_rest begun now (record now { t = u }) bytes rest (Sets u) steps steps scripts line (after (record now { t = u }) steps scripts read) (λ others is. is)
effect_takes lines begun now bytes rest (Begins u) steps scripts line after read = line_rest begun now (request_moments u) bytes rest (Begins u) steps steps scripts line (after (request_moments u) steps scripts read) (λ others is. is)
effect_takes lines begun now bytes rest (Calls call) steps scripts line after read =
    let a = bind_ok (lines_at lines begun now rest) (λ more. Ok (step_at now call ∷ more.0, more.1)) (steps, scripts) read in
    let is : (step_at now call ∷ a.0.0, a.0.1) ≡ (steps, scripts) = ok_is (step_at now call ∷ a.0.0, a.0.1) (steps, scripts) a.2 in
    subst (λ (r : Rest). IsRest begun now bytes r.0 r.1) is
    (line_rest begun now now bytes rest (Calls call) (step_at now call ∷ a.0.0) a.0.0 a.0.1 line (after now a.0.0 a.0.1 a.1) (λ others is. ap (option_map (λ steps. step_at now call ∷ steps)) is))

worker_rest : (begun : ℕ) (now : Moments) (bytes rest : List ℕ) (steps : List Step) (scripts : List (List Step)) → begun < MOST_WORKERS → bytes ≡ codes "worker" ++ (ends_line ++ rest) → IsRest (suc begun) at_first rest steps scripts → IsRest begun now bytes [] (steps ∷ scripts)
worker_rest begun now bytes rest steps scripts some text after = record {
  body = [];
  others = after.body ∷ after.others;
  values = tt;
  more_values = (after.values, after.more_values);
  meaning = refl;
  more_meaning = (after.meaning, after.more_meaning);
  text = text ∙ (ap (λ (l : List ℕ). codes "worker" ++ (ends_line ++ l)) after.text ∙ (sym (script_parts after.body (flat_map script_text after.others)) ∙ sym (flat_map-cons script_text after.body after.others)));
  few = omega (arith, after.few, some);
  first = λ none. refl;
}

nothing_left : (begun : ℕ) (now : Moments) (steps : List Step) (scripts : List (List Step)) → rest_is [] [] ≡ rest_is steps scripts → IsRest begun now [] steps scripts
nothing_left begun now steps scripts e =
    subst (λ (r : Rest). IsRest begun now [] r.0 r.1) (ok_is ([], []) (steps, scripts) e)
    (record { body = []; others = []; values = tt; more_values = tt; meaning = refl; more_meaning = tt; text = refl; few = omega arith; first = λ none. refl })

lines_take : FormsTake → (lines begun : ℕ) (now : Moments) (bytes : List ℕ) (steps : List Step) (scripts : List (List Step)) → AreSomeBytes bytes → length bytes ≤ lines → lines_at lines begun now bytes ≡ rest_is steps scripts → IsRest begun now bytes steps scripts
unfolding lines_at
lines_take forms zero begun now [] steps scripts fits enough read = nothing_left begun now steps scripts read
lines_take forms (suc lines) begun now [] steps scripts fits enough read = nothing_left begun now steps scripts read
lines_take forms zero begun now (b ∷ bytes) steps scripts fits enough read = absurd (omega arith)
lines_take forms (suc lines) begun now (b ∷ bytes) steps scripts fits enough read =
    elim (chosen (is_worker (b ∷ bytes)) (worker_at begun (b ∷ bytes) >>= λ after. lines_at lines (suc begun) at_first after >>= λ more. Ok ([], more.0 ∷ more.1)) (line_at begun (b ∷ bytes) >>= λ e. with_effect now (λ later. lines_at lines begun later e.1) e.0) (Ok (steps, scripts)) read) [
      | inl p ↦
          let a = bind_ok (worker_at begun (b ∷ bytes)) (λ after. lines_at lines (suc begun) at_first after >>= λ more. Ok ([], more.0 ∷ more.1)) (steps, scripts) p.1 in
          let c = bind_ok (lines_at lines (suc begun) at_first a.0) (λ more. Ok ([], more.0 ∷ more.1)) (steps, scripts) a.2 in
          let w = worker_takes begun (b ∷ bytes) a.0 p.0 a.1 in
          let is : ([], c.0.0 ∷ c.0.1) ≡ (steps, scripts) = ok_is ([], c.0.0 ∷ c.0.1) (steps, scripts) c.2 in
          let n = ap length w.1 in
          let few : length a.0 ≤ lines = omega (arith, n, enough) in
          subst (λ (r : Rest). IsRest begun now (b ∷ bytes) r.0 r.1) is
          (worker_rest begun now (b ∷ bytes) a.0 c.0.0 c.0.1 w.0 w.1 (lines_take forms lines (suc begun) at_first a.0 c.0.0 c.0.1 (bytes_after (b ∷ bytes) (codes "worker\n") a.0 w.1 fits) few c.1))
      | inr p ↦
          let a = bind_ok (line_at begun (b ∷ bytes)) (λ e. with_effect now (λ later. lines_at lines begun later e.1) e.0) (steps, scripts) p.1 in
          let l = line_takes forms begun (b ∷ bytes) a.0.0 a.0.1 fits a.1 in
          let n = ap length l.text in
          let few : length a.0.1 ≤ lines = omega (arith, n, enough, length-append (line_text l.line) a.0.1, line_some l.line) in
          effect_takes lines begun now (b ∷ bytes) a.0.1 a.0.0 steps scripts l (λ later more others read. lines_take forms lines begun later a.0.1 more others (bytes_after (b ∷ bytes) (line_text l.line) a.0.1 l.text fits) few read) a.2
    ]

pub scripts_take : ValuesTake → (bytes : List ℕ) (scripts : List (List Step)) → AreSomeBytes bytes → scripts_at bytes ≡ Ok scripts → AreScripts bytes scripts
unfolding scripts_at
scripts_take values bytes scripts fits e =
    let a = bind_ok (lines_at (length bytes) 0 at_first bytes) (λ rest. Ok rest.1) scripts e in
    let r = lines_take (forms_take values (gens_take values)) (length bytes) 0 at_first bytes a.0.0 a.0.1 fits (omega arith) a.1 in
    let none : r.body ≡ [] = r.first refl in
    subst (AreScripts bytes) (ok_is a.0.1 scripts a.2)
    (record {
      lines = r.others;
      text = r.text ∙ ap (λ (body : List Line). flat_map line_text body ++ flat_map script_text r.others) none;
      values = r.more_values;
      meaning = r.more_meaning;
      workers = omega (arith, r.few);
    })

pub scripts_one : ValuesAgain → (bytes : List ℕ) (a b : List (List Step)) → AreScripts bytes a → AreScripts bytes b → a ≡ b
scripts_one again bytes a b first second = ok_is a b (sym (scripts_again again bytes a first) ∙ scripts_again again bytes b second)
