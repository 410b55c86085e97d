-- Lines that are read one after the other, as a loop does.
use Rattle.std.proofs.Common.{◌≡◌, ℕ, zero, suc, ◌+◌, ◌≤◌, ◌<◌, Bool, true, false, cond, List, [], ◌∷◌, ◌++◌, length, take, get_or, Result, Ok, Err, refl, sym, ap, ◌∙◌, append_assoc, length-append, arith}
use Rattle.std.specs.Prelude.{slice_set, codes}
use Rattle.std.specs.Str.{bytes_eq}
use Rattle.std.proofs.lemmas.List.{append-nil}
use Rattle.notation.specs.declared.fault.Fault.{Fault}
use Rattle.notation.specs.Marks.{◌>>=◌}
use Rattle.script_read.specs.declared.call.Call.{Call}
use Rattle.script_read.specs.declared.effect.Effect.{Effect}
use Rattle.script_read.specs.declared.effect.Effect.TheVariants.{Calls}
use Rattle.script_read.specs.declared.effect.Moments.{Moments}
use Rattle.script_read.specs.declared.fault.Stop.{Stop}
use Rattle.script_read.specs.declared.fault.Stop.TheVariants as stops
use Rattle.script_read.specs.declared.script.Step.{Step}
use Rattle.script_read.specs.Clock.{at_first, step_at}
use Rattle.script_read.specs.Reading.{word_len, worker_at, line_at, is_worker, Rest, with_effect, lines_at, scripts_at}
use Rattle.script_read.specs.GrowingScripts.{grown, last_len}
use Rattle.script_read.specs.Gives.{Stops}

-- the scripts that were read, where the last of them goes on
abbrev pub joined : List (List Step) → Rest → List (List Step)
joined [] more = more.1
joined (steps ∷ []) more = (steps ++ more.0) ∷ more.1
joined (steps ∷ next ∷ others) more = steps ∷ joined (next ∷ others) more

abbrev Scripts : Type 0
Scripts = Result (List (List Step)) Fault

abbrev pub with_front : List (List Step) → Result Rest Fault → Scripts
with_front front read = read >>= λ more. Ok (joined front more)

-- what was read before, with what is still read, is the whole
pub record IsSoFar (front : List (List Step)) (now : Moments) (rest : List ℕ) (whole : Scripts) : Type 0 where
  pub lines : ℕ
  pub enough : length rest ≤ lines
  pub reads : with_front front (lines_at lines (length front) now rest) ≡ whole

pub begins : (bytes : List ℕ) → IsSoFar [] at_first bytes (scripts_at bytes)
unfolding scripts_at
begins bytes = record { lines = length bytes; enough = omega arith; reads = refl }

-- ---- scripts that grow

pub one_longer : (front : List (List Step)) → length (front ++ [] ∷ []) ≡ suc (length front)
one_longer front = omega (arith, length-append front ([] ∷ []))

joined_begun : (front : List (List Step)) (more : Rest) → joined front ([], more.0 ∷ more.1) ≡ joined (front ++ [] ∷ []) more
joined_begun [] more = refl
joined_begun (steps ∷ []) more = ap (λ (s : List Step). s ∷ more.0 ∷ more.1) (append-nil steps)
joined_begun (steps ∷ next ∷ others) more = ap (λ (l : List (List Step)). steps ∷ l) (joined_begun (next ∷ others) more)

begun_after : (front : List (List Step)) (read : Result Rest Fault) → with_front front (read >>= λ more. Ok ([], more.0 ∷ more.1)) ≡ with_front (front ++ [] ∷ []) read
begun_after front (Ok more) = ap (λ (l : List (List Step)). Ok l) (joined_begun front more)
begun_after front (Err e) = refl

pub grown_length : (front : List (List Step)) (step : Step) → length (grown front step) ≡ length front
grown_length [] step = refl
grown_length (steps ∷ []) step = refl
grown_length (steps ∷ next ∷ others) step = ap suc (grown_length (next ∷ others) step)

pub grown_last : (front : List (List Step)) (step : Step) → 0 < length front → last_len (grown front step) ≡ last_len front + 1
grown_last [] step some = absurd (omega (arith, some))
grown_last (steps ∷ []) step some = omega (arith, length-append steps (step ∷ []))
grown_last (steps ∷ next ∷ []) step some = omega (arith, length-append next (step ∷ []))
grown_last (steps ∷ next ∷ third ∷ others) step some = grown_last (next ∷ third ∷ others) step (omega arith)

pub begun_last : (front : List (List Step)) → last_len (front ++ [] ∷ []) ≡ 0
begun_last [] = refl
begun_last (steps ∷ []) = refl
begun_last (steps ∷ next ∷ others) = begun_last (next ∷ others)

joined_grown : (front : List (List Step)) (step : Step) (more : Rest) → 0 < length front → joined front (step ∷ more.0, more.1) ≡ joined (grown front step) more
joined_grown [] step more some = absurd (omega (arith, some))
joined_grown (steps ∷ []) step more some = ap (λ (s : List Step). s ∷ more.1) (sym (append_assoc steps (step ∷ []) more.0))
joined_grown (steps ∷ next ∷ []) step more some = ap (λ (l : List (List Step)). steps ∷ l) (joined_grown (next ∷ []) step more (omega arith))
joined_grown (steps ∷ next ∷ third ∷ others) step more some = ap (λ (l : List (List Step)). steps ∷ l) (joined_grown (next ∷ third ∷ others) step more (omega arith))

grown_after : (front : List (List Step)) (step : Step) (read : Result Rest Fault) → 0 < length front → with_front front (read >>= λ more. Ok (step ∷ more.0, more.1)) ≡ with_front (grown front step) read
grown_after front step (Ok more) some = ap (λ (l : List (List Step)). Ok l) (joined_grown front step more some)
grown_after front step (Err e) some = refl

joined_none : (front : List (List Step)) → joined front ([], []) ≡ front
joined_none [] = refl
joined_none (steps ∷ []) = ap (λ (s : List Step). s ∷ []) (append-nil steps)
joined_none (steps ∷ next ∷ others) = ap (λ (l : List (List Step)). steps ∷ l) (joined_none (next ∷ others))

-- ---- one line

abbrev by_worker : ℕ → ℕ → Result (List ℕ) Fault → Result Rest Fault
by_worker lines begun r = r >>= λ after. lines_at lines (suc begun) at_first after >>= λ more. Ok ([], more.0 ∷ more.1)

abbrev by_line : ℕ → ℕ → Moments → Result (Effect × List ℕ) Fault → Result Rest Fault
by_line lines begun now r = r >>= λ e. with_effect now (λ later. lines_at lines begun later e.1) e.0

-- there is a line more
pub record IsLine (front : List (List Step)) (now : Moments) (rest : List ℕ) (whole : Scripts) : Type 0 where
  pub lines : ℕ
  pub enough : length rest ≤ suc lines
  pub reads : with_front front (cond (is_worker rest) (by_worker lines (length front) (worker_at (length front) rest)) (by_line lines (length front) now (line_at (length front) rest))) ≡ whole

line_of : (front : List (List Step)) (now : Moments) (rest : List ℕ) (whole : Scripts) (lines : ℕ) → 0 < length rest → length rest ≤ lines → with_front front (lines_at lines (length front) now rest) ≡ whole → IsLine front now rest whole
unfolding lines_at
line_of front now [] whole lines some enough reads = absurd (omega (arith, some))
line_of front now (b ∷ rest) whole zero some enough reads = absurd (omega (arith, enough))
line_of front now (b ∷ rest) whole (suc lines) some enough reads = record { lines = lines; enough = enough; reads = reads }

a_line : (front : List (List Step)) (now : Moments) (rest : List ℕ) (whole : Scripts) → 0 < length rest → IsSoFar front now rest whole → IsLine front now rest whole
a_line front now rest whole some so_far = line_of front now rest whole so_far.lines some so_far.enough so_far.reads

-- it is one of these
chosen_line : (front : List (List Step)) (b : Bool) (x y : Result Rest Fault) (c : Bool) (whole : Scripts) → b ≡ c → with_front front (cond b x y) ≡ whole → with_front front (cond c x y) ≡ whole
chosen_line front b x y c whole is reads = ap (λ (d : Bool). with_front front (cond d x y)) (sym is) ∙ reads

pub worker_goes_on : (front : List (List Step)) (now : Moments) (rest after : List ℕ) (whole : Scripts) → 0 < length rest → is_worker rest ≡ true → worker_at (length front) rest ≡ Ok after → length after < length rest → IsSoFar front now rest whole → IsSoFar (front ++ [] ∷ []) at_first after whole
worker_goes_on front now rest after whole some word read fewer so_far =
    let l = a_line front now rest whole some so_far in
    let n = length front in
    let here = chosen_line front (is_worker rest) (by_worker l.lines n (worker_at n rest)) (by_line l.lines n now (line_at n rest)) true whole word l.reads in
    let next : with_front front (by_worker l.lines n (Ok after)) ≡ whole = ap (λ (r : Result (List ℕ) Fault). with_front front (by_worker l.lines n r)) (sym read) ∙ here in
    record {
      lines = l.lines;
      enough = omega (arith, l.enough, fewer);
      reads = ap (λ (k : ℕ). with_front (front ++ [] ∷ []) (lines_at l.lines k at_first after)) (one_longer front) ∙ (sym (begun_after front (lines_at l.lines (suc n) at_first after)) ∙ next);
    }

line_read : (front : List (List Step)) (now : Moments) (rest : List ℕ) (whole : Scripts) (l : IsLine front now rest whole) (r : Result (Effect × List ℕ) Fault) → is_worker rest ≡ false → line_at (length front) rest ≡ r → with_front front (by_line l.lines (length front) now r) ≡ whole
line_read front now rest whole l r word read =
    ap (λ (x : Result (Effect × List ℕ) Fault). with_front front (by_line l.lines (length front) now x)) (sym read)
    ∙ chosen_line front (is_worker rest) (by_worker l.lines (length front) (worker_at (length front) rest)) (by_line l.lines (length front) now (line_at (length front) rest)) false whole word l.reads

-- a line that is no call leads on to the moments of the lines after it
abbrev IsTiming : Moments → Effect → Moments → Type 0
IsTiming now e later = (others : Moments → Result Rest Fault) → with_effect now others e ≡ others later

pub moment_goes_on : (front : List (List Step)) (now later : Moments) (e : Effect) (rest after : List ℕ) (whole : Scripts) → 0 < length rest → is_worker rest ≡ false → line_at (length front) rest ≡ Ok (e, after) → length after < length rest → IsTiming now e later → IsSoFar front now rest whole → IsSoFar front later after whole
moment_goes_on front now later e rest after whole some word read fewer times so_far =
    let l = a_line front now rest whole some so_far in
    record {
      lines = l.lines;
      enough = omega (arith, l.enough, fewer);
      reads = ap (with_front front) (sym (times (λ m. lines_at l.lines (length front) m after))) ∙ line_read front now rest whole l (Ok (e, after)) word read;
    }

pub call_goes_on : (front : List (List Step)) (now : Moments) (call : Call) (rest after : List ℕ) (whole : Scripts) → 0 < length front → 0 < length rest → is_worker rest ≡ false → line_at (length front) rest ≡ Ok (Calls call, after) → length after < length rest → IsSoFar front now rest whole
    → IsSoFar (grown front (step_at now call)) now after whole
call_goes_on front now call rest after whole begun some word read fewer so_far =
    let l = a_line front now rest whole some so_far in
    let step : Step = step_at now call in
    record {
      lines = l.lines;
      enough = omega (arith, l.enough, fewer);
      reads = ap (λ (k : ℕ). with_front (grown front step) (lines_at l.lines k now after)) (grown_length front step)
          ∙ (sym (grown_after front step (lines_at l.lines (length front) now after) begun) ∙ line_read front now rest whole l (Ok (Calls call, after)) word read);
    }

-- a line was at fault
pub worker_fails : (e : Stop) (front : List (List Step)) (now : Moments) (rest : List ℕ) (whole : Scripts) → 0 < length rest → is_worker rest ≡ true → Stops e (worker_at (length front) rest) → IsSoFar front now rest whole → Stops e whole
worker_fails stops.Memory front now rest whole some word stop so_far = tt
worker_fails (stops.Fault f) front now rest whole some word stop so_far =
    let l = a_line front now rest whole some so_far in
    let n = length front in
    let here = chosen_line front (is_worker rest) (by_worker l.lines n (worker_at n rest)) (by_line l.lines n now (line_at n rest)) true whole word l.reads in
    sym here ∙ ap (λ (r : Result (List ℕ) Fault). with_front front (by_worker l.lines n r)) stop

pub line_fails : (e : Stop) (front : List (List Step)) (now : Moments) (rest : List ℕ) (whole : Scripts) → 0 < length rest → is_worker rest ≡ false → Stops e (line_at (length front) rest) → IsSoFar front now rest whole → Stops e whole
line_fails stops.Memory front now rest whole some word stop so_far = tt
line_fails (stops.Fault f) front now rest whole some word stop so_far =
    let l = a_line front now rest whole some so_far in
    sym (line_read front now rest whole l (Err f) word stop)

-- no line is left
ends_at : (front : List (List Step)) (lines : ℕ) (now : Moments) (rest : List ℕ) (whole : Scripts) → length rest ≡ 0 → with_front front (lines_at lines (length front) now rest) ≡ whole → whole ≡ Ok front
unfolding lines_at
ends_at front zero now [] whole no_more reads = sym reads ∙ ap (λ (l : List (List Step)). Ok l) (joined_none front)
ends_at front (suc lines) now [] whole no_more reads = sym reads ∙ ap (λ (l : List (List Step)). Ok l) (joined_none front)
ends_at front lines now (b ∷ rest) whole no_more reads = absurd (omega (arith, no_more))

pub is_done : (front : List (List Step)) (now : Moments) (rest : List ℕ) (whole : Scripts) → length rest ≡ 0 → IsSoFar front now rest whole → whole ≡ Ok front
is_done front now rest whole no_more so_far = ends_at front so_far.lines now rest whole no_more so_far.reads

-- ---- the last script grows in its place

pub last_is : (front : List (List Step)) (i : ℕ) (d : List Step) → suc i ≡ length front → length (get_or front i d) ≡ last_len front
last_is [] i d len = absurd (omega (arith, len))
last_is (steps ∷ []) zero d len = refl
last_is (steps ∷ []) (suc i) d len = absurd (omega (arith, len))
last_is (steps ∷ next ∷ others) zero d len = absurd (omega (arith, len))
last_is (steps ∷ next ∷ others) (suc i) d len = last_is (next ∷ others) i d (omega (arith, len))

set_grown : (front : List (List Step)) (i : ℕ) (d : List Step) (step : Step) → suc i ≡ length front → slice_set front i (get_or front i d ++ step ∷ []) ≡ grown front step
set_grown [] i d step len = absurd (omega (arith, len))
set_grown (steps ∷ []) zero d step len = refl
set_grown (steps ∷ []) (suc i) d step len = absurd (omega (arith, len))
set_grown (steps ∷ next ∷ others) zero d step len = absurd (omega (arith, len))
set_grown (steps ∷ next ∷ others) (suc i) d step len = ap (λ (l : List (List Step)). steps ∷ l) (set_grown (next ∷ others) i d step (omega (arith, len)))

set_same : (front : List (List Step)) (i : ℕ) (d : List Step) → suc i ≡ length front → slice_set front i (get_or front i d) ≡ front
set_same [] i d len = absurd (omega (arith, len))
set_same (steps ∷ []) zero d len = refl
set_same (steps ∷ []) (suc i) d len = absurd (omega (arith, len))
set_same (steps ∷ next ∷ others) zero d len = absurd (omega (arith, len))
set_same (steps ∷ next ∷ others) (suc i) d len = ap (λ (l : List (List Step)). steps ∷ l) (set_same (next ∷ others) i d (omega (arith, len)))

pub added : (items now : List (List Step)) (i : ℕ) (last new : List Step) (step : Step) (done : Bool) → items ≡ now → suc i ≡ length items → last ≡ get_or items i last → new ≡ cond done (last ++ step ∷ []) last → slice_set items i new ≡ cond done (grown now step) now
added items now i last new step true are len there is =
    ap (slice_set items i) (is ∙ ap (λ (l : List Step). l ++ step ∷ []) there) ∙ (set_grown items i last step len ∙ ap (λ (l : List (List Step)). grown l step) are)
added items now i last new step false are len there is = ap (slice_set items i) (is ∙ there) ∙ (set_same items i last len ∙ are)

-- the word that a line begins with is `worker`, or is not
pub word_is : (rest front : List ℕ) (n : ℕ) (result b : Bool) → front ≡ take n rest → n ≡ word_len rest → result ≡ bytes_eq front (codes "worker") → result ≡ b → is_worker rest ≡ b
word_is rest front n result b cut len is are =
    ap (λ (w : List ℕ). bytes_eq w (codes "worker")) (sym (cut ∙ ap (λ (k : ℕ). take k rest) len)) ∙ (sym is ∙ are)
