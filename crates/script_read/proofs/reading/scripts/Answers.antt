use Rattle.std.proofs.Common.{◌≡◌, ◌<◌, ℕ, List, length, Ok, true, false, refl, sym, ap, subst, ◌∙◌, arith}
use Rattle.std.specs.Prelude.{Result}
use Rattle.std.proofs.lemmas.Result.{err_from_is_err_and}
use Rattle.notation.specs.declared.fault.Fault.{Fault}
use Rattle.script_read.specs.declared.effect.Effect.{Effect}
use Rattle.script_read.specs.declared.effect.Effect.TheVariants.{Sets, Begins, Calls}
use Rattle.script_read.specs.declared.script.Step.{Step}
use Rattle.script_read.specs.Clock.{at_first, request_moments}
use Rattle.script_read.specs.GrowingScripts.{grown, last_len}
use Rattle.script_read.specs.Reading.{is_worker, worker_at, line_at, scripts_at}
use Rattle.script_read.specs.Gives.{Stops, IsInRange}
use Rattle.script_read.proofs.LineLoop.{IsSoFar, begins, one_longer, begun_last, grown_length, grown_last, worker_goes_on, moment_goes_on, call_goes_on, worker_fails, line_fails, is_done, word_is}
use Rattle.script_read.proofs.reading.scripts.Goals as goal

abbrev was_read : List ℕ → Effect → Result (Effect × List ℕ) Fault
was_read rest e = Ok (e, rest)

pub loop-rest-init : goal.loop-rest-init
loop-rest-init c = record {
  so_far = subst (λ (l : List (List Step)). IsSoFar l at_first c.args.bytes.now (scripts_at c.args.bytes.now)) (sym c.new-scripts.ensures) (begins c.args.bytes.now);
  soon = (omega arith, omega arith);
  few = omega (arith, ap last_len c.new-scripts.ensures);
  workers = omega (arith, ap length c.new-scripts.ensures);
}

pub returns-in_err-rest : goal.returns-in_err-rest
returns-in_err-rest c =
    let rest = c.loop-rest.rest.now in
    let some : 0 < length rest = grind arith in
    let word : is_worker rest ≡ true = word_is rest c.split_at.result.0.now c.word_len.result c.is_word.result true c.split_at.ensures.front c.word_len.ensures.len c.is_word.ensures c.if-is_word.true in
    let p = err_from_is_err_and c.from_residual.result c.from_residual.ensures.1 in
    record {
      read = rw (p.1, p.2) (worker_fails c.in_err-rest.field-0.0 c.loop-rest.scripts c.loop-rest.moments rest (scripts_at c.args.bytes.now) some word
          (subst (λ (n : ℕ). Stops c.in_err-rest.field-0.0 (worker_at n rest)) c.len.ensures c.in_err-rest.ensures.read) c.loop-rest.invariant.so_far);
    }

pub loop-rest-preserved-then-is_word : goal.loop-rest-preserved-then-is_word
loop-rest-preserved-then-is_word c =
    let rest = c.loop-rest.rest.now in
    let after = c.in_ok-rest.rest.now in
    let front = c.loop-rest.scripts in
    let whole = scripts_at c.args.bytes.now in
    let some : 0 < length rest = grind arith in
    let word : is_worker rest ≡ true = word_is rest c.split_at.result.0.now c.word_len.result c.is_word.result true c.split_at.ensures.front c.word_len.ensures.len c.is_word.ensures c.if-is_word.true in
    let fewer : length after < length rest = omega (arith, c.in_ok-rest.ensures.fewer, c.split_at.ensures.back_len) in
    let read : worker_at (length front) rest ≡ Ok after = subst (λ (n : ℕ). worker_at n rest ≡ Ok after) c.len.ensures c.in_ok-rest.ensures.read in
    record {
      so_far = subst (λ (l : List (List Step)). IsSoFar l at_first after whole) (sym c.in_ok-begin.ensures) (worker_goes_on front c.loop-rest.moments rest after whole some word read fewer c.loop-rest.invariant.so_far);
      soon = (omega arith, omega arith);
      few = omega (arith, ap last_len c.in_ok-begin.ensures, begun_last front, fewer, c.loop-rest.invariant.few);
      workers = omega (arith, ap length c.in_ok-begin.ensures, one_longer front, c.in_ok-rest.ensures.few, c.len.ensures);
    }

pub returns-in_err-effect : goal.returns-in_err-effect
returns-in_err-effect c =
    let rest = c.loop-rest.rest.now in
    let some : 0 < length rest = grind arith in
    let word : is_worker rest ≡ false = word_is rest c.split_at.result.0.now c.word_len.result c.is_word.result false c.split_at.ensures.front c.word_len.ensures.len c.is_word.ensures c.if-is_word.false in
    let p = err_from_is_err_and c.from_residual-in_err-effect.result c.from_residual-in_err-effect.ensures.1 in
    record {
      read = rw (p.1, p.2) (line_fails c.in_err-effect.field-0.0 c.loop-rest.scripts c.loop-rest.moments rest (scripts_at c.args.bytes.now) some word
          (subst (λ (n : ℕ). Stops c.in_err-effect.field-0.0 (line_at n rest)) c.len-else-is_word.ensures c.in_err-effect.ensures.read) c.loop-rest.invariant.so_far);
    }

pub loop-rest-preserved-in-Sets : goal.loop-rest-preserved-in-Sets
loop-rest-preserved-in-Sets c =
    let rest = c.loop-rest.rest.now in
    let after = c.in_ok-effect.after.now in
    let front = c.loop-rest.scripts in
    let whole = scripts_at c.args.bytes.now in
    let some : 0 < length rest = grind arith in
    let word : is_worker rest ≡ false = word_is rest c.split_at.result.0.now c.word_len.result c.is_word.result false c.split_at.ensures.front c.word_len.ensures.len c.is_word.ensures c.if-is_word.false in
    let fewer : length after < length rest = omega (arith, c.in_ok-effect.ensures.fewer, c.split_at.ensures.back_len) in
    let read : line_at (length front) rest ≡ Ok (Sets c.in-Sets.t, after) = subst (λ (n : ℕ). line_at n rest ≡ was_read after c.in_ok-effect.effect) c.len-else-is_word.ensures c.in_ok-effect.ensures.read ∙ ap (was_read after) c.in-Sets.is in
    record {
      so_far = moment_goes_on front c.loop-rest.moments (record c.loop-rest.moments { t = c.in-Sets.t }) (Sets c.in-Sets.t) rest after whole some word read fewer (λ others. refl) c.loop-rest.invariant.so_far;
      soon = (subst IsInRange c.in-Sets.is c.in_ok-effect.ensures.range, c.loop-rest.invariant.soon.1);
      few = omega (arith, fewer, c.loop-rest.invariant.few);
      workers = c.loop-rest.invariant.workers;
    }

pub loop-rest-preserved-in-Begins : goal.loop-rest-preserved-in-Begins
loop-rest-preserved-in-Begins c =
    let rest = c.loop-rest.rest.now in
    let after = c.in_ok-effect.after.now in
    let front = c.loop-rest.scripts in
    let whole = scripts_at c.args.bytes.now in
    let some : 0 < length rest = grind arith in
    let word : is_worker rest ≡ false = word_is rest c.split_at.result.0.now c.word_len.result c.is_word.result false c.split_at.ensures.front c.word_len.ensures.len c.is_word.ensures c.if-is_word.false in
    let fewer : length after < length rest = omega (arith, c.in_ok-effect.ensures.fewer, c.split_at.ensures.back_len) in
    let read : line_at (length front) rest ≡ Ok (Begins c.in-Begins.t, after) = subst (λ (n : ℕ). line_at n rest ≡ was_read after c.in_ok-effect.effect) c.len-else-is_word.ensures c.in_ok-effect.ensures.read ∙ ap (was_read after) c.in-Begins.is in
    record {
      so_far = moment_goes_on front c.loop-rest.moments (request_moments c.in-Begins.t) (Begins c.in-Begins.t) rest after whole some word read fewer (λ others. refl) c.loop-rest.invariant.so_far;
      soon = (subst IsInRange c.in-Begins.is c.in_ok-effect.ensures.range, subst IsInRange c.in-Begins.is c.in_ok-effect.ensures.range);
      few = omega (arith, fewer, c.loop-rest.invariant.few);
      workers = c.loop-rest.invariant.workers;
    }

pub loop-rest-preserved : goal.loop-rest-preserved
loop-rest-preserved c =
    let rest = c.loop-rest.rest.now in
    let after = c.in_ok-effect.after.now in
    let front = c.loop-rest.scripts in
    let whole = scripts_at c.args.bytes.now in
    let step = c.step.result in
    let some : 0 < length rest = grind arith in
    let begun : 0 < length front = omega (arith, c.in_ok-effect.ensures.some, c.len-else-is_word.ensures) in
    let word : is_worker rest ≡ false = word_is rest c.split_at.result.0.now c.word_len.result c.is_word.result false c.split_at.ensures.front c.word_len.ensures.len c.is_word.ensures c.if-is_word.false in
    let fewer : length after < length rest = omega (arith, c.in_ok-effect.ensures.fewer, c.split_at.ensures.back_len) in
    let read : line_at (length front) rest ≡ Ok (Calls c.in-Calls.call, after) = subst (λ (n : ℕ). line_at n rest ≡ was_read after c.in_ok-effect.effect) c.len-else-is_word.ensures c.in_ok-effect.ensures.read ∙ ap (was_read after) c.in-Calls.is in
    record {
      so_far = subst (λ (l : List (List Step)). IsSoFar l c.loop-rest.moments after whole) (sym c.in_ok-add-in-Calls.ensures)
          (subst (λ (s : Step). IsSoFar (grown front s) c.loop-rest.moments after whole) (sym c.step.ensures) (call_goes_on front c.loop-rest.moments c.in-Calls.call rest after whole begun some word read fewer c.loop-rest.invariant.so_far));
      soon = c.loop-rest.invariant.soon;
      few = omega (arith, fewer, c.loop-rest.invariant.few, ap last_len c.in_ok-add-in-Calls.ensures, grown_last front step begun);
      workers = omega (arith, c.loop-rest.invariant.workers, ap length c.in_ok-add-in-Calls.ensures, grown_length front step);
    }

pub returns : goal.returns
returns c =
    let none : length c.loop-rest.rest.now ≡ 0 = grind arith in
    record { read = is_done c.loop-rest.scripts c.loop-rest.moments c.loop-rest.rest.now (scripts_at c.args.bytes.now) none c.loop-rest.invariant.so_far }
