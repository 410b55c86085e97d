use Rattle.std.proofs.Common.{◌≡◌, ◌<◌, ◌++◌, [], ◌∷◌, Bool, true, not, if◌then◌else◌, List, length, length-append, sym, ap, ◌∙◌, arith}
use Rattle.std.specs.Prelude.{is_ok}
use Rattle.std.proofs.lemmas.Result.{err_from_is_err_and}
use Rattle.notation.specs.Place.{left}
use Rattle.preload_set.specs.Bundle.{Record}
use Rattle.preload_set.specs.Reading.{bundle_at}
use Rattle.preload_set.proofs.RecordLoop.{some_left, none_left, fewer_left, records_fail, goes_on, is_done}
use Rattle.preload_set.proofs.reading.records.Goals as goal

pub returns-in_err-key : goal.returns-in_err-key
returns-in_err-key c =
    let from = c.reading.from in
    let p = err_from_is_err_and c.from_residual.result c.from_residual.ensures.1 in
    let some : 0 < length (left from) = some_left (left from) c.peek.result c.peek.ensures (sym c.is_some.ensures ∙ c.reading-test.true) in
    rw (p.1, p.2) (records_fail c.in_err-key.field-0.0 c.args.bytes.now from c.record.new.from c.reading.records c.in_err-key.ensures.read c.reading.invariant.bytes some c.reading.invariant.so_far)

pub reading-preserved : goal.reading-preserved
reading-preserved c =
    let from = c.reading.from in
    let to = c.record.new.from in
    let front = c.reading.records in
    let r : Record = (c.in_ok-key.key, c.in_ok-key.value) in
    let kept : is_ok c.push.result ≡ true = c.is_err.ensures.negation ∙ ap not c.if-is_err.false in
    let pushed : c.push.new.self ≡ front ++ r ∷ [] = c.push.ensures ∙ ap (λ (b : Bool). if b then front ++ r ∷ [] else front) kept in
    let some : 0 < length (left from) = some_left (left from) c.peek.result c.peek.ensures (sym c.is_some.ensures ∙ c.reading-test.true) in
    let fewer : length (left to) < length (left from) = fewer_left from to c.in_ok-key.ensures.bytes c.in_ok-key.ensures.on some in
    record {
      so_far = rw pushed (goes_on front (left from) r (left to) (bundle_at c.args.bytes.now) some fewer c.in_ok-key.ensures.read c.reading.invariant.so_far);
      bytes = c.in_ok-key.ensures.bytes ∙ c.reading.invariant.bytes;
      few = omega (arith, c.reading.invariant.few, c.in_ok-key.ensures.on, ap (λ (l : List Record). length l) pushed, length-append front (r ∷ []));
    }

pub returns : goal.returns
returns c =
    let from = c.reading.from in
    let none : length (left from) ≡ 0 = none_left (left from) c.peek.result c.peek.ensures (sym c.is_some.ensures ∙ c.reading-test.false) in
    is_done c.reading.records (left from) (bundle_at c.args.bytes.now) none c.reading.invariant.so_far
