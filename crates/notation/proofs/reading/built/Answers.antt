use Rattle.std.proofs.Common.{◌≡◌, ◌<◌, ℕ, [], List, length, ap, sym, ◌∙◌, subst, arith, rules}
use Rattle.std.specs.Prelude.{reverse, unwrap_or, ◌∷◌}
use Rattle.std.proofs.lemmas.List.{length-reverse}
use Rattle.std.proofs.lemmas.Result.{err_from_is_err_and}
use Rattle.php_graph.specs.Graph.{levels}
use Rattle.php_graph.specs.Building.{Draft, nothing_drafted}
use Rattle.notation.specs.Reading.{reading_of, value_at}
use Rattle.notation.specs.Outer.{outer_stack}
use Rattle.notation.proofs.OpenContainers.{began, begun_fails, due_value, at_first, fails_then, key_wanted, stack_some, closed_fails, popped, closed_on, keyed_on, key_fails_on}
use Rattle.notation.proofs.reading.built.Goals as goal

pub returns-in_err-count-clause-read : goal.returns-in_err-count-clause-read
unfolding reading_of
returns-in_err-count-clause-read c =
    let p = err_from_is_err_and c.from_residual.result c.from_residual.ensures.1 in
    let total = value_at levels nothing_drafted c.args.bytes.now in
    rw (p.1, p.2) (fails_then c.in_err-count.field-0.0 total _ (begun_fails [] 0 c.new-builder.result c.args.bytes.now c.in_err-count.field-0.0 total c.in_err-count.ensures.read (at_first 0 c.new-builder.result c.args.bytes.now c.new-builder.ensures)))

pub reading-init : goal.reading-init
reading-init c =
    let d = c.new-builder.result in
    let total = value_at levels nothing_drafted c.args.bytes.now in
    let none : 0 ≡ length d.containers = ap (λ (x : Draft). length x.containers) (sym c.new-builder.ensures) in
    let put : outer_stack c.in_ok-count.count 0 [] c.in_ok-members.members (reverse c.enter.new.outer.items) = subst (λ (s : List ℕ). outer_stack c.in_ok-count.count 0 (reverse s) c.in_ok-members.members (reverse c.enter.new.outer.items)) c.new-outer.ensures.items c.in_ok-members.ensures in
    began [] 0 d c.begun.new.builder c.args.bytes.now c.in_ok-count.rest.now c.in_ok-count.count c.in_ok-members.members (reverse c.enter.new.outer.items) total none c.in_ok-count.ensures.room c.in_ok-count.ensures.read c.in_ok-count.ensures.step put (at_first 0 d c.args.bytes.now c.new-builder.ensures)

pub returns-in_err-count-in-Value-clause-read : goal.returns-in_err-count-in-Value-clause-read
unfolding reading_of
returns-in_err-count-in-Value-clause-read c =
    let p = err_from_is_err_and c.from_residual-in_err-count-in-Value.result c.from_residual-in_err-count-in-Value.ensures.1 in
    let total = value_at levels nothing_drafted c.args.bytes.now in
    let stack = reverse c.reading.outer.items in
    rw (p.1, p.2) (fails_then c.in_err-count-in-Value.field-0.0 total _ (begun_fails stack c.reading.members c.reading.builder c.reading.rest.now c.in_err-count-in-Value.field-0.0 total c.in_err-count-in-Value.ensures.read (due_value stack c.reading.members c.reading.builder c.reading.rest.now total (sym c.wants.ensures ∙ c.in-Value.is) c.reading.invariant)))

pub reading-preserved-in-Value : goal.reading-preserved-in-Value
reading-preserved-in-Value c =
    let d = c.reading.builder in
    let total = value_at levels nothing_drafted c.args.bytes.now in
    let stack = reverse c.reading.outer.items in
    let h = c.reading.invariant in
    began stack c.reading.members d c.begun-in-Value.new.builder c.reading.rest.now c.in_ok-count-in-Value.after.now c.in_ok-count-in-Value.count c.in_ok-members-in-Value.members (reverse c.enter-in-Value.new.outer.items) total h.open_are c.in_ok-count-in-Value.ensures.room c.in_ok-count-in-Value.ensures.read c.in_ok-count-in-Value.ensures.step c.in_ok-members-in-Value.ensures (due_value stack c.reading.members d c.reading.rest.now total (sym c.wants.ensures ∙ c.in-Value.is) h)

pub returns-in_err-rest-in_default-clause-read : goal.returns-in_err-rest-in_default-clause-read
unfolding reading_of
returns-in_err-rest-in_default-clause-read c =
    let p = err_from_is_err_and c.from_residual-in_err-rest-in_default.result c.from_residual-in_err-rest-in_default.ensures.1 in
    let total = value_at levels nothing_drafted c.args.bytes.now in
    let w = key_wanted c.wants.result _ c.wants.ensures c.in_default.not-Value c.in_default.not-Done in
    rw (p.1, p.2) (fails_then c.in_err-rest-in_default.field-0.0 total _ (closed_fails (reverse c.reading.outer.items) c.reading.members c.reading.builder c.reading.rest.now c.in_err-rest-in_default.field-0.0 total c.if-members-eq0.true w c.reading.invariant c.in_err-rest-in_default.ensures.read))

pub reading-preserved-then-members-eq0 : goal.reading-preserved-then-members-eq0
reading-preserved-then-members-eq0 c =
    let total = value_at levels nothing_drafted c.args.bytes.now in
    let stack = reverse c.reading.outer.items in
    let w = key_wanted c.wants.result _ c.wants.ensures c.in_default.not-Value c.in_default.not-Done in
    let h = c.reading.invariant in
    let some : 0 < length stack = stack_some stack c.reading.members c.reading.builder c.reading.rest.now total w h in
    let items : 0 < length c.reading.outer.items = omega (arith, some, length-reverse c.reading.outer.items) in
    let top : stack ≡ unwrap_or c.pop.result 0 ∷ reverse c.pop.new.self.items = popped c.reading.outer.items c.pop.new.self.items c.pop.result c.pop.ensures.items (λ lt. c.pop.ensures.variant.1 (search rules)) items in
    let e = c.in_ok-rest-in_default.ensures in
    closed_on stack (reverse c.pop.new.self.items) c.unwrap_or-members.result c.reading.members c.reading.builder c.close.new.builder c.reading.rest.now c.in_ok-rest-in_default.rest.now total
    (top ∙ ap (λ (m : ℕ). m ∷ reverse c.pop.new.self.items) (sym c.unwrap_or-members.ensures)) c.if-members-eq0.true w h e.read e.closes.0 e.closes.1 e.closes.2

pub returns-in_err-rest-in_default-2-clause-read : goal.returns-in_err-rest-in_default-2-clause-read
unfolding reading_of
returns-in_err-rest-in_default-2-clause-read c =
    let p = err_from_is_err_and c.from_residual-in_err-rest-in_default-2.result c.from_residual-in_err-rest-in_default-2.ensures.1 in
    let total = value_at levels nothing_drafted c.args.bytes.now in
    let w = key_wanted c.wants.result _ c.wants.ensures c.in_default.not-Value c.in_default.not-Done in
    let lt : 0 < c.reading.members = omega (arith, c.if-members-eq0.false) in
    rw (p.1, p.2) (fails_then c.in_err-rest-in_default-2.field-0.0 total _ (key_fails_on (reverse c.reading.outer.items) c.reading.members c.reading.builder c.reading.rest.now c.in_err-rest-in_default-2.field-0.0 total lt w c.reading.invariant c.in_err-rest-in_default-2.ensures.read))

pub reading-preserved : goal.reading-preserved
reading-preserved c =
    let total = value_at levels nothing_drafted c.args.bytes.now in
    let w = key_wanted c.wants.result _ c.wants.ensures c.in_default.not-Value c.in_default.not-Done in
    let lt : 0 < c.reading.members = omega (arith, c.if-members-eq0.false) in
    let e = c.in_ok-rest-in_default-2.ensures in
    keyed_on (reverse c.reading.outer.items) c.reading.members c.reading.builder c.key.new.builder c.reading.rest.now c.in_ok-rest-in_default-2.rest.now total lt w c.reading.invariant e.read e.waits.0 e.waits.1 e.waits.2
