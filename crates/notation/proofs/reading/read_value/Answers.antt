use Rattle.std.proofs.Common.{◌≡◌, ◌≤◌, ◌++◌, ℕ, List, Ok, Err, refl, subst, drop, length, length-append, sym, ap, ◌∙◌, arith}
use Rattle.std.specs.Prelude.{Result}
use Rattle.php_graph.specs.declared.kind.Kind.{Kind}
use Rattle.notation.specs.declared.fault.Fault.{Fault}
use Rattle.notation.specs.Notation.{text_of}
use Rattle.notation.specs.Place.{left}
use Rattle.notation.specs.Reading.{reading_of}
use Rattle.notation.proofs.ValueTexts.{reading_takes, advance}
use Rattle.notation.proofs.ValueReadBack.{answered, spelled_read}
use Rattle.notation.proofs.Bounds.{fault_within}
use Rattle.std.proofs.lemmas.List.{length-drop}
use Rattle.notation.specs.Marks.{Fails}
use Rattle.notation.specs.declared.fault.Stop.{Stop}
use Rattle.notation.specs.declared.fault.Stop.TheVariants as stops
use Rattle.notation.proofs.reading.read_value.Goals as goal

abbrev was_read : List Kind × List ℕ → Result (List Kind × List ℕ) Fault
was_read p = Ok p

pub leave-requires : goal.leave-requires
leave-requires c =
    let t = reading_takes c.integer_texts.ensures.written c.rest-bytes.result.now c.in-Ok.graph c.in-Ok.rest.now c.in-Ok.ensures.sealed c.in-Ok.ensures.read in
    omega (arith, ap length t, length-append (text_of c.in-Ok.graph) c.in-Ok.rest.now, ap length c.rest-bytes.ensures.rest)

pub returns-in-Ok-clause-read : goal.returns-in-Ok-clause-read
returns-in-Ok-clause-read c =
    let from = c.args.from.now in
    let t = reading_takes c.integer_texts.ensures.written c.rest-bytes.result.now c.in-Ok.graph c.in-Ok.rest.now c.in-Ok.ensures.sealed c.in-Ok.ensures.read in
    let a = advance from.bytes from.place c.leave.new.self.place (text_of c.in-Ok.graph) c.in-Ok.rest.now c.rest-bytes.ensures.within (sym c.rest-bytes.ensures.rest ∙ t) c.leave.ensures.place in
    let left-is : left c.leave.new.self ≡ c.in-Ok.rest.now = ap (λ (l : List ℕ). drop c.leave.new.self.place l) c.leave.ensures.bytes ∙ a.left_is in
    ap reading_of (sym c.rest-bytes.ensures.rest) ∙ c.in-Ok.ensures.read ∙ ap (λ (l : List ℕ). was_read (c.in-Ok.graph, l)) (sym left-is)

pub returns-in-Ok-clause-found : goal.returns-in-Ok-clause-found
returns-in-Ok-clause-found c =
    let from = c.args.from.now in
    let t = reading_takes c.integer_texts.ensures.written c.rest-bytes.result.now c.in-Ok.graph c.in-Ok.rest.now c.in-Ok.ensures.sealed c.in-Ok.ensures.read in
    let a = advance from.bytes from.place c.leave.new.self.place (text_of c.in-Ok.graph) c.in-Ok.rest.now c.rest-bytes.ensures.within (sym c.rest-bytes.ensures.rest ∙ t) c.leave.ensures.place in
    let left-is : left c.leave.new.self ≡ c.in-Ok.rest.now = ap (λ (l : List ℕ). drop c.leave.new.self.place l) c.leave.ensures.bytes ∙ a.left_is in
    record {
      text = text_of c.in-Ok.graph;
      spelled = record { graph = c.in-Ok.ensures.sealed; text = refl };
      there = sym c.rest-bytes.ensures.rest ∙ t ∙ ap (λ (l : List ℕ). text_of c.in-Ok.graph ++ l) (sym left-is);
    }

pub returns-in-Ok-clause-place : goal.returns-in-Ok-clause-place
returns-in-Ok-clause-place c =
    let from = c.args.from.now in
    let t = reading_takes c.integer_texts.ensures.written c.rest-bytes.result.now c.in-Ok.graph c.in-Ok.rest.now c.in-Ok.ensures.sealed c.in-Ok.ensures.read in
    (advance from.bytes from.place c.leave.new.self.place (text_of c.in-Ok.graph) c.in-Ok.rest.now c.rest-bytes.ensures.within (sym c.rest-bytes.ensures.rest ∙ t) c.leave.ensures.place).place

pub returns-in-Ok-clause-only : goal.returns-in-Ok-clause-only
returns-in-Ok-clause-only c = λ g rest graph text. answered c.integer_texts.ensures.read g c.args.from.now c.leave.new.self rest (Ok c.in-Ok.graph) graph (c.graphs_are_written.ensures g graph) text (returns-in-Ok-clause-read c)

pub returns-in-Err-Fault-clause-only : goal.returns-in-Err-Fault-clause-only
returns-in-Err-Fault-clause-only c = λ g rest graph text.
    let fails : Fails (stops.Fault c.in-Err-Fault.fault) (reading_of c.rest-bytes.result.now) = subst (λ (s : Stop). Fails s (reading_of c.rest-bytes.result.now)) c.in-Err-Fault.field-0-is c.in-Err-Fault.ensures.read in
    let clash : was_read (g, rest) ≡ Err c.in-Err-Fault.fault = sym (spelled_read c.integer_texts.ensures.read g rest graph (c.graphs_are_written.ensures g graph)) ∙ ap reading_of (sym text ∙ sym c.rest-bytes.ensures.rest) ∙ fails in
    absurd cc

pub place_before-requires : goal.place_before-requires
place_before-requires c =
    let from = c.args.from.now in
    let fault = c.in-Err-Fault.fault in
    let fails : Fails (stops.Fault fault) (reading_of c.rest-bytes.result.now) = subst (λ (s : Stop). Fails s (reading_of c.rest-bytes.result.now)) c.in-Err-Fault.field-0-is c.in-Err-Fault.ensures.read in
    let here : reading_of (left from) ≡ Err fault = ap reading_of (sym c.rest-bytes.ensures.rest) ∙ fails in
    omega (arith, fault_within (left from) fault here, length-drop from.place from.bytes)

pub returns-in-Err-Fault-clause-read : goal.returns-in-Err-Fault-clause-read
returns-in-Err-Fault-clause-read c =
    let from = c.args.from.now in
    let fault = c.in-Err-Fault.fault in
    let fails : Fails (stops.Fault fault) (reading_of c.rest-bytes.result.now) = subst (λ (s : Stop). Fails s (reading_of c.rest-bytes.result.now)) c.in-Err-Fault.field-0-is c.in-Err-Fault.ensures.read in
    let here : reading_of (left from) ≡ Err fault = ap reading_of (sym c.rest-bytes.ensures.rest) ∙ fails in
    let within : fault.left ≤ length (left from) = fault_within (left from) fault here in
    (fault, here, refl, omega (arith, within, c.place_before.ensures, length-drop from.place from.bytes))
