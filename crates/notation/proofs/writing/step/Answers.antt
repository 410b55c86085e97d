use Rattle.std.proofs.Common.{◌≡◌, ◌-◌, ◌++◌, ◌∷◌, suc, ℕ, List, length, refl, sym, subst, ap, ◌∙◌, arith, add-one, []}
use Rattle.std.specs.Prelude.{reverse, slice_get}
use Rattle.std.proofs.lemmas.List.{length-reverse}
use Rattle.php_graph.specs.declared.child.Child.{Child}
use Rattle.php_graph.specs.Graph.{levels}
use Rattle.notation.specs.Parts.{members_of}
use Rattle.notation.specs.Writing.{EndsSomewhere, IsChildBegun}
use Rattle.notation.proofs.WriterTexts.{some_member, no_member, end_made, member_next, member_made, on_ok, pushed_len}
use Rattle.notation.proofs.writing.step.Goals as goal

pub put_child-requires-clause-ends : goal.put_child-requires-clause-ends
put_child-requires-clause-ends c =
    let g = c.args.g.now in
    let kind = c.kind.result.now in
    let frames = c.args.frames.now.items in
    let m = some_member (slice_get (members_of kind) c.args.frame.next) c.in_ok-put_key_of.field-0 c.in-Some.child _ _ c.in-Some.is c.in_ok-put_key_of.ensures.ok in
    let n = member_next g kind c.args.frame (reverse frames) m.member c.kind.ensures m.there c.requires.begun in
    let len : suc (length (reverse frames)) ≡ length c.push-in-Some.new.self.items = omega (arith, length-reverse frames, pushed_len c.push-in-Some.new.self.items frames _ c.in_ok-push-in-Some.ensures.items) in
    subst (λ (k : ℕ). EndsSomewhere (levels - k) g c.in-Some.child) len (subst (λ (x : Child). EndsSomewhere (levels - suc (length (reverse frames))) g x) m.held n.here)

pub returns-in-None-clause-ok : goal.returns-in-None-clause-ok
returns-in-None-clause-ok c =
    let g = c.args.g.now in
    let kind = c.kind.result.now in
    let n = no_member (slice_get (members_of kind) c.args.frame.next) c.in_ok-put_key_of.field-0 c.args.out.now c.put_key_of.new.out c.in-None.is c.in_ok-put_key_of.ensures.ok in
    on_ok c.push.result (λ is. end_made c.args.base g kind c.args.frame (reverse c.args.frames.now.items) c.args.out.now c.push.new.self c.kind.ensures n.0 c.requires.begun (is ∙ ap (λ (t : List ℕ). t ++ 125 ∷ []) n.1)) c.push.ensures.ok

pub returns-in_ok-push-in-Some-clause-ok : goal.returns-in_ok-push-in-Some-clause-ok
returns-in_ok-push-in-Some-clause-ok c =
    let g = c.args.g.now in
    let kind = c.kind.result.now in
    let frames = c.args.frames.now.items in
    let m = some_member (slice_get (members_of kind) c.args.frame.next) c.in_ok-put_key_of.field-0 c.in-Some.child c.args.out.now c.put_key_of.new.out c.in-Some.is c.in_ok-put_key_of.ensures.ok in
    on_ok c.put_child.result (λ h. member_made c.args.base g kind c.args.frame _ frames c.push-in-Some.new.self.items (reverse c.put_child.new.frames.items) m.member c.args.out.now c.put_key_of.new.out c.put_child.new.out c.kind.ensures m.there c.requires.begun m.key refl (add-one c.args.frame.next) c.in_ok-push-in-Some.ensures.items
    (subst (λ (x : Child). IsChildBegun c.args.base g x (reverse c.push-in-Some.new.self.items) (reverse c.put_child.new.frames.items) c.put_key_of.new.out c.put_child.new.out) (sym m.held) h)) c.put_child.ensures.ok
