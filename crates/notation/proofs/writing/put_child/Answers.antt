use Rattle.std.proofs.Common.{◌-◌, ◌+◌, codes, ◌++◌, ℕ, length, refl, sym, subst, ap, ◌∙◌}
use Rattle.std.specs.Prelude.{reverse}
use Rattle.std.specs.Fmt.{decimal}
use Rattle.php_graph.specs.declared.child.Child.{Child}
use Rattle.php_graph.specs.Graph.{levels}
use Rattle.notation.specs.Writing.{EndsSomewhere, IsChildBegun}
use Rattle.notation.proofs.WriterTexts.{back_begun, plain_begun, container_begun, own_of, place_there, on_ok}
use Rattle.notation.proofs.writing.put_child.Goals as goal

pub kind-requires-clause-from_one : goal.kind-requires-clause-from_one
kind-requires-clause-from_one c =
    let g = c.args.g.now in
    let k = length c.args.frames.now.items in
    let e = subst (EndsSomewhere (levels - k) g) c.in-Own.is c.requires.ends in
    let o = own_of k 0 g c.in-Own.x e in
    (place_there g c.in-Own.x o.kind o.there).0

pub kind-requires-clause-there : goal.kind-requires-clause-there
kind-requires-clause-there c =
    let g = c.args.g.now in
    let k = length c.args.frames.now.items in
    let e = subst (EndsSomewhere (levels - k) g) c.in-Own.is c.requires.ends in
    let o = own_of k 0 g c.in-Own.x e in
    (place_there g c.in-Own.x o.kind o.there).1

pub returns-in-Back-clause-ok : goal.returns-in-Back-clause-ok
returns-in-Back-clause-ok c =
    let g = c.args.g.now in
    let frames = c.args.frames.now.items in
    let e = subst (EndsSomewhere (levels - length frames) g) c.in-Back.is c.requires.ends in
    on_ok c.put_number.result (λ is. subst (λ (child : Child). IsChildBegun c.args.base g child (reverse frames) (reverse frames) c.args.out.now c.put_number.new.out) (sym c.in-Back.is) (back_begun c.args.base g c.in-Back.x frames c.args.out.now c.put_number.new.out e (is ∙ ap (λ (n : ℕ). c.args.out.now ++ (codes "R:" ++ decimal (n + c.args.base) ++ codes ";")) c.from.ensures))) c.put_number.ensures.ok

pub returns-in_ok-push-in-Own-clause-ok : goal.returns-in_ok-push-in-Own-clause-ok
returns-in_ok-push-in-Own-clause-ok c =
    let g = c.args.g.now in
    let frames = c.args.frames.now.items in
    let e = subst (EndsSomewhere (levels - length frames) g) c.in-Own.is c.requires.ends in
    let s = c.in_ok-put_start-in-Own.ensures.ok in
    subst (λ (child : Child). IsChildBegun c.args.base g child (reverse frames) (reverse c.push.new.self.items) c.args.out.now c.put_start.new.out) (sym c.in-Own.is)
    (container_begun c.args.base g c.in-Own.x c.kind.result.now frames c.push.new.self.items _ c.args.out.now c.put_start.new.out e c.kind.ensures (sym s.1 ∙ c.if-branch.true) s.0 refl refl c.in_ok-push-in-Own.ensures.items)

pub returns-else-branch-clause-ok : goal.returns-else-branch-clause-ok
returns-else-branch-clause-ok c =
    let g = c.args.g.now in
    let frames = c.args.frames.now.items in
    let e = subst (EndsSomewhere (levels - length frames) g) c.in-Own.is c.requires.ends in
    let s = c.in_ok-put_start-in-Own.ensures.ok in
    subst (λ (child : Child). IsChildBegun c.args.base g child (reverse frames) (reverse frames) c.args.out.now c.put_start.new.out) (sym c.in-Own.is)
    (plain_begun c.args.base g c.in-Own.x c.kind.result.now frames c.args.out.now c.put_start.new.out e c.kind.ensures (sym s.1 ∙ c.if-branch.false) s.0)
