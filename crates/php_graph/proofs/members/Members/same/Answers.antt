use Rattle.std.proofs.Common.{◌∙◌, sym}
use Rattle.php_graph.proofs.EqualLemmas.{members_decide}
use Rattle.php_graph.proofs.members.Members.same.Goals as goal

pub returns : goal.returns
returns c =
    let d = members_decide c.self.inside.items.items c.other.inside.items.items in
    (λ e. sym c.self.view_is ∙ d.0 (sym c.eq.ensures ∙ e) ∙ c.other.view_is, λ e. c.eq.ensures ∙ d.1 (c.self.view_is ∙ e ∙ sym c.other.view_is))
