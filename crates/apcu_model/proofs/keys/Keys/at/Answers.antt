use Rattle.std.proofs.Common.{◌<◌, ◌∙◌, ℕ, List, length, slice_get, refl, sym, ap, subst}
use Rattle.std.proofs.lemmas.Option.{slice_get_read}
use Rattle.apcu_model.proofs.keys.Keys.at.Goals as goal

pub returns : goal.returns
returns c =
    let keys = c.self.inside.keys.items in
    let within = subst (λ (ks : List (List ℕ)). c.args.i < length ks) (sym c.self.view_is) c.requires in
    ap (λ (ks : List (List ℕ)). slice_get ks c.args.i) (sym c.self.view_is) ∙ slice_get_read keys (length keys) c.args.i c.index.result.now refl within c.index.ensures
