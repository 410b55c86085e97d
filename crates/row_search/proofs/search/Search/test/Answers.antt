use Rattle.std.proofs.Common.{◌≡◌, sym, ap, ◌∙◌}
use Rattle.std.specs.Prelude.{is_some}
use Rattle.regex.specs.Patterns.{find}
use Rattle.apcu_model.specs.PatternMatches.{finds}
use Rattle.row_search.specs.declared.search.Needle.{Needle}
use Rattle.row_search.proofs.search.Search.test.Goals as goal

pub invariant_of-live : goal.invariant_of-live
invariant_of-live c =
    let same : c.deref-in-Some.result.now ≡ c.deref.result.now = c.deref-in-Some.ensures ∙ sym c.deref.ensures in
    record {
      finds = λ key bytes.
          ap (λ re. is_some (find re key 0)) c.in_ok-matcher-in-Some.ensures.pattern
          ∙ (c.deref-in-Some.result.now.finds key bytes ∙ ap (λ (n : Needle). finds n.pattern.fold n.pattern.text key) same);
    }
