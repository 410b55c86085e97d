use Rattle.std.proofs.Common.{◌≡◌, ◌∙◌, ℕ, zero, suc, List, [], ◌∷◌, ◌++◌, Option, None, refl, ap, length-append, get_or, length, arith}
use Rattle.std.specs.Prelude.{slice_index_or}
use Rattle.mark_play.specs.declared.answering.Window.{Window}
use Rattle.mark_play.proofs.replay.no_windows.Goals as goal

none_more : (l : List (Option Window)) → ((v : ℕ) → slice_index_or l v None ≡ None) → (v : ℕ) → slice_index_or (l ++ None ∷ []) v None ≡ None
none_more [] h zero = refl
none_more [] h (suc v) = nothing v
  where
    nothing : (v : ℕ) → slice_index_or {A = Option Window} [] v None ≡ None
    nothing zero = refl
    nothing (suc v) = refl
none_more (x ∷ l) h zero = h zero
none_more (x ∷ l) h (suc v) = none_more l (λ k. h (suc k)) v

nothing : (v : ℕ) → get_or {A = Option Window} [] v None ≡ None
nothing zero = refl
nothing (suc v) = refl

pub loop-worker-init : goal.loop-worker-init
loop-worker-init c = record {
  full = ap length c.in_ok-windows.ensures.items;
  none = λ v. ap (λ (l : List (Option Window)). slice_index_or l v None) c.in_ok-windows.ensures.items ∙ nothing v;
}

pub loop-worker-preserved : goal.loop-worker-preserved
loop-worker-preserved c =
    let i = c.loop-worker.invariant in
    let e = c.in_ok-push.ensures.items in
    let none : Option Window = None in
    record {
      full = omega (arith, ap length e, length-append c.loop-worker.windows.items (none ∷ []), i.full);
      none = λ v. ap (λ (l : List (Option Window)). slice_index_or l v None) e ∙ none_more c.loop-worker.windows.items i.none v;
    }
