use Rattle.std.proofs.Common.{◌≡◌, ◌∙◌, ℕ, [], Some, None, refl, ap, sym, subst, arith, length}
use Rattle.std.proofs.lemmas.List.{length-replicate}
use Rattle.apcu_model.specs.History.{Stage, start_of, window_of}
use Rattle.mark_play.specs.ReplayStages.{window_number, IsStage}
use Rattle.mark_play.proofs.replay.Replay.new.Goals as goal

pub invariant_of-result : goal.invariant_of-result
invariant_of-result c =
    let start : c.start-reached.result.state ≡ start_of c.args.conf.now = c.start-reached.ensures in
    record {
      stand = c.format-core.ensures.stand;
      cache = c.format-core.ensures.made ∙ ap (λ (m : Stage). m.cache) (sym start);
      full = c.in_ok-windows.ensures.full;
      seats = ap length (c.format-core.ensures.beside.rest ∙ c.in_ok-words.ensures.held) ∙ length-replicate {A = ℕ} 64 0;
      numbers = λ v less. ap window_number (c.in_ok-windows.ensures.none v) ∙ sym (ap (λ (m : Stage). window_of m v) start);
      keys = λ v w is. let e : None ≡ Some w = sym (c.in_ok-windows.ensures.none v) ∙ is in absurd (cc e);
      history = subst (λ (m : Stage). IsStage m c.args.events) (sym start) (record { conf = c.args.conf.now; history = []; stage = refl; few = omega (arith, c.requires.few); shallow = refl });
    }
