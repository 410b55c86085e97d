-- What is printed of a crew that was played.
use Rattle.std.proofs.Common.{◌≡◌, ℕ, Bool, List, ◌++◌, ◌-◌, length, Option, Some, None, refl, sym, ap, ap₂, subst, ◌∙◌, append_assoc}
use Rattle.std.specs.Prelude.{IsSome, IfSome, is_some}
use Rattle.seg_words.specs.declared.vec_words.VecWords.{VecWords}
use Rattle.apcu_model.specs.declared.conf.Clock.{Clock}
use Rattle.apcu_model.specs.declared.conf.Conf.{Conf}
use Rattle.apcu_model.specs.declared.row_info.Counts.{Counts}
use Rattle.apcu_model.specs.declared.journal.Mark.{Mark}
use Rattle.cache_core.specs.declared.cache.Core.{Core}
use Rattle.cache_core.specs.CoreCache.{cache_of}
use Rattle.script_read.specs.declared.script.Step.{Step}
use Rattle.script_read.specs.Clock.{all_timed}
use Rattle.script_read.specs.Play.{played}
use Rattle.reply_text.specs.Output.{worker_texts, journal_lines, output_of, play_text}
use Rattle.seg_report.specs.Lines.{map_text}
use Rattle.crew_play.specs.declared.play.Left.{Left}
use Rattle.crew_play.specs.PlayedScripts.{IsPlayed, IsLeftByPlay, ComeFirst}
use Rattle.apcu_play.specs.Printing.{PrintsCrew, printed_rest}
use Rattle.apcu_play.specs.Tasks.{LoadsFirst, map_text_after, played_text}

-- the workers' lines and the journal's are the output
output_is : (conf : Conf) (scripts : List (List Step)) (marks : List Mark) (texts : List (List ℕ)) (counts : Counts) → IsPlayed conf scripts marks texts counts
    → worker_texts 0 texts ++ journal_lines marks ≡ output_of conf scripts marks
output_is conf scripts marks texts counts p =
    ap (λ (t : List (List ℕ)). worker_texts 0 t ++ journal_lines marks) p.texts_are ∙ sym (ap (play_text conf scripts marks) p.plays)

-- and the map behind them that of the cache after it
map_is : (conf : Conf) (scripts : List (List Step)) (marks : List Mark) (texts : List (List ℕ)) (counts : Counts) (core : Core) (words : VecWords) → IsLeftByPlay conf scripts marks texts counts core words
    → map_text (cache_of core) ≡ map_text_after (played conf scripts marks)
map_is conf scripts marks texts counts core words l = ap map_text l.cache ∙ sym (ap map_text_after l.is_played.plays)

-- there is a map exactly if the cache was kept
text_is : (conf : Conf) (scripts : List (List Step)) (marks : List Mark) (texts : List (List ℕ)) (counts : Counts) (left : Option Left) (rest : List ℕ) → IsPlayed conf scripts marks texts counts
    → IfSome left (λ l. IsLeftByPlay conf scripts marks texts counts l.core l.words) → rest ≡ printed_rest marks left → worker_texts 0 texts ++ rest ≡ played_text (is_some left) conf scripts marks
text_is conf scripts marks texts counts None rest p all is =
    ap (λ (r : List ℕ). worker_texts 0 texts ++ r) is ∙ output_is conf scripts marks texts counts p
text_is conf scripts marks texts counts (Some left) rest p all is =
    ap (λ (r : List ℕ). worker_texts 0 texts ++ r) is
    ∙ (sym (append_assoc (worker_texts 0 texts) (journal_lines marks) (map_text (cache_of left.core)))
    ∙ ap₂ (λ (a b : List ℕ). a ++ b) (output_is conf scripts marks texts counts p) (map_is conf scripts marks texts counts left.core left.words all))

pub crew_prints : (conf : Conf) (clock : Clock) (bundle : Option ℕ) (map : Bool) (crew : List (List Step)) (marks : List Mark) (texts printed_texts : List (List ℕ)) (counts : Counts) (left : Option Left) (rest : List ℕ)
    → IsPlayed conf (all_timed clock crew) marks texts counts → IfSome left (λ l. IsLeftByPlay conf (all_timed clock crew) marks texts counts l.core l.words)
    → is_some left ≡ map → LoadsFirst bundle crew marks → printed_texts ≡ texts → rest ≡ printed_rest marks left
    → PrintsCrew conf clock bundle map crew (worker_texts 0 printed_texts ++ rest)
crew_prints conf clock bundle map crew marks texts printed_texts counts left rest p all kept first same is = record {
  journal = marks;
  legal = subst IsSome (sym p.plays) refl;
  complete = p.complete;
  first = first;
  text = ap (λ (t : List (List ℕ)). worker_texts 0 t ++ rest) same
      ∙ (text_is conf (all_timed clock crew) marks texts counts left rest p all is
      ∙ ap (λ (m : Bool). played_text m conf (all_timed clock crew) marks) kept);
}

-- whether the loader's marks come first is asked only where a bundle is loaded
pub first_none : (bundle : Option ℕ) (crew : List (List Step)) (marks : List Mark) → bundle ≡ None → LoadsFirst bundle crew marks
first_none bundle crew marks is = subst (λ b. LoadsFirst b crew marks) (sym is) tt

pub first_some : (bundle : Option ℕ) (crew : List (List Step)) (marks : List Mark) → ComeFirst (length crew - 1) marks → LoadsFirst bundle crew marks
first_some None crew marks first = tt
first_some (Some len) crew marks first = first
