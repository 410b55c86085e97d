-- What a run prints.
use Rattle.std.specs.Prelude.{◌≡◌, ℕ, ◌+◌, List, [], ◌∷◌, ◌++◌, codes, Option, Some, None, filter}
use Rattle.std.specs.Fmt.{decimal}
use Rattle.std.specs.List.{flat_map, range_with_len}
use Rattle.apcu_model.specs.declared.conf.Conf.{Conf}
use Rattle.apcu_model.specs.declared.journal.Mark.{Mark}
use Rattle.apcu_model.specs.History.{is_in_mask}
use Rattle.script_read.specs.declared.script.Step.{Step}
use Rattle.script_read.specs.Grammar.{ends_line}
use Rattle.script_read.specs.Play.{Play, played, IsLegal, IsCompletePlay}
use Rattle.reply_text.specs.Lines.{texts_of}

-- for each worker, from number w on, its line and then its text
abbrev pub worker_texts : ℕ → List (List ℕ) → List ℕ
worker_texts w [] = []
worker_texts w (text ∷ texts) =
    codes "worker " ++ decimal w ++ ends_line ++ text ++ worker_texts (w + 1) texts

-- the workers of a mask that come before worker n, in rising order, each after a space
unfoldable pub mask_text : ℕ → ℕ → List ℕ
mask_text mask n =
    flat_map (λ w. codes " " ++ decimal w) (filter (is_in_mask mask) (range_with_len 0 n))

-- a journal's line: the worker, and the workers of the mask
abbrev pub mark_line : Mark → List ℕ
mark_line mark = decimal mark.worker ++ mask_text mark.mask 64 ++ ends_line

abbrev pub journal_lines : List Mark → List ℕ
journal_lines journal = codes "journal" ++ ends_line ++ flat_map mark_line journal

-- after a legal journal: the lines of each worker's calls, then the journal
abbrev pub play_text : Conf → List (List Step) → List Mark → Option Play → List ℕ
play_text conf scripts journal None = []
play_text conf scripts journal (Some p) =
    worker_texts 0 (texts_of conf scripts p.replies) ++ journal_lines journal

abbrev pub output_of : Conf → List (List Step) → List Mark → List ℕ
output_of conf scripts journal = play_text conf scripts journal (played conf scripts journal)

-- A run prints this: the output of some journal that is legal and complete.
pub record IsOutput (conf : Conf) (scripts : List (List Step)) (printed : List ℕ) : Type 0 where
  pub journal : List Mark
  pub legal : IsLegal conf scripts journal
  pub complete : IsCompletePlay conf scripts journal
  pub text : printed ≡ output_of conf scripts journal
