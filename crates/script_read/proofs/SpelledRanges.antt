-- Scripts that bytes spell are in range, and their keys are strings of bytes.
use Rattle.std.proofs.Common.{◌≡◌, ℕ, Bool, true, false, List, [], ◌∷◌, map, Some, subst}
use Rattle.std.specs.Prelude.{if◌then◌else◌}
use Rattle.std.specs.List.{AllByRecursion}
use Rattle.std.specs.Str.{bytes_eq}
use Rattle.apcu_model.specs.declared.conf.Clock.{Clock}
use Rattle.script_read.specs.declared.call.Call.{Call}
use Rattle.script_read.specs.declared.call.Call.TheVariants.{CacheInfo, SmaInfo}
use Rattle.script_read.specs.declared.effect.Effect.{Effect}
use Rattle.script_read.specs.declared.effect.Effect.TheVariants.{Sets, Begins, Calls}
use Rattle.script_read.specs.declared.effect.Moments.{Moments}
use Rattle.script_read.specs.declared.script.Step.{Step}
use Rattle.script_read.specs.Arguments.{truth, moment}
use Rattle.script_read.specs.Calls.{IsRanged}
use Rattle.script_read.specs.Clock.{at_first, request_moments, step_at, timed_step, timed, all_timed}
use Rattle.script_read.specs.Grammar.{Line, AreArguments, effect_of, steps_after, steps_of, Mean, AreScripts}
use Rattle.script_read.specs.Ranges.{AreRanged, HasByteKeys, HaveByteKeys}
use Rattle.script_read.specs.Table.{Form, Done, call_form, timing, moment_form, fetch_of, exists_of, delete_of, info_form, table, form_in, form_of}
use Rattle.script_read.proofs.ResultBinds.{some_is, then_some, map_some}
use Rattle.script_read.proofs.FormRanges.{FitsEffect, FitsForm, effect_fits, may_any, needs_any, stored_rows, asked_rows, fetch_row, exists_row, delete_row, count_row, cas_row, entry_row, key_info_row, walk_row, walk_delete_row, totals_row, get_row, set_row, pool_delete_row, clear_row, get_many_row, set_many_row, delete_many_row, has_row}

-- ---- the table

timing_row : (begins : Bool) → FitsForm (moment_form begins)
timing_row begins = needs_any moment (λ t. Done (timing begins t)) (λ t. by_kind begins t)
  where
    by_kind : (begins : Bool) (t : ℕ) → FitsEffect (timing begins t)
    by_kind true t = tt
    by_kind false t = tt

info_row : (info : Bool → Call) → ((limited : Bool) → FitsEffect (Calls (info limited))) → FitsForm (info_form info)
info_row info fit = may_any false truth (λ limited. call_form (info limited)) fit

table_fits : AllByRecursion (λ (row : List ℕ × Form). FitsForm row.1) table
table_fits = (
  timing_row false,
  (
    timing_row true,
    (
      stored_rows false,
      (
        stored_rows true,
        (
          asked_rows fetch_of fetch_row,
          (
            asked_rows exists_of exists_row,
            (
              asked_rows delete_of delete_row,
              (
                count_row false,
                (
                  count_row true,
                  (
                    cas_row,
                    (
                      entry_row,
                      (
                        (tt, tt),
                        (
                          (tt, tt),
                          (
                            key_info_row,
                            (
                              info_row CacheInfo (λ limited. (tt, tt)),
                              (
                                info_row SmaInfo (λ limited. (tt, tt)),
                                (
                                  walk_row,
                                  (
                                    walk_delete_row,
                                    (
                                      totals_row,
                                      (get_row, (set_row, (pool_delete_row, (clear_row, (get_many_row, (set_many_row, (delete_many_row, (has_row, tt)))))))),
                                    ),
                                  ),
                                ),
                              ),
                            ),
                          ),
                        ),
                      ),
                    ),
                  ),
                ),
              ),
            ),
          ),
        ),
      ),
    ),
  ),
)

row_fits : (rows : List (List ℕ × Form)) (word : List ℕ) → AllByRecursion (λ (row : List ℕ × Form). FitsForm row.1) rows → FitsForm (form_in rows word)
unfolding form_in
row_fits [] word fit = tt
row_fits (row ∷ rows) word fit = by_test (bytes_eq word row.0) (row_fits rows word fit.1)
  where
    by_test : (b : Bool) → FitsForm (form_in rows word) → FitsForm (if b then row.1 else form_in rows word)
    by_test true later = fit.0
    by_test false later = later

-- ---- scripts

abbrev FitsStep : Step → Type 0
FitsStep step = FitsEffect (Calls step.call)

steps_fit : (m : Moments) (lines : List Line) (steps : List Step) → AllByRecursion (λ line. AreArguments line.arguments) lines → steps_of m lines ≡ Some steps → AllByRecursion FitsStep steps
steps_fit m [] steps are means = subst (AllByRecursion FitsStep) (some_is [] steps means) tt
steps_fit m (line ∷ lines) steps are means =
    let said = then_some (steps_after m (λ later. steps_of later lines)) (effect_of line) steps means in
    by_effect said.0 (effect_fits (form_of line.word) line.arguments said.0 (row_fits table line.word table_fits) are.0 said.1) (λ later more is. steps_fit later lines more are.1 is) said.2
  where
    by_effect : (e : Effect) → FitsEffect e → ((later : Moments) (more : List Step) → steps_of later lines ≡ Some more → AllByRecursion FitsStep more)
        → steps_after m (λ later. steps_of later lines) e ≡ Some steps → AllByRecursion FitsStep steps
    by_effect (Sets u) fit others means = others (record m { t = u }) steps means
    by_effect (Begins u) fit others means = others (request_moments u) steps means
    by_effect (Calls call) fit others means =
        let more = map_some (λ steps. step_at m call ∷ steps) (steps_of m lines) steps means in
        subst (AllByRecursion FitsStep) more.2 (fit, others m more.0 more.1)

scripts_fit : (lines : List (List Line)) (scripts : List (List Step)) → AllByRecursion (AllByRecursion (λ line. AreArguments line.arguments)) lines → Mean lines scripts → AllByRecursion (AllByRecursion FitsStep) scripts
scripts_fit [] [] are means = tt
scripts_fit [] (steps ∷ scripts) are means = absurd means
scripts_fit (first ∷ lines) [] are means = absurd means
scripts_fit (first ∷ lines) (steps ∷ scripts) are means = (steps_fit at_first first steps are.0 means.0, scripts_fit lines scripts are.1 means.1)

all_through : {A : Type 0} (P Q : A → Type 0) → ((x : A) → P x → Q x) → (xs : List A) → AllByRecursion P xs → AllByRecursion Q xs
all_through P Q through [] all = tt
all_through P Q through (x ∷ xs) all = (through x all.0, all_through P Q through xs all.1)

pub spelled_ranged : (bytes : List ℕ) (scripts : List (List Step)) → AreScripts bytes scripts → AreRanged scripts
spelled_ranged bytes scripts are =
    all_through (AllByRecursion FitsStep) (AllByRecursion IsRanged) (all_through FitsStep IsRanged (λ step fit. fit.0)) scripts
    (scripts_fit are.lines scripts are.values are.meaning)

pub spelled_keys : (bytes : List ℕ) (scripts : List (List Step)) → AreScripts bytes scripts → HaveByteKeys scripts
spelled_keys bytes scripts are =
    all_through (AllByRecursion FitsStep) (AllByRecursion HasByteKeys) (all_through FitsStep HasByteKeys (λ step fit. fit.1)) scripts
    (scripts_fit are.lines scripts are.values are.meaning)

-- ---- clocks

-- a clock changes the moments alone
all_mapped : {A B : Type 0} (f : A → B) (P : A → Type 0) (Q : B → Type 0) → ((x : A) → P x → Q (f x)) → (xs : List A) → AllByRecursion P xs → AllByRecursion Q (map f xs)
all_mapped f P Q along [] all = tt
all_mapped f P Q along (x ∷ xs) all = (along x all.0, all_mapped f P Q along xs all.1)

pub timed_ranged : (clock : Clock) (scripts : List (List Step)) → AreRanged scripts → AreRanged (all_timed clock scripts)
timed_ranged clock scripts ranged =
    all_mapped (timed clock) (AllByRecursion IsRanged) (AllByRecursion IsRanged) (all_mapped (timed_step clock) IsRanged IsRanged (λ step is. is)) scripts ranged

pub timed_keys : (clock : Clock) (scripts : List (List Step)) → HaveByteKeys scripts → HaveByteKeys (all_timed clock scripts)
timed_keys clock scripts keys =
    all_mapped (timed clock) (AllByRecursion HasByteKeys) (AllByRecursion HasByteKeys) (all_mapped (timed_step clock) HasByteKeys HasByteKeys (λ step is. is)) scripts keys
