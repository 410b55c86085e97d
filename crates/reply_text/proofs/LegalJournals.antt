-- The marks of a legal journal, and its output.
use Rattle.std.proofs.Common.{◌≡◌, ℕ, ◌<◌, ◌≤◌, ◌^◌, Bool, true, false, List, [], ◌∷◌, ◌++◌, length, Option, Some, None, refl, sym, ap, subst, ◌∙◌, arith}
use Rattle.std.specs.Prelude.{◌==◌, ◌&&◌, ◌||◌, not, nat_lt, if◌then◌else◌, is_some, IsSome}
use Rattle.std.specs.Option.{option_and_then}
use Rattle.std.specs.List.{list_all, range_with_len}
use Rattle.std.proofs.lemmas.Option.{slice_get_within}
use Rattle.std.proofs.lemmas.Bool.{ltb-true}
use Rattle.apcu_model.specs.declared.conf.Conf.{Conf}
use Rattle.apcu_model.specs.declared.journal.Mark.{Mark}
use Rattle.apcu_model.specs.History.{is_in_mask, is_legal_mask, window_of}
use Rattle.script_read.specs.declared.script.Step.{Step}
use Rattle.script_read.specs.Play.{Wish, Play, wanted, replies_of, script_of, wish_of, after_wish, marked, played_from, played, nothing_played, IsLegal}
use Rattle.reply_text.specs.Lines.{texts_of}
use Rattle.reply_text.specs.Output.{worker_texts, journal_lines, play_text, output_of}
use Rattle.reply_text.proofs.Numbers.{both_true}
use Rattle.reply_text.specs.InRange.{AreInRange}
use Rattle.reply_text.proofs.JournalLines.{journal_told}

record Comes {A B : Type 0} (f : A → Option B) (o : Option A) : Type 0 where
  first : A
  is : o ≡ Some first
  goes : IsSome (f first)

and_then_some : {A B : Type 0} (f : A → Option B) (o : Option A) → IsSome (option_and_then f o) → Comes f o
and_then_some f None some = absurd cc
and_then_some f (Some x) some = record { first = x; is = refl; goes = some }

if_some : {A : Type 0} (b : Bool) (o : Option A) → IsSome (if b then o else None) → (b ≡ true) × IsSome o
if_some true o some = (refl, some)
if_some false o some = absurd cc

mask_fair : (workers worker mask : ℕ) (p : Play) → is_legal_mask workers worker p.stage mask ≡ true → mask < 2 ^ 64
mask_fair workers worker mask p legal =
    let parts = both_true (nat_lt mask (2 ^ 64)) (list_all (λ v. not (is_in_mask mask v) || (not (v == worker) && nat_lt v workers && is_some (window_of p.stage v))) (range_with_len 0 64)) legal in
    ltb-true mask (2 ^ 64) parts.0

fair_from : (conf : Conf) (scripts : List (List Step)) (p : Play) (marks : List Mark) → length scripts ≤ 64 → IsSome (played_from conf scripts p marks) → AreInRange marks
fair_from conf scripts p [] few legal = tt
fair_from conf scripts p (mark ∷ marks) few legal =
    let one = and_then_some (λ (q : Play). played_from conf scripts q marks) (marked conf scripts p mark) legal in
    let some : IsSome (marked conf scripts p mark) = subst (λ (o : Option Play). IsSome o) (sym one.is) refl in
    let parts = if_some (is_legal_mask (length scripts) mark.worker p.stage mark.mask) (option_and_then (λ (wish : Wish). Some (after_wish p mark wish)) (wish_of conf scripts p mark.worker)) some in
    let wish = and_then_some (λ (wish : Wish). Some (after_wish p mark wish)) (wish_of conf scripts p mark.worker) parts.1 in
    let wished : IsSome (wish_of conf scripts p mark.worker) = subst (λ (o : Option Wish). IsSome o) (sym wish.is) refl in
    let own = and_then_some (λ (script : List Step). wanted conf script (replies_of p mark.worker)) (script_of scripts mark.worker) wished in
    let worker = slice_get_within scripts mark.worker own.first own.is in
    (omega (arith, worker), mask_fair (length scripts) mark.worker mark.mask p parts.0, fair_from conf scripts one.first marks few one.goes)

-- what stands before the journal in an output
record Ends (conf : Conf) (scripts : List (List Step)) (journal : List Mark) : Type 0 where
  before : List ℕ
  is : output_of conf scripts journal ≡ before ++ journal_lines journal

output_ends : (conf : Conf) (scripts : List (List Step)) (journal : List Mark) (o : Option Play) → IsSome o → played conf scripts journal ≡ o → Ends conf scripts journal
output_ends conf scripts journal None some e = absurd cc
output_ends conf scripts journal (Some p) some e = record {
  before = worker_texts 0 (texts_of conf scripts p.replies);
  is = ap (play_text conf scripts journal) e;
}

-- any journal that stands at the end of an output is its journal
pub ends_tell : (conf : Conf) (scripts : List (List Step)) (journal other : List Mark) (before : List ℕ) → length scripts ≤ 64 → IsLegal conf scripts journal → AreInRange other
    → output_of conf scripts journal ≡ before ++ journal_lines other → journal ≡ other
ends_tell conf scripts journal other before few legal fair e =
    let ends = output_ends conf scripts journal (played conf scripts journal) legal refl in
    journal_told ends.before before journal other (fair_from conf scripts (nothing_played conf scripts) journal few legal) fair (sym ends.is ∙ e)

pub outputs_tell : (conf other_conf : Conf) (scripts other_scripts : List (List Step)) (journal other : List Mark) → length scripts ≤ 64 → length other_scripts ≤ 64
    → IsLegal conf scripts journal → IsLegal other_conf other_scripts other → output_of conf scripts journal ≡ output_of other_conf other_scripts other → journal ≡ other
outputs_tell conf other_conf scripts other_scripts journal other few few' legal legal' e =
    let ends = output_ends other_conf other_scripts other (played other_conf other_scripts other) legal' refl in
    ends_tell conf scripts journal other ends.before few legal (fair_from other_conf other_scripts (nothing_played other_conf other_scripts) other few' legal') (e ∙ ends.is)
