use Rattle.std.proofs.Common.{[], ◌∷◌, ◌++◌, Some, inr, refl, subst, arith}
use Rattle.conf_read.specs.declared.task.Task.TheVariants.{Play}
use Rattle.preload_set.specs.Loader.{loader_of}
use Rattle.script_read.specs.Grammar.{AreScripts}
use Rattle.apcu_play.specs.Causes.{refuses_none}
use Rattle.apcu_play.proofs.Causes.{bundle_cause, crowded_cause, memory_cause, script_cause}
use Rattle.apcu_play.proofs.InputFaults.{behind_fault, bundle_fault, too_long}
use Rattle.apcu_play.proofs.reading.loaded_crew.Goals as goal

pub returns-in-Err-clause-cause : goal.returns-in-Err-clause-cause
returns-in-Err-clause-cause c = λ conf map.
    bundle_cause refuses_none conf (Play (Some c.args.len) map) c.args.bytes.now 0 c.in-Err.fault c.ending_by.result c.ending_by.ensures
    (bundle_fault {X = Unit {0}} (λ _. ([], [])) c.args.len map c.args.bytes.now c.in-Err.fault c.in-Err.ensures.read c.in-Err.ensures.only)

pub returns-in-Err-read_scripts-clause-cause : goal.returns-in-Err-read_scripts-clause-cause
returns-in-Err-read_scripts-clause-cause c = λ conf map.
    let front = c.in-Ok.ensures.read in
    script_cause refuses_none conf (Play (Some c.args.len) map) c.args.bytes.now c.args.len c.in-Err-read_scripts.fault c.ending_by-in-Err-read_scripts.result c.ending_by-in-Err-read_scripts.ensures
    (behind_fault c.args.len map c.args.bytes.now c.in-Ok.front.1.now c.in-Ok.front.0 c.in-Err-read_scripts.fault front.0 c.in-Ok.ensures.found front.2 c.in-Err-read_scripts.ensures.read c.in-Err-read_scripts.ensures.only)

pub returns-then-len-ge-MOST_WORKERS-clause-cause : goal.returns-then-len-ge-MOST_WORKERS-clause-cause
returns-then-len-ge-MOST_WORKERS-clause-cause c = λ conf map.
    let front = c.in-Ok.ensures.read in
    let scripts = c.in-Ok-read_scripts.scripts in
    let records = c.in-Ok.front.0 in
    crowded_cause refuses_none conf (Play (Some c.args.len) map) c.args.bytes.now (scripts ++ loader_of records ∷ []) c.of.result c.of.ensures
    (record {
      records = records;
      scripts = scripts;
      long = front.0;
      bundle = c.in-Ok.ensures.found;
      spelled = subst (λ bytes. AreScripts bytes scripts) front.2 c.in-Ok-read_scripts.ensures.found;
      crew_is = refl;
    })
    (inr (too_long scripts records (omega (arith, c.len.ensures, c.if-len-ge-MOST_WORKERS.true)))) (λ before after many. many)

pub returns-in_default-clause-cause : goal.returns-in_default-clause-cause
returns-in_default-clause-cause c = λ conf map. memory_cause refuses_none conf (Play (Some c.args.len) map) c.args.bytes.now c.of-in_default.result c.of-in_default.ensures

pub returns-clause-cause : goal.returns-clause-cause
returns-clause-cause c = λ conf map. memory_cause refuses_none conf (Play (Some c.args.len) map) c.args.bytes.now c.of-in-Err-push.result c.of-in-Err-push.ensures
