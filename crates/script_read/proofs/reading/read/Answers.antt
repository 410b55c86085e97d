use Rattle.std.proofs.Common.{◌≡◌, Err, subst, refl, arith}
use Rattle.script_read.specs.declared.fault.Stop.{Stop}
use Rattle.script_read.specs.Reading.{scripts_at}
use Rattle.script_read.specs.Gives.{Stops}
use Rattle.script_read.proofs.FaultPlaces.{scripts_inside}
use Rattle.script_read.proofs.reading.read.Goals as goal

pub overflow_sub-result : goal.overflow_sub-result
overflow_sub-result c =
    let bytes = c.args.bytes.now in
    let reads : scripts_at bytes ≡ Err c.in-Err-Fault.fault = subst (λ (s : Stop). Stops s (scripts_at bytes)) c.in-Err-Fault.field-0-is c.in-Err-Fault.ensures.read in
    scripts_inside c.readings_stay_inside.ensures bytes c.in-Err-Fault.fault reads

pub returns-in-Err-Fault : goal.returns-in-Err-Fault
returns-in-Err-Fault c =
    let bytes = c.args.bytes.now in
    let fault = c.in-Err-Fault.fault in
    let reads : scripts_at bytes ≡ Err fault = subst (λ (s : Stop). Stops s (scripts_at bytes)) c.in-Err-Fault.field-0-is c.in-Err-Fault.ensures.read in
    let within = scripts_inside c.readings_stay_inside.ensures bytes fault reads in
    record { fault = fault; reads = reads; why = refl; at = omega (arith, within) }
