use Rattle.script_read.proofs.ResultBinds.{ValuesTake}
use Rattle.script_read.proofs.ScriptTexts.{scripts_take, scripts_again, scripts_one}
use Rattle.script_read.proofs.laws.readings_are_scripts.Goals as goal

pub returns-clause-takes : goal.returns-clause-takes
returns-clause-takes c =
    let law = c.readings_are_spellings.ensures in
    let values : ValuesTake = λ bytes g rest fits read. let graph = law.graph bytes g rest fits read in (graph, law.takes bytes g rest graph read) in
    scripts_take values

pub returns-clause-again : goal.returns-clause-again
returns-clause-again c = scripts_again c.readings_are_spellings.ensures.again

pub returns-clause-one : goal.returns-clause-one
returns-clause-one c = scripts_one c.readings_are_spellings.ensures.again
