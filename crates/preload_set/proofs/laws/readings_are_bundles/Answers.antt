use Rattle.script_read.proofs.ResultBinds.{ValuesTake}
use Rattle.preload_set.proofs.BundleTexts.{bundles_take, bundles_again, bundles_one}
use Rattle.preload_set.proofs.laws.readings_are_bundles.Goals as goal

pub returns-clause-takes : goal.returns-clause-takes
returns-clause-takes c =
    let law = c.readings_are_spellings.ensures in
    let values : ValuesTake = λ bytes g rest fits read. let graph = law.graph bytes g rest fits read in (graph, law.takes bytes g rest graph read) in
    bundles_take values

pub returns-clause-again : goal.returns-clause-again
returns-clause-again c = bundles_again c.readings_are_spellings.ensures.again

pub returns-clause-one : goal.returns-clause-one
returns-clause-one c = bundles_one c.readings_are_spellings.ensures.again
