use Rattle.cache_core.proofs.Events.{may_drop}
use Rattle.cache_tests.proofs.asking.answer_of.Goals as goal

pub delete-requires-clause-ready : goal.delete-requires-clause-ready
delete-requires-clause-ready g c = may_drop c.requires.stand c.requires.unrefused

pub clear-requires : goal.clear-requires
clear-requires g c = may_drop c.requires.stand c.requires.unrefused
