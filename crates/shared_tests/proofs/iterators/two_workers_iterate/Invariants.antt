use Rattle.shared_tests.proofs.iterators.two_workers_iterate.Given as goal

-- the name of the cache that was opened
abbrev pub ghosts-iterate : goal.ghosts-iterate
ghosts-iterate g a = record { table = a.fresh.table; conf = a.fresh.conf; budgets = a.fresh.budgets }
