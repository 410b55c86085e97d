use Rattle.shared_tests.proofs.dropped_copy.a_dropped_copy.Given as goal

-- the name of the cache that was opened
abbrev pub ghosts-fills : goal.ghosts-fills
ghosts-fills g a = record { table = a.fresh.table; conf = a.fresh.conf; budgets = a.fresh.budgets }
