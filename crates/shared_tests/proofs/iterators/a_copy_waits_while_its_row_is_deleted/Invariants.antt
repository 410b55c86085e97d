use Rattle.shared_tests.proofs.iterators.a_copy_waits_while_its_row_is_deleted.Given as goal

-- the name of the cache that was opened
abbrev pub ghosts-wait : goal.ghosts-wait
ghosts-wait g a = record { table = a.fresh.table; conf = a.fresh.conf; budgets = a.fresh.budgets }
