use Rattle.shared_tests.proofs.infos.two_workers_ask_what_is_there.Given as goal

-- the name of the cache that was opened
abbrev pub ghosts-tells : goal.ghosts-tells
ghosts-tells g a = record { table = a.fresh.table; conf = a.fresh.conf; budgets = a.fresh.budgets }
