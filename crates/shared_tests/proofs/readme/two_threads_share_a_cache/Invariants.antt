use Rattle.shared_tests.proofs.readme.two_threads_share_a_cache.Given as goal

-- the name of the cache that was opened
abbrev pub ghosts-both_work : goal.ghosts-both_work
ghosts-both_work g a = record { table = a.fresh.table; conf = a.fresh.conf; budgets = a.fresh.budgets }
