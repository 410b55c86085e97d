use Rattle.shared_tests.proofs.closing.leaves_the_cache_that_was_played.Given as goal

-- the name of the cache that was opened
abbrev pub ghosts-plays : goal.ghosts-plays
ghosts-plays g a = record { table = a.fresh.table; conf = a.fresh.conf; budgets = a.fresh.budgets }
