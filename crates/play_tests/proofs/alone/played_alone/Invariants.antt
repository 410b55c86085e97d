use Rattle.play_tests.proofs.alone.played_alone.Given as goal

-- the name of the cache that was opened
abbrev pub ghosts-plays_alone : goal.ghosts-plays_alone
ghosts-plays_alone g a = record { table = a.fresh.table; conf = a.fresh.conf; budgets = a.fresh.budgets }
