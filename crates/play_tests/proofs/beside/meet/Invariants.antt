use Rattle.play_tests.proofs.beside.meet.Given as goal

-- the name of the cache that was opened
abbrev pub ghosts-plays_both : goal.ghosts-plays_both
ghosts-plays_both g a = record { table = a.fresh.table; conf = a.fresh.conf; budgets = a.fresh.budgets }
