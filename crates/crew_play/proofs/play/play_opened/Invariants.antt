use Rattle.crew_play.proofs.play.play_opened.Given as goal

-- the name of the cache that was opened
abbrev pub ghosts-play_named : goal.ghosts-play_named
ghosts-play_named g a = record { table = a.fresh.table; conf = a.fresh.conf; budgets = a.fresh.budgets }
