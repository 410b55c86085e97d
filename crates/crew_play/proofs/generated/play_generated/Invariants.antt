use Rattle.crew_play.proofs.generated.play_generated.Given as goal

-- the name of the cache that was opened
abbrev pub ghosts-play_watched : goal.ghosts-play_watched
ghosts-play_watched g a = record { table = a.fresh.table; conf = a.fresh.conf; budgets = a.fresh.budgets }
