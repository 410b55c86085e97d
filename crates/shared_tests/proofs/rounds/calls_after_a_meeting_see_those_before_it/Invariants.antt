use Rattle.shared_tests.proofs.rounds.calls_after_a_meeting_see_those_before_it.Given as goal

-- the name of the cache that was opened
abbrev pub ghosts-two_rounds : goal.ghosts-two_rounds
ghosts-two_rounds g a = record { table = a.fresh.table; conf = a.fresh.conf; budgets = a.fresh.budgets }
