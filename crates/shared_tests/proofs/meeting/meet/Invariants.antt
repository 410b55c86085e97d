use Rattle.shared_tests.proofs.meeting.meet.Given as goal

-- the name of the cache that was opened
abbrev pub ghosts-two_at_once : goal.ghosts-two_at_once
ghosts-two_at_once g a = record { table = a.fresh.table; conf = a.fresh.conf; budgets = a.fresh.budgets }
