use Rattle.shared_tests.proofs.texts.values_are_copied_as_texts.Given as goal

-- the name of the cache that was opened
abbrev pub ghosts-printed : goal.ghosts-printed
ghosts-printed g a = record { table = a.fresh.table; conf = a.fresh.conf; budgets = a.fresh.budgets }
