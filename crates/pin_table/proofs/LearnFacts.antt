-- What functions use that need no more answers.
use Rattle.pin_table.proofs.EndedWorkers.{left_alone, was_seen, was_own, saw_own}

pub ruleset of_learn = (left_alone, was_seen, was_own, saw_own)
