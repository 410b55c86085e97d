use Rattle.std.proofs.Common.{◌≡◌, ◌++◌, ℕ, List, map, drop}
use Rattle.std.specs.Prelude.{codes}
use Rattle.reply_text.specs.Replies.{members_text, all_with}
use Rattle.reply_text.proofs.replies.write_flags.Given as goal

abbrev pub invariant-loop-note : goal.invariant-loop-note
invariant-loop-note l =
    l.out ++ members_text (all_with (codes "b:1;") (map (λ (note : List ℕ × Unit {0}). note.0) (map (λ note. (note.0.now, note.1)) (drop l.note-index l.notes))))
    ≡ l.initial.out ++ members_text (all_with (codes "b:1;") (map (λ (note : List ℕ × Unit {0}). note.0) (map (λ note. (note.0.now, note.1)) l.notes)))
