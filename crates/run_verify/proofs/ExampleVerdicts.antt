-- Some verdicts, computed.
use Rattle.std.proofs.Common.{◌≡◌, List, [], ◌∷◌, false, refl}
use Rattle.std.specs.Prelude.{codes, Some, None, pos}
use Rattle.std.specs.Fmt.{digits}
use Rattle.notation.specs.Notation as notation
use Rattle.reply_text.specs.Output.{mask_text}
use Rattle.php_graph.specs.declared.kind.Kind.TheVariants as kinds
use Rattle.seg_words.specs.Gaps.{is_whole}
use Rattle.apcu_model.specs.Conf.{piece_of}
use Rattle.apcu_model.specs.declared.conf.Conf.{Conf}
use Rattle.script_read.specs.declared.call.Call.TheVariants.{StoreOne, FetchOne}
use Rattle.script_read.specs.declared.script.Step.{Step}
use Rattle.run_verify.specs.declared.verifying.Verdict.TheVariants.{Yes, NoJournal, Event, Byte}
use Rattle.run_verify.specs.Verdicts.{verdict_of, mark_of_line, first_difference, lines_of, journal_part}

conf : Conf
conf = record { words = 512; slots = 32; ttl = 0; segments = 1 }

script : List Step
script = (record { t = 0; start = 0; call = StoreOne (codes "a") (kinds.Int (pos 5) ∷ []) 0 false }) ∷ (record { t = 0; start = 0; call = FetchOne (codes "a") }) ∷ []

lines : lines_of (codes "ab\nc") ≡ codes "ab\n" ∷ codes "c" ∷ []
lines = refl

part : journal_part (codes "journal\n1\njournal\n0\n") ≡ Some (codes "0\n")
part = refl

no_part : journal_part (codes "x journal\n0\n") ≡ None
no_part = refl

place : first_difference (codes "abc") (codes "abd") ≡ Some 2
place = refl

end : first_difference (codes "abc") (codes "ab") ≡ Some 2
end = refl

mark : mark_of_line (codes "1 0 3\n") ≡ Some (record { worker = 1; mask = 9 })
unfolding digits mask_text
mark = refl

falls : mark_of_line (codes "1 3 0\n") ≡ None
unfolding digits mask_text
falls = refl

twice : mark_of_line (codes "1  0\n") ≡ None
unfolding digits mask_text
twice = refl

zeros : mark_of_line (codes "01\n") ≡ None
unfolding digits mask_text
zeros = refl

open_line : mark_of_line (codes "1") ≡ None
open_line = refl

yes : verdict_of conf (script ∷ []) (codes "worker 0\nb:1;\ni:5;b:1;\njournal\n0\n0\n0\n") ≡ Yes
unfolding digits mask_text conf script notation.child_text is_whole piece_of
yes = refl

byte : verdict_of conf (script ∷ []) (codes "worker 0\nb:1;\ni:6;b:1;\njournal\n0\n0\n0\n") ≡ Byte 16
unfolding digits mask_text conf script notation.child_text is_whole piece_of
byte = refl

short : verdict_of conf (script ∷ []) (codes "worker 0\nb:1;\ni:5;b:1;\njournal\n0\n0\n") ≡ Event 2
unfolding digits mask_text conf script
short = refl

wrong : verdict_of conf (script ∷ []) (codes "worker 0\nb:1;\ni:5;b:1;\njournal\n0 0\n0\n0\n") ≡ Event 0
unfolding digits mask_text conf script
wrong = refl

none : verdict_of conf (script ∷ []) (codes "worker 0\nb:1;\ni:5;b:1;\n") ≡ NoJournal
unfolding digits mask_text conf script
none = refl
