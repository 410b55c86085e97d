-- The begin of the journal of an output, and its lines.
use Rattle.std.proofs.Common.{◌≡◌, ℕ, zero, suc, ◌+◌, ◌<◌, ◌≤◌, ◌^◌, ◌%◌, Bool, true, false, cond, List, [], ◌∷◌, ◌++◌, take, Option, Some, None, refl, ap, ap₂, ◌∙◌, arith, append_assoc}
use Rattle.std.specs.Prelude.{◌==◌, ◌&&◌, nat_eq, not, codes, map}
use Rattle.std.specs.Fmt.{decimal}
use Rattle.std.specs.Str.{bytes_eq}
use Rattle.std.specs.List.{flat_map, list_all}
use Rattle.std.proofs.lemmas.Fmt.{decimal_by_steps}
use Rattle.std.proofs.lemmas.Bool.Decides.{nat_tests}
use Rattle.apcu_model.specs.History.{is_in_mask}
use Rattle.apcu_model.specs.declared.conf.Conf.{Conf}
use Rattle.apcu_model.specs.declared.journal.Mark.{Mark}
use Rattle.apcu_model.specs.declared.request.Reply.{Reply}
use Rattle.script_read.specs.Grammar.{ends_line}
use Rattle.script_read.specs.Play.{Next, Asks, Leaves, next_of}
use Rattle.script_read.specs.declared.script.Step.{Step}
use Rattle.reply_text.specs.Lines.{call_text, before, call_lines, script_lines, texts_of}
use Rattle.reply_text.specs.Output.{worker_texts, mask_text, mark_line, journal_lines}
use Rattle.run_verify.specs.Verdicts.{behind, journal_from, journal_part, with_byte, lines_of}
use Rattle.run_verify.specs.OutputLines.{IsInBits}
use Rattle.run_verify.proofs.MaskTexts.{texts, picked}

-- ---- what stands before the journal ends a line

-- whether a line begins behind a text
abbrev pub begins_behind : Bool → List ℕ → Bool
begins_behind b [] = b
begins_behind b (x ∷ xs) = begins_behind (x == 10) xs

behind_both : (b : Bool) (xs ys : List ℕ) → begins_behind b (xs ++ ys) ≡ begins_behind (begins_behind b xs) ys
behind_both b [] ys = refl
behind_both b (x ∷ xs) ys = behind_both (x == 10) xs ys

-- behind a line feed a line begins, whatever stands before it
behind_line : (b : Bool) (xs ys : List ℕ) → begins_behind b (xs ++ 10 ∷ ys) ≡ begins_behind true ys
behind_line b xs ys = behind_both b xs (10 ∷ ys)

lines_end : (conf : Conf) (script : List Step) (replies : List Reply) → begins_behind true (script_lines conf script replies) ≡ true
lines_end conf [] replies = refl
lines_end conf (step ∷ steps) replies = by (next_of conf step.call replies) (λ others. lines_end conf steps others)
  where
    by : (n : Next) → ((others : List Reply) → begins_behind true (script_lines conf steps others) ≡ true)
        → begins_behind true (call_lines step.call replies (script_lines conf steps) n) ≡ true
    by (Asks request) later = refl
    by (Leaves others) later =
        let text = call_text step.call (before others replies) in
        ap (begins_behind true) (append_assoc text ends_line (script_lines conf steps others))
        ∙ (behind_line true text (script_lines conf steps others) ∙ later others)

abbrev AllEnd : List (List ℕ) → Type 0
AllEnd [] = Unit {0}
AllEnd (text ∷ more) = (begins_behind true text ≡ true) × AllEnd more

all_end : (conf : Conf) (scripts : List (List Step)) (replies : List (List Reply)) → AllEnd (texts_of conf scripts replies)
all_end conf [] replies = tt
all_end conf (script ∷ scripts) [] = tt
all_end conf (script ∷ scripts) (rs ∷ others) = (lines_end conf script rs, all_end conf scripts others)

workers_end : (w : ℕ) (ts : List (List ℕ)) → AllEnd ts → begins_behind true (worker_texts w ts) ≡ true
workers_end w [] ends = refl
workers_end w (t ∷ ts) ends =
    let front : List ℕ = codes "worker " ++ decimal w in
    behind_both true (front ++ ends_line ++ t) (worker_texts (w + 1) ts)
    ∙ (ap (λ (b : Bool). begins_behind b (worker_texts (w + 1) ts))
    (ap (begins_behind true) (append_assoc front ends_line t) ∙ (behind_line true front t ∙ ends.0))
    ∙ workers_end (w + 1) ts ends.1)

-- ---- the last line `journal`

-- what follows the last line of a text follows that of a longer one
part_later : (b : Bool) (xs ys part : List ℕ) → journal_from (begins_behind b xs) ys ≡ Some part → journal_from b (xs ++ ys) ≡ Some part
part_later b [] ys part is = is
part_later b (x ∷ xs) ys part is =
    ap (behind (x ∷ (xs ++ ys)) (b && bytes_eq (codes "journal\n") (take 8 (x ∷ (xs ++ ys))))) (part_later (x == 10) xs ys part is)

-- a byte that is no `j`
abbrev pub quiet : ℕ → Bool
quiet b = not (nat_eq 106 b)

none_quiet : (b : Bool) (x : ℕ) (xs : List ℕ) → quiet x ≡ true → (b && bytes_eq (codes "journal\n") (take 8 (x ∷ xs))) ≡ false
none_quiet b x xs q = by b (nat_eq 106 x) q
  where
    by : (b t : Bool) → not t ≡ true → (b && (t && bytes_eq (codes "ournal\n") (take 7 xs))) ≡ false
    by true false q = refl
    by false false q = refl
    by true true q = absurd cc
    by false true q = refl

both_true : (a b : Bool) → (a && b) ≡ true → (a ≡ true) × (b ≡ true)
both_true true b e = (refl, e)
both_true false b e = absurd cc

all_joined : (p : ℕ → Bool) (xs ys : List ℕ) → list_all p xs ≡ true → list_all p ys ≡ true → list_all p (xs ++ ys) ≡ true
all_joined p [] ys h k = k
all_joined p (x ∷ xs) ys h k =
    let parts = both_true (p x) (list_all p xs) h in
    ap₂ (λ (a b : Bool). a && b) parts.0 (all_joined p xs ys parts.1 k)

-- no journal begins in a text without a `j`
no_part : (b : Bool) (xs : List ℕ) → list_all quiet xs ≡ true → journal_from b xs ≡ None
no_part b [] all = refl
no_part b (x ∷ xs) all =
    let parts = both_true (quiet x) (list_all quiet xs) all in
    ap₂ (behind (x ∷ xs)) (none_quiet b x xs parts.0) (no_part (x == 10) xs parts.1)

part_here : (part : List ℕ) → list_all quiet part ≡ true → journal_from true (codes "journal\n" ++ part) ≡ Some part
part_here part all =
    ap (λ (o : Option (List ℕ)).
    behind (codes "journal\n" ++ part) (bytes_eq (codes "journal\n") (take 8 (codes "journal\n" ++ part)))
    (behind (codes "ournal\n" ++ part) false (behind (codes "urnal\n" ++ part) false (behind (codes "rnal\n" ++ part) false
    (behind (codes "nal\n" ++ part) false (behind (codes "al\n" ++ part) false (behind (codes "l\n" ++ part) false (behind (codes "\n" ++ part) false o)))))))) (no_part true part all)

-- ---- the lines of marks

-- a byte of a mark's line, except its end
abbrev pub inner : ℕ → Bool
inner b = quiet b && not (b == 10)

one_digit : (n : ℕ) → n < 10 → list_all inner ((48 + n) ∷ []) ≡ true
one_digit n low = grind (arith, nat_tests)

decimal_inner : (n : ℕ) → n < 2 ^ 64 → list_all inner (decimal n) ≡ true
decimal_inner = decimal_by_steps (λ n ds. list_all inner ds ≡ true)
    one_digit
    (λ n ds large so_far. all_joined inner ds ((48 + n % 10) ∷ []) so_far (one_digit (n % 10) (omega arith)))

abbrev Small : List ℕ → Type 0
Small [] = Unit {0}
Small (w ∷ ws) = (w < 2 ^ 64) × Small ws

texts_inner : (ws : List ℕ) → Small ws → list_all inner (texts ws) ≡ true
texts_inner [] small = refl
texts_inner (w ∷ ws) small = all_joined inner (codes " " ++ decimal w) (texts ws) (decimal_inner w small.0) (texts_inner ws small.1)

small_if : (b : Bool) (w : ℕ) (ws : List ℕ) → w < 2 ^ 64 → Small ws → Small (cond b (w ∷ ws) ws)
small_if true w ws low later = (low, later)
small_if false w ws low later = later

picked_small : (mask a n : ℕ) → a + n ≤ 64 → Small (picked mask a n)
picked_small mask a zero few = tt
picked_small mask a (suc n) few = small_if (is_in_mask mask a) a (picked mask (a + 1) n) (omega (arith, few)) (picked_small mask (a + 1) n (omega (arith, few)))

-- a mark's line without its end
abbrev front_of : Mark → List ℕ
front_of mark = decimal mark.worker ++ mask_text mark.mask 64

front_inner : (mark : Mark) → IsInBits mark → list_all inner (front_of mark) ≡ true
unfolding mask_text
front_inner mark bits =
    all_joined inner (decimal mark.worker) (texts (picked mark.mask 0 64)) (decimal_inner mark.worker (omega (arith, bits.0)))
    (texts_inner (picked mark.mask 0 64) (picked_small mark.mask 0 64 (omega arith)))

inner_parts : (x : ℕ) → inner x ≡ true → (quiet x ≡ true) × ((x == 10) ≡ false)
inner_parts x e = by (quiet x) (x == 10) e
  where
    by : (a b : Bool) → (a && not b) ≡ true → (a ≡ true) × (b ≡ false)
    by true false e = (refl, refl)
    by true true e = absurd cc
    by false b e = absurd cc

inner_quiet : (xs : List ℕ) → list_all inner xs ≡ true → list_all quiet xs ≡ true
inner_quiet [] all = refl
inner_quiet (x ∷ xs) all =
    let parts = both_true (inner x) (list_all inner xs) all in
    ap₂ (λ (a b : Bool). a && b) (inner_parts x parts.0).0 (inner_quiet xs parts.1)

abbrev pub AllInBits : List Mark → Type 0
AllInBits [] = Unit {0}
AllInBits (mark ∷ marks) = IsInBits mark × AllInBits marks

marks_quiet : (marks : List Mark) → AllInBits marks → list_all quiet (flat_map mark_line marks) ≡ true
marks_quiet [] all = refl
marks_quiet (m ∷ ms) all =
    all_joined quiet (mark_line m) (flat_map mark_line ms)
    (all_joined quiet (front_of m) ends_line (inner_quiet (front_of m) (front_inner m all.0)) refl) (marks_quiet ms all.1)

-- the journal part of an output
pub output_part : (conf : Conf) (scripts : List (List Step)) (replies : List (List Reply)) (marks : List Mark) → AllInBits marks
    → journal_part (worker_texts 0 (texts_of conf scripts replies) ++ journal_lines marks) ≡ Some (flat_map mark_line marks)
output_part conf scripts replies marks all =
    let front = worker_texts 0 (texts_of conf scripts replies) in
    let lines = flat_map mark_line marks in
    let ended : begins_behind true front ≡ true = workers_end 0 (texts_of conf scripts replies) (all_end conf scripts replies) in
    part_later true front (journal_lines marks) lines
    (ap (λ (b : Bool). journal_from b (journal_lines marks)) ended ∙ part_here lines (marks_quiet marks all))

with_bytes : (xs rest : List ℕ) → list_all inner xs ≡ true → lines_of (xs ++ 10 ∷ rest) ≡ (xs ++ 10 ∷ []) ∷ lines_of rest
with_bytes [] rest all = refl
with_bytes (x ∷ xs) rest all =
    let parts = both_true (inner x) (list_all inner xs) all in
    ap (λ (t : Bool). cond t ((10 ∷ []) ∷ lines_of (xs ++ 10 ∷ rest)) (with_byte x (lines_of (xs ++ 10 ∷ rest)))) (inner_parts x parts.0).1
    ∙ ap (with_byte x) (with_bytes xs rest parts.1)

-- its lines are those of the marks
pub marks_lines : (marks : List Mark) → AllInBits marks → lines_of (flat_map mark_line marks) ≡ map mark_line marks
marks_lines [] all = refl
marks_lines (m ∷ ms) all =
    ap lines_of (append_assoc (front_of m) ends_line (flat_map mark_line ms))
    ∙ (with_bytes (front_of m) (flat_map mark_line ms) (front_inner m all.0) ∙ ap (λ (l : List (List ℕ)). mark_line m ∷ l) (marks_lines ms all.1))
