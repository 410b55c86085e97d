-- What is printed piece by piece.
use Rattle.std.proofs.Common.{◌≡◌, ℕ, ℤ, ◌+◌, ◌<◌, ◌≤◌, List, [], ◌∷◌, ◌++◌, take, drop, Some, sym, ap, length, arith, ◌∙◌, append_assoc}
use Rattle.std.specs.Prelude.{codes, slice_get, slice_index_or}
use Rattle.std.specs.Fmt.{decimal, signed_decimal}
use Rattle.std.specs.List.{flat_map}
use Rattle.std.proofs.lemmas.List.{append-nil, drop_all, drop_more, take_more, take-append-drop, length-take}
use Rattle.std.proofs.lemmas.Option.{slice_get_within, get_or_from_slice_get}
use Rattle.std.proofs.lemmas.Grind.{flat_map-append}
use Rattle.apcu_model.specs.declared.journal.Mark.{Mark}
use Rattle.play_laws.specs.Summary.{counter_lines}
use Rattle.script_read.specs.Grammar.{ends_line}
use Rattle.reply_text.specs.Output.{mark_line, worker_texts}

-- one mark more is written
pub journal_goes_on : (before out next head : List ℕ) (marks : List Mark) (i : ℕ) (mark : Mark) → out ≡ before ++ (head ++ flat_map mark_line (take i marks)) → next ≡ out ++ mark_line mark → slice_get marks i ≡ Some mark
    → next ≡ before ++ (head ++ flat_map mark_line (take (i + 1) marks))
journal_goes_on before out next head marks i mark so_far written at =
    let more : take (i + 1) marks ≡ take i marks ++ mark ∷ [] = take_more marks i mark (slice_get_within marks i mark at) ∙ ap (λ (m : Mark). take i marks ++ m ∷ []) (get_or_from_slice_get marks i mark mark at) in
    let lines : flat_map mark_line (take (i + 1) marks) ≡ flat_map mark_line (take i marks) ++ mark_line mark =
    ap (flat_map mark_line) more ∙ (flat_map-append mark_line (take i marks) (mark ∷ []) ∙ ap (λ (l : List ℕ). flat_map mark_line (take i marks) ++ l) (append-nil (mark_line mark))) in
    written ∙ (ap (λ (l : List ℕ). l ++ mark_line mark) so_far
    ∙ (append_assoc before (head ++ flat_map mark_line (take i marks)) (mark_line mark)
    ∙ ap (λ (l : List ℕ). before ++ l) (append_assoc head (flat_map mark_line (take i marks)) (mark_line mark) ∙ ap (λ (l : List ℕ). head ++ l) (sym lines))))

-- the line of a worker's number, and the worker's lines
abbrev pub worker_part : ℕ → List ℕ → List ℕ
worker_part w text = codes "worker " ++ decimal w ++ ends_line ++ text

worker_texts-append : (w : ℕ) (xs ys : List (List ℕ)) → worker_texts w (xs ++ ys) ≡ worker_texts w xs ++ worker_texts (w + length xs) ys
worker_texts-append w [] ys = ap (λ v. worker_texts v ys) (omega arith)
worker_texts-append w (x ∷ xs) ys =
    let n : (w + 1) + length xs ≡ w + length (x ∷ xs) = omega arith in
    ap (λ (l : List ℕ). worker_part w x ++ l) (worker_texts-append (w + 1) xs ys ∙ ap (λ v. worker_texts (w + 1) xs ++ worker_texts v ys) n)
    ∙ sym (append_assoc (worker_part w x) (worker_texts (w + 1) xs) (worker_texts (w + length (x ∷ xs)) ys))

-- one worker more is written
pub texts_go_on : (texts : List (List ℕ)) (i : ℕ) (text : List ℕ) → i < length texts → text ≡ slice_index_or texts i text
    → worker_texts 0 (take i texts) ++ worker_part i text ≡ worker_texts 0 (take (i + 1) texts)
texts_go_on texts i text few at =
    let more : take (i + 1) texts ≡ take i texts ++ text ∷ [] = take_more texts i text few ∙ ap (λ (m : List ℕ). take i texts ++ m ∷ []) (sym at) in
    let n : 0 + length (take i texts) ≡ i = omega (arith, few, length-take i texts) in
    let last : worker_texts (0 + length (take i texts)) (text ∷ []) ≡ worker_part i text = ap (λ v. worker_texts v (text ∷ [])) n ∙ append-nil (worker_part i text) in
    sym (ap (worker_texts 0) more ∙ (worker_texts-append 0 (take i texts) (text ∷ []) ∙ ap (λ (l : List ℕ). worker_texts 0 (take i texts) ++ l) last))

-- what comes behind the first of the workers
pub texts_behind : (texts : List (List ℕ)) (i : ℕ) → worker_texts 0 (take i texts) ++ worker_texts (0 + length (take i texts)) (drop i texts) ≡ worker_texts 0 texts
texts_behind texts i = sym (worker_texts-append 0 (take i texts) (drop i texts)) ∙ ap (worker_texts 0) (take-append-drop i texts)

-- one counter more is written
pub counters_go_on : (before out next : List ℕ) (values : List ℤ) (n : ℕ) (value d : ℤ) → n < length values → value ≡ slice_index_or values n d
    → next ≡ out ++ (codes "counter " ++ decimal n ++ codes " " ++ signed_decimal value ++ codes "\n")
    → out ++ counter_lines n (drop n values) ≡ before → next ++ counter_lines (n + 1) (drop (n + 1) values) ≡ before
counters_go_on before out next values n value d few at written so_far =
    let rest = counter_lines (n + 1) (drop (n + 1) values) in
    let split : drop n values ≡ value ∷ drop (n + 1) values = drop_more values n d few ∙ ap (λ (v : ℤ). v ∷ drop (n + 1) values) (sym at) in
    ap (λ (o : List ℕ). o ++ rest) written
    ∙ (append_assoc out (codes "counter " ++ decimal n ++ codes " " ++ signed_decimal value ++ codes "\n") rest
    ∙ (sym (ap (λ (l : List ℤ). out ++ counter_lines n l) split) ∙ so_far))

-- behind the last of them nothing is left to write
pub counters_end : (before out : List ℕ) (values : List ℤ) (n : ℕ) → length values ≤ n → out ++ counter_lines n (drop n values) ≡ before → out ≡ before
counters_end before out values n all so_far =
    sym (append-nil out) ∙ (sym (ap (λ (l : List ℤ). out ++ counter_lines n l) (drop_all n values all)) ∙ so_far)
