-- Words that are written one behind another.
use Rattle.std.proofs.Common.{◌≡◌, ◌∙◌, ℕ, ◌+◌, ◌-◌, ◌<◌, List, [], ◌∷◌, ◌++◌, length, take, drop, slice_set, slice_index, sym, ap, arith}
use Rattle.std.proofs.lemmas.List.{append_assoc, set-append_right, length-take-le, take_more, drop_more}

-- the next of them
pub next_written : (row run : List ℕ) (i k : ℕ) → i + k < length row → k < length run
    → slice_set (take i row ++ (take k run ++ drop (i + k) row)) (i + k) (slice_index run k) ≡ take i row ++ (take (k + 1) run ++ drop (i + (k + 1)) row)
next_written row run i k inside some =
    let x = slice_index run k in
    let past = drop (i + k) row in
    let before = length-take-le i row (omega arith) in
    let front = length-take-le k run (omega arith) in
    let here : (i + k) - i ≡ k = omega arith in
    let first : slice_set past 0 x ≡ x ∷ drop (i + (k + 1)) row =
    ap (λ l. slice_set l 0 x) (drop_more row (i + k) 0 inside) ∙ ap (λ n. x ∷ drop n row) (omega arith) in
    let none : ((i + k) - i) - k ≡ 0 = omega arith in
    set-append_right (take i row) (take k run ++ past) i (i + k) x before (omega arith)
    ∙ ap (λ l. take i row ++ l)
    (set-append_right (take k run) past k ((i + k) - i) x front (omega arith)
    ∙ ap (λ n. take k run ++ slice_set past n x) none
    ∙ ap (λ l. take k run ++ l) first
    ∙ sym (append_assoc (take k run) (x ∷ []) (drop (i + (k + 1)) row))
    ∙ ap (λ l. l ++ drop (i + (k + 1)) row) (sym (take_more run k 0 some)))
