-- The first place at which two texts differ.
use Rattle.std.proofs.Common.{◌≡◌, ◌≢◌, ◌⊎◌, inl, inr, ℕ, zero, suc, ◌+◌, ◌-◌, ◌<◌, ◌≤◌, cond, List, [], ◌∷◌, ◌++◌, length, take, drop, get_or, Some, None, refl, ap, sym, ◌∙◌, arith, append_assoc, drop-cons, length-drop, length-append}
use Rattle.std.proofs.lemmas.Bool.{eq-eqb, ne_eqb}
use Rattle.std.proofs.Math.ListN.{drop_of_length-le}
use Rattle.std.specs.Prelude.{codes}
use Rattle.std.specs.Fmt.{decimal}
use Rattle.std.proofs.lemmas.List.{append-nil}
use Rattle.script_read.specs.Grammar.{ends_line}
use Rattle.std.specs.Prelude.{Result, Ok, Err, IfErr}
use Rattle.std.proofs.Math.Seq.{take-suc}
use Rattle.run_verify.specs.TextPieces.{HasPiece, DiffersAt, worker_text}
use Rattle.reply_text.specs.Output.{worker_texts}
use Rattle.run_verify.specs.Verdicts.{first_difference, place_further}

-- behind the same front
front_same : (a b c : List ℕ) → first_difference b c ≡ Some 0 → first_difference (a ++ b) (a ++ c) ≡ Some (length a)
front_same [] b c h = h
front_same (x ∷ a) b c h =
    ap (λ t. cond t (place_further (first_difference (a ++ b) (a ++ c))) (Some 0)) (eq-eqb x x refl)
    ∙ (ap place_further (front_same a b c h) ∙ ap Some (omega arith))

ends_first : (xs rest : List ℕ) (i : ℕ) → i < length xs → first_difference [] (drop i xs ++ rest) ≡ Some 0
ends_first xs rest i low = ap (λ l. first_difference [] (l ++ rest)) (drop-cons xs i 0 low)

other_byte : (l xs rest : List ℕ) (i : ℕ) → i < length l → i < length xs → get_or l i 0 ≢ get_or xs i 0 → first_difference (drop i l) (drop i xs ++ rest) ≡ Some 0
other_byte l xs rest i a b ne =
    ap (λ m. first_difference m (drop i xs ++ rest)) (drop-cons l i 0 a)
    ∙ (ap (λ m. first_difference (get_or l i 0 ∷ drop (suc i) l) (m ++ rest)) (drop-cons xs i 0 b)
    ∙ ap (λ t. cond t (place_further (first_difference (drop (suc i) l) (drop (suc i) xs ++ rest))) (Some 0)) (ne_eqb (get_or l i 0) (get_or xs i 0) ne))

take_drop : {X : Type 0} (i : ℕ) (xs : List X) → xs ≡ take i xs ++ drop i xs
take_drop {X} zero [] = refl
take_drop {X} zero (x ∷ xs) = refl
take_drop {X} (suc i) [] = refl
take_drop {X} (suc i) (x ∷ xs) = ap (λ l. x ∷ l) (take_drop i xs)

take_length : {X : Type 0} (i : ℕ) (xs : List X) → i ≤ length xs → length (take i xs) ≡ i
take_length {X} zero [] h = refl
take_length {X} zero (x ∷ xs) h = refl
take_length {X} (suc i) [] h = absurd (omega (arith, h))
take_length {X} (suc i) (x ∷ xs) h = ap suc (take_length i xs (omega (arith, h)))

pub differs_here : (l piece rest : List ℕ) (i : ℕ) → l ≡ take i piece ++ drop i l → i < length piece → (length l ≤ i) ⊎ ((i < length l) × (get_or l i 0 ≢ get_or piece i 0))
    → first_difference l (piece ++ rest) ≡ Some i
differs_here l piece rest i same low why =
    ap (λ m. first_difference m (piece ++ rest)) same
    ∙ (ap (λ m. first_difference (take i piece ++ drop i l) (m ++ rest)) (take_drop i piece)
    ∙ (ap (first_difference (take i piece ++ drop i l)) (append_assoc (take i piece) (drop i piece) rest)
    ∙ (front_same (take i piece) (drop i l) (drop i piece ++ rest) first ∙ ap Some (take_length i piece (omega (arith, low))))))
  where
    first : first_difference (drop i l) (drop i piece ++ rest) ≡ Some 0
    first = elim why [
      | inl over ↦ ap (λ m. first_difference m (drop i piece ++ rest)) (drop_of_length-le l over) ∙ ends_first piece rest i low
      | inr ne ↦ other_byte l piece rest i ne.0 low ne.1
    ]

take_all : (l : List ℕ) (n : ℕ) → length l ≤ n → take n l ≡ l
take_all [] zero h = refl
take_all [] (suc n) h = refl
take_all (x ∷ l) zero h = absurd (omega (arith, h))
take_all (x ∷ l) (suc n) h = ap (λ m. x ∷ m) (take_all l n (omega (arith, h)))

-- a slice to the end
pub to_end : (l : List ℕ) (at : ℕ) → take (length l - at) (drop at l) ≡ drop at l
to_end l at = take_all (drop at l) (length l - at) (omega (arith, length-drop at l))

-- ---- pieces behind each other

front_later : (a b c : List ℕ) (k : ℕ) → first_difference b c ≡ Some k → first_difference (a ++ b) (a ++ c) ≡ Some (length a + k)
front_later [] b c k h = h ∙ ap Some (omega arith)
front_later (x ∷ a) b c k h =
    ap (λ t. cond t (place_further (first_difference (a ++ b) (a ++ c))) (Some 0)) (eq-eqb x x refl)
    ∙ (ap place_further (front_later a b c k h) ∙ ap Some (omega arith))

pub front_none : (a b c : List ℕ) → first_difference b c ≡ None → first_difference (a ++ b) (a ++ c) ≡ None
front_none [] b c h = h
front_none (x ∷ a) b c h =
    ap (λ t. cond t (place_further (first_difference (a ++ b) (a ++ c))) (Some 0)) (eq-eqb x x refl)
    ∙ ap place_further (front_none a b c h)

pub joined : (o : List ℕ) (at mid to : ℕ) (a b : List ℕ) → HasPiece o at a mid → HasPiece o mid b to → HasPiece o at (a ++ b) to
joined o at mid to a b f g = record {
  end = omega (arith, f.end, g.end, length-append a b);
  within = g.within;
  stands = f.stands ∙ (ap (λ l. a ++ l) g.stands ∙ sym (append_assoc a b (drop to o)));
}

pub later : (o : List ℕ) (at mid place : ℕ) (a b : List ℕ) → HasPiece o at a mid → DiffersAt o mid b place → DiffersAt o at (a ++ b) place
later o at mid place a b f d = record {
  from = length a + d.from;
  place_is = omega (arith, f.end, d.place_is);
  differs = λ rest.
      ap (λ l. first_difference l ((a ++ b) ++ rest)) f.stands
      ∙ (ap (first_difference (a ++ drop mid o)) (append_assoc a b rest) ∙ front_later a (drop mid o) (b ++ rest) d.from (d.differs rest));
}

pub sooner : (o : List ℕ) (at place : ℕ) (a b : List ℕ) → DiffersAt o at a place → DiffersAt o at (a ++ b) place
sooner o at place a b d = record {
  from = d.from;
  place_is = d.place_is;
  differs = λ rest. ap (first_difference (drop at o)) (append_assoc a b rest) ∙ d.differs (b ++ rest);
}

-- the texts of the workers so far, with one more
pub more_texts : (w : ℕ) (texts : List (List ℕ)) (text : List ℕ) → worker_texts w (texts ++ text ∷ []) ≡ worker_texts w texts ++ worker_text (w + length texts) text
more_texts w [] text =
    let n : w ≡ w + 0 = omega arith in
    append-nil (worker_text w text) ∙ ap (λ k. worker_text k text) n
more_texts w (t ∷ texts) text =
    let n : w + 1 + length texts ≡ w + length (t ∷ texts) = omega arith in
    let head = codes "worker " ++ decimal w ++ ends_line ++ t in
    ap (λ l. head ++ l) (more_texts (w + 1) texts text)
    ∙ (sym (append_assoc head (worker_texts (w + 1) texts) (worker_text (w + 1 + length texts) text))
    ∙ ap (λ k. (head ++ worker_texts (w + 1) texts) ++ worker_text k text) n)

-- what follows on the texts so far
pub rest_texts : (w : ℕ) (texts others : List (List ℕ)) → worker_texts w (texts ++ others) ≡ worker_texts w texts ++ worker_texts (w + length texts) others
rest_texts w [] others = let n : w ≡ w + 0 = omega arith in ap (λ k. worker_texts k others) n
rest_texts w (t ∷ texts) others =
    let n : w + 1 + length texts ≡ w + length (t ∷ texts) = omega arith in
    let head = codes "worker " ++ decimal w ++ ends_line ++ t in
    ap (λ l. head ++ l) (rest_texts (w + 1) texts others)
    ∙ (sym (append_assoc head (worker_texts (w + 1) texts) (worker_texts (w + 1 + length texts) others))
    ∙ ap (λ k. (head ++ worker_texts (w + 1) texts) ++ worker_texts k others) n)

-- ---- the whole

pub none_more : (o piece : List ℕ) (at to : ℕ) (front : List ℕ) → HasPiece o 0 front at → HasPiece o at piece to → to ≡ length o → first_difference o (front ++ piece) ≡ None
none_more o piece at to front f g end =
    ap (λ l. first_difference l (front ++ piece)) f.stands
    ∙ front_none front (drop at o) piece
    (ap (λ l. first_difference l piece) (g.stands ∙ (ap (λ l. piece ++ l) (drop_of_length-le o (omega (arith, end)))))
    ∙ (ap (first_difference (piece ++ [])) (sym (append-nil piece)) ∙ front_none piece [] [] refl))

pub some_more : (o piece : List ℕ) (at to : ℕ) (front : List ℕ) → HasPiece o 0 front at → HasPiece o at piece to → to ≢ length o → first_difference o (front ++ piece) ≡ Some to
some_more o piece at to front f g more =
    ap (λ l. first_difference l (front ++ piece)) f.stands
    ∙ (front_later front (drop at o) piece (length piece + 0)
    (ap (λ l. first_difference l piece) g.stands
    ∙ (ap (first_difference (piece ++ drop to o)) (sym (append-nil piece)) ∙ front_later piece (drop to o) [] 0 (left (drop to o) refl)))
    ∙ ap Some (omega (arith, f.end, g.end)))
  where
    left : (l : List ℕ) → drop to o ≡ l → first_difference (drop to o) [] ≡ Some 0
    left [] is = absurd (omega (arith, ap length is, length-drop to o, g.within, more))
    left (x ∷ xs) is = ap (λ l. first_difference l []) is

pub differs_whole : (o piece : List ℕ) (at place : ℕ) (front : List ℕ) → HasPiece o 0 front at → DiffersAt o at piece place → first_difference o (front ++ piece) ≡ Some place
differs_whole o piece at place front f d =
    ap (λ l. first_difference l (front ++ piece)) f.stands
    ∙ (front_later front (drop at o) piece d.from (ap (first_difference (drop at o)) (sym (append-nil piece)) ∙ d.differs [])
    ∙ ap Some (omega (arith, f.end, d.place_is)))

pub differs_front : (o piece : List ℕ) (place : ℕ) (front : List ℕ) → DiffersAt o 0 front place → first_difference o (front ++ piece) ≡ Some place
differs_front o piece place front d = d.differs piece ∙ ap Some (omega (arith, d.place_is))

pub grouped : (a b c d : List ℕ) → (a ++ b) ++ (c ++ d) ≡ a ++ b ++ c ++ d
grouped a b c d = sym (append_assoc (a ++ b) c d)

pub err_weaker : {P Q : ℕ → Type 0} (r : Result ℕ ℕ) → ((e : ℕ) → P e → Q e) → IfErr r P → IfErr r Q
err_weaker (Ok x) f h = h
err_weaker (Err e) f h = f e h

-- the text of worker w among all texts
pub upto : (texts : List (List ℕ)) (w : ℕ) (d : List ℕ) → w < length texts
    → worker_texts 0 (take (w + 1) texts) ≡ worker_texts 0 (take w texts) ++ worker_text w (get_or texts w d)
upto texts w d low =
    let n : w + 1 ≡ suc w = omega arith in
    let m0 : length (take w texts) ≡ w = take_length w texts (omega (arith, low)) in
    let m : 0 + length (take w texts) ≡ w = omega (arith, m0) in
    ap (λ k. worker_texts 0 (take k texts)) n
    ∙ (ap (worker_texts 0) (take-suc texts w d low)
    ∙ (more_texts 0 (take w texts) (get_or texts w d) ∙ ap (λ k. worker_texts 0 (take w texts) ++ worker_text k (get_or texts w d)) m))

-- all texts begin with those of the first workers
pub all_texts : (texts : List (List ℕ)) (w : ℕ) → worker_texts 0 texts ≡ worker_texts 0 (take w texts) ++ worker_texts (0 + length (take w texts)) (drop w texts)
all_texts texts w = ap (worker_texts 0) (take_drop w texts) ∙ rest_texts 0 (take w texts) (drop w texts)
