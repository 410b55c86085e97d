-- The text of a mask, worker by worker.
use Rattle.std.proofs.Common.{◌≡◌, ℕ, zero, suc, ◌+◌, ◌/◌, ◌%◌, ◌^◌, ◌≢◌, true, false, List, [], ◌∷◌, ◌++◌, refl, sym, ap, ◌∙◌, append_assoc, add-zero, add-one, arith}
use native.Mathlib.Nat.{zero-div}
use Rattle.std.specs.Prelude.{◌==◌, codes, filter}
use Rattle.std.specs.Fmt.{decimal}
use Rattle.std.specs.List.{flat_map, range_with_len}
use Rattle.std.proofs.lemmas.Bool.{eq-eqb, ne_eqb}
use Rattle.std.proofs.lemmas.List.{append-nil}
use Rattle.std.proofs.lemmas.List.Elements.{filter-append}
use Rattle.std.proofs.lemmas.Grind.{flat_map-append}
use Rattle.apcu_model.specs.History.{is_in_mask}
use Rattle.reply_text.specs.Output.{mask_text}

range_suc : (a n : ℕ) → range_with_len a (suc n) ≡ range_with_len a n ++ (a + n) ∷ []
range_suc a zero = ap (λ k. k ∷ []) (sym (add-zero a))
range_suc a (suc n) =
    let e : (a + 1) + n ≡ a + suc n = omega arith in
    ap (λ (l : List ℕ). a ∷ l) (range_suc (a + 1) n ∙ ap (λ (k : ℕ). range_with_len (a + 1) n ++ k ∷ []) e)

abbrev pub worker_text : ℕ → List ℕ
worker_text w = codes " " ++ decimal w

abbrev pub texts : List ℕ → List ℕ
texts ws = flat_map worker_text ws

-- no worker comes before worker 0
pub mask_text-none : (mask : ℕ) → mask_text mask 0 ≡ []
unfolding mask_text
mask_text-none mask = refl

mask_text-next : (mask n : ℕ) → mask_text mask (n + 1) ≡ mask_text mask n ++ texts (filter (is_in_mask mask) (n ∷ []))
unfolding mask_text
mask_text-next mask n =
    ap (λ (k : ℕ). texts (filter (is_in_mask mask) (range_with_len 0 k))) (add-one n)
    ∙ (ap (λ (l : List ℕ). texts (filter (is_in_mask mask) l)) (range_suc 0 n)
    ∙ (ap texts (filter-append (is_in_mask mask) (range_with_len 0 n) ((0 + n) ∷ []))
    ∙ (flat_map-append worker_text (filter (is_in_mask mask) (range_with_len 0 n)) (filter (is_in_mask mask) ((0 + n) ∷ []))
    ∙ ap (λ (k : ℕ). texts (filter (is_in_mask mask) (range_with_len 0 n)) ++ texts (filter (is_in_mask mask) (k ∷ []))) (zero_add n))))
  where
    zero_add : (n : ℕ) → 0 + n ≡ n
    zero_add n = omega arith

-- a worker of the mask is printed
pub mask_text-in : (mask n : ℕ) → is_in_mask mask n ≡ true → mask_text mask (n + 1) ≡ mask_text mask n ++ (codes " " ++ decimal n)
mask_text-in mask n e =
    mask_text-next mask n ∙ ap (λ (l : List ℕ). mask_text mask n ++ l) (rw e (append-nil (worker_text n)))

-- another one is not
pub mask_text-out : (mask n : ℕ) → is_in_mask mask n ≡ false → mask_text mask (n + 1) ≡ mask_text mask n
mask_text-out mask n e =
    mask_text-next mask n ∙ (ap (λ (l : List ℕ). mask_text mask n ++ l) (rw e refl) ∙ append-nil (mask_text mask n))

-- no worker is in the mask 0
pub mask_text-zero : (n : ℕ) → mask_text 0 n ≡ []
mask_text-zero zero = mask_text-none 0
mask_text-zero (suc n) =
    ap (mask_text 0) (sym (add-one n)) ∙ (mask_text-out 0 n (ap (λ (k : ℕ). k % 2 == 1) (zero-div (2 ^ n))) ∙ mask_text-zero n)

-- a worker of the mask was written
pub mask_in_step : (before out spaced numbered : List ℕ) (mask n : ℕ) → out ≡ before ++ mask_text mask n → spaced ≡ out ++ codes " " → numbered ≡ spaced ++ decimal n → mask / 2 ^ n % 2 ≡ 1
    → numbered ≡ before ++ mask_text mask (n + 1)
mask_in_step before out spaced numbered mask n so_far space number bit =
    number ∙ (ap (λ (l : List ℕ). l ++ decimal n) (space ∙ ap (λ (l : List ℕ). l ++ codes " ") so_far)
    ∙ (append_assoc (before ++ mask_text mask n) (codes " ") (decimal n)
    ∙ (append_assoc before (mask_text mask n) (codes " " ++ decimal n)
    ∙ ap (λ (l : List ℕ). before ++ l) (sym (mask_text-in mask n (eq-eqb (mask / 2 ^ n % 2) 1 bit))))))

-- another one was not
pub mask_out_step : (before out : List ℕ) (mask n : ℕ) → out ≡ before ++ mask_text mask n → mask / 2 ^ n % 2 ≢ 1 → out ≡ before ++ mask_text mask (n + 1)
mask_out_step before out mask n so_far bit =
    so_far ∙ ap (λ (l : List ℕ). before ++ l) (sym (mask_text-out mask n (ne_eqb (mask / 2 ^ n % 2) 1 bit)))
