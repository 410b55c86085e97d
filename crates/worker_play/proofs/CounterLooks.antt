-- Looks at the counters, one after the other.
use Rattle.std.proofs.Common.{◌≡◌, ℕ, zero, suc, ◌+◌, ◌-◌, ◌<◌, ℤ, pos, List, [], ◌∷◌, ◌++◌, length, map, Some, refl, sym, ap, ap₂, subst, ◌∙◌, length-append, arith}
use Rattle.std.specs.Prelude.{replicate, slice_set}
use Rattle.std.specs.List.{range_with_len}
use Rattle.std.proofs.lemmas.Fmt.{decimal_digit}
use Rattle.std.proofs.lemmas.List.{append-nil, length-map, map-append}
use Rattle.apcu_model.specs.declared.conf.Conf.{Conf}
use Rattle.apcu_model.specs.declared.request.Request.TheVariants as requests
use Rattle.apcu_model.specs.declared.request.Reply.{Reply}
use Rattle.apcu_model.specs.declared.request.Reply.TheVariants.{Ended}
use Rattle.pin_table.specs.Values.{PassView}
use Rattle.script_read.specs.GeneratedScripts.{counter_key}
use Rattle.script_read.specs.Play.{Wish}
use Rattle.play_laws.specs.Observer.{wish_now, wish_to_end}
use Rattle.play_laws.specs.Summary.{number_found}
use Rattle.shared_cache.specs.Follows.{Follows}
use Rattle.worker_play.specs.Goes.{KnowsOwnEvents, GoesOn}
use Rattle.worker_play.specs.Looks.{Observes}
use Rattle.worker_play.proofs.PassProgress.{OwnLaws, none, one, more}

-- a counter's key has one digit
pub key_spelled : (n : ℕ) → n < 8 → 99 ∷ (48 + n) ∷ [] ≡ counter_key n
key_spelled n few = ap (λ (l : List ℕ). 99 ∷ l) (sym (decimal_digit n (omega (arith, few))))

-- the first looks
abbrev pub first_looks : ℕ → List Wish
first_looks n = map {A = ℕ} {B = Wish} (λ n. wish_now (requests.Fetch (counter_key n))) (range_with_len 0 n)

abbrev pub numbers_found : List Reply → List ℤ
numbers_found replies = map (λ reply. number_found (Some reply)) replies

one_longer : (a n : ℕ) → range_with_len a (suc n) ≡ range_with_len a n ++ (a + n) ∷ []
one_longer a zero = let same : a ≡ a + 0 = omega arith in ap (λ k. k ∷ []) same
one_longer a (suc n) =
    let same : (a + 1) + n ≡ a + suc n = omega arith in
    ap (λ (l : List ℕ). a ∷ l) (one_longer (a + 1) n ∙ ap (λ k. range_with_len (a + 1) n ++ k ∷ []) same)

-- one look more
more_looks : (n : ℕ) → first_looks n ++ wish_now (requests.Fetch (counter_key n)) ∷ [] ≡ first_looks (n + 1)
more_looks n =
    let count : suc n ≡ n + 1 = omega arith in
    let same : 0 + n ≡ n = omega arith in
    let look : ℕ → Wish = λ k. wish_now (requests.Fetch (counter_key k)) in
    sym (ap first_looks (sym count) ∙ (ap (map look) (one_longer 0 n) ∙ (map-append look (range_with_len 0 n) ((0 + n) ∷ []) ∙ ap (λ k. first_looks n ++ look k ∷ []) same)))

-- a number is set behind those before it
set_behind : (xs : List ℤ) (y x : ℤ) (ys : List ℤ) → slice_set (xs ++ y ∷ ys) (length xs) x ≡ (xs ++ x ∷ []) ++ ys
set_behind [] y x ys = refl
set_behind (z ∷ xs) y x ys = ap (λ (l : List ℤ). z ∷ l) (set_behind xs y x ys)

-- This many counters were read, and the others are still 0.
pub record Looked (conf : Conf) (workers : ℕ) (p q : PassView) (n : ℕ) (numbers : List ℤ) : Type 0 where
  pub replies : List Reply
  pub goes : GoesOn conf workers p q (first_looks n) replies
  pub count : length replies ≡ n
  pub found : numbers ≡ numbers_found replies ++ replicate (8 - n) (pos 0)

pub none_looked : (conf : Conf) (workers : ℕ) (p : PassView) → KnowsOwnEvents p → Looked conf workers p p 0 (replicate 8 (pos 0))
none_looked conf workers p whole = record { replies = []; goes = none conf workers p whole; count = refl; found = refl }

pub one_looked : (conf : Conf) (workers : ℕ) (p o q : PassView) (n : ℕ) (numbers : List ℤ) (y : Reply) (value : ℤ) → n < 8 → Looked conf workers p o n numbers
    → GoesOn conf workers o q (wish_now (requests.Fetch (counter_key n)) ∷ []) (y ∷ []) → value ≡ number_found (Some y) → Looked conf workers p q (n + 1) (slice_set numbers n value)
one_looked conf workers p o q n numbers y value few l g is =
    let split : 8 - n ≡ suc (8 - (n + 1)) = omega (arith, few) in
    let before = numbers_found l.replies in
    let rest = replicate (8 - (n + 1)) (pos 0) in
    let place : n ≡ length before = sym (length-map l.replies (λ (reply : Reply). number_found (Some reply)) ∙ l.count) in
    let all : numbers ≡ before ++ pos 0 ∷ rest = l.found ∙ ap (λ k. before ++ replicate k (pos 0)) split in
    record {
      replies = l.replies ++ y ∷ [];
      goes = subst (λ (ws : List Wish). GoesOn conf workers p q ws (l.replies ++ y ∷ [])) (more_looks n) (more conf workers p o q (first_looks n) (wish_now (requests.Fetch (counter_key n)) ∷ []) l.replies (y ∷ []) l.goes g);
      count = length-append l.replies (y ∷ []) ∙ ap (λ k. k + 1) l.count;
      found = ap₂ (λ (xs : List ℤ) k. slice_set xs k value) all place
          ∙ (set_behind before (pos 0) value rest
          ∙ ap (λ (xs : List ℤ). xs ++ rest) (ap (λ (v : ℤ). before ++ v ∷ []) is ∙ sym (map-append (λ (reply : Reply). number_found (Some reply)) l.replies (y ∷ []))));
    }

-- all counters were looked at, and then the worker ended
pub all_looked : OwnLaws → (conf : Conf) (workers : ℕ) (p o b : PassView) (n : ℕ) (numbers : List ℤ) → n ≡ 8 → KnowsOwnEvents o → Looked conf workers p o n numbers → Follows conf workers o b 0 requests.Retire Ended → Observes conf workers p b numbers
all_looked laws conf workers p o b n numbers all whole l f =
    let none_left : 8 - n ≡ 0 = omega (arith, all) in
    record {
      replies = l.replies;
      goes = subst (λ k. GoesOn conf workers p b (first_looks k ++ wish_to_end ∷ []) (l.replies ++ Ended ∷ [])) all
          (more conf workers p o b (first_looks n) (wish_to_end ∷ []) l.replies (Ended ∷ []) l.goes (one laws conf workers o b 0 requests.Retire requests.Retire Ended f whole refl));
      found = l.found ∙ (ap (λ k. numbers_found l.replies ++ replicate k (pos 0)) none_left ∙ append-nil (numbers_found l.replies));
    }
