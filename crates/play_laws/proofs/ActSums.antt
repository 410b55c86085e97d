-- What the acts that were made come to, worker by worker.
use Rattle.std.proofs.Common.{◌≡◌, ℕ, zero, suc, ◌+◌, ◌*◌, ◌≤◌, List, [], ◌∷◌, ◌++◌, length, take, Some, slice_get, refl, ap, ◌∙◌, arith}
use Rattle.std.specs.Prelude.{unwrap_or, slice_set, sum_by}
use Rattle.std.specs.List.{AllByRecursion}
use Rattle.std.proofs.lemmas.List.{length-append}
use Rattle.std.proofs.lemmas.List.Sums.{sum_by-cons}
use Rattle.apcu_model.specs.declared.request.Reply.{Reply}
use Rattle.play_laws.proofs.Acts.{Act}
use Rattle.play_laws.proofs.ActWishes.{act_at}

-- the first acts of a worker, as many as it has replies
abbrev pub made_sum : (Act → ℕ) → List Act → ℕ → ℕ
made_sum f acts k = sum_by f (take k acts)

abbrev pub done_sum : (Act → ℕ) → List (List Act) → List (List Reply) → ℕ
done_sum f [] replies = 0
done_sum f (acts ∷ lists) [] = 0
done_sum f (acts ∷ lists) (own ∷ replies) = made_sum f acts (length own) + done_sum f lists replies

-- one act more
made_more : (f : Act → ℕ) (acts : List Act) (k : ℕ) (act : Act) → slice_get acts k ≡ Some act → made_sum f acts (suc k) ≡ made_sum f acts k + f act
made_more f [] k act at = absurd (cc at)
made_more f (x ∷ acts) zero act at =
    let same : x ≡ act = cc at in
    omega (arith, sum_by-cons f x [], ap f same)
made_more f (x ∷ acts) (suc k) act at =
    omega (arith, sum_by-cons f x (take (suc k) acts), sum_by-cons f x (take k acts), made_more f acts k act at)

pub done_more : (f : Act → ℕ) (lists : List (List Act)) (replies : List (List Reply)) (worker : ℕ) (act : Act) (reply : Reply) → length replies ≡ length lists
    → act_at lists worker (length (unwrap_or (slice_get replies worker) [])) ≡ Some act
    → done_sum f lists (slice_set replies worker (unwrap_or (slice_get replies worker) [] ++ reply ∷ [])) ≡ done_sum f lists replies + f act
done_more f [] replies worker act reply count at = absurd (cc at)
done_more f (acts ∷ lists) [] worker act reply count at = absurd (omega (arith, count))
done_more f (acts ∷ lists) (own ∷ replies) zero act reply count at =
    let one : length (own ++ reply ∷ []) ≡ suc (length own) = omega (arith, length-append own (reply ∷ [])) in
    let more : made_sum f acts (length (own ++ reply ∷ [])) ≡ made_sum f acts (length own) + f act = ap (λ k. made_sum f acts k) one ∙ made_more f acts (length own) act at in
    omega (arith, more)
done_more f (acts ∷ lists) (own ∷ replies) (suc worker) act reply count at =
    omega (arith, done_more f lists replies worker act reply (omega (arith, count)) at)

-- nothing was done at the start
pub done_none : (f : Act → ℕ) (lists : List (List Act)) (replies : List (List Reply)) → AllByRecursion (λ (own : List Reply). length own ≡ 0) replies → done_sum f lists replies ≡ 0
done_none f [] replies none = refl
done_none f (acts ∷ lists) [] none = refl
done_none f (acts ∷ lists) (own ∷ replies) none =
    let first : made_sum f acts (length own) ≡ 0 = ap (λ k. made_sum f acts k) none.0 in
    omega (arith, first, done_none f lists replies none.1)

-- no more than so much for each act
abbrev pub AllActs : (Act → Type 0) → List (List Act) → Type 0
AllActs P lists = AllByRecursion (λ acts. AllByRecursion P acts) lists

made_most : (f : Act → ℕ) (acts : List Act) (k : ℕ) → AllByRecursion (λ act. f act ≤ 100) acts → made_sum f acts k ≤ 100 * length acts
made_most f [] zero low = omega arith
made_most f [] (suc k) low = omega arith
made_most f (x ∷ acts) zero low = omega arith
made_most f (x ∷ acts) (suc k) low = omega (arith, low.0, sum_by-cons f x (take k acts), made_most f acts k low.1)

pub done_most : (f : Act → ℕ) (lists : List (List Act)) (replies : List (List Reply)) → AllActs (λ act. f act ≤ 100) lists → done_sum f lists replies ≤ 100 * sum_by (λ (acts : List Act). length acts) lists
done_most f [] replies low = omega arith
done_most f (acts ∷ lists) [] low = omega arith
done_most f (acts ∷ lists) (own ∷ replies) low =
    omega (arith, made_most f acts (length own) low.0, done_most f lists replies low.1, sum_by-cons (λ (acts : List Act). length acts) acts lists)

-- all acts were made
pub made_whole : (f : Act → ℕ) (acts : List Act) (k : ℕ) → length acts ≤ k → made_sum f acts k ≡ sum_by f acts
made_whole f [] zero l = refl
made_whole f [] (suc k) l = refl
made_whole f (x ∷ acts) zero l = absurd (omega (arith, l))
made_whole f (x ∷ acts) (suc k) l = omega (arith, sum_by-cons f x (take k acts), sum_by-cons f x acts, made_whole f acts k (omega (arith, l)))

-- each worker has as many replies as acts, or more
abbrev pub AreAtEnd : List (List Act) → List (List Reply) → Type 0
AreAtEnd lists replies = (worker : ℕ) (acts : List Act) → slice_get lists worker ≡ Some acts → length acts ≤ length (unwrap_or (slice_get replies worker) [])

pub done_whole : (f : Act → ℕ) (lists : List (List Act)) (replies : List (List Reply)) → length replies ≡ length lists → AreAtEnd lists replies → done_sum f lists replies ≡ sum_by (λ acts. sum_by f acts) lists
done_whole f [] replies count end = refl
done_whole f (acts ∷ lists) [] count end = absurd (omega (arith, count))
done_whole f (acts ∷ lists) (own ∷ replies) count end =
    omega (arith, made_whole f acts (length own) (end 0 acts refl), done_whole f lists replies (omega (arith, count)) (λ w ts at. end (suc w) ts at), sum_by-cons (λ acts. sum_by f acts) acts lists)

-- the first part of a worker's acts was made, and what comes after it adds nothing
pub made_first : (f : Act → ℕ) (first later : List Act) (k : ℕ) → AllByRecursion (λ act. f act ≡ 0) later → length first ≤ k → made_sum f (first ++ later) k ≡ sum_by f first
made_first f [] [] zero none l = refl
made_first f [] [] (suc k) none l = refl
made_first f [] (x ∷ later) zero none l = refl
made_first f [] (x ∷ later) (suc k) none l = omega (arith, none.0, sum_by-cons f x (take k later), made_first f [] later k none.1 (omega arith))
made_first f (x ∷ first) later zero none l = absurd (omega (arith, l))
made_first f (x ∷ first) later (suc k) none l = omega (arith, sum_by-cons f x (take k (first ++ later)), sum_by-cons f x first, made_first f first later k none (omega (arith, l)))
