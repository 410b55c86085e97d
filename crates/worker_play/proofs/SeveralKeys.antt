-- Calls on several keys, key by key.
use Rattle.std.proofs.Common.{◌≡◌, ℕ, suc, ◌+◌, ◌<◌, ◌≤◌, drop, arith, Bool, true, false, List, [], ◌∷◌, ◌++◌, length, Option, refl, sym, ap, subst, ◌∙◌, append_assoc}
use Rattle.std.specs.Prelude.{if◌then◌else◌, slice_index_or}
use Rattle.std.proofs.lemmas.List.{append-nil, drop_more}
use Rattle.apcu_model.specs.declared.conf.Conf.{Conf}
use Rattle.apcu_model.specs.declared.request.Request.{Request}
use Rattle.apcu_model.specs.declared.request.Reply.{Reply}
use Rattle.apcu_model.specs.declared.request.Reply.TheVariants.{Flag}
use Rattle.pin_table.specs.Values.{PassView}
use Rattle.script_read.specs.Play.{wish_at}
use Rattle.reply_text.specs.Replies.{undone, noted_if, all_noted}
use Rattle.worker_play.specs.Goes.{KnowsOwnEvents, GoesOn, Reaches, Tells}
use Rattle.worker_play.specs.Turns.{Turn, asks_at}
use Rattle.worker_play.proofs.PassProgress.{Midway, begins, goes_on, ends, one_asked, more_asked}

undone_step : (acc : List (List ℕ)) (key : List ℕ) (keys : List (List ℕ)) (done : Bool) (later : List Reply) → acc ++ undone (key ∷ keys) (Flag done ∷ later) ≡ (acc ++ (if done then [] else key ∷ [])) ++ undone keys later
undone_step acc key keys true later = ap (λ (l : List (List ℕ)). l ++ undone keys later) (sym (append-nil acc))
undone_step acc key keys false later = sym (append_assoc acc (key ∷ []) (undone keys later))

-- one key more
pub key_goes_on : {A : Type 0} (conf : Conf) (workers : ℕ) (p o q : PassView) (turns : List Reply → Turn) (t : ℕ) (r : Request) (rest : List Request) (y : Reply) (told to_tell still : List Reply → A)
    → Midway conf workers p o turns (asks_at t (r ∷ rest)) told to_tell → GoesOn conf workers o q (wish_at t r ∷ []) (y ∷ []) → ((later : List Reply) → to_tell (y ∷ later) ≡ still later)
    → Midway conf workers p q turns (asks_at t rest) told still
key_goes_on conf workers p o q turns t r rest y told to_tell still m g next =
    goes_on conf workers p o q turns (asks_at t (r ∷ rest)) (asks_at t rest) told to_tell still m (one_asked conf workers o q (asks_at t (r ∷ rest)) (wish_at t r) y g refl) (λ later. refl) next

-- one key more of those for which something may not be done
pub undone_goes_on : (conf : Conf) (workers : ℕ) (p o q : PassView) (turns : List Reply → Turn) (t : ℕ) (r : Request) (rest : List Request) (told : List Reply → List (List ℕ)) (acc new : List (List ℕ)) (key : List ℕ) (keys : List (List ℕ)) (done : Bool)
    → Midway conf workers p o turns (asks_at t (r ∷ rest)) told (λ later. acc ++ undone (key ∷ keys) later) → GoesOn conf workers o q (wish_at t r ∷ []) (Flag done ∷ []) → new ≡ acc ++ (if done then [] else key ∷ [])
    → Midway conf workers p q turns (asks_at t rest) told (λ later. new ++ undone keys later)
undone_goes_on conf workers p o q turns t r rest told acc new key keys done m g e =
    key_goes_on conf workers p o q turns t r rest (Flag done) told (λ later. acc ++ undone (key ∷ keys) later) (λ later. new ++ undone keys later) m g
    (λ later. undone_step acc key keys done later ∙ ap (λ (l : List (List ℕ)). l ++ undone keys later) (sym e))

-- one key more of those whose answers are noted
pub noted_goes_on : {A : Type 0} (conf : Conf) (workers : ℕ) (p o q : PassView) (turns : List Reply → Turn) (t : ℕ) (r : Request) (rest : List Request) (y : Reply) (answer_in : Reply → Option A) (told : List Reply → List (List ℕ × A)) (notes new : List (List ℕ × A)) (key : List ℕ) (keys : List (List ℕ))
    → Midway conf workers p o turns (asks_at t (r ∷ rest)) told (all_noted answer_in notes (key ∷ keys)) → GoesOn conf workers o q (wish_at t r ∷ []) (y ∷ []) → new ≡ noted_if key (answer_in y) notes
    → Midway conf workers p q turns (asks_at t rest) told (all_noted answer_in new keys)
noted_goes_on {A} conf workers p o q turns t r rest y answer_in told notes new key keys m g e =
    key_goes_on conf workers p o q turns t r rest y told (all_noted answer_in notes (key ∷ keys)) (all_noted answer_in new keys) m g
    (λ later. ap (λ (n : List (List ℕ × A)). all_noted answer_in n keys later) (sym e))

-- all keys were met
pub undone_ends : (conf : Conf) (workers : ℕ) (p q : PassView) (turns : List Reply → Turn) (t : ℕ) (told : List Reply → List (List ℕ)) (acc : List (List ℕ)) → Midway conf workers p q turns (asks_at t []) told (λ later. acc ++ undone [] later) → Tells conf workers p q turns told acc
undone_ends conf workers p q turns t told acc m = subst (λ (l : List (List ℕ)). Tells conf workers p q turns told l) (append-nil acc) (ends conf workers p q turns (asks_at t []) told (λ later. acc ++ undone [] later) m refl)

pub noted_ends : {A : Type 0} (conf : Conf) (workers : ℕ) (p q : PassView) (turns : List Reply → Turn) (t : ℕ) (answer_in : Reply → Option A) (told : List Reply → List (List ℕ × A)) (notes : List (List ℕ × A)) → Midway conf workers p q turns (asks_at t []) told (all_noted answer_in notes []) → Tells conf workers p q turns told notes
noted_ends conf workers p q turns t answer_in told notes m = ends conf workers p q turns (asks_at t []) told (all_noted answer_in notes []) m refl

-- what is printed of the results
pub printed : {A : Type 0} (conf : Conf) (workers : ℕ) (p q : PassView) (turns : List Reply → Turn) (told : List Reply → A) (a : A) (text : A → List ℕ) (new : List ℕ) → Tells conf workers p q turns told a → new ≡ text a → Tells conf workers p q turns (λ replies. text (told replies)) new
printed conf workers p q turns told a text new t e = record { asked = t.asked; over = t.over; is = e ∙ ap text t.is }

-- no key was met yet
pub noted_begins : {A : Type 0} (conf : Conf) (workers : ℕ) (p : PassView) (turns : List Reply → Turn) (answer_in : Reply → Option A) (notes : List (List ℕ × A)) (keys : List (List ℕ)) → notes ≡ [] → KnowsOwnEvents p → Midway conf workers p p turns turns (all_noted answer_in [] keys) (all_noted answer_in notes keys)
noted_begins {A} conf workers p turns answer_in notes keys none whole =
    subst (λ (n : List (List ℕ × A)). Midway conf workers p p turns turns (all_noted answer_in [] keys) (all_noted answer_in n keys)) (sym none) (begins conf workers p turns (all_noted answer_in [] keys) whole)

pub undone_begins : (conf : Conf) (workers : ℕ) (p : PassView) (turns : List Reply → Turn) (acc : List (List ℕ)) (keys : List (List ℕ)) → acc ≡ [] → KnowsOwnEvents p → Midway conf workers p p turns turns (undone keys) (λ later. acc ++ undone keys later)
undone_begins conf workers p turns acc keys none whole =
    subst (λ (n : List (List ℕ)). Midway conf workers p p turns turns (undone keys) (λ later. n ++ undone keys later)) (sym none) (begins conf workers p turns (undone keys) whole)

-- ---- where a loop stands

-- the item that is taken next
pub drop_item : {A : Type 0} (xs : List A) (i : ℕ) (x : A) → i < length xs → x ≡ slice_index_or xs i x → drop i xs ≡ x ∷ drop (i + 1) xs
drop_item xs i x less is = drop_more xs i x less ∙ ap (λ y. y ∷ drop (i + 1) xs) (sym is)

-- an event for it is left, and enough for those after it
pub two_left : {A : Type 0} (xs : List A) (x : A) (rest : List A) (n : ℕ) → xs ≡ x ∷ rest → length xs < n → 2 ≤ n
two_left xs x rest n split less =
    let count : length xs ≡ suc (length rest) = ap length split in
    omega (arith, count, less)

pub rest_left : {A : Type 0} (xs : List A) (x : A) (rest : List A) (n m : ℕ) → xs ≡ x ∷ rest → length xs < m → n + 1 ≡ m → length rest < n
rest_left xs x rest n m split less one =
    let count : length xs ≡ suc (length rest) = ap length split in
    omega (arith, count, less, one)

-- memory was missing after an event
pub reached_one : {A : Type 0} (conf : Conf) (workers : ℕ) (p o q : PassView) (turns : List Reply → Turn) (t : ℕ) (r : Request) (rest : List Request) (y : Reply) (told to_tell : List Reply → A) → Midway conf workers p o turns (asks_at t (r ∷ rest)) told to_tell → GoesOn conf workers o q (wish_at t r ∷ []) (y ∷ []) → Reaches conf workers p q turns
reached_one conf workers p o q turns t r rest y told to_tell m g =
    more_asked conf workers p o q turns (asks_at t (r ∷ rest)) m.0 m.1 (one_asked conf workers o q (asks_at t (r ∷ rest)) (wish_at t r) y g refl)
