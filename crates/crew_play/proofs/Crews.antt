-- The last of several workers.
use Rattle.std.proofs.Common.{◌≡◌, ℕ, zero, suc, ◌+◌, ◌-◌, ◌<◌, ◌⊎◌, inl, inr, Bool, List, [], ◌∷◌, ◌++◌, length, map, slice_get, slice_index, Some, refl, sym, ap, ◌∙◌, subst, arith, length-append}
use Rattle.std.specs.Prelude.{Result, Err, IfErr, Contains}
use Rattle.std.specs.Result.{result_ok}
use Rattle.std.proofs.lemmas.List.{same_from_push}
use Rattle.std.proofs.lemmas.List.Elements.{Contains-append_cases}
use Rattle.std.proofs.lemmas.Option.{slice_get_within, get_or_from_slice_get}
use Rattle.atomic_table.specs.Seated.{TableId}
use Rattle.apcu_model.specs.declared.conf.Clock.{Clock}
use Rattle.apcu_model.specs.declared.conf.Conf.{Conf}
use Rattle.pin_table.specs.Values.{PassView}
use Rattle.pin_table.specs.Lists.{first_passes, first_pass}
use Rattle.script_read.specs.declared.script.Step.{Step}
use Rattle.script_read.specs.Budgets.{events_in, budgets_of}
use Rattle.script_read.specs.Clock.{timed, all_timed}
use Rattle.script_read.specs.Patterns.{HasRefusable, SomeRefusable}
use Rattle.worker_play.specs.Ends.{Ends}
use Rattle.worker_play.specs.declared.script.Lines.TheVariants.{Kept}
use Rattle.worker_play.specs.declared.script.PlayFault.{PlayFault}
use Rattle.worker_play.specs.declared.script.PlayFault.TheVariants.{Pattern}
use Rattle.crew_play.specs.Crew.{AllEnd}

-- ---- passes

pub first_last : (t : TableId) (bs : List ℕ) (n : ℕ) (ps : List PassView) (p : PassView) → 0 < n → first_passes t bs n ≡ ps ++ p ∷ []
    → (ps ≡ first_passes t bs (n - 1)) × (p ≡ first_pass t bs (n - 1))
first_last t bs zero ps p some h = absurd (omega arith)
first_last t bs (suc n) ps p some h =
    let e : suc n - 1 ≡ n = omega arith in
    let s = same_from_push ps (first_passes t bs n) p (first_pass t bs n) (sym h) in
    rw e (s.0, s.1)

pub first_some : (t : TableId) (bs : List ℕ) (n : ℕ) → 0 < n → first_passes t bs n ≡ [] → ⊥
first_some t bs zero some h = absurd (omega arith)
first_some t bs (suc n) some h = go (first_passes t bs n) h
  where
    go : (l : List PassView) → l ++ first_pass t bs n ∷ [] ≡ [] → ⊥
    go [] e = absurd (cc (e))
    go (x ∷ xs) e = absurd (cc (e))

-- ---- budgets

-- a worker's budget is its script's events and its end
pub budget_at : (slots : ℕ) (scripts : List (List Step)) (w : ℕ) (script : List Step) → slice_get scripts w ≡ Some script
    → slice_index (budgets_of slots scripts) w ≡ events_in slots script + 1
budget_at slots [] w script h = absurd (cc (h))
budget_at slots (s ∷ scripts) zero script h =
    let same : s ≡ script = cc (h) in
    ap (λ (l : List Step). events_in slots l + 1) same
budget_at slots (s ∷ scripts) (suc w) script h = budget_at slots scripts w script h

-- so each has enough for its script, and for its end
pub enough_in : (slots : ℕ) (bs : List ℕ) (scripts : List (List Step)) → bs ≡ budgets_of slots scripts → (w : ℕ) (script : List Step) → slice_get scripts w ≡ Some script → events_in slots script < slice_index bs w
enough_in slots bs scripts budgets w script its =
    let here : slice_index bs w ≡ slice_index (budgets_of slots scripts) w = ap (λ (l : List ℕ). slice_index l w) budgets in
    omega (arith, here, budget_at slots scripts w script its)

-- ---- ends

-- what stands at a place of a list, after a function
pub get-map : {A B : Type 0} (f : A → B) (xs : List A) (k : ℕ) (x : A) → slice_get xs k ≡ Some x → slice_get (map f xs) k ≡ Some (f x)
get-map f [] k x h = absurd (cc (h))
get-map {A = A} f (y ∷ ys) zero x h =
    let same : y ≡ x = cc (h) in
    ap (λ (v : A). Some (f v)) same
get-map f (y ∷ ys) (suc k) x h = get-map f ys k x h

-- what stands in a list that is one longer
pub get_more : {A : Type 0} (xs : List A) (x : A) (k : ℕ) (y : A) → slice_get (xs ++ x ∷ []) k ≡ Some y → (slice_get xs k ≡ Some y) ⊎ ((k ≡ length xs) × (x ≡ y))
get_more [] x zero y h = inr (refl, cc (h))
get_more [] x (suc k) y h = absurd (cc (h))
get_more (a ∷ xs) x zero y h = inl h
get_more (a ∷ xs) x (suc k) y h = elim (get_more xs x k y h) [
  | inl t ↦ inl t
  | inr t ↦ inr (ap suc t.0, t.1)
]

pub all_none : (t : TableId) (conf : Conf) (scripts : List (List Step)) → AllEnd t conf scripts 0 [] []
all_none t conf scripts = record {
  have_ended = refl;
  have_texts = refl;
  each = λ w script b text hs hb ht. absurd (cc (hb));
}

-- one worker more has ended
pub all_more : (t : TableId) (conf : Conf) (scripts : List (List Step)) (n : ℕ) (ended : List PassView) (texts : List (Result (List ℕ) PlayFault)) (script : List Step) (b : PassView) (text : Result (List ℕ) PlayFault)
    → slice_get scripts n ≡ Some script → AllEnd t conf scripts n ended texts → Ends t conf n Kept script b (result_ok text) → AllEnd t conf scripts (suc n) (ended ++ b ∷ []) (texts ++ text ∷ [])
all_more t conf scripts n ended texts script b text is all one = record {
  have_ended = omega (arith, length-append ended (b ∷ []), all.have_ended);
  have_texts = omega (arith, length-append texts (text ∷ []), all.have_texts);
  each = λ w s c x hs hc hx. elim (get_more ended b w c hc) [
    | inl before ↦ elim (get_more texts text w x hx) [
      | inl there ↦ all.each w s c x hs before there
      | inr (at, e) ↦ absurd (omega (arith, at, slice_get_within ended w c before, all.have_ended, all.have_texts))
    ]
    | inr (at, e) ↦ elim (get_more texts text w x hx) [
      | inl there ↦ absurd (omega (arith, at, slice_get_within texts w x there, all.have_ended, all.have_texts))
      | inr (place, same) ↦
          let here : w ≡ n = at ∙ all.have_ended in
          let its : Some script ≡ Some s = sym is ∙ (ap (slice_get scripts) (sym here) ∙ hs) in
          let whose : script ≡ s = cc (its) in
          subst (λ v. Ends t conf v Kept s c (result_ok x)) (sym here)
          (subst (λ v. Ends t conf n Kept v c (result_ok x)) whose (subst (λ v. Ends t conf n Kept script v (result_ok x)) e (subst (λ (v : Result (List ℕ) PlayFault). Ends t conf n Kept script b (result_ok v)) same one)))
    ]
  ];
}

-- so it is where lists have grown by it
pub all_with : (t : TableId) (conf : Conf) (clock : Clock) (scripts : List (List Step)) (n count : ℕ) (front ended : List PassView) (fronts texts : List (Result (List ℕ) PlayFault)) (script : List Step) (b : PassView) (text : Result (List ℕ) PlayFault)
    → suc n ≡ count → slice_get scripts n ≡ Some script → AllEnd t conf (all_timed clock scripts) n front fronts → Ends t conf n Kept (timed clock script) b (result_ok text) → ended ≡ front ++ b ∷ [] → texts ≡ fronts ++ text ∷ []
    → AllEnd t conf (all_timed clock scripts) count ended texts
all_with t conf clock scripts n count front ended fronts texts script b text is there all one more told =
    let whole = all_more t conf (all_timed clock scripts) n front fronts (timed clock script) b text (get-map (timed clock) scripts n script there) all one in
    subst (λ (l : List PassView). AllEnd t conf (all_timed clock scripts) count l texts) (sym more)
    (subst (λ (l : List (Result (List ℕ) PlayFault)). AllEnd t conf (all_timed clock scripts) count (front ++ b ∷ []) l) (sym told)
    (subst (λ v. AllEnd t conf (all_timed clock scripts) v (front ++ b ∷ []) (fronts ++ text ∷ [])) is whole))

-- ---- faults

-- what stands at a place is in the list
pub contains_at : {A : Type 0} (xs : List A) (k : ℕ) (x : A) → slice_get xs k ≡ Some x → Contains xs x
contains_at xs k x h = (k, slice_get_within xs k x h, get_or_from_slice_get xs k x x h)

pub contains_one : {A : Type 0} (x y : A) → Contains (x ∷ []) y → x ≡ y
contains_one x y (zero, lt, e) = e
contains_one x y (suc k, lt, e) = absurd (omega (arith, lt))

-- what a list with one more has is in the list or is that one
pub by_more : {A : Type 0} {P : Type 0} (xs : List A) (x y : A) → (Contains xs y → P) → (x ≡ y → P) → Contains (xs ++ x ∷ []) y → P
by_more xs x y front last there = elim (Contains-append_cases xs (x ∷ []) y there) [
  | inl l ↦ front l
  | inr r ↦ last (contains_one x y r)
]

-- why a worker ended for a pattern
pub cause_of : {P : Type 0} (text : Result (List ℕ) PlayFault) → IfErr text (λ e. e ≡ Pattern → P) → text ≡ Err Pattern → P
cause_of {P} text cause is = subst (λ (r : Result (List ℕ) PlayFault). IfErr r (λ e. e ≡ Pattern → P)) is cause refl

-- a pattern for which one of several workers ended
pub refusable_with : (may_refuse : Bool → List ℕ → Type 0) (scripts : List (List Step)) (n : ℕ) (fronts texts : List (Result (List ℕ) PlayFault)) (script : List Step) (text : Result (List ℕ) PlayFault)
    → slice_get scripts n ≡ Some script → (Contains fronts (Err Pattern) → SomeRefusable may_refuse scripts) → IfErr text (λ e. e ≡ Pattern → HasRefusable may_refuse script) → texts ≡ fronts ++ text ∷ []
    → Contains texts (Err Pattern) → SomeRefusable may_refuse scripts
refusable_with may_refuse scripts n fronts texts script text is before cause told there =
    by_more fronts text (Err Pattern) before
    (λ same. record { script = script; among = contains_at scripts n script is; has = cause_of text cause same })
    (subst (λ (l : List (Result (List ℕ) PlayFault)). Contains l (Err Pattern)) {x = texts} told there)
