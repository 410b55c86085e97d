-- What a builder keeps, after each item.
use Rattle.std.proofs.Common.{◌≡◌, ℕ, zero, suc, ◌-◌, ◌<◌, ◌≤◌, Bool, true, false, cond, List, [], ◌∷◌, ◌++◌, length, map, reverse, set, Option, Some, None, refl, sym, ap, subst, ◌∙◌, arith, length-append}
use Rattle.std.specs.List.{AllByRecursion, slice_get}
use Rattle.std.specs.Option.{is_some}
use Rattle.std.proofs.lemmas.Bool.{false≢true}
use Rattle.std.proofs.lemmas.List.{reverse-append, reverse-reverse, length-map, length-reverse}
use Rattle.std.proofs.lemmas.List.Sums.{sum_by-cons}
use Rattle.php_graph.specs.declared.container.Container.{Container}
use Rattle.php_graph.specs.declared.key.Key.{Key}
use Rattle.php_graph.specs.declared.child.Child.{Child}
use Rattle.php_graph.specs.declared.kind.Kind.{Kind}
use Rattle.php_graph.specs.declared.item.Wants.TheVariants.{Value, ArrayKey, Name}
use Rattle.php_graph.specs.Graph.{kind_at, children_of, is_array}
use Rattle.php_graph.specs.Building.{with_member, is_container, attached, wants_by, wants_of}
use Rattle.php_graph.specs.BuilderState.{IsDraft, CanTake, CanAttach, is_open_at, places_of, draft_of}
use Rattle.php_graph.specs.MemberCounts.{children_in}
use Rattle.php_graph.proofs.DraftLemmas.{kind_at-append_old, place_is, one_kind}
use Rattle.php_graph.proofs.DraftAfterItem.{open_kind, takes_key}

-- ---- the innermost container

slice_get_end : {A : Type 0} (xs : List A) (y : A) → slice_get (xs ++ y ∷ []) (length (xs ++ y ∷ []) - 1) ≡ Some y
slice_get_end [] y = refl
slice_get_end (x ∷ xs) y =
    let i : suc (length (xs ++ y ∷ [])) - 1 ≡ suc (length (xs ++ y ∷ []) - 1) = omega (arith, length-append xs (y ∷ [])) in
    rw i (slice_get_end xs y)

last_by : (cs r : List Container) (c : Container) → reverse cs ≡ r → slice_get cs (length cs - 1) ≡ Some c → (rest : List Container) × (reverse cs ≡ c ∷ rest)
last_by cs [] c is last =
    let none : cs ≡ [] = sym (reverse-reverse cs) ∙ ap reverse is in
    let absent : None ≡ Some c = sym (ap (λ (xs : List Container). slice_get xs (length xs - 1)) none) ∙ last in
    absurd cc
last_by cs (x ∷ rest) c is last =
    let whole : cs ≡ reverse rest ++ x ∷ [] = sym (reverse-reverse cs) ∙ ap reverse is ∙ reverse-append (x ∷ []) rest in
    let first : Some x ≡ Some c = sym (slice_get_end (reverse rest) x) ∙ sym (ap (λ (xs : List Container). slice_get xs (length xs - 1)) whole) ∙ last in
    let same : x ≡ c = cc in
    (rest, subst (λ (y : Container). reverse cs ≡ y ∷ rest) same is)

-- the container that was opened last is the innermost one
pub last_first : (cs : List Container) (c : Container) → slice_get cs (length cs - 1) ≡ Some c → (rest : List Container) × (reverse cs ≡ c ∷ rest)
last_first cs c last = last_by cs (reverse cs) c refl last

pub record IsInnermost (g : List Kind) (cs : List Container) (c : Container) : Type 0 where
  pub rest : List Container
  pub first : reverse cs ≡ c ∷ rest
  pub kind : Kind
  pub there : kind_at g c.place ≡ Some kind
  pub holds : is_container kind ≡ true
  pub low : 1 ≤ c.place
  pub high : c.place ≤ length g

pub innermost_is : (g : List Kind) (cs : List Container) (key : Option Key) (c : Container) → IsDraft g (places_of cs) key → slice_get cs (length cs - 1) ≡ Some c → IsInnermost g cs c
innermost_is g cs key c d last =
    let l = last_first cs c last in
    let all : AllByRecursion (λ p. is_open_at g p ≡ true) (c.place ∷ map (λ c. c.place) l.0) = subst (λ (xs : List Container). AllByRecursion (λ p. is_open_at g p ≡ true) (map (λ c. c.place) xs)) l.1 d.opened in
    let o = open_kind g c.place (kind_at g c.place) refl all.0 in
    let place = place_is g c.place o.0 o.1 in
    record { rest = l.0; first = l.1; kind = o.0; there = o.1; holds = o.2; low = place.low; high = place.high }

pub wants_inside_is : (g : List Kind) (cs : List Container) (c : Container) (i : IsInnermost g cs c) → wants_by g (places_of cs) None ≡ cond (is_array i.kind) ArrayKey Name
wants_inside_is g cs c i = rw (i.first, i.there) refl

pub wants_waiting : (g : List Kind) (cs : List Container) (c : Container) (key : Key) → IsInnermost g cs c → wants_by g (places_of cs) (Some key) ≡ Value
wants_waiting g cs c key i = rw i.first refl

-- ---- a member for the innermost container

pub can_take : (g : List Kind) (cs : List Container) (c : Container) (key : Key) → slice_get cs (length cs - 1) ≡ Some c → CanAttach g (places_of cs) (Some key) → CanTake g c.place key
can_take g cs c key last can =
    let l = last_first cs c last in
    subst (λ (xs : List Container). CanAttach g (map (λ c. c.place) xs) (Some key)) l.1 can

pub attached_last : (g : List Kind) (cs : List Container) (c : Container) (key : Key) (child : Child) (kind : Kind) → slice_get cs (length cs - 1) ≡ Some c → kind_at g c.place ≡ Some kind → attached g (places_of cs) (Some key) child ≡ set g (c.place - 1) (with_member kind key child)
attached_last g cs c key child kind last there =
    let l = last_first cs c last in rw (l.1, there) refl

set-append : {A : Type 0} (xs ys : List A) (i : ℕ) (y : A) → i < length xs → set (xs ++ ys) i y ≡ set xs i y ++ ys
set-append [] ys i y lt = absurd (omega arith)
set-append (x ∷ xs) ys zero y lt = refl
set-append (x ∷ xs) ys (suc i) y lt = ap (λ (zs : List _). x ∷ zs) (set-append xs ys i y (omega arith))

pub attached-push : (g : List Kind) (cs : List ℕ) (key : Option Key) (child : Child) (more : Kind) → CanAttach g cs key → attached (g ++ more ∷ []) cs key child ≡ attached g cs key child ++ more ∷ []
attached-push g [] None child more can = refl
attached-push g [] (Some key) child more can = refl
attached-push g (p ∷ outer) None child more can = refl
attached-push g (p ∷ outer) (Some key) child more can =
    let place = place_is g p can.kind can.there in
    let there : kind_at (g ++ more ∷ []) p ≡ Some can.kind = kind_at-append_old g (more ∷ []) p place.high ∙ can.there in
    rw (there, can.there) (set-append g (more ∷ []) (p - 1) (with_member can.kind key child) (omega (arith, place.low, place.high)))

pub can-push : (g : List Kind) (cs : List ℕ) (key : Option Key) (more : Kind) → CanAttach g cs key → CanAttach (g ++ more ∷ []) cs key
can-push g [] key more can = can
can-push g (p ∷ outer) None more can = tt
can-push g (p ∷ outer) (Some key) more can =
    let place = place_is g p can.kind can.there in
    record { kind = can.kind; there = kind_at-append_old g (more ∷ []) p place.high ∙ can.there; room = can.room; named = can.named }

-- no container has more members than all have together
children_at_most : (g : List Kind) (i : ℕ) (kind : Kind) → slice_get g i ≡ Some kind → length (children_of kind) ≤ children_in g
children_at_most [] i kind e = absurd cc
children_at_most (k ∷ ks) zero kind e =
    let same : k ≡ kind = cc in
    omega (arith, sum_by-cons (λ k. length (children_of k)) k ks, ap (λ (k : Kind). length (children_of k)) same)
children_at_most (k ∷ ks) (suc i) kind e = omega (arith, sum_by-cons (λ k. length (children_of k)) k ks, children_at_most ks i kind e)

pub children_few : (g : List Kind) (p : ℕ) (kind : Kind) → kind_at g p ≡ Some kind → length (children_of kind) ≤ children_in g
children_few g zero kind e = absurd cc
children_few g (suc p) kind e = children_at_most g p kind e

pub can_attach : (g : List Kind) (cs : List ℕ) (key : Option Key) → IsDraft g cs key → CanAttach g cs key
can_attach g [] None d = refl
can_attach g [] (Some key) d = absurd d.waiting
can_attach g (p ∷ outer) None d = tt
can_attach g (p ∷ outer) (Some key) d =
    let o = open_kind g p (kind_at g p) refl d.opened.0 in
    let takes = takes_key g p outer key o.0 o.1 o.2 d.waiting in
    record { kind = o.0; there = o.1; room = omega (arith, children_few g p o.0 o.1, d.members, d.count); named = takes.named }

-- if there is no place, no member is added and no key waits
pub attached_nothing : (cs : List ℕ) (key : Option Key) (c : Child) → attached [] cs key c ≡ []
attached_nothing [] key c = refl
attached_nothing (p ∷ outer) None c = refl
attached_nothing (zero ∷ outer) (Some key) c = refl
attached_nothing (suc p ∷ outer) (Some key) c = refl

pub no_key : (cs : List ℕ) (key : Option Key) → CanAttach [] cs key → key ≡ None
no_key [] key can = can
no_key (p ∷ outer) None can = refl
no_key (zero ∷ outer) (Some key) can = absurd (let t : None ≡ Some can.kind = can.there in cc)
no_key (suc p ∷ outer) (Some key) can = absurd (let t : None ≡ Some can.kind = can.there in cc)

-- where nothing is written, no container is open
pub none_open : (cs : List ℕ) → AllByRecursion (λ p. is_open_at [] p ≡ true) cs → cs ≡ []
none_open [] opened = refl
none_open (p ∷ outer) opened = let o = open_kind [] p (kind_at [] p) refl opened.0 in let low = place_is [] p o.0 o.1 in absurd (omega (arith, low.low, low.high))

pub none_in : (cs : List Container) → AllByRecursion (λ p. is_open_at [] p ≡ true) (places_of cs) → length cs ≡ 0
none_in cs opened = omega (arith, ap length (none_open (places_of cs) opened), length-map (reverse cs) (λ c. c.place), length-reverse cs)

-- where nothing is written, a value is wanted
pub wants_first : (cs : List ℕ) (key : Option Key) → IsDraft [] cs key → wants_by [] cs key ≡ Value
wants_first [] key d = refl
wants_first (p ∷ outer) key d = let none : p ∷ outer ≡ [] = none_open (p ∷ outer) d.opened in absurd cc

-- ---- what comes next

none_from : (o : Option Key) → false ≡ is_some o → o ≡ None
none_from None e = refl
none_from (Some key) e = absurd (false≢true e)

-- what an open container wants where no key waits
pub wants_here : (g : List Kind) (cs : List Container) (key : Option Key) (c : Container) (b : Bool) (k : Kind) → IsDraft g (places_of cs) key → slice_get cs (length cs - 1) ≡ Some c → false ≡ is_some key → slice_get g (c.place - 1) ≡ Some k → b ≡ is_array k → wants_of (draft_of g cs key) ≡ cond b ArrayKey Name
wants_here g cs key c b k d last no_key at is =
    let i = innermost_is g cs key c d last in
    let same : k ≡ i.kind = one_kind g c.place i.kind k i.there at in
    ap (λ (o : Option Key). wants_by g (places_of cs) o) (none_from key no_key) ∙ wants_inside_is g cs c i ∙ ap (λ (x : Bool). cond x ArrayKey Name) (sym (is ∙ ap is_array same))
