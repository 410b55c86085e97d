-- The items of a graph write it.
use Rattle.std.proofs.Common.{◌≡◌, ℕ, ◌+◌, ◌<◌, ◌≤◌, Bool, true, false, cond, List, [], ◌∷◌, ◌++◌, length, map, Option, Some, None, refl, sym, ap, subst, ◌∙◌, arith, append_assoc, inl, inr}
use Rattle.std.specs.Prelude.{◌&&◌, ◌||◌, not}
use Rattle.std.specs.List.{AllByRecursion, list_all}
use Rattle.std.proofs.lemmas.Bool.{cases_lt, false≢true}
use Rattle.std.proofs.lemmas.List.{append-nil}
use Rattle.std.proofs.lemmas.List.Folds.{list_any-append}
use Rattle.php_graph.specs.declared.key.Key.{Key}
use Rattle.php_graph.specs.declared.key.Key.TheVariants as keys
use Rattle.php_graph.specs.declared.child.Child.{Child}
use Rattle.php_graph.specs.declared.kind.Kind.{Kind}
use Rattle.php_graph.specs.declared.kind.Kind.TheVariants as kinds
use Rattle.php_graph.specs.declared.item.Item.{Item}
use Rattle.php_graph.specs.declared.item.Item.TheVariants as items
use Rattle.php_graph.specs.declared.item.Wants.TheVariants.{ArrayKey, Name}
use Rattle.php_graph.specs.declared.item.BuildFault.TheVariants.{RepeatedKey, IntegerText}
use Rattle.php_graph.specs.Graph.{kind_at, keys_of, passes, is_array, is_array_at, is_object, key_eq, holds_key, are_distinct, is_array_key, FitsKey, ends_after, most_values, values_in}
use Rattle.php_graph.specs.Building.{item_fits, fault_in, drafted, member_items, named, with_member, is_container, is_name}
use Rattle.php_graph.proofs.EndLemmas.{then_some}
use Rattle.php_graph.proofs.DraftLemmas.{kind_at-set_other, kind_at-set_same, place_is, with_member-is_object, with_member-is_container, key_eq-swap, or_false, and_true, not_true}
use Rattle.php_graph.proofs.DraftAfterItem.{attached_is, key_drafted}
use Rattle.php_graph.proofs.LawItems.{members_of, opening, with_member-members, with_member-opening}
use Rattle.php_graph.proofs.LawValues.{draft, values, values-cons, values-append, step_on, Ready, next, ChildDone}

-- ---- keys that may come

distinct_new : (ks : List Key) (k : Key) (more : List Key) → are_distinct (ks ++ k ∷ more) ≡ true → holds_key ks k ≡ false
distinct_new [] k more e = refl
distinct_new (x ∷ xs) k more e =
    let d = and_true (not (holds_key (xs ++ k ∷ more) x)) (are_distinct (xs ++ k ∷ more)) e in
    let apart : (holds_key xs x || holds_key (k ∷ more) x) ≡ false = sym (list_any-append (key_eq x) xs (k ∷ more)) ∙ not_true (holds_key (xs ++ k ∷ more) x) d.0 in
    let second = or_false (holds_key xs x) (holds_key (k ∷ more) x) apart in
    let here = or_false (key_eq x k) (holds_key more x) second.1 in
    rw (key_eq-swap k x, here.0) (distinct_new xs k more d.1)

no_key_fault : (a b c : Bool) → (a ≡ true → b ≡ true) → c ≡ false → cond (a && not b) (Some IntegerText) (cond c (Some RepeatedKey) None) ≡ None
no_key_fault true b c f e = rw (f refl, e) refl
no_key_fault false b c f e = rw e refl

key_fits : (kind : Kind) (key : Key) → is_container kind ≡ true → (is_object kind ≡ true → is_name key ≡ true) → item_fits (cond (is_array kind) ArrayKey Name) (items.Key key) ≡ true
key_fits (kinds.Array ms) key holds names = refl
key_fits (kinds.Object class ps) key holds names = names refl
key_fits kind key holds names = absurd (false≢true holds)

pub close_fits : (b : Bool) → item_fits (cond b ArrayKey Name) items.Close ≡ true
close_fits true = refl
close_fits false = refl

with_member-is_array : (kind : Kind) (key : Key) (c : Child) → is_array (with_member kind key c) ≡ is_array kind
with_member-is_array (kinds.Array ms) key c = refl
with_member-is_array (kinds.Object class ps) (keys.Int n) c = refl
with_member-is_array (kinds.Object class ps) (keys.Str name) c = refl
with_member-is_array kind key c = refl

keys_named : (ps : List (List ℕ × Child)) → map (λ m. m.0) (map named ps) ≡ map (λ p. keys.Str p.0) ps
keys_named [] = refl
keys_named (p ∷ ps) = ap (λ (ks : List Key). keys.Str p.0 ∷ ks) (keys_named ps)

pub members_keys : (kind : Kind) → map (λ m. m.0) (members_of kind) ≡ keys_of kind
members_keys (kinds.Array ms) = refl
members_keys (kinds.Object class ps) = keys_named ps
members_keys kind = refl

map_keys-append : (ms ns : List (Key × Child)) → map (λ m. m.0) (ms ++ ns) ≡ map (λ m. m.0) ms ++ map (λ m. m.0) ns
map_keys-append [] ns = refl
map_keys-append (m ∷ ms) ns = ap (λ (ks : List Key). m.0 ∷ ks) (map_keys-append ms ns)

-- members that the container may still take, in their order
pub record Coming (kind : Kind) (ms : List (Key × Child)) : Type 0 where
  pub distinct : are_distinct (map (λ m. m.0) (members_of kind ++ ms)) ≡ true
  pub names : is_object kind ≡ true → list_all (λ m. is_name m.0) ms ≡ true
  pub array_keys : is_array kind ≡ true → list_all (λ m. is_array_key m.0) ms ≡ true
  pub fits : AllByRecursion (λ m. FitsKey m.0) ms

coming_name : (kind : Kind) (key : Key) (c : Child) (ms : List (Key × Child)) → Coming kind ((key, c) ∷ ms) → is_object kind ≡ true → is_name key ≡ true
coming_name kind key c ms coming object = (and_true (is_name key) (list_all (λ m. is_name m.0) ms) (coming.names object)).0

coming_new : (kind : Kind) (key : Key) (c : Child) (ms : List (Key × Child)) → Coming kind ((key, c) ∷ ms) → fault_in kind key ≡ None
coming_new kind key c ms coming =
    let all : are_distinct (map (λ m. m.0) (members_of kind) ++ key ∷ map (λ m. m.0) ms) ≡ true = subst (λ (ks : List Key). are_distinct ks ≡ true) (map_keys-append (members_of kind) ((key, c) ∷ ms)) coming.distinct in
    let new : holds_key (keys_of kind) key ≡ false = ap (λ (ks : List Key). holds_key ks key) (sym (members_keys kind)) ∙ distinct_new (map (λ m. m.0) (members_of kind)) key (map (λ m. m.0) ms) all in
    no_key_fault (is_array kind) (is_array_key key) (holds_key (keys_of kind) key) (λ e. (and_true (is_array_key key) (list_all (λ m. is_array_key m.0) ms) (coming.array_keys e)).0) new

coming_rest : (kind : Kind) (key : Key) (c : Child) (ms : List (Key × Child)) → is_container kind ≡ true → Coming kind ((key, c) ∷ ms) → Coming (with_member kind key c) ms
coming_rest kind key c ms holds coming =
    let members = with_member-members kind key c holds (coming_name kind key c ms coming) in
    let same : members_of kind ++ (key, c) ∷ ms ≡ members_of (with_member kind key c) ++ ms = sym (append_assoc (members_of kind) ((key, c) ∷ []) ms) ∙ ap (λ (xs : List (Key × Child)). xs ++ ms) (sym members) in
    record {
      distinct = subst (λ (xs : List (Key × Child)). are_distinct (map (λ m. m.0) xs) ≡ true) same coming.distinct;
      names = λ e. (and_true (is_name key) (list_all (λ m. is_name m.0) ms) (coming.names (sym (with_member-is_object kind key c) ∙ e))).1;
      array_keys = λ e. (and_true (is_array_key key) (list_all (λ m. is_array_key m.0) ms) (coming.array_keys (sym (with_member-is_array kind key c) ∙ e))).1;
      fits = coming.fits.1;
    }

-- ---- members one after the other

-- These items write the members into the container at place p.
pub record MembersDone (g places : List Kind) (p : ℕ) (outer : List ℕ) (kind : Kind) (ms : List (Key × Child)) (e : ℕ) (is : List Item) : Type 0 where
  pub after : List Kind
  pub size : length after + 1 ≡ e
  pub grew : length places ≤ length after
  pub ready : Ready g after (p ∷ outer) None
  pub filled : Kind
  pub there : kind_at after p ≡ Some filled
  pub holds : is_container filled ≡ true
  pub opened : opening filled ≡ opening kind
  pub members : members_of filled ≡ members_of kind ++ ms
  pub old : (k : ℕ) → k ≤ length places → ¬ k ≡ p → kind_at after k ≡ kind_at places k
  pub new : (k : ℕ) → length places < k → k < e → kind_at after k ≡ kind_at g k
  pub more : values_in after ≡ values_in places + values is
  pub does : (rest : List Item) → drafted (draft places (p ∷ outer) None) (is ++ rest) ≡ drafted (draft after (p ∷ outer) None) rest

-- each member's value is written by its items
abbrev pub EachDone : List Kind → (Child → List Item) → (Child → ℕ → Option ℕ) → List ℕ → Type 0
EachDone g w end cs = (places : List Kind) (key : Key) (c : Child) (e : ℕ) → Ready g places cs (Some key) → end c (next places) ≡ Some e → values_in places + values (w c) ≤ most_values → ChildDone g places cs (Some key) c e (w c)

none_done : (g places : List Kind) (p : ℕ) (outer : List ℕ) (kind : Kind) (e : ℕ) → Ready g places (p ∷ outer) None → kind_at places p ≡ Some kind → is_container kind ≡ true → Some (next places) ≡ Some e → MembersDone g places p outer kind [] e []
none_done g places p outer kind e r there holds ends =
    let size : next places ≡ e = cc in
    record {
      after = places;
      size = size;
      grew = omega arith;
      ready = r;
      filled = kind;
      there = there;
      holds = holds;
      opened = refl;
      members = sym (append-nil (members_of kind));
      old = λ k le ne. refl;
      new = λ k above below. absurd (omega arith);
      more = omega arith;
      does = λ rest. refl;
    }

-- the draft after a key
key_ready : (g places : List Kind) (p : ℕ) (outer : List ℕ) (kind : Kind) (key : Key) (c : Child) (ms : List (Key × Child)) → Ready g places (p ∷ outer) None → kind_at places p ≡ Some kind → Coming kind ((key, c) ∷ ms) → Ready g places (p ∷ outer) (Some key)
key_ready g places p outer kind key c ms r there coming = record {
  alike = r.alike;
  draft = key_drafted places p outer key r.draft coming.fits.0 (rw there (coming_new kind key c ms coming)) (λ e. coming_name kind key c ms coming (sym (ap (passes is_object) there) ∙ e));
}

key_step : (places : List Kind) (p : ℕ) (outer : List ℕ) (kind : Kind) (key : Key) (c : Child) (ms : List (Key × Child)) (rest : List Item) → kind_at places p ≡ Some kind → is_container kind ≡ true → Coming kind ((key, c) ∷ ms)
    → drafted (draft places (p ∷ outer) None) (items.Key key ∷ rest) ≡ drafted (draft places (p ∷ outer) (Some key)) rest
key_step places p outer kind key c ms rest there holds coming =
    let fits : item_fits (cond (is_array_at places p) ArrayKey Name) (items.Key key) ≡ true = rw there (key_fits kind key holds (coming_name kind key c ms coming)) in
    step_on (draft places (p ∷ outer) None) (items.Key key) rest fits (rw there (coming_new kind key c ms coming))

-- one member, and those after it
member_then : (g places : List Kind) (p : ℕ) (outer : List ℕ) (kind : Kind) (key : Key) (c : Child) (ms : List (Key × Child)) (m e : ℕ) (is js : List Item) → kind_at places p ≡ Some kind → is_container kind ≡ true → Coming kind ((key, c) ∷ ms)
    → (one : ChildDone g places (p ∷ outer) (Some key) c m is) → MembersDone g one.after p outer (with_member kind key c) ms e js → MembersDone g places p outer kind ((key, c) ∷ ms) e (items.Key key ∷ is ++ js)
member_then g places p outer kind key c ms m e is js there holds coming one others =
    let place = place_is places p kind there in
    let members = with_member-members kind key c holds (coming_name kind key c ms coming) in
    let made = attached_is places p outer key c kind there in
    record {
      after = others.after;
      size = others.size;
      grew = omega (arith, one.grew, others.grew);
      ready = others.ready;
      filled = others.filled;
      there = others.there;
      holds = others.holds;
      opened = others.opened ∙ with_member-opening kind key c;
      members = others.members ∙ ap (λ (xs : List (Key × Child)). xs ++ ms) members ∙ append_assoc (members_of kind) ((key, c) ∷ []) ms;
      old = λ k le ne. others.old k (omega (arith, one.grew)) ne ∙ one.old k le ∙ ap (λ (h : List Kind). kind_at h k) made ∙ kind_at-set_other places p k (with_member kind key c) place.low ne;
      new = λ k above below. elim (cases_lt k (next one.after)) [
        | inl lt ↦ others.old k (omega arith) (λ same. omega (arith, place.high)) ∙ one.new k above (omega (arith, one.size))
        | inr ge ↦ others.new k (omega arith) below
      ];
      more = omega (arith, one.more, others.more, values-cons (items.Key key) (is ++ js), values-append is js);
      does = λ rest. key_step places p outer kind key c ms ((is ++ js) ++ rest) there holds coming ∙ ap (drafted (draft places (p ∷ outer) (Some key))) (append_assoc is js rest) ∙ one.does (js ++ rest) ∙ others.does rest;
    }

pub members_done : (g : List Kind) (w : Child → List Item) (end : Child → ℕ → Option ℕ) (p : ℕ) (outer : List ℕ) → EachDone g w end (p ∷ outer) → (ms : List (Key × Child)) (places : List Kind) (kind : Kind) (e : ℕ) → Ready g places (p ∷ outer) None → kind_at places p ≡ Some kind → is_container kind ≡ true → Coming kind ms
    → ends_after end (map (λ m. m.1) ms) (next places) ≡ Some e → values_in places + values (member_items w ms) ≤ most_values → MembersDone g places p outer kind ms e (member_items w ms)
members_done g w end p outer each [] places kind e r there holds coming ends few = none_done g places p outer kind e r there holds ends
members_done g w end p outer each (x ∷ ms) places kind e r there holds coming ends few =
    let key = x.0 in
    let c = x.1 in
    let t = then_some (ends_after end (map (λ m. m.1) ms)) (end c (next places)) e ends in
    let total : values (member_items w (x ∷ ms)) ≡ values (w c) + values (member_items w ms) = values-cons (items.Key key) (w c ++ member_items w ms) ∙ omega (arith, values-append (w c) (member_items w ms)) in
    let one = each places key c t.0 (key_ready g places p outer kind key c ms r there coming) t.1 (omega (arith, few, total)) in
    let more = with_member kind key c in
    let at : kind_at one.after p ≡ Some more = one.old p (place_is places p kind there).high ∙ ap (λ (h : List Kind). kind_at h p) (attached_is places p outer key c kind there) ∙ kind_at-set_same places p kind more there in
    let later : ends_after end (map (λ m. m.1) ms) (next one.after) ≡ Some e = subst (λ (n : ℕ). ends_after end (map (λ m. m.1) ms) n ≡ Some e) (sym one.size) t.2 in
    let others = members_done g w end p outer each ms one.after more e one.ready at (with_member-is_container kind key c ∙ holds) (coming_rest kind key c ms holds coming) later (omega (arith, few, total, one.more)) in
    member_then g places p outer kind key c ms t.0 e (w c) (member_items w ms) there holds coming one others
