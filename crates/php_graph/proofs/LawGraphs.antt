-- A graph is written by its items.
use Rattle.std.proofs.Common.{◌≡◌, ℕ, zero, suc, ◌+◌, ◌<◌, ◌≤◌, Bool, true, cond, List, [], ◌∷◌, ◌++◌, length, map, Option, Some, None, refl, sym, ap, subst, ◌∙◌, arith, append_assoc, inl, inr}
use Rattle.std.specs.Prelude.{IsTrue}
use Rattle.std.specs.List.{AllByRecursion, list_all, slice_get}
use Rattle.std.proofs.lemmas.Bool.{false≢true}
use Rattle.std.proofs.lemmas.List.{append-nil}
use Rattle.php_graph.specs.ByteStrings.{AreBytes}
use Rattle.php_graph.specs.declared.key.Key.{Key}
use Rattle.php_graph.specs.declared.key.Key.TheVariants as keys
use Rattle.php_graph.specs.declared.child.Child.{Child}
use Rattle.php_graph.specs.declared.child.Child.TheVariants.{Own, Back}
use Rattle.php_graph.specs.declared.kind.Kind.{Kind}
use Rattle.php_graph.specs.declared.kind.Kind.TheVariants as kinds
use Rattle.php_graph.specs.declared.item.Item.{Item}
use Rattle.php_graph.specs.declared.item.Item.TheVariants as items
use Rattle.php_graph.specs.declared.item.Wants.TheVariants.{Value}
use Rattle.php_graph.specs.Graph.{kind_at, children_of, is_object, is_object_at, is_array_at, are_distinct, is_array_key, is_class, is_well_formed, FitsKey, FitsKind, ends_after, child_end, end_of, levels, most_values, values_in, IsGraph}
use Rattle.php_graph.specs.Building.{nothing_drafted, all_drafted, wants_by, drafted, named, member_items, kind_items, child_items, items_of, is_container, is_name}
use Rattle.php_graph.specs.BuilderState.{IsDraft}
use Rattle.php_graph.proofs.EndLemmas.{own_end, back_end}
use Rattle.php_graph.proofs.DraftLemmas.{and_true, All-place}
use Rattle.php_graph.proofs.DraftShapes.{same_or}
use Rattle.php_graph.proofs.DraftAfterItem.{close_drafted}
use Rattle.php_graph.proofs.LawSteps.{nothing_is}
use Rattle.php_graph.proofs.LawItems.{members_of, members_children, opening}
use Rattle.php_graph.proofs.LawValues.{draft, values, values-cons, values-append, value_first, step_on, room_none, Ready, Waits, next, placed, Placed, place_value, ChildDone, Pushes, value_step, leaf_done, back_done}
use Rattle.php_graph.proofs.LawMembers.{Coming, MembersDone, EachDone, members_done, members_keys, close_fits}

-- ---- containers are alike by what opens them and their members

abbrev name_of : Key → List ℕ
name_of (keys.Int n) = []
name_of (keys.Str bytes) = bytes

abbrev unnamed : List (Key × Child) → List (List ℕ × Child)
unnamed [] = []
unnamed (m ∷ ms) = (name_of m.0, m.1) ∷ unnamed ms

unnamed_named : (ps : List (List ℕ × Child)) → unnamed (map named ps) ≡ ps
unnamed_named [] = refl
unnamed_named (p ∷ ps) = ap (λ (xs : List (List ℕ × Child)). p ∷ xs) (unnamed_named ps)

same_array : (ms : List (Key × Child)) (b : Kind) → is_container b ≡ true → opening b ≡ items.OpenArray ∷ [] → members_of b ≡ ms → b ≡ kinds.Array ms
same_array ms (kinds.Array ns) holds opened members = ap kinds.Array members
same_array ms (kinds.Object class ps) holds opened members = absurd cc
same_array ms kind holds opened members = absurd (false≢true holds)

same_object : (class : List ℕ) (ps : List (List ℕ × Child)) (b : Kind) → is_container b ≡ true → opening b ≡ items.OpenObject class ∷ [] → members_of b ≡ map named ps → b ≡ kinds.Object class ps
same_object class ps (kinds.Array ns) holds opened members = absurd cc
same_object class ps (kinds.Object class' qs) holds opened members =
    let classes : class' ≡ class = cc in
    let props : qs ≡ ps = sym (unnamed_named qs) ∙ ap unnamed members ∙ unnamed_named ps in
    λ i. kinds.Object (classes i) (props i)
same_object class ps kind holds opened members = absurd (false≢true holds)

-- ---- a container

-- a container whose members have all been written is closed
closed_done : (g places : List Kind) (cs : List ℕ) (key : Option Key) (empty kind : Kind) (item : Item) (ms : List (Key × Child)) (e : ℕ) (is : List Item) → Waits places cs key → Pushes places cs key empty item → is_container empty ≡ true → Placed g places cs key empty → kind_at g (next places) ≡ Some kind
    → (m : MembersDone g (placed places cs key empty) (next places) cs empty ms e is) → m.filled ≡ kind → ChildDone g places cs key (Own (next places)) e (item ∷ is ++ items.Close ∷ [])
closed_done g places cs key empty kind item ms e is w p holds s there m same =
    let n = next places in
    let h = placed places cs key empty in
    let total : values (is ++ items.Close ∷ []) ≡ values is = omega (arith, values-append is (items.Close ∷ []), values-cons items.Close []) in
    record {
      after = m.after;
      size = m.size;
      grew = omega (arith, m.grew, s.size);
      ready = record { alike = m.ready.alike; draft = close_drafted m.after n cs m.ready.draft };
      old = λ k le. m.old k (omega (arith, s.size)) (λ at. omega arith) ∙ s.old k le;
      new = λ k above below. elim (same_or k n) [
        | inl at ↦ ap (kind_at m.after) at ∙ m.there ∙ ap (λ (x : Kind). Some x) same ∙ sym there ∙ sym (ap (kind_at g) at)
        | inr ne ↦ m.new k (omega (arith, s.size)) below
      ];
      more = omega (arith, m.more, s.more, total, value_first item (is ++ items.Close ∷ []) p.value);
      does = λ rest. value_step places cs key empty item true ((is ++ items.Close ∷ []) ++ rest) w.wants p holds ∙ ap (drafted (draft h (n ∷ cs) None)) (append_assoc is (items.Close ∷ []) rest) ∙ m.does (items.Close ∷ rest)
          ∙ step_on (draft m.after (n ∷ cs) None) items.Close rest (close_fits (is_array_at m.after n)) refl;
    }

-- a container without members, and those that are still to come
pub record Begins (kind empty : Kind) : Type 0 where
  pub holds : is_container empty ≡ true
  pub object : is_object empty ≡ is_object kind
  pub opened : opening empty ≡ opening kind
  pub none : members_of empty ≡ []
  pub coming : Coming empty (members_of kind)
  pub same : (b : Kind) → is_container b ≡ true → opening b ≡ opening kind → members_of b ≡ members_of kind → b ≡ kind

container_done : (g : List Kind) (w : Child → List Item) (end : Child → ℕ → Option ℕ) (places : List Kind) (cs : List ℕ) (key : Option Key) (kind empty : Kind) (item : Item) (e : ℕ) → EachDone g w end (next places ∷ cs) → Ready g places cs key → Waits places cs key → kind_at g (next places) ≡ Some kind
    → Pushes places cs key empty item → Begins kind empty → ends_after end (children_of kind) (next places + 1) ≡ Some e → values_in places + values (item ∷ member_items w (members_of kind) ++ items.Close ∷ []) ≤ most_values
    → ChildDone g places cs key (Own (next places)) e (item ∷ member_items w (members_of kind) ++ items.Close ∷ [])
container_done g w end places cs key kind empty item e each r wt there p b ends few =
    let n = next places in
    let h = placed places cs key empty in
    let s = place_value g places cs key empty kind r wt p.new there b.object in
    let inner : Ready g h (n ∷ cs) None = record { alike = s.alike; draft = subst (λ (x : Bool). IsDraft h (cond x (n ∷ cs) cs) None) b.holds s.draft } in
    let ends_kids : ends_after end (map (λ m. m.1) (members_of kind)) (n + 1) ≡ Some e = subst (λ (xs : List Child). ends_after end xs (n + 1) ≡ Some e) (sym (members_children kind)) ends in
    let ends_here : ends_after end (map (λ m. m.1) (members_of kind)) (next h) ≡ Some e = subst (λ (l : ℕ). ends_after end (map (λ m. m.1) (members_of kind)) (l + 1) ≡ Some e) (sym s.size) ends_kids in
    let is = member_items w (members_of kind) in
    let total = value_first item (is ++ items.Close ∷ []) p.value in
    let m = members_done g w end n cs each (members_of kind) h empty e inner s.there b.holds b.coming ends_here (omega (arith, few, total, s.more, values-append is (items.Close ∷ []))) in
    let same = b.same m.filled m.holds (m.opened ∙ b.opened) (m.members ∙ ap (λ (xs : List (Key × Child)). xs ++ members_of kind) b.none) in
    closed_done g places cs key empty kind item (members_of kind) e is wt p b.holds s there m same

names_all : (ps : List (List ℕ × Child)) → list_all (λ m. is_name m.0) (map named ps) ≡ true
names_all [] = refl
names_all (p ∷ ps) = names_all ps

names_fit : (ps : List (List ℕ × Child)) → AllByRecursion (λ p. AreBytes p.0) ps → AllByRecursion (λ m. FitsKey m.0) (map named ps)
names_fit [] all = tt
names_fit (p ∷ ps) all = (all.0, names_fit ps all.1)

array_begins : (ms : List (Key × Child)) → IsTrue (is_well_formed (kinds.Array ms)) → FitsKind (kinds.Array ms) → Begins (kinds.Array ms) (kinds.Array [])
array_begins ms well fits =
    let w = and_true (are_distinct (map (λ m. m.0) ms)) (list_all (λ m. is_array_key m.0) ms) well in
    record {
      holds = refl;
      object = refl;
      opened = refl;
      none = refl;
      coming = record { distinct = w.0; names = λ e. absurd (false≢true e); array_keys = λ e. w.1; fits = fits };
      same = λ b holds opened members. same_array ms b holds opened members;
    }

object_begins : (class : List ℕ) (ps : List (List ℕ × Child)) → IsTrue (is_well_formed (kinds.Object class ps)) → FitsKind (kinds.Object class ps) → Begins (kinds.Object class ps) (kinds.Object class [])
object_begins class ps well fits =
    let w = and_true (are_distinct (map (λ p. keys.Str p.0) ps)) (is_class class) well in
    record {
      holds = refl;
      object = refl;
      opened = refl;
      none = refl;
      coming = record {
        distinct = ap are_distinct (members_keys (kinds.Object class ps)) ∙ w.0;
        names = λ e. names_all ps;
        array_keys = λ e. absurd (false≢true e);
        fits = names_fit ps fits.1;
      };
      same = λ b holds opened members. same_object class ps b holds opened members;
    }

-- ---- any value

own_done : (g : List Kind) → IsGraph g → (w : Child → List Item) (end : Child → ℕ → Option ℕ) (places : List Kind) (cs : List ℕ) (key : Option Key) (kind : Kind) (e : ℕ) → EachDone g w end (next places ∷ cs) → Ready g places cs key → Waits places cs key → kind_at g (next places) ≡ Some kind
    → IsTrue (is_well_formed kind) → FitsKind kind → ends_after end (children_of kind) (next places + 1) ≡ Some e → values_in places + values (kind_items w (Some kind)) ≤ most_values → ChildDone g places cs key (Own (next places)) e (kind_items w (Some kind))
own_done g ig w end places cs key (kinds.Array ms) e each r wt there well fits ends few =
    let room = room_none places cs key wt in
    container_done g w end places cs key (kinds.Array ms) (kinds.Array []) items.OpenArray e each r wt there
    (record { value = refl; pushes = refl; sound = rw room refl; new = record { childless = refl; well_formed = refl; fits = tt; target = λ x e. absurd cc } }) (array_begins ms well fits) ends few
own_done g ig w end places cs key (kinds.Object class ps) e each r wt there well fits ends few =
    let room = room_none places cs key wt in
    let name = (and_true (are_distinct (map (λ p. keys.Str p.0) ps)) (is_class class) well).1 in
    container_done g w end places cs key (kinds.Object class ps) (kinds.Object class []) (items.OpenObject class) e each r wt there
    (record { value = refl; pushes = refl; sound = rw (room, name) refl; new = record { childless = refl; well_formed = name; fits = (fits.0, tt); target = λ x e. absurd cc } }) (object_begins class ps well fits) ends few
own_done g ig w end places cs key kinds.Null e each r wt there well fits ends few =
    let room = room_none places cs key wt in
    let last : next places + 1 ≡ e = cc in
    subst (λ (m : ℕ). ChildDone g places cs key (Own (next places)) m (items.Null ∷ [])) last
    (leaf_done g places cs key kinds.Null items.Null r wt there refl (record { value = refl; pushes = refl; sound = rw room refl; new = record { childless = refl; well_formed = refl; fits = tt; target = λ x e. absurd cc } }))
own_done g ig w end places cs key (kinds.Bool b) e each r wt there well fits ends few =
    let room = room_none places cs key wt in
    let last : next places + 1 ≡ e = cc in
    subst (λ (m : ℕ). ChildDone g places cs key (Own (next places)) m (items.Bool b ∷ [])) last
    (leaf_done g places cs key (kinds.Bool b) (items.Bool b) r wt there refl (record { value = refl; pushes = refl; sound = rw room refl; new = record { childless = refl; well_formed = refl; fits = tt; target = λ x e. absurd cc } }))
own_done g ig w end places cs key (kinds.Int n) e each r wt there well fits ends few =
    let room = room_none places cs key wt in
    let last : next places + 1 ≡ e = cc in
    subst (λ (m : ℕ). ChildDone g places cs key (Own (next places)) m (items.Int n ∷ [])) last
    (leaf_done g places cs key (kinds.Int n) (items.Int n) r wt there refl (record { value = refl; pushes = refl; sound = rw room refl; new = record { childless = refl; well_formed = refl; fits = fits; target = λ x e. absurd cc } }))
own_done g ig w end places cs key (kinds.Str bytes) e each r wt there well fits ends few =
    let room = room_none places cs key wt in
    let last : next places + 1 ≡ e = cc in
    subst (λ (m : ℕ). ChildDone g places cs key (Own (next places)) m (items.Str bytes ∷ [])) last
    (leaf_done g places cs key (kinds.Str bytes) (items.Str bytes) r wt there refl (record { value = refl; pushes = refl; sound = rw room refl; new = record { childless = refl; well_formed = refl; fits = fits; target = λ x e. absurd cc } }))
own_done g ig w end places cs key (kinds.Same y) e each r wt there well fits ends few =
    let room = room_none places cs key wt in
    let last : next places + 1 ≡ e = cc in
    let target = ig.targets (next places) y there in
    let object : is_object_at places y ≡ true = r.alike y (omega (arith, target.0)) ∙ target.1 in
    subst (λ (m : ℕ). ChildDone g places cs key (Own (next places)) m (items.Same y ∷ [])) last
    (leaf_done g places cs key (kinds.Same y) (items.Same y) r wt there refl (record {
      value = refl;
      pushes = refl;
      sound = rw (room, object) refl;
      new = record { childless = refl; well_formed = refl; fits = tt; target = λ x e. let same : y ≡ x = cc in ap (is_object_at places) (sym same) ∙ object };
    }))

-- there is an item that is a value
first_value : (w : Child → List Item) (kind : Kind) → 1 ≤ values (kind_items w (Some kind))
first_value w (kinds.Array ms) = omega (arith, value_first items.OpenArray (member_items w ms ++ items.Close ∷ []) refl)
first_value w (kinds.Object class ps) = omega (arith, value_first (items.OpenObject class) (member_items w (map named ps) ++ items.Close ∷ []) refl)
first_value w kinds.Null = omega (arith, value_first items.Null [] refl)
first_value w (kinds.Bool b) = omega (arith, value_first (items.Bool b) [] refl)
first_value w (kinds.Int n) = omega (arith, value_first (items.Int n) [] refl)
first_value w (kinds.Str bytes) = omega (arith, value_first (items.Str bytes) [] refl)
first_value w (kinds.Same x) = omega (arith, value_first (items.Same x) [] refl)

child_done : (level : ℕ) (g : List Kind) → IsGraph g → (places : List Kind) (cs : List ℕ) (key : Option Key) (c : Child) (e : ℕ) → length cs + level ≡ levels → wants_by places cs key ≡ Value → Ready g places cs key → child_end level g c (next places) ≡ Some e
    → values_in places + values (child_items level g c) ≤ most_values → ChildDone g places cs key c e (child_items level g c)
unfolding child_end child_items
child_done zero g ig places cs key c e deep wants r ends few = absurd cc
child_done (suc level) g ig places cs key (Back x) e deep wants r ends few =
    let b = back_end level g x (next places) e ends in
    let wt : Waits places cs key = record { wants = wants; deep = omega arith; few = omega (arith, few, value_first (items.Back x) [] refl) } in
    subst (λ (m : ℕ). ChildDone g places cs key (Back x) m (items.Back x ∷ [])) b.2 (back_done g places cs key x r wt b.0 (omega (arith, b.1)))
child_done (suc level) g ig places cs key (Own x) e deep wants r ends few =
    let o = own_end level g x (next places) e ends in
    let kind = o.1.kind in
    let at : kind_at g x ≡ Some kind = ap (kind_at g) o.0 ∙ o.1.there in
    let few_here : values_in places + values (kind_items (child_items level g) (Some kind)) ≤ most_values = subst (λ (k : Option Kind). values_in places + values (kind_items (child_items level g) k) ≤ most_values) at few in
    let wt : Waits places cs key = record { wants = wants; deep = omega arith; few = omega (arith, few_here, first_value (child_items level g) kind) } in
    let each : EachDone g (child_items level g) (child_end level g) (next places ∷ cs) = λ ps k c m ready ends few. child_done level g ig ps (next places ∷ cs) (Some k) c m (omega arith) refl ready ends few in
    let done = own_done g ig (child_items level g) (child_end level g) places cs key kind e each r wt o.1.there (All-place (λ k. IsTrue (is_well_formed k)) g (next places) kind ig.well_formed o.1.there) (All-place FitsKind g (next places) kind ig.fits o.1.there) o.1.members few_here in
    subst (λ (k : Option Kind). ChildDone g places cs key (Own x) e (kind_items (child_items level g) k)) (sym at) (subst (λ (y : ℕ). ChildDone g places cs key (Own y) e (kind_items (child_items level g) (Some kind))) (sym o.0) done)

-- ---- a whole graph

same_list : (xs ys : List Kind) → length xs ≡ length ys → ((i : ℕ) → i < length xs → slice_get xs i ≡ slice_get ys i) → xs ≡ ys
same_list [] [] e same = refl
same_list [] (y ∷ ys) e same = absurd (omega arith)
same_list (x ∷ xs) [] e same = absurd (omega arith)
same_list (x ∷ xs) (y ∷ ys) e same =
    let first : Some x ≡ Some y = same 0 (omega arith) in
    let head : x ≡ y = cc in
    let tail : xs ≡ ys = same_list xs ys (omega arith) (λ i lt. same (suc i) (omega arith)) in
    λ i. head i ∷ tail i

pub reached : (g : List Kind) → IsGraph g → values (items_of g) ≡ values_in g → drafted nothing_drafted (items_of g) ≡ Some (all_drafted g)
unfolding items_of end_of
reached g ig count =
    let begin : Ready g [] [] None = record { alike = λ k le. let none : k ≡ 0 = omega arith in ap (is_object_at []) none ∙ sym (ap (is_object_at g) none); draft = nothing_is } in
    let few : values_in [] + values (child_items levels g (Own 1)) ≤ most_values = omega (arith, count, ig.count) in
    let done = child_done levels g ig [] [] None (Own 1) (length g + 1) refl refl begin ig.sealed few in
    let same : done.after ≡ g = same_list done.after g (omega (arith, done.size)) (λ i lt. done.new (suc i) (omega arith) (omega (arith, done.size))) in
    ap (drafted nothing_drafted) (sym (append-nil (child_items levels g (Own 1)))) ∙ done.does [] ∙ ap (λ (h : List Kind). Some (all_drafted h)) same
