-- The items that have been pushed are those of the draft.
use Rattle.std.proofs.Common.{◌≡◌, ℕ, zero, suc, ◌+◌, ◌-◌, ◌<◌, ◌≤◌, true, List, [], ◌∷◌, ◌++◌, length, map, Some, refl, sym, ap, subst, ◌∙◌, arith, append_assoc}
use Rattle.std.proofs.lemmas.Bool.{false≢true}
use Rattle.std.proofs.lemmas.List.{append-nil, map-append}
use Rattle.php_graph.specs.declared.key.Key.{Key}
use Rattle.php_graph.specs.declared.key.Key.TheVariants as keys
use Rattle.php_graph.specs.declared.child.Child.{Child}
use Rattle.php_graph.specs.declared.child.Child.TheVariants.{Own, Back}
use Rattle.php_graph.specs.declared.kind.Kind.{Kind}
use Rattle.php_graph.specs.declared.kind.Kind.TheVariants as kinds
use Rattle.php_graph.specs.declared.item.Item.{Item}
use Rattle.php_graph.specs.declared.item.Item.TheVariants as items
use Rattle.php_graph.specs.Graph.{kind_at, children_of, is_object, ends_after, child_end, levels}
use Rattle.php_graph.specs.Building.{named, member_items, kind_items, child_items, items_of, with_member, is_container, is_name}
use Rattle.php_graph.proofs.EndLemmas.{then_some, own_end, grows, ends_rise, ends_after-append, own_makes, Agree, Agree-part, all_agree}
use Rattle.php_graph.proofs.DraftLemmas.{place_is, with_member-is_container}
use Rattle.php_graph.proofs.DraftAfterItem.{level_below}
use Rattle.php_graph.proofs.DraftShapes.{Grown}

-- the members of an array, the properties of an object under their keys
abbrev pub members_of : Kind → List (Key × Child)
members_of (kinds.Array ms) = ms
members_of (kinds.Object class ps) = map named ps
members_of _ = []

-- what one pushes first for a container
abbrev pub opening : Kind → List Item
opening (kinds.Array ms) = items.OpenArray ∷ []
opening (kinds.Object class ps) = items.OpenObject class ∷ []
opening _ = []

children_named : (ps : List (List ℕ × Child)) → map (λ m. m.1) (map named ps) ≡ map (λ p. p.1) ps
children_named [] = refl
children_named (p ∷ ps) = ap (λ (cs : List Child). p.1 ∷ cs) (children_named ps)

pub members_children : (kind : Kind) → map (λ m. m.1) (members_of kind) ≡ children_of kind
members_children (kinds.Array ms) = refl
members_children (kinds.Object class ps) = children_named ps
members_children kinds.Null = refl
members_children (kinds.Bool b) = refl
members_children (kinds.Int n) = refl
members_children (kinds.Str bytes) = refl
members_children (kinds.Same x) = refl

pub container_items : (w : Child → List Item) (kind : Kind) → is_container kind ≡ true → kind_items w (Some kind) ≡ (opening kind ++ member_items w (members_of kind)) ++ items.Close ∷ []
container_items w (kinds.Array ms) e = refl
container_items w (kinds.Object class ps) e = refl
container_items w kinds.Null e = absurd (false≢true e)
container_items w (kinds.Bool b) e = absurd (false≢true e)
container_items w (kinds.Int n) e = absurd (false≢true e)
container_items w (kinds.Str bytes) e = absurd (false≢true e)
container_items w (kinds.Same x) e = absurd (false≢true e)

pub member_items-append : (w : Child → List Item) (ms ns : List (Key × Child)) → member_items w (ms ++ ns) ≡ member_items w ms ++ member_items w ns
member_items-append w [] ns = refl
member_items-append w (m ∷ ms) ns =
    ap (λ (xs : List Item). (items.Key m.0 ∷ w m.1) ++ xs) (member_items-append w ms ns) ∙ sym (append_assoc (items.Key m.0 ∷ w m.1) (member_items w ms) (member_items w ns))

pub with_member-members : (kind : Kind) (key : Key) (c : Child) → is_container kind ≡ true → (is_object kind ≡ true → is_name key ≡ true) → members_of (with_member kind key c) ≡ members_of kind ++ (key, c) ∷ []
with_member-members (kinds.Array ms) key c holds names = refl
with_member-members (kinds.Object class ps) (keys.Int n) c holds names = absurd (false≢true (names refl))
with_member-members (kinds.Object class ps) (keys.Str name) c holds names = map-append named ps ((name, c) ∷ [])
with_member-members kinds.Null key c holds names = absurd (false≢true holds)
with_member-members (kinds.Bool b) key c holds names = absurd (false≢true holds)
with_member-members (kinds.Int n) key c holds names = absurd (false≢true holds)
with_member-members (kinds.Str bytes) key c holds names = absurd (false≢true holds)
with_member-members (kinds.Same x) key c holds names = absurd (false≢true holds)

pub with_member-opening : (kind : Kind) (key : Key) (c : Child) → opening (with_member kind key c) ≡ opening kind
with_member-opening (kinds.Array ms) key c = refl
with_member-opening (kinds.Object class ps) (keys.Int n) c = refl
with_member-opening (kinds.Object class ps) (keys.Str name) c = refl
with_member-opening kinds.Null key c = refl
with_member-opening (kinds.Bool b) key c = refl
with_member-opening (kinds.Int n) key c = refl
with_member-opening (kinds.Str bytes) key c = refl
with_member-opening (kinds.Same x) key c = refl

-- ---- graphs that agree

members_agree : (d : ℕ) (g h : List Kind) → ((c : Child) (m e : ℕ) → child_end d g c m ≡ Some e → Agree g h m e → child_items d h c ≡ child_items d g c)
    → (ms : List (Key × Child)) (m e : ℕ) → ends_after (child_end d g) (map (λ m. m.1) ms) m ≡ Some e → Agree g h m e → member_items (child_items d h) ms ≡ member_items (child_items d g) ms
members_agree d g h one [] m e ends s = refl
members_agree d g h one (x ∷ ms) m e ends s =
    let t = then_some (ends_after (child_end d g) (map (λ m. m.1) ms)) (child_end d g x.1 m) e ends in
    let up = grows d g x.1 m t.0 t.1 in
    let rest = ends_rise d g (map (λ m. m.1) ms) t.0 e t.2 in
    rw (one x.1 m t.0 t.1 (Agree-part g h m e m t.0 s (omega arith) rest), members_agree d g h one ms t.0 e t.2 (Agree-part g h m e t.0 e s up (omega arith))) refl

kind_agrees : (v w : Child → List Item) (kind : Kind) → member_items v (members_of kind) ≡ member_items w (members_of kind) → kind_items v (Some kind) ≡ kind_items w (Some kind)
kind_agrees v w (kinds.Array ms) e = ap (λ (xs : List Item). (items.OpenArray ∷ xs) ++ items.Close ∷ []) e
kind_agrees v w (kinds.Object class ps) e = ap (λ (xs : List Item). (items.OpenObject class ∷ xs) ++ items.Close ∷ []) e
kind_agrees v w kinds.Null e = refl
kind_agrees v w (kinds.Bool b) e = refl
kind_agrees v w (kinds.Int n) e = refl
kind_agrees v w (kinds.Str bytes) e = refl
kind_agrees v w (kinds.Same x) e = refl

pub items_agree : (d : ℕ) (g h : List Kind) (c : Child) (m e : ℕ) → child_end d g c m ≡ Some e → Agree g h m e → child_items d h c ≡ child_items d g c
unfolding child_end child_items
items_agree zero g h c m e ends s = refl
items_agree (suc d) g h (Back x) m e ends s = refl
items_agree (suc d) g h (Own x) m e ends s =
    let o = own_end d g x m e ends in
    let rise = ends_rise d g (children_of o.1.kind) (m + 1) e o.1.members in
    let in_g : kind_at g x ≡ Some o.1.kind = ap (kind_at g) o.0 ∙ o.1.there in
    let in_h : kind_at h x ≡ Some o.1.kind = ap (kind_at h) o.0 ∙ s.at m (omega arith) (omega arith) ∙ o.1.there in
    let members : ends_after (child_end d g) (map (λ m. m.1) (members_of o.1.kind)) (m + 1) ≡ Some e = subst (λ (cs : List Child). ends_after (child_end d g) cs (m + 1) ≡ Some e) (sym (members_children o.1.kind)) o.1.members in
    let same = members_agree d g h (items_agree d g h) (members_of o.1.kind) (m + 1) e members (Agree-part g h m e (m + 1) e s (omega arith) (omega arith)) in
    ap (kind_items (child_items d h)) in_h ∙ kind_agrees (child_items d h) (child_items d g) o.1.kind same ∙ sym (ap (kind_items (child_items d g)) in_g)

pub all_items_agree : (d : ℕ) (g h : List Kind) (ms : List (Key × Child)) (m e : ℕ) → ends_after (child_end d g) (map (λ m. m.1) ms) m ≡ Some e → Agree g h m e → member_items (child_items d h) ms ≡ member_items (child_items d g) ms
all_items_agree d g h ms m e ends s = members_agree d g h (items_agree d g h) ms m e ends s

-- ---- what has been pushed

-- The items before the container at place p was opened: each container around it, its members before this
-- one, and this one's key.
abbrev pub WroteOuter : List Kind → List ℕ → ℕ → List Item → Type 0
WroteOuter g [] p is = (is ≡ []) × (p ≡ 1)
WroteOuter g (q ∷ outer) p is = (before : List Item) × (kind : Kind) × (ms : List (Key × Child)) × (key : Key) × (kind_at g q ≡ Some kind) × (members_of kind ≡ ms ++ (key, Own p) ∷ [])
    × (ends_after (child_end (levels - suc (length outer)) g) (map (λ m. m.1) ms) (q + 1) ≡ Some p) × WroteOuter g outer q before
    × (is ≡ before ++ ((opening kind ++ member_items (child_items (levels - suc (length outer)) g) ms) ++ items.Key key ∷ []))

-- the innermost container, and its members so far
pub record WroteIn (g : List Kind) (p : ℕ) (outer : List ℕ) (m : ℕ) (is : List Item) : Type 0 where
  pub before : List Item
  pub kind : Kind
  pub there : kind_at g p ≡ Some kind
  pub holds : is_container kind ≡ true
  pub ends : ends_after (child_end (levels - suc (length outer)) g) (map (λ m. m.1) (members_of kind)) (p + 1) ≡ Some m
  pub around : WroteOuter g outer p before
  pub wrote : is ≡ before ++ (opening kind ++ member_items (child_items (levels - suc (length outer)) g) (members_of kind))

pub outer_agrees : (g h : List Kind) (outer : List ℕ) (p : ℕ) (is : List Item) → WroteOuter g outer p is → ((k : ℕ) → k < p → kind_at h k ≡ kind_at g k) → WroteOuter h outer p is
outer_agrees g h [] p is w same = w
outer_agrees g h (q ∷ outer) p is w same =
    let d = levels - suc (length outer) in
    let rise : q + 1 ≤ p = ends_rise d g (map (λ m. m.1) w.2) (q + 1) p w.6 in
    let agree : Agree g h (q + 1) p = record { at = λ k low high. same k high } in (
      w.0,
      w.1,
      w.2,
      w.3,
      same q (omega arith) ∙ w.4,
      w.5,
      all_agree d g h (map (λ m. m.1) w.2) (q + 1) p w.6 agree,
      outer_agrees g h outer q w.0 w.7 (λ k lt. same k (omega arith)),
      w.8 ∙ ap (λ (xs : List Item). w.0 ++ ((opening w.1 ++ xs) ++ items.Key w.3 ∷ [])) (sym (all_items_agree d g h w.2 (q + 1) p w.6 agree)),
    )

-- ---- one item more

regroup_leaf : (a b c : List Item) (k i : Item) → ((a ++ (b ++ c)) ++ k ∷ []) ++ i ∷ [] ≡ a ++ (b ++ (c ++ k ∷ i ∷ []))
regroup_leaf a b c k i = simp append_assoc

-- a member more, that is whole
pub leaf_wrote : (g h : List Kind) (p : ℕ) (outer : List ℕ) (m e : ℕ) (key : Key) (c : Child) (item : Item) (before : List Item) (w : WroteIn g p outer m before) → Grown g h p w.kind (with_member w.kind key c) → m ≡ length g + 1 → (is_object w.kind ≡ true → is_name key ≡ true)
    → child_end (levels - suc (length outer)) h c m ≡ Some e → child_items (levels - suc (length outer)) h c ≡ item ∷ [] → WroteIn h p outer e ((before ++ items.Key key ∷ []) ++ item ∷ [])
leaf_wrote g h p outer m e key c item before w grown is_next names ends own =
    let d = levels - suc (length outer) in
    let new = with_member w.kind key c in
    let ms = members_of w.kind in
    let members : members_of new ≡ ms ++ (key, c) ∷ [] = with_member-members w.kind key c w.holds names in
    let agree : Agree g h (p + 1) m = record { at = λ k low high. grown.others k (λ e. omega arith) (omega arith) } in
    let place = place_is g p w.kind w.there in
    let kids : map (λ m. m.1) (members_of new) ≡ map (λ m. m.1) ms ++ c ∷ [] = ap (map (λ m. m.1)) members ∙ map-append (λ m. m.1) ms ((key, c) ∷ []) in
    let old_ends = all_agree d g h (map (λ m. m.1) ms) (p + 1) m w.ends agree in
    let last : ends_after (child_end d h) (c ∷ []) m ≡ Some e = rw ends refl in
    let all = ends_after-append (child_end d h) (map (λ m. m.1) ms) (c ∷ []) (p + 1) m e old_ends last in
    let same = all_items_agree d g h ms (p + 1) m w.ends agree in
    let single : member_items (child_items d h) ((key, c) ∷ []) ≡ items.Key key ∷ item ∷ [] = ap (λ (xs : List Item). (items.Key key ∷ xs) ++ []) own in
    let written : member_items (child_items d h) (members_of new) ≡ member_items (child_items d g) ms ++ items.Key key ∷ item ∷ [] =
    ap (member_items (child_items d h)) members ∙ member_items-append (child_items d h) ms ((key, c) ∷ []) ∙ ap (λ (xs : List Item). xs ++ member_items (child_items d h) ((key, c) ∷ [])) same ∙ ap (λ (xs : List Item). member_items (child_items d g) ms ++ xs) single in
    record {
      before = w.before;
      kind = new;
      there = grown.changed;
      holds = with_member-is_container w.kind key c ∙ w.holds;
      ends = subst (λ (cs : List Child). ends_after (child_end d h) cs (p + 1) ≡ Some e) (sym kids) all;
      around = outer_agrees g h outer p w.before w.around (λ k lt. grown.others k (λ e. omega arith) (omega (arith, place.high)));
      wrote = ap (λ (xs : List Item). (xs ++ items.Key key ∷ []) ++ item ∷ []) w.wrote
          ∙ regroup_leaf w.before (opening w.kind) (member_items (child_items d g) ms) (items.Key key) item
          ∙ ap (λ (xs : List Item). w.before ++ (opening w.kind ++ xs)) (sym written)
          ∙ ap (λ (xs : List Item). w.before ++ (xs ++ member_items (child_items d h) (members_of new))) (sym (with_member-opening w.kind key c));
    }

-- a member more, that is a container and open
pub open_wrote : (g h : List Kind) (p : ℕ) (outer : List ℕ) (m : ℕ) (key : Key) (kind : Kind) (item : Item) (before : List Item) (w : WroteIn g p outer m before) → Grown g h p w.kind (with_member w.kind key (Own m)) → m ≡ length g + 1 → (is_object w.kind ≡ true → is_name key ≡ true)
    → kind_at h m ≡ Some kind → is_container kind ≡ true → members_of kind ≡ [] → opening kind ≡ item ∷ [] → WroteIn h m (p ∷ outer) (m + 1) ((before ++ items.Key key ∷ []) ++ item ∷ [])
open_wrote g h p outer m key kind item before w grown is_next names there holds childless opened =
    let d = levels - suc (length outer) in
    let inner = levels - suc (suc (length outer)) in
    let new = with_member w.kind key (Own m) in
    let ms = members_of w.kind in
    let members : members_of new ≡ ms ++ (key, Own m) ∷ [] = with_member-members w.kind key (Own m) w.holds names in
    let agree : Agree g h (p + 1) m = record { at = λ k low high. grown.others k (λ e. omega arith) (omega arith) } in
    let place = place_is g p w.kind w.there in
    let old_ends = all_agree d g h (map (λ m. m.1) ms) (p + 1) m w.ends agree in
    let same = all_items_agree d g h ms (p + 1) m w.ends agree in
    let around = outer_agrees g h outer p w.before w.around (λ k lt. grown.others k (λ e. omega arith) (omega (arith, place.high))) in
    let so_far : before ++ items.Key key ∷ [] ≡ w.before ++ ((opening new ++ member_items (child_items d h) ms) ++ items.Key key ∷ []) =
    ap (λ (xs : List Item). xs ++ items.Key key ∷ []) w.wrote ∙ append_assoc w.before (opening w.kind ++ member_items (child_items d g) ms) (items.Key key ∷ [])
    ∙ ap (λ (xs : List Item). w.before ++ ((xs ++ member_items (child_items d g) ms) ++ items.Key key ∷ [])) (sym (with_member-opening w.kind key (Own m)))
    ∙ ap (λ (xs : List Item). w.before ++ ((opening new ++ xs) ++ items.Key key ∷ [])) (sym same) in
    record {
      before = before ++ items.Key key ∷ [];
      kind = kind;
      there = there;
      holds = holds;
      ends = ap (λ (xs : List (Key × Child)). ends_after (child_end inner h) (map (λ m. m.1) xs) (m + 1)) childless;
      around = (w.before, new, ms, key, grown.changed, members, old_ends, around, so_far);
      wrote = sym (ap (λ (xs : List Item). (before ++ items.Key key ∷ []) ++ (opening kind ++ xs)) (ap (member_items (child_items inner h)) childless) ∙ ap (λ (xs : List Item). (before ++ items.Key key ∷ []) ++ (xs ++ [])) opened);
    }

-- ---- the end of a container

not_empty : (ms : List (Key × Child)) (x : Key × Child) → ¬ [] ≡ ms ++ x ∷ []
not_empty [] x e = cc
not_empty (m ∷ ms) x e = cc

held : (kind : Kind) (ms : List (Key × Child)) (x : Key × Child) → members_of kind ≡ ms ++ x ∷ [] → is_container kind ≡ true
held (kinds.Array ns) ms x e = refl
held (kinds.Object class ps) ms x e = refl
held kinds.Null ms x e = absurd (not_empty ms x e)
held (kinds.Bool b) ms x e = absurd (not_empty ms x e)
held (kinds.Int n) ms x e = absurd (not_empty ms x e)
held (kinds.Str bytes) ms x e = absurd (not_empty ms x e)
held (kinds.Same y) ms x e = absurd (not_empty ms x e)

-- what one pushes for the container at place p
closed_items : (d : ℕ) (g : List Kind) (p : ℕ) (kind : Kind) → kind_at g p ≡ Some kind → is_container kind ≡ true → child_items (suc d) g (Own p) ≡ (opening kind ++ member_items (child_items d g) (members_of kind)) ++ items.Close ∷ []
unfolding child_items
closed_items d g p kind there holds = ap (kind_items (child_items d g)) there ∙ container_items (child_items d g) kind holds

regroup_close : (a o m x : List Item) (k c : Item) → ((a ++ ((o ++ m) ++ k ∷ [])) ++ x) ++ c ∷ [] ≡ a ++ (o ++ (m ++ ((k ∷ (x ++ c ∷ [])) ++ [])))
regroup_close a o m x k c = simp (append_assoc, append-nil)

pub close_wrote : (g : List Kind) (p q : ℕ) (outer : List ℕ) (m : ℕ) (is : List Item) → suc (suc (length outer)) ≤ levels → WroteIn g p (q ∷ outer) m is → WroteIn g q outer m (is ++ items.Close ∷ [])
close_wrote g p q outer m is deep w =
    let d = levels - suc (length outer) in
    let inner = levels - suc (suc (length outer)) in
    let a = w.around in
    let level : d ≡ suc inner = level_below (length outer) deep in
    let members : ends_after (child_end inner g) (children_of w.kind) (p + 1) ≡ Some m = subst (λ (cs : List Child). ends_after (child_end inner g) cs (p + 1) ≡ Some m) (members_children w.kind) w.ends in
    let made = own_makes inner g p m (record { kind = w.kind; there = w.there; members = members }) in
    let ends : child_end d g (Own p) p ≡ Some m = subst (λ (l : ℕ). child_end l g (Own p) p ≡ Some m) (sym level) made in
    let own : child_items d g (Own p) ≡ (opening w.kind ++ member_items (child_items inner g) (members_of w.kind)) ++ items.Close ∷ [] =
    ap (λ (l : ℕ). child_items l g (Own p)) level ∙ closed_items inner g p w.kind w.there w.holds in
    let kids : map (λ m. m.1) (members_of a.1) ≡ map (λ m. m.1) a.2 ++ Own p ∷ [] = ap (map (λ m. m.1)) a.5 ∙ map-append (λ m. m.1) a.2 ((a.3, Own p) ∷ []) in
    let last : ends_after (child_end d g) (Own p ∷ []) p ≡ Some m = rw ends refl in
    let all = ends_after-append (child_end d g) (map (λ m. m.1) a.2) (Own p ∷ []) (q + 1) p m a.6 last in
    let x = opening w.kind ++ member_items (child_items inner g) (members_of w.kind) in
    let written : member_items (child_items d g) (members_of a.1) ≡ member_items (child_items d g) a.2 ++ ((items.Key a.3 ∷ (x ++ items.Close ∷ [])) ++ []) =
    ap (member_items (child_items d g)) a.5 ∙ member_items-append (child_items d g) a.2 ((a.3, Own p) ∷ []) ∙ ap (λ (xs : List Item). member_items (child_items d g) a.2 ++ ((items.Key a.3 ∷ xs) ++ [])) own in
    record {
      before = a.0;
      kind = a.1;
      there = a.4;
      holds = held a.1 a.2 (a.3, Own p) a.5;
      ends = subst (λ (cs : List Child). ends_after (child_end d g) cs (q + 1) ≡ Some m) (sym kids) all;
      around = a.7;
      wrote = ap (λ (xs : List Item). xs ++ items.Close ∷ []) (w.wrote ∙ ap (λ (xs : List Item). xs ++ x) a.8)
          ∙ regroup_close a.0 (opening a.1) (member_items (child_items d g) a.2) x (items.Key a.3) items.Close
          ∙ ap (λ (xs : List Item). a.0 ++ (opening a.1 ++ xs)) (sym written);
    }

pub close_top : (g : List Kind) (p m : ℕ) (is : List Item) → WroteIn g p [] m is → is ++ items.Close ∷ [] ≡ items_of g
unfolding items_of
close_top g p m is w =
    ap (λ (xs : List Item). xs ++ items.Close ∷ []) (w.wrote ∙ ap (λ (xs : List Item). xs ++ (opening w.kind ++ member_items (child_items 511 g) (members_of w.kind))) w.around.0)
    ∙ sym (closed_items 511 g p w.kind w.there w.holds) ∙ ap (λ (k : ℕ). child_items 512 g (Own k)) w.around.1
