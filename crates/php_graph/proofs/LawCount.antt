-- The items of a graph have as many values as the graph.
use Rattle.std.proofs.Common.{◌≡◌, ℕ, zero, suc, ◌+◌, ◌≤◌, cond, List, [], ◌∷◌, ◌++◌, length, map, Option, Some, refl, sym, ap, subst, ◌∙◌, arith}
use Rattle.std.specs.Prelude.{count_by}
use Rattle.std.proofs.lemmas.List.Sums.{sum_by-cons, sum_by-append}
use Rattle.php_graph.specs.declared.key.Key.{Key}
use Rattle.php_graph.specs.declared.child.Child.{Child}
use Rattle.php_graph.specs.declared.child.Child.TheVariants.{Own, Back}
use Rattle.php_graph.specs.declared.kind.Kind.{Kind}
use Rattle.php_graph.specs.declared.kind.Kind.TheVariants as kinds
use Rattle.php_graph.specs.declared.item.Item.{Item}
use Rattle.php_graph.specs.declared.item.Item.TheVariants as items
use Rattle.php_graph.specs.Graph.{kind_at, is_back, ends_after, child_end, end_of, levels, values_in}
use Rattle.php_graph.specs.Building.{is_value, named, member_items, kind_items, child_items, items_of}
use Rattle.php_graph.proofs.EndLemmas.{then_some, own_end, back_end, grows, own_grows, ends_rise}
use Rattle.php_graph.proofs.DraftAfterItem.{backs}
use Rattle.php_graph.proofs.LawItems.{members_of, members_children}
use Rattle.php_graph.proofs.LawSlices.{slice, slice_none, slice_whole, slice_first, values_in-cons, values_in-slices}

count_append : (x y : List Item) → count_by is_value (x ++ y) ≡ count_by is_value x + count_by is_value y
count_append x y = sum_by-append (λ item. cond (is_value item) 1 0) x y

count_cons : (item : Item) (x : List Item) → count_by is_value (item ∷ x) ≡ cond (is_value item) 1 0 + count_by is_value x
count_cons item x = sum_by-cons (λ item. cond (is_value item) 1 0) item x

backs_cons : (c : Child) (cs : List Child) → count_by is_back (c ∷ cs) ≡ cond (is_back c) 1 0 + count_by is_back cs
backs_cons c cs = sum_by-cons (λ c. cond (is_back c) 1 0) c cs

-- a place is one value, and its members have theirs
count_kind : (w : Child → List Item) (kind : Kind) → count_by is_value (kind_items w (Some kind)) ≡ 1 + count_by is_value (member_items w (members_of kind))
count_kind w (kinds.Array ms) = omega (arith, count_cons items.OpenArray (member_items w ms ++ items.Close ∷ []), count_append (member_items w ms) (items.Close ∷ []), count_cons items.Close [])
count_kind w (kinds.Object class ps) = omega (arith, count_cons (items.OpenObject class) (member_items w (map named ps) ++ items.Close ∷ []), count_append (member_items w (map named ps)) (items.Close ∷ []), count_cons items.Close [])
count_kind w kinds.Null = refl
count_kind w (kinds.Bool b) = refl
count_kind w (kinds.Int n) = refl
count_kind w (kinds.Str bytes) = refl
count_kind w (kinds.Same x) = refl

-- the values of some members, where this is known of each
count_members : (d : ℕ) (g : List Kind) → ((c : Child) (m e : ℕ) → child_end d g c m ≡ Some e → 1 ≤ m → count_by is_value (child_items d g c) ≡ cond (is_back c) 1 0 + values_in (slice g m e))
    → (ms : List (Key × Child)) (m e : ℕ) → ends_after (child_end d g) (map (λ x. x.1) ms) m ≡ Some e → 1 ≤ m → count_by is_value (member_items (child_items d g) ms) ≡ count_by is_back (map (λ x. x.1) ms) + values_in (slice g m e)
count_members d g one [] m e ends low =
    let same : m ≡ e = cc in
    let none : values_in (slice g m e) ≡ 0 = ap (λ (n : ℕ). values_in (slice g m n)) (sym same) ∙ ap values_in (slice_none g m) in
    omega (arith, none)
count_members d g one (x ∷ ms) m e ends low =
    let t = then_some (ends_after (child_end d g) (map (λ x. x.1) ms)) (child_end d g x.1 m) e ends in
    let up = grows d g x.1 m t.0 t.1 in
    let rest = ends_rise d g (map (λ x. x.1) ms) t.0 e t.2 in
    let first = one x.1 m t.0 t.1 low in
    let others = count_members d g one ms t.0 e t.2 (omega arith) in
    let key = count_cons (items.Key x.0) (child_items d g x.1 ++ member_items (child_items d g) ms) in
    let both = count_append (child_items d g x.1) (member_items (child_items d g) ms) in
    let shared = backs_cons x.1 (map (λ x. x.1) ms) in
    let places = values_in-slices g m t.0 e low up rest in
    omega (arith, first, others, key, both, shared, places)

-- The values of what one pushes for a member: those of the places that it takes, or the one that it shares.
pub count_child : (d : ℕ) (g : List Kind) (c : Child) (m e : ℕ) → child_end d g c m ≡ Some e → 1 ≤ m → count_by is_value (child_items d g c) ≡ cond (is_back c) 1 0 + values_in (slice g m e)
unfolding child_end child_items
count_child zero g c m e ends low = absurd cc
count_child (suc d) g (Back x) m e ends low =
    let b = back_end d g x m e ends in
    let none : values_in (slice g m e) ≡ 0 = ap (λ (n : ℕ). values_in (slice g m n)) (sym b.2) ∙ ap values_in (slice_none g m) in
    omega (arith, none, count_cons (items.Back x) [])
count_child (suc d) g (Own x) m e ends low =
    let o = own_end d g x m e ends in
    let at : kind_at g x ≡ Some o.1.kind = ap (kind_at g) o.0 ∙ o.1.there in
    let members : ends_after (child_end d g) (map (λ m. m.1) (members_of o.1.kind)) (m + 1) ≡ Some e = subst (λ (cs : List Child). ends_after (child_end d g) cs (m + 1) ≡ Some e) (sym (members_children o.1.kind)) o.1.members in
    let own : count_by is_value (kind_items (child_items d g) (kind_at g x)) ≡ 1 + count_by is_value (member_items (child_items d g) (members_of o.1.kind)) =
    ap (λ (k : Option Kind). count_by is_value (kind_items (child_items d g) k)) at ∙ count_kind (child_items d g) o.1.kind in
    let inner = count_members d g (count_child d g) (members_of o.1.kind) (m + 1) e members (omega arith) in
    let shared : count_by is_back (map (λ m. m.1) (members_of o.1.kind)) ≡ backs o.1.kind = ap (count_by is_back) (members_children o.1.kind) in
    let places : values_in (slice g m e) ≡ 1 + backs o.1.kind + values_in (slice g (m + 1) e) =
    ap values_in (slice_first g m e o.1.kind o.1.there (own_grows (suc d) g x m e ends)) ∙ values_in-cons o.1.kind (slice g (m + 1) e) in
    omega (arith, own, inner, shared, places)

pub count_all_members : (d : ℕ) (g : List Kind) (ms : List (Key × Child)) (m e : ℕ) → ends_after (child_end d g) (map (λ x. x.1) ms) m ≡ Some e → 1 ≤ m → count_by is_value (member_items (child_items d g) ms) ≡ count_by is_back (map (λ x. x.1) ms) + values_in (slice g m e)
count_all_members d g ms m e ends low = count_members d g (count_child d g) ms m e ends low

-- pushing a graph counts its values
pub count_all : (g : List Kind) → end_of g 1 ≡ Some (length g + 1) → count_by is_value (items_of g) ≡ values_in g
unfolding end_of items_of
count_all g ends = count_child levels g (Own 1) 1 (length g + 1) ends (omega arith) ∙ omega (arith, ap values_in (slice_whole g))
