-- Whatever items are taken, they are those of the draft that they lead to.
use Rattle.std.proofs.Common.{◌≡◌, ℕ, zero, suc, ◌+◌, ◌-◌, ◌≤◌, Bool, true, false, cond, List, [], ◌∷◌, ◌++◌, length, map, drop, set, Option, Some, None, refl, sym, ap, subst, ◌∙◌, arith, append_assoc, length-append}
use Rattle.std.specs.Prelude.{◌&&◌, nat_le}
use Rattle.std.specs.List.{AllByRecursion}
use Rattle.std.proofs.lemmas.Bool.{false≢true}
use Rattle.std.proofs.lemmas.Bool.Decides.{nat_tests}
use Rattle.std.proofs.lemmas.List.{append-nil, length-set}
use Rattle.php_graph.specs.declared.key.Key.{Key}
use Rattle.php_graph.specs.declared.child.Child.{Child}
use Rattle.php_graph.specs.declared.child.Child.TheVariants.{Own, Back}
use Rattle.php_graph.specs.declared.kind.Kind.{Kind}
use Rattle.php_graph.specs.declared.kind.Kind.TheVariants as kinds
use Rattle.php_graph.specs.declared.item.Item.{Item}
use Rattle.php_graph.specs.declared.item.Item.TheVariants as items
use Rattle.php_graph.specs.declared.item.Wants.TheVariants.{Value, Done}
use Rattle.php_graph.specs.declared.item.BuildFault.TheVariants.{BadNumber, BadClass}
use Rattle.php_graph.specs.Graph.{kind_at, children_of, is_array_at, is_object_at, is_class, ends_after, child_end, levels}
use Rattle.php_graph.specs.Building.{Draft, nothing_drafted, wants_of, wants_by, item_fits, FitsItem, room_fault, fault_of, pushed, drafted, with_value, attached, with_member, is_container, kind_items, member_items, child_items, items_of}
use Rattle.php_graph.specs.BuilderState.{IsDraft}
use Rattle.php_graph.proofs.EndLemmas.{back_makes}
use Rattle.php_graph.proofs.DraftLemmas.{kind_at-append_new, and_true}
use Rattle.php_graph.proofs.DraftShapes.{Grown, Takes}
use Rattle.php_graph.proofs.DraftAfterItem.{level_below, leaf_ends, takes_key, no_value, nothing_on_top, attached_is}
use Rattle.php_graph.proofs.BuilderAfterItem.{grown_is, has_room, wants_no_value}
use Rattle.php_graph.proofs.LawSteps.{IsDrafted, value_wanted, key_wanted, close_wanted, either, first_none, if_none, step_drafted, nothing_is, taken, drafted_graph}
use Rattle.php_graph.proofs.LawItems.{members_of, opening, WroteIn, leaf_wrote, open_wrote, close_wrote, close_top}

abbrev pub WroteTop : List Kind → List Item → Type 0
WroteTop [] is = is ≡ []
WroteTop (k ∷ ks) is = is ≡ items_of (k ∷ ks)

abbrev pub WroteInside : List Kind → ℕ → List ℕ → Option Key → List Item → Type 0
WroteInside g p outer None is = WroteIn g p outer (length g + 1) is
WroteInside g p outer (Some key) is = (before : List Item) × WroteIn g p outer (length g + 1) before × (is ≡ before ++ items.Key key ∷ [])

-- these are the items of the draft
abbrev pub Wrote : List Kind → List ℕ → Option Key → List Item → Type 0
Wrote g [] key is = WroteTop g is
Wrote g (p ∷ outer) key is = WroteInside g p outer key is

-- what one pushes for a value without members
pub record IsItemOf (kind : Kind) (item : Item) : Type 0 where
  pub childless : children_of kind ≡ []
  pub memberless : members_of kind ≡ []
  pub leaf : is_container kind ≡ false → (w : Child → List Item) → kind_items w (Some kind) ≡ item ∷ []
  pub opened : is_container kind ≡ true → opening kind ≡ item ∷ []

leaf_items : (d : ℕ) (h : List Kind) (m : ℕ) (kind : Kind) (item : Item) → kind_at h m ≡ Some kind → is_container kind ≡ false → IsItemOf kind item → child_items (suc d) h (Own m) ≡ item ∷ []
unfolding child_items
leaf_items d h m kind item there leaf i = ap (kind_items (child_items d h)) there ∙ i.leaf leaf (child_items d h)

value_by : (g : List Kind) (p : ℕ) (outer : List ℕ) (key : Key) (kind : Kind) (item : Item) (before : List Item) (w : WroteIn g p outer (length g + 1) before) (b : Bool) → is_container kind ≡ b → Takes g p w.kind key → suc (suc (length outer)) ≤ levels → IsItemOf kind item
    → (h : List Kind) → h ≡ set g (p - 1) (with_member w.kind key (Own (length g + 1))) ++ kind ∷ [] → Wrote h (cond b ((length g + 1) ∷ p ∷ outer) (p ∷ outer)) None ((before ++ items.Key key ∷ []) ++ item ∷ [])
value_by g p outer key kind item before w true is takes deep i h made =
    let n = length g + 1 in
    let new = with_member w.kind key (Own n) in
    let g1 = set g (p - 1) new in
    let len : length g1 ≡ length g = length-set g (p - 1) new in
    let grown : Grown g h p w.kind new = subst (λ (x : List Kind). Grown g x p w.kind new) (sym made) (grown_is g (kind ∷ []) p w.kind new w.there) in
    let there : kind_at h n ≡ Some kind = ap (λ (x : List Kind). kind_at x n) made ∙ subst (λ (l : ℕ). kind_at (g1 ++ kind ∷ []) (l + 1) ≡ Some kind) len (kind_at-append_new g1 kind) in
    let end : n + 1 ≡ length h + 1 = omega (arith, ap length made, length-append g1 (kind ∷ [])) in
    subst (λ (m : ℕ). WroteIn h n (p ∷ outer) m ((before ++ items.Key key ∷ []) ++ item ∷ [])) end
    (open_wrote g h p outer n key kind item before w grown refl takes.named there is i.memberless (i.opened is))
value_by g p outer key kind item before w false is takes deep i h made =
    let n = length g + 1 in
    let new = with_member w.kind key (Own n) in
    let g1 = set g (p - 1) new in
    let inner = levels - suc (suc (length outer)) in
    let level = level_below (length outer) deep in
    let len : length g1 ≡ length g = length-set g (p - 1) new in
    let grown : Grown g h p w.kind new = subst (λ (x : List Kind). Grown g x p w.kind new) (sym made) (grown_is g (kind ∷ []) p w.kind new w.there) in
    let there : kind_at h n ≡ Some kind = ap (λ (x : List Kind). kind_at x n) made ∙ subst (λ (l : ℕ). kind_at (g1 ++ kind ∷ []) (l + 1) ≡ Some kind) len (kind_at-append_new g1 kind) in
    let end : n + 1 ≡ length h + 1 = omega (arith, ap length made, length-append g1 (kind ∷ [])) in
    let ends : child_end (levels - suc (length outer)) h (Own n) n ≡ Some (n + 1) = subst (λ (d : ℕ). child_end d h (Own n) n ≡ Some (n + 1)) (sym level) (leaf_ends inner h n kind there i.childless) in
    let own : child_items (levels - suc (length outer)) h (Own n) ≡ item ∷ [] = ap (λ (d : ℕ). child_items d h (Own n)) level ∙ leaf_items inner h n kind item there is i in
    subst (λ (m : ℕ). WroteIn h p outer m ((before ++ items.Key key ∷ []) ++ item ∷ [])) end
    (leaf_wrote g h p outer n (n + 1) key (Own n) item before w grown refl takes.named ends own)

on_top : (kind : Kind) (item : Item) (b : Bool) → is_container kind ≡ b → IsItemOf kind item → Wrote (kind ∷ []) (cond b (1 ∷ []) []) None (item ∷ [])
unfolding items_of
on_top kind item true is i = record {
  before = [];
  kind = kind;
  there = refl;
  holds = is;
  ends = ap (λ (xs : List (Key × Child)). ends_after (child_end (levels - suc 0) (kind ∷ [])) (map (λ m. m.1) xs) 2) i.memberless;
  around = (refl, refl);
  wrote = sym (ap (λ (xs : List Item). [] ++ (opening kind ++ xs)) (ap (member_items (child_items (levels - suc 0) (kind ∷ []))) i.memberless) ∙ ap (λ (xs : List Item). xs ++ []) (i.opened is));
}
on_top kind item false is i = sym (leaf_items 511 (kind ∷ []) 1 kind item refl is i)

value_top : (g : List Kind) (kind : Kind) (item : Item) (is : List Item) → wants_by g [] None ≡ Value → IsItemOf kind item → WroteTop g is → Wrote (g ++ kind ∷ []) (cond (is_container kind) ((length g + 1) ∷ []) []) None (is ++ item ∷ [])
value_top [] kind item is wants i w = subst (λ (xs : List Item). Wrote (kind ∷ []) (cond (is_container kind) (1 ∷ []) []) None (xs ++ item ∷ [])) (sym w) (on_top kind item (is_container kind) refl i)
value_top (k ∷ ks) kind item is wants i w = absurd cc

value_wrote : (g : List Kind) (cs : List ℕ) (key : Option Key) (kind : Kind) (item : Item) (is : List Item) → IsDraft g cs key → wants_by g cs key ≡ Value → suc (length cs) ≤ levels → IsItemOf kind item → Wrote g cs key is
    → Wrote (attached g cs key (Own (length g + 1)) ++ kind ∷ []) (cond (is_container kind) ((length g + 1) ∷ cs) cs) None (is ++ item ∷ [])
value_wrote g [] None kind item is d wants deep i w = value_top g kind item is wants i w
value_wrote g [] (Some key) kind item is d wants deep i w = absurd d.waiting
value_wrote g (p ∷ outer) None kind item is d wants deep i w = absurd (no_value (is_array_at g p) wants)
value_wrote g (p ∷ outer) (Some key) kind item is d wants deep i w =
    let takes = takes_key g p outer key w.1.kind w.1.there w.1.holds d.waiting in
    let made = ap (λ (x : List Kind). x ++ kind ∷ []) (attached_is g p outer key (Own (length g + 1)) w.1.kind w.1.there) in
    subst (λ (xs : List Item). Wrote (attached g (p ∷ outer) (Some key) (Own (length g + 1)) ++ kind ∷ []) (cond (is_container kind) ((length g + 1) ∷ p ∷ outer) (p ∷ outer)) None (xs ++ item ∷ [])) (sym w.2)
    (value_by g p outer key kind item w.0 w.1 (is_container kind) refl takes deep i (attached g (p ∷ outer) (Some key) (Own (length g + 1)) ++ kind ∷ []) made)

back_items : (d : ℕ) (h : List Kind) (x : ℕ) → child_items (suc d) h (Back x) ≡ items.Back x ∷ []
unfolding child_items
back_items d h x = refl

back_wrote : (g : List Kind) (cs : List ℕ) (key : Option Key) (x : ℕ) (is : List Item) → IsDraft g cs key → wants_by g cs key ≡ Value → suc (length cs) ≤ levels → 1 ≤ x → x ≤ length g → Wrote g cs key is → Wrote (attached g cs key (Back x)) cs None (is ++ items.Back x ∷ [])
back_wrote g [] None x is d wants deep low high w = absurd (omega (arith, ap length (nothing_on_top g wants)))
back_wrote g [] (Some key) x is d wants deep low high w = absurd d.waiting
back_wrote g (p ∷ outer) None x is d wants deep low high w = absurd (no_value (is_array_at g p) wants)
back_wrote g (p ∷ outer) (Some key) x is d wants deep low high w =
    let n = length g + 1 in
    let takes = takes_key g p outer key w.1.kind w.1.there w.1.holds d.waiting in
    let new = with_member w.1.kind key (Back x) in
    let h = set g (p - 1) new in
    let inner = levels - suc (suc (length outer)) in
    let level = level_below (length outer) deep in
    let grown : Grown g h p w.1.kind new = subst (λ (y : List Kind). Grown g y p w.1.kind new) (append-nil h) (grown_is g [] p w.1.kind new w.1.there) in
    let ends : child_end (levels - suc (length outer)) h (Back x) n ≡ Some n = subst (λ (l : ℕ). child_end l h (Back x) n ≡ Some n) (sym level) (back_makes inner h x n low (omega arith)) in
    let own : child_items (levels - suc (length outer)) h (Back x) ≡ items.Back x ∷ [] = ap (λ (l : ℕ). child_items l h (Back x)) level ∙ back_items inner h x in
    let end : n ≡ length h + 1 = omega (arith, length-set g (p - 1) new) in
    let one = subst (λ (m : ℕ). WroteIn h p outer m ((w.0 ++ items.Key key ∷ []) ++ items.Back x ∷ [])) end (leaf_wrote g h p outer n n key (Back x) (items.Back x) w.0 w.1 grown refl takes.named ends own) in
    subst (λ (y : List Kind). WroteIn y p outer (length y + 1) (is ++ items.Back x ∷ [])) (sym (attached_is g p outer key (Back x) w.1.kind w.1.there))
    (subst (λ (xs : List Item). WroteIn h p outer (length h + 1) (xs ++ items.Back x ∷ [])) (sym w.2) one)

top_is : (g : List Kind) (p : ℕ) (kind : Kind) (is : List Item) → kind_at g p ≡ Some kind → is ≡ items_of g → WroteTop g is
top_is [] zero kind is there e = absurd cc
top_is [] (suc p) kind is there e = absurd cc
top_is (k ∷ ks) p kind is there e = e

close_by : (g : List Kind) (cs : List ℕ) (is : List Item) (p : ℕ) (outer : List ℕ) → cs ≡ p ∷ outer → length cs ≤ levels → Wrote g cs None is → Wrote g (drop 1 cs) None (is ++ items.Close ∷ [])
close_by g [] is p outer e deep w = absurd cc
close_by g (p ∷ []) is p' outer e deep w = top_is g p w.kind (is ++ items.Close ∷ []) w.there (close_top g p (length g + 1) is w)
close_by g (p ∷ q ∷ outer) is p' outer' e deep w = close_wrote g p q outer (length g + 1) is deep w

key_by : (g : List Kind) (cs : List ℕ) (key : Key) (is : List Item) (p : ℕ) (outer : List ℕ) → cs ≡ p ∷ outer → Wrote g cs None is → Wrote g cs (Some key) (is ++ items.Key key ∷ [])
key_by g [] key is p outer e w = absurd cc
key_by g (p ∷ outer) key is p' outer' e w = (is, w, refl)

abbrev pub WroteDraft : Draft → List Item → Type 0
WroteDraft d is = Wrote d.places d.containers d.key is

value_taken : (d : Draft) (kind : Kind) (item : Item) (is : List Item) → IsDrafted d → wants_of d ≡ Value → room_fault d ≡ None → IsItemOf kind item → WroteDraft d is → WroteDraft (with_value d kind) (is ++ item ∷ [])
value_taken d kind item is draft wants room i w = value_wrote d.places d.containers d.key kind item is draft wants (has_room d room).deep i w

step_wrote : (d : Draft) (item : Item) (is : List Item) → IsDrafted d → item_fits (wants_of d) item ≡ true → fault_of d item ≡ None → WroteDraft d is → WroteDraft (pushed d item) (is ++ item ∷ [])
step_wrote d items.Null is draft fits fault w = value_taken d kinds.Null items.Null is draft (value_wanted (wants_of d) items.Null refl fits) (first_none (room_fault d) None fault).0 (record { childless = refl; memberless = refl; leaf = λ e v. refl; opened = λ e. absurd (false≢true e) }) w
step_wrote d (items.Bool b) is draft fits fault w = value_taken d (kinds.Bool b) (items.Bool b) is draft (value_wanted (wants_of d) (items.Bool b) refl fits) (first_none (room_fault d) None fault).0 (record { childless = refl; memberless = refl; leaf = λ e v. refl; opened = λ e. absurd (false≢true e) }) w
step_wrote d (items.Int n) is draft fits fault w = value_taken d (kinds.Int n) (items.Int n) is draft (value_wanted (wants_of d) (items.Int n) refl fits) (first_none (room_fault d) None fault).0 (record { childless = refl; memberless = refl; leaf = λ e v. refl; opened = λ e. absurd (false≢true e) }) w
step_wrote d (items.Str bytes) is draft fits fault w = value_taken d (kinds.Str bytes) (items.Str bytes) is draft (value_wanted (wants_of d) (items.Str bytes) refl fits) (first_none (room_fault d) None fault).0 (record { childless = refl; memberless = refl; leaf = λ e v. refl; opened = λ e. absurd (false≢true e) }) w
step_wrote d items.OpenArray is draft fits fault w = value_taken d (kinds.Array []) items.OpenArray is draft (value_wanted (wants_of d) items.OpenArray refl fits) (first_none (room_fault d) None fault).0 (record { childless = refl; memberless = refl; leaf = λ e v. absurd (false≢true (sym e)); opened = λ e. refl }) w
step_wrote d (items.OpenObject class) is draft fits fault w = value_taken d (kinds.Object class []) (items.OpenObject class) is draft (value_wanted (wants_of d) (items.OpenObject class) refl fits) (first_none (room_fault d) (cond (is_class class) None (Some BadClass)) fault).0 (record { childless = refl; memberless = refl; leaf = λ e v. absurd (false≢true (sym e)); opened = λ e. refl }) w
step_wrote d (items.Same y) is draft fits fault w = value_taken d (kinds.Same y) (items.Same y) is draft (value_wanted (wants_of d) (items.Same y) refl fits) (first_none (room_fault d) (cond (is_object_at d.places y) None (Some BadNumber)) fault).0 (record { childless = refl; memberless = refl; leaf = λ e v. refl; opened = λ e. absurd (false≢true e) }) w
step_wrote d (items.Back x) is draft fits fault w =
    let f = first_none (room_fault d) (cond (nat_le 1 x && nat_le x (length d.places)) None (Some BadNumber)) fault in
    let r = has_room d f.0 in
    let b = and_true (nat_le 1 x) (nat_le x (length d.places)) (if_none (nat_le 1 x && nat_le x (length d.places)) BadNumber f.1) in
    back_wrote d.places d.containers d.key x is draft (value_wanted (wants_of d) (items.Back x) refl fits) r.deep (grind (arith, nat_tests, b.0)) (grind (arith, nat_tests, b.1)) w
step_wrote d (items.Key key) is draft fits fault w =
    let none = wants_no_value d.places d.containers d.key draft (either (wants_of d) key (key_wanted (wants_of d) key fits)) in
    key_by d.places d.containers key is none.1.0 none.1.1 none.1.2 (subst (λ (k : Option Key). Wrote d.places d.containers k is) none.0 w)
step_wrote d items.Close is draft fits fault w =
    let none = wants_no_value d.places d.containers d.key draft (close_wanted (wants_of d) fits) in
    close_by d.places d.containers is none.1.0 none.1.1 none.1.2 draft.deep (subst (λ (k : Option Key). Wrote d.places d.containers k is) none.0 w)

all_wrote : (d e : Draft) (done is : List Item) → IsDrafted d → AllByRecursion FitsItem is → drafted d is ≡ Some e → WroteDraft d done → WroteDraft e (done ++ is)
all_wrote d e done [] draft fits h w = let same : d ≡ e = cc in subst (λ (x : Draft). WroteDraft x (done ++ [])) same (subst (WroteDraft d) (sym (append-nil done)) w)
all_wrote d e done (item ∷ rest) draft fits h w =
    let t = taken d item rest e h in
    let next = all_wrote (pushed d item) e (done ++ item ∷ []) rest (step_drafted d item draft t.0 t.1 fits.0) fits.1 t.2 (step_wrote d item done draft t.0 t.1 w) in
    subst (WroteDraft e) (append_assoc done (item ∷ []) rest) next

top_items : (g : List Kind) (is : List Item) → wants_by g [] None ≡ Done → WroteTop g is → is ≡ items_of g
top_items [] is wants w = absurd cc
top_items (k ∷ ks) is wants w = w

-- items that end with nothing wanted are those of the graph that they have written
pub written_items : (is : List Item) (d : Draft) → AllByRecursion FitsItem is → drafted nothing_drafted is ≡ Some d → wants_of d ≡ Done → is ≡ items_of d.places
written_items is d fits h wants =
    let w = all_wrote nothing_drafted d [] is nothing_is fits h refl in
    let g = drafted_graph is d fits h wants in
    let top : WroteTop d.places is = subst (λ (cs : List ℕ). Wrote d.places cs d.key is) g.1 w in
    let done : wants_by d.places [] None ≡ Done = subst (λ (k : Option Key). wants_by d.places [] k ≡ Done) g.2 (subst (λ (cs : List ℕ). wants_by d.places cs d.key ≡ Done) g.1 wants) in
    top_items d.places is done top
