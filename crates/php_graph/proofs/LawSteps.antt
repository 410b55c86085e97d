-- Each item that fits and is not refused leads from a draft to a draft.
use Rattle.std.proofs.Common.{◌≡◌, ◌⊎◌, ℕ, zero, suc, Bool, true, false, cond, List, [], ◌∷◌, length, drop, Option, Some, None, refl, sym, ap, subst, ◌∙◌, arith, inl, inr}
use Rattle.std.specs.Prelude.{◌&&◌, nat_le}
use Rattle.std.specs.Option.{is_none}
use Rattle.std.specs.List.{AllByRecursion}
use Rattle.std.proofs.lemmas.Bool.{false≢true}
use Rattle.std.proofs.lemmas.Bool.Decides.{nat_tests}
use Rattle.php_graph.specs.declared.key.Key.{Key}
use Rattle.php_graph.specs.declared.kind.Kind.{Kind}
use Rattle.php_graph.specs.declared.kind.Kind.TheVariants as kinds
use Rattle.php_graph.specs.declared.item.Item.{Item}
use Rattle.php_graph.specs.declared.item.Item.TheVariants as items
use Rattle.php_graph.specs.declared.item.Wants.{Wants}
use Rattle.php_graph.specs.declared.item.Wants.TheVariants.{Value, ArrayKey, Name, Done}
use Rattle.php_graph.specs.declared.item.BuildFault.{BuildFault}
use Rattle.php_graph.specs.declared.item.BuildFault.TheVariants.{BadNumber, BadClass}
use Rattle.php_graph.specs.Graph.{kind_at, is_object_at, is_class, IsGraph}
use Rattle.php_graph.specs.Building.{Draft, nothing_drafted, all_drafted, wants_of, wants_by, is_value, is_name, item_fits, FitsItem, room_fault, first_fault, fault_of, pushed, drafted, with_value}
use Rattle.php_graph.specs.BuilderState.{IsDraft, IsNewValue}
use Rattle.php_graph.proofs.DraftLemmas.{and_true}
use Rattle.php_graph.proofs.DraftAfterItem.{value_drafted, back_drafted, close_drafted, done_graph, done_on_top}
use Rattle.php_graph.proofs.BuilderAfterItem.{has_room, wants_no_value, key_in}

abbrev pub IsDrafted : Draft → Type 0
IsDrafted d = IsDraft d.places d.containers d.key

pub value_wanted : (w : Wants) (item : Item) → is_value item ≡ true → item_fits w item ≡ true → w ≡ Value
value_wanted Value item v f = refl
value_wanted ArrayKey (items.Key key) v f = absurd (false≢true v)
value_wanted ArrayKey items.Close v f = absurd (false≢true v)
value_wanted ArrayKey item v f = absurd (false≢true f)
value_wanted Name (items.Key key) v f = absurd (false≢true v)
value_wanted Name items.Close v f = absurd (false≢true v)
value_wanted Name item v f = absurd (false≢true f)
value_wanted Done item v f = absurd (false≢true f)

pub key_wanted : (w : Wants) (key : Key) → item_fits w (items.Key key) ≡ true → (w ≡ ArrayKey) ⊎ ((w ≡ Name) × (is_name key ≡ true))
key_wanted Value key f = absurd (false≢true f)
key_wanted ArrayKey key f = inl refl
key_wanted Name key f = inr (refl, f)
key_wanted Done key f = absurd (false≢true f)

pub close_wanted : (w : Wants) → item_fits w items.Close ≡ true → (w ≡ ArrayKey) ⊎ (w ≡ Name)
close_wanted Value f = absurd (false≢true f)
close_wanted ArrayKey f = inl refl
close_wanted Name f = inr refl
close_wanted Done f = absurd (false≢true f)

pub first_none : (a b : Option BuildFault) → first_fault a b ≡ None → (a ≡ None) × (b ≡ None)
first_none None b e = (refl, e)
first_none (Some fault) b e = absurd cc

pub if_none : (b : Bool) (f : BuildFault) → cond b None (Some f) ≡ None → b ≡ true
if_none true f e = refl
if_none false f e = absurd cc

value_step : (d : Draft) (kind : Kind) → IsDrafted d → wants_of d ≡ Value → room_fault d ≡ None → IsNewValue d.places kind → IsDrafted (with_value d kind)
value_step d kind is wants room new = let r = has_room d room in value_drafted d.places d.containers d.key kind is wants r.deep r.few new

closed_by : (d : Draft) (p : ℕ) (outer : List ℕ) → IsDrafted d → d.key ≡ None → d.containers ≡ p ∷ outer → IsDraft d.places (drop 1 d.containers) None
closed_by d p outer is no_key e =
    let here : IsDraft d.places (p ∷ outer) None = subst (λ (k : Option Key). IsDraft d.places (p ∷ outer) k) no_key (subst (λ (cs : List ℕ). IsDraft d.places cs d.key) e is) in
    subst (λ (cs : List ℕ). IsDraft d.places (drop 1 cs) None) (sym e) (close_drafted d.places p outer here)

pub either : (w : Wants) (key : Key) → (w ≡ ArrayKey) ⊎ ((w ≡ Name) × (is_name key ≡ true)) → (w ≡ ArrayKey) ⊎ (w ≡ Name)
either w key (inl e) = inl e
either w key (inr e) = inr e.0

key_by : (d : Draft) (key : Key) → IsDrafted d → (wants_of d ≡ ArrayKey) ⊎ ((wants_of d ≡ Name) × (is_name key ≡ true)) → fault_of d (items.Key key) ≡ None → FitsItem (items.Key key) → IsDraft d.places d.containers (Some key)
key_by d key is w fault fits =
    let none = wants_no_value d.places d.containers d.key is (either (wants_of d) key w) in
    let w' = subst (λ (k : Option Key). (wants_by d.places d.containers k ≡ ArrayKey) ⊎ ((wants_by d.places d.containers k ≡ Name) × (is_name key ≡ true))) none.0 w in
    key_in d.places d.containers key (subst (IsDraft d.places d.containers) none.0 is) w' fits fault

pub step_drafted : (d : Draft) (item : Item) → IsDrafted d → item_fits (wants_of d) item ≡ true → fault_of d item ≡ None → FitsItem item → IsDrafted (pushed d item)
step_drafted d items.Null is fits fault range = let f = first_none (room_fault d) None fault in
    value_step d kinds.Null is (value_wanted (wants_of d) items.Null refl fits) f.0 (record { childless = refl; well_formed = refl; fits = tt; target = λ x e. absurd cc })
step_drafted d (items.Bool b) is fits fault range = let f = first_none (room_fault d) None fault in
    value_step d (kinds.Bool b) is (value_wanted (wants_of d) (items.Bool b) refl fits) f.0 (record { childless = refl; well_formed = refl; fits = tt; target = λ x e. absurd cc })
step_drafted d (items.Int n) is fits fault range = let f = first_none (room_fault d) None fault in
    value_step d (kinds.Int n) is (value_wanted (wants_of d) (items.Int n) refl fits) f.0 (record { childless = refl; well_formed = refl; fits = range; target = λ x e. absurd cc })
step_drafted d (items.Str bytes) is fits fault range = let f = first_none (room_fault d) None fault in
    value_step d (kinds.Str bytes) is (value_wanted (wants_of d) (items.Str bytes) refl fits) f.0 (record { childless = refl; well_formed = refl; fits = range; target = λ x e. absurd cc })
step_drafted d items.OpenArray is fits fault range = let f = first_none (room_fault d) None fault in
    value_step d (kinds.Array []) is (value_wanted (wants_of d) items.OpenArray refl fits) f.0 (record { childless = refl; well_formed = refl; fits = tt; target = λ x e. absurd cc })
step_drafted d (items.OpenObject class) is fits fault range =
    let f = first_none (room_fault d) (cond (is_class class) None (Some BadClass)) fault in
    value_step d (kinds.Object class []) is (value_wanted (wants_of d) (items.OpenObject class) refl fits) f.0 (record { childless = refl; well_formed = if_none (is_class class) BadClass f.1; fits = (range, tt); target = λ x e. absurd cc })
step_drafted d (items.Same y) is fits fault range =
    let f = first_none (room_fault d) (cond (is_object_at d.places y) None (Some BadNumber)) fault in
    value_step d (kinds.Same y) is (value_wanted (wants_of d) (items.Same y) refl fits) f.0 (record { childless = refl; well_formed = refl; fits = tt; target = λ x e. let same : y ≡ x = cc in ap (is_object_at d.places) (sym same) ∙ if_none (is_object_at d.places y) BadNumber f.1 })
step_drafted d (items.Back x) is fits fault range =
    let f = first_none (room_fault d) (cond (nat_le 1 x && nat_le x (length d.places)) None (Some BadNumber)) fault in
    let r = has_room d f.0 in
    let b = and_true (nat_le 1 x) (nat_le x (length d.places)) (if_none (nat_le 1 x && nat_le x (length d.places)) BadNumber f.1) in
    back_drafted d.places d.containers d.key x is (value_wanted (wants_of d) (items.Back x) refl fits) r.deep r.few (grind (arith, nat_tests, b.0)) (grind (arith, nat_tests, b.1))
step_drafted d (items.Key key) is fits fault range = key_by d key is (key_wanted (wants_of d) key fits) fault range
step_drafted d items.Close is fits fault range =
    let none = wants_no_value d.places d.containers d.key is (close_wanted (wants_of d) fits) in
    closed_by d none.1.0 none.1.1 is none.0 none.1.2

no_place : (p x : ℕ) → ¬ kind_at [] p ≡ Some (kinds.Same x)
no_place zero x e = cc
no_place (suc p) x e = cc

-- a draft begins with nothing written
pub nothing_is : IsDrafted nothing_drafted
nothing_is = record {
  shaped = inl refl;
  opened = tt;
  deep = omega arith;
  waiting = tt;
  targets = λ p x e. absurd (no_place p x e);
  well_formed = tt;
  fits = tt;
  count = omega arith;
  members = omega arith;
}

step_taken : (b : Bool) (d : Draft) (rest : List Item) (e : Draft) → cond b (drafted d rest) None ≡ Some e → (b ≡ true) × (drafted d rest ≡ Some e)
step_taken true d rest e h = (refl, h)
step_taken false d rest e h = absurd cc

none_is : (o : Option BuildFault) → is_none o ≡ true → o ≡ None
none_is None e = refl
none_is (Some fault) e = absurd (false≢true e)

pub taken : (d : Draft) (item : Item) (rest : List Item) (e : Draft) → drafted d (item ∷ rest) ≡ Some e → (item_fits (wants_of d) item ≡ true) × (fault_of d item ≡ None) × (drafted (pushed d item) rest ≡ Some e)
taken d item rest e h =
    let s = step_taken (item_fits (wants_of d) item && is_none (fault_of d item)) (pushed d item) rest e h in
    let b = and_true (item_fits (wants_of d) item) (is_none (fault_of d item)) s.0 in
    (b.0, none_is (fault_of d item) b.1, s.1)

pub all_drafted_is : (d e : Draft) (is : List Item) → IsDrafted d → AllByRecursion FitsItem is → drafted d is ≡ Some e → IsDrafted e
all_drafted_is d e [] draft fits h = let same : d ≡ e = cc in subst IsDrafted same draft
all_drafted_is d e (item ∷ rest) draft fits h =
    let t = taken d item rest e h in
    all_drafted_is (pushed d item) e rest (step_drafted d item draft t.0 t.1 fits.0) fits.1 t.2

-- items that end with nothing wanted have written a graph
pub drafted_graph : (is : List Item) (d : Draft) → AllByRecursion FitsItem is → drafted nothing_drafted is ≡ Some d → wants_of d ≡ Done → IsGraph d.places × (d.containers ≡ []) × (d.key ≡ None)
drafted_graph is d fits h wants =
    let draft = all_drafted_is nothing_drafted d is nothing_is fits h in
    let top = done_on_top d.places d.containers d.key wants in
    let g = done_graph d.places d.key (subst (λ (cs : List ℕ). IsDraft d.places cs d.key) top draft) (subst (λ (cs : List ℕ). wants_by d.places cs d.key ≡ Done) top wants) in
    (g.0, top, g.1)

alone_is : (d : Draft) → d.containers ≡ [] → d.key ≡ None → d ≡ all_drafted d.places
alone_is d e f = λ i. record { places = d.places; containers = e i; key = f i }

pub drafted_alone : (is : List Item) (d : Draft) → AllByRecursion FitsItem is → drafted nothing_drafted is ≡ Some d → wants_of d ≡ Done → d ≡ all_drafted d.places
drafted_alone is d fits h wants = let g = drafted_graph is d fits h wants in alone_is d g.1 g.2
