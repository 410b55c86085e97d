-- What an item that was taken leaves.
use Rattle.std.proofs.Common.{◌≡◌, ℕ, ◌<◌, Bool, true, false, ◌&&◌, cond, List, [], ◌∷◌, ◌++◌, length, Option, Some, None, refl, arith, length-append}
use Rattle.std.proofs.lemmas.List.{length-set}
use Rattle.std.proofs.lemmas.Bool.{leb-true}
use lib.Dec.{leb}
use Rattle.php_graph.specs.declared.kind.Kind.{Kind}
use Rattle.php_graph.specs.declared.key.Key.{Key}
use Rattle.php_graph.specs.declared.child.Child.{Child}
use Rattle.php_graph.specs.declared.child.Child.TheVariants.{Back}
use Rattle.php_graph.specs.declared.item.Item.{Item}
use Rattle.php_graph.specs.declared.item.Item.TheVariants as items
use Rattle.php_graph.specs.declared.item.BuildFault.{BuildFault}
use Rattle.php_graph.specs.declared.item.BuildFault.TheVariants.{BadNumber}
use Rattle.php_graph.specs.Graph.{kind_at}
use Rattle.php_graph.specs.Building.{Draft, is_value, attached, changed_at, with_member, first_fault, room_fault, fault_of, pushed}
use Rattle.notation.specs.Steps.{opens, IsValueStep}

changed_len : (g : List Kind) (p : ℕ) (change : Kind → Kind) (kind : Option Kind) → length (changed_at g p change kind) ≡ length g
changed_len g p change None = refl
changed_len g p change (Some kind) = simp length-set

pub attached_len : (g : List Kind) (containers : List ℕ) (key : Option Key) (c : Child) → length (attached g containers key c) ≡ length g
attached_len g [] None c = refl
attached_len g [] (Some key) c = refl
attached_len g (p ∷ outer) None c = refl
attached_len g (p ∷ outer) (Some key) c = changed_len g p (λ kind. with_member kind key c) (kind_at g p)

value_some : (g : List Kind) (containers : List ℕ) (key : Option Key) (c : Child) (kind : Kind) → 0 < length (attached g containers key c ++ kind ∷ [])
value_some g containers key c kind = omega (arith, length-append (attached g containers key c) (kind ∷ []))

none_first : (a b : Option BuildFault) → first_fault a b ≡ None → (a ≡ None) × (b ≡ None)
none_first None b e = (refl, e)
none_first (Some fault) b e = absurd cc

some_place : (b c : Bool) → cond (b && c) None (Some BadNumber) ≡ None → (b ≡ true) × (c ≡ true)
some_place true true e = (refl, refl)
some_place true false e = absurd cc
some_place false c e = absurd cc

back_some : (d : Draft) (x : ℕ) → fault_of d (items.Back x) ≡ None → 0 < length d.places
back_some d x e =
    let f = some_place (leb 1 x) (leb x (length d.places)) (none_first (room_fault d) (cond (leb 1 x && leb x (length d.places)) None (Some BadNumber)) e).1 in
    omega (arith, leb-true _ _ f.0, leb-true _ _ f.1)

pub value_step : (d : Draft) (item : Item) → fault_of d item ≡ None → is_value item ≡ true → IsValueStep d (pushed d item) (opens item)
value_step d items.Null e v = record { containers_are = omega arith; no_key = refl; some = value_some d.places d.containers d.key _ _ }
value_step d (items.Bool b) e v = record { containers_are = omega arith; no_key = refl; some = value_some d.places d.containers d.key _ _ }
value_step d (items.Int n) e v = record { containers_are = omega arith; no_key = refl; some = value_some d.places d.containers d.key _ _ }
value_step d (items.Str bytes) e v = record { containers_are = omega arith; no_key = refl; some = value_some d.places d.containers d.key _ _ }
value_step d items.OpenArray e v = record { containers_are = omega arith; no_key = refl; some = value_some d.places d.containers d.key _ _ }
value_step d (items.OpenObject class) e v = record { containers_are = omega arith; no_key = refl; some = value_some d.places d.containers d.key _ _ }
value_step d (items.Key key) e v = absurd cc
value_step d items.Close e v = absurd cc
value_step d (items.Same x) e v = record { containers_are = omega arith; no_key = refl; some = value_some d.places d.containers d.key _ _ }
value_step d (items.Back x) e v = record { containers_are = omega arith; no_key = refl; some = omega (arith, attached_len d.places d.containers d.key (Back x), back_some d x e) }
