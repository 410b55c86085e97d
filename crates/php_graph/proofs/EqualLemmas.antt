-- Tests of equality that are exact.
use Rattle.std.proofs.Common.{◌≡◌, ℕ, Bool, eqb, List, refl, ap}
use Rattle.std.specs.Prelude.{◌&&◌}
use Rattle.std.specs.Bool.{Decides}
use Rattle.std.specs.Cmp.Lexicographic.{pointwise, pointwise_decides, bytes_decides}
use Rattle.std.proofs.lemmas.Bool.{eqb-true, eq-eqb}
use Rattle.std.proofs.lemmas.Bool.Decides.{Decides-int_eq}
use Rattle.php_graph.specs.declared.key.Key.{Key}
use Rattle.php_graph.specs.declared.key.Key.TheVariants as keys
use Rattle.php_graph.specs.declared.child.Child.{Child}
use Rattle.php_graph.specs.declared.child.Child.TheVariants.{Own, Back}
use Rattle.php_graph.specs.contracts.key.KeyPartialEq.TheImpl as key_eq
use Rattle.php_graph.specs.contracts.child.ChildPartialEq.TheImpl as child_eq
use Rattle.php_graph.proofs.DraftLemmas.{and_true}

key_decides : (a b : Key) → Decides ((key_eq.ghosts).eq a b) (a ≡ b)
key_decides (keys.Int a) (keys.Int b) = let d = Decides-int_eq a b in (λ e. ap keys.Int (d.0 e), λ e. d.1 cc)
key_decides (keys.Int a) (keys.Str b) = (λ e. absurd cc, λ e. absurd cc)
key_decides (keys.Str a) (keys.Int b) = (λ e. absurd cc, λ e. absurd cc)
key_decides (keys.Str a) (keys.Str b) = let d = bytes_decides a b in (λ e. ap keys.Str (d.0 e), λ e. d.1 cc)

child_decides : (a b : Child) → Decides ((child_eq.ghosts).eq a b) (a ≡ b)
child_decides (Own a) (Own b) = (λ e. ap Own (eqb-true a b e), λ e. eq-eqb a b cc)
child_decides (Own a) (Back b) = (λ e. absurd cc, λ e. absurd cc)
child_decides (Back a) (Own b) = (λ e. absurd cc, λ e. absurd cc)
child_decides (Back a) (Back b) = (λ e. ap Back (eqb-true a b e), λ e. eq-eqb a b cc)

pair_is : {A B : Type 0} (x y : A × B) → x.0 ≡ y.0 → x.1 ≡ y.1 → x ≡ y
pair_is x y e f = λ i. (e i, f i)

pair_decides : {A B : Type 0} (E : A → A → Bool) (F : B → B → Bool) → ((a b : A) → Decides (E a b) (a ≡ b)) → ((a b : B) → Decides (F a b) (a ≡ b)) → (x y : A × B) → Decides (E x.0 y.0 && F x.1 y.1) (x ≡ y)
pair_decides E F d f x y = (
  λ e. let both = and_true (E x.0 y.0) (F x.1 y.1) e in pair_is x y ((d x.0 y.0).0 both.0) ((f x.1 y.1).0 both.1),
  λ e. rw ((d x.0 y.0).1 (ap (λ p. p.0) e), (f x.1 y.1).1 (ap (λ p. p.1) e)) refl,
)

pub members_decide : (xs ys : List (Key × Child)) → Decides (pointwise (λ x y. (key_eq.ghosts).eq x.0 y.0 && (child_eq.ghosts).eq x.1 y.1) xs ys) (xs ≡ ys)
members_decide xs ys = pointwise_decides {E = λ (x : Key × Child) (y : Key × Child). (key_eq.ghosts).eq x.0 y.0 && (child_eq.ghosts).eq x.1 y.1} (pair_decides (key_eq.ghosts).eq (child_eq.ghosts).eq key_decides child_decides) xs ys

pub props_decide : (xs ys : List (List ℕ × Child)) → Decides (pointwise (λ x y. pointwise eqb x.0 y.0 && (child_eq.ghosts).eq x.1 y.1) xs ys) (xs ≡ ys)
props_decide xs ys = pointwise_decides {E = λ (x : List ℕ × Child) (y : List ℕ × Child). pointwise eqb x.0 y.0 && (child_eq.ghosts).eq x.1 y.1} (pair_decides (pointwise eqb) (child_eq.ghosts).eq bytes_decides child_decides) xs ys
