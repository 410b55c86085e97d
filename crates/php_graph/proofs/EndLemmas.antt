-- The ends of values: what they depend on, and what follows.
use Rattle.std.proofs.Common.{◌≡◌, ℕ, zero, suc, ◌+◌, ◌<◌, ◌≤◌, Bool, true, false, cond, eqb, List, [], ◌∷◌, ◌++◌, Option, Some, None, refl, sym, subst, ◌∙◌, arith}
use Rattle.std.specs.Prelude.{◌&&◌, nat_le, nat_lt}
use Rattle.std.specs.Option.{option_and_then}
use Rattle.std.proofs.lemmas.Bool.{eqb-true, eq-eqb}
use Rattle.std.proofs.lemmas.Bool.Decides.{nat_tests}
use Rattle.php_graph.specs.declared.child.Child.{Child}
use Rattle.php_graph.specs.declared.child.Child.TheVariants.{Own, Back}
use Rattle.php_graph.specs.declared.kind.Kind.{Kind}
use Rattle.php_graph.specs.Graph.{kind_at, children_of, ends_after, child_end}

pub chosen : {A : Type 0} (b : Bool) (o : Option A) (y : A) → cond b o None ≡ Some y → (b ≡ true) × (o ≡ Some y)
chosen true o y e = (refl, e)
chosen false o y e = absurd cc

pub then_some : {A B : Type 0} (f : A → Option B) (o : Option A) (y : B) → option_and_then f o ≡ Some y → (x : A) × (o ≡ Some x) × (f x ≡ Some y)
then_some f None y e = absurd cc
then_some f (Some x) y e = (x, refl, e)

-- a value that stands at m, and its members
pub record EndsAt (d : ℕ) (g : List Kind) (m e : ℕ) : Type 0 where
  pub kind : Kind
  pub there : kind_at g m ≡ Some kind
  pub members : ends_after (child_end d g) (children_of kind) (m + 1) ≡ Some e

pub own_end : (d : ℕ) (g : List Kind) (x m e : ℕ) → child_end (suc d) g (Own x) m ≡ Some e → (x ≡ m) × EndsAt d g m e
unfolding child_end
own_end d g x m e h =
    let c = chosen (eqb x m) (option_and_then (λ kind. ends_after (child_end d g) (children_of kind) (m + 1)) (kind_at g m)) e h in
    let t = then_some (λ kind. ends_after (child_end d g) (children_of kind) (m + 1)) (kind_at g m) e c.1 in
    (eqb-true x m c.0, record { kind = t.0; there = t.1; members = t.2 })

pub own_makes : (d : ℕ) (g : List Kind) (m e : ℕ) → EndsAt d g m e → child_end (suc d) g (Own m) m ≡ Some e
unfolding child_end
own_makes d g m e h = rw (eq-eqb m m refl, h.there) h.members

pub back_end : (d : ℕ) (g : List Kind) (x m e : ℕ) → child_end (suc d) g (Back x) m ≡ Some e → (1 ≤ x) × (x < m) × (m ≡ e)
unfolding child_end
back_end d g x m e h = let c = chosen (nat_le 1 x && nat_lt x m) (Some m) e h in
    let same : m ≡ e = cc in (grind (arith, c.0), grind (arith, c.0), same)

pub back_makes : (d : ℕ) (g : List Kind) (x m : ℕ) → 1 ≤ x → x < m → child_end (suc d) g (Back x) m ≡ Some m
unfolding child_end
back_makes d g x m low high = let test : (nat_le 1 x && nat_lt x m) ≡ true = grind (arith, nat_tests) in rw test refl

-- ---- members one after the other

pub ends_after-append : (f : Child → ℕ → Option ℕ) (cs ds : List Child) (m n e : ℕ) → ends_after f cs m ≡ Some n → ends_after f ds n ≡ Some e → ends_after f (cs ++ ds) m ≡ Some e
ends_after-append f [] ds m n e first second = let same : m ≡ n = cc in rw same second
ends_after-append f (c ∷ cs) ds m n e first second = let t = then_some (ends_after f cs) (f c m) n first in
    rw t.1 (ends_after-append f cs ds t.0 n e t.2 second)

pub ends_grow : (f : Child → ℕ → Option ℕ) → ((c : Child) (m e : ℕ) → f c m ≡ Some e → m ≤ e) → (cs : List Child) (m e : ℕ) → ends_after f cs m ≡ Some e → m ≤ e
ends_grow f up [] m e h = let same : m ≡ e = cc in omega arith
ends_grow f up (c ∷ cs) m e h = let t = then_some (ends_after f cs) (f c m) e h in
    omega (arith, up c m t.0 t.1, ends_grow f up cs t.0 e t.2)

-- no number falls
pub grows : (d : ℕ) (g : List Kind) (c : Child) (m e : ℕ) → child_end d g c m ≡ Some e → m ≤ e
unfolding child_end
grows zero g c m e h = absurd cc
grows (suc d) g (Own x) m e h = let o = own_end d g x m e h in
    omega (arith, ends_grow (child_end d g) (grows d g) (children_of o.1.kind) (m + 1) e o.1.members)
grows (suc d) g (Back x) m e h = omega (arith, (back_end d g x m e h).2)

pub own_grows : (d : ℕ) (g : List Kind) (x m e : ℕ) → child_end d g (Own x) m ≡ Some e → m < e
unfolding child_end
own_grows zero g x m e h = absurd cc
own_grows (suc d) g x m e h = let o = own_end d g x m e h in
    omega (arith, ends_grow (child_end d g) (grows d g) (children_of o.1.kind) (m + 1) e o.1.members)

pub ends_rise : (d : ℕ) (g : List Kind) (cs : List Child) (m e : ℕ) → ends_after (child_end d g) cs m ≡ Some e → m ≤ e
ends_rise d g cs m e h = ends_grow (child_end d g) (grows d g) cs m e h

-- ---- graphs that agree

-- from a up to b the two have the same places
pub record Agree (g h : List Kind) (a b : ℕ) : Type 0 where
  pub at : (k : ℕ) → a ≤ k → k < b → kind_at h k ≡ kind_at g k

pub Agree-part : (g h : List Kind) (a b x y : ℕ) → Agree g h a b → a ≤ x → y ≤ b → Agree g h x y
Agree-part g h a b x y s low high = record { at = λ k p q. s.at k (omega arith) (omega arith) }

-- a member ends where it ends in a graph that agrees from there up to its end
pub ends_agree : (f f' : Child → ℕ → Option ℕ) (g h : List Kind) → ((c : Child) (m e : ℕ) → f c m ≡ Some e → m ≤ e)
    → ((c : Child) (m e : ℕ) → f c m ≡ Some e → Agree g h m e → f' c m ≡ Some e)
    → (cs : List Child) (m e : ℕ) → ends_after f cs m ≡ Some e → Agree g h m e → ends_after f' cs m ≡ Some e
ends_agree f f' g h up same [] m e ends s = ends
ends_agree f f' g h up same (c ∷ cs) m e ends s =
    let t = then_some (ends_after f cs) (f c m) e ends in
    let rest = ends_grow f up cs t.0 e t.2 in
    let low = up c m t.0 t.1 in
    rw (same c m t.0 t.1 (Agree-part g h m e m t.0 s (omega arith) rest)) (ends_agree f f' g h up same cs t.0 e t.2 (Agree-part g h m e t.0 e s low (omega arith)))

pub end_agrees : (d : ℕ) (g h : List Kind) (c : Child) (m e : ℕ) → child_end d g c m ≡ Some e → Agree g h m e → child_end d h c m ≡ Some e
unfolding child_end
end_agrees zero g h c m e ends s = absurd cc
end_agrees (suc d) g h (Own x) m e ends s =
    let o = own_end d g x m e ends in
    let rise = ends_rise d g (children_of o.1.kind) (m + 1) e o.1.members in
    let made : EndsAt d h m e = record {
      kind = o.1.kind;
      there = s.at m (omega arith) (omega arith) ∙ o.1.there;
      members = ends_agree (child_end d g) (child_end d h) g h (grows d g) (end_agrees d g h) (children_of o.1.kind) (m + 1) e o.1.members (Agree-part g h m e (m + 1) e s (omega arith) (omega arith));
    } in
    subst (λ (y : ℕ). child_end (suc d) h (Own y) m ≡ Some e) (sym o.0) (own_makes d h m e made)
end_agrees (suc d) g h (Back x) m e ends s = ends

pub all_agree : (d : ℕ) (g h : List Kind) (cs : List Child) (m e : ℕ) → ends_after (child_end d g) cs m ≡ Some e → Agree g h m e → ends_after (child_end d h) cs m ≡ Some e
all_agree d g h cs m e ends s = ends_agree (child_end d g) (child_end d h) g h (grows d g) (end_agrees d g h) cs m e ends s

-- ---- more levels

pub ends_map : (f f' : Child → ℕ → Option ℕ) → ((c : Child) (m e : ℕ) → f c m ≡ Some e → f' c m ≡ Some e) → (cs : List Child) (m e : ℕ) → ends_after f cs m ≡ Some e → ends_after f' cs m ≡ Some e
ends_map f f' same [] m e h = h
ends_map f f' same (c ∷ cs) m e h = let t = then_some (ends_after f cs) (f c m) e h in rw (same c m t.0 t.1) (ends_map f f' same cs t.0 e t.2)

pub one_level_more : (d : ℕ) (g : List Kind) (c : Child) (m e : ℕ) → child_end d g c m ≡ Some e → child_end (suc d) g c m ≡ Some e
unfolding child_end
one_level_more zero g c m e h = absurd cc
one_level_more (suc d) g (Own x) m e h =
    let o = own_end d g x m e h in
    let made : EndsAt (suc d) g m e = record { kind = o.1.kind; there = o.1.there; members = ends_map (child_end d g) (child_end (suc d) g) (one_level_more d g) (children_of o.1.kind) (m + 1) e o.1.members } in
    subst (λ (y : ℕ). child_end (suc (suc d)) g (Own y) m ≡ Some e) (sym o.0) (own_makes (suc d) g m e made)
one_level_more (suc d) g (Back x) m e h = h
