-- The end of a part of a graph.
use Rattle.std.proofs.Common.{◌≡◌, ℕ, zero, suc, ◌+◌, ◌<◌, ◌≤◌, List, [], ◌∷◌, length, Option, Some, None, refl, sym, ap, subst, ◌∙◌, arith, inl, inr}
use Rattle.std.proofs.lemmas.Bool.{cases_lt}
use Rattle.php_graph.specs.declared.child.Child.{Child}
use Rattle.php_graph.specs.declared.child.Child.TheVariants.{Own, Back}
use Rattle.php_graph.specs.declared.kind.Kind.{Kind}
use Rattle.php_graph.specs.Graph.{kind_at, children_of, ends_after, child_end, end_of, levels, IsGraph}
use Rattle.php_graph.specs.PlaceOffsets.{last_own}
use Rattle.php_graph.proofs.EndLemmas.{then_some, own_end, back_end, own_grows, ends_rise, one_level_more}
use Rattle.php_graph.proofs.DraftShapes.{same_or}

-- the value at place k ends here
pub record Ends (d : ℕ) (g : List Kind) (k most : ℕ) : Type 0 where
  pub end : ℕ
  pub within : end ≤ most
  pub ends : child_end d g (Own k) k ≡ Some end

ends_covered : (d : ℕ) (g : List Kind) (k : ℕ) → ((c : Child) (m e : ℕ) → child_end d g c m ≡ Some e → m ≤ k → k < e → Ends d g k e) → (cs : List Child) (m e : ℕ) → ends_after (child_end d g) cs m ≡ Some e → m ≤ k → k < e → Ends d g k e
ends_covered d g k one [] m e h low high = let same : m ≡ e = cc in absurd (omega arith)
ends_covered d g k one (c ∷ cs) m e h low high =
    let t = then_some (ends_after (child_end d g) cs) (child_end d g c m) e h in
    let rest = ends_rise d g cs t.0 e t.2 in
    elim (cases_lt k t.0) [
      | inl lt ↦ let found = one c m t.0 t.1 low lt in record { end = found.end; within = omega (arith, found.within); ends = found.ends }
      | inr le ↦ ends_covered d g k one cs t.0 e t.2 le high
    ]

-- each place inside a value has a value that ends inside it
pub covered : (d : ℕ) (g : List Kind) (k : ℕ) (c : Child) (m e : ℕ) → child_end d g c m ≡ Some e → m ≤ k → k < e → Ends d g k e
unfolding child_end
covered zero g k c m e h low high = absurd cc
covered (suc d) g k (Back x) m e h low high = absurd (omega (arith, (back_end d g x m e h).2))
covered (suc d) g k (Own x) m e h low high =
    let o = own_end d g x m e h in
    elim (same_or k m) [
      | inl at ↦ record { end = e; within = omega arith; ends = subst (λ (y : ℕ). child_end (suc d) g (Own y) y ≡ Some e) (sym at) (subst (λ (y : ℕ). child_end (suc d) g (Own y) m ≡ Some e) o.0 h) }
      | inr ne ↦
          let found = ends_covered d g k (covered d g k) (children_of o.1.kind) (m + 1) e o.1.members (omega arith) high in
          record { end = found.end; within = found.within; ends = one_level_more d g (Own k) k found.end found.ends }
    ]

pub place_ends : (g : List Kind) (k : ℕ) → IsGraph g → 1 ≤ k → k ≤ length g → Ends levels g k (length g + 1)
unfolding end_of
place_ends g k graph low high = covered levels g k (Own 1) 1 (length g + 1) graph.sealed low (omega arith)

-- ---- the last member, its last member and so on

-- the value at place k ends where this one does
pub record Leads (g : List Kind) (k at : ℕ) : Type 0 where
  pub level : ℕ
  pub end : ℕ
  pub ends : child_end level g (Own at) at ≡ Some end
  pub whole : end_of g k ≡ Some end
  pub within : end ≤ length g + 1

pub leads_first : (g : List Kind) (k : ℕ) → IsGraph g → 1 ≤ k → k ≤ length g → Leads g k k
unfolding end_of
leads_first g k graph low high = let e = place_ends g k graph low high in record { level = levels; end = e.end; ends = e.ends; whole = e.ends; within = e.within }

pub at_place : (d : ℕ) (g : List Kind) (x m e : ℕ) → child_end d g (Own x) m ≡ Some e → (x ≡ m) × (kind : Kind) × (kind_at g m ≡ Some kind)
unfolding child_end
at_place zero g x m e h = absurd cc
at_place (suc d) g x m e h = let o = own_end d g x m e h in (o.0, o.1.kind, o.1.there)

shares : (d : ℕ) (g : List Kind) (x m e : ℕ) → child_end d g (Back x) m ≡ Some e → m ≡ e
unfolding child_end
shares zero g x m e h = absurd cc
shares (suc d) g x m e h = (back_end d g x m e h).2

-- the last one so far ends here, or none has come
abbrev Tracks : ℕ → List Kind → ℕ → Option ℕ → ℕ → Type 0
Tracks d g first None m = m ≡ first
Tracks d g first (Some y) m = (child_end d g (Own y) y ≡ Some m) × (first ≤ y)

track : (d : ℕ) (g : List Kind) (first : ℕ) (cs : List Child) (o : Option ℕ) (m e : ℕ) → ends_after (child_end d g) cs m ≡ Some e → first ≤ m → Tracks d g first o m → Tracks d g first (last_own o cs) e
track d g first [] o m e h low t = let same : m ≡ e = cc in subst (Tracks d g first o) same t
track d g first (Own x ∷ cs) o m e h low t =
    let s = then_some (ends_after (child_end d g) cs) (child_end d g (Own x) m) e h in
    let at = at_place d g x m s.0 s.1 in
    let here : child_end d g (Own x) x ≡ Some s.0 = subst (λ (y : ℕ). child_end d g (Own x) y ≡ Some s.0) (sym at.0) s.1 in
    let rise = own_grows d g x m s.0 s.1 in
    track d g first cs (Some x) s.0 e s.2 (omega arith) (here, omega (arith, at.0))
track d g first (Back x ∷ cs) o m e h low t =
    let s = then_some (ends_after (child_end d g) cs) (child_end d g (Back x) m) e h in
    let same = shares d g x m s.0 s.1 in
    track d g first cs o s.0 e s.2 (omega arith) (subst (Tracks d g first o) same t)

tracked : (d : ℕ) (g : List Kind) (at e : ℕ) (kind : Kind) → child_end d g (Own at) at ≡ Some e → kind_at g at ≡ Some kind → (l : ℕ) × Tracks l g (at + 1) (last_own None (children_of kind)) e
unfolding child_end
tracked zero g at e kind h there = absurd cc
tracked (suc d) g at e kind h there =
    let o = own_end d g at at e h in
    let is : Some kind ≡ Some o.1.kind = sym there ∙ o.1.there in
    let same : kind ≡ o.1.kind = cc in
    (d, subst (λ (k : Kind). Tracks d g (at + 1) (last_own None (children_of k)) e) (sym same) (track d g (at + 1) (children_of o.1.kind) None (at + 1) e o.1.members (omega arith) refl))

pub leads_kind : (g : List Kind) (k at : ℕ) → Leads g k at → (kind : Kind) × (kind_at g at ≡ Some kind)
leads_kind g k at l = let p = at_place l.level g at at l.end l.ends in (p.1, p.2)

pub leads_on : (g : List Kind) (k at x : ℕ) (kind : Kind) → Leads g k at → kind_at g at ≡ Some kind → Some x ≡ last_own None (children_of kind) → Leads g k x × (at < x)
leads_on g k at x kind l there last =
    let t = tracked l.level g at l.end kind l.ends there in
    let s : Tracks t.0 g (at + 1) (Some x) l.end = subst (λ (o : Option ℕ). Tracks t.0 g (at + 1) o l.end) (sym last) t.1 in
    (record { level = t.0; end = l.end; ends = s.0; whole = l.whole; within = l.within }, omega (arith, s.1))

pub leads_end : (g : List Kind) (k at : ℕ) (kind : Kind) → Leads g k at → kind_at g at ≡ Some kind → None ≡ last_own None (children_of kind) → end_of g k ≡ Some (at + 1)
leads_end g k at kind l there last =
    let t = tracked l.level g at l.end kind l.ends there in
    let s : Tracks t.0 g (at + 1) None l.end = subst (λ (o : Option ℕ). Tracks t.0 g (at + 1) o l.end) (sym last) t.1 in
    l.whole ∙ ap Some s
