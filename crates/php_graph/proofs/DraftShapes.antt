-- Each item that is taken leads from a draft to a draft.
use Rattle.std.proofs.Common.{◌≡◌, ◌≢◌, ◌⊎◌, ℕ, suc, ◌+◌, ◌-◌, ◌<◌, ◌≤◌, Bool, true, false, cond, List, [], ◌∷◌, ◌++◌, length, set, Option, Some, None, refl, sym, ap, ◌∙◌, arith, length-append, inl, inr}
use Rattle.std.specs.Prelude.{IsTrue}
use Rattle.std.specs.List.{AllByRecursion}
use Rattle.std.proofs.lemmas.Bool.{cases_lt, false≢true}
use Rattle.php_graph.specs.declared.key.Key.{Key}
use Rattle.php_graph.specs.declared.child.Child.{Child}
use Rattle.php_graph.specs.declared.child.Child.TheVariants.{Own}
use Rattle.php_graph.specs.declared.kind.Kind.{Kind}
use Rattle.php_graph.specs.declared.kind.Kind.TheVariants as kinds
use Rattle.php_graph.specs.Graph.{kind_at, children_of, keys_of, passes, is_array, is_object, is_object_at, holds_key, is_array_key, is_well_formed, FitsKey, FitsKind, child_end, ends_after, levels}
use Rattle.php_graph.specs.Building.{with_member, is_container, is_name}
use Rattle.php_graph.specs.BuilderState.{IsSpine, IsShaped, children_at, is_open_at, IsNewValue}
use Rattle.php_graph.proofs.EndLemmas.{Agree, all_agree, ends_rise, ends_after-append}
use Rattle.php_graph.proofs.DraftLemmas.{kind_at-set_other, kind_at-set_same, kind_at-append_old, kind_at-append_new, place_is, with_member-is_object, with_member-is_container, with_member-well_formed, with_member-fits, no_same, All-push, All-set, All-place}

pub same_or : (a b : ℕ) → (a ≡ b) ⊎ (a ≢ b)
same_or a b = elim (cases_lt a b) [ inl lt ↦ inr (λ e. omega arith) | inr le ↦ elim (cases_lt b a) [ inl lt ↦ inr (λ e. omega arith) | inr le' ↦ inl (omega arith) ] ]

-- ---- spines

pub spine_agrees : (g h : List Kind) (cs : List ℕ) (p : ℕ) → IsSpine g cs p → ((k : ℕ) → k < p → kind_at h k ≡ kind_at g k) → IsSpine h cs p
spine_agrees g h [] p s same = s
spine_agrees g h (q ∷ outer) p s same =
    let rise : q + 1 ≤ p = ends_rise (levels - suc (length outer)) g s.0 (q + 1) p s.2 in
    let agree : Agree g h (q + 1) p = record { at = λ k low high. same k high } in (
      s.0,
      ap children_at (same q (omega arith)) ∙ s.1,
      all_agree (levels - suc (length outer)) g h s.0 (q + 1) p s.2 agree,
      spine_agrees g h outer q s.3 (λ k lt. same k (omega arith)),
    )

-- h is g with another container at place p, and maybe more behind
pub record Grown (g h : List Kind) (p : ℕ) (old new : Kind) : Type 0 where
  pub there : kind_at g p ≡ Some old
  pub changed : kind_at h p ≡ Some new
  pub others : (k : ℕ) → k ≢ p → k ≤ length g → kind_at h k ≡ kind_at g k

old_members : (g h : List Kind) (p d m : ℕ) (old new : Kind) → Grown g h p old new → m ≡ length g + 1 → ends_after (child_end d g) (children_at (kind_at g p)) (p + 1) ≡ Some m → ends_after (child_end d h) (children_of old) (p + 1) ≡ Some m
old_members g h p d m old new grown is_next ends =
    let known : ends_after (child_end d g) (children_of old) (p + 1) ≡ Some m = rw grown.there at ends in
    let agree : Agree g h (p + 1) m = record { at = λ k low high. grown.others k (λ e. omega arith) (omega arith) } in
    all_agree d g h (children_of old) (p + 1) m known agree

-- a member more, that is whole
pub shaped_member : (g h : List Kind) (p : ℕ) (outer : List ℕ) (old new : Kind) (c : Child) (m e : ℕ) → Grown g h p old new → m ≡ length g + 1 → children_of new ≡ children_of old ++ c ∷ []
    → IsShaped g (p ∷ outer) m → child_end (levels - suc (length outer)) h c m ≡ Some e → IsShaped h (p ∷ outer) e
shaped_member g h p outer old new c m e grown is_next kids shaped ends =
    let d = levels - suc (length outer) in
    let before = old_members g h p d m old new grown is_next shaped.0 in
    let last : ends_after (child_end d h) (c ∷ []) m ≡ Some e = rw ends refl in
    let all = ends_after-append (child_end d h) (children_of old) (c ∷ []) (p + 1) m e before last in
    let place = place_is g p old grown.there in
    (rw (grown.changed, kids) all, spine_agrees g h outer p shaped.1 (λ k lt. grown.others k (λ e. omega arith) (omega (arith, place.high))))

-- a member more, that is a container and open
pub shaped_container : (g h : List Kind) (p : ℕ) (outer : List ℕ) (old new kind : Kind) (m : ℕ) → Grown g h p old new → m ≡ length g + 1 → children_of new ≡ children_of old ++ Own m ∷ []
    → IsShaped g (p ∷ outer) m → kind_at h m ≡ Some kind → children_of kind ≡ [] → IsShaped h (m ∷ p ∷ outer) (m + 1)
shaped_container g h p outer old new kind m grown is_next kids shaped there childless =
    let d = levels - suc (length outer) in
    let before = old_members g h p d m old new grown is_next shaped.0 in
    let place = place_is g p old grown.there in (
      rw (there, childless) refl,
      (children_of old, ap children_at grown.changed ∙ kids, before, spine_agrees g h outer p shaped.1 (λ k lt. grown.others k (λ e. omega arith) (omega (arith, place.high)))),
    )

-- ---- what is said of each place

pub record IsSound (g : List Kind) (containers : List ℕ) : Type 0 where
  pub targets : (p x : ℕ) → kind_at g p ≡ Some (kinds.Same x) → (suc x ≤ p) × IsTrue (is_object_at g x)
  pub well_formed : AllByRecursion (λ kind. IsTrue (is_well_formed kind)) g
  pub fits : AllByRecursion FitsKind g
  pub opened : AllByRecursion (λ p. is_open_at g p ≡ true) containers

-- a container that may take this key
pub record Takes (g : List Kind) (p : ℕ) (old : Kind) (key : Key) : Type 0 where
  pub there : kind_at g p ≡ Some old
  pub holds : is_container old ≡ true
  pub named : is_object old ≡ true → is_name key ≡ true
  pub fits : FitsKey key
  pub new_key : holds_key (keys_of old) key ≡ false
  pub array_key : is_array old ≡ true → is_array_key key ≡ true

pub passes-set : (test : Kind → Bool) (g : List Kind) (p k : ℕ) (old new : Kind) → kind_at g p ≡ Some old → test new ≡ test old → passes test (kind_at (set g (p - 1) new) k) ≡ passes test (kind_at g k)
passes-set test g p k old new there same =
    let place = place_is g p old there in
    elim (same_or k p) [
      | inl e ↦ rw (e, kind_at-set_same g p old new there, there) same
      | inr ne ↦ ap (passes test) (kind_at-set_other g p k new place.low ne)
    ]

All-map : {A : Type 0} (P Q : A → Type 0) (xs : List A) → ((x : A) → P x → Q x) → AllByRecursion P xs → AllByRecursion Q xs
All-map P Q [] f all = tt
All-map P Q (x ∷ xs) f all = (f x all.0, All-map P Q xs f all.1)

pub sound_member : (g : List Kind) (containers : List ℕ) (p : ℕ) (old : Kind) (key : Key) (c : Child) → IsSound g containers → Takes g p old key → IsSound (set g (p - 1) (with_member old key c)) containers
sound_member g containers p old key c sound takes =
    let new = with_member old key c in
    let place = place_is g p old takes.there in
    record {
      targets = λ q x e. elim (same_or q p) [
        | inl at_p ↦
            let is_new : Some new ≡ Some (kinds.Same x) = sym (kind_at-set_same g p old new takes.there) ∙ ap (kind_at (set g (p - 1) new)) (sym at_p) ∙ e in
            let is : new ≡ kinds.Same x = cc in
            absurd (no_same new x (with_member-is_container old key c ∙ takes.holds) is)
        | inr ne ↦
            let before = sound.targets q x (sym (kind_at-set_other g p q new place.low ne) ∙ e) in
            (before.0, passes-set is_object g p x old new takes.there (with_member-is_object old key c) ∙ before.1)
      ];
      well_formed = All-set (λ kind. IsTrue (is_well_formed kind)) g (p - 1) new sound.well_formed (with_member-well_formed old key c (All-place (λ kind. IsTrue (is_well_formed kind)) g p old sound.well_formed takes.there) takes.new_key takes.array_key);
      fits = All-set FitsKind g (p - 1) new sound.fits (with_member-fits old key c (All-place FitsKind g p old sound.fits takes.there) takes.fits);
      opened = All-map (λ q. is_open_at g q ≡ true) (λ q. is_open_at (set g (p - 1) new) q ≡ true) containers (λ q is_open. passes-set is_container g p q old new takes.there (with_member-is_container old key c) ∙ is_open) sound.opened;
    }

-- what passes at a place that is there still passes once more places come
pub passes_some : (test : Kind → Bool) (g : List Kind) (k : ℕ) (o : Option Kind) → kind_at g k ≡ o → passes test o ≡ true → k ≤ length g
passes_some test g k None is e = absurd (false≢true e)
passes_some test g k (Some kind) is e = (place_is g k kind is).high

passes-push : (test : Kind → Bool) (g : List Kind) (k : ℕ) (kind : Kind) → passes test (kind_at g k) ≡ true → passes test (kind_at (g ++ kind ∷ []) k) ≡ true
passes-push test g k kind e = ap (passes test) (kind_at-append_old g (kind ∷ []) k (passes_some test g k (kind_at g k) refl e)) ∙ e

opened_push : (g : List Kind) (containers : List ℕ) (kind : Kind) (b : Bool) → is_container kind ≡ b → AllByRecursion (λ p. is_open_at g p ≡ true) containers
    → AllByRecursion (λ p. is_open_at (g ++ kind ∷ []) p ≡ true) (cond b ((length g + 1) ∷ containers) containers)
opened_push g containers kind true is all = (ap (passes is_container) (kind_at-append_new g kind) ∙ is, All-map (λ q. is_open_at g q ≡ true) (λ q. is_open_at (g ++ kind ∷ []) q ≡ true) containers (λ q e. passes-push is_container g q kind e) all)
opened_push g containers kind false is all = All-map (λ q. is_open_at g q ≡ true) (λ q. is_open_at (g ++ kind ∷ []) q ≡ true) containers (λ q e. passes-push is_container g q kind e) all

pub sound_push : (g : List Kind) (containers : List ℕ) (kind : Kind) → IsSound g containers → IsNewValue g kind → IsSound (g ++ kind ∷ []) (cond (is_container kind) ((length g + 1) ∷ containers) containers)
sound_push g containers kind sound new = record {
  targets = λ q x e. elim (cases_lt q (length g + 1)) [
    | inl lt ↦
        let before = sound.targets q x (sym (kind_at-append_old g (kind ∷ []) q (omega arith)) ∙ e) in
        (before.0, passes-push is_object g x kind before.1)
    | inr le ↦
        let high : q ≤ length g + 1 = omega (arith, (place_is (g ++ kind ∷ []) q (kinds.Same x) e).high, length-append g (kind ∷ [])) in
        let at_end : q ≡ length g + 1 = omega arith in
        let is_new : Some kind ≡ Some (kinds.Same x) = sym (kind_at-append_new g kind) ∙ ap (kind_at (g ++ kind ∷ [])) (sym at_end) ∙ e in
        let is : kind ≡ kinds.Same x = cc in
        let there = passes_some is_object g x (kind_at g x) refl (new.target x is) in
        (omega arith, passes-push is_object g x kind (new.target x is))
  ];
  well_formed = All-push (λ k. IsTrue (is_well_formed k)) g kind sound.well_formed new.well_formed;
  fits = All-push FitsKind g kind sound.fits new.fits;
  opened = opened_push g containers kind (is_container kind) refl sound.opened;
}
