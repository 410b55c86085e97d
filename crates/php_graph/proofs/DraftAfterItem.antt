-- The draft after each item.
use Rattle.std.proofs.Common.{◌≡◌, ℕ, suc, ◌+◌, ◌-◌, ◌≤◌, Bool, true, false, cond, List, [], ◌∷◌, ◌++◌, length, get_or, set, Option, Some, None, refl, sym, ap, subst, ◌∙◌, arith, length-append, zero-add, inl, inr}
use Rattle.std.specs.Prelude.{◌&&◌, not, count_by}
use Rattle.std.proofs.lemmas.Bool.{false≢true}
use Rattle.std.proofs.lemmas.List.{length-set}
use Rattle.std.proofs.lemmas.List.Sums.{sum_by-set, sum_by-append, sum_by-cons}
use Rattle.php_graph.specs.declared.key.Key.{Key}
use Rattle.php_graph.specs.declared.child.Child.{Child}
use Rattle.php_graph.specs.declared.child.Child.TheVariants.{Own, Back}
use Rattle.php_graph.specs.declared.kind.Kind.{Kind}
use Rattle.php_graph.specs.declared.item.Wants.TheVariants.{Value, ArrayKey, Name, Done}
use Rattle.php_graph.specs.declared.item.BuildFault.{BuildFault}
use Rattle.php_graph.specs.declared.item.BuildFault.TheVariants.{RepeatedKey, IntegerText}
use Rattle.php_graph.specs.Graph.{kind_at, children_of, keys_of, passes, is_array, is_object, is_object_at, is_array_at, holds_key, is_array_key, FitsKey, is_back, child_end, ends_after, end_of, levels, most_values, values_in, IsGraph}
use Rattle.php_graph.specs.Building.{with_member, is_container, is_name, key_fault, fault_in, attached, wants_by}
use Rattle.php_graph.specs.BuilderState.{IsShaped, IsDraft, IsWaiting, is_open_at, IsNewValue}
use Rattle.php_graph.specs.MemberCounts.{children_in}
use Rattle.php_graph.proofs.EndLemmas.{own_makes, back_makes, ends_after-append}
use Rattle.php_graph.proofs.DraftLemmas.{kind_at-set_other, kind_at-set_same, kind_at-append_old, kind_at-append_new, place_is, get_or-place, with_member-children, with_member-is_object}
use Rattle.php_graph.proofs.DraftShapes.{Grown, shaped_member, shaped_container, IsSound, Takes, sound_member, sound_push, passes-set}

-- ---- counts

abbrev pub backs : Kind → ℕ
backs kind = count_by is_back (children_of kind)

pub values_push : (g : List Kind) (kind : Kind) → children_of kind ≡ [] → values_in (g ++ kind ∷ []) ≡ values_in g + 1
values_push g kind childless =
    let none : backs kind ≡ 0 = ap (count_by is_back) childless in
    omega (arith, length-append g (kind ∷ []), sum_by-append backs g (kind ∷ []), sum_by-cons backs kind [], none)

pub children_push : (g : List Kind) (kind : Kind) → children_of kind ≡ [] → children_in (g ++ kind ∷ []) ≡ children_in g
children_push g kind childless =
    let none : length (children_of kind) ≡ 0 = ap length childless in
    omega (arith, sum_by-append (λ k. length (children_of k)) g (kind ∷ []), sum_by-cons (λ k. length (children_of k)) kind [], none)

pub values_set : (g : List Kind) (p : ℕ) (old new : Kind) (c : Child) → kind_at g p ≡ Some old → children_of new ≡ children_of old ++ c ∷ [] → values_in (set g (p - 1) new) ≡ values_in g + cond (is_back c) 1 0
values_set g p old new c there kids =
    let place = place_is g p old there in
    let at : get_or g (p - 1) old ≡ old = get_or-place g p old old there in
    let more : backs new ≡ backs old + cond (is_back c) 1 0 = ap (count_by is_back) kids ∙ sum_by-append (λ x. cond (is_back x) 1 0) (children_of old) (c ∷ []) ∙ ap (λ (k : ℕ). backs old + k) (zero-add (cond (is_back c) 1 0)) in
    let sums = sum_by-set backs g (p - 1) new old (omega (arith, place.low, place.high)) in
    omega (arith, length-set g (p - 1) new, ap backs at, more, sums)

pub children_set : (g : List Kind) (p : ℕ) (old new : Kind) (c : Child) → kind_at g p ≡ Some old → children_of new ≡ children_of old ++ c ∷ [] → children_in (set g (p - 1) new) ≡ children_in g + 1
children_set g p old new c there kids =
    let place = place_is g p old there in
    let at : get_or g (p - 1) old ≡ old = get_or-place g p old old there in
    let more : length (children_of new) ≡ length (children_of old) + 1 = ap length kids ∙ length-append (children_of old) (c ∷ []) in
    let sums = sum_by-set (λ k. length (children_of k)) g (p - 1) new old (omega (arith, place.low, place.high)) in
    omega (arith, ap (λ k. length (children_of k)) at, more, sums)

-- ---- keys that wait

pub no_fault : (b : Bool) (f : BuildFault) (rest : Option BuildFault) → cond b (Some f) rest ≡ None → (b ≡ false) × (rest ≡ None)
no_fault true f rest e = absurd cc
no_fault false f rest e = (refl, e)

and_false : (a b : Bool) → (a && not b) ≡ false → a ≡ true → b ≡ true
and_false a true e h = refl
and_false true false e h = absurd cc
and_false false false e h = absurd cc

pub open_kind : (g : List Kind) (p : ℕ) (o : Option Kind) → kind_at g p ≡ o → is_open_at g p ≡ true → (old : Kind) × (kind_at g p ≡ Some old) × (is_container old ≡ true)
open_kind g p None is e = absurd (false≢true (sym (ap (passes is_container) is) ∙ e))
open_kind g p (Some old) is e = (old, is, sym (ap (passes is_container) is) ∙ e)

pub takes_key : (g : List Kind) (p : ℕ) (outer : List ℕ) (key : Key) (old : Kind) → kind_at g p ≡ Some old → is_container old ≡ true → IsWaiting g (p ∷ outer) (Some key) → Takes g p old key
takes_key g p outer key old there holds waiting =
    let sound : fault_in old key ≡ None = rw there at waiting.1 in
    let first = no_fault (is_array old && not (is_array_key key)) IntegerText (cond (holds_key (keys_of old) key) (Some RepeatedKey) None) sound in
    let second = no_fault (holds_key (keys_of old) key) RepeatedKey None first.1 in
    record {
      there = there;
      holds = holds;
      named = λ e. waiting.2 (ap (passes is_object) there ∙ e);
      fits = waiting.0;
      new_key = second.0;
      array_key = λ e. and_false (is_array old) (is_array_key key) first.0 e;
    }

pub sound_of : (g : List Kind) (cs : List ℕ) (key : Option Key) → IsDraft g cs key → IsSound g cs
sound_of g cs key d = record { targets = d.targets; well_formed = d.well_formed; fits = d.fits; opened = d.opened }

-- ---- values

pub level_below : (n : ℕ) → suc (suc n) ≤ levels → levels - suc n ≡ suc (levels - suc (suc n))
level_below n le = omega arith

pub leaf_ends : (d : ℕ) (h : List Kind) (m : ℕ) (kind : Kind) → kind_at h m ≡ Some kind → children_of kind ≡ [] → child_end (suc d) h (Own m) m ≡ Some (m + 1)
leaf_ends d h m kind there childless = own_makes d h m (m + 1) (record { kind = kind; there = there; members = ap (λ (cs : List Child). ends_after (child_end d h) cs (m + 1)) childless })

-- how a value stands in the graph that it makes
shaped_value : (g h : List Kind) (p : ℕ) (outer : List ℕ) (old new kind : Kind) (m : ℕ) (b : Bool) → b ≡ is_container kind → Grown g h p old new → m ≡ length g + 1 → suc (suc (length outer)) ≤ levels → children_of new ≡ children_of old ++ Own m ∷ []
    → IsShaped g (p ∷ outer) m → kind_at h m ≡ Some kind → children_of kind ≡ [] → IsShaped h (cond b (m ∷ p ∷ outer) (p ∷ outer)) (m + 1)
shaped_value g h p outer old new kind m true is grown is_next deep kids shaped there childless = shaped_container g h p outer old new kind m grown is_next kids shaped there childless
shaped_value g h p outer old new kind m false is grown is_next deep kids shaped there childless =
    let ends : child_end (levels - suc (length outer)) h (Own m) m ≡ Some (m + 1) = subst (λ (d : ℕ). child_end d h (Own m) m ≡ Some (m + 1)) (sym (level_below (length outer) deep)) (leaf_ends (levels - suc (suc (length outer))) h m kind there childless) in
    shaped_member g h p outer old new (Own m) m (m + 1) grown is_next kids shaped ends

deeper : (b : Bool) (m : ℕ) (cs : List ℕ) → suc (length cs) ≤ levels → length (cond b (m ∷ cs) cs) ≤ levels
deeper true m cs le = le
deeper false m cs le = omega arith

-- a value in the innermost open container
value_inside : (g : List Kind) (p : ℕ) (outer : List ℕ) (key : Key) (old kind : Kind) → IsDraft g (p ∷ outer) (Some key) → Takes g p old key → suc (length (p ∷ outer)) ≤ levels → suc (values_in g) ≤ most_values → IsNewValue g kind
    → IsDraft (set g (p - 1) (with_member old key (Own (length g + 1))) ++ kind ∷ []) (cond (is_container kind) ((length g + 1) ∷ p ∷ outer) (p ∷ outer)) None
value_inside g p outer key old kind d takes deep few new =
    let n = length g + 1 in
    let more = with_member old key (Own n) in
    let g1 = set g (p - 1) more in
    let h = g1 ++ kind ∷ [] in
    let place = place_is g p old takes.there in
    let len : length g1 ≡ length g = length-set g (p - 1) more in
    let kids = with_member-children old key (Own n) takes.holds takes.named in
    let grown : Grown g h p old more = record {
      there = takes.there;
      changed = kind_at-append_old g1 (kind ∷ []) p (omega (arith, place.high)) ∙ kind_at-set_same g p old more takes.there;
      others = λ k ne le. kind_at-append_old g1 (kind ∷ []) k (omega arith) ∙ kind_at-set_other g p k more place.low ne;
    } in
    let there : kind_at h n ≡ Some kind = subst (λ (l : ℕ). kind_at h (l + 1) ≡ Some kind) len (kind_at-append_new g1 kind) in
    let new1 : IsNewValue g1 kind = record {
      childless = new.childless;
      well_formed = new.well_formed;
      fits = new.fits;
      target = λ x e. passes-set is_object g p x old more takes.there (with_member-is_object old key (Own n)) ∙ new.target x e;
    } in
    let sound = sound_push g1 (p ∷ outer) kind (sound_member g (p ∷ outer) p old key (Own n) (sound_of g (p ∷ outer) (Some key) d) takes) new1 in
    let sound1 : IsSound h (cond (is_container kind) (n ∷ p ∷ outer) (p ∷ outer)) = subst (λ (l : ℕ). IsSound h (cond (is_container kind) ((l + 1) ∷ p ∷ outer) (p ∷ outer))) len sound in
    let end : n + 1 ≡ length h + 1 = omega (arith, length-append g1 (kind ∷ [])) in
    record {
      shaped = subst (IsShaped h (cond (is_container kind) (n ∷ p ∷ outer) (p ∷ outer))) end (shaped_value g h p outer old more kind n (is_container kind) refl grown refl deep kids d.shaped there new.childless);
      opened = sound1.opened;
      deep = deeper (is_container kind) n (p ∷ outer) deep;
      waiting = tt;
      targets = sound1.targets;
      well_formed = sound1.well_formed;
      fits = sound1.fits;
      count = omega (arith, values_push g1 kind new.childless, values_set g p old more (Own n) takes.there kids);
      members = omega (arith, d.members, values_push g1 kind new.childless, values_set g p old more (Own n) takes.there kids, children_push g1 kind new.childless, children_set g p old more (Own n) takes.there kids);
    }

-- the value at the top
shaped_top : (kind : Kind) (b : Bool) → children_of kind ≡ [] → IsShaped (kind ∷ []) (cond b (1 ∷ []) []) 2
unfolding end_of
shaped_top kind true childless = (ap (λ (cs : List Child). ends_after (child_end (levels - suc 0) (kind ∷ [])) cs 2) childless, refl)
shaped_top kind false childless = inr (leaf_ends 511 (kind ∷ []) 1 kind refl childless)

value_on_top : (kind : Kind) → IsDraft [] [] None → IsNewValue [] kind → IsDraft (kind ∷ []) (cond (is_container kind) (1 ∷ []) []) None
value_on_top kind d new =
    let sound = sound_push [] [] kind (sound_of [] [] None d) new in
    record {
      shaped = shaped_top kind (is_container kind) new.childless;
      opened = sound.opened;
      deep = deeper (is_container kind) 1 [] (omega arith);
      waiting = tt;
      targets = sound.targets;
      well_formed = sound.well_formed;
      fits = sound.fits;
      count = omega (arith, values_push [] kind new.childless);
      members = omega (arith, children_push [] kind new.childless);
    }

pub attached_is : (g : List Kind) (p : ℕ) (outer : List ℕ) (key : Key) (c : Child) (old : Kind) → kind_at g p ≡ Some old → attached g (p ∷ outer) (Some key) c ≡ set g (p - 1) (with_member old key c)
attached_is g p outer key c old there = rw there refl

pub nothing_on_top : (g : List Kind) → wants_by g [] None ≡ Value → g ≡ []
nothing_on_top [] e = refl
nothing_on_top (kind ∷ ks) e = absurd cc

value_top : (g : List Kind) (kind : Kind) → IsDraft g [] None → wants_by g [] None ≡ Value → IsNewValue g kind → IsDraft (g ++ kind ∷ []) (cond (is_container kind) ((length g + 1) ∷ []) []) None
value_top [] kind d wants new = value_on_top kind d new
value_top (k ∷ ks) kind d wants new = absurd cc

pub no_value : (b : Bool) → ¬ cond b ArrayKey Name ≡ Value
no_value true e = absurd cc
no_value false e = absurd cc

-- a value with a place of its own
pub value_drafted : (g : List Kind) (cs : List ℕ) (key : Option Key) (kind : Kind) → IsDraft g cs key → wants_by g cs key ≡ Value → suc (length cs) ≤ levels → suc (values_in g) ≤ most_values → IsNewValue g kind
    → IsDraft (attached g cs key (Own (length g + 1)) ++ kind ∷ []) (cond (is_container kind) ((length g + 1) ∷ cs) cs) None
value_drafted g [] None kind d wants deep few new = value_top g kind d wants new
value_drafted g [] (Some key) kind d wants deep few new = absurd d.waiting
value_drafted g (p ∷ outer) None kind d wants deep few new = absurd (no_value (is_array_at g p) wants)
value_drafted g (p ∷ outer) (Some key) kind d wants deep few new =
    let o = open_kind g p (kind_at g p) refl d.opened.0 in
    let takes = takes_key g p outer key o.0 o.1 o.2 d.waiting in
    subst (λ (g1 : List Kind). IsDraft (g1 ++ kind ∷ []) (cond (is_container kind) ((length g + 1) ∷ p ∷ outer) (p ∷ outer)) None) (sym (attached_is g p outer key (Own (length g + 1)) o.0 o.1))
    (value_inside g p outer key o.0 kind d takes deep few new)

-- a member that shares a place
back_inside : (g : List Kind) (p : ℕ) (outer : List ℕ) (key : Key) (old : Kind) (x : ℕ) → IsDraft g (p ∷ outer) (Some key) → Takes g p old key → suc (length (p ∷ outer)) ≤ levels → suc (values_in g) ≤ most_values → 1 ≤ x → x ≤ length g
    → IsDraft (set g (p - 1) (with_member old key (Back x))) (p ∷ outer) None
back_inside g p outer key old x d takes deep few low high =
    let n = length g + 1 in
    let more = with_member old key (Back x) in
    let h = set g (p - 1) more in
    let place = place_is g p old takes.there in
    let len : length h ≡ length g = length-set g (p - 1) more in
    let kids = with_member-children old key (Back x) takes.holds takes.named in
    let grown : Grown g h p old more = record {
      there = takes.there;
      changed = kind_at-set_same g p old more takes.there;
      others = λ k ne le. kind_at-set_other g p k more place.low ne;
    } in
    let sound = sound_member g (p ∷ outer) p old key (Back x) (sound_of g (p ∷ outer) (Some key) d) takes in
    let ends : child_end (levels - suc (length outer)) h (Back x) n ≡ Some n = subst (λ (l : ℕ). child_end l h (Back x) n ≡ Some n) (sym (level_below (length outer) deep)) (back_makes (levels - suc (suc (length outer))) h x n low (omega arith)) in
    let end : n ≡ length h + 1 = omega arith in
    record {
      shaped = subst (IsShaped h (p ∷ outer)) end (shaped_member g h p outer old more (Back x) n n grown refl kids d.shaped ends);
      opened = sound.opened;
      deep = d.deep;
      waiting = tt;
      targets = sound.targets;
      well_formed = sound.well_formed;
      fits = sound.fits;
      count = omega (arith, values_set g p old more (Back x) takes.there kids);
      members = omega (arith, d.members, values_set g p old more (Back x) takes.there kids, children_set g p old more (Back x) takes.there kids);
    }

pub back_drafted : (g : List Kind) (cs : List ℕ) (key : Option Key) (x : ℕ) → IsDraft g cs key → wants_by g cs key ≡ Value → suc (length cs) ≤ levels → suc (values_in g) ≤ most_values → 1 ≤ x → x ≤ length g
    → IsDraft (attached g cs key (Back x)) cs None
back_drafted g [] None x d wants deep few low high = absurd (omega (arith, ap length (nothing_on_top g wants)))
back_drafted g [] (Some key) x d wants deep few low high = absurd d.waiting
back_drafted g (p ∷ outer) None x d wants deep few low high = absurd (no_value (is_array_at g p) wants)
back_drafted g (p ∷ outer) (Some key) x d wants deep few low high =
    let o = open_kind g p (kind_at g p) refl d.opened.0 in
    let takes = takes_key g p outer key o.0 o.1 o.2 d.waiting in
    subst (λ (g1 : List Kind). IsDraft g1 (p ∷ outer) None) (sym (attached_is g p outer key (Back x) o.0 o.1))
    (back_inside g p outer key o.0 x d takes deep few low high)

-- a key, which waits from then on
pub key_drafted : (g : List Kind) (p : ℕ) (outer : List ℕ) (key : Key) → IsDraft g (p ∷ outer) None → FitsKey key → key_fault g p key ≡ None → (is_object_at g p ≡ true → is_name key ≡ true) → IsDraft g (p ∷ outer) (Some key)
key_drafted g p outer key d fits sound named = record {
  shaped = d.shaped;
  opened = d.opened;
  deep = d.deep;
  waiting = (fits, sound, named);
  targets = d.targets;
  well_formed = d.well_formed;
  fits = d.fits;
  count = d.count;
  members = d.members;
}

-- ---- the end of a container

shaped_closed : (g : List Kind) (p : ℕ) (outer : List ℕ) (m : ℕ) (old : Kind) → kind_at g p ≡ Some old → suc (length outer) ≤ levels → IsShaped g (p ∷ outer) m → IsShaped g outer m
unfolding end_of
shaped_closed g p [] m old there deep shaped =
    let members : ends_after (child_end 511 g) (children_of old) (p + 1) ≡ Some m = rw there at shaped.0 in
    let ends = own_makes 511 g p m (record { kind = old; there = there; members = members }) in
    inr (subst (λ (k : ℕ). child_end 512 g (Own k) k ≡ Some m) shaped.1 ends)
shaped_closed g p (q ∷ outer) m old there deep shaped =
    let d = levels - suc (suc (length outer)) in
    let up = levels - suc (length outer) in
    let members : ends_after (child_end d g) (children_of old) (p + 1) ≡ Some m = rw there at shaped.0 in
    let one = own_makes d g p m (record { kind = old; there = there; members = members }) in
    let ends : child_end up g (Own p) p ≡ Some m = subst (λ (l : ℕ). child_end l g (Own p) p ≡ Some m) (sym (level_below (length outer) deep)) one in
    let spine = shaped.1 in
    let last : ends_after (child_end up g) (Own p ∷ []) p ≡ Some m = rw ends refl in
    let all = ends_after-append (child_end up g) spine.0 (Own p ∷ []) (q + 1) p m spine.2 last in
    (subst (λ (cs : List Child). ends_after (child_end up g) cs (q + 1) ≡ Some m) (sym spine.1) all, spine.3)

pub close_drafted : (g : List Kind) (p : ℕ) (outer : List ℕ) → IsDraft g (p ∷ outer) None → IsDraft g outer None
close_drafted g p outer d =
    let o = open_kind g p (kind_at g p) refl d.opened.0 in
    record {
      shaped = shaped_closed g p outer (length g + 1) o.0 o.1 d.deep d.shaped;
      opened = d.opened.1;
      deep = omega (arith, d.deep);
      waiting = tt;
      targets = d.targets;
      well_formed = d.well_formed;
      fits = d.fits;
      count = d.count;
      members = d.members;
    }

-- ---- the whole graph

whole : (g : List Kind) → wants_by g [] None ≡ Done → IsShaped g [] (length g + 1) → end_of g 1 ≡ Some (length g + 1)
whole [] wants shaped = absurd cc
whole (k ∷ ks) wants (inl e) = absurd (omega arith)
whole (k ∷ ks) wants (inr e) = e

pub done_graph : (g : List Kind) (key : Option Key) → IsDraft g [] key → wants_by g [] key ≡ Done → IsGraph g × (key ≡ None)
done_graph g None d wants = (record { sealed = whole g wants d.shaped; targets = d.targets; well_formed = d.well_formed; fits = d.fits; count = d.count }, refl)
done_graph g (Some key) d wants = absurd d.waiting

inside_wants : (b : Bool) → ¬ cond b ArrayKey Name ≡ Done
inside_wants true e = absurd cc
inside_wants false e = absurd cc

pub done_on_top : (g : List Kind) (cs : List ℕ) (key : Option Key) → wants_by g cs key ≡ Done → cs ≡ []
done_on_top g [] key e = refl
done_on_top g (p ∷ outer) None e = absurd (inside_wants (is_array_at g p) e)
done_on_top g (p ∷ outer) (Some key) e = absurd cc
