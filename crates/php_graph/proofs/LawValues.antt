-- A value at the next place of a graph that is being written again.
use Rattle.std.proofs.Common.{◌≡◌, ℕ, suc, ◌+◌, ◌<◌, ◌≤◌, Bool, true, false, cond, List, [], ◌∷◌, ◌++◌, length, Option, Some, None, refl, sym, ap, subst, ◌∙◌, arith, length-append, inl, inr}
use Rattle.std.specs.Prelude.{◌&&◌, nat_le, count_by}
use Rattle.std.proofs.lemmas.Bool.{cases_lt}
use Rattle.std.proofs.lemmas.Bool.Decides.{nat_tests}
use Rattle.std.proofs.lemmas.List.Sums.{sum_by-append, sum_by-cons}
use Rattle.php_graph.specs.declared.key.Key.{Key}
use Rattle.php_graph.specs.declared.child.Child.{Child}
use Rattle.php_graph.specs.declared.child.Child.TheVariants.{Own, Back}
use Rattle.php_graph.specs.declared.kind.Kind.{Kind}
use Rattle.php_graph.specs.declared.item.Item.{Item}
use Rattle.php_graph.specs.declared.item.Item.TheVariants as items
use Rattle.php_graph.specs.declared.item.Wants.TheVariants.{Value}
use Rattle.php_graph.specs.Graph.{kind_at, passes, is_object, is_object_at, levels, most_values, values_in}
use Rattle.php_graph.specs.Building.{Draft, wants_of, wants_by, is_value, item_fits, room_fault, fault_of, pushed, drafted, with_value, with_member, attached, is_container}
use Rattle.php_graph.specs.BuilderState.{IsDraft, IsNewValue}
use Rattle.php_graph.proofs.DraftLemmas.{kind_at-append_old, kind_at-append_new, with_member-is_object}
use Rattle.php_graph.proofs.DraftShapes.{passes-set}
use Rattle.php_graph.proofs.DraftAfterItem.{open_kind, attached_is, value_drafted, back_drafted, values_push}
use Rattle.php_graph.proofs.BuilderAfterItem.{length-attached, values_after, no_back}

abbrev pub draft : List Kind → List ℕ → Option Key → Draft
draft places cs key = record { places = places; containers = cs; key = key }

-- ---- counts of items

abbrev pub values : List Item → ℕ
values is = count_by is_value is

pub values-cons : (item : Item) (is : List Item) → values (item ∷ is) ≡ cond (is_value item) 1 0 + values is
values-cons item is = sum_by-cons (λ x. cond (is_value x) 1 0) item is

pub value_first : (item : Item) (is : List Item) → is_value item ≡ true → values (item ∷ is) ≡ 1 + values is
value_first item is value = values-cons item is ∙ ap (λ (b : Bool). cond b 1 0 + values is) value

pub values-append : (is js : List Item) → values (is ++ js) ≡ values is + values js
values-append is js = sum_by-append (λ x. cond (is_value x) 1 0) is js

-- ---- one item

pub step_on : (d : Draft) (item : Item) (rest : List Item) → item_fits (wants_of d) item ≡ true → fault_of d item ≡ None → drafted d (item ∷ rest) ≡ drafted (pushed d item) rest
step_on d item rest fits fault = rw (fits, fault) refl

-- a value may come here
pub record Waits (places : List Kind) (cs : List ℕ) (key : Option Key) : Type 0 where
  pub wants : wants_by places cs key ≡ Value
  pub deep : suc (length cs) ≤ levels
  pub few : suc (values_in places) ≤ most_values

pub room_none : (places : List Kind) (cs : List ℕ) (key : Option Key) → Waits places cs key → room_fault (draft places cs key) ≡ None
room_none places cs key w =
    let deep : nat_le levels (length cs) ≡ false = grind (arith, nat_tests, w.deep) in
    let few : nat_le most_values (values_in places) ≡ false = grind (arith, nat_tests, w.few) in
    rw (deep, few) refl

-- a draft whose objects are those of the graph
pub record Ready (g places : List Kind) (cs : List ℕ) (key : Option Key) : Type 0 where
  pub alike : (k : ℕ) → k ≤ length places → is_object_at places k ≡ is_object_at g k
  pub draft : IsDraft places cs key

attached_alike : (g : List Kind) (cs : List ℕ) (key : Option Key) (c : Child) (k : ℕ) → IsDraft g cs key → is_object_at (attached g cs key c) k ≡ is_object_at g k
attached_alike g [] None c k d = refl
attached_alike g [] (Some key) c k d = refl
attached_alike g (p ∷ outer) None c k d = refl
attached_alike g (p ∷ outer) (Some key) c k d =
    let o = open_kind g p (kind_at g p) refl d.opened.0 in
    ap (λ (h : List Kind). is_object_at h k) (attached_is g p outer key c o.0 o.1) ∙ passes-set is_object g p k o.0 (with_member o.0 key c) o.1 (with_member-is_object o.0 key c)

-- ---- a value at the next place

abbrev pub next : List Kind → ℕ
next places = length places + 1

abbrev pub placed : List Kind → List ℕ → Option Key → Kind → List Kind
placed places cs key kind = attached places cs key (Own (next places)) ++ kind ∷ []

pub record Placed (g places : List Kind) (cs : List ℕ) (key : Option Key) (kind : Kind) : Type 0 where
  pub size : length (placed places cs key kind) ≡ next places
  pub alike : (k : ℕ) → k ≤ length (placed places cs key kind) → is_object_at (placed places cs key kind) k ≡ is_object_at g k
  pub draft : IsDraft (placed places cs key kind) (cond (is_container kind) (next places ∷ cs) cs) None
  pub old : (k : ℕ) → k ≤ length places → kind_at (placed places cs key kind) k ≡ kind_at (attached places cs key (Own (next places))) k
  pub there : kind_at (placed places cs key kind) (next places) ≡ Some kind
  pub more : values_in (placed places cs key kind) ≡ values_in places + 1

pub place_value : (g places : List Kind) (cs : List ℕ) (key : Option Key) (kind own : Kind) → Ready g places cs key → Waits places cs key → IsNewValue places kind → kind_at g (next places) ≡ Some own → is_object kind ≡ is_object own → Placed g places cs key kind
place_value g places cs key kind own r w new there same =
    let n = length places + 1 in
    let base = attached places cs key (Own n) in
    let h = base ++ kind ∷ [] in
    let len : length base ≡ length places = length-attached places cs key (Own n) in
    let at : kind_at h n ≡ Some kind = subst (λ (l : ℕ). kind_at h (l + 1) ≡ Some kind) len (kind_at-append_new base kind) in
    let size : length h ≡ n = omega (arith, len, length-append base (kind ∷ [])) in
    record {
      size = size;
      alike = λ k le. elim (cases_lt k n) [
        | inl lt ↦ ap (passes is_object) (kind_at-append_old base (kind ∷ []) k (omega arith)) ∙ attached_alike places cs key (Own n) k r.draft ∙ r.alike k (omega arith)
        | inr ge ↦
            let e : k ≡ n = omega arith in
            ap (is_object_at h) e ∙ ap (passes is_object) at ∙ same ∙ sym (ap (passes is_object) there) ∙ sym (ap (is_object_at g) e)
      ];
      draft = value_drafted places cs key kind r.draft w.wants w.deep w.few new;
      old = λ k le. kind_at-append_old base (kind ∷ []) k (omega arith);
      there = at;
      more = omega (arith, values_push base kind new.childless, values_after places cs key (Own n) r.draft w.wants (λ e. refl));
    }

-- ---- a member

-- These items write the member: the draft that they lead to has the graph's own places up to its end.
pub record ChildDone (g places : List Kind) (cs : List ℕ) (key : Option Key) (c : Child) (e : ℕ) (is : List Item) : Type 0 where
  pub after : List Kind
  pub size : length after + 1 ≡ e
  pub grew : length places ≤ length after
  pub ready : Ready g after cs None
  pub old : (k : ℕ) → k ≤ length places → kind_at after k ≡ kind_at (attached places cs key c) k
  pub new : (k : ℕ) → length places < k → k < e → kind_at after k ≡ kind_at g k
  pub more : values_in after ≡ values_in places + values is
  pub does : (rest : List Item) → drafted (draft places cs key) (is ++ rest) ≡ drafted (draft after cs None) rest

-- the item that is pushed for a kind of value
pub record Pushes (places : List Kind) (cs : List ℕ) (key : Option Key) (kind : Kind) (item : Item) : Type 0 where
  pub value : is_value item ≡ true
  pub pushes : pushed (draft places cs key) item ≡ with_value (draft places cs key) kind
  pub sound : fault_of (draft places cs key) item ≡ None
  pub new : IsNewValue places kind

pub value_fits : (places : List Kind) (cs : List ℕ) (key : Option Key) (item : Item) → wants_by places cs key ≡ Value → is_value item ≡ true → item_fits (wants_by places cs key) item ≡ true
value_fits places cs key item wants value = rw wants value

-- the draft after the item of a value
pub value_step : (places : List Kind) (cs : List ℕ) (key : Option Key) (kind : Kind) (item : Item) (b : Bool) (rest : List Item) → wants_by places cs key ≡ Value → Pushes places cs key kind item → is_container kind ≡ b
    → drafted (draft places cs key) (item ∷ rest) ≡ drafted (draft (placed places cs key kind) (cond b (next places ∷ cs) cs) None) rest
value_step places cs key kind item b rest wants p is =
    step_on (draft places cs key) item rest (value_fits places cs key item wants p.value) p.sound ∙ ap (λ (d : Draft). drafted d rest) p.pushes ∙ ap (λ (x : Bool). drafted (draft (placed places cs key kind) (cond x (next places ∷ cs) cs) None) rest) is

-- a value that is no container
pub leaf_done : (g places : List Kind) (cs : List ℕ) (key : Option Key) (kind : Kind) (item : Item) → Ready g places cs key → Waits places cs key → kind_at g (next places) ≡ Some kind → is_container kind ≡ false → Pushes places cs key kind item → ChildDone g places cs key (Own (next places)) (next places + 1) (item ∷ [])
leaf_done g places cs key kind item r w there leaf p =
    let s = place_value g places cs key kind kind r w p.new there refl in
    record {
      after = placed places cs key kind;
      size = omega (arith, s.size);
      grew = omega (arith, s.size);
      ready = record { alike = s.alike; draft = subst (λ (b : Bool). IsDraft (placed places cs key kind) (cond b (next places ∷ cs) cs) None) leaf s.draft };
      old = s.old;
      new = λ k low high. let e : k ≡ next places = omega arith in ap (kind_at (placed places cs key kind)) e ∙ s.there ∙ sym there ∙ sym (ap (kind_at g) e);
      more = omega (arith, s.more, value_first item [] p.value);
      does = λ rest. value_step places cs key kind item false rest w.wants p leaf;
    }

-- a member that shares a place
pub back_done : (g places : List Kind) (cs : List ℕ) (key : Option Key) (x : ℕ) → Ready g places cs key → Waits places cs key → 1 ≤ x → x ≤ length places → ChildDone g places cs key (Back x) (next places) (items.Back x ∷ [])
back_done g places cs key x r w low high =
    let h = attached places cs key (Back x) in
    let len : length h ≡ length places = length-attached places cs key (Back x) in
    let in_range : (nat_le 1 x && nat_le x (length places)) ≡ true = grind (arith, nat_tests) in
    let room = room_none places cs key w in
    let sound : fault_of (draft places cs key) (items.Back x) ≡ None = rw (room, in_range) refl in
    record {
      after = h;
      size = omega arith;
      grew = omega arith;
      ready = record {
        alike = λ k le. attached_alike places cs key (Back x) k r.draft ∙ r.alike k (omega arith);
        draft = back_drafted places cs key x r.draft w.wants w.deep w.few low high;
      };
      old = λ k le. refl;
      new = λ k above below. absurd (omega arith);
      more = omega (arith, values_after places cs key (Back x) r.draft w.wants (λ e. absurd (no_back places cs key x r.draft w.wants low high e)), values-cons (items.Back x) []);
      does = λ rest. step_on (draft places cs key) (items.Back x) rest (value_fits places cs key (items.Back x) w.wants refl) sound;
    }
