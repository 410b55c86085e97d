-- What is read of a value at the top is its text.
use Rattle.std.proofs.Common.{◌≡◌, ℕ, zero, suc, ◌+◌, ◌<◌, ◌≤◌, Bool, true, false, cond, List, [], ◌∷◌, ◌++◌, length, map, drop, Option, Some, None, Result, Ok, refl, sym, ap, subst, ◌∙◌, append_assoc, arith, codes, add-one, add-zero, length-append}
use Rattle.std.specs.Fmt.{decimal}
use Rattle.std.proofs.lemmas.List.{append-nil, length-drop, drop_at, drop-drop}
use Rattle.php_graph.specs.declared.key.Key.{Key}
use Rattle.php_graph.specs.declared.child.Child.{Child}
use Rattle.php_graph.specs.declared.child.Child.TheVariants.{Own, Back}
use Rattle.php_graph.specs.declared.kind.Kind.{Kind}
use Rattle.php_graph.specs.declared.kind.Kind.TheVariants as kinds
use Rattle.php_graph.specs.declared.item.Item.{Item}
use Rattle.php_graph.specs.declared.item.Item.TheVariants as items
use Rattle.php_graph.specs.Graph.{kind_at, levels, is_array, child_end, ends_after, end_of, IsGraph}
use Rattle.php_graph.specs.Building.{Draft, nothing_drafted, pushed, with_value, with_back, attached, next_place, is_container, named}
use Rattle.notation.specs.declared.fault.Fault.{Fault}
use Rattle.notation.specs.declared.fault.Reason.TheVariants.{Depth}
use Rattle.notation.specs.Marks.{◌>>=◌, fail, mark_at}
use Rattle.notation.specs.Notation.{key_text, array_head, object_head, member_texts, kind_text, child_text, text_of}
use Rattle.notation.specs.Parts.{members_of, start_text}
use Rattle.notation.specs.Reading.{begun_at, members_at, closed_at, rest_of_value, value_with, value_at, reading_of}
use Rattle.notation.proofs.PartTexts.{Written, bind_ok, ok_is, mark_takes}
use Rattle.notation.proofs.ItemSteps.{attached_len}
use Rattle.notation.proofs.ItemTexts.{item_text, Counted, begun_takes}
use Rattle.notation.proofs.WriterTexts.{held_by, kind_split, own_at, no_level, then_some, back_text}
use Rattle.notation.proofs.MemberTexts.{After, Agrees, agrees_own, with_members, AllNames, array_grown, object_grown, IsValue, Reads, members_takes}

-- ---- one place

pub own_unfold : (level : ℕ) (g : List Kind) (x : ℕ) (kind : Kind) → kind_at g x ≡ Some kind → child_text (suc level) 0 g (Own x) ≡ kind_text 0 (child_text level 0 g) (Some kind)
unfolding child_text
own_unfold level g x kind e = ap (λ (o : Option Kind). kind_text 0 (child_text level 0 g) o) e

next_is : (d : Draft) → next_place d ≡ suc (length d.places)
next_is d = add-one (length d.places)

plain_value : (level : ℕ) (d : Draft) (kind : Kind) (bytes rest : List ℕ) → is_container kind ≡ false → ((w : Child → List ℕ) → bytes ≡ kind_text 0 w (Some kind) ++ rest) → IsValue (suc level) d (with_value d kind) bytes rest
plain_value level d kind bytes rest plain text = record {
  child = Own (next_place d);
  news = kind ∷ [];
  places = refl;
  containers = ap (λ (b : Bool). cond b (next_place d ∷ d.containers) d.containers) plain;
  no_key = refl;
  own = λ _. refl;
  text = λ g h. text (child_text level 0 g) ∙ ap (λ (t : List ℕ). t ++ rest) (sym (own_unfold level g (next_place d) kind (ap (kind_at g) (next_is d) ∙ h.0)));
}

back_value : (level : ℕ) (d : Draft) (x : ℕ) (bytes rest : List ℕ) → bytes ≡ (codes "R:" ++ decimal x ++ codes ";") ++ rest → IsValue (suc level) d (with_back d x) bytes rest
back_value level d x bytes rest text = record {
  child = Back x;
  news = [];
  places = sym (append-nil (attached d.places d.containers d.key (Back x)));
  containers = refl;
  no_key = refl;
  own = λ h. absurd (omega arith);
  text = λ g h. text ∙ ap (λ (n : ℕ). (codes "R:" ++ decimal n ++ codes ";") ++ rest) (sym (add-zero x)) ∙ ap (λ (t : List ℕ). t ++ rest) (sym (back_text level 0 g x));
}

-- ---- containers

pub record IsClosed (d e : Draft) (bytes rest : List ℕ) : Type 0 where
  pub text : bytes ≡ 125 ∷ rest
  pub is : pushed d items.Close ≡ e

closed_takes : (d : Draft) (bytes : List ℕ) (y : After) → closed_at d bytes ≡ Ok y → IsClosed d y.0 bytes y.1
unfolding closed_at
closed_takes d bytes y e =
    let a = bind_ok (mark_at 125 bytes) (λ rest. Ok (pushed d items.Close, rest)) y e in
    let start : IsClosed d (pushed d items.Close) bytes a.0 = record { text = mark_takes 125 bytes a.0 a.1; is = refl } in
    subst (λ (z : After). IsClosed d z.0 bytes z.1) (ok_is (pushed d items.Close, a.0) y a.2) start

-- what a container's text is once it has these members
abbrev Grows : Kind → ℕ → List ℕ → Type 0
Grows kind n head = (ms : List (Key × Child)) → length ms ≡ n → (is_array kind ≡ false → AllNames ms) → (w : Child → List ℕ) → kind_text 0 w (Some (with_members kind ms)) ≡ head ++ (member_texts w ms ++ codes "}")

array_grows : (n : ℕ) → Grows (kinds.Array []) n (array_head n)
array_grows n ms len names w = ap (λ (k : Kind). kind_text 0 w (Some k)) (array_grown [] ms) ∙ ap (λ (k : ℕ). array_head k ++ (member_texts w ms ++ codes "}")) len

pub named_len : (ps : List (List ℕ × Child)) → length (map named ps) ≡ length ps
named_len [] = refl
named_len (p ∷ ps) = ap suc (named_len ps)

object_grows : (class : List ℕ) (n : ℕ) → Grows (kinds.Object class []) n (object_head class n)
object_grows class n ms len names w =
    let o = object_grown class [] ms (names refl) in
    let count : length o.props ≡ n = sym (named_len o.props) ∙ ap length o.members_are ∙ len in
    ap (λ (k : Kind). kind_text 0 w (Some k)) o.grown ∙ ap (λ (k : ℕ). object_head class k ++ (member_texts w (map named o.props) ++ codes "}")) count ∙ ap (λ (l : List (Key × Child)). object_head class n ++ (member_texts w l ++ codes "}")) o.members_are

container_value : (law : Written) (level : ℕ) (value : Draft → List ℕ → Result After Fault) → Reads level value → (d : Draft) (kind : Kind) (n : ℕ) (head bytes inner : List ℕ) (y : After)
    → is_container kind ≡ true → Grows kind n head → bytes ≡ head ++ inner → (members_at value n (with_value d kind) inner >>= λ m. closed_at m.0 m.1) ≡ Ok y → IsValue (suc level) d y.0 bytes y.1
container_value law level value reads d kind n head bytes inner y container grows text e =
    let b = bind_ok (members_at value n (with_value d kind) inner) (λ m. closed_at m.0 m.1) y e in
    let c = closed_takes b.0.0 b.0.1 y b.2 in
    let before = attached d.places d.containers d.key (Own (next_place d)) in
    let opened : (with_value d kind).containers ≡ next_place d ∷ d.containers = ap (λ (o : Bool). cond o (next_place d ∷ d.containers) d.containers) container in
    let at : next_place d ≡ suc (length before) = omega (arith, next_is d, attached_len d.places d.containers d.key (Own (next_place d))) in
    let m = members_takes law level value reads n (with_value d kind) before kind [] (next_place d) d.containers refl opened refl at inner b.0 b.1 in
    let grown = grows m.members m.count m.names in
    let len : suc (length (with_value d kind).places) ≡ suc (suc (length d.places)) = omega (arith, length-append before (kind ∷ []), attached_len d.places d.containers d.key (Own (next_place d))) in
    record {
      child = Own (next_place d);
      news = with_members kind m.members ∷ m.news;
      places = ap (λ (x : Draft). x.places) (sym c.is) ∙ m.places;
      containers = ap (λ (x : Draft). x.containers) (sym c.is) ∙ ap (λ (cs : List ℕ). drop 1 cs) (m.containers ∙ opened);
      no_key = ap (λ (x : Draft). x.key) (sym c.is);
      own = λ _. refl;
      text = λ g h.
          let w = child_text level 0 g in
          let members : inner ≡ member_texts w m.members ++ (codes "}" ++ y.1) = m.text g (subst (λ (k : ℕ). Agrees g k m.news) (sym len) h.1) ∙ ap (λ (t : List ℕ). member_texts w m.members ++ t) c.text in
          let own : child_text (suc level) 0 g (Own (next_place d)) ≡ head ++ (member_texts w m.members ++ codes "}") = own_unfold level g (next_place d) (with_members kind m.members) (ap (kind_at g) (next_is d) ∙ h.0) ∙ grown w in
          text ∙ ap (λ (t : List ℕ). head ++ t) (members ∙ sym (append_assoc (member_texts w m.members) (codes "}") y.1)) ∙ sym (append_assoc head (member_texts w m.members ++ codes "}") y.1) ∙ ap (λ (t : List ℕ). t ++ y.1) (sym own);
    }

-- ---- values

scalar : (level : ℕ) (d e : Draft) (bytes rest : List ℕ) (y : After) → IsValue (suc level) d e bytes rest → (e, rest) ≡ y → IsValue (suc level) d y.0 bytes y.1
scalar level d e bytes rest y h s = subst (λ (z : After). IsValue (suc level) d z.0 bytes z.1) s h

by_item : (law : Written) (level : ℕ) (value : Draft → List ℕ → Result After Fault) → Reads level value → (d : Draft) (item : Item) (count : Option ℕ) (bytes inner : List ℕ) (y : After)
    → Counted item count → bytes ≡ item_text item count ++ inner → rest_of_value value (pushed d item, count, inner) ≡ Ok y → IsValue (suc level) d y.0 bytes y.1
by_item law level value reads d items.Null None bytes inner y c text e = scalar level d (pushed d items.Null) bytes inner y (plain_value level d kinds.Null bytes inner refl (λ w. text)) (ok_is (pushed d items.Null, inner) y e)
by_item law level value reads d (items.Bool b) None bytes inner y c text e = scalar level d (pushed d (items.Bool b)) bytes inner y (plain_value level d (kinds.Bool b) bytes inner refl (λ w. text)) (ok_is (pushed d (items.Bool b), inner) y e)
by_item law level value reads d (items.Int n) None bytes inner y c text e = scalar level d (pushed d (items.Int n)) bytes inner y (plain_value level d (kinds.Int n) bytes inner refl (λ w. text)) (ok_is (pushed d (items.Int n), inner) y e)
by_item law level value reads d (items.Str s) None bytes inner y c text e = scalar level d (pushed d (items.Str s)) bytes inner y (plain_value level d (kinds.Str s) bytes inner refl (λ w. text)) (ok_is (pushed d (items.Str s), inner) y e)
by_item law level value reads d (items.Same x) None bytes inner y c text e = scalar level d (pushed d (items.Same x)) bytes inner y (plain_value level d (kinds.Same x) bytes inner refl (λ w. text ∙ ap (λ (n : ℕ). (codes "r:" ++ decimal n ++ codes ";") ++ inner) (sym (add-zero x)))) (ok_is (pushed d (items.Same x), inner) y e)
by_item law level value reads d (items.Back x) None bytes inner y c text e = scalar level d (pushed d (items.Back x)) bytes inner y (back_value level d x bytes inner text) (ok_is (pushed d (items.Back x), inner) y e)
by_item law level value reads d items.OpenArray (Some n) bytes inner y c text e = container_value law level value reads d (kinds.Array []) n (array_head n) bytes inner y refl (array_grows n) text e
by_item law level value reads d (items.OpenObject class) (Some n) bytes inner y c text e = container_value law level value reads d (kinds.Object class []) n (object_head class n) bytes inner y refl (object_grows class n) text e
by_item law level value reads d items.OpenArray None bytes inner y c text e = absurd c
by_item law level value reads d (items.OpenObject class) None bytes inner y c text e = absurd c
by_item law level value reads d (items.Key key) count bytes inner y c text e = absurd c
by_item law level value reads d items.Close count bytes inner y c text e = absurd c
by_item law level value reads d items.Null (Some n) bytes inner y c text e = absurd c
by_item law level value reads d (items.Bool b) (Some n) bytes inner y c text e = absurd c
by_item law level value reads d (items.Int i) (Some n) bytes inner y c text e = absurd c
by_item law level value reads d (items.Str s) (Some n) bytes inner y c text e = absurd c
by_item law level value reads d (items.Same x) (Some n) bytes inner y c text e = absurd c
by_item law level value reads d (items.Back x) (Some n) bytes inner y c text e = absurd c

with_reads : (law : Written) (level : ℕ) (value : Draft → List ℕ → Result After Fault) → Reads level value → Reads (suc level) (value_with value)
with_reads law level value reads d bytes y e =
    let b = bind_ok (begun_at d bytes) (rest_of_value value) y e in
    let s = begun_takes law d bytes b.0 b.1 in
    let rest : rest_of_value value (pushed d s.item, b.0.1, b.0.2) ≡ Ok y = ap (λ (x : Draft). rest_of_value value (x, b.0.1, b.0.2)) (sym s.put) ∙ b.2 in
    by_item law level value reads d s.item b.0.1 bytes b.0.2 y s.counted s.text rest

none_deeper : Reads 0 (λ d bytes. fail Depth bytes)
none_deeper d bytes y e = absurd cc

value_reads : (law : Written) (level : ℕ) → Reads (suc level) (value_at level)
unfolding value_at
value_reads law zero = with_reads law 0 (λ d bytes. fail Depth bytes) none_deeper
value_reads law (suc level) = with_reads law (suc level) (value_at level) (value_reads law level)

-- ---- as many levels as there are

members_same : (level base : ℕ) (g : List Kind) → ((c : Child) (m e : ℕ) → child_end level g c m ≡ Some e → child_text (suc level) base g c ≡ child_text level base g c)
    → (ms : List (Key × Child)) (m e : ℕ) → ends_after (child_end level g) (map (λ x. x.1) ms) m ≡ Some e → member_texts (child_text (suc level) base g) ms ≡ member_texts (child_text level base g) ms
members_same level base g same [] m e h = refl
members_same level base g same (x ∷ ms) m e h =
    let b = then_some (ends_after (child_end level g) (map (λ y. y.1) ms)) (child_end level g x.1 m) e h in
    ap (λ (t : List ℕ). key_text x.0 ++ (t ++ member_texts (child_text (suc level) base g) ms)) (same x.1 m b.0 b.1)
    ∙ ap (λ (t : List ℕ). key_text x.0 ++ (child_text level base g x.1 ++ t)) (members_same level base g same ms b.0 e b.2)

own_twice : (level base : ℕ) (g : List Kind) (x : ℕ) (kind : Kind) → kind_at g x ≡ Some kind → child_text (suc (suc level)) base g (Own x) ≡ kind_text base (child_text (suc level) base g) (Some kind)
unfolding child_text
own_twice level base g x kind e = ap (λ (o : Option Kind). kind_text base (child_text (suc level) base g) o) e

enough : (level base : ℕ) (g : List Kind) (c : Child) (m e : ℕ) → child_end level g c m ≡ Some e → child_text (suc level) base g c ≡ child_text level base g c
enough zero base g c m e h = absurd (no_level g c m e h)
enough (suc level) base g (Back x) m e h = back_text (suc level) base g x ∙ sym (back_text level base g x)
enough (suc level) base g (Own x) m e h =
    let o = own_at level base g x m e h in
    let ended : ends_after (child_end level g) (map (λ y. y.1) (members_of o.kind)) (x + 1) ≡ Some e = ap (λ (cs : List Child). ends_after (child_end level g) cs (x + 1)) (sym (held_by o.kind)) ∙ o.ends in
    let members = members_same level base g (enough level base g) (members_of o.kind) (x + 1) e ended in
    own_twice level base g x o.kind o.there ∙ kind_split base (child_text (suc level) base g) o.kind
    ∙ ap (λ (t : List ℕ). start_text base o.kind ++ cond (is_container o.kind) (t ++ codes "}") []) members
    ∙ sym (kind_split base (child_text level base g) o.kind) ∙ sym o.text

-- ---- at the top

some_places : (g : List Kind) → IsGraph g → 0 < length g
unfolding end_of child_end
some_places [] h = let e = h.sealed in absurd cc
some_places (kind ∷ ks) h = omega arith

-- What was read is spelled so.
pub reading_takes : (law : Written) (bytes : List ℕ) (g : List Kind) (rest : List ℕ) → IsGraph g → reading_of bytes ≡ Ok (g, rest) → bytes ≡ text_of g ++ rest
unfolding reading_of end_of
reading_takes law bytes g rest graph e =
    let b = bind_ok (value_at levels nothing_drafted bytes) (λ p. Ok (p.0.places, p.1)) (g, rest) e in
    let v = value_reads law levels nothing_drafted bytes b.0 b.1 in
    let s = ok_is (b.0.0.places, b.0.1) (g, rest) b.2 in
    let g-is : g ≡ v.news = sym (ap (λ (p : List Kind × List ℕ). p.0) s) ∙ v.places in
    let some : 0 < length v.news = omega (arith, some_places g graph, ap length g-is) in
    let here : Agrees g 1 v.news = subst (λ (x : List Kind). Agrees x 1 v.news) (sym g-is) (agrees_own [] v.news 1 refl) in
    v.text g here ∙ ap (λ (c : Child). child_text (suc levels) 0 g c ++ b.0.1) (v.own some)
    ∙ ap (λ (t : List ℕ). t ++ b.0.1) (enough levels 0 g (Own 1) 1 (length g + 1) graph.sealed) ∙ ap (λ (p : List Kind × List ℕ). text_of g ++ p.1) s

-- ---- going on by what was read

pub record IsPassed (all : List ℕ) (p q : ℕ) (text rest : List ℕ) : Type 0 where
  pub place : q ≡ p + length text
  pub left_is : drop q all ≡ rest

pub advance : (all : List ℕ) (p q : ℕ) (text rest : List ℕ) → p ≤ length all → drop p all ≡ text ++ rest → q + length rest ≡ length all → IsPassed all p q text rest
advance all p q text rest within e sum =
    let len : length all ≡ p + (length text + length rest) = omega (arith, length-drop p all, ap length e, length-append text rest) in
    let q-is : q ≡ p + length text = omega arith in
    record { place = q-is; left_is = ap (λ (i : ℕ). drop i all) q-is ∙ sym (drop-drop (length text) p all) ∙ ap (λ (l : List ℕ). drop (length text) l) e ∙ drop_at text rest (length text) refl }
