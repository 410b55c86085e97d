-- What is read of a whole value is its text: inside containers, and at the top.
use Rattle.std.proofs.Common.{◌≡◌, ℕ, zero, suc, ◌+◌, ◌-◌, ◌<◌, Bool, true, false, cond, ◌&&◌, eqb, List, [], ◌∷◌, ◌++◌, length, map, Option, Some, None, Result, Ok, refl, sym, ap, subst, ◌∙◌, append_assoc, arith, length-append}
use Rattle.std.specs.Prelude.{slice_set, slice_get}
use Rattle.std.proofs.lemmas.Bool.{eqb-true}
use Rattle.std.proofs.lemmas.List.{append-nil}
use Rattle.php_graph.specs.declared.key.Key.{Key}
use Rattle.php_graph.specs.declared.key.Key.TheVariants as keys
use Rattle.php_graph.specs.declared.child.Child.{Child}
use Rattle.php_graph.specs.declared.child.Child.TheVariants.{Own}
use Rattle.php_graph.specs.declared.kind.Kind.{Kind}
use Rattle.php_graph.specs.declared.kind.Kind.TheVariants as kinds
use Rattle.php_graph.specs.declared.item.Item.TheVariants as items
use Rattle.php_graph.specs.declared.item.Wants.TheVariants as wants
use Rattle.php_graph.specs.Graph.{kind_at, is_array, is_array_at, passes, FitsKey}
use Rattle.php_graph.specs.Building.{Draft, wants_of, wants_by, fault_of, pushed, with_member, attached, changed_at, next_place, is_name, named}
use Rattle.notation.specs.declared.fault.Fault.{Fault}
use Rattle.notation.specs.declared.fault.Reason.TheVariants.{Tag}
use Rattle.notation.specs.Marks.{◌>>=◌, fail, string_at, integer_at}
use Rattle.notation.specs.Notation.{key_text, member_texts, child_text}
use Rattle.notation.specs.Reading.{put_at, takes_integers, key_tagged_at, key_at, members_at}
use Rattle.notation.proofs.PartTexts.{Written, AreSomeBytes, integer_fits, string_fits, bind_ok, ok_is, string_takes, integer_takes}
use Rattle.notation.proofs.ItemSteps.{attached_len}
use Rattle.notation.proofs.ItemTexts.{put_ok, put_sound, int_text, str_text}

-- ---- keys

pub record IsKeyed (d e : Draft) (integers : Bool) (bytes rest : List ℕ) : Type 0 where
  pub key : Key
  pub put : e ≡ pushed d (items.Key key)
  pub sound : fault_of d (items.Key key) ≡ None
  pub fits : AreSomeBytes bytes → FitsKey key
  pub text : bytes ≡ key_text key ++ rest
  pub named : integers ≡ false → is_name key ≡ true

abbrev Held : Type 0
Held = Key × List ℕ

pub record IsKeyText (integers : Bool) (bytes : List ℕ) (key : Key) (rest : List ℕ) : Type 0 where
  pub text : bytes ≡ key_text key ++ rest
  pub fits : AreSomeBytes bytes → FitsKey key
  pub named : integers ≡ false → is_name key ≡ true

string_key : (law : Written) (integers : Bool) (rest : List ℕ) (y : Held) → (string_at rest >>= λ text. Ok (keys.Str text.0, text.1)) ≡ Ok y → IsKeyText integers (115 ∷ rest) y.0 y.1
string_key law integers rest y e =
    let a = bind_ok (string_at rest) (λ text. Ok (keys.Str text.0, text.1)) y e in
    let start : IsKeyText integers (115 ∷ rest) (keys.Str a.0.0) a.0.1 = record { text = ap (λ (t : List ℕ). 115 ∷ t) (string_takes law rest a.0.0 a.0.1 a.1) ∙ sym (str_text a.0.0 a.0.1); fits = λ f. string_fits law rest a.0.0 a.0.1 a.1 f.1; named = λ _. refl } in
    subst (λ (z : Held). IsKeyText integers (115 ∷ rest) z.0 z.1) (ok_is (keys.Str a.0.0, a.0.1) y a.2) start

integer_key : (law : Written) (rest : List ℕ) (y : Held) → (integer_at rest >>= λ n. Ok (keys.Int n.0, n.1)) ≡ Ok y → IsKeyText true (105 ∷ rest) y.0 y.1
integer_key law rest y e =
    let a = bind_ok (integer_at rest) (λ n. Ok (keys.Int n.0, n.1)) y e in
    let start : IsKeyText true (105 ∷ rest) (keys.Int a.0.0) a.0.1 = record { text = ap (λ (t : List ℕ). 105 ∷ t) (integer_takes law rest a.0.0 a.0.1 a.1) ∙ sym (int_text a.0.0 a.0.1); fits = λ _. integer_fits law rest a.0.0 a.0.1 a.1; named = λ f. absurd cc } in
    subst (λ (z : Held). IsKeyText true (105 ∷ rest) z.0 z.1) (ok_is (keys.Int a.0.0, a.0.1) y a.2) start

by_letter : (law : Written) (integers : Bool) (tag : ℕ) (rest : List ℕ) (y : Held) (s i : Bool) → eqb tag 115 ≡ s → eqb tag 105 ≡ i
    → cond s (string_at rest >>= λ text. Ok (keys.Str text.0, text.1)) (cond (i && integers) (integer_at rest >>= λ n. Ok (keys.Int n.0, n.1)) (fail Tag (tag ∷ rest))) ≡ Ok y → IsKeyText integers (tag ∷ rest) y.0 y.1
by_letter law integers tag rest y true i a b e = subst (λ (t : ℕ). IsKeyText integers (t ∷ rest) y.0 y.1) (sym (eqb-true tag 115 a)) (string_key law integers rest y e)
by_letter law true tag rest y false true a b e = subst (λ (t : ℕ). IsKeyText true (t ∷ rest) y.0 y.1) (sym (eqb-true tag 105 b)) (integer_key law rest y e)
by_letter law false tag rest y false true a b e = absurd cc
by_letter law integers tag rest y false false a b e = absurd cc

key_tagged_takes : (law : Written) (integers : Bool) (tag : ℕ) (rest : List ℕ) (y : Held) → key_tagged_at integers tag rest ≡ Ok y → IsKeyText integers (tag ∷ rest) y.0 y.1
unfolding key_tagged_at
key_tagged_takes law integers tag rest y e = by_letter law integers tag rest y (eqb tag 115) (eqb tag 105) refl refl e

abbrev pub After : Type 0
After = Draft × List ℕ

pub key_takes : (law : Written) (d : Draft) (bytes : List ℕ) (y : After) → key_at d bytes ≡ Ok y → IsKeyed d y.0 (takes_integers (wants_of d)) bytes y.1
unfolding key_at
key_takes law d [] y e = absurd cc
key_takes law d (tag ∷ rest) y e =
    let integers = takes_integers (wants_of d) in
    let a = bind_ok (key_tagged_at integers tag rest) (λ key. put_at d (items.Key key.0) (tag ∷ rest) >>= λ p. Ok (p, key.1)) y e in
    let p = bind_ok (put_at d (items.Key a.0.0) (tag ∷ rest)) (λ p. Ok (p, a.0.1)) y a.2 in
    let t = key_tagged_takes law integers tag rest a.0 a.1 in
    let start : IsKeyed d p.0 integers (tag ∷ rest) a.0.1 = record { key = a.0.0; put = sym (put_ok (fault_of d (items.Key a.0.0)) (pushed d (items.Key a.0.0)) p.0 (tag ∷ rest) p.1); sound = put_sound (fault_of d (items.Key a.0.0)) (pushed d (items.Key a.0.0)) p.0 (tag ∷ rest) p.1; fits = t.fits; text = t.text; named = t.named } in
    subst (λ (z : After). IsKeyed d z.0 integers (tag ∷ rest) z.1) (ok_is (p.0, a.0.1) y p.2) start

-- ---- places

-- these kinds stand in the graph from place k on
abbrev pub Agrees : List Kind → ℕ → List Kind → Type 0
Agrees g k [] = Unit {0}
Agrees g k (kind ∷ ks) = (kind_at g k ≡ Some kind) × Agrees g (suc k) ks

agrees_front : (g : List Kind) (k : ℕ) (xs ys : List Kind) → Agrees g k (xs ++ ys) → Agrees g k xs
agrees_front g k [] ys h = tt
agrees_front g k (x ∷ xs) ys h = (h.0, agrees_front g (suc k) xs ys h.1)

agrees_back : (g : List Kind) (k n : ℕ) (xs ys : List Kind) → n ≡ k + length xs → Agrees g k (xs ++ ys) → Agrees g n ys
agrees_back g k n [] ys e h = subst (λ (i : ℕ). Agrees g i ys) (omega arith) h
agrees_back g k n (x ∷ xs) ys e h = agrees_back g (suc k) n xs ys (omega arith) h.1

get_at : (before : List Kind) (kind : Kind) (after : List Kind) → slice_get (before ++ kind ∷ after) (length before) ≡ Some kind
get_at [] kind after = refl
get_at (x ∷ before) kind after = get_at before kind after

-- the kinds of a graph, in the graph
pub agrees_own : (before after : List Kind) (k : ℕ) → k ≡ suc (length before) → Agrees (before ++ after) k after
agrees_own before [] k e = tt
agrees_own before (kind ∷ after) k e =
    let next : Agrees ((before ++ kind ∷ []) ++ after) (suc k) after = agrees_own (before ++ kind ∷ []) after (suc k) (omega (arith, e, length-append before (kind ∷ []))) in
    (ap (kind_at (before ++ kind ∷ after)) e ∙ get_at before kind after, subst (λ (g : List Kind). Agrees g (suc k) after) (append_assoc before (kind ∷ []) after) next)

set_at : (before : List Kind) (kind other : Kind) (after : List Kind) → slice_set (before ++ kind ∷ after) (length before) other ≡ before ++ other ∷ after
set_at [] kind other after = refl
set_at (x ∷ before) kind other after = ap (λ (xs : List Kind). x ∷ xs) (set_at before kind other after)

kind_in : (before : List Kind) (kind : Kind) (after : List Kind) (p : ℕ) → p ≡ suc (length before) → kind_at (before ++ kind ∷ after) p ≡ Some kind
kind_in before kind after p e = ap (kind_at (before ++ kind ∷ after)) e ∙ get_at before kind after

attached_in : (before : List Kind) (kind : Kind) (after : List Kind) (p : ℕ) (outer : List ℕ) (key : Key) (c : Child) → p ≡ suc (length before) → attached (before ++ kind ∷ after) (p ∷ outer) (Some key) c ≡ before ++ with_member kind key c ∷ after
attached_in before kind after p outer key c e =
    let at : p - 1 ≡ length before = omega arith in
    ap (λ (o : Option Kind). changed_at (before ++ kind ∷ after) p (λ k. with_member k key c) o) (kind_in before kind after p e)
    ∙ ap (λ (i : ℕ). slice_set (before ++ kind ∷ after) i (with_member kind key c)) at ∙ set_at before kind (with_member kind key c) after

-- ---- members

abbrev pub with_members : Kind → List (Key × Child) → Kind
with_members kind [] = kind
with_members kind (m ∷ ms) = with_members (with_member kind m.0 m.1) ms

abbrev pub AllNames : List (Key × Child) → Type 0
AllNames [] = Unit {0}
AllNames (m ∷ ms) = (is_name m.0 ≡ true) × AllNames ms

pub array_grown : (xs ms : List (Key × Child)) → with_members (kinds.Array xs) ms ≡ kinds.Array (xs ++ ms)
array_grown xs [] = ap (λ (l : List (Key × Child)). kinds.Array l) (sym (append-nil xs))
array_grown xs (m ∷ ms) = array_grown (xs ++ m ∷ []) ms ∙ ap (λ (l : List (Key × Child)). kinds.Array l) (append_assoc xs (m ∷ []) ms)

pub record IsNamed (class : List ℕ) (xs : List (List ℕ × Child)) (ms : List (Key × Child)) : Type 0 where
  pub props : List (List ℕ × Child)
  pub members_are : map named props ≡ ms
  pub grown : with_members (kinds.Object class xs) ms ≡ kinds.Object class (xs ++ props)

elim_name : false ≡ true → ⊥
elim_name e = cc

pub object_grown : (class : List ℕ) (xs : List (List ℕ × Child)) (ms : List (Key × Child)) → AllNames ms → IsNamed class xs ms
object_grown class xs [] h = record { props = []; members_are = refl; grown = ap (λ (l : List (List ℕ × Child)). kinds.Object class l) (sym (append-nil xs)) }
object_grown class xs ((keys.Str name, c) ∷ ms) h =
    let r = object_grown class (xs ++ (name, c) ∷ []) ms h.1 in
    record {
      props = (name, c) ∷ r.props;
      members_are = ap (λ (l : List (Key × Child)). (keys.Str name, c) ∷ l) r.members_are;
      grown = r.grown ∙ ap (λ (l : List (List ℕ × Child)). kinds.Object class l) (append_assoc xs ((name, c) ∷ []) r.props);
    }
object_grown class xs ((keys.Int n, c) ∷ ms) h = absurd (elim_name h.0)

still_array : (kind : Kind) (key : Key) (c : Child) → is_array (with_member kind key c) ≡ is_array kind
still_array (kinds.Array ms) key c = refl
still_array (kinds.Object class ps) (keys.Str name) c = refl
still_array (kinds.Object class ps) (keys.Int n) c = refl
still_array kinds.Null key c = refl
still_array (kinds.Bool b) key c = refl
still_array (kinds.Int n) key c = refl
still_array (kinds.Str bytes) key c = refl
still_array (kinds.Same x) key c = refl

takes_by : (b : Bool) → takes_integers (cond b wants.ArrayKey wants.Name) ≡ b
takes_by true = refl
takes_by false = refl

wants_here : (d : Draft) (before : List Kind) (kind : Kind) (after : List Kind) (p : ℕ) (outer : List ℕ) → d.places ≡ before ++ kind ∷ after → d.containers ≡ p ∷ outer → d.key ≡ None → p ≡ suc (length before) → takes_integers (wants_of d) ≡ is_array kind
wants_here d before kind after p outer places containers key at =
    ap (λ (g : List Kind). takes_integers (wants_by g d.containers d.key)) places ∙ ap (λ (cs : List ℕ). takes_integers (wants_by (before ++ kind ∷ after) cs d.key)) containers ∙ ap (λ (k : Option Key). takes_integers (wants_by (before ++ kind ∷ after) (p ∷ outer) k)) key
    ∙ takes_by (is_array_at (before ++ kind ∷ after) p) ∙ ap (passes is_array) (kind_in before kind after p at)

-- ---- a value

pub record IsValue (level : ℕ) (d e : Draft) (bytes rest : List ℕ) : Type 0 where
  pub child : Child
  pub news : List Kind
  pub places : e.places ≡ attached d.places d.containers d.key child ++ news
  pub containers : e.containers ≡ d.containers
  pub no_key : e.key ≡ None
  pub own : 0 < length news → child ≡ Own (next_place d)
  pub text : (g : List Kind) → Agrees g (suc (length d.places)) news → bytes ≡ child_text level 0 g child ++ rest

abbrev pub Reads : ℕ → (Draft → List ℕ → Result After Fault) → Type 0
Reads level value = (d : Draft) (bytes : List ℕ) (y : After) → value d bytes ≡ Ok y → IsValue level d y.0 bytes y.1

pub record AreMembers (level n : ℕ) (d e : Draft) (before : List Kind) (kind : Kind) (after : List Kind) (bytes rest : List ℕ) : Type 0 where
  pub members : List (Key × Child)
  pub news : List Kind
  pub count : length members ≡ n
  pub places : e.places ≡ before ++ with_members kind members ∷ (after ++ news)
  pub containers : e.containers ≡ d.containers
  pub no_key : e.key ≡ None
  pub names : is_array kind ≡ false → AllNames members
  pub text : (g : List Kind) → Agrees g (suc (length d.places)) news → bytes ≡ member_texts (child_text level 0 g) members ++ rest

pub members_takes : (law : Written) (level : ℕ) (value : Draft → List ℕ → Result After Fault) → Reads level value → (n : ℕ) (d : Draft) (before : List Kind) (kind : Kind) (after : List Kind) (p : ℕ) (outer : List ℕ)
    → d.places ≡ before ++ kind ∷ after → d.containers ≡ p ∷ outer → d.key ≡ None → p ≡ suc (length before) → (bytes : List ℕ) (y : After) → members_at value n d bytes ≡ Ok y → AreMembers level n d y.0 before kind after bytes y.1
members_takes law level value reads zero d before kind after p outer places containers key at bytes y e =
    let start : AreMembers level 0 d d before kind after bytes bytes = record {
      members = [];
      news = [];
      count = refl;
      places = places ∙ ap (λ (l : List Kind). before ++ kind ∷ l) (sym (append-nil after));
      containers = refl;
      no_key = key;
      names = λ _. tt;
      text = λ g h. refl;
    } in
    subst (λ (z : After). AreMembers level 0 d z.0 before kind after bytes z.1) (ok_is (d, bytes) y e) start
members_takes law level value reads (suc n) d before kind after p outer places containers key at bytes y e =
    let a = bind_ok (key_at d bytes) (λ k. value k.0 k.1 >>= λ v. members_at value n v.0 v.1) y e in
    let v = bind_ok (value a.0.0 a.0.1) (λ v. members_at value n v.0 v.1) y a.2 in
    let k = key_takes law d bytes a.0 a.1 in
    let d1 = pushed d (items.Key k.key) in
    let read : value d1 a.0.1 ≡ Ok v.0 = ap (λ (x : Draft). value x a.0.1) (sym k.put) ∙ v.1 in
    let w = reads d1 a.0.1 v.0 read in
    let inside : attached d.places d.containers (Some k.key) w.child ≡ before ++ with_member kind k.key w.child ∷ after =
    ap (λ (g : List Kind). attached g d.containers (Some k.key) w.child) places ∙ ap (λ (cs : List ℕ). attached (before ++ kind ∷ after) cs (Some k.key) w.child) containers ∙ attached_in before kind after p outer k.key w.child at in
    let places2 : v.0.0.places ≡ before ++ with_member kind k.key w.child ∷ (after ++ w.news) =
    w.places ∙ ap (λ (g : List Kind). g ++ w.news) inside ∙ append_assoc before (with_member kind k.key w.child ∷ after) w.news in
    let m = members_takes law level value reads n v.0.0 before (with_member kind k.key w.child) (after ++ w.news) p outer places2 (w.containers ∙ containers) w.no_key at v.0.1 y v.2 in
    let len2 : length v.0.0.places ≡ length d.places + length w.news = omega (arith, ap length w.places, length-append (attached d.places d.containers (Some k.key) w.child) w.news, attached_len d.places d.containers (Some k.key) w.child) in
    record {
      members = (k.key, w.child) ∷ m.members;
      news = w.news ++ m.news;
      count = ap suc m.count;
      places = m.places ∙ ap (λ (l : List Kind). before ++ with_members (with_member kind k.key w.child) m.members ∷ l) (append_assoc after w.news m.news);
      containers = m.containers ∙ w.containers;
      no_key = m.no_key;
      names = λ f. (k.named (wants_here d before kind after p outer places containers key at ∙ f), m.names (still_array kind k.key w.child ∙ f));
      text = λ g h.
          k.text ∙ ap (λ (t : List ℕ). key_text k.key ++ t) (w.text g (agrees_front g (suc (length d.places)) w.news m.news h) ∙ ap (λ (t : List ℕ). child_text level 0 g w.child ++ t) (m.text g (agrees_back g (suc (length d.places)) (suc (length v.0.0.places)) w.news m.news (omega (arith, len2)) h)) ∙ sym (append_assoc (child_text level 0 g w.child) (member_texts (child_text level 0 g) m.members) y.1))
          ∙ sym (append_assoc (key_text k.key) (child_text level 0 g w.child ++ member_texts (child_text level 0 g) m.members) y.1);
    }
