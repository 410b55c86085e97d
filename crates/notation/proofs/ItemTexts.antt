-- What is read of a value is its text.
use Rattle.std.proofs.Common.{◌≡◌, ℕ, Bool, true, false, cond, ◌||◌, eqb, List, [], ◌∷◌, ◌++◌, length, Option, Some, None, Result, Ok, Err, refl, sym, ap, subst, ◌∙◌, append_assoc, codes}
use Rattle.std.specs.Fmt.{decimal, signed_decimal}
use Rattle.std.proofs.lemmas.Bool.{eqb-true}
use Rattle.php_graph.specs.declared.item.Item.{Item}
use Rattle.php_graph.specs.declared.item.Item.TheVariants as items
use Rattle.php_graph.specs.declared.item.BuildFault.{BuildFault}
use Rattle.php_graph.specs.Building.{Draft, FitsItem, room_fault, fault_of, pushed}
use Rattle.notation.specs.declared.fault.Fault.{Fault}
use Rattle.notation.specs.Marks.{◌>>=◌, mark_at, natural_at, number_as, as_truth, sized_at, string_at, integer_at, count_at}
use Rattle.notation.specs.Notation.{integer_text, string_text, array_head, object_head}
use Rattle.notation.specs.Reading.{put_unless, put_at, Begun, null_at, truth_at, int_at, str_at, same_at, back_at, array_at, object_at, tagged_at, is_tag, if_room, begun_at}
use Rattle.notation.proofs.PartTexts.{Written, AreSomeBytes, integer_fits, string_fits, sized_fits, bind_ok, ok_is, mark_takes, natural_takes, truth_takes, sized_takes, string_takes, integer_takes, count_takes}

-- ---- items

pub put_ok : (o : Option BuildFault) (d e : Draft) (at : List ℕ) → put_unless o d at ≡ Ok e → d ≡ e
put_ok None d e at h = ok_is d e h
put_ok (Some fault) d e at h = absurd cc

pub put_sound : (o : Option BuildFault) (d e : Draft) (at : List ℕ) → put_unless o d at ≡ Ok e → o ≡ None
put_sound None d e at h = refl
put_sound (Some fault) d e at h = absurd cc

-- the text that an item and the number of its members have
abbrev pub item_text : Item → Option ℕ → List ℕ
item_text items.Null count = codes "N;"
item_text (items.Bool b) count = cond b (codes "b:1;") (codes "b:0;")
item_text (items.Int n) count = integer_text n
item_text (items.Str bytes) count = string_text bytes
item_text items.OpenArray (Some n) = array_head n
item_text items.OpenArray None = []
item_text (items.OpenObject class) (Some n) = object_head class n
item_text (items.OpenObject class) None = []
item_text (items.Same x) count = codes "r:" ++ decimal x ++ codes ";"
item_text (items.Back x) count = codes "R:" ++ decimal x ++ codes ";"
item_text (items.Key key) count = []
item_text items.Close count = []

-- the number of members is there exactly where the item opens a container
abbrev pub Counted : Item → Option ℕ → Type 0
Counted items.OpenArray (Some n) = Unit {0}
Counted items.OpenArray None = ⊥
Counted (items.OpenObject class) (Some n) = Unit {0}
Counted (items.OpenObject class) None = ⊥
Counted (items.Key key) count = ⊥
Counted items.Close count = ⊥
Counted item (Some n) = ⊥
Counted item None = Unit {0}

pub record IsStart (d e : Draft) (count : Option ℕ) (bytes rest : List ℕ) : Type 0 where
  pub item : Item
  pub counted : Counted item count
  pub put : e ≡ pushed d item
  pub sound : fault_of d item ≡ None
  pub fits : AreSomeBytes bytes → FitsItem item
  pub text : bytes ≡ item_text item count ++ rest

-- what was begun: the draft, the number of members, and the rest
begun_is : (x y : Begun) (d : Draft) (bytes : List ℕ) → IsStart d x.0 x.1 bytes x.2 → x ≡ y → IsStart d y.0 y.1 bytes y.2
begun_is x y d bytes h e = subst (λ (z : Begun). IsStart d z.0 z.1 bytes z.2) e h

null_takes : (d : Draft) (bytes : List ℕ) (y : Begun) → null_at d bytes ≡ Ok y → IsStart d y.0 y.1 (78 ∷ bytes) y.2
unfolding null_at
null_takes d bytes y e =
    let a = bind_ok (mark_at 59 bytes) (λ rest. put_at d items.Null bytes >>= λ p. Ok (p, None, rest)) y e in
    let b = bind_ok (put_at d items.Null bytes) (λ p. Ok (p, None, a.0)) y a.2 in
    let start : IsStart d b.0 None (78 ∷ bytes) a.0 = record { item = items.Null; counted = tt; put = sym (put_ok (fault_of d items.Null) (pushed d items.Null) b.0 bytes b.1); sound = put_sound (fault_of d items.Null) (pushed d items.Null) b.0 bytes b.1; fits = λ _. tt; text = ap (λ (t : List ℕ). 78 ∷ t) (mark_takes 59 bytes a.0 a.1) } in
    begun_is (b.0, None, a.0) y d (78 ∷ bytes) start (ok_is (b.0, None, a.0) y b.2)

pub truth_text : (b : Bool) (rest : List ℕ) → 98 ∷ 58 ∷ (cond b (49 ∷ []) (48 ∷ []) ++ 59 ∷ rest) ≡ cond b (codes "b:1;") (codes "b:0;") ++ rest
truth_text true rest = refl
truth_text false rest = refl

truth_value_takes : (law : Written) (d : Draft) (bytes : List ℕ) (y : Begun) → truth_at d bytes ≡ Ok y → IsStart d y.0 y.1 (98 ∷ bytes) y.2
unfolding truth_at
truth_value_takes law d bytes y e =
    let a = bind_ok (mark_at 58 bytes) (λ number. number_as as_truth number >>= λ t. mark_at 59 t.1 >>= λ rest. put_at d (items.Bool t.0) bytes >>= λ p. Ok (p, None, rest)) y e in
    let b = bind_ok (number_as as_truth a.0) (λ t. mark_at 59 t.1 >>= λ rest. put_at d (items.Bool t.0) bytes >>= λ p. Ok (p, None, rest)) y a.2 in
    let m = bind_ok (mark_at 59 b.0.1) (λ rest. put_at d (items.Bool b.0.0) bytes >>= λ p. Ok (p, None, rest)) y b.2 in
    let p = bind_ok (put_at d (items.Bool b.0.0) bytes) (λ p. Ok (p, None, m.0)) y m.2 in
    let parts : bytes ≡ 58 ∷ (cond b.0.0 (49 ∷ []) (48 ∷ []) ++ 59 ∷ m.0) = mark_takes 58 bytes a.0 a.1 ∙ ap (λ (t : List ℕ). 58 ∷ t) (truth_takes law a.0 b.0.0 b.0.1 b.1 ∙ ap (λ (t : List ℕ). cond b.0.0 (49 ∷ []) (48 ∷ []) ++ t) (mark_takes 59 b.0.1 m.0 m.1)) in
    let start : IsStart d p.0 None (98 ∷ bytes) m.0 = record { item = items.Bool b.0.0; counted = tt; put = sym (put_ok (fault_of d (items.Bool b.0.0)) (pushed d (items.Bool b.0.0)) p.0 bytes p.1); sound = put_sound (fault_of d (items.Bool b.0.0)) (pushed d (items.Bool b.0.0)) p.0 bytes p.1; fits = λ _. tt; text = ap (λ (t : List ℕ). 98 ∷ t) parts ∙ truth_text b.0.0 m.0 } in
    begun_is (p.0, None, m.0) y d (98 ∷ bytes) start (ok_is (p.0, None, m.0) y p.2)

pub int_text : (n : _) (rest : List ℕ) → integer_text n ++ rest ≡ 105 ∷ 58 ∷ (signed_decimal n ++ 59 ∷ rest)
int_text n rest = simp append_assoc

pub str_text : (text rest : List ℕ) → string_text text ++ rest ≡ 115 ∷ 58 ∷ (decimal (length text) ++ 58 ∷ 34 ∷ (text ++ 34 ∷ 59 ∷ rest))
str_text text rest = simp append_assoc

int_takes : (law : Written) (d : Draft) (bytes : List ℕ) (y : Begun) → int_at d bytes ≡ Ok y → IsStart d y.0 y.1 (105 ∷ bytes) y.2
unfolding int_at
int_takes law d bytes y e =
    let a = bind_ok (integer_at bytes) (λ n. put_at d (items.Int n.0) bytes >>= λ p. Ok (p, None, n.1)) y e in
    let p = bind_ok (put_at d (items.Int a.0.0) bytes) (λ p. Ok (p, None, a.0.1)) y a.2 in
    let start : IsStart d p.0 None (105 ∷ bytes) a.0.1 = record { item = items.Int a.0.0; counted = tt; put = sym (put_ok (fault_of d (items.Int a.0.0)) (pushed d (items.Int a.0.0)) p.0 bytes p.1); sound = put_sound (fault_of d (items.Int a.0.0)) (pushed d (items.Int a.0.0)) p.0 bytes p.1; fits = λ _. integer_fits law bytes a.0.0 a.0.1 a.1; text = ap (λ (t : List ℕ). 105 ∷ t) (integer_takes law bytes a.0.0 a.0.1 a.1) ∙ sym (int_text a.0.0 a.0.1) } in
    begun_is (p.0, None, a.0.1) y d (105 ∷ bytes) start (ok_is (p.0, None, a.0.1) y p.2)

str_takes : (law : Written) (d : Draft) (bytes : List ℕ) (y : Begun) → str_at d bytes ≡ Ok y → IsStart d y.0 y.1 (115 ∷ bytes) y.2
unfolding str_at
str_takes law d bytes y e =
    let a = bind_ok (string_at bytes) (λ t. put_at d (items.Str t.0) bytes >>= λ p. Ok (p, None, t.1)) y e in
    let p = bind_ok (put_at d (items.Str a.0.0) bytes) (λ p. Ok (p, None, a.0.1)) y a.2 in
    let start : IsStart d p.0 None (115 ∷ bytes) a.0.1 = record { item = items.Str a.0.0; counted = tt; put = sym (put_ok (fault_of d (items.Str a.0.0)) (pushed d (items.Str a.0.0)) p.0 bytes p.1); sound = put_sound (fault_of d (items.Str a.0.0)) (pushed d (items.Str a.0.0)) p.0 bytes p.1; fits = λ f. string_fits law bytes a.0.0 a.0.1 a.1 f.1; text = ap (λ (t : List ℕ). 115 ∷ t) (string_takes law bytes a.0.0 a.0.1 a.1) ∙ sym (str_text a.0.0 a.0.1) } in
    begun_is (p.0, None, a.0.1) y d (115 ∷ bytes) start (ok_is (p.0, None, a.0.1) y p.2)

pub same_text : (x : ℕ) (rest : List ℕ) → (codes "r:" ++ decimal x ++ codes ";") ++ rest ≡ 114 ∷ 58 ∷ (decimal x ++ 59 ∷ rest)
same_text x rest = simp append_assoc

pub back_text : (x : ℕ) (rest : List ℕ) → (codes "R:" ++ decimal x ++ codes ";") ++ rest ≡ 82 ∷ 58 ∷ (decimal x ++ 59 ∷ rest)
back_text x rest = simp append_assoc

same_takes : (law : Written) (d : Draft) (bytes : List ℕ) (y : Begun) → same_at d bytes ≡ Ok y → IsStart d y.0 y.1 (114 ∷ bytes) y.2
unfolding same_at
same_takes law d bytes y e =
    let a = bind_ok (mark_at 58 bytes) (λ number. natural_at number >>= λ k. mark_at 59 k.1 >>= λ rest. put_at d (items.Same k.0) number >>= λ p. Ok (p, None, rest)) y e in
    let b = bind_ok (natural_at a.0) (λ k. mark_at 59 k.1 >>= λ rest. put_at d (items.Same k.0) a.0 >>= λ p. Ok (p, None, rest)) y a.2 in
    let m = bind_ok (mark_at 59 b.0.1) (λ rest. put_at d (items.Same b.0.0) a.0 >>= λ p. Ok (p, None, rest)) y b.2 in
    let p = bind_ok (put_at d (items.Same b.0.0) a.0) (λ p. Ok (p, None, m.0)) y m.2 in
    let parts : bytes ≡ 58 ∷ (decimal b.0.0 ++ 59 ∷ m.0) = mark_takes 58 bytes a.0 a.1 ∙ ap (λ (t : List ℕ). 58 ∷ t) (natural_takes law a.0 b.0.0 b.0.1 b.1 ∙ ap (λ (t : List ℕ). decimal b.0.0 ++ t) (mark_takes 59 b.0.1 m.0 m.1)) in
    let start : IsStart d p.0 None (114 ∷ bytes) m.0 = record { item = items.Same b.0.0; counted = tt; put = sym (put_ok (fault_of d (items.Same b.0.0)) (pushed d (items.Same b.0.0)) p.0 a.0 p.1); sound = put_sound (fault_of d (items.Same b.0.0)) (pushed d (items.Same b.0.0)) p.0 a.0 p.1; fits = λ _. tt; text = ap (λ (t : List ℕ). 114 ∷ t) parts ∙ sym (same_text b.0.0 m.0) } in
    begun_is (p.0, None, m.0) y d (114 ∷ bytes) start (ok_is (p.0, None, m.0) y p.2)

back_takes : (law : Written) (d : Draft) (bytes : List ℕ) (y : Begun) → back_at d bytes ≡ Ok y → IsStart d y.0 y.1 (82 ∷ bytes) y.2
unfolding back_at
back_takes law d bytes y e =
    let a = bind_ok (mark_at 58 bytes) (λ number. natural_at number >>= λ k. mark_at 59 k.1 >>= λ rest. put_at d (items.Back k.0) number >>= λ p. Ok (p, None, rest)) y e in
    let b = bind_ok (natural_at a.0) (λ k. mark_at 59 k.1 >>= λ rest. put_at d (items.Back k.0) a.0 >>= λ p. Ok (p, None, rest)) y a.2 in
    let m = bind_ok (mark_at 59 b.0.1) (λ rest. put_at d (items.Back b.0.0) a.0 >>= λ p. Ok (p, None, rest)) y b.2 in
    let p = bind_ok (put_at d (items.Back b.0.0) a.0) (λ p. Ok (p, None, m.0)) y m.2 in
    let parts : bytes ≡ 58 ∷ (decimal b.0.0 ++ 59 ∷ m.0) = mark_takes 58 bytes a.0 a.1 ∙ ap (λ (t : List ℕ). 58 ∷ t) (natural_takes law a.0 b.0.0 b.0.1 b.1 ∙ ap (λ (t : List ℕ). decimal b.0.0 ++ t) (mark_takes 59 b.0.1 m.0 m.1)) in
    let start : IsStart d p.0 None (82 ∷ bytes) m.0 = record { item = items.Back b.0.0; counted = tt; put = sym (put_ok (fault_of d (items.Back b.0.0)) (pushed d (items.Back b.0.0)) p.0 a.0 p.1); sound = put_sound (fault_of d (items.Back b.0.0)) (pushed d (items.Back b.0.0)) p.0 a.0 p.1; fits = λ _. tt; text = ap (λ (t : List ℕ). 82 ∷ t) parts ∙ sym (back_text b.0.0 m.0) } in
    begun_is (p.0, None, m.0) y d (82 ∷ bytes) start (ok_is (p.0, None, m.0) y p.2)

pub array_text : (n : ℕ) (rest : List ℕ) → array_head n ++ rest ≡ 97 ∷ 58 ∷ (decimal n ++ 58 ∷ 123 ∷ rest)
array_text n rest = simp append_assoc

pub object_text : (class : List ℕ) (n : ℕ) (rest : List ℕ) → object_head class n ++ rest ≡ 79 ∷ 58 ∷ (decimal (length class) ++ 58 ∷ 34 ∷ (class ++ 34 ∷ 58 ∷ (decimal n ++ 58 ∷ 123 ∷ rest)))
object_text class n rest = simp append_assoc

array_takes : (law : Written) (d : Draft) (bytes : List ℕ) (y : Begun) → array_at d bytes ≡ Ok y → IsStart d y.0 y.1 (97 ∷ bytes) y.2
unfolding array_at
array_takes law d bytes y e =
    let a = bind_ok (count_at bytes) (λ n. put_at d items.OpenArray bytes >>= λ p. Ok (p, Some n.0, n.1)) y e in
    let p = bind_ok (put_at d items.OpenArray bytes) (λ p. Ok (p, Some a.0.0, a.0.1)) y a.2 in
    let start : IsStart d p.0 (Some a.0.0) (97 ∷ bytes) a.0.1 = record { item = items.OpenArray; counted = tt; put = sym (put_ok (fault_of d items.OpenArray) (pushed d items.OpenArray) p.0 bytes p.1); sound = put_sound (fault_of d items.OpenArray) (pushed d items.OpenArray) p.0 bytes p.1; fits = λ _. tt; text = ap (λ (t : List ℕ). 97 ∷ t) (count_takes law bytes a.0.0 a.0.1 a.1) ∙ sym (array_text a.0.0 a.0.1) } in
    begun_is (p.0, Some a.0.0, a.0.1) y d (97 ∷ bytes) start (ok_is (p.0, Some a.0.0, a.0.1) y p.2)

object_takes : (law : Written) (d : Draft) (at bytes : List ℕ) (y : Begun) → object_at d at bytes ≡ Ok y → IsStart d y.0 y.1 (79 ∷ bytes) y.2
unfolding object_at
object_takes law d at bytes y e =
    let a = bind_ok (sized_at bytes) (λ class. put_at d (items.OpenObject class.0) at >>= λ p. count_at class.1 >>= λ n. Ok (p, Some n.0, n.1)) y e in
    let p = bind_ok (put_at d (items.OpenObject a.0.0) at) (λ p. count_at a.0.1 >>= λ n. Ok (p, Some n.0, n.1)) y a.2 in
    let n = bind_ok (count_at a.0.1) (λ n. Ok (p.0, Some n.0, n.1)) y p.2 in
    let parts : bytes ≡ 58 ∷ (decimal (length a.0.0) ++ 58 ∷ 34 ∷ (a.0.0 ++ 34 ∷ 58 ∷ (decimal n.0.0 ++ 58 ∷ 123 ∷ n.0.1))) = sized_takes law bytes a.0.0 a.0.1 a.1 ∙ ap (λ (t : List ℕ). 58 ∷ (decimal (length a.0.0) ++ 58 ∷ 34 ∷ (a.0.0 ++ 34 ∷ t))) (count_takes law a.0.1 n.0.0 n.0.1 n.1) in
    let start : IsStart d p.0 (Some n.0.0) (79 ∷ bytes) n.0.1 = record { item = items.OpenObject a.0.0; counted = tt; put = sym (put_ok (fault_of d (items.OpenObject a.0.0)) (pushed d (items.OpenObject a.0.0)) p.0 at p.1); sound = put_sound (fault_of d (items.OpenObject a.0.0)) (pushed d (items.OpenObject a.0.0)) p.0 at p.1; fits = λ f. sized_fits law bytes a.0.0 a.0.1 a.1 f.1; text = ap (λ (t : List ℕ). 79 ∷ t) parts ∙ sym (object_text a.0.0 n.0.0 n.0.1) } in
    begun_is (p.0, Some n.0.0, n.0.1) y d (79 ∷ bytes) start (ok_is (p.0, Some n.0.0, n.0.1) y n.2)

-- by the letter
moved : (tag letter : ℕ) (rest : List ℕ) (d : Draft) (y : Begun) → eqb tag letter ≡ true → IsStart d y.0 y.1 (letter ∷ rest) y.2 → IsStart d y.0 y.1 (tag ∷ rest) y.2
moved tag letter rest d y e h = subst (λ (b : ℕ). IsStart d y.0 y.1 (b ∷ rest) y.2) (sym (eqb-true tag letter e)) h

choose : (d : Draft) (y : Begun) (bytes : List ℕ) (b : Bool) (r s : Result Begun Fault) → (b ≡ true → r ≡ Ok y → IsStart d y.0 y.1 bytes y.2) → (b ≡ false → s ≡ Ok y → IsStart d y.0 y.1 bytes y.2) → cond b r s ≡ Ok y → IsStart d y.0 y.1 bytes y.2
choose d y bytes true r s f g e = f refl e
choose d y bytes false r s f g e = g refl e

last_tag : (tag : ℕ) → is_tag tag ≡ true → eqb tag 78 ≡ false → eqb tag 98 ≡ false → eqb tag 105 ≡ false → eqb tag 115 ≡ false → eqb tag 97 ≡ false → eqb tag 79 ≡ false → eqb tag 114 ≡ false → eqb tag 82 ≡ true
last_tag tag h a b c d e f g = sym (ap (λ (x : Bool). x || (eqb tag 98 || (eqb tag 105 || (eqb tag 115 || (eqb tag 97 || (eqb tag 79 || (eqb tag 114 || eqb tag 82))))))) a ∙ ap (λ (x : Bool). x || (eqb tag 105 || (eqb tag 115 || (eqb tag 97 || (eqb tag 79 || (eqb tag 114 || eqb tag 82)))))) b ∙ ap (λ (x : Bool). x || (eqb tag 115 || (eqb tag 97 || (eqb tag 79 || (eqb tag 114 || eqb tag 82))))) c ∙ ap (λ (x : Bool). x || (eqb tag 97 || (eqb tag 79 || (eqb tag 114 || eqb tag 82)))) d ∙ ap (λ (x : Bool). x || (eqb tag 79 || (eqb tag 114 || eqb tag 82))) e ∙ ap (λ (x : Bool). x || (eqb tag 114 || eqb tag 82)) f ∙ ap (λ (x : Bool). x || eqb tag 82) g) ∙ h

tagged_takes : (law : Written) (d : Draft) (tag : ℕ) (rest : List ℕ) (y : Begun) → is_tag tag ≡ true → tagged_at d tag rest ≡ Ok y → IsStart d y.0 y.1 (tag ∷ rest) y.2
unfolding tagged_at
tagged_takes law d tag rest y is =
    choose d y (tag ∷ rest) (eqb tag 78) _ _ (λ t e. moved tag 78 rest d y t (null_takes d rest y e)) (λ n1.
    choose d y (tag ∷ rest) (eqb tag 98) _ _ (λ t e. moved tag 98 rest d y t (truth_value_takes law d rest y e)) (λ n2.
    choose d y (tag ∷ rest) (eqb tag 105) _ _ (λ t e. moved tag 105 rest d y t (int_takes law d rest y e)) (λ n3.
    choose d y (tag ∷ rest) (eqb tag 115) _ _ (λ t e. moved tag 115 rest d y t (str_takes law d rest y e)) (λ n4.
    choose d y (tag ∷ rest) (eqb tag 97) _ _ (λ t e. moved tag 97 rest d y t (array_takes law d rest y e)) (λ n5.
    choose d y (tag ∷ rest) (eqb tag 79) _ _ (λ t e. moved tag 79 rest d y t (object_takes law d (tag ∷ rest) rest y e)) (λ n6.
    choose d y (tag ∷ rest) (eqb tag 114) _ _ (λ t e. moved tag 114 rest d y t (same_takes law d rest y e)) (λ n7 e.
    moved tag 82 rest d y (last_tag tag is n1 n2 n3 n4 n5 n6 n7) (back_takes law d rest y e))))))))

room_ok : (o : Option BuildFault) (bytes : List ℕ) (r : Result Begun Fault) (y : Begun) → if_room o bytes r ≡ Ok y → r ≡ Ok y
room_ok None bytes r y e = e
room_ok (Some fault) bytes r y e = absurd cc

tag_ok : (b : Bool) (r : Result Begun Fault) (fault : Fault) (y : Begun) → cond b r (Err fault) ≡ Ok y → (b ≡ true) × (r ≡ Ok y)
tag_ok true r fault y e = (refl, e)
tag_ok false r fault y e = absurd cc

pub begun_takes : (law : Written) (d : Draft) (bytes : List ℕ) (y : Begun) → begun_at d bytes ≡ Ok y → IsStart d y.0 y.1 bytes y.2
unfolding begun_at
begun_takes law d [] y e = absurd cc
begun_takes law d (tag ∷ rest) y e =
    let t = tag_ok (is_tag tag) (if_room (room_fault d) (tag ∷ rest) (tagged_at d tag rest)) _ y e in
    tagged_takes law d tag rest y t.0 (room_ok (room_fault d) (tag ∷ rest) (tagged_at d tag rest) y t.1)
