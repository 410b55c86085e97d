-- What was written of a value is read again.
use Rattle.std.proofs.Common.{◌≡◌, ℕ, zero, suc, ◌+◌, ◌^◌, ◌<◌, ◌≤◌, Bool, true, false, cond, ◌&&◌, List, [], ◌∷◌, ◌++◌, length, map, Option, Some, None, Result, Ok, Err, ℤ, FitsSigned, w64, refl, sym, ap, subst, ◌∙◌, append_assoc, arith, codes, add-zero, eqb, leb, ltb, get_or}
use Rattle.std.specs.Option.{is_none, option_and_then}
use Rattle.std.specs.Fmt.{decimal, signed_decimal}
use Rattle.std.specs.List.{AllByRecursion, count_by, sum_by}
use Rattle.std.proofs.lemmas.Bool.{ltb-true, eqb-true}
use Rattle.std.proofs.lemmas.List.Sums.{get_or-le-sum_by, sum_by-cons}
use Rattle.std.proofs.lemmas.Option.{slice_get_within, slice_get-get_or}
use Rattle.std.proofs.lemmas.List.{append-nil}
use Rattle.php_graph.specs.ByteStrings.{AreBytes}
use Rattle.php_graph.specs.declared.key.Key.{Key}
use Rattle.php_graph.specs.declared.key.Key.TheVariants as keys
use Rattle.php_graph.specs.declared.child.Child.{Child}
use Rattle.php_graph.specs.declared.child.Child.TheVariants.{Own, Back}
use Rattle.php_graph.specs.declared.kind.Kind.{Kind}
use Rattle.php_graph.specs.declared.kind.Kind.TheVariants as kinds
use Rattle.php_graph.specs.declared.item.Item.{Item}
use Rattle.php_graph.specs.declared.item.Item.TheVariants as items
use Rattle.php_graph.specs.declared.item.Wants.{Wants}
use Rattle.php_graph.specs.declared.item.Wants.TheVariants as wants
use Rattle.php_graph.specs.declared.item.BuildFault.{BuildFault}
use Rattle.php_graph.specs.Graph.{kind_at, levels, is_back, child_end, ends_after, children_of, end_of, IsGraph, FitsKind, FitsKey}
use Rattle.php_graph.specs.Building.{Draft, nothing_drafted, all_drafted, wants_of, item_fits, first_fault, room_fault, content_fault, fault_of, pushed, drafted, member_items, named, kind_items, child_items, items_of}
use Rattle.notation.specs.declared.fault.Fault.{Fault}
use Rattle.notation.specs.Marks.{◌>>=◌, mark_at, count_at}
use Rattle.notation.specs.Notation.{integer_text, string_text, key_text, array_head, object_head, member_texts, kind_text, child_text, text_of}
use Rattle.notation.specs.Parts.{members_of}
use Rattle.notation.specs.Answer.{IsReading}
use Rattle.notation.specs.Place.{Standing, left}
use Rattle.std.specs.Prelude.{MatchResult}
use Rattle.notation.specs.declared.fault.ReadFault.{ReadFault}
use Rattle.notation.specs.declared.fault.ReadFault.TheVariants as faults
use Rattle.notation.specs.Reading.{put_unless, put_at, Begun, null_at, truth_at, int_at, str_at, same_at, back_at, array_at, object_at, tagged_at, if_room, begun_at, takes_integers, key_tagged_at, key_at, members_at, closed_at, rest_of_value, value_with, value_at, reading_of}
use Rattle.notation.proofs.PartReadBack.{ReadBack, natural_read, truth_read, sized_read, string_read, integer_read, count_read}
use Rattle.notation.proofs.ItemTexts.{int_text, str_text, same_text, back_text, array_text, object_text, truth_text}
use Rattle.notation.proofs.WriterTexts.{held_by, own_at, no_level, then_some, if_some, some_same, back_text as back_words}
use Rattle.notation.proofs.ValueTexts.{named_len}
use Rattle.notation.proofs.MemberTexts.{After}
use Rattle.notation.proofs.PartTexts.{ok_is}

-- a builder that is given the items of the graph comes to it
abbrev pub CanBeWritten : List Kind → Type 0
CanBeWritten g = drafted nothing_drafted (items_of g) ≡ Some (all_drafted g)

-- ---- items that were taken

pub record IsTaken (d : Draft) (item : Item) (more : List Item) (f : Draft) : Type 0 where
  pub fits : item_fits (wants_of d) item ≡ true
  pub sound : fault_of d item ≡ None
  pub goes : drafted (pushed d item) more ≡ Some f

none_is : {A : Type 0} (o : Option A) → is_none o ≡ true → o ≡ None
none_is None e = refl
none_is (Some x) e = absurd cc

both_some : {A : Type 0} (s t : Bool) (o : Option A) (y : A) → cond (s && t) o None ≡ Some y → (s ≡ true) × (t ≡ true) × (o ≡ Some y)
both_some true true o y e = (refl, refl, e)
both_some true false o y e = absurd cc
both_some false t o y e = absurd cc

pub taken : (d : Draft) (item : Item) (more : List Item) (f : Draft) → drafted d (item ∷ more) ≡ Some f → IsTaken d item more f
taken d item more f e =
    let b = both_some (item_fits (wants_of d) item) (is_none (fault_of d item)) (drafted (pushed d item) more) f e in
    record { fits = b.0; sound = none_is (fault_of d item) b.1; goes = b.2 }

none_first : (a b : Option BuildFault) → first_fault a b ≡ None → a ≡ None
none_first None b e = refl
none_first (Some fault) b e = absurd cc

put_read : (d : Draft) (item : Item) (at : List ℕ) → fault_of d item ≡ None → put_at d item at ≡ Ok (pushed d item)
put_read d item at e = ap (λ (o : Option BuildFault). put_unless o (pushed d item) at) e

abbrev Read : Type 0
Read = Result Begun Fault

in_room : (d : Draft) (bytes : List ℕ) (r : Read) → room_fault d ≡ None → if_room (room_fault d) bytes r ≡ r
in_room d bytes r e = ap (λ (o : Option BuildFault). if_room o bytes r) e

-- ---- each item

null_read : (d : Draft) (rest : List ℕ) → fault_of d items.Null ≡ None → begun_at d (codes "N;" ++ rest) ≡ Ok (pushed d items.Null, None, rest)
unfolding begun_at tagged_at null_at
null_read d rest e =
    in_room d (78 ∷ 59 ∷ rest) (null_at d (59 ∷ rest)) (none_first (room_fault d) (content_fault d.places items.Null) e) ∙ ap (λ (r : Result Draft Fault). r >>= λ p. Ok (p, None, rest)) (put_read d items.Null (59 ∷ rest) e)

bool_read : (law : ReadBack) (d : Draft) (b : Bool) (rest : List ℕ) → fault_of d (items.Bool b) ≡ None → begun_at d (cond b (codes "b:1;") (codes "b:0;") ++ rest) ≡ Ok (pushed d (items.Bool b), None, rest)
unfolding begun_at tagged_at truth_at
bool_read law d b rest e =
    let after = 58 ∷ (cond b (49 ∷ []) (48 ∷ []) ++ 59 ∷ rest) in
    ap (begun_at d) (sym (truth_text b rest))
    ∙ in_room d (98 ∷ after) (truth_at d after) (none_first (room_fault d) (content_fault d.places (items.Bool b)) e)
    ∙ ap (λ (r : Result (Bool × List ℕ) Fault). r >>= λ t. mark_at 59 t.1 >>= λ left. put_at d (items.Bool t.0) after >>= λ p. Ok (p, None, left)) (truth_read law b rest)
    ∙ ap (λ (r : Result Draft Fault). r >>= λ p. Ok (p, None, rest)) (put_read d (items.Bool b) after e)

int_read : (law : ReadBack) (d : Draft) (n : ℤ) (rest : List ℕ) → FitsSigned w64 n → fault_of d (items.Int n) ≡ None → begun_at d (integer_text n ++ rest) ≡ Ok (pushed d (items.Int n), None, rest)
unfolding begun_at tagged_at int_at
int_read law d n rest fits e =
    let after = 58 ∷ (signed_decimal n ++ 59 ∷ rest) in
    ap (begun_at d) (int_text n rest)
    ∙ in_room d (105 ∷ after) (int_at d after) (none_first (room_fault d) (content_fault d.places (items.Int n)) e)
    ∙ ap (λ (r : Result (ℤ × List ℕ) Fault). r >>= λ t. put_at d (items.Int t.0) after >>= λ p. Ok (p, None, t.1)) (integer_read law n rest fits)
    ∙ ap (λ (r : Result Draft Fault). r >>= λ p. Ok (p, None, rest)) (put_read d (items.Int n) after e)

str_read : (law : ReadBack) (d : Draft) (s rest : List ℕ) → length s < 2 ^ 32 → fault_of d (items.Str s) ≡ None → begun_at d (string_text s ++ rest) ≡ Ok (pushed d (items.Str s), None, rest)
unfolding begun_at tagged_at str_at
str_read law d s rest short e =
    let after = 58 ∷ (decimal (length s) ++ 58 ∷ 34 ∷ (s ++ 34 ∷ 59 ∷ rest)) in
    ap (begun_at d) (str_text s rest)
    ∙ in_room d (115 ∷ after) (str_at d after) (none_first (room_fault d) (content_fault d.places (items.Str s)) e)
    ∙ ap (λ (r : Result (List ℕ × List ℕ) Fault). r >>= λ t. put_at d (items.Str t.0) after >>= λ p. Ok (p, None, t.1)) (string_read law s rest short)
    ∙ ap (λ (r : Result Draft Fault). r >>= λ p. Ok (p, None, rest)) (put_read d (items.Str s) after e)

same_read : (law : ReadBack) (d : Draft) (x : ℕ) (rest : List ℕ) → x < 2 ^ 32 → fault_of d (items.Same x) ≡ None → begun_at d ((codes "r:" ++ decimal x ++ codes ";") ++ rest) ≡ Ok (pushed d (items.Same x), None, rest)
unfolding begun_at tagged_at same_at
same_read law d x rest lt e =
    let number = decimal x ++ 59 ∷ rest in
    ap (begun_at d) (same_text x rest)
    ∙ in_room d (114 ∷ 58 ∷ number) (same_at d (58 ∷ number)) (none_first (room_fault d) (content_fault d.places (items.Same x)) e)
    ∙ ap (λ (r : Result (ℕ × List ℕ) Fault). r >>= λ k. mark_at 59 k.1 >>= λ left. put_at d (items.Same k.0) number >>= λ p. Ok (p, None, left)) (natural_read law x 59 rest lt refl)
    ∙ ap (λ (r : Result Draft Fault). r >>= λ p. Ok (p, None, rest)) (put_read d (items.Same x) number e)

back_read : (law : ReadBack) (d : Draft) (x : ℕ) (rest : List ℕ) → x < 2 ^ 32 → fault_of d (items.Back x) ≡ None → begun_at d ((codes "R:" ++ decimal x ++ codes ";") ++ rest) ≡ Ok (pushed d (items.Back x), None, rest)
unfolding begun_at tagged_at back_at
back_read law d x rest lt e =
    let number = decimal x ++ 59 ∷ rest in
    ap (begun_at d) (back_text x rest)
    ∙ in_room d (82 ∷ 58 ∷ number) (back_at d (58 ∷ number)) (none_first (room_fault d) (content_fault d.places (items.Back x)) e)
    ∙ ap (λ (r : Result (ℕ × List ℕ) Fault). r >>= λ k. mark_at 59 k.1 >>= λ left. put_at d (items.Back k.0) number >>= λ p. Ok (p, None, left)) (natural_read law x 59 rest lt refl)
    ∙ ap (λ (r : Result Draft Fault). r >>= λ p. Ok (p, None, rest)) (put_read d (items.Back x) number e)

array_read : (law : ReadBack) (d : Draft) (n : ℕ) (rest : List ℕ) → n < 2 ^ 32 → fault_of d items.OpenArray ≡ None → begun_at d (array_head n ++ rest) ≡ Ok (pushed d items.OpenArray, Some n, rest)
unfolding begun_at tagged_at array_at
array_read law d n rest lt e =
    let after = 58 ∷ (decimal n ++ 58 ∷ 123 ∷ rest) in
    ap (begun_at d) (array_text n rest)
    ∙ in_room d (97 ∷ after) (array_at d after) (none_first (room_fault d) (content_fault d.places items.OpenArray) e)
    ∙ ap (λ (r : Result (ℕ × List ℕ) Fault). r >>= λ t. put_at d items.OpenArray after >>= λ p. Ok (p, Some t.0, t.1)) (count_read law n rest lt)
    ∙ ap (λ (r : Result Draft Fault). r >>= λ p. Ok (p, Some n, rest)) (put_read d items.OpenArray after e)

object_read : (law : ReadBack) (d : Draft) (class : List ℕ) (n : ℕ) (rest : List ℕ) → length class < 2 ^ 32 → n < 2 ^ 32 → fault_of d (items.OpenObject class) ≡ None → begun_at d (object_head class n ++ rest) ≡ Ok (pushed d (items.OpenObject class), Some n, rest)
unfolding begun_at tagged_at object_at
object_read law d class n rest short lt e =
    let counted = 58 ∷ (decimal n ++ 58 ∷ 123 ∷ rest) in
    let after = 58 ∷ (decimal (length class) ++ 58 ∷ 34 ∷ (class ++ 34 ∷ counted)) in
    ap (begun_at d) (object_text class n rest)
    ∙ in_room d (79 ∷ after) (object_at d (79 ∷ after) after) (none_first (room_fault d) (content_fault d.places (items.OpenObject class)) e)
    ∙ ap (λ (r : Result (List ℕ × List ℕ) Fault). r >>= λ t. put_at d (items.OpenObject t.0) (79 ∷ after) >>= λ p. count_at t.1 >>= λ c. Ok (p, Some c.0, c.1)) (sized_read law class counted short)
    ∙ ap (λ (r : Result Draft Fault). r >>= λ p. count_at counted >>= λ c. Ok (p, Some c.0, c.1)) (put_read d (items.OpenObject class) (79 ∷ after) e)
    ∙ ap (λ (r : Result (ℕ × List ℕ) Fault). r >>= λ c. Ok (pushed d (items.OpenObject class), Some c.0, c.1)) (count_read law n rest lt)

-- ---- keys

abbrev int_key : Result (ℤ × List ℕ) Fault → Result (Key × List ℕ) Fault
int_key r = r >>= λ t. Ok (keys.Int t.0, t.1)

abbrev str_key : Result (List ℕ × List ℕ) Fault → Result (Key × List ℕ) Fault
str_key r = r >>= λ t. Ok (keys.Str t.0, t.1)

takes_int : (w : Wants) (n : ℤ) → item_fits w (items.Key (keys.Int n)) ≡ true → takes_integers w ≡ true
takes_int wants.ArrayKey n e = refl
takes_int wants.Value n e = absurd cc
takes_int wants.Name n e = absurd cc
takes_int wants.Done n e = absurd cc

key_read : (law : ReadBack) (d : Draft) (key : Key) (rest : List ℕ) → FitsKey key → item_fits (wants_of d) (items.Key key) ≡ true → fault_of d (items.Key key) ≡ None → key_at d (key_text key ++ rest) ≡ Ok (pushed d (items.Key key), rest)
unfolding key_at key_tagged_at
key_read law d (keys.Int n) rest fits want e =
    let after = 58 ∷ (signed_decimal n ++ 59 ∷ rest) in
    ap (key_at d) (int_text n rest)
    ∙ ap (λ (b : Bool). key_tagged_at b 105 after >>= λ key. put_at d (items.Key key.0) (105 ∷ after) >>= λ p. Ok (p, key.1)) (takes_int (wants_of d) n want)
    ∙ ap (λ (r : Result (ℤ × List ℕ) Fault). int_key r >>= λ key. put_at d (items.Key key.0) (105 ∷ after) >>= λ p. Ok (p, key.1)) (integer_read law n rest fits)
    ∙ ap (λ (r : Result Draft Fault). r >>= λ p. Ok (p, rest)) (put_read d (items.Key (keys.Int n)) (105 ∷ after) e)
key_read law d (keys.Str s) rest fits want e =
    let after = 58 ∷ (decimal (length s) ++ 58 ∷ 34 ∷ (s ++ 34 ∷ 59 ∷ rest)) in
    ap (key_at d) (str_text s rest)
    ∙ ap (λ (r : Result (List ℕ × List ℕ) Fault). str_key r >>= λ key. put_at d (items.Key key.0) (115 ∷ after) >>= λ p. Ok (p, key.1)) (string_read law s rest fits.0)
    ∙ ap (λ (r : Result Draft Fault). r >>= λ p. Ok (p, rest)) (put_read d (items.Key (keys.Str s)) (115 ∷ after) e)

-- ---- numbers are small

pub own_from : (level : ℕ) (g : List Kind) (x m e : ℕ) → child_end (suc level) g (Own x) m ≡ Some e → x ≡ m
unfolding child_end
own_from level g x m e h = eqb-true x m (if_some (eqb x m) (option_and_then (λ kind. ends_after (child_end level g) (children_of kind) (m + 1)) (kind_at g m)) e h).0

pub record IsShared (x m e : ℕ) : Type 0 where
  pub below : x < m
  pub same : m ≡ e

cond_some : (b c : Bool) (m e : ℕ) → cond (b && c) (Some m) None ≡ Some e → (c ≡ true) × (m ≡ e)
cond_some true true m e h = (refl, some_same m e h)
cond_some true false m e h = absurd cc
cond_some false c m e h = absurd cc

pub shared_at : (level : ℕ) (g : List Kind) (x m e : ℕ) → child_end (suc level) g (Back x) m ≡ Some e → IsShared x m e
unfolding child_end
shared_at level g x m e h =
    let b = cond_some (leb 1 x) (ltb x m) m e h in
    record { below = ltb-true x m b.0; same = b.1 }

pub ends_up : (end : Child → ℕ → Option ℕ) → ((c : Child) (m e : ℕ) → end c m ≡ Some e → m ≤ e) → (cs : List Child) (m e : ℕ) → ends_after end cs m ≡ Some e → m ≤ e
ends_up end up [] m e h = omega (arith, some_same m e h)
ends_up end up (c ∷ cs) m e h =
    let b = then_some (ends_after end cs) (end c m) e h in
    omega (arith, up c m b.0 b.1, ends_up end up cs b.0 e b.2)

pub child_up : (level : ℕ) (g : List Kind) (c : Child) (m e : ℕ) → child_end level g c m ≡ Some e → m ≤ e
child_up zero g c m e h = absurd (no_level g c m e h)
child_up (suc level) g (Back x) m e h = let s = shared_at level g x m e h in omega (arith, s.same)
child_up (suc level) g (Own x) m e h =
    let o = own_at level 0 g x m e h in
    omega (arith, own_from level g x m e h, ends_up (child_end level g) (child_up level g) (children_of o.kind) (x + 1) e o.ends)

own_up : (level : ℕ) (g : List Kind) (x m e : ℕ) → child_end level g (Own x) m ≡ Some e → m + 1 ≤ e
own_up zero g x m e h = absurd (no_level g (Own x) m e h)
own_up (suc level) g x m e h =
    let o = own_at level 0 g x m e h in
    omega (arith, own_from level g x m e h, ends_up (child_end level g) (child_up level g) (children_of o.kind) (x + 1) e o.ends)

children_few : (level : ℕ) (g : List Kind) (cs : List Child) (m e : ℕ) → ends_after (child_end level g) cs m ≡ Some e → m + length cs ≤ e + count_by is_back cs
children_few level g [] m e h = omega (arith, some_same m e h)
children_few level g (Own x ∷ cs) m e h =
    let b = then_some (ends_after (child_end level g) cs) (child_end level g (Own x) m) e h in
    let one : count_by is_back (Own x ∷ cs) ≡ 0 + count_by is_back cs = sum_by-cons (λ c. cond (is_back c) 1 0) (Own x) cs in
    omega (arith, own_up level g x m b.0 b.1, children_few level g cs b.0 e b.2, one)
children_few level g (Back x ∷ cs) m e h =
    let b = then_some (ends_after (child_end level g) cs) (child_end level g (Back x) m) e h in
    let one : count_by is_back (Back x ∷ cs) ≡ 1 + count_by is_back cs = sum_by-cons (λ c. cond (is_back c) 1 0) (Back x) cs in
    omega (arith, child_up level g (Back x) m b.0 b.1, children_few level g cs b.0 e b.2, one)

backs_few : (g : List Kind) (x : ℕ) (kind : Kind) → kind_at g x ≡ Some kind → count_by is_back (children_of kind) ≤ sum_by (λ k. count_by is_back (children_of k)) g
backs_few g zero kind e = absurd cc
backs_few g (suc k) kind e =
    let lt : k < length g = slice_get_within g k kind e in
    let at : get_or g k kind ≡ kind = some_same (get_or g k kind) kind (sym (slice_get-get_or g k kind lt) ∙ e) in
    subst (λ (y : Kind). count_by is_back (children_of y) ≤ sum_by (λ k. count_by is_back (children_of k)) g) at (get_or-le-sum_by (λ k. count_by is_back (children_of k)) g k kind lt)

pub few_members : (level : ℕ) (g : List Kind) (x : ℕ) (kind : Kind) (m e : ℕ) → IsGraph g → kind_at g x ≡ Some kind → ends_after (child_end level g) (children_of kind) m ≡ Some e → e ≤ length g + 1 → length (children_of kind) < 2 ^ 32
few_members level g x kind m e graph there ends small =
    omega (arith, children_few level g (children_of kind) m e ends, backs_few g x kind there, graph.count)

pub all_at : (g : List Kind) (x : ℕ) (kind : Kind) → AllByRecursion FitsKind g → kind_at g x ≡ Some kind → FitsKind kind
all_at [] zero kind all e = absurd cc
all_at [] (suc k) kind all e = absurd cc
all_at (y ∷ g) zero kind all e = absurd cc
all_at (y ∷ g) (suc zero) kind all e = subst FitsKind (some_same y kind e) all.0
all_at (y ∷ g) (suc (suc k)) kind all e = all_at g (suc k) kind all.1 e

-- ---- values

pub record IsRead (value : Draft → List ℕ → Result After Fault) (d : Draft) (bytes rest : List ℕ) (more : List Item) (f : Draft) : Type 0 where
  pub draft : Draft
  pub read : value d bytes ≡ Ok (draft, rest)
  pub goes : drafted draft more ≡ Some f

abbrev pub ReadsAgain : ℕ → List Kind → (Draft → List ℕ → Result After Fault) → Type 0
ReadsAgain level g value = (c : Child) (m e : ℕ) → child_end level g c m ≡ Some e → e ≤ length g + 1 → (d : Draft) (more : List Item) (f : Draft) (rest : List ℕ) → drafted d (child_items level g c ++ more) ≡ Some f → IsRead value d (child_text level 0 g c ++ rest) rest more f

members_again : (law : ReadBack) (level : ℕ) (g : List Kind) (value : Draft → List ℕ → Result After Fault) → ReadsAgain level g value → (ms : List (Key × Child)) (m e : ℕ) → ends_after (child_end level g) (map (λ x. x.1) ms) m ≡ Some e → e ≤ length g + 1 → AllByRecursion (λ x. FitsKey x.0) ms
    → (d : Draft) (more : List Item) (f : Draft) (rest : List ℕ) → drafted d (member_items (child_items level g) ms ++ more) ≡ Some f → IsRead (members_at value (length ms)) d (member_texts (child_text level 0 g) ms ++ rest) rest more f
members_again law level g value again [] m e ends small fits d more f rest h = record { draft = d; read = refl; goes = h }
members_again law level g value again (x ∷ ms) m e ends small fits d more f rest h =
    let written = child_items level g in
    let w = child_text level 0 g in
    let t = taken d (items.Key x.0) ((written x.1 ++ member_items written ms) ++ more) f h in
    let b = then_some (ends_after (child_end level g) (map (λ y. y.1) ms)) (child_end level g x.1 m) e ends in
    let up : b.0 ≤ e = ends_up (child_end level g) (child_up level g) (map (λ y. y.1) ms) b.0 e b.2 in
    let goes : drafted (pushed d (items.Key x.0)) (written x.1 ++ (member_items written ms ++ more)) ≡ Some f = ap (drafted (pushed d (items.Key x.0))) (sym (append_assoc (written x.1) (member_items written ms) more)) ∙ t.goes in
    let v = again x.1 m b.0 b.1 (omega (arith, up, small)) (pushed d (items.Key x.0)) (member_items written ms ++ more) f (member_texts w ms ++ rest) goes in
    let r = members_again law level g value again ms b.0 e b.2 small fits.1 v.draft more f rest v.goes in
    let after = (w x.1 ++ member_texts w ms) ++ rest in
    let first : key_at d ((key_text x.0 ++ (w x.1 ++ member_texts w ms)) ++ rest) ≡ Ok (pushed d (items.Key x.0), after) = ap (key_at d) (append_assoc (key_text x.0) (w x.1 ++ member_texts w ms) rest) ∙ key_read law d x.0 after fits.0 t.fits t.sound in
    let second : value (pushed d (items.Key x.0)) after ≡ Ok (v.draft, member_texts w ms ++ rest) = ap (value (pushed d (items.Key x.0))) (append_assoc (w x.1) (member_texts w ms) rest) ∙ v.read in
    record {
      draft = r.draft;
      read = ap (λ (a : Result After Fault). a >>= λ k. value k.0 k.1 >>= λ y. members_at value (length ms) y.0 y.1) first ∙ ap (λ (a : Result After Fault). a >>= λ y. members_at value (length ms) y.0 y.1) second ∙ r.read;
      goes = r.goes;
    }

closed_read : (d : Draft) (rest : List ℕ) → closed_at d (125 ∷ rest) ≡ Ok (pushed d items.Close, rest)
unfolding closed_at
closed_read d rest = refl

container_again : (law : ReadBack) (level : ℕ) (g : List Kind) (value : Draft → List ℕ → Result After Fault) → ReadsAgain level g value → (item : Item) (head : List ℕ) (ms : List (Key × Child)) (m e : ℕ) → ends_after (child_end level g) (map (λ x. x.1) ms) m ≡ Some e → e ≤ length g + 1 → AllByRecursion (λ x. FitsKey x.0) ms
    → (d : Draft) (more : List Item) (f : Draft) (rest : List ℕ) → ((inner : List ℕ) → fault_of d item ≡ None → begun_at d (head ++ inner) ≡ Ok (pushed d item, Some (length ms), inner))
    → drafted d (((item ∷ member_items (child_items level g) ms) ++ items.Close ∷ []) ++ more) ≡ Some f → IsRead (value_with value) d ((head ++ (member_texts (child_text level 0 g) ms ++ codes "}")) ++ rest) rest more f
container_again law level g value again item head ms m e ends small fits d more f rest begun h =
    let mi = member_items (child_items level g) ms in
    let mt = member_texts (child_text level 0 g) ms in
    let t = taken d item ((mi ++ items.Close ∷ []) ++ more) f h in
    let goes : drafted (pushed d item) (mi ++ items.Close ∷ more) ≡ Some f = ap (drafted (pushed d item)) (sym (append_assoc mi (items.Close ∷ []) more)) ∙ t.goes in
    let r = members_again law level g value again ms m e ends small fits (pushed d item) (items.Close ∷ more) f (125 ∷ rest) goes in
    let c = taken r.draft items.Close more f r.goes in
    let text : (head ++ (mt ++ codes "}")) ++ rest ≡ head ++ (mt ++ 125 ∷ rest) = append_assoc head (mt ++ codes "}") rest ∙ ap (λ (x : List ℕ). head ++ x) (append_assoc mt (codes "}") rest) in
    record {
      draft = pushed r.draft items.Close;
      read = ap (value_with value d) text ∙ ap (λ (a : Read). a >>= rest_of_value value) (begun (mt ++ 125 ∷ rest) t.sound) ∙ ap (λ (a : Result After Fault). a >>= λ y. closed_at y.0 y.1) r.read ∙ closed_read r.draft rest;
      goes = c.goes;
    }

plain_again : (value : Draft → List ℕ → Result After Fault) (d : Draft) (item : Item) (text rest : List ℕ) (more : List Item) (f : Draft) → drafted d (item ∷ more) ≡ Some f → (fault_of d item ≡ None → begun_at d (text ++ rest) ≡ Ok (pushed d item, None, rest)) → IsRead (value_with value) d (text ++ rest) rest more f
plain_again value d item text rest more f h begun =
    let t = taken d item more f h in
    record { draft = pushed d item; read = ap (λ (a : Read). a >>= rest_of_value value) (begun t.sound); goes = t.goes }

pub names_fit : (ps : List (List ℕ × Child)) → AllByRecursion (λ p. AreBytes p.0) ps → AllByRecursion (λ x. FitsKey x.0) (map named ps)
names_fit [] h = tt
names_fit (p ∷ ps) h = (h.0, names_fit ps h.1)

map_len : (ms : List (Key × Child)) → length (map (λ m. m.1) ms) ≡ length ms
map_len [] = refl
map_len (m ∷ ms) = ap suc (map_len ms)

pub held_len : (kind : Kind) → length (children_of kind) ≡ length (members_of kind)
held_len kind = ap length (held_by kind) ∙ map_len (members_of kind)

pub within_at : (g : List Kind) (x : ℕ) (kind : Kind) → kind_at g x ≡ Some kind → x ≤ length g
within_at g zero kind e = absurd cc
within_at g (suc k) kind e = let lt : k < length g = slice_get_within g k kind e in omega arith

by_kind : (law : ReadBack) (level : ℕ) (g : List Kind) (value : Draft → List ℕ → Result After Fault) → ReadsAgain level g value → IsGraph g → (x : ℕ) (kind : Kind) (m e : ℕ) → kind_at g x ≡ Some kind → ends_after (child_end level g) (children_of kind) m ≡ Some e → e ≤ length g + 1
    → (d : Draft) (more : List Item) (f : Draft) (rest : List ℕ) → drafted d (kind_items (child_items level g) (Some kind) ++ more) ≡ Some f → IsRead (value_with value) d (kind_text 0 (child_text level 0 g) (Some kind) ++ rest) rest more f
by_kind law level g value again graph x kinds.Null m e there ends small d more f rest h = plain_again value d items.Null (codes "N;") rest more f h (null_read d rest)
by_kind law level g value again graph x (kinds.Bool b) m e there ends small d more f rest h = plain_again value d (items.Bool b) (cond b (codes "b:1;") (codes "b:0;")) rest more f h (bool_read law d b rest)
by_kind law level g value again graph x (kinds.Int n) m e there ends small d more f rest h = plain_again value d (items.Int n) (integer_text n) rest more f h (int_read law d n rest (all_at g x (kinds.Int n) graph.fits there))
by_kind law level g value again graph x (kinds.Str s) m e there ends small d more f rest h = plain_again value d (items.Str s) (string_text s) rest more f h (str_read law d s rest (all_at g x (kinds.Str s) graph.fits there).0)
by_kind law level g value again graph x (kinds.Same y) m e there ends small d more f rest h =
    let below : y < x = (graph.targets x y there).0 in
    let within : x ≤ length g = within_at g x (kinds.Same y) there in
    let lt : y < 2 ^ 32 = omega (arith, below, within, graph.count) in
    let text : codes "r:" ++ decimal (y + 0) ++ codes ";" ≡ codes "r:" ++ decimal y ++ codes ";" = ap (λ (n : ℕ). codes "r:" ++ decimal n ++ codes ";") (add-zero y) in
    subst (λ (t : List ℕ). IsRead (value_with value) d (t ++ rest) rest more f) (sym text) (plain_again value d (items.Same y) (codes "r:" ++ decimal y ++ codes ";") rest more f h (same_read law d y rest lt))
by_kind law level g value again graph x (kinds.Array ms) m e there ends small d more f rest h =
    let few : length ms < 2 ^ 32 = subst (λ (n : ℕ). n < 2 ^ 32) (map_len ms) (few_members level g x (kinds.Array ms) m e graph there ends small) in
    container_again law level g value again items.OpenArray (array_head (length ms)) ms m e ends small (all_at g x (kinds.Array ms) graph.fits there) d more f rest (λ inner sound. array_read law d (length ms) inner few sound) h
by_kind law level g value again graph x (kinds.Object class ps) m e there ends small d more f rest h =
    let fits = all_at g x (kinds.Object class ps) graph.fits there in
    let held : map (λ p. p.1) ps ≡ map (λ y. y.1) (map named ps) = held_by (kinds.Object class ps) in
    let ended : ends_after (child_end level g) (map (λ y. y.1) (map named ps)) m ≡ Some e = ap (λ (cs : List Child). ends_after (child_end level g) cs m) (sym held) ∙ ends in
    let count : length (children_of (kinds.Object class ps)) ≡ length (map named ps) = held_len (kinds.Object class ps) in
    let few : length (map named ps) < 2 ^ 32 = subst (λ (n : ℕ). n < 2 ^ 32) count (few_members level g x (kinds.Object class ps) m e graph there ends small) in
    let len : length (map named ps) ≡ length ps = named_len ps in
    let mt = member_texts (child_text level 0 g) (map named ps) ++ codes "}" in
    subst (λ (n : ℕ). IsRead (value_with value) d ((object_head class n ++ mt) ++ rest) rest more f) len
    (container_again law level g value again (items.OpenObject class) (object_head class (length (map named ps))) (map named ps) m e ended small (names_fit ps fits.1) d more f rest (λ inner sound. object_read law d class (length (map named ps)) inner fits.0.0 few sound) h)

own_items : (level : ℕ) (g : List Kind) (x : ℕ) (kind : Kind) → kind_at g x ≡ Some kind → child_items (suc level) g (Own x) ≡ kind_items (child_items level g) (Some kind)
unfolding child_items
own_items level g x kind e = ap (λ (o : Option Kind). kind_items (child_items level g) o) e

back_items : (level : ℕ) (g : List Kind) (x : ℕ) → child_items (suc level) g (Back x) ≡ items.Back x ∷ []
unfolding child_items
back_items level g x = refl

value_read_again : (law : ReadBack) (g : List Kind) → IsGraph g → (level : ℕ) → ReadsAgain level g (value_at level)
unfolding value_at
value_read_again law g graph zero c m e ends small d more f rest h = absurd (no_level g c m e ends)
value_read_again law g graph (suc level) (Back x) m e ends small d more f rest h =
    let s = shared_at level g x m e ends in
    let lt : x < 2 ^ 32 = omega (arith, s.below, s.same, small, graph.count) in
    let text : child_text (suc level) 0 g (Back x) ≡ codes "R:" ++ decimal x ++ codes ";" = back_words level 0 g x ∙ ap (λ (n : ℕ). codes "R:" ++ decimal n ++ codes ";") (add-zero x) in
    let goes : drafted d (items.Back x ∷ more) ≡ Some f = ap (λ (l : List Item). drafted d (l ++ more)) (sym (back_items level g x)) ∙ h in
    subst (λ (t : List ℕ). IsRead (value_with (value_at level)) d (t ++ rest) rest more f) (sym text) (plain_again (value_at level) d (items.Back x) (codes "R:" ++ decimal x ++ codes ";") rest more f goes (back_read law d x rest lt))
value_read_again law g graph (suc level) (Own x) m e ends small d more f rest h =
    let o = own_at level 0 g x m e ends in
    let goes : drafted d (kind_items (child_items level g) (Some o.kind) ++ more) ≡ Some f = ap (λ (l : List Item). drafted d (l ++ more)) (sym (own_items level g x o.kind o.there)) ∙ h in
    subst (λ (t : List ℕ). IsRead (value_with (value_at level)) d (t ++ rest) rest more f) (sym o.text) (by_kind law level g (value_at level) (value_read_again law g graph level) graph x o.kind (x + 1) e o.there o.ends small d more f rest goes)

abbrev given : List Kind × List ℕ → Result (List Kind × List ℕ) Fault
given p = Ok p

-- The text of a graph is read.
pub spelled_read : (law : ReadBack) (g : List Kind) (rest : List ℕ) → IsGraph g → CanBeWritten g → reading_of (text_of g ++ rest) ≡ Ok (g, rest)
unfolding reading_of items_of end_of
spelled_read law g rest graph push =
    let whole : drafted nothing_drafted (child_items levels g (Own 1) ++ []) ≡ Some (all_drafted g) = ap (drafted nothing_drafted) (append-nil (child_items levels g (Own 1))) ∙ push in
    let r = value_read_again law g graph levels (Own 1) 1 (length g + 1) graph.sealed (omega arith) nothing_drafted [] (all_drafted g) rest whole in
    let same : r.draft ≡ all_drafted g = some_same r.draft (all_drafted g) r.goes in
    ap (λ (a : Result After Fault). a >>= λ p. Ok (p.0.places, p.1)) r.read ∙ ap (λ (x : Draft). given (x.places, rest)) same

-- No text of a value is the front of another.
pub no_front : (law : ReadBack) (g h : List Kind) (x y : List ℕ) → IsGraph g → CanBeWritten g → IsGraph h → CanBeWritten h → text_of g ++ x ≡ text_of h ++ y → (g ≡ h) × (x ≡ y)
no_front law g h x y gg gw hh hw e =
    let same = ok_is (g, x) (h, y) (sym (spelled_read law g x gg gw) ∙ ap reading_of e ∙ spelled_read law h y hh hw) in
    (ap (λ (p : List Kind × List ℕ). p.0) same, ap (λ (p : List Kind × List ℕ). p.1) same)

pub answered : (law : ReadBack) (g : List Kind) (from to : Standing) (rest : List ℕ) (r : Result (List Kind) ReadFault) → IsGraph g → CanBeWritten g → left from ≡ text_of g ++ rest → IsReading from to r → MatchResult r (λ h. (h ≡ g) × (left to ≡ rest)) (λ e. e ≡ faults.Memory)
answered law g from to rest (Ok h) graph can text read =
    let same = ok_is (h, left to) (g, rest) (sym read ∙ ap reading_of text ∙ spelled_read law g rest graph can) in
    (ap (λ (p : List Kind × List ℕ). p.0) same, ap (λ (p : List Kind × List ℕ). p.1) same)
answered law g from to rest (Err faults.Memory) graph can text read = refl
answered law g from to rest (Err (faults.Bad place reason)) graph can text read =
    let clash = sym read.1 ∙ ap reading_of text ∙ spelled_read law g rest graph can in absurd cc
