-- No text of a value is the front of another, whatever is added to the numbers of places: two texts that
-- begin alike have the same first token, and so on.
use Rattle.std.proofs.Common.{◌≡◌, ℕ, zero, suc, ◌+◌, ◌^◌, ◌<◌, ◌≤◌, Bool, true, false, cond, eqb, List, [], ◌∷◌, ◌++◌, length, map, Option, Some, None, Result, Ok, ℤ, pos, negsuc, FitsSigned, w64, refl, sym, ap, ap₂, subst, ◌∙◌, append_assoc, arith, codes}
use Rattle.std.specs.Prelude.{nat_le, if◌then◌else◌}
use Rattle.std.specs.Fmt.{decimal}
use Rattle.std.specs.List.{AllByRecursion}
use Rattle.php_graph.specs.declared.key.Key.{Key}
use Rattle.php_graph.specs.declared.key.Key.TheVariants as keys
use Rattle.php_graph.specs.declared.child.Child.{Child}
use Rattle.php_graph.specs.declared.child.Child.TheVariants.{Own, Back}
use Rattle.php_graph.specs.declared.kind.Kind.{Kind}
use Rattle.php_graph.specs.declared.kind.Kind.TheVariants as kinds
use Rattle.php_graph.specs.declared.item.Item.{Item}
use Rattle.php_graph.specs.declared.item.Item.TheVariants as items
use Rattle.php_graph.specs.Graph.{kind_at, levels, child_end, ends_after, children_of, end_of, IsGraph, FitsKind, FitsKey}
use Rattle.php_graph.specs.Building.{named, is_container}
use Rattle.notation.specs.declared.fault.Fault.{Fault}
use Rattle.notation.specs.declared.fault.Reason.TheVariants.{End}
use Rattle.notation.specs.Marks.{◌>>=◌, fail, mark_at, number_as, as_truth, sized_at, string_at, integer_at, count_at}
use Rattle.notation.specs.Notation.{key_text, member_texts, kind_text, child_text, text_from}
use Rattle.notation.specs.Parts.{members_of, start_text}
use Rattle.notation.specs.Reading.{key_tagged_at}
use Rattle.notation.proofs.PartReadBack.{ReadBack, as_read, truth_read, sized_read, string_read, integer_read, count_read}
use Rattle.notation.proofs.ItemTexts.{item_text, int_text, str_text, same_text, back_text, array_text, object_text, truth_text}
use Rattle.notation.proofs.WriterTexts.{held_by, kind_split, own_at, no_level, then_some, some_same, back_text as back_words}
use Rattle.notation.proofs.ValueReadBack.{own_from, shared_at, ends_up, child_up, few_members, all_at, names_fit, held_len, within_at}
use Rattle.notation.proofs.PartTexts.{ok_is}

-- ---- the first token of a value

-- a token: an item, with how many members are to come, and the bytes after it
abbrev Token : Type 0
Token = Item × Option ℕ × List ℕ

abbrev any_natural : ℤ → Option ℕ
any_natural (pos n) = Some n
any_natural (negsuc n) = None

abbrev numbered : (ℕ → Item) → List ℕ → Result Token Fault
numbered item bytes = mark_at 58 bytes >>= λ number. number_as any_natural number >>= λ k. mark_at 59 k.1 >>= λ rest. Ok (item k.0, None, rest)

abbrev token_by : ℕ → List ℕ → Result Token Fault
token_by tag rest =
    if eqb tag 78 then (mark_at 59 rest >>= λ after. Ok (items.Null, None, after))
    else if eqb tag 98 then (mark_at 58 rest >>= λ number. number_as as_truth number >>= λ t. mark_at 59 t.1 >>= λ after. Ok (items.Bool t.0, None, after))
    else if eqb tag 105 then (integer_at rest >>= λ n. Ok (items.Int n.0, None, n.1))
    else if eqb tag 115 then (string_at rest >>= λ s. Ok (items.Str s.0, None, s.1))
    else if eqb tag 97 then (count_at rest >>= λ n. Ok (items.OpenArray, Some n.0, n.1))
    else if eqb tag 79 then (sized_at rest >>= λ class. count_at class.1 >>= λ n. Ok (items.OpenObject class.0, Some n.0, n.1))
    else if eqb tag 114 then numbered items.Same rest
    else numbered items.Back rest

token_at : List ℕ → Result Token Fault
token_at [] = fail End []
token_at (tag ∷ rest) = token_by tag rest

-- what a token may hold
abbrev Fits : Item → Option ℕ → Type 0
Fits items.Null None = Unit {0}
Fits (items.Bool b) None = Unit {0}
Fits (items.Int n) None = FitsSigned w64 n
Fits (items.Str s) None = length s < 2 ^ 32
Fits items.OpenArray (Some n) = n < 2 ^ 32
Fits (items.OpenObject class) (Some n) = (length class < 2 ^ 32) × (n < 2 ^ 32)
Fits (items.Same x) None = x < 2 ^ 63
Fits (items.Back x) None = x < 2 ^ 63
Fits item count = ⊥

number_again : (law : ReadBack) (x : ℕ) (rest : List ℕ) → x < 2 ^ 63 → number_as any_natural (decimal x ++ 59 ∷ rest) ≡ Ok (x, 59 ∷ rest)
number_again law x rest lt = as_read law any_natural (pos x) x 59 rest (record { sfits = omega (arith, lt) }) refl refl

numbered_again : (law : ReadBack) (item : ℕ → Item) (x : ℕ) (rest : List ℕ) → x < 2 ^ 63 → numbered item (58 ∷ (decimal x ++ 59 ∷ rest)) ≡ Ok (item x, None, rest)
numbered_again law item x rest lt = ap (λ (r : Result (ℕ × List ℕ) Fault). r >>= λ k. mark_at 59 k.1 >>= λ left. Ok (item k.0, None, left)) (number_again law x rest lt)

token_again : (law : ReadBack) (item : Item) (count : Option ℕ) (rest : List ℕ) → Fits item count → token_at (item_text item count ++ rest) ≡ Ok (item, count, rest)
unfolding token_at
token_again law items.Null None rest fits = refl
token_again law (items.Bool b) None rest fits =
    ap token_at (sym (truth_text b rest))
    ∙ ap (λ (r : Result (Bool × List ℕ) Fault). r >>= λ t. mark_at 59 t.1 >>= λ after. Ok (items.Bool t.0, None, after)) (truth_read law b rest)
token_again law (items.Int n) None rest fits = ap token_at (int_text n rest) ∙ ap (λ (r : Result (ℤ × List ℕ) Fault). r >>= λ t. Ok (items.Int t.0, None, t.1)) (integer_read law n rest fits)
token_again law (items.Str s) None rest fits = ap token_at (str_text s rest) ∙ ap (λ (r : Result (List ℕ × List ℕ) Fault). r >>= λ t. Ok (items.Str t.0, None, t.1)) (string_read law s rest fits)
token_again law items.OpenArray (Some n) rest fits = ap token_at (array_text n rest) ∙ ap (λ (r : Result (ℕ × List ℕ) Fault). r >>= λ t. Ok (items.OpenArray, Some t.0, t.1)) (count_read law n rest fits)
token_again law (items.OpenObject class) (Some n) rest fits =
    ap token_at (object_text class n rest)
    ∙ (ap (λ (r : Result (List ℕ × List ℕ) Fault). r >>= λ c. count_at c.1 >>= λ t. Ok (items.OpenObject c.0, Some t.0, t.1)) (sized_read law class (58 ∷ (decimal n ++ 58 ∷ 123 ∷ rest)) fits.0)
    ∙ ap (λ (r : Result (ℕ × List ℕ) Fault). r >>= λ t. Ok (items.OpenObject class, Some t.0, t.1)) (count_read law n rest fits.1))
token_again law (items.Same x) None rest fits = ap token_at (same_text x rest) ∙ numbered_again law items.Same x rest fits
token_again law (items.Back x) None rest fits = ap token_at (back_text x rest) ∙ numbered_again law items.Back x rest fits
token_again law items.Null (Some n) rest fits = absurd fits
token_again law (items.Bool b) (Some n) rest fits = absurd fits
token_again law (items.Int i) (Some n) rest fits = absurd fits
token_again law (items.Str s) (Some n) rest fits = absurd fits
token_again law items.OpenArray None rest fits = absurd fits
token_again law (items.OpenObject class) None rest fits = absurd fits
token_again law (items.Same x) (Some n) rest fits = absurd fits
token_again law (items.Back x) (Some n) rest fits = absurd fits
token_again law (items.Key key) count rest fits = absurd fits
token_again law items.Close count rest fits = absurd fits

record IsToken (item other : Item) (count more : Option ℕ) (x y : List ℕ) : Type 0 where
  items_are : item ≡ other
  counts_are : count ≡ more
  left : x ≡ y

same_token : (law : ReadBack) (item other : Item) (count more : Option ℕ) (x y : List ℕ) → Fits item count → Fits other more → item_text item count ++ x ≡ item_text other more ++ y → IsToken item other count more x y
same_token law item other count more x y one two e =
    let first : Token = (item, count, x) in
    let second : Token = (other, more, y) in
    let is : first ≡ second = ok_is first second (sym (token_again law item count x one) ∙ (ap token_at e ∙ token_again law other more y two)) in
    record { items_are = ap (λ (t : Token). t.0) is; counts_are = ap (λ (t : Token). t.1) is; left = ap (λ (t : Token). t.2) is }

-- ---- keys

key_from : List ℕ → Result (Key × List ℕ) Fault
key_from [] = fail End []
key_from (tag ∷ rest) = key_tagged_at true tag rest

key_again : (law : ReadBack) (key : Key) (rest : List ℕ) → FitsKey key → key_from (key_text key ++ rest) ≡ Ok (key, rest)
unfolding key_from key_tagged_at
key_again law (keys.Int n) rest fits = ap key_from (int_text n rest) ∙ ap (λ (r : Result (ℤ × List ℕ) Fault). r >>= λ t. Ok (keys.Int t.0, t.1)) (integer_read law n rest fits)
key_again law (keys.Str s) rest fits = ap key_from (str_text s rest) ∙ ap (λ (r : Result (List ℕ × List ℕ) Fault). r >>= λ t. Ok (keys.Str t.0, t.1)) (string_read law s rest fits.0)

same_key : (law : ReadBack) (a b : Key) (x y : List ℕ) → FitsKey a → FitsKey b → key_text a ++ x ≡ key_text b ++ y → (a ≡ b) × (x ≡ y)
same_key law a b x y one two e =
    let first : Key × List ℕ = (a, x) in
    let second : Key × List ℕ = (b, y) in
    let is : first ≡ second = ok_is first second (sym (key_again law a x one) ∙ (ap key_from e ∙ key_again law b y two)) in
    (ap (λ (t : Key × List ℕ). t.0) is, ap (λ (t : Key × List ℕ). t.1) is)

-- ---- the first token of a place

abbrev item_of : ℕ → Kind → Item
item_of base kinds.Null = items.Null
item_of base (kinds.Bool b) = items.Bool b
item_of base (kinds.Int n) = items.Int n
item_of base (kinds.Str s) = items.Str s
item_of base (kinds.Array ms) = items.OpenArray
item_of base (kinds.Object class ps) = items.OpenObject class
item_of base (kinds.Same x) = items.Same (x + base)

abbrev count_of : Kind → Option ℕ
count_of (kinds.Array ms) = Some (length ms)
count_of (kinds.Object class ps) = Some (length ps)
count_of kind = None

start_is : (base : ℕ) (kind : Kind) → start_text base kind ≡ item_text (item_of base kind) (count_of kind)
start_is base kinds.Null = refl
start_is base (kinds.Bool b) = refl
start_is base (kinds.Int n) = refl
start_is base (kinds.Str s) = refl
start_is base (kinds.Array ms) = refl
start_is base (kinds.Object class ps) = refl
start_is base (kinds.Same x) = refl

named_same : (ps qs : List (List ℕ × Child)) → map named ps ≡ map named qs → ps ≡ qs
named_same [] [] e = refl
named_same [] (q ∷ qs) e = absurd cc
named_same (p ∷ ps) [] e = absurd cc
named_same (p ∷ ps) (q ∷ qs) e =
    let first : named p ≡ named q = cc in
    let others : map named ps ≡ map named qs = cc in
    let name : p.0 ≡ q.0 = name_of (ap (λ (m : Key × Child). m.0) first) in
    ap₂ (λ (m : List ℕ × Child) (l : List (List ℕ × Child)). m ∷ l) (λ i. (name i, (ap (λ (m : Key × Child). m.1) first) i)) (named_same ps qs others)
  where
    name_of : keys.Str p.0 ≡ keys.Str q.0 → p.0 ≡ q.0
    name_of e = cc

number_in : Item → ℕ
number_in (items.Same x) = x
number_in item = 0

-- places with one first token and the same members are the same
same_kind : (base : ℕ) (k l : Kind) → item_of base k ≡ item_of base l → members_of k ≡ members_of l → k ≡ l
unfolding number_in
same_kind base kinds.Null kinds.Null e m = refl
same_kind base (kinds.Bool b) (kinds.Bool c) e m = cc
same_kind base (kinds.Int a) (kinds.Int b) e m = cc
same_kind base (kinds.Str s) (kinds.Str t) e m = cc
same_kind base (kinds.Array ms) (kinds.Array ns) e m = ap (λ (l : List (Key × Child)). kinds.Array l) m
same_kind base (kinds.Object class ps) (kinds.Object other qs) e m =
    let c : class ≡ other = cc in
    ap₂ (λ (name : List ℕ) (l : List (List ℕ × Child)). kinds.Object name l) c (named_same ps qs m)
same_kind base (kinds.Same x) (kinds.Same y) e m = let n : x + base ≡ y + base = ap number_in e in ap (λ (z : ℕ). kinds.Same z) (omega (arith, n))
same_kind base k l e m = absurd cc

is_open : Item → Bool
is_open items.OpenArray = true
is_open (items.OpenObject class) = true
is_open item = false

opens_as : (base : ℕ) (kind : Kind) → is_container kind ≡ is_open (item_of base kind)
unfolding is_open
opens_as base kinds.Null = refl
opens_as base (kinds.Bool b) = refl
opens_as base (kinds.Int n) = refl
opens_as base (kinds.Str s) = refl
opens_as base (kinds.Array ms) = refl
opens_as base (kinds.Object class ps) = refl
opens_as base (kinds.Same x) = refl

named_len : (ps : List (List ℕ × Child)) → length (map named ps) ≡ length ps
named_len [] = refl
named_len (p ∷ ps) = ap suc (named_len ps)

count_in : Option ℕ → ℕ
count_in (Some n) = n
count_in None = 0

members_len : (kind : Kind) → length (members_of kind) ≡ count_in (count_of kind)
unfolding count_in
members_len kinds.Null = refl
members_len (kinds.Bool b) = refl
members_len (kinds.Int n) = refl
members_len (kinds.Str s) = refl
members_len (kinds.Array ms) = refl
members_len (kinds.Object class ps) = named_len ps
members_len (kinds.Same x) = refl

no_back : (base n : ℕ) (kind : Kind) → items.Back n ≡ item_of base kind → ⊥
no_back base n kinds.Null e = cc
no_back base n (kinds.Bool b) e = cc
no_back base n (kinds.Int i) e = cc
no_back base n (kinds.Str s) e = cc
no_back base n (kinds.Array ms) e = cc
no_back base n (kinds.Object class ps) e = cc
no_back base n (kinds.Same x) e = cc

-- ---- values

-- what is said of two members whose texts begin alike
pub record AreAlike (g h : List Kind) (c d : Child) (m e f : ℕ) (x y : List ℕ) : Type 0 where
  pub child : c ≡ d
  pub ends : e ≡ f
  pub left : x ≡ y
  pub places : (k : ℕ) → m ≤ k → k < e → kind_at g k ≡ kind_at h k

abbrev pub TellsApart : ℕ → ℕ → List Kind → List Kind → Type 0
TellsApart level base g h = (c d : Child) (m e f : ℕ) (x y : List ℕ) → child_end level g c m ≡ Some e → child_end level h d m ≡ Some f → e ≤ length g + 1 → f ≤ length h + 1
    → child_text level base g c ++ x ≡ child_text level base h d ++ y → AreAlike g h c d m e f x y

record AreMembersAlike (g h : List Kind) (ms ns : List (Key × Child)) (m e f : ℕ) (x y : List ℕ) : Type 0 where
  members : ms ≡ ns
  ends : e ≡ f
  left : x ≡ y
  places : (k : ℕ) → m ≤ k → k < e → kind_at g k ≡ kind_at h k

abbrev FitMembers : List (Key × Child) → Type 0
FitMembers ms = AllByRecursion (λ x. FitsKey x.0) ms

not_below : (n k : ℕ) → nat_le n k ≡ false → k < n
not_below n k e = grind (arith, e)

not_above : (n k : ℕ) → nat_le n k ≡ true → n ≤ k
not_above n k e = grind (arith, e)

joined_alike : (g h : List Kind) (m n e : ℕ) → ((k : ℕ) → m ≤ k → k < n → kind_at g k ≡ kind_at h k) → ((k : ℕ) → n ≤ k → k < e → kind_at g k ≡ kind_at h k) → (k : ℕ) → m ≤ k → k < e → kind_at g k ≡ kind_at h k
joined_alike g h m n e low high k from to = by_order (nat_le n k) refl
  where
    by_order : (b : Bool) → nat_le n k ≡ b → kind_at g k ≡ kind_at h k
    by_order true is = high k (not_above n k is) to
    by_order false is = low k from (not_below n k is)

members_apart : (law : ReadBack) (level base : ℕ) (g h : List Kind) → TellsApart level base g h → (ms ns : List (Key × Child)) (m e f : ℕ) (x y : List ℕ) → length ms ≡ length ns → FitMembers ms → FitMembers ns
    → ends_after (child_end level g) (map (λ z. z.1) ms) m ≡ Some e → ends_after (child_end level h) (map (λ z. z.1) ns) m ≡ Some f → e ≤ length g + 1 → f ≤ length h + 1
    → member_texts (child_text level base g) ms ++ x ≡ member_texts (child_text level base h) ns ++ y → AreMembersAlike g h ms ns m e f x y
members_apart law level base g h apart [] [] m e f x y len one two ends others small less text =
    record { members = refl; ends = sym (some_same m e ends) ∙ some_same m f others; left = text; places = λ k from to. absurd (let n = some_same m e ends in omega (arith, from, to, n)) }
members_apart law level base g h apart [] (b ∷ ns) m e f x y len one two ends others small less text = absurd (omega (arith, len))
members_apart law level base g h apart (a ∷ ms) [] m e f x y len one two ends others small less text = absurd (omega (arith, len))
members_apart law level base g h apart (a ∷ ms) (b ∷ ns) m e f x y len one two ends others small less text =
    let v = child_text level base g in
    let w = child_text level base h in
    let split : (key_text a.0 ++ (v a.1 ++ member_texts v ms)) ++ x ≡ key_text a.0 ++ (v a.1 ++ (member_texts v ms ++ x)) = append_assoc (key_text a.0) (v a.1 ++ member_texts v ms) x ∙ ap (λ (t : List ℕ). key_text a.0 ++ t) (append_assoc (v a.1) (member_texts v ms) x) in
    let splits : (key_text b.0 ++ (w b.1 ++ member_texts w ns)) ++ y ≡ key_text b.0 ++ (w b.1 ++ (member_texts w ns ++ y)) = append_assoc (key_text b.0) (w b.1 ++ member_texts w ns) y ∙ ap (λ (t : List ℕ). key_text b.0 ++ t) (append_assoc (w b.1) (member_texts w ns) y) in
    let k = same_key law a.0 b.0 (v a.1 ++ (member_texts v ms ++ x)) (w b.1 ++ (member_texts w ns ++ y)) one.0 two.0 (sym split ∙ (text ∙ splits)) in
    let s = then_some (ends_after (child_end level g) (map (λ z. z.1) ms)) (child_end level g a.1 m) e ends in
    let t = then_some (ends_after (child_end level h) (map (λ z. z.1) ns)) (child_end level h b.1 m) f others in
    let up = ends_up (child_end level g) (child_up level g) (map (λ z. z.1) ms) s.0 e s.2 in
    let ups = ends_up (child_end level h) (child_up level h) (map (λ z. z.1) ns) t.0 f t.2 in
    let c = apart a.1 b.1 m s.0 t.0 (member_texts v ms ++ x) (member_texts w ns ++ y) s.1 t.1 (omega (arith, up, small)) (omega (arith, ups, less)) k.1 in
    let same_end : ends_after (child_end level h) (map (λ z. z.1) ns) s.0 ≡ Some f = ap (λ (n : ℕ). ends_after (child_end level h) (map (λ z. z.1) ns) n) c.ends ∙ t.2 in
    let r = members_apart law level base g h apart ms ns s.0 e f x y (omega (arith, len)) one.1 two.1 s.2 same_end small less c.left in
    record {
      members = ap₂ (λ (z : Key × Child) (l : List (Key × Child)). z ∷ l) (λ i. (k.0 i, c.child i)) r.members;
      ends = r.ends;
      left = r.left;
      places = joined_alike g h m s.0 e c.places r.places;
    }

-- a token of a kind that stands in a graph fits
kind_fits : (level base : ℕ) (g : List Kind) (x : ℕ) (kind : Kind) (m e : ℕ) → base < 2 ^ 56 → IsGraph g → kind_at g x ≡ Some kind → ends_after (child_end level g) (children_of kind) m ≡ Some e → e ≤ length g + 1 → Fits (item_of base kind) (count_of kind)
kind_fits level base g x kinds.Null m e low graph there ends small = tt
kind_fits level base g x (kinds.Bool b) m e low graph there ends small = tt
kind_fits level base g x (kinds.Int n) m e low graph there ends small = all_at g x (kinds.Int n) graph.fits there
kind_fits level base g x (kinds.Str s) m e low graph there ends small = (all_at g x (kinds.Str s) graph.fits there).0
kind_fits level base g x (kinds.Array ms) m e low graph there ends small =
    subst (λ (n : ℕ). n < 2 ^ 32) (held_len (kinds.Array ms)) (few_members level g x (kinds.Array ms) m e graph there ends small)
kind_fits level base g x (kinds.Object class ps) m e low graph there ends small =
    let fits = all_at g x (kinds.Object class ps) graph.fits there in
    (fits.0.0, subst (λ (n : ℕ). n < 2 ^ 32) (held_len (kinds.Object class ps) ∙ named_len ps) (few_members level g x (kinds.Object class ps) m e graph there ends small))
kind_fits level base g x (kinds.Same y) m e low graph there ends small =
    let below : y < x = (graph.targets x y there).0 in
    let within : x ≤ length g = within_at g x (kinds.Same y) there in
    let few : length g ≤ 16777216 = omega (arith, graph.count) in
    omega (arith, below, within, few, low)

members_fit : (kind : Kind) → FitsKind kind → FitMembers (members_of kind)
members_fit kinds.Null fits = tt
members_fit (kinds.Bool b) fits = tt
members_fit (kinds.Int n) fits = tt
members_fit (kinds.Str s) fits = tt
members_fit (kinds.Array ms) fits = fits
members_fit (kinds.Object class ps) fits = names_fit ps fits.1
members_fit (kinds.Same x) fits = tt

back_fits : (base x m : ℕ) (g : List Kind) → base < 2 ^ 56 → IsGraph g → x < m → m ≤ length g + 1 → x + base < 2 ^ 63
back_fits base x m g low graph below small =
    let few : length g ≤ 16777216 = omega (arith, graph.count) in
    omega (arith, below, small, few, low)

plain_members : (kind : Kind) → is_container kind ≡ false → members_of kind ≡ []
plain_members kinds.Null e = refl
plain_members (kinds.Bool b) e = refl
plain_members (kinds.Int n) e = refl
plain_members (kinds.Str s) e = refl
plain_members (kinds.Array ms) e = absurd cc
plain_members (kinds.Object class ps) e = absurd cc
plain_members (kinds.Same x) e = refl

back_number : Item → ℕ
back_number (items.Back x) = x
back_number item = 0

-- what stands behind the first token of a place, up to what follows the place
abbrev tail_of : (Child → List ℕ) → Kind → List ℕ
tail_of w kind = cond (is_container kind) (member_texts w (members_of kind) ++ codes "}") []

token_first : (base : ℕ) (w : Child → List ℕ) (kind : Kind) (x : List ℕ) → kind_text base w (Some kind) ++ x ≡ item_text (item_of base kind) (count_of kind) ++ (tail_of w kind ++ x)
token_first base w kind x =
    ap (λ (t : List ℕ). t ++ x) (kind_split base w kind ∙ ap (λ (t : List ℕ). t ++ tail_of w kind) (start_is base kind))
    ∙ append_assoc (item_text (item_of base kind) (count_of kind)) (tail_of w kind) x

tails_apart : (law : ReadBack) (level base : ℕ) (g h : List Kind) → TellsApart level base g h → (k l : Kind) (m e f : ℕ) (x y : List ℕ) (opens : Bool) → is_container k ≡ opens → is_container l ≡ opens → length (members_of k) ≡ length (members_of l) → FitMembers (members_of k) → FitMembers (members_of l)
    → ends_after (child_end level g) (map (λ z. z.1) (members_of k)) m ≡ Some e → ends_after (child_end level h) (map (λ z. z.1) (members_of l)) m ≡ Some f → e ≤ length g + 1 → f ≤ length h + 1
    → tail_of (child_text level base g) k ++ x ≡ tail_of (child_text level base h) l ++ y → AreMembersAlike g h (members_of k) (members_of l) m e f x y
tails_apart law level base g h apart k l m e f x y true one_opens other_opens len one two ends others small less text =
    let v = child_text level base g in
    let w = child_text level base h in
    let tail : (k : Kind) (w : Child → List ℕ) (x : List ℕ) → is_container k ≡ true → tail_of w k ++ x ≡ member_texts w (members_of k) ++ (codes "}" ++ x) =
    λ k w x opens. ap (λ (b : Bool). cond b (member_texts w (members_of k) ++ codes "}") [] ++ x) opens ∙ append_assoc (member_texts w (members_of k)) (codes "}") x in
    let r = members_apart law level base g h apart (members_of k) (members_of l) m e f (codes "}" ++ x) (codes "}" ++ y) len one two ends others small less (sym (tail k v x one_opens) ∙ (text ∙ tail l w y other_opens)) in
    record { members = r.members; ends = r.ends; left = cc; places = r.places }
tails_apart law level base g h apart k l m e f x y false one_opens other_opens len one two ends others small less text =
    let none : (k : Kind) → is_container k ≡ false → members_of k ≡ [] = plain_members in
    let a = none k one_opens in
    let b = none l other_opens in
    let first : m ≡ e = some_same m e (sym (ap (λ (z : List (Key × Child)). ends_after (child_end level g) (map (λ z. z.1) z) m) a) ∙ ends) in
    let second : m ≡ f = some_same m f (sym (ap (λ (z : List (Key × Child)). ends_after (child_end level h) (map (λ z. z.1) z) m) b) ∙ others) in
    let plain : (k : Kind) (w : Child → List ℕ) (x : List ℕ) → is_container k ≡ false → tail_of w k ++ x ≡ x =
    λ k w x opens. ap (λ (b : Bool). cond b (member_texts w (members_of k) ++ codes "}") [] ++ x) opens in
    record {
      members = a ∙ sym b;
      ends = sym first ∙ second;
      left = sym (plain k (child_text level base g) x one_opens) ∙ (text ∙ plain l (child_text level base h) y other_opens);
      places = λ i from to. absurd (omega (arith, from, to, first));
    }

value_apart : (law : ReadBack) (base : ℕ) (g h : List Kind) → base < 2 ^ 56 → IsGraph g → IsGraph h → (level : ℕ) → TellsApart level base g h
unfolding back_number
value_apart law base g h low gg hh zero c d m e f x y ends others small less text = absurd (no_level g c m e ends)
value_apart law base g h low gg hh (suc level) (Back p) (Back q) m e f x y ends others small less text =
    let s = shared_at level g p m e ends in
    let t = shared_at level h q m f others in
    let token = same_token law (items.Back (p + base)) (items.Back (q + base)) None None x y (back_fits base p m g low gg s.below (omega (arith, s.same, small))) (back_fits base q m h low hh t.below (omega (arith, t.same, less)))
    (ap (λ (l : List ℕ). l ++ x) (sym (back_words level base g p)) ∙ (text ∙ ap (λ (l : List ℕ). l ++ y) (back_words level base h q))) in
    let n : p + base ≡ q + base = ap back_number token.items_are in
    record {
      child = ap (λ (z : ℕ). Back z) (omega (arith, n));
      ends = sym s.same ∙ t.same;
      left = token.left;
      places = λ k from to. absurd (omega (arith, from, to, s.same));
    }
value_apart law base g h low gg hh (suc level) (Back p) (Own q) m e f x y ends others small less text =
    let s = shared_at level g p m e ends in
    let o = own_at level base h q m f others in
    let fits = kind_fits level base h q o.kind (q + 1) f low hh o.there o.ends less in
    let token = same_token law (items.Back (p + base)) (item_of base o.kind) None (count_of o.kind) x (tail_of (child_text level base h) o.kind ++ y) (back_fits base p m g low gg s.below (omega (arith, s.same, small))) fits
    (ap (λ (l : List ℕ). l ++ x) (sym (back_words level base g p)) ∙ (text ∙ (ap (λ (l : List ℕ). l ++ y) o.text ∙ token_first base (child_text level base h) o.kind y))) in
    absurd (no_back base (p + base) o.kind token.items_are)
value_apart law base g h low gg hh (suc level) (Own p) (Back q) m e f x y ends others small less text =
    let s = shared_at level h q m f others in
    let o = own_at level base g p m e ends in
    let fits = kind_fits level base g p o.kind (p + 1) e low gg o.there o.ends small in
    let token = same_token law (items.Back (q + base)) (item_of base o.kind) None (count_of o.kind) y (tail_of (child_text level base g) o.kind ++ x) (back_fits base q m h low hh s.below (omega (arith, s.same, less))) fits
    (ap (λ (l : List ℕ). l ++ y) (sym (back_words level base h q)) ∙ (sym text ∙ (ap (λ (l : List ℕ). l ++ x) o.text ∙ token_first base (child_text level base g) o.kind x))) in
    absurd (no_back base (q + base) o.kind token.items_are)
value_apart law base g h low gg hh (suc level) (Own p) (Own q) m e f x y ends others small less text =
    let o = own_at level base g p m e ends in
    let u = own_at level base h q m f others in
    let p-is : p ≡ m = own_from level g p m e ends in
    let q-is : q ≡ m = own_from level h q m f others in
    let v = child_text level base g in
    let w = child_text level base h in
    let token = same_token law (item_of base o.kind) (item_of base u.kind) (count_of o.kind) (count_of u.kind) (tail_of v o.kind ++ x) (tail_of w u.kind ++ y)
    (kind_fits level base g p o.kind (p + 1) e low gg o.there o.ends small) (kind_fits level base h q u.kind (q + 1) f low hh u.there u.ends less)
    (sym (ap (λ (l : List ℕ). l ++ x) o.text ∙ token_first base v o.kind x) ∙ (text ∙ (ap (λ (l : List ℕ). l ++ y) u.text ∙ token_first base w u.kind y))) in
    let opens : is_container u.kind ≡ is_container o.kind = opens_as base u.kind ∙ (ap is_open (sym token.items_are) ∙ sym (opens_as base o.kind)) in
    let len : length (members_of o.kind) ≡ length (members_of u.kind) = members_len o.kind ∙ (ap count_in token.counts_are ∙ sym (members_len u.kind)) in
    let one : ends_after (child_end level g) (map (λ z. z.1) (members_of o.kind)) (m + 1) ≡ Some e = ap (λ (cs : List Child). ends_after (child_end level g) cs (m + 1)) (sym (held_by o.kind)) ∙ (ap (λ (n : ℕ). ends_after (child_end level g) (children_of o.kind) (n + 1)) (sym p-is) ∙ o.ends) in
    let two : ends_after (child_end level h) (map (λ z. z.1) (members_of u.kind)) (m + 1) ≡ Some f = ap (λ (cs : List Child). ends_after (child_end level h) cs (m + 1)) (sym (held_by u.kind)) ∙ (ap (λ (n : ℕ). ends_after (child_end level h) (children_of u.kind) (n + 1)) (sym q-is) ∙ u.ends) in
    let r = tails_apart law level base g h (value_apart law base g h low gg hh level) o.kind u.kind (m + 1) e f x y (is_container o.kind) refl opens len (members_fit o.kind (all_at g p o.kind gg.fits o.there)) (members_fit u.kind (all_at h q u.kind hh.fits u.there)) one two small less token.left in
    let kind : o.kind ≡ u.kind = same_kind base o.kind u.kind token.items_are r.members in
    let here : kind_at g m ≡ kind_at h m = ap (kind_at g) (sym p-is) ∙ (o.there ∙ (ap (λ (z : Kind). Some z) kind ∙ (sym u.there ∙ ap (kind_at h) q-is))) in
    record {
      child = ap (λ (z : ℕ). Own z) (p-is ∙ sym q-is);
      ends = r.ends;
      left = r.left;
      places = joined_alike g h m (m + 1) e (λ k from to. let is : m ≡ k = omega (arith, from, to) in subst (λ (n : ℕ). kind_at g n ≡ kind_at h n) is here) r.places;
    }

later : (g h : List Kind) (k l : Kind) → ((i : ℕ) → 1 ≤ i → i < length (k ∷ g) + 1 → kind_at (k ∷ g) i ≡ kind_at (l ∷ h) i) → (i : ℕ) → 1 ≤ i → i < length g + 1 → kind_at g i ≡ kind_at h i
later g h k l alike zero from to = absurd (omega (arith, from))
later g h k l alike (suc i) from to = alike (suc (suc i)) (omega arith) (omega (arith, to))

alike_same : (g h : List Kind) → length g ≡ length h → ((k : ℕ) → 1 ≤ k → k < length g + 1 → kind_at g k ≡ kind_at h k) → g ≡ h
alike_same [] [] len alike = refl
alike_same [] (l ∷ h) len alike = absurd (omega (arith, len))
alike_same (k ∷ g) [] len alike = absurd (omega (arith, len))
alike_same (k ∷ g) (l ∷ h) len alike =
    ap₂ (λ (z : Kind) (zs : List Kind). z ∷ zs) (some_same k l (alike 1 (omega arith) (omega arith))) (alike_same g h (omega (arith, len)) (later g h k l alike))

-- No text of a value is the front of another.
pub texts_apart : (law : ReadBack) (base : ℕ) (g h : List Kind) (x y : List ℕ) → base < 2 ^ 56 → IsGraph g → IsGraph h → text_from base g ++ x ≡ text_from base h ++ y → (g ≡ h) × (x ≡ y)
unfolding end_of
texts_apart law base g h x y low gg hh text =
    let a = value_apart law base g h low gg hh levels (Own 1) (Own 1) 1 (length g + 1) (length h + 1) x y gg.sealed hh.sealed (omega arith) (omega arith) text in
    let len = a.ends in
    (alike_same g h (omega (arith, len)) a.places, a.left)
