-- The texts of items: field by field, and step by step.
use Rattle.std.proofs.Common.{◌≡◌, ℕ, suc, ◌+◌, ◌-◌, ◌^◌, ◌<◌, Bool, true, false, cond, List, [], ◌∷◌, ◌++◌, length, drop, get_or, refl, sym, ap, ap₂, ◌∙◌, append_assoc, drop-cons, add-one, arith}
use Rattle.std.specs.Prelude.{min, pos, codes, ◌==◌}
use Rattle.std.specs.Int.{bit_at}
use Rattle.std.specs.List.{sum_by}
use Rattle.std.specs.Fmt.{decimal}
use Rattle.std.proofs.lemmas.List.Sums.{sum_by-cons, sum_by-append}
use Rattle.php_graph.specs.declared.kind.Kind.TheVariants as kinds
use Rattle.php_graph.specs.Numbers.{int_of_text}
use Rattle.notation.specs.Keys.{written_key}
use Rattle.notation.specs.Notation.{text_from, child_text, integer_text, string_text}
use Rattle.apcu_model.specs.Infos.{info_number, info_string}
use Rattle.apcu_model.specs.declared.searching.Fields.{Fields}
use Rattle.apcu_model.specs.declared.items.ItemRow.{ItemRow}
use Rattle.reply_text.specs.Replies.{Member, members_text, value_members}
use Rattle.reply_text.specs.Items.{NamedValue, numbers_of, if_chosen, chosen_from, item_text, item_numbers, item_members}

-- ---- values of one place

pub number_place : (base n : ℕ) → text_from base (info_number n 1) ≡ integer_text (pos (min n (2 ^ 63 - 1)))
unfolding child_text
number_place base n = refl

pub string_place : (base : ℕ) (bytes : List ℕ) → text_from base (info_string bytes 1) ≡ string_text bytes
unfolding child_text
string_place base bytes = refl

pub null_place : (base : ℕ) → text_from base (kinds.Null ∷ []) ≡ codes "N;"
unfolding child_text
null_place base = refl

-- ---- members, one behind the other

pub members_append : (xs ys : List Member) → members_text (xs ++ ys) ≡ members_text xs ++ members_text ys
members_append [] ys = refl
members_append (x ∷ xs) ys =
    let key : List ℕ = written_key (int_of_text x.0) x.0 in
    ap (λ (l : List ℕ). key ++ (x.1 ++ l)) (members_append xs ys)
    ∙ (ap (λ (l : List ℕ). key ++ l) (sym (append_assoc x.1 (members_text xs) (members_text ys)))
    ∙ sym (append_assoc key (x.1 ++ members_text xs) (members_text ys)))

values_append : (base : ℕ) (xs ys : List NamedValue) → value_members base (xs ++ ys) ≡ value_members base xs ++ value_members (base + numbers_of xs) ys
values_append base [] ys = ap (λ (n : ℕ). value_members n ys) (omega arith)
values_append base (x ∷ xs) ys =
    let sum = sum_by-cons (λ (v : NamedValue). length v.1) x xs in
    let next : base + length x.1 + numbers_of xs ≡ base + numbers_of (x ∷ xs) = omega (arith, sum) in
    ap (λ (l : List Member). value_members base (x ∷ []) ++ l)
    (values_append (base + length x.1) xs ys ∙ ap (λ (n : ℕ). value_members (base + length x.1) xs ++ value_members n ys) next)

-- ---- fields

-- the texts of the fields from this one on
pub field_text : (fields : Fields) (bit base : ℕ) (v : NamedValue) (vs : List NamedValue)
    → members_text (value_members base (chosen_from bit fields (v ∷ vs)))
    ≡ members_text (value_members base (if_chosen fields bit v))
    ++ members_text (value_members (base + numbers_of (if_chosen fields bit v)) (chosen_from (bit + 1) fields vs))
field_text fields bit base v vs =
    ap members_text (values_append base (if_chosen fields bit v) (chosen_from (bit + 1) fields vs))
    ∙ members_append (value_members base (if_chosen fields bit v)) (value_members (base + numbers_of (if_chosen fields bit v)) (chosen_from (bit + 1) fields vs))

-- how many values stand in them
pub field_numbers : (fields : Fields) (bit : ℕ) (v : NamedValue) (vs : List NamedValue)
    → numbers_of (chosen_from bit fields (v ∷ vs)) ≡ numbers_of (if_chosen fields bit v) + numbers_of (chosen_from (bit + 1) fields vs)
field_numbers fields bit v vs = sum_by-append (λ (v : NamedValue). length v.1) (if_chosen fields bit v) (chosen_from (bit + 1) fields vs)

len_chosen : (b : Bool) (v : NamedValue) (vs : List NamedValue) → length (cond b (v ∷ []) [] ++ vs) ≡ cond b 1 0 + length vs
len_chosen true v vs = omega arith
len_chosen false v vs = omega arith

-- and how many of them are chosen
pub field_count : (fields : Fields) (vs : List NamedValue) (i : ℕ) → i < length vs
    → length (chosen_from i fields (drop i vs)) ≡ cond (bit_at fields.0 i == 1) 1 0 + length (chosen_from (i + 1) fields (drop (i + 1) vs))
field_count fields vs i lt =
    let none : NamedValue = ([], []) in
    ap (λ (l : List NamedValue). length (chosen_from i fields l)) (drop-cons vs i none lt)
    ∙ (len_chosen (bit_at fields.0 i == 1) (get_or vs i none) (chosen_from (i + 1) fields (drop (suc i) vs))
    ∙ ap (λ (n : ℕ). cond (bit_at fields.0 i == 1) 1 0 + length (chosen_from (i + 1) fields (drop n vs))) (sym (add-one i)))

-- ---- items

pub items_len : (fields : Fields) (n base : ℕ) (rows : List ItemRow) → length (item_members fields n base rows) ≡ length rows
items_len fields n base [] = refl
items_len fields n base (row ∷ rows) = ap suc (items_len fields (n + 1) (base + item_numbers fields row) rows)

items_append : (fields : Fields) (n base : ℕ) (xs ys : List ItemRow)
    → item_members fields n base (xs ++ ys)
    ≡ item_members fields n base xs ++ item_members fields (n + length xs) (base + sum_by (item_numbers fields) xs) ys
items_append fields n base [] ys = ap₂ (λ (k b : ℕ). item_members fields k b ys) (omega arith) (omega arith)
items_append fields n base (x ∷ xs) ys =
    let sum = sum_by-cons (item_numbers fields) x xs in
    let key : n + 1 + length xs ≡ n + length (x ∷ xs) = omega arith in
    let next : base + item_numbers fields x + sum_by (item_numbers fields) xs ≡ base + sum_by (item_numbers fields) (x ∷ xs) = omega (arith, sum) in
    ap (λ (l : List Member). item_members fields n base (x ∷ []) ++ l)
    (items_append fields (n + 1) (base + item_numbers fields x) xs ys
    ∙ ap₂ (λ (k b : ℕ). item_members fields (n + 1) (base + item_numbers fields x) xs ++ item_members fields k b ys) key next)

-- the texts of the items of one step and of those after it
pub step_text : (fields : Fields) (n base : ℕ) (xs ys : List ItemRow)
    → members_text (item_members fields n base (xs ++ ys))
    ≡ members_text (item_members fields n base xs) ++ members_text (item_members fields (n + length xs) (base + sum_by (item_numbers fields) xs) ys)
step_text fields n base xs ys =
    ap members_text (items_append fields n base xs ys)
    ∙ members_append (item_members fields n base xs) (item_members fields (n + length xs) (base + sum_by (item_numbers fields) xs) ys)

-- an element of a list, and those behind it
pub rest_from : {A : Type 0} (xs : List A) (i : ℕ) (x : A) → i < length xs → x ≡ get_or xs i x → drop i xs ≡ x ∷ drop (i + 1) xs
rest_from xs i x lt is = drop-cons xs i x lt ∙ ap₂ (λ y k. y ∷ drop k xs) (sym is) (sym (add-one i))

-- one item more was written
pub item_goes : (fields : Fields) (n base next : ℕ) (row : ItemRow) (rest : List ItemRow) (key out mid last : List ℕ)
    → key ≡ decimal n → mid ≡ out ++ written_key (int_of_text key) key → last ≡ mid ++ item_text fields base row → next ≡ base + item_numbers fields row
    → last ++ members_text (item_members fields (n + 1) next rest) ≡ out ++ members_text (item_members fields n base (row ∷ rest))
item_goes fields n base next row rest key out mid last name begins goes count =
    let name_text = λ (k : List ℕ). written_key (int_of_text k) k in
    let item : List ℕ = item_text fields base row in
    let after = λ (b : ℕ). members_text (item_members fields (n + 1) b rest) in
    let text : last ≡ (out ++ name_text (decimal n)) ++ item = goes ∙ ap (λ (l : List ℕ). l ++ item) (begins ∙ ap (λ (k : List ℕ). out ++ name_text k) name) in
    ap₂ (λ (l : List ℕ) (b : ℕ). l ++ after b) text count
    ∙ (append_assoc (out ++ name_text (decimal n)) item (after (base + item_numbers fields row))
    ∙ append_assoc out (name_text (decimal n)) (item ++ after (base + item_numbers fields row)))

-- the items of one step more were written
pub step_goes : (fields : Fields) (n base key next : ℕ) (rows rest : List ItemRow) (out last : List ℕ)
    → last ≡ out ++ members_text (item_members fields n base rows) → key ≡ n + length rows → next ≡ base + sum_by (item_numbers fields) rows
    → last ++ members_text (item_members fields key next rest) ≡ out ++ members_text (item_members fields n base (rows ++ rest))
step_goes fields n base key next rows rest out last text count numbers =
    let done : List ℕ = members_text (item_members fields n base rows) in
    let after = λ (k b : ℕ). members_text (item_members fields k b rest) in
    ap (λ (l : List ℕ). l ++ after key next) text
    ∙ (append_assoc out done (after key next)
    ∙ (ap₂ (λ (k b : ℕ). out ++ (done ++ after k b)) count numbers ∙ ap (λ (l : List ℕ). out ++ l) (sym (step_text fields n base rows rest))))
