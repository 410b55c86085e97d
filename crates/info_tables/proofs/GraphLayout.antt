-- Places of values, one after the other, and their offsets in an image.
use Rattle.std.proofs.Common.{◌≡◌, ◌∙◌, ℕ, zero, suc, ◌+◌, ◌-◌, ◌*◌, ◌≤◌, ◌<◌, ◌^◌, List, [], ◌∷◌}
use Rattle.std.proofs.Common.{◌++◌, length, refl, sym, ap, arith, length-append}
use Rattle.std.proofs.Common.{map}
use Rattle.std.proofs.lemmas.List.{append_assoc, map-append}
use Rattle.std.specs.Prelude.{sum_by}
use Rattle.std.proofs.lemmas.List.Sums.{sum_by-cons, sum_by-append}
use Rattle.std.specs.Prelude.{pos}
use Rattle.std.specs.Borrow.{Bor}
use Rattle.seg_words.specs.Layout.{words_in}
use Rattle.php_graph.specs.declared.child.Child.TheVariants.{Own}
use Rattle.php_graph.specs.declared.key.Key.{Key}
use Rattle.php_graph.specs.declared.key.Key.TheVariants as keys
use Rattle.php_graph.specs.declared.child.Child.{Child}
use Rattle.php_graph.specs.declared.kind.Kind.{Kind}
use Rattle.php_graph.specs.declared.kind.Kind.TheVariants as kinds
use Rattle.php_graph.specs.declared.places.Place.{Place}
use Rattle.php_graph.specs.Graph.{most_values}
use Rattle.php_graph.specs.PlaceOffsets.{kinds_at, offsets_at, offsets_from}
use Rattle.php_graph.specs.Size.{cells_of, image_length, key_cells}
use Rattle.apcu_model.specs.InfoGraphs.{IsLaidOut, sized_members, name_cells, stepped_members}
use Rattle.apcu_model.specs.InfoGraphs.{single_members, stepped_end}

offsets_append : (n : ℕ) (ks more : List Kind)
    → offsets_from n (ks ++ more) ≡ offsets_from n ks ++ offsets_from (n + image_length ks) more
offsets_append n [] more = let same : n ≡ n + 0 = omega arith in ap (λ m. offsets_from m more) same
offsets_append n (k ∷ ks) more =
    let long : n + cells_of k + image_length ks ≡ n + image_length (k ∷ ks) =
    omega (arith, sum_by-cons cells_of k ks) in
    ap (λ l. n ∷ l) (offsets_append (n + cells_of k) ks more
    ∙ ap (λ m. offsets_from (n + cells_of k) ks ++ offsets_from m more) long)

-- one place more
pub laid_on : (first : Kind) (others : List Place) (words : ℕ) (kind : Kind) (cells : ℕ)
    → IsLaidOut first others words → length others + 2 ≤ most_values → cells ≡ cells_of kind
    → cells ≤ 2 ^ 34
    → IsLaidOut first (others ++ record { kind = kind; at = words } ∷ []) (words + cells)
laid_on first others words kind cells so few are small =
    let place : Place = record { kind = kind; at = words } in
    let kinds_more : kinds_at (others ++ place ∷ []) ≡ kinds_at others ++ kind ∷ [] =
    map-append (λ (p : Place). p.kind) others (place ∷ []) in
    let offsets_more : offsets_at (others ++ place ∷ []) ≡ offsets_at others ++ words ∷ [] =
    map-append (λ (p : Place). p.at) others (place ∷ []) in
    let all = first ∷ kinds_at others in
    let more : offsets_from 0 (first ∷ kinds_at (others ++ place ∷ []))
    ≡ offsets_from 0 all ++ (0 + image_length all) ∷ [] =
    ap (λ l. offsets_from 0 (first ∷ l)) kinds_more ∙ offsets_append 0 all (kind ∷ []) in
    let word : words ≡ 0 + image_length all = omega (arith, so.words_are) in
    let count : length (others ++ place ∷ []) ≡ length others + 1 =
    omega (arith, length-append others (place ∷ [])) in
    record {
      offsets = ap (λ l. 0 ∷ l) offsets_more ∙ ap (λ l. l ++ words ∷ []) so.offsets
          ∙ ap (λ n. offsets_from 0 all ++ n ∷ []) word ∙ sym more;
      words_are = sym (ap (λ l. image_length (first ∷ l)) kinds_more
          ∙ sum_by-append cells_of all (kind ∷ [])
          ∙ omega (arith, so.words_are, are, sum_by-cons cells_of kind []));
      few = omega (arith, few, count);
      small = omega (arith, so.small, small, count);
    }

-- the words of an array's own place
pub array_cells : (place : ℕ) (fs : List (Bor (List ℕ) × ℕ))
    → cells_of (kinds.Array (sized_members place fs)) ≡ 1 + name_cells fs
array_cells place [] = refl
array_cells place (f ∷ fs) =
    let rest = sized_members (place + f.1) fs in
    let m : Key × Child = (keys.Str f.0.now, Own place) in
    omega (
      arith,
      array_cells (place + f.1) fs,
      sum_by-cons (λ (x : Bor (List ℕ) × ℕ). 2 + words_in (length x.0.now)) f fs,
      sum_by-cons (λ (x : Key × Child). 1 + key_cells x.0) m rest,
    )

-- the same of an array under these keys, whose values have a place each
pub single_cells : (place : ℕ) (ks : List Key)
    → cells_of (kinds.Array (single_members place ks)) ≡ 1 + sum_by (λ (k : Key). 1 + key_cells k) ks
single_cells place [] = refl
single_cells place (k ∷ ks) =
    let rest = single_members (place + 1) ks in
    let m : Key × Child = (k, Own place) in
    omega (
      arith,
      single_cells (place + 1) ks,
      sum_by-cons (λ (x : Key). 1 + key_cells x) k ks,
      sum_by-cons (λ (x : Key × Child). 1 + key_cells x.0) m rest,
    )

-- names that are keys
pub key_words : (names : List (Bor (List ℕ)))
    → sum_by (λ (k : Key). 1 + key_cells k) (map (λ (name : Bor (List ℕ)). keys.Str name.now) names)
    ≡ sum_by (λ (name : Bor (List ℕ)). 2 + words_in (length name.now)) names
key_words [] = refl
key_words (name ∷ names) =
    let rest = map (λ (n : Bor (List ℕ)). keys.Str n.now) names in
    omega (
      arith,
      key_words names,
      sum_by-cons (λ (x : Key). 1 + key_cells x) (keys.Str name.now) rest,
      sum_by-cons (λ (n : Bor (List ℕ)). 2 + words_in (length n.now)) name names,
    )

pub list_cells : (place n step count : ℕ)
    → cells_of (kinds.Array (stepped_members place n step count)) ≡ 1 + 3 * count
list_cells place n step zero = refl
list_cells place n step (suc count) =
    let rest = stepped_members (place + step) (n + 1) step count in
    let m : Key × Child = (keys.Int (pos n), Own place) in
    omega (
      arith,
      list_cells (place + step) (n + 1) step count,
      sum_by-cons (λ (x : Key × Child). 1 + key_cells x.0) m rest,
    )

-- ---- lists

pub step_up : (place step count : ℕ) → place ≤ stepped_end place step count
step_up place step zero = omega arith
step_up place step (suc count) = omega (arith, step_up (place + step) step count)

pub step_room : (place step count : ℕ) → 0 < count → place + step ≤ stepped_end place step count
step_room place step zero some = absurd (omega (arith, some))
step_room place step (suc count) some = step_up (place + step) step count

-- one value more of those that are left
pub step_members : (place n step count i : ℕ) → i < count
    → stepped_members place n step (count - i)
    ≡ (keys.Int (pos n), Own place) ∷ stepped_members (place + step) (n + 1) step (count - (i + 1))
step_members place n step count i low =
    let left : count - i ≡ suc (count - (i + 1)) = omega (arith, low) in
    ap (stepped_members place n step) left

pub step_end : (place step count i : ℕ) → i < count
    → stepped_end place step (count - i) ≡ stepped_end (place + step) step (count - (i + 1))
step_end place step count i low =
    let left : count - i ≡ suc (count - (i + 1)) = omega (arith, low) in
    ap (stepped_end place step) left

pub list_goes_on : (items : List (Key × Child)) (place n step count : ℕ) → n < count
    → (items ++ (keys.Int (pos n), Own place) ∷ [])
    ++ stepped_members (place + step) (n + 1) step (count - (n + 1))
    ≡ items ++ stepped_members place n step (count - n)
list_goes_on items place n step count low =
    let m : Key × Child = (keys.Int (pos n), Own place) in
    append_assoc items (m ∷ []) (stepped_members (place + step) (n + 1) step (count - (n + 1)))
    ∙ ap (λ l. items ++ l) (sym (step_members place n step count n low))
