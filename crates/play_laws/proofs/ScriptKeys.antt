-- The keys of generated scripts: how many, how long, and which are which.
use Rattle.std.proofs.Common.{inl, inr, ◌≡◌, ℕ, ◌+◌, ◌*◌, ◌<◌, ◌≤◌, false, List, [], ◌∷◌, ◌++◌, length, map, refl, sym, ◌∙◌, subst, arith}
use Rattle.std.specs.Prelude.{replicate, ◌%◌, ◌/◌}
use Rattle.std.specs.Fmt.{decimal}
use Rattle.std.specs.List.{Contains, flat_map, range_with_len}
use Rattle.std.specs.Str.{bytes_eq}
use Rattle.std.proofs.lemmas.Bool.{false_from_ne_true}
use Rattle.std.proofs.lemmas.Fmt.{length-decimal-le, decimal_injective}
use Rattle.std.proofs.lemmas.List.{length-append, length-map, length-replicate}
use Rattle.std.proofs.lemmas.List.FromFn.{length-range_with_len}
use Rattle.std.proofs.lemmas.List.Elements.{Contains-append_left, Contains-append_right}
use Rattle.std.proofs.lemmas.Slice.Eq.{bytes_eq-Decides}
use Rattle.seg_words.specs.Members.{Contains-cases, Contains-map, none_in_nil}
use Rattle.php_graph.specs.declared.kind.Kind.{Kind}
use Rattle.php_graph.specs.declared.kind.Kind.TheVariants as kinds
use Rattle.php_graph.specs.Size.{block_size, cells_of}
use Rattle.script_read.specs.GeneratedScripts.{value_key, counter_key}
use Rattle.play_laws.proofs.GapLemmas.{range_has}

abbrev pub names_of : ℕ → List (List ℕ)
names_of workers =
    flat_map (λ w. map (value_key w) (range_with_len 0 16)) (range_with_len 0 workers) ++ map counter_key (range_with_len 0 8)

length_flat : (ws : List ℕ) → length (flat_map (λ w. map (value_key w) (range_with_len 0 16)) ws) ≡ 16 * length ws
length_flat [] = refl
length_flat (w ∷ ws) =
    let one = length-append (map (value_key w) (range_with_len 0 16)) (flat_map (λ w. map (value_key w) (range_with_len 0 16)) ws) in
    let those : length (map (value_key w) (range_with_len 0 16)) ≡ 16 = length-map (range_with_len 0 16) (value_key w) ∙ length-range_with_len 0 16 in
    omega (arith, one, those, length_flat ws)

pub few_names : (workers : ℕ) → workers ≤ 64 → length (names_of workers) ≤ 1032
few_names workers most =
    let values = flat_map (λ w. map (value_key w) (range_with_len 0 16)) (range_with_len 0 workers) in
    let counters : length (map counter_key (range_with_len 0 8)) ≡ 8 = length-map (range_with_len 0 8) counter_key ∙ length-range_with_len 0 8 in
    omega (arith, length-append values (map counter_key (range_with_len 0 8)), counters, length_flat (range_with_len 0 workers), length-range_with_len 0 workers, most)

flat_has : (f : ℕ → List (List ℕ)) (xs : List ℕ) (x : ℕ) (y : List ℕ) → Contains xs x → Contains (f x) y → Contains (flat_map f xs) y
flat_has f [] x y c d = absurd (none_in_nil x c)
flat_has f (z ∷ xs) x y c d = elim (Contains-cases z xs x c) [
  | inl same ↦ Contains-append_left (f z) (flat_map f xs) y (subst (λ k. Contains (f k) y) (sym same) d)
  | inr later ↦ Contains-append_right (f z) (flat_map f xs) y (flat_has f xs x y later d)
]

pub value_named : (workers w n : ℕ) → w < workers → n < 16 → Contains (names_of workers) (value_key w n)
value_named workers w n h k =
    Contains-append_left (flat_map (λ w. map (value_key w) (range_with_len 0 16)) (range_with_len 0 workers)) (map counter_key (range_with_len 0 8)) (value_key w n)
    (flat_has (λ w. map (value_key w) (range_with_len 0 16)) (range_with_len 0 workers) w (value_key w n) (range_has 0 workers w (omega arith) (omega (arith, h)))
    (Contains-map (value_key w) (range_with_len 0 16) n (range_has 0 16 n (omega arith) (omega (arith, k)))))

pub counter_named : (workers i : ℕ) → i < 8 → Contains (names_of workers) (counter_key i)
counter_named workers i h =
    Contains-append_right (flat_map (λ w. map (value_key w) (range_with_len 0 16)) (range_with_len 0 workers)) (map counter_key (range_with_len 0 8)) (counter_key i)
    (Contains-map counter_key (range_with_len 0 8) i (range_has 0 8 i (omega arith) (omega (arith, h))))

-- ---- sizes

value_length : (w n : ℕ) → w < 64 → n < 16 → length (value_key w n) ≤ 6
value_length w n h k =
    let first = length-decimal-le 2 w (omega arith) (omega (arith, h)) (omega (arith, h)) in
    let second = length-decimal-le 2 n (omega arith) (omega (arith, k)) (omega (arith, k)) in
    simp length-append (omega (arith, first, second))

counter_length : (i : ℕ) → i < 8 → length (counter_key i) ≤ 2
counter_length i h =
    let digits = length-decimal-le 1 i (omega arith) (omega (arith, h)) (omega (arith, h)) in
    simp length-append (omega (arith, digits))

pub value_small : (w n len : ℕ) → w < 64 → n < 16 → len < 200 → (0 < block_size (length (value_key w n)) (kinds.Str (replicate len 120) ∷ [])) × (block_size (length (value_key w n)) (kinds.Str (replicate len 120) ∷ []) ≤ 40)
value_small w n len h k l = go (length (value_key w n)) (length (replicate len 120)) (value_length w n h k) (length-replicate len 120)
  where
    go : (a b : ℕ) → a ≤ 6 → b ≡ len → (0 < (let n = 12 + (a + 7) / 8 + (0 + (1 + (b + 7) / 8)) in n + n % 2)) × ((let n = 12 + (a + 7) / 8 + (0 + (1 + (b + 7) / 8)) in n + n % 2) ≤ 40)
    go a b s e = (omega (arith, s, e, l), omega (arith, s, e, l))

pub counter_small : (i : ℕ) (kind : Kind) → i < 8 → cells_of kind ≡ 2 → (0 < block_size (length (counter_key i)) (kind ∷ [])) × (block_size (length (counter_key i)) (kind ∷ []) ≤ 40)
counter_small i kind h two = go (length (counter_key i)) (cells_of kind) (counter_length i h) two
  where
    go : (a b : ℕ) → a ≤ 2 → b ≡ 2 → (0 < (let n = 12 + (a + 7) / 8 + (0 + b) in n + n % 2)) × ((let n = 12 + (a + 7) / 8 + (0 + b) in n + n % 2) ≤ 40)
    go a b s e = (omega (arith, s, e), omega (arith, s, e))

-- ---- which is which

pub counter_no_value : (w n i : ℕ) → bytes_eq (value_key w n) (counter_key i) ≡ false
counter_no_value w n i =
    false_from_ne_true (bytes_eq (value_key w n) (counter_key i)) (λ t. let same : value_key w n ≡ counter_key i = (bytes_eq-Decides (value_key w n) (counter_key i)).0 t in absurd cc)

pub other_counter : (i j : ℕ) → i < 8 → j < 8 → (i ≡ j → ⊥) → bytes_eq (counter_key i) (counter_key j) ≡ false
other_counter i j h k differ =
    false_from_ne_true (bytes_eq (counter_key i) (counter_key j)) (λ t.
    let same : counter_key i ≡ counter_key j = (bytes_eq-Decides (counter_key i) (counter_key j)).0 t in
    let digits : decimal i ≡ decimal j = cc same in
    differ (decimal_injective i j (omega (arith, h)) (omega (arith, k)) digits))
