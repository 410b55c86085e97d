-- Values that follow one another.
use Rattle.std.proofs.Common.{◌≡◌, ◌∙◌, ℕ, zero, suc, ◌+◌, ◌*◌, List, [], ◌∷◌, ◌++◌, length, map}
use Rattle.std.proofs.Common.{refl, sym, ap, ◌<◌, get_or, drop}
use Rattle.std.proofs.Math.Seq.{drop-cons}
use Rattle.std.proofs.Common.{arith, length-append, append-nil}
use Rattle.std.proofs.lemmas.List.{append_assoc}
use Rattle.std.specs.Prelude.{pos, codes}
use Rattle.php_graph.specs.declared.key.Key.{Key}
use Rattle.php_graph.specs.declared.key.Key.TheVariants as keys
use Rattle.php_graph.specs.declared.child.Child.{Child}
use Rattle.php_graph.specs.declared.child.Child.TheVariants.{Own}
use Rattle.php_graph.specs.declared.kind.Kind.{Kind}
use Rattle.php_graph.specs.declared.kind.Kind.TheVariants as kinds
use Rattle.seg_words.specs.declared.gaps.Extent.{Extent}
use Rattle.apcu_model.specs.declared.conf.Conf.{Conf}
use Rattle.apcu_model.specs.declared.row_info.Counts.{Counts}
use Rattle.apcu_model.specs.declared.row_info.ListedRow.{ListedRow}
use Rattle.apcu_model.specs.Infos.{Told, info_members, info_values, info_numbered, info_list}
use Rattle.apcu_model.specs.Infos.{info_row, info_gap, info_array, info_counts, info_rows}
use Rattle.apcu_model.specs.Infos.{info_words, info_gaps, number_kind, word_bytes}
use Rattle.apcu_model.specs.Infos.{info_segment, gaps_in}
use Rattle.apcu_model.specs.Conf.{piece_of}
use Rattle.std.specs.List.{range_with_len}
use Rattle.php_graph.specs.Size.{cells_of, key_cells}
use Rattle.std.proofs.lemmas.List.Sums.{sum_by-cons}
use Rattle.std.proofs.lemmas.List.{length-map}
use Rattle.std.proofs.Common.{Bool, true, false, cond, filter, ◌/◌, ◌%◌, ◌-◌, ◌≤◌, ◌==◌}
use Rattle.apcu_model.specs.InfoGraphs.{values_run, stepped_members, stepped_end}

-- places that come in three steps
pub joined : (old : List Kind) (a b : Kind) (more : List Kind)
    → old ++ a ∷ [] ++ b ∷ [] ++ more ≡ old ++ (a ∷ b ∷ more)
joined old a b more =
    append_assoc (old ++ a ∷ []) (b ∷ []) more ∙ append_assoc old (a ∷ []) (b ∷ more)

-- one value more of those that are left
pub run_goes_on : (old new : List Kind) (v : Told) (vs : List Told)
    → new ≡ old ++ v (length old + 1)
    → new ++ values_run (length new + 1) vs ≡ old ++ values_run (length old + 1) (v ∷ vs)
run_goes_on old new v vs is =
    let first = v (length old + 1) in
    let place : length new + 1 ≡ length old + 1 + length first =
    omega (arith, ap length is, length-append old first) in
    let rest = values_run (length old + 1 + length first) vs in
    ap (λ n. new ++ values_run n vs) place ∙ ap (λ l. l ++ rest) is ∙ append_assoc old first rest

-- one gap more of those that are left
pub gap_goes_on : (gaps : List Extent) (k : ℕ) (old new : List Kind) (d : Extent)
    → k < length gaps → new ≡ old ++ info_gap (get_or gaps k d) (length old + 1)
    → new ++ values_run (length new + 1) (map info_gap (drop (k + 1) gaps))
    ≡ old ++ values_run (length old + 1) (map info_gap (drop k gaps))
gap_goes_on gaps k old new d low is =
    let next : k + 1 ≡ suc k = omega arith in
    let split = drop-cons gaps k d low
    ∙ sym (ap (λ n. get_or gaps k d ∷ drop n gaps) next) in
    run_goes_on old new (info_gap (get_or gaps k d)) (map info_gap (drop (k + 1) gaps)) is
    ∙ sym (ap (λ l. old ++ values_run (length old + 1) (map info_gap l)) split)

values_are : (place n : ℕ) (vs : List Told)
    → info_values place (info_numbered n vs) ≡ values_run place vs
values_are place n [] = refl
values_are place n (v ∷ vs) =
    ap (λ l. v place ++ l) (values_are (place + length (v place)) (n + 1) vs)

-- a list with its values
pub list_told : (old : List Kind) (vs : List Told) (members : List (Key × Child))
    → members ≡ info_members (length old + 1 + 1) (info_numbered 0 vs)
    → old ++ kinds.Array members ∷ []
    ++ values_run (length (old ++ kinds.Array members ∷ []) + 1) vs
    ≡ old ++ info_list vs (length old + 1)
list_told old vs members are =
    let kind = kinds.Array members in
    let place : length (old ++ kind ∷ []) + 1 ≡ length old + 1 + 1 =
    omega (arith, length-append old (kind ∷ [])) in
    let run = values_run (length old + 1 + 1) vs in
    ap (λ n. old ++ kind ∷ [] ++ values_run n vs) place ∙ append_assoc old (kind ∷ []) run
    ∙ ap (λ ms. old ++ kinds.Array ms ∷ run) are
    ∙ ap (λ l. old ++ kinds.Array (info_members (length old + 1 + 1) (info_numbered 0 vs)) ∷ l)
    (sym (values_are (length old + 1 + 1) 0 vs))

pub rows_stepped : (place n : ℕ) (rows : List ListedRow)
    → info_members place (info_numbered n (map info_row rows))
    ≡ stepped_members place n 9 (length rows)
rows_stepped place n [] = refl
rows_stepped place n (row ∷ rows) =
    ap (λ l. (keys.Int (pos n), Own place) ∷ l) (rows_stepped (place + 9) (n + 1) rows)

pub gaps_stepped : (place n : ℕ) (gaps : List Extent)
    → info_members place (info_numbered n (map info_gap gaps))
    ≡ stepped_members place n 3 (length gaps)
gaps_stepped place n [] = refl
gaps_stepped place n (gap ∷ gaps) =
    ap (λ l. (keys.Int (pos n), Own place) ∷ l) (gaps_stepped (place + 3) (n + 1) gaps)

pub nine_steps : (place count : ℕ) → stepped_end place 9 count ≡ place + 9 * count
nine_steps place zero = omega arith
nine_steps place (suc count) = omega (arith, nine_steps (place + 9) count)

pub three_steps : (place count : ℕ) → stepped_end place 3 count ≡ place + 3 * count
three_steps place zero = omega arith
three_steps place (suc count) = omega (arith, three_steps (place + 3) count)

pub nothing_left : {X : Type 0} (l : List X) → length l ≡ 0 → l ≡ []
nothing_left [] h = refl
nothing_left (x ∷ xs) h = absurd (omega arith)

-- ---- the two answers with lists

steps_many : (place n : ℕ) (rows : List ListedRow)
    → length (info_values place (info_numbered n (map info_row rows))) ≡ 9 * length rows
steps_many place n [] = refl
steps_many place n (row ∷ rows) =
    let rest = info_values (place + 9) (info_numbered (n + 1) (map info_row rows)) in
    omega (arith, length-append (info_row row place) rest, steps_many (place + 9) (n + 1) rows)

lists_join : (old : List Kind) (a b : Told)
    → old ++ a (length old + 1) ++ b (length (old ++ a (length old + 1)) + 1)
    ≡ old ++ (a (length old + 1) ++ (b (length old + 1 + length (a (length old + 1))) ++ []))
lists_join old a b =
    let first = a (length old + 1) in
    let place : length (old ++ first) + 1 ≡ length old + 1 + length first =
    omega (arith, length-append old first) in
    ap (λ n. old ++ first ++ b n) place
    ∙ append_assoc old first (b (length old + 1 + length first))
    ∙ ap (λ l. old ++ (first ++ l)) (sym (append-nil (b (length old + 1 + length first))))

-- the places of a cache's numbers, before those of its lists
abbrev pub cache_front : Conf → Counts → ℕ → ℕ → List Kind
cache_front conf counts words many =
    kinds.Array (info_members 2 (info_counts conf counts words)
    ++ (keys.Str (codes "cache_list"), Own 10)
    ∷ (keys.Str (codes "deleted_list"), Own (10 + (1 + 9 * many))) ∷ [])
    ∷ info_values 2 (info_counts conf counts words)

pub cache_told : (conf : Conf) (counts : Counts) (words many : ℕ) (rows removed : List ListedRow)
    → many ≡ length rows
    → let front = cache_front conf counts words many in
    let all = front ++ info_list (map info_row rows) (length front + 1) in
    all ++ info_list (map info_row removed) (length all + 1)
    ≡ info_array (info_counts conf counts words ++ info_rows rows removed) 1
cache_told conf counts words many rows removed are =
    let front = cache_front conf counts words many in
    let first = info_list (map info_row rows) in
    let second = info_list (map info_row removed) in
    let same : 10 + (1 + 9 * many) ≡ 10 + length (first 10) =
    omega (arith, are, steps_many 11 0 rows) in
    lists_join front first second
    ∙ ap (λ n. kinds.Array (info_members 2 (info_counts conf counts words)
    ++ (keys.Str (codes "cache_list"), Own 10) ∷ (keys.Str (codes "deleted_list"), Own n) ∷ [])
    ∷ info_values 2 (info_counts conf counts words)
    ++ (first 10 ++ (second (10 + length (first 10)) ++ []))) same

pub gaps_told : (conf : Conf) (free : ℕ) (gaps : List Extent)
    → let one = info_list (map (info_segment (piece_of conf) gaps) (range_with_len 0 conf.segments)) 5 in
    kinds.Array ((keys.Str (codes "num_seg"), Own 2) ∷ (keys.Str (codes "seg_size"), Own 3)
    ∷ (keys.Str (codes "avail_mem"), Own 4) ∷ (keys.Str (codes "block_lists"), Own 5) ∷ [])
    ∷ number_kind conf.segments ∷ number_kind (word_bytes (piece_of conf))
    ∷ number_kind (word_bytes free) ∷ one
    ≡ info_array (info_words conf free ++ info_gaps conf gaps) 1
gaps_told conf free gaps =
    let one = info_list (map (info_segment (piece_of conf) gaps) (range_with_len 0 conf.segments)) 5 in
    ap (λ l. kinds.Array ((keys.Str (codes "num_seg"), Own 2) ∷ (keys.Str (codes "seg_size"), Own 3)
    ∷ (keys.Str (codes "avail_mem"), Own 4) ∷ (keys.Str (codes "block_lists"), Own 5) ∷ [])
    ∷ number_kind conf.segments ∷ number_kind (word_bytes (piece_of conf))
    ∷ number_kind (word_bytes free) ∷ l) (sym (append-nil one))

-- ---- the gaps of each segment

gaps_many : (place n : ℕ) (gaps : List Extent)
    → length (info_values place (info_numbered n (map info_gap gaps))) ≡ 3 * length gaps
gaps_many place n [] = refl
gaps_many place n (gap ∷ gaps) =
    let rest = info_values (place + 3) (info_numbered (n + 1) (map info_gap gaps)) in
    omega (arith, length-append (info_gap gap place) rest, gaps_many (place + 3) (n + 1) gaps)

pub segment_many : (piece k place : ℕ) (gaps : List Extent)
    → length (info_segment piece gaps k place) ≡ 1 + 3 * length (gaps_in piece gaps k)
segment_many piece k place gaps = omega (arith, gaps_many (place + 1) 0 (gaps_in piece gaps k))

filter_few : {X : Type 0} (p : X → Bool) (xs : List X) → length (filter p xs) ≤ length xs
filter_few p [] = omega arith
filter_few p (x ∷ xs) = go (p x) (filter_few p xs)
  where
    go : (b : Bool) → length (filter p xs) ≤ length xs
        → length (cond b (x ∷ filter p xs) (filter p xs)) ≤ suc (length xs)
    go true e = omega (arith, e)
    go false e = omega (arith, e)

-- a segment has no more gaps than there are
pub segment_few : (piece k : ℕ) (gaps : List Extent)
    → length (gaps_in piece gaps k) ≤ length gaps
segment_few piece k gaps =
    let here : Extent → Bool = λ gap. gap.place / piece == k in
    let local : Extent → Extent = λ gap. record { place = gap.place % piece; size = gap.size } in
    omega (arith, length-map (filter here gaps) local, filter_few here gaps)

-- the numbers from k on that are left
pub range_left : (k n : ℕ) → k < n
    → range_with_len k (n - k) ≡ k ∷ range_with_len (k + 1) (n - (k + 1))
range_left k n low =
    let many : n - k ≡ suc (n - (k + 1)) = omega (arith, low) in
    ap (λ m. range_with_len k m) many

-- one list more of those that are left
pub lists_go_on : (f : ℕ → Told) (items : List (Key × Child)) (next k n step : ℕ) → k < n
    → length (f k next) ≡ step
    → (items ++ (keys.Int (pos k), Own next) ∷ [])
    ++ info_members (next + step) (info_numbered (k + 1) (map f (range_with_len (k + 1) (n - (k + 1)))))
    ≡ items ++ info_members next (info_numbered k (map f (range_with_len k (n - k))))
lists_go_on f items next k n step low long =
    let m : Key × Child = (keys.Int (pos k), Own next) in
    let rest = map f (range_with_len (k + 1) (n - (k + 1))) in
    append_assoc items (m ∷ []) (info_members (next + step) (info_numbered (k + 1) rest))
    ∙ ap (λ s. items ++ (m ∷ info_members (next + s) (info_numbered (k + 1) rest))) (sym long)
    ∙ ap (λ ks. items ++ info_members next (info_numbered k (map f ks))) (sym (range_left k n low))

pub numbered_cells : (place n : ℕ) (vs : List Told)
    → cells_of (kinds.Array (info_members place (info_numbered n vs))) ≡ 1 + 3 * length vs
numbered_cells place n [] = refl
numbered_cells place n (v ∷ vs) =
    let rest = info_members (place + length (v place)) (info_numbered (n + 1) vs) in
    let m : Key × Child = (keys.Int (pos n), Own place) in
    omega (
      arith,
      numbered_cells (place + length (v place)) (n + 1) vs,
      sum_by-cons (λ (x : Key × Child). 1 + key_cells x.0) m rest,
    )
