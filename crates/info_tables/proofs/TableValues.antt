-- The tables of the information calls can be represented as graphs.
use Rattle.std.proofs.Common.{◌≡◌, ℕ, suc, ◌+◌, ◌≤◌, ◌<◌, ◌^◌, ◌&&◌, Bool, true, false}
use Rattle.std.proofs.Common.{List, [], ◌∷◌, ◌++◌, length, map, refl, ap, arith}
use Rattle.std.proofs.lemmas.List.{length-map}
use Rattle.std.specs.Prelude.{codes, nat_lt, pos, not}
use Rattle.std.specs.List.{AllByRecursion, list_all}
use Rattle.std.proofs.lemmas.Bool.{and_parts, and_from}
use Rattle.std.proofs.lemmas.Bool.Decides.{nat_tests}
use Rattle.php_graph.specs.declared.key.Key.{Key}
use Rattle.php_graph.specs.declared.key.Key.TheVariants as keys
use Rattle.php_graph.specs.declared.kind.Kind.TheVariants as kinds
use Rattle.php_graph.specs.ByteStrings.{AreBytes}
use Rattle.php_graph.specs.Numbers.{int_of_text}
use Rattle.php_graph.specs.Graph.{is_array_key, are_distinct, holds_key, FitsKey}
use Rattle.seg_words.specs.declared.gaps.Extent.{Extent}
use Rattle.apcu_model.specs.declared.conf.Conf.{Conf}
use Rattle.apcu_model.specs.declared.row_info.Counts.{Counts}
use Rattle.apcu_model.specs.declared.row_info.RowInfo.{RowInfo}
use Rattle.apcu_model.specs.declared.row_info.ListedRow.{ListedRow}
use Rattle.apcu_model.specs.Infos.{Told, info_number, number_kind, info_string, info_numbered}
use Rattle.apcu_model.specs.Infos.{info_list, info_array, info_of_key, info_row, info_rows, info_gap}
use Rattle.apcu_model.specs.Infos.{info_counts, info_words, info_gaps, word_bytes}
use Rattle.apcu_model.specs.Infos.{note_fields, row_fields, gap_fields}
use Rattle.apcu_model.specs.Infos.{info_segment, gaps_in}
use Rattle.apcu_model.specs.Conf.{piece_of}
use Rattle.info_tables.proofs.ValueRuns.{segment_few}
use Rattle.std.proofs.lemmas.List.FromFn.{length-range_with_len}
use Rattle.std.specs.List.{range_with_len}
use Rattle.apcu_model.specs.InfoGraphs.{IsTellable}
use Rattle.info_tables.proofs.ToldGraphs.{IsValue, AreKeys, single, array, tellable}

-- a value of fewer levels
deeper : (d e : ℕ) (v : Told) → d ≤ e → IsValue d v → IsValue e v
deeper d e v up is = record {
  ends = λ level place before after deep at.
      is.ends level place before after (omega (arith, up, deep)) at;
  flat = is.flat;
  count = is.count;
}

number_value : (n : ℕ) → IsValue 1 (info_number n)
number_value n =
    single (number_kind n) refl (record {
      well = refl;
      fits = record { sfits = omega arith };
      other = λ x e. absurd cc;
      backs = refl;
    })

string_value : (bytes : List ℕ) → AreBytes bytes → IsValue 1 (info_string bytes)
string_value bytes are =
    single (kinds.Str bytes) refl (record {
      well = refl;
      fits = are;
      other = λ x e. absurd cc;
      backs = refl;
    })

-- ---- names

-- a name of the tables
abbrev is_short : List ℕ → Bool
is_short name = nat_lt (length name) 256 && list_all (λ b. nat_lt b 256) name

bytes_fit : (bytes : List ℕ) → list_all (λ b. nat_lt b 256) bytes ≡ true
    → AllByRecursion (λ b. b < 256) bytes
bytes_fit [] h = tt
bytes_fit (b ∷ bs) h =
    let p = and_parts (nat_lt b 256) (list_all (λ x. nat_lt x 256) bs) h in
    let low : b < 256 = grind (arith, nat_tests, p.0) in
    (low, bytes_fit bs p.1)

names_fit : (names : List (List ℕ)) → list_all is_short names ≡ true
    → AllByRecursion FitsKey (map keys.Str names)
names_fit [] h = tt
names_fit (name ∷ names) h =
    let p = and_parts (is_short name) (list_all is_short names) h in
    let q = and_parts (nat_lt (length name) 256) (list_all (λ b. nat_lt b 256) name) p.0 in
    let few : length name < 2 ^ 32 = grind (arith, nat_tests, q.0) in
    ((few, bytes_fit name q.1), names_fit names p.1)

-- ---- lists

abbrev keys_of_list : ℕ → List Told → List Key
keys_of_list n values = map (λ m. m.0) (info_numbered n values)

later_keys : (n m : ℕ) → n < m → (values : List Told)
    → holds_key (keys_of_list m values) (keys.Int (pos n)) ≡ false
later_keys n m low [] = refl
later_keys n m low (v ∷ vs) =
    let less : nat_lt n m ≡ true = grind (arith, nat_tests) in
    rw less (later_keys n (m + 1) (omega (arith, low)) vs)

keys_differ : (n : ℕ) (values : List Told) → are_distinct (keys_of_list n values) ≡ true
keys_differ n [] = refl
keys_differ n (v ∷ vs) =
    and_from (not (holds_key (keys_of_list (n + 1) vs) (keys.Int (pos n))))
    (are_distinct (keys_of_list (n + 1) vs))
    (ap not (later_keys n (n + 1) (omega arith) vs)) (keys_differ (n + 1) vs)

keys_allowed : (n : ℕ) (values : List Told)
    → list_all is_array_key (keys_of_list n values) ≡ true
keys_allowed n [] = refl
keys_allowed n (v ∷ vs) = keys_allowed (n + 1) vs

keys_fit : (n : ℕ) (values : List Told) → n + length values ≤ 2 ^ 32
    → AllByRecursion FitsKey (keys_of_list n values)
keys_fit n [] few = tt
keys_fit n (v ∷ vs) few =
    (record { sfits = omega (arith, few) }, keys_fit (n + 1) vs (omega (arith, few)))

numbered_values : (d n : ℕ) (values : List Told) → AllByRecursion (IsValue d) values
    → AllByRecursion (λ (m : Key × Told). IsValue d m.1) (info_numbered n values)
numbered_values d n [] all = tt
numbered_values d n (v ∷ vs) all = (all.0, numbered_values d (n + 1) vs all.1)

list_value : (d : ℕ) (values : List Told) → AllByRecursion (IsValue d) values
    → length values ≤ 2 ^ 32 → IsValue (suc d) (info_list values)
list_value d values all few =
    let keys : AreKeys (keys_of_list 0 values) = record {
      distinct = keys_differ 0 values;
      keys = keys_allowed 0 values;
      fits = keys_fit 0 values (omega (arith, few));
    } in
    array d (info_numbered 0 values) keys (numbered_values d 0 values all)

-- ---- the tables

notes_keys : (row : RowInfo) → IsValue 2 (info_of_key row)
unfolding int_of_text
notes_keys row =
    let names = codes "hits" ∷ codes "access_time" ∷ codes "mtime" ∷ codes "creation_time"
    ∷ codes "deletion_time" ∷ codes "ttl" ∷ [] in
    array 1 (note_fields row)
    (record { distinct = refl; keys = refl; fits = names_fit names refl })
    (number_value row.hits, (number_value row.atime, (number_value row.mtime, (number_value row.ctime, (number_value row.dtime, (number_value row.ttl, tt))))))

row_value : (row : ListedRow) → AreBytes row.key → IsValue 2 (info_row row)
unfolding int_of_text
row_value row are =
    let names = codes "info" ∷ codes "ttl" ∷ codes "num_hits" ∷ codes "mtime"
    ∷ codes "creation_time" ∷ codes "deletion_time" ∷ codes "access_time"
    ∷ codes "mem_size" ∷ [] in
    array 1 (row_fields row)
    (record { distinct = refl; keys = refl; fits = names_fit names refl })
    (string_value row.key are, (number_value row.info.ttl, (number_value row.info.hits, (number_value row.info.mtime, (number_value row.info.ctime, (number_value row.info.dtime, (number_value row.info.atime, (number_value (word_bytes row.info.size), tt))))))))

rows_values : (rows : List ListedRow) → AllByRecursion (λ (row : ListedRow). AreBytes row.key) rows
    → AllByRecursion (IsValue 2) (map info_row rows)
rows_values [] are = tt
rows_values (row ∷ rows) are = (row_value row are.0, rows_values rows are.1)

gap_value : (gap : Extent) → IsValue 2 (info_gap gap)
unfolding int_of_text
gap_value gap =
    let names = codes "size" ∷ codes "offset" ∷ [] in
    array 1 (gap_fields gap)
    (record { distinct = refl; keys = refl; fits = names_fit names refl })
    (number_value (word_bytes gap.size), (number_value (word_bytes gap.place), tt))

gaps_values : (gaps : List Extent) → AllByRecursion (IsValue 2) (map info_gap gaps)
gaps_values [] = tt
gaps_values (gap ∷ gaps) = (gap_value gap, gaps_values gaps)

rows_list : (rows : List ListedRow) → AllByRecursion (λ (row : ListedRow). AreBytes row.key) rows
    → length rows ≤ 2 ^ 32 → IsValue 3 (info_list (map info_row rows))
rows_list rows are few =
    list_value 2 (map info_row rows) (rows_values rows are)
    (omega (arith, few, length-map rows info_row))

pub key_tellable : (row : RowInfo) → IsTellable (info_of_key row 1)
key_tellable row = tellable 2 (info_of_key row) (notes_keys row) (omega arith)

-- a number among values of three levels
number_three : (n : ℕ) → IsValue 3 (info_number n)
number_three n = deeper 1 3 (info_number n) (omega arith) (number_value n)

pub counts_tellable : (conf : Conf) (counts : Counts) (words : ℕ)
    → IsTellable (info_array (info_counts conf counts words) 1)
unfolding int_of_text
counts_tellable conf counts words =
    let names = codes "num_slots" ∷ codes "ttl" ∷ codes "num_hits" ∷ codes "num_misses"
    ∷ codes "num_inserts" ∷ codes "num_entries" ∷ codes "expunges" ∷ codes "mem_size" ∷ [] in
    tellable 2 (info_array (info_counts conf counts words))
    (array 1 (info_counts conf counts words)
    (record { distinct = refl; keys = refl; fits = names_fit names refl })
    (number_value conf.slots, (number_value conf.ttl, (number_value counts.hits, (number_value counts.misses, (number_value counts.inserts, (number_value counts.entries, (number_value counts.expunges, (number_value (word_bytes words), tt)))))))))
    (omega arith)

pub cache_tellable : (conf : Conf) (counts : Counts) (words : ℕ) (rows removed : List ListedRow)
    → AllByRecursion (λ (row : ListedRow). AreBytes row.key) rows
    → AllByRecursion (λ (row : ListedRow). AreBytes row.key) removed
    → length rows ≤ 2 ^ 32 → length removed ≤ 2 ^ 32
    → IsTellable (info_array (info_counts conf counts words ++ info_rows rows removed) 1)
unfolding int_of_text
cache_tellable conf counts words rows removed are gone few left =
    let names = codes "num_slots" ∷ codes "ttl" ∷ codes "num_hits" ∷ codes "num_misses"
    ∷ codes "num_inserts" ∷ codes "num_entries" ∷ codes "expunges" ∷ codes "mem_size"
    ∷ codes "cache_list" ∷ codes "deleted_list" ∷ [] in
    tellable 4 (info_array (info_counts conf counts words ++ info_rows rows removed))
    (array 3 (info_counts conf counts words ++ info_rows rows removed)
    (record { distinct = refl; keys = refl; fits = names_fit names refl })
    (number_three conf.slots, (number_three conf.ttl, (number_three counts.hits, (number_three counts.misses, (number_three counts.inserts, (number_three counts.entries, (number_three counts.expunges, (number_three (word_bytes words), (rows_list rows are few, (rows_list removed gone left, tt)))))))))))
    (omega arith)

pub words_tellable : (conf : Conf) (free : ℕ) → IsTellable (info_array (info_words conf free) 1)
unfolding int_of_text
words_tellable conf free =
    let names = codes "num_seg" ∷ codes "seg_size" ∷ codes "avail_mem" ∷ [] in
    tellable 2 (info_array (info_words conf free))
    (array 1 (info_words conf free)
    (record { distinct = refl; keys = refl; fits = names_fit names refl })
    (number_value conf.segments, (number_value (word_bytes (piece_of conf)), (number_value (word_bytes free), tt))))
    (omega arith)

segments_values : (piece : ℕ) (gaps : List Extent) (ks : List ℕ) → length gaps ≤ 2 ^ 32
    → AllByRecursion (IsValue 3) (map (info_segment piece gaps) ks)
segments_values piece gaps [] few = tt
segments_values piece gaps (k ∷ ks) few = (
  list_value 2 (map info_gap (gaps_in piece gaps k)) (gaps_values (gaps_in piece gaps k))
      (omega (arith, few, length-map (gaps_in piece gaps k) info_gap, segment_few piece k gaps)),
  segments_values piece gaps ks few,
)

pub gaps_tellable : (conf : Conf) (free : ℕ) (gaps : List Extent) → length gaps ≤ 2 ^ 32
    → conf.segments ≤ 64
    → IsTellable (info_array (info_words conf free ++ info_gaps conf gaps) 1)
unfolding int_of_text
gaps_tellable conf free gaps few segments =
    let names = codes "num_seg" ∷ codes "seg_size" ∷ codes "avail_mem" ∷ codes "block_lists"
    ∷ [] in
    let lists = map (info_segment (piece_of conf) gaps) (range_with_len 0 conf.segments) in
    let outer = list_value 3 lists
    (segments_values (piece_of conf) gaps (range_with_len 0 conf.segments) few)
    (omega (arith, segments, length-map (range_with_len 0 conf.segments) (info_segment (piece_of conf) gaps), length-range_with_len 0 conf.segments)) in
    let number : (n : ℕ) → IsValue 4 (info_number n) =
    λ n. deeper 1 4 (info_number n) (omega arith) (number_value n) in
    tellable 5 (info_array (info_words conf free ++ info_gaps conf gaps))
    (array 4 (info_words conf free ++ info_gaps conf gaps)
    (record { distinct = refl; keys = refl; fits = names_fit names refl })
    (number conf.segments, (number (word_bytes (piece_of conf)), (number (word_bytes free), (outer, tt)))))
    (omega arith)
