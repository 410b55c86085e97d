-- What storing a bundle's records leaves: no row ends behind the words of the records so far.
use Rattle.std.proofs.Common.{◌≡◌, inl, inr, ℕ, ◌+◌, ◌%◌, ◌≤◌, Bool, true, false, if◌then◌else◌, List, [], ◌∷◌, ◌++◌, length, map, filter, Option, Some, None, refl, sym, ap, ◌∙◌, subst, arith}
use Rattle.std.specs.Option.{option_to_list}
use Rattle.std.specs.Str.{bytes_eq}
use Rattle.std.specs.List.{Contains}
use Rattle.std.proofs.lemmas.List.{append-nil, length-map}
use Rattle.std.proofs.lemmas.Slice.Eq.{bytes_eq-Decides}
use Rattle.std.proofs.lemmas.List.Sums.{sum_by-append, sum_by-cons}
use Rattle.seg_words.specs.declared.gaps.Extent.{Extent}
use Rattle.seg_words.specs.Gaps.{first_fit}
use Rattle.seg_words.specs.Members.{filter_none, map_there, none_in_nil}
use Rattle.php_graph.specs.declared.kind.Kind.{Kind}
use Rattle.php_graph.specs.Size.{block_size}
use Rattle.apcu_model.specs.declared.conf.Conf.{Conf}
use Rattle.apcu_model.specs.Conf.{piece_of, most_of}
use Rattle.apcu_model.specs.declared.request.StoreAnswer.TheVariants as answers
use Rattle.apcu_model.specs.Cache.{Row, Cache, has_key, extent_of, gap_of, empty_cache}
use Rattle.apcu_model.specs.Change.{is_held, swept, with_row, placed, Insertion, inserted}
use Rattle.apcu_model.specs.Facts.{dated}
use Rattle.apcu_model.proofs.FirstMoment.{piece_one, most_one, placed_at_once, Placed, new_row, placed_parts, replaced_rows}
use Rattle.script_read.specs.Arguments.{or_else}
use Rattle.preload_set.specs.Bundle.{Record}
use Rattle.preload_set.specs.Loader.{record_words, last_value, values_at}
use Rattle.preload_set.proofs.Room.{gap_low, words_even}
use Rattle.preload_set.proofs.KeyRows.{with_there, filter_other, filter_own}

-- one segment, whose words begin and end at even places
pub record IsOne (conf : Conf) : Type 0 where
  pub even : conf.slots % 2 ≡ 0
  pub one : conf.segments ≡ 1

pub record Filled (conf : Conf) (before : List Record) (c : Cache) : Type 0 where
  pub shape : c.conf ≡ conf
  pub removed : c.removed ≡ []
  pub low : (r : Row) → Contains c.rows r → r.place + r.size ≤ conf.slots + record_words before
  pub expunges : c.expunges ≡ 0
  pub values : (key : List ℕ) → values_at key c ≡ option_to_list (last_value key before)

pub filled_first : (conf : Conf) → Filled conf [] (empty_cache conf)
filled_first conf = record {
  shape = refl;
  removed = refl;
  low = λ r h. absurd (none_in_nil r h);
  expunges = refl;
  values = λ key. refl;
}

-- ---- the last value of a key

or_later : {A : Type 0} (b : Bool) (x : A) (o early : Option A) → or_else (if b then Some x else o) early ≡ (if b then Some x else or_else o early)
or_later true x o early = refl
or_later false x o early = refl

last_joined : (key : List ℕ) (records : List Record) (r : Record) → last_value key (records ++ r ∷ []) ≡ (if bytes_eq r.0 key then Some r.1 else last_value key records)
last_joined key [] r = only (bytes_eq r.0 key)
  where
    only : (b : Bool) → or_else {A = List Kind} None (if b then Some r.1 else None) ≡ (if b then Some r.1 else None)
    only true = refl
    only false = refl
last_joined key (x ∷ records) r =
    let early : Option (List Kind) = if bytes_eq x.0 key then Some x.1 else None in
    ap (λ (o : Option (List Kind)). or_else o early) (last_joined key records r) ∙ or_later (bytes_eq r.0 key) r.1 (last_value key records) early

words_joined : (records : List Record) (r : Record) → record_words (records ++ r ∷ []) ≡ record_words records + block_size (length r.0) r.1
words_joined records r =
    let size = λ (x : Record). block_size (length x.0) x.1 in
    omega (arith, sum_by-append size records (r ∷ []), sum_by-cons size r [])

-- ---- the gap

pub record HasGap (conf : Conf) (before : List Record) (n : ℕ) (c : Cache) : Type 0 where
  pub place : ℕ
  pub is : gap_of c n ≡ Some place
  pub low : place ≤ conf.slots + record_words before

has_low_gap : (conf : Conf) (before : List Record) (n : ℕ) (c : Cache) → IsOne conf → conf.slots + record_words before + n ≤ conf.words → Filled conf before c → HasGap conf before n c
has_low_gap conf before n c one room filled =
    let a = conf.slots + record_words before in
    let extents = map extent_of c.rows in
    let behind : (e : Extent) → Contains extents e → e.place + e.size ≤ a = λ e h.
    let x = map_there extent_of c.rows e h in omega (arith, filled.low x.0 x.1, ap (λ (q : Extent). q.place) x.2, ap (λ (q : Extent). q.size) x.2) in
    let g = gap_low conf.slots conf.words a n extents (even conf.slots (record_words before) one.even (words_even before)) (omega arith) (omega (arith, room)) behind in
    let all : map extent_of (c.rows ++ c.removed) ≡ extents = ap (λ (l : List Row). map extent_of (c.rows ++ l)) filled.removed ∙ ap (map extent_of) (append-nil c.rows) in
    record {
      place = g.0;
      is = ap (λ (l : List Extent). first_fit c.conf.slots c.conf.words (piece_of c.conf) n l) all
          ∙ (ap (λ (f : Conf). first_fit f.slots f.words (piece_of f) n extents) filled.shape
          ∙ (ap (λ w. first_fit conf.slots conf.words w n extents) (piece_one conf one.one) ∙ g.1));
      low = g.2;
    }
  where
    even : (x y : ℕ) → x % 2 ≡ 0 → y % 2 ≡ 0 → (x + y) % 2 ≡ 0
    even x y h k = omega (arith, h, k)

filled_swept : (conf : Conf) (before : List Record) (c : Cache) → Filled conf before c → Filled conf before (swept [] c)
filled_swept conf before c filled = record {
  shape = filled.shape;
  removed = filter_none (is_held []) c.removed (λ row h. refl);
  low = filled.low;
  expunges = filled.expunges;
  values = filled.values;
}

-- ---- the new row

abbrev after_placing : Record → Cache → ℕ → Cache
after_placing r c place = placed [] r.0 r.1 0 0 (block_size (length r.0) r.1) c place

at_most_one : {A : Type 0} (o : Option A) → length (option_to_list o) ≤ 1
at_most_one (Some x) = omega arith
at_most_one None = omega arith

filled_placed : (conf : Conf) (before : List Record) (r : Record) (c : Cache) (place : ℕ) → place ≤ conf.slots + record_words before → Filled conf before c → Filled conf (before ++ r ∷ []) (after_placing r c place)
filled_placed conf before r c place low filled = record {
  shape = filled.shape;
  removed = parts.removed ∙ (none_held ∙ filled.removed);
  low = λ row h. elim (with_there new c.rows row (subst (λ (l : List Row). Contains l row) parts.rows h)) [
    | inl e ↦
        let at : place ≡ row.place = ap (λ (q : Row). q.place) e in
        let size : block_size (length r.0) r.1 ≡ row.size = ap (λ (q : Row). q.size) e in
        omega (arith, words, low, at, size)
    | inr l ↦ omega (arith, words, filled.low row l)
  ];
  expunges = filled.expunges;
  values = λ key. ap (λ (l : List Row). map (λ (row : Row). row.graph) (filter (has_key key) l)) parts.rows ∙ value key (bytes_eq r.0 key) refl;
}
  where
    new : Row
    new = new_row r.0 r.1 (block_size (length r.0) r.1) place c.next_number

    parts : Placed [] new c (after_placing r c place)
    parts = placed_parts [] r.0 r.1 (block_size (length r.0) r.1) c place

    none_held : c.removed ++ replaced_rows [] r.0 c.rows ≡ c.removed
    none_held = ap (λ (l : List Row). c.removed ++ dated 0 l) (filter_none (is_held []) (filter (has_key r.0) c.rows) (λ row h. refl)) ∙ append-nil c.removed

    words : record_words (before ++ r ∷ []) ≡ record_words before + block_size (length r.0) r.1
    words = words_joined before r

    single : length (filter (has_key r.0) c.rows) ≤ 1
    single = omega (arith, ap (λ (l : List (List Kind)). length l) (filled.values r.0), length-map (filter (has_key r.0) c.rows) (λ (row : Row). row.graph), at_most_one (last_value r.0 before))

    value : (key : List ℕ) (b : Bool) → bytes_eq r.0 key ≡ b → map (λ (row : Row). row.graph) (filter (has_key key) (with_row new c.rows)) ≡ option_to_list (last_value key (before ++ r ∷ []))
    value key true e =
        let same : r.0 ≡ key = (bytes_eq-Decides r.0 key).0 e in
        subst (λ (k : List ℕ). map (λ (row : Row). row.graph) (filter (has_key k) (with_row new c.rows)) ≡ r.1 ∷ []) same (ap (λ (l : List Row). map (λ (row : Row). row.graph) l) (filter_own new c.rows single))
        ∙ sym (ap option_to_list (last_joined key before r ∙ ap (λ b. if b then Some r.1 else last_value key before) e))
    value key false e =
        ap (λ (l : List Row). map (λ (row : Row). row.graph) l) (filter_other key new c.rows e)
        ∙ (filled.values key ∙ sym (ap option_to_list (last_joined key before r ∙ ap (λ b. if b then Some r.1 else last_value key before) e)))

-- ---- a store

pub record IsStored (conf : Conf) (before : List Record) (r : Record) (made : Insertion) : Type 0 where
  pub answer : made.answer ≡ answers.Stored
  pub filled : Filled conf (before ++ r ∷ []) made.cache

pub record_stored : (conf : Conf) (before : List Record) (r : Record) (c : Cache) → IsOne conf → conf.slots + record_words before + block_size (length r.0) r.1 ≤ conf.words → Filled conf before c → IsStored conf before r (inserted [] r.0 r.1 0 false 0 c)
record_stored conf before r c one room filled =
    let n = block_size (length r.0) r.1 in
    let first = filled_swept conf before c filled in
    let g = has_low_gap conf before n (swept [] c) one room first in
    let fits : n ≤ most_of c.conf = subst (λ (f : Conf). n ≤ most_of f) (sym filled.shape) (omega (arith, most_one conf one.one, room)) in
    subst (λ (x : Insertion). IsStored conf before r x) (sym (placed_at_once [] r.0 r.1 c g.place fits g.is))
    (record { answer = refl; filled = filled_placed conf before r (swept [] c) g.place g.low first })
