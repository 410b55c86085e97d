-- What storing few small values leaves: few rows, all small, no two alike, and room for one more.
use Rattle.std.proofs.Common.{◌≡◌, ◌⊎◌, inl, inr, ℕ, ◌+◌, ◌-◌, ◌%◌, ◌^◌, ◌<◌, ◌≤◌, ◌&&◌, Bool, true, false, not, cond, List, [], ◌∷◌, ◌++◌, length, map, filter, Option, Some, None, refl, sym, ap, ◌∙◌, subst, arith}
use Rattle.std.specs.Prelude.{nat_le, find, is_some, ◌==◌, max, min}
use Rattle.std.specs.Str.{bytes_eq}
use Rattle.std.specs.List.{Contains, count_by, range_with_len}
use Rattle.std.proofs.lemmas.Bool.{and_parts, false≢true, false_from_ne_true, lt-ltb, eqb-true, eq-eqb, not-true}
use Rattle.std.proofs.lemmas.List.{length-append, length-map}
use Rattle.std.proofs.lemmas.List.Sums.{length-filter, count_by-le-length}
use Rattle.std.proofs.lemmas.List.Elements.{Contains-append_left, Contains-append_right, Contains-append_cases}
use Rattle.seg_words.specs.declared.gaps.Extent.{Extent}
use Rattle.seg_words.specs.Gaps.{meets, is_free, is_whole, fits, first_fit}
use Rattle.seg_words.specs.Members.{Contains-cases, Contains-filter, Contains-map, any_there, none_in_nil, count-append, map_there}
use Rattle.php_graph.specs.declared.kind.Kind.{Kind}
use Rattle.php_graph.specs.Size.{block_size}
use Rattle.apcu_model.specs.declared.conf.Conf.{Conf}
use Rattle.apcu_model.specs.Conf.{piece_of, most_of}
use Rattle.apcu_model.specs.Cache.{Row, Cache, has_key, extent_of, gap_of}
use Rattle.apcu_model.specs.Change.{is_held, swept, with_row, put_in, inserted}
use Rattle.apcu_model.specs.History.{Stage, held_places, is_copied, is_in_mask}
use Rattle.apcu_model.proofs.FirstMoment.{piece_one, most_one, placed_at_once, Placed, replaced_rows}
use Rattle.play_laws.proofs.RowFacts.{key_is, is_key, with_there}
use Rattle.play_laws.proofs.CountLemmas.{at_most, count-map, count_alike, count_none, count_filter, count_both, pigeons}
use Rattle.play_laws.proofs.GapLemmas.{AreSmall, gap_there}
use Rattle.play_laws.proofs.NewRows.{with_counted}

-- a shape with as much room as this needs
pub record IsRoomy (conf : Conf) : Type 0 where
  pub even : conf.slots % 2 ≡ 0
  pub slots : conf.slots ≤ 4096
  pub words : 1048576 ≤ conf.words
  pub one : conf.segments ≡ 1

-- all rows, removed ones too
abbrev pub all_rows : Cache → List Row
all_rows c = c.rows ++ c.removed

pub record Laid (conf : Conf) (names : List (List ℕ)) (c : Cache) : Type 0 where
  pub shape : c.conf ≡ conf
  pub named : (r : Row) → Contains c.rows r → Contains names r.key
  pub keys : (key : List ℕ) → count_by (has_key key) c.rows ≤ 1
  pub numbers : (n : ℕ) → count_by (λ (r : Row). r.number == n) (all_rows c) ≤ 1
  pub places : (a : ℕ) → count_by (λ (r : Row). r.place == a) (all_rows c) ≤ 1
  pub below : (r : Row) → Contains (all_rows c) r → r.number < c.next_number
  pub small : (r : Row) → Contains (all_rows c) r → (0 < r.size) × (r.size ≤ 40)
  pub few : length c.removed ≤ 65

-- ---- rows that only change their values

pub record Alike (f : Row → Row) : Type 0 where
  pub key : (r : Row) → (f r).key ≡ r.key
  pub number : (r : Row) → (f r).number ≡ r.number
  pub place : (r : Row) → (f r).place ≡ r.place
  pub size : (r : Row) → (f r).size ≡ r.size

counted_changed : (p : Row → Bool) (f : Row → Row) (rows removed : List Row) → ((r : Row) → p (f r) ≡ p r) → count_by p (map f rows ++ removed) ≡ count_by p (rows ++ removed)
counted_changed p f rows removed same =
    omega (arith, count-append p (map f rows) removed, count-append p rows removed, count-map p f rows, count_alike (λ r. p (f r)) p rows same)

pub laid_changed : (conf : Conf) (names : List (List ℕ)) (f : Row → Row) (c d : Cache) → Alike f → d.conf ≡ c.conf → d.rows ≡ map f c.rows → d.removed ≡ c.removed → d.next_number ≡ c.next_number → Laid conf names c → Laid conf names d
laid_changed conf names f c d alike shape rows removed next laid = record {
  shape = shape ∙ laid.shape;
  named = λ r h. let p = was r h in subst (Contains names) (sym p.2) (laid.named p.0 p.1);
  keys = λ key. subst (λ (l : List Row). count_by (has_key key) l ≤ 1) (sym rows) (omega (arith, count-map (has_key key) f c.rows, count_alike (λ r. has_key key (f r)) (has_key key) c.rows (λ r. ap (λ k. bytes_eq k key) (alike.key r)), laid.keys key));
  numbers = λ n. subst (λ (l : List Row). count_by (λ (r : Row). r.number == n) l ≤ 1) (sym both) (omega (arith, counted_changed (λ (r : Row). r.number == n) f c.rows c.removed (λ r. ap (λ k. k == n) (alike.number r)), laid.numbers n));
  places = λ n. subst (λ (l : List Row). count_by (λ (r : Row). r.place == n) l ≤ 1) (sym both) (omega (arith, counted_changed (λ (r : Row). r.place == n) f c.rows c.removed (λ r. ap (λ k. k == n) (alike.place r)), laid.places n));
  below = λ r h. let p = from r h in omega (arith, laid.below p.0 p.1, p.2, next);
  small = λ r h. let p = from r h in (omega (arith, laid.small p.0 p.1, p.3), omega (arith, laid.small p.0 p.1, p.3));
  few = omega (arith, laid.few, ap (λ (l : List Row). length l) removed);
}
  where
    both : all_rows d ≡ map f c.rows ++ c.removed
    both = ap (λ (l : List Row). l ++ d.removed) rows ∙ ap (λ (l : List Row). map f c.rows ++ l) removed

    was : (r : Row) → Contains d.rows r → (p : Row) × Contains c.rows p × (r.key ≡ p.key)
    was r h = let x = map_there f c.rows r (subst (λ (l : List Row). Contains l r) rows h) in (x.0, x.1, sym (ap (λ (q : Row). q.key) x.2) ∙ alike.key x.0)

    from : (r : Row) → Contains (all_rows d) r → (p : Row) × Contains (all_rows c) p × (r.number ≡ p.number) × (r.size ≡ p.size)
    from r h = elim (Contains-append_cases (map f c.rows) c.removed r (subst (λ (l : List Row). Contains l r) both h)) [
      | inl l ↦ let x = map_there f c.rows r l in (x.0, Contains-append_left c.rows c.removed x.0 x.1, sym (ap (λ (q : Row). q.number) x.2) ∙ alike.number x.0, sym (ap (λ (q : Row). q.size) x.2) ∙ alike.size x.0)
      | inr l ↦ (r, Contains-append_right c.rows c.removed r l, refl, refl)
    ]

-- ---- the removed rows are swept

pub laid_swept : (conf : Conf) (names : List (List ℕ)) (held : List ℕ) (c : Cache) → Laid conf names c → Laid conf names (swept held c)
laid_swept conf names held c laid = record {
  shape = laid.shape;
  named = laid.named;
  keys = laid.keys;
  numbers = λ n. omega (arith, laid.numbers n, less (λ (r : Row). r.number == n));
  places = λ n. omega (arith, laid.places n, less (λ (r : Row). r.place == n));
  below = λ r h. laid.below r (from r h);
  small = λ r h. laid.small r (from r h);
  few = omega (arith, laid.few, count_by-le-length (is_held held) c.removed, length-filter (is_held held) c.removed);
}
  where
    less : (p : Row → Bool) → count_by p (c.rows ++ filter (is_held held) c.removed) ≤ count_by p (c.rows ++ c.removed)
    less p = omega (arith, count-append p c.rows (filter (is_held held) c.removed), count-append p c.rows c.removed, count_filter p (is_held held) c.removed)

    from : (r : Row) → Contains (c.rows ++ filter (is_held held) c.removed) r → Contains (all_rows c) r
    from r h = elim (Contains-append_cases c.rows (filter (is_held held) c.removed) r h) [
      | inl l ↦ Contains-append_left c.rows c.removed r l
      | inr l ↦ Contains-append_right c.rows c.removed r (Contains-filter (is_held held) c.removed r l).0
    ]

-- no more rows than names
pub few_rows : (conf : Conf) (names : List (List ℕ)) (c : Cache) → Laid conf names c → length c.rows ≤ length names
few_rows conf names c laid = pigeons has_key names c.rows (λ r h. (r.key, laid.named r h, is_key r.key r refl)) laid.keys

pub has_room : (conf : Conf) (names : List (List ℕ)) (n : ℕ) (c : Cache) → IsRoomy conf → length names ≤ 1032 → Laid conf names c → length c.removed ≤ 64 → n ≤ 40 → is_some (gap_of c n) ≡ true
has_room conf names n c roomy most laid few short =
    let rows = few_rows conf names c laid in
    let total = length-append c.rows c.removed in
    let extents = map extent_of (all_rows c) in
    let count : length extents ≡ length (all_rows c) = length-map (all_rows c) extent_of in
    let small : AreSmall extents = λ e h. let x = map_there extent_of (all_rows c) e h in omega (arith, laid.small x.0 x.1, ap (λ (q : Extent). q.size) x.2) in
    let there = gap_there conf.slots conf.words n 13056 extents small roomy.even (omega (arith, short)) (omega (arith, rows, total, count, few, most)) (omega (arith, roomy.slots, roomy.words)) in
    subst (λ (f : Conf). is_some (first_fit f.slots f.words (piece_of f) n extents) ≡ true) (sym laid.shape) (subst (λ w. is_some (first_fit conf.slots conf.words w n extents) ≡ true) (sym (piece_one conf roomy.one)) there)

-- ---- an insertion makes no room but by the sweep, and places its row

some_of : {X : Type 0} (o : Option X) → is_some o ≡ true → (x : X) × (o ≡ Some x)
some_of None h = absurd (cc h)
some_of (Some x) h = (x, refl)

pub inserts_so : (conf : Conf) (names : List (List ℕ)) (held key : List ℕ) (graph : List Kind) (c : Cache) → IsRoomy conf → length names ≤ 1032 → Laid conf names c → length (filter (is_held held) c.removed) ≤ 64
    → block_size (length key) graph ≤ 40
    → let n = block_size (length key) graph in
    (place : ℕ) × (gap_of (swept held c) n ≡ Some place) × (inserted held key graph 0 false 0 c ≡ put_in held key graph 0 0 n (swept held c) (Some place))
inserts_so conf names held key graph c roomy most laid few short = go (some_of (gap_of first n) gap)
  where
    n : ℕ
    n = block_size (length key) graph

    first : Cache
    first = swept held c

    gap : is_some (gap_of first n) ≡ true
    gap = has_room conf names n first roomy most (laid_swept conf names held c laid) few short

    fits : n ≤ most_of c.conf
    fits = subst (λ (f : Conf). n ≤ most_of f) (sym laid.shape) (omega (arith, most_one conf roomy.one, roomy.slots, roomy.words, short))

    go : (place : ℕ) × (gap_of first n ≡ Some place) → (place : ℕ) × (gap_of first n ≡ Some place) × (inserted held key graph 0 false 0 c ≡ put_in held key graph 0 0 n first (Some place))
    go p = (p.0, p.1, placed_at_once held key graph c p.0 fits p.1)

-- the words of a gap overlap no row's block: so no row is there
free_place : (place n : ℕ) (extents : List Extent) → 0 < n → is_free place n extents ≡ true → (e : Extent) → Contains extents e → 0 < e.size → (e.place == place) ≡ false
free_place place n [] some free e h pos = absurd (none_in_nil e h)
free_place place n (x ∷ extents) some free e h pos =
    let parts = and_parts (not (meets place n x)) (is_free place n extents) free in
    elim (Contains-cases x extents e h) [
      | inl same ↦ false_from_ne_true (e.place == place) (λ t. false≢true (sym (not-true (meets place n x) parts.0) ∙ (ap (λ (y : Extent). meets place n y) same ∙ overlap (eqb-true e.place place t))))
      | inr later ↦ free_place place n extents some parts.1 e later pos
    ]
  where
    overlap : e.place ≡ place → meets place n e ≡ true
    overlap same = lt-ltb (max place e.place) (min (place + n) (e.place + e.size)) (omega (arith, same, some, pos))

found_fits : (p : ℕ → Bool) (xs : List ℕ) (x : ℕ) → find p xs ≡ Some x → p x ≡ true
found_fits p [] x h = absurd (cc h)
found_fits p (y ∷ ys) x h = go (p y) refl (found_fits p ys x) h
  where
    go : (b : Bool) → p y ≡ b → (find p ys ≡ Some x → p x ≡ true) → cond b (Some y) (find p ys) ≡ Some x → p x ≡ true
    go true is later q = let e : y ≡ x = cc q in ap p (sym e) ∙ is
    go false is later q = later q

pub no_row_there : (n place : ℕ) (c : Cache) → 0 < n → ((r : Row) → Contains (all_rows c) r → 0 < r.size) → gap_of c n ≡ Some place → (r : Row) → Contains (all_rows c) r → (r.place == place) ≡ false
no_row_there n place c some pos gap r h =
    let extents = map extent_of (all_rows c) in
    let fit = found_fits (fits c.conf.slots c.conf.words (piece_of c.conf) n extents) (range_with_len 0 (c.conf.words + 1)) place gap in
    let whole = and_parts (place % 2 == 0 && nat_le c.conf.slots place && nat_le (place + n) c.conf.words && is_free place n extents) (is_whole (piece_of c.conf) place n) fit in
    let free = (and_parts (place % 2 == 0 && nat_le c.conf.slots place && nat_le (place + n) c.conf.words) (is_free place n extents) whole.0).1 in
    free_place place n extents some free (extent_of r) (Contains-map extent_of (all_rows c) r h) (pos r h)

-- no new row is like an old one
counted_placed : (p : Row → Bool) (held : List ℕ) (new : Row) (c d : Cache) → Placed held new c d → count_by (has_key new.key) c.rows ≤ 1 → ((r : Row) → p (let r' : Row = record r { dtime = 0 } in r') ≡ p r)
    → count_by p (all_rows d) ≤ cond {A = ℕ} (p new) 1 0 + count_by p (all_rows c)
counted_placed p held new c d parts single dated =
    let had = filter (has_key new.key) c.rows in
    let both : all_rows d ≡ with_row new c.rows ++ (c.removed ++ replaced_rows held new.key c.rows) =
    ap (λ (l : List Row). l ++ d.removed) parts.rows ∙ ap (λ (l : List Row). with_row new c.rows ++ l) parts.removed in
    let left : count_by p (replaced_rows held new.key c.rows) ≡ count_by p (filter (is_held held) had) =
    count-map {X = Row} p (λ row. record row { dtime = 0 }) (filter (is_held held) had) ∙ count_alike {X = Row} (λ row. p (record row { dtime = 0 })) p (filter (is_held held) had) dated in
    subst (λ (l : List Row). count_by p l ≤ cond {A = ℕ} (p new) 1 0 + count_by p (all_rows c)) (sym both)
    (omega (arith, left, count_filter p (is_held held) had, count_both p (has_key new.key) c.rows, with_counted p new c.rows single, count-append p (with_row new c.rows) (c.removed ++ replaced_rows held new.key c.rows), count-append p c.removed (replaced_rows held new.key c.rows), count-append p c.rows c.removed))

-- a row after an insertion: the new one, or one that was there, perhaps dated
placed_from : (held : List ℕ) (new : Row) (c d : Cache) → Placed held new c d → (r : Row) → Contains (all_rows d) r → (new ≡ r) ⊎ ((p : Row) × Contains (all_rows c) p × (p.number ≡ r.number) × (p.size ≡ r.size))
placed_from held new c d parts r h =
    elim (Contains-append_cases d.rows d.removed r h) [
      | inl l ↦ elim (with_there new c.rows r (subst (λ (x : List Row). Contains x r) parts.rows l)) [
        | inl e ↦ inl e
        | inr m ↦ inr (r, Contains-append_left c.rows c.removed r m.0, refl, refl)
      ]
      | inr l ↦ elim (Contains-append_cases c.removed (replaced_rows held new.key c.rows) r (subst (λ (x : List Row). Contains x r) parts.removed l)) [
        | inl m ↦ inr (r, Contains-append_right c.rows c.removed r m, refl, refl)
        | inr m ↦
            let x = map_there {X = Row} {Y = Row} (λ row. record row { dtime = 0 }) (filter (is_held held) (filter (has_key new.key) c.rows)) r m in
            let k = Contains-filter (is_held held) (filter (has_key new.key) c.rows) x.0 x.1 in
            inr (x.0, Contains-append_left c.rows c.removed x.0 (Contains-filter (has_key new.key) c.rows x.0 k.0).0, ap (λ (q : Row). q.number) x.2, ap (λ (q : Row). q.size) x.2)
      ]
    ]

pub laid_placed : (conf : Conf) (names : List (List ℕ)) (held : List ℕ) (new : Row) (c d : Cache) → Placed held new c d → Laid conf names c → length c.removed ≤ 64 → Contains names new.key → new.number ≡ c.next_number → c.next_number < 2 ^ 64 - 1
    → 0 < new.size → new.size ≤ 40 → ((r : Row) → Contains (all_rows c) r → (r.place == new.place) ≡ false) → Laid conf names d
laid_placed conf names held new c d parts laid few name number next pos short apart = record {
  shape = parts.shape ∙ laid.shape;
  named = λ r h. elim (with_there new c.rows r (subst (λ (x : List Row). Contains x r) parts.rows h)) [
    | inl e ↦ subst (λ (q : Row). Contains names q.key) e name
    | inr m ↦ laid.named r m.0
  ];
  keys = λ key. subst (λ (l : List Row). count_by (has_key key) l ≤ 1) (sym parts.rows) (key_count key (has_key key new) refl);
  numbers = λ n. omega (arith, counted_placed (λ (r : Row). r.number == n) held new c d parts (laid.keys new.key) (λ r. refl), laid.numbers n, number_count n (new.number == n) refl);
  places = λ a. omega (arith, counted_placed (λ (r : Row). r.place == a) held new c d parts (laid.keys new.key) (λ r. refl), laid.places a, place_count a (new.place == a) refl);
  below = λ r h. elim (placed_from held new c d parts r h) [
    | inl e ↦ omega (arith, number, next, parts.next, ap (λ (q : Row). q.number) e)
    | inr p ↦ omega (arith, laid.below p.0 p.1, p.2, parts.next, next)
  ];
  small = λ r h. elim (placed_from held new c d parts r h) [
    | inl e ↦ (omega (arith, pos, ap (λ (q : Row). q.size) e), omega (arith, short, ap (λ (q : Row). q.size) e))
    | inr p ↦ (omega (arith, laid.small p.0 p.1, p.3), omega (arith, laid.small p.0 p.1, p.3))
  ];
  few = few_after;
}
  where
    few_after : length d.removed ≤ 65
    few_after =
        let had = filter (has_key new.key) c.rows in
        let total : length d.removed ≡ length (c.removed ++ replaced_rows held new.key c.rows) = ap (λ (l : List Row). length l) parts.removed in
        let dates : length (replaced_rows held new.key c.rows) ≡ length (filter (is_held held) had) = length-map {A = Row} {B = Row} (filter (is_held held) had) (λ row. record row { dtime = 0 }) in
        omega (arith, total, length-append c.removed (replaced_rows held new.key c.rows), dates, few, length-filter (is_held held) had, count_by-le-length (is_held held) had, length-filter (has_key new.key) c.rows, laid.keys new.key)

    key_count : (key : List ℕ) (b : Bool) → has_key key new ≡ b → count_by (has_key key) (with_row new c.rows) ≤ 1
    key_count key true own =
        let none : count_by (has_key key) (filter (λ row. not (has_key new.key row)) c.rows) ≡ 0 =
        count_none (has_key key) (filter (λ row. not (has_key new.key row)) c.rows) (λ x h. subst (λ k. has_key k x ≡ false) (key_is key new own) (not-true (has_key new.key x) (Contains-filter (λ row. not (has_key new.key row)) c.rows x h).1)) in
        omega (arith, none, at_most (has_key key new), with_counted (has_key key) new c.rows (laid.keys new.key))
    key_count key false other =
        let zero_of : cond {A = ℕ} (has_key key new) 1 0 ≡ 0 = ap (λ b. cond {A = ℕ} b 1 0) other in
        omega (arith, zero_of, laid.keys key, count_filter (has_key key) (λ row. not (has_key new.key row)) c.rows, with_counted (has_key key) new c.rows (laid.keys new.key))

    number_count : (n : ℕ) (b : Bool) → (new.number == n) ≡ b → cond {A = ℕ} (new.number == n) 1 0 + count_by (λ (r : Row). r.number == n) (all_rows c) ≤ 1
    number_count n true own =
        let none : count_by (λ (r : Row). r.number == n) (all_rows c) ≡ 0 =
        count_none (λ (r : Row). r.number == n) (all_rows c) (λ r h. false_from_ne_true (r.number == n) (λ t. omega (arith, laid.below r h, eqb-true r.number n t, eqb-true new.number n own, number))) in
        omega (arith, none, at_most (new.number == n))
    number_count n false other =
        let zero_of : cond {A = ℕ} (new.number == n) 1 0 ≡ 0 = ap (λ b. cond {A = ℕ} b 1 0) other in
        omega (arith, zero_of, laid.numbers n)

    place_count : (a : ℕ) (b : Bool) → (new.place == a) ≡ b → cond {A = ℕ} (new.place == a) 1 0 + count_by (λ (r : Row). r.place == a) (all_rows c) ≤ 1
    place_count a true own =
        let none : count_by (λ (r : Row). r.place == a) (all_rows c) ≡ 0 =
        count_none (λ (r : Row). r.place == a) (all_rows c) (λ r h. subst (λ k. (r.place == k) ≡ false) (eqb-true new.place a own) (apart r h)) in
        omega (arith, none, at_most (new.place == a))
    place_count a false other =
        let zero_of : cond {A = ℕ} (new.place == a) 1 0 ≡ 0 = ap (λ b. cond {A = ℕ} b 1 0) other in
        omega (arith, zero_of, laid.places a)

-- the removed rows that are held are no more than the windows
pub few_held : (conf : Conf) (names : List (List ℕ)) (m : Stage) (mask : ℕ) → Laid conf names m.cache → length m.windows ≤ 64 → length (filter (is_held (held_places m mask)) m.cache.removed) ≤ 64
few_held conf names m mask laid few =
    let copied : Row → Bool = λ row. is_copied mask m row.number in
    let kept = filter copied (all_rows m.cache) in
    let held = held_places m mask in
    let first = pigeons {X = Row} {Y = ℕ × ℕ} (λ w r. r.number == w.1) m.windows kept
    (λ r h. let k = Contains-filter copied (all_rows m.cache) r h in let x = any_there (λ w. is_in_mask mask w.0 && w.1 == r.number) m.windows k.1 in (x.0, x.1, eq-eqb r.number x.0.1 (sym (eqb-true x.0.1 r.number (and_parts (is_in_mask mask x.0.0) (x.0.1 == r.number) x.2).1))))
    (λ w. omega (arith, laid.numbers w.1, count_filter (λ (r : Row). r.number == w.1) copied (all_rows m.cache))) in
    let second = pigeons {X = Row} {Y = ℕ} (λ a r. r.place == a) held (filter (is_held held) m.cache.removed)
    (λ r h. let k = Contains-filter (is_held held) m.cache.removed r h in let x = any_there (λ place. place == r.place) held k.1 in (x.0, x.1, eq-eqb r.place x.0 (sym (eqb-true x.0 r.place x.2))))
    (λ a. omega (arith, laid.places a, count_filter (λ (r : Row). r.place == a) (is_held held) m.cache.removed, count-append (λ (r : Row). r.place == a) m.cache.rows m.cache.removed)) in
    omega (arith, first, second, few, length-map kept (λ (row : Row). row.place))
