-- The rows of a cache after a change stood in it before, and are still the same.
use Rattle.std.proofs.Common.{◌≡◌, ℕ, inl, inr, true, not, List, ◌++◌, map, filter, refl, sym, ◌∙◌, subst}
use Rattle.std.specs.Prelude.{Contains}
use Rattle.std.proofs.lemmas.List.Elements.{Contains-append_left, Contains-append_right, Contains-append_cases}
use Rattle.apcu_model.specs.Cache.{Row, Cache}
use Rattle.apcu_model.specs.Facts.{dated, leaving_from}
use Rattle.apcu_model.specs.Change.{is_among, is_held, dropped, leaving, swept, expunged, cleared}
use Rattle.apcu_model.specs.Rows.{are_apart}
use Rattle.apcu_model.specs.Numbers.{IsIn, IsStill}
use Rattle.apcu_model.proofs.RowsApart.{are_apart-filter}
use Rattle.seg_words.specs.Members.{Contains-filter, map_there}

pub still : (row : Row) → IsStill row row
still row = record { number = refl; key = refl; place = refl; size = refl; ttl = refl; ctime = refl; scalar = refl }

pub still_on : {a b c : Row} → IsStill a b → IsStill b c → IsStill a c
still_on f g = record {
  number = f.number ∙ g.number;
  key = f.key ∙ g.key;
  place = f.place ∙ g.place;
  size = f.size ∙ g.size;
  ttl = f.ttl ∙ g.ttl;
  ctime = f.ctime ∙ g.ctime;
  scalar = f.scalar ∙ g.scalar;
}

pub still_back : {a b : Row} → IsStill a b → IsStill b a
still_back f = record {
  number = sym f.number;
  key = sym f.key;
  place = sym f.place;
  size = sym f.size;
  ttl = sym f.ttl;
  ctime = sym f.ctime;
  scalar = sym f.scalar;
}

-- it stood in the cache
abbrev pub Was : Cache → Row → Type 0
Was c row = (was : Row) × IsIn c was × IsStill was row

pub was_row : (c : Cache) (row : Row) → Contains c.rows row → Was c row
was_row c row there = (row, Contains-append_left c.rows c.removed row there, still row)

pub was_removed : (c : Cache) (row : Row) → Contains c.removed row → Was c row
was_removed c row there = (row, Contains-append_right c.rows c.removed row there, still row)

-- each row of the second cache stood in the first
pub record Sub (c c' : Cache) : Type 0 where
  pub from : (r : Row) → IsIn c' r → Was c r
  pub next : c'.next_number ≡ c.next_number
  pub keys : are_apart c.rows ≡ true → are_apart c'.rows ≡ true

pub sub_refl : (c : Cache) → Sub c c
sub_refl c = record { from = λ r h. (r, h, still r); next = refl; keys = λ k. k }

pub sub_trans : (a b c : Cache) → Sub a b → Sub b c → Sub a c
sub_trans a b c f g = record {
  from = λ r h. let p = g.from r h in let q = f.from p.0 p.1 in (q.0, q.1, still_on q.2 p.2);
  next = g.next ∙ f.next;
  keys = λ k. g.keys (f.keys k);
}

-- rows that were changed and are still the same
pub sub_map : (c : Cache) (f : Row → Row) → ((x : Row) → Contains c.rows x → IsStill x (f x)) → (r : Row) → Contains (map f c.rows ++ c.removed) r → Was c r
sub_map c f keeps r h = elim (Contains-append_cases (map f c.rows) c.removed r h) [
  | inl l ↦
      let x = map_there f c.rows r l in
      (x.0, Contains-append_left c.rows c.removed x.0 x.1, subst (IsStill x.0) x.2 (keeps x.0 x.1))
  | inr l ↦ was_removed c r l
]

pub sub_dropped : (held : List ℕ) (t : ℕ) (gone : List Row) (c : Cache) → ((row : Row) → Contains gone row → Contains c.rows row) → Sub c (dropped held t gone c)
sub_dropped held t some c inside = record { from = from; next = refl; keys = are_apart-filter (λ row. not (is_among some row)) c.rows }
  where
    gone : (r : Row) → Contains (dated t (filter (is_held held) some)) r → Was c r
    gone r h =
        let date : Row → Row = λ row. record row { dtime = t } in
        let x = map_there date (filter (is_held held) some) r h in
        let k = Contains-filter (is_held held) some x.0 x.1 in
        (x.0, Contains-append_left c.rows c.removed x.0 (inside x.0 k.0), subst (IsStill x.0) x.2 (record { number = refl; key = refl; place = refl; size = refl; ttl = refl; ctime = refl; scalar = refl }))

    from : (r : Row) → IsIn (dropped held t some c) r → Was c r
    from r h = elim (Contains-append_cases (dropped held t some c).rows (dropped held t some c).removed r h) [
      | inl l ↦ was_row c r (Contains-filter (λ (row : Row). not (is_among some row)) c.rows r l).0
      | inr l ↦ elim (Contains-append_cases c.removed (dated t (filter (is_held held) some)) r l) [
        | inl m ↦ was_removed c r m
        | inr m ↦ gone r m
      ]
    ]

pub sub_swept : (held : List ℕ) (c : Cache) → Sub c (swept held c)
sub_swept held c = record {
  from = λ r h. elim (Contains-append_cases c.rows (filter (is_held held) c.removed) r h) [
    | inl l ↦ was_row c r l
    | inr l ↦ was_removed c r (Contains-filter (is_held held) c.removed r l).0
  ];
  next = refl;
  keys = λ k. k;
}

pub sub_expunged : (held : List ℕ) (t : ℕ) (c : Cache) → Sub c (expunged held t c)
sub_expunged held t c = let d = sub_dropped held t (leaving c.conf c.rows) c (leaving_from c.conf c.rows) in record { from = d.from; next = d.next; keys = d.keys }

pub sub_cleared : (held : List ℕ) (t : ℕ) (c : Cache) → Sub c (cleared held t c)
sub_cleared held t c = let d = sub_dropped held t (leaving c.conf c.rows) c (leaving_from c.conf c.rows) in record { from = d.from; next = d.next; keys = d.keys }
