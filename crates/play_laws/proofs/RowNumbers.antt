-- Each event leaves rows apart and numbered, and which rows of the cache after it are old ones.
use Rattle.std.proofs.Common.{◌≡◌, ℕ, ◌+◌, ◌-◌, ◌%◌, ◌^◌, ◌<◌, ◌≤◌, ◌⊎◌, inl, inr, Bool, true, false, not, if◌then◌else◌, List, [], ◌∷◌, length, map, Option, Some, None, refl, ap, sym, ◌∙◌, subst, arith}
use Rattle.std.specs.Prelude.{ℤ, Contains, is_some}
use Rattle.std.proofs.lemmas.Bool.{false≢true}
use Rattle.seg_words.specs.Members.{Contains-filter, map_there, filter_none}
use Rattle.php_graph.specs.declared.kind.Kind.{Kind}
use Rattle.php_graph.specs.declared.kind.Kind.TheVariants as kinds
use Rattle.seg_words.specs.declared.layout.TheConstants.{HEAD_WORDS}
use Rattle.seg_words.specs.Layout.{words_in}
use Rattle.std.proofs.lemmas.List.Sums.{sum_by-cons}
use Rattle.php_graph.specs.Size.{block_size, image_length, cells_of}
use Rattle.apcu_model.specs.Laws.{RowsStayApart}
use Rattle.apcu_model.specs.declared.conf.Conf.{Conf}
use Rattle.apcu_model.specs.Conf.{most_of}
use Rattle.apcu_model.specs.Cache.{Row, Cache, risen, has_key, gap_of}
use Rattle.apcu_model.specs.Change.{dropped, expired_in, is_among, leaving, swept, expired_dropped, expunged, cleared, has_gap, with_room, placed}
use Rattle.apcu_model.specs.Expiry.{live_row}
use Rattle.apcu_model.specs.Facts.{among_there}
use Rattle.apcu_model.specs.Lookups.{looked_up, touched}
use Rattle.apcu_model.specs.Rows.{are_apart, touched_at}
use Rattle.apcu_model.specs.SlotOrder.{slot_of}
use Rattle.apcu_model.specs.declared.request.Request.{Request}
use Rattle.apcu_model.specs.Counters.{integer_in, with_integer, with_integer_at, integer_set}
use Rattle.apcu_model.specs.History.{is_shallow}
use Rattle.apcu_model.specs.Sequential.{cache_after}
use Rattle.apcu_model.proofs.RequestSteps.{Sets, Steps, along, few_new, most_new}
use Rattle.apcu_model.proofs.RowsApart.{touched_key}
use Rattle.apcu_model.proofs.Scalars.{set_key}
use Rattle.play_laws.proofs.RowFacts.{key_is, one_of_key, live_there, with_there, all_leave}

-- the row holds an integer
abbrev pub is_counter : Row → Bool
is_counter row = is_some (integer_in row.graph)

-- a counter of this key fits into the empty segments
abbrev pub HasRoom : Cache → List ℕ → Type 0
HasRoom c key = (n : ℤ) → block_size (length key) (kinds.Int n ∷ []) ≤ most_of c.conf

pub record Sound (c : Cache) : Type 0 where
  pub slots : 1 ≤ c.conf.slots
  pub apart : are_apart c.rows ≡ true
  pub below : (p : Row) → Contains c.rows p → p.number < c.next_number
  pub one : (p q : Row) → Contains c.rows p → Contains c.rows q → p.number ≡ q.number → p.key ≡ q.key
  pub room : (p : Row) → Contains c.rows p → is_counter p ≡ true → HasRoom c p.key

-- A row of the cache after a change, and the row that it was: number and key stay, and whether it is
-- a counter. Under a key of P its integer does too.
pub record Was (P : List ℕ → Type 0) (p r : Row) : Type 0 where
  pub number : p.number ≡ r.number
  pub key : p.key ≡ r.key
  pub counter : is_counter p ≡ is_counter r
  pub value : P r.key → integer_in p.graph ≡ integer_in r.graph

-- the row stood in the cache before
abbrev pub Older : (List ℕ → Type 0) → Cache → Row → Type 0
Older P c r = (p : Row) × Contains c.rows p × Was P p r

older : (P : List ℕ → Type 0) (c : Cache) (r : Row) → Contains c.rows r → Older P c r
older P c r there = (r, there, record { number = refl; key = refl; counter = refl; value = λ own. refl })

-- all rows stood in the cache before
pub record Like (P : List ℕ → Type 0) (c c' : Cache) : Type 0 where
  pub shape : c'.conf ≡ c.conf
  pub next : c'.next_number ≡ c.next_number
  pub apart : are_apart c.rows ≡ true → are_apart c'.rows ≡ true
  pub from : (r : Row) → Contains c'.rows r → Older P c r

sound_like : (P : List ℕ → Type 0) (c c' : Cache) → Like P c c' → Sound c → Sound c'
sound_like P c c' s n = record {
  slots = omega (arith, n.slots, ap (λ (f : Conf). f.slots) s.shape);
  apart = s.apart n.apart;
  below = λ r h. let p = s.from r h in omega (arith, n.below p.0 p.1, p.2.number, s.next);
  one = λ r q h k e. let a = s.from r h in let b = s.from q k in sym a.2.key ∙ (n.one a.0 b.0 a.1 b.1 (a.2.number ∙ (e ∙ sym b.2.number)) ∙ b.2.key);
  room = λ r h is v. let p = s.from r h in subst (λ k. block_size (length k) (kinds.Int v ∷ []) ≤ most_of c'.conf) p.2.key (subst (λ f. block_size (length p.0.key) (kinds.Int v ∷ []) ≤ most_of f) (sym s.shape) (n.room p.0 p.1 (p.2.counter ∙ is) v));
}

-- ---- rows leave, or are used

like_dropped : RowsStayApart → (P : List ℕ → Type 0) (held : List ℕ) (t : ℕ) (gone : List Row) (c : Cache) → Like P c (dropped held t gone c)
like_dropped law P held t gone c = record {
  shape = refl;
  next = refl;
  apart = law.picked (λ row. not (is_among gone row)) c.rows;
  from = λ r h. older P c r (Contains-filter (λ (row : Row). not (is_among gone row)) c.rows r h).0;
}

older_map : (P : List ℕ → Type 0) (c : Cache) (f : Row → Row) → ((x : Row) → Contains c.rows x → Was P x (f x)) → (r : Row) → Contains (map f c.rows) r → Older P c r
older_map P c f keeps r h = let x = map_there f c.rows r h in (x.0, x.1, subst (Was P x.0) x.2 (keeps x.0 x.1))

like_looked : RowsStayApart → (P : List ℕ → Type 0) (key : List ℕ) (t : ℕ) (o : Option Row) (c : Cache) → Like P c (looked_up key t o c)
like_looked law P key t None c = record { shape = refl; next = refl; apart = λ k. k; from = older P c }
like_looked law P key t (Some row) c = record {
  shape = refl;
  next = refl;
  apart = λ k. law.changed (touched_at key t) c.rows (touched_key key t) ∙ k;
  from = older_map P c (touched_at key t) (λ x there. same x (has_key key x));
}
  where
    same : (x : Row) (b : Bool) → Was P x (if b then touched t x else x)
    same x true = record { number = refl; key = refl; counter = refl; value = λ own. refl }
    same x false = record { number = refl; key = refl; counter = refl; value = λ own. refl }

-- an integer is set if there is one, under a key that is not of P
like_set : RowsStayApart → (P : List ℕ → Type 0) (key : List ℕ) (n was : ℤ) (t : ℕ) (c : Cache) (row : Row) → (P key → ⊥) → live_row key t c ≡ Some row → integer_in row.graph ≡ Some was → Sound c → Like P c (integer_set key n t c)
like_set law P key n was t c row other live is sound = record {
  shape = refl;
  next = refl;
  apart = λ k. law.changed (with_integer_at key n t) c.rows (set_key key n t) ∙ k;
  from = older_map P c (with_integer_at key n t) (λ x there. same x there (has_key key x) refl);
}
  where
    same : (x : Row) → Contains c.rows x → (b : Bool) → has_key key x ≡ b → Was P x (if b then with_integer n t x else x)
    same x there true e =
        let l = live_there key t c row live in
        record {
          number = refl;
          key = refl;
          counter = ap is_counter (one_of_key key c.rows sound.apart x row there l.0 (key_is key x e) l.1) ∙ ap (λ (o : Option ℤ). is_some o) is;
          value = λ own. absurd (other (subst P (key_is key x e) own));
        }
    same x there false e = record { number = refl; key = refl; counter = refl; value = λ own. refl }

-- ---- rows come

-- after at most this many insertions: the cache is sound, and each row that is not new is unchanged
pub record Grown (P : List ℕ → Type 0) (most : ℕ) (c c' : Cache) : Type 0 where
  pub shape : c'.conf ≡ c.conf
  pub sound : Sound c'
  pub next : c'.next_number ≤ c.next_number + most
  pub more : c.next_number ≤ c'.next_number
  pub from : (r : Row) → Contains c'.rows r → r.number < c.next_number → Older P c r

grown_like : (P : List ℕ → Type 0) (c c' : Cache) → Like P c c' → Sound c → Grown P 0 c c'
grown_like P c c' s sound = record {
  shape = s.shape;
  sound = sound_like P c c' s sound;
  next = omega (arith, s.next);
  more = omega (arith, s.next);
  from = λ r h l. s.from r h;
}

grown_on : (P : List ℕ → Type 0) (m n : ℕ) (c d e : Cache) → Grown P m c d → Grown P n d e → Grown P (m + n) c e
grown_on P m n c d e f g = record {
  shape = g.shape ∙ f.shape;
  sound = g.sound;
  next = omega (arith, f.next, g.next);
  more = omega (arith, f.more, g.more);
  from = λ r h l.
      let p = g.from r h (omega (arith, l, f.more)) in
      let q = f.from p.0 p.1 (omega (arith, p.2.number, l)) in
      (q.0, q.1, record { number = q.2.number ∙ p.2.number; key = q.2.key ∙ p.2.key; counter = q.2.counter ∙ p.2.counter; value = λ own. q.2.value (subst P (sym p.2.key) own) ∙ p.2.value own });
}

pub grown_most : (P : List ℕ → Type 0) (m n : ℕ) (c d : Cache) → m ≤ n → Grown P m c d → Grown P n c d
grown_most P m n c d l f = record { shape = f.shape; sound = f.sound; next = omega (arith, l, f.next); more = f.more; from = f.from }

-- a counter takes no more words than a value whose first place is an integer
least_counter : (k : ℕ) (g : List Kind) (n : ℤ) → is_some (integer_in g) ≡ true → block_size k (kinds.Int n ∷ []) ≤ block_size k g
least_counter k (kinds.Int m ∷ ks) n is =
    let one : image_length (kinds.Int n ∷ []) ≡ 2 = refl in
    let more : image_length (kinds.Int m ∷ ks) ≡ 2 + image_length ks = sum_by-cons cells_of (kinds.Int m) ks in
    even_sum (HEAD_WORDS + words_in k + image_length (kinds.Int n ∷ [])) (HEAD_WORDS + words_in k + image_length (kinds.Int m ∷ ks)) (omega (arith, one, more))
  where
    even_sum : (a b : ℕ) → a ≤ b → a + a % 2 ≤ b + b % 2
    even_sum a b h = omega arith
least_counter k _ n is = absurd (cc is)

-- a row of the cache with a new one: that one, or one of another key that was there
pub placed_cases : RowsStayApart → (held key : List ℕ) (graph : List Kind) (ttl t n : ℕ) (c : Cache) (place : ℕ) (r : Row) → Contains (placed held key graph ttl t n c place).rows r
    → ((r.number ≡ c.next_number) × (r.key ≡ key) × (integer_in graph ≡ integer_in r.graph)) ⊎ (Contains c.rows r × (has_key key r ≡ false))
placed_cases law held key graph ttl t n c place r h =
    let gone = expired_in c.conf t (slot_of c.conf key) c.rows in
    let stored_row : Row = record { key = key; graph = graph; ttl = ttl; ctime = t; mtime = t; atime = t; dtime = 0; hits = 0; place = place; size = n; number = c.next_number } in
    elim (with_there stored_row (dropped held t gone c).rows r h) [
      | inl e ↦ inl (sym (ap (λ (q : Row). q.number) e), sym (ap (λ (q : Row). q.key) e), ap (λ (q : Row). integer_in q.graph) e)
      | inr m ↦ inr ((Contains-filter (λ (row : Row). not (is_among gone row)) c.rows r m.0).0, m.1)
    ]

grown_placed : RowsStayApart → (P : List ℕ → Type 0) (held key : List ℕ) (graph : List Kind) (ttl t : ℕ) (c : Cache) (place : ℕ) → block_size (length key) graph ≤ most_of c.conf → Sound c → c.next_number < 2 ^ 64 - 1
    → Grown P 1 c (placed held key graph ttl t (block_size (length key) graph) c place)
grown_placed law P held key graph ttl t c place small sound few = record {
  shape = refl;
  sound = record { slots = sound.slots; apart = law.more stored_row (dropped held t gone c).rows (law.picked (λ row. not (is_among gone row)) c.rows sound.apart); below = below; one = one; room = room };
  next = omega (arith, few);
  more = omega (arith, few);
  from = λ r h l. elim (placed_cases law held key graph ttl t n c place r h) [
    | inl e ↦ absurd (omega (arith, e.0, l))
    | inr m ↦ older P c r m.0
  ];
}
  where
    n : ℕ
    n = block_size (length key) graph

    gone : List Row
    gone = expired_in c.conf t (slot_of c.conf key) c.rows

    stored_row : Row
    stored_row = record { key = key; graph = graph; ttl = ttl; ctime = t; mtime = t; atime = t; dtime = 0; hits = 0; place = place; size = n; number = c.next_number }

    below : (r : Row) → Contains (placed held key graph ttl t n c place).rows r → r.number < risen c.next_number
    below r h = elim (placed_cases law held key graph ttl t n c place r h) [
      | inl e ↦ omega (arith, e.0, few)
      | inr m ↦ omega (arith, sound.below r m.0, few)
    ]

    one : (p q : Row) → Contains (placed held key graph ttl t n c place).rows p → Contains (placed held key graph ttl t n c place).rows q → p.number ≡ q.number → p.key ≡ q.key
    one p q h k e = elim (placed_cases law held key graph ttl t n c place p h) [
      | inl a ↦ elim (placed_cases law held key graph ttl t n c place q k) [
        | inl b ↦ a.1 ∙ sym b.1
        | inr b ↦ absurd (omega (arith, sound.below q b.0, a.0, e))
      ]
      | inr a ↦ elim (placed_cases law held key graph ttl t n c place q k) [
        | inl b ↦ absurd (omega (arith, sound.below p a.0, b.0, e))
        | inr b ↦ sound.one p q a.0 b.0 e
      ]
    ]

    room : (p : Row) → Contains (placed held key graph ttl t n c place).rows p → is_counter p ≡ true → HasRoom c p.key
    room p h is v = elim (placed_cases law held key graph ttl t n c place p h) [
      | inl a ↦ subst (λ k. block_size (length k) (kinds.Int v ∷ []) ≤ most_of c.conf) (sym a.1) (omega (arith, least_counter (length key) graph v (ap (λ (o : Option ℤ). is_some o) a.2 ∙ is), small))
      | inr a ↦ sound.room p a.0 is v
    ]

-- where no gap is left after room was made, no row is
pub no_row : (held : List ℕ) (n t : ℕ) (c : Cache) → 1 ≤ c.conf.slots → gap_of (with_room held n t c) n ≡ None → (with_room held n t c).rows ≡ []
no_row held n t c some none = go (has_gap n first) refl (has_gap n second) refl none
  where
    first : Cache
    first = swept held c

    second : Cache
    second = expired_dropped held t first

    go : (a : Bool) → has_gap n first ≡ a → (b : Bool) → has_gap n second ≡ b → gap_of (if a then first else if b then second else expunged held t second) n ≡ None
        → (if a then first else if b then second else expunged held t second).rows ≡ []
    go true e b f none = absurd (false≢true (sym (ap (λ (o : Option ℕ). is_some o) none) ∙ e))
    go false e true f none = absurd (false≢true (sym (ap (λ (o : Option ℕ). is_some o) none) ∙ f))
    go false e false f none = filter_none (λ (row : Row). not (is_among (leaving c.conf second.rows) row)) second.rows (λ row h. ap not (among_there (leaving c.conf second.rows) row (all_leave c.conf second.rows row some h)))

-- ---- an event

-- as far as the numbers last
abbrev pub Grows : (List ℕ → Type 0) → ℕ → Cache → Cache → Type 0
Grows P n c d = Sound c → c.next_number + n < 2 ^ 64 → Grown P n c d

pub grown_steps : RowsStayApart → (P : List ℕ → Type 0) (held : List ℕ) (t : ℕ) (r : Request) → ((key : List ℕ) → Sets r key → P key → ⊥) → Steps held t r (Grows P)
grown_steps law P held t r other = record {
  same = λ c sound few. grown_like P c c (record { shape = refl; next = refl; apart = λ k. k; from = older P c }) sound;
  onward = λ m n a b c f g sound few. let x = f sound (omega (arith, few)) in grown_on P m n a b c x (g x.sound (omega (arith, few, x.next)));
  wider = λ m n c d l f sound few. grown_most P m n c d l (f sound (omega (arith, few, l)));
  sweep = λ c sound few. grown_like P c (swept held c) (record { shape = refl; next = refl; apart = λ k. k; from = older P c }) sound;
  drop = λ gone c why sound few. grown_like P c (dropped held t gone c) (like_dropped law P held t gone c) sound;
  expunge = λ c sound few. let d = like_dropped law P held t (leaving c.conf c.rows) c in grown_like P c (expunged held t c) (record { shape = refl; next = refl; apart = d.apart; from = d.from }) sound;
  clear = λ c is sound few. let d = like_dropped law P held t (leaving c.conf c.rows) c in grown_like P c (cleared held t c) (record { shape = refl; next = refl; apart = d.apart; from = d.from }) sound;
  place = λ key graph ttl c place may fits sound few. grown_placed law P held key graph ttl t c place fits sound (omega (arith, few));
  look = λ key o c sound few. grown_like P c (looked_up key t o c) (like_looked law P key t o c) sound;
  set = λ key n was c row may live is sound few. grown_like P c (integer_set key n t c) (like_set law P key n was t c row (other key may) live is sound) sound;
}

pub grown_after : RowsStayApart → (P : List ℕ → Type 0) (held : List ℕ) (t : ℕ) (r : Request) (c : Cache) → ((key : List ℕ) → Sets r key → P key → ⊥) → Sound c → c.next_number + 8 < 2 ^ 64 → is_shallow r ≡ true
    → Grown P 8 c (cache_after held t r c)
grown_after law P held t r c other sound few shallow =
    let less = few_new r shallow in
    grown_most P (most_new r) 8 c (cache_after held t r c) less (along held t r (Grows P) (grown_steps law P held t r other) c sound (omega (arith, few, less)))
