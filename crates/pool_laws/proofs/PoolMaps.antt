-- A pool's map compared with the cache: the replies to its own requests, and that the two stay
-- alike.
use Rattle.std.proofs.Common.{◌≡◌, inl, inr, ℕ, ◌+◌, ◌≤◌, ◌==◌, ◌&&◌, ◌||◌, Bool, true, false, not, cond, if◌then◌else◌, List, length, map, filter, Option, Some, None, option_map, is_some, refl, sym, ap, ap₂, ◌∙◌, subst, arith}
use Rattle.std.specs.Prelude.{find, nat_le, nat_lt}
use Rattle.std.specs.List.{list_all}
use Rattle.std.specs.Str.{bytes_eq}
use Rattle.std.proofs.lemmas.Bool.{and_parts, and_from, not-true, not_from_false, not_from_true, cases_Bool, cases_eq, cases_lt, eq-eqb, ne_eqb, false≢true, false_from_ne_true, le-leb, lt-leb, lt-ltb, le-ltb, leb-true}
use Rattle.std.proofs.lemmas.Slice.Eq.{bytes_eq-Decides}
use Rattle.php_graph.specs.declared.kind.Kind.{Kind}
use Rattle.php_graph.specs.Size.{block_size}
use Rattle.apcu_model.specs.declared.request.Request.{Request}
use Rattle.apcu_model.specs.declared.request.Request.TheVariants as request
use Rattle.apcu_model.specs.declared.request.Reply.TheVariants as replies
use Rattle.apcu_model.specs.declared.request.StoreAnswer.TheVariants as answers
use Rattle.apcu_model.specs.Cache.{Row, Cache, has_key, gap_of}
use Rattle.apcu_model.specs.Change.{dropped, expired_in, with_room, with_row, put_in, inserted}
use Rattle.apcu_model.specs.Conf.{most_of}
use Rattle.apcu_model.specs.Rows.{are_apart}
use Rattle.apcu_model.proofs.RowsApart.{left_passing}
use Rattle.apcu_model.specs.Expiry.{is_hard_expired, live_row}
use Rattle.apcu_model.specs.Lookups.{looked_up}
use Rattle.apcu_model.specs.Sequential.{cache_after, reply_to, is_stored, found_in}
use Rattle.apcu_model.specs.SlotOrder.{slot_of}
use Rattle.pool_laws.specs.PoolKeys.{is_key_of}
use Rattle.pool_laws.specs.Maps.{Entry, is_there, is_under, entry_under, without, with_entry, found_in_map, map_reply, map_after}
use Rattle.pool_laws.specs.Pools.{are_bytes}
use Rattle.pool_laws.proofs.KeyCounts.{has_one, differ, has_kept, differ_kept, none_found}
use Rattle.pool_laws.proofs.FilteredLists.{find-filter, find-gone, all-filter}
use Rattle.pool_laws.proofs.PoolRows.{passes, entry_of, seen, is_tame, key_is, found_new, Step, step_looked, step_inserted}

-- a key of the pool, of bytes
abbrev pub is_own : List ℕ → List ℕ → Bool
is_own name key = is_key_of name key && are_bytes key

-- the map and the cache have the same under each key of the pool, from the moment t on
pub record Agrees (name : List ℕ) (t : ℕ) (m : List Entry) (c : Cache) : Type 0 where
  pub alike : (key : List ℕ) → is_own name key ≡ true → (s : ℕ) → t ≤ s → entry_under key s m ≡ seen key s c.rows
  pub single : differ (map (λ (e : Entry). e.key) m) ≡ true
  pub own : list_all (λ (e : Entry). is_own name e.key) m ≡ true

pub agrees_later : (name : List ℕ) (t u : ℕ) (m : List Entry) (c : Cache) → t ≤ u → Agrees name t m c → Agrees name u m c
agrees_later name t u m c le a = record { alike = λ key own s l. a.alike key own s (omega (arith, le, l)); single = a.single; own = a.own }

-- a step of another's
pub agrees_step : (name : List ℕ) (t : ℕ) (m : List Entry) (c new : Cache) → Agrees name t m c → Step name t (λ key. is_own name key ≡ true) c new → c.conf.ttl ≡ 0 → are_apart c.rows ≡ true → new.expunges ≡ 0 → Agrees name t m new
agrees_step name t m c new a f none apart calm =
    record { alike = λ key own s le. a.alike key own s le ∙ sym (f.rows none apart calm key own s le); single = a.single; own = a.own }

-- what comes of a request of the pool
pub record Goes (name : List ℕ) (t : ℕ) (r : Request) (held : List ℕ) (m : List Entry) (c : Cache) : Type 0 where
  pub reply : reply_to held t r c ≡ map_reply c.conf.slots t r m
  pub next : Agrees name t (map_after c.conf.slots t r m) (cache_after held t r c)

-- ---- moments

in_time : (ttl a s : ℕ) → not (nat_lt 0 ttl && nat_lt a s) ≡ (ttl == 0 || nat_le s a)
in_time ttl a s = elim (cases_eq ttl 0) [
  | inl zero_is ↦ rw (le-ltb 0 ttl (omega (arith, zero_is)), eq-eqb ttl 0 zero_is) refl
  | inr some ↦ elim (cases_lt a s) [
    | inl past ↦ rw (lt-ltb 0 ttl (omega (arith, some)), lt-ltb a s past, ne_eqb ttl 0 some, lt-leb s a past) refl
    | inr within ↦ rw (lt-ltb 0 ttl (omega (arith, some)), le-ltb a s within, ne_eqb ttl 0 some, le-leb s a within) refl
  ]
]

live_is : (s : ℕ) (row : Row) → not (is_hard_expired s row) ≡ is_there s (entry_of row)
live_is s row = in_time row.ttl (row.ctime + row.ttl) s

-- what is there later was there before
pub was_there : (t s : ℕ) (e : Entry) → t ≤ s → is_there s e ≡ true → is_there t e ≡ true
was_there t s e le h = elim (cases_eq e.ttl 0) [
  | inl zero_is ↦ rw (eq-eqb e.ttl 0 zero_is) refl
  | inr some ↦
      let late : nat_le s (e.ctime + e.ttl) ≡ true = rw (ne_eqb e.ttl 0 some) at h in
      rw (ne_eqb e.ttl 0 some) (le-leb t (e.ctime + e.ttl) (omega (arith, le, leb-true s (e.ctime + e.ttl) late)))
]

-- ---- the map

key_under : (key : List ℕ) (e : Entry) → is_under key e ≡ true → e.key ≡ key
key_under key e h = (bytes_eq-Decides e.key key).0 h

under_key : (key : List ℕ) (e : Entry) → e.key ≡ key → is_under key e ≡ true
under_key key e h = (bytes_eq-Decides e.key key).1 h

abbrev entry_passes : List ℕ → ℕ → Entry → Bool
entry_passes key s e = is_under key e && is_there s e

pub passes_under : (key : List ℕ) (s : ℕ) (e : Entry) → entry_passes key s e ≡ true → e.key ≡ key
passes_under key s e h = key_under key e (and_parts (is_under key e) (is_there s e) h).0

gone_from : (key : List ℕ) (s : ℕ) (m : List Entry) → entry_under key s (without key m) ≡ None
gone_from key s m =
    find-gone (entry_passes key s) (λ e. not (is_under key e)) m
    (λ e h. not_from_true (is_under key e) (and_parts (is_under key e) (is_there s e) h).0)

left_in : (key other : List ℕ) (s : ℕ) (m : List Entry) → (key ≡ other → ⊥) → entry_under key s (without other m) ≡ entry_under key s m
left_in key other s m apart =
    find-filter (entry_passes key s) (λ e. not (is_under other e)) m
    (λ e h. not_from_false (is_under other e) (false_from_ne_true (is_under other e) (λ u. apart (sym (passes_under key s e h) ∙ key_under other e u))))

-- ---- look-ups

reply_found : (o : Option Entry) (r : Option Row) → o ≡ option_map entry_of r → found_in r ≡ found_in_map o
reply_found o r e = sym (ap found_in_map e ∙ from r)
  where
    from : (r : Option Row) → found_in_map (option_map entry_of r) ≡ found_in r
    from None = refl
    from (Some row) = refl

pub some_alike : (o : Option Entry) (r : Option Row) → o ≡ option_map entry_of r → is_some r ≡ is_some o
some_alike o r e = sym (ap is_some e ∙ from r)
  where
    from : (r : Option Row) → is_some (option_map entry_of r) ≡ is_some r
    from None = refl
    from (Some row) = refl

-- ---- what was stored

-- the new row stands among the rows
record Placed (key : List ℕ) (graph : List Kind) (ttl t : ℕ) (rows : List Row) : Type 0 where
  new : Row
  before : List Row
  is : rows ≡ with_row new before
  entry : entry_of new ≡ record { key = key; value = graph; ctime = t; ttl = ttl }

stored_rows : (held key : List ℕ) (graph : List Kind) (ttl : ℕ) (exclusive : Bool) (t : ℕ) (c : Cache) → is_stored (inserted held key graph ttl exclusive t c).answer ≡ true
    → Placed key graph ttl t (inserted held key graph ttl exclusive t c).cache.rows
stored_rows held key graph ttl exclusive t c stored = go (nat_lt (most_of c.conf) n) (exclusive && is_some (live_row key t c)) stored
  where
    n : ℕ
    n = block_size (length key) graph

    room : Cache
    room = with_room held n t c

    put : (place : Option ℕ) → is_stored (put_in held key graph ttl t n room place).answer ≡ true → Placed key graph ttl t (put_in held key graph ttl t n room place).cache.rows
    put None s = absurd (false≢true s)
    put (Some place) s = record {
      new = record { key = key; graph = graph; ttl = ttl; ctime = t; mtime = t; atime = t; dtime = 0; hits = 0; place = place; size = n; number = room.next_number };
      before = (dropped held t (expired_in room.conf t (slot_of room.conf key) room.rows) room).rows;
      is = refl;
      entry = refl;
    }

    go : (a b : Bool) → is_stored (if a then record { answer = answers.TooLarge; cache = c } else if b then record { answer = answers.Exists; cache = c } else put_in held key graph ttl t n room (gap_of room n)).answer ≡ true
        → Placed key graph ttl t (if a then record { answer = answers.TooLarge; cache = c } else if b then record { answer = answers.Exists; cache = c } else put_in held key graph ttl t n room (gap_of room n)).cache.rows
    go true b s = absurd (false≢true s)
    go false true s = absurd (false≢true s)
    go false false s = put (gap_of room n) s

seen_placed : (key : List ℕ) (graph : List Kind) (ttl t s : ℕ) (rows : List Row) → Placed key graph ttl t rows
    → let entry : Entry = record { key = key; value = graph; ctime = t; ttl = ttl } in seen key s rows ≡ cond (is_there s entry) (Some entry) None
seen_placed key graph ttl t s rows p =
    let entry : Entry = record { key = key; value = graph; ctime = t; ttl = ttl } in
    let own : p.new.key ≡ key = ap (λ (e : Entry). e.key) p.entry in
    let found : find (passes key s) (with_row p.new p.before) ≡ cond (not (is_hard_expired s p.new)) (Some p.new) None =
    subst (λ k. find (passes k s) (with_row p.new p.before) ≡ cond (not (is_hard_expired s p.new)) (Some p.new) None) own (found_new s p.new p.before) in
    ap (seen key s) p.is
    ∙ (ap (option_map entry_of) found
    ∙ (either (not (is_hard_expired s p.new))
    ∙ ap₂ (λ b e. cond {A = Option Entry} b (Some e) None) (live_is s p.new ∙ ap (is_there s) p.entry) p.entry))
  where
    either : (b : Bool) → option_map entry_of (cond b (Some p.new) None) ≡ cond b (Some (entry_of p.new)) None
    either true = refl
    either false = refl

module _ (name : List ℕ) (t : ℕ) (held : List ℕ) (m : List Entry) (c : Cache) (a : Agrees name t m c) (none : c.conf.ttl ≡ 0) (apart : are_apart c.rows ≡ true) where
  found_here : (key : List ℕ) → is_own name key ≡ true → entry_under key t m ≡ option_map entry_of (live_row key t c)
  found_here key own = a.alike key own t (omega arith)

  pub goes_fetch : (key : List ℕ) → is_own name key ≡ true → (looked_up key t (live_row key t c) c).expunges ≡ 0 → Goes name t (request.Fetch key) held m c
  goes_fetch key own calm = record {
    reply = ap (λ x. x) (reply_found (entry_under key t m) (live_row key t c) (found_here key own));
    next = agrees_step name t m c (looked_up key t (live_row key t c) c) a (step_looked name t (λ k. is_own name k ≡ true) key (live_row key t c) c) none apart calm;
  }

  pub goes_exists : (key : List ℕ) → is_own name key ≡ true → Goes name t (request.Exists key) held m c
  goes_exists key own = record {
    reply = ap replies.Flag (some_alike (entry_under key t m) (live_row key t c) (found_here key own));
    next = a;
  }

  -- ---- delete

  taken_away : (key : List ℕ) → is_own name key ≡ true → Agrees name t (without key m) (dropped held t (filter (has_key key) c.rows) c)
  taken_away key own = record {
    alike = λ other is s le. elim (cases_Bool (bytes_eq other key)) [
      | inl same_one ↦
          let e : other ≡ key = (bytes_eq-Decides other key).0 same_one in
          subst (λ k. entry_under k s (without key m) ≡ seen k s (dropped held t (filter (has_key key) c.rows) c).rows) (sym e)
          (gone_from key s m ∙ sym (ap (seen key s) (left_passing (has_key key) c.rows apart) ∙ ap (option_map entry_of)
          (find-gone (passes key s) (λ row. not (has_key key row)) c.rows
          (λ row h. not_from_true (has_key key row) (and_parts (has_key key row) (not (is_hard_expired s row)) h).0))))
      | inr another ↦
          let differs : other ≡ key → ⊥ = λ e. false≢true (sym another ∙ (bytes_eq-Decides other key).1 e) in
          left_in other key s m differs
          ∙ (a.alike other is s le
          ∙ sym (ap (seen other s) (left_passing (has_key key) c.rows apart) ∙ ap (option_map entry_of)
          (find-filter (passes other s) (λ row. not (has_key key row)) c.rows
          (λ row h. not_from_false (has_key key row) (false_from_ne_true (has_key key row)
          (λ u. differs (sym (key_is other row (and_parts (has_key other row) (not (is_hard_expired s row)) h).0) ∙ key_is key row u)))))))
    ];
    single = differ_kept (λ (e : Entry). e.key) (λ e. not (is_under key e)) m a.single;
    own = all-filter (λ (e : Entry). is_own name e.key) (λ e. not (is_under key e)) m a.own;
  }

  pub goes_delete : (key : List ℕ) → is_own name key ≡ true → Goes name t (request.Delete key) held m c
  goes_delete key own =
      let e = some_alike (entry_under key t m) (live_row key t c) (found_here key own) in
      record { reply = ap replies.Flag e; next = go (is_some (entry_under key t m)) (is_some (live_row key t c)) e }
    where
      go : (x y : Bool) → y ≡ x → Agrees name t (if x then without key m else m) (if y then dropped held t (filter (has_key key) c.rows) c else c)
      go true true e = taken_away key own
      go false false e = a
      go true false e = absurd (false≢true e)
      go false true e = absurd (false≢true (sym e))

  -- ---- store

  pub goes_store : (key : List ℕ) (graph : List Kind) (ttl : ℕ) → is_own name key ≡ true → is_tame name key ≡ true
      → is_stored (inserted held key graph ttl false t c).answer ≡ true → (inserted held key graph ttl false t c).cache.expunges ≡ 0
      → Goes name t (request.Store key graph ttl false) held m c
  goes_store key graph ttl own tame stored calm = record {
    reply = ap replies.Flag stored;
    next = record { alike = alike; single = single; own = and_from (is_own name key) (list_all (λ (e : Entry). is_own name e.key) (without key m)) own (all-filter (λ (e : Entry). is_own name e.key) (λ e. not (is_under key e)) m a.own) };
  }
    where
      entry : Entry
      entry = record { key = key; value = graph; ctime = t; ttl = ttl }

      after : Cache
      after = (inserted held key graph ttl false t c).cache

      others_step : Step name t (λ other. (is_own name other ≡ true) × (other ≡ key → ⊥)) c after
      others_step = step_inserted name t (λ other. (is_own name other ≡ true) × (other ≡ key → ⊥)) held key graph ttl false c tame (λ other p e. p.1 e)

      placed : Placed key graph ttl t after.rows
      placed = stored_rows held key graph ttl false t c stored

      here : (s : ℕ) → entry_under key s (with_entry entry m) ≡ seen key s after.rows
      here s =
          let under : is_under key entry ≡ true = under_key key entry refl in
          let first : entry_under key s (with_entry entry m) ≡ cond (is_there s entry) (Some entry) None = rw under (ap (λ o. cond (is_there s entry) (Some entry) o) (gone_from key s m)) in
          first ∙ sym (seen_placed key graph ttl t s after.rows placed)

      alike : (other : List ℕ) → is_own name other ≡ true → (s : ℕ) → t ≤ s → entry_under other s (with_entry entry m) ≡ seen other s after.rows
      alike other is s le = elim (cases_Bool (bytes_eq key other)) [
        | inl same_one ↦
            let e : key ≡ other = (bytes_eq-Decides key other).0 same_one in
            subst (λ k. entry_under k s (with_entry entry m) ≡ seen k s after.rows) e (here s)
        | inr another ↦
            let differs : other ≡ key → ⊥ = λ e. false≢true (sym another ∙ (bytes_eq-Decides key other).1 (sym e)) in
            let past : entry_under other s (with_entry entry m) ≡ entry_under other s (without key m) = rw another refl in
            past ∙ (left_in other key s m differs ∙ (a.alike other is s le ∙ sym (others_step.rows none apart calm other (is, differs) s le)))
      ]

      single : differ (map (λ (e : Entry). e.key) (with_entry entry m)) ≡ true
      single =
          and_from (not (has_one key (map (λ (e : Entry). e.key) (without key m)))) (differ (map (λ (e : Entry). e.key) (without key m)))
          (not_from_false (has_one key (map (λ (e : Entry). e.key) (without key m)))
          (has_kept (λ (e : Entry). e.key) (λ e. not (is_under key e)) key m ∙ none_found (λ e. not (is_under key e) && bytes_eq e.key key) m
          (λ e there h. let parts = and_parts (not (is_under key e)) (bytes_eq e.key key) h in false≢true (sym (not-true (is_under key e) parts.0) ∙ parts.1))))
          (differ_kept (λ (e : Entry). e.key) (λ e. not (is_under key e)) m a.single)
