-- A pool is cleared, step by step: its map and the cache end each step at one slot, and lose the same keys.
use Rattle.std.proofs.Common.{◌≡◌, inl, inr, ℕ, ◌+◌, ◌-◌, ◌≤◌, ◌&&◌, ◌||◌, Bool, true, false, not, List, [], ◌∷◌, length, map, filter, Option, option_map, is_some, refl, sym, ap, ap₂, ◌∙◌, subst, arith}
use Rattle.std.specs.Prelude.{Contains, nat_le, nat_lt, unwrap_or}
use Rattle.std.specs.List.{range_with_len, list_any}
use Rattle.std.proofs.lemmas.Bool.{and_parts, and_from, and_right, or_cases, not-true, not_from_false, not_from_true, cases_Bool, false≢true}
use Rattle.std.proofs.lemmas.Slice.Eq.{bytes_eq-Decides}
use Rattle.apcu_model.specs.declared.searching.Pattern.{Pattern}
use Rattle.apcu_model.specs.declared.request.Request.TheVariants as request
use Rattle.apcu_model.specs.declared.request.Reply.TheVariants as replies
use Rattle.apcu_model.specs.Cache.{Row, Cache, has_key}
use Rattle.apcu_model.specs.Change.{dropped}
use Rattle.apcu_model.specs.Chunks.{is_item, items_between, chunk_end, chunk_rows}
use Rattle.apcu_model.specs.Expiry.{is_hard_expired, live_row}
use Rattle.apcu_model.specs.PatternMatches.{key_matches}
use Rattle.apcu_model.specs.Rows.{are_apart}
use Rattle.apcu_model.specs.SlotOrder.{slot_of}
use Rattle.simple_pool.specs.Names.{braced, is_good_name}
use Rattle.pool_laws.specs.PoolKeys.{is_key_of, holds_text, is_pattern_of}
use Rattle.simple_pool.specs.Requests.{pool_step}
use Rattle.pool_laws.specs.Maps.{Entry, is_there, is_under, entry_under, is_between, there_between, clear_end, is_cleared}
use Rattle.pool_laws.specs.Pools.{are_bytes}
use Rattle.pool_laws.proofs.DeletedRows.{is_in_chunk, left_chunk}
use Rattle.pool_laws.proofs.KeyCounts.{has_one, differ, same_count, has_kept, differ_kept, count_kept, any_found, none_found, count_alike, counted_slots, up_to_slot}
use Rattle.pool_laws.proofs.FilteredLists.{find-filter, find-gone, find_alike, all-filter, all_there}
use Rattle.pool_laws.proofs.BracedNames.{key_holds, pattern_matches}
use Rattle.pool_laws.proofs.PoolRows.{passes, entry_of, seen, is_tame, are_tame, key_is, was_live}
use Rattle.pool_laws.proofs.PoolMaps.{is_own, Agrees, Goes, some_alike, was_there, passes_under}

-- rows that are apart have keys that differ
apart_keys : (rows : List Row) → differ (map (λ (row : Row). row.key) rows) ≡ are_apart rows
apart_keys [] = refl
apart_keys (row ∷ rows) = ap₂ (λ a b. not a && b) (any_key row.key rows) (apart_keys rows)
  where
    any_key : (key : List ℕ) (rows : List Row) → has_one key (map (λ (row : Row). row.key) rows) ≡ list_any (has_key key) rows
    any_key key [] = refl
    any_key key (row ∷ rows) = ap (λ b. has_key key row || b) (any_key key rows)

all_true : (h : Bool) → ((h && true) && true) ≡ h
all_true true = refl
all_true false = refl

and_false : (b : Bool) → (b && false) ≡ false
and_false true = refl
and_false false = refl

and_comm : (a b : Bool) → (a && b) ≡ (b && a)
and_comm true true = refl
and_comm true false = refl
and_comm false true = refl
and_comm false false = refl

and_assoc : (a b c : Bool) → ((a && b) && c) ≡ (a && (b && c))
and_assoc true b c = refl
and_assoc false b c = refl

module _ (name : List ℕ) (t : ℕ) (m : List Entry) (c : Cache) (a : Agrees name t m c) (good : is_good_name name ≡ true) (apart : are_apart c.rows ≡ true) (tame : are_tame name c.rows ≡ true)
    (wanted : Option Pattern) (is : is_pattern_of name wanted ≡ true) where
  matches_own : (key : List ℕ) → is_own name key ≡ true → key_matches wanted key ≡ true
  matches_own key own =
      let parts = and_parts (is_key_of name key) (are_bytes key) own in
      pattern_matches name wanted key good is parts.1 ∙ key_holds name key parts.0

  -- what the pattern matches among the rows is the pool's
  own_matched : (row : Row) → Contains c.rows row → key_matches wanted row.key ≡ true → is_own name row.key ≡ true
  own_matched row there matched =
      let parts = and_parts (are_bytes row.key) (is_key_of name row.key || not (holds_text (braced name) row.key)) (all_there (λ (row : Row). is_tame name row.key) c.rows row tame there) in
      let holds : holds_text (braced name) row.key ≡ true = sym (pattern_matches name wanted row.key good is parts.0) ∙ matched in
      let own : is_key_of name row.key ≡ true = elim (or_cases (is_key_of name row.key) (not (holds_text (braced name) row.key)) parts.1) [
        | inl own ↦ own
        | inr not_there ↦ absurd (false≢true (sym (not-true (holds_text (braced name) row.key) not_there) ∙ holds))
      ] in
      and_from (is_key_of name row.key) (are_bytes row.key) own parts.0

  -- ---- the keys that are there

  abbrev row_keys : List (List ℕ)
  row_keys = map (λ (row : Row). row.key) (filter (is_item wanted t) c.rows)

  abbrev map_keys : List (List ℕ)
  map_keys = map (λ (e : Entry). e.key) (filter (is_there t) m)

  item_passes : (key : List ℕ) → is_own name key ≡ true → (row : Row) → (is_item wanted t row && has_key key row) ≡ passes key t row
  item_passes key own row = elim (cases_Bool (has_key key row)) [
    | inl has ↦
        let matched : key_matches wanted row.key ≡ true = ap (key_matches wanted) (key_is key row has) ∙ matches_own key own in
        rw (matched, has) (all_true (not (is_hard_expired t row)))
    | inr other ↦ rw other (and_false (is_item wanted t row))
  ]

  same_keys : (key : List ℕ) → has_one key row_keys ≡ has_one key map_keys
  same_keys key =
      has_kept (λ (row : Row). row.key) (is_item wanted t) key c.rows ∙ (go (is_own name key) refl ∙ sym (has_kept (λ (e : Entry). e.key) (is_there t) key m))
    where
      go : (b : Bool) → is_own name key ≡ b → list_any (λ row. is_item wanted t row && has_key key row) c.rows ≡ list_any (λ e. is_there t e && is_under key e) m
      go true own =
          any_found (λ row. is_item wanted t row && has_key key row) c.rows
          ∙ (ap is_some (find_alike (λ row. is_item wanted t row && has_key key row) (passes key t) c.rows (item_passes key own))
          ∙ (some_alike (entry_under key t m) (live_row key t c) (a.alike key own t (omega arith))
          ∙ (ap is_some (find_alike (λ e. is_under key e && is_there t e) (λ e. is_there t e && is_under key e) m (λ e. and_comm (is_under key e) (is_there t e)))
          ∙ sym (any_found (λ e. is_there t e && is_under key e) m))))
      go false foreign =
          none_found (λ row. is_item wanted t row && has_key key row) c.rows (λ row there h.
          let parts = and_parts (is_item wanted t row) (has_key key row) h in
          let matched = (and_parts (not (is_hard_expired t row)) (key_matches wanted row.key) parts.0).1 in
          false≢true (sym foreign ∙ (ap (is_own name) (sym (key_is key row parts.1)) ∙ own_matched row there matched)))
          ∙ sym (none_found (λ e. is_there t e && is_under key e) m (λ e there h.
          let parts = and_parts (is_there t e) (is_under key e) h in
          let key_e : e.key ≡ key = (bytes_eq-Decides e.key key).0 parts.1 in
          false≢true (sym foreign ∙ (ap (is_own name) (sym key_e) ∙ all_there (λ (e : Entry). is_own name e.key) m e a.own there))))

  -- as many in some slots
  same_between : (from upto : ℕ) → length (items_between wanted t c from upto) ≡ there_between c.conf.slots from upto t m
  same_between from upto =
      let slots = c.conf.slots in
      counted_slots (λ (row : Row). slot_of c.conf row.key) (is_item wanted t) c.rows from (upto - from)
      ∙ (count_alike (λ row. is_item wanted t row && (nat_le from (slot_of c.conf row.key) && nat_lt (slot_of c.conf row.key) (from + (upto - from)))) (λ row. is_item wanted t row && is_between slots from upto row.key) c.rows
      (λ row. ap (λ b. is_item wanted t row && b) (up_to_slot from upto (slot_of c.conf row.key)))
      ∙ (sym (count_kept (λ (row : Row). row.key) (is_item wanted t) (is_between slots from upto) c.rows)
      ∙ (same_count (is_between slots from upto) row_keys map_keys
      (differ_kept (λ (row : Row). row.key) (is_item wanted t) c.rows (apart_keys c.rows ∙ apart))
      (differ_kept (λ (e : Entry). e.key) (is_there t) m a.single) same_keys
      ∙ count_kept (λ (e : Entry). e.key) (is_there t) (is_between slots from upto) m)))

  same_end : (from size : ℕ) → chunk_end wanted t c from size ≡ clear_end c.conf.slots from size t m
  same_end from size =
      ap (λ o. unwrap_or o c.conf.slots)
      (find_alike (λ upto. nat_le size (length (items_between wanted t c from upto))) (λ upto. nat_le size (there_between c.conf.slots from upto t m)) (range_with_len from (c.conf.slots - from))
      (λ upto. ap (nat_le size) (same_between from upto)))

  -- ---- what goes

  in_chunk_is : (from size : ℕ) (row : Row) → is_in_chunk wanted t c from size row ≡ (is_item wanted t row && is_between c.conf.slots from (chunk_end wanted t c from size) row.key)
  in_chunk_is from size row = and_assoc (is_item wanted t row) (nat_le from (slot_of c.conf row.key)) (nat_lt (slot_of c.conf row.key) (chunk_end wanted t c from size))

  cleared_alike : (held : List ℕ) (from size end : ℕ) → chunk_end wanted t c from size ≡ end → (key : List ℕ) → is_own name key ≡ true → (s : ℕ) → t ≤ s
      → entry_under key s (filter (λ e. not (is_cleared c.conf.slots from end t e)) m) ≡ seen key s (dropped held t (chunk_rows wanted t c from size) c).rows
  cleared_alike held from size end ends key own s le = go (is_between c.conf.slots from end key) refl ∙ sym (ap (seen key s) (left_chunk wanted t c from size apart))
    where
      slots : ℕ
      slots = c.conf.slots

      in_chunk : (row : Row) → is_in_chunk wanted t c from size row ≡ (is_item wanted t row && is_between c.conf.slots from end row.key)
      in_chunk row = in_chunk_is from size row ∙ ap (λ n. is_item wanted t row && is_between c.conf.slots from n row.key) ends

      row_key : (row : Row) → passes key s row ≡ true → row.key ≡ key
      row_key row h = key_is key row (and_parts (has_key key row) (not (is_hard_expired s row)) h).0

      go : (b : Bool) → is_between c.conf.slots from end key ≡ b
          → entry_under key s (filter (λ e. not (is_cleared c.conf.slots from end t e)) m) ≡ seen key s (filter (λ row. not (is_in_chunk wanted t c from size row)) c.rows)
      go true inside =
          find-gone (λ e. is_under key e && is_there s e) (λ e. not (is_cleared c.conf.slots from end t e)) m
          (λ e h. not_from_true (is_cleared c.conf.slots from end t e)
          (and_from (is_there t e) (is_between c.conf.slots from end e.key) (was_there t s e le (and_parts (is_under key e) (is_there s e) h).1)
          (ap (is_between c.conf.slots from end) (passes_under key s e h) ∙ inside)))
          ∙ sym (ap (option_map entry_of)
          (find-gone (passes key s) (λ row. not (is_in_chunk wanted t c from size row)) c.rows
          (λ row h. not_from_true (is_in_chunk wanted t c from size row)
          (in_chunk row ∙ and_from (is_item wanted t row) (is_between c.conf.slots from end row.key)
          (and_from (not (is_hard_expired t row)) (key_matches wanted row.key) (not_from_false (is_hard_expired t row) (was_live t s key row le h)) (ap (key_matches wanted) (row_key row h) ∙ matches_own key own))
          (ap (is_between c.conf.slots from end) (row_key row h) ∙ inside)))))
      go false outside =
          find-filter (λ e. is_under key e && is_there s e) (λ e. not (is_cleared c.conf.slots from end t e)) m
          (λ e h. not_from_false (is_cleared c.conf.slots from end t e) (and_right (is_there t e) (is_between c.conf.slots from end e.key) (ap (is_between c.conf.slots from end) (passes_under key s e h) ∙ outside)))
          ∙ (a.alike key own s le
          ∙ sym (ap (option_map entry_of)
          (find-filter (passes key s) (λ row. not (is_in_chunk wanted t c from size row)) c.rows
          (λ row h. not_from_false (is_in_chunk wanted t c from size row)
          (in_chunk row ∙ and_right (is_item wanted t row) (is_between c.conf.slots from end row.key) (ap (is_between c.conf.slots from end) (row_key row h) ∙ outside))))))

  cleared : (held : List ℕ) (from size : ℕ) → Agrees name t (filter (λ e. not (is_cleared c.conf.slots from (clear_end c.conf.slots from size t m) t e)) m) (dropped held t (chunk_rows wanted t c from size) c)
  cleared held from size =
      let end = clear_end c.conf.slots from size t m in
      record {
        alike = cleared_alike held from size end (same_end from size);
        single = differ_kept (λ (e : Entry). e.key) (λ e. not (is_cleared c.conf.slots from end t e)) m a.single;
        own = all-filter (λ (e : Entry). is_own name e.key) (λ e. not (is_cleared c.conf.slots from end t e)) m a.own;
      }

  pub goes_clear : (held : List ℕ) (from size : ℕ) → size ≡ pool_step → Goes name t (request.ChunkDelete wanted from size) held m c
  goes_clear held from size usual = record {
    reply = ap replies.Next (same_end from size ∙ ap (λ n. clear_end c.conf.slots from n t m) usual);
    next = subst (λ n. Agrees name t (filter (λ e. not (is_cleared c.conf.slots from (clear_end c.conf.slots from n t m) t e)) m) (dropped held t (chunk_rows wanted t c from size) c)) usual (cleared held from size);
  }
