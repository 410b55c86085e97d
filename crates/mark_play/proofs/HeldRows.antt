-- What is held as an event begins is what the history holds.
use Rattle.std.proofs.Common.{◌≡◌, ◌≢◌, inl, inr, ℕ, ◌^◌, ◌<◌, ◌==◌, ◌&&◌, Bool, true, false, cond, List, [], ◌∷◌, ◌++◌, length, filter, Option, Some, None, refl, ap, sym, ◌∙◌, arith}
use Rattle.std.specs.Prelude.{Contains, nat_lt, slice_index, slice_index_or}
use Rattle.std.specs.Int.{bit_at}
use Rattle.std.specs.Map.{lookup}
use Rattle.std.proofs.lemmas.Bool.{and_parts, and_from, eqb-true, eq-eqb, false≢true, false_from_ne_true, cases_Bool, ltb-true, ltb-false}
use Rattle.std.proofs.lemmas.Nat.Bits.{bit_at_above}
use Rattle.seg_words.specs.Members.{Contains-map, Contains-filter, Contains-kept, Contains-first, Contains-later, any_there, any_from, any_has, map_there}
use Rattle.seg_words.specs.Windows.{Aside, has, is_named, held_by, held_blocks}
use Rattle.seg_words.specs.EventWindows.{opened_for, event_begun}
use Rattle.seg_words.specs.Probing.{Goes, held_named}
use Rattle.apcu_model.specs.Cache.{Row}
use Rattle.apcu_model.specs.Change.{AreAlike}
use Rattle.apcu_model.specs.History.{Stage, IsNumbered, window_of, is_in_mask, is_copied, is_scalar, held_places}
use Rattle.entry_slots.specs.Lists.{is_at, has_place}
use Rattle.mark_play.specs.declared.answering.Window.{Window}
use Rattle.mark_play.specs.HeldPlaces.{IsHeldFor}
use Rattle.mark_play.specs.ReplayStages.{window_number}
use Rattle.mark_play.proofs.OpenWindows.{opened_held, named_there, held_same}

-- a worker's window in the history is one of the list
window_there : (v n : ℕ) (ws : List (ℕ × ℕ)) → lookup (λ y. y == v) ws ≡ Some n → (w : ℕ × ℕ) × Contains ws w × (w.0 ≡ v) × (w.1 ≡ n)
window_there v n [] h = absurd (cc h)
window_there v n (w ∷ ws) h = go (w.0 == v) refl (window_there v n ws) h
  where
    go : (b : Bool) → (w.0 == v) ≡ b → (lookup (λ y. y == v) ws ≡ Some n → (x : ℕ × ℕ) × Contains ws x × (x.0 ≡ v) × (x.1 ≡ n)) → cond b (Some w.1) (lookup (λ y. y == v) ws) ≡ Some n
        → (x : ℕ × ℕ) × Contains (w ∷ ws) x × (x.0 ≡ v) × (x.1 ≡ n)
    go true is later q = let e : w.1 ≡ n = cc q in (w, Contains-first w ws, eqb-true w.0 v is, e)
    go false is later q = let r = later q in (r.0, Contains-later w ws r.0 r.1, r.2, r.3)

both : (a b : Bool) → (a ≡ true → b ≡ true) → (b ≡ true → a ≡ true) → a ≡ b
both true true f g = refl
both false false f g = refl
both true false f g = sym (f refl)
both false true f g = g refl

-- What is held for each worker of the mask is the block of its window, if that is still there.
pub record Meets (m : Stage) (windows : List (Option Window)) (mask : ℕ) (held : List ℕ) : Type 0 where
  pub seats : length held ≡ 64
  pub small : mask < 2 ^ 64
  pub numbers : (v : ℕ) → v < 64 → window_number (slice_index_or windows v None) ≡ window_of m v
  pub held_for : (v : ℕ) → v < 64 → bit_at mask v ≡ 1 → IsHeldFor (m.cache.rows ++ m.cache.removed) (slice_index_or windows v None) (slice_index held v)
  pub numbered : IsNumbered m

-- the row of a place that is held
pub record HeldRow (m : Stage) (v b : ℕ) : Type 0 where
  pub row : Row
  pub there : Contains (m.cache.rows ++ m.cache.removed) row
  pub place : row.place ≡ b
  pub window : window_of m v ≡ Some row.number

module _ (m : Stage) (windows : List (Option Window)) (mask : ℕ) (held : List ℕ) (h : Meets m windows mask held) where
  pub row_of : (v b : ℕ) → v < length held → bit_at mask v ≡ 1 → slice_index held v ≡ b → b ≢ 0 → HeldRow m v b
  row_of v b low bit at some = go (slice_index_or windows v None) refl (h.held_for v less bit)
    where
      less : v < 64
      less = omega (arith, low, h.seats)

      go : (o : Option Window) → slice_index_or windows v None ≡ o → IsHeldFor (m.cache.rows ++ m.cache.removed) o (slice_index held v) → HeldRow m v b
      go None is p = absurd (some (sym at ∙ p))
      go (Some w) is p =
          let r = p.there (λ z. some (sym at ∙ z)) in
          record {
            row = r.0;
            there = r.1;
            place = r.3 ∙ at;
            window = sym (h.numbers v less) ∙ (ap window_number is ∙ ap Some (sym r.2));
          }

  -- the blocks of its rows, so that words stand for the same entries
  pub opens_met : (v : ℕ) → v < length held → bit_at mask v ≡ 1 → slice_index held v ≢ 0 → has_place (slice_index held v) (m.cache.rows ++ m.cache.removed) ≡ true
  opens_met v low bit some =
      let r = row_of v (slice_index held v) low bit refl some in
      any_from (is_at (slice_index held v)) (m.cache.rows ++ m.cache.removed) r.row r.there (eq-eqb r.row.place (slice_index held v) r.place)

  -- a worker of the mask copies the row
  copied : (v n : ℕ) → window_of m v ≡ Some n → bit_at mask v ≡ 1 → is_copied mask m n ≡ true
  copied v n window bit =
      let w = window_there v n m.windows window in
      any_from (λ (w : ℕ × ℕ). is_in_mask mask w.0 && w.1 == n) m.windows w.0 w.1
      (and_from (is_in_mask mask w.0.0) (w.0.1 == n) (eq-eqb (bit_at mask w.0.0) 1 (ap (bit_at mask) w.2 ∙ bit)) (eq-eqb w.0.1 n w.3))

  there : (b : ℕ) → has b (held_by mask (opened_for mask held)) ≡ true → is_named (opened_for mask held) b ≡ true → has b (held_places m mask) ≡ true
  there b t named =
      let n = named_there mask held b named in
      let r = row_of n.1.0 b n.1.1 n.1.2 n.1.3 n.0 in
      let rows = m.cache.rows ++ m.cache.removed in
      let kept = Contains-kept (λ (row : Row). is_copied mask m row.number) rows r.row r.there (copied n.1.0 r.row.number r.window n.1.2) in
      let placed = Contains-map {X = Row} {Y = ℕ} (λ row. row.place) (filter (λ (row : Row). is_copied mask m row.number) rows) r.row kept in
      sym (any_has b (held_places m mask)) ∙ any_from (λ y. y == b) (held_places m mask) r.row.place placed (eq-eqb r.row.place b r.place)

  -- a row that a worker of the mask copies is held, if it is not at 0
  here : (b : ℕ) → has b (held_places m mask) ≡ true → has_place 0 (m.cache.rows ++ m.cache.removed) ≡ false → has b (held_by mask (opened_for mask held)) ≡ true
  here b t zero =
      let rows = m.cache.rows ++ m.cache.removed in
      let p = any_there (λ y. y == b) (held_places m mask) (any_has b (held_places m mask) ∙ t) in
      let x = map_there {X = Row} {Y = ℕ} (λ row. row.place) (filter (λ (row : Row). is_copied mask m row.number) rows) p.0 p.1 in
      let f = Contains-filter (λ (row : Row). is_copied mask m row.number) rows x.0 x.1 in
      let place : x.0.place ≡ b = x.2 ∙ eqb-true p.0 b p.2 in
      let w = any_there (λ (w : ℕ × ℕ). is_in_mask mask w.0 && w.1 == x.0.number) m.windows f.1 in
      let parts = and_parts (is_in_mask mask w.0.0) (w.0.1 == x.0.number) w.2 in
      let bit : bit_at mask w.0.0 ≡ 1 = eqb-true (bit_at mask w.0.0) 1 parts.0 in
      let number : w.0.1 ≡ x.0.number = eqb-true w.0.1 x.0.number parts.1 in
      let some : b ≢ 0 = λ z. false≢true (sym zero ∙ any_from (is_at 0) rows x.0 f.0 (eq-eqb x.0.place 0 (place ∙ z))) in
      found w.0.0 b x.0 bit f.0 place some (h.numbered.one w.0 w.1 ∙ ap Some number)
    where
      found : (v b : ℕ) (row : Row) → bit_at mask v ≡ 1 → Contains (m.cache.rows ++ m.cache.removed) row → row.place ≡ b → b ≢ 0 → window_of m v ≡ Some row.number → has b (held_by mask (opened_for mask held)) ≡ true
      found v b row bit c place some window = go (slice_index_or windows v None) refl (h.held_for v less bit)
        where
          less : v < 64
          less = elim (cases_Bool (nat_lt v 64)) [
            | inl t ↦ ltb-true v 64 t
            | inr f ↦ absurd (omega (arith, bit, bit_at_above mask 64 v h.small (ltb-false v 64 f)))
          ]

          go : (o : Option Window) → slice_index_or windows v None ≡ o → IsHeldFor (m.cache.rows ++ m.cache.removed) o (slice_index held v) → has b (held_by mask (opened_for mask held)) ≡ true
          go None is p = let e : window_number None ≡ Some row.number = ap window_number (sym is) ∙ (h.numbers v less ∙ window) in absurd (cc e)
          go (Some w) is p =
              let e : window_number (Some w) ≡ Some row.number = ap window_number (sym is) ∙ (h.numbers v less ∙ window) in
              let n : w.number ≡ row.number = cc e in
              let pos : slice_index held v ≢ 0 = λ z. p.none z row c (sym n) in
              let r = p.there pos in
              let same : slice_index held v ≡ b = sym r.3 ∙ (h.numbered.numbers r.0 row r.1 c (r.2 ∙ n) ∙ place) in
              opened_held mask held v b (omega (arith, less, h.seats)) bit same some

  -- the event and the history hold the same blocks, whatever was probed
  pub alike : has_place 0 (m.cache.rows ++ m.cache.removed) ≡ false → (new : Aside) → Goes (event_begun mask held) new → AreAlike (held_blocks new) (held_places m mask)
  alike zero new goes b =
      any_has b (held_blocks new) ∙ (held_same mask held new goes b
      ∙ (both (has b (held_by mask (opened_for mask held))) (has b (held_places m mask)) (λ t. there b t (held_named (event_begun mask held) b t)) (λ t. here b t zero)
      ∙ sym (any_has b (held_places m mask))))

  -- no window is on a row whose value is answered at once; rows of one place are one
  pub not_scalar : ((p q : Row) → Contains (m.cache.rows ++ m.cache.removed) p → Contains (m.cache.rows ++ m.cache.removed) q → p.place ≡ q.place → p ≡ q)
      → (row : Row) → Contains (m.cache.rows ++ m.cache.removed) row → is_scalar row.graph ≡ true → is_named (opened_for mask held) row.place ≡ false
  not_scalar one row c scalar = false_from_ne_true (is_named (opened_for mask held) row.place) (λ named.
      let n = named_there mask held row.place named in
      let r = row_of n.1.0 row.place n.1.1 n.1.2 n.1.3 n.0 in
      let same : r.row ≡ row = one r.row row r.there c r.place in
      let w = window_there n.1.0 r.row.number m.windows r.window in
      false≢true (sym (h.numbered.whole w.0 row w.1 c (ap (λ (x : Row). x.number) (sym same) ∙ sym w.3)) ∙ scalar))
