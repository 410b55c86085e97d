-- What a look-up finds.
use Rattle.std.proofs.Common.{◌≡◌, ℕ, Bool, true, false, not, ◌&&◌, cond, List, [], ◌∷◌, Option, Some, None, refl, ap, sym, ◌∙◌, subst}
use Rattle.std.specs.Prelude.{Contains, find, option_map, if◌then◌else◌}
use Rattle.std.proofs.lemmas.Bool.{eq-eqb}
use Rattle.php_graph.specs.declared.kind.Kind.{Kind}
use Rattle.seg_words.specs.Members.{Contains-first, Contains-later, any_from}
use Rattle.apcu_model.specs.Cache.{Row, Cache, has_key}
use Rattle.apcu_model.specs.Expiry.{live_row, is_hard_expired}
use Rattle.apcu_model.specs.History.{is_scalar}
use Rattle.entry_slots.specs.Lists.{is_at, has_place}
use Rattle.mark_play.specs.declared.answering.Window.{Window}
use Rattle.mark_play.specs.Windows.{window_on}

-- where a row is and what it holds
abbrev pub spot : ℕ → List Kind → ℕ × List Kind
spot at value = (at, value)

abbrev pub spot_of : Row → ℕ × List Kind
spot_of row = (row.place, row.graph)

-- a look-up of the key finds this row, at this place and with this value
pub record FoundRow (key : List ℕ) (t : ℕ) (c : Cache) (at : ℕ) (value : List Kind) : Type 0 where
  pub row : Row
  pub live : live_row key t c ≡ Some row
  pub there : Contains c.rows row
  pub place : row.place ≡ at
  pub graph : row.graph ≡ value

pub found_there : (p : Row → Bool) (rows : List Row) (row : Row) → find p rows ≡ Some row → Contains rows row
found_there p [] row h = absurd (cc h)
found_there p (x ∷ rows) row h = go (p x) (found_there p rows row) h
  where
    go : (b : Bool) → (find p rows ≡ Some row → Contains rows row) → cond b (Some x) (find p rows) ≡ Some row → Contains (x ∷ rows) row
    go true later q = let e : x ≡ row = cc q in subst (λ z. Contains (x ∷ rows) z) e (Contains-first x rows)
    go false later q = Contains-later x rows row (later q)

pub found_row : (key : List ℕ) (t : ℕ) (c : Cache) (at : ℕ) (value : List Kind) → Some (spot at value) ≡ option_map spot_of (live_row key t c) → FoundRow key t c at value
found_row key t c at value e = go (live_row key t c) refl e
  where
    go : (o : Option Row) → live_row key t c ≡ o → Some (spot at value) ≡ option_map spot_of o → FoundRow key t c at value
    go None live q = absurd (cc q)
    go (Some row) live q = record {
      row = row;
      live = live;
      there = found_there (λ row. has_key key row && not (is_hard_expired t row)) c.rows row live;
      place = let e : spot_of row ≡ spot at value = sym (cc q) in ap (λ (x : ℕ × List Kind). x.0) e;
      graph = let e : spot_of row ≡ spot at value = sym (cc q) in ap (λ (x : ℕ × List Kind). x.1) e;
    }

pub place_there : (rows : List Row) (row : Row) (at : ℕ) → Contains rows row → row.place ≡ at → has_place at rows ≡ true
place_there rows row at there place = any_from (is_at at) rows row there (eq-eqb row.place at place)

pub none_found : (key : List ℕ) (t : ℕ) (c : Cache) → ◌≡◌ {A = Option (ℕ × List Kind)} None (option_map spot_of (live_row key t c)) → live_row key t c ≡ None
none_found key t c e = go (live_row key t c) e
  where
    go : (o : Option Row) → ◌≡◌ {A = Option (ℕ × List Kind)} None (option_map spot_of o) → o ≡ None
    go None q = refl
    go (Some row) q = absurd (cc q)

pub window_is : (key copy : List ℕ) (number : ℕ) (row : Row) → is_scalar row.graph ≡ false → copy ≡ key → number ≡ row.number
    → Some (record { key = copy; number = number }) ≡ window_on key (Some row)
window_is key copy number row scalar same numbered =
    let made : List ℕ → ℕ → Window = λ k n. record { key = k; number = n } in
    ap (λ k. Some (made k number)) same ∙ (ap (λ n. Some (made key n)) numbered
    ∙ sym (ap (λ (b : Bool). if b then None else Some (made key row.number)) scalar))

pub found_passes : (p : Row → Bool) (rows : List Row) (row : Row) → find p rows ≡ Some row → p row ≡ true
found_passes p [] row h = absurd (cc h)
found_passes p (x ∷ rows) row h = go (p x) refl (found_passes p rows row) h
  where
    go : (b : Bool) → p x ≡ b → (find p rows ≡ Some row → p row ≡ true) → cond b (Some x) (find p rows) ≡ Some row → p row ≡ true
    go true is later q = let e : x ≡ row = cc q in ap p (sym e) ∙ is
    go false is later q = later q
