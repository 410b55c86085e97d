-- A spot that was found before room was made is the same where no row had to go.
use Rattle.std.proofs.Common.{◌≡◌, ℕ, ◌<◌, ◌==◌, ◌&&◌, Bool, true, false, cond, not, List, [], ◌∷◌, length, filter, find, Option, Some, None, refl, sym, ap, ◌∙◌, subst, arith}
use Rattle.std.specs.Prelude.{if◌then◌else◌}
use Rattle.std.specs.List.{list_any}
use Rattle.std.proofs.lemmas.Bool.{or_parts, eqb-true}
use Rattle.std.proofs.lemmas.List.Sums.{length-filter, count_by-le-length}
use Rattle.apcu_model.specs.declared.conf.Conf.{Conf}
use Rattle.apcu_model.specs.Cache.{Row, Cache, has_key}
use Rattle.apcu_model.specs.Change.{is_among, leaving, spent, swept, expired_dropped, expunged, has_gap, with_room}
use Rattle.apcu_model.specs.Expiry.{is_expired}
use Rattle.apcu_model.specs.SlotOrder.{is_in_slot, slot_of}
use Rattle.seg_words.specs.Members.{filter_then}
use Rattle.entry_slots.specs.declared.spots.Spot.{Spot}
use Rattle.entry_slots.specs.Entries.{Entries, chain_of, found_place}
use Rattle.entry_slots.specs.Spots.{IsSpotOf}
use Rattle.cache_core.specs.Spots.{IsSpotIfAny, HaveSameRows}

-- if none was left out, all are there
all_left : (p : Row → Bool) (rows : List Row) → length (filter p rows) ≡ length rows → filter p rows ≡ rows
all_left p [] h = refl
all_left p (row ∷ rows) h = go (p row) refl (all_left p rows)
  where
    go : (b : Bool) → p row ≡ b → (length (filter p rows) ≡ length rows → filter p rows ≡ rows) → filter p (row ∷ rows) ≡ row ∷ rows
    go true e on =
        let now : filter p (row ∷ rows) ≡ row ∷ filter p rows = ap (λ b. cond b (row ∷ filter p rows) (filter p rows)) e in
        now ∙ ap (λ l. row ∷ l) (on (omega (arith, sym (ap (λ (l : List Row). length l) now) ∙ h)))
    go false e on =
        let now : filter p (row ∷ rows) ≡ filter p rows = ap (λ b. cond b (row ∷ filter p rows) (filter p rows)) e in
        absurd (omega (arith, sym (ap (λ (l : List Row). length l) now) ∙ h, length-filter p rows, count_by-le-length p rows))

-- where no row passes, none is taken
pub none_taken : (p : Row → Bool) (rows : List Row) → list_any p rows ≡ false → filter p rows ≡ []
none_taken p [] h = refl
none_taken p (row ∷ rows) h =
    let parts = or_parts (p row) (list_any p rows) h in
    ap (λ b. cond b (row ∷ filter p rows) (filter p rows)) parts.0 ∙ none_taken p rows parts.1

-- room that took no row left all of them
pub rows_stay : (held : List ℕ) (n t : ℕ) (c : Cache) → length (with_room held n t c).rows ≡ length c.rows → (with_room held n t c).rows ≡ c.rows
rows_stay held n t c = go (has_gap n first) (has_gap n second)
  where
    first : Cache
    first = swept held c

    second : Cache
    second = expired_dropped held t first

    -- the rows that stay, when the expired ones go and when all do
    stays : Row → Bool
    stays row = not (is_among (spent c.conf t c.rows) row)

    last : Row → Bool
    last row = not (is_among (leaving second.conf second.rows) row)

    go : (b d : Bool) → length (if b then first else if d then second else expunged held t second).rows ≡ length c.rows → (if b then first else if d then second else expunged held t second).rows ≡ c.rows
    go true d h = refl
    go false true h = all_left stays c.rows h
    go false false h =
        let both = filter_then stays last c.rows in
        both ∙ all_left (λ row. stays row && last row) c.rows (sym (ap (λ (l : List Row). length l) both) ∙ h)

-- the spot of the key among the same rows
pub same_spot : {s new : Entries} {key : List ℕ} {t : ℕ} {spot : Spot} → HaveSameRows s new → IsSpotOf s key t spot → IsSpotOf new key t spot
same_spot {s} {new} {key} {t} {spot} same h =
    let i = h.in_chain in
    let chain : chain_of new spot.slot ≡ chain_of s spot.slot = ap (λ (k : Conf). filter (is_in_slot k spot.slot) new.rows) same.conf ∙ ap (λ (l : List Row). filter (is_in_slot s.conf spot.slot) l) same.rows in
    record {
      in_chain = record {
        front = i.front;
        back = i.back;
        split = chain ∙ i.split;
        low = subst (λ (k : Conf). spot.slot < k.slots) (sym same.conf) i.low;
        link_is = i.link_is;
        at_is = i.at_is;
        stale_is = i.stale_is ∙ ap (λ (k : Conf). list_any (is_expired k t) i.front) (sym same.conf);
      };
      slot_is = h.slot_is ∙ ap (λ (k : Conf). slot_of k key) (sym same.conf);
      old_is = h.old_is ∙ ap (λ (l : List Row). found_place (find (has_key key) l)) (sym same.rows);
    }

pub same_spot_if : {s new : Entries} (key : List ℕ) (t : ℕ) (spot : Option Spot) → HaveSameRows s new → IsSpotIfAny s key t spot → IsSpotIfAny new key t spot
same_spot_if key t None same h = h
same_spot_if key t (Some spot) same h = same_spot same h

-- it is of use only where no row has gone
pub still_spot : {s new : Entries} (key : List ℕ) (t : ℕ) (spot : Option Spot) (before after : ℕ) → (after ≡ before → HaveSameRows s new) → IsSpotIfAny s key t spot → IsSpotIfAny new key t (if after == before then spot else None)
still_spot {s} {new} key t spot before after same h = go (after == before) refl
  where
    go : (b : Bool) → (after == before) ≡ b → IsSpotIfAny new key t (if b then spot else None)
    go true e = same_spot_if key t spot (same (eqb-true after before e)) h
    go false e = search
