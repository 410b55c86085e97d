-- A chain of which no row is expired, and the conf of what rows were dropped from.
use Rattle.std.proofs.Common.{◌≡◌, true, false, List, [], ◌∷◌, ◌++◌, ℕ, Bool, cond, ap, ◌∙◌, refl, filter}
use Rattle.std.proofs.lemmas.Bool.{or_parts}
use Rattle.std.specs.Prelude.{nat_lt}
use Rattle.std.specs.List.{list_any, Contains, flat_map, range_with_len}
use Rattle.seg_words.specs.Members.{Contains-first, Contains-later}
use Rattle.seg_words.specs.Windows.{Aside}
use Rattle.apcu_model.specs.Cache.{Row}
use Rattle.apcu_model.specs.Change.{leaving, spent}
use Rattle.apcu_model.specs.Expiry.{is_expired}
use Rattle.apcu_model.specs.SlotOrder.{is_in_slot}
use Rattle.apcu_model.specs.declared.conf.Conf.{Conf}
use Rattle.entry_slots.specs.Entries.{Entries}
use Rattle.ttl_expunge.specs.ProbedRows.{Drops}

pub none_passes : (p : Row → Bool) (rows : List Row) → list_any p rows ≡ false → filter p rows ≡ []
none_passes p [] h = refl
none_passes p (row ∷ rows) h =
    let parts = or_parts (p row) (list_any p rows) h in
    ap (λ b. cond b (row ∷ filter p rows) (filter p rows)) parts.0 ∙ none_passes p rows parts.1

flat_nil : (f : ℕ → List Row) (ns : List ℕ) → ((k : ℕ) → f k ≡ []) → flat_map f ns ≡ []
flat_nil f [] e = refl
flat_nil f (n ∷ ns) e = ap (λ l. l ++ flat_map f ns) (e n) ∙ flat_nil f ns e

none_filtered : (p : Row → Bool) (rows : List Row) → ((row : Row) → Contains rows row → p row ≡ false) → filter p rows ≡ []
none_filtered p [] h = refl
none_filtered p (row ∷ rows) h = rw (h row (Contains-first row rows)) (none_filtered p rows (λ r c. h r (Contains-later row rows r c)))

-- none of the rows of a cache is expired, so none is dropped
pub none_spent : (conf : Conf) (t : ℕ) (rows : List Row) → ((row : Row) → Contains rows row → is_expired conf t row ≡ false) → spent conf t rows ≡ []
unfolding leaving
none_spent conf t rows h =
    elim (nat_lt 0 conf.ttl) as (λ b. cond b (leaving conf (filter (is_expired conf t) rows)) [] ≡ []) [
      | true ↦ ap (leaving conf) (none_filtered (is_expired conf t) rows h) ∙ flat_nil (λ slot. filter (is_in_slot conf slot) []) (range_with_len 0 conf.slots) (λ k. refl)
      | false ↦ refl
    ]

-- the shape stays
pub same_conf : {s new : Entries} {before after : Aside} {t : ℕ} {gone : List Row} → Drops s new before after t gone → new.conf ≡ s.conf
same_conf d = ap (λ (x : Entries). x.conf) d.dropped
