-- Rows that are listed one after the other.
use Rattle.std.proofs.Common.{◌≡◌, ◌∙◌, ℕ, suc, ◌+◌, ◌-◌, ◌<◌, List, [], ◌∷◌, ◌++◌, drop, map}
use Rattle.std.proofs.Common.{sym, ap, arith}
use Rattle.std.specs.List.{flat_map, range_with_len}
use Rattle.std.specs.Prelude.{Result, Ok, Err, IfOk}
use Rattle.std.proofs.lemmas.List.{append_assoc, map-append}
use Rattle.apcu_model.specs.declared.row_info.ListedRow.{ListedRow}
use Rattle.apcu_model.specs.Cache.{Row}
use Rattle.apcu_model.specs.Infos.{listed_of}
use Rattle.entry_slots.specs.Entries.{Entries, chain_of}

-- one row more of those that are left
pub row_goes_on : (rows : List Row) (passed : ℕ) (row : Row) (x : ListedRow)
    (old new : List ListedRow) → drop passed rows ≡ row ∷ drop (passed + 1) rows
    → x ≡ listed_of row → new ≡ old ++ x ∷ []
    → new ++ map listed_of (drop (passed + 1) rows) ≡ old ++ map listed_of (drop passed rows)
row_goes_on rows passed row x old new left told is =
    let rest = map listed_of (drop (passed + 1) rows) in
    ap (λ l. l ++ rest) (is ∙ ap (λ y. old ++ y ∷ []) told)
    ∙ append_assoc old (listed_of row ∷ []) rest
    ∙ sym (ap (λ l. old ++ map listed_of l) left)

-- one slot more of those that are left
pub chain_goes_on : (s : Entries) (slot : ℕ) (old new : List ListedRow) → slot < s.conf.slots
    → new ≡ old ++ map listed_of (chain_of s slot)
    → new ++ map listed_of (flat_map (chain_of s)
    (range_with_len (slot + 1) (s.conf.slots - (slot + 1))))
    ≡ old ++ map listed_of (flat_map (chain_of s) (range_with_len slot (s.conf.slots - slot)))
chain_goes_on s slot old new low is =
    let rest = flat_map (chain_of s) (range_with_len (slot + 1) (s.conf.slots - (slot + 1))) in
    let many : s.conf.slots - slot ≡ suc (s.conf.slots - (slot + 1)) = omega (arith, low) in
    ap (λ l. l ++ map listed_of rest) is
    ∙ append_assoc old (map listed_of (chain_of s slot)) (map listed_of rest)
    ∙ ap (λ l. old ++ l) (sym (map-append listed_of (chain_of s slot) rest))
    ∙ ap (λ n. old ++ map listed_of (flat_map (chain_of s) (range_with_len slot n))) (sym many)

-- an answer that has one fact has another
pub if_ok : {T E : Type 0} (P Q : T → Type 0) → ((x : T) → P x → Q x) → (r : Result T E)
    → IfOk r P → IfOk r Q
if_ok P Q f (Ok x) h = f x h
if_ok P Q f (Err e) h = tt
