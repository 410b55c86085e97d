-- The rows of all slots, slot by slot.
use Rattle.std.proofs.Common.{◌≡◌, ◌≢◌, ℕ, zero, suc, ◌+◌, ◌≤◌, Bool, true, false, not, ◌&&◌, List, [], ◌∷◌, ◌++◌, filter, refl, sym, ap, ◌∙◌, subst, append_assoc, add-one, arith}
use Rattle.std.proofs.lemmas.Bool.{eqb-true, false≢true, false_from_ne_true}
use Rattle.std.specs.List.{Contains, flat_map, range_with_len}
use Rattle.std.proofs.lemmas.List.{append-nil}
use Rattle.seg_words.specs.Windows.{Aside}
use Rattle.apcu_model.specs.Cache.{Row}
use Rattle.apcu_model.specs.Change.{is_among, leaving, left_of}
use Rattle.apcu_model.specs.Facts.{among_from}
use Rattle.apcu_model.specs.SlotOrder.{slot_of, is_in_slot}
use Rattle.entry_slots.specs.Entries.{Entries, chain_of}
use Rattle.ttl_expunge.specs.ProbedRows.{AreRemoved, Drops}
use Rattle.seg_words.specs.Members.{filter_alike, Contains-filter, filter_then}
use Rattle.ttl_expunge.proofs.DroppedRows.{drops_on, drops_none}
use Rattle.ttl_expunge.proofs.SlotDrops.{filter_swap}

pub flat_last : {X : Type 0} (f : ℕ → List X) (n a k : ℕ) → a + n ≡ k → flat_map f (range_with_len a (suc n)) ≡ flat_map f (range_with_len a n) ++ f k
flat_last f zero a k e = ap (λ j. f j ++ []) (omega (arith, e)) ∙ append-nil (f k)
flat_last f (suc n) a k e = ap (λ l. f a ++ l) (flat_last f n (a + 1) k (omega (arith, e))) ∙ sym (append_assoc (f a) (flat_map f (range_with_len (a + 1) n)) (f k))

pub flat_alike : {X : Type 0} (f h : ℕ → List X) (ns : List ℕ) → ((k : ℕ) → f k ≡ h k) → flat_map f ns ≡ flat_map h ns
flat_alike f h [] e = refl
flat_alike f h (n ∷ ns) e = ap (λ l. l ++ flat_map f ns) (e n) ∙ ap (λ l. h n ++ l) (flat_alike f h ns e)

and_not : (a b : Bool) → (b ≡ true → a ≡ false) → (not a && b) ≡ b
and_not true true h = absurd (false≢true (sym (h refl)))
and_not true false h = refl
and_not false b h = refl

-- rows of another slot stay where these are dropped
pub chain_beside : (s : Entries) (k n : ℕ) (gone : List Row) → k ≢ n → ((row : Row) → Contains gone row → Contains (chain_of s n) row)
    → filter (is_in_slot s.conf k) (left_of gone s.rows) ≡ chain_of s k
chain_beside s k n gone other from =
    filter_then (λ (row : Row). not (is_among gone row)) (is_in_slot s.conf k) s.rows
    ∙ filter_alike (λ (row : Row). not (is_among gone row) && is_in_slot s.conf k row) (is_in_slot s.conf k) s.rows
    (λ row c. and_not (is_among gone row) (is_in_slot s.conf k row) (λ here. false_from_ne_true (is_among gone row) (λ h.
    let r = among_from gone row h in
    let f = Contains-filter (is_in_slot s.conf n) s.rows r.0 (from r.0 r.1) in
    other (sym (eqb-true (slot_of s.conf row.key) k here) ∙ (ap (slot_of s.conf) (sym r.2) ∙ eqb-true (slot_of s.conf r.0.key) n f.1)))))

-- the slots below n were walked
pub record Expunging (pass : Row → Bool) (t : ℕ) (first s : Entries) (start aside : Aside) (n : ℕ) : Type 0 where
  pub drops : Drops first s start aside t (flat_map (λ k. filter pass (chain_of first k)) (range_with_len 0 n))
  pub chains : (k : ℕ) → n ≤ k → chain_of s k ≡ chain_of first k

pub expunging_starts : (pass : Row → Bool) (t : ℕ) (s : Entries) (start aside : Aside) → aside ≡ start → AreRemoved start s.removed → Expunging pass t s s start aside 0
expunging_starts pass t s start aside same was = record { drops = drops_none s start aside t same was; chains = λ k l. refl }

pub expunging_on : {pass : Row → Bool} {t : ℕ} {first s s' : Entries} {start aside aside' : Aside} {n : ℕ} → Expunging pass t first s start aside n
    → Drops s s' aside aside' t (filter pass (chain_of s n)) → Expunging pass t first s' start aside' (n + 1)
expunging_on {pass} {t} {first} {s} {s'} {start} {aside} {aside'} {n} w drops = record {
  drops = subst (λ l. Drops first s' start aside' t l)
      (ap (λ l. flat_map (λ k. filter pass (chain_of first k)) (range_with_len 0 n) ++ filter pass l) (w.chains n (omega arith)) ∙ (sym (flat_last (λ k. filter pass (chain_of first k)) n 0 n (omega arith)) ∙ ap (λ m. flat_map (λ k. filter pass (chain_of first k)) (range_with_len 0 m)) (sym (add-one n))))
      (drops_on w.drops drops);
  chains = λ k l.
      ap (λ (x : Entries). chain_of x k) drops.dropped
      ∙ (chain_beside s k n (filter pass (chain_of s n)) (λ e. omega (arith, e, l)) (λ row c. (Contains-filter pass (chain_of s n) row c).0)
      ∙ w.chains k (omega (arith, l)));
}

pub expunging_ends : {pass : Row → Bool} {t : ℕ} {first s : Entries} {start aside : Aside} {n : ℕ} → Expunging pass t first s start aside n → n ≡ first.conf.slots
    → Drops first s start aside t (leaving first.conf (filter pass first.rows))
unfolding leaving
expunging_ends {pass} {t} {first} {s} {start} {aside} {n} w all =
    subst (λ l. Drops first s start aside t l)
    (ap (λ k. flat_map (λ k. filter pass (chain_of first k)) (range_with_len 0 k)) all
    ∙ flat_alike (λ k. filter pass (chain_of first k)) (λ k. filter (is_in_slot first.conf k) (filter pass first.rows)) (range_with_len 0 first.conf.slots) (λ k. filter_swap (is_in_slot first.conf k) pass first.rows))
    w.drops
