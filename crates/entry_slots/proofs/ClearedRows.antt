-- What stands where all rows have left at once, and the removed ones stay.
use Rattle.std.proofs.Common.{◌≡◌, inl, inr, ℕ, zero, suc, ◌+◌, ◌<◌, ◌≤◌, ◌==◌, Bool, true, false, cond, ◌&&◌, List, [], ◌∷◌, length, slice_index, refl, sym, ap, ◌∙◌, subst, arith}
use Rattle.std.proofs.lemmas.Bool.{cases_Bool, eqb-true, eq-eqb, or_left, or_right, false≢true, false_from_ne_true}
use Rattle.std.specs.List.{Contains, filter, count_by}
use Rattle.entry_slots.specs.declared.head.TheConstants.{NEXT}
use Rattle.seg_words.specs.declared.gaps.Extent.{Extent}
use Rattle.seg_words.specs.Windows.{Aside, has, is_named}
use Rattle.sma_blocks.specs.declared.sma.Sma.{Sma}
use Rattle.sma_blocks.specs.Live.{live_blocks, kept_blocks, IsLive, SameBlocks}
use Rattle.sma_blocks.specs.Ready.{IsReady, ChangesBefore}
use Rattle.apcu_model.specs.Cache.{Row, extent_of}
use Rattle.entry_slots.specs.declared.slots.EntrySlots.{EntrySlots}
use Rattle.entry_slots.specs.Lists.{is_at, has_place}
use Rattle.entry_slots.specs.Entries.{Entries, IsWhole, blocks_of, without_rows}
use Rattle.entry_slots.specs.Standing.{Stands, IsEntry}
use Rattle.entry_slots.specs.Lower.{Laws}
use Rattle.seg_words.specs.Members.{Contains-first, Contains-later, Contains-kept, count-cons, counted_some, any_there, any_from, none_in_nil}
use Rattle.entry_slots.proofs.RowBlocks.{room, home_removed}
use Rattle.entry_slots.proofs.Frames.{SameRow, entry_kept, chain_kept}
use Rattle.entry_slots.proofs.DistinctPlaces.{rows_removed, count_blocks, at_itself}
use Rattle.entry_slots.proofs.FitLemmas.{not_free}
use Rattle.entry_slots.proofs.TakenBlocks.{row_same}

count_both : {X : Type 0} (p t : X → Bool) (xs : List X) → count_by t (filter p xs) ≡ count_by (λ x. p x && t x) xs
count_both p t [] = refl
count_both p t (x ∷ xs) = elim (cases_Bool (p x)) [
  | inl y ↦
      let first : count_by t (filter p (x ∷ xs)) ≡ count_by t (x ∷ filter p xs) = ap (λ (b : Bool). count_by t (cond b (x ∷ filter p xs) (filter p xs))) y in
      let same : cond {A = ℕ} (p x && t x) 1 0 ≡ cond {A = ℕ} (t x) 1 0 = ap (λ (b : Bool). cond {A = ℕ} (b && t x) 1 0) y in
      omega (arith, first, count-cons t x (filter p xs), count-cons (λ z. p z && t z) x xs, same, count_both p t xs)
  | inr n ↦
      let first : count_by t (filter p (x ∷ xs)) ≡ count_by t (filter p xs) = ap (λ (b : Bool). count_by t (cond b (x ∷ filter p xs) (filter p xs))) n in
      let none : cond {A = ℕ} (p x && t x) 1 0 ≡ 0 = ap (λ (b : Bool). cond {A = ℕ} (b && t x) 1 0) n in
      omega (arith, first, count-cons (λ z. p z && t z) x xs, none, count_both p t xs)
]

count_same : {X : Type 0} (p q : X → Bool) (xs : List X) → ((x : X) → Contains xs x → p x ≡ q x) → count_by p xs ≡ count_by q xs
count_same p q [] h = refl
count_same p q (x ∷ xs) h =
    let here : cond {A = ℕ} (p x) 1 0 ≡ cond {A = ℕ} (q x) 1 0 = ap (λ (b : Bool). cond {A = ℕ} b 1 0) (h x (Contains-first x xs)) in
    omega (arith, count-cons p x xs, count-cons q x xs, here, count_same p q xs (λ y c. h y (Contains-later x xs y c)))

count_none : {X : Type 0} (p : X → Bool) (xs : List X) → ((x : X) → Contains xs x → p x ≡ false) → count_by p xs ≡ 0
count_none p [] h = refl
count_none p (x ∷ xs) h =
    let here : cond {A = ℕ} (p x) 1 0 ≡ 0 = ap (λ (b : Bool). cond {A = ℕ} b 1 0) (h x (Contains-first x xs)) in
    omega (arith, count-cons p x xs, here, count_none p xs (λ y c. h y (Contains-later x xs y c)))

module _ {e : EntrySlots} {ws : List ℕ} {aside : Aside} (s : Entries) (h : Stands e ws aside s) (whole : IsWhole s) (places : List ℕ) (same : (at : ℕ) → has at places ≡ has_place at s.removed) where
  removed_has : (row : Row) → Contains s.removed row → has row.place places ≡ true
  removed_has row c = same row.place ∙ any_from (is_at row.place) s.removed row c (at_itself row row.place refl)

  row_has : (row : Row) → Contains s.rows row → has row.place places ≡ false
  row_has row c = same row.place ∙ false_from_ne_true (has_place row.place s.removed) (λ t.
      let r = any_there (is_at row.place) s.removed t in
      rows_removed h row r.0 c r.1 (eqb-true r.0.place row.place r.2))

  -- of the blocks, those of the removed rows are kept
  kept_count : (test : Extent → Bool) → count_by test (kept_blocks places (live_blocks ws e.sma.bounds.from)) ≡ count_by test (blocks_of (without_rows s))
  kept_count test =
      let both : Extent → Bool = λ b. has b.place places && test b in
      let p : Row → Bool = λ row. has row.place places && test (extent_of row) in
      let q : Row → Bool = λ row. test (extent_of row) in
      let none : count_by p s.rows ≡ 0 = count_none p s.rows (λ row c. ap (λ (b : Bool). b && test (extent_of row)) (row_has row c)) in
      let all : count_by p s.removed ≡ count_by q s.removed = count_same p q s.removed (λ row c. ap (λ (b : Bool). b && test (extent_of row)) (removed_has row c)) in
      let un : count_by p s.unlinked ≡ 0 = ap (count_by p) whole.0 in
      let un' : count_by q s.unlinked ≡ 0 = ap (count_by q) whole.0 in
      let ta : count_by both s.taken ≡ 0 = ap (count_by both) whole.1 in
      let ta' : count_by test s.taken ≡ 0 = ap (count_by test) whole.1 in
      let left : count_by q (without_rows s).rows ≡ 0 = refl in
      omega (arith, count_both (λ (b : Extent). has b.place places) test (live_blocks ws e.sma.bounds.from), h.blocks.count both, count_blocks both s, count_blocks test (without_rows s), none, all, un, un', ta, ta', left)

  pub place_live : (at : ℕ) → has at places ≡ true → IsLive (live_blocks ws e.sma.bounds.from) at
  place_live at there =
      let r = any_there (is_at at) s.removed (sym (same at) ∙ there) in
      let e' : r.0.place ≡ at = eqb-true r.0.place at r.2 in
      (r.0.size, subst (λ n. Contains (live_blocks ws e.sma.bounds.from) (record { place = n; size = r.0.size })) e' (home_removed r.0 h r.1).live)

  -- only removed rows are named
  pub named_kept : ((at : ℕ) → has_place at s.rows ≡ true → is_named aside.windows at ≡ false) → (at : ℕ) → is_named aside.windows at ≡ true → has at places ≡ true
  named_kept unnamed at named =
      let held = h.ready.windows at named in
      let begins : Extent → Bool = λ b. b.place == at in
      let p : Row → Bool = λ row. row.place == at in
      let some : 1 ≤ count_by begins (live_blocks ws e.sma.bounds.from) = counted_some begins (live_blocks ws e.sma.bounds.from) (record { place = at; size = held.size }) held.live (eq-eqb at at refl) in
      elim (cases_Bool (has_place at s.removed)) [
        | inl there ↦ same at ∙ there
        | inr none ↦ elim (cases_Bool (has_place at s.rows)) [
          | inl row ↦ absurd (false≢true (sym (unnamed at row) ∙ named))
          | inr gone ↦
              let one : count_by p s.rows ≡ 0 = count_none p s.rows (λ row c. false_from_ne_true (p row) (λ t. false≢true (sym gone ∙ any_from (is_at at) s.rows row c t))) in
              let two : count_by p s.removed ≡ 0 = count_none p s.removed (λ row c. false_from_ne_true (p row) (λ t. false≢true (sym none ∙ any_from (is_at at) s.removed row c t))) in
              let un : count_by p s.unlinked ≡ 0 = ap (count_by p) whole.0 in
              let ta : count_by begins s.taken ≡ 0 = ap (count_by begins) whole.1 in
              absurd (omega (arith, some, h.blocks.count begins, count_blocks begins s, one, two, un, ta))
        ]
      ]

  pub cleared_stands : Laws → (ws1 ws' : List ℕ) (sma' : Sma) → ChangesBefore ws ws1 e.sma.bounds.from → ((slot : ℕ) → slot < e.sma.bounds.from → slice_index ws1 slot ≡ 0)
      → live_blocks ws1 e.sma.bounds.from ≡ live_blocks ws e.sma.bounds.from → live_blocks ws' e.sma.bounds.from ≡ kept_blocks places (live_blocks ws1 e.sma.bounds.from)
      → SameBlocks ws1 ws' e.sma.bounds.from (kept_blocks places (live_blocks ws1 e.sma.bounds.from)) → sma'.bounds ≡ e.sma.bounds → IsReady sma' ws' aside
      → Stands (record e { sma = sma'; count = 0 }) ws' aside (without_rows s)
  cleared_stands law ws1 ws' sma' before ended blocks live kept eb ready = record {
    chains = λ slot lt. kept.before slot (omega (arith, lt, h.from)) ∙ ended slot (omega (arith, lt, h.from));
    removed_chain = chain_kept ws ws' e.removed s.removed (λ row c. link row c) h.removed_chain;
    rows = λ row c. absurd (none_in_nil row c);
    removed = λ row c. entry row c;
    unlinked = λ row c. absurd (none_in_nil row (subst (λ (l : List Row). Contains l row) whole.0 c));
    taken = h.taken;
    ready = ready;
    blocks = record {
      count = λ test.
          ap (λ b. count_by test (live_blocks ws' b.from)) eb ∙ (ap (count_by test) (live ∙ ap (kept_blocks places) blocks) ∙ kept_count test);
    };
    apart = refl;
    number = h.number;
    count = refl;
    limit = h.limit;
    unexpired = λ t le row c. absurd (none_in_nil row c);
    usable = h.usable;
    from = ap (λ b. b.from) eb ∙ h.from;
    to = ap (λ b. b.to) eb ∙ h.to;
    piece = ap (λ b. b.piece) eb ∙ h.piece;
  } where
    in_kept : (row : Row) → Contains s.removed row → Contains (kept_blocks places (live_blocks ws1 e.sma.bounds.from)) (extent_of row)
    in_kept row c =
        Contains-kept (λ (b : Extent). has b.place places) (live_blocks ws1 e.sma.bounds.from) (extent_of row) (subst (λ (l : List Extent). Contains l (extent_of row)) (sym blocks) (home_removed row h c).live) (removed_has row c)

    entry : (row : Row) → Contains s.removed row → IsEntry ws' row
    entry row c =
        let w = room (home_removed row h c) in
        let last : SameRow ws1 ws' row = row_same e ws1 ws' (kept_blocks places (live_blocks ws1 e.sma.bounds.from)) row kept (in_kept row c) in
        entry_kept law ws ws' row (home_removed row h c).entry (record {
          count = last.count ∙ before.count;
          same = λ i low high one. last.same i low high one ∙ before.after i (omega (arith, w.low));
        })

    link : (row : Row) → Contains s.removed row → slice_index ws' (row.place + NEXT) ≡ slice_index ws (row.place + NEXT)
    link row c =
        let w = room (home_removed row h c) in
        kept.inside (row.place + NEXT) (not_free (row.place + NEXT) 1 (kept_blocks places (live_blocks ws1 e.sma.bounds.from)) (extent_of row) (in_kept row c) (omega arith) (omega arith) (omega (arith, w.enough)))
        ∙ before.after (row.place + NEXT) (omega (arith, w.low))

-- what is in a list by its number is in it
pub has_indexed : (xs : List ℕ) (i : ℕ) → i < length xs → has (slice_index xs i) xs ≡ true
has_indexed [] i lt = absurd (omega (arith, lt))
has_indexed (x ∷ xs) zero lt = or_left (x == x) (has x xs) (eq-eqb x x refl)
has_indexed (x ∷ xs) (suc i) lt = or_right (slice_index xs i == x) (has (slice_index xs i) xs) (has_indexed xs i (omega (arith, lt)))
