-- Rows that are moved from one list to another, and blocks that are freed.
use Rattle.std.proofs.Common.{◌≡◌, ◌≢◌, ◌⊎◌, inl, inr, ℕ, ◌+◌, ◌<◌, ◌≤◌, ◌^◌, Bool, true, false, not, cond, eqb, List, [], ◌∷◌, ◌++◌, slice_index, slice_set, refl, sym, ap, ap₂, ◌∙◌, subst, arith}
use Rattle.std.proofs.lemmas.Bool.{cases_eq, cases_Bool, eq-eqb, eqb-true, ne_eqb, not_from_false, not-true, false_from_ne_true, false≢true}
use Rattle.std.proofs.lemmas.List.{append-nil}
use Rattle.std.proofs.lemmas.List.Elements.{Contains-append_cases, Contains-append_left, Contains-append_right, filter-append}
use Rattle.std.specs.List.{Contains, filter, count_by}
use Rattle.entry_slots.specs.declared.head.TheConstants.{NEXT}
use Rattle.seg_words.specs.declared.gaps.Extent.{Extent}
use Rattle.seg_words.specs.Windows.{Aside}
use Rattle.sma_blocks.specs.Order.{ready_blocks}
use Rattle.sma_blocks.specs.Live.{live_blocks, IsLive, without_block, SameBlocks}
use Rattle.sma_blocks.specs.declared.sma.Sma.{Sma}
use Rattle.sma_blocks.specs.Ready.{IsReady, ChangesInner}
use Rattle.apcu_model.specs.Cache.{Row, extent_of}
use Rattle.apcu_model.specs.SlotOrder.{is_in_slot}
use Rattle.entry_slots.specs.declared.slots.EntrySlots.{EntrySlots}
use Rattle.entry_slots.specs.Lists.{is_at, begins_at, has_place, only_at, without_place}
use Rattle.entry_slots.specs.Entries.{Entries, chain_of, moved_at, off_at, given_at, freed_at}
use Rattle.entry_slots.specs.Standing.{IsRowChain, IsEntry, Stands}
use Rattle.entry_slots.specs.Links.{IsRemovedLink}
use Rattle.entry_slots.specs.Lower.{Laws}
use Rattle.seg_words.specs.Members.{Contains-cases, Contains-first, Contains-later, any_there, any_from, count-append, count-cons, counted_some, none_in_nil, Contains-filter, Contains-kept}
use Rattle.entry_slots.proofs.RowBlocks.{IsHome, room, home_row, home_removed, home_unlinked}
use Rattle.entry_slots.proofs.Frames.{entry_kept, chain_kept}
use Rattle.entry_slots.proofs.Chains.{chain_first, small_first}
use Rattle.entry_slots.proofs.TakenBlocks.{row_same, link_same}
use Rattle.entry_slots.proofs.DistinctPlaces.{once, at_itself, count_blocks, blocks_once, rows_unlinked, removed_unlinked}
use Rattle.entry_slots.proofs.ChainCuts.{AreDistinct, distinct_both, Spot, set_change, set_entry, set_link}
use Rattle.entry_slots.proofs.NewRows.{count_split, only_passes, filter_none}
use Rattle.entry_slots.proofs.UnlinkedRows.{without_none, without_middle}
use Rattle.entry_slots.proofs.RemovedRows.{removed_distinct, link_spot, in_front, in_back, link_home, removed_by_word, removed_by_head, chains_kept}

-- the removed and the unlinked rows are other lists of the same rows
pub relisted : Laws → {e : EntrySlots} {ws : List ℕ} {aside : Aside} (s : Entries) (h : Stands e ws aside s) (ws' : List ℕ) → ChangesInner e.sma ws ws' aside → ((row : Row) → IsHome e ws aside row → IsEntry ws' row)
    → ((slot : ℕ) → slot < s.conf.slots → IsRowChain ws' (slice_index ws' slot) (chain_of s slot))
    → (first : ℕ) (removed unlinked : List Row) → IsRowChain ws' first removed → ((row : Row) → Contains removed row → IsHome e ws aside row) → ((row : Row) → Contains unlinked row → IsHome e ws aside row)
    → ((p : Row → Bool) → count_by p s.removed + count_by p s.unlinked ≡ count_by p removed + count_by p unlinked)
    → Stands (record e { removed = first }) ws' aside (record s { removed = removed; unlinked = unlinked })
relisted law {e} {ws} {aside} s h ws' change entry chains first removed unlinked chain homes others same = record {
  chains = chains;
  removed_chain = chain;
  rows = λ row c. entry row (home_row row h c);
  removed = λ row c. entry row (homes row c);
  unlinked = λ row c. entry row (others row c);
  taken = h.taken;
  ready = (law.blocks e.sma ws ws' aside h.ready change).ready;
  blocks = record {
    count = λ test.
        let p : Row → Bool = λ row. test (extent_of row) in
        let after : Entries = record s { removed = removed; unlinked = unlinked } in
        ap (count_by test) (law.blocks e.sma ws ws' aside h.ready change).blocks ∙ omega (arith, h.blocks.count test, count_blocks test s, count_blocks test after, same p);
  };
  apart = h.apart;
  number = h.number;
  count = h.count;
  limit = h.limit;
  unexpired = h.unexpired;
  usable = h.usable;
  from = h.from;
  to = h.to;
  piece = h.piece;
}

no_change : (e : EntrySlots) (ws : List ℕ) (aside : Aside) → ChangesInner e.sma ws ws aside
no_change e ws aside = record { count = refl; inner = λ i low. inl refl; named = λ x named. (refl, refl) }

-- exactly one passes
pub only_one : {X : Type 0} (p : X → Bool) (xs : List X) (x : X) → Contains xs x → p x ≡ true → count_by p xs ≤ 1 → filter p xs ≡ x ∷ []
only_one p [] x c y few = absurd (none_in_nil x c)
only_one p (z ∷ zs) x c y few = elim (Contains-cases z zs x c) [
  | inl here ↦
      let at : p z ≡ true = ap p here ∙ y in
      let one : cond {A = ℕ} (p z) 1 0 ≡ 1 = ap (λ (b : Bool). cond {A = ℕ} b 1 0) at in
      let rest : filter p zs ≡ [] = none_left p zs (omega (arith, count-cons p z zs, few)) in
      rw (at, rest) (ap (λ v. v ∷ []) here)
  | inr later ↦
      let other : p z ≡ false = false_from_ne_true (p z) (λ q.
      let one : cond {A = ℕ} (p z) 1 0 ≡ 1 = ap (λ (b : Bool). cond {A = ℕ} b 1 0) q in
      omega (arith, count-cons p z zs, few, counted_some p zs x later y)) in
      rw other (only_one p zs x later y (omega (arith, count-cons p z zs, few)))
]
  where
    none_left : {X : Type 0} (p : X → Bool) (xs : List X) → count_by p xs ≡ 0 → filter p xs ≡ []
    none_left p [] h = refl
    none_left p (x ∷ xs) h = elim (cases_Bool (p x)) [
      | inl y ↦ (let one : cond {A = ℕ} (p x) 1 0 ≡ 1 = ap (λ (b : Bool). cond {A = ℕ} b 1 0) y in absurd (omega (arith, count-cons p x xs, h)))
      | inr n ↦ rw n (none_left p xs (omega (arith, count-cons p x xs, h)))
    ]

-- ---- onto the list, and off it

-- the unlinked row at this place is the last of the removed rows
abbrev pub moved : ℕ → Entries → Entries
moved at s = moved_at at s

-- the removed row at this place is an unlinked one
abbrev pub off : ℕ → Entries → Entries
off at s = off_at at s

module _ {e : EntrySlots} {ws : List ℕ} {aside : Aside} (s : Entries) (h : Stands e ws aside s) (at : ℕ) where
  moved_removed : (row : Row) → Contains (s.removed ++ only_at at s.unlinked) row → IsHome e ws aside row
  moved_removed row c = elim (Contains-append_cases s.removed (only_at at s.unlinked) row c) [
    | inl l ↦ home_removed row h l
    | inr r ↦ home_unlinked row h (Contains-filter (is_at at) s.unlinked row r).0
  ]

  moved_unlinked : (row : Row) → Contains (without_place at s.unlinked) row → IsHome e ws aside row
  moved_unlinked row c = home_unlinked row h (Contains-filter (λ r. not (is_at at r)) s.unlinked row c).0

  moved_same : (p : Row → Bool) → count_by p s.removed + count_by p s.unlinked ≡ count_by p (s.removed ++ only_at at s.unlinked) + count_by p (without_place at s.unlinked)
  moved_same p = omega (arith, count-append p s.removed (only_at at s.unlinked), count_split p (is_at at) s.unlinked)

  only_unlinked : (q : Row) → Contains s.unlinked q → q.place ≡ at → only_at at s.unlinked ≡ q ∷ []
  only_unlinked q c e = only_one (is_at at) s.unlinked q c (at_itself q at e) (omega (arith, once h at))

  -- what follows the last is nothing
  end_back : (link : ℕ) (L : IsRemovedLink ws s.removed 0 link) → L.back ≡ []
  end_back link L = go L.back L.split L.rest
    where
      go : (back : List Row) → s.removed ≡ L.front ++ back → IsRowChain ws 0 back → back ≡ []
      go [] split rest = refl
      go (row ∷ back) split rest = let w = room (home_removed row h (subst (λ rs. Contains rs row) (sym split) (Contains-append_right L.front (row ∷ back) row (Contains-first row back)))) in absurd (omega (arith, w.some, rest.0))

  whole_front : (link : ℕ) (L : IsRemovedLink ws s.removed 0 link) → s.removed ≡ L.front
  whole_front link L = L.split ∙ (ap (λ rs. L.front ++ rs) (end_back link L) ∙ append-nil L.front)

  pub moved_head : Laws → (q : Row) → Contains s.unlinked q → q.place ≡ at → slice_index ws (at + NEXT) ≡ 0 → (link : ℕ) → IsRemovedLink ws s.removed 0 link → link ≡ 0 → Stands (record e { removed = at }) ws aside (moved at s)
  moved_head law q c place word link L none =
      let one = only_unlinked q c place in
      let empty : s.removed ≡ [] = whole_front link L ∙ removed_by_head s h 0 link L none in
      let list : s.removed ++ only_at at s.unlinked ≡ q ∷ [] = ap₂ (λ (a b : List Row). a ++ b) empty one in
      let chain : IsRowChain ws at (q ∷ []) = (sym place, ap (λ n. slice_index ws (n + NEXT)) place ∙ word) in
      relisted law s h ws (no_change e ws aside) (λ row home. home.entry) h.chains at (s.removed ++ only_at at s.unlinked) (without_place at s.unlinked) (subst (λ rs. IsRowChain ws at rs) (sym list) chain) moved_removed moved_unlinked moved_same

  pub moved_word : Laws → (q : Row) → Contains s.unlinked q → q.place ≡ at → slice_index ws (at + NEXT) ≡ 0 → (link : ℕ) → IsRemovedLink ws s.removed 0 link → link ≢ 0 → Stands e (slice_set ws link at) aside (moved at s)
  moved_word law q c place word link L some =
      let one = only_unlinked q c place in
      let list : s.removed ++ only_at at s.unlinked ≡ L.front ++ q ∷ [] = ap₂ (λ (a b : List Row). a ++ b) (whole_front link L) one in
      let spot : Spot e ws aside link = link_home s h 0 link L some in
      let own = link_spot s h 0 link L some in
      let kept : slice_index (slice_set ws link at) (q.place + NEXT) ≡ slice_index ws (q.place + NEXT) = set_link h link at spot q (λ same.
      removed_unlinked h own.0 q (in_front s h 0 link L own.0 own.1) c (omega (arith, own.2))) in
      let chain : IsRowChain (slice_set ws link at) at (q ∷ []) = (sym place, kept ∙ (ap (λ n. slice_index ws (n + NEXT)) place ∙ word)) in
      relisted law s h (slice_set ws link at) (set_change h link at spot) (set_entry h link at spot law) (λ slot lt. chains_kept s h 0 link L some at slot (omega (arith, lt, h.from)))
      e.removed (s.removed ++ only_at at s.unlinked) (without_place at s.unlinked) (subst (λ rs. IsRowChain (slice_set ws link at) e.removed rs) (sym list) (removed_by_word s h 0 link L some at (q ∷ []) chain)) moved_removed moved_unlinked moved_same

  off_removed : (row : Row) → Contains (without_place at s.removed) row → IsHome e ws aside row
  off_removed row c = home_removed row h (Contains-filter (λ r. not (is_at at r)) s.removed row c).0

  off_unlinked : (row : Row) → Contains (only_at at s.removed ++ s.unlinked) row → IsHome e ws aside row
  off_unlinked row c = elim (Contains-append_cases (only_at at s.removed) s.unlinked row c) [
    | inl l ↦ home_removed row h (Contains-filter (is_at at) s.removed row l).0
    | inr r ↦ home_unlinked row h r
  ]

  off_same : (p : Row → Bool) → count_by p s.removed + count_by p s.unlinked ≡ count_by p (without_place at s.removed) + count_by p (only_at at s.removed ++ s.unlinked)
  off_same p = omega (arith, count-append p (only_at at s.removed) s.unlinked, count_split p (is_at at) s.removed)

  -- the row and what follows it
  pub off_back : at ≢ 0 → (link : ℕ) (L : IsRemovedLink ws s.removed at link) → (row : Row) × (more : List Row) × (L.back ≡ row ∷ more) × (row.place ≡ at) × IsRowChain ws (slice_index ws (at + NEXT)) more
  off_back some link L = go L.back L.rest
    where
      go : (back : List Row) → IsRowChain ws at back → (row : Row) × (more : List Row) × (back ≡ row ∷ more) × (row.place ≡ at) × IsRowChain ws (slice_index ws (at + NEXT)) more
      go [] rest = absurd (some rest)
      go (row ∷ more) rest = (row, more, refl, sym rest.0, subst (λ n. IsRowChain ws (slice_index ws (n + NEXT)) more) (sym rest.0) rest.1)

  off_list : at ≢ 0 → (link : ℕ) (L : IsRemovedLink ws s.removed at link) (row : Row) (more : List Row) → L.back ≡ row ∷ more → row.place ≡ at → without_place at s.removed ≡ L.front ++ more
  off_list some link L row more eb place =
      let split : s.removed ≡ L.front ++ row ∷ more = L.split ∙ ap (λ rs. L.front ++ rs) eb in
      ap (without_place at) split ∙ without_middle at L.front row more (subst AreDistinct split (removed_distinct h)) place

  pub off_head : Laws → at ≢ 0 → (link : ℕ) → IsRemovedLink ws s.removed at link → link ≡ 0 → (next : ℕ) → next ≡ slice_index ws (at + NEXT) → Stands (record e { removed = next }) ws aside (off at s)
  off_head law some link L none next en =
      let b = off_back some link L in
      let list : without_place at s.removed ≡ b.1 = off_list some link L b.0 b.1 b.2 b.3 ∙ ap (λ rs. rs ++ b.1) (removed_by_head s h at link L none) in
      relisted law s h ws (no_change e ws aside) (λ row home. home.entry) h.chains next (without_place at s.removed) (only_at at s.removed ++ s.unlinked)
      (subst (λ rs. IsRowChain ws next rs) (sym list) (subst (λ n. IsRowChain ws n b.1) (sym en) b.4)) off_removed off_unlinked off_same

  pub off_word : Laws → at ≢ 0 → (link : ℕ) → IsRemovedLink ws s.removed at link → link ≢ 0 → (next : ℕ) → next ≡ slice_index ws (at + NEXT) → Stands e (slice_set ws link next) aside (off at s)
  off_word law some link L word next en =
      let b = off_back some link L in
      let list : without_place at s.removed ≡ L.front ++ b.1 = off_list some link L b.0 b.1 b.2 b.3 in
      let split : s.removed ≡ L.front ++ b.0 ∷ b.1 = L.split ∙ ap (λ rs. L.front ++ rs) b.2 in
      let distinct : AreDistinct (L.front ++ b.0 ∷ b.1) = subst AreDistinct split (removed_distinct h) in
      let spot : Spot e ws aside link = link_home s h at link L word in
      let own = link_spot s h at link L word in
      let chain : IsRowChain (slice_set ws link next) next b.1 = chain_kept ws (slice_set ws link next) next b.1 (λ row c. set_link h link next spot row (λ same.
      distinct_both L.front (b.0 ∷ b.1) own.0 row distinct own.1 (Contains-later b.0 b.1 row c) (omega (arith, own.2)))) (subst (λ n. IsRowChain ws n b.1) (sym en) b.4) in
      relisted law s h (slice_set ws link next) (set_change h link next spot) (set_entry h link next spot law) (λ slot lt. chains_kept s h at link L word next slot (omega (arith, lt, h.from)))
      e.removed (without_place at s.removed) (only_at at s.removed ++ s.unlinked) (subst (λ rs. IsRowChain (slice_set ws link next) e.removed rs) (sym list) (removed_by_word s h at link L word next b.1 chain)) off_removed off_unlinked off_same

-- ---- a block is freed

pub given_stands : Laws → {e : EntrySlots} {ws : List ℕ} {aside : Aside} (s : Entries) (h : Stands e ws aside s) (at : ℕ) (q : Row) → Contains s.unlinked q → q.place ≡ at → (sma' : Sma) (ws' : List ℕ)
    → live_blocks ws' e.sma.bounds.from ≡ without_block at (live_blocks ws e.sma.bounds.from) → SameBlocks ws ws' e.sma.bounds.from (without_block at (live_blocks ws e.sma.bounds.from)) → sma'.bounds ≡ e.sma.bounds → IsReady sma' ws' aside
    → Stands (record e { sma = sma' }) ws' aside (record s { unlinked = without_place at s.unlinked })
given_stands law {e} {ws} {aside} s h at q there place sma' ws' live same eb ready =
    let blocks : List Extent = live_blocks ws e.sma.bounds.from in
    let left : List Extent = without_block at blocks in
    let stays : (row : Row) → IsHome e ws aside row → row.place ≢ at → Contains left (extent_of row) = λ row home other. Contains-kept (λ b. not (eqb b.place at)) blocks (extent_of row) home.live (not_from_false (eqb row.place at) (ne_eqb row.place at other)) in
    let entry : (row : Row) → IsHome e ws aside row → row.place ≢ at → IsEntry ws' row = λ row home other. entry_kept law ws ws' row home.entry (row_same e ws ws' left row same (stays row home other)) in
    let link : (row : Row) → IsHome e ws aside row → row.place ≢ at → slice_index ws' (row.place + NEXT) ≡ slice_index ws (row.place + NEXT) = λ row home other. link_same ws' left row home same (stays row home other) in
    let not_row : (row : Row) → Contains s.rows row → row.place ≢ at = λ row c e. rows_unlinked h row q c there (place ∙ sym e) in
    let not_removed : (row : Row) → Contains s.removed row → row.place ≢ at = λ row c e. removed_unlinked h row q c there (place ∙ sym e) in
    record {
      chains = λ slot lt.
          let chain = chain_kept ws ws' (slice_index ws slot) (chain_of s slot) (λ row c. let in' = (Contains-filter (is_in_slot s.conf slot) s.rows row c).0 in link row (home_row row h in') (not_row row in')) (h.chains slot lt) in
          subst (λ a. IsRowChain ws' a (chain_of s slot)) (sym (same.before slot (omega (arith, h.from)))) chain;
      removed_chain = chain_kept ws ws' e.removed s.removed (λ row c. link row (home_removed row h c) (not_removed row c)) h.removed_chain;
      rows = λ row c. entry row (home_row row h c) (not_row row c);
      removed = λ row c. entry row (home_removed row h c) (not_removed row c);
      unlinked = λ row c. let r = Contains-filter (λ r. not (is_at at r)) s.unlinked row c in entry row (home_unlinked row h r.0) (λ e. false≢true (sym (not-true (is_at at row) r.1) ∙ at_itself row at e));
      taken = h.taken;
      ready = ready;
      blocks = record {
        count = λ test.
            let p : Row → Bool = λ row. test (extent_of row) in
            let home = home_unlinked q h there in
            let few : count_by (begins_at at) blocks ≤ 1 = blocks_once ws e.sma.bounds.from (live_blocks ws e.sma.bounds.from) e.sma.bounds.to at (ready_blocks h.ready) in
            let one : count_by test (filter (begins_at at) blocks) ≡ cond (test (extent_of q)) 1 0 = only_passes test (begins_at at) blocks (extent_of q) home.live (eq-eqb q.place at place) few in
            let two : count_by p (only_at at s.unlinked) ≡ cond (p q) 1 0 = only_passes p (is_at at) s.unlinked q there (at_itself q at place) (omega (arith, once h at)) in
            let after : Entries = record s { unlinked = without_place at s.unlinked } in
            ap (λ b. count_by test (live_blocks ws' b.from)) eb
            ∙ (ap (count_by test) live ∙ omega (arith, count_split test (begins_at at) blocks, one, two, count_split p (is_at at) s.unlinked, h.blocks.count test, count_blocks test s, count_blocks test after));
      };
      apart = h.apart;
      number = h.number;
      count = h.count;
      limit = h.limit;
      unexpired = h.unexpired;
      usable = h.usable;
      from = ap (λ b. b.from) eb ∙ h.from;
      to = ap (λ b. b.to) eb ∙ h.to;
      piece = ap (λ b. b.piece) eb ∙ h.piece;
    }

-- ---- what the calls need

pub named_stands : (e e' : EntrySlots) (ws ws' : List ℕ) (aside : Aside) (link place : ℕ) (s : Entries) → (link ≡ 0 → (e' ≡ record e { removed = place }) × (ws' ≡ ws)) → (link ≢ 0 → (e' ≡ e) × (ws' ≡ slice_set ws link place))
    → (link ≡ 0 → Stands (record e { removed = place }) ws aside s) → (link ≢ 0 → Stands e (slice_set ws link place) aside s) → Stands e' ws' aside s
named_stands e e' ws ws' aside link place s head word one two = elim (cases_eq link 0) [
  | inl none ↦ (let f = head none in subst (λ w. Stands e' w aside s) (sym f.1) (subst (λ x. Stands x ws aside s) (sym f.0) (one none)))
  | inr some ↦ (let f = word some in subst (λ w. Stands e' w aside s) (sym f.1) (subst (λ x. Stands x (slice_set ws link place) aside s) (sym f.0) (two some)))
]

pub unlinked_there : {e : EntrySlots} {ws : List ℕ} {aside : Aside} (s : Entries) → Stands e ws aside s → (at : ℕ) → has_place at s.unlinked ≡ true → (q : Row) × Contains s.unlinked q × (q.place ≡ at)
unlinked_there s h at there = let r = any_there (is_at at) s.unlinked there in (r.0, r.1, eqb-true r.0.place at r.2)

pub loose_there : {e : EntrySlots} {ws : List ℕ} {aside : Aside} (s : Entries) → Stands e ws aside s → (at : ℕ) → has_place at (s.unlinked ++ s.removed) ≡ true → (q : Row) × IsHome e ws aside q × (q.place ≡ at) × (Contains s.unlinked q ⊎ Contains s.removed q)
loose_there s h at there =
    let r = any_there (is_at at) (s.unlinked ++ s.removed) there in
    elim (Contains-append_cases s.unlinked s.removed r.0 r.1) [
      | inl l ↦ (r.0, home_unlinked r.0 h l, eqb-true r.0.place at r.2, inl l)
      | inr k ↦ (r.0, home_removed r.0 h k, eqb-true r.0.place at r.2, inr k)
    ]

-- no removed row is there: nothing to take off
pub off_none : {e : EntrySlots} {ws : List ℕ} {aside : Aside} (s : Entries) → Stands e ws aside s → (at : ℕ) → has_place at s.removed ≡ false → Stands e ws aside (off_at at s)
off_none {e} {ws} {aside} s h at none =
    let left : without_place at s.removed ≡ s.removed = without_none at s.removed (λ q c same. false≢true (sym none ∙ any_from (is_at at) s.removed q c (at_itself q at same))) in
    let only : only_at at s.removed ≡ [] = filter_none (is_at at) s.removed none in
    subst (λ (x : Entries). Stands e ws aside x) (sym (ap₂ (λ (a b : List Row). let x : Entries = record s { removed = a; unlinked = b ++ s.unlinked } in x) left only)) h

-- what follows a removed row is a place, or 0
pub off_small : {e : EntrySlots} {ws : List ℕ} {aside : Aside} (s : Entries) (h : Stands e ws aside s) (at link : ℕ) → at ≢ 0 → (L : IsRemovedLink ws s.removed at link) → slice_index ws (at + NEXT) < 2 ^ 32
off_small {e} {ws} {aside} s h at link some L =
    let b = off_back s h at some link L in
    let small = small_first e ws aside b.1 (λ row c. home_removed row h (in_back s h at link L row (subst (λ rs. Contains rs row) (sym b.2) (Contains-later b.0 b.1 row c)))) in
    omega (arith, chain_first ws (slice_index ws (at + NEXT)) b.1 b.4, small)

-- the row is an unlinked one then
pub off_there : {e : EntrySlots} {ws : List ℕ} {aside : Aside} (s : Entries) → Stands e ws aside s → (at : ℕ) → has_place at (s.unlinked ++ s.removed) ≡ true → (q : Row) × Contains (only_at at s.removed ++ s.unlinked) q × (q.place ≡ at)
off_there s h at there =
    let r = loose_there s h at there in
    elim r.3 [
      | inl l ↦ (r.0, Contains-append_right (only_at at s.removed) s.unlinked r.0 l, r.2)
      | inr k ↦ (r.0, Contains-append_left (only_at at s.removed) s.unlinked r.0 (Contains-kept (is_at at) s.removed r.0 k (at_itself r.0 at r.2)), r.2)
    ]

pub only_gone : (at : ℕ) (rows : List Row) → without_place at (only_at at rows) ≡ []
only_gone at [] = refl
only_gone at (row ∷ rows) = go (is_at at row) refl (only_gone at rows)
  where
    go : (b : Bool) → is_at at row ≡ b → without_place at (only_at at rows) ≡ [] → without_place at (only_at at (row ∷ rows)) ≡ []
    go true y rest = simp y rest
    go false y rest = simp y rest

-- nothing is left of it after its block was freed
pub freed_list : (at : ℕ) (s : Entries) → without_place at (only_at at s.removed ++ s.unlinked) ≡ without_place at s.unlinked
freed_list at s =
    filter-append (λ r. not (is_at at r)) (only_at at s.removed) s.unlinked ∙ ap (λ rs. rs ++ without_place at s.unlinked) (only_gone at s.removed)

-- the unlinked row is no removed one
pub given_freed : {e : EntrySlots} {ws : List ℕ} {aside : Aside} (s : Entries) → Stands e ws aside s → (at : ℕ) → has_place at s.unlinked ≡ true → given_at at s ≡ freed_at at s
given_freed s h at there =
    let r = unlinked_there s h at there in
    let left : without_place at s.removed ≡ s.removed = without_none at s.removed (λ q c same. removed_unlinked h q r.0 c r.1 (r.2 ∙ sym same)) in
    ap (λ (rows : List Row). let x : Entries = record s { removed = rows; unlinked = without_place at s.unlinked } in x) (sym left)

-- its block is live
pub live_there : {e : EntrySlots} {ws : List ℕ} {aside : Aside} (s : Entries) (h : Stands e ws aside s) (at : ℕ) (q : Row) → Contains s.unlinked q → q.place ≡ at → IsLive (live_blocks ws e.sma.bounds.from) at
live_there {e} {ws} {aside} s h at q c place =
    (q.size, subst (λ (n : ℕ). Contains (live_blocks ws e.sma.bounds.from) (record { place = n; size = q.size })) place (home_unlinked q h c).live)

pub off_unlinked_there : {e : EntrySlots} {ws : List ℕ} {aside : Aside} (s : Entries) → Stands e ws aside s → (at : ℕ) → has_place at (s.unlinked ++ s.removed) ≡ true → has_place at (only_at at s.removed ++ s.unlinked) ≡ true
off_unlinked_there s h at there =
    let r = off_there s h at there in
    any_from (is_at at) (only_at at s.removed ++ s.unlinked) r.0 r.1 (at_itself r.0 at r.2)

-- to be taken off first changes nothing of what is left
pub freed_off : (at : ℕ) (s : Entries) → freed_at at (off_at at s) ≡ freed_at at s
freed_off at s =
    let twice : without_place at (without_place at s.removed) ≡ without_place at s.removed =
    without_none at (without_place at s.removed) (λ q c same. false≢true (sym (not-true (is_at at q) (Contains-filter (λ r. not (is_at at r)) s.removed q c).1) ∙ at_itself q at same)) in
    ap₂ (λ (a b : List Row). let x : Entries = record s { removed = a; unlinked = b } in x) twice (freed_list at s)
