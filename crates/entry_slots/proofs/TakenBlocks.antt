-- A block that was taken.
use Rattle.std.proofs.Common.{◌≡◌, inl, inr, ℕ, ◌+◌, ◌≤◌, false, List, slice_index, Option, Some, None, sym, ap, ◌∙◌, subst, arith}
use Rattle.std.proofs.lemmas.Bool.{false≢true, false_from_ne_true}
use Rattle.std.specs.List.{Contains, count_by}
use Rattle.seg_words.specs.declared.gaps.Extent.{Extent}
use Rattle.std.specs.Option.{IfSome}
use Rattle.entry_slots.specs.declared.head.TheConstants.{NEXT}
use Rattle.sma_blocks.specs.declared.sma.Sma.{Sma}
use Rattle.seg_words.specs.Windows.{Aside, is_named}
use Rattle.seg_words.specs.Gaps.{first_fit}
use Rattle.sma_blocks.specs.Live.{live_blocks, with_block, SameBlocks}
use Rattle.sma_blocks.specs.Ready.{IsReady}
use Rattle.apcu_model.specs.Conf.{piece_of}
use Rattle.apcu_model.specs.Cache.{Row, extent_of}
use Rattle.apcu_model.specs.SlotOrder.{is_in_slot}
use Rattle.entry_slots.specs.declared.slots.EntrySlots.{EntrySlots}
use Rattle.entry_slots.specs.Entries.{Entries, chain_of, blocks_of, with_taken}
use Rattle.entry_slots.specs.Standing.{Stands, IsRowChain, IsEntry}
use Rattle.entry_slots.specs.Lower.{Laws}
use Rattle.seg_words.specs.Members.{Contains-cases, Contains-filter, count-cons}
use Rattle.entry_slots.proofs.Blocks.{live_bounds}
use Rattle.entry_slots.proofs.RowBlocks.{IsHome, room, home_row, home_removed, home_unlinked}
use Rattle.entry_slots.proofs.Frames.{SameRow, entry_kept, chain_kept}
use Rattle.entry_slots.proofs.FitLemmas.{same_fit, fit_free, not_free, count-with_block}
use Rattle.entry_slots.proofs.DistinctPlaces.{count_blocks}
use Rattle.entry_slots.proofs.KeySearch.{stands_along}

-- the place is the one for all blocks
pub take_place : {e : EntrySlots} {ws : List ℕ} {aside : Aside} (s : Entries) (n : ℕ) → Stands e ws aside s → first_fit e.sma.bounds.from e.sma.bounds.to e.sma.bounds.piece n (live_blocks ws e.sma.bounds.from) ≡ first_fit s.conf.slots s.conf.words (piece_of s.conf) n (blocks_of s)
take_place {e} {ws} s n h =
    ap (λ from. first_fit from e.sma.bounds.to e.sma.bounds.piece n (live_blocks ws e.sma.bounds.from)) h.from
    ∙ (ap (λ to. first_fit s.conf.slots to e.sma.bounds.piece n (live_blocks ws e.sma.bounds.from)) h.to
    ∙ (ap (λ piece. first_fit s.conf.slots s.conf.words piece n (live_blocks ws e.sma.bounds.from)) h.piece
    ∙ same_fit s.conf.slots s.conf.words (piece_of s.conf) n (live_blocks ws e.sma.bounds.from) (blocks_of s) h.blocks))

-- what was not free is as it was
pub row_same : (e : EntrySlots) (ws ws' : List ℕ) (blocks : List Extent) (row : Row) → SameBlocks ws ws' e.sma.bounds.from blocks → Contains blocks (extent_of row) → SameRow ws ws' row
row_same e ws ws' blocks row same c = record { count = same.count; same = λ i low high one. same.inside i (not_free i 1 blocks (extent_of row) c (omega arith) low high) }

pub link_same : {e : EntrySlots} {ws : List ℕ} {aside : Aside} (ws' : List ℕ) (blocks : List Extent) (row : Row) → IsHome e ws aside row → SameBlocks ws ws' e.sma.bounds.from blocks → Contains blocks (extent_of row) → slice_index ws' (row.place + NEXT) ≡ slice_index ws (row.place + NEXT)
link_same ws' blocks row h same c = let w = room h in same.inside (row.place + NEXT) (not_free (row.place + NEXT) 1 blocks (extent_of row) c (omega arith) (omega arith) (omega (arith, w.enough)))

take_unnamed : (e : EntrySlots) (ws : List ℕ) (aside : Aside) (at n : ℕ) → IsReady e.sma ws aside → 2 ≤ n → first_fit e.sma.bounds.from e.sma.bounds.to e.sma.bounds.piece n (live_blocks ws e.sma.bounds.from) ≡ Some at → is_named aside.windows at ≡ false
take_unnamed e ws aside at n ready some fit =
    false_from_ne_true (is_named aside.windows at) (λ named.
    let block = ready.windows at named in
    let f : Extent = record { place = at; size = block.size } in
    let bounds = live_bounds e.sma ws aside f ready block.live in
    false≢true (sym (not_free at n (live_blocks ws e.sma.bounds.from) f block.live (omega arith) (omega arith) (omega (arith, bounds.2))) ∙ fit_free e.sma.bounds.from e.sma.bounds.to e.sma.bounds.piece n at (live_blocks ws e.sma.bounds.from) fit))

pub taken_stands : Laws → {e : EntrySlots} {ws : List ℕ} {aside : Aside} (s : Entries) (at n : ℕ) (sma' : Sma) (ws' : List ℕ) → Stands e ws aside s → 2 ≤ n
    → first_fit e.sma.bounds.from e.sma.bounds.to e.sma.bounds.piece n (live_blocks ws e.sma.bounds.from) ≡ Some at
    → live_blocks ws' e.sma.bounds.from ≡ with_block (record { place = at; size = n }) (live_blocks ws e.sma.bounds.from)
    → SameBlocks ws ws' e.sma.bounds.from (live_blocks ws e.sma.bounds.from)
    → sma'.bounds ≡ e.sma.bounds → IsReady sma' ws' aside → Stands (record e { sma = sma' }) ws' aside (with_taken at n s)
taken_stands law {e} {ws} {aside} s at n sma' ws' h some fit live same eb ready =
    let blocks : List Extent = live_blocks ws e.sma.bounds.from in
    let new : Extent = record { place = at; size = n } in
    let link : (row : Row) → IsHome e ws aside row → slice_index ws' (row.place + NEXT) ≡ slice_index ws (row.place + NEXT) = λ row home. link_same ws' blocks row home same home.live in
    let kept : (row : Row) → IsHome e ws aside row → IsEntry ws' row = λ row home. entry_kept law ws ws' row home.entry (row_same e ws ws' blocks row same home.live) in
    record {
      chains = λ slot lt.
          let chain = chain_kept ws ws' (slice_index ws slot) (chain_of s slot) (λ row c. link row (home_row row h (Contains-filter (is_in_slot s.conf slot) s.rows row c).0)) (h.chains slot lt) in
          subst (λ a. IsRowChain ws' a (chain_of s slot)) (sym (same.before slot (omega (arith, h.from)))) chain;
      removed_chain = chain_kept ws ws' e.removed s.removed (λ row c. link row (home_removed row h c)) h.removed_chain;
      rows = λ row c. kept row (home_row row h c);
      removed = λ row c. kept row (home_removed row h c);
      unlinked = λ row c. kept row (home_unlinked row h c);
      taken = λ block c. elim (Contains-cases new s.taken block c) [
        | inl here ↦ subst (λ (b : Extent). is_named aside.windows b.place ≡ false) here (take_unnamed e ws aside at n h.ready some fit)
        | inr later ↦ h.taken block later
      ];
      ready = ready;
      blocks = record { count = λ test. ap (λ b. count_by test (live_blocks ws' b.from)) eb ∙ (ap (count_by test) live ∙ omega (arith, count-with_block test new blocks, count_blocks test (with_taken at n s), count_blocks test s, h.blocks.count test, count-cons test new s.taken)) };
      apart = h.apart;
      number = h.number;
      count = h.count;
      limit = h.limit;
      unexpired = h.unexpired;
      usable = h.usable;
      from = ap (λ b. b.from) eb ∙ h.from;
      to = ap (λ b. b.to) eb ∙ h.to;
      piece = ap (λ b. b.piece) eb ∙ h.piece;
    }

-- what a call of the allocator tells
pub take_some : Laws → (e : EntrySlots) (ws : List ℕ) (aside : Aside) (n : ℕ) (sma' : Sma) (ws' : List ℕ) (aside' : Aside) (r : Option ℕ) → 2 ≤ n
    → r ≡ first_fit e.sma.bounds.from e.sma.bounds.to e.sma.bounds.piece n (live_blocks ws e.sma.bounds.from)
    → IfSome r (λ at. live_blocks ws' e.sma.bounds.from ≡ with_block (record { place = at; size = n }) (live_blocks ws e.sma.bounds.from))
    → SameBlocks ws ws' e.sma.bounds.from (live_blocks ws e.sma.bounds.from) → sma'.bounds ≡ e.sma.bounds → aside' ≡ aside → IsReady sma' ws' aside'
    → IfSome r (λ at. (s : Entries) → Stands e ws aside s → Stands (record e { sma = sma' }) ws' aside' (with_taken at n s))
take_some law e ws aside n sma' ws' aside' None some fit live same eb ea ready = tt
take_some law e ws aside n sma' ws' aside' (Some at) some fit live same eb ea ready = λ s h.
    subst (λ a. Stands (record e { sma = sma' }) ws' a (with_taken at n s)) (sym ea)
    (taken_stands law s at n sma' ws' h some (sym fit) live same eb (subst (λ a. IsReady sma' ws' a) ea ready))

-- where nothing was taken
pub take_none : {e : EntrySlots} {ws : List ℕ} {aside : Aside} {s : Entries} (sma' : Sma) (ws' : List ℕ) (aside' : Aside) → Stands e ws aside s → sma'.bounds ≡ e.sma.bounds → IsReady sma' ws' aside' → ws' ≡ ws → aside' ≡ aside
    → Stands (record e { sma = sma' }) ws' aside' s
take_none {e} {ws} {aside} {s} sma' ws' aside' h eb ready ew ea =
    let k = stands_along ws' aside' h ew ea in
    record {
      chains = k.chains;
      removed_chain = k.removed_chain;
      rows = k.rows;
      removed = k.removed;
      unlinked = k.unlinked;
      taken = k.taken;
      ready = ready;
      blocks = record { count = λ test. ap (λ b. count_by test (live_blocks ws' b.from)) eb ∙ k.blocks.count test };
      apart = k.apart;
      number = k.number;
      count = k.count;
      limit = k.limit;
      unexpired = k.unexpired;
      usable = k.usable;
      from = ap (λ b. b.from) eb ∙ k.from;
      to = ap (λ b. b.to) eb ∙ k.to;
      piece = ap (λ b. b.piece) eb ∙ k.piece;
    }
