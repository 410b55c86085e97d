-- The block of a new entry, before it is linked.
use Rattle.std.proofs.Common.{◌≡◌, ◌≢◌, ◌⊎◌, inl, inr, ℕ, ◌+◌, ◌/◌, ◌<◌, ◌≤◌, ◌^◌, List, [], ◌∷◌, ◌++◌, length, slice_index, slice_set, map, refl, sym, ap, ◌∙◌, subst, arith, length-append}
use Rattle.std.proofs.lemmas.Bool.{cases_lt, eq-eqb, false≢true}
use Rattle.std.proofs.lemmas.List.{get_or-set_other}
use Rattle.std.proofs.lemmas.List.Elements.{Contains-append_right}
use Rattle.std.specs.List.{Contains, count_by}
use Rattle.seg_words.specs.declared.layout.TheConstants.{HEAD_WORDS, KEY_LENGTH, IMAGE_LENGTH}
use Rattle.entry_slots.specs.declared.head.TheConstants.{NEXT}
use Rattle.seg_words.specs.declared.gaps.Extent.{Extent}
use Rattle.seg_words.specs.Windows.{Aside, is_named}
use Rattle.seg_words.specs.Blocks.{MayStore, image_place}
use Rattle.sma_blocks.specs.Live.{live_blocks}
use Rattle.sma_blocks.specs.Ready.{ChangesInner}
use Rattle.php_graph.specs.declared.kind.Kind.{Kind}
use Rattle.php_graph.specs.Graph.{IsGraph}
use Rattle.php_graph.specs.ByteStrings.{AreBytes}
use Rattle.seg_words.specs.Layout.{words_in}
use Rattle.php_graph.specs.Size.{image_length, block_size}
use Rattle.value_image.specs.PackedBytes.{words_of}
use Rattle.value_image.specs.Rows.{written, StandsAt}
use Rattle.value_image.specs.Image.{IsImageOf, image_of}
use Rattle.apcu_model.specs.Cache.{Row, extent_of}
use Rattle.apcu_model.specs.SlotOrder.{is_in_slot}
use Rattle.entry_slots.specs.declared.slots.EntrySlots.{EntrySlots}
use Rattle.entry_slots.specs.declared.writing.NewHead.{NewHead}
use Rattle.entry_slots.specs.Lists.{is_at, begins_at}
use Rattle.entry_slots.specs.Entries.{Entries, chain_of, blocks_of, stored_row}
use Rattle.entry_slots.specs.Standing.{IsRowChain, IsEntry, Stands}
use Rattle.entry_slots.specs.EntryWords.{head_words, entry_words}
use Rattle.entry_slots.specs.Lower.{Laws}
use Rattle.entry_slots.proofs.Runs.{words_long}
use Rattle.seg_words.specs.Members.{counted_some, Contains-filter}
use Rattle.entry_slots.proofs.ExtentLists.{same_there}
use Rattle.entry_slots.proofs.Blocks.{Apart, live_apart, live_bounds}
use Rattle.entry_slots.proofs.RowBlocks.{IsHome, room, home_row, home_removed, home_unlinked}
use Rattle.entry_slots.proofs.WordChanges.{OnlyIn}
use Rattle.entry_slots.proofs.Frames.{SameRow, entry_kept, chain_kept}
use Rattle.entry_slots.proofs.StorableWords.{may_store_in}
use Rattle.entry_slots.proofs.DistinctPlaces.{once, at_itself}

-- only the run's words changed
pub written_only : Laws → (ws : List ℕ) (at : ℕ) (run : List ℕ) → OnlyIn ws (written ws at run) at (at + length run)
written_only law ws at run = record { count = law.written.long ws at run; same = outside ws at run }
  where
    outside : (ws : List ℕ) (at : ℕ) (run : List ℕ) (i : ℕ) → (i < at) ⊎ (at + length run ≤ i) → slice_index (written ws at run) i ≡ slice_index ws i
    outside ws at [] i out = refl
    outside ws at (w ∷ run) i out =
        outside (slice_set ws at w) (at + NEXT) run i (elim out [ inl low ↦ inl (omega arith) | inr past ↦ inr (omega arith) ])
        ∙ get_or-set_other ws at i w 0 (elim out [ inl low ↦ (λ q. omega arith) | inr past ↦ (λ q. omega arith) ])

-- a block that was taken is live, and no row's
pub taken_live : {e : EntrySlots} {ws : List ℕ} {aside : Aside} {s : Entries} (b : Extent) → Stands e ws aside s → Contains s.taken b → Contains (live_blocks ws e.sma.bounds.from) b
taken_live {s = s} b h c =
    same_there _ (blocks_of s) b h.blocks (Contains-append_right (map extent_of s.rows) _ b (Contains-append_right (map extent_of s.removed) _ b (Contains-append_right (map extent_of s.unlinked) s.taken b c)))

-- the words of a taken block may be stored
pub taken_may : {e : EntrySlots} {ws : List ℕ} {aside : Aside} {s : Entries} (b : Extent) → Stands e ws aside s → Contains s.taken b → (i : ℕ) → b.place ≤ i → i < b.place + b.size → MayStore ws aside.windows i
taken_may {e} {ws} {aside} b h c i low high =
    may_store_in e.sma ws aside b i h.ready (taken_live b h c) low high (λ named. absurd (false≢true (sym (h.taken b c) ∙ named)))

-- inner words of a block that was taken changed
module _ {e : EntrySlots} {ws : List ℕ} {aside : Aside} {s : Entries} (h : Stands e ws aside s) (b : Extent) (there : Contains s.taken b) (ws' : List ℕ) (only : OnlyIn ws ws' (b.place + NEXT) (b.place + b.size)) where
  row_other : (row : Row) → IsHome e ws aside row → row.place ≢ b.place → (row.place + row.size ≤ b.place) ⊎ (b.place + b.size ≤ row.place)
  unfolding Apart
  row_other row home other = elim (live_apart e.sma ws aside (extent_of row) b h.ready home.live (taken_live b h there)) [
    | inl same ↦ absurd (other (ap (λ (x : Extent). x.place) same))
    | inr apart ↦ apart
  ]

  row_whole : (row : Row) → IsHome e ws aside row → row.place ≢ b.place → (i : ℕ) → row.place ≤ i → i < row.place + row.size → slice_index ws' i ≡ slice_index ws i
  row_whole row home other i low high = elim (row_other row home other) [
    | inl before ↦ only.same i (inl (omega arith))
    | inr after ↦ only.same i (inr (omega arith))
  ]

  row_kept : (row : Row) → IsHome e ws aside row → row.place ≢ b.place → SameRow ws ws' row
  row_kept row home other = record { count = only.count; same = λ i low high one. row_whole row home other i low high }

  pub link_kept : (row : Row) → IsHome e ws aside row → row.place ≢ b.place → slice_index ws' (row.place + NEXT) ≡ slice_index ws (row.place + NEXT)
  link_kept row home other = let w = room home in row_whole row home other (row.place + NEXT) (omega arith) (omega (arith, w.enough))

  taken_change : ChangesInner e.sma ws ws' aside
  unfolding Apart
  taken_change = record {
    count = only.count;
    inner = λ i low. elim (cases_lt i (b.place + NEXT)) [
      | inl before ↦ inl (only.same i (inl before))
      | inr from ↦ elim (cases_lt i (b.place + b.size)) [
        | inl within ↦ inr (record { block = b; live = taken_live b h there; low = omega arith; high = within })
        | inr past ↦ inl (only.same i (inr past))
      ]
    ];
    named = λ x named.
        let block = h.ready.windows x named in
        let f : Extent = record { place = x; size = block.size } in
        elim (live_apart e.sma ws aside b f h.ready (taken_live b h there) block.live) [
          | inl same ↦ absurd (false≢true (sym (h.taken b there) ∙ (ap (λ (y : Extent). is_named aside.windows y.place) same ∙ named)))
          | inr apart ↦ elim apart [
            | inl before ↦ (only.same (x + KEY_LENGTH) (inr (omega arith)), only.same (x + IMAGE_LENGTH) (inr (omega arith)))
            | inr after ↦ (only.same (x + KEY_LENGTH) (inl (omega (arith, block.inside))), only.same (x + IMAGE_LENGTH) (inl (omega (arith, block.inside))))
          ]
        ];
  }

  pub rows_not : (row : Row) → Contains s.rows row → row.place ≢ b.place
  rows_not row c same = omega (arith, once h b.place, counted_some (is_at b.place) s.rows row c (at_itself row b.place same), counted_some (begins_at b.place) s.taken b there (eq-eqb b.place b.place refl))

  removed_not : (row : Row) → Contains s.removed row → row.place ≢ b.place
  removed_not row c same = omega (arith, once h b.place, counted_some (is_at b.place) s.removed row c (at_itself row b.place same), counted_some (begins_at b.place) s.taken b there (eq-eqb b.place b.place refl))

  unlinked_not : (row : Row) → Contains s.unlinked row → row.place ≢ b.place
  unlinked_not row c same = omega (arith, once h b.place, counted_some (is_at b.place) s.unlinked row c (at_itself row b.place same), counted_some (begins_at b.place) s.taken b there (eq-eqb b.place b.place refl))

  pub taken_stands : Laws → Stands e ws' aside s
  taken_stands law = record {
    chains = λ slot lt.
        let chain = chain_kept ws ws' (slice_index ws slot) (chain_of s slot) (λ row c. let at = (Contains-filter (is_in_slot s.conf slot) s.rows row c).0 in link_kept row (home_row row h at) (rows_not row at)) (h.chains slot lt) in
        let bounds = live_bounds e.sma ws aside b h.ready (taken_live b h there) in
        subst (λ a. IsRowChain ws' a (chain_of s slot)) (sym (only.same slot (inl (omega (arith, bounds.0, h.from, lt))))) chain;
    removed_chain = chain_kept ws ws' e.removed s.removed (λ row c. link_kept row (home_removed row h c) (removed_not row c)) h.removed_chain;
    rows = λ row c. entry_kept law ws ws' row (h.rows row c) (row_kept row (home_row row h c) (rows_not row c));
    removed = λ row c. entry_kept law ws ws' row (h.removed row c) (row_kept row (home_removed row h c) (removed_not row c));
    unlinked = λ row c. entry_kept law ws ws' row (h.unlinked row c) (row_kept row (home_unlinked row h c) (unlinked_not row c));
    taken = h.taken;
    ready = (law.blocks e.sma ws ws' aside h.ready taken_change).ready;
    blocks = record { count = λ test. ap (count_by test) (law.blocks e.sma ws ws' aside h.ready taken_change).blocks ∙ h.blocks.count test };
    apart = h.apart;
    number = h.number;
    count = h.count;
    limit = h.limit;
    unexpired = h.unexpired;
    usable = h.usable;
    from = h.from;
    to = h.to;
    piece = h.piece;
  }

-- the words of a new entry are that entry's
pub written_entry : Laws → (ws : List ℕ) (at : ℕ) (key : List ℕ) (g : List Kind) (new_head : NewHead) → IsGraph g → AreBytes key → new_head.ttl < 2 ^ 32 → slice_index ws at ≡ block_size (length key) g → at + (HEAD_WORDS + words_in (length key) + image_length g) ≤ length ws
    → IsEntry (written ws (at + NEXT) (entry_words key g new_head)) (stored_row key g new_head.ttl new_head.now at new_head.number) × (slice_index (written ws (at + NEXT) (entry_words key g new_head)) (at + NEXT) ≡ new_head.next)
written_entry law ws at key g new_head graph bytes ttl size inside =
    let ws' : List ℕ = written ws (at + NEXT) (entry_words key g new_head) in
    let klen = words_long key in
    let glen = law.images.long g in
    let first : List ℕ = head_words key g new_head in
    let tail : List ℕ = words_of key ++ image_of g in
    let long : length (entry_words key g new_head) ≡ 11 + words_in (length key) + image_length g = omega (arith, length-append first tail, length-append (words_of key) (image_of g)) in
    let all : StandsAt ws' (at + NEXT) (first ++ tail) = law.written.there ws (at + NEXT) (entry_words key g new_head) (omega (arith, long)) in
    let head : StandsAt ws' (at + NEXT) first = law.runs.front ws' (at + NEXT) first tail all in
    let rest : StandsAt ws' (at + HEAD_WORDS) tail = (let e : at + NEXT + length first ≡ at + HEAD_WORDS = omega arith in subst (λ (n : ℕ). StandsAt ws' n tail) e (law.runs.back ws' (at + NEXT) first tail all)) in
    let keys : StandsAt ws' (at + HEAD_WORDS) (words_of key) = law.runs.front ws' (at + HEAD_WORDS) (words_of key) (image_of g) rest in
    let image : StandsAt ws' (at + HEAD_WORDS + words_in (length key)) (image_of g) = subst (λ (n : ℕ). StandsAt ws' (at + HEAD_WORDS + n) (image_of g)) klen (law.runs.back ws' (at + HEAD_WORDS) (words_of key) (image_of g) rest) in
    let word : (k n : ℕ) → k < 11 → n ≡ k + 1 → slice_index ws' (at + n) ≡ slice_index first k = λ k n few e.
    ap (λ (i : ℕ). slice_index ws' i) (omega arith) ∙ law.runs.words ws' (at + NEXT) first k head few in
    let key_len : slice_index ws' (at + KEY_LENGTH) ≡ length key = word 1 2 (omega arith) (omega arith) in
    let start : image_place ws' at ≡ at + HEAD_WORDS + words_in (length key) = ap (λ n. at + HEAD_WORDS + (n + 7) / 8) key_len in (
      record {
        size = (written_only law ws (at + NEXT) (entry_words key g new_head)).same at (inl (omega arith)) ∙ size;
        key_length = key_len;
        value_length = word 2 3 (omega arith) (omega arith);
        ttl = word 3 4 (omega arith) (omega arith);
        ctime = word 4 5 (omega arith) (omega arith);
        mtime = word 5 6 (omega arith) (omega arith);
        atime = word 6 7 (omega arith) (omega arith);
        dtime = word 7 8 (omega arith) (omega arith);
        hits = word 8 9 (omega arith) (omega arith);
        number = word 9 10 (omega arith) (omega arith);
        pin_count = word 10 11 (omega arith) (omega arith);
        key = keys;
        image = subst (λ n. IsImageOf ws' n (image_length g) g) (sym start) (law.images.image ws' (at + HEAD_WORDS + words_in (length key)) g graph image);
        whole = refl;
        bytes = bytes;
        short_ttl = ttl;
      },
      word 0 1 (omega arith) (omega arith),
    )
