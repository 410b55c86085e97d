-- The index, the chain and the count after a block was given.
use Rattle.std.proofs.Common.{◌≡◌, ◌≢◌, ◌⊎◌, inl, inr, ℕ, ◌+◌, ◌-◌, ◌/◌, ◌%◌, ◌<◌, ◌≤◌, Bool, true, false, cond, List, [], ◌∷◌, ◌++◌, length, get_or, slice_index, Option, MatchBool, refl, sym, ap, ◌∙◌, subst, arith}
use Rattle.std.proofs.lemmas.Bool.{cases_lt, cases_eq}
use Rattle.max_tree.specs.Halves.{other_half, MayStand}
use Rattle.seg_words.specs.Windows.{Aside}
use Rattle.sma_blocks.specs.Tiles.{Tile, tiles, Fill}
use Rattle.sma_blocks.specs.Live.{lives, gap_words}
use Rattle.sma_blocks.specs.Index.{here, size_at, IsIndexed, IsJoined}
use Rattle.sma_blocks.specs.Chain.{AreLinked}
use Rattle.sma_blocks.specs.Walk.{merged_words, link_before, relinked_words, relinked_head}
use Rattle.sma_blocks.specs.declared.bounds.Bounds.{Bounds}
use Rattle.sma_blocks.proofs.TileLemmas.{Fill-le, Fill-same, Fill-append, tiles-filled}
use Rattle.sma_blocks.proofs.FitPlaces.{Fill-even}
use Rattle.sma_blocks.proofs.LiveBlocks.{tile_extent}
use Rattle.sma_blocks.proofs.MergedWords.{merged_count, merged_link, merged_other}
use Rattle.sma_blocks.proofs.TileChanges.{change_tiles, change_full}
use Rattle.sma_blocks.proofs.WordsAfterGive.{Around, block, gap, around_fill, around_tiles, around_order, give_change}
use Rattle.sma_blocks.proofs.FirstFit.{here_other, here_live, here_gap, size_at-append, size_outside}
use Rattle.sma_blocks.proofs.GapSizes.{gap_words-append, gap_words-free, gap_words-le, pair_stands}
use Rattle.sma_blocks.proofs.ChainLemmas.{link_split, link_join, link_between}
use Rattle.sma_blocks.proofs.LastGapLink.{IsLastTold, IsLastOf, last_of, relinked_at, relinked_chain, link_is}
use Rattle.sma_blocks.proofs.IndexAfterTake.{size_at-three}

pub free_head : (p : Tile) (ps : List Tile) → lives (p ∷ ps) ≡ [] → (p.live ≡ false) × (lives ps ≡ [])
free_head p ps h = go p.live h
  where
    go : (kind : Bool) → cond kind (tile_extent p ∷ lives ps) (lives ps) ≡ [] → (kind ≡ false) × (lives ps ≡ [])
    go true e = cc
    go false e = (refl, e)

-- gaps side by side that do not touch are one at most
pub lone : (ws : List ℕ) (a : ℕ) (ps : List Tile) (b q : ℕ) → Fill ws a ps b → length ps ≤ 1 → q ≢ a → size_at ps q ≡ 0
lone ws a [] b q h one other = refl
lone ws a (p ∷ []) b q h one other =
    let place = h.0.place in omega (arith, here_other p q (λ e. other (omega arith)))
lone ws a (p ∷ r ∷ ps) b q h one other = absurd (omega arith)

-- words that are one gap
pub one_gap : (ws : List ℕ) (a : ℕ) (ps : List Tile) (b q : ℕ) → Fill ws a ps b → lives ps ≡ [] → length ps ≤ 1 → a < b → q ≡ a → size_at ps q ≡ b - a
one_gap ws a [] b q h free one some is = absurd (omega (arith, h))
one_gap ws a (p ∷ []) b q h free one some is =
    let place = h.0.place in
    let first = free_head p [] free in
    let end : a + p.size ≡ b = h.1 in
    omega (arith, here_gap p q (place ∙ sym is) first.0)
one_gap ws a (p ∷ r ∷ ps) b q h free one some is = absurd (omega arith)

-- the chain over words that are one gap
pub lone_link : (ws : List ℕ) (a : ℕ) (ps : List Tile) (b f t : ℕ) → Fill ws a ps b → lives ps ≡ [] → length ps ≤ 1 → AreLinked ws f ps t → a < b → (f ≡ a) × (slice_index ws (a + 1) ≡ t)
lone_link ws a [] b f t h free one k some = absurd (omega (arith, h))
lone_link ws a (p ∷ []) b f t h free one k some =
    let first = free_head p [] free in
    let place = h.0.place in
    let j : (f ≡ p.place) × (slice_index ws (p.place + 1) ≡ t) = subst (λ (kind : Bool). MatchBool kind (f ≡ t) ((f ≡ p.place) × (slice_index ws (p.place + 1) ≡ t))) first.0 k in
    (j.0 ∙ place, ap (λ (x : ℕ). slice_index ws (x + 1)) (sym place) ∙ j.1)
lone_link ws a (p ∷ r ∷ ps) b f t h free one k some = absurd (omega arith)

-- and over no words
pub empty_link : (ws : List ℕ) (a : ℕ) (ps : List Tile) (b f t : ℕ) → Fill ws a ps b → AreLinked ws f ps t → b ≤ a → f ≡ t
empty_link ws a [] b f t h k none = k
empty_link ws a (p ∷ ps) b f t h k none = absurd (omega (arith, Fill-le ws (a + p.size) ps b h.1, h.0.enough))

module _ {bounds : Bounds} {ws : List ℕ} {aside : Aside} {at size first last : ℕ} (h : Around bounds ws aside at size first last) (numbers : List ℕ) (indexed : IsIndexed ws bounds.from numbers) (next : ℕ) where
  old_at : (q : ℕ) → size_at (tiles ws bounds.from) q ≡ size_at h.before.front q + size_at h.before.tail q + size_at h.after.tail q + size_at h.after.rest q
  old_at q =
      ap (λ ps. size_at ps q) (around_tiles h) ∙ omega (
        arith,
        size_at-append h.before.front (h.before.tail ++ (block at size ∷ (h.after.tail ++ h.after.rest))) q,
        size_at-append h.before.tail (block at size ∷ (h.after.tail ++ h.after.rest)) q,
        size_at-append h.after.tail h.after.rest q,
        here_live (block at size) q refl,
      )

  new_at : (q : ℕ) → size_at (tiles (merged_words ws first last next) bounds.from) q ≡ size_at h.before.front q + here (gap first last) q + size_at h.after.rest q
  new_at q =
      ap (λ ps. size_at ps q) (change_tiles (give_change h next)) ∙ omega (arith, size_at-three h.before.front (gap first last ∷ []) h.after.rest q)

  order : (first ≤ at) × (at + size ≤ last) × (last ≤ length ws) × (2 ≤ size)
  order = around_order h

  front_at : (q : ℕ) → first ≤ q → size_at h.before.front q ≡ 0
  front_at q low = size_outside ws bounds.from h.before.front first q h.before.before (inr low)

  rest_at : (q : ℕ) → q < last → size_at h.after.rest q ≡ 0
  rest_at q high = size_outside ws last h.after.rest (length ws) q h.after.after (inl high)

  pub first_even : first % 2 ≡ 0
  first_even = Fill-even ws bounds.from h.before.front first h.before.before h.ready.formatted.even

  at_even : at % 2 ≡ 0
  at_even = Fill-even ws first h.before.tail at h.before.between first_even

  pub end_even : (at + size) % 2 ≡ 0
  end_even =
      let here = at_even in
      let even = (around_fill h).0.even in
      omega arith

  pub last_even : last % 2 ≡ 0
  last_even = Fill-even ws (at + size) h.after.tail last h.after.between end_even

  tail_at : (q : ℕ) → q ≢ first → size_at h.before.tail q ≡ 0
  tail_at q other = lone ws first h.before.tail at q h.before.between h.before.one other

  after_at : (q : ℕ) → (at + size < last → q ≢ at + size) → size_at h.after.tail q ≡ 0
  after_at q other = elim (cases_lt (at + size) last) [
    | inl lt ↦ lone ws (at + size) h.after.tail last q h.after.between h.after.one (other lt)
    | inr ge ↦ elim (cases_lt q (at + size)) [
      | inl low ↦ size_outside ws (at + size) h.after.tail last q h.after.between (inl low)
      | inr high ↦ size_outside ws (at + size) h.after.tail last q h.after.between (inr (omega arith))
    ]
  ]

  pub first_inside : (first / 2 < length numbers) × (first + 2 ≤ at + size) × (at + size ≤ last) × (last ≤ length ws)
  first_inside =
      let room = indexed.room in
      let o = order in
      (omega (arith, o.0, o.1, o.2, o.3), omega (arith, o.0, o.3), o.1, o.2)

  pub end_inside : at + size < last → (at + size) / 2 < length numbers
  end_inside lt =
      let room = indexed.room in
      let o = order in
      omega (arith, o.2)

  -- the gap after the block is known
  pub end_some : at + size < last → get_or numbers ((at + size) / 2) 0 ≢ 0
  end_some lt none =
      let o = order in
      let even = end_even in
      let q = at + size in
      let place : (at + size) / 2 + (at + size) / 2 ≡ at + size = omega arith in
      let told : get_or numbers ((at + size) / 2) 0 ≡ size_at (tiles ws bounds.from) q = indexed.told ((at + size) / 2) ∙ ap (λ (x : ℕ). size_at (tiles ws bounds.from) x) place in
      let gap_size : size_at h.after.tail q ≡ last - (at + size) = one_gap ws (at + size) h.after.tail last q h.after.between h.after.free h.after.one lt refl in
      omega (arith, old_at q)

  -- at the new gap
  new_first : (i : ℕ) → i ≡ first / 2 → size_at (tiles (merged_words ws first last next) bounds.from) (i + i) ≡ last - first
  new_first i is =
      let even = first_even in
      let o = order in
      let place : i + i ≡ first = omega arith in
      omega (arith, new_at (i + i), front_at (i + i) (omega arith), rest_at (i + i) (omega (arith, o.0, o.1, o.3)), here_gap (gap first last) (i + i) (sym place) refl)

  -- at another place where the sizes stay
  new_same : (i : ℕ) → i ≢ first / 2 → (at + size < last → i ≢ (at + size) / 2) → get_or numbers i 0 ≡ size_at (tiles (merged_words ws first last next) bounds.from) (i + i)
  new_same i other apart =
      let even = first_even in
      let end = end_even in
      let told = indexed.told i in
      omega (arith, old_at (i + i), new_at (i + i), tail_at (i + i) (λ e. other (omega arith)), after_at (i + i) (λ lt e. apart lt (omega arith)), here_other (gap first last) (i + i) (λ e. other (omega arith)))

  new_gone : at + size < last → (i : ℕ) → i ≡ (at + size) / 2 → size_at (tiles (merged_words ws first last next) bounds.from) (i + i) ≡ 0
  new_gone lt i is =
      let o = order in
      let even = end_even in
      omega (arith, new_at (i + i), front_at (i + i) (omega (arith, o.0)), rest_at (i + i) (omega arith), here_other (gap first last) (i + i) (λ e. omega (arith, o.0, o.3)))

  -- the other number of the pair in which the new gap begins
  pub first_stands : (at + size < last → other_half (first / 2) ≢ (at + size) / 2) → MayStand (first / 2) (last - first) (get_or numbers (other_half (first / 2)) 0)
  first_stands other =
      let i = first / 2 in
      let o = order in
      let new = merged_words ws first last next in
      let some : size_at (tiles new bounds.from) (i + i) ≢ 0 = λ e. (let r = new_first i refl in omega (arith, o.0, o.1, o.3)) in
      let all = change_tiles (give_change h next) in
      let full : Fill new bounds.from (tiles new bounds.from) (length new) = subst (λ ps. Fill new bounds.from ps (length new)) (sym all) (change_full (give_change h next)) in
      let same : size_at (tiles new bounds.from) (other_half i + other_half i) ≡ get_or numbers (other_half i) 0 = sym (new_same (other_half i) (λ e. omega arith) other) in
      subst (λ (x : ℕ). MayStand i x (get_or numbers (other_half i) 0)) (new_first i refl)
      (subst (λ (x : ℕ). MayStand i (size_at (tiles new bounds.from) (i + i)) x) same (pair_stands new bounds.from (tiles new bounds.from) (length new) i full some))

  pub give_indexed : (new : List ℕ) → IsJoined numbers new first (at + size) last → IsIndexed (merged_words ws first last next) bounds.from new
  give_indexed new joined =
      let count : length (merged_words ws first last next) ≡ length ws = merged_count ws first last next in
      let same = joined.count in
      let room = indexed.room in
      record {
        room = omega arith;
        told = λ i. elim (cases_eq i (first / 2)) [
          | inl is ↦ ap (λ (k : ℕ). get_or new k 0) is ∙ joined.there ∙ sym (new_first i is)
          | inr other ↦ elim (cases_lt (at + size) last) [
            | inl lt ↦ elim (cases_eq i ((at + size) / 2)) [
              | inl is ↦ ap (λ (k : ℕ). get_or new k 0) is ∙ joined.gone lt ∙ sym (new_gone lt i is)
              | inr apart ↦ joined.others i other (λ _. apart) ∙ new_same i other (λ _. apart)
            ]
            | inr ge ↦
                let none : at + size < last → i ≢ (at + size) / 2 = λ lt e. omega arith in
                joined.others i other none ∙ new_same i other none
          ]
        ];
      }

  pub give_counted : (free : ℕ) → free ≡ gap_words (tiles ws bounds.from) → (free + size ≡ gap_words (tiles (merged_words ws first last next) bounds.from)) × (free + size ≤ length ws)
  give_counted free counted =
      let o = order in
      let old : gap_words (tiles ws bounds.from) ≡ gap_words h.before.front + (gap_words h.before.tail + gap_words (h.after.tail ++ h.after.rest)) = ap gap_words (around_tiles h) ∙ gap_words-append h.before.front (h.before.tail ++ (block at size ∷ (h.after.tail ++ h.after.rest))) ∙ ap (λ (x : ℕ). gap_words h.before.front + x) (gap_words-append h.before.tail (block at size ∷ (h.after.tail ++ h.after.rest))) in
      let all = change_tiles (give_change h next) in
      let new : gap_words (tiles (merged_words ws first last next) bounds.from) ≡ gap_words h.before.front + ((last - first) + gap_words h.after.rest) = ap gap_words all ∙ gap_words-append h.before.front (gap first last ∷ h.after.rest) in
      let same : free + size ≡ gap_words (tiles (merged_words ws first last next) bounds.from) = omega (arith, gap_words-append h.after.tail h.after.rest, gap_words-free ws first h.before.tail at h.before.between h.before.free, gap_words-free ws (at + size) h.after.tail last h.after.between h.after.free, o.0, o.1) in
      let words = merged_words ws first last next in
      let full : Fill words bounds.from (tiles words bounds.from) (length words) = subst (λ ps. Fill words bounds.from ps (length words)) (sym all) (change_full (give_change h next)) in
      (same, omega (arith, gap_words-le words bounds.from (tiles words bounds.from) (length words) full, merged_count ws first last next))

  -- the last gap before the block, where the gap that is made begins with it
  pub give_last : (before : Option ℕ) → first ≡ at → IsLastTold numbers (at / 2) before → IsLastOf h.before.front before
  give_last before is told =
      let low : Fill ws bounds.from h.before.front at = subst (λ (x : ℕ). Fill ws bounds.from h.before.front x) is h.before.before in
      last_of ws bounds.from h.before.front at (tiles ws at) numbers before h.ready.formatted.even low h.before.after (tiles-filled ws bounds.from (h.before.front ++ tiles ws at) (Fill-append ws bounds.from h.before.front at (tiles ws at) (length ws) low h.before.after)) indexed told

  -- the chain in its parts
  pub record Parts (head : ℕ) : Type 0 where
    pub one : ℕ
    pub two : ℕ
    pub three : ℕ
    pub front : AreLinked ws head h.before.front one
    pub tail : AreLinked ws one h.before.tail two
    pub after : AreLinked ws two h.after.tail three
    pub rest : AreLinked ws three h.after.rest 0

  pub parts : (head : ℕ) → AreLinked ws head (tiles ws bounds.from) 0 → Parts head
  parts head linked =
      let all : AreLinked ws head (h.before.front ++ (h.before.tail ++ (block at size ∷ (h.after.tail ++ h.after.rest)))) 0 = subst (λ ps. AreLinked ws head ps 0) (around_tiles h) linked in
      let s = link_split ws head h.before.front (h.before.tail ++ (block at size ∷ (h.after.tail ++ h.after.rest))) 0 all in
      let t = link_split ws s.middle h.before.tail (block at size ∷ (h.after.tail ++ h.after.rest)) 0 s.two in
      let u = link_split ws t.middle h.after.tail h.after.rest 0 t.two in
      record { one = s.middle; two = t.middle; three = u.middle; front = s.one; tail = t.one; after = u.one; rest = u.two }

  -- what the next gap's place is read from
  pub next_after : (head : ℕ) (p : Parts head) → at + size < last → slice_index ws ((at + size) + 1) ≡ p.three
  next_after head p lt =
      (lone_link ws (at + size) h.after.tail last p.two p.three h.after.between h.after.free h.after.one p.after lt).1

  pub next_before : (head : ℕ) (p : Parts head) → last ≤ at + size → first < at → slice_index ws (first + 1) ≡ p.three
  next_before head p ge lt =
      (lone_link ws first h.before.tail at p.one p.two h.before.between h.before.free h.before.one p.tail lt).1 ∙ empty_link ws (at + size) h.after.tail last p.two p.three h.after.between p.after ge

  pub next_alone : (head : ℕ) (p : Parts head) (before : Option ℕ) → last ≤ at + size → first ≡ at → IsLastTold numbers (at / 2) before → link_before ws head before ≡ p.three
  next_alone head p before ge is told =
      link_is ws bounds.from h.before.front first head p.one before h.before.before (give_last before is told) p.front ∙ empty_link ws first h.before.tail at p.one p.two h.before.between p.tail (omega arith) ∙ empty_link ws (at + size) h.after.tail last p.two p.three h.after.between p.after ge

  same_out : (i : ℕ) → (i < first) ⊎ (last ≤ i) → slice_index (merged_words ws first last next) i ≡ slice_index ws i
  same_out i out =
      let o = order in
      merged_other ws first last next i (λ e. elim out [ inl l ↦ omega arith | inr r ↦ omega (arith, o.0, o.1, o.3) ]) (λ e. elim out [ inl l ↦ omega arith | inr r ↦ omega (arith, o.0, o.1, o.3) ])

  -- the chain where the gap before touches
  pub linked_touching : (head : ℕ) (p : Parts head) → next ≡ p.three → first < at → AreLinked (merged_words ws first last next) head (tiles (merged_words ws first last next) bounds.from) 0
  linked_touching head p is lt =
      let o = order in
      let new = merged_words ws first last next in
      let touch : p.one ≡ first = (lone_link ws first h.before.tail at p.one p.two h.before.between h.before.free h.before.one p.tail lt).0 in
      let front : AreLinked new head h.before.front first = link_between ws new bounds.from h.before.front first head first h.before.before (λ i low high. same_out i (inl high)) (subst (λ (x : ℕ). AreLinked ws head h.before.front x) touch p.front) in
      let rest : AreLinked new next h.after.rest 0 = link_between ws new last h.after.rest (length ws) next 0 h.after.after (λ i low high. same_out i (inr low)) (subst (λ (x : ℕ). AreLinked ws x h.after.rest 0) (sym is) p.rest) in
      let word : slice_index new (first + 1) ≡ next = merged_link ws first last next (omega (arith, o.0, o.1, o.2, o.3)) in
      let middle : AreLinked new first (gap first last ∷ h.after.rest) 0 = (refl, subst (λ (x : ℕ). AreLinked new x h.after.rest 0) (sym word) rest) in
      subst (λ ps. AreLinked new head ps 0) (sym (change_tiles (give_change h next))) (link_join new head h.before.front first (gap first last ∷ h.after.rest) 0 front middle)

  -- and where it does not
  pub linked_apart : (head : ℕ) (p : Parts head) (before : Option ℕ) → next ≡ p.three → first ≡ at → IsLastTold numbers (at / 2) before → AreLinked (relinked_words (merged_words ws first last next) before at) (relinked_head head before at) (tiles (merged_words ws first last next) bounds.from) 0
  linked_apart head p before is here_is told =
      let o = order in
      let even = at_even in
      let mid = merged_words ws first last next in
      let new = relinked_words mid before at in
      let later : (i : ℕ) → at ≤ i → slice_index new i ≡ slice_index mid i = λ i low. relinked_at mid (at / 2) at i before numbers told (omega arith) in
      let low : Fill mid bounds.from h.before.front first = Fill-same ws mid bounds.from h.before.front first (λ i from to. same_out i (inl to)) h.before.before in
      let one : AreLinked mid head h.before.front p.one = link_between ws mid bounds.from h.before.front first head p.one h.before.before (λ i from to. same_out i (inl to)) p.front in
      let front : AreLinked new (relinked_head head before at) h.before.front at = relinked_chain mid bounds.from h.before.front first head p.one at before low (omega (arith, merged_count ws first last next, o.0, o.1, o.2)) (give_last before here_is told) one in
      let rest : AreLinked new next h.after.rest 0 = link_between ws new last h.after.rest (length ws) next 0 h.after.after (λ i from to. later i (omega (arith, o.0, o.1)) ∙ same_out i (inr from)) (subst (λ (x : ℕ). AreLinked ws x h.after.rest 0) (sym is) p.rest) in
      let word : slice_index new (first + 1) ≡ next = later (first + 1) (omega arith) ∙ merged_link ws first last next (omega (arith, o.0, o.1, o.2, o.3)) in
      let middle : AreLinked new at (gap first last ∷ h.after.rest) 0 = (sym here_is, subst (λ (x : ℕ). AreLinked new x h.after.rest 0) (sym word) rest) in
      subst (λ ps. AreLinked new (relinked_head head before at) ps 0) (sym (change_tiles (give_change h next))) (link_join new (relinked_head head before at) h.before.front at (gap first last ∷ h.after.rest) 0 front middle)
