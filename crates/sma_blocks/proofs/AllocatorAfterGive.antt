-- What giving leaves, with the index, the chain and the count.
use Rattle.std.proofs.Common.{◌≡◌, ◌≢◌, inl, inr, ℕ, ◌+◌, ◌-◌, ◌*◌, ◌/◌, ◌%◌, ◌<◌, ◌≤◌, not, eqb, cond, Bool, true, false, List, length, get_or, slice_index, slice_set, Option, Some, None, [], ◌∷◌, MatchOption, refl, sym, ap, ◌∙◌, subst, arith}
use Rattle.std.proofs.lemmas.Bool.{cases_lt, cases_eq, cases_Bool, and_parts, and_from, false≢true}
use Rattle.std.specs.List.{filter}
use Rattle.seg_words.specs.declared.gaps.Extent.{Extent}
use Rattle.seg_words.specs.Windows.{Aside}
use Rattle.seg_words.specs.Blocks.{MayStore}
use Rattle.seg_words.specs.Gaps.{is_free, meets}
use Rattle.sma_blocks.specs.declared.sma.Sma.{Sma}
use Rattle.sma_blocks.specs.Tiles.{tiles}
use Rattle.sma_blocks.specs.Live.{lives, gap_words, live_blocks, without_block, SameBlocks}
use Rattle.sma_blocks.specs.Index.{IsIndexed, IsJoined}
use Rattle.sma_blocks.specs.Chain.{AreLinked}
use Rattle.sma_blocks.specs.Ready.{IsReady}
use Rattle.sma_blocks.specs.Walk.{merged_words, link_before, relinked_words, relinked_head}
use Rattle.sma_blocks.proofs.FilledWords.{filled_of}
use Rattle.sma_blocks.proofs.WordsAfterGive.{Around, around_order, give_ready, give_less, give_same, give_apart}
use Rattle.sma_blocks.proofs.TileLemmas.{Fill-le}
use Rattle.sma_blocks.proofs.MergedWords.{merged_count}
use Rattle.sma_blocks.proofs.WordsAfterTake.{may_store_after}
use Rattle.sma_blocks.proofs.FirstFit.{GapAt, gap_told}
use Rattle.sma_blocks.proofs.LastGapLink.{IsLastTold, relinked, relinked_same, gap_fill, gap_apart}
use Rattle.sma_blocks.proofs.IndexAfterGive.{Parts, first_even, give_indexed, give_counted, linked_touching, linked_apart, parts, next_after, next_before, next_alone}
use Rattle.sma_blocks.proofs.ReadyWords.{ready_by}
use Rattle.sma_blocks.proofs.AllocatorAfterTake.{indexed_along, same_sma}

last_joined : (old new : List ℕ) (first end last at : ℕ) (before : Option ℕ) → first ≡ at → at < end → at % 2 ≡ 0 → IsJoined old new first end last → IsLastTold old (at / 2) before → IsLastTold new (at / 2) before
last_joined old new first end last at None is past even joined l =
    ((λ k low. joined.others k (λ e. omega arith) (λ lt e. omega arith) ∙ l.0 k low), tt)
last_joined old new first end last at (Some q) is past even joined l =
    let low = l.0.0 in (
      (low, λ e. l.0.1 (sym (joined.others q (λ e. omega arith) (λ lt e. omega arith)) ∙ e)),
      λ k over under. joined.others k (λ e. omega arith) (λ lt e. omega arith) ∙ l.1 k over under,
    )

-- the words after the link was set, or left
pub record Ends (sma : Sma) (ws : List ℕ) (before : Option ℕ) (at first last next head' : ℕ) (ws' : List ℕ) : Type 0 where
  pub alone : first ≡ at → (ws' ≡ relinked_words (merged_words ws first last next) before at) × (head' ≡ relinked_head sma.head before at)
  pub touching : first ≢ at → (ws' ≡ merged_words ws first last next) × (head' ≡ sma.head)

-- what an extent of a part of the list covers, one of the list covers
free_part : (test : Extent → Bool) (i : ℕ) (blocks : List Extent) → is_free i 1 blocks ≡ true → is_free i 1 (filter test blocks) ≡ true
free_part test i [] h = refl
free_part test i (b ∷ bs) h =
    let both = and_parts (not (meets i 1 b)) (is_free i 1 bs) h in
    go (test b) both.0 (free_part test i bs both.1)
  where
    go : (k : Bool) → not (meets i 1 b) ≡ true → is_free i 1 (filter test bs) ≡ true → is_free i 1 (cond k (b ∷ filter test bs) (filter test bs)) ≡ true
    go true one rest = and_from (not (meets i 1 b)) (is_free i 1 (filter test bs)) one rest
    go false one rest = rest

part_taken : (at i : ℕ) (blocks : List Extent) → is_free i 1 (without_block at blocks) ≡ false → is_free i 1 blocks ≡ false
part_taken at i blocks taken = elim (cases_Bool (is_free i 1 blocks)) [
  | inl free ↦ absurd (false≢true (sym taken ∙ free_part (λ block. not (eqb block.place at)) i blocks free))
  | inr there ↦ there
]

-- all that a call of give leaves
pub record Gives (sma sma' : Sma) (ws ws' : List ℕ) (aside : Aside) (at : ℕ) : Type 0 where
  pub blocks : live_blocks ws' sma.bounds.from ≡ without_block at (live_blocks ws sma.bounds.from)
  pub same : SameBlocks ws ws' sma.bounds.from (without_block at (live_blocks ws sma.bounds.from))
  pub ready : IsReady sma' ws' aside

-- where the last gap before the block begins, a word may be stored after the merge
merged_one : {sma : Sma} {ws : List ℕ} {aside : Aside} {at size first last : ℕ} (ready : IsReady sma ws aside) (h : Around sma.bounds ws aside at size first last) (q next : ℕ) → GapAt ws sma.bounds.from (q + q) (get_or sma.sizes q 0) → (2 * q + 1 < length (merged_words ws first last next)) × MayStore (merged_words ws first last next) aside.windows (2 * q + 1)
merged_one {sma} {ws} {aside} {at} {size} {first} {last} ready h q next g =
    let whole = gap_fill ws sma.bounds.from (q + q) (get_or sma.sizes q 0) g in
    let wide = whole.0.enough in
    let end : q + q + get_or sma.sizes q 0 ≤ length ws = Fill-le ws (q + q + get_or sma.sizes q 0) (tiles ws (q + q + get_or sma.sizes q 0)) (length ws) whole.1 in
    let o = around_order h in
    let i = 2 * q + 1 in
    let old : MayStore ws aside.windows i = gap_apart (filled_of ready) g i (omega arith) (omega arith) in
    let one : MayStore ws aside.windows first = give_apart h first (omega arith) (omega (arith, o.0, o.1, o.3)) in
    let two : MayStore ws aside.windows (first + 1) = give_apart h (first + 1) (omega arith) (omega (arith, o.0, o.1, o.3)) in
    let once = may_store_after ws aside.windows first i ((last - first) + 1) one old in
    let again = may_store_after ws aside.windows first (first + 1) ((last - first) + 1) one two in
    (omega (arith, merged_count ws first last next), may_store_after (slice_set ws first ((last - first) + 1)) aside.windows (first + 1) i next again once)

pub merged_inside : {sma : Sma} {ws : List ℕ} {aside : Aside} {at size first last : ℕ} (ready : IsReady sma ws aside) (h : Around sma.bounds ws aside at size first last) (before : Option ℕ) → IsLastTold sma.sizes (at / 2) before → (next : ℕ) → MatchOption before (Unit {0}) (λ q. 2 * q + 1 < length (merged_words ws first last next))
merged_inside ready h None told next = tt
merged_inside {sma} {ws} ready h (Some q) told next = (merged_one ready h q next (gap_told ws sma.bounds.from sma.sizes q ready.formatted ready.indexed told.0.1)).0

pub merged_apart : {sma : Sma} {ws : List ℕ} {aside : Aside} {at size first last : ℕ} (ready : IsReady sma ws aside) (h : Around sma.bounds ws aside at size first last) (before : Option ℕ) → IsLastTold sma.sizes (at / 2) before → (next : ℕ) → MatchOption before (Unit {0}) (λ q. MayStore (merged_words ws first last next) aside.windows (2 * q + 1))
merged_apart ready h None told next = tt
merged_apart {sma} {ws} ready h (Some q) told next = (merged_one ready h q next (gap_told ws sma.bounds.from sma.sizes q ready.formatted ready.indexed told.0.1)).1

module _ {sma : Sma} {ws : List ℕ} {aside : Aside} {at size first last : ℕ} (ready : IsReady sma ws aside) (h : Around sma.bounds ws aside at size first last) (before : Option ℕ) (told : IsLastTold sma.sizes (at / 2) before) (next : ℕ) (new : List ℕ) (joined : IsJoined sma.sizes new first (at + size) last) where
  abbrev mid : List ℕ
  mid = merged_words ws first last next

  mid_indexed : IsIndexed mid sma.bounds.from new
  mid_indexed = give_indexed h sma.sizes ready.indexed next new joined

  at_even : first ≡ at → at % 2 ≡ 0
  at_even is = let e = first_even h sma.sizes ready.indexed next in omega arith

  told_new : first ≡ at → IsLastTold new (at / 2) before
  told_new is =
      let o = around_order h in
      last_joined sma.sizes new first (at + size) last at before is (omega (arith, o.3)) (at_even is) joined told

  is_next : (p : Parts h sma.sizes ready.indexed next sma.head) → (at + size < last → next ≡ slice_index ws ((at + size) + 1)) → (last ≤ at + size → first < at → next ≡ slice_index ws (first + 1)) → (last ≤ at + size → at ≤ first → next ≡ link_before ws sma.head before) → next ≡ p.three
  is_next p after touching alone = elim (cases_lt (at + size) last) [
    | inl lt ↦ after lt ∙ next_after h sma.sizes ready.indexed next sma.head p lt
    | inr ge ↦ elim (cases_lt first at) [
      | inl lower ↦ touching ge lower ∙ next_before h sma.sizes ready.indexed next sma.head p ge lower
      | inr upper ↦
          let o = around_order h in
          let is : first ≡ at = omega (arith, o.0) in
          alone ge upper ∙ next_alone h sma.sizes ready.indexed next sma.head p before ge is told
    ]
  ]

  pub gives : (sma' : Sma) (ws' : List ℕ) → (at + size < last → next ≡ slice_index ws ((at + size) + 1)) → (last ≤ at + size → first < at → next ≡ slice_index ws (first + 1)) → (last ≤ at + size → at ≤ first → next ≡ link_before ws sma.head before)
      → sma'.bounds ≡ sma.bounds → sma'.free ≡ sma.free + size → sma'.sizes ≡ new → Ends sma ws before at first last next sma'.head ws' → Gives sma sma' ws ws' aside at
  gives sma' ws' after touching alone bounds free sizes ends =
      let p = parts h sma.sizes ready.indexed next sma.head ready.linked in
      let is = is_next p after touching alone in
      let counted = (give_counted h sma.sizes ready.indexed next sma.free ready.counted).0 in
      let o = around_order h in
      elim (cases_eq first at) [
        | inl same ↦
            let e = ends.alone same in
            let end = relinked_words mid before at in
            let moved = relinked sma.bounds mid aside new (at / 2) at before (give_ready h next) mid_indexed (told_new same) in
            let indexed = indexed_along mid end sma.bounds.from new moved.count moved.same mid_indexed in
            let linked = linked_apart h sma.sizes ready.indexed next sma.head p before is same told in
            let made : IsReady (record { bounds = sma.bounds; head = relinked_head sma.head before at; free = sma.free + size; sizes = new }) end aside = ready_by (record { bounds = sma.bounds; head = relinked_head sma.head before at; free = sma.free + size; sizes = new }) end aside ready.short ready.even moved.filled indexed (subst (λ ps. AreLinked end (relinked_head sma.head before at) ps 0) (sym moved.same) linked) (counted ∙ ap gap_words (sym moved.same)) in
            let done : Gives sma sma' ws end aside at = record {
              blocks = ap lives moved.same ∙ give_less h next;
              same = relinked_same ws mid sma.bounds.from sma.sizes (at / 2) at before (without_block at (live_blocks ws sma.bounds.from)) ready.formatted ready.indexed told (λ i taken. part_taken at i (live_blocks ws sma.bounds.from) taken) (give_same h next);
              ready = same_sma sma' end aside sma.bounds (relinked_head sma.head before at) (sma.free + size) new bounds e.1 free sizes made;
            } in
            subst (λ (xs : List ℕ). Gives sma sma' ws xs aside at) (sym e.0) done
        | inr other ↦
            let e = ends.touching other in
            let linked = linked_touching h sma.sizes ready.indexed next sma.head p is (less first at o.0 other) in
            let made : IsReady (record { bounds = sma.bounds; head = sma.head; free = sma.free + size; sizes = new }) mid aside = ready_by (record { bounds = sma.bounds; head = sma.head; free = sma.free + size; sizes = new }) mid aside ready.short ready.even (give_ready h next) mid_indexed linked counted in
            let done : Gives sma sma' ws mid aside at = record {
              blocks = give_less h next;
              same = give_same h next;
              ready = same_sma sma' mid aside sma.bounds sma.head (sma.free + size) new bounds e.1 free sizes made;
            } in
            subst (λ (xs : List ℕ). Gives sma sma' ws xs aside at) (sym e.0) done
      ]
    where
      less : (a b : ℕ) → a ≤ b → a ≢ b → a < b
      less a b le other = elim (cases_lt a b) [ inl lt ↦ lt | inr ge ↦ absurd (other (omega arith)) ]
