-- What a change of the words between two edges leaves.
use Rattle.std.proofs.Common.{◌≡◌, ◌⊎◌, inl, inr, ℕ, ◌%◌, ◌<◌, ◌≤◌, true, false, List, ◌++◌, length, slice_index, sym, ap, ◌∙◌, subst, arith}
use Rattle.std.proofs.lemmas.Bool.{cases_lt, and_from, false≢true}
use Rattle.seg_words.specs.Gaps.{is_free}
use Rattle.sma_blocks.specs.Tiles.{Tile, tiles, Fill, gaps_touch, are_whole, IsFormatted}
use Rattle.sma_blocks.specs.Live.{lives, live_blocks, SameBlocks}
use Rattle.sma_blocks.specs.Ready.{NameLive}
use Rattle.sma_blocks.proofs.TileLemmas.{Fill-le, Fill-append, Fill-same, tiles-filled}
use Rattle.sma_blocks.proofs.LiveBlocks.{lives-append, free_outside, is_free-append}
use Rattle.sma_blocks.proofs.NamedBlocks.{between, names_same}

-- the words from a up to b became other tiles, and all other words stayed
pub record Change (old new : List ℕ) (from a b : ℕ) (front mid rest : List Tile) : Type 0 where
  pub before : Fill old from front a
  pub middle : Fill new a mid b
  pub after : Fill old b rest (length old)
  pub same : (i : ℕ) → (i < a) ⊎ (b ≤ i) → slice_index new i ≡ slice_index old i
  pub count : length new ≡ length old

pub change_full : {old new : List ℕ} {from a b : ℕ} {front mid rest : List Tile} → Change old new from a b front mid rest → Fill new from (front ++ (mid ++ rest)) (length new)
change_full {old} {new} {from} {a} {b} {front} {mid} {rest} h =
    let low : Fill new from front a = Fill-same old new from front a (λ i first last. h.same i (inl last)) h.before in
    let high : Fill new b rest (length old) = Fill-same old new b rest (length old) (λ i first last. h.same i (inr first)) h.after in
    let top : Fill new b rest (length new) = subst (λ x. Fill new b rest x) (sym h.count) high in
    Fill-append new from front a (mid ++ rest) (length new) low (Fill-append new a mid b rest (length new) h.middle top)

pub change_tiles : {old new : List ℕ} {from a b : ℕ} {front mid rest : List Tile} → Change old new from a b front mid rest → tiles new from ≡ front ++ (mid ++ rest)
change_tiles {old} {new} {from} {a} {b} {front} {mid} {rest} h = tiles-filled new from (front ++ (mid ++ rest)) (change_full h)

pub change_blocks : {old new : List ℕ} {from a b : ℕ} {front mid rest : List Tile} → Change old new from a b front mid rest → live_blocks new from ≡ lives front ++ (lives mid ++ lives rest)
change_blocks {old} {new} {from} {a} {b} {front} {mid} {rest} h =
    ap lives (change_tiles h) ∙ lives-append front (mid ++ rest) ∙ ap (λ es. lives front ++ es) (lives-append mid rest)

pub change_same : {old new : List ℕ} {from a b : ℕ} {front mid rest : List Tile} → Change old new from a b front mid rest → SameBlocks old new from (lives front ++ lives rest)
change_same {old} {new} {from} {a} {b} {front} {mid} {rest} h =
    let low : from ≤ a = Fill-le old from front a h.before in
    record {
      count = h.count;
      before = λ i lt. h.same i (inl (omega arith));
      inside = λ i taken. elim (cases_lt i a) [
        | inl lt ↦ h.same i (inl lt)
        | inr ge ↦ elim (cases_lt i b) [
          | inl lt ↦
              let left : is_free i 1 (lives front) ≡ true = free_outside old from front a i 1 h.before (inr ge) in
              let right : is_free i 1 (lives rest) ≡ true = free_outside old b rest (length old) i 1 h.after (inl (omega arith)) in
              absurd (false≢true (sym taken ∙ (is_free-append i 1 (lives front) (lives rest) ∙ and_from (is_free i 1 (lives front)) (is_free i 1 (lives rest)) left right)))
          | inr out ↦ h.same i (inr out)
        ]
      ];
    }

pub change_names : {old new : List ℕ} {from a b : ℕ} {front mid rest : List Tile} (windows : List ℕ) → Change old new from a b front mid rest → NameLive old windows (lives front ++ lives rest) → NameLive new windows (lives front ++ lives rest)
change_names {old} {new} {from} {a} {b} {front} {mid} {rest} windows h names =
    names_same old new windows (lives front ++ lives rest) a b names (between old from front a b rest (length old) h.before h.after) h.same

pub change_formatted : {old new : List ℕ} {from a b : ℕ} {front mid rest : List Tile} → Change old new from a b front mid rest → (s : ℕ) → from % 2 ≡ 0 → gaps_touch s false (front ++ (mid ++ rest)) ≡ false → are_whole s (front ++ (mid ++ rest)) ≡ true → IsFormatted new from s
change_formatted {old} {new} {from} {a} {b} {front} {mid} {rest} h s even merged whole =
    let all = change_tiles h in
    record {
      even = even;
      full = subst (λ ps. Fill new from ps (length new)) (sym all) (change_full h);
      merged = ap (gaps_touch s false) all ∙ merged;
      whole = ap (are_whole s) all ∙ whole;
    }
