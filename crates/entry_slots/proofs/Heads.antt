-- What the first words of a block say.
use Rattle.std.proofs.Common.{◌≡◌, ℕ, ◌+◌, ◌/◌, ◌<◌, ◌^◌, List, length, slice_index, sym, ap, ◌∙◌, subst, arith}
use Rattle.seg_words.specs.declared.layout.TheConstants.{HEAD_WORDS, KEY_LENGTH, IMAGE_LENGTH, PIN_COUNT}
use Rattle.entry_slots.specs.declared.head.TheConstants.{TTL, CTIME, MTIME, ATIME, DTIME, HITS, NUMBER}
use Rattle.seg_words.specs.Windows.{Aside}
use Rattle.seg_words.specs.Blocks.{image_place}
use Rattle.seg_words.specs.Layout.{words_in}
use Rattle.php_graph.specs.Size.{image_length}
use Rattle.value_image.specs.Image.{IsImageOf}
use Rattle.apcu_model.specs.Cache.{Row}
use Rattle.entry_slots.specs.declared.slots.EntrySlots.{EntrySlots}
use Rattle.entry_slots.specs.Reading.{IsHeadOf}
use Rattle.entry_slots.proofs.Runs.{words_long}
use Rattle.entry_slots.proofs.RowBlocks.{IsHome, room}

-- the numbers that are kept in 32 bits
pub record AreShort (first : List ℕ) (at : ℕ) : Type 0 where
  pub size : slice_index first 0 < 2 ^ 32
  pub key : slice_index first KEY_LENGTH < 2 ^ 32
  pub value : slice_index first IMAGE_LENGTH < 2 ^ 32
  pub ttl : slice_index first TTL < 2 ^ 32
  pub image : at + HEAD_WORDS + (slice_index first KEY_LENGTH + 7) / 8 < 2 ^ 32

-- the words of a block as they were read
abbrev pub AreFirst : List ℕ → ℕ → List ℕ → Type 0
AreFirst ws at first = (k : ℕ) → k < PIN_COUNT → slice_index first k ≡ slice_index ws (at + k)

pub short_words : {e : EntrySlots} {ws : List ℕ} {aside : Aside} {row : Row} → IsHome e ws aside row → (at : ℕ) (first : List ℕ) → row.place ≡ at → AreFirst ws at first → AreShort first at
short_words {ws = ws} {row = row} h at first e each =
    let w = room h in
    let zero : at + 0 ≡ row.place = omega arith in
    let size : slice_index first 0 ≡ row.size = each 0 (omega arith) ∙ (ap (slice_index ws) zero ∙ h.entry.size) in
    let key : slice_index first KEY_LENGTH ≡ length row.key = each KEY_LENGTH (omega arith) ∙ (ap (λ n. slice_index ws (n + KEY_LENGTH)) (sym e) ∙ h.entry.key_length) in
    let value : slice_index first IMAGE_LENGTH ≡ image_length row.graph = each IMAGE_LENGTH (omega arith) ∙ (ap (λ n. slice_index ws (n + IMAGE_LENGTH)) (sym e) ∙ h.entry.value_length) in
    let ttl : slice_index first TTL ≡ row.ttl = each TTL (omega arith) ∙ (ap (λ n. slice_index ws (n + TTL)) (sym e) ∙ h.entry.ttl) in
    record {
      size = omega (arith, size, w.high, w.short);
      key = omega (arith, key, h.entry.bytes.0);
      value = omega (arith, value, w.high, w.short, w.enough);
      ttl = omega (arith, ttl, h.entry.short_ttl);
      image = omega (arith, key, w.high, w.short, w.enough);
    }

pub head_is : {e : EntrySlots} {ws : List ℕ} {aside : Aside} (row : Row) → IsHome e ws aside row → (at : ℕ) (first : List ℕ) (image : ℕ) → row.place ≡ at → AreFirst ws at first → image ≡ at + HEAD_WORDS + (slice_index first KEY_LENGTH + 7) / 8
    → IsHeadOf ws aside.windows (record {
      key_len = slice_index first KEY_LENGTH;
      image = image;
      image_len = slice_index first IMAGE_LENGTH;
      ttl = slice_index first TTL;
      ctime = slice_index first CTIME;
      mtime = slice_index first MTIME;
      atime = slice_index first ATIME;
      dtime = slice_index first DTIME;
      hits = slice_index first HITS;
      size = slice_index first 0;
      number = slice_index first NUMBER;
    }) row
head_is {ws = ws} {aside = aside} row h at first image e each ei =
    let w = room h in
    let zero : at + 0 ≡ row.place = omega arith in
    let key : slice_index first KEY_LENGTH ≡ length row.key = each KEY_LENGTH (omega arith) ∙ (ap (λ n. slice_index ws (n + KEY_LENGTH)) (sym e) ∙ h.entry.key_length) in
    let value : slice_index first IMAGE_LENGTH ≡ image_length row.graph = each IMAGE_LENGTH (omega arith) ∙ (ap (λ n. slice_index ws (n + IMAGE_LENGTH)) (sym e) ∙ h.entry.value_length) in
    let start : image ≡ row.place + HEAD_WORDS + words_in (length row.key) = ei ∙ (ap (λ n. n + HEAD_WORDS + (slice_index first KEY_LENGTH + 7) / 8) (sym e) ∙ ap (λ n. row.place + HEAD_WORDS + (n + 7) / 8) key) in
    let place : image_place ws row.place ≡ image = ap (λ n. row.place + HEAD_WORDS + (n + 7) / 8) h.entry.key_length ∙ sym start in
    let len = words_long row.key in
    record {
      key_len = key;
      image = start;
      image_len = value;
      ttl = each TTL (omega arith) ∙ (ap (λ n. slice_index ws (n + TTL)) (sym e) ∙ h.entry.ttl);
      ctime = each CTIME (omega arith) ∙ (ap (λ n. slice_index ws (n + CTIME)) (sym e) ∙ h.entry.ctime);
      mtime = each MTIME (omega arith) ∙ (ap (λ n. slice_index ws (n + MTIME)) (sym e) ∙ h.entry.mtime);
      atime = each ATIME (omega arith) ∙ (ap (λ n. slice_index ws (n + ATIME)) (sym e) ∙ h.entry.atime);
      dtime = each DTIME (omega arith) ∙ (ap (λ n. slice_index ws (n + DTIME)) (sym e) ∙ h.entry.dtime);
      hits = each HITS (omega arith) ∙ (ap (λ n. slice_index ws (n + HITS)) (sym e) ∙ h.entry.hits);
      size = each 0 (omega arith) ∙ (ap (slice_index ws) zero ∙ h.entry.size);
      number = each NUMBER (omega arith) ∙ (ap (λ n. slice_index ws (n + NUMBER)) (sym e) ∙ h.entry.number);
      key_stands = record { stands = h.entry.key; told = λ i low high. w.told i (omega arith) (omega (arith, len, w.enough)) (omega arith) };
      image_stands = subst (λ n. IsImageOf ws n (slice_index first IMAGE_LENGTH) row.graph) place (subst (λ n. IsImageOf ws (image_place ws row.place) n row.graph) (sym value) h.entry.image);
      image_told = λ i low high. w.told i (omega (arith, start)) (omega (arith, start, value, w.enough)) (omega (arith, start));
    }
