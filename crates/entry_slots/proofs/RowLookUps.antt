-- What a look-up reads of a row.
use Rattle.std.proofs.Common.{◌≡◌, ◌∙◌, ℕ, ◌+◌, ◌<◌, ◌/◌, ◌==◌, ◌&&◌, ◌||◌, Bool, true, false, List}
use Rattle.std.proofs.Common.{length, refl, sym, ap, subst, arith}
use Rattle.std.specs.Prelude.{nat_lt}
use Rattle.std.proofs.lemmas.Bool.{ne_eqb}
use Rattle.seg_words.specs.declared.layout.TheConstants.{HEAD_WORDS}
use Rattle.seg_words.specs.Blocks.{image_place}
use Rattle.seg_words.specs.Layout.{words_in}
use Rattle.seg_words.specs.Windows.{Aside}
use Rattle.php_graph.specs.Size.{image_length}
use Rattle.value_image.specs.Image.{IsImageOf}
use Rattle.apcu_model.specs.declared.conf.Conf.{Conf}
use Rattle.apcu_model.specs.Cache.{Row}
use Rattle.apcu_model.specs.Expiry.{is_expired, is_hard_expired}
use Rattle.entry_slots.specs.declared.slots.EntrySlots.{EntrySlots}
use Rattle.entry_slots.specs.Reading.{IsImageAt}
use Rattle.entry_slots.proofs.RowBlocks.{IsHome, room}

-- ---- a row's own time

pub endless : (row : Row) (own t : ℕ) → own ≡ row.ttl → own ≡ 0 → false ≡ is_hard_expired t row
endless row own t is none =
    sym (ap (λ n. nat_lt 0 n && nat_lt (row.ctime + n) t) (sym is ∙ none))

pub own_over : (row : Row) (own ctime t : ℕ) → own ≡ row.ttl → ctime ≡ row.ctime
    → (nat_lt 0 own && nat_lt (ctime + own) t) ≡ is_hard_expired t row
own_over row own ctime t is created =
    ap (λ n. nat_lt 0 n && nat_lt (ctime + n) t) is
    ∙ ap (λ n. nat_lt 0 row.ttl && nat_lt (n + row.ttl) t) created

-- ---- and the cache's

or_false : (b : Bool) → (b || false) ≡ b
or_false true = refl
or_false false = refl

pub own_decides : (row : Row) (conf : Conf) (own t : ℕ) (over : Bool) → own ≡ row.ttl → 0 < own
    → over ≡ is_hard_expired t row → over ≡ is_expired conf t row
own_decides row conf own t over is some h =
    let other : (row.ttl == 0) ≡ false = ne_eqb row.ttl 0 (λ none. omega (arith, is, some, none)) in
    h ∙ sym (or_false (is_hard_expired t row))
    ∙ ap (λ b. is_hard_expired t row
    || (b && nat_lt 0 conf.ttl && nat_lt (row.atime + conf.ttl) t)) (sym other)

pub limit_decides : (row : Row) (conf : Conf) (own limit t : ℕ) (over : Bool) → own ≡ row.ttl
    → own ≡ 0 → limit ≡ conf.ttl → over ≡ (nat_lt 0 limit && nat_lt (row.atime + limit) t)
    → over ≡ is_expired conf t row
limit_decides row conf own limit t over is none limit_is h =
    h ∙ ap (λ n. nat_lt 0 n && nat_lt (row.atime + n) t) limit_is
    ∙ ap (λ n. (nat_lt 0 n && nat_lt (row.ctime + n) t)
    || (n == 0 && nat_lt 0 conf.ttl && nat_lt (row.atime + conf.ttl) t)) (sym none ∙ is)

-- ---- its image

pub image_is : {e : EntrySlots} {ws : List ℕ} {aside : Aside} (row : Row) → IsHome e ws aside row
    → (at key_len image : ℕ) → row.place ≡ at → key_len ≡ length row.key
    → image ≡ at + HEAD_WORDS + words_in key_len → IsImageAt ws aside.windows image row
image_is {ws = ws} row h at key_len image place long is =
    let w = room h in
    let start : image ≡ row.place + HEAD_WORDS + words_in (length row.key) =
    is ∙ (ap (λ n. n + HEAD_WORDS + words_in key_len) (sym place)
    ∙ ap (λ n. row.place + HEAD_WORDS + words_in n) long) in
    let there : image_place ws row.place ≡ image =
    ap (λ n. row.place + HEAD_WORDS + (n + 7) / 8) h.entry.key_length ∙ sym start in
    record {
      place = start;
      stands = subst (λ n. IsImageOf ws n (image_length row.graph) row.graph) there h.entry.image;
      told = λ i low high. w.told i (omega (arith, start)) (omega (arith, start, w.enough))
          (omega (arith, start));
    }
