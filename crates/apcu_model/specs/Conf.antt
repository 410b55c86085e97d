-- Which shapes a cache can have, and what follows from them.
use Rattle.std.specs.Prelude.{◌≡◌, ℕ, ◌+◌, ◌-◌, ◌*◌, ◌/◌, ◌%◌, ◌≤◌, ◌==◌, if◌then◌else◌}
use Rattle.std.proofs.Common.{ap, sym, subst, ◌∙◌, arith}
use Rattle.std.proofs.Math.Nat as nat
use Rattle.apcu_model.specs.declared.conf.Conf.{Conf}
use Rattle.apcu_model.specs.declared.conf.TheConstants.{MOST_SEGMENTS, MOST_SLOTS, MOST_WORDS}
use Rattle.apcu_model.specs.declared.conf.TheConstants.{MOST_USABLE_WORDS}

-- the words of one segment
unfoldable pub piece_of : Conf → ℕ
piece_of conf = conf.words / conf.segments

-- the words of the largest block that fits into the empty segments; it is less than a whole segment
-- only if the one segment holds the slots too
abbrev pub most_of : Conf → ℕ
most_of conf = if conf.segments == 1 then conf.words - conf.slots else piece_of conf

-- a shape that a cache of the program may have
pub record IsGood (conf : Conf) : Type 0 where
  pub segments_least : 1 ≤ conf.segments
  pub segments_most : conf.segments ≤ MOST_SEGMENTS
  pub words_even : conf.words % (2 * conf.segments) ≡ 0
  pub words_least : 32 ≤ conf.words
  pub words_most : conf.words ≤ MOST_WORDS
  pub slots_even : conf.slots % 2 ≡ 0
  pub slots_least : 2 ≤ conf.slots
  pub slots_most : conf.slots ≤ MOST_SLOTS
  pub room : conf.slots + 16 ≤ piece_of conf

-- A shape for which an engine can make a cache. It may have more words than a good one; all other
-- requirements are the same.
pub record IsUsable (conf : Conf) : Type 0 where
  pub segments_least : 1 ≤ conf.segments
  pub segments_most : conf.segments ≤ MOST_SEGMENTS
  pub words_even : conf.words % (2 * conf.segments) ≡ 0
  pub words_least : 32 ≤ conf.words
  pub words_most : conf.words ≤ MOST_USABLE_WORDS
  pub slots_even : conf.slots % 2 ≡ 0
  pub slots_least : 2 ≤ conf.slots
  pub slots_most : conf.slots ≤ MOST_SLOTS
  pub room : conf.slots + 16 ≤ piece_of conf

-- an engine can make a cache of each good shape
pub usable_of : {conf : Conf} → IsGood conf → IsUsable conf
usable_of good = record {
  segments_least = good.segments_least;
  segments_most = good.segments_most;
  words_even = good.words_even;
  words_least = good.words_least;
  words_most = omega (arith, good.words_most);
  slots_even = good.slots_even;
  slots_least = good.slots_least;
  slots_most = good.slots_most;
  room = good.room;
}

-- the words of a segment are an even number, and all words too
pub piece_even : {conf : Conf} → IsUsable conf → piece_of conf % 2 ≡ 0
unfolding piece_of
piece_even {conf} usable =
    let some = usable.segments_least in
    let q = conf.words / (2 * conf.segments) in
    let whole : conf.words ≡ (2 * q) * conf.segments =
    sym (nat.div-add-mod' conf.words (2 * conf.segments))
    ∙ ap (λ (r : ℕ). q * (2 * conf.segments) + r) usable.words_even
    ∙ omega (
      arith,
      sym (nat.mul_assoc q 2 conf.segments),
      ap (λ (x : ℕ). x * conf.segments) (nat.mul_comm q 2),
    ) in
    let piece : conf.words / conf.segments ≡ 2 * q =
    ap (λ (x : ℕ). x / conf.segments) whole ∙ nat.mul-div_cancel (2 * q) some in
    omega arith

pub words_even_of : {conf : Conf} → IsUsable conf → conf.words % 2 ≡ 0
words_even_of {conf} usable =
    let q = conf.words / (2 * conf.segments) in
    let whole = nat.div-add-mod' conf.words (2 * conf.segments) in
    let even = usable.words_even in
    let twice : q * (2 * conf.segments) ≡ 2 * (q * conf.segments) =
    nat.mul_left_comm q 2 conf.segments in
    omega arith

-- a segment is no larger than all of them
pub piece_most : (conf : Conf) → piece_of conf ≤ conf.words
unfolding piece_of
piece_most conf = nat.div-le_self conf.words conf.segments

pub room_of : {conf : Conf} → IsUsable conf → conf.slots + 16 ≤ conf.words
room_of {conf} usable = let room = usable.room in omega (arith, piece_most conf)

-- a shape with one segment is good by bounds on words and slots alone
pub good_one : (words slots ttl : ℕ) → words % 2 ≡ 0 → 32 ≤ words → words ≤ MOST_WORDS
    → slots % 2 ≡ 0 → 2 ≤ slots → slots ≤ MOST_SLOTS → slots + 16 ≤ words
    → IsGood (record { words = words; slots = slots; ttl = ttl; segments = 1 })
unfolding piece_of
good_one words slots ttl even least most slots_even slots_least slots_most room = record {
  segments_least = omega arith;
  segments_most = omega arith;
  words_even = even;
  words_least = least;
  words_most = most;
  slots_even = slots_even;
  slots_least = slots_least;
  slots_most = slots_most;
  room = subst (λ (x : ℕ). slots + 16 ≤ x) (sym (nat.div-one words)) room;
}
