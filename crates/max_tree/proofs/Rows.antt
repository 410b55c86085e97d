-- A row with more rows behind it in one list.
use Rattle.std.proofs.Common.{◌≡◌, ◌≢◌, ℕ, zero, suc, ◌+◌, ◌-◌, ◌^◌, ◌<◌, ◌≤◌, List, length, set, take, drop, ◌++◌, replicate, refl, sym, ap, ◌∙◌, subst, arith, length-drop}
use Rattle.std.proofs.lemmas.List.{take-append-drop, set-append_left, length-take, length-set, take_at, drop_at, take-replicate, length-replicate, replicate-append-replicate}

pub front_count : (all : List ℕ) (count : ℕ) → count ≤ length all → length (take count all) ≡ count
front_count all count inside = omega (arith, length-take count all)

-- a write in the row leaves those behind it
pub set_front : (all : List ℕ) (count w v : ℕ) → count ≤ length all → w < count → set all w v ≡ set (take count all) w v ++ drop count all
set_front all count w v inside low =
    ap (λ (xs : List ℕ). set xs w v) (sym (take-append-drop count all)) ∙ set-append_left (take count all) (drop count all) w v (omega (arith, length-take count all))

pub front_set : (all : List ℕ) (count w v : ℕ) → count ≤ length all → w < count → take count (set all w v) ≡ set (take count all) w v
front_set all count w v inside low =
    ap (take count) (set_front all count w v inside low) ∙ take_at (set (take count all) w v) (drop count all) count (omega (arith, length-set (take count all) w v, length-take count all))

-- R is what a row and the next one satisfy; up gives the length of the next one; the last row has at most
-- `most` numbers. A above count xs: the numbers of xs are a row of `count` of them and `above` rows behind it.
pub record AreStacked (R : List ℕ → List ℕ → Type 0) (up : ℕ → ℕ) (most : ℕ) (A : ℕ → ℕ → List ℕ → Type 0) : Type 0 where
  pub last : (count : ℕ) (xs : List ℕ) → A zero count xs → (length xs ≡ count) × (count ≤ most)
  pub last_is : (count : ℕ) (xs : List ℕ) → length xs ≡ count → count ≤ most → A zero count xs
  pub more : (above count : ℕ) (xs : List ℕ) → A (suc above) count xs → R (take count xs) (take (up count) (drop count xs)) × A above (up count) (drop count xs)
  pub more_is : (above count : ℕ) (xs : List ℕ) → R (take count xs) (take (up count) (drop count xs)) → A above (up count) (drop count xs) → A (suc above) count xs
  pub room : (xs tops : List ℕ) → R xs tops → (most < length xs) × (length xs < 2 ^ 32) × (0 < length tops)
  pub zeros : (n : ℕ) → most < n → n < 2 ^ 32 → R (replicate n 0) (replicate (up n) 0)

module _ {R : List ℕ → List ℕ → Type 0} {up : ℕ → ℕ} {most : ℕ} {A : ℕ → ℕ → List ℕ → Type 0} (s : AreStacked R up most A) where
  -- the first row is there, and of the given length
  row_room : (count : ℕ) (xs : List ℕ) → R (take count xs) (take (up count) (drop count xs)) → (count < length xs) × (most < count) × (count < 2 ^ 32)
  row_room count xs row =
      let room = s.room (take count xs) (take (up count) (drop count xs)) row in
      let inside : count < length xs = omega (arith, room.2, length-take (up count) (drop count xs), length-drop count xs) in
      (inside, omega (arith, room.0, length-take count xs), omega (arith, room.1, length-take count xs))

  pub rows_room : (above count : ℕ) (xs : List ℕ) → A above count xs → count ≤ length xs
  rows_room zero count xs are = omega (arith, (s.last count xs are).0)
  rows_room (suc above) count xs are = omega (arith, (row_room count xs (s.more above count xs are).0).0)

  -- how many numbers all rows have
  pub rows_most : (bound : ℕ → ℕ) → ((n : ℕ) → n ≤ bound n) → ((n : ℕ) → most < n → n + bound (up n) ≤ bound n) → (above count : ℕ) (xs : List ℕ) → A above count xs → length xs ≤ bound count
  rows_most bound one more zero count xs are = omega (arith, (s.last count xs are).0, one count)
  rows_most bound one more (suc above) count xs are =
      let parts = s.more above count xs are in
      let room = row_room count xs parts.0 in
      omega (arith, rows_most bound one more above (up count) (drop count xs) parts.1, length-drop count xs, room.0, more count room.1)

  -- one row alone
  pub alone_of : (above count : ℕ) (xs : List ℕ) → A above count xs → above ≡ 0 → (length xs ≡ count) × (count ≤ most)
  alone_of zero count xs are none = s.last count xs are
  alone_of (suc above) count xs are none = absurd (omega arith)

  -- a row, and the rows behind it, of which the first has n numbers
  pub parts_of : (above count n : ℕ) (xs front behind : List ℕ) → A above count xs → above ≢ 0 → n ≡ up count → front ≡ take count xs → behind ≡ drop count xs → (length front ≡ count) × R front (take n behind) × A (above - 1) n behind
  parts_of zero count n xs front behind are some is front_is behind_is = absurd (some refl)
  parts_of (suc above) count n xs front behind are some is front_is behind_is =
      let parts = s.more above count xs are in
      let back : above ≡ suc above - 1 = omega arith in (
        ap length front_is ∙ front_count xs count (rows_room (suc above) count xs are),
        rw (front_is, behind_is, is) parts.0,
        rw (behind_is, is) (subst (λ (m : ℕ). A m (up count) (drop count xs)) back parts.1),
      )

  more_join : (above count : ℕ) (front behind : List ℕ) → length front ≡ count → R front (take (up count) behind) → A above (up count) behind → A (suc above) count (front ++ behind)
  more_join above count front behind long row rest =
      s.more_is above count (front ++ behind) (rw (take_at front behind count long, drop_at front behind count long) row) (rw (drop_at front behind count long) rest)

  pub rows_join : (above count n : ℕ) (front behind : List ℕ) → above ≢ 0 → n ≡ up count → length front ≡ count → R front (take n behind) → A (above - 1) n behind → A above count (front ++ behind)
  rows_join zero count n front behind some is long row rest = absurd (some refl)
  rows_join (suc above) count n front behind some is long row rest =
      let back : suc above - 1 ≡ above = omega arith in
      more_join above count front behind long (rw (sym is) row) (rw (sym is) (subst (λ (m : ℕ). A m n behind) back rest))

  -- a number of the first row is written, and the rows behind it stay as they are
  pub rows_set : (above count : ℕ) (xs : List ℕ) (p v : ℕ) → A above count xs → p < count → (above ≢ 0 → R (take count xs) (take (up count) (drop count xs)) → R (set (take count xs) p v) (take (up count) (drop count xs))) → A above count (set xs p v)
  rows_set zero count xs p v are inside row = s.last_is count (set xs p v) (length-set xs p v ∙ (s.last count xs are).0) (s.last count xs are).1
  rows_set (suc above) count xs p v are inside row =
      let parts = s.more above count xs are in
      let room = rows_room (suc above) count xs are in
      subst (λ (ys : List ℕ). A (suc above) count ys) (sym (set_front xs count p v room inside))
      (more_join above count (set (take count xs) p v) (drop count xs) (length-set (take count xs) p v ∙ front_count xs count room) (row (omega arith) parts.0) parts.1)

  -- zeros
  zero_more : (above count room : ℕ) → most < count → count < 2 ^ 32 → A above (up count) (replicate room 0) → A (suc above) count (replicate (count + room) 0)
  zero_more above count room many short rest =
      let tops : take (up count) (replicate {A = ℕ} room 0) ≡ replicate (up count) 0 = take-replicate (up count) room 0 (omega (arith, rows_room above (up count) (replicate room 0) rest, length-replicate {A = ℕ} room 0)) in
      subst (λ (xs : List ℕ). A (suc above) count xs) (replicate-append-replicate count room 0)
      (more_join above count (replicate count 0) (replicate room 0) (length-replicate {A = ℕ} count 0) (rw tops (s.zeros count many short)) rest)

  pub shape_join : (above n count room : ℕ) → A above n (replicate room 0) → n ≡ up count → most < count → count < 2 ^ 32 → A (above + 1) count (replicate (count + room) 0)
  shape_join above n count room rest is many short =
      let next : suc above ≡ above + 1 = omega arith in
      subst (λ (m : ℕ). A m count (replicate (count + room) 0)) next (zero_more above count room many short (subst (λ (m : ℕ). A above m (replicate room 0)) is rest))

  zero_rows : (above count : ℕ) (xs : List ℕ) → A above count xs → A above count (replicate (length xs) 0)
  zero_rows zero count xs are = s.last_is count (replicate (length xs) 0) (length-replicate {A = ℕ} (length xs) 0 ∙ (s.last count xs are).0) (s.last count xs are).1
  zero_rows (suc above) count xs are =
      let parts = s.more above count xs are in
      let room = row_room count xs parts.0 in
      let all : count + length (drop count xs) ≡ length xs = omega (arith, length-drop count xs, room.0) in
      subst (λ (n : ℕ). A (suc above) count (replicate n 0)) all (zero_more above count (length (drop count xs)) room.1 room.2 (zero_rows above (up count) (drop count xs) parts.1))

  pub front_made : (above count room : ℕ) (xs : List ℕ) → A above count (replicate room 0) → xs ≡ replicate room 0 → take count xs ≡ replicate count 0
  front_made above count room xs are zeros =
      ap (take count) zeros ∙ take-replicate count room 0 (omega (arith, rows_room above count (replicate room 0) are, length-replicate {A = ℕ} room 0))

  -- a Vec of rows whose items were all made zeros
  pub vec_cleared : (above count len : ℕ) (items new slice view : List ℕ) → A above count items → take count items ≡ view → slice ≡ items → len ≡ length items → new ≡ replicate (length slice) 0
      → A above count (take len (new ++ drop (length new) items)) × (take count (take len (new ++ drop (length new) items)) ≡ replicate (length view) 0)
  vec_cleared above count len items new slice view are shown same long zeros =
      let filled : length new ≡ len = omega (arith, ap length zeros, length-replicate {A = ℕ} (length slice) 0, ap length same) in
      let all : take len (new ++ drop (length new) items) ≡ replicate (length items) 0 = take_at new (drop (length new) items) len filled ∙ zeros ∙ ap (λ (xs : List ℕ). replicate (length xs) 0) same in
      let are' = zero_rows above count items are in (
        subst (λ (xs : List ℕ). A above count xs) (sym all) are',
        front_made above count (length items) _ are' all ∙ ap (λ (n : ℕ). replicate n 0) (sym (front_count items count (rows_room above count items are)) ∙ ap length shown),
      )
