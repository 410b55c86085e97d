-- Room is made, by one call after the other.
use Rattle.std.proofs.Common.{◌≡◌, ℕ, Bool, true, false, not, ◌&&◌, List, [], ◌∷◌, ◌++◌, map, filter, Option, Some, None, refl, sym, ap, ◌∙◌, subst, arith}
use Rattle.std.specs.Prelude.{nat_lt, is_some, if◌then◌else◌, IfSome, IfNone}
use Rattle.std.specs.List.{Contains}
use Rattle.std.proofs.lemmas.List.{append-nil}
use Rattle.std.proofs.lemmas.Bool.{true≢false}
use Rattle.seg_words.specs.Probing.{Goes, goes_on}
use Rattle.seg_words.specs.Gaps.{first_fit}
use Rattle.seg_words.specs.Windows.{Aside, held_blocks}
use Rattle.apcu_model.specs.Conf.{piece_of}
use Rattle.apcu_model.specs.Cache.{Row, Cache, extent_of, gap_of}
use Rattle.apcu_model.specs.Change.{is_held, dropped, leaving, left_of, spent, swept, expired_dropped, expunged, has_gap, with_room, is_expunged}
use Rattle.apcu_model.specs.Expiry.{is_expired}
use Rattle.entry_slots.specs.Entries.{Entries, entries_of, blocks_of, with_taken}
use Rattle.entry_slots.specs.Facts.{IsSound}
use Rattle.ttl_expunge.specs.ProbedRows.{AreRemoved, AreHeld, KeepsOpen, Sweeps, Drops}
use Rattle.ttl_expunge.specs.Dropping.{swept_in, dropped_rows}
use Rattle.ttl_expunge.specs.Room.{with_found, MakesRoom}
use Rattle.seg_words.specs.Members.{Contains-filter, Contains-first, filter_all}
use Rattle.ttl_expunge.specs.DecidedRows.{same_held}
use Rattle.apcu_model.specs.Facts.{dated, leaving_from}
use Rattle.ttl_expunge.proofs.DroppedRows.{made}
use Rattle.ttl_expunge.proofs.OpenWindows.{drops_open, open_on}

map_both : {X Y : Type 0} (f : X → Y) (xs ys : List X) → map f (xs ++ ys) ≡ map f xs ++ map f ys
map_both f [] ys = refl
map_both f (x ∷ xs) ys = ap (λ l. f x ∷ l) (map_both f xs ys)

-- where no block is loose, the place of `take` is the cache's gap
pub gap_is : (s : Entries) (c : Cache) (n : ℕ) → s ≡ entries_of c → first_fit s.conf.slots s.conf.words (piece_of s.conf) n (blocks_of s) ≡ gap_of c n
gap_is s c n e =
    ap (λ (x : Entries). first_fit x.conf.slots x.conf.words (piece_of x.conf) n (blocks_of x)) e
    ∙ ap (first_fit c.conf.slots c.conf.words (piece_of c.conf) n) (ap (λ l. map extent_of c.rows ++ l) (append-nil (map extent_of c.removed)) ∙ sym (map_both extent_of c.rows c.removed))

-- what was swept or dropped is so by the blocks that are held later
pub swept_later : {s s' : Entries} {before after : Aside} (c : Cache) → Sweeps s s' before after → s ≡ entries_of c → (later : Aside) → Goes after later → s' ≡ entries_of (swept (held_blocks later) c)
swept_later {s} {s'} {before} {after} c w e later goes =
    w.swept ∙ (ap (λ l. let x : Entries = record s { removed = l } in x) (sym (same_held after later s.removed goes w.decided)) ∙ ap (λ (x : Entries). swept_in (held_blocks later) x) e)

pub dropped_later : {s s' : Entries} {before after : Aside} {t : ℕ} {gone : List Row} → Drops s s' before after t gone → (later : Aside) → Goes after later → s' ≡ dropped_rows (held_blocks later) t gone s
dropped_later {s} {s'} {before} {after} {t} {gone} d later goes =
    d.dropped ∙ made s (left_of gone s.rows) (left_of gone s.rows)
    (s.removed ++ dated t (filter (is_held (held_blocks after)) gone)) (s.removed ++ dated t (filter (is_held (held_blocks later)) gone)) s.unlinked s.unlinked
    refl (ap (λ l. s.removed ++ dated t l) (sym (same_held after later gone goes d.decided))) refl

pub passing_later : {s s' : Entries} {before after : Aside} {t : ℕ} {gone : List Row} (c : Cache) → Drops s s' before after t gone → s ≡ entries_of c → (later : Aside) → Goes after later
    → s' ≡ entries_of (dropped (held_blocks later) t gone c)
passing_later {t = t} {gone} c d e later goes = dropped_later d later goes ∙ ap (λ (x : Entries). dropped_rows (held_blocks later) t gone x) e

-- the expired rows, if there is a ttl
pub expired_later : {s s' : Entries} {before after : Aside} {t : ℕ} (c : Cache) → Drops s s' before after t (spent s.conf t s.rows) → s ≡ entries_of c → (later : Aside) → Goes after later
    → s' ≡ entries_of (expired_dropped (held_blocks later) t c)
expired_later {t = t} c d e later goes =
    passing_later c d e later goes ∙ ap (λ (x : Entries). entries_of (dropped (held_blocks later) t (spent x.conf t x.rows) c)) e

-- what `take` leaves
pub took : (r : Option ℕ) (n : ℕ) (s s' : Entries) → IfSome r (λ at. s' ≡ with_taken at n s) → IfNone r (s' ≡ s) → s' ≡ with_found r n s
took None n s s' some none = none
took (Some at) n s s' some none = some

pub unchanged : (r : Option ℕ) (s s' : Entries) → is_some r ≡ false → IfNone r (s' ≡ s) → s' ≡ s
unchanged None s s' h none = none
unchanged (Some at) s s' h none = absurd (true≢false h)

block_open : (windows : List ℕ) (r : Option ℕ) (n : ℕ) (s s' : Entries) → KeepsOpen windows s s' → KeepsOpen windows s (with_found r n s')
block_open windows None n s s' k = k
block_open windows (Some at) n s s' k = record { each = λ row c named. k.each row c named }

block_refused : (aside : Aside) (r : Option ℕ) (n : ℕ) (s : Entries) → AreRemoved aside s.removed → AreRemoved aside (with_found r n s).removed
block_refused aside None n s k = k
block_refused aside (Some at) n s k = k

block_held : (aside : Aside) (r : Option ℕ) (n : ℕ) (s : Entries) → AreHeld aside s.removed → AreHeld aside (with_found r n s).removed
block_held aside None n s k = k
block_held aside (Some at) n s k = k

pub drops_from : (f : Entries → List Row) {s s' x : Entries} {a a' b : Aside} {t : ℕ} → s ≡ s' → a ≡ a' → Drops s x a b t (f s) → Drops s' x a' b t (f s')
drops_from f {s} {s'} {x} {a} {a'} {b} {t} p q d = subst (λ (y : Aside). Drops s' x y b t (f s')) q (subst (λ (y : Entries). Drops y x a b t (f y)) p d)

-- the cache whose entries these are, and whether all rows went
pub record IsRoom (s : Entries) (n t : ℕ) (full : Bool) (c : Cache) (held : List ℕ) : Type 0 where
  pub whole : s ≡ entries_of (with_room held n t c)
  pub all : full ≡ is_expunged held n t c

block_taken : (r : Option ℕ) (n : ℕ) (s s' : Entries) → s' ≡ with_found r n s → IfSome r (λ at. Contains s'.taken (record { place = at; size = n }))
block_taken None n s s' e = tt
block_taken (Some at) n s s' e = subst (λ (x : Entries). Contains x.taken (record { place = at; size = n })) (sym e) (Contains-first (record { place = at; size = n }) s.taken)

block_conf : (r : Option ℕ) (n : ℕ) (s s' : Entries) → s' ≡ with_found r n s → s'.conf ≡ s.conf
block_conf None n s s' e = ap (λ (x : Entries). x.conf) e
block_conf (Some at) n s s' e = ap (λ (x : Entries). x.conf) e

pub makes : {s0 s1 s2 : Entries} {a0 a1 a2 : Aside} {n t : ℕ} (r : Option ℕ) (full : Bool) → s2 ≡ with_found r n s1 → r ≡ first_fit s1.conf.slots s1.conf.words (piece_of s1.conf) n (blocks_of s1)
    → ((c : Cache) (later : Aside) → s0 ≡ entries_of c → Goes a1 later → IsRoom s1 n t full c (held_blocks later))
    → s1.conf ≡ s0.conf → Goes a0 a1 → KeepsOpen a1.windows s0 s1 → AreRemoved a1 s1.removed → AreHeld a1 s1.removed → a2 ≡ a1 → MakesRoom s0 s2 a0 a2 n t r full
makes {s0} {s1} {s2} {a0} {a1} {a2} {n} {t} r full took place cache conf goes keeps refused held same = subst (λ (a : Aside). MakesRoom s0 s2 a0 a n t r full) (sym same) (record {
  room = λ c later e on. took ∙ ap (with_found r n) (cache c later e on).whole;
  place_is = λ c later e on. place ∙ gap_is s1 (with_room (held_blocks later) n t c) n (cache c later e on).whole;
  full_is = λ c later e on. (cache c later e on).all;
  taken = block_taken r n s1 s2 took;
  conf_is = block_conf r n s1 s2 took ∙ conf;
  goes = goes;
  keeps = subst (λ (x : Entries). KeepsOpen a1.windows s0 x) (sym took) (block_open a1.windows r n s0 s1 keeps);
  refused = subst (λ (x : Entries). AreRemoved a1 x.removed) (sym took) (block_refused a1 r n s1 refused);
  held = subst (λ (x : Entries). AreHeld a1 x.removed) (sym took) (block_held a1 r n s1 held);
})

gap_there : (s : Entries) (c : Cache) (n : ℕ) (r : Option ℕ) (b : Bool) → s ≡ entries_of c → r ≡ first_fit s.conf.slots s.conf.words (piece_of s.conf) n (blocks_of s) → is_some r ≡ b → has_gap n c ≡ b
gap_there s c n r b e place is = ap is_some (sym (gap_is s c n e)) ∙ (ap is_some (sym place) ∙ is)

-- the removed rows were enough
pub room_swept : {s0 s1 : Entries} {a0 a1 : Aside} {n t : ℕ} (r : Option ℕ) → Sweeps s0 s1 a0 a1 → r ≡ first_fit s1.conf.slots s1.conf.words (piece_of s1.conf) n (blocks_of s1) → is_some r ≡ true
    → (c : Cache) (later : Aside) → s0 ≡ entries_of c → Goes a1 later → IsRoom s1 n t false c (held_blocks later)
room_swept {s0} {s1} {a0} {a1} {n} {t} r sweeps place some c later e on =
    let held = held_blocks later in
    let first = swept held c in
    let second = expired_dropped held t first in
    let e1 : s1 ≡ entries_of first = swept_later c sweeps e later on in
    let has : has_gap n first ≡ true = gap_there s1 first n r true e1 place some in
    record {
      whole = e1 ∙ ap (λ (b : Bool). entries_of (if b then first else if has_gap n second then second else expunged held t second)) (sym has);
      all = ap (λ (b : Bool). not b && not (has_gap n second)) (sym has);
    }

-- the expired ones were
pub room_expired : {s0 s1 s2 : Entries} {a0 a1 a2 : Aside} {n t : ℕ} (r r' : Option ℕ) → Sweeps s0 s1 a0 a1 → r ≡ first_fit s1.conf.slots s1.conf.words (piece_of s1.conf) n (blocks_of s1) → is_some r ≡ false
    → Drops s1 s2 a1 a2 t (spent s1.conf t s1.rows)
    → r' ≡ first_fit s2.conf.slots s2.conf.words (piece_of s2.conf) n (blocks_of s2) → is_some r' ≡ true
    → (c : Cache) (later : Aside) → s0 ≡ entries_of c → Goes a2 later → IsRoom s2 n t false c (held_blocks later)
room_expired {s0} {s1} {s2} {a0} {a1} {a2} {n} {t} r r' sweeps place nothing drops place' some c later e on =
    let held = held_blocks later in
    let first = swept held c in
    let second = expired_dropped held t first in
    let e1 : s1 ≡ entries_of first = swept_later c sweeps e later (goes_on a1 a2 later drops.goes on) in
    let e2 : s2 ≡ entries_of second = expired_later first drops e1 later on in
    let none : has_gap n first ≡ false = gap_there s1 first n r false e1 place nothing in
    let has : has_gap n second ≡ true = gap_there s2 second n r' true e2 place' some in
    record {
      whole = e2 ∙ (ap (λ (b : Bool). entries_of (if b then second else expunged held t second)) (sym has)
          ∙ ap (λ (b : Bool). entries_of (if b then first else if has_gap n second then second else expunged held t second)) (sym none));
      all = ap (λ (b : Bool). not b && not true) (sym none) ∙ ap (λ (b : Bool). not (has_gap n first) && not b) (sym has);
    }

-- all rows went
pub room_full : {s0 s1 s2 s3 : Entries} {a0 a1 a2 a3 : Aside} {n t : ℕ} (r r' : Option ℕ) → Sweeps s0 s1 a0 a1 → r ≡ first_fit s1.conf.slots s1.conf.words (piece_of s1.conf) n (blocks_of s1) → is_some r ≡ false
    → Drops s1 s2 a1 a2 t (spent s1.conf t s1.rows)
    → r' ≡ first_fit s2.conf.slots s2.conf.words (piece_of s2.conf) n (blocks_of s2) → is_some r' ≡ false
    → Drops s2 s3 a2 a3 t (leaving s2.conf s2.rows)
    → (c : Cache) (later : Aside) → s0 ≡ entries_of c → Goes a3 later → IsRoom s3 n t true c (held_blocks later)
room_full {s0} {s1} {s2} {s3} {a0} {a1} {a2} {a3} {n} {t} r r' sweeps place nothing drops place' neither all c later e on =
    let held = held_blocks later in
    let first = swept held c in
    let second = expired_dropped held t first in
    let on2 = goes_on a2 a3 later all.goes on in
    let e1 : s1 ≡ entries_of first = swept_later c sweeps e later (goes_on a1 a2 later drops.goes on2) in
    let e2 : s2 ≡ entries_of second = expired_later first drops e1 later on2 in
    let e3 : s3 ≡ entries_of (dropped held t (leaving second.conf second.rows) second) =
    passing_later second all e2 later on ∙ ap (λ (x : Entries). entries_of (dropped held t (leaving x.conf x.rows) second)) e2 in
    let none : has_gap n first ≡ false = gap_there s1 first n r false e1 place nothing in
    let none' : has_gap n second ≡ false = gap_there s2 second n r' false e2 place' neither in
    record {
      whole = e3 ∙ (ap (λ (b : Bool). entries_of (if b then second else expunged held t second)) (sym none')
          ∙ ap (λ (b : Bool). entries_of (if b then first else if has_gap n second then second else expunged held t second)) (sym none));
      all = ap (λ (b : Bool). not b && not false) (sym none) ∙ ap (λ (b : Bool). not (has_gap n first) && not b) (sym none');
    }

-- the rows under open windows stay where the expired ones go
pub expired_open : {words windows : List ℕ} (old new : Entries) (before after : Aside) (t : ℕ) → IsSound old words windows
    → Drops old new before after t (spent old.conf t old.rows) → KeepsOpen after.windows old new
expired_open old new before after t sound d = drops_open old new before after t (spent old.conf t old.rows) sound (from (nat_lt 0 old.conf.ttl)) d
  where
    gone : List Row
    gone = leaving old.conf (filter (is_expired old.conf t) old.rows)

    from : (b : Bool) (row : Row) → Contains (if b then gone else []) row → Contains old.rows row
    from true row c = (Contains-filter (is_expired old.conf t) old.rows row (leaving_from old.conf (filter (is_expired old.conf t) old.rows) row c)).0
    from false row c = absurd (omega (arith, c.1))

-- the rows that each step drops
abbrev pub expired_rows_of : ℕ → Entries → List Row
expired_rows_of t s = spent s.conf t s.rows

abbrev pub all_rows_of : Entries → List Row
all_rows_of s = leaving s.conf s.rows

both : (held : List ℕ) (rows : List Row) → filter (is_held held) (filter (is_held held) rows) ≡ filter (is_held held) rows
both held rows = filter_all (is_held held) (filter (is_held held) rows) (λ row c. (Contains-filter (is_held held) rows row c).1)

-- sweeping first changes nothing of the room that is made
swept_twice : (held : List ℕ) (c : Cache) → swept held (swept held c) ≡ swept held c
swept_twice held c = ap (λ l. let x : Cache = record c { removed = l } in x) (both held c.removed)

pub room_swept_first : (held : List ℕ) (n t : ℕ) (c : Cache) → with_room held n t (swept held c) ≡ with_room held n t c
room_swept_first held n t c =
    ap (λ first. if has_gap n first then first else if has_gap n (expired_dropped held t first) then expired_dropped held t first else expunged held t (expired_dropped held t first)) (swept_twice held c)

-- room in an event in which the removed rows were swept
pub room_on : {s0 s1 s2 : Entries} {a0 a1 a2 : Aside} {n t : ℕ} {place : Option ℕ} {full : Bool} → Sweeps s0 s1 a0 a1 → KeepsOpen a1.windows s0 s1 → MakesRoom s1 s2 a1 a2 n t place full → MakesRoom s0 s2 a0 a2 n t place full
room_on {s0} {s1} {s2} {a0} {a1} {a2} {n} {t} {place} {full} sweeps keeps m = record {
  room = λ c later e on. m.room (swept (held_blocks later) c) later (first c later e on) on ∙ ap (λ x. with_found place n (entries_of x)) (room_swept_first (held_blocks later) n t c);
  place_is = λ c later e on. m.place_is (swept (held_blocks later) c) later (first c later e on) on ∙ ap (λ x. gap_of x n) (room_swept_first (held_blocks later) n t c);
  full_is = λ c later e on. m.full_is (swept (held_blocks later) c) later (first c later e on) on ∙ ap (λ x. not (has_gap n x) && not (has_gap n (expired_dropped (held_blocks later) t x))) (swept_twice (held_blocks later) c);
  taken = m.taken;
  conf_is = m.conf_is ∙ ap (λ (x : Entries). x.conf) sweeps.swept;
  goes = goes_on a0 a1 a2 sweeps.goes m.goes;
  keeps = open_on s0 s1 s2 a1 a2 m.goes keeps m.keeps;
  refused = m.refused;
  held = m.held;
}
  where
    first : (c : Cache) (later : Aside) → s0 ≡ entries_of c → Goes a2 later → s1 ≡ entries_of (swept (held_blocks later) c)
    first c later e on = swept_later c sweeps e later (goes_on a1 a2 later m.goes on)
