use Rattle.std.proofs.Common.{◌≡◌, ◌^◌, ◌+◌, ◌-◌, ◌≤◌, ltb, true, length, sym, ◌∙◌, subst, drop, refl, arith, rules}
use Rattle.std.proofs.lemmas.Bool.{and_parts}
use Rattle.std.specs.List.{count_by}
use Rattle.std.specs.Prelude.{bit_or}
use Rattle.seg_words.specs.Windows.{has, is_named, holders}
use Rattle.seg_words.proofs.RefusedPlaces.{frees_none, room_left, marked, one_more}
use Rattle.cache_c.proofs.Seats.{all_met}
use Rattle.cache_c.proofs.seat_words.SeatWordsSegment.probe.Goals as goal

pub returns-then-not-self-clause-free : goal.returns-then-not-self-clause-free
returns-then-not-self-clause-free c = λ yes. frees_none _ c.args.at (c.args.self.now.none (search rules) c.args.at)

pub returns-then-not-is_named-clause-free : goal.returns-then-not-is_named-clause-free
returns-then-not-is_named-clause-free c = λ yes. frees_none _ c.args.at (sym c.is_named.ensures ∙ search rules)

pub overflow_sub-self : goal.overflow_sub-self
overflow_sub-self c =
    let s = c.args.self.now in
    let named : is_named s.seats c.args.at ≡ true = sym c.is_named.ensures ∙ c.if-not-is_named.false in
    room_left 64 s.left c.args.at (drop s.left s.marks) s.seats (search rules) s.room c.requires.unrefused named

pub invariant_of-self : goal.invariant_of-self
invariant_of-self c =
    let s = c.args.self.now in
    let named : is_named s.seats c.args.at ≡ true = sym c.is_named.ensures ∙ c.if-not-is_named.false in
    let some = room_left 64 s.left c.args.at (drop s.left s.marks) s.seats (search rules) s.room c.requires.unrefused named in
    let marks = marked 64 s.left c.args.at s.marks (search rules) s.within some in
    record {
      none = s.none;
      within = omega (arith, s.within);
      room =
          subst (λ l. 64 ≤ (s.left - 1) + count_by (λ w. has w l) s.seats) (sym marks)
          (omega (arith, s.room, some, one_more c.args.at (drop s.left s.marks) s.seats c.requires.unrefused (and_parts (ltb 0 c.args.at) (has c.args.at s.seats) named).1));
    }

pub returns-clause-held : goal.returns-clause-held
returns-clause-held c =
    let s = c.args.self.now in
    let named : is_named s.seats c.args.at ≡ true = sym c.is_named.ensures ∙ c.if-not-is_named.false in
    let some = room_left 64 s.left c.args.at (drop s.left s.marks) s.seats (search rules) s.room c.requires.unrefused named in
    let all : length s.seats ≡ 64 = search rules in
    λ no. record {
      named = named;
      windows = refl;
      mask = sym (subst (λ n. bit_or (2 ^ n - 1) (holders s.seats c.args.at) ≡ 2 ^ n - 1) all (all_met s.seats c.args.at));
      refused = marked 64 s.left c.args.at s.marks (search rules) s.within some;
    }
