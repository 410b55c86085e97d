use Rattle.std.proofs.Common.{◌≡◌, ◌+◌, ◌-◌, ◌≤◌, ltb, true, sym, ◌∙◌, subst, drop, arith, refl, rules}
use Rattle.std.proofs.lemmas.Grind.{common_steps}
use Rattle.std.proofs.lemmas.Bool.{and_parts, ltb-true}
use Rattle.std.specs.List.{count_by}
use Rattle.seg_words.specs.Windows.{has, is_named}
use Rattle.seg_words.proofs.RefusedPlaces.{frees_none, room_left, marked, one_more}
use Rattle.seg_words.proofs.held_words.HeldWordsSegment.probe.Goals as goal

pub returns-then-not-is_named-clause-free : goal.returns-then-not-is_named-clause-free
returns-then-not-is_named-clause-free c = λ yes. frees_none _ c.args.at (sym c.is_named.ensures ∙ search rules)

pub overflow_sub-self : goal.overflow_sub-self
overflow_sub-self c =
    let s = c.args.self.now in
    let named : is_named s.windows c.args.at ≡ true = sym c.is_named.ensures ∙ c.if-not-is_named.false in
    room_left 64 s.left c.args.at (drop s.left s.marks) s.windows (search rules) s.room c.requires.unrefused named

pub invariant_of-self : goal.invariant_of-self
invariant_of-self c =
    let s = c.args.self.now in
    let named : is_named s.windows c.args.at ≡ true = sym c.is_named.ensures ∙ c.if-not-is_named.false in
    let some = room_left 64 s.left c.args.at (drop s.left s.marks) s.windows (search rules) s.room c.requires.unrefused named in
    let marks = marked 64 s.left c.args.at s.marks (search rules) s.within some in
    record {
      short = s.short;
      met = s.met;
      within = omega (arith, s.within);
      room =
          subst (λ l. 64 ≤ (s.left - 1) + count_by (λ w. has w l) s.windows) (sym marks)
          (omega (arith, s.room, some, one_more c.args.at (drop s.left s.marks) s.windows c.requires.unrefused (and_parts (ltb 0 c.args.at) (has c.args.at s.windows) named).1));
    }

pub returns-clause-held : goal.returns-clause-held
returns-clause-held c =
    let s = c.args.self.now in
    let named : is_named s.windows c.args.at ≡ true = sym c.is_named.ensures ∙ c.if-not-is_named.false in
    let some = room_left 64 s.left c.args.at (drop s.left s.marks) s.windows (search rules) s.room c.requires.unrefused named in
    λ no. record {
      named = named;
      windows = refl;
      mask = sym (s.met c.args.at (ltb-true 0 c.args.at (and_parts (ltb 0 c.args.at) (has c.args.at s.windows) named).0));
      refused = marked 64 s.left c.args.at s.marks (search rules) s.within some;
    }

pub returns-then-not-is_named-clause-held : goal.returns-then-not-is_named-clause-held
returns-then-not-is_named-clause-held c = grind (arith, common_steps)

pub returns-then-not-is_named-clause-answer : goal.returns-then-not-is_named-clause-answer
returns-then-not-is_named-clause-answer c = grind (arith, common_steps)

pub returns-clause-free : goal.returns-clause-free
returns-clause-free c = grind (arith, common_steps)

pub returns-clause-answer : goal.returns-clause-answer
returns-clause-answer c = grind (arith, common_steps)
