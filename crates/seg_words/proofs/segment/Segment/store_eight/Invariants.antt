use Rattle.std.proofs.Common.{◌≡◌, ℕ, ◌+◌, ◌<◌, ◌++◌, take, drop}
use Rattle.seg_words.specs.Blocks.{MayStore}
use Rattle.seg_words.proofs.segment.Segment.store_eight.Given as goal

abbrev pub invariant-words : goal.invariant-words
invariant-words g l = record {
  words : g.Self.WordsIn.words l.self ≡ take l.i (g.Self.WordsIn.words l.initial.self) ++ (take l.k l.eight ++ drop (l.i + l.k) (g.Self.WordsIn.words l.initial.self));
  apart : (k : ℕ) → k < 8 → MayStore (g.Self.WordsIn.words l.self) (g.Self.WordsIn.aside l.initial.self).windows (l.i + k);
  aside : g.Self.WordsIn.aside l.self ≡ g.Self.WordsIn.aside l.initial.self;
  rest : g.Self.WordsIn.rest l.self ≡ g.Self.WordsIn.rest l.initial.self;
}
