use Rattle.std.proofs.Common.{◌≡◌, ◌+◌, false, slice_index, ap, sym, ◌∙◌, subst, rules}
use Rattle.seg_words.specs.Windows.{Aside, is_named}
use Rattle.seg_words.specs.Blocks.{told_unnamed}
use Rattle.block_tests.proofs.words.probe_at.Goals as goal

pub probe-requires-clause-block : goal.probe-requires-clause-block
probe-requires-clause-block g c =
    let old = c.args.words.now in
    let load = c.load-count.ensures in
    record {
      inside = search rules;
      count = λ none.
          ap (λ ws. slice_index ws (c.args.at + 11)) load.words
          ∙ sym (load.word (told_unnamed old.windows c.args.at (subst (λ (a : Aside). is_named a.windows c.args.at ≡ false) load.aside none)))
          ∙ search rules;
    }
