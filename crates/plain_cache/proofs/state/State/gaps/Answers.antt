use Rattle.std.proofs.Common.{◌≡◌, ◌∙◌, ap, sym, append-nil, map}
use Rattle.std.specs.Prelude.{sum_by}
use Rattle.seg_words.specs.declared.gaps.Extent.{Extent}
use Rattle.seg_words.specs.Gaps.{free_runs}
use Rattle.apcu_model.specs.Conf.{piece_of}
use Rattle.apcu_model.specs.Cache.{extent_of}
use Rattle.apcu_model.specs.Infos.{gaps_of}
use Rattle.plain_cache.specs.States.{cache_in}
use Rattle.plain_cache.proofs.state.State.gaps.Goals as goal

gaps_are : (c : goal.After-drop-extents-2) → c.in_ok-gaps.gaps.items ≡ gaps_of (cache_in c.args.self.now)
gaps_are c =
    let s = c.args.self.now in
    let rows = ap (map extent_of) (c.deref.ensures.value ∙ sym (append-nil s.rows.items)) in
    c.in_ok-gaps.ensures.gaps ∙ ap (free_runs s.conf.slots s.conf.words (piece_of s.conf)) (c.deref-2.ensures.value ∙ c.list_extents.ensures.items ∙ rows)

pub returns-clause-gaps : goal.returns-clause-gaps
returns-clause-gaps c = gaps_are c

pub returns-clause-words : goal.returns-clause-words
returns-clause-words c = c.in_ok-gaps.ensures.words ∙ ap (sum_by (λ (gap : Extent). gap.size)) (gaps_are c)
