use Rattle.play_laws.proofs.WalkAnswers as lemmas
use Rattle.play_laws.proofs.walks.walks_in_histories.Goals as goal

pub returns : goal.returns
returns c = record {
  shape = c.events_keep.ensures.conf_in;
  apart = c.events_keep.ensures.apart_in;
  given = lemmas.given;
  once = lemmas.once c.events_keep.ensures;
  all = lemmas.all c.events_keep.ensures;
}
