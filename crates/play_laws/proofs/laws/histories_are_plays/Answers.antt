use Rattle.play_laws.proofs.PlayedHistories.{played_is_told, replies_told, is_legal, is_complete}
use Rattle.play_laws.proofs.laws.histories_are_plays.Goals as goal

pub returns : goal.returns
returns c = record {
  play = played_is_told;
  replies = replies_told;
  legal = is_legal;
  complete = is_complete;
}
