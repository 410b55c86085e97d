use Rattle.apcu_model.proofs.Histories.{after-more, legal-more, shallow-more, marks-more}
use Rattle.apcu_model.proofs.laws.one_event_more.Goals as goal

pub returns : goal.returns
returns c = record { after = after-more; legal = legal-more; shallow = shallow-more; marks = marks-more }
