use Rattle.apcu_model.proofs.CacheInvariants.{kept_after, sound_stage}
use Rattle.apcu_model.proofs.laws.events_keep.Goals as goal

pub returns : goal.returns
returns c = record {
  conf = λ held t r cache. (kept_after held t r cache).shape;
  apart = λ held t r cache. (kept_after held t r cache).apart;
  conf_in = λ conf history. (sound_stage conf history).shape;
  apart_in = λ conf history. (sound_stage conf history).apart;
}
