use Rattle.std.proofs.Common.{refl, sym, ◌∙◌}
use Rattle.std.proofs.lemmas.Bool.{false≢true}
use Rattle.seg_words.specs.Windows.{held_blocks}
use Rattle.cache_core.specs.CoreCache.{cache_of}
use Rattle.cache_core.proofs.Events.{insert_kept, still, steps}
use Rattle.cache_core.proofs.InsertionAnswers.{IsInserted, answers, does_store, refused}
use Rattle.cache_core.proofs.cache.Core.store_next.Goals as goal

pub slot_of_key-slot-requires : goal.slot_of_key-slot-requires
slot_of_key-slot-requires g c = record { stand = record { words = g.S.WordsIn.words c.args.seg.now; aside = g.S.WordsIn.aside c.args.seg.now; stand = c.requires.ready.stand } }

pub add-requires-clause-ready : goal.add-requires-clause-ready
add-requires-clause-ready g c = insert_kept c.args.self.now c.seek_new.ensures.kept c.requires.ready

pub returns-in-Err : goal.returns-in-Err
returns-in-Err g c =
    let core = c.args.self.now in
    let a = c.in-Err.answer in
    let aside = g.S.WordsIn.aside c.seek_new.new.seg in
    let is = refused c.args.key.now c.args.g.now c.args.ttl c.args.exclusive c.args.t aside (cache_of core) a c.in-Err.ensures.refused in
    record {
      answer = answers c.args.key.now c.args.g.now c.args.ttl c.args.exclusive c.args.t aside (cache_of core) a (cache_of core) is;
      does = does_store c.args.key.now c.args.g.now c.args.ttl c.args.exclusive c.args.t is (still core c.seek_new.ensures.kept c.requires.ready.stand);
      early = λ early. record { core = refl; kept = c.seek_new.ensures.kept };
      next = insert_kept core c.seek_new.ensures.kept c.requires.ready;
    }

pub returns-in-Ok : goal.returns-in-Ok
returns-in-Ok g c =
    let core = c.args.self.now in
    let old = cache_of core in
    let aside = g.S.WordsIn.aside c.add.new.seg in
    let is : IsInserted aside c.args.key.now c.args.g.now c.args.ttl c.args.exclusive c.args.t old c.add.result (cache_of c.add.new.self) = λ later on.
    c.add.ensures.added later on ∙ sym (c.in-Ok.ensures.added (held_blocks later) c.args.ttl) in
    record {
      answer = answers c.args.key.now c.args.g.now c.args.ttl c.args.exclusive c.args.t aside old c.add.result (cache_of c.add.new.self) is;
      does = does_store c.args.key.now c.args.g.now c.args.ttl c.args.exclusive c.args.t is (steps (still core c.seek_new.ensures.kept c.requires.ready.stand) c.add.ensures.step);
      early = λ early. absurd (false≢true (sym early ∙ c.add.ensures.room));
      next = c.add.ensures.next;
    }
