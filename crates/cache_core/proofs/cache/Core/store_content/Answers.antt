use Rattle.std.proofs.Common.{refl, sym, ap, ◌∙◌, subst}
use Rattle.std.proofs.lemmas.Bool.{false≢true}
use Rattle.seg_words.specs.Probing.{goes_on}
use Rattle.seg_words.specs.Windows.{held_blocks}
use Rattle.apcu_model.specs.declared.conf.Conf.{Conf}
use Rattle.apcu_model.specs.SlotOrder.{slot_of}
use Rattle.cache_core.specs.CoreCache.{cache_of}
use Rattle.cache_core.specs.Events.{MayInsert}
use Rattle.cache_core.specs.Storing.{added}
use Rattle.cache_core.proofs.Events.{insert_kept, still, steps}
use Rattle.cache_core.proofs.Insertions.{added_swept}
use Rattle.cache_core.proofs.InsertionAnswers.{IsInserted, answers, does_store, refused}
use Rattle.cache_core.proofs.SpotsAfterRoom.{same_spot_if}
use Rattle.value_image.specs.Contained.{graph_of}
use Rattle.cache_core.proofs.cache.Core.store_content.Goals as goal

pub sweep-requires : goal.sweep-requires
sweep-requires g c = record { ready = insert_kept c.args.self.now c.seek_new.ensures.kept c.requires.ready }

pub add-requires-clause-slot : goal.add-requires-clause-slot
add-requires-clause-slot g c = c.requires.slot ∙ ap (λ (k : Conf). slot_of k c.args.key.now) (sym c.sweep.ensures.conf)

pub add-requires-clause-spot : goal.add-requires-clause-spot
add-requires-clause-spot g c = same_spot_if c.args.key.now c.args.t c.in-Ok.spot c.sweep.ensures.alike c.in-Ok.ensures.spot

pub returns-in-Err : goal.returns-in-Err
returns-in-Err g c =
    let core = c.args.self.now in
    let a = c.in-Err.answer in
    let aside = g.S.WordsIn.aside c.seek_new.new.seg in
    let is = refused c.args.key.now (graph_of c.args.content.now) c.args.ttl c.args.exclusive c.args.t aside (cache_of core) a c.in-Err.ensures.refused in
    record {
      answer = answers c.args.key.now (graph_of c.args.content.now) c.args.ttl c.args.exclusive c.args.t aside (cache_of core) a (cache_of core) is;
      does = does_store c.args.key.now (graph_of c.args.content.now) c.args.ttl c.args.exclusive c.args.t is (still core c.seek_new.ensures.kept c.requires.ready.stand);
      early = λ early. record { core = refl; kept = c.seek_new.ensures.kept };
      next = subst (λ b. MayInsert g.S.WordsIn b core c.seek_new.new.seg) (sym c.in-Err.ensures.early) (insert_kept core c.seek_new.ensures.kept c.requires.ready);
    }

pub returns-in-Ok : goal.returns-in-Ok
returns-in-Ok g c =
    let core = c.args.self.now in
    let old = cache_of core in
    let aside = g.S.WordsIn.aside c.add.new.seg in
    let is : IsInserted aside c.args.key.now (graph_of c.args.content.now) c.args.ttl c.args.exclusive c.args.t old c.add.result (cache_of c.add.new.self) = λ later on.
    let held = held_blocks later in
    let swept = c.sweep.ensures.swept later (goes_on (g.S.WordsIn.aside c.sweep.new.seg) aside later c.add.ensures.step.goes on) in
    c.add.ensures.added later on
    ∙ (ap (added held c.args.key.now (graph_of c.args.content.now) c.args.ttl c.args.t) swept
    ∙ (added_swept held c.args.key.now (graph_of c.args.content.now) c.args.ttl c.args.t old ∙ sym (c.in-Ok.ensures.added held c.args.ttl))) in
    record {
      answer = answers c.args.key.now (graph_of c.args.content.now) c.args.ttl c.args.exclusive c.args.t aside old c.add.result (cache_of c.add.new.self) is;
      does = does_store c.args.key.now (graph_of c.args.content.now) c.args.ttl c.args.exclusive c.args.t is (steps (still core c.seek_new.ensures.kept c.requires.ready.stand) (steps c.sweep.ensures.step c.add.ensures.step));
      early = λ early. absurd (false≢true (sym early ∙ c.add.ensures.room));
      next = subst (λ b. MayInsert g.S.WordsIn b c.add.new.self c.add.new.seg) (sym c.add.ensures.room) c.add.ensures.next;
    }
