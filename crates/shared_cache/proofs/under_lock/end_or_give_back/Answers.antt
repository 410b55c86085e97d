use Rattle.std.proofs.Common.{◌<◌, ◌^◌, length, refl, ap, sym, ◌∙◌, subst}
use Rattle.std.proofs.lemmas.Result.{IfOk-at_ok, IfErr-at_err}
use Rattle.pin_table.specs.declared.views.WriterState.{WriterState}
use Rattle.shared_cache.proofs.UnderLockLemmas.{later_work}
use Rattle.shared_cache.proofs.EventlessCalls.{settles, same_pass}
use Rattle.shared_cache.proofs.under_lock.end_or_give_back.Goals as goal
use Rattle.shared_cache.proofs.under_lock.end_or_give_back.Goals.{in-Ok, in-Err}

pub end-requires-clause-work : goal.end-requires-clause-work
end-requires-clause-work g c = later_work c.requires.work (record { worker = refl; left = refl; table = refl; log = refl; begun = refl })

pub invariant_of-w-2 : goal.invariant_of-w-2
invariant_of-w-2 g c =
    elim c.match-answer.branch [
      | in-Ok w ↦ rw w.seat-is (record {
        same_table = w.end.ensures.table ∙ c.args.w.same_table;
        whole = ap length w.end.ensures.words ∙ c.args.w.whole;
        short = subst (λ l. length l < 2 ^ 32) (sym w.end.ensures.words) c.args.w.short;
      })
      | in-Err w ↦
          let words = ap (λ (x : WriterState). x.words) w.give_back.ensures.state in
          rw w.seat-is (record {
            same_table = w.give_back.ensures.table ∙ c.args.w.same_table;
            whole = ap length words ∙ c.args.w.whole;
            short = subst (λ l. length l < 2 ^ 32) (sym words) c.args.w.short;
          })
    ]

pub returns-clause-settled : goal.returns-clause-settled
returns-clause-settled g c = λ work core reply does.
    elim c.match-answer.branch [
      | in-Ok w ↦ rw (w.seat-is, w.journal-is) (w.end.ensures.settled (later_work work (record { worker = refl; left = refl; table = refl; log = refl; begun = refl })) core c.args.w (reply w.in-Ok.answer) refl
          (IfOk-at_ok _ w.in-Ok.is does.done))
      | in-Err w ↦
          let same = IfErr-at_err _ w.in-Err.is does.same in
          rw (w.seat-is, w.journal-is) (settles _ _ _ _ _ work _ core same.core same.kept.words same.kept.aside w.give_back.ensures.table w.give_back.ensures.state)
    ]

pub returns-clause-event : goal.returns-clause-event
returns-clause-event g c = λ work core reply does.
    elim c.match-answer.branch [
      | in-Ok w ↦ rw w.result-is ((w.end.ensures.follows (later_work work (record { worker = refl; left = refl; table = refl; log = refl; begun = refl })) core c.args.w (reply w.in-Ok.answer) refl
          (IfOk-at_ok _ w.in-Ok.is does.done)).follows)
      | in-Err w ↦ rw w.result-is tt
    ]

pub returns-clause-place : goal.returns-clause-place
returns-clause-place g c = λ work core reply does.
    elim c.match-answer.branch [
      | in-Ok w ↦ rw (w.result-is, w.in-Ok.is) (w.end.ensures.follows (later_work work (record { worker = refl; left = refl; table = refl; log = refl; begun = refl })) core c.args.w (reply w.in-Ok.answer) refl
          (IfOk-at_ok _ w.in-Ok.is does.done))
      | in-Err w ↦ rw w.in-Err.is tt
    ]

pub returns-clause-same : goal.returns-clause-same
returns-clause-same g c = λ work.
    elim c.match-answer.branch [
      | in-Ok w ↦ rw w.result-is tt
      | in-Err w ↦ rw w.result-is (same_pass _ _ _ _ _ work _ w.give_back.ensures.pass w.give_back.ensures.known)
    ]
