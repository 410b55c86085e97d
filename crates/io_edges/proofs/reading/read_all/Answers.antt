use Rattle.std.proofs.Common.{arith, sym, ◌∙◌, ◌≡◌, ◌+◌, ◌++◌, take, length, refl, []}
use Rattle.std.proofs.lemmas.Grind.{common_steps}
use Rattle.std.proofs.lemmas.Result.{err_from_is_err_and}
use Rattle.io_edges.proofs.Bytes.{nothing_before, given_more, read_before, all_read, taken_more}
use Rattle.io_edges.proofs.reading.read_all.Goals as goal

pub returns-in-Took-clause-one_more : goal.returns-in-Took-clause-one_more
returns-in-Took-clause-one_more g c =
    let sum : length c.turns.bytes.items + c.in-Took.count ≡ c.args.limit + 1 = grind (arith, common_steps, c.in-Took.ensures.took) in
    λ _. taken_more _ c.read.new.into _ _ _ _ _ c.in-Took.ensures.took.1 sum c.turns.invariant.given c.in-Took.ensures.bytes

pub returns-in-Took-clause-part : goal.returns-in-Took-clause-part
returns-in-Took-clause-part g c = λ other. absurd (other refl)

pub turns-preserved : goal.turns-preserved
turns-preserved g c =
    let items : c.extend_from_slice.new.self.items ≡ c.turns.bytes.items ++ take c.in-Took-2.count c.read.new.into = grind (arith, common_steps, c.in-Took-2.ensures.took) in
    record {
      within = grind (arith, common_steps);
      room = grind (arith, common_steps);
      given = rw items (given_more c.turns.bytes.items _ _ _ _ c.turns.invariant.given c.in-Took-2.ensures.bytes);
      faults = c.in-Took-2.ensures.faults ∙ c.turns.invariant.faults;
    }

pub returns-in_err-map_err-in-Took-2-clause-part : goal.returns-in_err-map_err-in-Took-2-clause-part
returns-in_err-map_err-in-Took-2-clause-part g c =
    let p = err_from_is_err_and c.from_residual-in_err-map_err-in-Took-2.result c.from_residual-in_err-map_err-in-Took-2.ensures.1 in
    rw p.1 (λ _. (
      length c.turns.bytes.items + c.in-Took-2.count,
      grind (arith, common_steps),
      taken_more _ c.read.new.into _ _ _ _ _ c.in-Took-2.ensures.took.1 refl c.turns.invariant.given c.in-Took-2.ensures.bytes,
    ))

pub returns-in_err-buffer-clause-all : goal.returns-in_err-buffer-clause-all
returns-in_err-buffer-clause-all g c = rw (err_from_is_err_and c.from_residual.result c.from_residual.ensures.1).1 tt

pub returns-in_err-buffer-clause-given : goal.returns-in_err-buffer-clause-given
returns-in_err-buffer-clause-given g c = rw (err_from_is_err_and c.from_residual.result c.from_residual.ensures.1).1 tt

pub returns-in_err-buffer-clause-end : goal.returns-in_err-buffer-clause-end
returns-in_err-buffer-clause-end g c = rw (err_from_is_err_and c.from_residual.result c.from_residual.ensures.1).1 tt

pub returns-in_err-buffer-clause-within : goal.returns-in_err-buffer-clause-within
returns-in_err-buffer-clause-within g c = rw (err_from_is_err_and c.from_residual.result c.from_residual.ensures.1).1 tt

pub returns-in_err-buffer-clause-too_long : goal.returns-in_err-buffer-clause-too_long
returns-in_err-buffer-clause-too_long g c = grind (arith, common_steps)

pub returns-in_err-buffer-clause-one_more : goal.returns-in_err-buffer-clause-one_more
returns-in_err-buffer-clause-one_more g c = grind (arith, common_steps)

pub returns-in_err-buffer-clause-fault : goal.returns-in_err-buffer-clause-fault
returns-in_err-buffer-clause-fault g c = grind (arith, common_steps)

pub returns-in_err-buffer-clause-calm : goal.returns-in_err-buffer-clause-calm
returns-in_err-buffer-clause-calm g c = λ _. refl

pub returns-in_err-buffer-clause-never_falls : goal.returns-in_err-buffer-clause-never_falls
returns-in_err-buffer-clause-never_falls g c = omega arith

pub returns-in_err-buffer-clause-part : goal.returns-in_err-buffer-clause-part
returns-in_err-buffer-clause-part g c = rw (err_from_is_err_and c.from_residual.result c.from_residual.ensures.1).1 (λ _. (0, omega arith, ([], refl, sym (nothing_before _))))

pub turns-init : goal.turns-init
turns-init g c = grind (arith, common_steps)

pub overflow_sub-spare : goal.overflow_sub-spare
overflow_sub-spare g c = omega arith

pub overflow_sub-min : goal.overflow_sub-min
overflow_sub-min g c = omega arith

pub overflow_add-room : goal.overflow_add-room
overflow_add-room g c = omega arith

pub slice_bounds-piece-end : goal.slice_bounds-piece-end
slice_bounds-piece-end g c = grind (arith, common_steps)

pub returns-in-Took-clause-all : goal.returns-in-Took-clause-all
returns-in-Took-clause-all g c = tt

pub returns-in-Took-clause-given : goal.returns-in-Took-clause-given
returns-in-Took-clause-given g c = tt

pub returns-in-Took-clause-end : goal.returns-in-Took-clause-end
returns-in-Took-clause-end g c = tt

pub returns-in-Took-clause-within : goal.returns-in-Took-clause-within
returns-in-Took-clause-within g c = tt

pub returns-in-Took-clause-too_long : goal.returns-in-Took-clause-too_long
returns-in-Took-clause-too_long g c = grind (arith, common_steps)

pub returns-in-Took-clause-fault : goal.returns-in-Took-clause-fault
returns-in-Took-clause-fault g c = λ h. absurd (cc (h))

pub returns-in-Took-clause-calm : goal.returns-in-Took-clause-calm
returns-in-Took-clause-calm g c = λ _. c.in-Took.ensures.faults ∙ c.turns.invariant.faults

pub returns-in-Took-clause-never_falls : goal.returns-in-Took-clause-never_falls
returns-in-Took-clause-never_falls g c = omega (arith, c.in-Took.ensures.faults, c.turns.invariant.faults)

pub slice_bounds-extend_from_slice-end : goal.slice_bounds-extend_from_slice-end
slice_bounds-extend_from_slice-end g c = grind (arith, common_steps)

pub turns-smaller : goal.turns-smaller
turns-smaller g c = grind (arith, common_steps)

pub returns-in_err-map_err-in-Took-2-clause-all : goal.returns-in_err-map_err-in-Took-2-clause-all
returns-in_err-map_err-in-Took-2-clause-all g c = rw (err_from_is_err_and c.from_residual-in_err-map_err-in-Took-2.result c.from_residual-in_err-map_err-in-Took-2.ensures.1).1 tt

pub returns-in_err-map_err-in-Took-2-clause-given : goal.returns-in_err-map_err-in-Took-2-clause-given
returns-in_err-map_err-in-Took-2-clause-given g c = rw (err_from_is_err_and c.from_residual-in_err-map_err-in-Took-2.result c.from_residual-in_err-map_err-in-Took-2.ensures.1).1 tt

pub returns-in_err-map_err-in-Took-2-clause-end : goal.returns-in_err-map_err-in-Took-2-clause-end
returns-in_err-map_err-in-Took-2-clause-end g c = rw (err_from_is_err_and c.from_residual-in_err-map_err-in-Took-2.result c.from_residual-in_err-map_err-in-Took-2.ensures.1).1 tt

pub returns-in_err-map_err-in-Took-2-clause-within : goal.returns-in_err-map_err-in-Took-2-clause-within
returns-in_err-map_err-in-Took-2-clause-within g c = rw (err_from_is_err_and c.from_residual-in_err-map_err-in-Took-2.result c.from_residual-in_err-map_err-in-Took-2.ensures.1).1 tt

pub returns-in_err-map_err-in-Took-2-clause-too_long : goal.returns-in_err-map_err-in-Took-2-clause-too_long
returns-in_err-map_err-in-Took-2-clause-too_long g c = grind (arith, common_steps)

pub returns-in_err-map_err-in-Took-2-clause-one_more : goal.returns-in_err-map_err-in-Took-2-clause-one_more
returns-in_err-map_err-in-Took-2-clause-one_more g c = grind (arith, common_steps)

pub returns-in_err-map_err-in-Took-2-clause-fault : goal.returns-in_err-map_err-in-Took-2-clause-fault
returns-in_err-map_err-in-Took-2-clause-fault g c = grind (arith, common_steps)

pub returns-in_err-map_err-in-Took-2-clause-calm : goal.returns-in_err-map_err-in-Took-2-clause-calm
returns-in_err-map_err-in-Took-2-clause-calm g c = λ _. c.in-Took-2.ensures.faults ∙ c.turns.invariant.faults

pub returns-in_err-map_err-in-Took-2-clause-never_falls : goal.returns-in_err-map_err-in-Took-2-clause-never_falls
returns-in_err-map_err-in-Took-2-clause-never_falls g c = omega (arith, c.in-Took-2.ensures.faults, c.turns.invariant.faults)

pub returns-in-End-clause-all : goal.returns-in-End-clause-all
returns-in-End-clause-all g c = all_read _ _ _ _ c.turns.invariant.given c.in-End.ensures.bytes c.in-End.ensures.end

pub returns-in-End-clause-given : goal.returns-in-End-clause-given
returns-in-End-clause-given g c = read_before _ _ _ _ c.turns.invariant.given c.in-End.ensures.bytes

pub returns-in-End-clause-end : goal.returns-in-End-clause-end
returns-in-End-clause-end g c = c.in-End.ensures.end

pub returns-in-End-clause-within : goal.returns-in-End-clause-within
returns-in-End-clause-within g c = c.turns.invariant.within

pub returns-in-End-clause-too_long : goal.returns-in-End-clause-too_long
returns-in-End-clause-too_long g c = λ h. absurd (cc (h))

pub returns-in-End-clause-one_more : goal.returns-in-End-clause-one_more
returns-in-End-clause-one_more g c = λ h. absurd (cc (h))

pub returns-in-End-clause-fault : goal.returns-in-End-clause-fault
returns-in-End-clause-fault g c = λ h. absurd (cc (h))

pub returns-in-End-clause-calm : goal.returns-in-End-clause-calm
returns-in-End-clause-calm g c = λ _. c.in-End.ensures.faults ∙ c.turns.invariant.faults

pub returns-in-End-clause-never_falls : goal.returns-in-End-clause-never_falls
returns-in-End-clause-never_falls g c = omega (arith, c.in-End.ensures.faults, c.turns.invariant.faults)

pub returns-in-End-clause-part : goal.returns-in-End-clause-part
returns-in-End-clause-part g c = tt

pub returns-in-Failed-clause-all : goal.returns-in-Failed-clause-all
returns-in-Failed-clause-all g c = tt

pub returns-in-Failed-clause-given : goal.returns-in-Failed-clause-given
returns-in-Failed-clause-given g c = tt

pub returns-in-Failed-clause-end : goal.returns-in-Failed-clause-end
returns-in-Failed-clause-end g c = tt

pub returns-in-Failed-clause-within : goal.returns-in-Failed-clause-within
returns-in-Failed-clause-within g c = tt

pub returns-in-Failed-clause-too_long : goal.returns-in-Failed-clause-too_long
returns-in-Failed-clause-too_long g c = λ h. absurd (cc (h))

pub returns-in-Failed-clause-one_more : goal.returns-in-Failed-clause-one_more
returns-in-Failed-clause-one_more g c = λ h. absurd (cc (h))

pub returns-in-Failed-clause-fault : goal.returns-in-Failed-clause-fault
returns-in-Failed-clause-fault g c = λ _. rw (sym c.turns.invariant.faults) c.in-Failed.ensures.faults.1

pub returns-in-Failed-clause-calm : goal.returns-in-Failed-clause-calm
returns-in-Failed-clause-calm g c = λ other. absurd (other refl)

pub returns-in-Failed-clause-never_falls : goal.returns-in-Failed-clause-never_falls
returns-in-Failed-clause-never_falls g c = rw (sym c.turns.invariant.faults) c.in-Failed.ensures.faults.0

pub returns-in-Failed-clause-part : goal.returns-in-Failed-clause-part
returns-in-Failed-clause-part g c =
    λ _. (length c.turns.bytes.items, omega (arith, c.turns.invariant.within), (c.turns.bytes.items, refl, read_before _ _ _ _ c.turns.invariant.given c.in-Failed.ensures.bytes))
