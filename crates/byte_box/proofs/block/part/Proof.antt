-- `part` takes the block out of a `Vec`, and leaves its bits, which own nothing. Assumes `Logic`.
use Rattle.std.proofs.Common.{◌≤◌, List, [], ◌∷◌, ◌++◌, refl, subst}
use seplogic.Ra.Ura.{Ura}
use mir.Syntax.{Fn}
use mir.Val.{Val}
use mir.MapTy.{inst_fn}
use base.Logic.{SProp, ent, via, fst∗}
use base.Fml.{ftrue}
use prog.Memory.{Memory}
use prog.Routine.{Routine}
use prog.Wp.{Calls, Loops, WpFn, Tables}
use contract.Monad.{Fun}
use contract.Running.{tables, tables_of}
use sound.WpLaws.{WpFn-mono}
use types.Logic.{Logic}
use types.Kit.{‵, raw, prop, ◌$◌, ◌∵◌, !, qed, move, drop, use0, fsplit, fjoin, fpack, regoal, suffices, done}
use types.Part.{agg}
use types.Run.{enter, returns, of_opd, and_then, no_more}
use types.ByLocal.{alloc_all, pass_all, free_all, look_at, get, sets}
use denote.Exit.{no}
use denote.Laws.{Typed}
use denote.RattleType.{owns}
use denote.Param.{layout}
use denote.Signature.{plain, types_at}
use denote.Steps.{nothing}
use denote.Struct.Struct.{as_fields}
use denote.Triple.Clauses.{Clauses, Ended, closing}
use denote.Triple.Entry.{alive, on_entry}
use denote.Triple.Spec.{Meets, triple_of}
use denote.Triple.Table.{entered}
use denote.Triple.Walked.{Stays, stay_dropped, walk_of, ends_at, walk_Meets}
use Rattle.std.proofs.alloc.Calls.{Goes-blank}
use Rattle.std.proofs.VecSteps.El.{El, args, Vr, el_d, el_heap, vec_val, vec_typed}
use Rattle.std.proofs.VecSteps.Facts.{Says-All, and_fact, last_fact}
use Rattle.std.proofs.VecSteps.Opens.{vec_had}
use Rattle.byte_box.specs.contracts.block.Husk as H-type
use Rattle.byte_box.proofs.BlockOwnership.{Dr, Mark, mark, one, two, mark_made, two_made, held_in}
use Rattle.byte_box.specs.contracts.block.part as F
use Rattle.byte_box.specs.contracts.block.part.Key.{name as #self}
use Rattle.byte_box.proofs.block.part.Statement as stated
use Rattle.byte_box.proofs.block.part.Code as code

module _ (E : El) where
  abbrev function : Fn
  function = inst_fn (args E) code.function

  abbrev ended : Ended
  ended = F.ended E.row E.al.row E.al.g E.al.d E.al.drops

  abbrev stayed : Stays ended.signature.params ended.kept
  stayed = (stay_dropped (plain (λ _. Vr E)) no, tt)

  module _ {M : Type 1} {𝓤 : Ura M} (𝓛 : Logic 𝓤) (at_mem : Memory → SProp 𝓤) (run : Routine → Fun 𝓤) where
    open 𝓛 use {H}

    abbrev held : Clauses 𝓤 ended
    held = F.clauses E.row E.al.row E.al.g E.al.d E.al.drops 𝓛 at_mem run

    module _ (C : Calls 𝓤 H) (Λ : Loops 𝓤 H) (z : (walk_of 𝓛 ended stayed held).Ghost) where
      abbrev Post : Val → SProp 𝓤
      Post = (walk_of 𝓛 ended stayed held).post z

      abbrev toks : SProp 𝓤
      toks = alive 𝓛 ended.signature z.0.0 z.0.1

      walks : ent 𝓤 (on_entry 𝓛 ended.signature z.0.0 z.0.1 z.0.3 z.0.4) (WpFn 𝓤 H C Λ function ((walk_of 𝓛 ended stayed held).args z) Post)
      walks =
          let a = z.0.3 in
          let vss = z.0.4 in
          let v : el_d E = a.0 in
          let S = H-type.the_row (Vr E) in
          let r : (Dr E).Denot = record { mark = record {}; at = v.ptr; cap = v.cap; items = v.items; alloc = v.alloc; fit = subst (λ k. k ≤ v.cap) v.ok.0 v.ok.1 } in
          qed 𝓛 (raw toks ∷ ‵ (owns (types_at ended.signature.params z.0.0) a vss) ∷ []) ∵
          move ! (1 ∷ []) $ fsplit ! $ vec_had E ! v vss.0 (λ b o hv at is fl fc fit fa.
          let u = vec_val E hv b o v.len v.cap in
          let good = vec_typed E hv b o v.len v.cap fa fl fc in
          let inner = as_fields (layout (Vr E) ∷ []) (u ∷ []) (good, tt) in
          held_in ! E (el_heap E v) v.ptr v.cap v.items b o v.len at v.ok.0 fit $
          use0 𝓛 (‵ ((Mark E).own_val (tt, tt) (mark ∷ []))) (mark_made E 𝓛) $ fjoin ! $
          move ! (1 ∷ []) $ drop ! $ move ! (1 ∷ []) $ drop ! $
          nothing ! $ nothing ! $ fpack ! (Typed S.mir (one u ∷ [])) (λ _. ftrue) (inner, tt) $ fjoin ! $ move ! (1 ∷ 0 ∷ []) $
          two_made ! (Dr E) S r tt mark (one u) $
          regoal ! (λ (us : List Val). prop (WpFn 𝓤 H C Λ function (us ++ []) Post)) is refl $
          enter ! C Λ function (u ∷ []) Post $ alloc_all ! (λ l. pass_all ! refl (good, tt) $
          sets ! (agg ! (no_more !)) refl (tt, tt) $
          sets ! (agg ! (and_then ! (get ! refl) (no_more !))) refl (tt, (tt, tt)) $
          sets ! (of_opd ! (get ! refl)) refl good $
          sets ! (agg ! (and_then ! (get ! refl) (no_more !))) refl inner $
          sets ! (agg ! (and_then ! (get ! refl) (and_then ! (get ! refl) (no_more !)))) refl (as_fields (layout (Dr E) ∷ layout S ∷ []) (mark ∷ one u ∷ []) ((tt, (tt, tt)), (inner, tt))) $
          returns ! (look_at ! 0 refl) $ free_all ! refl $
          suffices ! _ (ends_at 𝓛 ended stayed held z (two mark (one u)) (r, tt) ((tt, (tt, (tt, (tt, tt)))), tt) (tt, tt)) $ Says-All ! (and_fact 𝓤 refl (and_fact 𝓤 refl (and_fact 𝓤 refl (last_fact 𝓤 refl)))) $
          nothing ! $ nothing ! $ fjoin ! $ move ! (2 ∷ 0 ∷ 1 ∷ []) $ done !))

    meets : (𝓣 : Tables 𝓤 H) → Meets 𝓛 ended.signature (WpFn 𝓤 H 𝓣.C 𝓣.Λ function) (closing 𝓛 ended held)
    meets 𝓣 =
        walk_Meets 𝓛 ended stayed (Goes-blank 𝓛 2 (plain (λ _. Vr E)) no (λ κs x f. tt), tt) held
        (WpFn 𝓤 H 𝓣.C 𝓣.Λ function) (WpFn-mono 𝓤 H 𝓛.laws 𝓣 function) (λ z. via 𝓤 _ (fst∗ 𝓤 _ ((held z.0.0 z.0.3).requires z.1)) (walks 𝓣.C 𝓣.Λ z))

pub part_spec : {M : Type 1} → stated.statement M
unfolding tables_of
part_spec 𝓤 𝓛 𝓜 𝓡 wired X Z L LZ g d dd met md =
    let E : El = record { row = X; laws = L; al = record { row = Z; laws = LZ; g = g; d = d; drops = dd } } in
    let 𝓣 : Tables 𝓤 𝓛.H = tables_of 𝓤 𝓛.H 𝓜 (tables 𝓤 𝓛.H 𝓜 𝓡 𝓡.env) in
    entered 𝓤 𝓛.H (triple_of 𝓛 (ended E).signature (F.spec X Z g d dd 𝓛 𝓜.mem 𝓡.returns)) 𝓣.C 𝓣.Λ (#self (args E)) (function E) (code.unfolded 𝓤 𝓛.H 𝓜 𝓡 wired (X, (Z, tt)) d dd)
    (meets E 𝓛 𝓜.mem 𝓡.returns 𝓣)
