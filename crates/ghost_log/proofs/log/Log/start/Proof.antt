-- `start` picks the state of the new log.
use Rattle.std.proofs.Common.{[], ◌∷◌, refl}
use mir.Syntax.{a_type, dcons, dnil, named}
use mir.Val.{Val, vptr, vstruct, vcons, vnil}
use mir.MapTy.{inst_fn}
use base.Fml.{Fml}
use types.Kit.{◌∵◌, ‵, raw, ◌⊛◌, ◌$◌, !, qed, keep, split, fjoin, use0, suffices, join, move, done}
use types.Run.{no_more, and_then, returns, enter}
use types.ByLocal.{alloc_all, pass_all, free_all, look_at, get, sets}
use types.Part.{agg}
use contract.Running.{tables}
use denote.Builtin.{RefOf}
use denote.Exit.{yes}
use denote.RattleType.{RattleType, owns}
use denote.Signature.{types_at, plain}
use denote.Steps.{nothing}
use denote.Param.{param, bounded}
use denote.Ref.{shr_vals, shr_Tells}
use denote.Shadow.{makes_shadow}
use denote.Triple.Entry.{alive}
use denote.Triple.Walked.{says, Stays, stay_dropped, walk_of, ends_at, Goes-dropped}
use Rattle.std.proofs.raw_atomic.Walks.{proved}
use Rattle.ghost_log.specs.contracts.log.Log as Log
use Rattle.ghost_log.specs.contracts.log.Log.start.{ended, clauses}
use Rattle.ghost_log.specs.contracts.log.Log.start.Key.{name as #self}
use Rattle.ghost_log.proofs.log.Log.start.Statement.{statement}
use Rattle.ghost_log.proofs.log.Log.start.Code as code

pub start_spec : {M : Type 1} → statement M
start_spec 𝓤 𝓛 𝓜 𝓡 wired T U _ _ g d _ =
    let 𝓣 = tables 𝓤 𝓛.H 𝓜 𝓡 𝓡.env in let S : RattleType = param 0 T in let B : RattleType = param 1 U in
    let En = ended T U g d in let c = clauses T U g d 𝓛 𝓜.mem 𝓡.returns in
    let inst = bounded (a_type ∷ a_type ∷ []) (T, (U, tt)) (dcons d dnil) in let fn = inst_fn inst code.function in
    let lent = RefOf (0 ∷ []) tt (plain (λ _. B)) (λ _. tt) in
    let hs : Stays En.signature.params En.kept = (stay_dropped lent yes, tt) in
    proved 𝓛 En hs c 𝓜 𝓡 (Goes-dropped 𝓛 3 lent yes (λ κs x f. refl), tt) (#self inst) fn (code.unfolded 𝓤 𝓛.H 𝓜 𝓡 wired (T, (U, tt)) d)
    (λ κs. (shr_vals, tt)) (λ κs. (shr_Tells (named 0) κs.0 B, tt)) (λ κs qs bounds a gh are.
    let v : Val = vstruct (vcons (vstruct vnil) vnil) in
    let r : (Log.the_row S).Denot = record { marker = record {}; state = g.begun a.0.now } in
    let O : Fml = (Log.the_row S).own_val r (v ∷ []) in
    let y : (walk_of 𝓛 En hs c).Ghost = ((κs, qs, bounds, a, (vptr a.0.ref_ptr.0 a.0.ref_ptr.1 ∷ [], tt)), gh) in
    qed 𝓛 ((raw (alive 𝓛 En.signature κs qs) ⊛ ‵ (owns (types_at En.signature.params κs) a y.0.4)) ∷ raw ((c κs a).requires gh) ∷ []) ∵
    keep ! (0 ∷ []) $ split ! $ keep ! (0 ∷ []) $
    enter ! 𝓣.C 𝓣.Λ fn (vptr a.0.ref_ptr.0 a.0.ref_ptr.1 ∷ []) _ $ alloc_all ! (λ l. pass_all ! refl ((tt, tt), tt) $
    sets ! (agg ! (no_more !)) refl (tt, tt) $ sets ! (agg ! (and_then ! (get ! refl) (no_more !))) refl (tt, (tt, tt)) $
    returns ! (look_at ! 0 refl) $ free_all ! refl $
    use0 𝓛 (‵ O) (makes_shadow 𝓛 O ((λ vss. (tt, ((λ uss. (tt, tt)), tt))), tt) (((vstruct vnil ∷ [], tt), (refl, ((tt, (refl, tt)), tt))), tt)) $
    suffices ! _ (ends_at 𝓛 En hs c y v r (tt, tt) (tt, tt)) $ says ! refl $
    nothing ! $ nothing ! $ fjoin ! $ join ! $ move ! (1 ∷ 0 ∷ []) $ join ! $ done !))
