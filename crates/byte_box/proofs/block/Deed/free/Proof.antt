-- `free` makes room of the whole block, and hands it back with the allocator's token. Assumes `Logic`.
use Rattle.std.proofs.Common.{◌≡◌, refl, sym, ap, subst, ◌∙◌, ℕ, ◌*◌, ◌≤◌, ◌<◌, ◌^◌, List, [], ◌∷◌, ◌++◌, length}
use lib.Dec.{T}
use seplogic.Ra.Ura.{Ura}
use mir.Syntax.{Fn, Ty, named, w64, ty_unit, ty_array}
use mir.MapTy.{inst_fn}
use mir.Raw.{raw as bare}
use mir.Val.{Val, vptr, vint, vunit, has_ty, WT}
use base.Logic.{SProp, ent, sep}
use base.Fml.{Lft, Share, Incl-trans, ftrue, froom, flft}
use prog.Capped.{capped_is, capped_fits}
use prog.Memory.{Memory, align, capped}
use prog.RawLaws.{size-raw, align-raw}
use prog.Routine.{Routine}
use prog.Wp.{Env, Calls, Loops, WpFn, Tables}
use types.Logic.{Logic}
use contract.BorrowLft.{◌⊑◌}
use contract.Monad.{Fun, fact}
use contract.Running.{tables, tables_of}
use sound.WpLaws.{FmC, fm_of, WpFn-mono}
use types.Kit.{Item, ⋆, ‵, raw, ◌⊛◌, given, later, await, learn, at_ret, ◌$◌, ◌∵◌, !, qed, by, move, keep, use1, use2, split, join, group, rewrite, fsplit, fjoin, feq_i, feq_l, flt_l, suffices, done}
use types.Part.{whole, sub}
use types.Run.{stop, fld, unit_lit, of_opd, bin, and_then, no_more, first, blocks, exec, returns, enter, size_lit, align_word}
use types.ByLocal.{alloc_all, pass_all, free_all, look_at, get, get_in, sets, is, lands_last, env}
use denote.Exit.{yes, no}
use denote.RattleType.{owns}
use denote.Memory.{hidden_shr}
use denote.RawPtr.{ptr_val}
use denote.Ref.{Bor, ShrRef}
use denote.Builtin.{RefOf, usize}
use denote.Signature.{plain}
use denote.Steps.{nothing}
use denote.Triple.Call.{calls_at_last}
use denote.Triple.Clauses.{Clauses, Ended, closing}
use denote.Triple.Entry.{on_entry}
use denote.Triple.Spec.{Meets, triple_of}
use denote.Triple.Statement.{Triple}
use denote.Triple.Table.{entered}
use denote.Triple.Walked.{Stays, stay_dropped, walk_of, ends_at, Goes-dropped, walk_Meets}
use Rattle.std.specs.Vec.Ownership.{vec_owns}
use Rattle.std.proofs.alloc.Calls.{token, second, gives_key, Gives, at_gives, Gives-goes, Gives-Gives, Goes-blank}
use Rattle.std.proofs.ptr.Rows.{one_below}
use Rattle.std.proofs.RawLayout.{as_raw}
use Rattle.std.proofs.RcSteps.{word, word-Good}
use Rattle.std.proofs.VecSteps.El.{El, args, el_x, elτ, Hd, P, R, sz, wider}
use Rattle.std.proofs.VecSteps.Opens.{blk_out}
use Rattle.std.proofs.VecSteps.Rows.{all_room}
use Rattle.std.proofs.VecSteps.Shapes.{after}
use Rattle.byte_box.proofs.BlockOwnership.{Dr, Bs, mark, mark_had, word_had, held_out, needs_four}
use Rattle.byte_box.specs.contracts.block.Deed.free as F
use Rattle.byte_box.specs.contracts.block.Deed.free.Key.{name as #self}
use Rattle.byte_box.proofs.block.Deed.free.Statement as stated
use Rattle.byte_box.proofs.block.Deed.free.Code as code

module _ (E : El) where
  abbrev function : Fn
  function = inst_fn (args E) code.function

  abbrev ended : Ended
  ended = F.ended E.row E.al.row E.al.g E.al.d E.al.drops

  abbrev clauses : {M : Type 1} {𝓤 : Ura M} (𝓛 : Logic 𝓤) → (Memory → SProp 𝓤) → (Routine → Fun 𝓤) → Clauses 𝓤 ended
  clauses 𝓛 = F.clauses E.row E.al.row E.al.g E.al.d E.al.drops 𝓛

  abbrev stayed : Stays ended.signature.params ended.kept
  stayed = (stay_dropped (plain (λ _. Dr E)) no, (stay_dropped (RefOf (0 ∷ []) tt (plain (λ _. P E)) (λ _. tt)) yes, (stay_dropped (plain (λ _. Bs E)) no, (stay_dropped (plain (λ _. usize)) yes, tt))))

  -- the four clauses
  module _ (d : (Dr E).Denot) (a : Hd E) (base : (Bs E).Denot) (cap : ℕ) where
    abbrev Asks : Type 0
    Asks = (0 < cap) × (base.ptr ≡ d.at) × (cap ≡ d.cap) × (a ≡ d.alloc)

module _ (E : El) {M : Type 1} {𝓤 : Ura M} (𝓛 : Logic 𝓤) (at_mem : Memory → SProp 𝓤) (run : Routine → Fun 𝓤) (C : Calls 𝓤 𝓛.H) (Λ : Loops 𝓤 𝓛.H) (fm : FmC 𝓤 𝓛.H 𝓛.laws C)
    (callee : Triple 𝓤 (C (gives_key E.al)) (Gives E.al 𝓛 at_mem run)) (κ κ₁ κ₂ : Lft) (q q₁ q₂ : Share) (short : κ ⊑ κ₂) (within : κ₂ ⊑ E.al.row.lives) (rb ro : ℕ) (d : (Dr E).Denot) (a : Hd E) (base : (Bs E).Denot) (cap : ℕ) (us0 us1 us2 us3 : List Val) where
  open 𝓛 use {H, A}

  abbrev alloc : Bor (Hd E)
  alloc = record { ref_ptr = (rb, ro); now = a }

  abbrev others : Item 𝓤
  others = ‵ (flft κ₁ q₁) ⊛ ‵ (flft κ₂ q₂) ⊛ ‵ ftrue

  abbrev bound : (walk_of 𝓛 (ended E) (stayed E) (clauses E 𝓛 at_mem run)).Ghost
  bound = (((κ, (κ₁, (κ₂, tt))), (q, (q₁, (q₂, tt))), (short, tt), (d, (alloc, (base, (cap, tt)))), (us0, (us1, (us2, (us3, tt))))), tt)

  abbrev Post : Val → SProp 𝓤
  Post = (walk_of 𝓛 (ended E) (stayed E) (clauses E 𝓛 at_mem run)).post bound

  exits : ent 𝓤 (⋆ 𝓛 (‵ (flft κ q) ∷ others ∷ [])) (Post vunit)
  exits =
      qed 𝓛 (‵ (flft κ q) ∷ others ∷ []) ∵
      suffices ! _ (ends_at 𝓛 (ended E) (stayed E) (clauses E 𝓛 at_mem run) bound vunit tt (tt, (tt, (tt, (tt, tt)))) (tt, (tt, (tt, (tt, tt))))) $
      join ! $ feq_i ! (List Val) (vunit ∷ []) (vunit ∷ []) refl $ nothing ! $ nothing ! $ fjoin ! $ nothing ! $ fjoin ! $ nothing ! $ fjoin ! $ nothing ! $ fjoin ! $ join ! $
      move ! (1 ∷ 0 ∷ []) $ join ! $ nothing ! $ move ! (1 ∷ 0 ∷ []) $ done !

  abbrev Had : List (Item 𝓤)
  Had = ‵ (vec_owns (token E.al d.alloc) (R E) d.at (length d.items) d.cap d.items) ∷ ‵ (hidden_shr (P E) κ a rb ro) ∷ ‵ (flft κ q) ∷ others ∷ []

  walk : Asks E d a base cap → cap < 2 ^ 64 → ent 𝓤 (⋆ 𝓛 Had) (WpFn 𝓤 H C Λ (function E) (mark ∷ vptr rb ro ∷ word base.ptr ∷ vint w64 cap ∷ []) Post)
  walk asked fits =
      let xs : List (el_x E) = d.items in let n : ℕ = length xs in let s : ℕ = sz E in let τ : Ty = elτ E in let al : ℕ = capped (align τ) in
      let le : n ≤ cap = subst (λ (k : ℕ). n ≤ k) (sym asked.2) d.fit in
      qed 𝓛 Had ∵ enter ! C Λ (function E) (mark ∷ vptr rb ro ∷ word base.ptr ∷ vint w64 cap ∷ []) _ $
      alloc_all ! (λ l. pass_all ! refl ((tt, (tt, tt)), ((tt, tt), (word-Good [] base.ptr, ((tt, record { fits = fits }), tt)))) $
      let En : Env 𝓤 H = env (function E).locals l in
      rewrite ! 0 (λ (c : Hd E × ℕ). ‵ (vec_owns (token E.al c.0) (R E) d.at n c.1 xs)) (λ i. (sym asked.3 i, sym asked.2 i)) refl $
      held_out ! E a d.at cap xs (λ b o e fit.
      let bytes : cap * s < 2 ^ 64 = wider (cap * s) fit in let tiny : s < 2 ^ 64 = one_below cap s (2 ^ 64) asked.0 bytes in
      let y : (Gives E.al 𝓛 at_mem run).Ghost = at_gives E.al 𝓛 at_mem run κ q (rb, ro) a b o (cap * s) al (bare (ty_array τ cap)) in
      blk_out E ! a b o n cap xs asked.0 $ use2 𝓛 (‵ (froom (ty_array τ cap) b o)) (all_room E 𝓛 b o n cap xs le) $ as_raw ! (ty_array τ cap) b o $ first ! $ blocks ! $
      sets ! (is ! (of_opd ! (get_in ! (fld ! refl (stop !)) (sub ! 0 refl (whole !)))) (ap ptr_val (asked.1 ∙ e))) refl (tt, tt) $
      sets ! (bin ! (get ! refl) (size_lit ! (record { fits = tiny })) (record { fits = bytes })) refl (tt, record { fits = bytes }) $
      group ! 4 $ use1 𝓛 (raw ((Gives E.al 𝓛 at_mem run).pre y)) (Gives-goes E.al 𝓛 at_mem run κ q (rb, ro) a (Incl-trans short within) b o (cap * s) al (bare (ty_array τ cap)) (ap capped (size-raw (ty_array τ cap)) ∙ capped_is (cap * s) bytes) (ap capped (align-raw τ)) bytes (capped_fits (align τ))) $
      calls_at_last ! fm (Gives E.al 𝓛 at_mem run) callee y (and_then ! (get ! refl) (and_then ! (get ! refl) (and_then ! (get ! refl) (and_then ! (align_word !) (no_more !))))) (λ v.
      use1 𝓛 (later (given (v ≡ vunit) (‵ (flft κ q)))) (Gives-Gives E.al 𝓛 at_mem run κ q (rb, ro) a b o (cap * s) al (bare (ty_array τ cap)) v) $ await ! tt $ learn ! (λ unit.
      lands_last ! refl (subst (λ (z : Val). T (has_ty ty_unit z) × WT z) (sym unit) (tt, tt)) $ exec ! C Λ En (after 1 (function E).body) (at_ret En Post) $
      sets ! (of_opd ! (unit_lit !)) refl (tt, tt) $ returns ! (look_at ! 0 refl) $ free_all ! refl $ keep ! (0 ∷ 1 ∷ []) $ by ! exits))))

  entry : Asks E d a base cap → ent 𝓤 (on_entry 𝓛 (ended E).signature (κ, (κ₁, (κ₂, tt))) (q, (q₁, (q₂, tt))) (d, (alloc, (base, (cap, tt)))) (us0, (us1, (us2, (us3, tt))))) (WpFn 𝓤 H C Λ (function E) (us0 ++ (us1 ++ (us2 ++ (us3 ++ [])))) Post)
  entry asked =
      qed 𝓛 ((‵ (flft κ q) ⊛ others) ∷ ‵ (owns (Dr E ∷ ShrRef (named 0) κ (P E) ∷ Bs E ∷ usize ∷ []) (d, (alloc, (base, (cap, tt)))) (us0, (us1, (us2, (us3, tt))))) ∷ []) ∵ split ! $ move ! (2 ∷ []) $ fsplit ! $ fsplit ! $ mark_had ! E us0 (λ e0.
      -- [what the deed owns; the other parameters; the tokens]
      move ! (1 ∷ []) $ fsplit ! $ fsplit ! $ feq_l ! (λ e1. move ! (1 ∷ []) $ fsplit ! $ word_had ! base.ptr us2 (λ e2. fsplit ! $ fsplit ! $ feq_l ! (λ e3. flt_l ! (λ fits.
      keep ! (2 ∷ 1 ∷ 3 ∷ 4 ∷ []) $
      by ! (subst (λ (ws : List Val × List Val × List Val × List Val). ent 𝓤 (⋆ 𝓛 Had) (WpFn 𝓤 H C Λ (function E) (ws.0 ++ (ws.1 ++ (ws.2 ++ (ws.3 ++ [])))) Post))
      (λ j. (sym e0 j, sym e1 j, sym e2 j, sym e3 j)) (walk asked fits)))))))

meets : (E : El) {M : Type 1} {𝓤 : Ura M} (𝓛 : Logic 𝓤) (at_mem : Memory → SProp 𝓤) (run : Routine → Fun 𝓤) (𝓣 : Tables 𝓤 𝓛.H) → Triple 𝓤 (𝓣.C (gives_key E.al)) (Gives E.al 𝓛 at_mem run)
    → Meets 𝓛 (ended E).signature (WpFn 𝓤 𝓛.H 𝓣.C 𝓣.Λ (function E)) (closing 𝓛 (ended E) (clauses E 𝓛 at_mem run))
meets E {𝓤 = 𝓤} 𝓛 at_mem run 𝓣 callee =
    walk_Meets 𝓛 (ended E) (stayed E) (Goes-blank 𝓛 3 (plain (λ _. Dr E)) no (λ κs x f. tt), (Goes-dropped 𝓛 3 (RefOf (0 ∷ []) tt (plain (λ _. P E)) (λ _. tt)) yes (λ κs x f. refl), (Goes-dropped 𝓛 3 (plain (λ _. Bs E)) no (λ κs x f. refl), (Goes-dropped 𝓛 3 (plain (λ _. usize)) yes (λ κs x f. refl), tt))))
    (clauses E 𝓛 at_mem run) (WpFn 𝓤 𝓛.H 𝓣.C 𝓣.Λ (function E)) (WpFn-mono 𝓤 𝓛.H 𝓛.laws 𝓣 (function E))
    (λ z. let κs = z.0.0 in let qs = z.0.1 in let x = z.0.3 in let vss = z.0.4 in let On : SProp 𝓤 = on_entry 𝓛 (ended E).signature κs qs x vss in
    let d = x.0 in let a = x.1.0 in let base = x.1.1.0 in let cap = x.1.1.1.0 in
    second 𝓤 (κs.1.0 ⊑ E.row.lives) (κs.1.1.0 ⊑ E.al.row.lives) On (sep 𝓤 (fact 𝓤 (0 < cap)) (sep 𝓤 (fact 𝓤 (base.ptr ≡ d.at)) (sep 𝓤 (fact 𝓤 (cap ≡ d.cap)) (fact 𝓤 (a.now ≡ d.alloc))))) (λ within. needs_four 𝓤 (0 < cap) (base.ptr ≡ d.at) (cap ≡ d.cap) (a.now ≡ d.alloc) On
    (entry E 𝓛 at_mem run 𝓣.C 𝓣.Λ (fm_of 𝓤 𝓛.H 𝓛.laws 𝓣) callee κs.0 κs.1.0 κs.1.1.0 qs.0 qs.1.0 qs.1.1.0 z.0.2.0 within a.ref_ptr.0 a.ref_ptr.1 d a.now base cap vss.0 vss.1.0 vss.1.1.0 vss.1.1.1.0)))

pub free_spec : {M : Type 1} → stated.statement M
unfolding tables_of
free_spec 𝓤 𝓛 𝓜 𝓡 wired X Z L LZ g d dd met md =
    let E : El = record { row = X; laws = L; al = record { row = Z; laws = LZ; g = g; d = d; drops = dd } } in
    let 𝓣 : Tables 𝓤 𝓛.H = tables_of 𝓤 𝓛.H 𝓜 (tables 𝓤 𝓛.H 𝓜 𝓡 𝓡.env) in
    entered 𝓤 𝓛.H (triple_of 𝓛 (ended E).signature (F.spec X Z g d dd 𝓛 𝓜.mem 𝓡.returns)) 𝓣.C 𝓣.Λ (#self (args E)) (function E) (code.unfolded 𝓤 𝓛.H 𝓜 𝓡 wired (X, (Z, tt)) d dd)
    (meets E 𝓛 𝓜.mem 𝓡.returns 𝓣 (met.deallocate dd))
