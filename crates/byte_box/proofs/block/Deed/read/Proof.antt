-- `read` shows the items that a deed lends. Assumes `Logic`.
use Rattle.std.proofs.Common.{◌≡◌, refl, sym, ap, subst, ◌∙◌, ℕ, ◌*◌, ◌<◌, ◌^◌, List, [], ◌∷◌, ◌++◌, length}
use seplogic.Ra.Ura.{Ura}
use base.Fraction.{full_share}
use mir.Syntax.{Fn, named, w64}
use mir.MapTy.{inst_fn}
use mir.Val.{Val, vptr, vint}
use base.Logic.{SProp, ent, sep, never, id⊢}
use base.Fml.{Lft, Share, ftrue, fat, flft}
use prog.Wp.{Env, Calls, Loops, WpFn, Tables}
use types.Logic.{Logic}
use contract.Monad.{fact}
use contract.Running.{tables, tables_of}
use sound.WpLaws.{WpFn-mono}
use types.Kit.{Item, ⋆, ‵, ◌⊛◌, at_ret, ◌$◌, ◌∵◌, !, qed, by, move, keep, drop, split, join, rewrite, fsplit, fjoin, feq_i, feq_l, flt_l, flt_i, suffices, frame, done}
use types.Part.{whole, sub, agg}
use types.Run.{stop, fld, of_opd, and_then, no_more, first, blocks, exec, returns, enter}
use types.ByLocal.{alloc_all, pass_all, free_all, look_at, get, get_in, sets, sets_last, take_at, give_at, env}
use denote.Exit.{yes, no}
use denote.RattleType.{owns}
use denote.Memory.{hidden_shr}
use denote.Param.{layout}
use denote.RawPtr.{Ptr, block_of, count_of, in_block, in_a_block}
use denote.Ref.{Bor, ShrRef}
use denote.Builtin.{RefOf, SliceRefOf, usize}
use denote.Signature.{plain}
use denote.Slice.{ShrSlice, slice_val, elements_shared}
use denote.Opens.{hide, unhide}
use denote.Steps.{nothing}
use denote.Triple.Carry.{spared}
use denote.Triple.Clauses.{Clauses, Ended, closing}
use denote.Triple.Entry.{on_entry}
use denote.Triple.Spec.{Meets, triple_of}
use denote.Triple.Table.{entered, run_framed}
use denote.Triple.Walked.{says, Stays, stay_dropped, walk_of, ends_at, Goes-dropped, walk_Meets}
use Rattle.std.proofs.ptr.Rows.{times_below}
use Rattle.std.proofs.RcSteps.{word, word-Good}
use Rattle.std.proofs.VecSteps.El.{El, args, R, sz}
use Rattle.std.proofs.VecSteps.Facts.{needs_two}
use Rattle.std.proofs.VecSteps.Shapes.{after}
use Rattle.byte_box.proofs.BlockOwnership.{Dr, Bs, word_had}
use Rattle.byte_box.specs.contracts.block.Deed.read.Key.{name as #self}
use Rattle.byte_box.proofs.block.Deed.read.Statement as stated
use Rattle.byte_box.proofs.block.Deed.read.Code as code

module _ (E : El) where
  abbrev function : Fn
  function = inst_fn (args E) code.function

  abbrev ended : Ended
  ended = record { signature = record { lifetimes = 1; outlives = []; params = RefOf (0 ∷ []) tt (plain (λ _. Dr E)) (λ _. tt) ∷ plain (λ _. Bs E) ∷ plain (λ _. usize) ∷ []; result = SliceRefOf (0 ∷ []) tt (plain (λ _. R E)) (λ _. tt) }; kept = (yes, (no, (no, tt))) }

  abbrev stayed : Stays ended.signature.params ended.kept
  stayed = (stay_dropped (RefOf (0 ∷ []) tt (plain (λ _. Dr E)) (λ _. tt)) yes, (stay_dropped (plain (λ _. Bs E)) no, (stay_dropped (plain (λ _. usize)) no, tt)))

  abbrev At : (Dr E).Denot → (Bs E).Denot → Type 0
  At d base = base.ptr ≡ d.at

  abbrev Long : (Dr E).Denot → ℕ → Type 0
  Long d len = len ≡ length d.items

  abbrev spec : {M : Type 1} {𝓤 : Ura M} (𝓛 : Logic 𝓤) → Clauses 𝓤 ended
  spec {𝓤 = 𝓤} 𝓛 κs a = record { ghost = Unit {0}; requires = λ _. sep 𝓤 (fact 𝓤 (At a.0.now a.1.0)) (fact 𝓤 (Long a.0.now a.1.1.0)); ensures = λ _ r w. fact 𝓤 (r.now ≡ a.0.now.items) }

module _ (E : El) {M : Type 1} {𝓤 : Ura M} (𝓛 : Logic 𝓤) (C : Calls 𝓤 𝓛.H) (Λ : Loops 𝓤 𝓛.H) (κ : Lft) (q : Share) (rb ro : ℕ) (d : (Dr E).Denot) (base : (Bs E).Denot) (len : ℕ) (us0 us1 us2 : List Val) where
  open 𝓛 use {H, A}

  abbrev self : Bor (Dr E).Denot
  self = record { ref_ptr = (rb, ro); now = d }

  abbrev bound : (walk_of 𝓛 (ended E) (stayed E) (spec E 𝓛)).Ghost
  bound = (((κ, tt), (q, tt), tt, (self, (base, (len, tt))), (us0, (us1, (us2, tt)))), tt)

  abbrev Post : Val → SProp 𝓤
  Post = (walk_of 𝓛 (ended E) (stayed E) (spec E 𝓛)).post bound

  exits : (r : (ShrSlice (named 0) κ (R E)).Denot) (v : Val) → r.now ≡ d.items → ent 𝓤 (⋆ 𝓛 (‵ (flft κ q) ∷ ‵ ((ShrSlice (named 0) κ (R E)).own_val r (v ∷ [])) ∷ [])) (Post v)
  exits r v is =
      qed 𝓛 (‵ (flft κ q) ∷ ‵ ((ShrSlice (named 0) κ (R E)).own_val r (v ∷ [])) ∷ []) ∵
      suffices ! _ (ends_at 𝓛 (ended E) (stayed E) (spec E 𝓛) bound v r (tt, (tt, (tt, tt))) (tt, (tt, (tt, tt)))) $ says ! is $
      nothing ! $ move ! (1 ∷ 0 ∷ []) $ join ! $ frame ! $ nothing ! $ nothing ! $ fjoin ! $ nothing ! $ fjoin ! $ nothing ! $ fjoin ! $ done !

  abbrev Had : List (Item 𝓤)
  Had = ‵ (hidden_shr (Dr E) κ d rb ro) ∷ ‵ (flft κ q) ∷ []

  walk : At E d base × Long E d len → len < 2 ^ 64 → ent 𝓤 (⋆ 𝓛 Had) (WpFn 𝓤 H C Λ (function E) (vptr rb ro ∷ word base.ptr ∷ vint w64 len ∷ []) Post)
  walk asked fits =
      let xs = d.items in let n = length xs in let s = sz E in
      qed 𝓛 Had ∵ enter ! C Λ (function E) (vptr rb ro ∷ word base.ptr ∷ vint w64 len ∷ []) _ $ alloc_all ! (λ l. pass_all ! refl ((tt, tt), (word-Good [] base.ptr, ((tt, record { fits = fits }), tt))) $
      let En : Env 𝓤 H = env (function E).locals l in
      unhide ! $ fsplit ! $ drop ! $ fsplit ! $ flt_l ! (λ fit. fsplit ! $ in_a_block ! d.at (λ p. in_block p ftrue) (id⊢ 𝓤 (never 𝓤)) (λ b o e. drop ! $ fsplit ! $ drop ! $
      rewrite ! 0 (λ (p : Ptr). ‵ (elements_shared (R E) xs (block_of p) (count_of p) κ)) e refl $ hide ! $
      take_at ! 2 $ rewrite ! 0 (λ (p : Ptr). ‵ (fat full_share (layout (Bs E)) (l 2) 0 (word p))) (asked.0 ∙ e) refl $ give_at ! 2 $ first ! $ blocks ! $
      let at : ℕ × ℕ = (b, o) in
      sets_last ! (agg ! (and_then ! (get_in ! (fld ! refl (stop !)) (sub ! 0 refl (whole !))) (and_then ! (get ! refl) (no_more !)))) refl (tt, (tt, (record { fits = fits }, tt))) $
      exec ! C Λ En (after 1 (function E).body) (at_ret En Post) $ sets ! (of_opd ! (get ! refl)) refl (tt, (tt, (record { fits = fits }, tt))) $
      flt_i ! (n * s) (2 ^ 63) (times_below n d.cap s (2 ^ 63) d.fit fit) $ flt_i ! n (2 ^ 64) (subst (λ (k : ℕ). k < 2 ^ 64) asked.1 fits) $ fjoin ! $
      feq_i ! (List Val) (slice_val at len ∷ []) (slice_val at n ∷ []) (ap (λ k. slice_val at k ∷ []) asked.1) $ fjoin ! $ fjoin ! $
      returns ! (look_at ! 0 refl) $ free_all ! refl $ keep ! (1 ∷ 0 ∷ []) $ by ! (exits (record { ref_ptr = at; now = xs }) (slice_val at len) refl))))

  entry : At E d base × Long E d len → ent 𝓤 (on_entry 𝓛 (ended E).signature (κ, tt) (q, tt) (self, (base, (len, tt))) (us0, (us1, (us2, tt)))) (WpFn 𝓤 H C Λ (function E) (us0 ++ (us1 ++ (us2 ++ []))) Post)
  entry asked =
      qed 𝓛 ((‵ (flft κ q) ⊛ ‵ ftrue) ∷ ‵ (owns (ShrRef (named 0) κ (Dr E) ∷ Bs E ∷ usize ∷ []) (self, (base, (len, tt))) (us0, (us1, (us2, tt)))) ∷ []) ∵
      split ! $ move ! (2 ∷ []) $ fsplit ! $ fsplit ! $ feq_l ! (λ e0.
      move ! (1 ∷ []) $ fsplit ! $ word_had ! base.ptr us1 (λ e1.
      fsplit ! $ fsplit ! $ feq_l ! (λ e2. flt_l ! (λ fits.
      keep ! (1 ∷ 2 ∷ []) $
      by ! (subst (λ (ws : List Val × List Val × List Val). ent 𝓤 (⋆ 𝓛 Had) (WpFn 𝓤 H C Λ (function E) (ws.0 ++ (ws.1 ++ (ws.2 ++ []))) Post)) (λ j. (sym e0 j, sym e1 j, sym e2 j)) (walk asked fits))))))

meets : (E : El) {M : Type 1} {𝓤 : Ura M} (𝓛 : Logic 𝓤) (𝓣 : Tables 𝓤 𝓛.H)
    → Meets 𝓛 (ended E).signature (WpFn 𝓤 𝓛.H 𝓣.C 𝓣.Λ (function E)) (closing 𝓛 (ended E) (spec E 𝓛))
meets E {𝓤 = 𝓤} 𝓛 𝓣 =
    walk_Meets 𝓛 (ended E) (stayed E) (Goes-dropped 𝓛 1 (RefOf (0 ∷ []) tt (plain (λ _. Dr E)) (λ _. tt)) yes (λ κs x f. refl), (Goes-dropped 𝓛 1 (plain (λ _. Bs E)) no (λ κs x f. refl), (Goes-dropped 𝓛 1 (plain (λ _. usize)) no (λ κs x f. refl), tt)))
    (spec E 𝓛) (WpFn 𝓤 𝓛.H 𝓣.C 𝓣.Λ (function E)) (WpFn-mono 𝓤 𝓛.H 𝓛.laws 𝓣 (function E))
    (λ z. needs_two 𝓤 (At E z.0.3.0.now z.0.3.1.0) (Long E z.0.3.0.now z.0.3.1.1.0) _
    (entry E 𝓛 𝓣.C 𝓣.Λ z.0.0.0 z.0.1.0 z.0.3.0.ref_ptr.0 z.0.3.0.ref_ptr.1 z.0.3.0.now z.0.3.1.0 z.0.3.1.1.0 z.0.4.0 z.0.4.1.0 z.0.4.1.1.0))

pub read_spec : {M : Type 1} → stated.statement M
unfolding tables_of
read_spec 𝓤 𝓛 𝓜 𝓡 wired X Z L LZ g d dd met md y =
    let E : El = record { row = X; laws = L; al = record { row = Z; laws = LZ; g = g; d = d; drops = dd } } in
    let 𝓣 : Tables 𝓤 𝓛.H = tables_of 𝓤 𝓛.H 𝓜 (tables 𝓤 𝓛.H 𝓜 𝓡 𝓡.env) in
    let k = #self (args E) in
    spared 𝓛 (ended E).signature (𝓡.run (𝓡.env k)) (run_framed 𝓤 𝓛.H 𝓜 𝓡 (𝓡.env k)) 2 (X.lives, (Z.lives, tt)) (closing 𝓛 (ended E) (spec E 𝓛))
    (entered 𝓤 𝓛.H (triple_of 𝓛 (ended E).signature (closing 𝓛 (ended E) (spec E 𝓛))) 𝓣.C 𝓣.Λ k (function E) (code.unfolded 𝓤 𝓛.H 𝓜 𝓡 wired (X, (Z, tt)) d dd) (meets E 𝓛 𝓣))
    ((y.0.0, y.0.1, tt, y.0.3, y.0.4), y.1)
