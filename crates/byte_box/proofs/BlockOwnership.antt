-- Steps that the walks of `src/block.rt` share. Assumes `Logic`.
--     mark, mark_made, mark_had     the machine value of a deed, which has no bytes, and what its one field owns
--     one, two, two_made     structs of one field and of two, and what a pair owns
--     held_in, held_out     what a deed owns is the block at an address, if there is one
use Rattle.std.proofs.Common.{◌≡◌, ℕ, ◌*◌, ◌^◌, ◌<◌, List, [], ◌∷◌, ◌++◌, length, refl, sym, subst}
use seplogic.Ra.Ura.{Ura}
use mir.Val.{Val, vstruct, vcons, vnil, of_list}
use base.Logic.{SProp, ent, sep, emp, id⊢, never, via, fst∗, snd∗}
use contract.Monad.{fact, fact_use}
use base.Fml.{Fml}
use types.Logic.{Logic, sem}
use types.Kit.{Goal, Seq, Step, step, Item, ‵, ◌$◌, move, rewrite, drop, fsplit, fjoin, fpick, fpack, feq_l, feq_i, flt_l, flt_i}
use denote.RattleType.{RattleType, Valss}
use denote.RawPtr.{Ptr, RawPtr, block_ptr, in_block, in_a_block}
use denote.Shadow.{makes_shadow}
use denote.Steps.{nothing}
use denote.Struct.Struct.{Shape, Struct, within}
use denote.Struct.Owning.{shape}
use Rattle.std.specs.Vec.Ownership.{owns_if, has_block, vec_owns}
use Rattle.std.specs.Allocator.{block_with_items}
use Rattle.std.proofs.alloc.Calls.{token}
use Rattle.std.proofs.RcSteps.{word}
use Rattle.std.proofs.VecSteps.El.{El, R, P, Hd, el_x, sz}
use Rattle.std.proofs.VecSteps.Opens.{Blk}
use Rattle.byte_box.specs.contracts.block.Base as B-type
use Rattle.byte_box.specs.contracts.block.Deed as D-type

module _ (E : El) where
  abbrev pub Dr : RattleType
  Dr = D-type.the_row (R E) (P E) E.al.g

  abbrev pub Bs : RattleType
  Bs = B-type.the_row (R E)

  -- the one field of a deed, which takes no bytes
  abbrev pub Mark : RattleType
  Mark = Struct (shape (D-type.the_type (R E) (P E) E.al.g))

  -- the block at p, if there is one
  abbrev pub Held : Hd E → ℕ → List (el_x E) → Ptr → ℕ → Fml
  Held a c xs p n = in_block p (owns_if (has_block c) (block_with_items (token E.al a) (R E) p n c xs))

abbrev pub mark : Val
mark = vstruct (vcons (vstruct vnil) vnil)

abbrev one_field : Shape
one_field = record { name = []; args = []; types = []; fields = RawPtr ∷ [] }

-- what a `Base` owns, which is nothing
abbrev pub Word : RattleType
Word = Struct one_field

abbrev pub one : Val → Val
one u = vstruct (vcons u vnil)

abbrev pub two : Val → Val → Val
two u v = vstruct (vcons u (vcons v vnil))

-- a struct by its fields alone: what it owns does not read its name
abbrev pub plainly : List RattleType → RattleType
plainly Rs = Struct (record { name = []; args = []; types = []; fields = Rs })

pub mark_made : (E : El) {M : Type 1} {𝓤 : Ura M} (𝓛 : Logic 𝓤) → ent 𝓤 (emp 𝓤) (sem 𝓛 ((Mark E).own_val (tt, tt) (mark ∷ [])))
mark_made E 𝓛 = makes_shadow 𝓛 ((Mark E).own_val (tt, tt) (mark ∷ [])) (λ vss. (tt, ((λ uss. (tt, tt)), tt))) ((vstruct vnil ∷ [], tt), (refl, ((tt, (refl, tt)), tt)))

module _ {M : Type 1} {𝓤 : Ura M} {𝓛 : Logic 𝓤} {K : Type 0} {Γ : List (Item 𝓤)} {G : Goal 𝓤 𝓛.H} where
  pub word_had : K → (c : Ptr) (vs : List Val) → (vs ≡ word c ∷ [] → Seq K 𝓛 Γ G) → Seq K 𝓛 (‵ (Word.own_val (c, tt) vs) ∷ Γ) G
  word_had t c vs k = fpick t (λ vss. fsplit t $ feq_l t (λ ev. fsplit t $ feq_l t (λ e. drop t $ k (subst (λ (ws : List Val). vs ≡ vstruct (of_list (ws ++ [])) ∷ []) e ev))))

  pub mark_had : K → (E : El) (vs : List Val) → (vs ≡ mark ∷ [] → Seq K 𝓛 Γ G) → Seq K 𝓛 (‵ ((Mark E).own_val (tt, tt) vs) ∷ Γ) G
  mark_had t E vs k = fpick t (λ vss. fsplit t $ feq_l t (λ ev. fsplit t $ fpick t (λ uss. fsplit t $ feq_l t (λ e. drop t $ drop t $
      k (subst (λ (ws : List Val). vs ≡ vstruct (of_list (ws ++ [])) ∷ []) e ev)))))

  pub two_made : K → (X Y : RattleType) (x : X.Denot) (y : Y.Denot) (u v : Val)
      → Step K 𝓛 (‵ ((plainly (X ∷ Y ∷ [])).own_val (x, (y, tt)) (two u v ∷ [])) ∷ Γ) G (‵ (X.own_val x (u ∷ [])) ∷ ‵ (Y.own_val y (v ∷ [])) ∷ Γ) G
  two_made t X Y x y u v = step (λ s.
      nothing t $ move t (2 ∷ 0 ∷ []) $ fjoin t $ move t (1 ∷ 0 ∷ []) $ fjoin t $ feq_i t (List Val) (two u v ∷ []) (two u v ∷ []) refl $ fjoin t $
      fpack t (Valss (X ∷ Y ∷ [])) (within (record { name = []; args = []; types = []; fields = X ∷ Y ∷ [] }) (x, (y, tt)) (two u v ∷ [])) (u ∷ [], (v ∷ [], tt)) $ s)

  pub held_in : K → (E : El) (a : Hd E) (p : Ptr) (c : ℕ) (xs : List (el_x E)) (b o n : ℕ) → p ≡ block_ptr b o → n ≡ length xs → c * sz E < 2 ^ 63
      → Step K 𝓛 (‵ (vec_owns (token E.al a) (R E) p (length xs) c xs) ∷ Γ) G (‵ (Blk E a b o n c xs) ∷ Γ) G
  held_in t E a p c xs b o n at long fit = step (λ s.
      rewrite t 0 (λ (j : ℕ). ‵ (Held E a c xs (block_ptr b o) j)) long refl $ rewrite t 0 (λ (r : Ptr). ‵ (Held E a c xs r (length xs))) (sym at) refl $
      flt_i t (c * sz E) (2 ^ 63) fit $ fjoin t $ s)

  pub held_out : K → (E : El) (a : Hd E) (p : Ptr) (c : ℕ) (xs : List (el_x E)) → ((b o : ℕ) → p ≡ block_ptr b o → c * sz E < 2 ^ 63 → Seq K 𝓛 (‵ (Blk E a b o (length xs) c xs) ∷ Γ) G)
      → Seq K 𝓛 (‵ (vec_owns (token E.al a) (R E) p (length xs) c xs) ∷ Γ) G
  held_out t E a p c xs k = fsplit t $ flt_l t (λ fit.
      in_a_block t p (λ r. Held E a c xs r (length xs)) (id⊢ 𝓤 (never 𝓤)) (λ b o at. k b o at fit))

module _ {M : Type 1} (𝓤 : Ura M) where
  -- a `requires` of four facts
  pub needs_four : (φ ψ χ ω : Type 0) (P : SProp 𝓤) {Q : SProp 𝓤} → (φ × ψ × χ × ω → ent 𝓤 P Q) → ent 𝓤 (sep 𝓤 P (sep 𝓤 (fact 𝓤 φ) (sep 𝓤 (fact 𝓤 ψ) (sep 𝓤 (fact 𝓤 χ) (fact 𝓤 ω))))) Q
  needs_four φ ψ χ ω P h =
      let F₃ : SProp 𝓤 = sep 𝓤 (fact 𝓤 χ) (fact 𝓤 ω) in let F₂ : SProp 𝓤 = sep 𝓤 (fact 𝓤 ψ) F₃ in let F₁ : SProp 𝓤 = sep 𝓤 (fact 𝓤 φ) F₂ in
      let all : SProp 𝓤 = sep 𝓤 P F₁ in let at₁ : ent 𝓤 all F₁ = snd∗ 𝓤 P F₁ in let at₂ : ent 𝓤 all F₂ = via 𝓤 F₁ at₁ (snd∗ 𝓤 (fact 𝓤 φ) F₂) in let at₃ : ent 𝓤 all F₃ = via 𝓤 F₂ at₂ (snd∗ 𝓤 (fact 𝓤 ψ) F₃) in
      fact_use 𝓤 φ (via 𝓤 F₁ at₁ (fst∗ 𝓤 (fact 𝓤 φ) F₂)) (λ x. fact_use 𝓤 ψ (via 𝓤 F₂ at₂ (fst∗ 𝓤 (fact 𝓤 ψ) F₃)) (λ y.
      fact_use 𝓤 χ (via 𝓤 F₃ at₃ (fst∗ 𝓤 (fact 𝓤 χ) (fact 𝓤 ω))) (λ z. fact_use 𝓤 ω (via 𝓤 F₃ at₃ (snd∗ 𝓤 (fact 𝓤 χ) (fact 𝓤 ω))) (λ w.
      via 𝓤 P (fst∗ 𝓤 P F₁) (h (x, y, z, w))))))
