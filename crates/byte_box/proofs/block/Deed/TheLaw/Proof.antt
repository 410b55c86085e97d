-- A `&` to a deed is made where one to an item is: it lends the items, and neither the room after
-- them nor the right to free the block. Assumes `Logic`.
use Rattle.std.proofs.Common.{◌≡◌, refl, sym, subst, Bool, true, false, not, ℕ, zero, ◌-◌, ◌*◌, ◌≤◌, ◌^◌, List, [], ◌∷◌, ◌++◌, length, arith}
use native.Mathlib.Nat.{suc-ne-zero}
use lib.Dec.{T, eqb, eqb→eq}
use seplogic.Ra.Ura.{Ura}
use base.Fraction.{full_share}
use base.Logic.{ent, sep}
use base.Fml.{Fml, Lft, ftrue, fsep, flt, fbor, Incl-trans}
use mir.Syntax.{Ty, ty_array}
use mir.Raw.{raw as bare}
use types.Logic.{Logic, sem, lfts}
use types.Kit.{‵, raw, ◌$◌, !, qed, drop, fjoin, feq_i, updating, done}
use types.Kit.{now as at_once}
use contract.BorrowLft.{meet_⊑_left}
use denote.RattleType.{RattleType}
use denote.Steps.{nothing}
use denote.Memory.{lone}
use denote.Array.{Array}
use denote.ArrayMemory.{Single}
use denote.Sharing.{said}
use denote.RawPtr.{Ptr, RawPtr, block_ptr, null_ptr, lies_at, room_for, in_block, ◌+ₚ◌}
use denote.Shares.{Shares, Shares-less, Shares-Array}
use denote.Param.Laws.{Laws}
use denote.Param.Shared.{copy_shared}
use denote.Struct.Laws.{field_copy}
use denote.Struct.Lending.{lent_at, Lends, Lends-false, Lends-lies, Lends-said, Lends-first, Lends-both, of_Lends}
use Rattle.std.specs.declared.alloc.Allocator.{Ghosts}
use Rattle.std.specs.Mem.{type_size}
use Rattle.std.specs.Allocator.{block_with_items}
use Rattle.std.specs.Vec.Ownership.{owns_if}
use Rattle.std.proofs.SharedLaws.{lent_shr_laws}
use Rattle.std.specs.contracts.marker.PhantomData as marker
use Rattle.byte_box.specs.contracts.block.Deed as C
use Rattle.byte_box.proofs.block.Deed.TheLaw.Statement.{statement}

none : {X : Type 0} (xs : List X) → length xs ≡ 0 → xs ≡ []
none [] e = refl
none (x ∷ xs) e = absurd (suc-ne-zero (length xs) e)

module _ {M : Type 1} {𝓤 : Ura M} (𝓛 : Logic 𝓤) (t : Ty → Ptr → Fml) (R : RattleType) (L : Laws R) (l : Lft) (s : Shares 𝓛 R l) (c : ℕ) (xs : List R.Denot) (le : length xs ≤ c) where
  open 𝓛 use {H, A}

  abbrev n : ℕ
  n = length xs

  Lends-held : (p : Ptr) (y : Bool) → (T y → c ≡ 0) → Lends 𝓛 (in_block p (owns_if (not y) (block_with_items t R p n c xs))) (lent_at (Array R n) p xs) l
  Lends-held null_ptr y z κ ts inc sp = Lends-false 𝓛 (lent_at (Array R n) null_ptr xs) l κ ts inc sp
  Lends-held (block_ptr b o) false z κ ts inc sp =
      let p : Ptr = block_ptr b o in
      Lends-first 𝓛 (lies_at (Array R n) full_share p xs) (fsep (room_for (bare (ty_array (lone R.mir) (c - n))) (p +ₚ (n * type_size R))) (t (bare (ty_array (lone R.mir) c)) p)) (lent_at (Array R n) p xs) l
      (Lends-lies 𝓛 (Array R n) l p xs (Shares-Array 𝓛 R (subst Single (sym L.one) tt) n l s xs)) κ ts inc sp
  Lends-held (block_ptr b o) true z κ ts inc sp =
      let c0 : c ≡ 0 = z tt in
      let Goal = λ (k : ℕ) (ys : List R.Denot). ent 𝓤 (sep 𝓤 (A.bor κ ftrue) (lfts 𝓛 ts)) (H.⇛ (sep 𝓤 (sem 𝓛 (lent_at (Array R k) (block_ptr b o) ys κ)) (lfts 𝓛 ts))) in
      let empty : xs ≡ [] = none xs (omega arith) in
      subst (λ (ys : List R.Denot). Goal (length ys) ys) (sym empty)
      (qed 𝓛 (‵ (fbor κ ftrue) ∷ raw (lfts 𝓛 ts) ∷ []) {P = H.⇛ (sep 𝓤 (sem 𝓛 (lent_at (Array R 0) (block_ptr b o) [] κ)) (lfts 𝓛 ts))} (
      updating ! $ drop ! $ nothing ! $ feq_i ! ℕ zero 0 refl $ fjoin ! $ nothing ! $ fjoin ! $ at_once ! $ done !))

pub shares : (R B : RattleType) (g : Ghosts B.Denot) (L : Laws R) (K : Laws B) → statement R B g L K
shares R B g L K = of_Lends (C.struct R B g) (C.the_codes R.Denot B.Denot R.coded B.coded (marker.the_row RawPtr).coded) (C.the_heap R B g) (C.the_lent R B g) (λ d p. lent_shr_laws R L.shr_laws d.at (length d.items) d.cap d.items)
    (copy_shared (marker.the_field RawPtr) (field_copy (marker.the_type RawPtr) tt), tt)
    (λ M 𝓤 𝓛 d p.
    let l = (C.the_row R B g).lives in
    let small = flt (d.cap * type_size R) (2 ^ 63) in
    Lends-both 𝓛 small (in_block d.at (owns_if (not (eqb d.cap 0)) (block_with_items (g.dealloc_token d.alloc) R d.at (length d.items) d.cap d.items))) (said small) (lent_at (Array R (length d.items)) d.at d.items) l (Lends-said 𝓛 small tt l)
    (Lends-held 𝓛 (g.dealloc_token d.alloc) R L l (Shares-less 𝓛 R R.lives l (Incl-trans (meet_⊑_left (R.lives ++ (B.lives ++ [])) _) (meet_⊑_left R.lives (B.lives ++ []))) (L.shares 𝓛)) d.cap d.items d.fit d.at (eqb d.cap 0) (eqb→eq d.cap 0)))
