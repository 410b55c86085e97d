-- A deed may cross threads as its items and its allocator may.
use Rattle.std.proofs.Common.{Bool, true, false, ◌-◌, ◌*◌, length}
use mir.Syntax.{Ty, ty_array}
use mir.Raw.{raw}
use base.Fraction.{full_share}
use base.Fml.{Fml, ftrue}
use base.Shift.{Keyless}
use denote.Exit.{Exit, unchanged, leaves, hidden, under}
use denote.RattleType.{RattleType}
use denote.Memory.{lone}
use denote.RawPtr.{Ptr, block_ptr, null_ptr, block_of, count_of, lies_at, room_for, in_block, ◌+ₚ◌}
use denote.Array.{Array}
use denote.Struct.Struct.{exits_of}
use denote.Struct.Owning.{shape, fields, to}
use denote.Struct.Lending.{lent_at}
use denote.Param.Send.{IsSend, IsSync, Quiet, Common, AllSend, Frees, part_keyless, owning_send, struct_send, struct_sync, array_send, array_sync, sendable}
use Rattle.std.specs.declared.alloc.Allocator.{Ghosts}
use Rattle.std.specs.Mem.{type_size}
use Rattle.std.specs.Vec.Ownership.{owns_if, has_block}
use Rattle.byte_box.specs.contracts.block.Deed as Deed

quiet : {D X : Type 0} (to : D → X) (e : Exit X) → Quiet e → Quiet (hidden (under to e))
quiet to unchanged q = λ x w. tt
quiet to (leaves L l S s r₀) q = λ d. q (to d)

lies : (R : RattleType) → IsSend R → (p : Ptr) (x : R.Denot) → Keyless (lies_at R full_share p x)
lies R s (block_ptr b o) x = part_keyless R s full_share x b o
lies R s null_ptr x = tt

room : (τ : Ty) (p : Ptr) → Keyless (room_for τ p)
room τ (block_ptr b o) = tt
room τ null_ptr = tt

inside : (p : Ptr) (F : Fml) → Keyless F → Keyless (in_block p F)
inside (block_ptr b o) F k = k
inside null_ptr F k = tt

if_so : (y : Bool) (F : Fml) → Keyless F → Keyless (owns_if y F)
if_so true F k = k
if_so false F k = tt

seen : (R : RattleType) → IsSync R → (p : Ptr) (x : R.Denot) → Common (lent_at R p x)
seen R s p x κ = (inside p ftrue tt, s.shared x (block_of p) (count_of p) κ)

module _ (T B : RattleType) (g : Ghosts B.Denot) where
  pub Deed-send : IsSend T → Frees g g.dealloc_token → IsSend (Deed.the_row T B g)
  Deed-send s f =
      let O = Deed.the_type T B g in let all : AllSend (fields O) = (search sendable, tt) in
      owning_send O all
      (λ d. let n = length d.items in (
        tt,
        inside d.at _ (if_so (has_block d.cap) _ (
          lies (Array T n) (array_send T n s) d.at d.items,
          (room (raw (ty_array (lone T.mir) (d.cap - n))) (d.at +ₚ n * type_size T), f.frees d.alloc (raw (ty_array (lone T.mir) d.cap)) d.at),
        )),
      ))
      (λ k. quiet (to O) (exits_of k (fields O)) ((struct_send (shape O) all).leaving k))

  pub Deed-sync : IsSync T → IsSync (Deed.the_row T B g)
  Deed-sync y =
      let O = Deed.the_type T B g in record {
        shared = λ d b o κ. let n = length d.items in ((struct_sync (shape O) (search sendable, tt)).shared (to O d) b o κ, (tt, seen (Array T n) (array_sync T n y) d.at d.items κ));
      }
