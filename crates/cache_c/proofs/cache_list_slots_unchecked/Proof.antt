-- `cache_list_slots_unchecked` meets its contract: the cache and the caller's memory are lent for a
-- lifetime that is made for the call of `list_slots`, and returned when it has ended.
use Rattle.cache_c.proofs.Steps.{ℕ, List, [], ◌∷◌, ◌++◌, refl, w64, proved, full_share, id⊢, emp, ftrue, fex, flft, flent, fsep, feq, named, Val, vint, vptr, fact, fact_i, tables, ‵, raw, ◌⊛◌, some, later, prop, ◌$◌, ◌∵◌, !, qed, done, move, keep, drop, use0, use1, use2, use3, split, join, fsplit, fjoin, fpack, fpick, feq_i, feq_l, pick, await, regoal, suffices, group, enter, addr, stop, no_more, and_then, returns, alloc_all, pass_all, free_all, look_at, get, through, sets, lands_as, yes, uint_Makes, uint_vals, uint_Tells, Ptr, RawPtr, block_ptr, lies_at, in_a_block, rawptr_vals, rawptr_Tells, MutRef, MutBor, plain, nothing, owned, heard, peeks, calls_at, lasts, on_entry, triple_of, Stays, walk_of, stay_dropped, Goes-dropped, ends_at, framed}
use Rattle.std.proofs.Common.{sym, subst, w32, length}
use prog.Wp.{WpFn}
use denote.Builtin.{u32, usize}
use denote.Array.{Array}
use denote.Laws.{Is, shows}
use denote.Lend.{lends_ref, ref_back, lends_slice, slice_back, Held}
use denote.Memory.{mem, part_at}
use denote.Slice.{MutSlice, Room, slice_val}
use types.Part.{agg}
use types.SemTy.{Body, cells, Arr}
use types.Tokens.{lft_new, lft_end}
use denote.Index.{row, whole_in, whole_out}
use denote.ArrayMemory.{Array-apart, Array-whole}
use Rattle.cache_core.specs.CoreCache.{cache_of}
use Rattle.cache_c.specs.declared.cache.Cache.{Cache}
use Rattle.cache_c.specs.declared.rows.ToldRow.{ToldRow}
use Rattle.cache_c.specs.declared.rows.Listing.{Listing}
use Rattle.cache_c.specs.Memory.{stands_at, lies, rows_at}
use Rattle.cache_c.specs.Standing.{StandsForCache, StandsUnchanged, cache_words}
use Rattle.cache_c.specs.Told.{AreListsBy}
use Rattle.cache_c.proofs.Standing.{stands_kept}
use Rattle.cache_c.specs.contracts.cache_list_slots_unchecked as f
use Rattle.cache_c.proofs.cache_list_slots_unchecked.Statement.{statement}
use Rattle.cache_c.proofs.cache_list_slots_unchecked.Code as code
use Rattle.cache_c.specs.contracts.cache.Cache.{the_row as R}
use Rattle.cache_c.specs.contracts.rows.ToldRow.{the_row as E}
use Rattle.cache_c.specs.contracts.rows.Listing.{the_row as B}
use Rattle.cache_c.proofs.rows.Listing.TheLaws as answer
use Rattle.cache_c.specs.contracts.cache.Cache.list_slots as g
use Rattle.cache_c.proofs.cache.Cache.list_slots.Met.{met}

abbrev stayed : Stays f.ended.signature.params f.ended.kept
stayed = (stay_dropped _ yes, (stay_dropped _ yes, (stay_dropped _ yes, (stay_dropped _ yes, (stay_dropped _ yes, tt)))))

pub cache_list_slots_unchecked_spec : {M : Type 1} → statement M
cache_list_slots_unchecked_spec 𝓤 𝓛 𝓜 𝓡 wired =
    let c = f.clauses 𝓛 𝓜.mem 𝓡.returns in let W = walk_of 𝓛 f.ended stayed c in let 𝓣 = tables 𝓤 𝓛.H 𝓜 𝓡 𝓡.env in
    proved 𝓛 f.ended stayed c 𝓜 𝓡 (Goes-dropped 𝓛 0 (plain (λ _. RawPtr)) yes (λ κs x w. refl), (Goes-dropped 𝓛 0 (plain (λ _. u32)) yes (λ κs x w. refl), (Goes-dropped 𝓛 0 (plain (λ _. u32)) yes (λ κs x w. refl), (Goes-dropped 𝓛 0 (plain (λ _. RawPtr)) yes (λ κs x w. refl), (Goes-dropped 𝓛 0 (plain (λ _. usize)) yes (λ κs x w. refl), tt)))))
    f.Key.name code.function (code.unfolded 𝓤 𝓛.H 𝓜 𝓡 wired)
    (λ κs. (rawptr_vals, (uint_vals w32, (uint_vals w32, (rawptr_vals, (uint_vals w64, tt)))))) (λ κs. (rawptr_Tells, (uint_Tells w32, (uint_Tells w32, (rawptr_Tells, (uint_Tells w64, tt)))))) (λ κs qs bounds a n are.
    let from = a.1.0 in let to = a.1.1.0 in let len = a.1.1.1.1.0 in let old = n.0 in let xs = n.1 in
    let y : Ptr → Ptr → ℕ → W.Ghost = λ p q k. ((κs, qs, bounds, (p, (from, (to, (q, (k, tt))))), (rawptr_vals p, (uint_vals w32 from, (uint_vals w32 to, (rawptr_vals q, (uint_vals w64 k, tt)))))), n) in
    qed 𝓛 (raw (on_entry 𝓛 f.signature κs qs a (y a.0 a.1.1.1.0 len).0.4) ∷ ‵ (fsep (stands_at a.0 old) (rows_at a.1.1.1.0 len xs)) ∷ []) ∵ drop ! $
    fsplit ! $ fsplit ! $ move ! (1 ∷ []) $ fpick ! (λ stand. drop ! $ move ! (1 ∷ []) $ fsplit ! $ move ! (1 ∷ []) $ fpick ! (λ wide. drop ! $
    -- [the caller's memory; the cache]
    in_a_block ! a.1.1.1.0 (λ q. lies_at (Array E len) full_share q xs) (id⊢ 𝓤 _) (λ b' o' e'.
    use1 𝓛 (‵ (fsep (feq ℕ (length xs) len) (row E full_share xs b' o'))) (Array-apart 𝓛 E full_share tt len xs b' o') $ fsplit ! $ feq_l ! (λ count.
    use1 𝓛 (‵ (cells (mem E) xs b' o')) (whole_in 𝓛 E xs b' o') $ move ! (1 ∷ []) $
    in_a_block ! a.0 (λ p. lies p old) (id⊢ 𝓤 _) (λ b o e.
    -- [the cache; the caller's memory]
    let m : ℕ = length xs in let room : Room E m = subst (λ (k : ℕ). Room E k) (sym count) wide in
    regoal ! (λ p. prop (WpFn 𝓤 𝓛.H 𝓣.C 𝓣.Λ code.function (rawptr_vals p ++ (vint w32 from ∷ vint w32 to ∷ rawptr_vals a.1.1.1.0 ++ (vint w64 len ∷ []))) (W.post (y p a.1.1.1.0 len)))) e refl $
    regoal ! (λ q. prop (WpFn 𝓤 𝓛.H 𝓣.C 𝓣.Λ code.function (vptr b o ∷ vint w32 from ∷ vint w32 to ∷ rawptr_vals q ++ (vint w64 len ∷ [])) (W.post (y (block_ptr b o) q len)))) e' refl $
    regoal ! (λ k. prop (WpFn 𝓤 𝓛.H 𝓣.C 𝓣.Λ code.function (vptr b o ∷ vint w32 from ∷ vint w32 to ∷ vptr b' o' ∷ vint w64 k ∷ []) (W.post (y (block_ptr b o) (block_ptr b' o') k)))) (sym count) refl $
    enter ! _ _ _ _ _ $ alloc_all ! (λ l. pass_all ! refl ((tt, tt), ((tt, record { fits = are.1.0.1 }), ((tt, record { fits = are.1.1.0.1 }), ((tt, tt), ((tt, record { fits = room.0 }), tt))))) $
    sets ! (addr ! (through ! refl (stop !))) refl (tt, tt) $
    sets ! (agg ! (and_then ! (get ! refl) (and_then ! (get ! refl) (no_more !)))) refl (tt, (tt, (record { fits = room.0 }, tt))) $
    lft_new ! tt (λ α. lft_new ! tt (λ β. move ! (2 ∷ []) $
    let Loan : ℕ → MutBor Cache = λ δ. record { ref_ptr = (b, o); ghost_name = δ; now = old } in
    use1 𝓛 (later (some (λ (δ : ℕ). ‵ ((MutRef (named 0) (α ∷ []) R).own_val (Loan δ) (vptr b o ∷ [])) ⊛ ‵ (flent (α ∷ []) (Body (mem R) b o δ)))))
    (lends_ref 𝓛 R (named 0) (α ∷ []) old b o) $ await ! tt $ pick ! (λ δ. split ! $ move ! (4 ∷ []) $
    let Slice : ℕ → MutBor (List ToldRow) = λ γ. record { ref_ptr = (b', o'); ghost_name = γ; now = xs } in let sv : List Val = slice_val (b', o') m ∷ [] in
    use1 𝓛 (later (some (λ (γ : ℕ). ‵ ((MutSlice (named 1) (β ∷ []) E).own_val (Slice γ) sv) ⊛ ‵ (flent (β ∷ []) (Held E m b' o' γ)))))
    (lends_slice 𝓛 E (named 1) (β ∷ []) xs b' o' room) $ await ! tt $ pick ! (λ γ. split ! $
    -- [the slice; its lender's; the loan; its lender's; the token of β; the token of α]
    let G = triple_of 𝓛 g.signature (g.spec 𝓛 𝓜.mem 𝓡.returns) in
    let z : G.Ghost = (((α ∷ [], (β ∷ [], tt)), (full_share, (full_share, tt)), tt, (Loan δ, (from, (to, (Slice γ, tt)))), (vptr b o ∷ [], (vint w32 from ∷ [], (vint w32 to ∷ [], (sv, tt))))), tt) in
    nothing ! $ move ! (1 ∷ 0 ∷ []) $ join ! $ owned ! u32 _ (uint_Makes 𝓛 w32) to _ (refl, are.1.1.0.1) $ join ! $ owned ! u32 _ (uint_Makes 𝓛 w32) from _ (refl, are.1.0.1) $ join ! $ move ! (2 ∷ 0 ∷ []) $ join ! $
    -- [what is passed; the slice's lender's; the loan's lender's; the token of β; the token of α]
    nothing ! $ move ! (4 ∷ 0 ∷ []) $ join ! $ move ! (4 ∷ 0 ∷ []) $ join ! $ join ! $
    use0 𝓛 (raw (fact 𝓤 (StandsForCache old))) (fact_i 𝓤 (StandsForCache old) (emp 𝓤) stand) $ move ! (1 ∷ 0 ∷ []) $ use2 𝓛 (raw (G.pre z)) (id⊢ 𝓤 _) $
    calls_at ! (framed 𝓤 𝓛.H 𝓜 𝓣) G (met 𝓤 𝓛 𝓜 𝓡 (code.calls-cache_c::cache::Cache::list_slots 𝓡.env wired)) z
    (and_then ! (get ! refl) (and_then ! (get ! refl) (and_then ! (get ! refl) (and_then ! (get ! refl) (no_more !))))) (λ v.
    let Told : Cache → List ToldRow → Listing → Type 0 = λ new out r. AreListsBy (cache_words new) (cache_of old.core) from to xs out r in
    use1 𝓛 (later (some (λ (r : Listing). ((‵ (flft (α ∷ []) full_share) ⊛ ‵ (flft (β ∷ []) full_share) ⊛ ‵ ftrue) ⊛ ‵ (B.own_val r (v ∷ []))) ⊛
    some (λ (ws : Cache × (Unit {0} × (Unit {0} × (List ToldRow × Unit {0})))). ‵ (lasts g.ended z.0.0 z.0.3 ws) ⊛ (raw (fact 𝓤 (StandsUnchanged old ws.0)) ⊛ raw (fact 𝓤 (Told ws.0 ws.1.1.1.0 r))))))) (id⊢ 𝓤 _) $
    await ! tt $ pick ! (λ r. split ! $ split ! $ split ! $ lft_end ! tt $ move ! (1 ∷ []) $ split ! $ lft_end ! tt $
    -- [β has ended; nothing; α has ended; the answer; the ensures; the slice's lender's; the loan's
    -- lender's]
    move ! (4 ∷ []) $ pick ! (λ ws. split ! $ move ! (1 ∷ []) $ split ! $ heard ! _ (λ kept. heard ! _ (λ told. fsplit ! $ fsplit ! $
    let ys : List ToldRow = ws.1.1.1.0 in
    move ! (5 ∷ 8 ∷ 0 ∷ []) $ use3 𝓛 (later (‵ (lies (block_ptr b o) ws.0))) (ref_back 𝓛 R (α ∷ []) δ ws.0 b o) $ await ! tt $
    -- [the cache; its borrow; the other parameters; β has ended; nothing; the answer; the slice's
    -- lender's]
    move ! (2 ∷ []) $ fsplit ! $ drop ! $ fsplit ! $ drop ! $ fsplit ! $ fsplit ! $ fsplit ! $
    move ! (6 ∷ 9 ∷ 0 ∷ []) $ use3 𝓛 (later (‵ ((Arr (mem E) m).own_at ys b' o'))) (slice_back 𝓛 E (β ∷ []) γ ys m b' o') $ await ! tt $ fsplit ! $ feq_l ! (λ same.
    use1 𝓛 (‵ (row E full_share ys b' o')) (whole_out 𝓛 E ys b' o') $ feq_i ! ℕ (length ys) m same $ fjoin ! $
    use1 𝓛 (‵ (part_at (Array E m) full_share ys b' o')) (Array-whole 𝓛 E full_share m ys b' o') $
    -- [the caller's memory; two parts of its slice; nothing; the cache; its borrow; nothing; the answer]
    move ! (7 ∷ []) $ peeks ! B (Is B) (shows 𝓛 B) r (v ∷ []) (λ is. lands_as ! refl refl ((answer.the_row_laws.lawful 𝓛).typed r _ is).0 $
    returns ! (look_at ! 0 refl) $ free_all ! refl $ keep ! (1 ∷ 5 ∷ 0 ∷ []) $
    suffices ! _ (ends_at 𝓛 f.ended stayed c (y (block_ptr b o) (block_ptr b' o') m) v r (tt, (tt, (tt, (tt, (tt, tt))))) (tt, (tt, (tt, (tt, (tt, tt)))))) $
    nothing ! $ fpack ! (Room E m) (λ _. ftrue) room $ move ! (1 ∷ 0 ∷ []) $ fjoin ! $
    nothing ! $ fpack ! (StandsUnchanged old ws.0 × Told ws.0 ys r) (λ _. ftrue) (kept, told) $ move ! (1 ∷ 0 ∷ []) $ fjoin ! $ move ! (1 ∷ []) $
    nothing ! $ fpack ! (StandsForCache ws.0) (λ _. ftrue) (stands_kept kept stand) $ move ! (1 ∷ 0 ∷ []) $ fjoin ! $ fjoin ! $
    fpack ! (Cache × List ToldRow) (λ new. fsep (stands_at (block_ptr b o) new.0) (fsep (rows_at (block_ptr b' o') m new.1) (fex (StandsUnchanged old new.0 × Told new.0 new.1 r) (λ _. ftrue)))) (ws.0, ys) $ move ! (1 ∷ 0 ∷ []) $
    nothing ! $ nothing ! $ join ! $ nothing ! $ join ! $ nothing ! $ join ! $ nothing ! $ join ! $ nothing ! $ join ! $ nothing ! $ group ! 3 $ done !))))))))))))))))))
