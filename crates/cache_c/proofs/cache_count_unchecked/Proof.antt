-- `cache_count_unchecked` meets its contract: the cache is lent for a lifetime that is made for the
-- call of `count_shared`, and returned when it has ended.
use Rattle.cache_c.proofs.Steps.{ℕ, [], ◌∷◌, ◌++◌, refl, w64, proved, full_share, id⊢, emp, ftrue, fex, flft, flent, fsep, named, vint, vptr, fact, fact_i, tables, ‵, raw, ◌⊛◌, some, later, prop, ◌$◌, ◌∵◌, !, qed, done, move, keep, drop, use0, use1, use2, use3, split, join, fsplit, fjoin, fpack, fpick, pick, await, regoal, suffices, group, enter, addr, stop, no_more, and_then, returns, alloc_all, pass_all, free_all, look_at, get, through, sets, lands_as, u64, yes, uint_vals, uint_Tells, Ptr, RawPtr, block_ptr, in_a_block, rawptr_vals, rawptr_Tells, MutRef, MutBor, plain, nothing, heard, peeks, calls_at, lasts, triple_of, Stays, walk_of, stay_dropped, Goes-dropped, ends_at, framed, bool}
use Rattle.std.proofs.Common.{Bool}
use prog.Wp.{WpFn}
use denote.Builtin.{u32, SliceRefOf}
use denote.Plain.{bool_Lawful}
use denote.Laws.{Is, shows}
use denote.Lend.{lends_ref, ref_back}
use denote.Memory.{mem}
use denote.Slice.{ShrSlice, slice_val, shr_slice_vals, shr_slice_Tells}
use types.SemTy.{Body}
use types.Tokens.{lft_new, lft_end}
use lib.ListN.{length}
use Rattle.cache_c.specs.declared.cache.Cache.{Cache}
use Rattle.cache_c.specs.Memory.{stands_at, counts_at, lies}
use Rattle.cache_c.specs.Standing.{StandsForCache, LeavesHeld}
use Rattle.cache_c.specs.Shared.{MayCount, IsCounted}
use Rattle.cache_c.specs.contracts.cache_count_unchecked as f
use Rattle.cache_c.proofs.cache_count_unchecked.Statement.{statement}
use Rattle.cache_c.proofs.cache_count_unchecked.Code as code
use Rattle.cache_c.specs.contracts.cache.Cache.{the_row as R}
use Rattle.cache_c.specs.contracts.cache.Cache.count_shared as g
use Rattle.cache_c.proofs.cache.Cache.count_shared.Met.{met}

abbrev stayed : Stays f.ended.signature.params f.ended.kept
stayed = (stay_dropped _ yes, (stay_dropped _ yes, (stay_dropped _ yes, (stay_dropped _ yes, tt))))

pub cache_count_unchecked_spec : {M : Type 1} → statement M
cache_count_unchecked_spec 𝓤 𝓛 𝓜 𝓡 wired =
    let c = f.clauses 𝓛 𝓜.mem 𝓡.returns in let W = walk_of 𝓛 f.ended stayed c in let 𝓣 = tables 𝓤 𝓛.H 𝓜 𝓡 𝓡.env in
    proved 𝓛 f.ended stayed c 𝓜 𝓡 (Goes-dropped 𝓛 1 (plain (λ _. RawPtr)) yes (λ κs x w. refl), (Goes-dropped 𝓛 1 (SliceRefOf (0 ∷ []) tt (plain (λ _. u32)) (λ _. tt)) yes (λ κs x w. refl), (Goes-dropped 𝓛 1 (plain (λ _. u64)) yes (λ κs x w. refl), (Goes-dropped 𝓛 1 (plain (λ _. u64)) yes (λ κs x w. refl), tt))))
    f.Key.name code.function (code.unfolded 𝓤 𝓛.H 𝓜 𝓡 wired)
    (λ κs. (rawptr_vals, (shr_slice_vals, (uint_vals w64, (uint_vals w64, tt))))) (λ κs. (rawptr_Tells, (shr_slice_Tells (named 0) κs.0 u32, (uint_Tells w64, (uint_Tells w64, tt))))) (λ κs qs bounds a n are.
    let places = a.1.0 in let misses = a.1.1.0 in let t = a.1.1.1.0 in
    let y : Ptr → W.Ghost = λ p. ((κs, qs, bounds, (p, (places, (misses, (t, tt)))), (rawptr_vals p, (shr_slice_vals places, (uint_vals w64 misses, (uint_vals w64 t, tt))))), n) in
    let Tokens = ‵ (flft κs.0 qs.0) ⊛ ‵ ftrue in
    let Lent = ‵ ((ShrSlice (named 0) κs.0 u32).own_val places (shr_slice_vals places)) ⊛ ‵ (u64.own_val misses (uint_vals w64 misses)) ⊛ ‵ (u64.own_val t (uint_vals w64 t)) ⊛ ‵ ftrue in
    qed 𝓛 ((Tokens ⊛ (‵ (RawPtr.own_val a.0 (rawptr_vals a.0)) ⊛ Lent)) ∷ ‵ (counts_at a.0 n places.now) ∷ []) ∵
    split ! $ move ! (1 ∷ []) $ split ! $ drop ! $ move ! (2 ∷ []) $
    -- [the cache; what is lent; the tokens]
    fsplit ! $ move ! (1 ∷ []) $ fpick ! (λ may. drop ! $
    in_a_block ! a.0 (λ p. lies p n) (id⊢ 𝓤 _) (λ b o e.
    regoal ! (λ p. prop (WpFn 𝓤 𝓛.H 𝓣.C 𝓣.Λ code.function (rawptr_vals p ++ (slice_val places.ref_ptr (length places.now) ∷ vint w64 misses ∷ vint w64 t ∷ [])) (W.post (y p)))) e refl $
    enter ! _ _ _ _ _ $ alloc_all ! (λ l. pass_all ! refl ((tt, tt), ((tt, (tt, (record { fits = are.1.0.0.1.0 }, tt))), ((tt, record { fits = are.1.1.0.1 }), ((tt, record { fits = are.1.1.1.0.1 }), tt)))) $
    sets ! (addr ! (through ! refl (stop !))) refl (tt, tt) $
    lft_new ! tt (λ α. move ! (1 ∷ []) $
    let Loan : ℕ → MutBor Cache = λ δ. record { ref_ptr = (b, o); ghost_name = δ; now = n } in
    use1 𝓛 (later (some (λ (δ : ℕ). ‵ ((MutRef (named 0) (α ∷ []) R).own_val (Loan δ) (vptr b o ∷ [])) ⊛ ‵ (flent (α ∷ []) (Body (mem R) b o δ)))))
    (lends_ref 𝓛 R (named 0) (α ∷ []) n b o) $ await ! tt $ pick ! (λ δ. split ! $
    -- [the loan; what the lender keeps; the token of α; what is lent; the tokens]
    let G = triple_of 𝓛 g.signature (g.spec 𝓛 𝓜.mem 𝓡.returns) in
    let z : G.Ghost = (((α ∷ [], κs), (full_share, qs), tt, (Loan δ, (places, (misses, (t, tt)))), (vptr b o ∷ [], (shr_slice_vals places, (uint_vals w64 misses, (uint_vals w64 t, tt))))), tt) in
    move ! (0 ∷ 3 ∷ []) $ join ! $ move ! (2 ∷ 3 ∷ []) $ join ! $ join ! $
    use0 𝓛 (raw (fact 𝓤 (MayCount n places.now))) (fact_i 𝓤 (MayCount n places.now) (emp 𝓤) may) $ move ! (1 ∷ 0 ∷ []) $ use2 𝓛 (raw (G.pre z)) (id⊢ 𝓤 _) $
    calls_at ! (framed 𝓤 𝓛.H 𝓜 (tables 𝓤 𝓛.H 𝓜 𝓡 𝓡.env)) G (met 𝓤 𝓛 𝓜 𝓡 (code.calls-cache_c::cache::Cache::count_shared 𝓡.env wired)) z
    (and_then ! (get ! refl) (and_then ! (get ! refl) (and_then ! (get ! refl) (and_then ! (get ! refl) (no_more !))))) (λ v.
    use1 𝓛 (later (some (λ (r : Bool). ((‵ (flft (α ∷ []) full_share) ⊛ Tokens) ⊛ ‵ (bool.own_val r (v ∷ []))) ⊛
    some (λ (ws : Cache × (Unit {0} × (Unit {0} × (Unit {0} × Unit {0})))). ‵ (lasts g.ended z.0.0 z.0.3 ws) ⊛ (raw (fact 𝓤 (LeavesHeld n ws.0)) ⊛ raw (fact 𝓤 (IsCounted n ws.0 places.now misses t r))))))) (id⊢ 𝓤 _) $
    await ! tt $ pick ! (λ r. split ! $ split ! $ split ! $ lft_end ! tt $
    -- [α has ended; the tokens; the answer; the ensures; what the lender keeps]
    move ! (3 ∷ []) $ pick ! (λ ws. split ! $ move ! (1 ∷ []) $ split ! $ heard ! _ (λ left. heard ! _ (λ counted. fsplit ! $ fsplit ! $
    move ! (3 ∷ 6 ∷ 0 ∷ []) $ use3 𝓛 (later (‵ (lies (block_ptr b o) ws.0))) (ref_back 𝓛 R (α ∷ []) δ ws.0 b o) $ await ! tt $
    -- [the cache; its borrow; nothing; the tokens; the answer]
    move ! (4 ∷ []) $ peeks ! bool (Is bool) (shows 𝓛 bool) r (v ∷ []) (λ is. lands_as ! refl refl ((bool_Lawful 𝓛).typed r _ is).0 $
    returns ! (look_at ! 0 refl) $ free_all ! refl $ keep ! (1 ∷ 0 ∷ 4 ∷ []) $
    suffices ! _ (ends_at 𝓛 f.ended stayed c (y (block_ptr b o)) v r (tt, (tt, (tt, (tt, tt)))) (tt, (tt, (tt, (tt, tt))))) $
    nothing ! $ fpack ! (StandsForCache ws.0) (λ _. ftrue) left.stand $ move ! (1 ∷ 0 ∷ []) $ fjoin ! $
    nothing ! $ fpack ! (LeavesHeld n ws.0 × IsCounted n ws.0 places.now misses t r) (λ _. ftrue) (left, counted) $ move ! (1 ∷ 0 ∷ []) $ fjoin ! $
    fpack ! Cache (λ new. fsep (stands_at (block_ptr b o) new) (fex (LeavesHeld n new × IsCounted n new places.now misses t r) (λ _. ftrue))) ws.0 $ move ! (1 ∷ 0 ∷ []) $
    nothing ! $ nothing ! $ join ! $ nothing ! $ join ! $ nothing ! $ join ! $ nothing ! $ join ! $ move ! (3 ∷ []) $ group ! 3 $ done !))))))))))))
