-- `cache_let_go_unchecked` meets its contract: the cache is lent for a lifetime that is made for
-- the call of `let_go`, and returned when it has ended.
use Rattle.cache_c.proofs.Steps.{[], ◌∷◌, ◌++◌, refl, proved, full_share, id⊢, emp, ftrue, fex, flft, flent, fsep, named, vint, vptr, fact, fact_i, tables, ‵, raw, ◌⊛◌, some, later, prop, ◌$◌, ◌∵◌, !, qed, done, move, keep, drop, use0, use1, use2, use3, split, join, fsplit, fjoin, fpack, fpick, pick, await, regoal, suffices, group, enter, addr, stop, no_more, and_then, returns, alloc_all, pass_all, free_all, look_at, get, through, sets, lands_as, bool, yes, uint_Makes, uint_vals, uint_Tells, Ptr, RawPtr, block_ptr, in_a_block, rawptr_vals, rawptr_Tells, MutRef, MutBor, plain, nothing, owned, heard, peeks, calls_at, lasts, on_entry, triple_of, Stays, walk_of, stay_dropped, Goes-dropped, ends_at, framed}
use Rattle.std.proofs.Common.{ℕ, w32, Bool}
use prog.Wp.{WpFn}
use denote.Builtin.{u32}
use denote.Laws.{Is, shows}
use denote.Lend.{lends_ref, ref_back}
use denote.Memory.{mem}
use denote.Plain.{bool_Lawful}
use types.SemTy.{Body}
use types.Tokens.{lft_new, lft_end}
use Rattle.cache_c.specs.declared.cache.Cache.{Cache}
use Rattle.cache_c.specs.Memory.{stands_at, lies}
use Rattle.cache_c.specs.Standing.{StandsForCache}
use Rattle.cache_c.specs.Asked.{HasLetGo}
use Rattle.cache_c.specs.contracts.cache_let_go_unchecked as f
use Rattle.cache_c.proofs.cache_let_go_unchecked.Statement.{statement}
use Rattle.cache_c.proofs.cache_let_go_unchecked.Code as code
use Rattle.cache_c.specs.contracts.cache.Cache.{the_row as R}
use Rattle.cache_c.specs.contracts.cache.Cache.let_go as g
use Rattle.cache_c.proofs.cache.Cache.let_go.Met.{met}

abbrev stayed : Stays f.ended.signature.params f.ended.kept
stayed = (stay_dropped _ yes, (stay_dropped _ yes, tt))

pub cache_let_go_unchecked_spec : {M : Type 1} → statement M
cache_let_go_unchecked_spec 𝓤 𝓛 𝓜 𝓡 wired =
    let c = f.clauses 𝓛 𝓜.mem 𝓡.returns in let W = walk_of 𝓛 f.ended stayed c in let 𝓣 = tables 𝓤 𝓛.H 𝓜 𝓡 𝓡.env in
    proved 𝓛 f.ended stayed c 𝓜 𝓡 (Goes-dropped 𝓛 0 (plain (λ _. RawPtr)) yes (λ κs x w. refl), (Goes-dropped 𝓛 0 (plain (λ _. u32)) yes (λ κs x w. refl), tt))
    f.Key.name code.function (code.unfolded 𝓤 𝓛.H 𝓜 𝓡 wired)
    (λ κs. (rawptr_vals, (uint_vals w32, tt))) (λ κs. (rawptr_Tells, (uint_Tells w32, tt))) (λ κs qs bounds a n are.
    let seat = a.1.0 in
    let y : Ptr → W.Ghost = λ p. ((κs, qs, bounds, (p, (seat, tt)), (rawptr_vals p, (uint_vals w32 seat, tt))), n) in
    qed 𝓛 (raw (on_entry 𝓛 f.signature κs qs a (y a.0).0.4) ∷ ‵ (stands_at a.0 n) ∷ []) ∵ drop ! $
    fsplit ! $ move ! (1 ∷ []) $ fpick ! (λ stand. drop ! $
    in_a_block ! a.0 (λ p. lies p n) (id⊢ 𝓤 _) (λ b o e.
    regoal ! (λ p. prop (WpFn 𝓤 𝓛.H 𝓣.C 𝓣.Λ code.function (rawptr_vals p ++ (vint w32 seat ∷ [])) (W.post (y p)))) e refl $
    enter ! _ _ _ _ _ $ alloc_all ! (λ l. pass_all ! refl ((tt, tt), ((tt, record { fits = are.1.0.1 }), tt)) $
    sets ! (addr ! (through ! refl (stop !))) refl (tt, tt) $
    lft_new ! tt (λ α. move ! (1 ∷ []) $
    let Loan : ℕ → MutBor Cache = λ δ. record { ref_ptr = (b, o); ghost_name = δ; now = n } in
    use1 𝓛 (later (some (λ (δ : ℕ). ‵ ((MutRef (named 0) (α ∷ []) R).own_val (Loan δ) (vptr b o ∷ [])) ⊛ ‵ (flent (α ∷ []) (Body (mem R) b o δ)))))
    (lends_ref 𝓛 R (named 0) (α ∷ []) n b o) $ await ! tt $ pick ! (λ δ. split ! $
    -- [the loan; what the lender keeps; the token of α]
    let G = triple_of 𝓛 g.signature (g.spec 𝓛 𝓜.mem 𝓡.returns) in
    let z : G.Ghost = (((α ∷ [], tt), (full_share, tt), tt, (Loan δ, (seat, tt)), (vptr b o ∷ [], (vint w32 seat ∷ [], tt))), tt) in
    nothing ! $ owned ! u32 _ (uint_Makes 𝓛 w32) seat _ (refl, are.1.0.1) $ join ! $ move ! (1 ∷ 0 ∷ []) $ join ! $
    nothing ! $ move ! (3 ∷ 0 ∷ []) $ join ! $ join ! $
    use0 𝓛 (raw (fact 𝓤 (StandsForCache n))) (fact_i 𝓤 (StandsForCache n) (emp 𝓤) stand) $ move ! (1 ∷ 0 ∷ []) $ use2 𝓛 (raw (G.pre z)) (id⊢ 𝓤 _) $
    calls_at ! (framed 𝓤 𝓛.H 𝓜 𝓣) G (met 𝓤 𝓛 𝓜 𝓡 (code.calls-cache_c::cache::Cache::let_go 𝓡.env wired)) z
    (and_then ! (get ! refl) (and_then ! (get ! refl) (no_more !))) (λ v.
    use1 𝓛 (later (some (λ (r : Bool). ((‵ (flft (α ∷ []) full_share) ⊛ ‵ ftrue) ⊛ ‵ (bool.own_val r (v ∷ []))) ⊛
    some (λ (ws : Cache × (Unit {0} × Unit {0})). ‵ (lasts g.ended z.0.0 z.0.3 ws) ⊛ (raw (fact 𝓤 (StandsForCache ws.0)) ⊛ raw (fact 𝓤 (HasLetGo n ws.0 seat r))))))) (id⊢ 𝓤 _) $
    await ! tt $ pick ! (λ r. split ! $ split ! $ split ! $ lft_end ! tt $
    -- [α has ended; nothing; the answer; the ensures; what the lender keeps]
    move ! (3 ∷ []) $ pick ! (λ ws. split ! $ move ! (1 ∷ []) $ split ! $ heard ! _ (λ stands. heard ! _ (λ gone. fsplit ! $ fsplit ! $
    move ! (3 ∷ 6 ∷ 0 ∷ []) $ use3 𝓛 (later (‵ (lies (block_ptr b o) ws.0))) (ref_back 𝓛 R (α ∷ []) δ ws.0 b o) $ await ! tt $
    -- [the cache; its borrow; nothing; nothing; the answer]
    move ! (4 ∷ []) $ peeks ! bool (Is bool) (shows 𝓛 bool) r (v ∷ []) (λ is. lands_as ! refl refl ((bool_Lawful 𝓛).typed r _ is).0 $
    returns ! (look_at ! 0 refl) $ free_all ! refl $ keep ! (1 ∷ 0 ∷ []) $
    suffices ! _ (ends_at 𝓛 f.ended stayed c (y (block_ptr b o)) v r (tt, (tt, tt)) (tt, (tt, tt))) $
    nothing ! $ fpack ! (StandsForCache ws.0) (λ _. ftrue) stands $ move ! (1 ∷ 0 ∷ []) $ fjoin ! $
    nothing ! $ fpack ! (HasLetGo n ws.0 seat r) (λ _. ftrue) gone $ move ! (1 ∷ 0 ∷ []) $ fjoin ! $
    fpack ! Cache (λ new. fsep (stands_at (block_ptr b o) new) (fex (HasLetGo n new seat r) (λ _. ftrue))) ws.0 $ move ! (1 ∷ 0 ∷ []) $
    nothing ! $ nothing ! $ join ! $ nothing ! $ join ! $ nothing ! $ group ! 3 $ done !))))))))))))
