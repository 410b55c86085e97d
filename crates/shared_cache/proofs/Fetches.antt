-- What a look-up finds, and the event of a value that is copied outside the lock.
use Rattle.std.proofs.Common.{◌≡◌, ◌≢◌, ℕ, zero, suc, ◌+◌, ◌<◌, ◌==◌, ◌&&◌, ◌⊎◌, ⊎_elim, inl, inr, Bool, true, false, not, cond, List, [], ◌∷◌, ◌++◌, length, take, drop, slice_set, slice_index, map, filter, find, Option, Some, None, refl, ap, sym, ◌∙◌, subst, arith}
use Rattle.std.specs.Prelude.{Contains, if◌then◌else◌}
use Rattle.std.specs.Map.{lookup}
use Rattle.std.proofs.lemmas.Bool.{eq-eqb, eqb-true, ne_eqb}
use Rattle.std.proofs.lemmas.List.Elements.{Contains-append_left, Contains-append_right, Contains-append_cases}
use Rattle.std.proofs.lemmas.Map.Entries.{lookup-filter-keys}
use mathlib.Core.Option.{some}
use lib.ListN.{get_elem?}
use Rattle.atomic_table.proofs.Lists.{at_set}
use Rattle.seg_words.specs.declared.layout.TheConstants.{IMAGE_LENGTH}
use Rattle.seg_words.specs.Members.{Contains-later, Contains-first, Contains-map, any_from}
use Rattle.seg_words.specs.Windows.{Aside, is_named}
use Rattle.seg_words.specs.Blocks.{image_place}
use Rattle.php_graph.specs.declared.kind.Kind.{Kind}
use Rattle.php_graph.specs.declared.kind.Kind.TheVariants as kinds
use Rattle.php_graph.specs.Graph.{IsGraph, end_of, child_end}
use Rattle.php_graph.specs.Size.{image_length}
use Rattle.value_image.specs.Image.{IsImageOf, image_of}
use Rattle.apcu_model.specs.declared.request.Request.TheVariants as request
use Rattle.apcu_model.specs.declared.request.Reply.TheVariants as reply
use Rattle.apcu_model.specs.Cache.{Row, Cache, has_key}
use Rattle.apcu_model.specs.Expiry.{live_row, is_hard_expired}
use Rattle.apcu_model.specs.Sequential.{touched, looked_up, found_in}
use Rattle.apcu_model.specs.History.{Stage, window_of, is_scalar, opened, opened_at, after_event}
use Rattle.entry_slots.specs.Lists.{is_at, has_place}
use Rattle.entry_slots.specs.Entries.{listed}
use Rattle.entry_slots.specs.Standing.{IsEntry, entries}
use Rattle.cache_core.specs.declared.cache.Core.{Core}
use Rattle.cache_core.specs.declared.scalar.Scalar.{Scalar}
use Rattle.cache_core.specs.declared.scalar.Scalar.TheVariants as scalars
use Rattle.cache_core.specs.declared.scalar.Look.TheVariants as look
use Rattle.apcu_model.specs.declared.request.Reply.{Reply}
use Rattle.pin_table.specs.contracts.writer.WriterWordsIn.TheImpl.{ghosts}
use Rattle.pin_table.specs.declared.writer.Writer.{Writer}
use Rattle.cache_core.specs.Events.{Does}
use Rattle.cache_core.proofs.Events.{by_now}
use Rattle.cache_core.specs.CoreCache.{cache_of, CoreStands}
use Rattle.cache_core.specs.Looking.{scalar_kind, scalar_of, look_at, look_of}
use Rattle.pin_table.specs.Pins.{MayPin, content_of}
use Rattle.pin_table.specs.Events.{event}
use Rattle.value_image.specs.Laws.{ImagesAreRuns}
use Rattle.shared_cache.specs.Laws.{LockLaws}
use Rattle.shared_cache.specs.PinnedFetches.{scalar_graph}
use Rattle.shared_cache.specs.TiedWindows.{IsTied, AreTied}

found_there : {X : Type 0} (p : X → Bool) (xs : List X) (x : X) → find p xs ≡ Some x → Contains xs x
found_there p [] x h = absurd (cc h)
found_there p (y ∷ ys) x h = go (p y) (found_there p ys x) h
  where
    go : (b : Bool) → (find p ys ≡ Some x → Contains ys x) → cond b (Some y) (find p ys) ≡ Some x → Contains (y ∷ ys) x
    go true later q = let e : y ≡ x = cc q in subst (λ z. Contains (y ∷ ys) z) e (Contains-first y ys)
    go false later q = Contains-later y ys x (later q)

live_there : (key : List ℕ) (t : ℕ) (c : Cache) (row : Row) → live_row key t c ≡ Some row → Contains c.rows row
live_there key t c row h = found_there (λ row. has_key key row && not (is_hard_expired t row)) c.rows row h

-- the row that was found, whose value is copied outside the lock
pub record IsHit (key : List ℕ) (t : ℕ) (c : Cache) (at : ℕ) : Type 0 where
  pub row : Row
  pub live : live_row key t c ≡ Some row
  pub there : Contains c.rows row
  pub place : row.place ≡ at
  pub whole : is_scalar row.graph ≡ false

no_scalar : (g : List Kind) → scalar_of g ≡ None → is_scalar g ≡ false
no_scalar [] h = refl
no_scalar (kinds.Null ∷ ks) h = absurd (cc h)
no_scalar (kinds.Bool b ∷ ks) h = absurd (cc h)
no_scalar (kinds.Int n ∷ ks) h = absurd (cc h)
no_scalar (kinds.Str s ∷ ks) h = refl
no_scalar (kinds.Array ms ∷ ks) h = refl
no_scalar (kinds.Object class ps ∷ ks) h = refl
no_scalar (kinds.Same x ∷ ks) h = refl

pub hit_of : (key : List ℕ) (t : ℕ) (c : Cache) (at : ℕ) → look.Hit at ≡ look_of (live_row key t c) → IsHit key t c at
hit_of key t c at h = go (live_row key t c) refl h
  where
    at_row : (row : Row) → live_row key t c ≡ Some row → (o : Option Scalar) → scalar_of row.graph ≡ o → look.Hit at ≡ look_at row.place o → IsHit key t c at
    at_row row live None none q = record { row = row; live = live; there = live_there key t c row live; place = let e : at ≡ row.place = cc q in sym e; whole = no_scalar row.graph none }
    at_row row live (Some s) is q = absurd (cc q)

    go : (o : Option Row) → live_row key t c ≡ o → look.Hit at ≡ look_of o → IsHit key t c at
    go None live q = absurd (cc q)
    go (Some row) live q = at_row row live (scalar_of row.graph) refl q

pub miss_of : (key : List ℕ) (t : ℕ) (c : Cache) → look.Miss ≡ look_of (live_row key t c) → reply.Absent ≡ found_in (live_row key t c)
miss_of key t c h = go (live_row key t c) h
  where
    at_row : (place : ℕ) (o : Option Scalar) → look.Miss ≡ look_at place o → ⊥
    at_row place None q = absurd (cc q)
    at_row place (Some s) q = absurd (cc q)

    go : (o : Option Row) → look.Miss ≡ look_of o → reply.Absent ≡ found_in o
    go None q = refl
    go (Some row) q = absurd (at_row row.place (scalar_of row.graph) q)

-- a graph whose first place is a scalar has no other place
alone : (ks : List Kind) (kind : Kind) → Some 2 ≡ Some (length (kind ∷ ks) + 1) → kind ∷ ks ≡ kind ∷ []
alone [] kind e = refl
alone (x ∷ xs) kind e = let n : 2 ≡ length (kind ∷ x ∷ xs) + 1 = cc e in absurd (omega (arith, n))

one_place : (kind : Kind) (ks : List Kind) (s : Scalar) → IsGraph (kind ∷ ks) → scalar_kind kind ≡ Some s → kind ∷ ks ≡ scalar_graph s
unfolding child_end end_of
one_place kinds.Null ks s g h = let e : scalars.Null ≡ s = cc h in alone ks kinds.Null g.sealed ∙ ap scalar_graph e
one_place (kinds.Bool b) ks s g h = let e : scalars.Bool b ≡ s = cc h in alone ks (kinds.Bool b) g.sealed ∙ ap scalar_graph e
one_place (kinds.Int n) ks s g h = let e : scalars.Int n ≡ s = cc h in alone ks (kinds.Int n) g.sealed ∙ ap scalar_graph e
one_place (kinds.Str x) ks s g h = absurd (cc h)
one_place (kinds.Array ms) ks s g h = absurd (cc h)
one_place (kinds.Object class ps) ks s g h = absurd (cc h)
one_place (kinds.Same x) ks s g h = absurd (cc h)

pub scalar_found : (core : Core) (words : List ℕ) (aside : Aside) (key : List ℕ) (t : ℕ) (s : Scalar) → CoreStands core words aside
    → look.Scalar s ≡ look_of (live_row key t (cache_of core)) → reply.Found (scalar_graph s) ≡ found_in (live_row key t (cache_of core))
scalar_found core words aside key t s st h = go (live_row key t (cache_of core)) refl h
  where
    whole : (g : List Kind) → IsGraph g → scalar_of g ≡ Some s → g ≡ scalar_graph s
    whole [] is e = absurd (cc e)
    whole (kind ∷ ks) is e = one_place kind ks s is e

    at_row : (row : Row) → live_row key t (cache_of core) ≡ Some row → (o : Option Scalar) → scalar_of row.graph ≡ o → look.Scalar s ≡ look_at row.place o → reply.Found (scalar_graph s) ≡ found_in (Some row)
    at_row row live None none q = absurd (cc q)
    at_row row live (Some x) is q =
        let same : s ≡ x = cc q in
        let entry : IsEntry words row = st.stand.rows row (live_there key t (cache_of core) row live) in
        ap reply.Found (sym (whole row.graph entry.image.graph (is ∙ ap Some (sym same))))

    go : (o : Option Row) → live_row key t (cache_of core) ≡ o → look.Scalar s ≡ look_of o → reply.Found (scalar_graph s) ≡ found_in o
    go None live q = absurd (cc q)
    go (Some row) live q = at_row row live (scalar_of row.graph) refl q

-- the row that was found is still there when it was used, with its place, number and value
pub record Stays (c : Cache) (row : Row) : Type 0 where
  pub kept : Row
  pub there : Contains (c.rows ++ c.removed) kept
  pub place : kept.place ≡ row.place
  pub number : kept.number ≡ row.number

pub used : (key : List ℕ) (t : ℕ) (rows : List Row) (row : Row) → Contains rows row
    → (kept : Row) × Contains (map {A = Row} (λ r. if has_key key r then touched t r else r) rows) kept × (kept.place ≡ row.place) × (kept.number ≡ row.number) × (kept.graph ≡ row.graph)
used key t rows row there =
    let f : Row → Row = λ r. if has_key key r then touched t r else r in
    (f row, Contains-map f rows row there, place (has_key key row), number (has_key key row), graph (has_key key row))
  where
    place : (b : Bool) → (cond b (touched t row) row).place ≡ row.place
    place true = refl
    place false = refl

    number : (b : Bool) → (cond b (touched t row) row).number ≡ row.number
    number true = refl
    number false = refl

    graph : (b : Bool) → (cond b (touched t row) row).graph ≡ row.graph
    graph true = refl
    graph false = refl

still : (key : List ℕ) (t : ℕ) (o : Option Row) (c : Cache) (row : Row) → Contains (c.rows ++ c.removed) row → Stays (looked_up key t o c) row
still key t None c row l = record { kept = row; there = l; place = refl; number = refl }
still key t (Some r) c row l = elim (Contains-append_cases c.rows c.removed row l) [
  | inl k ↦ let u = used key t c.rows row k in record { kept = u.0; there = Contains-append_left (looked_up key t (Some r) c).rows c.removed u.0 u.1; place = u.2; number = u.3 }
  | inr k ↦ record { kept = row; there = Contains-append_right (looked_up key t (Some r) c).rows c.removed row k; place = refl; number = refl }
]

-- the cache as the look-up leaves it
pub looked : {c0 c1 : Core} {w0 w : Writer} {t : ℕ} {key : List ℕ} {y : Reply} → Does ghosts c0 c1 w0 w t (request.Fetch key) y → cache_of c1 ≡ looked_up key t (live_row key t (cache_of c0)) (cache_of c0)
looked {c0} {t = t} {key} does = by_now (λ held. looked_up key t (live_row key t (cache_of c0)) (cache_of c0)) does.cache

-- the row as the look-up left it, in the entries
pub record IsUsed (c : Core) (at : ℕ) (graph : List Kind) : Type 0 where
  pub row : Row
  pub there : Contains (entries c.slots).rows row
  pub place : row.place ≡ at
  pub graph_is : row.graph ≡ graph
  pub in_rows : has_place at (listed (entries c.slots)) ≡ true

pub used_in : (key : List ℕ) (t at : ℕ) (c0 c1 : Core) → (h : IsHit key t (cache_of c0) at) → cache_of c1 ≡ looked_up key t (live_row key t (cache_of c0)) (cache_of c0)
    → IsUsed c1 at h.row.graph
used_in key t at c0 c1 h is =
    let rows : (cache_of c1).rows ≡ (looked_up key t (Some h.row) (cache_of c0)).rows = ap (λ (x : Cache). x.rows) is ∙ ap (λ o. (looked_up key t o (cache_of c0)).rows) h.live in
    let u = used key t (cache_of c0).rows h.row h.there in
    let there : Contains (entries c1.slots).rows u.0 = subst (λ (l : List Row). Contains l u.0) (sym rows) u.1 in
    let place : u.0.place ≡ at = u.2 ∙ h.place in
    record {
      row = u.0;
      there = there;
      place = place;
      graph_is = u.4;
      in_rows = any_from (is_at at) (listed (entries c1.slots)) u.0 (Contains-append_left (entries c1.slots).rows (entries c1.slots).removed u.0 there) (eq-eqb u.0.place at place);
    }

-- its block may be pinned
pub may_pin : LockLaws → (c : Core) (words : List ℕ) (aside : Aside) (at : ℕ) (graph : List Kind) → IsUsed c at graph → CoreStands c words aside → MayPin words aside.windows at
may_pin laws c words aside at graph u st =
    let k = laws.standing.copied c.slots words aside (entries c.slots) at st.stand u.in_rows in
    record { positive = k.positive; count = λ n. k.zero_count; inside = k.inside; apart = k.clear }

-- and a window may open on it
pub core_opened : LockLaws → (c : Core) (words : List ℕ) (old new : Aside) (w at : ℕ) (graph : List Kind) → IsUsed c at graph → new.windows ≡ slice_set old.windows w at
    → CoreStands c words old → CoreStands c words new
core_opened laws c words old new w at graph u is st = record { stand = laws.windows.opened c.slots words old new (entries c.slots) at u.in_rows more st.stand; whole = st.whole }
  where
    more : (x : ℕ) → is_named new.windows x ≡ true → (x ≡ at) ⊎ (is_named old.windows x ≡ true)
    more x n =
        let k = laws.rule.there (slice_set old.windows w at) x (subst (λ l. is_named l x ≡ true) is n) in
        ⊎_elim (λ (q : (k.1.0 ≡ w) × (at ≡ x)). inl (sym q.1)) (λ (q : (k.1.0 ≢ w) × (get_elem? old.windows k.1.0 ≡ some x)). inr (laws.rule.named old.windows k.1.0 x q.1 k.0)) (at_set old.windows w k.1.0 at x k.1.1)

take_all : (l : List ℕ) (n : ℕ) → n ≡ length l → take n l ≡ l
take_all [] zero e = refl
take_all [] (suc n) e = refl
take_all (x ∷ xs) zero e = absurd (omega (arith, e))
take_all (x ∷ xs) (suc n) e = ap (λ t. x ∷ t) (take_all xs n (omega (arith, e)))

-- the words of a pinned block's image are an image from place 0 on
content_image : ImagesAreRuns → (ws : List ℕ) (at len : ℕ) (g : List Kind) → IsImageOf ws (image_place ws at) len g → slice_index ws (at + IMAGE_LENGTH) ≡ len → IsImageOf (content_of ws at) 0 (length (content_of ws at)) g
content_image laws ws at len g im size =
    let long : len ≡ length (image_of g) = im.length_is ∙ sym (laws.long g) in
    let is : content_of ws at ≡ image_of g = ap (λ n. take n (drop (image_place ws at) ws)) (size ∙ long) ∙ laws.run ws (image_place ws at) len g im in
    let whole : IsImageOf (image_of g) 0 (image_length g) g = laws.image (image_of g) 0 g im.graph (take_all (image_of g) (length (image_of g)) refl) in
    subst (λ (l : List ℕ). IsImageOf l 0 (length l) g) (sym is) (subst (λ n. IsImageOf (image_of g) 0 n g) (sym (laws.long g)) whole)

pub found_image : ImagesAreRuns → (c : Core) (words : List ℕ) (aside : Aside) (at : ℕ) (graph : List Kind) → IsUsed c at graph → CoreStands c words aside
    → IsImageOf (content_of words at) 0 (length (content_of words at)) graph
found_image laws c words aside at graph u st =
    let entry : IsEntry words u.row = st.stand.rows u.row u.there in
    subst (λ x. IsImageOf (content_of words x) 0 (length (content_of words x)) graph) u.place
    (subst (λ x. IsImageOf (content_of words u.row.place) 0 (length (content_of words u.row.place)) x) u.graph_is
    (content_image laws words u.row.place (image_length u.row.graph) u.row.graph entry.image entry.value_length))

-- after a look-up that found a value to be copied, with the window of its worker on the row's block
pub tied_opened : (m : Stage) (w t mask at : ℕ) (key : List ℕ) (windows : List ℕ) → IsHit key t m.cache at
    → ((v x : ℕ) → get_elem? windows v ≡ some x → 0 < x → v ≢ w → IsTied m v x)
    → AreTied (after_event m (event w t (request.Fetch key) mask)) (slice_set windows w at)
tied_opened m w t mask at key windows hit tied v x h pos =
    ⊎_elim (λ (q : (v ≡ w) × (at ≡ x)). mine q.0 q.1) (λ (q : (v ≢ w) × (get_elem? windows v ≡ some x)). others q.0 (tied v x q.1 pos q.0)) (at_set windows w v at x h)
  where
    opens : opened w t (request.Fetch key) m.cache ≡ (w, hit.row.number) ∷ []
    opens = ap (opened_at w) hit.live ∙ rw hit.whole refl

    after : (v : ℕ) → (b : Bool) → (w == v) ≡ b → window_of (after_event m (event w t (request.Fetch key) mask)) v ≡ cond b (Some hit.row.number) (lookup (λ y. y == v) (filter (λ (y : ℕ × ℕ). not (y.0 == w)) m.windows))
    after v b is = ap (λ l. lookup (λ y. y == v) (l ++ filter (λ (y : ℕ × ℕ). not (y.0 == w)) m.windows)) opens
        ∙ ap (λ b. cond b (Some hit.row.number) (lookup (λ y. y == v) (filter (λ (y : ℕ × ℕ). not (y.0 == w)) m.windows))) is

    mine : v ≡ w → at ≡ x → IsTied (after_event m (event w t (request.Fetch key) mask)) v x
    mine q p =
        let s = still key t (live_row key t m.cache) m.cache hit.row (Contains-append_left m.cache.rows m.cache.removed hit.row hit.there) in
        record { row = s.kept; there = s.there; place = s.place ∙ (hit.place ∙ p); window = after v true (eq-eqb w v (sym q)) ∙ ap Some (sym s.number) }

    others : v ≢ w → IsTied m v x → IsTied (after_event m (event w t (request.Fetch key) mask)) v x
    others ne k =
        let s = still key t (live_row key t m.cache) m.cache k.row k.there in
        record {
          row = s.kept;
          there = s.there;
          place = s.place ∙ k.place;
          window = after v false (ne_eqb w v (λ q. ne (sym q)))
              ∙ (lookup-filter-keys (λ y. y == v) (λ n. not (n == w)) true (λ n h. ap not (ne_eqb n w (λ q. ne (sym (eqb-true n v h) ∙ q)))) m.windows
              ∙ (k.window ∙ ap Some (sym s.number)));
        }
