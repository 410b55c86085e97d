-- Each worker has one window, and that is never one of a row that holds a scalar.
use Rattle.std.proofs.Common.{◌≡◌, ◌≢◌, ℕ, ◌+◌, ◌*◌, ◌^◌, ◌<◌, ◌≤◌, ◌==◌, ◌&&◌, ◌⊎◌, inl, inr, Bool, true, false, not, cond, if◌then◌else◌, List, [], ◌∷◌, ◌++◌, length, filter, Option, Some, None, refl, ap, sym, ◌∙◌, subst, arith}
use Rattle.std.specs.Prelude.{Contains}
use Rattle.std.specs.Map.{lookup}
use Rattle.std.proofs.lemmas.Bool.{and_parts, eq-eqb, eqb-true, ne_eqb, false≢true}
use Rattle.std.proofs.lemmas.Map.Entries.{lookup-filter-keys}
use Rattle.std.proofs.lemmas.List.Elements.{Contains-append_left, Contains-append_cases}
use Rattle.apcu_model.specs.declared.conf.Conf.{Conf}
use Rattle.apcu_model.specs.declared.request.Event.{Event}
use Rattle.apcu_model.specs.declared.journal.TheConstants.{MOST_EVENTS}
use Rattle.apcu_model.specs.declared.request.Request.{Request}
use Rattle.apcu_model.specs.declared.request.Request.TheVariants as request
use Rattle.apcu_model.specs.Cache.{Row, Cache, has_key}
use Rattle.apcu_model.specs.Expiry.{is_hard_expired, live_row}
use Rattle.apcu_model.specs.History.{Stage, start_of, is_scalar, is_shallow, are_shallow, opened, opened_at, window_of, held_places, after_event, after_events, IsNumbered, stage_of}
use Rattle.apcu_model.proofs.KeyLookups.{found_there}
use Rattle.apcu_model.proofs.RowNumbers.{Numbers, Grown, grown_after, numbers_start}
use Rattle.seg_words.specs.Members.{Contains-cases, Contains-filter, none_in_nil}

-- one window for each worker
abbrev Single : List (ℕ × ℕ) → Type 0
Single ws = (w : ℕ × ℕ) → Contains ws w → lookup (λ x. x == w.0) ws ≡ Some w.1

single_after : (worker : ℕ) (new ws : List (ℕ × ℕ)) → (new ≡ []) ⊎ ((n : ℕ) × (new ≡ (worker, n) ∷ [])) → Single ws → Single (new ++ filter (λ (w : ℕ × ℕ). not (w.0 == worker)) ws)
single_after worker new ws which single w h = elim which [
  | inl e ↦ subst (λ l. lookup (λ x. x == w.0) (l ++ filter (λ (w : ℕ × ℕ). not (w.0 == worker)) ws) ≡ Some w.1) (sym e) (old w (subst (λ l. Contains (l ++ filter (λ (w : ℕ × ℕ). not (w.0 == worker)) ws) w) e h))
  | inr e ↦ subst (λ l. lookup (λ x. x == w.0) (l ++ filter (λ (w : ℕ × ℕ). not (w.0 == worker)) ws) ≡ Some w.1) (sym e.1) (first e.0 w (Contains-cases (worker, e.0) (filter (λ (w : ℕ × ℕ). not (w.0 == worker)) ws) w (subst (λ l. Contains (l ++ filter (λ (w : ℕ × ℕ). not (w.0 == worker)) ws) w) e.1 h)))
]
  where
    other : (w : ℕ × ℕ) → Contains (filter (λ (w : ℕ × ℕ). not (w.0 == worker)) ws) w → w.0 ≢ worker
    other w c e = let k = Contains-filter (λ (w : ℕ × ℕ). not (w.0 == worker)) ws w c in false≢true (sym (ap not (eq-eqb w.0 worker e)) ∙ k.1)

    old : (w : ℕ × ℕ) → Contains (filter (λ (w : ℕ × ℕ). not (w.0 == worker)) ws) w → lookup (λ x. x == w.0) (filter (λ (w : ℕ × ℕ). not (w.0 == worker)) ws) ≡ Some w.1
    old w c = lookup-filter-keys (λ x. x == w.0) (λ k. not (k == worker)) true (λ k q. ap not (ne_eqb k worker (λ e. other w c (sym (eqb-true k w.0 q) ∙ e)))) ws ∙ single w (Contains-filter (λ (w : ℕ × ℕ). not (w.0 == worker)) ws w c).0

    first : (n : ℕ) (w : ℕ × ℕ) → ((worker, n) ≡ w) ⊎ Contains (filter (λ (w : ℕ × ℕ). not (w.0 == worker)) ws) w → cond (worker == w.0) (Some n) (lookup (λ x. x == w.0) (filter (λ (w : ℕ × ℕ). not (w.0 == worker)) ws)) ≡ Some w.1
    first n w (inl e) = rw (eq-eqb worker w.0 (ap (λ (q : ℕ × ℕ). q.0) e)) (ap (λ (q : ℕ × ℕ). Some q.1) e)
    first n w (inr c) = rw (ne_eqb worker w.0 (λ e. other w c (sym e))) (old w c)

abbrev kept : ℕ → Row → Bool → List (ℕ × ℕ)
kept worker row b = if b then [] else (worker, row.number) ∷ []

-- a request opens no window, or one on a row that it found and that holds no scalar
abbrev OpensOn : ℕ → Cache → List (ℕ × ℕ) → Type 0
OpensOn worker c new = (new ≡ []) ⊎ ((row : Row) × Contains (c.rows ++ c.removed) row × (is_scalar row.graph ≡ false) × (new ≡ (worker, row.number) ∷ []))

opened_one : (worker t : ℕ) (r : Request) (c : Cache) → OpensOn worker c (opened worker t r c)
opened_one worker t (request.Fetch key) c = go (live_row key t c) refl
  where
    scalar : (row : Row) → live_row key t c ≡ Some row → (b : Bool) → is_scalar row.graph ≡ b → OpensOn worker c (kept worker row b)
    scalar row live true is = inl refl
    scalar row live false is = inr (row, Contains-append_left c.rows c.removed row (found_there (λ row. has_key key row && not (is_hard_expired t row)) c.rows row live).0, is, refl)

    go : (o : Option Row) → live_row key t c ≡ o → OpensOn worker c (opened_at worker o)
    go None live = inl refl
    go (Some row) live = scalar row live (is_scalar row.graph) refl
opened_one worker t _ c = inl refl

one_number : (worker : ℕ) (c : Cache) (new : List (ℕ × ℕ)) → OpensOn worker c new → (new ≡ []) ⊎ ((n : ℕ) × (new ≡ (worker, n) ∷ []))
one_number worker c new (inl e) = inl e
one_number worker c new (inr o) = inr (o.0.number, o.3)

-- the windows are of rows that are numbered already and hold no scalar
record Whole (c : Cache) (ws : List (ℕ × ℕ)) : Type 0 where
  pub below : (w : ℕ × ℕ) → Contains ws w → w.1 < c.next_number
  pub whole : (w : ℕ × ℕ) (row : Row) → Contains ws w → Contains (c.rows ++ c.removed) row → row.number ≡ w.1 → is_scalar row.graph ≡ false

whole_after : (worker : ℕ) (c c' : Cache) (new ws : List (ℕ × ℕ)) → OpensOn worker c new → Numbers c → Grown 8 c c' → Whole c ws → Whole c' (new ++ filter (λ (w : ℕ × ℕ). not (w.0 == worker)) ws)
whole_after worker c c' new ws opens num grown h = record {
  below = λ w l. elim (cases w l) [ inl k ↦ omega (arith, grown.more, h.below w k) | inr o ↦ omega (arith, grown.more, num.below o.0 o.1, o.3) ];
  whole = λ w row l there e. elim (cases w l) [
    | inl k ↦
        let p = grown.old row there (omega (arith, h.below w k, e)) in
        sym p.2.scalar ∙ h.whole w p.0 k p.1 (p.2.number ∙ e)
    | inr o ↦
        let p = grown.old row there (omega (arith, num.below o.0 o.1, o.3, e)) in
        sym p.2.scalar ∙ ((num.apart p.0 o.0 p.1 o.1 (p.2.number ∙ (e ∙ sym o.3))).scalar ∙ o.2)
  ];
}
  where
    rest : List (ℕ × ℕ)
    rest = filter (λ (w : ℕ × ℕ). not (w.0 == worker)) ws

    cases : (w : ℕ × ℕ) → Contains (new ++ rest) w → Contains ws w ⊎ ((row : Row) × Contains (c.rows ++ c.removed) row × (is_scalar row.graph ≡ false) × (row.number ≡ w.1))
    cases w l = elim (Contains-append_cases new rest w l) [
      | inl k ↦ elim opens [
        | inl e ↦ absurd (none_in_nil w (subst (λ (x : List (ℕ × ℕ)). Contains x w) e k))
        | inr o ↦ elim (Contains-cases (worker, o.0.number) [] w (subst (λ (x : List (ℕ × ℕ)). Contains x w) o.3 k)) [
          | inl e ↦ inr (o.0, o.1, o.2, ap (λ (q : ℕ × ℕ). q.1) e)
          | inr m ↦ absurd (none_in_nil w m)
        ]
      ]
      | inr k ↦ inl (Contains-filter (λ (w : ℕ × ℕ). not (w.0 == worker)) ws w k).0
    ]

-- what holds of a stage
record Ordered (m : Stage) : Type 0 where
  pub numbers : Numbers m.cache
  pub single : Single m.windows
  pub whole : Whole m.cache m.windows

-- from any stage on, for as many events as the numbers last
grown_all : (m : Stage) (h : List Event) → Ordered m → m.cache.next_number + 8 * length h < 2 ^ 64 → are_shallow h ≡ true → Ordered (after_events m h)
grown_all m [] o small shallow = o
grown_all m (e ∷ h) o small shallow =
    let few = and_parts (is_shallow e.request) (are_shallow h) shallow in
    let g = grown_after (held_places m e.mask) e.t e.request m.cache o.numbers (omega (arith, small)) few.0 in
    let new = opened e.worker e.t e.request m.cache in
    let opens = opened_one e.worker e.t e.request m.cache in
    let next : Ordered (after_event m e) = record {
      numbers = g.numbers;
      single = single_after e.worker new m.windows (one_number e.worker m.cache new opens) o.single;
      whole = whole_after e.worker m.cache (after_event m e).cache new m.windows opens o.numbers g o.whole;
    } in
    grown_all (after_event m e) h next (omega (arith, small, g.next)) few.1

pub is_numbered : (conf : Conf) (h : List Event) → length h ≤ MOST_EVENTS → are_shallow h ≡ true → IsNumbered (stage_of conf h)
is_numbered conf h short shallow =
    let start : Ordered (start_of conf) = record {
      numbers = numbers_start conf;
      single = λ w c. absurd (none_in_nil w c);
      whole = record { below = λ w c. absurd (none_in_nil w c); whole = λ w row c. absurd (none_in_nil w c) };
    } in
    let g = grown_all (start_of conf) h start (omega (arith, short)) shallow in
    record { one = g.single; numbers = λ p q c d e. (g.numbers.apart p q c d e).place; whole = g.whole.whole }

-- ---- whose windows change

-- what an event opens is a window of its own worker
opens_own : (w v : ℕ) → v ≢ w → (t : ℕ) (r : Request) (c : Cache) (l : List (ℕ × ℕ)) → lookup (λ x. x == v) (opened w t r c ++ l) ≡ lookup (λ x. x == v) l
opens_own w v ne t (request.Fetch key) c l = found (live_row key t c)
  where
    other : (w == v) ≡ false
    other = ne_eqb w v (λ q. ne (sym q))

    one : (b : Bool) (n : ℕ) → lookup (λ x. x == v) (cond b [] ((w, n) ∷ []) ++ l) ≡ lookup (λ x. x == v) l
    one true n = refl
    one false n = ap (λ b. cond b (Some n) (lookup (λ x. x == v) l)) other

    found : (o : Option Row) → lookup (λ x. x == v) (opened_at w o ++ l) ≡ lookup (λ x. x == v) l
    found None = refl
    found (Some row) = one (is_scalar row.graph) row.number
opens_own w v ne t _ c l = refl

-- the windows of others stay as they were
pub window_stays : (m : Stage) (e : Event) (v : ℕ) → v ≢ e.worker → window_of (after_event m e) v ≡ window_of m v
window_stays m e v other =
    opens_own e.worker v other e.t e.request m.cache (filter (λ (w : ℕ × ℕ). not (w.0 == e.worker)) m.windows)
    ∙ lookup-filter-keys (λ x. x == v) (λ k. not (k == e.worker)) true (λ k h. ap not (ne_eqb k e.worker (λ q. other (sym (eqb-true k v h) ∙ q)))) m.windows
