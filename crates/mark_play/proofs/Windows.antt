-- The windows of workers after an event.
use Rattle.std.proofs.Common.{◌≡◌, inl, inr, ℕ, ◌<◌, ◌==◌, ◌&&◌, Bool, true, false, not, cond, List, [], ◌∷◌, ◌++◌, length, filter, Option, Some, None, refl, ap, sym, ◌∙◌, subst, arith, get_or-set_same, get_or-set_other}
use Rattle.std.specs.Prelude.{Contains, slice_index_or, slice_set, find}
use Rattle.std.specs.Map.{lookup}
use Rattle.std.proofs.lemmas.Bool.{and_parts, eq-eqb, cases_eq, le-leb}
use Rattle.std.proofs.lemmas.List.Elements.{Contains-append_left}
use Rattle.std.proofs.lemmas.Slice.Eq.{bytes_eq-Decides}
use Rattle.apcu_model.specs.declared.conf.Conf.{Conf}
use Rattle.apcu_model.specs.declared.request.Event.{Event}
use Rattle.apcu_model.specs.declared.searching.Pattern.{Pattern}
use Rattle.apcu_model.specs.declared.request.Request.{Request}
use Rattle.apcu_model.specs.declared.request.Request.TheVariants as request
use Rattle.apcu_model.specs.Cache.{Row, Cache, has_key}
use Rattle.apcu_model.specs.Expiry.{live_row, is_hard_expired}
use Rattle.apcu_model.specs.Levels.{most_levels}
use Rattle.apcu_model.specs.History.{Stage, window_of, is_scalar, is_shallow, opened, opened_at, after_event}
use Rattle.apcu_model.specs.Numbers.{AreBelow, KeepsNumbers}
use Rattle.apcu_model.proofs.Windows.{window_stays}
use Rattle.mark_play.specs.declared.answering.Window.{Window}
use Rattle.mark_play.specs.Asks.{MayBeAsked}
use Rattle.mark_play.specs.Windows.{window_on, window_by}
use Rattle.mark_play.specs.ReplayStages.{window_number, IsWindowIn}
use Rattle.mark_play.proofs.FoundRows.{found_there, found_passes}

-- ---- in the history

none_own : (w : ℕ) (ws : List (ℕ × ℕ)) → lookup (λ x. x == w) (filter (λ (x : ℕ × ℕ). not (x.0 == w)) ws) ≡ None
none_own w [] = refl
none_own w (x ∷ ws) = go (x.0 == w) refl (none_own w ws)
  where
    go : (b : Bool) → (x.0 == w) ≡ b → lookup (λ x. x == w) (filter (λ (x : ℕ × ℕ). not (x.0 == w)) ws) ≡ None
        → lookup (λ x. x == w) (cond (not b) (x ∷ filter (λ (x : ℕ × ℕ). not (x.0 == w)) ws) (filter (λ (x : ℕ × ℕ). not (x.0 == w)) ws)) ≡ None
    go true is rest = rest
    go false is rest = ap (λ b. cond b (Some x.1) (lookup (λ x. x == w) (filter (λ (x : ℕ × ℕ). not (x.0 == w)) ws))) is ∙ rest

own_of : (w t : ℕ) (r : Request) (c : Cache) (l : List (ℕ × ℕ)) → lookup (λ x. x == w) l ≡ None → lookup (λ x. x == w) (opened w t r c ++ l) ≡ window_number (window_by t r c)
own_of w t (request.Fetch key) c l none = found (live_row key t c)
  where
    one : (b : Bool) (n : ℕ) → lookup (λ x. x == w) (cond b [] ((w, n) ∷ []) ++ l) ≡ window_number (cond b None (Some (record { key = key; number = n })))
    one true n = none
    one false n = ap (λ b. cond b (Some n) (lookup (λ x. x == w) l)) (eq-eqb w w refl)

    found : (o : Option Row) → lookup (λ x. x == w) (opened_at w o ++ l) ≡ window_number (window_on key o)
    found None = none
    found (Some row) = one (is_scalar row.graph) row.number
own_of w t _ c l none = none

-- the event's own worker has the window that its request opens
pub window_own : (m : Stage) (e : Event) → window_of (after_event m e) e.worker ≡ window_number (window_by e.t e.request m.cache)
window_own m e = own_of e.worker e.t e.request m.cache (filter (λ (w : ℕ × ℕ). not (w.0 == e.worker)) m.windows) (none_own e.worker m.windows)

-- ---- besides the words

-- all windows are as in the history, where the worker's is the new one
pub numbers_after : (m : Stage) (e : Event) (windows : List (Option Window)) (o : Option Window) → length windows ≡ 64 → e.worker < 64 → o ≡ window_by e.t e.request m.cache
    → ((v : ℕ) → v < 64 → window_number (slice_index_or windows v None) ≡ window_of m v)
    → (v : ℕ) → v < 64 → window_number (slice_index_or (slice_set windows e.worker o) v None) ≡ window_of (after_event m e) v
numbers_after m e windows o full low is numbers v less = elim (cases_eq v e.worker) [
  | inl q ↦
      subst (λ k. window_number (slice_index_or (slice_set windows e.worker o) k None) ≡ window_of (after_event m e) k) (sym q)
      (ap window_number (get_or-set_same windows e.worker o None (omega (arith, full, low))) ∙ (ap window_number is ∙ sym (window_own m e)))
  | inr ne ↦ ap window_number (get_or-set_other windows e.worker v o None ne) ∙ (numbers v less ∙ sym (window_stays m e v ne))
]

-- a window stays one
pub window_onward : (c d : Cache) (w : Window) → KeepsNumbers c d → IsWindowIn c w → IsWindowIn d w
window_onward c d w keeps old = record {
  below = omega (arith, keeps.next, old.below);
  key = λ row there e.
      let k = keeps.rows row there (omega (arith, e, old.below)) in
      sym k.2.key ∙ old.key k.0 k.1 (k.2.number ∙ e);
}

found_live : (key : List ℕ) (t : ℕ) (rows : List Row) (row : Row) → find (λ (row : Row). has_key key row && not (is_hard_expired t row)) rows ≡ Some row → Contains rows row × (row.key ≡ key)
found_live key t rows row h = (found_there (λ (row : Row). has_key key row && not (is_hard_expired t row)) rows row h, (bytes_eq-Decides row.key key).0 (and_parts (has_key key row) (not (is_hard_expired t row)) (found_passes (λ (row : Row). has_key key row && not (is_hard_expired t row)) rows row h)).0)

-- and so is the one that a request opens
pub window_new : (t : ℕ) (r : Request) (c : Cache) (w : Window) → AreBelow c
    → ((p q : Row) → Contains (c.rows ++ c.removed) p → Contains (c.rows ++ c.removed) q → p.number ≡ q.number → p ≡ q)
    → window_by t r c ≡ Some w → IsWindowIn c w
window_new t (request.Fetch key) c w below one is = go (live_row key t c) refl is
  where
    at : (row : Row) → live_row key t c ≡ Some row → Some (record { key = key; number = row.number }) ≡ Some w → IsWindowIn c w
    at row live q =
        let f = found_live key t c.rows row live in
        let there = Contains-append_left c.rows c.removed row f.0 in
        let made : Window = record { key = key; number = row.number } in
        let same : made ≡ w = cc q in
        subst (IsWindowIn c) same (record {
          below = below row there;
          key = λ other c2 e. ap (λ (x : Row). x.key) (one other row c2 there e) ∙ f.1;
        })

    some : (row : Row) → live_row key t c ≡ Some row → (b : Bool) → cond b None (Some (record { key = key; number = row.number })) ≡ Some w → IsWindowIn c w
    some row live true q = absurd (cc q)
    some row live false q = at row live q

    go : (o : Option Row) → live_row key t c ≡ o → window_on key o ≡ Some w → IsWindowIn c w
    go None live q = absurd (cc q)
    go (Some row) live q = some row live (is_scalar row.graph) q
window_new t _ c w below one is = absurd (cc is)

-- all windows stay windows
pub keys_after : (c d : Cache) (windows : List (Option Window)) (worker : ℕ) (o : Option Window) → length windows ≡ 64 → worker < 64 → KeepsNumbers c d
    → ((w : Window) → o ≡ Some w → IsWindowIn c w) → ((v : ℕ) (w : Window) → slice_index_or windows v None ≡ Some w → IsWindowIn c w)
    → (v : ℕ) (w : Window) → slice_index_or (slice_set windows worker o) v None ≡ Some w → IsWindowIn d w
keys_after c d windows worker o full low keeps new old v w is = elim (cases_eq v worker) [
  | inl q ↦
      let here : o ≡ Some w = sym (get_or-set_same windows worker o None (omega (arith, full, low))) ∙ subst (λ k. slice_index_or (slice_set windows worker o) k None ≡ Some w) q is in
      window_onward c d w keeps (new w here)
  | inr ne ↦ window_onward c d w keeps (old v w (sym (get_or-set_other windows worker v o None ne) ∙ is))
]

-- what may be asked has few enough entries in one another
pub flat_ask : (conf : Conf) (searched : Option Pattern) (r : Request) → MayBeAsked conf searched r → is_shallow r ≡ true
flat_ask conf searched (request.Entry g) may = le-leb (length g.levels) most_levels may
flat_ask conf searched _ may = refl
