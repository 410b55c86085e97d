-- How far the search for a chain's word has come.
use Rattle.std.proofs.Common.{◌≡◌, ◌≢◌, ◌⊎◌, inl, inr, ℕ, ◌+◌, ◌<◌, ◌≤◌, ◌^◌, true, false, List, [], ◌∷◌, ◌++◌, length, slice_index, refl, sym, ap, ◌∙◌, subst, arith, length-append}
use Rattle.std.proofs.lemmas.Bool.{false≢true, or_from, ne_eqb}
use Rattle.std.proofs.lemmas.List.{append_assoc, append-nil}
use Rattle.std.proofs.lemmas.List.Folds.{list_any-append}
use Rattle.std.proofs.lemmas.List.Elements.{Contains-append_left, Contains-append_right}
use Rattle.std.specs.List.{Contains}
use Rattle.entry_slots.specs.declared.head.TheConstants.{NEXT}
use Rattle.seg_words.specs.Windows.{Aside}
use Rattle.apcu_model.specs.Cache.{Row}
use Rattle.entry_slots.specs.declared.slots.EntrySlots.{EntrySlots}
use Rattle.entry_slots.specs.Lists.{is_at, has_place}
use Rattle.entry_slots.specs.Standing.{IsRowChain}
use Rattle.entry_slots.specs.Links.{link_after, IsLinkTo}
use Rattle.seg_words.specs.Members.{Contains-first}
use Rattle.entry_slots.proofs.RowBlocks.{room}
use Rattle.entry_slots.proofs.Chains.{AreHome}
use Rattle.entry_slots.proofs.ChainCuts.{Spot, spot_after}

-- this many rows were passed, none of them at the target, and `link` names what follows
pub record Way (ws : List ℕ) (first : ℕ) (chain : List Row) (target link passed : ℕ) : Type 0 where
  pub front : List Row
  pub back : List Row
  pub split : chain ≡ front ++ back
  pub many : length front ≡ passed
  pub none : has_place target front ≡ false
  pub link_is : link ≡ link_after first front
  pub rest : IsRowChain ws (slice_index ws link) back

abbrev Target : List Row → ℕ → Type 0
Target chain target = (target ≡ 0) ⊎ (has_place target chain ≡ true)

pub way_found : {ws : List ℕ} {first : ℕ} {chain : List Row} {target link passed : ℕ} → Way ws first chain target link passed → slice_index ws link ≡ target → IsLinkTo ws first chain target link
way_found {ws} {first} {chain} {target} {link} {passed} h e = record { front = h.front; back = h.back; split = h.split; follows = h.link_is; word = e; rest = subst (λ (n : ℕ). IsRowChain ws n h.back) e h.rest }

-- where nothing follows, the target is 0
way_none : {ws : List ℕ} {first : ℕ} {chain : List Row} {target link passed : ℕ} (h : Way ws first chain target link passed) → Target chain target → h.front ++ [] ≡ chain → target ≡ 0
way_none {target = target} h (inl zero') e = zero'
way_none {target = target} h (inr there) e = absurd (false≢true (sym h.none ∙ (ap (has_place target) (sym (append-nil h.front) ∙ e) ∙ there)))

link_push : (first : ℕ) (front : List Row) (row : Row) → link_after first (front ++ row ∷ []) ≡ row.place + NEXT
link_push first [] row = refl
link_push first (x ∷ front) row = link_push (x.place + NEXT) front row

pub way_next : {ws : List ℕ} {first : ℕ} {chain : List Row} {target link passed : ℕ} (h : Way ws first chain target link passed) → Target chain target → slice_index ws link ≢ target → Way ws first chain target (slice_index ws link + NEXT) (passed + 1)
way_next {ws} {first} {chain} {target} {link} {passed} h t other = go h.back h.split h.rest
  where
    go : (back : List Row) → chain ≡ h.front ++ back → IsRowChain ws (slice_index ws link) back → Way ws first chain target (slice_index ws link + NEXT) (passed + 1)
    go [] split rest = absurd (other (rest ∙ sym (way_none h t (sym split))))
    go (row ∷ back) split rest =
        let at : is_at target row ≡ false = ne_eqb row.place target (λ q. other (rest.0 ∙ q)) in
        let link' : slice_index ws link + NEXT ≡ row.place + NEXT = ap (λ (n : ℕ). n + NEXT) rest.0 in
        record {
          front = h.front ++ row ∷ [];
          back = back;
          split = split ∙ sym (append_assoc h.front (row ∷ []) back);
          many = omega (arith, length-append h.front (row ∷ []), h.many);
          none = list_any-append (is_at target) h.front (row ∷ []) ∙ or_from (has_place target h.front) (has_place target (row ∷ [])) h.none (or_from (is_at target row) false at refl);
          link_is = link' ∙ sym (link_push first h.front row);
          rest = subst (λ (n : ℕ). IsRowChain ws (slice_index ws n) back) (sym link') rest.1;
        }

-- as many rows were passed as the chain has
pub way_end : {ws : List ℕ} {first : ℕ} {chain : List Row} {target link passed : ℕ} (h : Way ws first chain target link passed) → Target chain target → length chain ≤ passed → IsLinkTo ws first chain target link
way_end {ws} {first} {chain} {target} {link} {passed} h t all = go h.back h.split h.rest
  where
    go : (back : List Row) → chain ≡ h.front ++ back → IsRowChain ws (slice_index ws link) back → IsLinkTo ws first chain target link
    go [] split rest = let zero' = way_none h t (sym split) in record { front = h.front; back = []; split = split; follows = h.link_is; word = rest ∙ sym zero'; rest = zero' }
    go (row ∷ back) split rest = absurd (omega (arith, ap (length {A = Row}) split, length-append h.front (row ∷ back), h.many))

-- where the word is
pub way_spot : {e : EntrySlots} {ws : List ℕ} {aside : Aside} {first : ℕ} {chain : List Row} {target link passed : ℕ} → Way ws first chain target link passed → Spot e ws aside first → AreHome e ws aside chain → Spot e ws aside link
way_spot {e} {ws} {aside} {first} {chain} h spot homes =
    subst (λ (n : ℕ). Spot e ws aside n) (sym h.link_is) (spot_after first h.front spot (λ q c. homes q (subst (λ (rs : List Row). Contains rs q) (sym h.split) (Contains-append_left h.front h.back q c))))

-- what it names is a place, or 0
pub way_small : {e : EntrySlots} {ws : List ℕ} {aside : Aside} {first : ℕ} {chain : List Row} {target link passed : ℕ} → Way ws first chain target link passed → AreHome e ws aside chain → slice_index ws link < 2 ^ 31
way_small {e} {ws} {aside} {first} {chain} {target} {link} h homes = go h.back h.split h.rest
  where
    go : (back : List Row) → chain ≡ h.front ++ back → IsRowChain ws (slice_index ws link) back → slice_index ws link < 2 ^ 31
    go [] split rest = omega (arith, rest)
    go (row ∷ back) split rest = let w = room (homes row (subst (λ (rs : List Row). Contains rs row) (sym split) (Contains-append_right h.front (row ∷ back) row (Contains-first row back)))) in omega (arith, rest.0, w.high, w.short, w.enough)
