-- What a look-up of many at once finds.
use Rattle.std.proofs.Common.{◌≡◌, ◌∙◌, ℕ, ◌%◌, true, false, List, Option, Some, None, length, refl, sym, ap, subst}
use Rattle.std.proofs.lemmas.Bool.{false≢true}
use Rattle.std.specs.Prelude.{if◌then◌else◌}
use Rattle.late_words.specs.Zeros.{with_zeros}
use Rattle.late_words.specs.declared.late_words.LentWords.{LentWords}
use Rattle.late_words.specs.contracts.late_words.LentWordsWordsIn.TheImpl as lent
use Rattle.php_graph.specs.Numbers.{hash_of}
use Rattle.seg_words.specs.Windows.{nothing_aside}
use Rattle.apcu_model.specs.Cache.{Row}
use Rattle.apcu_model.specs.Expiry.{live_row}
use Rattle.apcu_model.specs.Sequential.{found_in}
use Rattle.entry_slots.specs.declared.finding.Finder.{Finder}
use Rattle.cache_core.specs.CoreCache.{CoreStands, cache_of}
use Rattle.cache_core.specs.Finding.{FindsLive}
use Rattle.cache_c.specs.declared.cache.Cache.{Cache}
use Rattle.cache_c.specs.declared.asking.Answer.{Answer}
use Rattle.cache_c.specs.declared.asking.TheConstants as asking
use Rattle.cache_c.specs.declared.shared.View.{View}
use Rattle.cache_c.specs.Shared.{IsShared, IsFoundFor, found_by, answer_in, place_or_0}
use Rattle.cache_c.specs.Standing.{cache_words}
use Rattle.cache_c.specs.Asked.{is_short, IsToldBy, IsValueBy}
use Rattle.cache_c.specs.Told.{found_row}

pub finds_shared : (cache : Cache) (view : View) (words key : List ℕ) (hash slot : ℕ) (seg : LentWords) → IsShared cache view words → hash ≡ hash_of key → slot ≡ hash % view.slots → lent.ghosts.words seg ≡ with_zeros words view.len
    → FindsLive lent.ghosts cache.core (record { slots = view.slots; rows = view.rows }) seg key slot
finds_shared cache view words key hash slot seg s is at whole = record {
  stand = subst (λ (ws : List ℕ). CoreStands cache.core ws nothing_aside) (sym (whole ∙ s.whole)) s.stand.alone;
  slots = ap (λ (v : View). v.slots) s.is_view;
  rows = ap (λ (v : View). v.rows) s.is_view;
  slot_is = at ∙ (ap (λ (h : ℕ). h % view.slots) is ∙ ap (λ (v : View). hash_of key % v.slots) s.is_view);
}

short_row : (key : List ℕ) (t : ℕ) (cache : Cache) → is_short key ≡ true → found_row key t (cache_of cache.core) ≡ live_row key t (cache_of cache.core)
short_row key t cache short = ap (λ b. if b then live_row key t (cache_of cache.core) else None) short

-- a row is found
pub found_some : (cache : Cache) (key : List ℕ) (t at : ℕ) (row : Row) (a : Answer) → is_short key ≡ true → live_row key t (cache_of cache.core) ≡ Some row → row.place ≡ at → IsValueBy (cache_words cache) row.graph a → IsFoundFor cache key t (found_by a at)
found_some cache key t at row a short live place told =
    let is : found_row key t (cache_of cache.core) ≡ Some row = short_row key t cache short ∙ live in
    record {
      told = λ yes. subst (λ (o : Option Row). IsToldBy (cache_words cache) (found_in o) a) (sym is) told;
      too_long = λ no. absurd (false≢true (sym no ∙ short));
      row = sym (ap place_or_0 is ∙ place);
    }

-- and none
pub found_none : (cache : Cache) (key : List ℕ) (t : ℕ) (a : Answer) → is_short key ≡ true → live_row key t (cache_of cache.core) ≡ None → a.kind ≡ asking.ABSENT → IsFoundFor cache key t (found_by a 0)
found_none cache key t a short live kind =
    let is : found_row key t (cache_of cache.core) ≡ None = short_row key t cache short ∙ live in
    record {
      told = λ yes. subst (λ (o : Option Row). IsToldBy (cache_words cache) (found_in o) a) (sym is) kind;
      too_long = λ no. absurd (false≢true (sym no ∙ short));
      row = sym (ap place_or_0 is);
    }

-- and where the key is too long
pub found_long : (cache : Cache) (key : List ℕ) (t : ℕ) (a : Answer) → is_short key ≡ false → a.kind ≡ asking.TOO_LONG → IsFoundFor cache key t (found_by a 0)
found_long cache key t a long kind = record {
  told = λ yes. absurd (false≢true (sym long ∙ yes));
  too_long = λ no. kind;
  row = sym (ap (λ b. place_or_0 (if b then live_row key t (cache_of cache.core) else None)) long);
}
