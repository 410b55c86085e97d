-- The counts where room is made.
use Rattle.std.proofs.Common.{◌≡◌, ℕ, Bool, true, false, not, ◌&&◌, List, refl, sym, ap, ◌∙◌}
use Rattle.std.specs.Prelude.{if◌then◌else◌}
use Rattle.std.proofs.lemmas.Bool.{false≢true}
use Rattle.apcu_model.specs.Cache.{Cache, risen}
use Rattle.apcu_model.specs.Change.{KeepsCounts, ForgetsCounts, swept, expired_dropped, expunged, has_gap, is_expunged, with_room}

second_keeps : (held : List ℕ) (t : ℕ) (c : Cache) → KeepsCounts c (expired_dropped held t c)
second_keeps held t c = record { hits = refl; misses = refl; inserts = refl; expunges = refl }

module _ (held : List ℕ) (t : ℕ) (c first second : Cache) (one : KeepsCounts c first) (two : KeepsCounts first second) where
  pub keeps_by : (a b : Bool) → (not a && not b) ≡ false → KeepsCounts c (if a then first else if b then second else expunged held t second)
  keeps_by true b h = one
  keeps_by false true h = record { hits = two.hits ∙ one.hits; misses = two.misses ∙ one.misses; inserts = two.inserts ∙ one.inserts; expunges = two.expunges ∙ one.expunges }
  keeps_by false false h = absurd (false≢true (sym h))

  pub forgets_by : (a b : Bool) → (not a && not b) ≡ true → ForgetsCounts c (if a then first else if b then second else expunged held t second)
  forgets_by true b h = absurd (false≢true h)
  forgets_by false true h = absurd (false≢true h)
  forgets_by false false h = record { hits = refl; misses = refl; inserts = refl; expunges = ap risen (two.expunges ∙ one.expunges) }

swept_keeps : (held : List ℕ) (c : Cache) → KeepsCounts c (swept held c)
swept_keeps held c = record { hits = refl; misses = refl; inserts = refl; expunges = refl }

pub kept : (held : List ℕ) (n t : ℕ) (c : Cache) → is_expunged held n t c ≡ false → KeepsCounts c (with_room held n t c)
kept held n t c h = keeps_by held t c (swept held c) (expired_dropped held t (swept held c)) (swept_keeps held c) (second_keeps held t (swept held c)) (has_gap n (swept held c)) (has_gap n (expired_dropped held t (swept held c))) h

pub forgotten : (held : List ℕ) (n t : ℕ) (c : Cache) → is_expunged held n t c ≡ true → ForgetsCounts c (with_room held n t c)
forgotten held n t c h = forgets_by held t c (swept held c) (expired_dropped held t (swept held c)) (swept_keeps held c) (second_keeps held t (swept held c)) (has_gap n (swept held c)) (has_gap n (expired_dropped held t (swept held c))) h
