-- The summary of a play of generated scripts, and what it has to be.
use Rattle.std.specs.Prelude.{◌≡◌, ℕ, ℤ, pos, ◌+◌, ◌*◌, ◌≤◌, ◌==◌, cond, nat_lt, Bool, true, false}
use Rattle.std.specs.Prelude.{not, List, [], ◌∷◌, ◌++◌, map, codes, Option, Some, slice_get}
use Rattle.std.specs.Prelude.{sum_by, count_by}
use Rattle.std.specs.Fmt.{decimal, signed_decimal}
use Rattle.std.specs.List.{range_with_len}
use Rattle.php_graph.specs.declared.kind.Kind.{Kind}
use Rattle.php_graph.specs.declared.kind.Kind.TheVariants as kinds
use Rattle.apcu_model.specs.declared.conf.Conf.{Conf}
use Rattle.apcu_model.specs.declared.request.Request.{Request}
use Rattle.apcu_model.specs.declared.request.Request.TheVariants as requests
use Rattle.apcu_model.specs.declared.request.Reply.{Reply}
use Rattle.apcu_model.specs.declared.request.Reply.TheVariants as answers
use Rattle.apcu_model.specs.Conf.{IsGood}
use Rattle.script_read.specs.Play.{Play, replies_of}
use Rattle.script_read.specs.GeneratedScripts.{Draw, Fetches, Stores, Counts}

-- A shape in which generated scripts never run out of room: one segment, of at least 8 MB, and not
-- so large a number of slots that little of it is left.
pub record IsLarge (conf : Conf) : Type 0 where
  pub good : IsGood conf
  pub one : conf.segments ≡ 1
  pub words : 1048576 ≤ conf.words
  pub slots : conf.slots ≤ 4096

-- ---- the summary

pub record Summary : Type 0 where
  pub inserts : ℕ
  pub counters : List ℤ

-- the integer that a fetch found, or 0
abbrev pub first_number : List Kind → ℤ
first_number [] = pos 0
first_number (kinds.Int n ∷ places) = n
first_number (kind ∷ places) = pos 0

abbrev pub number_found : Option Reply → ℤ
number_found (Some (answers.Found graph)) = first_number graph
number_found _ = pos 0

-- of a play: the cache's counter, and what the observer found, after this many calls of worker 0
abbrev pub summary_of : ℕ → Play → Summary
summary_of calls p = record {
  inserts = p.stage.cache.inserts;
  counters = map (λ n. number_found (slice_get (replies_of p 0) (calls + n))) (range_with_len 0 8);
}

-- as it is printed
abbrev pub counter_lines : ℕ → List ℤ → List ℕ
counter_lines n [] = []
counter_lines n (value ∷ values) =
    codes "counter " ++ decimal n ++ codes " " ++ signed_decimal value ++ codes "\n"
    ++ counter_lines (n + 1) values

abbrev pub summary_text : ℕ → ℕ → Summary → List ℕ
summary_text workers calls s =
    codes "workers " ++ decimal workers ++ codes "\n" ++ codes "calls " ++ decimal (workers * calls)
    ++ codes "\n" ++ codes "inserts " ++ decimal s.inserts ++ codes "\n"
    ++ counter_lines 0 s.counters

-- a store or an increment that fails: nothing could be stored
abbrev pub is_no : Reply → Bool
is_no (answers.Flag stored) = not stored
is_no answers.NoNumber = true
is_no _ = false

abbrev pub is_declined : Request → Reply → Bool
is_declined (requests.Store key value ttl exclusive) reply = is_no reply
is_declined (requests.Inc key step ttl) reply = is_no reply
is_declined _ reply = false

-- ---- what it has to be

-- what a draw adds to the number of stores, to the sum of a counter, and to the number of its steps
abbrev pub stored_by : Draw → ℕ
stored_by (Fetches owner n) = 0
stored_by (Stores n len) = 1
stored_by (Counts n step) = 0

abbrev pub counted_by : ℕ → Draw → ℕ
counted_by i (Fetches owner n) = 0
counted_by i (Stores n len) = 0
counted_by i (Counts n step) = cond (n == i) step 0

abbrev pub times_by : ℕ → Draw → ℕ
times_by i (Fetches owner n) = 0
times_by i (Stores n len) = 0
times_by i (Counts n step) = cond (n == i) 1 0

-- over all draws of all workers
abbrev pub total_by : (Draw → ℕ) → List (List Draw) → ℕ
total_by f draws = sum_by (λ own. sum_by f own) draws

-- the number of stores and of different counters, and the sum of the steps on each counter
abbrev pub summary_due : List (List Draw) → Summary
summary_due draws = record {
  inserts = total_by stored_by draws
      + count_by (λ i. nat_lt 0 (total_by (times_by i) draws)) (range_with_len 0 8);
  counters = map (λ i. pos (total_by (counted_by i) draws)) (range_with_len 0 8);
}
