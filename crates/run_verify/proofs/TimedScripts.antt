-- Scripts as a clock sees them.
use Rattle.std.proofs.Common.{◌≡◌, ℕ, zero, suc, List, [], ◌∷◌, ◌++◌, length, map, Some, refl, ap, sym, ◌∙◌}
use Rattle.std.specs.Prelude.{slice_get}
use Rattle.apcu_model.specs.declared.conf.Clock.{Clock}
use Rattle.apcu_model.specs.declared.conf.Conf.{Conf}
use Rattle.apcu_model.specs.declared.request.Reply.{Reply}
use Rattle.script_read.specs.declared.script.Step.{Step}
use Rattle.script_read.specs.Clock.{timed_step, timed, all_timed}
use Rattle.script_read.specs.Patterns.{call_pattern}
use Rattle.script_read.specs.Play.{asking_of}
use Rattle.run_verify.specs.declared.seat.Seat.{Seat}
use Rattle.run_verify.specs.Seats.{next_from, IsSeat, IsAsking, IsSearching, HasReplyMore, KnowsPattern}
use Rattle.run_verify.proofs.CallProgress.{asked_on}

pub at_map : {X Y : Type 0} (f : X → Y) (l : List X) (k : ℕ) (x : X) → slice_get l k ≡ Some x → slice_get (map f l) k ≡ Some (f x)
at_map f [] k x h = absurd (cc h)
at_map f (y ∷ ys) zero x h = let e : y ≡ x = cc h in ap (λ z. Some (f z)) e
at_map f (y ∷ ys) (suc k) x h = at_map f ys k x h

-- a step of a script, at its moment
pub timed_at : (clock : Clock) (script : List Step) (k : ℕ) (step : Step) → slice_get script k ≡ Some step → slice_get (timed clock script) k ≡ Some (timed_step clock step)
timed_at clock script k step h = at_map (timed_step clock) script k step h

pub script_at : (clock : Clock) (scripts : List (List Step)) (v : ℕ) (script : List Step) → slice_get scripts v ≡ Some script → slice_get (all_timed clock scripts) v ≡ Some (timed clock script)
script_at clock scripts v script h = at_map (timed clock) scripts v script h

-- each step at its moment is one of the script
untimed_at : (clock : Clock) (script : List Step) (k : ℕ) (step : Step) → slice_get (timed clock script) k ≡ Some step → (s : Step) × (slice_get script k ≡ Some s) × (step ≡ timed_step clock s)
untimed_at clock [] k step h = absurd (cc h)
untimed_at clock (x ∷ xs) zero step h = let e : timed_step clock x ≡ step = cc h in (x, refl, sym e)
untimed_at clock (x ∷ xs) (suc k) step h = untimed_at clock xs k step h

asking_timed : (clock : Clock) (conf : Conf) (script : List Step) (seat : Seat) → IsAsking conf script seat → IsAsking conf (timed clock script) seat
asking_timed clock conf script seat a = record {
  asks = λ step here.
      let u = untimed_at clock script seat.step step here in
      let r = a.asks u.0 u.1 in
      (r.0, ap (λ (s : Step). next_from conf.slots (asking_of s.call) (length seat.replies) seat.from []) u.2 ∙ r.1);
}

searching_timed : (clock : Clock) (script : List Step) (old new : Seat) → IsSearching script old new → IsSearching (timed clock script) old new
searching_timed clock script old new h = record {
  step = h.step;
  replies = h.replies;
  from = h.from;
  text_is = h.text_is;
  search = λ step here.
      let u = untimed_at clock script new.step step here in
      h.search u.0 u.1 ∙ ap (λ (s : Step). call_pattern s.call) (sym u.2);
}

pub knows : (clock : Clock) (conf : Conf) (script : List Step) (rs : List Reply) (seat : Seat) → IsSeat conf (timed clock script) rs seat → KnowsPattern script seat
knows clock conf script rs seat s step here some = (s.call (timed_step clock step) (timed_at clock script seat.step step here)).pattern some

-- from a seat that asks to the one with the answer
pub asked_timed : (clock : Clock) (conf : Conf) (script : List Step) (rs : List Reply) (first old new : Seat) (y : Reply) → IsSeat conf (timed clock script) rs first → IsAsking conf script first
    → IsSearching script first old → HasReplyMore conf y old new → IsSeat conf (timed clock script) (rs ++ y ∷ []) new
asked_timed clock conf script rs first old new y s asking h a =
    asked_on conf (timed clock script) rs first old new y s (asking_timed clock conf script first asking) (searching_timed clock script first old h) a
