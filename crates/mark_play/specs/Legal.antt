-- Which masks are legal if the workers have these windows.
use Rattle.std.specs.Prelude.{ℕ, ◌==◌, ◌&&◌, ◌||◌, not, nat_lt, Bool, List, Option, None}
use Rattle.std.specs.Prelude.{is_some, slice_index_or}
use Rattle.std.specs.List.{list_all, range_with_len}
use Rattle.apcu_model.specs.History.{is_in_mask}
use Rattle.mark_play.specs.declared.answering.Window.{Window}

-- the worker v is not in the mask, or it is another one that has a window
abbrev pub may_meet : ℕ → ℕ → ℕ → ℕ → Option Window → Bool
may_meet workers worker mask v window =
    not (is_in_mask mask v) || (not (v == worker) && nat_lt v workers && is_some window)

abbrev pub is_legal_by : List (Option Window) → ℕ → ℕ → ℕ → Bool
is_legal_by windows workers worker mask =
    list_all (λ v. may_meet workers worker mask v (slice_index_or windows v None))
    (range_with_len 0 64)
