-- Continuing to read inside containers that are open.
use Rattle.std.specs.Prelude.{◌≡◌, ℕ, suc, ◌-◌, ◌≤◌, ◌<◌, List, [], ◌∷◌, length, Option, Some, None}
use Rattle.std.specs.Prelude.{Result, Ok}
use Rattle.php_graph.specs.declared.item.Wants.{Wants}
use Rattle.php_graph.specs.declared.item.Wants.TheVariants as wants
use Rattle.php_graph.specs.Graph.{levels}
use Rattle.php_graph.specs.Building.{Draft, wants_of}
use Rattle.notation.specs.declared.fault.Fault.{Fault}
use Rattle.notation.specs.Marks.{◌>>=◌}
use Rattle.notation.specs.Reading.{members_at, closed_at, value_at}

-- What is left of the value at the top: n members of the innermost container and its end, and the
-- same of those around it, the innermost first. If none is open, nothing.
abbrev pub outer_at : List ℕ → ℕ → Draft → List ℕ → Result (Draft × List ℕ) Fault
outer_at [] n d bytes = Ok (d, bytes)
outer_at (m ∷ outer) n d bytes =
    (members_at (value_at (levels - suc (length outer))) n d bytes >>= λ p. closed_at p.0 p.1)
    >>= λ q. outer_at outer m q.0 q.1

-- what is still to be read, by what is expected
abbrev pub due_at : Wants → List ℕ → ℕ → Draft → List ℕ → Result (Draft × List ℕ) Fault
due_at wants.Value outer n d bytes =
    value_at (levels - length outer) d bytes >>= λ p. outer_at outer n p.0 p.1
due_at _ outer n d bytes = outer_at outer n d bytes

-- A reader that has come this far: what is still to be read gives what all of the bytes give.
pub record HasCome (outer : List ℕ) (n : ℕ) (d : Draft) (bytes : List ℕ)
    (total : Result (Draft × List ℕ) Fault) : Type 0 where
  pub open_are : length outer ≡ length d.containers
  pub few : length outer ≤ levels
  pub some : 0 < length d.places
  pub rest : due_at (wants_of d) outer n d bytes ≡ total

-- the stack after a value was begun: with one more container if it is one
abbrev pub outer_stack : Option ℕ → ℕ → List ℕ → ℕ → List ℕ → Type 0
outer_stack None members before n after = (n ≡ members) × (after ≡ before)
outer_stack (Some count) members before n after = (n ≡ count) × (after ≡ members ∷ before)
