-- What is known of one map output, and how it changes.
use Rattle.std.specs.Prelude.{ℕ, List, Bool, Option, Some, None, false, if◌then◌else◌, is_some, ◌==◌}
use Rattle.std.specs.List.{list_all}
use Rattle.sc_base.specs.Lists.{at_or, numbers_below}
use Rattle.sc_ids.specs.declared.blocks.Loc.{Loc}
use Rattle.sc_tracker.specs.declared.outputs.Output.{Output}
use Rattle.sc_tracker.specs.declared.outputs.Location.{Location}
use Rattle.sc_tracker.specs.declared.outputs.Location.TheVariants.{Here, Missing}

-- an output that was never registered
abbrev pub never : Output
never = record { here = None; last = None; since = 0 }

-- what is known of an output: nothing of one that there is no room for
abbrev pub output_in : List Output → ℕ → Output
output_in outputs place = at_or outputs place never

-- an output is registered
abbrev pub is_here : Output → Bool
is_here output = is_some output.here

-- the first so many outputs are all registered
abbrev pub are_here : List Output → ℕ → Bool
are_here outputs maps = list_all (λ m. is_here (output_in outputs m)) (numbers_below maps)

-- the location that is answered for an output
abbrev pub location_of_places : Option Loc → Option Loc → Location
location_of_places (Some loc) last = Here loc
location_of_places None last = Missing last

abbrev pub location_in : Output → Location
location_in output = location_of_places output.here output.last

-- an output registered at a location, in an epoch
abbrev pub placed : Loc → ℕ → Output → Output
placed loc epoch output = record { here = Some loc; last = Some loc; since = epoch }

-- a location, if any, is on an executor
abbrev pub is_on : ℕ → Option Loc → Bool
is_on exec None = false
is_on exec (Some loc) = loc.exec == exec

-- an output that is forgotten: where it was last is kept
abbrev pub forgotten : Output → Output
forgotten output = record { here = None; last = output.last; since = output.since }

-- an output when those on an executor are forgotten
abbrev pub forgotten_on : ℕ → Output → Output
forgotten_on exec output = if is_on exec output.here then forgotten output else output
