-- Which failures count, and what a failed call on the files shows.
use Rattle.std.specs.Prelude.{◌⊎◌, Bool, true, false}
use Rattle.sc_base.specs.Counts.{Rose}
use Rattle.sc_ids.specs.declared.failures.FailureCause.{FailureCause}
use Rattle.sc_ids.specs.declared.failures.Fault.{Fault}
use Rattle.sc_ids.specs.declared.failures.FailureCause.TheVariants.{Planned, Raised, Device, Gone, Metadata, Denied}

-- a failure counts toward the limit of its partition
abbrev pub is_counted : FailureCause → Bool
is_counted Planned = true
is_counted (Raised raise) = true
is_counted (Device fault) = true
is_counted (Gone exec wanted found) = false
is_counted (Metadata last) = false
is_counted Denied = false

-- over a call on files that failed one of its counts rose
abbrev pub HasRisen : Fault → Type 0
HasRisen fault =
    Rose fault.before.faults fault.after.faults ⊎ Rose fault.before.clashes fault.after.clashes
