-- The results of a job that is done.
use Rattle.std.specs.Prelude.{◌≢◌, List, None, Option}
use Rattle.std.specs.List.{All}
use Rattle.sc_compute.specs.declared.results.TaskResult.{TaskResult}

-- each partition has its result
abbrev pub AreThere : List (Option TaskResult) → Type 0
AreThere results = All (λ found. found ≢ None) results
