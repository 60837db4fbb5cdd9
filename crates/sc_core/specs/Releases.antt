-- What a report is answered that was to be told later and is told now, and what that leaves.
use Rattle.std.specs.Prelude.{ℕ, ◌≡◌, ◌&&◌, not, Bool, true, false, Option, Some, None, is_some}
use Rattle.sc_core.specs.CoreData.{CoreData, job_runs, running_of, shelved_of, without_shelved}
use Rattle.sc_core.specs.Tells.{TellsTo}
use Rattle.sc_core.specs.declared.answers.Answer.{Answer}
use Rattle.sc_core.specs.declared.answers.Answer.TheVariants as says
use Rattle.sc_core.specs.declared.running.Shelved.{Shelved}

-- the report of a key, which is kept no longer
abbrev pub ReleasesOf : Option Shelved → CoreData → ℕ → Answer → CoreData → Type 0
ReleasesOf None c key answer after = ⊥
ReleasesOf (Some s) c key answer after =
    TellsTo (running_of c s.attempt) (without_shelved c key) s.attempt s.outcome answer after

-- the same in a job that may run: after its end nothing is told
abbrev pub ReleasesIf : Bool → CoreData → ℕ → Answer → CoreData → Type 0
ReleasesIf false c key answer after = (answer ≡ says.Ignored) × (after ≡ c)
ReleasesIf true c key answer after = ReleasesOf (shelved_of c key) c key answer after

abbrev pub Releases : CoreData → ℕ → Answer → CoreData → Type 0
Releases c key answer after = ReleasesIf (job_runs c) c key answer after

-- a release isn't enabled: the job runs, and no report of this key is to be told later
abbrev pub has_no_shelved : CoreData → ℕ → Bool
has_no_shelved c key = job_runs c && not (is_some (shelved_of c key))
