-- What an attempt is to do next.
use Rattle.std.specs.Prelude.{ℕ, ◌≡◌, Option, Some, None, slice_get}
use Rattle.sc_ids.specs.declared.blocks.BlockId.{BlockId}
use Rattle.sc_tracker.specs.declared.outputs.Location.{Location}
use Rattle.sc_tracker.specs.declared.outputs.Location.TheVariants as locations
use Rattle.sc_net.specs.Reports.{ReportData, report_data}
use Rattle.sc_net.specs.Tasks.{TaskData, blocks_of_task}
use Rattle.sc_net.specs.declared.findings.Finding.TheVariants as findings
use Rattle.sc_task.specs.declared.next.Next.{Next}
use Rattle.sc_task.specs.declared.next.Next.TheVariants.{Fetch, Missing, Complete}

-- what is to be done with a block that may be there, which was given with its place
abbrev pub next_at : Option BlockId → Option Location → Next
next_at (Some block) (Some (locations.Here loc)) = Fetch block loc
next_at (Some block) (Some (locations.Missing last)) = Missing last
next_at (Some block) None = Complete
next_at None location = Complete

-- what an attempt of a task is to do next that has read so many blocks
abbrev pub next_of : TaskData → ℕ → Next
next_of t got = next_at (slice_get (blocks_of_task t) got) (slice_get t.hand_out.inputs got)

-- a block is to be fetched, and lies on this executor
abbrev pub FetchesFrom : ℕ → Next → Type 0
FetchesFrom exec (Fetch block loc) = loc.exec ≡ exec
FetchesFrom exec (Missing last) = ⊥
FetchesFrom exec Complete = ⊥

-- what is reported where a block has no location, and lay somewhere before
abbrev pub Misses : TaskData → Next → ReportData → Type 0
Misses t (Missing (Some last)) report = report ≡ report_data t (findings.Metadata last)
Misses t next report = ⊥

-- a block has no location, and lay somewhere before
abbrev pub LaySomewhere : Next → Type 0
LaySomewhere (Missing (Some last)) = Unit {0}
LaySomewhere next = ⊥
