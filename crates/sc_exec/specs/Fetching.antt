-- What an attempt meets that goes for its next block.
use Rattle.std.specs.Prelude.{ℕ, ◌≡◌, ◌<◌, ◌≤◌, ◌+◌, None}
use Rattle.sc_ids.specs.declared.blocks.BlockId.{BlockId}
use Rattle.sc_ids.specs.declared.blocks.Loc.{Loc}
use Rattle.sc_net.specs.Reports.{ReportData, report_data}
use Rattle.sc_net.specs.declared.findings.Finding.{Finding}
use Rattle.sc_net.specs.declared.findings.Finding.TheVariants as findings
use Rattle.sc_store.specs.StoreData.{StoreData, output_in}
use Rattle.sc_task.specs.Nexts.{next_of}
use Rattle.sc_task.specs.States.{AssignedData, assigned_data}
use Rattle.sc_task.specs.declared.next.Next.{Next}
use Rattle.sc_task.specs.declared.next.Next.TheVariants.{Fetch, Missing, Complete}
use Rattle.sc_exec.specs.Places.{IsMisplaced}
use Rattle.sc_exec.specs.declared.lefts.Left.{Left}
use Rattle.sc_exec.specs.declared.lefts.Left.TheVariants as lefts
use Rattle.sc_exec.specs.declared.lefts.Stranger.TheVariants as strangers
use Rattle.sc_exec.specs.declared.performing.Got.{Got}
use Rattle.sc_exec.specs.declared.performing.Got.TheVariants as got
use Rattle.sc_exec.specs.declared.visits.Absence.{Absence}

-- a block is to be fetched next, which with its location is so
abbrev pub IsNextSo : (BlockId → Loc → Type 0) → Next → Type 0
IsNextSo P (Fetch block loc) = P block loc
IsNextSo P (Missing last) = ⊥
IsNextSo P Complete = ⊥

-- ---- at a store

-- the store is past the generation at which the block was to lie there, and the report tells both
abbrev pub IsGoneFrom : StoreData → AssignedData → ReportData → BlockId → Loc → Type 0
IsGoneFrom store a report block loc =
    (loc.generation < store.generation)
    × (report ≡ report_data a.task (findings.Gone loc.exec loc.generation store.generation))

-- the block isn't there, though the store is at the generation of then
abbrev pub IsAbsentFrom : StoreData → Absence → BlockId → Loc → Type 0
IsAbsentFrom store absence block loc =
    (store.generation ≤ loc.generation) × (output_in store block ≡ None) × (absence.loc ≡ loc)

-- what an attempt gets at the store where its next block was to lie: the block, or that it is gone
abbrev pub GetsFrom : {W : _} → StoreData → AssignedData → Got W → Type 0
GetsFrom store a (got.Next next) = next ≡ assigned_data a.task (a.got + 1)
GetsFrom store a (got.Report report) =
    IsNextSo (IsGoneFrom store a report) (next_of a.task a.got)

-- why it gets neither there: the block is absent, or memory ran out
abbrev pub LacksFrom : StoreData → AssignedData → Left → Type 0
LacksFrom store a (lefts.Absent absence) =
    IsNextSo (IsAbsentFrom store absence) (next_of a.task a.got)
LacksFrom store a lefts.NoMemory = Unit {0}
LacksFrom store a left = ⊥

-- ---- where it was sent

-- why its next block isn't read: where it was to lie is another executor's store, or the block is
-- absent, or memory ran out
abbrev pub IsUnread : Next → Left → Type 0
IsUnread next (lefts.Stranger (strangers.Store misplaced)) =
    IsNextSo (λ block loc. IsMisplaced loc.exec misplaced) next
IsUnread next (lefts.Absent absence) = IsNextSo (λ block loc. absence.loc ≡ loc) next
IsUnread next lefts.NoMemory = Unit {0}
IsUnread next left = ⊥

-- why an attempt has no use of the store at a place: it is another executor's, or memory ran out
abbrev pub IsBarred : ℕ → Left → Type 0
IsBarred place (lefts.Stranger (strangers.Store misplaced)) = IsMisplaced place misplaced
IsBarred place lefts.NoMemory = Unit {0}
IsBarred place left = ⊥

-- ---- reports

-- a finding says nothing of a store
abbrev pub IsOfNoStore : Finding → Type 0
IsOfNoStore (findings.Gone exec wanted found) = ⊥
IsOfNoStore (findings.Map loc) = ⊥
IsOfNoStore finding = Unit {0}
