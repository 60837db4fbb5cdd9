-- What is due at a desk.
use Rattle.std.specs.Prelude.{ℕ, ◌≡◌, ◌⊎◌, ◌<◌, ◌≤◌, Bool, true, false, List, [], Option, Some, None, nat_le}
use Rattle.std.specs.List.{find, list_any}
use Rattle.std.specs.Option.{option_map}
use Rattle.sc_ids.specs.declared.attempts.AttemptId.{AttemptId}
use Rattle.sc_lineage.specs.ScriptData.{WorkData}
use Rattle.sc_plan.specs.Orders.{due_count, wipes_of}
use Rattle.sc_dag.specs.Offers.{HasNone, IsOffer}
use Rattle.sc_core.specs.CoreData.{CoreData, job_runs}
use Rattle.sc_core.specs.Losses.{may_be_lost}
use Rattle.sc_core.specs.declared.running.Shelved.{Shelved}
use Rattle.sc_plan.specs.declared.orders.Order.{Order}
use Rattle.sc_net.specs.declared.findings.Finding.{Finding}
use Rattle.sc_net.specs.declared.findings.Finding.TheVariants as findings
use Rattle.sc_desk.specs.DeskData.{DeskData, core_of}
use Rattle.sc_desk.specs.Orders.{ComesNext, after_order}

-- ---- losses

-- the executor that is to be told lost next: the first that may be
abbrev pub IsDueLoss : CoreData → Option ℕ → Type 0
IsDueLoss c None = (exec : ℕ) → may_be_lost c exec ≡ false
IsDueLoss c (Some exec) =
    (may_be_lost c exec ≡ true) × ((other : ℕ) → other < exec → may_be_lost c other ≡ false)

-- ---- reports

-- the key of the first report on a shelf that is due once so many were told
abbrev pub first_due : List Shelved → ℕ → Option ℕ
first_due shelf told = option_map (λ s. s.key) (find (λ s. nat_le s.due told) shelf)

-- the key of the first report on a shelf
abbrev pub first_key : List Shelved → Option ℕ
first_key shelf = option_map (λ s. s.key) (find (λ s. true) shelf)

-- an attempt is out
abbrev pub is_any_out : CoreData → Bool
is_any_out c = list_any (λ r. r.is_out) c.running

-- nothing else can happen: no attempt is out, and there is no task for this executor
abbrev pub IsIdle : CoreData → ℕ → Type 0
IsIdle c exec = (is_any_out c ≡ false) × HasNone c.dag exec c.now

-- something else can happen
abbrev pub IsBusy : CoreData → ℕ → Type 0
IsBusy c exec = (is_any_out c ≡ true) ⊎ ((a : AttemptId) × IsOffer c.dag exec c.now a)

-- the report that is to be told next where this executor asks: the first that is due by how many
-- were told, or the first of all where nothing else can happen
abbrev pub IsDueReport : CoreData → ℕ → Option ℕ → Type 0
IsDueReport c exec (Some key) =
    (first_due c.shelf c.told ≡ Some key)
    ⊎ ((first_due c.shelf c.told ≡ None) × IsIdle c exec × (first_key c.shelf ≡ Some key))
IsDueReport c exec None =
    (first_due c.shelf c.told ≡ None) × ((c.shelf ≡ []) ⊎ IsBusy c exec)

-- ---- generations that can't be there yet

-- how many wipes of a store are due once so many reports were told
abbrev pub wipes_due : WorkData → ℕ → ℕ → ℕ
wipes_due work told exec = due_count (wipes_of work.plan exec) told

-- a finding speaks of no generation that no wipe has brought yet
abbrev pub IsInTime : WorkData → ℕ → Finding → Type 0
IsInTime work told (findings.Gone exec wanted found) = found ≤ wipes_due work told exec
IsInTime work told finding = Unit {0}

-- a finding speaks of one, where so many wipes are due
abbrev pub IsEarly : WorkData → ℕ → Finding → ℕ → Type 0
IsEarly work told (findings.Gone exec wanted found) due =
    (due ≡ wipes_due work told exec) × (due < found)
IsEarly work told finding due = ⊥

-- ---- orders

-- the order that comes next while the job runs is handed out; after its end none is
abbrev pub IsOrderedIf : Bool → WorkData → DeskData → Option Order → DeskData → Type 0
IsOrderedIf false work d order after = (order ≡ None) × (after ≡ d)
IsOrderedIf true work d order after =
    ComesNext work.plan (core_of d).told d.ordered order
    × (after ≡ record d { ordered = after_order d.ordered order })

abbrev pub IsOrdered : WorkData → DeskData → Option Order → DeskData → Type 0
IsOrdered work d order after = IsOrderedIf (job_runs (core_of d)) work d order after
