-- The text of each status.
use Rattle.std.specs.Prelude.{ℕ, Bool, true, false, List, [], ◌++◌, codes}
use Rattle.std.specs.Fmt.{decimal}
use Rattle.sc_core.specs.declared.answers.Abort.{Abort}
use Rattle.sc_core.specs.declared.answers.Abort.TheVariants as aborts
use Rattle.sc_script.specs.declared.faults.FaultKind.{FaultKind}
use Rattle.sc_script.specs.declared.faults.FaultKind.TheVariants as kinds
use Rattle.sc_plan.specs.declared.faults.PlanFaultKind.{PlanFaultKind}
use Rattle.sc_plan.specs.declared.faults.PlanFaultKind.TheVariants as plan_kinds
use Rattle.sc_expr.specs.RaiseTexts.{raise_text}
use Rattle.sc_lineage.specs.declared.nodes.DriverFault.{DriverFault}
use Rattle.sc_lineage.specs.declared.nodes.DriverFault.TheVariants as causes
use Rattle.sc_app.specs.declared.ran.Status.{Status}
use Rattle.sc_app.specs.declared.ran.Status.TheVariants as statuses
use Rattle.sc_app.specs.declared.ran.Status.TheVariants.{Aborted, Device, Done, Input, NotText, OutOfMemory, OutputExists, Plan, Script, Usage, WriteFault}

-- the name of a kind of fault
abbrev pub kind_text : FaultKind → List ℕ
kind_text kinds.NotText = codes "NotText"
kind_text kinds.Limit = codes "Limit"
kind_text kinds.Syntax = codes "Syntax"
kind_text kinds.UnknownName = codes "UnknownName"
kind_text kinds.Twice = codes "Twice"
kind_text kinds.IllTyped = codes "IllTyped"

-- the name of a kind of fault of a plan
abbrev pub plan_kind_text : PlanFaultKind → List ℕ
plan_kind_text plan_kinds.NotText = codes "NotText"
plan_kind_text plan_kinds.Limit = codes "Limit"
plan_kind_text plan_kinds.Syntax = codes "Syntax"
plan_kind_text plan_kinds.UnknownName = codes "UnknownName"
plan_kind_text plan_kinds.Twice = codes "Twice"

-- how a name failed
abbrev pub missing_text : Bool → List ℕ
missing_text true = codes "missing"
missing_text false = codes "failed"

-- the name of the cause of a driver's fault
abbrev pub cause_text : DriverFault → List ℕ
cause_text causes.EmptyCollection = codes "EmptyCollection"
cause_text (causes.Raised raise) = raise_text raise

-- the text of an abort
abbrev pub abort_text : Abort → List ℕ
abort_text (aborts.TaskLimit stage attempt partition) =
    codes "task limit: stage " ++ decimal stage ++ codes " attempt " ++ decimal attempt
    ++ codes " partition " ++ decimal partition
abort_text (aborts.StageLimit stage) = codes "stage limit: stage " ++ decimal stage
abort_text aborts.NoExecutor = codes "no executor"
abort_text aborts.Budget = codes "budget"

-- the text of a status; done has none
abbrev pub fault_text : Status → List ℕ
fault_text Done = []
fault_text Usage = codes "usage"
fault_text (Script fault) =
    codes "script: line " ++ decimal fault.line ++ codes ": " ++ kind_text fault.kind
fault_text (Plan fault) =
    codes "plan: line " ++ decimal fault.line ++ codes ": " ++ plan_kind_text fault.kind
fault_text (Input name missing) = codes "input: " ++ name ++ codes ": " ++ missing_text missing
fault_text (Aborted abort) = abort_text abort
fault_text (statuses.DriverFault k kind) =
    codes "driver: action " ++ decimal k ++ codes ": " ++ cause_text kind
fault_text (OutputExists dir) = codes "output exists: " ++ dir
fault_text (Device path) = codes "device: " ++ path
fault_text WriteFault = codes "write failed"
fault_text OutOfMemory = codes "out of memory"
fault_text (NotText name) = codes "not text: " ++ name
