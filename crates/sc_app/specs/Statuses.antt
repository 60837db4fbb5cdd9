-- The status that each part's answer becomes, and its number.
use Rattle.std.specs.Prelude.{ℕ, Bool, true, false, List}
use Rattle.sc_base.specs.declared.refusals.OrMemory.{OrMemory}
use Rattle.sc_base.specs.declared.refusals.OrMemory.TheVariants as refusals
use Rattle.sc_core.specs.declared.answers.Abort.{Abort}
use Rattle.sc_core.specs.declared.answers.Abort.TheVariants as aborts
use Rattle.sc_print.specs.declared.faults.PrintFault.{PrintFault}
use Rattle.sc_print.specs.declared.faults.PrintFault.TheVariants as prints
use Rattle.sc_read.specs.declared.stops.InputStop.{InputStop}
use Rattle.sc_read.specs.declared.stops.InputStop.TheVariants as inputs
use Rattle.sc_read.specs.declared.stops.PlanStop.{PlanStop}
use Rattle.sc_read.specs.declared.stops.PlanStop.TheVariants as plans
use Rattle.sc_read.specs.declared.stops.ScriptStop.{ScriptStop}
use Rattle.sc_read.specs.declared.stops.ScriptStop.TheVariants as scripts
use Rattle.sc_read.specs.declared.stops.Unreadable.{Unreadable}
use Rattle.sc_read.specs.declared.stops.Unreadable.TheVariants.{Missing, Failed}
use Rattle.sc_app.specs.declared.ran.Status.{Status}
use Rattle.sc_app.specs.declared.ran.Status.TheVariants.{Aborted, Device, Done, DriverFault, Input, NotText, OutOfMemory, OutputExists, Plan, Script, Usage, WriteFault}

-- the number of the status where a job was aborted
abbrev pub number_of_abort : Abort → ℕ
number_of_abort (aborts.TaskLimit stage attempt partition) = 6
number_of_abort (aborts.StageLimit stage) = 7
number_of_abort aborts.NoExecutor = 8
number_of_abort aborts.Budget = 14

-- the number of a status
abbrev pub number_of : Status → ℕ
number_of Done = 0
number_of Usage = 2
number_of (Script fault) = 3
number_of (Plan fault) = 4
number_of (Input name missing) = 5
number_of (Aborted abort) = number_of_abort abort
number_of (DriverFault k fault) = 9
number_of (OutputExists dir) = 10
number_of (Device path) = 11
number_of WriteFault = 12
number_of OutOfMemory = 13
number_of (NotText name) = 15

-- whether a name gave no bytes since it isn't there
abbrev pub is_missing : Unreadable → Bool
is_missing Missing = true
is_missing Failed = false

-- the status where there is no script under a name
abbrev pub status_of_script : List ℕ → OrMemory ScriptStop → Status
status_of_script name (refusals.Fault (scripts.Faulty fault)) = Script fault
status_of_script name (refusals.Fault (scripts.Unreadable why)) = Input name (is_missing why)
status_of_script name refusals.OutOfMemory = OutOfMemory

-- the status where there is no plan
abbrev pub status_of_plan : OrMemory PlanStop → Status
status_of_plan (refusals.Fault (plans.Faulty fault)) = Plan fault
status_of_plan (refusals.Fault (plans.Unreadable name why)) = Input name (is_missing why)
status_of_plan refusals.OutOfMemory = OutOfMemory

-- the status where an input wasn't taken
abbrev pub status_of_input : OrMemory InputStop → Status
status_of_input (refusals.Fault (inputs.Unreadable name why)) = Input name (is_missing why)
status_of_input (refusals.Fault (inputs.NotText name)) = NotText name
status_of_input refusals.OutOfMemory = OutOfMemory

-- the status where not all actions were printed
abbrev pub status_of_print : OrMemory PrintFault → Status
status_of_print (refusals.Fault (prints.Aborted k abort)) = Aborted abort
status_of_print (refusals.Fault (prints.Exists k path)) = OutputExists path
status_of_print (refusals.Fault (prints.Device k path)) = Device path
status_of_print (refusals.Fault (prints.Driver k fault)) = DriverFault k fault
status_of_print (refusals.Fault prints.Write) = WriteFault
status_of_print refusals.OutOfMemory = OutOfMemory
