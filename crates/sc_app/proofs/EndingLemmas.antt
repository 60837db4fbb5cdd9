-- Where a work was read, nothing ended the run before its first action.
use Rattle.std.proofs.Common.{ℕ, List, [], refl, inl, inr, Some}
use Rattle.sc_core.specs.declared.journals.JobHistory.{JobHistory}
use Rattle.sc_lineage.specs.ScriptData.{WorkData}
use Rattle.sc_plan.specs.Plans.{PlansHaveOneReading}
use Rattle.sc_plan.specs.declared.faults.PlanFault.{PlanFault}
use Rattle.sc_read.specs.Reads.{Taken}
use Rattle.sc_script.specs.Parsing.{HaveOneReading}
use Rattle.sc_script.specs.declared.faults.ScriptFault.{ScriptFault}
use Rattle.sc_app.specs.Ends.{EndsForPlan, EndsForScript, EndsForText, EndsForUsage}
use Rattle.sc_app.specs.Runs.{RunData, HasReadWork, IsNextName}
use Rattle.sc_app.proofs.ReadingLemmas.{no_bad_text, no_fault, no_next, no_next_plan, no_plan_fault}

module _ (law : HaveOneReading) (plans : PlansHaveOneReading) (run : RunData)
    (history given_up : List JobHistory) (work : WorkData)
    (read : HasReadWork run.words run.reads work)
  where
    -- the words are a command
    pub not_refused : EndsForUsage run history given_up → ⊥
    not_refused ends = let e = ends.nothing_read in let was = read.read.is in absurd cc

    -- the script has no fault
    pub not_faulty : (fault : ScriptFault) → EndsForScript run history given_up fault → ⊥
    not_faulty fault ends =
        no_fault law run.words run.reads ends.bytes [] fault work.script work.plan work.inputs
        ends.is ends.faults read.read

    -- nor has the plan
    pub not_planless : (fault : PlanFault) → EndsForPlan run history given_up fault → ⊥
    not_planless fault ends =
        let taken : Taken =
        record { script = ends.bytes; plan = Some ends.plan_bytes; inputs = [] } in
        no_plan_fault run.words run.reads plans ends.command taken ends.plan_bytes fault
        ends.is_command ends.is refl ends.faults work.script work.plan work.inputs read.read

    -- no name is next
    pub not_next : (name : List ℕ) → IsNextName run name → ⊥
    not_next name (inl empty) = let e = empty.0 in let is = read.read.is in cc
    not_next name (inr (inl next)) =
        no_next_plan run name work.script work.plan work.inputs read.read next
    not_next name (inr (inr next)) =
        no_next law run.words run.reads work next.0 next.1 next.2 name read next.3 next.4

    -- the input that was read last is text
    pub not_bad : (name : List ℕ) → EndsForText run history given_up name → ⊥
    not_bad name ends =
        no_bad_text law run.words run.reads work ends.script ends.plan ends.inputs name ends.bytes
        read ends.read ends.no_text
