-- What refuses a run is told: a fault of its script or its plan, and an input that isn't text.
use Rattle.std.proofs.Common.{◌≡◌, ◌∙◌, ℕ, zero, suc, ◌<◌, List, [], ◌∷◌, ◌++◌, length, map, get_or, subst, ap, refl, arith, inl, inr, Option, Some, None}
use Rattle.std.specs.Prelude.{◌⊎◌, Contains}
use Rattle.std.specs.Str.{IsUtf8}
use Rattle.sc_base.specs.Outside.{Files}
use Rattle.sc_core.specs.declared.journals.JobHistory.{JobHistory}
use Rattle.sc_lineage.specs.ScriptData.{ScriptData, AreTexts}
use Rattle.sc_plan.specs.Plans.{FaultsPlan, PlansHaveOneReading}
use Rattle.sc_plan.specs.declared.faults.PlanFault.{PlanFault}
use Rattle.sc_plan.specs.declared.lines.PlanLine.{PlanLine}
use Rattle.sc_read.specs.declared.reads.Read.{Read}
use Rattle.sc_read.specs.Reads.{Taken, input_read, plan_read, plan_reads, reads_of, script_read}
use Rattle.sc_script.specs.Parsing.{HaveOneReading}
use Rattle.sc_script.specs.Scripts.{FaultsScript, ReadsScript}
use Rattle.sc_script.specs.declared.faults.ScriptFault.{ScriptFault}
use Rattle.sc_app.specs.declared.ran.Status.{Status}
use Rattle.sc_app.specs.declared.ran.Status.TheVariants as statuses
use Rattle.sc_app.specs.Ends.{EndsForPlan}
use Rattle.sc_app.specs.Promises.{Ends}
use Rattle.sc_app.specs.Exactly.{IsUnlessMemory, TellsFault, TellsNotText, TellsPlanFault}
use Rattle.sc_app.specs.Runs.{RunData, HasRead, IsNextName}
use Rattle.sc_app.proofs.ReadingLemmas.{no_fault, no_plan_fault, one_command, one_fault, one_plan_fault, same_behind, script_or_fault}
use Rattle.sc_words.specs.Words.{command_of}
use Rattle.sc_words.specs.declared.commands.Command.{Command}

-- ---- a fault of the script

module _ (law : HaveOneReading) (run : RunData) (history given_up : List JobHistory)
    (taken : Taken) (fault : ScriptFault)
    (is : run.reads ≡ reads_of taken) (faulty : FaultsScript taken.script fault) where
  abbrev rest : List Read
  rest = plan_reads taken.plan ++ map input_read taken.inputs

  none : (script : ScriptData) (plan : List PlanLine) (inputs : Files)
      → HasRead run.words run.reads script plan inputs → ⊥
  none script plan inputs was =
      no_fault law run.words run.reads taken.script rest fault script plan inputs is faulty was

  no_script : (bytes : List ℕ) (behind : List Read) (script : ScriptData)
      → run.reads ≡ script_read bytes ∷ behind → ReadsScript bytes script → ⊥
  no_script bytes behind script e is_script =
      script_or_fault law run.reads bytes taken.script behind rest script fault e is is_script
      faulty

  nothing_next : (name : List ℕ) → IsNextName run name → ⊥
  nothing_next name (inl empty) = let e = empty.0 in cc
  nothing_next name (inr (inl next)) = no_script next.bytes [] next.script next.is next.is_script
  nothing_next name (inr (inr next)) = none next.0 next.1 next.2 next.3

  tells_fault_here : (status : Status) → Ends run history given_up status
      → IsUnlessMemory (statuses.Script fault) status
  tells_fault_here statuses.Done ends = absurd
      (none ends.work.script ends.work.plan ends.work.inputs ends.read.read)
  tells_fault_here statuses.Usage ends = let e = ends.nothing_read in absurd cc
  tells_fault_here (statuses.Script f) ends =
      inl (ap (λ (x : ScriptFault). statuses.Script x)
      (one_fault law run.reads ends.bytes taken.script [] rest f fault ends.is is ends.faults
      faulty))
  tells_fault_here (statuses.Plan f) ends =
      absurd (no_script ends.bytes (plan_read ends.plan_bytes ∷ []) ends.script ends.is
      ends.is_script)
  tells_fault_here (statuses.Input name missing) ends = absurd (nothing_next name ends.is_next)
  tells_fault_here (statuses.Aborted abort) ends =
      absurd (none ends.work.script ends.work.plan ends.work.inputs ends.read.read)
  tells_fault_here (statuses.DriverFault k f) ends =
      absurd (none ends.work.script ends.work.plan ends.work.inputs ends.read.read)
  tells_fault_here (statuses.OutputExists dir) ends =
      absurd (none ends.work.script ends.work.plan ends.work.inputs ends.read.read)
  tells_fault_here (statuses.Device path) ends =
      absurd (none ends.work.script ends.work.plan ends.work.inputs ends.read.read)
  tells_fault_here statuses.WriteFault ends =
      absurd (none ends.work.script ends.work.plan ends.work.inputs ends.read.read)
  tells_fault_here statuses.OutOfMemory ends = inr refl
  tells_fault_here (statuses.NotText name) ends =
      absurd (none ends.script ends.plan (ends.inputs ++ (name, ends.bytes) ∷ []) ends.read)

pub tells_fault : HaveOneReading → (run : RunData) (history given_up : List JobHistory)
    (status : Status) → Ends run history given_up status → TellsFault run.reads status
tells_fault law run history given_up status ends = λ taken fault is faulty.
    tells_fault_here law run history given_up taken fault is faulty status ends

-- ---- a fault of the plan

module _ (law : PlansHaveOneReading) (run : RunData) (history given_up : List JobHistory)
    (command : Command) (taken : Taken)
    (bytes : List ℕ) (fault : PlanFault) (is_command : command_of run.words ≡ Some command)
    (is : run.reads ≡ reads_of taken) (has : taken.plan ≡ Some bytes)
    (faulty : FaultsPlan command.limits.executors bytes fault) where
  no_plan : (script : ScriptData) (plan : List PlanLine) (inputs : Files)
      → HasRead run.words run.reads script plan inputs → ⊥
  no_plan script plan inputs was =
      no_plan_fault run.words run.reads law command taken bytes fault is_command is has faulty
      script plan inputs was

  -- more than the script was read
  not_alone : (b : List ℕ) → run.reads ≡ script_read b ∷ [] → ⊥
  not_alone b e =
      let none = (same_behind run.reads taken.script b taken.plan None taken.inputs [] is e).0 in
      absurd cc

  no_name_next : (name : List ℕ) → IsNextName run name → ⊥
  no_name_next name (inl empty) = let e = empty.0 in cc
  no_name_next name (inr (inl next)) = not_alone next.bytes next.is
  no_name_next name (inr (inr next)) = no_plan next.0 next.1 next.2 next.3

  -- a fault that a run ends for is this one
  this_fault : (f : PlanFault) → EndsForPlan run history given_up f → f ≡ fault
  this_fault f ends =
      let same = one_command run.words ends.command command ends.is_command is_command in
      let read = (same_behind run.reads ends.bytes taken.script (Some ends.plan_bytes) taken.plan []
      taken.inputs ends.is is).0 ∙ has in
      let bytes_are : ends.plan_bytes ≡ bytes = cc in
      let there : FaultsPlan command.limits.executors bytes f =
      subst (λ (b : List ℕ). FaultsPlan command.limits.executors b f) bytes_are
      (subst (λ (c : Command). FaultsPlan c.limits.executors ends.plan_bytes f) same ends.faults) in
      one_plan_fault law command.limits.executors bytes f fault there faulty

  tells_plan_here : (status : Status) → Ends run history given_up status
      → IsUnlessMemory (statuses.Plan fault) status
  tells_plan_here statuses.Done ends =
      absurd (no_plan ends.work.script ends.work.plan ends.work.inputs ends.read.read)
  tells_plan_here statuses.Usage ends = let e = ends.nothing_read in absurd cc
  tells_plan_here (statuses.Script f) ends = absurd (not_alone ends.bytes ends.is)
  tells_plan_here (statuses.Plan f) ends =
      inl (ap (λ (x : PlanFault). statuses.Plan x) (this_fault f ends))
  tells_plan_here (statuses.Input name missing) ends = absurd (no_name_next name ends.is_next)
  tells_plan_here (statuses.Aborted abort) ends =
      absurd (no_plan ends.work.script ends.work.plan ends.work.inputs ends.read.read)
  tells_plan_here (statuses.DriverFault k f) ends =
      absurd (no_plan ends.work.script ends.work.plan ends.work.inputs ends.read.read)
  tells_plan_here (statuses.OutputExists dir) ends =
      absurd (no_plan ends.work.script ends.work.plan ends.work.inputs ends.read.read)
  tells_plan_here (statuses.Device path) ends =
      absurd (no_plan ends.work.script ends.work.plan ends.work.inputs ends.read.read)
  tells_plan_here statuses.WriteFault ends =
      absurd (no_plan ends.work.script ends.work.plan ends.work.inputs ends.read.read)
  tells_plan_here statuses.OutOfMemory ends = inr refl
  tells_plan_here (statuses.NotText name) ends =
      absurd (no_plan ends.script ends.plan (ends.inputs ++ (name, ends.bytes) ∷ []) ends.read)

pub tells_plan_fault : PlansHaveOneReading → (run : RunData) (history given_up : List JobHistory)
    (status : Status) → Ends run history given_up status
    → TellsPlanFault run.words run.reads status
tells_plan_fault law run history given_up status ends =
    λ command taken bytes fault is_command is has faulty.
    tells_plan_here law run history given_up command taken bytes fault is_command is has faulty
    status ends

-- ---- an input that isn't text

-- each of texts is text
text_at : (inputs : Files) (k : ℕ) (input : List ℕ × List ℕ) → AreTexts inputs
    → k < length inputs → get_or inputs k input ≡ input → IsUtf8 input.1
text_at [] k input all h e = absurd (omega arith)
text_at (x ∷ inputs) zero input all h e =
    let P : List ℕ × List ℕ → Type 0 = λ i. IsUtf8 i.1 in subst P e all.0
text_at (x ∷ inputs) (suc k) input all h e = text_at inputs k input all.1 (omega arith) e

-- each of texts and one input more is text, or is that one
text_or_last : (inputs : Files) (last : List ℕ × List ℕ) (k : ℕ) (input : List ℕ × List ℕ)
    → AreTexts inputs → k < length (inputs ++ last ∷ [])
    → get_or (inputs ++ last ∷ []) k input ≡ input → IsUtf8 input.1 ⊎ (last ≡ input)
text_or_last [] last zero input all h e = inr e
text_or_last [] last (suc k) input all h e = absurd (omega arith)
text_or_last (x ∷ inputs) last zero input all h e =
    let P : List ℕ × List ℕ → Type 0 = λ i. IsUtf8 i.1 in inl (subst P e all.0)
text_or_last (x ∷ inputs) last (suc k) input all h e =
    text_or_last inputs last k input all.1 (omega arith) e

module _ (run : RunData) (history given_up : List JobHistory) (taken : Taken)
    (name content : List ℕ)
    (is : run.reads ≡ reads_of taken) (has : Contains taken.inputs (name, content))
    (no_text : IsUtf8 content → ⊥) where
  -- not all inputs that were read are texts
  no_texts : (script : ScriptData) (plan : List PlanLine) (others : Files)
      → HasRead run.words run.reads script plan others → AreTexts others → ⊥
  no_texts script plan others was texts =
      let same : others ≡ taken.inputs =
      (same_behind run.reads was.bytes taken.script was.plan_bytes taken.plan others taken.inputs
      was.is is).1 in
      no_text (text_at taken.inputs has.0 (name, content)
      (subst (λ all. AreTexts all) same texts) has.1 has.2)

  -- an input was read
  not_without : (bytes : List ℕ) (plan : Option (List ℕ))
      → run.reads ≡ script_read bytes ∷ (plan_reads plan ++ map input_read []) → ⊥
  not_without bytes plan e =
      let same : taken.inputs ≡ [] =
      (same_behind run.reads taken.script bytes taken.plan plan taken.inputs [] is e).1 in
      let there = subst (λ (all : Files). Contains all (name, content)) same has in
      absurd (omega (arith, there.1))

  no_next_input : (next : List ℕ) → IsNextName run next → ⊥
  no_next_input next (inl empty) = let e = empty.0 in cc
  no_next_input next (inr (inl w)) = not_without w.bytes None w.is
  no_next_input next (inr (inr w)) = no_texts w.0 w.1 w.2 w.3 w.4.texts

  -- if only the input that was read last isn't text, it is this one
  only_last : (script : ScriptData) (plan : List PlanLine) (others : Files) (last text : List ℕ)
      → HasRead run.words run.reads script plan (others ++ (last, text) ∷ []) → AreTexts others
      → last ≡ name
  only_last script plan others last text was texts =
      let same : taken.inputs ≡ others ++ (last, text) ∷ [] =
      (same_behind run.reads taken.script was.bytes taken.plan was.plan_bytes taken.inputs
      (others ++ (last, text) ∷ []) is was.is).1 in
      let there = subst (λ all. Contains all (name, content)) same has in
      here (text_or_last others (last, text) there.0 (name, content) texts there.1 there.2)
    where
      here : IsUtf8 content ⊎ ◌≡◌ {A = List ℕ × List ℕ} (last, text) (name, content)
          → last ≡ name
      here (inl utf8) = absurd (no_text utf8)
      here (inr e) = ap (λ (i : List ℕ × List ℕ). i.0) e

  tells_not_text_here : (status : Status) → Ends run history given_up status
      → IsUnlessMemory (statuses.NotText name) status
  tells_not_text_here statuses.Done ends =
      absurd (no_texts ends.work.script ends.work.plan ends.work.inputs ends.read.read
      ends.read.sound.texts)
  tells_not_text_here statuses.Usage ends = let e = ends.nothing_read in absurd cc
  tells_not_text_here (statuses.Script f) ends = absurd (not_without ends.bytes None ends.is)
  tells_not_text_here (statuses.Plan f) ends =
      absurd (not_without ends.bytes (Some ends.plan_bytes) ends.is)
  tells_not_text_here (statuses.Input next missing) ends =
      absurd (no_next_input next ends.is_next)
  tells_not_text_here (statuses.Aborted abort) ends =
      absurd (no_texts ends.work.script ends.work.plan ends.work.inputs ends.read.read
      ends.read.sound.texts)
  tells_not_text_here (statuses.DriverFault k f) ends =
      absurd (no_texts ends.work.script ends.work.plan ends.work.inputs ends.read.read
      ends.read.sound.texts)
  tells_not_text_here (statuses.OutputExists dir) ends =
      absurd (no_texts ends.work.script ends.work.plan ends.work.inputs ends.read.read
      ends.read.sound.texts)
  tells_not_text_here (statuses.Device path) ends =
      absurd (no_texts ends.work.script ends.work.plan ends.work.inputs ends.read.read
      ends.read.sound.texts)
  tells_not_text_here statuses.WriteFault ends =
      absurd (no_texts ends.work.script ends.work.plan ends.work.inputs ends.read.read
      ends.read.sound.texts)
  tells_not_text_here statuses.OutOfMemory ends = inr refl
  tells_not_text_here (statuses.NotText last) ends =
      inl (ap (λ (n : List ℕ). statuses.NotText n)
      (only_last ends.script ends.plan ends.inputs last ends.bytes ends.read ends.is_next.texts))

pub tells_not_text : (run : RunData) (history given_up : List JobHistory) (status : Status)
    → Ends run history given_up status → TellsNotText run.reads status
tells_not_text run history given_up status ends = λ taken name content is has no_text.
    tells_not_text_here run history given_up taken name content is has no_text status ends
