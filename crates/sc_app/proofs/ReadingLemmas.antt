-- What a run read has one form, so it speaks of one script, one plan, one work and its inputs.
use Rattle.std.proofs.Common.{Option, ◌≡◌, ◌∙◌, ℕ, ◌<◌, List, [], ◌∷◌, ◌++◌, length, map, subst, sym, ap, refl, arith, Some, None, Ok, Err}
use Rattle.std.specs.Str.{IsUtf8}
use Rattle.std.proofs.lemmas.List.{length-map}
use Rattle.std.proofs.lemmas.Option.{slice_get_within}
use Rattle.sc_base.specs.Outside.{Files}
use Rattle.sc_ids.specs.declared.limits.Limits.{Limits}
use Rattle.sc_lineage.specs.ScriptData.{ScriptData, WorkData, AreTexts, input_names, name_of_input, work_data}
use Rattle.sc_plan.specs.Plans.{FaultsPlan, PlansHaveOneReading}
use Rattle.sc_plan.specs.declared.faults.PlanFault.{PlanFault}
use Rattle.sc_plan.specs.declared.lines.PlanLine.{PlanLine}
use Rattle.sc_read.specs.declared.reads.Read.{Read}
use Rattle.sc_read.specs.declared.reads.Role.TheVariants as roles
use Rattle.sc_read.specs.Inputs.{IsNextInput}
use Rattle.sc_read.specs.Plans.{IsPlanOf}
use Rattle.sc_read.specs.Reads.{Taken, input_read, plan_read, plan_reads, reads_of, script_read}
use Rattle.sc_script.specs.declared.faults.ScriptFault.{ScriptFault}
use Rattle.sc_script.specs.Parsing.{HaveOneReading}
use Rattle.sc_script.specs.Scripts.{ReadsScript, FaultsScript}
use Rattle.sc_app.specs.Runs.{RunData, HasRead, HasReadWork, IsNextPlan}
use Rattle.sc_words.specs.Words.{command_of}
use Rattle.sc_words.specs.declared.commands.Command.{Command}

-- the same input, read
same_input : (x y : List ℕ × List ℕ) → input_read x ≡ input_read y → x ≡ y
same_input (n, t) (m, u) e =
    let r : roles.Input n ≡ roles.Input m = ap (λ (read : Read). read.role) e in
    let first : n ≡ m = cc in
    let P : List ℕ → List ℕ × List ℕ = λ k. (k, t) in
    let Q : List ℕ → List ℕ × List ℕ = λ k. (m, k) in
    ap P first ∙ ap Q (ap (λ (read : Read). read.bytes) e)

-- the same inputs, read
same_inputs : (a b : Files) → map input_read a ≡ map input_read b → a ≡ b
same_inputs [] [] e = refl
same_inputs [] (y ∷ b) e = cc
same_inputs (x ∷ a) [] e = cc
same_inputs (x ∷ a) (y ∷ b) e =
    let first : input_read x ≡ input_read y = cc in
    let rest : map input_read a ≡ map input_read b = cc in
    let one = same_input x y first in
    let all = same_inputs a b rest in
    cc (one, all)

-- the same script, read
pub same_script : (rs : List Read) (b b' : List ℕ) (is is' : List Read)
    → rs ≡ script_read b ∷ is → rs ≡ script_read b' ∷ is' → b ≡ b'
same_script rs b b' is is' e e' =
    let s : script_read b ≡ script_read b' = cc in ap (λ (x : Read). x.bytes) s

-- an input isn't a plan
no_plan_there : (b : List ℕ) (is : Files) (more : List Read)
    → plan_read b ∷ more ≡ map input_read is → ⊥
no_plan_there b [] more e = absurd cc
no_plan_there b (i ∷ is) more e =
    let first : plan_read b ≡ input_read i = cc in
    let role : roles.Plan ≡ roles.Input i.0 = ap (λ (read : Read). read.role) first in
    absurd cc

-- the same plan and the same inputs, read
same_rest : (p p' : Option (List ℕ)) (is is' : Files)
    → plan_reads p ++ map input_read is ≡ plan_reads p' ++ map input_read is'
    → (p ≡ p') × (is ≡ is')
same_rest None None is is' e = (refl, same_inputs is is' e)
same_rest None (Some b') is is' e = absurd (no_plan_there b' is (map input_read is') (sym e))
same_rest (Some b) None is is' e = absurd (no_plan_there b is' (map input_read is) e)
same_rest (Some b) (Some b') is is' e =
    let first : plan_read b ≡ plan_read b' = cc in
    let rest : map input_read is ≡ map input_read is' = cc in
    (ap (λ (read : Read). Some read.bytes) first, same_inputs is is' rest)

-- the same behind a script
pub same_behind : (rs : List Read) (b b' : List ℕ) (p p' : Option (List ℕ)) (is is' : Files)
    → rs ≡ script_read b ∷ (plan_reads p ++ map input_read is)
    → rs ≡ script_read b' ∷ (plan_reads p' ++ map input_read is') → (p ≡ p') × (is ≡ is')
same_behind rs b b' p p' is is' e e' =
    let s : plan_reads p ++ map input_read is ≡ plan_reads p' ++ map input_read is' = cc in
    same_rest p p' is is' s

-- inputs with one more are texts only if that one is
pub AreTexts-last : (inputs : Files) (name bytes : List ℕ)
    → AreTexts (inputs ++ (name, bytes) ∷ []) → IsUtf8 bytes
AreTexts-last [] name bytes all = all.0
AreTexts-last (i ∷ inputs) name bytes all = AreTexts-last inputs name bytes all.1

-- one command
pub one_command : (words : List (List ℕ)) (a b : Command) → command_of words ≡ Some a
    → command_of words ≡ Some b → a ≡ b
one_command words a b e e' = by_some (sym e ∙ e')
  where
    by_some : Some a ≡ Some b → a ≡ b
    by_some same = cc

-- two limits that are there as one are equal
one_some : {a b : Limits} → Some a ≡ Some b → a ≡ b
one_some e = cc

module _ (law : HaveOneReading) where
  -- bytes that are a script have no fault
  pub script_or_fault : (rs : List Read) (b bytes : List ℕ) (is is' : List Read)
      (script : ScriptData) (fault : ScriptFault) → rs ≡ script_read b ∷ is
      → rs ≡ script_read bytes ∷ is' → ReadsScript b script → FaultsScript bytes fault → ⊥
  script_or_fault rs b bytes is is' script fault e e' is_script faults =
      let same : b ≡ bytes = same_script rs b bytes is is' e e' in
      let one = (law bytes).only (Ok script) (subst (λ x. ReadsScript x script) same is_script) in
      let other = (law bytes).only (Err fault) faults in
      cc (one, other)

  -- bytes that were read have one fault
  pub one_fault : (rs : List Read) (b bytes : List ℕ) (is is' : List Read) (f fault : ScriptFault)
      → rs ≡ script_read b ∷ is → rs ≡ script_read bytes ∷ is' → FaultsScript b f
      → FaultsScript bytes fault → f ≡ fault
  one_fault rs b bytes is is' f fault e e' why faults =
      let same : b ≡ bytes = same_script rs b bytes is is' e e' in
      let one = (law bytes).only (Err f) (subst (λ x. FaultsScript x f) same why) in
      let other = (law bytes).only (Err fault) faults in
      cc (one, other)

module _ (law : PlansHaveOneReading) where
  -- a plan that was read is one
  one_plan_of : (named : Option (List ℕ)) (executors : ℕ) (bytes : Option (List ℕ))
      (p p' : List PlanLine) → IsPlanOf named executors bytes p
      → IsPlanOf named executors bytes p' → p ≡ p'
  one_plan_of None executors bytes p p' is is' = is.1 ∙ sym is'.1
  one_plan_of (Some name) executors None p p' is is' = absurd is
  one_plan_of (Some name) executors (Some bytes) p p' is is' =
      let one = (law executors bytes).only (Ok p) is in
      let other = (law executors bytes).only (Ok p') is' in
      cc (one, other)

  -- and it has no fault
  plan_or_fault : (named : Option (List ℕ)) (executors : ℕ) (bytes : List ℕ) (p : List PlanLine)
      (fault : PlanFault) → IsPlanOf named executors (Some bytes) p
      → FaultsPlan executors bytes fault → ⊥
  plan_or_fault None executors bytes p fault is faults = let e = is.0 in absurd cc
  plan_or_fault (Some name) executors bytes p fault is faults =
      let one = (law executors bytes).only (Ok p) is in
      let other = (law executors bytes).only (Err fault) faults in
      cc (one, other)

  -- the bytes of a plan have one fault
  pub one_plan_fault : (executors : ℕ) (bytes : List ℕ) (f fault : PlanFault)
      → FaultsPlan executors bytes f → FaultsPlan executors bytes fault → f ≡ fault
  one_plan_fault executors bytes f fault why faults =
      let one = (law executors bytes).only (Err f) why in
      let other = (law executors bytes).only (Err fault) faults in
      cc (one, other)

-- a plan that is named is there where the plan of a run is
plan_is_there : (named : Option (List ℕ)) (executors : ℕ) (bytes : Option (List ℕ)) (name : List ℕ)
    (p : List PlanLine) → named ≡ Some name → bytes ≡ None → IsPlanOf named executors bytes p → ⊥
plan_is_there None executors bytes name p e none is = absurd cc
plan_is_there (Some n) executors None name p e none is = is
plan_is_there (Some n) executors (Some b) name p e none is = absurd cc

module _ (law : HaveOneReading) (words : List (List ℕ)) (rs : List Read) where
  -- a script that was read has no fault
  pub no_fault : (bytes : List ℕ) (is : List Read) (fault : ScriptFault) (script : ScriptData)
      (plan : List PlanLine) (inputs : Files) → rs ≡ script_read bytes ∷ is
      → FaultsScript bytes fault → HasRead words rs script plan inputs → ⊥
  no_fault bytes is fault script plan inputs e faults was =
      script_or_fault law rs was.bytes bytes (plan_reads was.plan_bytes ++ map input_read inputs) is
      script fault was.is e was.is_script faults

  -- what was read is one script
  pub one_script : (s s' : ScriptData) (p p' : List PlanLine) (is is' : Files)
      → HasRead words rs s p is → HasRead words rs s' p' is' → s ≡ s'
  one_script s s' p p' is is' was was' =
      let same : was.bytes ≡ was'.bytes =
      same_script rs was.bytes was'.bytes (plan_reads was.plan_bytes ++ map input_read is)
      (plan_reads was'.plan_bytes ++ map input_read is') was.is was'.is in
      let one = (law was'.bytes).only (Ok s) (subst (λ b. ReadsScript b s) same was.is_script) in
      let other = (law was'.bytes).only (Ok s') was'.is_script in
      cc (one, other)

module _ (words : List (List ℕ)) (rs : List Read) where
  -- its plan has the same bytes, and its inputs are the same
  pub one_behind : (s s' : ScriptData) (p p' : List PlanLine) (is is' : Files)
      (was : HasRead words rs s p is) (was' : HasRead words rs s' p' is')
      → (was.plan_bytes ≡ was'.plan_bytes) × (is ≡ is')
  one_behind s s' p p' is is' was was' =
      same_behind rs was.bytes was'.bytes was.plan_bytes was'.plan_bytes is is' was.is was'.is

  -- its plan is one
  pub one_plan : PlansHaveOneReading → (s s' : ScriptData) (p p' : List PlanLine) (is is' : Files)
      → HasRead words rs s p is → HasRead words rs s' p' is' → p ≡ p'
  one_plan law s s' p p' is is' was was' =
      let command = one_command words was.command was'.command was.is_command was'.is_command in
      let bytes = (one_behind s s' p p' is is' was was').0 in
      let P : Option (List ℕ) → Type 0 =
      λ b. IsPlanOf was.command.plan was.command.limits.executors b p in
      let Q : Command → Type 0 =
      λ c. IsPlanOf c.plan c.limits.executors was'.plan_bytes p in
      one_plan_of law was'.command.plan was'.command.limits.executors was'.plan_bytes p p'
      (subst Q command (subst P bytes was.is_plan)) was'.is_plan

  -- the plan of what was read has no fault
  pub no_plan_fault : PlansHaveOneReading → (command : Command) (taken : Taken) (bytes : List ℕ)
      (fault : PlanFault) → command_of words ≡ Some command → rs ≡ reads_of taken
      → taken.plan ≡ Some bytes → FaultsPlan command.limits.executors bytes fault
      → (s : ScriptData) (p : List PlanLine) (is : Files) → HasRead words rs s p is → ⊥
  no_plan_fault law command taken bytes fault is_command e has faults s p is was =
      let same = one_command words was.command command was.is_command is_command in
      let read = (same_behind rs was.bytes taken.script was.plan_bytes taken.plan is taken.inputs
      was.is e).0 ∙ has in
      let P : Option (List ℕ) → Type 0 =
      λ b. IsPlanOf was.command.plan was.command.limits.executors b p in
      let Q : Command → Type 0 =
      λ c. IsPlanOf c.plan c.limits.executors (Some bytes) p in
      plan_or_fault law command.plan command.limits.executors bytes p fault
      (subst Q same (subst P read was.is_plan)) faults

-- where a script, its plan and inputs were read, the plan isn't next
pub no_next_plan : (run : RunData) (name : List ℕ) (s : ScriptData) (p : List PlanLine)
    (is : Files) → HasRead run.words run.reads s p is → IsNextPlan run name → ⊥
no_next_plan run name s p is was next =
    let same = one_command run.words next.command was.command next.is_command was.is_command in
    let none = (same_behind run.reads was.bytes next.bytes was.plan_bytes None is [] was.is
    next.is).0 in
    let named : was.command.plan ≡ Some name =
    ap (λ (c : Command). c.plan) (sym same) ∙ next.named in
    plan_is_there was.command.plan was.command.limits.executors was.plan_bytes name p named none
    was.is_plan

module _ (law : HaveOneReading) (plans : PlansHaveOneReading) (words : List (List ℕ))
    (rs : List Read) where
  -- so it is one work
  pub one_work : (w w' : WorkData) → HasReadWork words rs w → HasReadWork words rs w' → w ≡ w'
  one_work w w' was was' =
      let scripts = one_script law words rs w.script w'.script w.plan w'.plan w.inputs w'.inputs
      was.read was'.read in
      let inputs = (one_behind words rs w.script w'.script w.plan w'.plan w.inputs w'.inputs
      was.read was'.read).1 in
      let plan = one_plan words rs plans w.script w'.script w.plan w'.plan w.inputs w'.inputs
      was.read was'.read in
      let P : ScriptData → WorkData = λ s. work_data s w.inputs w.plan w.limits in
      let Q : Files → WorkData = λ is. work_data w'.script is w.plan w.limits in
      let limits : w.limits ≡ w'.limits = one_some (sym was.limits ∙ was'.limits) in
      ap P scripts ∙ ap Q inputs
      ∙ ap (λ p. work_data w'.script w'.inputs p w.limits) plan
      ∙ ap (λ l. work_data w'.script w'.inputs w'.plan l) limits

module _ (law : HaveOneReading) (words : List (List ℕ)) (rs : List Read) where
  -- where all inputs of a work were read, none is next
  pub no_next : (w : WorkData) (s : ScriptData) (p : List PlanLine) (is : Files) (name : List ℕ)
      → HasReadWork words rs w → HasRead words rs s p is → IsNextInput s is name → ⊥
  no_next w s p is name was some next =
      let scripts = one_script law words rs w.script s w.plan p w.inputs is was.read some in
      let inputs = (one_behind words rs w.script s w.plan p w.inputs is was.read some).1 in
      let names : map name_of_input is ≡ input_names s =
      ap (map name_of_input) (sym inputs) ∙ was.sound.names ∙ ap input_names scripts in
      let within : length is < length (input_names s) =
      slice_get_within (input_names s) (length is) name next.next in
      absurd (omega (arith, ap length names, length-map is name_of_input, within))

  -- where a work was read, the input read last is text
  pub no_bad_text : (w : WorkData) (s : ScriptData) (p : List PlanLine) (is : Files)
      (name bytes : List ℕ) → HasReadWork words rs w
      → HasRead words rs s p (is ++ (name, bytes) ∷ []) → (IsUtf8 bytes → ⊥) → ⊥
  no_bad_text w s p is name bytes was some bad =
      let inputs = (one_behind words rs w.script s w.plan p w.inputs
      (is ++ (name, bytes) ∷ []) was.read some).1 in
      bad (AreTexts-last is name bytes (subst (λ all. AreTexts all) inputs was.sound.texts))
