-- What was read, in order.
use Rattle.std.specs.Prelude.{ℕ, ◌≡◌, List, [], ◌∷◌, ◌++◌, length, map, take, Option, Some, None, IfSome, unwrap_or}
use Rattle.sc_base.specs.Lists.{content_of}
use Rattle.sc_base.specs.Outside.{Files}
use Rattle.sc_lineage.specs.ScriptData.{ScriptData, input_names, name_of_input}
use Rattle.sc_read.specs.declared.reads.Role.{Role}
use Rattle.sc_read.specs.declared.reads.Role.TheVariants as roles
use Rattle.sc_read.specs.declared.reads.Read.{Read}

-- what a run takes from its source
pub record Taken : Type 0 where
  -- the script's bytes
  pub script : List ℕ
  -- the plan's bytes, where a plan was read
  pub plan : Option (List ℕ)
  -- the inputs, each under its name
  pub inputs : Files

-- these bytes, read as the script
abbrev pub script_read : List ℕ → Read
script_read bytes = record { role = roles.Script; bytes = bytes }

-- these bytes, read as the plan
abbrev pub plan_read : List ℕ → Read
plan_read bytes = record { role = roles.Plan; bytes = bytes }

-- the plan, read, where it was
abbrev pub plan_reads : Option (List ℕ) → List Read
plan_reads None = []
plan_reads (Some bytes) = plan_read bytes ∷ []

-- an input, read
abbrev pub input_read : List ℕ × List ℕ → Read
input_read input = record { role = roles.Input input.0; bytes = input.1 }

-- what was taken, as a list of reads in their order
abbrev pub reads_of : Taken → List Read
reads_of taken =
    script_read taken.script ∷ (plan_reads taken.plan ++ map input_read taken.inputs)

-- the name that was asked for in a role, where script and plan are named by these words
abbrev pub name_of_role : List ℕ → Option (List ℕ) → Role → List ℕ
name_of_role script plan roles.Script = script
name_of_role script plan roles.Plan = unwrap_or plan []
name_of_role script plan (roles.Input name) = name

-- the names of reads, in order
abbrev pub names_of_reads : List ℕ → Option (List ℕ) → List Read → List (List ℕ)
names_of_reads script plan reads = map (λ read. name_of_role script plan read.role) reads

-- where a source shows its files, it has these bytes under the name
abbrev pub IsShown : Option Files → List ℕ → List ℕ → Type 0
IsShown shown name bytes = IfSome shown (λ files. content_of files name ≡ Some bytes)

-- where a source shows its files, it has nothing under the name
abbrev pub IsMissing : Option Files → List ℕ → Type 0
IsMissing shown name = IfSome shown (λ files. content_of files name ≡ None)

-- where a source shows its files, it has each of these inputs
abbrev pub AreShown : Option Files → Files → Type 0
AreShown shown [] = Unit {0}
AreShown shown (input ∷ inputs) = IsShown shown input.0 input.1 × AreShown shown inputs

-- these are the first inputs that a script names, as a source shows them
pub record AreFirstInputs (script : ScriptData) (shown : Option Files) (inputs : Files)
    : Type 0 where
  pub named : map name_of_input inputs ≡ take (length inputs) (input_names script)
  pub are_shown : AreShown shown inputs
