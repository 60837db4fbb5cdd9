-- What the words of the command line ask for.
use Rattle.std.specs.Prelude.{ℕ, ◌≡◌, ◌≢◌, ◌&&◌, Bool, true, false, List, [], ◌∷◌, Option, Some, None, Result, Ok, Err, codes, nat_le, nat_lt, if◌then◌else◌, option_and_then, option_map, unwrap_or}
use Rattle.std.specs.Option.{option_map_or}
use Rattle.std.specs.Str.{bytes_eq}
use Rattle.std.specs.Str.Parse.{digits_value, without_leading_plus}
use Rattle.clap.specs.ValueTests.{is_numeral}
use Rattle.clap.specs.Words.{Row, Text, fault_of, first_of, one_of, subcommand_of, subcommand_rows_of}
use Rattle.clap.specs.declared.error.ErrorKind.{ErrorKind}
use Rattle.clap.specs.declared.error.ErrorKind.TheVariants as kinds
use Rattle.clap.specs.declared.ArgMatches.{ArgMatches}
use Rattle.sc_base.specs.declared.refusals.OrMemory.{OrMemory}
use Rattle.sc_base.specs.declared.refusals.OrMemory.TheVariants.{Fault, OutOfMemory}
use Rattle.sc_ids.specs.LimitDefaults.{default_limits}
use Rattle.sc_ids.specs.declared.limits.Limits.{Limits}
use Rattle.sc_words.specs.Program.{program}
use Rattle.sc_words.specs.declared.commands.Command.{Command}
use Rattle.sc_words.specs.declared.commands.Usage.{Usage}
use Rattle.sc_words.specs.declared.commands.Workload.{Workload}

-- `clap` takes the words
unfoldable pub AreTaken : List Text → Type 0
AreTaken words = fault_of program words ≡ []

-- the number of 32 bits that a text is in decimal digits
abbrev pub number_of : Text → Option ℕ
number_of text =
    let digits = without_leading_plus text in
    if is_numeral digits && nat_lt (digits_value 10 digits) 4294967296
    then Some (digits_value 10 digits) else None

-- a number where it is within these, or another
abbrev pub within : ℕ → ℕ → ℕ → ℕ → ℕ
within least most n other = if nat_le least n && nat_le n most then n else other

-- the number that an option has, or another where it has none within these
abbrev pub number_at : Text → ℕ → ℕ → List Row → ℕ → ℕ
number_at name least most rows other =
    within least most (unwrap_or (option_and_then number_of (one_of name rows)) other) other

-- a flag is given: the text that it has is `true`
abbrev pub flag_at : Text → List Row → Bool
flag_at name rows = option_map_or (bytes_eq (codes "true")) (one_of name rows) false

-- the limits that the options set; the others are those of a run that sets none
abbrev pub limits_at : List Row → Limits
limits_at rows = record default_limits {
  executors = number_at (codes "executors") 1 64 rows default_limits.executors;
  task_failures = number_at (codes "task-failures") 1 16 rows default_limits.task_failures;
  stage_attempts = number_at (codes "stage-attempts") 1 16 rows default_limits.stage_attempts;
  cache = number_at (codes "cache") 1 4096 rows default_limits.cache;
  speculation = flag_at (codes "speculation") rows;
}

-- the command of what `clap` found for `run`
abbrev pub run_at : List Row → Command
run_at rows = record {
  script = unwrap_or (first_of (codes "SCRIPT") rows) [];
  plan = first_of (codes "plan") rows;
  limits = limits_at rows;
  workload = None;
}

-- the workload that the options of `gen` name
abbrev pub workload_at : List Row → Workload
workload_at rows = record {
  seed = number_at (codes "seed") 0 2147483647 rows 0;
  size = number_at (codes "size") 1 100000 rows 1;
}

-- the command of what `clap` found for `gen`, whose script has a name of its own
abbrev pub gen_at : List Row → Command
gen_at rows = record {
  script = codes "gen.spark";
  plan = None;
  limits = limits_at rows;
  workload = Some (workload_at rows);
}

-- the same for a subcommand by its name, of which there are these two
abbrev pub command_at : Text × List Row → Command
command_at found = if bytes_eq found.0 (codes "gen") then gen_at found.1 else run_at found.1

-- a command, unless something refuses it
abbrev pub unless_refused : List ErrorKind → Option Command → Option Command
unless_refused [] command = command
unless_refused (kind ∷ kinds) command = None

-- what the words ask for, where `clap` takes them
unfoldable pub command_of : List Text → Option Command
command_of words =
    unless_refused (fault_of program words)
    (option_map command_at (subcommand_of program words))

-- what a reading of words answers
abbrev pub ReadsWords : List Text → Result Command (OrMemory Usage) → Type 0
ReadsWords words (Ok command) = AreTaken words × (command_of words ≡ Some command)
ReadsWords words (Err (Fault usage)) = (AreTaken words → ⊥) × (command_of words ≡ None)
ReadsWords words (Err OutOfMemory) = Unit {0}

-- what `clap` finds in the words, or how it refuses them
abbrev pub FindsMatches : List Text → Result ArgMatches (OrMemory Usage) → Type 0
FindsMatches words (Ok matches) =
    AreTaken words × (subcommand_rows_of matches ≡ subcommand_of program words)
FindsMatches words (Err (Fault usage)) = AreTaken words → ⊥
FindsMatches words (Err OutOfMemory) = Unit {0}

-- a refusal by a kind of error: it is want of memory where that ran out, and nowhere else
abbrev pub RefusesFor : ErrorKind → OrMemory Usage → Type 0
RefusesFor kind (Fault usage) = kind ≢ kinds.OutOfMemory
RefusesFor kind OutOfMemory = kind ≡ kinds.OutOfMemory

-- a name doesn't begin with `-` (45)
abbrev pub IsPlainName : Text → Type 0
IsPlainName [] = Unit {0}
IsPlainName (c ∷ cs) = c ≢ 45

-- `run` and such a name are a command: the run of that script, with no option set
abbrev pub NamesAreCommands : Type 0
NamesAreCommands =
    (name : Text) → IsPlainName name
    → command_of (codes "run" ∷ name ∷ [])
    ≡ Some (record { script = name; plan = None; limits = default_limits; workload = None })

-- with the flag behind them they are the same run, but slow tasks may be copied
abbrev pub FlagAsksForCopies : Type 0
FlagAsksForCopies =
    (name : Text) → IsPlainName name
    → command_of (codes "run" ∷ name ∷ codes "--speculation" ∷ [])
    ≡ Some (record {
      script = name;
      plan = None;
      limits = record default_limits { speculation = true };
      workload = None;
    })
