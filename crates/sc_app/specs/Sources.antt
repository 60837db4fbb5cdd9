-- What a run reads from: the source that it was handed, or files that are made.
use Rattle.std.specs.Prelude.{ℕ, ◌≡◌, List, Option, Some, None}
use Rattle.std.specs.Prelude.{option_and_then}
use Rattle.std.specs.Option.{option_map}
use Rattle.sc_base.specs.Outside.{SourceState}
use Rattle.sc_gen.specs.Script.{GeneratedData, new_files, shown_files}
use Rattle.sc_words.specs.Words.{command_of}
use Rattle.sc_words.specs.declared.commands.Command.{Command}
use Rattle.sc_words.specs.declared.commands.Workload.{Workload}

-- the files that are made for a workload, under the name of a script
abbrev pub files_for : List ℕ → Workload → GeneratedData
files_for script workload = new_files script workload.seed workload.size

-- the files that are made for a command, where it asks for a workload
abbrev pub files_made : Command → Option GeneratedData
files_made command = option_map (files_for command.script) command.workload

-- the same for words
abbrev pub files_of_words : List (List ℕ) → Option GeneratedData
files_of_words words = option_and_then files_made (command_of words)

-- this holds of a source that has files that are made, before it is read from and after
abbrev pub RunsOver : GeneratedData → (SourceState → SourceState → Type 0) → Type 0
RunsOver made Holds =
    (misses : ℕ) × Holds (shown_files made) (shown_files (record made { misses = misses }))

-- This holds of what was read from, before and after: of the source that was handed in, or, where
-- files are made, of a source that has these, while the one handed in isn't touched.
abbrev pub OverMade : Option GeneratedData → (SourceState → SourceState → Type 0) → SourceState
    → SourceState → Type 0
OverMade None Holds before after = Holds before after
OverMade (Some made) Holds before after =
    (after ≡ before) × RunsOver made Holds

-- the same for the words of a run
abbrev pub Over : List (List ℕ) → (SourceState → SourceState → Type 0) → SourceState
    → SourceState → Type 0
Over words Holds before after = OverMade (files_of_words words) Holds before after
