-- How one call on files ends a commit.
use Rattle.std.specs.Prelude.{◌≡◌, Result, Ok, Err}
use Rattle.sc_base.specs.Trees.{Path}
use Rattle.sc_base.specs.declared.refusals.OrMemory.{OrMemory}
use Rattle.sc_base.specs.declared.refusals.OrMemory.TheVariants.{Fault, OutOfMemory}
use Rattle.sc_files.specs.declared.files.FileAnswer.{FileAnswer}
use Rattle.sc_files.specs.declared.files.FileAnswer.TheVariants as ends

-- what is answered for a call of this path, by how it ended
abbrev pub EndsAs : FileAnswer → Path → Result (Unit {0}) (OrMemory Path) → Type 0
EndsAs ends.Done path result = result ≡ Ok tt
EndsAs ends.NoDir path result = result ≡ Err (Fault path)
EndsAs ends.NoFile path result = result ≡ Err (Fault path)
EndsAs ends.Failed path result = result ≡ Err (Fault path)
EndsAs ends.OutOfMemory path result = result ≡ Err OutOfMemory
