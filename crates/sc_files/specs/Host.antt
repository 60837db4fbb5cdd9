-- The files of the system.
use Rattle.std.specs.Prelude.{◌≡◌, ◌≢◌, List, ℕ, None, Result, Ok, Err}
use Rattle.std.specs.IoError.{error_kind}
use Rattle.std.specs.declared.io.Error.{Error}
use Rattle.std.specs.declared.io.ErrorKind.{ErrorKind}
use Rattle.std.specs.declared.io.ErrorKind.TheVariants as kinds
use Rattle.sc_base.specs.Counts.{counted}
use Rattle.sc_base.specs.Outside.{FilesState, files_state}
use Rattle.sc_sink.specs.Writers.{WriterState, TakesAll, FailsWithin}
use Rattle.sc_files.specs.declared.files.FileAnswer.{FileAnswer}
use Rattle.sc_files.specs.declared.files.FileAnswer.TheVariants as ends
use Rattle.sc_files.specs.declared.files.MakeAnswer.{MakeAnswer}
use Rattle.sc_files.specs.declared.files.MakeAnswer.TheVariants as makes

-- files that show nothing, and of which no call failed or clashed
abbrev pub unseen_tree : FilesState
unseen_tree = files_state None 0 0

-- one more call that failed, where a count stands still at its type's last value
abbrev pub with_fault : FilesState → FilesState
with_fault files = record files { faults = counted files.faults }

-- one more call that clashed
abbrev pub with_clash : FilesState → FilesState
with_clash files = record files { clashes = counted files.clashes }

-- Makes a directory of the system, by the answer: nothing is counted, or one more clash or fault.
abbrev pub MakesUnseen : FilesState → FilesState → MakeAnswer → Type 0
MakesUnseen before after makes.Made = after ≡ before
MakesUnseen before after makes.Exists = after ≡ with_clash before
MakesUnseen before after makes.Failed = after ≡ with_fault before
MakesUnseen before after makes.OutOfMemory = ⊥

-- Ends another call on files of the system, by the answer.
abbrev pub EndsUnseen : FilesState → FilesState → FileAnswer → Type 0
EndsUnseen before after ends.Done = after ≡ before
EndsUnseen before after ends.NoDir = after ≡ with_clash before
EndsUnseen before after ends.NoFile = after ≡ with_clash before
EndsUnseen before after ends.Failed = after ≡ with_fault before
EndsUnseen before after ends.OutOfMemory = ⊥

-- what is answered where the system made a directory, or had this error
abbrev pub SettlesMake : Result (Unit {0}) Error → MakeAnswer → Type 0
SettlesMake (Ok u) makes.Made = Unit {0}
SettlesMake (Err error) makes.Exists = error_kind error ≡ kinds.AlreadyExists
SettlesMake (Err error) makes.Failed = error_kind error ≢ kinds.AlreadyExists
SettlesMake made answer = ⊥

-- what is answered where the system couldn't open a file for an error of this kind
abbrev pub RefusesWrite : ErrorKind → FileAnswer → Type 0
RefusesWrite kind ends.NoDir = kind ≡ kinds.NotFound
RefusesWrite kind ends.Failed = kind ≢ kinds.NotFound
RefusesWrite kind answer = ⊥

-- what is answered of bytes that were put into a file: its writer took all of them and sent them
-- on, or a call of it failed
abbrev pub Puts : WriterState → WriterState → List ℕ → FileAnswer → Type 0
Puts before after bytes ends.Done = TakesAll before after bytes
Puts before after bytes ends.Failed = FailsWithin before after bytes
Puts before after bytes answer = ⊥

-- what is answered where the system kept all bytes of a file, or had an error
abbrev pub Closes : Result (Unit {0}) Error → FileAnswer → Type 0
Closes (Ok u) ends.Done = Unit {0}
Closes (Err error) ends.Failed = Unit {0}
Closes kept answer = ⊥

-- what is answered where the system renamed a file, or had this error
abbrev pub SettlesRename : Result (Unit {0}) Error → FileAnswer → Type 0
SettlesRename (Ok u) ends.Done = Unit {0}
SettlesRename (Err error) ends.NoFile = error_kind error ≡ kinds.NotFound
SettlesRename (Err error) ends.Failed = error_kind error ≢ kinds.NotFound
SettlesRename renamed answer = ⊥

-- what is answered where the system removed a directory, or had this error
abbrev pub SettlesRemoval : Result (Unit {0}) Error → FileAnswer → Type 0
SettlesRemoval (Ok u) ends.Done = Unit {0}
SettlesRemoval (Err error) ends.Done = error_kind error ≡ kinds.NotFound
SettlesRemoval (Err error) ends.Failed = error_kind error ≢ kinds.NotFound
SettlesRemoval removed answer = ⊥
