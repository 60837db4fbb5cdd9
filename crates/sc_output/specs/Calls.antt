-- Calls on files, one behind the other.
use Rattle.std.specs.Prelude.{ℕ, ◌≡◌, ◌⊎◌, List, [], ◌∷◌, None, Result, Ok, Err, true}
use Rattle.sc_base.specs.Counts.{Rose}
use Rattle.sc_base.specs.Outside.{FilesState, Changes, IsQuietFiles}
use Rattle.sc_base.specs.Trees.{Tree, Path, has_place, moved, with_file, without_tree}
use Rattle.sc_base.specs.declared.refusals.OrMemory.{OrMemory}
use Rattle.sc_base.specs.declared.refusals.OrMemory.TheVariants.{Fault, OutOfMemory}
use Rattle.sc_files.specs.Calls.{IsAllOrNothing, IsHalfWritten, IsPartlyRemoved, can_move}

-- a call that changes files
pub data Call : Type 0 where
  rename_call : Path → Path → Call
  remove_call : Path → Call
  write_call : Path → List ℕ → Call

-- the path that a call is to make, or the directory that it is to remove
abbrev pub path_of : Call → Path
path_of (rename_call from to) = to
path_of (remove_call dir) = dir
path_of (write_call path bytes) = path

-- what is left by a call that was done
abbrev pub after_call : Tree → Call → Tree
after_call t (rename_call from to) = moved t from to
after_call t (remove_call dir) = without_tree t dir
after_call t (write_call path bytes) = with_file t path bytes

-- what may be left by a call that failed
abbrev pub IsAfterFailed : Call → Tree → Tree → Type 0
IsAfterFailed (rename_call from to) t u = IsAllOrNothing (λ x. moved x from to) t u
IsAfterFailed (remove_call dir) t u = IsPartlyRemoved dir t u
IsAfterFailed (write_call path bytes) t u = IsHalfWritten path bytes t u

-- nothing that is there or isn't keeps a call from being done
abbrev pub IsOpen : Call → Tree → Type 0
IsOpen (rename_call from to) t = can_move from to t ≡ true
IsOpen (remove_call dir) t = Unit {0}
IsOpen (write_call path bytes) t = has_place t path ≡ true

-- what is left by calls that were all done
abbrev pub after_calls : Tree → List Call → Tree
after_calls t [] = t
after_calls t (call ∷ calls) = after_calls (after_call t call) calls

-- calls were done up to one of this path, which failed, and no further one was made
abbrev pub IsStoppedAt : List Call → Path → Tree → Tree → Type 0
IsStoppedAt [] path t u = ⊥
IsStoppedAt (call ∷ calls) path t u =
    ((path ≡ path_of call) × IsAfterFailed call t u) ⊎ IsStoppedAt calls path (after_call t call) u

-- some first calls were done, and no further one was made
abbrev pub IsPartOfTheWay : List Call → Tree → Tree → Type 0
IsPartOfTheWay [] t u = u ≡ t
IsPartOfTheWay (call ∷ calls) t u = (u ≡ t) ⊎ IsPartOfTheWay calls (after_call t call) u

-- each call is open behind those before it
abbrev pub AreOpen : List Call → Tree → Type 0
AreOpen [] t = Unit {0}
AreOpen (call ∷ calls) t = IsOpen call t × AreOpen calls (after_call t call)

-- one of the calls has this path
abbrev pub HasPath : List Call → Path → Type 0
HasPath [] path = ⊥
HasPath (call ∷ calls) path = (path ≡ path_of call) ⊎ HasPath calls path

-- a call wasn't done: the faults rose, or the clashes did where the files don't show
abbrev pub IsNotDone : FilesState → FilesState → Type 0
IsNotDone before after =
    Rose before.faults after.faults
    ⊎ ((before.shown ≡ None) × Rose before.clashes after.clashes)

-- Makes calls, in order, up to the first that isn't done, by the answer, which has the path of that
-- call. Where memory ran out, that was before a call or in one that changed nothing.
abbrev pub MakesCalls :
    List Call → FilesState → FilesState → Result (Unit {0}) (OrMemory Path) → Type 0
MakesCalls calls before after (Ok u) =
    IsQuietFiles before after
    × Changes (λ t u. u ≡ after_calls t calls) before.shown after.shown
MakesCalls calls before after (Err (Fault path)) =
    HasPath calls path × IsNotDone before after
    × Changes (IsStoppedAt calls path) before.shown after.shown
MakesCalls calls before after (Err OutOfMemory) =
    IsQuietFiles before after × Changes (IsPartOfTheWay calls) before.shown after.shown
