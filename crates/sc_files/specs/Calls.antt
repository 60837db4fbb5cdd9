-- What the calls on files answer and leave.
use Rattle.std.specs.Prelude.{ℕ, ◌≡◌, ◌⊎◌, ◌&&◌, Bool, true, false, List, None, take, is_some}
use Rattle.sc_base.specs.Counts.{Rose}
use Rattle.sc_base.specs.Outside.{FilesState, Changes, IsQuietFiles}
use Rattle.sc_base.specs.Trees.{Tree, Path, file_at, has_dir, has_place, is_in, lies_under, moved, with_dir, with_file, without_file, without_tree}
use Rattle.sc_ids.specs.declared.failures.Counts.{Counts}
use Rattle.sc_files.specs.declared.files.FileAnswer.{FileAnswer}
use Rattle.sc_files.specs.declared.files.FileAnswer.TheVariants as ends
use Rattle.sc_files.specs.declared.files.MakeAnswer.{MakeAnswer}
use Rattle.sc_files.specs.declared.files.MakeAnswer.TheVariants as makes

-- what files have counted
abbrev pub counts_of : FilesState → Counts
counts_of files = record { faults = files.faults; clashes = files.clashes }

-- a call failed: the faults rose, and the clashes didn't
pub record CountsFault (before after : FilesState) : Type 0 where
  pub failed : Rose before.faults after.faults
  pub clashes : after.clashes ≡ before.clashes

-- a call clashed with what was there or wasn't: the clashes rose, and the faults didn't
pub record CountsClash (before after : FilesState) : Type 0 where
  pub clashed : Rose before.clashes after.clashes
  pub faults : after.faults ≡ before.faults

-- files that show had this answer to a test, and were changed so
abbrev pub Turns : (Tree → Bool) → Bool → (Tree → Tree) → FilesState → FilesState → Type 0
Turns test found change before after =
    Changes (λ t u. (test t ≡ found) × (u ≡ change t)) before.shown after.shown

-- a tree was changed so or not at all
abbrev pub IsAllOrNothing : (Tree → Tree) → Tree → Tree → Type 0
IsAllOrNothing change t u = (u ≡ t) ⊎ (u ≡ change t)

-- a tree with the old file at a path, with none there, or with one of a front of the bytes
abbrev pub IsHalfWritten : Path → List ℕ → Tree → Tree → Type 0
IsHalfWritten path bytes t u =
    (u ≡ t) ⊎ ((u ≡ without_file t path) ⊎ ((n : ℕ) × (u ≡ with_file t path (take n bytes))))

-- some of what is in a directory may be gone, the directory itself included, and nothing else
pub record IsPartlyRemoved (dir : Path) (t u : Tree) : Type 0 where
  pub dirs : (q : Path) → (has_dir u q ≡ has_dir t q)
      ⊎ ((is_in dir q ≡ true) × (has_dir u q ≡ false))
  pub files : (q : Path) → (file_at u q ≡ file_at t q)
      ⊎ ((lies_under dir q ≡ true) × (file_at u q ≡ None))

-- whether a file can be renamed so: it is there, and so is the directory that it is to be put in
abbrev pub can_move : Path → Path → Tree → Bool
can_move from to t = is_some (file_at t from) && has_place t to

-- why a directory was made or wasn't
abbrev pub IsMakeCause : FilesState → FilesState → Path → MakeAnswer → Type 0
IsMakeCause before after dir makes.Made =
    IsQuietFiles before after
    × Turns (λ t. has_dir t dir) false (λ t. with_dir t dir) before after
IsMakeCause before after dir makes.Exists =
    CountsClash before after × Turns (λ t. has_dir t dir) true (λ t. t) before after
IsMakeCause before after dir makes.Failed =
    CountsFault before after
    × Changes (IsAllOrNothing (λ t. with_dir t dir)) before.shown after.shown
IsMakeCause before after dir makes.OutOfMemory = after ≡ before

-- why a file was written or wasn't
abbrev pub IsWriteCause : FilesState → FilesState → Path → List ℕ → FileAnswer → Type 0
IsWriteCause before after path bytes ends.Done =
    IsQuietFiles before after
    × Turns (λ t. has_place t path) true (λ t. with_file t path bytes) before after
IsWriteCause before after path bytes ends.NoDir =
    CountsClash before after × Turns (λ t. has_place t path) false (λ t. t) before after
IsWriteCause before after path bytes ends.NoFile = ⊥
IsWriteCause before after path bytes ends.Failed =
    CountsFault before after × Changes (IsHalfWritten path bytes) before.shown after.shown
IsWriteCause before after path bytes ends.OutOfMemory = after ≡ before

-- why a file was renamed or wasn't
abbrev pub IsRenameCause : FilesState → FilesState → Path → Path → FileAnswer → Type 0
IsRenameCause before after from to ends.Done =
    IsQuietFiles before after × Turns (can_move from to) true (λ t. moved t from to) before after
IsRenameCause before after from to ends.NoDir = ⊥
IsRenameCause before after from to ends.NoFile =
    CountsClash before after × Turns (can_move from to) false (λ t. t) before after
IsRenameCause before after from to ends.Failed =
    CountsFault before after
    × Changes (IsAllOrNothing (λ t. moved t from to)) before.shown after.shown
IsRenameCause before after from to ends.OutOfMemory = after ≡ before

-- why a directory was removed or wasn't; one that isn't there needs no removal
abbrev pub IsRemoveCause : FilesState → FilesState → Path → FileAnswer → Type 0
IsRemoveCause before after dir ends.Done =
    IsQuietFiles before after
    × Changes (λ t u. u ≡ without_tree t dir) before.shown after.shown
IsRemoveCause before after dir ends.NoDir = ⊥
IsRemoveCause before after dir ends.NoFile = ⊥
IsRemoveCause before after dir ends.Failed =
    CountsFault before after × Changes (IsPartlyRemoved dir) before.shown after.shown
IsRemoveCause before after dir ends.OutOfMemory = after ≡ before
