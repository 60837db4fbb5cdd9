-- What attempts did, and which of their files stand.
use Rattle.std.specs.Prelude.{ℕ, ◌≡◌, ◌≢◌, ◌⊎◌, List, [], ◌∷◌, Some}
use Rattle.sc_base.specs.Lists.{at_or}
use Rattle.sc_base.specs.Trees.{Tree, Path, file_at}
use Rattle.sc_ids.specs.declared.attempts.AttemptId.{AttemptId}
use Rattle.sc_output.specs.Names.{IsWithinTypes, committed_path, staged_path}
use Rattle.sc_staging.specs.StagingData.{AreThere}
use Rattle.sc_staging.specs.declared.parts.Written.{Written}
use Rattle.sc_staging.specs.declared.parts.Written.TheVariants as ends

-- what an attempt did with its part: it wrote it, it gave it its committed name, or a call for one
-- of these failed
pub data Deed : Type 0 where
  wrote : Deed
  renamed : Deed
  broke : Deed

-- a thing that was done, and by which attempt
pub record Done : Type 0 where
  pub attempt : AttemptId
  pub deed : Deed

abbrev pub done_by : AttemptId → Deed → Done
done_by a deed = record { attempt = a; deed = deed }

-- what was done by a write of a part
abbrev pub write_deed : Written → Deed
write_deed ends.Done = wrote
write_deed (ends.Failed fault) = broke

-- what was done by a rename of a part
abbrev pub rename_deed : Written → Deed
rename_deed ends.Done = renamed
rename_deed (ends.Failed fault) = broke

-- of these things an attempt did none
abbrev pub DidNone : AttemptId → List Done → Type 0
DidNone a [] = Unit {0}
DidNone a (done ∷ more) = (done.attempt ≢ a) × DidNone a more

-- of these things an attempt did this one last
abbrev pub DidLast : AttemptId → Deed → List Done → Type 0
DidLast a deed [] = ⊥
DidLast a deed (done ∷ more) =
    ((done.attempt ≡ a) × (done.deed ≡ deed) × DidNone a more) ⊎ DidLast a deed more

-- the text of an attempt's part: that of its partition
abbrev pub text_of : List (List ℕ) → AttemptId → List ℕ
text_of texts a = at_or texts a.partition []

-- the file that an attempt has by what it did last stands with its text
abbrev pub StandsBy : Path → List (List ℕ) → Tree → AttemptId → Deed → Type 0
StandsBy dir texts t a wrote = file_at t (staged_path dir a) ≡ Some (text_of texts a)
StandsBy dir texts t a renamed = file_at t (committed_path dir a) ≡ Some (text_of texts a)
StandsBy dir texts t a broke = Unit {0}

-- the directories of a save are there, and the files of attempts by what they did
pub record HasFiles (dir : Path) (texts : List (List ℕ)) (done : List Done) (t : Tree) : Type 0
  where
    pub there : AreThere dir t
    pub standing : (a : AttemptId) (deed : Deed) → IsWithinTypes a → DidLast a deed done
        → StandsBy dir texts t a deed

-- each of these attempts gave its part its committed name, and did nothing later
abbrev pub HaveRenamed : List Done → List AttemptId → Type 0
HaveRenamed done [] = Unit {0}
HaveRenamed done (a ∷ more) = DidLast a renamed done × HaveRenamed done more
