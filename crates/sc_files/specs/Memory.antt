-- Files in memory.
use Rattle.std.specs.Prelude.{ℕ, refl, ◌≡◌, List, [], ◌∷◌, ◌++◌, Some, Bool, true, false, nat_eq}
use Rattle.std.specs.Coded.{Coded, code_by, coded×, coded_list, coded_ℕ}
use Rattle.std.specs.List.{list_any}
use Rattle.sc_base.specs.Counts.{counted}
use Rattle.sc_base.specs.Outside.{FilesState, files_state}
use Rattle.sc_base.specs.Trees.{Tree, Path, tree_code, no_tree, with_dir}
use Rattle.sc_files.specs.declared.files.FileAnswer.{FileAnswer}
use Rattle.sc_files.specs.declared.files.FileAnswer.TheVariants as ends
use Rattle.sc_files.specs.declared.files.MakeAnswer.{MakeAnswer}
use Rattle.sc_files.specs.declared.files.MakeAnswer.TheVariants as makes

-- a tree in memory, the calls on it that are to fail, and what was counted
pub record KeptTree : Type 0 where
  -- the directories and the files
  pub tree : Tree
  -- the numbers of the calls that are to fail; the first call of all has the number 1
  pub failing : List ℕ
  -- how many calls were answered
  pub calls : ℕ
  -- how many of them failed
  pub faults : ℕ
  -- how many of them clashed with what was there or wasn't
  pub clashes : ℕ

abbrev pub kept_tree : Tree → List ℕ → ℕ → ℕ → ℕ → KeptTree
kept_tree tree failing calls faults clashes =
    record { tree = tree; failing = failing; calls = calls; faults = faults; clashes = clashes }

-- such a tree told by its parts
abbrev pub kept_tree_code : Coded KeptTree
kept_tree_code =
    code_by ((Tree × List ℕ) × (ℕ × (ℕ × ℕ)))
    (coded× (coded× tree_code (coded_list coded_ℕ)) (coded× coded_ℕ (coded× coded_ℕ coded_ℕ)))
    (λ k. ((k.tree, k.failing), (k.calls, (k.faults, k.clashes))))
    (λ p. kept_tree p.0.0 p.0.1 p.1.0 p.1.1.0 p.1.1.1) (λ _. refl)

-- what it shows: the whole tree
abbrev pub shown_kept : KeptTree → FilesState
shown_kept kept = files_state (Some kept.tree) kept.faults kept.clashes

-- no directory, no file, no call that is to fail, and nothing counted
abbrev pub nothing_kept : KeptTree
nothing_kept = kept_tree no_tree [] 0 0 0

-- one more call that is to fail
abbrev pub with_failing_call : KeptTree → ℕ → KeptTree
with_failing_call kept call = record kept { failing = kept.failing ++ call ∷ [] }

-- whether a call of this number is to fail
abbrev pub is_to_fail : List ℕ → ℕ → Bool
is_to_fail failing call = list_any (λ number. nat_eq number call) failing

-- whether the next call is to fail
abbrev pub is_next_to_fail : KeptTree → Bool
is_next_to_fail kept = is_to_fail kept.failing (counted kept.calls)

-- one more call that was answered, and the tree that it left
abbrev pub answered : KeptTree → Tree → KeptTree
answered kept tree = record kept { tree = tree; calls = counted kept.calls }

-- a call was done, as it was not to fail
abbrev pub IsDone : KeptTree → KeptTree → Tree → Type 0
IsDone before after tree = (is_next_to_fail before ≡ false) × (after ≡ answered before tree)

-- a call clashed, as it was not to fail, and changed nothing but counts
abbrev pub IsClash : KeptTree → KeptTree → Type 0
IsClash before after =
    (is_next_to_fail before ≡ false)
    × (after ≡ record (answered before before.tree) { clashes = counted before.clashes })

-- a call failed, as it was to, and changed nothing but counts
abbrev pub IsPlannedFault : KeptTree → KeptTree → Type 0
IsPlannedFault before after =
    (is_next_to_fail before ≡ true)
    × (after ≡ record (answered before before.tree) { faults = counted before.faults })

-- Makes a directory in memory, by the answer. Here and below, all calls are counted but those that
-- want of memory ended.
abbrev pub MakesKept : KeptTree → KeptTree → Path → MakeAnswer → Type 0
MakesKept before after dir makes.Made = IsDone before after (with_dir before.tree dir)
MakesKept before after dir makes.Exists = IsClash before after
MakesKept before after dir makes.Failed = IsPlannedFault before after
MakesKept before after dir makes.OutOfMemory = after ≡ before

-- Ends another call in memory, which was to leave this tree, by the answer.
abbrev pub EndsKept : KeptTree → KeptTree → Tree → FileAnswer → Type 0
EndsKept before after tree ends.Done = IsDone before after tree
EndsKept before after tree ends.NoDir = IsClash before after
EndsKept before after tree ends.NoFile = IsClash before after
EndsKept before after tree ends.Failed = IsPlannedFault before after
EndsKept before after tree ends.OutOfMemory = after ≡ before
