-- What the saves of a script leave.
use Rattle.std.specs.Prelude.{ℕ, ◌+◌, ◌≡◌, List, [], ◌∷◌, Option, Some, None, slice_get, take, false}
use Rattle.std.specs.List.{All, IsDistinct, filter_map}
use Rattle.std.specs.Str.{bytes_eq}
use Rattle.sc_base.specs.Saves.{IsApart, saved_tree}
use Rattle.sc_base.specs.Trees.{Tree, Path, has_dir, lies_under}
use Rattle.sc_lineage.specs.Actions.{ActionOutcome, saves, action_outcome}
use Rattle.sc_lineage.specs.ScriptData.{ActionData, save_action, ScriptData, WorkData}

-- the directory that an action saves to, if it saves
abbrev pub dir_of_action : ActionData → Option Path
dir_of_action (save_action node dir) = Some dir
dir_of_action action = None

-- the directories that actions save to, in order
abbrev pub saved_dirs : List ActionData → List Path
saved_dirs actions = filter_map dir_of_action actions

-- directories and files behind an action that gave this
abbrev pub after_outcome : Tree → ActionOutcome → Tree
after_outcome t (saves dir texts) = saved_tree dir texts t
after_outcome t outcome = t

-- directories and files behind actions
abbrev pub after_actions : WorkData → Tree → List ActionData → Tree
after_actions work t [] = t
after_actions work t (action ∷ actions) =
    after_actions work (after_outcome t (action_outcome work action)) actions

-- directories and files behind the first k actions: those of the opening, and what the saves among
-- the actions leave
abbrev pub saved_by : WorkData → ℕ → Tree → Tree
saved_by work k opening = after_actions work opening (take k work.script.actions)

-- no directory that a script saves to lies under another one, and nothing lies under one that isn't
-- there itself
pub record AreApart (script : ScriptData) (t : Tree) : Type 0 where
  pub beside : All
      (λ dir. All (λ other. lies_under dir other ≡ false) (saved_dirs script.actions))
      (saved_dirs script.actions)
  pub bare : All (λ dir. has_dir t dir ≡ false → IsApart dir t) (saved_dirs script.actions)

-- a script can save all: its directories are apart, none of them is there, and none is saved twice
pub record CanSaveAll (script : ScriptData) (t : Tree) : Type 0 where
  pub apart : AreApart script t
  pub absent : All (λ dir. has_dir t dir ≡ false) (saved_dirs script.actions)
  pub once : IsDistinct bytes_eq (saved_dirs script.actions)

-- the action of a number saves to a directory
abbrev pub SavesAt : WorkData → ℕ → Path → Type 0
SavesAt work k dir =
    (node : ℕ) × (slice_get work.script.actions k ≡ Some (save_action node dir))

-- The laws of saves. With the first two, what is left is what is left by one save behind another,
-- each of a directory that is apart.
pub record SavesAreLawful : Type 0 where
  -- one action more
  pub step :
      (work : WorkData) (k : ℕ) (action : ActionData) (opening : Tree)
      → slice_get work.script.actions k ≡ Some action
      → saved_by work (k + 1) opening
      ≡ after_outcome (saved_by work k opening) (action_outcome work action)
  -- a directory that isn't there when its save comes is apart then
  pub apart :
      (work : WorkData) (k : ℕ) (dir : Path) (opening : Tree) → AreApart work.script opening
      → SavesAt work k dir → has_dir (saved_by work k opening) dir ≡ false
      → IsApart dir (saved_by work k opening)
  -- so each is where a script can save all
  pub all_apart :
      (work : WorkData) (k : ℕ) (dir : Path) (opening : Tree) → CanSaveAll work.script opening
      → SavesAt work k dir → IsApart dir (saved_by work k opening)
