-- That outputs are forgotten between the Take and the success of an attempt that comes too late.
use Rattle.std.specs.Prelude.{ℕ, ◌≡◌, ◌≤◌, List, [], ◌∷◌, ◌++◌, Some}
use Rattle.sc_ids.specs.declared.attempts.AttemptId.{AttemptId}
use Rattle.sc_ids.specs.declared.blocks.Loc.{Loc}
use Rattle.sc_lineage.specs.ScriptData.{WorkData}
use Rattle.sc_core.specs.CoreData.{CoreData, running_of, shelved_of}
use Rattle.sc_core.specs.HandOuts.{HandOutData}
use Rattle.sc_core.specs.Journals.{Replays}
use Rattle.sc_core.specs.declared.answers.Answer.TheVariants as says
use Rattle.sc_core.specs.declared.entries.Entry.{Entry}
use Rattle.sc_core.specs.declared.events.Outcome.TheVariants as outcomes
use Rattle.sc_core.specs.declared.running.Running.{Running}
use Rattle.sc_core.specs.declared.running.Shelved.{Shelved}
use Rattle.sc_history.specs.Trackers.{times_forgotten}
use Rattle.sc_net.specs.Tasks.{TaskData}
use Rattle.sc_net.specs.declared.findings.Finding.TheVariants as findings
use Rattle.sc_task.specs.Attempts.{reported}
use Rattle.sc_world.specs.Steps.{Goes}
use Rattle.sc_world.specs.WorldData.{WorldData, core_in, held_at}
use Rattle.sc_world.specs.declared.steps.Applied.TheVariants as applied
use Rattle.sc_world.specs.declared.steps.Step.TheVariants as steps
use Rattle.sc_epochs.specs.Worlds.{ComesAbout}

-- An attempt was handed out by an entry of a journal, and an entry behind that one forgets outputs.
pub record ForgetsSince (opening end : CoreData) (entries : List Entry) (a : AttemptId)
    : Type 0 where
  pub before : List Entry
  pub asked : Entry
  pub behind : List Entry
  pub parts : entries ≡ before ++ asked ∷ behind
  -- by this task
  pub task : HandOutData
  pub given : asked.answer ≡ says.Task task
  pub attempt : task.attempt ≡ a
  -- which the core was left with that then came to the end
  pub handed : CoreData
  pub first : Replays opening (before ++ asked ∷ []) handed
  pub rest : Replays handed behind end
  pub forgets : 1 ≤ times_forgotten handed behind end rest

-- So it is of each attempt whose map output is answered bogus in a world, as its report is posted
-- or told late.
abbrev pub StaleWereForgotten : Type 0
StaleWereForgotten =
    (work : WorkData) (w after : WorldData) (loc : Loc) → ComesAbout work w
    → Replays w.desk.journal.opening w.desk.journal.entries (core_in w)
    → ((exec : ℕ) (task : TaskData)
    → held_at w exec ≡ Some (reported task (findings.Map loc))
    → Goes work w (steps.Post exec) (applied.Told says.Bogus) after
    → ForgetsSince w.desk.journal.opening (core_in w) w.desk.journal.entries
    task.hand_out.attempt)
    × ((key : ℕ) (s : Shelved) (r : Running) → shelved_of (core_in w) key ≡ Some s
    → s.outcome ≡ outcomes.Map loc → running_of (core_in w) s.attempt ≡ Some r
    → Goes work w (steps.Release key) (applied.Told says.Bogus) after
    → ForgetsSince w.desk.journal.opening (core_in w) w.desk.journal.entries
    r.hand_out.attempt)
