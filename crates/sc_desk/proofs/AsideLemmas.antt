-- What happens beside the reports leaves what holds of every desk.
use Rattle.std.proofs.Common.{◌≡◌, inl, inr, [], ◌∷◌, ◌++◌, sym, subst}
use Rattle.sc_base.specs.Counts.{Rose}
use Rattle.sc_base.specs.Outside.{FilesState}
use Rattle.sc_ids.specs.Failures.{HasRisen}
use Rattle.sc_ids.specs.declared.attempts.Mark.{Mark}
use Rattle.sc_ids.specs.declared.failures.Counts.{Counts}
use Rattle.sc_ids.specs.declared.failures.Fault.{Fault}
use Rattle.sc_lineage.specs.ScriptData.{WorkData}
use Rattle.sc_output.specs.Calls.{Call, IsNotDone}
use Rattle.sc_staging.specs.Parts.{EndsPart, TellsOf}
use Rattle.sc_staging.specs.declared.parts.Written.{Written}
use Rattle.sc_staging.specs.declared.parts.Written.TheVariants as ends
use Rattle.sc_core.specs.Journals.{JournalData, Replays, entry}
use Rattle.sc_core.specs.Sound.{IsSoundCore}
use Rattle.sc_core.specs.Steps.{Steps}
use Rattle.sc_core.specs.declared.answers.Answer.TheVariants as says
use Rattle.sc_core.specs.declared.answers.SideAnswer.{SideAnswer}
use Rattle.sc_core.specs.declared.events.Event.TheVariants.{Side}
use Rattle.sc_core.specs.declared.events.SideEvent.{SideEvent}
use Rattle.sc_desk.specs.DeskData.{DeskData, core_of}
use Rattle.sc_desk.specs.Saving.{told_of}
use Rattle.sc_desk.specs.Shelves.{shelf_in}
use Rattle.sc_desk.specs.Sound.{HasFailedFor, IsEvidentAside, IsSoundDesk}
use Rattle.sc_desk.proofs.ReleaseLemmas.{noted_keeps}

-- one entry more in a journal that took room for it
pub aside_keeps :
    (work : WorkData) (d after : DeskData) (by : Mark) (event : SideEvent) (said : SideAnswer)
    (j : JournalData) → j ≡ d.journal → IsSoundDesk work d → IsSoundCore j.core
    → Replays j.opening j.entries j.core
    → Steps j.core (Side event) (says.Side said) (core_of after)
    → after.journal.entries ≡ j.entries ++ entry by (Side event) (says.Side said) ∷ []
    → after.journal.opening ≡ j.opening
    → after.job ≡ d.job → after.carried ≡ d.carried → after.ordered ≡ d.ordered
    → IsEvidentAside event → after.results ≡ d.results
    → after.shelf ≡ shelf_in (core_of after) d.shelf → IsSoundDesk work after
aside_keeps work d after by event said j same sound core replays step entries opening job carried
    ordered evident results shelf =
    noted_keeps work d after by event (says.Side said) sound
    (subst (λ (x : JournalData). IsSoundCore x.core) same core)
    (subst (λ (x : JournalData). Replays x.opening x.entries x.core) same replays)
    (record {
      step = subst (λ (x : JournalData). Steps x.core (Side event) (says.Side said)
          (core_of after)) same step;
      entries = subst (λ (x : JournalData). after.journal.entries
          ≡ x.entries ++ entry by (Side event) (says.Side said) ∷ []) same entries;
      opening = subst (λ (x : JournalData). after.journal.opening ≡ x.opening) same opening;
      job = job;
      carried = carried;
      ordered = ordered;
    })
    evident results shelf

-- a call on the files that failed has its evidence
risen : (fault : Fault) (old new : FilesState) → TellsOf fault old new → HasRisen fault
risen fault old new tells = by tells.cause
  where
    by : IsNotDone old new → HasRisen fault
    by (inl rose) =
        inl (subst (λ (c : Counts). Rose c.faults fault.after.faults) (sym tells.before)
        (subst (λ (c : Counts). Rose old.faults c.faults) (sym tells.after) rose))
    by (inr (unseen, rose)) =
        inr (subst (λ (c : Counts). Rose c.clashes fault.after.clashes) (sym tells.before)
        (subst (λ (c : Counts). Rose old.clashes c.clashes) (sym tells.after) rose))

pub ended_evident : (call : Call) (old new : FilesState) (written : Written)
    → EndsPart call old new written → HasFailedFor (told_of written)
ended_evident call old new ends.Done ended = tt
ended_evident call old new (ends.Failed fault) ended = risen fault old new ended.0
