-- What is owed a report once an executor did something for its attempt.
use Rattle.std.proofs.Common.{ℕ, ◌≡◌, ◌∙◌, List, [], ◌∷◌, Bool, None, false, true, inl, inr, refl, ap, subst}
use Rattle.sc_ids.specs.declared.attempts.AttemptId.{AttemptId}
use Rattle.sc_ids.specs.declared.attempts.Mark.TheVariants.{Exec}
use Rattle.sc_lineage.specs.ScriptData.{WorkData}
use Rattle.sc_core.specs.Journals.{entry}
use Rattle.sc_core.specs.declared.answers.Answer.TheVariants as says
use Rattle.sc_core.specs.declared.answers.SideAnswer.{SideAnswer}
use Rattle.sc_core.specs.declared.answers.SideAnswer.TheVariants as sides
use Rattle.sc_core.specs.declared.events.Event.TheVariants as events
use Rattle.sc_core.specs.declared.events.SideEvent.{SideEvent}
use Rattle.sc_core.specs.declared.events.SideEvent.TheVariants.{Ask, Leave, Move, Stage}
use Rattle.sc_core.proofs.LookupLemmas.{is_itself}
use Rattle.sc_net.specs.Reports.{ReportData, outcome_of}
use Rattle.sc_desk.specs.DeskData.{DeskData}
use Rattle.sc_desk.specs.Posts.{attempt_of}
use Rattle.sc_logs.proofs.FoldLemmas.{last_take_more, owed_more}
use Rattle.sc_logs.specs.Folds.{has_asked_as, has_left, last_take, owed_after, over, without}
use Rattle.sc_logs.specs.declared.logs.ExecLog.{ExecLog}
use Rattle.sc_exec.specs.JobDesks.{JobDeskData}
use Rattle.sc_exec.specs.Lefts.{IsAtWork, IsCause, IsHindrance, IsToldTheSame}
use Rattle.sc_exec.specs.Logging.{AsksBoth, IsLogged, LeavesBoth, MovesBoth, PostsBoth, StagesBoth}
use Rattle.sc_exec.specs.Working.{IsReasonToLeave, owed_by}
use Rattle.sc_exec.specs.declared.calls.Delivery.{Delivery}
use Rattle.sc_exec.specs.declared.calls.Delivery.TheVariants as deliveries
use Rattle.sc_exec.specs.declared.lefts.Left.{Left}
use Rattle.sc_exec.specs.declared.lefts.Left.TheVariants as lefts
use Rattle.sc_exec.proofs.HinderLemmas.{hinders_still}
use Rattle.sc_exec.proofs.TurnLemmas.{works_on}

-- nothing is owed any more where one attempt was
pub none_owed : (a : AttemptId) → without a (a ∷ []) ≡ []
none_owed a = rw (is_itself a) refl

over_owed : (a : AttemptId) (said : SideAnswer) → over a (says.Side said) (a ∷ []) ≡ owed_by a said
over_owed a sides.Ignored = refl
over_owed a sides.Left = refl
over_owed a sides.Ticked = refl
over_owed a sides.Over = none_owed a
over_owed a sides.Staged = refl
over_owed a sides.Granted = refl
over_owed a (sides.Denied by) = refl
over_owed a sides.Moved = refl
over_owed a (sides.Fault fault) = refl

-- ---- calls for an attempt

pub stages_owed : (h after : JobDeskData) (log then : ExecLog) (a : AttemptId) (text : List ℕ)
    (said : SideAnswer) → IsAtWork (a ∷ []) log → StagesBoth h log a text said after then
    → IsAtWork (owed_by a said) then
stages_owed h after log then a text said works both =
    subst (λ (owed : List AttemptId). IsAtWork owed then) (over_owed a said)
    (works_on log then (events.Side (Stage a both.stages.wrote)) (says.Side said) (a ∷ [])
    both.logged refl refl works)

pub asks_owed : (d after : DeskData) (log then : ExecLog) (a : AttemptId) (said : SideAnswer)
    → IsAtWork (a ∷ []) log → AsksBoth d log a said after then → IsAtWork (owed_by a said) then
asks_owed d after log then a said works (noted, is, notes, logged) =
    subst (λ (owed : List AttemptId). IsAtWork owed then) (over_owed a said)
    (works_on log then (events.Side (Ask a)) (says.Side said) (a ∷ []) logged refl refl works)

pub moves_owed : (h after : JobDeskData) (log then : ExecLog) (a : AttemptId) (said : SideAnswer)
    → IsAtWork (a ∷ []) log → MovesBoth h log a said after then → IsAtWork (owed_by a said) then
moves_owed h after log then a said works both =
    subst (λ (owed : List AttemptId). IsAtWork owed then) (over_owed a said)
    (works_on log then (events.Side (Move a both.moves.renamed)) (says.Side said) (a ∷ [])
    both.logged refl refl works)

pub posts_owed : {W : _} (work : WorkData) (d after : DeskData) (log then : ExecLog)
    (report : ReportData) (delivery : Delivery W) → delivery ≡ deliveries.Received
    → IsAtWork (report.task.hand_out.attempt ∷ []) log
    → PostsBoth work d log report delivery after then → IsAtWork [] then
posts_owed {W = W} work d after log then report delivery is works both =
    by (subst (λ (x : Delivery W). PostsBoth work d log report x after then) is both)
  where
    by : PostsBoth {W = W} work d log report deliveries.Received after then → IsAtWork [] then
    by (receipt, receives, logged) =
        subst (λ (owed : List AttemptId). IsAtWork owed then) (none_owed (attempt_of report))
        (works_on log then (events.Post (attempt_of report) (outcome_of report.finding))
        receipt.answer (attempt_of report ∷ []) logged refl refl works)

-- what it does beside the reports leaves it told the same
aside_told : (log then : ExecLog) (event : SideEvent) (said : SideAnswer)
    → IsLogged log (events.Side event) (says.Side said) then → IsToldTheSame log then
aside_told log then event said logged =
    ap (last_take None) logged.entries
    ∙ last_take_more None log.entries.items
    (entry (Exec log.exec) (events.Side event) (says.Side said))

pub stages_told : (h after : JobDeskData) (log then : ExecLog) (a : AttemptId) (text : List ℕ)
    (said : SideAnswer) → StagesBoth h log a text said after then → IsToldTheSame log then
stages_told h after log then a text said both =
    aside_told log then (Stage a both.stages.wrote) said both.logged

pub asks_told : (d after : DeskData) (log then : ExecLog) (a : AttemptId) (said : SideAnswer)
    → AsksBoth d log a said after then → IsToldTheSame log then
asks_told d after log then a said (noted, is, notes, logged) =
    aside_told log then (Ask a) said logged

pub moves_told : (h after : JobDeskData) (log then : ExecLog) (a : AttemptId) (said : SideAnswer)
    → MovesBoth h log a said after then → IsToldTheSame log then
moves_told h after log then a said both =
    aside_told log then (Move a both.moves.renamed) said both.logged

-- ---- an executor leaves

-- by its leave nothing is owed more or less, and what it was told stays
told_still : (d after : DeskData) (log then : ExecLog) (left : Bool)
    → LeavesBoth d log left after then
    → (last_take None then.entries.items ≡ last_take None log.entries.items)
    × (owed_after [] then.entries.items ≡ owed_after [] log.entries.items)
told_still d after log then true (stayed, noted, notes, logged) =
    let e = entry (Exec log.exec) (events.Side (Leave log.exec)) (says.Side noted.answer) in (
      ap (last_take None) logged.entries ∙ last_take_more None log.entries.items e,
      ap (owed_after []) logged.entries ∙ owed_more [] log.entries.items e,
    )
told_still d after log then false (left, stays, same) =
    (ap (last_take None) same.1, ap (owed_after []) same.1)

leaves_exec : (d after : DeskData) (log then : ExecLog) (left : Bool)
    → LeavesBoth d log left after then → then.exec ≡ log.exec
leaves_exec d after log then true (stayed, noted, notes, logged) = logged.exec
leaves_exec d after log then false (left, stays, same) = same.0

-- who leaves was told the same before
pub leaves_told : (d after : DeskData) (log then : ExecLog) (gone : Bool)
    → LeavesBoth d log gone after then → IsToldTheSame log then
leaves_told d after log then gone leaves = (told_still d after log then gone leaves).0

-- who leaves has its cause
pub leaves_cause : (work : WorkData) (d after : DeskData) (log then : ExecLog) (gone : Bool)
    (left : Left) → IsReasonToLeave work log left → LeavesBoth d log gone after then
    → IsCause work then left
leaves_cause work d after log then gone left reason leaves = by left reason
  where
    still : (last_take None then.entries.items ≡ last_take None log.entries.items)
        × (owed_after [] then.entries.items ≡ owed_after [] log.entries.items)
    still = told_still d after log then gone leaves

    hinders : (left : Left) → IsHindrance work log left → IsHindrance work then left
    hinders left =
        hinders_still work log then left (leaves_exec d after log then gone leaves) still.0

    by : (left : Left) → IsReasonToLeave work log left → IsCause work then left
    by (lefts.Busy held) (inl (told, owes)) = inl (still.0 ∙ told, still.1 ∙ owes)
    by (lefts.Busy held) (inr ((h, told, of), owes)) =
        inr ((h, still.0 ∙ told, of), still.1 ∙ owes)
    by (lefts.Drained strange) reason = hinders (lefts.Drained strange) reason
    by (lefts.Early early) reason = hinders (lefts.Early early) reason
    by (lefts.Stranger stranger) reason = hinders (lefts.Stranger stranger) reason
    by (lefts.Absent absence) reason = hinders (lefts.Absent absence) reason
    by lefts.NoMemory reason = tt
    by lefts.JobEnded reason = absurd reason
    by (lefts.Stopped exec) reason = absurd reason
    by lefts.Lost reason = absurd reason

-- ---- who has done nothing yet

pub fresh_works : (log : ExecLog) → log.entries.items ≡ [] → IsAtWork [] log
fresh_works log none =
    record {
      owes = ap (owed_after []) none;
      stays = ap has_left none;
      asks = ap (has_asked_as log.exec) none;
    }
