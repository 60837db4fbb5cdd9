-- What a call for a part is answered, and what it leaves.
use Rattle.std.proofs.Common.{◌≡◌, ◌∙◌, ℕ, Bool, true, false, List, Some, IfSome, option_map, refl, ap, sym, subst, rules}
use Rattle.sc_base.specs.Outside.{Changes, FilesState}
use Rattle.sc_base.specs.Trees.{Path}
use Rattle.sc_base.proofs.ChangeLemmas.{changes-none}
use Rattle.sc_ids.specs.declared.attempts.AttemptId.{AttemptId}
use Rattle.sc_output.specs.Calls.{Call}
use Rattle.sc_output.specs.Names.{IsWithinTypes}
use Rattle.sc_staging.specs.Done.{DidLast, Done, HasFiles, done_by, rename_deed, text_of, write_deed, wrote}
use Rattle.sc_staging.specs.Laws.{StaysUnderWay}
use Rattle.sc_staging.specs.Parts.{EndsPart, part_rename, part_write}
use Rattle.sc_staging.specs.declared.parts.Written.{Written}
use Rattle.sc_staging.specs.declared.parts.Written.TheVariants as ends
use Rattle.sc_staging.proofs.DoneLemmas.{files_stand}
use Rattle.sc_staging.proofs.WayLemmas.{ways_go_on}
use Rattle.sc_core.specs.CoreData.{CoreData}
use Rattle.sc_core.specs.Saving.{MovesIf, StagesIf, is_given, is_granted, move_answer, saver_phase, stage_answer}
use Rattle.sc_core.specs.Steps.{Steps}
use Rattle.sc_core.specs.declared.answers.Answer.TheVariants as says
use Rattle.sc_core.specs.declared.answers.SideAnswer.{SideAnswer}
use Rattle.sc_core.specs.declared.answers.SideAnswer.TheVariants as sides
use Rattle.sc_core.specs.declared.events.Event.TheVariants.{Side}
use Rattle.sc_core.specs.declared.events.FileOutcome.{FileOutcome}
use Rattle.sc_core.specs.declared.events.FileOutcome.TheVariants as outcomes
use Rattle.sc_core.specs.declared.events.SideEvent.TheVariants.{Move, Stage}
use Rattle.sc_desk.specs.Files.{deed_by}
use Rattle.sc_desk.specs.Saving.{CallsIf, told_of}
use Rattle.sc_desk.proofs.DeedLemmas.{with_deed}

-- ---- what is answered

-- what is told of a call where it is made, and else that its attempt is over
abbrev pub AnswersIf : Bool → SideAnswer → SideAnswer → Type 0
AnswersIf false told said = said ≡ sides.Over
AnswersIf true told said = said ≡ told

stage_by : (b : Bool) (c after : CoreData) (a : AttemptId) (outcome : FileOutcome)
    (said : SideAnswer) → StagesIf b c a outcome said after
    → AnswersIf b (stage_answer outcome) said
stage_by false c after a outcome said step = step.0
stage_by true c after a outcome said step = step.0

pub stage_said : (c after : CoreData) (a : AttemptId) (outcome : FileOutcome) (said : SideAnswer)
    → Steps c (Side (Stage a outcome)) (says.Side said) after
    → AnswersIf (is_given (saver_phase c a)) (stage_answer outcome) said
stage_said c after a outcome said (other, is, step) =
    let same : said ≡ other = search (rules, is) in
    subst (λ x. AnswersIf (is_given (saver_phase c a)) (stage_answer outcome) x) (sym same)
    (stage_by (is_given (saver_phase c a)) c after a outcome other step)

move_by : (b : Bool) (c after : CoreData) (a : AttemptId) (outcome : FileOutcome)
    (said : SideAnswer) → MovesIf b c a outcome said after → AnswersIf b (move_answer outcome) said
move_by false c after a outcome said step = step.0
move_by true c after a outcome said step = step.0

pub move_said : (c after : CoreData) (a : AttemptId) (outcome : FileOutcome) (said : SideAnswer)
    → Steps c (Side (Move a outcome)) (says.Side said) after
    → AnswersIf (is_granted (saver_phase c a)) (move_answer outcome) said
move_said c after a outcome said (other, is, step) =
    let same : said ≡ other = search (rules, is) in
    subst (λ x. AnswersIf (is_granted (saver_phase c a)) (move_answer outcome) x) (sym same)
    (move_by (is_granted (saver_phase c a)) c after a outcome other step)

-- ---- what it leaves

-- what a call for a part leaves where it is answered so: the files of attempts stand, and a save
-- goes on
abbrev pub PartStands : Path → List (List ℕ) → List Done → AttemptId → FilesState → FilesState
    → SideAnswer → Type 0
PartStands dir texts done a old new said =
    IfSome new.shown
    (HasFiles dir texts (with_deed done (option_map (done_by a) (deed_by said))))
    × Changes (StaysUnderWay dir) old.shown new.shown

-- where the call is made it has one of two ends, and where none is made nothing changes
pub part_called :
    (b : Bool) (dir : Path) (texts : List (List ℕ)) (done : List Done) (a : AttemptId)
    (call : Call) (old new : FilesState) (outcome : FileOutcome) (told said : SideAnswer)
    → CallsIf b call old new outcome → AnswersIf b told said
    → IfSome old.shown (HasFiles dir texts done)
    → (b ≡ true → (answer : Written) → outcome ≡ told_of answer → EndsPart call old new answer
    → PartStands dir texts done a old new told)
    → PartStands dir texts done a old new said
part_called false dir texts done a call old new outcome told said (is, same) over has made =
    subst (λ x. PartStands dir texts done a old new x) (sym over) (
      subst (λ (x : FilesState). IfSome x.shown (HasFiles dir texts done)) (sym same) has,
      subst (λ (x : FilesState). Changes (StaysUnderWay dir) old.shown x.shown) (sym same)
          (changes-none (StaysUnderWay dir) old.shown (λ t opening way. way)),
    )
part_called true dir texts done a call old new outcomes.Done told said ended is has made =
    subst (λ x. PartStands dir texts done a old new x) (sym is)
    (made refl ends.Done refl ended)
part_called true dir texts done a call old new (outcomes.Failed fault) told said ended is has made =
    subst (λ x. PartStands dir texts done a old new x) (sym is)
    (made refl (ends.Failed fault) refl ended)

written_said : (answer : Written)
    → deed_by (stage_answer (told_of answer)) ≡ Some (write_deed answer)
written_said ends.Done = refl
written_said (ends.Failed fault) = refl

pub part_written :
    (dir : Path) (texts : List (List ℕ)) (done : List Done) (a : AttemptId) (text : List ℕ)
    (old new : FilesState) (outcome : FileOutcome) (answer : Written) → IsWithinTypes a
    → text ≡ text_of texts a → outcome ≡ told_of answer
    → EndsPart (part_write dir a text) old new answer
    → IfSome old.shown (HasFiles dir texts done)
    → PartStands dir texts done a old new (stage_answer outcome)
part_written dir texts done a text old new outcome answer within same is ended has = (
  subst (λ o. IfSome new.shown (HasFiles dir texts (with_deed done (option_map (done_by a) o))))
      (sym (ap (λ x. deed_by (stage_answer x)) is ∙ written_said answer))
      (files_stand.written dir texts done a old new answer within
      (subst (λ t. EndsPart (part_write dir a t) old new answer) same ended) has),
  ways_go_on.written dir a text old new answer ended,
)

renamed_said : (answer : Written)
    → deed_by (move_answer (told_of answer)) ≡ Some (rename_deed answer)
renamed_said ends.Done = refl
renamed_said (ends.Failed fault) = refl

pub part_renamed :
    (dir : Path) (texts : List (List ℕ)) (done : List Done) (a : AttemptId)
    (old new : FilesState) (outcome : FileOutcome) (answer : Written) → IsWithinTypes a
    → DidLast a wrote done → outcome ≡ told_of answer
    → EndsPart (part_rename dir a) old new answer
    → IfSome old.shown (HasFiles dir texts done)
    → PartStands dir texts done a old new (move_answer outcome)
part_renamed dir texts done a old new outcome answer within last is ended has = (
  subst (λ o. IfSome new.shown (HasFiles dir texts (with_deed done (option_map (done_by a) o))))
      (sym (ap (λ x. deed_by (move_answer x)) is ∙ renamed_said answer))
      (files_stand.renamed dir texts done a old new answer within last ended has),
  ways_go_on.renamed dir a old new answer ended,
)
