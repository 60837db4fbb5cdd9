-- What a call for a part leaves by its answer, and that the files count what the journal tells of.
use Rattle.std.proofs.Common.{◌≡◌, ◌∙◌, ◌≤◌, ◌⊎◌, inl, inr, ℕ, Bool, true, false, List, [], ◌∷◌, ◌++◌, Option, None, Some, append-nil, append_assoc, refl, ap, sym, subst}
use Rattle.std.specs.Prelude.{is_some}
use Rattle.std.specs.List.{cons_option}
use Rattle.std.proofs.lemmas.List.Elements.{filter_map-append}
use Rattle.sc_base.specs.Counts.{Rose}
use Rattle.sc_base.specs.Outside.{Changes, FilesState, IsLaterFiles, IsQuietFiles}
use Rattle.sc_base.specs.Trees.{Tree}
use Rattle.sc_files.specs.Calls.{counts_of}
use Rattle.sc_ids.specs.declared.attempts.AttemptId.{AttemptId}
use Rattle.sc_ids.specs.declared.attempts.Mark.{Mark}
use Rattle.sc_ids.specs.declared.failures.Counts.{Counts}
use Rattle.sc_ids.specs.declared.failures.Fault.{Fault}
use Rattle.sc_output.specs.Calls.{Call, IsNotDone}
use Rattle.sc_staging.specs.Parts.{TellsOf, part_rename, part_write}
use Rattle.sc_staging.specs.StagingData.{StagingData}
use Rattle.sc_core.specs.Journals.{entry}
use Rattle.sc_core.specs.Saving.{is_given, is_granted, move_answer, saver_phase, stage_answer}
use Rattle.sc_core.specs.declared.answers.Answer.{Answer}
use Rattle.sc_core.specs.declared.answers.Answer.TheVariants as says
use Rattle.sc_core.specs.declared.answers.SideAnswer.{SideAnswer}
use Rattle.sc_core.specs.declared.answers.SideAnswer.TheVariants as sides
use Rattle.sc_core.specs.declared.entries.Entry.{Entry}
use Rattle.sc_core.specs.declared.events.Event.{Event}
use Rattle.sc_core.specs.declared.events.Event.TheVariants.{Side}
use Rattle.sc_core.specs.declared.events.FileOutcome.{FileOutcome}
use Rattle.sc_core.specs.declared.events.FileOutcome.TheVariants as outcomes
use Rattle.sc_core.specs.declared.events.SideEvent.TheVariants.{Move, Stage}
use Rattle.sc_desk.specs.DeskData.{DeskData, core_of}
use Rattle.sc_desk.specs.Entries.{Enters}
use Rattle.sc_desk.specs.Files.{AreCounted, AreInRow, CountsGoOn, TellsOfCall, fault_by, fault_in, faults_of}
use Rattle.sc_desk.specs.Saving.{CallsAs, CallsIf, MovesPart, StagesPart}
use Rattle.sc_desk.specs.declared.receipts.Noted.{Noted}
use Rattle.sc_desk.proofs.PartLemmas.{AnswersIf, move_said, stage_said}

-- ---- by the answer

stage_as : (b : Bool) (call : Call) (old new : FilesState) (outcome : FileOutcome)
    (said : SideAnswer) → CallsIf b call old new outcome
    → AnswersIf b (stage_answer outcome) said → CallsAs call old new said
stage_as false call old new outcome said (is, same) over =
    subst (CallsAs call old new) (sym over) same
stage_as true call old new outcomes.Done said ended is =
    subst (CallsAs call old new) (sym is) ended
stage_as true call old new (outcomes.Failed fault) said ended is =
    subst (CallsAs call old new) (sym is) ended

pub stage_calls : (d after : DeskData) (by : Mark) (a : AttemptId) (text : List ℕ)
    (before left : StagingData) (noted : Noted) → StagesPart d by a text before left noted after
    → CallsAs (part_write before.dir a text) before.files left.files noted.answer
stage_calls d after by a text before left noted stages =
    stage_as (is_given (saver_phase (core_of d) a)) (part_write before.dir a text) before.files
    left.files stages.wrote noted.answer stages.calls
    (stage_said (core_of d) (core_of after) a stages.wrote noted.answer stages.notes.enters.step)

move_as : (b : Bool) (call : Call) (old new : FilesState) (outcome : FileOutcome)
    (said : SideAnswer) → CallsIf b call old new outcome
    → AnswersIf b (move_answer outcome) said → CallsAs call old new said
move_as false call old new outcome said (is, same) over =
    subst (CallsAs call old new) (sym over) same
move_as true call old new outcomes.Done said ended is =
    subst (CallsAs call old new) (sym is) ended
move_as true call old new (outcomes.Failed fault) said ended is =
    subst (CallsAs call old new) (sym is) ended

pub move_calls : (d after : DeskData) (by : Mark) (a : AttemptId) (before left : StagingData)
    (noted : Noted) → MovesPart d by a before left noted after
    → CallsAs (part_rename before.dir a) before.files left.files noted.answer
move_calls d after by a before left noted moves =
    move_as (is_granted (saver_phase (core_of d) a)) (part_rename before.dir a) before.files
    left.files moves.renamed noted.answer moves.calls
    (move_said (core_of d) (core_of after) a moves.renamed noted.answer moves.notes.enters.step)

-- ---- counts

abbrev counts : ℕ → ℕ → Counts
counts faults clashes = record { faults = faults; clashes = clashes }

pub counts_quiet : (f g : FilesState) → IsQuietFiles f g → counts_of g ≡ counts_of f
counts_quiet f g quiet =
    ap (λ n. counts n g.clashes) quiet.faults ∙ ap (counts f.faults) quiet.clashes

-- files later on show as they did
pub later_shows : (f g : FilesState) → IsLaterFiles f g → is_some g.shown ≡ is_some f.shown
later_shows f g later = by f.shown g.shown later.shown
  where
    by : (a b : Option Tree) → Changes (λ t u. Unit {0}) a b → is_some b ≡ is_some a
    by None None h = refl
    by None (Some u) h = absurd h
    by (Some t) None h = absurd h
    by (Some t) (Some u) h = refl

pub counted_none : (f : FilesState) → AreCounted f [] f
counted_none f = record { shows = refl; row = refl }

pub counted_quiet : (f g : FilesState) → IsLaterFiles f g → IsQuietFiles f g
    → AreCounted f [] g
counted_quiet f g later quiet =
    record { shows = later_shows f g later; row = counts_quiet f g quiet }

-- what a fault tells of is that call
told_call : (f g : FilesState) (fault : Fault) → IsLaterFiles f g → TellsOf fault f g
    → TellsOfCall (is_some f.shown) fault
told_call f g fault later tells =
    record {
      faults = subst (λ (c : Counts). c.faults ≤ fault.after.faults) (sym tells.before)
          (subst (λ (c : Counts). f.faults ≤ c.faults) (sym tells.after) later.faults);
      clashes = subst (λ (c : Counts). c.clashes ≤ fault.after.clashes) (sym tells.before)
          (subst (λ (c : Counts). f.clashes ≤ c.clashes) (sym tells.after) later.clashes);
      cause = by tells.cause;
    }
  where
    by : IsNotDone f g
        → Rose fault.before.faults fault.after.faults
        ⊎ ((is_some f.shown ≡ false) × Rose fault.before.clashes fault.after.clashes)
    by (inl rose) =
        inl (subst (λ (c : Counts). Rose c.faults fault.after.faults) (sym tells.before)
        (subst (λ (c : Counts). Rose f.faults c.faults) (sym tells.after) rose))
    by (inr (unseen, rose)) =
        inr (
          ap is_some unseen,
          subst (λ (c : Counts). Rose c.clashes fault.after.clashes) (sym tells.before)
              (subst (λ (c : Counts). Rose f.clashes c.clashes) (sym tells.after) rose),
        )

-- a call counts the fault that its answer tells of
counted_as : (call : Call) (f g : FilesState) (said : SideAnswer) → IsLaterFiles f g
    → CallsAs call f g said → AreCounted f (cons_option (fault_by said) []) g
counted_as call f g sides.Staged later ended = counted_quiet f g later ended.0
counted_as call f g sides.Moved later ended = counted_quiet f g later ended.0
counted_as call f g (sides.Fault fault) later ended =
    record {
      shows = later_shows f g later;
      row = (ended.0.before, told_call f g fault later ended.0, sym ended.0.after);
    }
counted_as call f g said later same =
    subst (λ (x : FilesState). AreCounted f [] x) (sym same) (counted_none f)

row_then : (shows : Bool) (a b c : Counts) (xs ys : List Fault) → AreInRow shows a xs b
    → AreInRow shows b ys c → AreInRow shows a (xs ++ ys) c
row_then shows a b c [] ys x y = subst (λ t. AreInRow shows t ys c) x y
row_then shows a b c (fault ∷ xs) ys (is, tells, x) y =
    (is, tells, row_then shows fault.after b c xs ys x y)

pub counted_then : (a b c : FilesState) (xs ys : List Fault) → AreCounted a xs b
    → AreCounted b ys c → AreCounted a (xs ++ ys) c
counted_then a b c xs ys x y =
    record {
      shows = y.shows ∙ x.shows;
      row = row_then (is_some a.shown) (counts_of a) (counts_of b) (counts_of c) xs ys x.row
          (subst (λ shows. AreInRow shows (counts_of b) ys (counts_of c)) x.shows y.row);
    }

-- ---- what the journal tells of

faults_push : (entries : List Entry) (e : Entry)
    → faults_of (entries ++ e ∷ [])
    ≡ faults_of entries ++ cons_option (fault_in e.event e.answer) []
faults_push entries e =
    filter_map-append (λ (x : Entry). fault_in x.event x.answer) entries (e ∷ [])

-- nothing is counted, and no fault is told
pub counts_same : (d after : DeskData) (files : FilesState)
    → faults_of after.journal.entries ≡ faults_of d.journal.entries
    → CountsGoOn d after files files
counts_same d after files same =
    record {
      faults = [];
      told = same ∙ sym (append-nil (faults_of d.journal.entries));
      counted = counted_none files;
    }

pub counts_then : (d mid after : DeskData) (f g h : FilesState) → CountsGoOn d mid f g
    → CountsGoOn mid after g h → CountsGoOn d after f h
counts_then d mid after f g h x y =
    record {
      faults = x.faults ++ y.faults;
      told = y.told ∙ ap (λ l. l ++ y.faults) x.told
          ∙ append_assoc (faults_of d.journal.entries) x.faults y.faults;
      counted = counted_then f g h x.faults y.faults x.counted y.counted;
    }

-- one more entry
entered_so : (d after : DeskData) (by : Mark) (event : Event) (answer : Answer)
    (f g : FilesState) → Enters d by event answer after
    → AreCounted f (cons_option (fault_in event answer) []) g
    → CountsGoOn d after f g
entered_so d after by event answer f g enters counted =
    record {
      faults = cons_option (fault_in event answer) [];
      told = ap faults_of enters.entries
          ∙ faults_push d.journal.entries (entry by event answer);
      counted = counted;
    }

pub counts_entered : (d after : DeskData) (by : Mark) (event : Event) (answer : Answer)
    (files : FilesState) → Enters d by event answer after → fault_in event answer ≡ None
    → CountsGoOn d after files files
counts_entered d after by event answer files enters none =
    entered_so d after by event answer files files enters
    (subst (λ o. AreCounted files (cons_option o []) files) (sym none) (counted_none files))

pub counts_staged : (d after : DeskData) (by : Mark) (a : AttemptId) (text : List ℕ)
    (before left : StagingData) (noted : Noted) → StagesPart d by a text before left noted after
    → CountsGoOn d after before.files left.files
counts_staged d after by a text before left noted stages =
    entered_so d after by (Side (Stage a stages.wrote)) (says.Side noted.answer) before.files
    left.files stages.notes.enters
    (counted_as (part_write before.dir a text) before.files left.files noted.answer stages.later
    (stage_calls d after by a text before left noted stages))

pub counts_moved : (d after : DeskData) (by : Mark) (a : AttemptId) (before left : StagingData)
    (noted : Noted) → MovesPart d by a before left noted after
    → CountsGoOn d after before.files left.files
counts_moved d after by a before left noted moves =
    entered_so d after by (Side (Move a moves.renamed)) (says.Side noted.answer) before.files
    left.files moves.notes.enters
    (counted_as (part_rename before.dir a) before.files left.files noted.answer moves.later
    (move_calls d after by a before left noted moves))
