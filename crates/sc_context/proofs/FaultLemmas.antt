-- The calls on the files by which attempts have faulted are told by the entries of their job.
use Rattle.std.proofs.Common.{◌≡◌, inl, inr, ℕ, All, Bool, true, false, if◌then◌else◌, List, [], ◌∷◌, ◌++◌, Contains, map, ap, sym, subst}
use Rattle.std.specs.List.{cons_option}
use Rattle.std.proofs.lemmas.List.Elements.{All-append, All-cons, All-map, All-nil, All-weaker, Contains-append_left, Contains-push}
use Rattle.sc_commit.specs.Committing.{answer_to}
use Rattle.sc_commit.specs.declared.committers.Permission.{Permission}
use Rattle.sc_commit.specs.declared.committers.Permission.TheVariants as permissions
use Rattle.sc_ids.specs.declared.attempts.AttemptId.{AttemptId}
use Rattle.sc_ids.specs.declared.failures.Fault.{Fault}
use Rattle.sc_core.specs.CoreData.{CoreData, as_in, is_of, job_runs}
use Rattle.sc_core.specs.Saving.{AsksBy, AsksIf, MovesIf, StagesIf, as_far, is_given, is_granted, is_out_of, is_staged, saver_phase}
use Rattle.sc_core.specs.Sides.{LeavesIf, Sides, TicksIf}
use Rattle.sc_core.specs.Steps.{Steps}
use Rattle.sc_core.specs.Takes.{Takes, running_on}
use Rattle.sc_core.specs.declared.answers.Answer.{Answer}
use Rattle.sc_core.specs.declared.answers.Answer.TheVariants as says
use Rattle.sc_core.specs.declared.answers.SideAnswer.{SideAnswer}
use Rattle.sc_core.specs.declared.events.Event.{Event}
use Rattle.sc_core.specs.declared.events.Event.TheVariants.{Post, Release, Side, Take, TellLost}
use Rattle.sc_core.specs.declared.events.FileOutcome.{FileOutcome}
use Rattle.sc_core.specs.declared.events.FileOutcome.TheVariants as calls
use Rattle.sc_core.specs.declared.events.SideEvent.{SideEvent}
use Rattle.sc_core.specs.declared.events.SideEvent.TheVariants.{Ask, Leave, Move, Stage, Tick}
use Rattle.sc_core.specs.declared.running.Phase.{Phase}
use Rattle.sc_core.specs.declared.running.Phase.TheVariants as phases
use Rattle.sc_core.specs.declared.running.Running.{Running}
use Rattle.sc_core.proofs.TakeCases.{TakesSo, takes_so}
use Rattle.sc_desk.specs.Files.{fault_by, fault_in}
use Rattle.sc_context.proofs.HoldLemmas.{lost_hold, posted_hold, released_hold}

-- ---- attempts that have faulted

-- how far an attempt has come is told: the call that failed, where one did, is among these
abbrev pub IsTold : List Fault → Phase → Type 0
IsTold told (phases.Faulted fault) = Contains told fault
IsTold told phase = Unit {0}

abbrev pub IsToldOf : List Fault → Running → Type 0
IsToldOf told r = IsTold told r.phase

told_more : (told more : List Fault) (phase : Phase) → IsTold told phase
    → IsTold (told ++ more) phase
told_more told more (phases.Faulted fault) h = Contains-append_left told more fault h
told_more told more phases.Given h = tt
told_more told more phases.Staged h = tt
told_more told more phases.Granted h = tt
told_more told more phases.Denied h = tt
told_more told more phases.Moved h = tt

phase_in : (told : List Fault) (a : AttemptId) (r : Running) → IsToldOf told r
    → IsToldOf told (as_in a r)
phase_in told a r h = by (is_of a r)
  where
    by : (b : Bool) → IsToldOf told (if b then record r { is_out = false } else r)
    by true = h
    by false = h

far_told : (told : List Fault) (a : AttemptId) (phase : Phase) → IsTold told phase
    → (running : List Running) → All (IsToldOf told) running
    → All (IsToldOf told) (map (as_far a phase) running)
far_told told a phase is running all =
    All-map (IsToldOf told) (as_far a phase) running
    (All-weaker (IsToldOf told) (λ r. IsToldOf told (as_far a phase r)) far running all)
  where
    far : (r : Running) → IsToldOf told r → IsToldOf told (as_far a phase r)
    far r h = by (is_out_of a r)
      where
        by : (b : Bool) → IsToldOf told (if b then record r { phase = phase } else r)
        by true = is
        by false = h

-- ---- events

-- the calls that failed up to an event are told once this one is too
module _ (told : List Fault) (c after : CoreData) (all : All (IsToldOf told) c.running) where
  abbrev Told : List Fault → Type 0
  Told more = All (IsToldOf (told ++ more)) after.running

  before : (more : List Fault) → All (IsToldOf (told ++ more)) c.running
  before more =
      All-weaker (IsToldOf told) (IsToldOf (told ++ more))
      (λ r h. told_more told more r.phase h) c.running all

  same : (more : List Fault) → after ≡ c → Told more
  same more is =
      subst (λ (x : CoreData). All (IsToldOf (told ++ more)) x.running) (sym is) (before more)

  -- an attempt has come as far as is told
  far : (m : CoreData) (a : AttemptId) (phase : Phase) (more : List Fault)
      → m.running ≡ map (as_far a phase) c.running → IsTold (told ++ more) phase
      → All (IsToldOf (told ++ more)) m.running
  far m a phase more is known =
      subst (λ running. All (IsToldOf (told ++ more)) running) (sym is)
      (far_told (told ++ more) a phase known c.running (before more))

  staged_told : (a : AttemptId) (wrote : FileOutcome) (said : SideAnswer) (b : Bool)
      → StagesIf b c a wrote said after → Told (cons_option (fault_by said) [])
  staged_told a wrote said false (says, is) = same (cons_option (fault_by said) []) is
  staged_told a calls.Done said true (says, is) =
      far after a phases.Staged (cons_option (fault_by said) [])
      (ap (λ (x : CoreData). x.running) is) tt
  staged_told a (calls.Failed fault) said true (says, is) =
      subst (λ s. Told (cons_option (fault_by s) [])) (sym says)
      (far after a (phases.Faulted fault) (fault ∷ []) (ap (λ (x : CoreData). x.running) is)
      (Contains-push told fault))

  moved_told : (a : AttemptId) (renamed : FileOutcome) (said : SideAnswer) (b : Bool)
      → MovesIf b c a renamed said after → Told (cons_option (fault_by said) [])
  moved_told a renamed said false (says, is) = same (cons_option (fault_by said) []) is
  moved_told a calls.Done said true (says, is) =
      far after a phases.Moved (cons_option (fault_by said) [])
      (ap (λ (x : CoreData). x.running) is) tt
  moved_told a (calls.Failed fault) said true (says, is) =
      subst (λ s. Told (cons_option (fault_by s) [])) (sym says)
      (far after a (phases.Faulted fault) (fault ∷ []) (ap (λ (x : CoreData). x.running) is)
      (Contains-push told fault))

  asked_told : (a : AttemptId) (permission : Permission) (said : SideAnswer)
      → AsksBy permission c a said after → Told []
  asked_told a permissions.Granted said (says, is) =
      far after a phases.Granted [] (ap (λ (x : CoreData). x.running) is) tt
  asked_told a (permissions.Denied other) said (says, is) =
      far after a phases.Denied [] (ap (λ (x : CoreData). x.running) is) tt
  asked_told a permissions.Over said (says, is) = same [] is

  side_told : (event : SideEvent) (said : SideAnswer) → Sides c event said after
      → Told (cons_option (fault_in (Side event) (says.Side said)) [])
  side_told (Leave exec) said step = by (job_runs c) step
    where
      by : (b : Bool) → LeavesIf b c exec said after → Told []
      by false (says, is) = same [] is
      by true (says, is) =
          subst (λ (x : CoreData). All (IsToldOf (told ++ [])) x.running) (sym is) (before [])
  side_told (Tick now) said step = by (job_runs c) step
    where
      by : (b : Bool) → TicksIf b c now said after → Told []
      by false (says, is) = same [] is
      by true (says, is) =
          subst (λ (x : CoreData). All (IsToldOf (told ++ [])) x.running) (sym is) (before [])
  side_told (Stage a wrote) said step =
      staged_told a wrote said (is_given (saver_phase c a)) step
  side_told (Ask a) said step = by (is_staged (saver_phase c a)) step
    where
      by : (b : Bool) → AsksIf b c a said after → Told []
      by false (says, is) = same [] is
      by true asks = asked_told a (answer_to c.committers a true) said asks
  side_told (Move a renamed) said step =
      moved_told a renamed said (is_granted (saver_phase c a)) step

  taken_told : (exec : ℕ) (answer : Answer) → Takes c exec answer after → Told []
  taken_told exec answer step = by (takes_so c after exec answer step)
    where
      by : TakesSo c after exec answer → Told []
      by (inl t) =
          subst (λ (x : CoreData). All (IsToldOf (told ++ [])) x.running) (sym t.is)
          (All-append (IsToldOf (told ++ [])) c.running (running_on t.task exec ∷ []) (before [])
          (All-cons (IsToldOf (told ++ [])) (running_on t.task exec) [] tt
          (All-nil (IsToldOf (told ++ [])))))
      by (inr (inl b)) =
          subst (λ (x : CoreData). All (IsToldOf (told ++ [])) x.running) (sym b.is) (before [])
      by (inr (inr s)) = same [] s.is

  pub step_told : (event : Event) (answer : Answer) → Steps c event answer after
      → Told (cons_option (fault_in event answer) [])
  step_told (Take exec) answer step = taken_told exec answer step
  step_told (Post a outcome) answer step =
      posted_hold (IsToldOf (told ++ [])) (phase_in (told ++ [])) c after a outcome answer
      (before []) step
  step_told (Release key) answer step =
      released_hold (IsToldOf (told ++ [])) (phase_in (told ++ [])) c after key answer (before [])
      step
  step_told (Side event) answer (said, says, step) =
      subst (λ (x : Answer). Told (cons_option (fault_in (Side event) x) [])) (sym says)
      (side_told event said step)
  step_told (TellLost exec) answer step =
      lost_hold (IsToldOf (told ++ [])) (phase_in (told ++ [])) c after exec answer (before [])
      step
