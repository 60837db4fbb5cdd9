-- A report of a failed call on the files that is heard in a job is of one that an entry tells of.
use Rattle.std.proofs.Common.{◌≡◌, ◌∙◌, All, true, List, [], ◌∷◌, ◌++◌, Contains, Option, Some, None, append_assoc, refl, ap, sym, subst, arith}
use Rattle.std.specs.List.{cons_option}
use Rattle.std.proofs.lemmas.Bool.{false≢true}
use Rattle.std.proofs.lemmas.Bool.Decides.{nat_tests}
use Rattle.std.proofs.lemmas.List.Elements.{All-append, All-cons, All-nil, All-weaker, Contains-append_left}
use Rattle.sc_ids.specs.declared.failures.FailureCause.{FailureCause}
use Rattle.sc_ids.specs.declared.failures.FailureCause.TheVariants as causes
use Rattle.sc_ids.specs.declared.failures.Fault.{Fault}
use Rattle.sc_core.specs.CoreData.{CoreData, shelved_of}
use Rattle.sc_core.specs.Journals.{Replays}
use Rattle.sc_core.specs.Posts.{fits, has_faulted, is_same_fault}
use Rattle.sc_core.specs.Sound.{IsSoundCore}
use Rattle.sc_core.specs.Steps.{Steps}
use Rattle.sc_core.specs.declared.answers.Answer.{Answer}
use Rattle.sc_core.specs.declared.entries.Entry.{Entry}
use Rattle.sc_core.specs.declared.events.Event.{Event}
use Rattle.sc_core.specs.declared.events.Event.TheVariants.{Post, Release, Side, Take, TellLost}
use Rattle.sc_core.specs.declared.events.Outcome.{Outcome}
use Rattle.sc_core.specs.declared.events.Outcome.TheVariants as outcomes
use Rattle.sc_core.specs.declared.running.Phase.{Phase}
use Rattle.sc_core.specs.declared.running.Phase.TheVariants as phases
use Rattle.sc_core.specs.declared.running.Running.{Running}
use Rattle.sc_core.specs.declared.running.Shelved.{Shelved}
use Rattle.sc_core.proofs.LawLemmas.{steps_keep_sound}
use Rattle.sc_history.specs.Tellings.{Telling, is_heard, telling, tellings, tellings_in, told_late}
use Rattle.sc_desk.specs.Files.{fault_in, faults_of}
use Rattle.sc_context.proofs.HoldLemmas.{holds_of_one, post_fits, release_fits}
use Rattle.sc_context.proofs.FaultLemmas.{IsTold, IsToldOf, step_told}

-- ---- what is heard

abbrev CauseIsTold : List Fault → FailureCause → Type 0
CauseIsTold told (causes.Device fault) = Contains told fault
CauseIsTold told cause = Unit {0}

-- a call that failed, of which a report is, is among these
abbrev pub OutcomeIsTold : List Fault → Outcome → Type 0
OutcomeIsTold told (outcomes.Failed cause) = CauseIsTold told cause
OutcomeIsTold told outcome = Unit {0}

same_fault : (a b : Fault) → is_same_fault a b ≡ true → a ≡ b
same_fault a b e =
    let f : a.before.faults ≡ b.before.faults = grind (arith, nat_tests, e) in
    let k : a.before.clashes ≡ b.before.clashes = grind (arith, nat_tests, e) in
    let g : a.after.faults ≡ b.after.faults = grind (arith, nat_tests, e) in
    let l : a.after.clashes ≡ b.after.clashes = grind (arith, nat_tests, e) in
    let before : a.before ≡ b.before = λ i. record { faults = f i; clashes = k i } in
    let after : a.after ≡ b.after = λ i. record { faults = g i; clashes = l i } in
    λ i. record { before = before i; after = after i }

has_told : (told : List Fault) (phase : Phase) (fault : Fault) → IsTold told phase
    → has_faulted phase fault ≡ true → Contains told fault
has_told told (phases.Faulted other) fault is same =
    subst (Contains told) (same_fault other fault same) is
has_told told phases.Given fault is same = absurd (false≢true same)
has_told told phases.Staged fault is same = absurd (false≢true same)
has_told told phases.Granted fault is same = absurd (false≢true same)
has_told told phases.Denied fault is same = absurd (false≢true same)
has_told told phases.Moved fault is same = absurd (false≢true same)

fit_told : (told : List Fault) (c : CoreData) (r : Running) (outcome : Outcome)
    → IsToldOf told r → fits c r outcome ≡ true → OutcomeIsTold told outcome
fit_told told c r (outcomes.Map loc) is fit = tt
fit_told told c r outcomes.Result is fit = tt
fit_told told c r (outcomes.Failed causes.Planned) is fit = tt
fit_told told c r (outcomes.Failed (causes.Raised raise)) is fit = tt
fit_told told c r (outcomes.Failed (causes.Device fault)) is fit =
    has_told told r.phase fault is fit
fit_told told c r (outcomes.Failed (causes.Gone exec wanted found)) is fit = tt
fit_told told c r (outcomes.Failed (causes.Metadata last)) is fit = tt
fit_told told c r (outcomes.Failed causes.Denied) is fit = tt

abbrev pub HearsOf : List Fault → Telling → Type 0
HearsOf told t = is_heard t.answer ≡ true → OutcomeIsTold told t.outcome

hears_in : (told : List Fault) (c after : CoreData) (event : Event) (answer : Answer)
    → IsSoundCore c → All (IsToldOf told) c.running → Steps c event answer after
    → All (HearsOf told) (tellings_in c event answer)
hears_in told c after (Take exec) answer sound all step = All-nil (HearsOf told)
hears_in told c after (Post a outcome) answer sound all step =
    All-cons (HearsOf told) (telling a outcome answer) []
    (λ heard. let one = post_fits c after a outcome answer heard step in
    fit_told told c one.running outcome (holds_of_one (IsToldOf told) c a outcome all one) one.fit)
    (All-nil (HearsOf told))
hears_in told c after (Release key) answer sound all step = by (shelved_of c key) refl
  where
    by : (o : Option Shelved) → shelved_of c key ≡ o → All (HearsOf told) (told_late o answer)
    by None e = All-nil (HearsOf told)
    by (Some s) e =
        All-cons (HearsOf told) (telling s.attempt s.outcome answer) []
        (λ heard. let one = release_fits c after key answer s sound heard e step in
        fit_told told c one.running s.outcome
        (holds_of_one (IsToldOf told) c s.attempt s.outcome all one) one.fit)
        (All-nil (HearsOf told))
hears_in told c after (Side event) answer sound all step = All-nil (HearsOf told)
hears_in told c after (TellLost exec) answer sound all step = All-nil (HearsOf told)

-- ---- journals

outcome_more : (told more : List Fault) (outcome : Outcome) → OutcomeIsTold told outcome
    → OutcomeIsTold (told ++ more) outcome
outcome_more told more (outcomes.Map loc) h = tt
outcome_more told more outcomes.Result h = tt
outcome_more told more (outcomes.Failed causes.Planned) h = tt
outcome_more told more (outcomes.Failed (causes.Raised raise)) h = tt
outcome_more told more (outcomes.Failed (causes.Device fault)) h =
    Contains-append_left told more fault h
outcome_more told more (outcomes.Failed (causes.Gone exec wanted found)) h = tt
outcome_more told more (outcomes.Failed (causes.Metadata last)) h = tt
outcome_more told more (outcomes.Failed causes.Denied) h = tt

one_on : (o : Option Fault) (faults : List Fault)
    → cons_option o [] ++ faults ≡ cons_option o faults
one_on None faults = refl
one_on (Some fault) faults = refl

hears : (told : List Fault) (c : CoreData) (entries : List Entry) (end : CoreData)
    → (is : Replays c entries end) → IsSoundCore c → All (IsToldOf told) c.running
    → All (HearsOf (told ++ faults_of entries)) (tellings c entries end is)
hears told c [] end is sound all = All-nil (HearsOf (told ++ []))
hears told c (e ∷ entries) end (mid, step, rest) sound all =
    let more = cons_option (fault_in e.event e.answer) [] in
    let both : (told ++ more) ++ faults_of entries ≡ told ++ faults_of (e ∷ entries) =
    append_assoc told more (faults_of entries)
    ∙ ap (λ l. told ++ l) (one_on (fault_in e.event e.answer) (faults_of entries)) in
    All-append (HearsOf (told ++ faults_of (e ∷ entries))) (tellings_in c e.event e.answer)
    (tellings mid entries end rest)
    (All-weaker (HearsOf told) (HearsOf (told ++ faults_of (e ∷ entries)))
    (λ t h heard. outcome_more told (faults_of (e ∷ entries)) t.outcome (h heard))
    (tellings_in c e.event e.answer)
    (hears_in told c mid e.event e.answer sound all step))
    (subst (λ l. All (HearsOf l) (tellings mid entries end rest)) both
    (hears (told ++ more) mid entries end rest
    (steps_keep_sound c mid e.event e.answer sound step)
    (step_told told c mid all e.event e.answer step)))

-- each report of a failed call that is heard in a job is of one that an entry tells of
pub faults_are_told : (c : CoreData) (entries : List Entry) (end : CoreData)
    → (is : Replays c entries end) → IsSoundCore c → c.running ≡ []
    → All (HearsOf (faults_of entries)) (tellings c entries end is)
faults_are_told c entries end is sound none =
    hears [] c entries end is sound
    (subst (λ running. All (IsToldOf []) running) (sym none) (All-nil (IsToldOf [])))
