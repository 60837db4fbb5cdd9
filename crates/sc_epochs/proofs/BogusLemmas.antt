-- In a world the epoch of a task alone rules out each output that is bogus.
use Rattle.std.proofs.Common.{◌≡◌, inl, inr, ℕ, ◌<◌, ◌||◌, Bool, true, false, if◌then◌else◌, All, [], ◌∷◌, Option, Some, None, IfSome, nat_lt, refl, ap, sym, subst, ◌∙◌, arith, rules}
use Rattle.std.proofs.lemmas.Bool.Decides.{nat_tests}
use Rattle.std.proofs.lemmas.List.Elements.{All-map, All-weaker}
use Rattle.sc_ids.specs.declared.attempts.AttemptId.{AttemptId}
use Rattle.sc_ids.specs.declared.blocks.Loc.{Loc}
use Rattle.sc_lineage.specs.ScriptData.{WorkData}
use Rattle.sc_taskset.proofs.FindLemmas.{found_is}
use Rattle.sc_tracker.specs.TrackerData.{TrackerData, trust_of}
use Rattle.sc_tracker.specs.Tracking.{is_bogus}
use Rattle.sc_tracker.specs.Trust.{is_marked}
use Rattle.sc_dag.specs.Reports.{is_repeat}
use Rattle.sc_dag.specs.declared.reports.Success.TheVariants as successes
use Rattle.sc_dag.proofs.Tests.{clash}
use Rattle.sc_core.specs.CoreData.{CoreData, has_key, is_of, job_runs, running_of, shelved_of}
use Rattle.sc_core.specs.HandOuts.{HandOutData}
use Rattle.sc_core.specs.Sound.{IsSoundCore}
use Rattle.sc_core.specs.Tells.{Tells, success_answer}
use Rattle.sc_core.specs.declared.answers.Answer.{Answer}
use Rattle.sc_core.specs.declared.answers.Answer.TheVariants as says
use Rattle.sc_core.specs.declared.events.Event.{Event}
use Rattle.sc_core.specs.declared.events.Event.TheVariants.{Post, Release}
use Rattle.sc_core.specs.declared.events.Outcome.{Outcome}
use Rattle.sc_core.specs.declared.events.Outcome.TheVariants as outcomes
use Rattle.sc_core.specs.declared.running.Running.{Running}
use Rattle.sc_core.specs.declared.running.Shelved.{Shelved}
use Rattle.sc_core.proofs.LookupLemmas.{is_itself}
use Rattle.sc_history.specs.Tellings.{Telling, is_heard, telling, tellings_in, told_late}
use Rattle.sc_history.proofs.Events.{Comes, IsKnown, posts_come, releases_come}
use Rattle.sc_net.specs.Reports.{outcome_of}
use Rattle.sc_net.specs.Tasks.{TaskData}
use Rattle.sc_net.specs.declared.findings.Finding.{Finding}
use Rattle.sc_net.specs.declared.findings.Finding.TheVariants as findings
use Rattle.sc_task.specs.Attempts.{reported}
use Rattle.sc_desk.specs.DeskData.{core_of}
use Rattle.sc_desk.specs.Shelves.{as_shelved}
use Rattle.sc_world.specs.Runs.{IsWorld}
use Rattle.sc_world.specs.Steps.{Posts, ReleasesOne}
use Rattle.sc_world.specs.WorldData.{WorldData, core_in, held_at}
use Rattle.sc_epochs.specs.Found.{FindsStale, HoldsFound, IsFoundByEpoch, ShelvesFound, TellsFound}
use Rattle.sc_epochs.specs.Laws.{EpochsFindBogus}
use Rattle.sc_epochs.proofs.HeardLemmas.{RulesByEpoch}
use Rattle.sc_epochs.proofs.WorldLemmas.{runs_own}

-- what is found by its epoch is marked where it is bogus
ruled : (t : TrackerData) (epoch : ℕ) (loc : Loc) → IsFoundByEpoch t epoch loc
    → is_bogus t loc epoch ≡ true → is_marked (trust_of t loc.exec).mark epoch ≡ true
ruled t epoch loc (inr marked) bogus = marked
ruled t epoch loc (inl le) bogus = by (is_marked (trust_of t loc.exec).mark epoch) refl bogus
  where
    by : (b : Bool) → is_marked (trust_of t loc.exec).mark epoch ≡ b
        → (b || nat_lt loc.generation (trust_of t loc.exec).seen) ≡ true
        → is_marked (trust_of t loc.exec).mark epoch ≡ true
    by true e h = e
    by false e h =
        let lt : loc.generation < (trust_of t loc.exec).seen = grind (arith, nat_tests, h) in
        absurd (omega (arith, le, lt))

-- an outcome tells of an output that is found by its epoch
abbrev OutcomeFound : TrackerData → ℕ → Outcome → Type 0
OutcomeFound t epoch (outcomes.Map loc) = IsFoundByEpoch t epoch loc
OutcomeFound t epoch outcomes.Result = Unit {0}
OutcomeFound t epoch (outcomes.Failed cause) = Unit {0}

outcome_found : (t : TrackerData) (epoch : ℕ) (finding : Finding) → TellsFound t epoch finding
    → OutcomeFound t epoch (outcome_of finding)
outcome_found t epoch (findings.Map loc) h = h
outcome_found t epoch (findings.Result given) h = tt
outcome_found t epoch findings.Planned h = tt
outcome_found t epoch (findings.Raised raise) h = tt
outcome_found t epoch (findings.Gone on wanted found) h = tt
outcome_found t epoch (findings.Metadata last) h = tt
outcome_found t epoch (findings.Device fault) h = tt
outcome_found t epoch findings.Denied h = tt

-- the one report of an event
one_telling : (x y : Telling) → x ∷ [] ≡ y ∷ [] → x ≡ y
one_telling x y e = search (rules, e)

-- ---- reports in a world

-- what an executor has out and is to report
pub posts_ruled : (work : WorkData) (w : WorldData) (exec : ℕ) (task : TaskData)
    (finding : Finding) (answer : Answer) → IsWorld work w → FindsStale w
    → held_at w exec ≡ Some (reported task finding)
    → RulesByEpoch (core_in w) (Post task.hand_out.attempt (outcome_of finding)) answer
posts_ruled work w exec task finding answer h found held r loc runs ran told bogus =
    ruled t r.hand_out.epoch loc
    (subst (OutcomeFound t r.hand_out.epoch) (ap (λ (x : Telling). x.outcome) one) of_outcome)
    bogus
  where
    t : TrackerData
    t = (core_in w).dag.tracker

    one : telling task.hand_out.attempt (outcome_of finding) answer
        ≡ telling r.hand_out.attempt (outcomes.Map loc) answer
    one = one_telling _ _ told

    same : r.hand_out ≡ task.hand_out
    same =
        found_is
        (λ q. is_of task.hand_out.attempt q ≡ true → q.hand_out ≡ task.hand_out)
        (is_of r.hand_out.attempt) (core_in w).running r
        (runs_own work w exec (reported task finding) h held runs) ran
        (subst (λ a. is_of a r ≡ true) (sym (ap (λ (x : Telling). x.attempt) one))
        (is_itself r.hand_out.attempt))

    of_outcome : OutcomeFound (core_in w).dag.tracker r.hand_out.epoch (outcome_of finding)
    of_outcome =
        subst (λ (x : HandOutData). OutcomeFound t x.epoch (outcome_of finding)) (sym same)
        (outcome_found t task.hand_out.epoch finding
        (subst (λ o. IfSome o (HoldsFound t)) held (found.held exec)))

-- what is to be told later
pub releases_ruled : (work : WorkData) (w : WorldData) (key : ℕ) (answer : Answer)
    → IsWorld work w → FindsStale w → RulesByEpoch (core_in w) (Release key) answer
releases_ruled work w key answer h found r loc runs ran told bogus =
    by (shelved_of (core_in w) key) refl told
  where
    c : CoreData
    c = core_in w

    t : TrackerData
    t = (core_in w).dag.tracker

    Found : Shelved → Type 0
    Found s = is_of s.attempt r ≡ true
        → OutcomeFound (core_in w).dag.tracker r.hand_out.epoch s.outcome

    all : All Found (core_in w).shelf
    all =
        subst (λ shelf. All Found shelf) h.desk.shelf
        (All-map Found as_shelved w.desk.shelf
        (All-weaker (ShelvesFound t r) (λ s. Found (as_shelved s))
        (λ s k of. outcome_found t r.hand_out.epoch s.report.finding (k of)) w.desk.shelf
        (found_is (λ q. All (ShelvesFound t q) w.desk.shelf) (is_of r.hand_out.attempt) c.running r
        (found.shelved runs) ran)))

    by : (o : Option Shelved) → shelved_of (core_in w) key ≡ o
        → told_late o answer ≡ telling r.hand_out.attempt (outcomes.Map loc) answer ∷ []
        → is_marked (trust_of (core_in w).dag.tracker loc.exec).mark r.hand_out.epoch ≡ true
    by None e none = absurd (search (rules, none))
    by (Some s) e is =
        let one = one_telling _ _ is in
        ruled t r.hand_out.epoch loc
        (subst (OutcomeFound t r.hand_out.epoch) (ap (λ (x : Telling). x.outcome) one)
        (found_is Found (has_key key) c.shelf s all e
        (subst (λ a. is_of a r ≡ true) (sym (ap (λ (x : Telling). x.attempt) one))
        (is_itself r.hand_out.attempt))))
        bogus

-- ---- bogus outputs

-- the attempt of which an output was bogus
pub record IsBogusOf (c : CoreData) (a : AttemptId) (loc : Loc) : Type 0 where
  pub one : Running
  pub runs : job_runs c ≡ true
  pub ran : running_of c one.hand_out.attempt ≡ Some one
  pub of : one.hand_out.attempt ≡ a
  pub bogus : is_bogus c.dag.tracker loc one.hand_out.epoch ≡ true

comes_bogus : (c after : CoreData) (event : Event) (answer : Answer) (a : AttemptId) (loc : Loc)
    → IsSoundCore c → tellings_in c event answer ≡ telling a (outcomes.Map loc) answer ∷ []
    → answer ≡ says.Bogus → Comes c after event answer → IsBogusOf c a loc
comes_bogus c after event answer a loc sound told is (inl q) =
    absurd (clash (ap is_heard is) q.unheard)
comes_bogus c after event answer a loc sound told is (inr h) =
    by (subst (λ o. Tells h.mid h.one o answer after) outcome h.tells)
  where
    known : IsKnown c event answer h.one h.outcome
    known = h.known sound

    one : telling h.one.hand_out.attempt h.outcome answer ≡ telling a (outcomes.Map loc) answer
    one = one_telling _ _ (sym known.told ∙ told)

    outcome : h.outcome ≡ outcomes.Map loc
    outcome = ap (λ (x : Telling). x.outcome) one

    tested : (x y : Bool)
        → success_answer (if x then successes.Repeated
        else if y then successes.Bogus else successes.Registered) ≡ says.Bogus
        → y ≡ true
    tested true y e = absurd (search (rules, e))
    tested false true e = refl
    tested false false e = absurd (search (rules, e))

    by : Tells h.mid h.one (outcomes.Map loc) answer after → IsBogusOf c a loc
    by (next, up, said, left) =
        record {
          one = known.ran;
          runs = h.runs;
          ran = known.found;
          of = ap (λ (x : HandOutData). x.attempt) known.hand
              ∙ ap (λ (x : Telling). x.attempt) one;
          bogus = ap (λ (x : HandOutData). is_bogus c.dag.tracker loc x.epoch) known.hand
              ∙ ap (λ d. is_bogus d.tracker loc h.one.hand_out.epoch) (sym h.dag)
              ∙ tested (is_repeat h.mid.dag h.one.hand_out.attempt)
              (is_bogus h.mid.dag.tracker loc h.one.hand_out.epoch) (sym said ∙ is);
        }

-- that of a report that is posted
pub posted_bogus : (work : WorkData) (w after : WorldData) (exec : ℕ) (task : TaskData) (loc : Loc)
    → IsWorld work w → held_at w exec ≡ Some (reported task (findings.Map loc))
    → Posts work w exec says.Bogus after → IsBogusOf (core_in w) task.hand_out.attempt loc
posted_bogus work w after exec task loc h held p =
    subst (λ (x : TaskData). IsBogusOf (core_in w) x.hand_out.attempt loc) is_task
    (comes_bogus (core_in w) (core_of p.desk)
    (Post p.task.hand_out.attempt (outcome_of p.finding)) p.receipt.answer
    p.task.hand_out.attempt loc h.core
    (ap (λ f. telling p.task.hand_out.attempt (outcome_of f) p.receipt.answer ∷ []) is_finding)
    (sym p.told)
    (posts_come (core_in w) (core_of p.desk) p.task.hand_out.attempt (outcome_of p.finding)
    p.receipt.answer p.receives.enters.step))
  where
    one : Some (reported p.task p.finding) ≡ Some (reported task (findings.Map loc))
    one = sym p.held ∙ held

    is_task : p.task ≡ task
    is_task = search (rules, one)

    is_finding : p.finding ≡ findings.Map loc
    is_finding = search (rules, one)

-- it runs with the task that the executor has out
pub posted_same : (work : WorkData) (w : WorldData) (exec : ℕ) (task : TaskData) (loc : Loc)
    → IsWorld work w → held_at w exec ≡ Some (reported task (findings.Map loc))
    → (b : IsBogusOf (core_in w) task.hand_out.attempt loc) → b.one.hand_out ≡ task.hand_out
posted_same work w exec task loc h held b =
    found_is
    (λ q. is_of task.hand_out.attempt q ≡ true → q.hand_out ≡ task.hand_out)
    (is_of b.one.hand_out.attempt) (core_in w).running b.one
    (runs_own work w exec (reported task (findings.Map loc)) h held b.runs) b.ran
    (subst (λ a. is_of a b.one ≡ true) b.of (is_itself b.one.hand_out.attempt))

pub epochs_find_bogus : EpochsFindBogus
epochs_find_bogus work w after loc h found = (posted, released)
  where
    c : CoreData
    c = core_in w

    posted : (exec : ℕ) (task : TaskData)
        → held_at w exec ≡ Some (reported task (findings.Map loc))
        → Posts work w exec says.Bogus after
        → is_marked (trust_of (core_in w).dag.tracker loc.exec).mark task.hand_out.epoch ≡ true
    posted exec task held p =
        subst (λ (x : HandOutData).
        is_marked (trust_of c.dag.tracker loc.exec).mark x.epoch ≡ true) same
        (posts_ruled work w exec task (findings.Map loc) says.Bogus h found held b.one loc b.runs
        b.ran (ap (λ a. telling a (outcomes.Map loc) says.Bogus ∷ []) (sym b.of)) b.bogus)
      where
        b : IsBogusOf (core_in w) task.hand_out.attempt loc
        b = posted_bogus work w after exec task loc h held p

        same : b.one.hand_out ≡ task.hand_out
        same = posted_same work w exec task loc h held b

    released : (key : ℕ) (s : Shelved) (r : Running) → shelved_of (core_in w) key ≡ Some s
        → s.outcome ≡ outcomes.Map loc → running_of (core_in w) s.attempt ≡ Some r
        → ReleasesOne w key says.Bogus after
        → is_marked (trust_of (core_in w).dag.tracker loc.exec).mark r.hand_out.epoch ≡ true
    released key s r at is ran p =
        subst (λ (x : Running).
        is_marked (trust_of c.dag.tracker loc.exec).mark x.hand_out.epoch ≡ true) same
        (releases_ruled work w key p.receipt.answer h found b.one loc b.runs b.ran
        (told ∙ ap (λ a. telling a (outcomes.Map loc) p.receipt.answer ∷ []) (sym b.of)) b.bogus)
      where
        told : tellings_in (core_in w) (Release key) p.receipt.answer
            ≡ telling s.attempt (outcomes.Map loc) p.receipt.answer ∷ []
        told =
            ap (λ o. told_late o p.receipt.answer) at
            ∙ ap (λ o. telling s.attempt o p.receipt.answer ∷ []) is

        b : IsBogusOf (core_in w) s.attempt loc
        b =
            comes_bogus c (core_of p.desk) (Release key) p.receipt.answer s.attempt loc h.core told
            (sym p.told)
            (releases_come c (core_of p.desk) key p.receipt.answer p.releases.enters.step)

        same : b.one ≡ r
        same =
            let two : Some b.one ≡ Some r =
            sym b.ran ∙ ap (running_of c) b.of ∙ ran in search (rules, two)
