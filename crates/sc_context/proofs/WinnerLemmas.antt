-- Who has won in a save that is done.
use Rattle.std.proofs.Common.{◌≡◌, ◌∙◌, ◌⊎◌, inl, inr, ℕ, ◌<◌, Bool, true, false, List, [], ◌∷◌, Option, Some, None, is_some, true≢false, refl, ap, sym, subst}
use Rattle.std.specs.Prelude.{IfSome, IsSomeAnd}
use Rattle.sc_ids.specs.declared.attempts.AttemptId.{AttemptId}
use Rattle.sc_commit.specs.CommitLaws.{winner_of}
use Rattle.sc_commit.specs.Committing as commit
use Rattle.sc_commit.specs.declared.committers.Ending.TheVariants.{Succeeded}
use Rattle.sc_dag.specs.Outputs.{is_complete}
use Rattle.sc_dag.specs.Reports.{result_success_of}
use Rattle.sc_dag.specs.declared.reports.Success.{Success}
use Rattle.sc_dag.specs.declared.reports.Success.TheVariants as successes
use Rattle.sc_core.specs.CoreData.{CoreData, job_runs}
use Rattle.sc_core.specs.Journals.{Replays}
use Rattle.sc_core.specs.Posts.{is_save}
use Rattle.sc_core.specs.Sound.{IsSoundCore}
use Rattle.sc_core.specs.Steps.{Steps}
use Rattle.sc_core.specs.Tells.{Tells, after_result, done_if, released, with_result_of}
use Rattle.sc_core.specs.declared.answers.Abort.TheVariants.{NoExecutor}
use Rattle.sc_core.specs.declared.answers.Answer.{Answer}
use Rattle.sc_core.specs.declared.answers.JobState.TheVariants as jobs
use Rattle.sc_core.specs.declared.entries.Entry.{Entry}
use Rattle.sc_core.specs.declared.events.Event.{Event}
use Rattle.sc_core.specs.declared.events.Event.TheVariants.{Post, Release, Side, Take, TellLost}
use Rattle.sc_core.specs.declared.events.Outcome.{Outcome}
use Rattle.sc_core.specs.declared.events.Outcome.TheVariants as outcomes
use Rattle.sc_core.specs.declared.running.Running.{Running}
use Rattle.sc_core.proofs.LawLemmas.{replays_keep_sound, steps_keep_sound}
use Rattle.sc_core.proofs.LeftLemmas.{same_saves}
use Rattle.sc_core.proofs.LimitLemmas.{done_jobs_are_whole}
use Rattle.sc_core.proofs.TakeCases.{TakesSo, takes_so}
use Rattle.sc_history.proofs.Closing.{ended_stays}
use Rattle.sc_history.proofs.Events.{Comes, IsKnown, losses_come, posts_come, releases_come, sides_come}
use Rattle.sc_context.specs.Outputs.{HaveWinners}
use Rattle.sc_context.proofs.DoneLemmas.{aborted_undone, failure_undone, running_undone, still_runs}
use Rattle.sc_context.proofs.MovedLemmas.{AreWon, WonWith, told_won}

-- in a save that is done each partition has its winner
abbrev pub IsWon : CoreData → Type 0
IsWon c = c.job ≡ jobs.Done → is_save c.committers ≡ true → AreWon c.committers c.dag

-- ---- events

-- the success of an attempt may end the job
result_won :
    (c after : CoreData) (event : Event) (answer : Answer) → IsSoundCore c → job_runs c ≡ true
    → (mid : CoreData) → mid.dag ≡ c.dag → mid.job ≡ c.job → mid.committers ≡ c.committers
    → (r : Running) → IsKnown c event answer r outcomes.Result → (s : Success)
    → after ≡ after_result s mid r.hand_out.attempt → IsWon after
result_won c after event answer sound runs mid dag job committers r known s is done saves =
    by s is
  where
    a : AttemptId
    a = r.hand_out.attempt

    next : CoreData
    next = with_result_of (released mid r.hand_out.attempt Succeeded) r.hand_out.attempt

    won : is_save next.committers ≡ true → AreWon next.committers next.dag
    won saved =
        subst (λ ks. WonWith ks mid.dag mid.now r.hand_out.attempt) (sym committers)
        (subst (λ d. WonWith c.committers d mid.now r.hand_out.attempt) (sym dag)
        (told_won c event answer r mid.now sound runs
        (ap is_save (sym committers)
        ∙ sym (same_saves mid.committers a.partition (commit.ended a Succeeded)) ∙ saved)
        known))

    closed : (b : Bool) → after ≡ done_if b next → AreWon after.committers after.dag
    closed true e =
        let saved = subst (λ (x : CoreData). is_save x.committers ≡ true) e saves in
        subst (λ (x : CoreData). AreWon x.committers x.dag) (sym e) (won saved)
    closed false e =
        absurd (still_runs c after runs (ap (λ (x : CoreData). x.job) e ∙ job) done)

    by : (s : Success) → after ≡ after_result s mid r.hand_out.attempt
        → AreWon after.committers after.dag
    by successes.Repeated e =
        absurd (still_runs c after runs (ap (λ (x : CoreData). x.job) e ∙ job) done)
    by successes.Registered e = closed (is_complete next.dag r.hand_out.attempt.stage) e
    by successes.Bogus e = closed (is_complete next.dag r.hand_out.attempt.stage) e
    by successes.Finished e = closed (is_complete next.dag r.hand_out.attempt.stage) e

tells_won :
    (c after : CoreData) (event : Event) (answer : Answer) → IsSoundCore c → job_runs c ≡ true
    → (mid : CoreData) → mid.dag ≡ c.dag → mid.job ≡ c.job → mid.committers ≡ c.committers
    → (r : Running) (outcome : Outcome) → IsKnown c event answer r outcome
    → Tells mid r outcome answer after → IsWon after
tells_won c after event answer sound runs mid dag job committers r (outcomes.Map loc) known
    (next, up, told, is) =
    λ done saves. absurd (still_runs c after runs (ap (λ (x : CoreData). x.job) is ∙ job) done)
tells_won c after event answer sound runs mid dag job committers r outcomes.Result known
    (told, is) =
    result_won c after event answer sound runs mid dag job committers r known
    (result_success_of mid.dag r.hand_out.attempt) is
tells_won c after event answer sound runs mid dag job committers r (outcomes.Failed cause) known
    tells =
    λ done saves. absurd
    (still_runs c mid runs job (failure_undone mid after r cause answer tells done))

comes_won : (c after : CoreData) (event : Event) (answer : Answer) → IsSoundCore c
    → job_runs c ≡ true → Comes c after event answer → IsWon after
comes_won c after event answer sound runs (inl quiet) =
    λ done saves. absurd (still_runs c after runs quiet.job done)
comes_won c after event answer sound runs (inr heard) =
    tells_won c after event answer sound runs heard.mid heard.dag heard.job heard.committers
    heard.one heard.outcome (heard.known sound) heard.tells

event_won : (c after : CoreData) (event : Event) (answer : Answer) → IsSoundCore c
    → job_runs c ≡ true → Steps c event answer after → IsWon after
event_won c after (Take exec) answer sound runs step =
    λ done saves. absurd (by (takes_so c after exec answer step) done)
  where
    by : TakesSo c after exec answer → after.job ≡ jobs.Done → ⊥
    by (inl t) = still_runs c after runs (ap (λ (x : CoreData). x.job) t.is)
    by (inr (inl b)) = aborted_undone after.job _ (ap (λ (x : CoreData). x.job) b.is)
    by (inr (inr same)) = still_runs c after runs (ap (λ (x : CoreData). x.job) same.is)
event_won c after (Post a outcome) answer sound runs step =
    comes_won c after (Post a outcome) answer sound runs (posts_come c after a outcome answer step)
event_won c after (Release key) answer sound runs step =
    comes_won c after (Release key) answer sound runs (releases_come c after key answer step)
event_won c after (Side event) answer sound runs step =
    comes_won c after (Side event) answer sound runs (sides_come c after event answer step)
event_won c after (TellLost exec) answer sound runs step =
    λ done saves. absurd (by (losses_come c after exec answer step).job done)
  where
    by : (after.job ≡ c.job) ⊎ (after.job ≡ jobs.Aborted NoExecutor) → after.job ≡ jobs.Done → ⊥
    by (inl same) = still_runs c after runs same
    by (inr aborted) = aborted_undone after.job NoExecutor aborted

step_won : (c after : CoreData) (event : Event) (answer : Answer) → IsSoundCore c → IsWon c
    → Steps c event answer after → IsWon after
step_won c after event answer sound won step = by (job_runs c) refl
  where
    by : (b : Bool) → job_runs c ≡ b → IsWon after
    by true runs = event_won c after event answer sound runs step
    by false over = subst IsWon (sym (ended_stays c after event answer over step)) won

-- ---- journals

replays_won : (opening end : CoreData) (entries : List Entry) → IsSoundCore opening
    → IsWon opening → Replays opening entries end → IsWon end
replays_won opening end [] sound won is = subst IsWon (sym is) won
replays_won opening end (e ∷ entries) sound won (mid, step, rest) =
    replays_won mid end entries (steps_keep_sound opening mid e.event e.answer sound step)
    (step_won opening mid e.event e.answer sound won step) rest

-- a save that is done, and was run from its beginning, has a winner for each partition
pub winners_there : (opening end : CoreData) (entries : List Entry) → IsSoundCore opening
    → opening.job ≡ jobs.Running → Replays opening entries end → end.job ≡ jobs.Done
    → is_save end.committers ≡ true → HaveWinners end
winners_there opening end entries sound runs replays done saves =
    record {
      places = won.places;
      each = λ p within. one p (winner_of end.committers p) refl
          (won.won p
          ∙ done_jobs_are_whole end p (replays_keep_sound opening end entries sound replays) done
          (subst (λ n. p < n) won.places within));
    }
  where
    won : AreWon end.committers end.dag
    won =
        replays_won opening end entries sound
        (λ done saves. absurd (running_undone opening.job runs done)) replays done saves

    one : (p : ℕ) (o : Option AttemptId) → winner_of end.committers p ≡ o
        → is_some (winner_of end.committers p) ≡ true
        → IsSomeAnd (winner_of end.committers p) (λ winner. winner.partition ≡ p)
    one p None e some = absurd (true≢false (sym some ∙ ap is_some e))
    one p (Some winner) e some =
        subst (λ x. IsSomeAnd x (λ w. w.partition ≡ p)) (sym e)
        (subst (λ x. IfSome x (λ w. w.partition ≡ p)) e (won.commit p).winner)
