-- A job whose executors all worked until there was no more to do for them has ended.
use Rattle.std.proofs.Common.{◌≡◌, inl, inr, ℕ, zero, suc, ◌<◌, not, Bool, true, false, List, [], ◌∷◌, Option, Some, None, cond, filter, length, slice_get, is_some, refl, ap, sym, subst, ◌∙◌, arith, true≢false}
use Rattle.std.proofs.lemmas.Bool.Decides.{nat_tests}
use Rattle.std.proofs.lemmas.List.Elements.{All-contains}
use Rattle.sc_tracker.specs.TrackerData.{trust_of}
use Rattle.sc_tracker.specs.Trust.{is_live, trust_at}
use Rattle.sc_tracker.specs.declared.trust.Trust.{Trust}
use Rattle.sc_dag.proofs.Tests.{both_left, both_right, clash}
use Rattle.sc_core.specs.CoreData.{CoreData, job_runs}
use Rattle.sc_core.specs.Journals.{Replays}
use Rattle.sc_core.specs.Sound.{HasLive, IsSoundCore}
use Rattle.sc_core.specs.Steps.{Steps}
use Rattle.sc_core.specs.Takes.{Takes}
use Rattle.sc_core.specs.declared.answers.Abort.TheVariants.{NoExecutor}
use Rattle.sc_core.specs.declared.answers.Answer.{Answer}
use Rattle.sc_core.specs.declared.answers.Answer.TheVariants as says
use Rattle.sc_core.specs.declared.entries.Entry.{Entry}
use Rattle.sc_core.specs.declared.events.Event.{Event}
use Rattle.sc_core.specs.declared.events.Event.TheVariants.{Post, Release, Side, Take, TellLost}
use Rattle.sc_core.proofs.LawLemmas.{replays_keep_sound, steps_keep_sound}
use Rattle.sc_core.proofs.StaffLemmas.{runs_not_aborted}
use Rattle.sc_logs.specs.Endings.{IsLast, IsWorkedOut, WorkedJobsHaveEnded}
use Rattle.sc_logs.specs.Folds.{asked, asks_as, has_asked_as, has_left, is_leave, last_take}
use Rattle.sc_logs.specs.Logs.{IsLogIn, is_by}
use Rattle.sc_logs.specs.declared.logs.ExecLog.{ExecLog}
use Rattle.sc_logs.proofs.ForwardLemmas.{Forward}
use Rattle.sc_logs.proofs.StepLemmas.{steps_forward}
use Rattle.sc_logs.proofs.LeaveLemmas.{none_left, or_first, or_second}

-- ---- what the last answer to a Take shows, from then on

-- where nobody has left
record Shows (last : Option Answer) (exec : ℕ) (c : CoreData) : Type 0 where
  ended : last ≡ Some says.Ended → job_runs c ≡ false
  stopped : (first : ℕ) → last ≡ Some (says.Stopped first) → ⊥
  lost : last ≡ Some says.Lost → exec < length c.dag.tracker.trust
      → (trust_of c.dag.tracker exec).lost ≡ true

none_some : {X : Type 0} (x : X) → None ≡ Some x → ⊥
none_some x h = true≢false (sym (ap is_some h))

-- the answer that is there, or else this one
abbrev answer_or : Answer → Option Answer → Answer
answer_or other None = other
answer_or other (Some answer) = answer

shows_none : (exec : ℕ) (c : CoreData) → Shows None exec c
shows_none exec c =
    record {
      ended = λ e. absurd (none_some says.Ended e);
      stopped = λ first e. none_some (says.Stopped first) e;
      lost = λ e there. absurd (none_some says.Lost e);
    }

shows_still :
    (last : Option Answer) (exec : ℕ) (c after : CoreData) (event : Event)
    → Forward event c after → Shows last exec c → Shows last exec after
shows_still last exec c after event on s =
    record {
      ended = λ e. over (s.ended e) (job_runs after) refl;
      stopped = s.stopped;
      lost = λ e there. on.lost exec (s.lost e (subst (λ n. exec < n) on.many there));
    }
  where
    over : job_runs c ≡ false → (b : Bool) → job_runs after ≡ b → job_runs after ≡ false
    over f true g = absurd (clash (on.runs g) f)
    over f false g = g

lost_there : (trust : List Trust) (e : ℕ) → e < length trust
    → not (is_live (slice_get trust e)) ≡ true → (trust_at trust e).lost ≡ true
lost_there [] e there h = absurd (omega (arith, there))
lost_there (t ∷ trust) zero there h = by t.lost h
  where
    by : (b : Bool) → not (not b) ≡ true → b ≡ true
    by true f = refl
    by false f = f
lost_there (t ∷ trust) (suc e) there h = lost_there trust e (omega (arith, there)) h

take_shows : (c after : CoreData) (exec : ℕ) (answer : Answer) → Takes c exec answer after
    → c.left_first ≡ None → Shows (Some answer) exec c
take_shows c after exec answer step none =
    record {
      ended = λ e. (so says.Ended e).0;
      stopped = λ first e. none_some first (sym none ∙ (so (says.Stopped first) e).1);
      lost = λ e there. lost_there c.dag.tracker.trust exec there (so says.Lost e).2;
    }
  where
    so : (said : Answer) → Some answer ≡ Some said → Takes c exec said after
    so said e = subst (λ a. Takes c exec a after) (ap (answer_or answer) e) step

step_shows :
    (exec : ℕ) (last : Option Answer) (c after : CoreData) (event : Event) (answer : Answer)
    → IsSoundCore c → Steps c event answer after → c.left_first ≡ None
    → asks_as exec event ≡ true → Shows last exec c
    → Shows (asked event answer last) exec after
step_shows exec last c after event answer sound step none asks s =
    by event step asks (steps_forward c after event answer sound step)
  where
    by : (event : Event) → Steps c event answer after → asks_as exec event ≡ true
        → Forward event c after → Shows (asked event answer last) exec after
    by (Take asker) step asks on =
        let is : asker ≡ exec = grind (arith, nat_tests, asks) in
        shows_still (Some answer) exec c after (Take asker) on
        (subst (λ (x : ℕ). Shows (Some answer) x c) is (take_shows c after asker answer step none))
    by (Post a outcome) step asks on = shows_still last exec c after (Post a outcome) on s
    by (Release key) step asks on = shows_still last exec c after (Release key) on s
    by (TellLost lost) step asks on = shows_still last exec c after (TellLost lost) on s
    by (Side event) step asks on = shows_still last exec c after (Side event) on s

-- ---- journals

-- what an executor's entries tell that its last Take was answered is so in the end
shown :
    (exec : ℕ) (last : Option Answer) (opening end : CoreData) (es : List Entry)
    → IsSoundCore opening → opening.left_first ≡ None → has_left es ≡ false
    → Replays opening es end → has_asked_as exec (filter (is_by exec) es) ≡ true
    → Shows last exec opening → Shows (last_take last (filter (is_by exec) es)) exec end
shown exec last opening end [] sound none stays is asks s =
    subst (λ c. Shows last exec c) (sym is) s
shown exec last opening end (e ∷ es) sound none stays (mid, step, rest) asks s =
    by (λ next k t. shown exec next mid end es
    (steps_keep_sound opening mid e.event e.answer sound step)
    (on.first (or_first (is_leave e.event) (has_left es) stays) ∙ none)
    (or_second (is_leave e.event) (has_left es) stays) rest k t)
    (is_by exec e) asks
  where
    on : Forward e.event opening mid
    on = steps_forward opening mid e.event e.answer sound step

    own : List Entry
    own = filter (is_by exec) es

    by :
        ((next : Option Answer) → has_asked_as exec (filter (is_by exec) es) ≡ true
        → Shows next exec mid → Shows (last_take next (filter (is_by exec) es)) exec end)
        → (b : Bool) → has_asked_as exec (cond b (e ∷ own) own) ≡ true
        → Shows (last_take last (cond b (e ∷ own) own)) exec end
    by later true h =
        later (asked e.event e.answer last) (both_right (asks_as exec e.event) _ h)
        (step_shows exec last opening mid e.event e.answer sound step none
        (both_left (asks_as exec e.event) _ h) s)
    by later false h = later last h (shows_still last exec opening mid e.event on s)

pub worked_jobs_have_ended : WorkedJobsHaveEnded
worked_jobs_have_ended opening end entries logs sound none replays leaves agree have out =
    by (job_runs end) refl
  where
    told : (l : ExecLog) → IsLogIn entries l → IsWorkedOut l
        → Shows (last_take None l.entries.items) l.exec end
    told l own works =
        subst (λ es. Shows (last_take None es) l.exec end) own
        (shown l.exec None opening end entries sound none
        (none_left entries logs agree leaves out) replays
        (ap (λ es. has_asked_as l.exec es) own ∙ works.asks) (shows_none l.exec opening))

    ends : job_runs end ≡ true → (exec : ℕ) → exec < length end.dag.tracker.trust
        → (trust_of end.dag.tracker exec).lost ≡ false → (last : Option Answer) → IsLast last
        → Shows last exec end → ⊥
    ends runs exec there live last (inl e) s = clash runs (s.ended e)
    ends runs exec there live last (inr (inl (first, e))) s = s.stopped first e
    ends runs exec there live last (inr (inr e)) s = clash (s.lost e there) live

    never : job_runs end ≡ true → ⊥
    never runs =
        let some : HasLive end.dag.tracker =
        (replays_keep_sound opening end entries sound replays).staffed
        (runs_not_aborted end NoExecutor runs) in
        let log = have some.0 some.1.there in
        let works = All-contains IsWorkedOut logs log.0 out log.1 in
        let own = All-contains (IsLogIn entries) logs log.0 agree.0 log.1 in
        ends runs some.0 some.1.there some.1.live (last_take None log.0.entries.items) works.last
        (subst (λ (x : ℕ). Shows (last_take None log.0.entries.items) x end) log.2
        (told log.0 own works))

    by : (b : Bool) → job_runs end ≡ b → job_runs end ≡ false
    by true runs = absurd (never runs)
    by false over = over
