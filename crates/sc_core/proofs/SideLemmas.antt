-- What happens beside the reports leaves what holds of every core, and as much to do.
use Rattle.std.proofs.Common.{◌≡◌, ◌≢◌, ℕ, ◌-◌, ◌≤◌, ◌&&◌, inl, inr, All, Bool, true, false, cond, if◌then◌else◌, List, [], ◌∷◌, map, max, Option, Some, None, IfSome, find, length, option_map, refl, ap, sym, subst, ◌∙◌, arith, rules, true≢false}
use Rattle.std.specs.List.{AllPairs, filter}
use Rattle.std.proofs.lemmas.List.{map-id}
use Rattle.std.proofs.lemmas.List.Elements.{All-map, All-weaker}
use Rattle.std.proofs.lemmas.List.Kept.{AllPairs-cons}
use Rattle.sc_ids.specs.declared.attempts.AttemptId.{AttemptId}
use Rattle.sc_ids.specs.declared.failures.FailureCause.{FailureCause}
use Rattle.sc_ids.specs.declared.failures.FailureCause.TheVariants as causes
use Rattle.sc_ids.specs.Graphs.{StageData}
use Rattle.sc_commit.specs.Committers.{committer_at}
use Rattle.sc_commit.specs.Committing.{after_ask, answer_to, asked, denies, is_same}
use Rattle.sc_commit.specs.declared.committers.Committer.{Committer}
use Rattle.sc_commit.specs.declared.committers.Permission.{Permission}
use Rattle.sc_commit.specs.declared.committers.Permission.TheVariants as permissions
use Rattle.sc_taskset.proofs.FindLemmas.{pairs_head, pairs_tail}
use Rattle.sc_dag.specs.DagData.{DagData}
use Rattle.sc_dag.specs.Laws.{CallsKeepSound, OthersGoOn}
use Rattle.sc_dag.specs.Reports.{after_hold}
use Rattle.sc_core.specs.CoreData.{CoreData, is_of, is_running_job, job_runs, result_stage}
use Rattle.sc_core.specs.HandOuts.{HandOutData}
use Rattle.sc_core.specs.Laws.{left_to_do}
use Rattle.sc_core.specs.Posts.{fits, is_save}
use Rattle.sc_core.specs.Saving.{AsksBy, AsksIf, MovesIf, StagesIf, as_far, come_to, is_given, is_granted, is_staged, moved_by, saver_phase, staged_by}
use Rattle.sc_core.specs.Sides.{IsAside, IsFurther, LeavesIf, MayHold, Sides, StepsAside, TicksIf, first_with}
use Rattle.sc_core.specs.Sound.{AreLostAsPlanned, AreTwo, AwaitsTelling, GoesOn, HasLive, IsShelvedWell, IsSoundCore, IsSoundJob, IsSoundSave, IsSoundShelf, RunsWell, WasHandedOut, is_shelved}
use Rattle.sc_core.specs.declared.answers.Answer.{Answer}
use Rattle.sc_core.specs.declared.answers.SideAnswer.{SideAnswer}
use Rattle.sc_core.specs.declared.events.Outcome.{Outcome}
use Rattle.sc_core.specs.declared.events.Outcome.TheVariants as outcomes
use Rattle.sc_core.specs.declared.events.SideEvent.{SideEvent}
use Rattle.sc_core.specs.declared.events.SideEvent.TheVariants.{Ask, Leave, Move, Stage, Tick}
use Rattle.sc_core.specs.declared.running.Phase.{Phase}
use Rattle.sc_core.specs.declared.running.Phase.TheVariants as phases
use Rattle.sc_core.specs.declared.running.Running.{Running}
use Rattle.sc_core.specs.declared.running.Shelved.{Shelved}
use Rattle.sc_core.proofs.CallCarryLemmas.{hold_carries}
use Rattle.sc_core.proofs.CarryLemmas.{carries_same, handed_still}
use Rattle.sc_core.proofs.LeftLemmas.{same_saves}
use Rattle.sc_core.proofs.MoveLemmas.{still}
use Rattle.sc_core.proofs.ResultLemmas.{Frees}
use Rattle.sc_core.proofs.ShelfLemmas.{find_mapped, fits_still}
use Rattle.sc_core.proofs.TaskCallLemmas.{hold_calms, hold_results}
use Rattle.sc_core.proofs.ToldLemmas.{complete_same, goes_same}

-- ---- each event is one

itself : (r : Running) → IsFurther r r
itself r = record { hand_out = refl; exec = refl; is_out = refl; phase = λ h. refl }

-- a core where another executor left first, and at another time
aside_with : (c : CoreData) (first : Option ℕ) (now : ℕ) → c.now ≤ now
    → IfSome c.left_first (λ before. first ≡ Some before)
    → IsAside c (record c { left_first = first; now = now })
aside_with c first now later leads =
    record {
      told = refl;
      ticks = later;
      leaver = leads;
      handed = refl;
      job = refl;
      further = λ r. r;
      each = itself;
      running = sym (map-id c.running);
      shelf = refl;
      next_key = refl;
      saves = refl;
      dag = inl refl;
      plan = refl;
    }

stays : (first : Option ℕ) → IfSome first (λ before. first ≡ Some before)
stays None = tt
stays (Some before) = refl

same_aside : (c : CoreData) → IsAside c c
same_aside c = aside_with c c.left_first c.now (omega arith) (stays c.left_first)

-- an attempt that is out has come this far, and who may commit and which partition is held back
-- may have changed
come_aside :
    (c : CoreData) (a : AttemptId) (phase : Phase) (committers : List Committer) (d : DagData)
    → is_save committers ≡ is_save c.committers → MayHold c.dag d
    → IsAside c (come_to (record c { committers = committers; dag = d }) a phase)
come_aside c a phase committers d saves may =
    record {
      told = refl;
      ticks = omega arith;
      leaver = stays c.left_first;
      handed = refl;
      job = refl;
      further = as_far a phase;
      each = far;
      running = refl;
      shelf = refl;
      next_key = refl;
      saves = saves;
      dag = may;
      plan = refl;
    }
  where
    far : (r : Running) → IsFurther r (as_far a phase r)
    far r = by (is_of a r) r.is_out refl
      where
        by : (x y : Bool) → r.is_out ≡ y
            → IsFurther r (if x && y then record r { phase = phase } else r)
        by false y e = itself r
        by true false e = itself r
        by true true e =
            record {
              hand_out = refl;
              exec = refl;
              is_out = refl;
              phase = λ h. absurd (true≢false (sym e ∙ h));
            }

asks_aside : (c after : CoreData) (a : AttemptId) (permission : Permission) (said : SideAnswer)
    → AsksBy permission c a said after → IsAside c after
asks_aside c after a permissions.Granted said (says, is) =
    subst (IsAside c) (sym is)
    (come_aside c a phases.Granted (after_ask c.committers a true) c.dag
    (same_saves c.committers a.partition (asked a)) (inl refl))
asks_aside c after a (permissions.Denied other) said (says, is) =
    subst (IsAside c) (sym is)
    (come_aside c a phases.Denied next (held (denies (committer_at next a.partition)))
    (same_saves c.committers a.partition (asked a))
    (may (denies (committer_at next a.partition))))
  where
    next : List Committer
    next = after_ask c.committers a true

    held : Bool → DagData
    held b = if b then after_hold c.dag a.stage a.partition true else c.dag

    may : (b : Bool) → MayHold c.dag (held b)
    may true = inr (a.stage, a.partition, true, refl)
    may false = inl refl
asks_aside c after a permissions.Over said (says, is) =
    subst (IsAside c) (sym is) (same_aside c)

sides_aside : (c after : CoreData) (event : SideEvent) (said : SideAnswer)
    → Sides c event said after → IsAside c after
sides_aside c after (Leave exec) said step = by (job_runs c) step
  where
    leads : (first : Option ℕ) → IfSome first (λ before. first_with first exec ≡ Some before)
    leads None = tt
    leads (Some before) = refl

    by : (b : Bool) → LeavesIf b c exec said after → IsAside c after
    by false (says, is) = subst (IsAside c) (sym is) (same_aside c)
    by true (says, is) =
        subst (IsAside c) (sym is)
        (aside_with c (first_with c.left_first exec) c.now (omega arith) (leads c.left_first))
sides_aside c after (Tick now) said step = by (job_runs c) step
  where
    by : (b : Bool) → TicksIf b c now said after → IsAside c after
    by false (says, is) = subst (IsAside c) (sym is) (same_aside c)
    by true (says, is) =
        subst (IsAside c) (sym is)
        (aside_with c c.left_first (max c.now now) (omega arith) (stays c.left_first))
sides_aside c after (Stage a wrote) said step = by (is_given (saver_phase c a)) step
  where
    by : (b : Bool) → StagesIf b c a wrote said after → IsAside c after
    by false (says, is) = subst (IsAside c) (sym is) (same_aside c)
    by true (says, is) =
        subst (IsAside c) (sym is)
        (come_aside c a (staged_by wrote) c.committers c.dag refl (inl refl))
sides_aside c after (Ask a) said step = by (is_staged (saver_phase c a)) step
  where
    by : (b : Bool) → AsksIf b c a said after → IsAside c after
    by false (says, is) = subst (IsAside c) (sym is) (same_aside c)
    by true asks = asks_aside c after a (answer_to c.committers a true) said asks
sides_aside c after (Move a renamed) said step = by (is_granted (saver_phase c a)) step
  where
    by : (b : Bool) → MovesIf b c a renamed said after → IsAside c after
    by false (says, is) = subst (IsAside c) (sym is) (same_aside c)
    by true (says, is) =
        subst (IsAside c) (sym is)
        (come_aside c a (moved_by renamed) c.committers c.dag refl (inl refl))

pub steps_aside : (c after : CoreData) (event : SideEvent) (answer : Answer)
    → StepsAside c event answer after → IsAside c after
steps_aside c after event answer (said, told, step) = sides_aside c after event said step

-- ---- what runs

-- an attempt that has come further is of the same numbers
further_of : (a : AttemptId) (r next : Running) → IsFurther r next → is_of a next ≡ is_of a r
further_of a r next f = ap (λ (h : HandOutData). is_same h.attempt a) f.hand_out

runs_further : (c after : CoreData) (r next : Running) → Frees c.dag after.dag → IsFurther r next
    → RunsWell c r → RunsWell after next
runs_further c after r next frees f w =
    record {
      in_set = rw (f.hand_out, f.exec) (frees.calm.runners r.hand_out.attempt ∙ w.in_set);
      there = rw (frees.calm.many, f.exec) w.there;
      live = rw f.exec (frees.calm.lost r.exec ∙ w.live);
      handed_out = handed_still c.dag after.dag next.hand_out frees.carries
          (subst (λ h. WasHandedOut c.dag h) (sym f.hand_out) w.handed_out);
    }

two_further : (q r q' r' : Running) → IsFurther q q' → IsFurther r r' → AreTwo q r → AreTwo q' r'
two_further q r q' r' f g t =
    record {
      attempts = rw (f.hand_out, g.hand_out) t.attempts;
      execs = λ a b same. t.execs (sym f.is_out ∙ a) (sym g.is_out ∙ b)
          (sym f.exec ∙ same ∙ g.exec);
    }

pairs_further : (further : Running → Running) → ((r : Running) → IsFurther r (further r))
    → (rs : List Running) → AllPairs AreTwo rs → AllPairs AreTwo (map further rs)
pairs_further further each [] h = λ i j d lt l. absurd (omega (arith, l))
pairs_further further each (r ∷ rs) h =
    AllPairs-cons AreTwo (further r) (map further rs)
    (All-map (AreTwo (further r)) further rs
    (All-weaker (AreTwo r) (λ q. AreTwo (further r) (further q))
    (λ q t. two_further r q (further r) (further q) (each r) (each q) t) rs
    (pairs_head AreTwo r rs h)))
    (pairs_further further each rs (pairs_tail AreTwo r rs h))

-- what depends on the stages alone stays where a partition is held back, or not any more
pub may_hold : CallsKeepSound → OthersGoOn → (d after : DagData) → MayHold d after → Frees d after
may_hold calls others d after (inl is) =
    subst (λ x. Frees d x) (sym is)
    (record {
      calm = still d;
      carries = carries_same d;
      results = λ s. refl;
      sound = λ s. s;
      goes = λ s t. (t, λ r under lacks. under.1);
    })
may_hold calls others d after (inr (s, p, denied, is)) =
    subst (λ x. Frees d x) (sym is)
    (record {
      calm = hold_calms d s p denied;
      carries = hold_carries d s p denied;
      results = hold_results d s p denied;
      sound = λ t. (calls d t).7 s p denied;
      goes = λ t u. (others d t u).2 s p denied;
    })

-- the stages themselves, where outputs lie and the limits are the same ones
pub held_stages : (d after : DagData) → MayHold d after → after.stages ≡ d.stages
held_stages d after (inl is) = ap (λ (x : DagData). x.stages) is
held_stages d after (inr (s, p, denied, is)) = ap (λ (x : DagData). x.stages) is

pub held_tracker : (d after : DagData) → MayHold d after → after.tracker ≡ d.tracker
held_tracker d after (inl is) = ap (λ (x : DagData). x.tracker) is
held_tracker d after (inr (s, p, denied, is)) = ap (λ (x : DagData). x.tracker) is

pub held_limits : (d after : DagData) → MayHold d after → after.limits ≡ d.limits
held_limits d after (inl is) = ap (λ (x : DagData). x.limits) is
held_limits d after (inr (s, p, denied, is)) = ap (λ (x : DagData). x.limits) is

aside_job : (c after : CoreData) → IsAside c after → Frees c.dag after.dag → IsSoundJob c
    → IsSoundJob after
aside_job c after is frees sound =
    record {
      dag = frees.sound sound.dag;
      result = rw frees.calm.stages sound.result;
      maps = rw frees.calm.stages sound.maps;
      running = subst (λ rs. All (RunsWell after) rs) (sym is.running)
          (All-map (RunsWell after) is.further c.running
          (All-weaker (RunsWell c) (λ r. RunsWell after (is.further r))
          (λ r w. runs_further c after r (is.further r) frees (is.each r) w) c.running
          sound.running));
      known = λ a exec h. subst (λ rs. find (is_of a) rs ≢ None) (sym is.running)
          (known a (sound.known a exec (sym (frees.calm.runners a) ∙ h)));
      placed = frees.carries.placed sound.placed;
      apart = subst (λ rs. AllPairs AreTwo rs) (sym is.running)
          (pairs_further is.further is.each c.running sound.apart);
      budget = rw (is.handed, frees.calm.limits) sound.budget;
      goes_on = λ h. goes (sound.goes_on (ap is_running_job (sym is.job) ∙ h));
      done = λ h. rw (
        result_same,
        complete_same c.dag after.dag (result_stage c.dag)
            frees.calm.stages (frees.results (result_stage c.dag)) sound.result,
      )
          (sound.done (sym is.job ∙ h));
    }
  where
    some : (o : Option Running) → o ≢ None → option_map is.further o ≢ None
    some None not_none = λ n. not_none refl
    some (Some r) not_none = λ n. search (rules, n)

    known : (a : AttemptId) → find (is_of a) c.running ≢ None
        → find (is_of a) (map is.further c.running) ≢ None
    known a h =
        rw (find_mapped (is_of a) is.further
        (λ r. further_of a r (is.further r) (is.each r)) c.running)
        (some (find (is_of a) c.running) h)

    result_same : result_stage after.dag ≡ result_stage c.dag
    result_same = ap (λ (all : List StageData). length all - 1) frees.calm.stages

    goes : GoesOn c → GoesOn after
    goes g =
        goes_same c after sound g frees.calm.stages frees.results (frees.goes sound.dag g.settled)

-- ---- what is to be told later

-- what fits an attempt that isn't out goes on fitting
fits_further : (c after : CoreData) (r next : Running) (outcome : Outcome) → IsAside c after
    → IsFurther r next → r.is_out ≡ false → fits c r outcome ≡ true → fits after next outcome ≡ true
fits_further c after r next outcome is f is_in fit =
    fits_still c after next outcome (held_stages c.dag after.dag is.dag) is.saves
    (same outcome ∙ fit)
  where
    phase : next.phase ≡ r.phase
    phase = f.phase is_in

    failed : (cause : FailureCause)
        → fits c next (outcomes.Failed cause) ≡ fits c r (outcomes.Failed cause)
    failed causes.Planned = refl
    failed (causes.Raised raise) = refl
    failed (causes.Device fault) = rw phase refl
    failed (causes.Gone exec wanted found) = rw f.hand_out refl
    failed (causes.Metadata last) = rw f.hand_out refl
    failed causes.Denied = rw phase refl

    same : (outcome : Outcome) → fits c next outcome ≡ fits c r outcome
    same (outcomes.Map loc) = rw (f.hand_out, f.exec) refl
    same outcomes.Result = rw (f.hand_out, phase) refl
    same (outcomes.Failed cause) = failed cause

aside_shelf : (c after : CoreData) → IsAside c after → Frees c.dag after.dag → IsSoundShelf c
    → IsSoundShelf after
aside_shelf c after is frees sound =
    record {
      out = subst (λ rs. All Waits rs) (sym is.running)
          (All-map Waits is.further c.running
          (All-weaker (λ r. r.is_out ≡ false → is_shelved c.shelf r.hand_out.attempt ≡ true)
          (λ r. Waits (is.further r)) (λ r h. waits r (is.each r) h) c.running sound.out));
      each = subst (λ ss. All (IsShelvedWell after) ss) (sym is.shelf)
          (All-weaker (IsShelvedWell c) (IsShelvedWell after) kept c.shelf sound.each);
      rising = rw is.shelf sound.rising;
    }
  where
    Waits : Running → Type 0
    Waits r = r.is_out ≡ false → is_shelved after.shelf r.hand_out.attempt ≡ true

    waits : (r : Running) → IsFurther r (is.further r)
        → (r.is_out ≡ false → is_shelved c.shelf r.hand_out.attempt ≡ true)
        → Waits (is.further r)
    waits r f h is_in = rw (is.shelf, f.hand_out) (h (sym f.is_out ∙ is_in))

    awaits : (s : Shelved) (r : Running) → IsFurther r (is.further r)
        → (is_of s.attempt r ≡ true → AwaitsTelling c s r)
        → is_of s.attempt (is.further r) ≡ true → AwaitsTelling after s (is.further r)
    awaits s r f h e =
        let w = h (sym (further_of s.attempt r (is.further r) f) ∙ e) in
        record {
          is_in = f.is_out ∙ w.is_in;
          fit = fits_further c after r (is.further r) s.outcome is f w.is_in w.fit;
        }

    kept : (s : Shelved) → IsShelvedWell c s → IsShelvedWell after s
    kept s w =
        record {
          below = rw is.next_key w.below;
          given = frees.calm.given s.attempt w.given;
          runs = subst
              (λ rs. All (λ r. is_of s.attempt r ≡ true → AwaitsTelling after s r) rs)
              (sym is.running)
              (All-map (λ r. is_of s.attempt r ≡ true → AwaitsTelling after s r) is.further
              c.running
              (All-weaker (λ r. is_of s.attempt r ≡ true → AwaitsTelling c s r)
              (λ r. is_of s.attempt (is.further r) ≡ true → AwaitsTelling after s (is.further r))
              (λ r h. awaits s r (is.each r) h) c.running w.runs));
        }

-- ---- every core

pub aside_sound : (c after : CoreData) → IsAside c after → Frees c.dag after.dag → IsSoundCore c
    → (job_runs after ≡ true → IsSoundSave after) → IsSoundCore after
aside_sound c after is frees sound save =
    record {
      job = aside_job c after is frees sound.job;
      shelf = λ h. aside_shelf c after is frees
          (sound.shelf (ap is_running_job (sym is.job) ∙ h));
      save = save;
      lost = lost;
      told = rw is.told sound.told;
      staffed = λ other. subst HasLive (sym (held_tracker c.dag after.dag is.dag))
          (sound.staffed (λ e. other (is.job ∙ e)));
    }
  where
    lost : AreLostAsPlanned after
    lost = rw (held_tracker c.dag after.dag is.dag, is.plan, is.told) sound.lost

abbrev outs : List Running → List Running
outs rs = filter (λ r. r.is_out) rs

outs_further : (further : Running → Running) → ((r : Running) → IsFurther r (further r))
    → (rs : List Running) → length (outs (map further rs)) ≡ length (outs rs)
outs_further further each [] = refl
outs_further further each (r ∷ rs) =
    by (further r).is_out r.is_out ((each r).is_out) (outs_further further each rs)
  where
    by : (x y : Bool) → x ≡ y → length (outs (map further rs)) ≡ length (outs rs)
        → length (cond x (further r ∷ outs (map further rs)) (outs (map further rs)))
        ≡ length (cond y (r ∷ outs rs) (outs rs))
    by true true e h = omega (arith, h)
    by false false e h = h
    by true false e h = absurd (true≢false e)
    by false true e h = absurd (true≢false (sym e))

pub aside_left : (c after : CoreData) → IsAside c after → left_to_do after ≡ left_to_do c
aside_left c after is =
    rw (
      held_limits c.dag after.dag is.dag,
      held_tracker c.dag after.dag is.dag,
      is.handed,
      is.running,
      is.shelf,
      is.plan,
      outs_further is.further is.each c.running,
    ) refl
