-- What holds of every core holds once an executor has asked for a task.
use Rattle.std.proofs.Common.{◌≡◌, ◌≢◌, ℕ, ◌^◌, ◌<◌, ◌==◌, inl, inr, All, Bool, true, false, if◌then◌else◌, List, [], ◌∷◌, Option, Some, None, find, option_map, refl, ap, sym, subst, ◌∙◌, arith, rules, true≢false, slice_get}
use Rattle.std.specs.List.{AllPairs}
use Rattle.std.specs.Option.{option_or}
use Rattle.std.proofs.lemmas.Bool.Decides.{nat_tests}
use Rattle.std.proofs.lemmas.List.Elements.{All-cons, All-get_or, All-head, All-push, All-tail, All-weaker}
use Rattle.std.proofs.lemmas.List.Folds.{find-append}
use Rattle.std.proofs.lemmas.List.Quantifiers.{all_pairs_push}
use Rattle.sc_ids.specs.declared.attempts.AttemptId.{AttemptId}
use Rattle.sc_commit.specs.Committing.{is_same}
use Rattle.sc_dag.specs.DagData.{DagData}
use Rattle.sc_dag.specs.Laws.{CallsKeepSound, OthersGoOn}
use Rattle.sc_dag.specs.Offers.{handed_out}
use Rattle.sc_dag.specs.Outputs.{is_complete}
use Rattle.sc_dag.specs.Sound.{runner_of}
use Rattle.sc_dag.proofs.Tests.{clash, not_false}
use Rattle.sc_core.specs.CoreData.{CoreData, ended, is_of, is_out_on, is_running_job, job_runs, result_stage, running_of}
use Rattle.sc_core.specs.HandOuts.{HandOutData}
use Rattle.sc_core.specs.Sound.{AreLostAsPlanned, AreTwo, GoesOn, IsSoundCore, IsSoundJob, IsStaffed, RunsWell, AreOnLive, WasHandedOut}
use Rattle.sc_core.specs.Takes.{IsAsking, IsHandOut, Takes, running_on, with_task}
use Rattle.sc_core.specs.declared.answers.Abort.{Abort}
use Rattle.sc_core.specs.declared.answers.Abort.TheVariants as aborts
use Rattle.sc_core.specs.declared.answers.Answer.{Answer}
use Rattle.sc_core.specs.declared.answers.JobState.TheVariants as jobs
use Rattle.sc_core.specs.declared.running.Running.{Running}
use Rattle.sc_core.proofs.LookupLemmas.{is_itself, same_is}
use Rattle.sc_core.proofs.MoveLemmas.{Moves, state_results}
use Rattle.sc_core.proofs.OfferLemmas.{IsOffered, handed_out_moves, offered, offered_may, offered_new}
use Rattle.sc_core.proofs.RunningLemmas.{none_passes, same_sym}
use Rattle.sc_core.proofs.SaveStepLemmas.{task_saves}
use Rattle.sc_core.proofs.ShelfLemmas.{task_shelf}
use Rattle.sc_core.proofs.StaffLemmas.{runs_not_aborted}
use Rattle.sc_core.proofs.TakeCases.{TakesSo, takes_so}
use Rattle.sc_core.proofs.ToldLemmas.{goes_same}
use Rattle.sc_core.proofs.CarryLemmas.{Carries, handed_still}
use Rattle.sc_core.proofs.TrackerCarryLemmas.{live_there}
use Rattle.sc_core.proofs.CallCarryLemmas.{handed_carries}
use Rattle.sc_core.proofs.HandedLemmas.{handed_new}
use Rattle.sc_tracker.specs.Trust.{is_live}

-- a core that differs in what is told, when, and how far the job is
pub calm_sound :
    (c after : CoreData) → IsSoundJob c → after.dag ≡ c.dag → after.running ≡ c.running
    → after.handed ≡ c.handed → (job_runs after ≡ true → GoesOn c)
    → (after.job ≡ jobs.Done → is_complete c.dag (result_stage c.dag) ≡ true)
    → IsSoundJob after
calm_sound c after sound dag running handed goes done =
    record {
      dag = rw dag sound.dag;
      result = rw dag sound.result;
      maps = rw dag sound.maps;
      running = subst (λ rs. All (RunsWell after) rs) (sym running)
          (All-weaker (RunsWell c) (RunsWell after)
          (λ r w. record {
            in_set = rw dag w.in_set;
            there = rw dag w.there;
            live = rw dag w.live;
            handed_out = subst (λ d. WasHandedOut d r.hand_out) (sym dag) w.handed_out;
          }) c.running sound.running);
      known = λ a exec h. subst (λ rs. find (is_of a) rs ≢ None) (sym running)
          (sound.known a exec (rw dag at h));
      placed = subst (λ (d : DagData). AreOnLive d.tracker) (sym dag) sound.placed;
      apart = subst (λ rs. AllPairs AreTwo rs) (sym running) sound.apart;
      budget = rw (handed, dag) sound.budget;
      goes_on = λ h. record { settled = rw dag (goes h).settled; result = rw dag (goes h).result };
      done = λ h. rw dag (done h);
    }

pub aborted_sound : (c : CoreData) (why : Abort) → IsSoundJob c → AreLostAsPlanned c
    → c.told < 2 ^ 64 → IsStaffed (ended c (jobs.Aborted why))
    → IsSoundCore (ended c (jobs.Aborted why))
aborted_sound c why job lost told staffed =
    record {
      job = calm_sound c (ended c (jobs.Aborted why)) job refl refl refl
          (λ h. absurd (true≢false (sym h))) (λ h. search (rules, h));
      shelf = λ h. absurd (true≢false (sym h));
      save = λ h. absurd (true≢false (sym h));
      lost = lost;
      told = told;
      staffed = staffed;
    }

-- ---- a task

pub task_sound :
    (c : CoreData) (exec : ℕ) (h : HandOutData) → CallsKeepSound → OthersGoOn → IsSoundJob c
    → IsAsking c exec → IsHandOut c exec h → c.handed < c.dag.limits.hand_outs
    → IsSoundJob (with_task c exec h)
task_sound c exec h calls others sound asks out below =
    record {
      dag = (calls c.dag sound.dag).1 a exec c.now (offered_may c.dag exec c.now a o);
      result = sound.result;
      maps = sound.maps;
      running = All-push (RunsWell after) c.running (running_on h exec)
          (All-weaker (RunsWell c) (RunsWell after) runs c.running sound.running) new_runs;
      known = λ b on r. known b on (is_same a b) refl (sym (moves.runners b) ∙ r);
      placed = carries.placed sound.placed;
      apart = all_pairs_push AreTwo c.running (running_on h exec) sound.apart
          (λ k d l. All-get_or (λ r. AreTwo r (running_on h exec)) c.running k d l apart);
      budget = omega (arith, below);
      goes_on = λ r. goes_same c after sound (sound.goes_on r) refl
          (state_results c.dag a.stage _ (λ state. refl))
          ((others c.dag sound.dag (sound.goes_on r).settled).0 a exec c.now);
      done = λ e. absurd (ends e);
    }
  where
    a : AttemptId
    a = h.attempt

    after : CoreData
    after = with_task c exec h

    o : IsOffered c.dag exec c.now h.attempt
    o = offered c.dag exec c.now h.attempt sound.dag out.offer

    moves : Moves (is_same h.attempt) (Some exec) c.dag (handed_out c.dag h.attempt exec c.now)
    moves = handed_out_moves c.dag exec c.now h.attempt o out.offer.newest

    carries : Carries c.dag (handed_out c.dag h.attempt exec c.now)
    carries = handed_carries c.dag h.attempt exec c.now

    ends : c.job ≡ jobs.Done → ⊥
    ends e = clash asks.runs (ap is_running_job e)

    other : (r : Running) → RunsWell c r → (x : Bool) → is_same h.attempt r.hand_out.attempt ≡ x
        → x ≡ false
    other r w false e = refl
    other r w true e =
        let same : h.attempt ≡ r.hand_out.attempt = same_is h.attempt r.hand_out.attempt e in
        absurd (search (
          rules,
          w.in_set,
          subst (λ b. runner_of c.dag b ≡ None) same
              (offered_new c.dag exec c.now h.attempt o out.offer.newest),
        ))

    runs : (r : Running) → RunsWell c r → RunsWell after r
    runs r w =
        record {
          in_set = moves.runners r.hand_out.attempt
              ∙ (rw (other r w (is_same h.attempt r.hand_out.attempt) refl) w.in_set);
          there = w.there;
          live = w.live;
          handed_out = handed_still c.dag (handed_out c.dag h.attempt exec c.now) r.hand_out
              carries w.handed_out;
        }

    live : is_live (slice_get c.dag.tracker.trust exec) ≡ true
    live = not_false (is_live (slice_get c.dag.tracker.trust exec)) asks.live

    new_runs : RunsWell after (running_on h exec)
    new_runs =
        record {
          in_set = moves.runners h.attempt ∙ (rw (is_itself h.attempt) refl);
          there = (live_there c.dag.tracker.trust exec live).0;
          live = (live_there c.dag.tracker.trust exec live).1;
          handed_out = handed_still c.dag (handed_out c.dag h.attempt exec c.now) h carries
              (handed_new c.dag exec c.now h sound.dag sound.placed o out.offer.newest out.epoch
              out.inputs);
        }

    two : (r : Running) → RunsWell c r → is_out_on exec r ≡ false → AreTwo r (running_on h exec)
    two r w e =
        record {
          attempts = same_sym r.hand_out.attempt h.attempt
              ∙ other r w (is_same h.attempt r.hand_out.attempt) refl;
          execs = λ out new is. apart_from (rw out at e) is;
        }
      where
        apart_from : (r.exec == exec) ≡ false → r.exec ≡ exec → ⊥
        apart_from differ is = grind (arith, nat_tests, differ, is)

    free : find (is_out_on exec) c.running ≡ None
    free = by (find (is_out_on exec) c.running) asks.free
      where
        by : (x : Option Running) → option_map (λ r. r.hand_out.attempt) x ≡ None → x ≡ None
        by None e = refl
        by (Some r) e = absurd (search (rules, e))

    apart : All (λ r. AreTwo r (running_on h exec)) c.running
    apart = apart_in c.running sound.running (none_passes (is_out_on exec) c.running free)
      where
        apart_in : (rs : List Running) → All (RunsWell c) rs
            → All (λ r. is_out_on exec r ≡ false) rs
            → All (λ r. AreTwo r (running_on h exec)) rs
        apart_in [] all none = λ i r l. absurd (omega (arith, l))
        apart_in (r ∷ rs) all none =
            All-cons (λ q. AreTwo q (running_on h exec)) r rs
            (two r (All-head (RunsWell c) r rs all)
            (All-head (λ q. is_out_on exec q ≡ false) r rs none))
            (apart_in rs (All-tail (RunsWell c) r rs all)
            (All-tail (λ q. is_out_on exec q ≡ false) r rs none))

    known : (b : AttemptId) (on : ℕ) (x : Bool) → is_same h.attempt b ≡ x
        → (if x then Some exec else runner_of c.dag b) ≡ Some on → running_of after b ≢ None
    known b on x e r =
        rw (find-append (is_of b) c.running (running_on h exec ∷ []))
        (by x e r (find (is_of b) c.running) refl)
      where
        last : Option Running
        last = find (is_of b) (running_on h exec ∷ [])

        by : (x : Bool) → is_same h.attempt b ≡ x
            → (if x then Some exec else runner_of c.dag b) ≡ Some on
            → (old : Option Running) → find (is_of b) c.running ≡ old
            → option_or old last ≢ None
        by x e r (Some q) f = λ n. search (rules, n)
        by true e r None f = rw e (λ n. search (rules, n))
        by false e r None f = absurd (sound.known b on r f)

-- ---- all answers

pub takes_keep :
    CallsKeepSound → OthersGoOn → (c after : CoreData) (exec : ℕ) (answer : Answer)
    → IsSoundCore c → Takes c exec answer after → IsSoundCore after
takes_keep calls others c after exec answer sound step = by (takes_so c after exec answer step)
  where
    by : TakesSo c after exec answer → IsSoundCore after
    by (inl t) =
        subst IsSoundCore (sym t.is)
        (record {
          job = task_sound c exec t.task calls others sound.job t.asking t.out t.below;
          shelf = λ r. task_shelf c exec t.task sound.job t.asking t.out
              (sound.shelf t.asking.runs);
          save = λ r. task_saves c exec t.task sound.job t.asking t.out
              (sound.save t.asking.runs);
          lost = sound.lost;
          told = sound.told;
          staffed = sound.staffed;
        })
    by (inr (inl b)) =
        subst IsSoundCore (sym b.is)
        (aborted_sound c aborts.Budget sound.job sound.lost sound.told
        (λ other. sound.staffed (runs_not_aborted c aborts.NoExecutor b.asking.runs)))
    by (inr (inr same)) = subst IsSoundCore (sym same.is) sound
