-- What holds of every core holds once an executor was told lost.
use Rattle.std.proofs.Common.{◌≡◌, ◌≢◌, ℕ, zero, suc, ◌+◌, ◌-◌, ◌^◌, ◌<◌, ◌==◌, not, All, Bool, true, false, cond, if◌then◌else◌, List, [], ◌∷◌, length, map, take, Option, Some, None, find, slice_get, refl, ap, sym, subst, ◌∙◌, arith, rules, true≢false}
use Rattle.std.specs.List.{filter}
use Rattle.std.proofs.lemmas.Bool.Decides.{nat_tests}
use Rattle.std.proofs.lemmas.List.Elements.{All-filter, All-head, All-tail, All-weaker}
use Rattle.std.proofs.lemmas.List.Kept.{AllPairs-filter}
use Rattle.sc_base.specs.Lists.{at_or}
use Rattle.sc_ids.specs.Graphs.{StageData}
use Rattle.sc_ids.specs.declared.attempts.AttemptId.{AttemptId}
use Rattle.sc_commit.specs.declared.committers.Ending.TheVariants as endings
use Rattle.sc_ids.specs.Changes.{change_at}
use Rattle.sc_plan.specs.Orders.{loss_of}
use Rattle.sc_tracker.specs.TrackerData.{trust_of}
use Rattle.sc_tracker.specs.Trust.{is_live, lost_at, untold}
use Rattle.sc_tracker.specs.declared.trust.Trust.{Trust}
use Rattle.sc_dag.specs.DagData.{DagData, no_stage, stage_at}
use Rattle.sc_dag.specs.Laws.{CallsKeepSound, OthersGoOn}
use Rattle.sc_dag.specs.Laws as dag
use Rattle.sc_dag.specs.Losses.{after_lost}
use Rattle.sc_dag.specs.Settled.{IsSettled, IsUnderWay}
use Rattle.sc_dag.specs.Sound.{IsSoundDag, runner_of}
use Rattle.sc_dag.specs.Submission.{is_map}
use Rattle.sc_dag.proofs.Tests.{both_left, both_right, clash}
use Rattle.sc_core.specs.CoreData.{CoreData, is_of, is_running_job, job_runs, result_stage, running_of, with_dag}
use Rattle.sc_core.specs.Losses.{all_released, attempts_on, is_due_after, may_be_lost, released_at, released_one, runs_on, without_executor}
use Rattle.sc_core.specs.Sound.{AreLostAsPlanned, AreTwo, AwaitsTelling, IsShelvedWell, IsSoundCore, IsSoundJob, IsSoundShelf, RunsWell, is_shelved}
use Rattle.sc_core.specs.Tells.{released}
use Rattle.sc_core.specs.declared.running.Running.{Running}
use Rattle.sc_core.specs.declared.running.Shelved.{Shelved}
use Rattle.sc_core.proofs.LeftLemmas.{Left, left_same, left_then, released_left}
use Rattle.sc_core.proofs.LookupLemmas.{same_is}
use Rattle.sc_core.proofs.LossLemmas.{Loses as Lost, lost_loses, lost_results, loses_then, unless_on}
use Rattle.sc_core.proofs.MoveLemmas.{Calm, SameResults, moves_then, results_then, still}
use Rattle.sc_core.proofs.ResultLemmas.{frees}
use Rattle.sc_core.proofs.SetLemmas.{nothing}
use Rattle.sc_core.proofs.ShelfLemmas.{all_left as all_without, fits_still}
use Rattle.sc_core.proofs.ToldLemmas.{under_kept}
use Rattle.sc_core.proofs.CarryLemmas.{Carries, carries_same, carries_then, handed_still}
use Rattle.sc_core.proofs.CallCarryLemmas.{lost_carries}
use Rattle.sc_core.proofs.TrackerCarryLemmas.{live_there}

-- ---- grants that are freed one after the other

pub all_left : (these : List AttemptId) (c : CoreData) → Left c (all_released these c)
all_left [] c = left_same c
all_left (a ∷ these) c =
    left_then c (released c a endings.Failed) (all_released these (released c a endings.Failed))
    (released_left c a endings.Failed) (all_left these (released c a endings.Failed))

same_job : (these : List AttemptId) (c : CoreData) → (all_released these c).job ≡ c.job
same_job [] c = refl
same_job (a ∷ these) c = same_job these (released c a endings.Failed)

-- one attempt more
pub released_more :
    (exec : ℕ) (rs : List Running) (k : ℕ) (c : CoreData)
    → all_released (attempts_on exec (take (suc k) rs)) c
    ≡ released_at exec (slice_get rs k) (all_released (attempts_on exec (take k rs)) c)
released_more exec [] zero c = refl
released_more exec [] (suc k) c = refl
released_more exec (r ∷ rs) zero c = by (runs_on exec r)
  where
    by : (b : Bool)
        → all_released (map (λ q. q.hand_out.attempt) (cond b (r ∷ []) [])) c
        ≡ released_one (if b then Some r.hand_out.attempt else None) c
    by true = refl
    by false = refl
released_more exec (r ∷ rs) (suc k) c =
    by (runs_on exec r) (λ m. released_more exec rs k m)
  where
    by : (b : Bool)
        → ((m : CoreData) → all_released (attempts_on exec (take (suc k) rs)) m
        ≡ released_at exec (slice_get rs k) (all_released (attempts_on exec (take k rs)) m))
        → all_released (map (λ q. q.hand_out.attempt)
        (cond b (r ∷ filter (runs_on exec) (take (suc k) rs))
        (filter (runs_on exec) (take (suc k) rs)))) c
        ≡ released_at exec (slice_get rs k)
        (all_released (map (λ q. q.hand_out.attempt)
        (cond b (r ∷ filter (runs_on exec) (take k rs)) (filter (runs_on exec) (take k rs)))) c)
    by true h = h (released c r.hand_out.attempt endings.Failed)
    by false h = h c

-- what runs stays while grants are freed
pub released_running :
    (exec : ℕ) (rs : List Running) (c next : CoreData) → next ≡ all_released (attempts_on exec rs) c
    → next.running ≡ c.running
released_running exec rs c next is =
    ap (λ (x : CoreData). x.running) is ∙ (all_left (attempts_on exec rs) c).running

-- so the next one of those that run is the next one there was
pub released_next :
    (exec : ℕ) (c mid next : CoreData) (k : ℕ)
    → mid ≡ all_released (attempts_on exec (take k c.running)) c
    → next ≡ released_at exec (slice_get mid.running k) mid
    → next ≡ all_released (attempts_on exec (take (k + 1) c.running)) c
released_next exec c mid next k is more =
    let one : suc k ≡ k + 1 = omega arith in
    more
    ∙ ap (λ rs. released_at exec (slice_get rs k) mid)
    (released_running exec (take k c.running) c mid is)
    ∙ ap (λ m. released_at exec (slice_get c.running k) m) is
    ∙ sym (released_more exec c.running k c)
    ∙ ap (λ (n : ℕ). all_released (attempts_on exec (take n c.running)) c) one

-- a job's stages, as far as they keep a core sound
record Keeps (r : ℕ) (c after : CoreData) : Type 0 where
  calm : Calm c.dag after.dag
  carries : Carries c.dag after.dag
  results : SameResults c.dag after.dag
  sound : IsSoundDag after.dag
  settled : IsSettled after.dag
  under : IsUnderWay after.dag r

all_keep :
    CallsKeepSound → OthersGoOn → (r : ℕ) (these : List AttemptId) (c : CoreData) → IsSoundDag c.dag
    → IsSettled c.dag → is_map (stage_at c.dag r).target ≡ false → IsUnderWay c.dag r
    → Keeps r c (all_released these c)
all_keep calls others r [] c sound settled kind under =
    record {
      calm = still c.dag;
      carries = carries_same c.dag;
      results = λ s. refl;
      sound = sound;
      settled = settled;
      under = under;
    }
all_keep calls others r (a ∷ these) c sound settled kind under =
    let next = released c a endings.Failed in
    let free = frees calls others c a endings.Failed in
    let rest =
    all_keep calls others r these next (free.sound sound) (free.goes sound settled).0
    (ap (λ (all : List StageData). is_map (at_or all r no_stage).target) free.calm.stages ∙ kind)
    (under_kept c.dag next.dag r free.calm.stages free.results kind
    (free.goes sound settled) under) in
    record {
      calm = moves_then nothing None c.dag next.dag (all_released these next).dag free.calm
          rest.calm;
      carries = carries_then c.dag next.dag (all_released these next).dag free.carries
          rest.carries;
      results = results_then c.dag next.dag (all_released these next).dag free.results
          rest.results;
      sound = rest.sound;
      settled = rest.settled;
      under = rest.under;
    }

-- what passes a test holds, what is found stays so without what fails another one
found_left :
    {A : Type 0} (q w : A → Bool) (xs : List A) → All (λ x. q x ≡ true → w x ≡ true) xs
    → find q xs ≢ None → find q (filter w xs) ≢ None
found_left q w [] all some = absurd (some refl)
found_left {A = A} q w (x ∷ xs) all some =
    by (q x) (w x) refl refl some (All-head (λ y. q y ≡ true → w y ≡ true) x xs all)
    (found_left q w xs (All-tail (λ y. q y ≡ true → w y ≡ true) x xs all))
  where
    by : (u v : Bool) → q x ≡ u → w x ≡ v → cond u (Some x) (find q xs) ≢ None
        → (q x ≡ true → w x ≡ true) → (find q xs ≢ None → find q (filter w xs) ≢ None)
        → find q (cond v (x ∷ filter w xs) (filter w xs)) ≢ None
    by true true e f n h rest = rw e (λ k. search (rules, k))
    by true false e f n h rest = absurd (clash (h e) f)
    by false true e f n h rest = rw e (rest n)
    by false false e f n h rest = rest n

-- ---- a loss

same_number : (m n : ℕ) → (m == n) ≡ true → m ≡ n
same_number m n e = grind (arith, nat_tests, e)

-- what holds of every core, whoever is live
pub record IsSoundBut (c : CoreData) : Type 0 where
  pub job : IsSoundJob c
  pub shelf : IsSoundShelf c
  pub lost : AreLostAsPlanned c
  pub told : c.told < 2 ^ 64

-- what is left of a core whose executor was told lost
pub lose_sound :
    CallsKeepSound → OthersGoOn → (c : CoreData) (exec : ℕ) → IsSoundCore c
    → may_be_lost c exec ≡ true → IsSoundBut (without_executor c exec)
lose_sound calls others c exec sound may =
    record {
      job = kept;
      shelf = shelf;
      lost = λ e h. rw (left.told, left.plan) (planned e (e == exec) refl h);
      told = rw left.told sound.told;
    }
  where
    job : job_runs c ≡ true
    job = both_left (job_runs c) _ may

    live : is_live (slice_get c.dag.tracker.trust exec) ≡ true
    live = both_left (is_live (slice_get c.dag.tracker.trust exec)) _
        (both_right (job_runs c) _ may)

    lost : DagData
    lost = after_lost c.dag exec

    mid : CoreData
    mid = with_dag c (after_lost c.dag exec)

    next : CoreData
    next = without_executor c exec

    these : List AttemptId
    these = attempts_on exec c.running

    left : Left mid (all_released (attempts_on exec c.running) mid)
    left = all_left (attempts_on exec c.running) mid

    on : dag.GoesOn c.dag lost
    on = (others c.dag sound.job.dag (sound.job.goes_on job).settled).4 exec

    keeps : Keeps (result_stage c.dag) mid (all_released these mid)
    keeps =
        all_keep calls others (result_stage c.dag) these mid
        ((calls c.dag sound.job.dag).9 exec live) on.0 sound.job.result
        (under_kept c.dag lost (result_stage c.dag) refl (lost_results c.dag exec)
        sound.job.result on (sound.job.goes_on job).result)

    moves : Lost exec c.dag next.dag
    moves = loses_then exec c.dag lost next.dag (lost_loses c.dag exec sound.job.dag) keeps.calm

    carries : Carries c.dag next.dag
    carries =
        carries_then c.dag lost next.dag (lost_carries c.dag exec live) keeps.carries

    due : is_due_after (loss_of c.plan exec) c.told ≡ true
    due =
        both_right (is_live (slice_get c.dag.tracker.trust exec)) _
        (both_right (job_runs c) _ may)

    planned : (e : ℕ) (x : Bool) → (e == exec) ≡ x
        → (trust_of next.dag.tracker e).lost ≡ true
        → is_due_after (loss_of c.plan e) c.told ≡ true
    planned e true f h =
        let is : e ≡ exec = same_number e exec f in
        ap (λ (n : ℕ). is_due_after (loss_of c.plan n) c.told) is ∙ due
    planned e false f h = sound.lost e (sym (moves.lost e f) ∙ h)

    runs : (r : Running) → RunsWell c r → runs_on exec r ≡ false → RunsWell next r
    runs r w other =
        record {
          in_set = moves.runners r.hand_out.attempt ∙ ap (unless_on exec) w.in_set ∙ there;
          there = subst (λ n. r.exec < n) (sym carries.many) w.there;
          live = moves.lost r.exec other ∙ w.live;
          handed_out = handed_still c.dag next.dag r.hand_out carries w.handed_out;
        }
      where
        there : unless_on exec (Some r.exec) ≡ Some r.exec
        there = rw other refl

    all_runs : All (RunsWell next) (filter (λ r. not (runs_on exec r)) c.running)
    all_runs =
        all_without (RunsWell next) (runs_on exec) c.running
        (All-weaker (RunsWell c) (λ r. runs_on exec r ≡ false → RunsWell next r)
        (λ r w other. runs r w other) c.running sound.job.running)

    known : (b : AttemptId) (o : Option ℕ) → runner_of c.dag b ≡ o → (at : ℕ)
        → unless_on exec o ≡ Some at → running_of next b ≢ None
    known b None e at h = absurd (search (rules, h))
    known b (Some x) e at h = by (x == exec) refl h
      where
        by : (y : Bool) → (x == exec) ≡ y → (if y then None else Some x) ≡ Some at
            → running_of next b ≢ None
        by true f g = absurd (search (rules, g))
        by false f g = found_left (is_of b) (λ r. not (runs_on exec r)) c.running
            (All-weaker (RunsWell c) (λ r. is_of b r ≡ true → not (runs_on exec r) ≡ true) elsewhere
            c.running sound.job.running)
            (sound.job.known b x e)
          where
            elsewhere : (r : Running) → RunsWell c r → is_of b r ≡ true
                → not (runs_on exec r) ≡ true
            elsewhere r w of =
                let same : r.exec ≡ x =
                search (
                  rules,
                  subst (λ a. runner_of c.dag a ≡ Some r.exec)
                      (same_is r.hand_out.attempt b of) w.in_set,
                  e,
                ) in
                rw (same, f) refl

    kept : IsSoundJob next
    kept =
        record {
          dag = keeps.sound;
          result = rw moves.stages sound.job.result;
          maps = rw moves.stages sound.job.maps;
          running = all_runs;
          known = λ b at h. known b (runner_of c.dag b) refl at (sym (moves.runners b) ∙ h);
          placed = carries.placed sound.job.placed;
          apart = AllPairs-filter AreTwo (λ r. not (runs_on exec r)) c.running sound.job.apart;
          budget = rw (left.handed, moves.limits) sound.job.budget;
          goes_on = λ r. record {
            settled = keeps.settled;
            result = subst (λ (s : ℕ). IsUnderWay next.dag s)
                (ap (λ (all : List StageData). length all - 1) (sym moves.stages)) keeps.under;
          };
          done = λ h. absurd (clash job (ap is_running_job (sym (same_job these mid) ∙ h)));
        }

    shelf : IsSoundShelf next
    shelf =
        record {
          out = rw same_shelf (All-filter (λ r. not (runs_on exec r))
              (λ r. r.is_out ≡ false → is_shelved c.shelf r.hand_out.attempt ≡ true) c.running
              (sound.shelf job).out);
          each = subst (λ ss. All (IsShelvedWell next) ss) (sym same_shelf)
              (All-weaker (IsShelvedWell c) (IsShelvedWell next) stays c.shelf
              (sound.shelf job).each);
          rising = rw same_shelf (sound.shelf job).rising;
        }
      where
        same_shelf : next.shelf ≡ c.shelf
        same_shelf = left.shelf (ap is_running_job (same_job these mid) ∙ job)

        stays : (s : Shelved) → IsShelvedWell c s → IsShelvedWell next s
        stays s w =
            record {
              below = rw left.next_key w.below;
              given = moves.given s.attempt w.given;
              runs = All-filter (λ r. not (runs_on exec r))
                  (λ r. is_of s.attempt r ≡ true → AwaitsTelling next s r) c.running
                  (All-weaker (λ r. is_of s.attempt r ≡ true → AwaitsTelling c s r)
                  (λ r. is_of s.attempt r ≡ true → AwaitsTelling next s r) waits c.running w.runs);
            }
          where
            waits : (r : Running) → (is_of s.attempt r ≡ true → AwaitsTelling c s r)
                → is_of s.attempt r ≡ true → AwaitsTelling next s r
            waits r h e =
                record {
                  is_in = (h e).is_in;
                  fit = fits_still c next r s.outcome moves.stages left.saves (h e).fit;
                }

-- ---- how much is left to do

-- a core that one executor less may go on with
pub record IsLessOne (exec : ℕ) (c next : CoreData) : Type 0 where
  pub limits : next.dag.limits ≡ c.dag.limits
  pub handed : next.handed ≡ c.handed
  pub shelf : next.shelf ≡ c.shelf
  pub plan : next.plan ≡ c.plan
  pub was : (trust_of c.dag.tracker exec).lost ≡ false
  pub now : (trust_of next.dag.tracker exec).lost ≡ true
  pub others : (e : ℕ) → (e == exec) ≡ false
      → (trust_of next.dag.tracker e).lost ≡ (trust_of c.dag.tracker e).lost

pub lose_less :
    (c : CoreData) (exec : ℕ) → IsSoundCore c → may_be_lost c exec ≡ true
    → IsLessOne exec c (without_executor c exec)
lose_less c exec sound may =
    record {
      limits = left.limits;
      handed = left.handed;
      shelf = left.shelf (ap is_running_job (same_job (attempts_on exec c.running) mid) ∙ job);
      plan = left.plan;
      was = there.0;
      now = left.lost exec ∙ there.1;
      others = λ e other. left.lost e ∙ loses.lost e other;
    }
  where
    mid : CoreData
    mid = with_dag c (after_lost c.dag exec)

    left : Left mid (all_released (attempts_on exec c.running) mid)
    left = all_left (attempts_on exec c.running) mid

    job : job_runs c ≡ true
    job = both_left (job_runs c) _ may

    live : is_live (slice_get c.dag.tracker.trust exec) ≡ true
    live = both_left (is_live (slice_get c.dag.tracker.trust exec)) _
        (both_right (job_runs c) _ may)

    loses : Lost exec c.dag (after_lost c.dag exec)
    loses = lost_loses c.dag exec sound.job.dag

    there : ((trust_of c.dag.tracker exec).lost ≡ false)
        × ((trust_of (after_lost c.dag exec).tracker exec).lost ≡ true)
    there = (
      (live_there c.dag.tracker.trust exec live).1,
      rw live (now c.dag.tracker.trust exec live),
    )
      where
        now : (trust : List Trust) (e : ℕ) → is_live (slice_get trust e) ≡ true
            → (at_or (change_at trust e (lost_at c.dag.tracker.epoch)) e untold).lost ≡ true
        now [] e h = absurd (true≢false (sym h))
        now (t ∷ ts) zero h = refl
        now (t ∷ ts) (suc e) h = now ts e h
