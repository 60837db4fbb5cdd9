-- Who is live.
use Rattle.std.proofs.Common.{◌≡◌, ◌≢◌, ℕ, zero, suc, ◌<◌, ◌&&◌, Bool, true, false, List, [], ◌∷◌, length, not, replicate, slice_get, ap, sym, subst, ◌∙◌, refl, arith, true≢false}
use Rattle.std.proofs.lemmas.List.{length-replicate}
use Rattle.sc_tracker.specs.TrackerData.{TrackerData, trust_of}
use Rattle.sc_tracker.specs.Trust.{are_lost, is_live, trust_at, untold}
use Rattle.sc_tracker.specs.declared.trust.Trust.{Trust}
use Rattle.sc_dag.proofs.Tests.{clash}
use Rattle.sc_core.specs.CoreData.{CoreData, is_running_job, job_runs}
use Rattle.sc_core.specs.Laws.{FirstHasLive}
use Rattle.sc_core.specs.Sound.{HasLive, IsSoundCore}
use Rattle.sc_core.specs.Takes.{is_lost}
use Rattle.sc_core.specs.declared.answers.Abort.{Abort}
use Rattle.sc_core.specs.declared.answers.Abort.TheVariants.{NoExecutor}
use Rattle.sc_core.specs.declared.answers.JobState.TheVariants as jobs

-- somebody is live still, where nobody more is lost
pub live_still : (t u : TrackerData) → length u.trust ≡ length t.trust
    → ((e : ℕ) → (trust_of u e).lost ≡ (trust_of t e).lost) → HasLive t → HasLive u
live_still t u many lost (exec, is) = (
  exec,
  record { there = subst (λ n. exec < n) (sym many) is.there; live = lost exec ∙ is.live },
)

-- a job that runs wasn't aborted
pub runs_not_aborted : (c : CoreData) (why : Abort) → job_runs c ≡ true → c.job ≢ jobs.Aborted why
runs_not_aborted c why runs e = clash runs (ap is_running_job e)

-- a list of executors has one that is live
record HasLiveIn (trust : List Trust) : Type 0 where
  exec : ℕ
  there : exec < length trust
  live : (trust_at trust exec).lost ≡ false

not_all_in : (trust : List Trust) → are_lost trust ≡ false → HasLiveIn trust
not_all_in [] h = absurd (true≢false h)
not_all_in (t ∷ trust) h = by t.lost refl h (λ k. later (not_all_in trust k))
  where
    later : HasLiveIn trust → HasLiveIn (t ∷ trust)
    later is =
        let lt = is.there in
        record { exec = suc is.exec; there = omega (arith, lt); live = is.live }

    by : (b : Bool) → t.lost ≡ b → (b && are_lost trust) ≡ false
        → (are_lost trust ≡ false → HasLiveIn (t ∷ trust)) → HasLiveIn (t ∷ trust)
    by true e k f = f k
    by false e k f = record { exec = 0; there = omega arith; live = e }

-- where not all are lost, somebody is live
pub not_all_lost : (t : TrackerData) → are_lost t.trust ≡ false → HasLive t
not_all_lost t h =
    let is = not_all_in t.trust h in
    (is.exec, record { there = is.there; live = is.live })

none_lost : (n e : ℕ) → (trust_at (replicate n untold) e).lost ≡ false
none_lost zero e = refl
none_lost (suc n) zero = refl
none_lost (suc n) (suc e) = none_lost n e

-- in the first job everybody is
pub first_has_live : FirstHasLive
first_has_live limits some =
    let many = length-replicate limits.executors untold in
    (0, record { there = omega (arith, some, many); live = none_lost limits.executors 0 })

-- where somebody is live, an executor that is is told so
is_live_at : (trust : List Trust) (exec : ℕ) → exec < length trust
    → (trust_at trust exec).lost ≡ false → is_live (slice_get trust exec) ≡ true
is_live_at [] exec there live = absurd (omega (arith, there))
is_live_at (t ∷ trust) zero there live = ap not live
is_live_at (t ∷ trust) (suc exec) there live = is_live_at trust exec (omega (arith, there)) live

-- not all executors are lost while the job runs
pub runs_not_lost : (c : CoreData) → IsSoundCore c → job_runs c ≡ true
    → ((exec : ℕ) → exec < length c.dag.tracker.trust → is_lost c exec ≡ true) → ⊥
runs_not_lost c sound runs lost =
    let some = sound.staffed (runs_not_aborted c NoExecutor runs) in
    true≢false (sym (lost some.0 some.1.there)
    ∙ ap not (is_live_at c.dag.tracker.trust some.0 some.1.there some.1.live))
