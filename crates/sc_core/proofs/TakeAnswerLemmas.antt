-- An executor that asks has an answer.
use Rattle.std.proofs.Common.{◌≡◌, ◌⊎◌, inl, inr, ℕ, zero, suc, ◌<◌, ◌≤◌, nat_lt, Bool, true, false, length, Option, Some, None, slice_get, refl, sym, subst, arith}
use Rattle.std.proofs.lemmas.Bool.Decides.{nat_tests}
use Rattle.std.proofs.lemmas.Option.{slice_get_past}
use Rattle.sc_ids.specs.declared.attempts.AttemptId.{AttemptId}
use Rattle.sc_taskset.specs.Rows.{offered_task}
use Rattle.sc_taskset.specs.Sound.{AreRising}
use Rattle.sc_taskset.specs.TaskSetData.{TaskData, TaskSetData, partitions_of}
use Rattle.sc_taskset.specs.declared.tasks.GivenTask.{GivenTask}
use Rattle.sc_taskset.proofs.OfferLemmas.{offer_of, offers_nothing, offers_task}
use Rattle.sc_dag.specs.DagData.{DagData, newest_at}
use Rattle.sc_taskset.specs.Offers.{is_slow}
use Rattle.sc_dag.specs.Offers.{HasNone, IsOffer, OffersIn, newest_number}
use Rattle.sc_dag.specs.Sound.{IsSoundDag}
use Rattle.sc_dag.proofs.Moving.{newest_among}
use Rattle.sc_dag.proofs.Stuck.{newest_holds}
use Rattle.sc_core.specs.CoreData.{CoreData, ended, held_by, job_runs, under_way}
use Rattle.sc_core.specs.HandOuts.{hand_out, inputs_of}
use Rattle.sc_core.specs.Laws.{WaitsHaveCause}
use Rattle.sc_core.specs.Sound.{IsSoundCore}
use Rattle.sc_core.specs.Takes.{IsAsking, IsHandOut, Takes, is_lost, with_task}
use Rattle.sc_core.specs.declared.answers.Abort.TheVariants as aborts
use Rattle.sc_core.specs.declared.answers.Answer.{Answer}
use Rattle.sc_core.specs.declared.answers.Answer.TheVariants as says
use Rattle.sc_core.specs.declared.answers.JobState.TheVariants as jobs
use Rattle.sc_core.proofs.LookupLemmas.{attempt}

-- ---- what there is for an executor

-- a set has a task for it, or none
set_offers :
    (d : DagData) (s exec now : ℕ) → IsSoundDag d → (o : Option TaskSetData) → newest_at d s ≡ o
    → ((g : GivenTask) × OffersIn o exec now (Some g)) ⊎ OffersIn o exec now None
set_offers d s exec now sound None e = inr tt
set_offers d s exec now sound (Some set) e =
    by (offered_task set.is_zombie set.limits.speculation (is_slow set now) exec set.tasks) refl
  where
    rising : AreRising (partitions_of set)
    rising =
        newest_holds (λ x. AreRising (partitions_of x)) (slice_get d.states s) set
        (λ i x l. (sound.attempts s i x l).set.sound.rising) e

    by : (o : Option TaskData)
        → offered_task set.is_zombie set.limits.speculation (is_slow set now) exec set.tasks ≡ o
        → ((g : GivenTask) × OffersIn (Some set) exec now (Some g))
        ⊎ OffersIn (Some set) exec now None
    by None f = inr (offers_nothing set exec now f)
    by (Some t) f = inl (offer_of t, offers_task set exec now t rising f)

-- the first of some stages that has a task for it, or none has
first_offers :
    (d : DagData) (exec now : ℕ) → IsSoundDag d → (n : ℕ)
    → ((a : AttemptId) × IsOffer d exec now a)
    ⊎ ((s : ℕ) → s < n → OffersIn (newest_at d s) exec now None)
first_offers d exec now sound zero = inr (λ s lt. absurd (omega (arith, lt)))
first_offers d exec now sound (suc n) =
    by (first_offers d exec now sound n) (set_offers d n exec now sound (newest_at d n) refl)
  where
    by : ((a : AttemptId) × IsOffer d exec now a)
        ⊎ ((s : ℕ) → s < n → OffersIn (newest_at d s) exec now None)
        → ((g : GivenTask) × OffersIn (newest_at d n) exec now (Some g))
        ⊎ OffersIn (newest_at d n) exec now None
        → ((a : AttemptId) × IsOffer d exec now a)
        ⊎ ((s : ℕ) → s < suc n → OffersIn (newest_at d s) exec now None)
    by (inl o) next = inl o
    by (inr none) (inl (g, o)) =
        inl (
          attempt n (newest_number d n) g.partition g.nth,
          record { offered = o; first = none; newest = refl },
        )
    by (inr none) (inr last) = inr (λ s lt. each s (nat_lt s n) refl lt)
      where
        each : (s : ℕ) (b : Bool) → nat_lt s n ≡ b → s < suc n
            → OffersIn (newest_at d s) exec now None
        each s true e lt = none s (grind (arith, nat_tests, e))
        each s false e lt =
            let is : s ≡ n = grind (arith, nat_tests, e, lt) in
            subst (λ (r : ℕ). OffersIn (newest_at d r) exec now None) (sym is) last

offer_or_none : (d : DagData) (exec now : ℕ) → IsSoundDag d
    → ((a : AttemptId) × IsOffer d exec now a) ⊎ HasNone d exec now
offer_or_none d exec now sound = by (first_offers d exec now sound (length d.states))
  where
    past : (s : ℕ) → length d.states ≤ s → OffersIn (newest_at d s) exec now None
    past s le =
        subst (λ o. OffersIn (newest_among o) exec now None) (sym (slice_get_past d.states s le)) tt

    by : ((a : AttemptId) × IsOffer d exec now a)
        ⊎ ((s : ℕ) → s < length d.states → OffersIn (newest_at d s) exec now None)
        → ((a : AttemptId) × IsOffer d exec now a) ⊎ HasNone d exec now
    by (inl o) = inl o
    by (inr none) = inr (λ s. each s (nat_lt s (length d.states)) refl)
      where
        each : (s : ℕ) (b : Bool) → nat_lt s (length d.states) ≡ b
            → OffersIn (newest_at d s) exec now None
        each s true e = none s (grind (arith, nat_tests, e))
        each s false e = past s (grind (arith, nat_tests, e))

-- ---- an executor that asks

pub takes_there :
    WaitsHaveCause → (c : CoreData) (exec : ℕ) → IsSoundCore c
    → (answer : Answer) × (after : CoreData) × Takes c exec answer after
takes_there waits c exec sound = runs (job_runs c) refl
  where
    There : Type 0
    There = (answer : Answer) × (after : CoreData) × Takes c exec answer after

    under : IsAsking c exec → HasNone c.dag exec c.now → (o : Option AttemptId) → under_way c ≡ o
        → There
    under asks none None e = absurd (waits c exec sound asks.runs none e)
    under asks none (Some out) e = (says.Wait out, c, (asks, none, e, refl))

    gives : IsAsking c exec → (a : AttemptId) → IsOffer c.dag exec c.now a → (b : Bool)
        → nat_lt c.handed c.dag.limits.hand_outs ≡ b → There
    gives asks a o true e =
        let h = hand_out a c.dag.tracker.epoch (inputs_of c.dag a.stage) in
        let is : IsHandOut c exec h = record { offer = o; epoch = refl; inputs = refl } in
        (says.Task h, with_task c exec h, (asks, is, grind (arith, nat_tests, e), refl))
    gives asks a o false e = (
      says.Aborted aborts.Budget,
      ended c (jobs.Aborted aborts.Budget),
      (a, asks, o, grind (arith, nat_tests, e), refl),
    )

    asking : IsAsking c exec
        → ((a : AttemptId) × IsOffer c.dag exec c.now a) ⊎ HasNone c.dag exec c.now → There
    asking asks (inl (a, o)) = gives asks a o (nat_lt c.handed c.dag.limits.hand_outs) refl
    asking asks (inr none) = under asks none (under_way c) refl

    holds : job_runs c ≡ true → c.left_first ≡ None → is_lost c exec ≡ false
        → (o : Option AttemptId) → held_by c exec ≡ o → There
    holds e f g (Some held) h = (says.Busy held, c, (e, f, g, h, refl))
    holds e f g None h =
        asking (record { runs = e; stays = f; live = g; free = h })
        (offer_or_none c.dag exec c.now sound.job.dag)

    lost : job_runs c ≡ true → c.left_first ≡ None → (b : Bool) → is_lost c exec ≡ b → There
    lost e f true g = (says.Lost, c, (e, f, g, refl))
    lost e f false g = holds e f g (held_by c exec) refl

    stays : job_runs c ≡ true → (o : Option ℕ) → c.left_first ≡ o → There
    stays e (Some first) f = (says.Stopped first, c, (e, f, refl))
    stays e None f = lost e f (is_lost c exec) refl

    runs : (b : Bool) → job_runs c ≡ b → There
    runs false e = (says.Ended, c, (e, refl))
    runs true e = stays e c.left_first refl
