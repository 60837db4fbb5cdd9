-- What the success of a map task leaves of when attempts began.
use Rattle.std.proofs.Common.{◌≡◌, ◌⊎◌, inl, inr, ℕ, ◌<◌, ◌≤◌, Bool, true, false, if◌then◌else◌, IfSome, List, is_some, length, Option, Some, None, slice_get, refl, ap, sym, subst, ◌∙◌, arith, true≢false}
use Rattle.std.proofs.lemmas.Bool.Decides.{nat_tests}
use Rattle.sc_base.specs.Lists.{at_or}
use Rattle.sc_ids.specs.Graphs.{StageData}
use Rattle.sc_ids.specs.declared.attempts.AttemptId.{AttemptId}
use Rattle.sc_ids.specs.declared.blocks.BlockId.{BlockId}
use Rattle.sc_ids.specs.declared.blocks.Loc.{Loc}
use Rattle.sc_ids.specs.declared.blocks.ShuffleId.{ShuffleId}
use Rattle.sc_ids.specs.declared.blocks.Target.{Target}
use Rattle.sc_ids.specs.declared.blocks.Target.TheVariants as targets
use Rattle.sc_taskset.specs.Reports.{after_success}
use Rattle.sc_taskset.specs.TaskSetData.{TaskSetData}
use Rattle.sc_tracker.specs.TrackerData.{TrackerData, outputs_of, trust_of}
use Rattle.sc_tracker.specs.Tracking.{is_bogus, registered}
use Rattle.sc_tracker.specs.Trust.{is_marked}
use Rattle.sc_tracker.proofs.BlockLemmas.{lookups_sound, registers_one}
use Rattle.sc_dag.specs.DagData.{DagData, newest_at, no_stage, place_of_attempt, stage_at, with_set, with_tracker}
use Rattle.sc_dag.specs.Offers.{newest_number}
use Rattle.sc_dag.specs.Outputs.{block_of, is_done, is_done_by, is_registered, results_in}
use Rattle.sc_dag.specs.Reports.{after_map_success, block_by, ended_in_own, is_of_newest, is_repeat, registered_by, set_of, succeeded_in_both, succeeded_in_own, wants_in, with_output}
use Rattle.sc_dag.specs.Sound.{IsSoundDag, runner_of}
use Rattle.sc_dag.specs.Submission.{is_map}
use Rattle.sc_dag.proofs.Runners.{older_place, within}
use Rattle.sc_dag.proofs.Tests.{clash, not_false}
use Rattle.sc_dag.proofs.Trackers.{which_block}
use Rattle.sc_core.proofs.LookupLemmas.{set_of_newest}
use Rattle.sc_epochs.specs.Apart.{AreBornApart}
use Rattle.sc_epochs.proofs.ApartLemmas.{Never, Stills, Tamed, Waits, apart_tamed, never_apart, stills_apart, tamed_then, tamed_tracker, tamed_waits, tamed_with}
use Rattle.sc_epochs.proofs.CallLemmas.{both_still, ended_stills, success_stills}
use Rattle.sc_epochs.proofs.TameLemmas.{state_older}

-- the place of an attempt
abbrev OfTask : AttemptId → ℕ → ℕ → Type 0
OfTask a s p = (s ≡ a.stage) × (p ≡ a.partition)

-- what waited before a success does so behind it, and nothing new is handed out
pub map_waits : (d : DagData) (a : AttemptId) (loc : Loc) (epoch now : ℕ)
    → Waits d (after_map_success d a loc epoch now)
map_waits d a loc epoch now = by (is_repeat d a) (is_bogus d.tracker loc epoch)
  where
    E : ℕ → ℕ → Type 0
    E = OfTask a

    placed : (o : Option BlockId)
        → Tamed (OfTask a) d (with_tracker d (registered_by d.tracker o loc))
    placed o = tamed_tracker E d (registered_by d.tracker o loc)

    registers : Tamed (OfTask a) d (succeeded_in_both (with_output d a loc) a now)
    registers =
        tamed_then E d (with_output d a loc) (succeeded_in_both (with_output d a loc) a now)
        (placed (block_by (stage_at d a.stage).target a.partition))
        (both_still E (with_output d a loc) a now (refl, refl)).tamed

    by : (x y : Bool) → Waits d (if x then ended_in_own d a
        else if y then succeeded_in_own d a now
        else succeeded_in_both (with_output d a loc) a now)
    by true y = tamed_waits E d (ended_in_own d a) (ended_stills E d a).tamed
    by false true =
        tamed_waits E d (succeeded_in_own d a now) (success_stills E d a now (refl, refl)).tamed
    by false false =
        tamed_waits E d (succeeded_in_both (with_output d a loc) a now) registers

-- an attempt that runs, whose task set began no later than it was handed out, and whose output the
-- epoch alone rules out where it is bogus
module _ (d : DagData) (a : AttemptId) (loc : Loc) (epoch now : ℕ) (sound : IsSoundDag d)
    (kind : is_map (stage_at d a.stage).target ≡ true) (runs : runner_of d a ≡ Some loc.exec)
    (begun : (set : TaskSetData) → set_of d a ≡ Some set → set.born ≤ epoch)
    (marked : is_bogus d.tracker loc epoch ≡ true
    → is_marked (trust_of d.tracker loc.exec).mark epoch ≡ true) where
  -- its epoch is over where the output is bogus
  over : is_bogus d.tracker loc epoch ≡ true → epoch < d.tracker.epoch
  over bogus =
      by (trust_of d.tracker loc.exec).mark ((lookups_sound d.tracker sound.tracker).1 loc.exec)
      (marked bogus)
    where
      by : (m : Option ℕ) → IfSome m (λ mark. mark < d.tracker.epoch)
          → is_marked m epoch ≡ true → epoch < d.tracker.epoch
      by None lt e = absurd (true≢false (sym e))
      by (Some mark) lt e =
          let le : epoch ≤ mark = grind (arith, nat_tests, e) in omega (arith, le, lt)

  -- a bogus output
  bogus_apart : is_bogus d.tracker loc epoch ≡ true
      → wants_in (newest_at d a.stage) a.partition ≡ true → AreBornApart d
      → AreBornApart (succeeded_in_own d a now)
  bogus_apart bogus wants apart = by (is_of_newest d a) refl
    where
      own : a.stage_attempt ≡ newest_number d a.stage → (s p : ℕ) (set : TaskSetData)
          → OfTask a s p → newest_at d s ≡ Some set → set.born < d.tracker.epoch
      own number s p set (is, at) newest =
          let le = begun set (set_of_newest d a number
          ∙ ap (λ (n : ℕ). newest_at d n) (sym is) ∙ newest) in
          let lt = over bogus in omega (arith, le, lt)

      by : (b : Bool) → is_of_newest d a ≡ b → AreBornApart (succeeded_in_own d a now)
      by true e =
          let number : a.stage_attempt ≡ newest_number d a.stage = grind (arith, nat_tests, e) in
          stills_apart (OfTask a) d (succeeded_in_own d a now)
          (success_stills (OfTask a) d a now (refl, refl))
          (λ s p set map at newest lacks. own number s p set at newest) apart
      by false e =
          never_apart d (succeeded_in_own d a now)
          (record {
            tamed = tamed_with Never d a.stage _
                (λ state at. state_older (λ p. ⊥) state (place_of_attempt state a.stage_attempt)
                (with_set (λ set. after_success set a.partition (Some a.nth) now))
                (older_place d a loc.exec now sound runs wants state at e) (λ x. refl));
            tracker = refl;
          })
          apart

  -- one that is registered
  module _ (shuffle : ShuffleId) (target : (stage_at d a.stage).target ≡ targets.Map shuffle)
      (wants : wants_in (newest_at d a.stage) a.partition ≡ true) where
    abbrev block : BlockId
    block = block_of shuffle a.partition

    abbrev u : TrackerData
    u = registered d.tracker block loc

    here : is_registered u block ≡ true
    here =
        let has : a.partition < (stage_at d a.stage).tasks =
        within d a loc.exec now sound runs wants in
        let fits : (stage_at d a.stage).tasks ≤ length (outputs_of d.tracker shuffle) =
        sound.stages.room a.stage shuffle target in
        ap (λ o. is_some o.here) ((registers_one d.tracker block loc).0 (omega (arith, has, fits)))

    more : (b : BlockId) → is_registered d.tracker b ≡ true → is_registered u b ≡ true
    more b e = by (which_block b block)
      where
        by : (b ≡ block) ⊎ (b ≡ block → ⊥) → is_registered u b ≡ true
        by (inl is) = subst (λ x. is_registered u x ≡ true) (sym is) here
        by (inr ne) = ap (λ o. is_some o.here) ((registers_one d.tracker block loc).1 b ne) ∙ e

    still : (t : Target) (results after : List Bool) (p : ℕ) → is_map t ≡ true
        → is_done_by u t after p ≡ false → is_done_by d.tracker t results p ≡ false
    still (targets.Map other) results after p k e =
        by (is_registered d.tracker (block_of other p)) refl
      where
        by : (b : Bool) → is_registered d.tracker (block_of other p) ≡ b
            → is_registered d.tracker (block_of other p) ≡ false
        by false f = f
        by true f = absurd (clash (more (block_of other p) f) e)
    still (targets.Result node) results after p k e = absurd (true≢false (sym k))

    abbrev with_u : DagData
    with_u = with_tracker d u

    registers_apart : AreBornApart d → AreBornApart (succeeded_in_both with_u a now)
    registers_apart apart =
        apart_tamed E d after (tamed_then E d with_u after (tamed_tracker E d u) calm.tamed)
        (subst (λ (t : TrackerData). d.tracker.epoch ≤ t.epoch) (sym calm.tracker) (omega arith))
        (λ s p map lt lacks. still (stage_at d s).target (results_in (slice_get d.states s))
        (results_in (slice_get after.states s)) p map (done s p lacks))
        (λ s p set map at newest lacks. absurd (clash here (own s p at (done s p lacks))))
        apart
      where
        E : ℕ → ℕ → Type 0
        E = OfTask a

        after : DagData
        after = succeeded_in_both with_u a now

        calm : Stills (OfTask a) with_u (succeeded_in_both with_u a now)
        calm = both_still E with_u a now (refl, refl)

        done : (s p : ℕ) → is_done (succeeded_in_both with_u a now) s p ≡ false
            → is_done_by u (stage_at d s).target
            (results_in (slice_get (succeeded_in_both with_u a now).states s)) p ≡ false
        done s p e =
            subst (λ t. is_done_by t (stage_at d s).target
            (results_in (slice_get after.states s)) p ≡ false) calm.tracker
            (subst (λ (stages : List StageData).
            is_done_by after.tracker (at_or stages s no_stage).target
            (results_in (slice_get after.states s)) p ≡ false) calm.tamed.stages e)

        own : (s p : ℕ) → OfTask a s p
            → is_done_by u (stage_at d s).target
            (results_in (slice_get (succeeded_in_both with_u a now).states s)) p ≡ false
            → is_registered u block ≡ false
        own s p (is, at) e =
            let P : ℕ → ℕ → Type 0 = λ n q. is_done_by u (stage_at d n).target
            (results_in (slice_get after.states n)) q ≡ false in
            subst (λ t. is_done_by u t (results_in (slice_get after.states a.stage)) a.partition
            ≡ false) target (subst (P a.stage) at (subst (λ n. P n p) is e))

  pub map_apart : AreBornApart d → AreBornApart (after_map_success d a loc epoch now)
  map_apart apart = by (is_repeat d a) refl (is_bogus d.tracker loc epoch) refl
    where
      so : (target : Target) → (stage_at d a.stage).target ≡ target
          → wants_in (newest_at d a.stage) a.partition ≡ true
          → AreBornApart (succeeded_in_both
          (with_tracker d (registered_by d.tracker (block_by target a.partition) loc)) a now)
      so (targets.Map shuffle) is w = registers_apart shuffle is w apart
      so (targets.Result node) is w = absurd (clash kind (ap is_map is))

      by : (x : Bool) → is_repeat d a ≡ x → (y : Bool) → is_bogus d.tracker loc epoch ≡ y
          → AreBornApart (if x then ended_in_own d a
          else if y then succeeded_in_own d a now
          else succeeded_in_both (with_output d a loc) a now)
      by true e y f = never_apart d (ended_in_own d a) (ended_stills Never d a) apart
      by false e true f = bogus_apart f (not_false _ e) apart
      by false e false f = so (stage_at d a.stage).target refl (not_false _ e)
