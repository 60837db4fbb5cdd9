-- Successes of map tasks keep what holds of every job.
use Rattle.std.proofs.Common.{◌≡◌, ℕ, ◌<◌, ◌≤◌, Bool, true, false, if◌then◌else◌, length, Option, Some, None, IfSome, is_some, slice_get, refl, ap, sym, subst, ◌∙◌, arith, rules, true≢false}
use Rattle.sc_ids.specs.Graphs.{StageData}
use Rattle.sc_ids.specs.declared.attempts.AttemptId.{AttemptId}
use Rattle.sc_ids.specs.declared.blocks.BlockId.{BlockId}
use Rattle.sc_ids.specs.declared.blocks.Loc.{Loc}
use Rattle.sc_ids.specs.declared.blocks.ShuffleId.{ShuffleId}
use Rattle.sc_ids.specs.declared.blocks.Target.{Target}
use Rattle.sc_ids.specs.declared.blocks.Target.TheVariants as targets
use Rattle.sc_taskset.specs.Reports.{after_success}
use Rattle.sc_tracker.specs.TrackerData.{TrackerData, output_of, outputs_of}
use Rattle.sc_tracker.specs.TrackerFacts.{IsSoundTracker}
use Rattle.sc_tracker.specs.TrackerLaws.{HasRoomFor}
use Rattle.sc_tracker.specs.Tracking.{is_bogus, registered}
use Rattle.sc_tracker.proofs.BlockLemmas.{registers_one}
use Rattle.sc_tracker.proofs.TrackerLemmas.{registered_sound}
use Rattle.sc_dag.specs.DagData.{DagData, StageState, changed_newest, changed_set, dag_data, newest_at, stage_at, with_state}
use Rattle.sc_dag.specs.Outputs.{block_of, is_done_by}
use Rattle.sc_dag.specs.Reports.{after_map_success, block_by, ended_in_own, is_of_newest, is_repeat, registered_by, succeeded_in_both, succeeded_in_own, wants_in, with_output}
use Rattle.sc_dag.specs.Sound.{IsSoundDag, runner_of}
use Rattle.sc_dag.specs.Submission.{is_map}
use Rattle.sc_dag.proofs.Births.{Ages, KeepsBirths, births_newest, births_own, registered_ages}
use Rattle.sc_dag.proofs.Items.{change_twice}
use Rattle.sc_dag.proofs.Keeping.{ended_sound}
use Rattle.sc_dag.proofs.Runners.{newest_place, older_place, runs_in, wanted_in, within}
use Rattle.sc_dag.proofs.SoundStages.{IsSoundAt, IsSoundState, sound_changed, sound_with}
use Rattle.sc_dag.proofs.Successes.{SucceedsTo, success_in_both, success_in_newest, success_in_older}
use Rattle.sc_dag.proofs.Tests.{clash, not_false}
use Rattle.sc_dag.proofs.Trackers.{done_alike, other_outputs, registered_room, sound_alike, which_block}
use Rattle.sc_dag.proofs.Charging.{charged_both, charged_success}

-- an attempt that runs, of a partition that its stage's newest set wants
module _ (d : DagData) (a : AttemptId) (exec now : ℕ) (sound : IsSoundDag d)
    (runs : runner_of d a ≡ Some exec)
    (wants : wants_in (newest_at d a.stage) a.partition ≡ true) where
  abbrev stage : StageData
  stage = stage_at d a.stage

  -- a success that may be lost already
  bogus_sound : is_map stage.target ≡ true → IsSoundDag (succeeded_in_own d a now)
  bogus_sound kind =
      sound_with d a.stage _
      (births_own a.stage_attempt (λ set. after_success set a.partition (Some a.nth) now)
      (λ set. refl))
      (λ state are at. charged_success d.tracker.epoch a now state are) sound
      (λ state at is. by state at is (is_of_newest d a) refl)
    where
      to : (state : StageState) → slice_get d.states a.stage ≡ Some state
          → IsSoundState d.tracker stage state
          → SucceedsTo d.tracker d.tracker stage state.results state.results a.partition exec
      to state at is =
          record {
            others = λ p ne. refl;
            outputs = λ p shuffle ne target. refl;
            made = λ shuffle target. missing shuffle target
                (is.newest.wanted a.partition (wanted_in d a exec now sound runs wants state at));
            done = λ result lt. absurd (clash kind result);
          }
        where
          lacks : (shuffle : ShuffleId) (target : Target) → target ≡ targets.Map shuffle
              → is_done_by d.tracker target state.results a.partition ≡ false
              → is_some (output_of d.tracker (block_of shuffle a.partition)).here ≡ false
          lacks shuffle target e h =
              subst (λ x. is_done_by d.tracker x state.results a.partition ≡ false) e h

          none : (o : Option Loc) → is_some o ≡ false → IfSome o (λ loc. loc.exec ≡ exec)
          none None h = tt
          none (Some loc) h = absurd (true≢false h)

          missing : (shuffle : ShuffleId) → stage.target ≡ targets.Map shuffle
              → is_done_by d.tracker stage.target state.results a.partition ≡ false
              → IfSome (output_of d.tracker (block_of shuffle a.partition)).here
              (λ loc. loc.exec ≡ exec)
          missing shuffle e h =
              none (output_of d.tracker (block_of shuffle a.partition)).here
              (lacks shuffle stage.target e h)

      by : (state : StageState) → slice_get d.states a.stage ≡ Some state
          → IsSoundState d.tracker stage state → (b : Bool) → is_of_newest d a ≡ b
          → IsSoundState d.tracker stage
          (changed_set a.stage_attempt
          (λ set. after_success set a.partition (Some a.nth) now) state)
      by state at is true e =
          success_in_newest d.tracker d.tracker stage state state.results a exec now is
          (runs_in d a exec state at runs) (wanted_in d a exec now sound runs wants state at)
          (newest_place d a exec now sound runs wants state at e)
          is.results (to state at is)
      by state at is false e =
          success_in_older d.tracker stage state a now is
          (older_place d a exec now sound runs wants state at e)

  -- the output registered
  registered_so : (loc : Loc) (shuffle : ShuffleId) (epoch : ℕ)
      → stage.target ≡ targets.Map shuffle → loc.exec ≡ exec
      → is_bogus d.tracker loc epoch ≡ false
      → IsSoundDag (succeeded_in_both
      (dag_data d.stages d.states (registered d.tracker (block_of shuffle a.partition) loc)
      d.limits) a now)
  registered_so loc shuffle epoch target on fresh = by (is_of_newest d a) refl
    where
      block : BlockId
      block = block_of shuffle a.partition

      u : TrackerData
      u = registered d.tracker block loc

      with_u : DagData
      with_u = dag_data d.stages d.states u d.limits

      room : (other : ShuffleId)
          → length (outputs_of d.tracker other) ≤ length (outputs_of u other)
      room other =
          let same = registered_room d.tracker block loc other in omega (arith, same)

      others : (k : ℕ) → (k ≡ a.stage → ⊥)
          → IsSoundAt d.tracker (stage_at d k) (slice_get d.states k)
          → IsSoundAt u (stage_at d k) (slice_get d.states k)
      others k ne is =
          sound_alike d.tracker u (stage_at d k) (slice_get d.states k)
          (other_outputs d k a.stage a.partition shuffle loc sound.stages target ne) is

      -- what is registered is where the attempt runs
      placed_here : IfSome (output_of u block).here (λ x. x.exec ≡ exec)
      placed_here =
          let has : a.partition < stage.tasks = within d a exec now sound runs wants in
          let fits : stage.tasks ≤ length (outputs_of d.tracker shuffle) =
          sound.stages.room a.stage shuffle target in
          rw ((registers_one d.tracker block loc).0 (omega (arith, has, fits))) on

      to : (state : StageState) → SucceedsTo d.tracker u stage state.results state.results
          a.partition exec
      to state =
          record {
            others = λ p ne. done_alike d.tracker u stage.target state.results p
                (λ other is_other. same p other ne);
            outputs = λ p other ne is_other. same p other ne;
            made = λ other is_other. made other (search (rules, sym target ∙ is_other));
            done = λ result lt. absurd (clash (ap is_map target) result);
          }
        where
          same : (p : ℕ) (other : ShuffleId) → (a.partition ≡ p → ⊥)
              → output_of u (block_of other p) ≡ output_of d.tracker (block_of other p)
          same p other ne =
              (registers_one d.tracker block loc).1 (block_of other p)
              (λ e. ne (sym (ap (λ (b : BlockId). b.map) e)))

          made : (other : ShuffleId) → shuffle ≡ other
              → IfSome (output_of u (block_of other a.partition)).here (λ x. x.exec ≡ exec)
          made other is =
              subst (λ z. IfSome (output_of u (block_of z a.partition)).here (λ x. x.exec ≡ exec))
              is placed_here

      own_set : StageState → StageState
      own_set = changed_set a.stage_attempt
          (λ set. after_success set a.partition (Some a.nth) now)

      newest_too : StageState → StageState
      newest_too = changed_newest (λ set. after_success set a.partition None now)

      own_births : KeepsBirths own_set
      own_births =
          births_own a.stage_attempt (λ set. after_success set a.partition (Some a.nth) now)
          (λ set. refl)

      has_room : HasRoomFor d.tracker block
      has_room =
          let has : a.partition < stage.tasks = within d a exec now sound runs wants in
          let fits : stage.tasks ≤ length (outputs_of d.tracker shuffle) =
          sound.stages.room a.stage shuffle target in
          omega (arith, has, fits)

      ages : Ages d.tracker u
      ages = registered_ages d.tracker block loc has_room (λ other. which_block other block)

      tracker : IsSoundTracker u
      tracker = registered_sound d.tracker block loc epoch sound.tracker fresh

      by : (b : Bool) → is_of_newest d a ≡ b
          → IsSoundDag (if b then succeeded_in_own with_u a now
          else with_state (succeeded_in_own with_u a now) a.stage newest_too)
      by true e =
          sound_changed d u a.stage own_set own_births
          (λ state are at. charged_success d.tracker.epoch a now state are)
          ages sound tracker room others
          (λ state at is. success_in_newest d.tracker u stage state state.results a exec now is
          (runs_in d a exec state at runs) (wanted_in d a exec now sound runs wants state at)
          (newest_place d a exec now sound runs wants state at e)
          is.results (to state))
      by false e =
          subst (λ states. IsSoundDag (dag_data d.stages states u d.limits))
          (sym (change_twice d.states a.stage own_set newest_too))
          (sound_changed d u a.stage (λ state. newest_too (own_set state))
          (λ state. births_newest (λ set. after_success set a.partition None now) (λ set. refl)
          (own_set state) ∙ own_births state)
          (λ state are at. charged_both d.tracker.epoch a now state are)
          ages sound tracker room others
          (λ state at is. success_in_both d.tracker u stage state state.results a exec now is
          (wanted_in d a exec now sound runs wants state at)
          (older_place d a exec now sound runs wants state at e) is.results (to state)))

-- a success of a map task
pub map_success_sound :
    (d : DagData) (a : AttemptId) (loc : Loc) (epoch now : ℕ) → IsSoundDag d
    → is_map (stage_at d a.stage).target ≡ true → runner_of d a ≡ Some loc.exec
    → IsSoundDag (after_map_success d a loc epoch now)
map_success_sound d a loc epoch now sound kind runs =
    by (is_repeat d a) refl (is_bogus d.tracker loc epoch) refl
  where
    so : (target : Target) → (stage_at d a.stage).target ≡ target → is_map target ≡ true
        → wants_in (newest_at d a.stage) a.partition ≡ true
        → is_bogus d.tracker loc epoch ≡ false
        → IsSoundDag (succeeded_in_both (dag_data d.stages d.states
        (registered_by d.tracker (block_by target a.partition) loc) d.limits) a now)
    so (targets.Map shuffle) is k w fresh =
        registered_so d a loc.exec now sound runs w loc shuffle epoch is refl fresh
    so (targets.Result node) is k w fresh = absurd (true≢false (sym k))

    by : (b : Bool) → is_repeat d a ≡ b → (c : Bool) → is_bogus d.tracker loc epoch ≡ c
        → IsSoundDag (if b then ended_in_own d a
        else if c then succeeded_in_own d a now
        else succeeded_in_both (with_output d a loc) a now)
    by true e c f = ended_sound d a sound
    by false e true f =
        bogus_sound d a loc.exec now sound runs (not_false _ e) kind
    by false e false f = so (stage_at d a.stage).target refl kind (not_false _ e) f
