-- The task sets that calls begin are born no earlier than they are made.
use Rattle.std.proofs.Common.{◌≡◌, inl, inr, ℕ, ◌≤◌, ◌==◌, Bool, true, false, if◌then◌else◌, List, [], ◌∷◌, ◌++◌, All, Option, Some, None, option_map, slice_get, refl, ap, sym, subst, ◌∙◌, append-nil, append_assoc, arith}
use Rattle.std.proofs.lemmas.Bool.Decides.{nat_tests}
use Rattle.std.proofs.lemmas.List.Elements.{All-append, All-cons, All-nil, All-weaker}
use Rattle.std.proofs.lemmas.Option.{slice_get-map}
use Rattle.sc_ids.specs.Changes.{change_at}
use Rattle.sc_ids.specs.declared.attempts.AttemptId.{AttemptId}
use Rattle.sc_ids.specs.declared.blocks.BlockId.{BlockId}
use Rattle.sc_ids.specs.declared.blocks.Loc.{Loc}
use Rattle.sc_ids.specs.declared.failures.FailureCause.{FailureCause}
use Rattle.sc_ids.proofs.ChangeLemmas.{slice_get_change_other, slice_get_change_same}
use Rattle.sc_taskset.specs.Offers.{handed}
use Rattle.sc_taskset.specs.Reports.{after_end, after_failure, after_held, after_loss, after_success}
use Rattle.sc_taskset.specs.TaskSetData.{TaskSetData}
use Rattle.sc_taskset.specs.declared.tasks.Verdict.{Verdict}
use Rattle.sc_taskset.specs.declared.tasks.Verdict.TheVariants as verdicts
use Rattle.sc_tracker.specs.TrackerData.{TrackerData}
use Rattle.sc_tracker.specs.Tracking.{is_bogus}
use Rattle.sc_tracker.specs.Trust.{is_live, is_newer}
use Rattle.sc_dag.specs.Births.{births_of}
use Rattle.sc_dag.specs.DagData.{DagData, StageState, changed_newest, changed_set, place_of_attempt, stage_at, with_set, with_state, with_tracker}
use Rattle.sc_dag.specs.Losses.{after_lost, after_seen, without_executor}
use Rattle.sc_dag.specs.Offers.{handed_out}
use Rattle.sc_dag.specs.Outputs.{has_inputs, is_complete}
use Rattle.sc_dag.specs.Reports.{CompletesMap, FailsStage, after_failed, after_hold, after_map_success, after_result_success, block_by, completed, completed_if, ended_in_own, failed_attempt, forgiven, in_own_set, is_of_newest, is_repeat, registered_by, succeeded_in_both, succeeded_in_own, told_held, with_failed, with_output, with_result}
use Rattle.sc_dag.specs.Submission.{IsSubmitted, as_waiting, moved_if, started, this_stage, waiting_stages}
use Rattle.sc_core.specs.Sides.{MayHold}
use Rattle.sc_dag.proofs.Births.{KeepsBirths, births_changed, births_mapped, births_newest, births_own}
use Rattle.sc_dag.proofs.Items.{by_number_at}
use Rattle.sc_dag.proofs.SoundSubmissions.{births_started}

-- a stage has all its attempts still, and those that came began no earlier than this epoch
pub record MoreBirths (epoch : ℕ) (state after : StageState) : Type 0 where
  pub before : after.before ≡ state.before
  pub more : List ℕ
  pub births : births_of after.attempts ≡ births_of state.attempts ++ more
  pub late : All (λ b. epoch ≤ b) more

abbrev pub MoreIn : ℕ → Option StageState → Option StageState → Type 0
MoreIn epoch None None = Unit {0}
MoreIn epoch None (Some after) = ⊥
MoreIn epoch (Some state) None = ⊥
MoreIn epoch (Some state) (Some after) = MoreBirths epoch state after

-- the stages later on
pub record Later (d after : DagData) : Type 0 where
  pub epoch : d.tracker.epoch ≤ after.tracker.epoch
  pub births : (s : ℕ) → MoreIn d.tracker.epoch (slice_get d.states s) (slice_get after.states s)

none_more : (epoch : ℕ) (state after : StageState) → after.before ≡ state.before
    → births_of after.attempts ≡ births_of state.attempts → MoreBirths epoch state after
none_more epoch state after before births =
    record {
      before = before;
      more = [];
      births = births ∙ sym (append-nil (births_of state.attempts));
      late = All-nil (λ b. epoch ≤ b);
    }

in_same : (epoch : ℕ) (o : Option StageState) → MoreIn epoch o o
in_same epoch None = tt
in_same epoch (Some state) = none_more epoch state state refl refl

in_then : (e f : ℕ) (x y z : Option StageState) → e ≤ f → MoreIn e x y → MoreIn f y z
    → MoreIn e x z
in_then e f None None z le h k = by z k
  where
    by : (z : Option StageState) → MoreIn f None z → MoreIn e None z
    by None k = tt
    by (Some c) k = k
in_then e f None (Some b) z le h k = absurd h
in_then e f (Some a) None z le h k = absurd h
in_then e f (Some a) (Some b) None le h k = absurd k
in_then e f (Some a) (Some b) (Some c) le h k =
    record {
      before = k.before ∙ h.before;
      more = h.more ++ k.more;
      births = k.births ∙ ap (λ bs. bs ++ k.more) h.births
          ∙ append_assoc (births_of a.attempts) h.more k.more;
      late = All-append (λ n. e ≤ n) h.more k.more h.late
          (All-weaker (λ n. f ≤ n) (λ n. e ≤ n) (λ n l. omega (arith, le, l)) k.more k.late);
    }

pub later_same : (d : DagData) → Later d d
later_same d =
    record { epoch = omega arith; births = λ s. in_same d.tracker.epoch (slice_get d.states s) }

pub later_then : (c d e : DagData) → Later c d → Later d e → Later c e
later_then c d e h k =
    record {
      epoch = (let x = h.epoch in let y = k.epoch in omega (arith, x, y));
      births = λ s. in_then c.tracker.epoch d.tracker.epoch (slice_get c.states s)
          (slice_get d.states s) (slice_get e.states s) h.epoch (h.births s) (k.births s);
    }

pub later_is : (d after : DagData) → after ≡ d → Later d after
later_is d after is = subst (λ x. Later d x) (sym is) (later_same d)

-- another tracker
pub later_tracker : (d : DagData) (t : TrackerData) → d.tracker.epoch ≤ t.epoch
    → Later d (with_tracker d t)
later_tracker d t le =
    record { epoch = le; births = λ s. in_same d.tracker.epoch (slice_get d.states s) }

-- one stage changed, but for when its attempts began
later_state : (d : DagData) (s : ℕ) (f : StageState → StageState)
    → ((state : StageState) → (f state).before ≡ state.before) → KeepsBirths f
    → Later d (with_state d s f)
later_state d s f before keeps =
    record { epoch = omega arith; births = λ r. by r (s == r) refl }
  where
    E : ℕ
    E = d.tracker.epoch

    here : (o : Option StageState) → MoreIn E o (option_map f o)
    here None = tt
    here (Some state) = none_more E state (f state) (before state) (keeps state)

    by : (r : ℕ) (x : Bool) → (s == r) ≡ x
        → MoreIn E (slice_get d.states r) (slice_get (change_at d.states s f) r)
    by r true e =
        let is : s ≡ r = grind (arith, nat_tests, e) in
        subst (λ (r : ℕ). MoreIn E (slice_get d.states r) (slice_get (change_at d.states s f) r)) is
        (rw (slice_get_change_same d.states s f) (here (slice_get d.states s)))
    by r false e =
        rw (slice_get_change_other d.states s r f (λ is. grind (arith, nat_tests, e, is)))
        (in_same E (slice_get d.states r))

-- ---- task sets

own_later : (d : DagData) (a : AttemptId) (g : TaskSetData → TaskSetData)
    → ((set : TaskSetData) → (g set).born ≡ set.born) → Later d (in_own_set d a g)
own_later d a g keeps =
    later_state d a.stage (changed_set a.stage_attempt g) (λ state. refl)
    (births_own a.stage_attempt g keeps)

newest_later : (d : DagData) (s : ℕ) (g : TaskSetData → TaskSetData)
    → ((set : TaskSetData) → (g set).born ≡ set.born)
    → Later d (with_state d s (changed_newest g))
newest_later d s g keeps =
    later_state d s (changed_newest g) (λ state. refl) (births_newest g keeps)

pub handed_later : (d : DagData) (a : AttemptId) (exec now : ℕ)
    → Later d (handed_out d a exec now)
handed_later d a exec now =
    newest_later d a.stage (λ set. handed set a.partition exec now) (λ set. refl)

pub failed_later : (d : DagData) (a : AttemptId) (cause : FailureCause)
    → Later d (after_failed d a cause)
failed_later d a cause =
    own_later d a (λ set. after_failure set a.partition a.nth cause) (λ set. refl)

pub hold_later : (d : DagData) (s p : ℕ) (denied : Bool) → Later d (after_hold d s p denied)
hold_later d s p denied =
    later_state d s (told_held p denied) (λ state. refl)
    (λ state. births_newest (λ set. after_held set p denied) (λ set. refl) state)

-- where a partition may be held back
pub may_hold_later : (d after : DagData) → MayHold d after → Later d after
may_hold_later d after (inl is) = later_is d after is
may_hold_later d after (inr (s, p, denied, is)) =
    subst (λ x. Later d x) (sym is) (hold_later d s p denied)

ended_later : (d : DagData) (a : AttemptId) → Later d (ended_in_own d a)
ended_later d a = own_later d a (λ set. after_end set a.partition a.nth) (λ set. refl)

success_later : (d : DagData) (a : AttemptId) (now : ℕ) → Later d (succeeded_in_own d a now)
success_later d a now =
    own_later d a (λ set. after_success set a.partition (Some a.nth) now) (λ set. refl)

both_later : (d : DagData) (a : AttemptId) (now : ℕ) → Later d (succeeded_in_both d a now)
both_later d a now = by (is_of_newest d a)
  where
    by : (b : Bool) → Later d
        (if b then succeeded_in_own d a now
        else with_state (succeeded_in_own d a now) a.stage
        (changed_newest (λ set. after_success set a.partition None now)))
    by true = success_later d a now
    by false =
        later_then d (succeeded_in_own d a now) _ (success_later d a now)
        (newest_later (succeeded_in_own d a now) a.stage
        (λ set. after_success set a.partition None now) (λ set. refl))

-- ---- successes

output_later : (d : DagData) (a : AttemptId) (loc : Loc) → Later d (with_output d a loc)
output_later d a loc = by (block_by (stage_at d a.stage).target a.partition)
  where
    by : (o : Option BlockId) → Later d (with_tracker d (registered_by d.tracker o loc))
    by None = later_tracker d d.tracker (omega arith)
    by (Some block) = later_tracker d (registered_by d.tracker (Some block) loc) (omega arith)

pub map_later : (d : DagData) (a : AttemptId) (loc : Loc) (epoch now : ℕ)
    → Later d (after_map_success d a loc epoch now)
map_later d a loc epoch now = by (is_repeat d a) (is_bogus d.tracker loc epoch)
  where
    by : (x y : Bool) → Later d (if x then ended_in_own d a
        else if y then succeeded_in_own d a now
        else succeeded_in_both (with_output d a loc) a now)
    by true y = ended_later d a
    by false true = success_later d a now
    by false false =
        later_then d (with_output d a loc) (succeeded_in_both (with_output d a loc) a now)
        (output_later d a loc) (both_later (with_output d a loc) a now)

completed_later : (d : DagData) (s : ℕ) → Later d (with_state d s completed)
completed_later d s =
    later_state d s completed (λ state. refl)
    (λ state. births_mapped state.attempts forgiven (λ x. refl))

pub result_later : (d : DagData) (a : AttemptId) (now : ℕ)
    → Later d (after_result_success d a now)
result_later d a now = by (is_repeat d a)
  where
    mid : DagData
    mid = with_state (succeeded_in_both d a now) a.stage (with_result a.partition)

    won : Later d mid
    won =
        later_then d (succeeded_in_both d a now) mid (both_later d a now)
        (later_state (succeeded_in_both d a now) a.stage (with_result a.partition) (λ state. refl)
        (λ state. refl))

    done : (b : Bool) → Later d (if b then with_state mid a.stage completed else mid)
    done true =
        later_then d mid (with_state mid a.stage completed) won (completed_later mid a.stage)
    done false = won

    by : (x : Bool) → Later d (if x then ended_in_own d a else completed_if mid a.stage)
    by true = ended_later d a
    by false = done (is_complete mid a.stage)

-- ---- submissions

pub submitted_later : (d after : DagData) (submitted : ℕ → Bool)
    → IsSubmitted d submitted after → Later d after
submitted_later d after submitted (looked, are, is) =
    subst (λ x. Later d x) (sym is)
    (record {
      epoch = omega arith;
      births = λ s. rw (by_number_at (moved_if d looked) d.states s) (by s (slice_get d.states s));
    })
  where
    E : ℕ
    E = d.tracker.epoch

    moved : (s : ℕ) (state : StageState) (a b : Bool)
        → MoreBirths E state
        (if a then (if b then started d.tracker d.limits (stage_at d s) state
        else as_waiting state) else state)
    moved s state true true =
        record {
          before = refl;
          more = d.tracker.epoch ∷ [];
          births = births_started d.tracker d.limits (stage_at d s) state;
          late = All-cons (λ b. d.tracker.epoch ≤ b) d.tracker.epoch [] (omega arith)
              (All-nil (λ b. d.tracker.epoch ≤ b));
        }
    moved s state true false = none_more E state (as_waiting state) refl refl
    moved s state false b = none_more E state state refl refl

    by : (s : ℕ) (o : Option StageState) → MoreIn E o (option_map (moved_if d looked s) o)
    by s None = tt
    by s (Some state) = moved s state (looked s) (has_inputs d s)

pub completes_later : (d after : DagData) (s : ℕ) → CompletesMap d s after → Later d after
completes_later d after s is =
    later_then d (with_state d s completed) after (completed_later d s)
    (submitted_later (with_state d s completed) after
    (waiting_stages (with_state d s completed)) is)

pub fails_later : (d after : DagData) (s number : ℕ) (verdict : Verdict)
    → FailsStage d s number verdict after → Later d after
fails_later d after s number verdict is = by verdict is
  where
    failed : Later d (with_state d s (with_failed number))
    failed =
        later_state d s (with_failed number) (λ state. refl)
        (λ state. births_changed state.attempts (place_of_attempt state number) failed_attempt
        (λ x. refl))

    by : (verdict : Verdict) → FailsStage d s number verdict after → Later d after
    by verdicts.Limit (often, same) = subst (λ x. Later d x) (sym same) failed
    by verdicts.Again (often, same) =
        later_then d (with_state d s (with_failed number)) after failed
        (submitted_later (with_state d s (with_failed number)) after (this_stage s) same)

-- ---- events

pub seen_later : (d : DagData) (exec found : ℕ) → Later d (after_seen d exec found)
seen_later d exec found = by (is_newer (slice_get d.tracker.trust exec) found) refl
  where
    by : (b : Bool) → is_newer (slice_get d.tracker.trust exec) found ≡ b
        → Later d (after_seen d exec found)
    by true e = later_tracker d (after_seen d exec found).tracker (rw e (omega arith))
    by false e = later_tracker d (after_seen d exec found).tracker (rw e (omega arith))

pub lost_later : (d : DagData) (exec : ℕ) → Later d (after_lost d exec)
lost_later d exec =
    record {
      epoch = rises (is_live (slice_get d.tracker.trust exec)) refl;
      births = λ s. rw (slice_get-map (without_executor exec) d.states s)
          (by (slice_get d.states s));
    }
  where
    rises : (b : Bool) → is_live (slice_get d.tracker.trust exec) ≡ b
        → d.tracker.epoch ≤ (after_lost d exec).tracker.epoch
    rises true e = rw e (omega arith)
    rises false e = rw e (omega arith)

    by : (o : Option StageState)
        → MoreIn d.tracker.epoch o (option_map (without_executor exec) o)
    by None = tt
    by (Some state) =
        none_more d.tracker.epoch state (without_executor exec state) refl
        (births_mapped state.attempts (with_set (λ set. after_loss set exec)) (λ a. refl))
