-- The loss of outputs and executors keeps what holds of every job.
use Rattle.std.proofs.Common.{◌≡◌, ◌⊎◌, inl, inr, ℕ, ◌-◌, ◌≤◌, Bool, true, false, if◌then◌else◌, List, length, map, Option, Some, None, IfSome, is_some, option_map, slice_get, refl, ap, sym, subst, ◌∙◌, arith, rules, true≢false, ◌<◌, All, []}
use Rattle.std.proofs.lemmas.Bool.Decides.{nat_tests}
use Rattle.std.proofs.lemmas.List.{length-map}
use Rattle.std.proofs.lemmas.Option.{slice_get-map, slice_get_within}
use Rattle.sc_ids.specs.Graphs.{StageData}
use Rattle.sc_ids.proofs.ChangeLemmas.{at_or_change_same}
use Rattle.sc_ids.specs.declared.blocks.BlockId.{BlockId}
use Rattle.sc_ids.specs.declared.blocks.Loc.{Loc}
use Rattle.sc_ids.specs.declared.blocks.ShuffleId.{ShuffleId}
use Rattle.sc_ids.specs.declared.blocks.Target.{Target}
use Rattle.sc_ids.specs.declared.blocks.Target.TheVariants as targets
use Rattle.sc_taskset.specs.Reports.{after_loss}
use Rattle.sc_taskset.specs.TaskSetData.{TaskSetData}
use Rattle.sc_taskset.specs.declared.tasks.Finish.TheVariants.{OnExecutor}
use Rattle.sc_tracker.specs.Outputs.{forgotten, forgotten_on, is_on}
use Rattle.sc_tracker.specs.TrackerData.{TrackerData, output_of, outputs_of, trust_of}
use Rattle.sc_tracker.specs.TrackerFacts.{IsSoundTracker}
use Rattle.sc_tracker.specs.Tracking.{after_executor_lost, after_gone}
use Rattle.sc_tracker.specs.Trust.{is_live as is_live_executor, is_newer, lost_at, seen_at, untold}
use Rattle.sc_tracker.specs.declared.outputs.Output.{Output}
use Rattle.sc_tracker.specs.declared.trust.Trust.{Trust}
use Rattle.sc_tracker.proofs.BlockLemmas.{forgets_on_one, under_mapped}
use Rattle.sc_tracker.proofs.TrackerLemmas.{gone_sound, lost_sound}
use Rattle.sc_tracker.proofs.TrustLemmas.{calls_go_forward}
use Rattle.sc_dag.specs.DagData.{DagData, StageState, set_in, stage_at, with_set, with_tracker}
use Rattle.sc_dag.specs.Losses.{after_lost, after_seen, without_executor}
use Rattle.sc_dag.specs.Outputs.{block_of, is_done_by}
use Rattle.sc_dag.specs.Reports.{wants_in}
use Rattle.sc_dag.specs.Births.{births_of, AreCharged}
use Rattle.sc_dag.specs.Sound.{AreHeldBy, IsAttemptOf, IsSoundDag, attempts_in, attempts_of, finish_in}
use Rattle.sc_dag.specs.Submission.{is_map}
use Rattle.sc_dag.specs.declared.attempts.StageAttempt.{StageAttempt}
use Rattle.sc_dag.proofs.Births.{Ages, births_in, births_kept, births_mapped, births_state, event_ages}
use Rattle.sc_dag.proofs.Finishes.{loss_finish, loss_wanted, loss_wants}
use Rattle.sc_dag.proofs.Holding.{holds_loss}
use Rattle.sc_dag.proofs.Items.{all_at}
use Rattle.sc_dag.proofs.Keeping.{newest_mapped}
use Rattle.sc_dag.proofs.Sets.{keeps_loss}
use Rattle.sc_dag.proofs.SoundAttempts.{attempts_mapped, keeps_with}
use Rattle.sc_dag.proofs.SoundStages.{IsNewest, IsSoundAt, IsSoundState, no_newest, sound_at, sound_from, sound_mapped, stages_moved}
use Rattle.sc_dag.proofs.Charges.{charged_event, charged_lost, charged_none}

-- a tracker that has forgotten what was on an executor
pub record Forgets (t u : TrackerData) (exec : ℕ) : Type 0 where
  pub sound : IsSoundTracker t → IsSoundTracker u
  pub outputs : (block : BlockId) → output_of u block ≡ forgotten_on exec (output_of t block)
  pub room : (shuffle : ShuffleId)
      → length (outputs_of t shuffle) ≤ length (outputs_of u shuffle)

pub gone_forgets :
    (t : TrackerData) (exec found : ℕ) → is_newer (slice_get t.trust exec) found ≡ true
    → Forgets t (after_gone t exec found) exec
gone_forgets t exec found e =
    record {
      sound = λ s. rw e (gone_sound t exec found e s);
      outputs = λ block. (forgets_on_one t exec block).0 found e;
      room = λ shuffle. rw (
        e,
        under_mapped t.shuffles shuffle (forgotten_on exec),
        length-map (outputs_of t shuffle) (forgotten_on exec),
      ) (omega arith);
    }

pub lost_forgets :
    (t : TrackerData) (exec : ℕ) → is_live_executor (slice_get t.trust exec) ≡ true
    → Forgets t (after_executor_lost t exec) exec
lost_forgets t exec e =
    record {
      sound = λ s. rw e (lost_sound t exec e s);
      outputs = λ block. (forgets_on_one t exec block).1 e;
      room = λ shuffle. rw (
        e,
        under_mapped t.shuffles shuffle (forgotten_on exec),
        length-map (outputs_of t shuffle) (forgotten_on exec),
      ) (omega arith);
    }

-- an event loses nothing that it doesn't mark
gone_ages :
    (t : TrackerData) (exec found : ℕ) → IsSoundTracker t
    → is_newer (slice_get t.trust exec) found ≡ true → Ages t (after_gone t exec found)
gone_ages t exec found sound e =
    event_ages t (after_gone t exec found) exec sound
    ((calls_go_forward t sound).2 exec found).epoch (gone_forgets t exec found e).outputs
    (by (slice_get t.trust exec) refl e) ((calls_go_forward t sound).2 exec found).trust
  where
    by : (o : Option Trust) → slice_get t.trust exec ≡ o → is_newer o found ≡ true
        → (trust_of (after_gone t exec found) exec).mark ≡ Some t.epoch
    by None is new = absurd (search (rules, new))
    by (Some x) is new =
        rw (
          e,
          at_or_change_same t.trust exec untold (seen_at found t.epoch)
              (slice_get_within t.trust exec x is),
        ) refl

lost_ages :
    (t : TrackerData) (exec : ℕ) → IsSoundTracker t
    → is_live_executor (slice_get t.trust exec) ≡ true → Ages t (after_executor_lost t exec)
lost_ages t exec sound e =
    event_ages t (after_executor_lost t exec) exec sound
    ((calls_go_forward t sound).3 exec).epoch (lost_forgets t exec e).outputs
    (by (slice_get t.trust exec) refl e) ((calls_go_forward t sound).3 exec).trust
  where
    by : (o : Option Trust) → slice_get t.trust exec ≡ o → is_live_executor o ≡ true
        → (trust_of (after_executor_lost t exec) exec).mark ≡ Some t.epoch
    by None is live = absurd (search (rules, live))
    by (Some x) is live =
        rw (
          e,
          at_or_change_same t.trust exec untold (lost_at t.epoch)
              (slice_get_within t.trust exec x is),
        ) refl

-- each event is one more
gone_later :
    (t : TrackerData) (exec found : ℕ) → is_newer (slice_get t.trust exec) found ≡ true
    → t.epoch < (after_gone t exec found).epoch
gone_later t exec found e = rw e (omega arith)

lost_later :
    (t : TrackerData) (exec : ℕ) → is_live_executor (slice_get t.trust exec) ≡ true
    → t.epoch < (after_executor_lost t exec).epoch
lost_later t exec e = rw e (omega arith)

-- ---- an output that may be forgotten

-- what holds of where it is
here_forgotten :
    (P : Loc → Type 0) (exec : ℕ) (o : Output) → IfSome o.here P
    → IfSome (forgotten_on exec o).here P
here_forgotten P exec o h = by (is_on exec o.here)
  where
    by : (b : Bool) → IfSome (if b then forgotten o else o).here P
    by true = tt
    by false = h

-- what isn't registered
none_forgotten :
    (exec : ℕ) (o : Output) → is_some o.here ≡ false → is_some (forgotten_on exec o).here ≡ false
none_forgotten exec o h = by (is_on exec o.here)
  where
    by : (b : Bool) → is_some (if b then forgotten o else o).here ≡ false
    by true = refl
    by false = h

-- what is on the executor isn't registered any more
on_forgotten :
    (exec : ℕ) (o : Output) → IfSome o.here (λ loc. loc.exec ≡ exec)
    → is_some (forgotten_on exec o).here ≡ false
on_forgotten exec o h = by (is_on exec o.here) refl
  where
    on : (x : Option Loc) → IfSome x (λ loc. loc.exec ≡ exec) → is_on exec x ≡ false
        → is_some x ≡ false
    on None i e = refl
    on (Some loc) i e = absurd (grind (arith, nat_tests, i, e))

    by : (b : Bool) → is_on exec o.here ≡ b
        → is_some (if b then forgotten o else o).here ≡ false
    by true e = refl
    by false e = on o.here h e

-- what isn't done
pub done_forgotten :
    (t u : TrackerData) (exec : ℕ) (target : Target) (results : List Bool) (p : ℕ)
    → Forgets t u exec → is_done_by t target results p ≡ false
    → is_done_by u target results p ≡ false
done_forgotten t u exec (targets.Map shuffle) results p f e =
    rw (f.outputs (block_of shuffle p))
    (none_forgotten exec (output_of t (block_of shuffle p)) e)
done_forgotten t u exec (targets.Result node) results p f e = e

-- a result stage doesn't ask the tracker
done_result :
    (t u : TrackerData) (target : Target) (results : List Bool) (p : ℕ) → is_map target ≡ false
    → is_done_by u target results p ≡ is_done_by t target results p
done_result t u (targets.Map shuffle) results p e = absurd (true≢false e)
done_result t u (targets.Result node) results p e = refl

-- ---- outputs are lost

sound_forgotten :
    (t u : TrackerData) (exec : ℕ) (stage : StageData) (o : Option StageState)
    → Forgets t u exec → IsSoundAt t stage o → IsSoundAt u stage o
sound_forgotten t u exec stage None f is = is
sound_forgotten t u exec stage (Some state) f is =
    record {
      results = is.results;
      flags = is.flags;
      attempts = is.attempts;
      newest = record {
        made = λ p on shuffle target h. rw (f.outputs (block_of shuffle p))
            (here_forgotten (λ loc. loc.exec ≡ on) exec (output_of t (block_of shuffle p))
            (is.newest.made p on shuffle target h));
        wanted = λ p h. done_forgotten t u exec stage.target state.results p f
            (is.newest.wanted p h);
        covered = λ p kind lt ne h. done_result t u stage.target state.results p kind
            ∙ is.newest.covered p kind lt ne h;
      };
    }

pub seen_sound :
    (d : DagData) (exec found : ℕ) → IsSoundDag d → IsSoundDag (after_seen d exec found)
seen_sound d exec found sound = by (is_newer (slice_get d.tracker.trust exec) found) refl
  where
    by : (b : Bool) → is_newer (slice_get d.tracker.trust exec) found ≡ b
        → IsSoundDag (after_seen d exec found)
    by true e =
        let f = gone_forgets d.tracker exec found e in
        let u = after_gone d.tracker exec found in
        sound_from (with_tracker d u) (f.sound sound.tracker)
        (stages_moved d.stages d.tracker u f.room sound.stages) sound.states
        (births_kept d.stages d.tracker u (λ s. births_of (attempts_of d s))
        (λ s. births_of (attempts_of d s)) (λ s. refl)
        (gone_ages d.tracker exec found sound.tracker e) (births_in d sound))
        (λ s. charged_event d.tracker.epoch u.epoch (attempts_of d s)
        (gone_later d.tracker exec found e) (sound.born s).past (sound.charged s))
        (λ s. sound_forgotten d.tracker u exec (stage_at d s) (slice_get d.states s) f
        (sound_at d s sound))
    by false e = rw e sound

-- ---- an executor is lost

loss_newest :
    (t u : TrackerData) (exec : ℕ) (stage : StageData) (results : List Bool) (set : TaskSetData)
    → Forgets t u exec → set.is_map ≡ is_map stage.target
    → IsNewest t stage results (Some set) → IsNewest u stage results (Some (after_loss set exec))
loss_newest t u exec stage results set f kind is =
    record {
      made = λ p on shuffle target h. rw (f.outputs (block_of shuffle p))
          (here_forgotten (λ loc. loc.exec ≡ on) exec (output_of t (block_of shuffle p))
          (is.made p on shuffle target (loss_finish set exec p on h)));
      wanted = λ p h. wanted p stage.target refl h;
      covered = λ p result lt ne h. done_result t u stage.target results p result
          ∙ is.covered p result lt (λ e. absurd (search (rules, e)))
          (sym (loss_wanted set exec p (kind ∙ result)) ∙ h);
    }
  where
    on_map : (p : ℕ) (shuffle : ShuffleId) → stage.target ≡ targets.Map shuffle
        → (wants_in (Some set) p ≡ true) ⊎ (finish_in (Some set) p ≡ OnExecutor exec)
        → is_done_by u (targets.Map shuffle) results p ≡ false
    on_map p shuffle e (inl w) =
        done_forgotten t u exec (targets.Map shuffle) results p f
        (subst (λ x. is_done_by t x results p ≡ false) e (is.wanted p w))
    on_map p shuffle e (inr on) =
        rw (f.outputs (block_of shuffle p))
        (on_forgotten exec (output_of t (block_of shuffle p)) (is.made p exec shuffle e on))

    wanted : (p : ℕ) (target : Target) → stage.target ≡ target
        → wants_in (Some (after_loss set exec)) p ≡ true
        → is_done_by u target results p ≡ false
    wanted p (targets.Map shuffle) e h = on_map p shuffle e (loss_wants set exec p h)
    wanted p (targets.Result node) e h =
        let result : set.is_map ≡ false = kind ∙ ap is_map e in
        subst (λ x. is_done_by t x results p ≡ false) e
        (is.wanted p (sym (loss_wanted set exec p result) ∙ h))

loss_state :
    (t u : TrackerData) (exec : ℕ) (stage : StageData) (state : StageState)
    → Forgets t u exec → IsSoundState t stage state
    → IsSoundState u stage (without_executor exec state)
loss_state t u exec stage state f is =
    record {
      results = is.results;
      flags = record {
        many = is.flags.many;
        held = rw (newest_mapped state.attempts lose)
            (held (slice_get state.attempts (length state.attempts - 1)) is.flags.held);
      };
      attempts = attempts_mapped stage state.attempts lose
          (λ x. keeps_with stage x (λ set. after_loss set exec) (keeps_loss x.set exec))
          is.attempts;
      newest = rw (newest_mapped state.attempts lose)
          (by (slice_get state.attempts (length state.attempts - 1)) refl is.newest);
    }
  where
    lose : StageAttempt → StageAttempt
    lose = with_set (λ set. after_loss set exec)

    held : (o : Option StageAttempt) → AreHeldBy state.held (set_in o)
        → AreHeldBy state.held (set_in (option_map lose o))
    held None is = is
    held (Some x) is = holds_loss x.set exec state.held is

    by : (o : Option StageAttempt) → slice_get state.attempts (length state.attempts - 1) ≡ o
        → IsNewest t stage state.results (set_in o)
        → IsNewest u stage state.results (set_in (option_map lose o))
    by None e n = no_newest u stage state.results
    by (Some x) e n =
        loss_newest t u exec stage state.results x.set f
        ((all_at (IsAttemptOf stage) state.attempts (length state.attempts - 1) x
        is.attempts.each e).set).kind n

pub lost_sound_dag :
    (d : DagData) (exec : ℕ) → IsSoundDag d
    → is_live_executor (slice_get d.tracker.trust exec) ≡ true → IsSoundDag (after_lost d exec)
lost_sound_dag d exec sound live =
    let f = lost_forgets d.tracker exec live in
    let u = after_executor_lost d.tracker exec in
    sound_from (after_lost d exec) (f.sound sound.tracker)
    (stages_moved d.stages d.tracker u f.room sound.stages)
    (length-map d.states (without_executor exec) ∙ sound.states)
    (births_kept d.stages d.tracker u (λ s. births_of (attempts_of d s))
    (λ s. births_of (attempts_in (slice_get (map (without_executor exec) d.states) s)))
    (λ s. ap (λ o. births_of (attempts_in o)) (slice_get-map (without_executor exec) d.states s)
    ∙ births_state (without_executor exec) (slice_get d.states s)
    (λ state. births_mapped state.attempts (with_set (λ set. after_loss set exec)) (λ x. refl)))
    (lost_ages d.tracker exec sound.tracker live) (births_in d sound))
    (λ s. rw (slice_get-map (without_executor exec) d.states s)
    (charged (slice_get d.states s) (sound.born s).past (sound.charged s)))
    (λ s. at s f)
  where
    lose : StageAttempt → StageAttempt
    lose = with_set (λ set. after_loss set exec)

    u : TrackerData
    u = after_executor_lost d.tracker exec

    charged : (o : Option StageState)
        → All (λ b. b ≤ d.tracker.epoch) (births_of (attempts_in o))
        → AreCharged d.tracker.epoch (attempts_in o)
        → AreCharged u.epoch (attempts_in (option_map (without_executor exec) o))
    charged None births are = charged_none u.epoch [] refl
    charged (Some state) births are =
        charged_lost d.tracker.epoch u.epoch state.attempts lose (λ a. refl) (λ a. refl)
        (lost_later d.tracker exec live) births are

    at : (s : ℕ) → Forgets d.tracker (after_executor_lost d.tracker exec) exec
        → IsSoundAt (after_executor_lost d.tracker exec) (stage_at d s)
        (slice_get (map (without_executor exec) d.states) s)
    at s f =
        rw (slice_get-map (without_executor exec) d.states s)
        (sound_mapped d.tracker (after_executor_lost d.tracker exec) (stage_at d s)
        (without_executor exec) (slice_get d.states s)
        (λ state e is. loss_state d.tracker (after_executor_lost d.tracker exec) exec
        (stage_at d s) state f is) (sound_at d s sound))
