-- A job begins sound and settled.
use Rattle.std.proofs.Common.{◌≡◌, ℕ, zero, suc, ◌+◌, ◌<◌, ◌≤◌, true, false, if◌then◌else◌, List, [], ◌∷◌, Contains, length, replicate, Option, Some, slice_get, refl, ap, sym, subst, ◌∙◌, arith, rules}
use Rattle.std.specs.List.{list_all}
use Rattle.std.proofs.lemmas.List.{length-replicate}
use Rattle.std.proofs.lemmas.List.Elements.{All-contains, All-nil, Contains-push}
use Rattle.sc_base.specs.Lists.{at_or, numbers_below}
use Rattle.sc_ids.specs.Graphs.{StageData}
use Rattle.sc_ids.specs.declared.blocks.Target.{Target}
use Rattle.sc_ids.specs.declared.blocks.Target.TheVariants as targets
use Rattle.sc_tracker.specs.TrackerData.{TrackerData}
use Rattle.sc_tracker.specs.TrackerFacts.{IsSoundTracker}
use Rattle.sc_dag.specs.DagData.{DagData, no_stage, stage_at}
use Rattle.sc_dag.specs.Laws.{OpeningsAreSound}
use Rattle.sc_dag.specs.Openings.{attempts_so_far, blank_state, blank_states}
use Rattle.sc_dag.specs.Births.{WasThere, births_of}
use Rattle.sc_dag.specs.Outputs.{block_of, is_complete_by, is_done_by, results_in}
use Rattle.sc_dag.specs.Reports.{failed_count}
use Rattle.sc_dag.specs.Settled.{IsSettled}
use Rattle.sc_dag.specs.Sound.{AreSoundStages, IsAttemptOf, attempts_in, attempts_of}
use Rattle.sc_dag.specs.Submission.{is_map, waits_in}
use Rattle.sc_dag.proofs.JobStages.{stages_sound}
use Rattle.sc_dag.proofs.Sizing.{all_sized_sound}
use Rattle.sc_dag.proofs.SoundStages.{IsSoundAt, IsSoundState, no_newest, sound_from}
use Rattle.sc_dag.proofs.Tests.{clash}
use Rattle.sc_dag.proofs.Charges.{charged_none}

-- ---- their states

-- a stage that nothing was done for
blank_sound :
    (t : TrackerData) (stage : StageData) (before : ℕ)
    → IsSoundState t stage (blank_state stage before)
blank_sound t stage before =
    record {
      results = length-replicate (if is_map stage.target then 0 else stage.tasks) false;
      flags = record { many = length-replicate stage.tasks false; held = tt };
      attempts = record {
        each = All-nil (IsAttemptOf stage);
        older = All-nil (λ a. a.set.is_zombie ≡ true);
      };
      newest = no_newest t stage (blank_state stage before).results;
    }

blank_at :
    (t : TrackerData) (last : Option DagData) (n : ℕ) (stages : List StageData) (s : ℕ)
    → IsSoundAt t (at_or stages s no_stage) (slice_get (blank_states last n stages) s)
blank_at t last n [] s = (refl, record { many = refl; held = tt })
blank_at t last n (stage ∷ stages) zero = blank_sound t stage (attempts_so_far last n)
blank_at t last n (stage ∷ stages) (suc s) = blank_at t last (n + 1) stages s

blank_length :
    (last : Option DagData) (n : ℕ) (stages : List StageData)
    → length (blank_states last n stages) ≡ length stages
blank_length last n [] = refl
blank_length last n (stage ∷ stages) = ap suc (blank_length last (n + 1) stages)

-- none has an attempt
blank_births :
    (last : Option DagData) (n : ℕ) (stages : List StageData) (s : ℕ)
    → births_of (attempts_in (slice_get (blank_states last n stages) s)) ≡ []
blank_births last n [] s = refl
blank_births last n (stage ∷ stages) zero = refl
blank_births last n (stage ∷ stages) (suc s) = blank_births last (n + 1) stages s

-- none waits
blank_waits :
    (last : Option DagData) (n : ℕ) (stages : List StageData) (s : ℕ)
    → waits_in (slice_get (blank_states last n stages) s) ≡ false
blank_waits last n [] s = refl
blank_waits last n (stage ∷ stages) zero = refl
blank_waits last n (stage ∷ stages) (suc s) = blank_waits last (n + 1) stages s

-- none has failed
blank_failed :
    (last : Option DagData) (n : ℕ) (stages : List StageData) (s : ℕ)
    → failed_count (slice_get (blank_states last n stages) s) ≡ 0
blank_failed last n [] s = refl
blank_failed last n (stage ∷ stages) zero = refl
blank_failed last n (stage ∷ stages) (suc s) = blank_failed last (n + 1) stages s

-- and a result stage with a task isn't complete
blank_lacks :
    (t : TrackerData) (last : Option DagData) (n : ℕ) (stages : List StageData) (s : ℕ)
    (stage : StageData) → slice_get stages s ≡ Some stage → is_map stage.target ≡ false
    → 0 < stage.tasks
    → is_complete_by t (at_or stages s no_stage)
    (results_in (slice_get (blank_states last n stages) s)) ≡ false
blank_lacks t last n [] s stage is kind some = absurd (search (rules, is))
blank_lacks t last n (x ∷ stages) zero stage is kind some =
    let same : x ≡ stage = search (rules, is) in
    subst (λ y. is_complete_by t y (blank_state y (attempts_so_far last n)).results ≡ false)
    (sym same) (rw kind (lacks stage.target stage.tasks kind some))
  where
    first : (k : ℕ) → at_or (replicate k false) 0 false ≡ false
    first zero = refl
    first (suc k) = refl

    lacks : (target : Target) (k : ℕ) → is_map target ≡ false → 0 < k
        → list_all (is_done_by t target (replicate k false)) (numbers_below k) ≡ false
    lacks (targets.Map shuffle) k e lt = absurd (clash refl e)
    lacks (targets.Result node) zero e lt = absurd (omega (arith, lt))
    lacks (targets.Result node) (suc k) e lt = refl
blank_lacks t last n (x ∷ stages) (suc s) stage is kind some =
    blank_lacks t last (n + 1) stages s stage is kind some

-- ---- the job

pub openings_are_sound : OpeningsAreSound
openings_are_sound graph last t d job fits tracker opens = (
  sound_from d (subst IsSoundTracker (sym opens.tracker) (all_sized_sound t graph tracker))
      (subst (AreSoundStages d.stages) (sym opens.tracker)
      (stages_sound graph job d.stages opens.numbered t fits))
      (ap length opens.states ∙ blank_length last 0 d.stages)
      (record {
        turn = λ s. rw (none s) (record {
          rising = λ i j e lt l. absurd (omega (arith, l));
          past = All-nil (λ b. b ≤ d.tracker.epoch);
        });
        there = λ s p shuffle reads.
            rw (none s) (All-nil (WasThere d.tracker (block_of shuffle p)));
      })
      (λ s. charged_none d.tracker.epoch (attempts_of d s) (none s))
      (λ s. subst (λ states. IsSoundAt d.tracker (stage_at d s) (slice_get states s))
      (sym opens.states) (blank_at d.tracker last 0 d.stages s)),
  settled,
  subst (λ states. is_complete_by d.tracker (stage_at d job.result.id)
      (results_in (slice_get states job.result.id)) ≡ false) (sym opens.states)
      (blank_lacks d.tracker last 0 d.stages job.result.id job.result
      (All-contains (λ stage. slice_get d.stages stage.id ≡ Some stage) graph job.result
      opens.numbered.each (subst (λ g. Contains g job.result) (sym job.all)
      (Contains-push job.maps job.result))) job.is_result job.some),
)
  where
    none : (s : ℕ) → births_of (attempts_of d s) ≡ []
    none s = ap (λ states. births_of (attempts_in (slice_get states s))) opens.states
        ∙ blank_births last 0 d.stages s

    waits : (s : ℕ) → waits_in (slice_get d.states s) ≡ false
    waits s = ap (λ states. waits_in (slice_get states s)) opens.states
        ∙ blank_waits last 0 d.stages s

    settled : IsSettled d
    settled =
        record {
          dead = λ s w. absurd (clash w (waits s));
          lacking = λ s w. absurd (clash w (waits s));
          waits = λ s w. absurd (clash w (waits s));
          failed = λ s f. (let none : failed_count (slice_get d.states s) ≡ 0 =
              ap (λ states. failed_count (slice_get states s)) opens.states
              ∙ blank_failed last 0 d.stages s in absurd (omega (arith, f, none)));
        }
