-- When no stage of a job is forgotten.
use Rattle.std.specs.Prelude.{ℕ, ◌<◌, ◌≡◌, ◌⊎◌, ◌&&◌, ◌||◌, not, Bool, true, false, Option, Some, None, slice_get}
use Rattle.std.specs.List.{list_any}
use Rattle.sc_dag.specs.DagData.{DagData, StageState, is_live, is_live_set, newest_at, stage_at}
use Rattle.sc_dag.specs.Outputs.{is_complete}
use Rattle.sc_dag.specs.Reports.{failed_count}
use Rattle.sc_dag.specs.Submission.{waiting_stages}

-- a stage hands out tasks, or waits
abbrev pub goes_on_in : Option StageState → Bool
goes_on_in None = false
goes_on_in (Some state) = state.waits || is_live state

abbrev pub goes_on : DagData → ℕ → Bool
goes_on d s = goes_on_in (slice_get d.states s)

-- a stage isn't complete and goes on, or is to be submitted
abbrev pub will_go_on : DagData → (ℕ → Bool) → ℕ → Bool
will_go_on d submitted s = not (is_complete d s) && (goes_on d s || submitted s)

-- No stage is forgotten, once some are submitted.
pub record IsSettledBy (d : DagData) (submitted : ℕ → Bool) : Type 0 where
  -- a stage that waits hands out nothing, and has something to do
  pub dead : (s : ℕ) → waiting_stages d s ≡ true → is_live_set (newest_at d s) ≡ false
  pub lacking : (s : ℕ) → waiting_stages d s ≡ true → is_complete d s ≡ false
  -- it waits for a parent that goes on
  pub waits : (s : ℕ) → waiting_stages d s ≡ true
      → (submitted s ≡ true)
      ⊎ (list_any (will_go_on d submitted) (stage_at d s).parents ≡ true)
  -- failed attempts count only while their stage isn't complete
  pub failed : (s : ℕ) → 0 < failed_count (slice_get d.states s) → is_complete d s ≡ false

-- no stage is forgotten
abbrev pub IsSettled : DagData → Type 0
IsSettled d = IsSettledBy d (λ s. false)

-- a stage isn't complete, and goes on
abbrev pub IsUnderWay : DagData → ℕ → Type 0
IsUnderWay d s = (is_complete d s ≡ false) × (goes_on d s ≡ true)
