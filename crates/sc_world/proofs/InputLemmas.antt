-- The blocks stand that a task reads which is handed out.
use Rattle.std.proofs.Common.{◌≡◌, ◌⊎◌, inl, inr, ℕ, ◌-◌, ◌<◌, ◌==◌, All, true, List, [], ◌∷◌, Contains, Option, Some, None, IfSome, is_some, length, slice_get, refl, sym, subst, ◌∙◌, arith, rules, true≢false}
use Rattle.std.specs.List.{AllZip}
use Rattle.std.proofs.lemmas.Bool.Decides.{nat_tests}
use Rattle.std.proofs.lemmas.List.Elements.{All-head}
use Rattle.sc_ids.specs.Graphs.{StageData}
use Rattle.sc_ids.specs.declared.blocks.BlockId.{BlockId}
use Rattle.sc_ids.specs.declared.blocks.Loc.{Loc}
use Rattle.sc_ids.specs.declared.blocks.ShuffleId.{ShuffleId}
use Rattle.sc_ids.specs.declared.blocks.Target.{Target}
use Rattle.sc_ids.specs.declared.blocks.Target.TheVariants as targets
use Rattle.sc_tracker.specs.Outputs.{location_in, location_of_places}
use Rattle.sc_tracker.specs.TrackerData.{TrackerData, output_of}
use Rattle.sc_tracker.specs.TrackerFacts.{IsSoundTracker}
use Rattle.sc_tracker.specs.declared.outputs.Output.{Output}
use Rattle.sc_tracker.proofs.BlockLemmas.{lookups_sound}
use Rattle.sc_taskset.specs.TaskSetData.{TaskSetData}
use Rattle.sc_dag.specs.Births.{ReadsOutput, WasThere, births_of}
use Rattle.sc_dag.specs.DagData.{DagData, StageState, newest_at, no_stage, set_in, stage_at}
use Rattle.sc_dag.specs.Openings.{AreNumbered}
use Rattle.sc_dag.specs.Outputs.{block_of}
use Rattle.sc_dag.specs.Sound.{IsSoundDag, attempts_in}
use Rattle.sc_dag.specs.declared.attempts.StageAttempt.{StageAttempt}
use Rattle.sc_dag.proofs.RowLemmas.{newest_there}
use Rattle.sc_core.specs.HandOuts.{HandOutData, inputs_of}
use Rattle.sc_core.specs.Sound.{IsSoundCore}
use Rattle.sc_core.specs.Takes.{IsHandOut}
use Rattle.sc_core.proofs.OfferLemmas.{IsOffered, offered}
use Rattle.sc_store.specs.StoreData.{StoreData}
use Rattle.sc_jobs.specs.JobData.{blocks_read, stage_in}
use Rattle.sc_world.specs.Sound.{InputStands}
use Rattle.sc_world.specs.Ties.{AreTied, StandsAt}
use Rattle.sc_world.specs.WorldData.{WorldData, core_in}
use Rattle.sc_world.proofs.FitLemmas.{Stood, any_there, inputs_stand, stage_lacks, stage_stands}

-- an output is registered, or was
abbrev pub WasMade : Output → Type 0
WasMade output = (is_some output.here ≡ true) ⊎ (is_some output.last ≡ true)

-- what was there once is registered, or was
made_once : (t : TrackerData) (block : BlockId) (born : ℕ) → WasThere t block born
    → WasMade (output_of t block)
made_once t block born (inl here) = inl here
made_once t block born (inr lost) = inr (rw lost.place refl)

-- what the stage of a task set reads was made
was_made : (d : DagData) (s p : ℕ) (shuffle : ShuffleId) (set : TaskSetData) → IsSoundDag d
    → newest_at d s ≡ Some set → ReadsOutput d.stages s shuffle p
    → WasMade (output_of d.tracker (block_of shuffle p))
was_made d s p shuffle set sound newest reads =
    by (slice_get d.states s) refl (sound.inputs s p shuffle reads)
  where
    There : ℕ → Type 0
    There born = WasThere d.tracker (block_of shuffle p) born

    some : (xs : List StageAttempt) → set_in (slice_get xs (length xs - 1)) ≡ Some set
        → All There (births_of xs) → WasMade (output_of d.tracker (block_of shuffle p))
    some [] h all = absurd (search (rules, h))
    some (x ∷ xs) h all =
        made_once d.tracker (block_of shuffle p) x.set.born
        (All-head There x.set.born (births_of xs) all)

    none : slice_get d.states s ≡ None → ⊥
    none h = search (rules, h, newest)

    by : (o : Option StageState) → slice_get d.states s ≡ o
        → All There (births_of (attempts_in o))
        → WasMade (output_of d.tracker (block_of shuffle p))
    by None h all = absurd (none h)
    by (Some state) h all = some state.attempts (sym (newest_there d s state h) ∙ newest) all

-- where an output was last, its block stands, and it was somewhere
output_stands : (stores : List StoreData) (t : TrackerData) (b : BlockId) → IsSoundTracker t
    → AreTied stores t → WasMade (output_of t b)
    → InputStands stores b (location_in (output_of t b))
output_stands stores t b sound tied was =
    by (output_of t b).here (output_of t b).last ((lookups_sound t sound).0 b).is_last was
    (tied.last b)
  where
    by : (here last : Option Loc) → IfSome here (λ loc. last ≡ Some loc)
        → (is_some here ≡ true) ⊎ (is_some last ≡ true)
        → IfSome last (StandsAt stores b) → InputStands stores b (location_of_places here last)
    by (Some loc) last is was h = subst (λ o. IfSome o (StandsAt stores b)) is h
    by None (Some loc) is was h = h
    by None None is (inl e) h = absurd (true≢false (sym e))
    by None None is (inr e) h = absurd (true≢false (sym e))

-- the inputs of what is handed out stand
pub given_stand : (w : WorldData) (exec : ℕ) (h : HandOutData) → IsSoundCore (core_in w)
    → IsHandOut (core_in w) exec h → AreNumbered w.desk.job.graph (core_in w).dag.stages
    → AreTied w.stores (core_in w).dag.tracker
    → AllZip (InputStands w.stores) (blocks_read w.desk.job.graph h.attempt.stage) h.inputs
given_stand w exec h sound out numbered tied =
    rw out.inputs (by (stage_in graph h.attempt.stage) refl)
  where
    d : DagData
    d = (core_in w).dag

    graph : List StageData
    graph = w.desk.job.graph

    o : IsOffered (core_in w).dag exec (core_in w).now h.attempt
    o = offered (core_in w).dag exec (core_in w).now h.attempt sound.job.dag out.offer

    -- the blocks of a parent
    stood : (parent : ℕ) → Contains (stage_at d h.attempt.stage).parents parent → (m : ℕ)
        → m < (stage_at d parent).tasks → (target : Target)
        → (stage_at d parent).target ≡ target → Stood (InputStands w.stores) d.tracker target m
    stood parent is_in m lt (targets.Map shuffle) is =
        output_stands w.stores d.tracker (block_of shuffle m) sound.job.dag.tracker tied
        (was_made d h.attempt.stage m shuffle o.set sound.job.dag o.newest
        (record {
          parent = parent;
          is_parent = any_there (λ q. q == parent) (stage_at d h.attempt.stage).parents parent
              is_in (grind (arith, nat_tests));
          made = is;
          within = lt;
        }))
    stood parent is_in m lt (targets.Result node) is = tt

    by : (o : Option StageData) → stage_in graph h.attempt.stage ≡ o
        → AllZip (InputStands w.stores) (blocks_read w.desk.job.graph h.attempt.stage)
        (inputs_of (core_in w).dag h.attempt.stage)
    by None e =
        let is : stage_at d h.attempt.stage ≡ no_stage =
        stage_lacks graph d.stages h.attempt.stage numbered e in
        rw (e, is) tt
    by (Some stage) e =
        let is : stage_at d h.attempt.stage ≡ stage =
        stage_stands graph d.stages h.attempt.stage stage numbered e in
        rw (e, is) (inputs_stand (InputStands w.stores) graph d numbered stage.parents
        (λ parent is_in m lt. stood parent
        (subst (λ (s : StageData). Contains s.parents parent) (sym is) is_in) m lt
        (stage_at d parent).target refl))
