-- What a task reads that is handed out is there, or was lost.
use Rattle.std.proofs.Common.{◌≡◌, inl, inr, ℕ, zero, suc, ◌+◌, ◌-◌, ◌<◌, ◌==◌, ◌||◌, All, true, List, [], ◌∷◌, Option, Some, None, is_some, length, slice_get, refl, ap, sym, subst, ◌∙◌, arith, rules, true≢false}
use Rattle.std.specs.List.{flat_map, list_any}
use Rattle.std.proofs.lemmas.Bool.{or_right}
use Rattle.std.proofs.lemmas.Bool.Decides.{nat_tests}
use Rattle.std.proofs.lemmas.List.Elements.{All-append, All-cons, All-head, All-map, All-nil, All-tail, All-weaker}
use Rattle.sc_base.specs.Lists.{numbers_below, numbers_from}
use Rattle.sc_ids.specs.declared.blocks.BlockId.{BlockId}
use Rattle.sc_ids.specs.declared.blocks.Loc.{Loc}
use Rattle.sc_ids.specs.declared.blocks.ShuffleId.{ShuffleId}
use Rattle.sc_ids.specs.declared.blocks.Target.{Target}
use Rattle.sc_ids.specs.declared.blocks.Target.TheVariants as targets
use Rattle.sc_taskset.specs.TaskSetData.{TaskSetData}
use Rattle.sc_tracker.specs.Outputs.{location_in, location_of_places}
use Rattle.sc_tracker.specs.TrackerData.{TrackerData, output_of}
use Rattle.sc_dag.specs.Births.{ReadsOutput, WasThere, births_of}
use Rattle.sc_dag.specs.DagData.{DagData, StageState, newest_at, set_in, stage_at}
use Rattle.sc_dag.specs.Outputs.{block_of}
use Rattle.sc_dag.specs.Sound.{IsSoundDag, attempts_in}
use Rattle.sc_dag.specs.declared.attempts.StageAttempt.{StageAttempt}
use Rattle.sc_dag.proofs.RowLemmas.{newest_there}
use Rattle.sc_core.specs.HandOuts.{inputs_of, locations_by}
use Rattle.sc_core.proofs.OfferLemmas.{offered}
use Rattle.sc_causes.specs.Inputs.{IsThereOrLost, MissingInputsWereLost}

-- what was there once is there, or was lost
was_there : (t : TrackerData) (block : BlockId) (born : ℕ) → WasThere t block born
    → IsThereOrLost t (location_in (output_of t block))
was_there t block born (inl here) =
    by (output_of t block).here (output_of t block).last here
  where
    by : (here last : Option Loc) → is_some here ≡ true
        → IsThereOrLost t (location_of_places here last)
    by (Some loc) last e = tt
    by None last e = absurd (true≢false (sym e))
was_there t block born (inr lost) =
    by (output_of t block).here (output_of t block).last lost.place
  where
    by : (here last : Option Loc) → last ≡ Some lost.loc
        → IsThereOrLost t (location_of_places here last)
    by (Some loc) last e = tt
    by None last e =
        subst (λ o. IsThereOrLost t (location_of_places None o)) (sym e) (record {
          block = block;
          placed = lost.place;
          mark = lost.mark;
          marked = lost.marked;
          since = lost.after_it;
        })

from_below : (first count : ℕ) → All (λ m. m < first + count) (numbers_from first count)
from_below first zero = All-nil (λ m. m < first + 0)
from_below first (suc count) =
    let e : suc first + count ≡ first + suc count = omega arith in
    All-cons (λ m. m < first + suc count) first (numbers_from (suc first) count) (omega arith)
    (subst (λ n. All (λ m. m < n) (numbers_from (suc first) count)) e
    (from_below (suc first) count))

all_below : (n : ℕ) → All (λ m. m < n) (numbers_below n)
all_below n =
    let e : 0 + n ≡ n = omega arith in
    subst (λ k. All (λ m. m < k) (numbers_below n)) e (from_below 0 n)

-- each of some numbers is one of them
members : (xs : List ℕ) → All (λ q. list_any (λ r. r == q) xs ≡ true) xs
members [] = All-nil (λ q. list_any (λ r. r == q) [] ≡ true)
members (x ∷ xs) =
    let same : (x == x) ≡ true = grind (arith, nat_tests) in
    All-cons (λ q. list_any (λ r. r == q) (x ∷ xs) ≡ true) x xs
    (ap (λ b. b || list_any (λ r. r == x) xs) same)
    (All-weaker (λ q. list_any (λ r. r == q) xs ≡ true)
    (λ q. list_any (λ r. r == q) (x ∷ xs) ≡ true)
    (λ q h. or_right (x == q) (list_any (λ r. r == q) xs) h) xs (members xs))

-- What the stage of a task set reads.
module _ (d : DagData) (s : ℕ) (set : TaskSetData) (sound : IsSoundDag d)
    (newest : newest_at d s ≡ Some set) where
  block_was : (p : ℕ) (shuffle : ShuffleId) → ReadsOutput d.stages s shuffle p
      → IsThereOrLost d.tracker (location_in (output_of d.tracker (block_of shuffle p)))
  block_was p shuffle reads = by (slice_get d.states s) refl (sound.inputs s p shuffle reads)
    where
      Was : ℕ → Type 0
      Was born = WasThere d.tracker (block_of shuffle p) born

      some : (xs : List StageAttempt) → set_in (slice_get xs (length xs - 1)) ≡ Some set
          → All Was (births_of xs)
          → IsThereOrLost d.tracker (location_in (output_of d.tracker (block_of shuffle p)))
      some [] h all = absurd (search (rules, h))
      some (x ∷ xs) h all =
          was_there d.tracker (block_of shuffle p) x.set.born
          (All-head Was x.set.born (births_of xs) all)

      none : slice_get d.states s ≡ None → ⊥
      none h = search (rules, h, newest)

      by : (o : Option StageState) → slice_get d.states s ≡ o
          → All Was (births_of (attempts_in o))
          → IsThereOrLost d.tracker (location_in (output_of d.tracker (block_of shuffle p)))
      by None h all = absurd (none h)
      by (Some state) h all = some state.attempts (sym (newest_there d s state h) ∙ newest) all

  abbrev IsParent : ℕ → Type 0
  IsParent q = list_any (λ r. r == q) (stage_at d s).parents ≡ true

  outputs_were : (q : ℕ) → IsParent q → (target : Target) → (stage_at d q).target ≡ target
      → All (IsThereOrLost d.tracker) (locations_by d.tracker target (stage_at d q).tasks)
  outputs_were q parent (targets.Map shuffle) e =
      All-map (IsThereOrLost d.tracker)
      (λ m. location_in (output_of d.tracker (block_of shuffle m)))
      (numbers_below (stage_at d q).tasks)
      (All-weaker (λ m. m < (stage_at d q).tasks)
      (λ m. IsThereOrLost d.tracker (location_in (output_of d.tracker (block_of shuffle m))))
      (λ m lt. block_was m shuffle
      (record { parent = q; is_parent = parent; made = e; within = lt }))
      (numbers_below (stage_at d q).tasks) (all_below (stage_at d q).tasks))
  outputs_were q parent (targets.Result node) e = All-nil (IsThereOrLost d.tracker)

  each_was : (ps : List ℕ) → All IsParent ps
      → All (IsThereOrLost d.tracker)
      (flat_map (λ q. locations_by d.tracker (stage_at d q).target (stage_at d q).tasks) ps)
  each_was [] all = All-nil (IsThereOrLost d.tracker)
  each_was (q ∷ qs) all =
      All-append (IsThereOrLost d.tracker)
      (locations_by d.tracker (stage_at d q).target (stage_at d q).tasks)
      (flat_map (λ r. locations_by d.tracker (stage_at d r).target (stage_at d r).tasks) qs)
      (outputs_were q (All-head IsParent q qs all) (stage_at d q).target refl)
      (each_was qs (All-tail IsParent q qs all))

  inputs_were : All (IsThereOrLost d.tracker) (inputs_of d s)
  inputs_were = each_was (stage_at d s).parents (members (stage_at d s).parents)

pub missing_inputs_were_lost : MissingInputsWereLost
missing_inputs_were_lost c exec h sound out =
    let o = offered c.dag exec c.now h.attempt sound.job.dag out.offer in
    subst (λ inputs. All (IsThereOrLost c.dag.tracker) inputs) (sym out.inputs)
    (inputs_were c.dag h.attempt.stage o.set sound.job.dag o.newest)
