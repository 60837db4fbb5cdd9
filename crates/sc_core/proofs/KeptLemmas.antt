-- Lists of inputs that are kept.
use Rattle.std.proofs.Common.{◌≡◌, ◌≢◌, ℕ, zero, suc, Bool, true, false, List, [], ◌∷◌, Option, Some, None, IfSome, map, refl, Result, Ok, Err, OnOk, OnErr}
use Rattle.sc_ids.specs.Changes.{change_at}
use Rattle.sc_ids.specs.declared.attempts.AttemptId.{AttemptId}
use Rattle.sc_ids.specs.declared.blocks.Loc.{Loc}
use Rattle.sc_taskset.specs.declared.tasks.Verdict.{Verdict}
use Rattle.sc_taskset.specs.declared.tasks.Verdict.TheVariants.{Again, Limit}
use Rattle.sc_tracker.specs.Tracking.{is_bogus}
use Rattle.sc_tracker.specs.declared.outputs.Location.{Location}
use Rattle.sc_dag.specs.DagData.{DagData, with_state}
use Rattle.sc_dag.specs.Offers.{handed_out}
use Rattle.sc_dag.specs.Outputs.{is_complete}
use Rattle.sc_dag.specs.Reports.{FailsStage, after_map_success, after_result_success, completed_if, is_repeat, is_of_newest, map_success_of, succeeded_in_both, with_result}
use Rattle.sc_dag.specs.Submission.{IsSubmitted}
use Rattle.sc_dag.specs.declared.reports.Success.TheVariants as successes
use Rattle.sc_core.specs.HandOuts.{inputs_of}
use Rattle.sc_core.specs.Kept.{AreInputs, kept_at}

-- nor where all were forgotten
pub none_left : (kept : List (Option (List Location))) (s : ℕ)
    → kept_at (map (λ _. None) kept) s ≡ None
none_left [] s = refl
none_left (x ∷ kept) zero = refl
none_left (x ∷ kept) (suc s) = none_left kept s

-- lists stay those of inputs where there is one more
put_among : (f : ℕ → List Location) (kept : List (Option (List Location))) (s : ℕ)
    → ((k : ℕ) → IfSome (kept_at kept k) (λ inputs. inputs ≡ f k))
    → (k : ℕ) → IfSome (kept_at (change_at kept s (λ _. Some (f s))) k) (λ inputs. inputs ≡ f k)
put_among f [] s are k = are k
put_among f (x ∷ kept) zero are zero = refl
put_among f (x ∷ kept) zero are (suc k) = are (suc k)
put_among f (x ∷ kept) (suc s) are zero = are zero
put_among f (x ∷ kept) (suc s) are (suc k) =
    put_among (λ n. f (suc n)) kept s (λ n. are (suc n)) k

pub put_inputs : (d : DagData) (kept next : List (Option (List Location))) (s : ℕ)
    (inputs : List Location) → AreInputs d kept → next ≡ change_at kept s (λ _. Some inputs)
    → inputs ≡ inputs_of d s → AreInputs d next
put_inputs d kept next s inputs are is same =
    rw (is, same) (put_among (inputs_of d) kept s are)

-- where none is kept, all that are kept are those of inputs
pub none_are : (d : DagData) (kept : List (Option (List Location)))
    → ((s : ℕ) → kept_at kept s ≡ None) → AreInputs d kept
none_are d kept none s = rw (none s) tt

-- the lists stay where the stages and the tracker do
pub same_inputs : (d after : DagData) (kept : List (Option (List Location)))
    → after.stages ≡ d.stages → after.tracker ≡ d.tracker
    → AreInputs d kept → AreInputs after kept
same_inputs d after kept stages tracker are = rw (stages, tracker) are

-- a submission changes neither
pub submitted_inputs : (d after : DagData) (submitted : ℕ → Bool)
    (kept : List (Option (List Location)))
    → IsSubmitted d submitted after → AreInputs d kept → AreInputs after kept
submitted_inputs d after submitted kept is are = rw is.2 are

pub failed_inputs : (d after : DagData) (s number : ℕ) (verdict : Verdict)
    (kept : List (Option (List Location)))
    → FailsStage d s number verdict after → AreInputs d kept → AreInputs after kept
failed_inputs d after s number Limit kept is are = rw is.1 are
failed_inputs d after s number Again kept is are = rw is.1.2 are

-- nor does a result
with_both : (d : DagData) (a : AttemptId) (now : ℕ) (kept : List (Option (List Location)))
    → AreInputs d kept → AreInputs (succeeded_in_both d a now) kept
with_both d a now kept are = by (is_of_newest d a) refl
  where
    by : (b : Bool) → is_of_newest d a ≡ b → AreInputs (succeeded_in_both d a now) kept
    by true e = rw e are
    by false e = rw e are

with_completed : (d : DagData) (s : ℕ) (kept : List (Option (List Location)))
    → AreInputs d kept → AreInputs (completed_if d s) kept
with_completed d s kept are = by (is_complete d s) refl
  where
    by : (b : Bool) → is_complete d s ≡ b → AreInputs (completed_if d s) kept
    by true e = rw e are
    by false e = rw e are

pub result_inputs : (d : DagData) (a : AttemptId) (now : ℕ) (kept : List (Option (List Location)))
    → AreInputs d kept → AreInputs (after_result_success d a now) kept
result_inputs d a now kept are = by (is_repeat d a) refl
  where
    by : (b : Bool) → is_repeat d a ≡ b → AreInputs (after_result_success d a now) kept
    by true e = rw e are
    by false e =
        rw e
        (with_completed
        (with_state (succeeded_in_both d a now) a.stage (with_result a.partition)) a.stage kept
        (with_both d a now kept are))

-- a map success does where it registers an output
pub map_inputs : (d : DagData) (a : AttemptId) (loc : Loc) (epoch now : ℕ)
    (kept next : List (Option (List Location))) → AreInputs d kept
    → (map_success_of d a loc epoch ≡ successes.Registered → (s : ℕ) → kept_at next s ≡ None)
    → (map_success_of d a loc epoch ≢ successes.Registered → next ≡ kept)
    → AreInputs (after_map_success d a loc epoch now) next
map_inputs d a loc epoch now kept next are forgets keeps = by (is_repeat d a) refl
  where
    by_bogus : (b : Bool) → is_repeat d a ≡ false → is_bogus d.tracker loc epoch ≡ b
        → AreInputs (after_map_success d a loc epoch now) next
    by_bogus true e h =
        rw (keeps (rw (e, h) (λ q. absurd (cc)))) (rw (e, h) are)
    by_bogus false e h =
        none_are (after_map_success d a loc epoch now) next (forgets (rw (e, h) refl))

    by : (b : Bool) → is_repeat d a ≡ b
        → AreInputs (after_map_success d a loc epoch now) next
    by true e = rw (keeps (rw e (λ q. absurd (cc)))) (rw e are)
    by false e = by_bogus (is_bogus d.tracker loc epoch) e refl

-- nor does a task that is handed out, or isn't for want of memory
pub given_inputs : {E : Type 0} (d after : DagData) (a : AttemptId) (exec now : ℕ)
    (result : Result (Unit {0}) E) (kept : List (Option (List Location)))
    → OnOk result (after ≡ handed_out d a exec now) → OnErr result (after ≡ d)
    → AreInputs d kept → AreInputs after kept
given_inputs d after a exec now (Ok u) kept ok err are = rw ok are
given_inputs d after a exec now (Err e) kept ok err are = rw err are
