-- A submission of stages leaves something: there is a set of stages that are looked at.
use Rattle.std.proofs.Common.{◌≡◌, ℕ, zero, suc, ◌+◌, ◌<◌, ◌≤◌, ◌&&◌, ◌||◌, not, Bool, true, false, length, slice_get, refl, ap, sym, arith}
use Rattle.sc_base.specs.Lists.{numbers_below}
use Rattle.sc_taskset.specs.declared.tasks.Verdict.{Verdict}
use Rattle.sc_taskset.specs.declared.tasks.Verdict.TheVariants as verdicts
use Rattle.sc_dag.specs.DagData.{DagData, with_state, with_states}
use Rattle.sc_dag.specs.Outputs.{is_complete}
use Rattle.sc_dag.specs.Reports.{CompletesMap, FailsStage, completed, has_failed_often, with_failed}
use Rattle.sc_dag.specs.Sound.{AreSoundStages, IsSoundDag}
use Rattle.sc_dag.specs.Submission.{AreLookedAt, IsSubmitted, by_number, is_asked_for, is_idle_in, moved_if, reads, this_stage, waiting_stages}
use Rattle.sc_dag.proofs.Looking.{complete_past, read_before}
use Rattle.sc_dag.proofs.Tests.{any_alike}

-- a stage is looked at, where so many stages may ask for it one after another
is_looked : DagData → (ℕ → Bool) → ℕ → ℕ → Bool
is_looked d submitted zero s = false
is_looked d submitted (suc n) s =
    not (is_complete d s)
    && (submitted s
    || (is_idle_in (slice_get d.states s) && is_asked_for d (is_looked d submitted n) s))

-- a stage behind the last one is never
none_past : (d : DagData) (submitted : ℕ → Bool) (n s : ℕ) → length d.stages ≤ s
    → is_looked d submitted n s ≡ false
unfolding is_looked
none_past d submitted zero s le = refl
none_past d submitted (suc n) s le = rw (complete_past d s le) refl

-- no more may than there are stages behind it
enough : (d : DagData) (submitted : ℕ → Bool) → AreSoundStages d.stages d.tracker
    → (m n s : ℕ) → length d.stages ≤ s + m → length d.stages ≤ s + n
    → is_looked d submitted m s ≡ is_looked d submitted n s
unfolding is_looked
enough d submitted sound zero n s le le' = sym (none_past d submitted n s (omega (arith, le)))
enough d submitted sound (suc m) zero s le le' =
    none_past d submitted (suc m) s (omega (arith, le'))
enough d submitted sound (suc m) (suc n) s le le' =
    ap (λ asked. not (is_complete d s)
    && (submitted s || (is_idle_in (slice_get d.states s) && asked)))
    (any_alike (λ c. is_looked d submitted m c && reads d c s)
    (λ c. is_looked d submitted n c && reads d c s) (numbers_below (length d.stages))
    (λ c. by c (reads d c s) refl
    (λ lt. enough d submitted sound m n c (omega (arith, le, lt)) (omega (arith, le', lt)))))
  where
    none : (x y : Bool) → (x && false) ≡ (y && false)
    none true true = refl
    none true false = refl
    none false true = refl
    none false false = refl

    by : (c : ℕ) (r : Bool) → reads d c s ≡ r
        → (s < c → is_looked d submitted m c ≡ is_looked d submitted n c)
        → (is_looked d submitted m c && reads d c s) ≡ (is_looked d submitted n c && reads d c s)
    by c true e f = ap (λ x. x && reads d c s) (f (read_before d c s sound e))
    by c false e f = rw e (none (is_looked d submitted m c) (is_looked d submitted n c))

pub submits : (d : DagData) (submitted : ℕ → Bool) → AreSoundStages d.stages d.tracker
    → (after : DagData) × IsSubmitted d submitted after
unfolding is_looked
submits d submitted sound =
    (with_states d (by_number (moved_if d looked) 0 d.states), (looked, are, refl))
  where
    looked : ℕ → Bool
    looked s = is_looked d submitted (length d.stages) s

    are : AreLookedAt d submitted looked
    are s =
        enough d submitted sound (length d.stages) (suc (length d.stages)) s (omega arith)
        (omega arith)

-- so something is left where a map stage is complete, and where a stage attempt failed
pub completes : (d : DagData) (s : ℕ) → IsSoundDag d → (after : DagData) × CompletesMap d s after
completes d s sound =
    submits (with_state d s completed) (waiting_stages (with_state d s completed))
    sound.stages

pub fails : (d : DagData) (s number : ℕ) → IsSoundDag d
    → (verdict : Verdict) × (after : DagData) × FailsStage d s number verdict after
fails d s number sound = by (has_failed_often failed s) refl
  where
    failed : DagData
    failed = with_state d s (with_failed number)

    by : (b : Bool) → has_failed_often failed s ≡ b
        → (verdict : Verdict) × (after : DagData) × FailsStage d s number verdict after
    by true e = (verdicts.Limit, failed, (e, refl))
    by false e =
        let next = submits failed (this_stage s) sound.stages in
        (verdicts.Again, next.0, (e, next.1))
