-- What changes of the stages of a job leave of when their attempts began.
use Rattle.std.proofs.Common.{◌≡◌, ◌⊎◌, inl, inr, ℕ, ◌<◌, ◌≤◌, ◌==◌, not, Bool, true, false, List, Option, Some, None, option_map, slice_get, refl, ap, sym, subst, ◌∙◌, arith, rules, true≢false}
use Rattle.std.specs.List.{AllPairs}
use Rattle.std.proofs.lemmas.Bool.Decides.{nat_tests}
use Rattle.sc_base.specs.Lists.{at_or}
use Rattle.sc_ids.specs.Changes.{change_at}
use Rattle.sc_ids.specs.Graphs.{StageData}
use Rattle.sc_ids.specs.declared.blocks.Target.{Target}
use Rattle.sc_ids.specs.declared.blocks.Target.TheVariants as targets
use Rattle.sc_ids.proofs.ChangeLemmas.{slice_get_change_other, slice_get_change_same}
use Rattle.sc_tracker.specs.TrackerData.{TrackerData}
use Rattle.sc_taskset.specs.TaskSetData.{TaskSetData}
use Rattle.sc_dag.specs.Births.{births_of}
use Rattle.sc_dag.specs.DagData.{DagData, StageState, is_live_set, newest_at, newest_set, no_stage, stage_at, with_state, with_tracker}
use Rattle.sc_dag.specs.Outputs.{is_done, is_done_by, results_in}
use Rattle.sc_dag.specs.Reports.{wants_in}
use Rattle.sc_dag.specs.Sound.{IsSoundDag, attempts_in, attempts_of}
use Rattle.sc_dag.specs.Submission.{is_map, waiting_stages, waits_in}
use Rattle.sc_dag.proofs.Items.{all_unmapped}
use Rattle.sc_dag.proofs.Moving.{newest_among}
use Rattle.sc_dag.proofs.Stuck.{newest_holds}
use Rattle.sc_epochs.specs.Apart.{AreBornApart}
use Rattle.sc_epochs.proofs.TameLemmas.{Tames, TamesIn, TamesState, state_same, state_then}

-- ---- stages

abbrev pub TamesAt : (ℕ → Type 0) → Option StageState → Option StageState → Type 0
TamesAt E None None = Unit {0}
TamesAt E None (Some after) = ⊥
TamesAt E (Some state) None = ⊥
TamesAt E (Some state) (Some after) = TamesState E state after

-- the stages of a job after a change, by stages and partitions of which anything may be left
pub record Tamed (E : ℕ → ℕ → Type 0) (d after : DagData) : Type 0 where
  pub stages : after.stages ≡ d.stages
  pub each : (s : ℕ) → TamesAt (E s) (slice_get d.states s) (slice_get after.states s)

at_same : (E : ℕ → Type 0) (o : Option StageState) → TamesAt E o o
at_same E None = tt
at_same E (Some state) = state_same E state

at_then : (E : ℕ → Type 0) (a b c : Option StageState) → TamesAt E a b → TamesAt E b c
    → TamesAt E a c
at_then E None None c h k = k
at_then E None (Some y) c h k = absurd h
at_then E (Some x) None c h k = absurd h
at_then E (Some x) (Some y) None h k = absurd k
at_then E (Some x) (Some y) (Some z) h k = state_then E x y z h k

pub tamed_then : (E : ℕ → ℕ → Type 0) (a b c : DagData) → Tamed E a b → Tamed E b c
    → Tamed E a c
tamed_then E a b c h k =
    record {
      stages = k.stages ∙ h.stages;
      each = λ s. at_then (E s) (slice_get a.states s) (slice_get b.states s)
          (slice_get c.states s) (h.each s) (k.each s);
    }

-- another tracker
pub tamed_tracker : (E : ℕ → ℕ → Type 0) (d : DagData) (t : TrackerData)
    → Tamed E d (with_tracker d t)
tamed_tracker E d t =
    record { stages = refl; each = λ s. at_same (E s) (slice_get d.states s) }

pub tamed_same : (E : ℕ → ℕ → Type 0) (d : DagData) → Tamed E d d
tamed_same E d = record { stages = refl; each = λ s. at_same (E s) (slice_get d.states s) }

-- one stage changed
pub tamed_with : (E : ℕ → ℕ → Type 0) (d : DagData) (s : ℕ) (f : StageState → StageState)
    → ((state : StageState) → slice_get d.states s ≡ Some state → TamesState (E s) state (f state))
    → Tamed E d (with_state d s f)
tamed_with E d s f each = record { stages = refl; each = λ r. by r (s == r) refl }
  where
    here : (o : Option StageState) → slice_get d.states s ≡ o → TamesAt (E s) o (option_map f o)
    here None e = tt
    here (Some state) e = each state e

    by : (r : ℕ) (x : Bool) → (s == r) ≡ x
        → TamesAt (E r) (slice_get d.states r) (slice_get (change_at d.states s f) r)
    by r true e =
        let is : s ≡ r = grind (arith, nat_tests, e) in
        subst (λ (r : ℕ). TamesAt (E r) (slice_get d.states r)
        (slice_get (change_at d.states s f) r)) is
        (rw (slice_get_change_same d.states s f) (here (slice_get d.states s) refl))
    by r false e =
        rw (slice_get_change_other d.states s r f (λ is. grind (arith, nat_tests, e, is)))
        (at_same (E r) (slice_get d.states r))

-- ---- what it was before

-- the newest task set of a stage, before a change
pub record WasNewest (E : ℕ → Type 0) (d : DagData) (s : ℕ) (after : TaskSetData) : Type 0 where
  pub set : TaskSetData
  pub is : newest_at d s ≡ Some set
  pub tames : Tames E set after

pub was_newest : (E : ℕ → ℕ → Type 0) (d after : DagData) (s : ℕ) (set : TaskSetData)
    → Tamed E d after → newest_at after s ≡ Some set → WasNewest (E s) d s set
was_newest E d after s set h e =
    by (slice_get d.states s) (slice_get after.states s) refl refl (h.each s)
  where
    in_state : (x y : Option TaskSetData) → TamesIn (E s) x y → newest_at d s ≡ x
        → y ≡ Some set → WasNewest (E s) d s set
    in_state None None t p q = absurd (search (rules, q))
    in_state None (Some b) t p q = absurd t
    in_state (Some a) None t p q = absurd t
    in_state (Some a) (Some b) t p q =
        let same : b ≡ set = search (rules, q) in
        record { set = a; is = p; tames = subst (λ x. Tames (E s) a x) same t }

    by : (x y : Option StageState) → slice_get d.states s ≡ x → slice_get after.states s ≡ y
        → TamesAt (E s) x y → WasNewest (E s) d s set
    by None None p q t = absurd (search (rules, sym e ∙ ap newest_among q))
    by None (Some b) p q t = absurd t
    by (Some a) None p q t = absurd t
    by (Some a) (Some b) p q t =
        in_state (newest_set a) (newest_set b) t.newest (ap newest_among p)
        (sym (ap newest_among q) ∙ e)

pub births_same : (E : ℕ → ℕ → Type 0) (d after : DagData) → Tamed E d after → (s : ℕ)
    → births_of (attempts_of after s) ≡ births_of (attempts_of d s)
births_same E d after h s = by (slice_get d.states s) (slice_get after.states s) (h.each s)
  where
    by : (x y : Option StageState) → TamesAt (E s) x y
        → births_of (attempts_in y) ≡ births_of (attempts_in x)
    by None None t = refl
    by None (Some b) t = absurd t
    by (Some a) None t = absurd t
    by (Some a) (Some b) t = t.births

-- ---- changes that keep what holds

-- an output that isn't registered now wasn't before, or is one of which anything may be left
pub apart_tamed : (E : ℕ → ℕ → Type 0) (d after : DagData) → Tamed E d after
    → d.tracker.epoch ≤ after.tracker.epoch
    → ((s p : ℕ) → is_map (stage_at d s).target ≡ true → p < (stage_at d s).tasks
    → is_done after s p ≡ false → is_done d s p ≡ false)
    → ((s p : ℕ) (set : TaskSetData) → is_map (stage_at d s).target ≡ true → E s p
    → newest_at d s ≡ Some set → is_done after s p ≡ false → set.born < after.tracker.epoch)
    → AreBornApart d → AreBornApart after
apart_tamed E d after h le kept other a =
    record {
      own = own;
      order = λ s. subst (λ bs. AllPairs (λ x y. x < y) bs) (sym (births_same E d after h s))
          (a.order s);
    }
  where
    stage : (s : ℕ) → stage_at after s ≡ stage_at d s
    stage s = ap (λ stages. at_or stages s no_stage) h.stages

    own : (s p : ℕ) (set : TaskSetData) → is_map (stage_at after s).target ≡ true
        → p < (stage_at after s).tasks → newest_at after s ≡ Some set
        → wants_in (Some set) p ≡ false → is_done after s p ≡ false
        → set.born < after.tracker.epoch
    own s p set kind lt newest wants lacks = by (w.tames.wants p wants)
      where
        w : WasNewest (E s) d s set
        w = was_newest E d after s set h newest

        kind_was : is_map (stage_at d s).target ≡ true
        kind_was = subst (λ (x : StageData). is_map x.target ≡ true) (stage s) kind

        lt_was : p < (stage_at d s).tasks
        lt_was = subst (λ (x : StageData). p < x.tasks) (stage s) lt

        by : (wants_in (Some w.set) p ≡ false) ⊎ E s p → set.born < after.tracker.epoch
        by (inl v) =
            let lt = a.own s p w.set kind_was lt_was w.is v (kept s p kind_was lt_was lacks) in
            let born = w.tames.born in omega (arith, lt, born, le)
        by (inr e) =
            let lt = other s p w.set kind_was e w.is lacks in
            let born = w.tames.born in omega (arith, lt, born)

-- outputs are forgotten
pub apart_risen : (E : ℕ → ℕ → Type 0) (d after : DagData) → Tamed E d after → IsSoundDag d
    → d.tracker.epoch < after.tracker.epoch → AreBornApart d → AreBornApart after
apart_risen E d after h sound rises a =
    record {
      own = λ s p set kind lt newest wants lacks. born s set (was_newest E d after s set h newest);
      order = λ s. subst (λ bs. AllPairs (λ x y. x < y) bs) (sym (births_same E d after h s))
          (a.order s);
    }
  where
    past : (s : ℕ) (set : TaskSetData) → newest_at d s ≡ Some set → set.born ≤ d.tracker.epoch
    past s set e =
        newest_holds (λ (x : TaskSetData). x.born ≤ d.tracker.epoch) (slice_get d.states s) set
        (all_unmapped (λ b. b ≤ d.tracker.epoch) (λ x. x.set.born) (attempts_of d s)
        (sound.born s).past) e

    born : (s : ℕ) (set : TaskSetData) → WasNewest (E s) d s set
        → set.born < after.tracker.epoch
    born s set w =
        let le = past s w.set w.is in
        let same = w.tames.born in omega (arith, le, same, rises)

-- whether an output of a map stage is registered is the tracker's to know
pub done_map : (t u : TrackerData) (target : Target) (results more : List Bool) (p : ℕ)
    → is_map target ≡ true → u ≡ t → is_done_by u target more p ≡ is_done_by t target results p
done_map t u (targets.Map shuffle) results more p kind is =
    ap (λ v. is_done_by v (targets.Map shuffle) results p) is
done_map t u (targets.Result node) results more p kind is = absurd (true≢false (sym kind))

-- stages after a change that leaves the tracker as it was
pub record Stills (E : ℕ → ℕ → Type 0) (d after : DagData) : Type 0 where
  pub tamed : Tamed E d after
  pub tracker : after.tracker ≡ d.tracker

pub stills_then : (E : ℕ → ℕ → Type 0) (a b c : DagData) → Stills E a b → Stills E b c
    → Stills E a c
stills_then E a b c h k =
    record { tamed = tamed_then E a b c h.tamed k.tamed; tracker = k.tracker ∙ h.tracker }

pub stills_same : (E : ℕ → ℕ → Type 0) (d : DagData) → Stills E d d
stills_same E d = record { tamed = tamed_same E d; tracker = refl }

pub stills_is : (E : ℕ → ℕ → Type 0) (d after : DagData) → after ≡ d → Stills E d after
stills_is E d after is = subst (λ x. Stills E d x) (sym is) (stills_same E d)

pub stills_with : (E : ℕ → ℕ → Type 0) (d : DagData) (s : ℕ) (f : StageState → StageState)
    → ((state : StageState) → TamesState (E s) state (f state)) → Stills E d (with_state d s f)
stills_with E d s f each =
    record { tamed = tamed_with E d s f (λ state e. each state); tracker = refl }

-- whether an output of a map stage is registered, with the same tracker
pub done_still : (E : ℕ → ℕ → Type 0) (d after : DagData) → Stills E d after → (s p : ℕ)
    → is_map (stage_at d s).target ≡ true → is_done after s p ≡ is_done d s p
done_still E d after h s p kind =
    ap (λ (stages : List StageData). is_done_by after.tracker (at_or stages s no_stage).target
    (results_in (slice_get after.states s)) p) h.tamed.stages
    ∙ done_map d.tracker after.tracker (stage_at d s).target (results_in (slice_get d.states s))
    (results_in (slice_get after.states s)) p kind h.tracker

pub stills_apart : (E : ℕ → ℕ → Type 0) (d after : DagData) → Stills E d after
    → ((s p : ℕ) (set : TaskSetData) → is_map (stage_at d s).target ≡ true → E s p
    → newest_at d s ≡ Some set → is_done d s p ≡ false → set.born < d.tracker.epoch)
    → AreBornApart d → AreBornApart after
stills_apart E d after h other a =
    apart_tamed E d after h.tamed
    (subst (λ (t : TrackerData). d.tracker.epoch ≤ t.epoch) (sym h.tracker) (omega arith))
    (λ s p kind lt lacks. sym (done_still E d after h s p kind) ∙ lacks)
    (λ s p set kind e newest lacks. subst (λ (t : TrackerData). set.born < t.epoch)
    (sym h.tracker) (other s p set kind e newest (sym (done_still E d after h s p kind) ∙ lacks)))
    a

-- nothing is left open
abbrev pub Never : ℕ → ℕ → Type 0
Never s p = ⊥

pub never_apart : (d after : DagData) → Stills Never d after → AreBornApart d → AreBornApart after
never_apart d after h a = stills_apart Never d after h (λ s p set kind none. absurd none) a

-- ---- stages that wait

-- stages that wait did so before, and those that handed out nothing don't now
pub record Waits (d after : DagData) : Type 0 where
  pub waits : (s : ℕ) → waiting_stages after s ≡ true → waiting_stages d s ≡ true
  pub dead : (s : ℕ) → is_live_set (newest_at d s) ≡ false
      → is_live_set (newest_at after s) ≡ false

pub tamed_waits : (E : ℕ → ℕ → Type 0) (d after : DagData) → Tamed E d after → Waits d after
tamed_waits E d after h =
    record {
      waits = λ s. waits s (slice_get d.states s) (slice_get after.states s) (h.each s);
      dead = λ s. dead s (slice_get d.states s) (slice_get after.states s) (h.each s);
    }
  where
    waits : (s : ℕ) (x y : Option StageState) → TamesAt (E s) x y → waits_in y ≡ true
        → waits_in x ≡ true
    waits s None None t w = w
    waits s None (Some b) t w = absurd t
    waits s (Some a) None t w = absurd t
    waits s (Some a) (Some b) t w = t.waits w

    zombie : (a b : Bool) → (a ≡ true → b ≡ true) → not a ≡ false → not b ≡ false
    zombie true true h e = refl
    zombie true false h e = absurd (true≢false (sym (h refl)))
    zombie false b h e = absurd (true≢false e)

    in_set : (s : ℕ) (x y : Option TaskSetData) → TamesIn (E s) x y → is_live_set x ≡ false
        → is_live_set y ≡ false
    in_set s None None t e = e
    in_set s None (Some b) t e = absurd t
    in_set s (Some a) None t e = absurd t
    in_set s (Some a) (Some b) t e = zombie a.is_zombie b.is_zombie t.dead e

    dead : (s : ℕ) (x y : Option StageState) → TamesAt (E s) x y
        → is_live_set (newest_among x) ≡ false → is_live_set (newest_among y) ≡ false
    dead s None None t e = e
    dead s None (Some b) t e = absurd t
    dead s (Some a) None t e = absurd t
    dead s (Some a) (Some b) t e = in_set s (newest_set a) (newest_set b) t.newest e
