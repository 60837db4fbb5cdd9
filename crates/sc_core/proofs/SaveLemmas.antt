-- Who may commit, while attempts end.
use Rattle.std.proofs.Common.{◌≡◌, ◌≢◌, ℕ, zero, suc, ◌-◌, ◌==◌, ◌&&◌, ◌||◌, All, Bool, true, false, if◌then◌else◌, List, [], ◌∷◌, Option, Some, None, IfSome, find, is_some, length, slice_get, refl, ap, sym, subst, ◌∙◌, arith, true≢false}
use Rattle.std.specs.List.{list_any}
use Rattle.std.proofs.lemmas.List.Elements.{All-cons, All-head, All-tail, All-weaker}
use Rattle.sc_base.specs.Lists.{at_or}
use Rattle.sc_ids.specs.Changes.{change_at}
use Rattle.sc_ids.specs.Graphs.{StageData}
use Rattle.sc_ids.specs.declared.attempts.AttemptId.{AttemptId}
use Rattle.sc_ids.specs.declared.blocks.Target.{Target}
use Rattle.sc_ids.specs.declared.blocks.Target.TheVariants as targets
use Rattle.sc_ids.proofs.ChangeLemmas.{at_or_change_other, length_change_at}
use Rattle.sc_commit.specs.CommitFacts.{IsSoundCommit}
use Rattle.sc_commit.specs.CommitLaws.{holder_of, winner_of}
use Rattle.sc_commit.specs.Committers.{committer_at}
use Rattle.sc_commit.specs.Committing.{denies, ended, holds, is_same}
use Rattle.sc_commit.specs.declared.committers.Ending.{Ending}
use Rattle.sc_commit.specs.declared.committers.Ending.TheVariants.{Failed}
use Rattle.sc_commit.proofs.CommitLemmas.{change_sound, ended_sound}
use Rattle.sc_tracker.specs.TrackerData.{TrackerData}
use Rattle.sc_dag.specs.DagData.{DagData, no_stage, stage_at}
use Rattle.sc_dag.specs.Outputs.{held_in, is_done, is_done_by, results_in}
use Rattle.sc_dag.specs.Reports.{after_hold}
use Rattle.sc_dag.specs.Submission.{is_map}
use Rattle.sc_dag.proofs.Tests.{clash}
use Rattle.sc_core.specs.CoreData.{CoreData, is_of, result_stage}
use Rattle.sc_core.specs.Posts.{is_save}
use Rattle.sc_core.specs.Sound.{HasWon, HoldsWell, IsAsFar, IsSoundSave, SavesWell, has_grant, is_denied_in, was_given}
use Rattle.sc_core.specs.Tells.{released}
use Rattle.sc_core.specs.declared.running.Running.{Running}
use Rattle.sc_core.proofs.GrantLemmas.{apart, denies_ended, equal, failed_winners, holder_ended, holder_is, holds_beside, holds_is, is_holds, itself}
use Rattle.sc_core.proofs.HeldLemmas.{SameHeld, hold_here, hold_other}
use Rattle.sc_core.proofs.LeftLemmas.{same_saves}
use Rattle.sc_core.proofs.LookupLemmas.{same_is}
use Rattle.sc_core.proofs.MoveLemmas.{SameResults}
use Rattle.sc_core.proofs.TaskCallLemmas.{hold_calms, hold_results}

-- one of some attempts has these numbers
abbrev pub is_among : List AttemptId → AttemptId → Bool
is_among these h = list_any (λ a. is_same a h) these

-- who holds a grant runs among these, or is one that has ended and whose grant is still to be freed
pub record HoldsAmong (these : List AttemptId) (rs : List Running) (c : CoreData) (h : AttemptId)
    : Type 0 where
  pub stage : h.stage ≡ result_stage c.dag
  pub runs : is_among these h ≡ false → find (is_of h) rs ≢ None

pub record HasWonBeside (rs : List Running) (c : CoreData) (w : AttemptId) : Type 0 where
  pub given : was_given c.dag w ≡ true
  pub stage : w.stage ≡ result_stage c.dag
  pub over : find (is_of w) rs ≡ None

-- what holds of who may commit, while these attempts run and the grants of others are to be freed
pub record SavesBut (these : List AttemptId) (rs : List Running) (c : CoreData) : Type 0 where
  pub commit : IsSoundCommit c.committers
  pub places : is_save c.committers ≡ true
      → length c.committers ≡ (stage_at c.dag (result_stage c.dag)).tasks
  pub phases : All (SavesWell c) rs
  pub holders : (p : ℕ) (h : AttemptId) → holder_of c.committers p ≡ Some h
      → HoldsAmong these rs c h
  pub winners : (p : ℕ) (w : AttemptId) → winner_of c.committers p ≡ Some w
      → HasWonBeside rs c w
  pub won : is_save c.committers ≡ true → (p : ℕ)
      → is_some (winner_of c.committers p) ≡ is_done c.dag (result_stage c.dag) p
  pub mirrors : (s p : ℕ)
      → at_or (held_in (slice_get c.dag.states s)) p false ≡ is_denied_in c s p

-- ---- between events

if_some : (P : AttemptId → Type 0) (o : Option AttemptId)
    → ((x : AttemptId) → o ≡ Some x → P x) → IfSome o P
if_some P None h = tt
if_some P (Some x) h = h x refl

of_some : (P : AttemptId → Type 0) (o : Option AttemptId) (x : AttemptId) → o ≡ Some x
    → IfSome o P → P x
of_some P o x e h = subst (λ q. IfSome q P) e h

pub saves_now : (c : CoreData) → IsSoundSave c → SavesBut [] c.running c
saves_now c save =
    record {
      commit = save.commit;
      places = save.places;
      phases = save.phases;
      holders = λ p h e. (let well = of_some (HoldsWell c) (holder_of c.committers p) h e
          (save.holders p) in
          record { stage = well.stage; runs = λ n. well.runs });
      winners = λ p w e. (let well = of_some (HasWon c) (winner_of c.committers p) w e
          (save.winners p) in
          record { given = well.given; stage = well.stage; over = well.over });
      won = save.won;
      mirrors = save.mirrors;
    }

pub save_now : (c : CoreData) (rs : List Running) → SavesBut [] rs c → c.running ≡ rs
    → IsSoundSave c
save_now c rs save is =
    record {
      commit = save.commit;
      places = save.places;
      phases = subst (λ xs. All (SavesWell c) xs) (sym is) save.phases;
      holders = λ p. if_some (HoldsWell c) (holder_of c.committers p)
          (λ h e. (let well = save.holders p h e in
          record {
            stage = well.stage;
            runs = subst (λ xs. find (is_of h) xs ≢ None) (sym is) (well.runs refl);
          }));
      winners = λ p. if_some (HasWon c) (winner_of c.committers p)
          (λ w e. (let well = save.winners p w e in
          record {
            given = well.given;
            stage = well.stage;
            over = subst (λ xs. find (is_of w) xs ≡ None) (sym is) well.over;
          }));
      won = save.won;
      mirrors = save.mirrors;
    }

-- ---- what else changes

-- a stage of results is done by its results alone
done_by_results :
    (t u : TrackerData) (target : Target) (results : List Bool) (p : ℕ) → is_map target ≡ false
    → is_done_by t target results p ≡ is_done_by u target results p
done_by_results t u (targets.Map shuffle) results p e = absurd (true≢false e)
done_by_results t u (targets.Result node) results p e = refl

pub done_same :
    (d after : DagData) (s p : ℕ) → after.stages ≡ d.stages
    → results_in (slice_get after.states s) ≡ results_in (slice_get d.states s)
    → is_map (stage_at d s).target ≡ false → is_done after s p ≡ is_done d s p
done_same d after s p stages results kind =
    ap (λ rs. is_done_by after.tracker (stage_at after s).target rs p) results
    ∙ ap (λ (all : List StageData). is_done_by after.tracker (at_or all s no_stage).target
    (results_in (slice_get d.states s)) p) stages
    ∙ done_by_results after.tracker d.tracker (stage_at d s).target
    (results_in (slice_get d.states s)) p kind

pub result_same : (c after : CoreData) → after.dag.stages ≡ c.dag.stages
    → result_stage after.dag ≡ result_stage c.dag
result_same c after stages = ap (λ (all : List StageData). length all - 1) stages

pub saves_well : (c after : CoreData) (r : Running) → after.dag.stages ≡ c.dag.stages
    → is_save after.committers ≡ is_save c.committers
    → has_grant after r.hand_out.attempt ≡ has_grant c r.hand_out.attempt → SavesWell c r
    → SavesWell after r
saves_well c after r stages saves grant well =
    record {
      saver = λ n. (saves ∙ (well.saver n).0, (well.saver n).1 ∙ sym (result_same c after stages));
      far = subst (IsAsFar r.phase) (sym grant) well.far;
    }

-- What leaves stages, results, what is held back and what was handed out. Of a job that saves
-- nothing the results don't matter.
pub record Stays (c after : CoreData) : Type 0 where
  pub stages : after.dag.stages ≡ c.dag.stages
  pub results : is_save c.committers ≡ true → SameResults c.dag after.dag
  pub held : SameHeld c.dag after.dag
  pub given : (b : AttemptId) → was_given c.dag b ≡ true → was_given after.dag b ≡ true
  pub committers : after.committers ≡ c.committers

pub saves_stay : (these : List AttemptId) (rs : List Running) (c after : CoreData)
    → is_map (stage_at c.dag (result_stage c.dag)).target ≡ false → Stays c after
    → SavesBut these rs c → SavesBut these rs after
saves_stay these rs c after kind stays save =
    record {
      commit = subst IsSoundCommit (sym stays.committers) save.commit;
      places = λ s. ap length stays.committers ∙ save.places (saves s) ∙ sym tasks;
      phases = All-weaker (SavesWell c) (SavesWell after)
          (λ r w. saves_well c after r stays.stages (ap is_save stays.committers)
          (ap (λ ks. holds r.hand_out.attempt
          (committer_at ks r.hand_out.attempt.partition)) stays.committers) w) rs save.phases;
      holders = λ p h e. (let well = save.holders p h (before_holder p h e) in
          record { stage = well.stage ∙ sym same; runs = well.runs });
      winners = λ p w e. (let well = save.winners p w (before_winner p w e) in
          record {
            given = stays.given w well.given;
            stage = well.stage ∙ sym same;
            over = well.over;
          });
      won = λ s p. ap (λ ks. is_some (winner_of ks p)) stays.committers ∙ save.won (saves s) p
          ∙ sym (ap (λ (s : ℕ). is_done after.dag s p) same
          ∙ done_same c.dag after.dag (result_stage c.dag) p stays.stages
          (stays.results (saves s) (result_stage c.dag)) kind);
      mirrors = λ s p. ap (λ flags. at_or flags p false) (stays.held s) ∙ save.mirrors s p
          ∙ sym (ap (λ (r : ℕ). (s == r) && denies (committer_at after.committers p)) same
          ∙ ap (λ ks. (s == result_stage c.dag) && denies (committer_at ks p))
          stays.committers);
    }
  where
    same : result_stage after.dag ≡ result_stage c.dag
    same = result_same c after stays.stages

    saves : is_save after.committers ≡ true → is_save c.committers ≡ true
    saves s = ap is_save (sym stays.committers) ∙ s

    tasks : (stage_at after.dag (result_stage after.dag)).tasks
        ≡ (stage_at c.dag (result_stage c.dag)).tasks
    tasks =
        ap (λ (s : ℕ). (stage_at after.dag s).tasks) same
        ∙ ap (λ (all : List StageData). (at_or all (result_stage c.dag) no_stage).tasks)
        stays.stages

    before_holder : (p : ℕ) (h : AttemptId) → holder_of after.committers p ≡ Some h
        → holder_of c.committers p ≡ Some h
    before_holder p h e = ap (λ ks. holder_of ks p) (sym stays.committers) ∙ e

    before_winner : (p : ℕ) (w : AttemptId) → winner_of after.committers p ≡ Some w
        → winner_of c.committers p ≡ Some w
    before_winner p w e = ap (λ ks. winner_of ks p) (sym stays.committers) ∙ e

-- ---- attempts end

-- other attempts run
pub saves_others :
    (these those : List AttemptId) (rs xs : List Running) (c : CoreData)
    → All (SavesWell c) xs
    → ((p : ℕ) (h : AttemptId) → holder_of c.committers p ≡ Some h → is_among those h ≡ false
    → (is_among these h ≡ false → find (is_of h) rs ≢ None) → find (is_of h) xs ≢ None)
    → ((w : AttemptId) → was_given c.dag w ≡ true → find (is_of w) rs ≡ None
    → find (is_of w) xs ≡ None)
    → SavesBut these rs c → SavesBut those xs c
saves_others these those rs xs c well holds over save =
    record {
      commit = save.commit;
      places = save.places;
      phases = well;
      holders = λ p h e. (let was = save.holders p h e in
          record { stage = was.stage; runs = λ n. holds p h e n was.runs });
      winners = λ p w e. (let was = save.winners p w e in
          record {
            given = was.given;
            stage = was.stage;
            over = over w was.given was.over;
          });
      won = save.won;
      mirrors = save.mirrors;
    }

-- an attempt that holds no grant has none to be freed
pub saves_without :
    (a : AttemptId) (these : List AttemptId) (rs : List Running) (c : CoreData)
    → has_grant c a ≡ false → SavesBut (a ∷ these) rs c → SavesBut these rs c
saves_without a these rs c none save =
    saves_others (a ∷ these) these rs rs c save.phases
    (λ p h e n runs. runs (by p h e n (is_same a h) refl)) (λ w g e. e) save
  where
    by : (p : ℕ) (h : AttemptId) → holder_of c.committers p ≡ Some h → is_among these h ≡ false
        → (b : Bool) → is_same a h ≡ b → (b || is_among these h) ≡ false
    by p h e n false is = n
    by p h e n true is =
        let same : a ≡ h = same_is a h is in
        let here : h.partition ≡ p = holder_is c.committers p h save.commit e in
        absurd (clash
        (subst (λ (x : AttemptId). holds x (committer_at c.committers x.partition) ≡ true)
        (sym same)
        (is_holds (committer_at c.committers h.partition) h
        (ap (holder_of c.committers) here ∙ e))) none)

-- what is held back, once the grant of an attempt is freed where it holds one
pub freed_flags :
    (d : DagData) (a : AttemptId) (has : Bool) (result s p : ℕ) (denied : Bool)
    → (has ≡ true → a.stage ≡ result)
    → at_or (held_in (slice_get d.states s)) p false ≡ ((s == result) && denied)
    → at_or (held_in (slice_get
    (if has then after_hold d a.stage a.partition false else d).states s)) p false
    ≡ ((s == result) && (if (p == a.partition) && has then false else denied))
freed_flags d a false result s p denied stage is = is ∙ by (p == a.partition)
  where
    by : (x : Bool) → ((s == result) && denied)
        ≡ ((s == result) && (if x && false then false else denied))
    by true = refl
    by false = refl
freed_flags d a true result s p denied stage is =
    by (s == result) refl (p == a.partition) refl
  where
    at : a.stage ≡ result
    at = stage refl

    flags : List Bool
    flags = held_in (slice_get d.states a.stage)

    off : (xs : List Bool) (i : ℕ) → at_or (change_at xs i (λ b. false)) i false ≡ false
    off [] i = refl
    off (x ∷ xs) zero = refl
    off (x ∷ xs) (suc i) = off xs i

    by : (x : Bool) → (s == result) ≡ x → (y : Bool) → (p == a.partition) ≡ y
        → at_or (held_in (slice_get (after_hold d a.stage a.partition false).states s)) p false
        ≡ (x && (if y && true then false else denied))
    by true e true f =
        let is_stage : s ≡ a.stage = equal s result e ∙ sym at in
        let is_part : p ≡ a.partition = equal p a.partition f in
        rw (is_stage, is_part)
        (ap (λ xs. at_or xs a.partition false) (hold_here d a.stage a.partition false)
        ∙ off flags a.partition)
    by true e false f =
        let is_stage : s ≡ a.stage = equal s result e ∙ sym at in
        ap (λ (r : ℕ). at_or (held_in (slice_get
        (after_hold d a.stage a.partition false).states r)) p false) is_stage
        ∙ ap (λ xs. at_or xs p false) (hold_here d a.stage a.partition false)
        ∙ at_or_change_other flags a.partition p false (λ b. false)
        (apart p a.partition f)
        ∙ ap (λ (r : ℕ). at_or (held_in (slice_get d.states r)) p false) (sym is_stage)
        ∙ is ∙ ap (λ b. b && denied) e
    by false e y f =
        ap (λ xs. at_or xs p false)
        (hold_other d a.stage s a.partition false (other (a.stage == s) refl))
        ∙ is ∙ ap (λ b. b && denied) e
      where
        other : (b : Bool) → (a.stage == s) ≡ b → (a.stage == s) ≡ false
        other false g = g
        other true g = absurd (clash (same (equal a.stage s g)) e)
          where
            same : a.stage ≡ s → (s == result) ≡ true
            same h = (let q : s ≡ result = sym h ∙ at in rw q (itself result))

-- ---- the grant of one that failed

-- what a grant that is freed leaves of the stages
pub record Freed (d after : DagData) : Type 0 where
  pub stages : after.stages ≡ d.stages
  pub results : SameResults d after
  pub given : (b : AttemptId) → was_given d b ≡ true → was_given after b ≡ true

pub freed : (c : CoreData) (a : AttemptId) (how : Ending) → Freed c.dag (released c a how).dag
freed c a how = by (holds a (committer_at c.committers a.partition))
  where
    by : (b : Bool) → Freed c.dag (if b then after_hold c.dag a.stage a.partition false else c.dag)
    by true =
        let calm = hold_calms c.dag a.stage a.partition false in
        record {
          stages = calm.stages;
          results = hold_results c.dag a.stage a.partition false;
          given = calm.given;
        }
    by false = record { stages = refl; results = λ s. refl; given = λ b g. g }

pub saves_released :
    (a : AttemptId) (these : List AttemptId) (rs : List Running) (c : CoreData)
    → is_map (stage_at c.dag (result_stage c.dag)).target ≡ false
    → All (λ r. is_same a r.hand_out.attempt ≡ false) rs → SavesBut (a ∷ these) rs c
    → SavesBut these rs (released c a Failed)
saves_released a these rs c kind other save =
    record {
      commit = change_sound c.committers a.partition (ended a Failed) (ended_sound a Failed)
          save.commit;
      places = λ s. length_change_at c.committers a.partition (ended a Failed)
          ∙ save.places (saves s) ∙ sym tasks;
      phases = well rs other save.phases;
      holders = λ p h e. (let was = holder_ended c.committers a Failed p h save.commit e in
          let well = save.holders p h was.0 in
          record {
            stage = well.stage ∙ sym same;
            runs = λ n. well.runs (rw was.1 n);
          });
      winners = λ p w e. (let was = save.winners p w
          (sym (failed_winners c.committers a p) ∙ e) in
          record { given = given w was.given; stage = was.stage ∙ sym same; over = was.over });
      won = λ s p. ap (λ o. is_some o) (failed_winners c.committers a p) ∙ save.won (saves s) p
          ∙ sym (done p);
      mirrors = λ s p. freed_flags c.dag a (holds a (committer_at c.committers a.partition))
          (result_stage c.dag) s p (denies (committer_at c.committers p)) holder_stage
          (save.mirrors s p)
          ∙ sym (ap (λ (r : ℕ). (s == r) && denies (committer_at next.committers p)) same
          ∙ ap (λ b. (s == result_stage c.dag) && b) (denies_ended c.committers a Failed p));
    }
  where
    next : CoreData
    next = released c a Failed

    free : Freed c.dag next.dag
    free = freed c a Failed

    same : result_stage next.dag ≡ result_stage c.dag
    same = result_same c next free.stages

    saves : is_save next.committers ≡ true → is_save c.committers ≡ true
    saves s = sym (same_saves c.committers a.partition (ended a Failed)) ∙ s

    tasks : (stage_at next.dag (result_stage next.dag)).tasks
        ≡ (stage_at c.dag (result_stage c.dag)).tasks
    tasks =
        ap (λ (s : ℕ). (stage_at next.dag s).tasks) same
        ∙ ap (λ (all : List StageData). (at_or all (result_stage c.dag) no_stage).tasks)
        free.stages

    done : (p : ℕ) → is_done next.dag (result_stage next.dag) p
        ≡ is_done c.dag (result_stage c.dag) p
    done p =
        ap (λ (s : ℕ). is_done next.dag s p) same
        ∙ done_same c.dag next.dag (result_stage c.dag) p free.stages
        (free.results (result_stage c.dag)) kind

    given : (w : AttemptId) → was_given c.dag w ≡ true → was_given next.dag w ≡ true
    given w g = free.given w g

    holder_stage : holds a (committer_at c.committers a.partition) ≡ true
        → a.stage ≡ result_stage c.dag
    holder_stage e =
        (save.holders a.partition a (holds_is (committer_at c.committers a.partition) a e)).stage

    well : (xs : List Running) → All (λ r. is_same a r.hand_out.attempt ≡ false) xs
        → All (SavesWell c) xs → All (SavesWell next) xs
    well [] others all = λ i r l. absurd (omega (arith, l))
    well (x ∷ xs) others all =
        All-cons (SavesWell next) x xs
        (saves_well c next x free.stages
        (same_saves c.committers a.partition (ended a Failed))
        (holds_beside c.committers a x.hand_out.attempt Failed
        (All-head (λ r. is_same a r.hand_out.attempt ≡ false) x xs others))
        (All-head (SavesWell c) x xs all))
        (well xs (All-tail (λ r. is_same a r.hand_out.attempt ≡ false) x xs others)
        (All-tail (SavesWell c) x xs all))
