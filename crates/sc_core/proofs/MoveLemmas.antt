-- What a change of the stages of a job does to the attempts that run.
use Rattle.std.proofs.Common.{◌≡◌, ℕ, ◌==◌, ◌&&◌, Bool, true, false, if◌then◌else◌, List, length, Option, Some, None, option_map, slice_get, refl, ap, sym, subst, ◌∙◌, arith}
use Rattle.std.proofs.lemmas.Bool.Decides.{nat_tests}
use Rattle.sc_ids.specs.Changes.{change_at}
use Rattle.sc_ids.specs.declared.attempts.AttemptId.{AttemptId}
use Rattle.sc_ids.proofs.ChangeLemmas.{slice_get_change_other, slice_get_change_same}
use Rattle.sc_commit.specs.Committing.{is_same}
use Rattle.sc_tracker.specs.TrackerData.{TrackerData, trust_of}
use Rattle.sc_dag.specs.DagData.{DagData, StageState, with_state, with_states, with_tracker}
use Rattle.sc_dag.specs.Outputs.{results_in}
use Rattle.sc_dag.specs.Sound.{runner_of}
use Rattle.sc_core.specs.Sound.{was_given}
use Rattle.sc_core.proofs.SetLemmas.{nothing}
use Rattle.sc_core.proofs.StateLemmas.{MovesOf, calm_same, gave_in, is_number_of, runs_in}

-- What a change of stages leaves as it is, and which attempts run then: those that pass a test run
-- somewhere else, or nowhere, and all others as before.
pub record Moves (test : AttemptId → Bool) (new : Option ℕ) (d after : DagData) : Type 0 where
  pub stages : after.stages ≡ d.stages
  pub limits : after.limits ≡ d.limits
  pub many : length after.tracker.trust ≡ length d.tracker.trust
  pub lost : (e : ℕ) → (trust_of after.tracker e).lost ≡ (trust_of d.tracker e).lost
  pub runners : (b : AttemptId) → runner_of after b ≡ (if test b then new else runner_of d b)
  -- what was handed out stays so
  pub given : (b : AttemptId) → was_given d b ≡ true → was_given after b ≡ true

-- nothing that runs is changed
abbrev pub Calm : DagData → DagData → Type 0
Calm d after = Moves nothing None d after

-- no result is won or lost
abbrev pub SameResults : DagData → DagData → Type 0
SameResults d after =
    (s : ℕ) → results_in (slice_get after.states s) ≡ results_in (slice_get d.states s)

pub still : (d : DagData) → Calm d d
still d =
    record {
      stages = refl;
      limits = refl;
      many = refl;
      lost = λ e. refl;
      runners = λ b. refl;
      given = λ b h. h;
    }

-- a calm change behind another one, and before it
pub moves_then :
    (test : AttemptId → Bool) (new : Option ℕ) (c d e : DagData)
    → Moves test new c d → Calm d e → Moves test new c e
moves_then test new c d e h k =
    record {
      stages = k.stages ∙ h.stages;
      limits = k.limits ∙ h.limits;
      many = k.many ∙ h.many;
      lost = λ x. k.lost x ∙ h.lost x;
      runners = λ b. k.runners b ∙ h.runners b;
      given = λ b g. k.given b (h.given b g);
    }

pub calm_then :
    (test : AttemptId → Bool) (new : Option ℕ) (c d e : DagData)
    → Calm c d → Moves test new d e → Moves test new c e
calm_then test new c d e h k =
    record {
      stages = k.stages ∙ h.stages;
      limits = k.limits ∙ h.limits;
      many = k.many ∙ h.many;
      lost = λ x. k.lost x ∙ h.lost x;
      runners = λ b. k.runners b ∙ ap (λ o. if test b then new else o) (h.runners b);
      given = λ b g. k.given b (h.given b g);
    }

-- ---- one stage changed

pub state_moves :
    (d : DagData) (a : AttemptId) (new : Option ℕ) (change : StageState → StageState)
    → ((state : StageState) → slice_get d.states a.stage ≡ Some state
    → MovesOf (is_number_of a) new (Some state) (Some (change state)))
    → (slice_get d.states a.stage ≡ None → new ≡ None)
    → Moves (is_same a) new d (with_state d a.stage change)
state_moves d a new change moves none =
    record {
      stages = refl;
      limits = refl;
      many = refl;
      lost = λ e. refl;
      runners = λ b. by b (a.stage == b.stage) refl;
      given = λ b. given b (a.stage == b.stage) refl;
    }
  where
    after : DagData
    after = with_state d a.stage change

    here : (o : Option StageState) → slice_get d.states a.stage ≡ o
        → MovesOf (is_number_of a) new o (option_map change o)
    here None e =
        record {
          runners = λ b. rw (none e) (nowhere (is_number_of a b) (runs_in None b));
          given = λ b h. h;
        }
      where
        nowhere : (x : Bool) (o : Option ℕ) → o ≡ (if x then o else o)
        nowhere true o = refl
        nowhere false o = refl
    here (Some state) e = moves state e

    same : slice_get after.states a.stage ≡ option_map change (slice_get d.states a.stage)
    same = slice_get_change_same d.states a.stage change

    by : (b : AttemptId) (x : Bool) → (a.stage == b.stage) ≡ x
        → runs_in (slice_get after.states b.stage) b
        ≡ (if x && is_number_of a b then new else runs_in (slice_get d.states b.stage) b)
    by b true e =
        let s : a.stage ≡ b.stage = grind (arith, nat_tests, e) in
        subst (λ (s : ℕ). runs_in (slice_get after.states s) b
        ≡ (if is_number_of a b then new else runs_in (slice_get d.states s) b)) s
        (ap (λ o. runs_in o b) same
        ∙ (here (slice_get d.states a.stage) refl).runners b)
    by b false e =
        ap (λ o. runs_in o b)
        (slice_get_change_other d.states a.stage b.stage change
        (λ is. grind (arith, nat_tests, e, is)))

    given : (b : AttemptId) (x : Bool) → (a.stage == b.stage) ≡ x
        → gave_in (slice_get d.states b.stage) b ≡ true
        → gave_in (slice_get after.states b.stage) b ≡ true
    given b true e h =
        let s : a.stage ≡ b.stage = grind (arith, nat_tests, e) in
        ap (λ (s : ℕ). gave_in (slice_get after.states s) b) (sym s)
        ∙ ap (λ o. gave_in o b) same
        ∙ (here (slice_get d.states a.stage) refl).given b
        (ap (λ (s : ℕ). gave_in (slice_get d.states s) b) s ∙ h)
    given b false e h =
        ap (λ o. gave_in o b)
        (slice_get_change_other d.states a.stage b.stage change
        (λ is. grind (arith, nat_tests, e, is)))
        ∙ h

-- all stages changed calmly
pub states_calm :
    (d : DagData) (states : List StageState)
    → ((s : ℕ) → MovesOf nothing None (slice_get d.states s) (slice_get states s))
    → Calm d (with_states d states)
states_calm d states moves =
    record {
      stages = refl;
      limits = refl;
      many = refl;
      lost = λ e. refl;
      runners = λ b. (moves b.stage).runners b;
      given = λ b h. (moves b.stage).given b h;
    }

-- one stage changed calmly
pub state_calm :
    (d : DagData) (s : ℕ) (change : StageState → StageState)
    → ((state : StageState) → MovesOf nothing None (Some state) (Some (change state)))
    → Calm d (with_state d s change)
state_calm d s change moves =
    states_calm d (change_at d.states s change) (λ r. by r (s == r) refl)
  where
    here : (o : Option StageState) → MovesOf nothing None o (option_map change o)
    here None = calm_same None
    here (Some state) = moves state

    by : (r : ℕ) (x : Bool) → (s == r) ≡ x
        → MovesOf nothing None (slice_get d.states r) (slice_get (change_at d.states s change) r)
    by r true e =
        let is : s ≡ r = grind (arith, nat_tests, e) in
        subst (λ (r : ℕ). MovesOf nothing None (slice_get d.states r)
        (slice_get (change_at d.states s change) r)) is
        (rw (slice_get_change_same d.states s change) (here (slice_get d.states s)))
    by r false e =
        rw (slice_get_change_other d.states s r change (λ is. grind (arith, nat_tests, e, is)))
        (calm_same (slice_get d.states r))

-- another tracker that knows of the same executors and losses
pub tracker_calm :
    (d : DagData) (t : TrackerData) → length t.trust ≡ length d.tracker.trust
    → ((e : ℕ) → (trust_of t e).lost ≡ (trust_of d.tracker e).lost) → Calm d (with_tracker d t)
tracker_calm d t many lost =
    record {
      stages = refl;
      limits = refl;
      many = many;
      lost = lost;
      runners = λ b. refl;
      given = λ b h. h;
    }

-- ---- results

pub results_then :
    (c d e : DagData) → SameResults c d → SameResults d e → SameResults c e
results_then c d e h k s = k s ∙ h s

pub state_results :
    (d : DagData) (s : ℕ) (change : StageState → StageState)
    → ((state : StageState) → (change state).results ≡ state.results)
    → SameResults d (with_state d s change)
state_results d s change same r = by (s == r) refl
  where
    here : (o : Option StageState) → results_in (option_map change o) ≡ results_in o
    here None = refl
    here (Some state) = same state

    by : (x : Bool) → (s == r) ≡ x
        → results_in (slice_get (change_at d.states s change) r)
        ≡ results_in (slice_get d.states r)
    by true e =
        let is : s ≡ r = grind (arith, nat_tests, e) in
        subst (λ (r : ℕ). results_in (slice_get (change_at d.states s change) r)
        ≡ results_in (slice_get d.states r)) is
        (ap results_in (slice_get_change_same d.states s change) ∙ here (slice_get d.states s))
    by false e =
        ap results_in
        (slice_get_change_other d.states s r change (λ is. grind (arith, nat_tests, e, is)))
