-- A stage that is submitted once more.
use Rattle.std.proofs.Common.{◌≡◌, ◌⊎◌, inl, inr, ℕ, zero, suc, ◌+◌, ◌<◌, ◌≤◌, ◌&&◌, Bool, true, false, length, Option, Some, None, is_some, option_map, slice_get, refl, ap, sym, subst, ◌∙◌, arith, rules, true≢false, zero-add}
use Rattle.std.specs.List.{list_all}
use Rattle.std.proofs.lemmas.Bool.{cases_eq}
use Rattle.std.proofs.lemmas.Bool.Decides.{nat_tests}
use Rattle.sc_base.specs.Lists.{numbers_below}
use Rattle.sc_dag.specs.DagData.{DagData, StageState, is_live_set, newest_at, newest_set, stage_at, with_states}
use Rattle.sc_dag.specs.Laws.{SubmissionsRepeat}
use Rattle.sc_dag.specs.Outputs.{has_inputs, is_complete}
use Rattle.sc_dag.specs.Sound.{AreSoundStages}
use Rattle.sc_dag.specs.Submission.{AreLookedAt, as_waiting, is_asked_for, is_idle_in, moved_if, reads, started, this_stage}
use Rattle.sc_dag.proofs.Items.{by_number_same}
use Rattle.sc_dag.proofs.Looking.{asked_by, complete_past, lacking_below, lacking_there, looked_asked, looked_lacks, looked_submitted, looked_why, read_before}
use Rattle.sc_dag.proofs.Moving.{after_looking, complete_after, idle_dead, looked_goes, newest_among, newest_started, state_after, state_kept}
use Rattle.sc_dag.proofs.Tests.{any_found, both_left, both_right, clash}

module _ (d : DagData) (s : ℕ) (one two : ℕ → Bool)
    (sound : AreSoundStages d.stages d.tracker) (long : length d.states ≡ length d.stages)
    (first : AreLookedAt d (this_stage s) one)
    (second : AreLookedAt (after_looking d one) (this_stage s) two)
    (still : is_live_set (newest_at (after_looking d one) s) ≡ false) where
  itself : this_stage s s ≡ true
  itself = grind (arith, nat_tests)

  lacked : (k : ℕ) → two k ≡ true → is_complete d k ≡ false
  lacked k is =
      sym (complete_after d one k)
      ∙ looked_lacks (after_looking d one) (this_stage s) two k second is

  -- the stage itself was looked at before
  was : two s ≡ true → one s ≡ true
  was is = looked_submitted d (this_stage s) one s first (lacked s is) itself

  -- no parent of it is looked at now
  no_parent : (k : ℕ) → two k ≡ true → two s ≡ true → reads d s k ≡ true
      → is_idle_in (slice_get (after_looking d one).states k) ≡ true → ⊥
  no_parent k is at read idle = by (one k) refl
    where
      lack : is_complete d k ≡ false
      lack = lacked k is

      by : (b : Bool) → one k ≡ b → ⊥
      by true e =
          clash (looked_goes d one k (lacking_there d k long lack) e)
          (idle_dead (slice_get (after_looking d one).states k) idle)
      by false e =
          clash (looked_asked d (this_stage s) one k first lack
          (ap is_idle_in (sym (state_kept d one k e)) ∙ idle)
          (asked_by d one s k (lacking_below d s (lacked s at)) (was at) read)) e

  only_from : (n k : ℕ) → length d.stages ≤ k + n → two k ≡ true → k ≡ s
  only_from zero k le is =
      absurd (clash (complete_past d k (omega (arith, le))) (lacked k is))
  only_from (suc n) k le is =
      by (cases_eq k s)
      (λ c lt e. only_from n c (omega (arith, le, lt)) e)
    where
      other : (k ≡ s → ⊥) → this_stage s k ≡ false
      other ne = grind (arith, nat_tests, ne)

      by : (k ≡ s) ⊎ (k ≡ s → ⊥) → ((c : ℕ) → k < c → two c ≡ true → c ≡ s) → k ≡ s
      by (inl e) below = e
      by (inr ne) below =
          let after = after_looking d one in
          let is_idle = is_idle_in (slice_get after.states k) in
          let asked = is_asked_for after two k in
          let why = rw (other ne) at (looked_why after (this_stage s) two k second is) in
          let idle = both_left is_idle asked why in
          let found = any_found (λ c. two c && reads d c k) (numbers_below (length d.stages))
          (both_right is_idle asked why) in
          let looks : two found.0 ≡ true = both_left (two found.0) (reads d found.0 k) found.1 in
          let read : reads d found.0 k ≡ true =
          both_right (two found.0) (reads d found.0 k) found.1 in
          let same : found.0 ≡ s = below found.0 (read_before d found.0 k sound read) looks in
          absurd (no_parent k is (subst (λ c. two c ≡ true) same looks)
          (subst (λ c. reads d c k ≡ true) same read) idle)

  -- no other stage is looked at
  only : (k : ℕ) → two k ≡ true → k ≡ s
  only k is = only_from (length d.stages) k (omega arith) is

  no_inputs : two s ≡ true → has_inputs d s ≡ false
  no_inputs is = by (slice_get d.states s) refl (has_inputs d s) refl
    where
      by : (o : Option StageState) → slice_get d.states s ≡ o → (b : Bool) → has_inputs d s ≡ b
          → b ≡ false
      by o e false h = refl
      by None e true h =
          absurd (true≢false (sym (lacking_there d s long (lacked s is)) ∙ ap is_some e))
      by (Some state) e true h =
          absurd (clash (ap is_live_set (newest_started d.tracker d.limits (stage_at d s) state))
          (ap is_live_set (sym (ap newest_among now ∙ started_is)) ∙ still))
        where
          now : slice_get (after_looking d one).states s ≡ Some (moved_if d one s state)
          now = state_after d one s ∙ ap (option_map (moved_if d one s)) e

          started_is : newest_set (moved_if d one s state)
              ≡ newest_set (started d.tracker d.limits (stage_at d s) state)
          started_is = rw (was is, h) refl

  -- and it stays as it is
  stays : two s ≡ true → (state : StageState)
      → slice_get (after_looking d one).states s ≡ Some state
      → moved_if (after_looking d one) two s state ≡ state
  stays is state e = by (slice_get d.states s) (sym (state_after d one s) ∙ e)
    where
      none : has_inputs (after_looking d one) s ≡ false
      none =
          ap (λ f. list_all f (stage_at d s).parents) (λ i. λ p. complete_after d one p i)
          ∙ no_inputs is

      by : (o : Option StageState) → option_map (moved_if d one s) o ≡ Some state
          → moved_if (after_looking d one) two s state ≡ state
      by None h = absurd (search (rules, h))
      by (Some x) h =
          let is_x : as_waiting x ≡ state = search (rules, rw (was is, no_inputs is) at h) in
          rw (is, none) (subst (λ y. as_waiting y ≡ y) is_x refl)

  pub repeated : after_looking (after_looking d one) two ≡ after_looking d one
  repeated =
      ap (with_states d)
      (by_number_same (moved_if (after_looking d one) two) 0 (after_looking d one).states
      (λ k state e. at k state e))
    where
      each : (k : ℕ) (state : StageState) → slice_get (after_looking d one).states k ≡ Some state
          → (b : Bool) → two k ≡ b → moved_if (after_looking d one) two k state ≡ state
      each k state e true is =
          let P : ℕ → Type 0 = λ j. two j ≡ true
          → slice_get (after_looking d one).states j ≡ Some state
          → moved_if (after_looking d one) two j state ≡ state in
          subst P (sym (only k is)) (λ at found. stays at state found) is e
      each k state e false is = rw is refl

      at : (k : ℕ) (state : StageState) → slice_get (after_looking d one).states k ≡ Some state
          → moved_if (after_looking d one) two (0 + k) state ≡ state
      at k state e =
          subst (λ j. moved_if (after_looking d one) two j state ≡ state) (sym (zero-add k))
          (each k state e (two k) refl)

pub submissions_repeat : SubmissionsRepeat
submissions_repeat d after again s sound (one, are, is) still (two, are', is') =
    is' ∙ (ap (λ x. after_looking x two) is ∙ (repeated d s one two sound.stages sound.states are
    (subst (λ x. AreLookedAt x (this_stage s) two) is are')
    (subst (λ x. is_live_set (newest_at x s) ≡ false) is still) ∙ sym is))
