-- A submission settles what was to be submitted.
use Rattle.std.proofs.Common.{◌≡◌, ◌⊎◌, inl, inr, ℕ, ◌<◌, ◌||◌, ◌&&◌, not, Bool, true, false, length, Option, Some, None, slice_get, refl, ap, sym, subst, ◌∙◌}
use Rattle.std.proofs.lemmas.Bool.{or_left}
use Rattle.std.specs.List.{list_any}
use Rattle.sc_dag.specs.DagData.{DagData, StageState, is_live, is_live_set, newest_at, stage_at}
use Rattle.sc_dag.specs.Laws.{GoesOn, SubmissionsSettle}
use Rattle.sc_dag.specs.Outputs.{is_complete}
use Rattle.sc_dag.specs.Reports.{failed_count}
use Rattle.sc_dag.specs.Settled.{IsSettledBy, IsUnderWay, goes_on, will_go_on}
use Rattle.sc_dag.specs.Submission.{AreLookedAt, is_asked_for, is_idle_in, waiting_stages, waits_in}
use Rattle.sc_dag.proofs.Looking.{asked_by, lacking_below, lacking_there, looked_asked, looked_lacks, looked_submitted, looked_why}
use Rattle.sc_dag.proofs.Moving.{after_looking, busy, complete_after, goes_after, looked_goes, newest_among, newest_looked, state_kept, waits_looked}
use Rattle.sc_dag.proofs.Tests.{any_mono, any_within, both_left, both_right, clash, is_in, not_all, not_true}

-- a submission settles what was to be submitted
pub settles :
    (d : DagData) (submitted looked : ℕ → Bool) → length d.states ≡ length d.stages
    → IsSettledBy d submitted
    → ((s : ℕ) → submitted s ≡ true → is_live_set (newest_at d s) ≡ false)
    → AreLookedAt d submitted looked
    → GoesOn d (after_looking d looked)
    × ((s : ℕ) → submitted s ≡ true → is_complete d s ≡ false
    → IsUnderWay (after_looking d looked) s)
settles d submitted looked same settled dead_before are =
    ((record { dead = dead; lacking = lacking; waits = waits; failed = failed }, keeps), submits)
  where
    after : DagData
    after = after_looking d looked

    goes : (s : ℕ) → looked s ≡ true → goes_on after s ≡ true
    goes s is =
        looked_goes d looked s
        (lacking_there d s same (looked_lacks d submitted looked s are is)) is

    lacks : (s : ℕ) → is_complete d s ≡ false → is_complete after s ≡ false
    lacks s e = complete_after d looked s ∙ e

    kept : (s : ℕ) → looked s ≡ false → waiting_stages after s ≡ true
        → waiting_stages d s ≡ true
    kept s no_look w = sym (ap waits_in (state_kept d looked s no_look)) ∙ w

    -- what is looked at hands out nothing
    still : (s : ℕ) → looked s ≡ true → is_live_set (newest_at d s) ≡ false
    still s is = by (submitted s) refl (looked_why d submitted looked s are is)
      where
        idle : (o : Option StageState) → is_idle_in o ≡ true
            → is_live_set (newest_among o) ≡ false
        idle None e = refl
        idle (Some state) e = not_true (is_live state) (both_right (not state.waits) _ e)

        by : (b : Bool) → submitted s ≡ b
            → (b || (is_idle_in (slice_get d.states s) && is_asked_for d looked s)) ≡ true
            → is_live_set (newest_at d s) ≡ false
        by true e why = dead_before s e
        by false e why = idle (slice_get d.states s) (both_left _ (is_asked_for d looked s) why)

    dead : (s : ℕ) → waiting_stages after s ≡ true → is_live_set (newest_at after s) ≡ false
    dead s w = by (looked s) refl
      where
        by : (b : Bool) → looked s ≡ b → is_live_set (newest_at after s) ≡ false
        by true is =
            ap is_live_set (newest_looked d looked s (waits_looked d looked s is w)) ∙ still s is
        by false is =
            ap (λ o. is_live_set (newest_among o)) (state_kept d looked s is)
            ∙ settled.dead s (kept s is w)

    lacking : (s : ℕ) → waiting_stages after s ≡ true → is_complete after s ≡ false
    lacking s w = by (looked s) refl
      where
        by : (b : Bool) → looked s ≡ b → is_complete after s ≡ false
        by true is = lacks s (looked_lacks d submitted looked s are is)
        by false is = lacks s (settled.lacking s (kept s is w))

    -- a stage that was to go on does
    will : (p : ℕ) → will_go_on d submitted p ≡ true
        → will_go_on after (λ q. false) p ≡ true
    will p e = rw (lacks p lack) (or_left (goes_on after p) false (by (goes_on d p) refl what))
      where
        lack : is_complete d p ≡ false
        lack = not_true (is_complete d p) (both_left (not (is_complete d p)) _ e)

        what : (goes_on d p || submitted p) ≡ true
        what = both_right (not (is_complete d p)) (goes_on d p || submitted p) e

        by : (b : Bool) → goes_on d p ≡ b → (b || submitted p) ≡ true → goes_on after p ≡ true
        by true h k = goes_after d looked p h
        by false h k = goes p (looked_submitted d submitted looked p are lack k)

    -- a parent of a stage that is looked at goes on, unless it is complete
    parent : (s : ℕ) → looked s ≡ true → (p : ℕ) → is_in (stage_at d s).parents p ≡ true
        → not (is_complete d p) ≡ true → will_go_on after (λ q. false) p ≡ true
    parent s is p read e =
        rw (lacks p lack)
        (or_left (goes_on after p) false (by (is_idle_in (slice_get d.states p)) refl))
      where
        lack : is_complete d p ≡ false
        lack = not_true (is_complete d p) e

        asked : is_asked_for d looked p ≡ true
        asked = asked_by d looked s p
            (lacking_below d s (looked_lacks d submitted looked s are is)) is read

        by : (b : Bool) → is_idle_in (slice_get d.states p) ≡ b → goes_on after p ≡ true
        by true h = goes p (looked_asked d submitted looked p are lack h asked)
        by false h =
            goes_after d looked p (busy (slice_get d.states p) (lacking_there d p same lack) h)

    waits : (s : ℕ) → waiting_stages after s ≡ true
        → (false ≡ true) ⊎ (list_any (will_go_on after (λ p. false)) (stage_at d s).parents ≡ true)
    waits s w = inr (by (looked s) refl)
      where
        had : looked s ≡ false
            → (submitted s ≡ true)
            ⊎ (list_any (will_go_on d submitted) (stage_at d s).parents ≡ true)
            → list_any (will_go_on after (λ p. false)) (stage_at d s).parents ≡ true
        had is (inl e) =
            absurd (clash (looked_submitted d submitted looked s are
            (settled.lacking s (kept s is w)) e) is)
        had is (inr some) =
            any_mono (will_go_on d submitted) (will_go_on after (λ p. false))
            (stage_at d s).parents will some

        by : (b : Bool) → looked s ≡ b
            → list_any (will_go_on after (λ p. false)) (stage_at d s).parents ≡ true
        by true is =
            any_within (λ p. not (is_complete d p)) (will_go_on after (λ p. false))
            (stage_at d s).parents (parent s is)
            (not_all (is_complete d) (stage_at d s).parents (waits_looked d looked s is w))
        by false is = had is (settled.waits s (kept s is w))

    failed : (s : ℕ) → 0 < failed_count (slice_get after.states s) → is_complete after s ≡ false
    failed s f = by (looked s) refl
      where
        by : (b : Bool) → looked s ≡ b → is_complete after s ≡ false
        by true is = lacks s (looked_lacks d submitted looked s are is)
        by false is =
            lacks s (settled.failed s (rw (state_kept d looked s is) at f))

    keeps : (s : ℕ) → IsUnderWay d s → is_complete after s ≡ false → goes_on after s ≡ true
    keeps s under e = goes_after d looked s under.1

    submits : (s : ℕ) → submitted s ≡ true → is_complete d s ≡ false → IsUnderWay after s
    submits s is e = (lacks s e, goes s (looked_submitted d submitted looked s are e is))

pub submissions_settle : SubmissionsSettle
submissions_settle d submitted after sound settled dead (looked, are, is) =
    subst (λ x. GoesOn d x × ((s : ℕ) → submitted s ≡ true → is_complete d s ≡ false
    → IsUnderWay x s)) (sym is) (settles d submitted looked sound.states settled dead are)
