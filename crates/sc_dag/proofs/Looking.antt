-- Which stages a submission looks at.
use Rattle.std.proofs.Common.{◌≡◌, ℕ, zero, suc, ◌+◌, ◌<◌, ◌≤◌, ◌||◌, ◌&&◌, not, Bool, true, false, length, is_some, slice_get, refl, ap, sym, ◌∙◌, arith, lt_of_not-le}
use Rattle.std.proofs.lemmas.Bool.{or_right}
use Rattle.sc_base.specs.Lists.{numbers_below}
use Rattle.sc_dag.specs.DagData.{DagData, no_stage, stage_at, with_states}
use Rattle.sc_dag.specs.Laws.{SubmissionsAgree}
use Rattle.sc_dag.specs.Outputs.{is_complete, is_complete_by, results_in}
use Rattle.sc_dag.specs.Sound.{AreSoundStages}
use Rattle.sc_dag.specs.Submission.{AreLookedAt, by_number, is_asked_for, is_idle_in, moved_if, reads}
use Rattle.sc_dag.proofs.Items.{at_or_past, is_there}
use Rattle.sc_dag.proofs.Tests.{all_in, any_alike, any_below, both_left, both_right, clash, not_true}

-- ---- stages that aren't complete

-- a stage behind the last one has nothing to do
pub complete_past : (d : DagData) (s : ℕ) → length d.stages ≤ s → is_complete d s ≡ true
complete_past d s h =
    ap (λ stage. is_complete_by d.tracker stage (results_in (slice_get d.states s)))
    (at_or_past d.stages s no_stage h)

pub lacking_below : (d : DagData) (s : ℕ) → is_complete d s ≡ false → s < length d.stages
lacking_below d s e = lt_of_not-le (λ h. clash (complete_past d s h) e)

-- a stage that isn't complete has a state
pub lacking_there :
    (d : DagData) (s : ℕ) → length d.states ≡ length d.stages → is_complete d s ≡ false
    → is_some (slice_get d.states s) ≡ true
lacking_there d s same e =
    let below : s < length d.stages = lacking_below d s e in
    is_there d.states s (omega (arith, same, below))

-- ---- stages that are looked at

-- what is looked at isn't complete
pub looked_lacks :
    (d : DagData) (submitted looked : ℕ → Bool) (s : ℕ) → AreLookedAt d submitted looked
    → looked s ≡ true → is_complete d s ≡ false
looked_lacks d submitted looked s are e =
    not_true (is_complete d s) (both_left (not (is_complete d s)) _ (sym (are s) ∙ e))

-- and is submitted, or idle and asked for
pub looked_why :
    (d : DagData) (submitted looked : ℕ → Bool) (s : ℕ) → AreLookedAt d submitted looked
    → looked s ≡ true
    → (submitted s || (is_idle_in (slice_get d.states s) && is_asked_for d looked s)) ≡ true
looked_why d submitted looked s are e =
    both_right (not (is_complete d s)) _ (sym (are s) ∙ e)

pub looked_submitted :
    (d : DagData) (submitted looked : ℕ → Bool) (s : ℕ) → AreLookedAt d submitted looked
    → is_complete d s ≡ false → submitted s ≡ true → looked s ≡ true
looked_submitted d submitted looked s are lacks e = are s ∙ rw (lacks, e) refl

pub looked_asked :
    (d : DagData) (submitted looked : ℕ → Bool) (s : ℕ) → AreLookedAt d submitted looked
    → is_complete d s ≡ false → is_idle_in (slice_get d.states s) ≡ true
    → is_asked_for d looked s ≡ true → looked s ≡ true
looked_asked d submitted looked s are lacks idle asked =
    are s ∙ rw (lacks, idle, asked) (or_right (submitted s) true refl)

-- a parent is asked for by a stage that is looked at
pub asked_by :
    (d : DagData) (looked : ℕ → Bool) (child s : ℕ) → child < length d.stages
    → looked child ≡ true → reads d child s ≡ true → is_asked_for d looked s ≡ true
asked_by d looked child s below is read =
    any_below (λ c. looked c && reads d c s) (length d.stages) child below (rw (is, read) refl)

-- a stage reads outputs of stages before it alone
pub read_before :
    (d : DagData) (child s : ℕ) → AreSoundStages d.stages d.tracker → reads d child s ≡ true
    → s < child
read_before d child s sound read =
    all_in (λ parent. parent < child) (stage_at d child).parents s (sound.older child) read

-- ---- one submission

agree_from :
    (d : DagData) (submitted one other : ℕ → Bool) → AreSoundStages d.stages d.tracker
    → AreLookedAt d submitted one → AreLookedAt d submitted other
    → (n s : ℕ) → length d.stages ≤ s + n → one s ≡ other s
agree_from d submitted one other sound a b zero s le =
    let done : is_complete d s ≡ true = complete_past d s (omega (arith, le)) in
    a s ∙ (rw done refl ∙ sym (b s))
agree_from d submitted one other sound a b (suc n) s le =
    a s
    ∙ ap (λ asked. not (is_complete d s)
    && (submitted s || (is_idle_in (slice_get d.states s) && asked)))
    (any_alike (λ c. one c && reads d c s) (λ c. other c && reads d c s)
    (numbers_below (length d.stages))
    (λ c. by c (reads d c s) refl
    (λ lt. agree_from d submitted one other sound a b n c (omega (arith, le, lt)))))
    ∙ sym (b s)
  where
    none : (x y : Bool) → (x && false) ≡ (y && false)
    none true true = refl
    none true false = refl
    none false true = refl
    none false false = refl

    by : (c : ℕ) (r : Bool) → reads d c s ≡ r → (s < c → one c ≡ other c)
        → (one c && reads d c s) ≡ (other c && reads d c s)
    by c true e f = ap (λ x. x && reads d c s) (f (read_before d c s sound e))
    by c false e f = rw e (none (one c) (other c))

-- only one set of stages is looked at
pub looked_agree :
    (d : DagData) (submitted one other : ℕ → Bool) → AreSoundStages d.stages d.tracker
    → AreLookedAt d submitted one → AreLookedAt d submitted other → (s : ℕ) → one s ≡ other s
looked_agree d submitted one other sound a b s =
    agree_from d submitted one other sound a b (length d.stages) s (omega arith)

pub submissions_agree : SubmissionsAgree
submissions_agree d a b submitted sound (one, are, is) (other, are', is') =
    is ∙ (ap (λ looked. with_states d (by_number (moved_if d looked) 0 d.states)) same ∙ sym is')
  where
    same : one ≡ other
    same = λ i. λ s. looked_agree d submitted one other sound are are' s i
