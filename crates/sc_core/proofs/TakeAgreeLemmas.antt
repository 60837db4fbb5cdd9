-- An executor that asks has one answer, which leaves one state.
use Rattle.std.proofs.Common.{◌≡◌, inl, inr, ℕ, nat_lt, Bool, true, false, Option, Some, None, refl, ap, sym, subst, ◌∙◌, arith, rules}
use Rattle.std.proofs.lemmas.Bool.Decides.{nat_tests}
use Rattle.sc_ids.specs.declared.attempts.AttemptId.{AttemptId}
use Rattle.sc_taskset.specs.Offers.{IsNext, IsSmallest, is_copyable, is_pending}
use Rattle.sc_taskset.specs.Offers as taskset
use Rattle.sc_taskset.specs.TaskSetData.{TaskSetData}
use Rattle.sc_taskset.specs.declared.tasks.GivenTask.{GivenTask}
use Rattle.sc_dag.specs.DagData.{DagData, newest_at}
use Rattle.sc_dag.specs.Offers.{HasNone, IsOffer, OffersIn, given_of, newest_number}
use Rattle.sc_dag.proofs.Tests.{clash}
use Rattle.sc_core.specs.CoreData.{CoreData}
use Rattle.sc_core.specs.HandOuts.{HandOutData, inputs_of}
use Rattle.sc_core.specs.Takes.{IsHandOut, Takes}
use Rattle.sc_core.specs.declared.answers.Answer.{Answer}

-- two smallest partitions are one
smallest_agree : (test : ℕ → Bool) (p q : ℕ) → IsSmallest test p → IsSmallest test q → p ≡ q
smallest_agree test p q a b =
    search (arith, nat_tests, rules, a.passes, b.passes, a.smallest, b.smallest)

-- nothing is offered, or something
none_or : (o : Option TaskSetData) (exec now : ℕ) (g : GivenTask) → OffersIn o exec now None
    → OffersIn o exec now (Some g) → ⊥
none_or None exec now g a b = b
none_or (Some set) exec now g (no_pending, no_copy) (next, nth) = by next
  where
    by : IsNext set exec now g.partition → ⊥
    by (inl s) = clash s.passes (no_pending g.partition)
    by (inr (never, s)) = clash s.passes (no_copy g.partition)

next_agree : (set : TaskSetData) (exec now p q : ℕ) → IsNext set exec now p → IsNext set exec now q
    → p ≡ q
next_agree set exec now p q (inl a) (inl b) = smallest_agree (is_pending set) p q a b
next_agree set exec now p q (inl a) (inr (never, b)) = absurd (clash a.passes (never p))
next_agree set exec now p q (inr (never, a)) (inl b) = absurd (clash b.passes (never q))
next_agree set exec now p q (inr (n, a)) (inr (m, b)) =
    smallest_agree (is_copyable set exec now) p q a b

given_agree : (o : Option TaskSetData) (exec now : ℕ) (g h : GivenTask)
    → OffersIn o exec now (Some g) → OffersIn o exec now (Some h)
    → (g.partition ≡ h.partition) × (g.nth ≡ h.nth)
given_agree None exec now g h a b = absurd a
given_agree (Some set) exec now g h (next, nth) (next', nth') =
    let p = next_agree set exec now g.partition h.partition next next' in
    (p, nth ∙ ap (λ (q : ℕ). taskset.given_of set q) p ∙ sym nth')

-- the first stage that offers something is one
stages_agree : (d : DagData) (exec now : ℕ) (a b : AttemptId) → IsOffer d exec now a
    → IsOffer d exec now b → a.stage ≡ b.stage
stages_agree d exec now a b x y = by (nat_lt a.stage b.stage) (nat_lt b.stage a.stage) refl refl
  where
    by : (u v : Bool) → nat_lt a.stage b.stage ≡ u → nat_lt b.stage a.stage ≡ v
        → a.stage ≡ b.stage
    by true v e f =
        absurd (none_or (newest_at d a.stage) exec now (given_of a)
        (y.first a.stage (grind (arith, nat_tests, e))) x.offered)
    by false true e f =
        absurd (none_or (newest_at d b.stage) exec now (given_of b)
        (x.first b.stage (grind (arith, nat_tests, f))) y.offered)
    by false false e f = grind (arith, nat_tests, e, f)

pub offers_agree : (d : DagData) (exec now : ℕ) (a b : AttemptId) → IsOffer d exec now a
    → IsOffer d exec now b → a ≡ b
offers_agree d exec now a b x y =
    let s = stages_agree d exec now a b x y in
    let k : a.stage_attempt ≡ b.stage_attempt =
    x.newest ∙ ap (λ (n : ℕ). newest_number d n) s ∙ sym y.newest in
    let g = given_agree (newest_at d b.stage) exec now (given_of a) (given_of b)
    (subst (λ (n : ℕ). OffersIn (newest_at d n) exec now (Some (given_of a))) s x.offered)
    y.offered in
    λ i. record { stage = s i; stage_attempt = k i; partition = g.0 i; nth = g.1 i }

pub no_offer : (d : DagData) (exec now : ℕ) (a : AttemptId) → HasNone d exec now
    → IsOffer d exec now a → ⊥
no_offer d exec now a none o =
    none_or (newest_at d a.stage) exec now (given_of a) (none a.stage) o.offered

hand_outs_agree : (c : CoreData) (exec : ℕ) (g h : HandOutData) → IsHandOut c exec g
    → IsHandOut c exec h → g ≡ h
hand_outs_agree c exec g h a b =
    let same = offers_agree c.dag exec c.now g.attempt h.attempt a.offer b.offer in
    let epoch : g.epoch ≡ h.epoch = a.epoch ∙ sym b.epoch in
    let inputs : g.inputs ≡ h.inputs =
    a.inputs ∙ ap (λ (x : AttemptId). inputs_of c.dag x.stage) same ∙ sym b.inputs in
    λ i. record { attempt = same i; epoch = epoch i; inputs = inputs i }

pub takes_agree :
    (c : CoreData) (exec : ℕ) (a b : Answer) (x y : CoreData) → Takes c exec a x → Takes c exec b y
    → (a ≡ b) × (x ≡ y)
takes_agree c exec a b x y s t = search (rules, offers_agree, no_offer, hand_outs_agree)
