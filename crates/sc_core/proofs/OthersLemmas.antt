-- An executor that waits does so for another one, or for a report that is to be told later.
use Rattle.std.proofs.Common.{◌≡◌, ◌≢◌, inl, inr, ℕ, zero, suc, ◌<◌, ◌==◌, not, Bool, true, false, cond, List, [], ◌∷◌, length, Option, Some, None, find, option_map, slice_get, refl, ap, sym, ◌∙◌, arith, rules, true≢false}
use Rattle.std.proofs.lemmas.Bool.Decides.{nat_tests}
use Rattle.sc_ids.specs.declared.attempts.AttemptId.{AttemptId}
use Rattle.sc_taskset.proofs.FindLemmas.{found_is, found_passes}
use Rattle.sc_dag.proofs.Tests.{both_left}
use Rattle.sc_tracker.specs.Trust.{is_live, trust_at}
use Rattle.sc_tracker.specs.declared.trust.Trust.{Trust}
use Rattle.sc_core.specs.CoreData.{is_out_on, out_or, shelved_first}
use Rattle.sc_core.specs.Sound.{RunsWell, is_shelved}
use Rattle.sc_core.specs.Waits.{IsForOthers, IsOutElsewhere, WaitsAreForOthers}
use Rattle.sc_core.specs.declared.running.Running.{Running}
use Rattle.sc_core.specs.declared.running.Shelved.{Shelved}
use Rattle.sc_core.proofs.LookupLemmas.{is_itself}
use Rattle.sc_core.proofs.RunningLemmas.{none_passes}

-- what is found first is found first among fewer, where it is one of them
found_narrower : {A : Type 0} (q w : A → Bool) → ((x : A) → w x ≡ true → q x ≡ true)
    → (xs : List A) (x : A) → find q xs ≡ Some x → w x ≡ true → find w xs ≡ Some x
found_narrower q w within [] x found is = absurd (search (rules, found))
found_narrower {A = A} q w within (y ∷ ys) x found is =
    by (q y) (w y) refl refl found (λ f. found_narrower q w within ys x f is)
  where
    by : (a b : Bool) → q y ≡ a → w y ≡ b → cond a (Some y) (find q ys) ≡ Some x
        → (find q ys ≡ Some x → find w ys ≡ Some x) → cond b (Some y) (find w ys) ≡ Some x
    by true true e f g rest = g
    by true false e f g rest =
        let same : y ≡ x = search (rules, g) in
        let here : w y ≡ true = rw same is in
        absurd (true≢false (sym here ∙ f))
    by false true e f g rest = absurd (true≢false (sym (within y f) ∙ e))
    by false false e f g rest = rest g

-- an executor that is there and wasn't told lost isn't lost
not_lost : (trust : List Trust) (e : ℕ) → e < length trust → (trust_at trust e).lost ≡ false
    → not (is_live (slice_get trust e)) ≡ false
not_lost [] e there live = absurd (omega (arith, there))
not_lost (t ∷ trust) zero there live = let kept : t.lost ≡ false = live in rw kept refl
not_lost (t ∷ trust) (suc e) there live = not_lost trust e (omega (arith, there)) live

-- the first report that is to be told later is one
first_shelved : (shelf : List Shelved) (out : AttemptId) → shelved_first shelf ≡ Some out
    → is_shelved shelf out ≡ true
first_shelved [] out e = absurd (search (rules, e))
first_shelved (s ∷ shelf) out e =
    let same : s.attempt ≡ out = search (rules, e) in
    rw (same, is_itself out) refl

pub waits_are_for_others : WaitsAreForOthers
waits_are_for_others c after exec out sound (asks, none, under, is) =
    by (find (λ r. r.is_out) c.running) refl under
  where
    free : find (is_out_on exec) c.running ≡ None
    free = holds_none (find (is_out_on exec) c.running) asks.free
      where
        holds_none : (x : Option Running) → option_map (λ r. r.hand_out.attempt) x ≡ None
            → x ≡ None
        holds_none None e = refl
        holds_none (Some r) e = absurd (search (rules, e))

    elsewhere : (r : Running) → find (λ r. r.is_out) c.running ≡ Some r
        → r.hand_out.attempt ≡ out → IsOutElsewhere c exec out
    elsewhere r found same =
        record {
          holder = r.exec;
          other = λ h. apart (rw (is_out) at differs) h;
          live = not_lost c.dag.tracker.trust r.exec well.there well.live;
          holds =
              ap (option_map (λ (q : Running). q.hand_out.attempt))
              (found_narrower (λ q. q.is_out) (is_out_on r.exec) within c.running r found here)
              ∙ ap Some same;
        }
      where
        is_out : r.is_out ≡ true
        is_out = found_passes (λ q. q.is_out) c.running r found

        well : RunsWell c r
        well = found_is (RunsWell c) (λ q. q.is_out) c.running r sound.job.running found

        differs : is_out_on exec r ≡ false
        differs =
            found_is (λ q. is_out_on exec q ≡ false) (λ q. q.is_out) c.running r
            (none_passes (is_out_on exec) c.running free) found

        apart : (r.exec == exec) ≡ false → r.exec ≢ exec
        apart e h = grind (arith, nat_tests, e, h)

        within : (q : Running) → is_out_on r.exec q ≡ true → q.is_out ≡ true
        within q e = both_left q.is_out (q.exec == r.exec) e

        same_exec : (r.exec == r.exec) ≡ true
        same_exec = grind (arith, nat_tests)

        here : is_out_on r.exec r ≡ true
        here = rw is_out same_exec

    by : (first : Option Running) → find (λ r. r.is_out) c.running ≡ first
        → out_or first (shelved_first c.shelf) ≡ Some out → IsForOthers c exec out
    by (Some r) found e = inl (elsewhere r found (search (rules, e)))
    by None found e = inr (first_shelved c.shelf out e)
