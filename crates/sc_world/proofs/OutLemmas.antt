-- What executors have out goes with what runs.
use Rattle.std.proofs.Common.{◌≡◌, ◌⊎◌, inl, inr, ℕ, ◌<◌, ◌==◌, Bool, true, false, cond, List, [], ◌∷◌, ◌++◌, Contains, Option, Some, None, IfSome, find, length, refl, ap, sym, subst, ◌∙◌, arith, rules}
use Rattle.std.specs.Option.{option_or}
use Rattle.std.proofs.lemmas.Bool.Decides.{nat_tests}
use Rattle.std.proofs.lemmas.List.Elements.{All-contains, Contains-push_cases}
use Rattle.std.proofs.lemmas.List.Folds.{find-append}
use Rattle.sc_base.specs.Lists.{at_or}
use Rattle.sc_ids.specs.Changes.{change_at}
use Rattle.sc_ids.specs.declared.attempts.AttemptId.{AttemptId}
use Rattle.sc_ids.proofs.ChangeLemmas.{at_or_change_same}
use Rattle.sc_commit.specs.Committing.{is_same}
use Rattle.sc_dag.proofs.Tests.{clash}
use Rattle.sc_core.specs.CoreData.{is_of, is_out_on}
use Rattle.sc_core.specs.HandOuts.{HandOutData}
use Rattle.sc_core.specs.Takes.{running_on}
use Rattle.sc_core.specs.declared.running.Phase.TheVariants as phases
use Rattle.sc_core.specs.declared.running.Running.{Running}
use Rattle.sc_core.proofs.LookupLemmas.{is_itself, same_is}
use Rattle.sc_core.proofs.RunningLemmas.{none_passes}
use Rattle.sc_lineage.specs.ScriptData.{WorkData}
use Rattle.sc_jobs.specs.JobData.{saves}
use Rattle.sc_task.specs.Attempts.{AttemptData, task_of}
use Rattle.sc_world.specs.Sound.{ComesAt, IsThatOf}
use Rattle.sc_world.proofs.HeldLemmas.{held_each, held_here, held_other}
use Rattle.sc_world.proofs.FewerLemmas.{AreAmong, AreLess}

-- an executor has out what runs there
pub record HasOut (held : List (Option AttemptData)) (r : Running) : Type 0 where
  pub attempt : AttemptData
  pub there : at_or held r.exec None ≡ Some attempt
  pub same : (task_of attempt).hand_out ≡ r.hand_out

-- where an attempt is among those that run, it runs on an executor, and isn't told of yet
abbrev pub RunsAmong : WorkData → List Running → ℕ → AttemptData → Type 0
RunsAmong work running exec a =
    IfSome (find (is_of (task_of a).hand_out.attempt) running) (IsThatOf work exec a)

-- what executors have out is what runs and wasn't told of
pub record AreOut (work : WorkData) (held : List (Option AttemptData)) (running : List Running)
    : Type 0 where
  pub runs : (exec : ℕ) → IfSome (at_or held exec None) (RunsAmong work running exec)
  pub out : (r : Running) → Contains running r → r.is_out ≡ true → HasOut held r

-- ---- fewer run

pub fewer_out : (work : WorkData) (held : List (Option AttemptData)) (these running : List Running)
    → AreAmong these running → AreOut work held running → AreOut work held these
fewer_out work held these running among was =
    record {
      runs = λ exec. by exec (at_or held exec None) (was.runs exec);
      out = λ r is_in is. was.out r (among.there r is_in) is;
    }
  where
    of : (exec : ℕ) (a : AttemptData) → RunsAmong work running exec a → RunsAmong work these exec a
    of exec a h = one (find (is_of (task_of a).hand_out.attempt) these) refl
      where
        one : (o : Option Running) → find (is_of (task_of a).hand_out.attempt) these ≡ o
            → IfSome o (IsThatOf work exec a)
        one None e = tt
        one (Some r) e =
            subst (λ o. IfSome o (IsThatOf work exec a))
            (among.found (task_of a).hand_out.attempt r e) h

    by : (exec : ℕ) (o : Option AttemptData) → IfSome o (RunsAmong work running exec)
        → IfSome o (RunsAmong work these exec)
    by exec None h = tt
    by exec (Some a) h = of exec a h

-- ---- an attempt isn't out any more

-- its executor holds nothing then
pub less_out : (work : WorkData) (held : List (Option AttemptData)) (exec : ℕ) (x : AttemptData)
    (running these : List Running) → at_or held exec None ≡ Some x
    → AreLess (task_of x).hand_out.attempt running these → AreOut work held running
    → AreOut work (change_at held exec (λ _. None)) these
less_out work held exec x running these there less was =
    record {
      runs = λ e. run e (exec == e) refl;
      out = λ r is_in is. out r is (less.outs r is_in is);
    }
  where
    a : AttemptId
    a = (task_of x).hand_out.attempt

    mine : RunsAmong work running exec x
    mine = subst (λ o. IfSome o (RunsAmong work running exec)) there (was.runs exec)

    -- who runs elsewhere is another attempt
    of : (e : ℕ) (b : AttemptData) → (exec == e) ≡ false → RunsAmong work running e b
        → RunsAmong work these e b
    of e b differ h = by (is_same a one) refl
      where
        one : AttemptId
        one = (task_of b).hand_out.attempt

        other : is_same (task_of x).hand_out.attempt (task_of b).hand_out.attempt ≡ false
            → (o : Option Running) → find (is_of one) these ≡ o → IfSome o (IsThatOf work e b)
        other apart None k = tt
        other apart (Some r) k =
            subst (λ o. IfSome o (IsThatOf work e b)) (less.others one r apart k) h

        same : (task_of x).hand_out.attempt ≡ (task_of b).hand_out.attempt
            → (o : Option Running) → find (is_of a) running ≡ o
            → IfSome (find (is_of a) these) (IsThatOf work e b)
        same is None k = rw (less.own k) tt
        same is (Some r) k =
            let here : IsThatOf work exec x r =
            subst (λ o. IfSome o (IsThatOf work exec x)) k mine in
            let elsewhere : IsThatOf work e b r =
            subst (λ o. IfSome o (IsThatOf work e b))
            (ap (λ n. find (is_of n) running) (sym is) ∙ k) h in
            let on : r.exec ≡ exec = here.on in
            let off : r.exec ≡ e = elsewhere.on in
            absurd (grind (arith, nat_tests, differ, on, off))

        by : (u : Bool) → is_same a one ≡ u → RunsAmong work these e b
        by false k = other k (find (is_of one) these) refl
        by true k =
            let is : a ≡ one = same_is a one k in
            subst (λ n. IfSome (find (is_of n) these) (IsThatOf work e b)) is
            (same is (find (is_of a) running) refl)

    run : (e : ℕ) (u : Bool) → (exec == e) ≡ u
        → IfSome (at_or (change_at held exec (λ _. None)) e None) (RunsAmong work these e)
    run e true h =
        let at : exec ≡ e = grind (arith, nat_tests, h) in
        subst (λ (n : ℕ). IfSome (at_or (change_at held exec (λ _. None)) n None)
        (RunsAmong work these n)) at (rw (held_here held exec x None there) tt)
    run e false h = rw (held_other held exec e None h) (by (at_or held e None) (was.runs e))
      where
        by : (o : Option AttemptData) → IfSome o (RunsAmong work running e)
            → IfSome o (RunsAmong work these e)
        by None q = tt
        by (Some b) q = of e b h q

    out : (r : Running) → r.is_out ≡ true → Contains running r × (is_of a r ≡ false)
        → HasOut (change_at held exec (λ _. None)) r
    out r is (is_in, other) = by (exec == r.exec) refl (was.out r is_in is)
      where
        by : (u : Bool) → (exec == r.exec) ≡ u → HasOut held r
            → HasOut (change_at held exec (λ _. None)) r
        by true e h =
            let at : exec ≡ r.exec = grind (arith, nat_tests, e) in
            let both : Some x ≡ Some h.attempt =
            sym there ∙ ap (λ (n : ℕ). at_or held n None) at ∙ h.there in
            let given : (task_of x).hand_out ≡ r.hand_out = hand_outs both ∙ h.same in
            absurd (clash
            (subst (λ k. is_same k.attempt a ≡ true) given (is_itself a)) other)
          where
            hand_outs : Some x ≡ Some h.attempt
                → (task_of x).hand_out ≡ (task_of h.attempt).hand_out
            hand_outs k = search (rules, k)
        by false e h =
            record {
              attempt = h.attempt;
              there = held_other held exec r.exec None e ∙ h.there;
              same = h.same;
            }

-- ---- an attempt is handed out

pub more_out : (work : WorkData) (held : List (Option AttemptData)) (exec : ℕ) (new : AttemptData)
    (running : List Running) → exec < length held
    → (saves work (task_of new).job.goal ≡ true → ComesAt new phases.Given)
    → find (is_of (task_of new).hand_out.attempt) running ≡ None
    → find (is_out_on exec) running ≡ None
    → ((e : ℕ) → IfSome (at_or held e None)
    (λ a. is_same (task_of new).hand_out.attempt (task_of a).hand_out.attempt ≡ false))
    → AreOut work held running
    → AreOut work (change_at held exec (λ _. Some new))
    (running ++ running_on (task_of new).hand_out exec ∷ [])
more_out work held exec new running place come fresh free others was =
    record {
      runs = held_each (RunsAmong work these) held exec (Some new) own
          (λ e. by e (at_or held e None) (others e) (was.runs e));
      out = λ r is_in is. out r is (Contains-push_cases running one r is_in);
    }
  where
    h : HandOutData
    h = (task_of new).hand_out

    one : Running
    one = running_on (task_of new).hand_out exec

    these : List Running
    these = running ++ running_on (task_of new).hand_out exec ∷ []

    found : (b : AttemptId) → find (is_of b) these
        ≡ option_or (find (is_of b) running) (cond (is_of b one) (Some one) None)
    found b = find-append (is_of b) running (one ∷ [])

    own : RunsAmong work these exec new
    own =
        rw (found h.attempt, fresh, is_itself h.attempt)
        (record { on = refl; same = refl; out = refl; come = come })

    of : (e : ℕ) (a : AttemptData)
        → is_same (task_of new).hand_out.attempt (task_of a).hand_out.attempt ≡ false
        → (o : Option Running) → IfSome o (IsThatOf work e a)
        → IfSome (option_or o (cond (is_of (task_of a).hand_out.attempt one) (Some one) None))
        (IsThatOf work e a)
    of e a other (Some r) k = k
    of e a other None k = rw other tt

    by : (e : ℕ) (o : Option AttemptData)
        → IfSome o
        (λ a. is_same (task_of new).hand_out.attempt (task_of a).hand_out.attempt ≡ false)
        → IfSome o (RunsAmong work running e) → IfSome o (RunsAmong work these e)
    by e None other k = tt
    by e (Some a) other k =
        rw (found (task_of a).hand_out.attempt)
        (of e a other (find (is_of (task_of a).hand_out.attempt) running) k)

    here : at_or (change_at held exec (λ _. Some new)) exec None ≡ Some new
    here = at_or_change_same held exec None (λ _. Some new) place

    out : (r : Running) → r.is_out ≡ true
        → Contains running r ⊎ (running_on (task_of new).hand_out exec ≡ r)
        → HasOut (change_at held exec (λ _. Some new)) r
    out r is (inr same) =
        record {
          attempt = new;
          there = subst (λ (q : Running). at_or (change_at held exec (λ _. Some new)) q.exec None
              ≡ Some new) same here;
          same = ap (λ (q : Running). q.hand_out) same;
        }
    out r is (inl is_in) = at (exec == r.exec) refl (was.out r is_in is)
      where
        at : (u : Bool) → (exec == r.exec) ≡ u → HasOut held r
            → HasOut (change_at held exec (λ _. Some new)) r
        at true e k =
            let on : exec ≡ r.exec = grind (arith, nat_tests, e) in
            absurd (clash (passes on)
            (All-contains (λ q. is_out_on exec q ≡ false) running r
            (none_passes (is_out_on exec) running free) is_in))
          where
            passes : exec ≡ r.exec → is_out_on exec r ≡ true
            passes on = rw is (grind (arith, nat_tests, on))
        at false e k =
            record {
              attempt = k.attempt;
              there = held_other held exec r.exec (Some new) e ∙ k.there;
              same = k.same;
            }
