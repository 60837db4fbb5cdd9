-- What executors have out goes with what runs, once an attempt of a save has come further.
use Rattle.std.proofs.Common.{◌≡◌, ℕ, ◌==◌, Bool, true, false, if◌then◌else◌, List, Contains, Option, Some, None, IfSome, find, map, option_map, refl, ap, sym, subst, ◌∙◌, arith, rules}
use Rattle.std.proofs.lemmas.Bool.Decides.{nat_tests}
use Rattle.std.proofs.lemmas.List.Elements.{All-contains, All-contains_itself, All-map, All-weaker}
use Rattle.sc_base.specs.Lists.{at_or}
use Rattle.sc_ids.specs.Changes.{change_at}
use Rattle.sc_ids.specs.declared.attempts.AttemptId.{AttemptId}
use Rattle.sc_taskset.proofs.FindLemmas.{found_passes}
use Rattle.sc_core.specs.CoreData.{is_of}
use Rattle.sc_core.specs.Saving.{as_far, is_out_of}
use Rattle.sc_core.specs.declared.running.Phase.{Phase}
use Rattle.sc_core.specs.declared.running.Running.{Running}
use Rattle.sc_core.proofs.LookupLemmas.{same_is}
use Rattle.sc_core.proofs.SaveAsideLemmas.{find_far}
use Rattle.sc_lineage.specs.ScriptData.{WorkData}
use Rattle.sc_net.specs.Tasks.{TaskData}
use Rattle.sc_task.specs.Attempts.{AttemptData, task_of}
use Rattle.sc_world.specs.Sound.{ComesAt, IsThatOf}
use Rattle.sc_world.proofs.HeldLemmas.{held_here, held_other}
use Rattle.sc_world.proofs.OutLemmas.{AreOut, HasOut, RunsAmong}

-- ---- one attempt comes further

-- an attempt that is out is at that phase then
came : (a : AttemptId) (phase : Phase) (r : Running) → is_of a r ≡ true → r.is_out ≡ true
    → as_far a phase r ≡ record r { phase = phase }
came a phase r of out = rw (of, out) refl

-- another one stays as it is
kept : (a : AttemptId) (phase : Phase) (r : Running) → is_of a r ≡ false → as_far a phase r ≡ r
kept a phase r other = rw other refl

-- who has it out has it out still
has_far : (held : List (Option AttemptData)) (a : AttemptId) (phase : Phase) (r : Running)
    → HasOut held r → HasOut held (as_far a phase r)
has_far held a phase r h = by (is_out_of a r)
  where
    by : (b : Bool) → HasOut held (if b then record r { phase = phase } else r)
    by true = record { attempt = h.attempt; there = h.there; same = h.same }
    by false = h

out_far : (a : AttemptId) (phase : Phase) (r : Running) → (as_far a phase r).is_out ≡ r.is_out
out_far a phase r = by (is_out_of a r)
  where
    by : (b : Bool) → (if b then record r { phase = phase } else r).is_out ≡ r.is_out
    by true = refl
    by false = refl

-- ---- all of them

-- an executor's attempt has come further, in the core too
pub come_out : (work : WorkData) (held : List (Option AttemptData)) (exec : ℕ)
    (x next : AttemptData) (phase : Phase) (running : List Running)
    → at_or held exec None ≡ Some x → task_of next ≡ task_of x → ComesAt next phase
    → AreOut work held running
    → AreOut work (change_at held exec (λ _. Some next))
    (map (as_far (task_of x).hand_out.attempt phase) running)
come_out work held exec x next phase running there same comes was =
    record { runs = λ e. run e (exec == e) refl; out = λ r is_in is. out r is_in is }
  where
    a : AttemptId
    a = (task_of x).hand_out.attempt

    these : List Running
    these = map (as_far (task_of x).hand_out.attempt phase) running

    after : List (Option AttemptData)
    after = change_at held exec (λ _. Some next)

    mine : RunsAmong work running exec x
    mine = subst (λ o. IfSome o (RunsAmong work running exec)) there (was.runs exec)

    found : (b : AttemptId) → find (is_of b) these
        ≡ option_map (as_far (task_of x).hand_out.attempt phase) (find (is_of b) running)
    found b = find_far a b phase running

    -- its own one is at that phase
    own : (o : Option Running) → find (is_of a) running ≡ o → IfSome o (IsThatOf work exec x)
        → IfSome (option_map (as_far (task_of x).hand_out.attempt phase) o)
        (IsThatOf work exec next)
    own None k h = tt
    own (Some r) k h =
        subst (IsThatOf work exec next)
        (sym (came a phase r (found_passes (is_of a) running r k) h.out))
        (record {
          on = h.on;
          same = h.same ∙ sym (ap (λ (t : TaskData). t.hand_out) same);
          out = h.out;
          come = λ s. comes;
        })

    here : RunsAmong work these exec next
    here =
        subst (λ (t : TaskData). IfSome (find (is_of t.hand_out.attempt) these)
        (IsThatOf work exec next)) (sym same)
        (subst (λ o. IfSome o (IsThatOf work exec next)) (sym (found a))
        (own (find (is_of a) running) refl mine))

    -- who runs elsewhere is another attempt
    other : (e : ℕ) (b : AttemptData) → (exec == e) ≡ false → (o : Option Running)
        → find (is_of (task_of b).hand_out.attempt) running ≡ o → IfSome o (IsThatOf work e b)
        → IfSome (option_map (as_far (task_of x).hand_out.attempt phase) o) (IsThatOf work e b)
    other e b differ None k h = tt
    other e b differ (Some r) k h = by (is_of a r) refl
      where
        by : (u : Bool) → is_of a r ≡ u → IsThatOf work e b (as_far a phase r)
        by false q = subst (IsThatOf work e b) (sym (kept a phase r q)) h
        by true q =
            let is : r.hand_out.attempt ≡ a = same_is r.hand_out.attempt a q in
            let of : r.hand_out.attempt ≡ (task_of b).hand_out.attempt =
            same_is r.hand_out.attempt (task_of b).hand_out.attempt
            (found_passes (is_of (task_of b).hand_out.attempt) running r k) in
            let that : IsThatOf work exec x r =
            subst (λ o. IfSome o (IsThatOf work exec x))
            (ap (λ n. find (is_of n) running) (sym is ∙ of) ∙ k) mine in
            let on : r.exec ≡ exec = that.on in
            let off : r.exec ≡ e = h.on in
            absurd (grind (arith, nat_tests, differ, on, off))

    run : (e : ℕ) (u : Bool) → (exec == e) ≡ u
        → IfSome (at_or (change_at held exec (λ _. Some next)) e None) (RunsAmong work these e)
    run e true h =
        let at : exec ≡ e = grind (arith, nat_tests, h) in
        subst (λ (n : ℕ). IfSome (at_or (change_at held exec (λ _. Some next)) n None)
        (RunsAmong work these n)) at (rw (held_here held exec x (Some next) there) here)
    run e false h =
        rw (held_other held exec e (Some next) h) (by (at_or held e None) (was.runs e))
      where
        by : (o : Option AttemptData) → IfSome o (RunsAmong work running e)
            → IfSome o (RunsAmong work these e)
        by None q = tt
        by (Some b) q =
            subst (λ o. IfSome o (IsThatOf work e b)) (sym (found (task_of b).hand_out.attempt))
            (other e b h (find (is_of (task_of b).hand_out.attempt) running) refl q)

    still : (r : Running) → HasOut held r → HasOut after r
    still r h = by (exec == r.exec) refl
      where
        hand_outs : Some x ≡ Some h.attempt
            → (task_of x).hand_out ≡ (task_of h.attempt).hand_out
        hand_outs k = search (rules, k)

        by : (u : Bool) → (exec == r.exec) ≡ u → HasOut after r
        by true e =
            let at : exec ≡ r.exec = grind (arith, nat_tests, e) in
            let both : Some x ≡ Some h.attempt =
            sym there ∙ ap (λ (n : ℕ). at_or held n None) at ∙ h.there in
            record {
              attempt = next;
              there = subst (λ (n : ℕ). at_or (change_at held exec (λ _. Some next)) n None
                  ≡ Some next) at (held_here held exec x (Some next) there);
              same = ap (λ (t : TaskData). t.hand_out) same ∙ hand_outs both ∙ h.same;
            }
        by false e =
            record {
              attempt = h.attempt;
              there = held_other held exec r.exec (Some next) e ∙ h.there;
              same = h.same;
            }

    out : (r : Running) → Contains these r → r.is_out ≡ true → HasOut after r
    out r is_in is =
        All-contains (λ q. q.is_out ≡ true → HasOut after q) these r
        (All-map (λ q. q.is_out ≡ true → HasOut after q) (as_far a phase) running
        (All-weaker (Contains running)
        (λ q. (as_far a phase q).is_out ≡ true → HasOut after (as_far a phase q))
        (λ q there_is k. has_far after a phase q
        (still q (was.out q there_is (sym (out_far a phase q) ∙ k))))
        running (All-contains_itself running)))
        is_in is
