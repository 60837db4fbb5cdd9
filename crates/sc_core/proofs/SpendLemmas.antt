-- Every answer but those that only say how things are leaves less to do.
use Rattle.std.proofs.Common.{◌≡◌, ◌≢◌, ℕ, ◌==◌, filter_map, slice_get, ◌+◌, ◌-◌, ◌*◌, ◌<◌, ◌≤◌, not, Bool, true, false, cond, if◌then◌else◌, List, [], ◌∷◌, ◌++◌, length, map, Option, Some, None, find, option_map, refl, ap, sym, subst, ◌∙◌, arith, rules, true≢false, length-append, inl, inr}
use Rattle.std.specs.List.{filter}
use Rattle.sc_ids.specs.declared.attempts.AttemptId.{AttemptId}
use Rattle.std.proofs.lemmas.Bool.Decides.{nat_tests}
use Rattle.sc_dag.proofs.Tests.{both_right, clash}
use Rattle.sc_core.specs.CoreData.{CoreData, as_in, has_key, is_of, job_runs, running_of, shelved, shelved_if, shelved_of, taken_off, to_be_told, without_shelved}
use Rattle.sc_core.specs.HandOuts.{HandOutData}
use Rattle.sc_core.specs.Laws.{StepsAreSpent, is_untold, left_to_do, spends_nothing}
use Rattle.sc_core.specs.Posts.{PostsBy, PostsIf, PostsOf, TellsNow, comes_twice, delay_for}
use Rattle.sc_plan.specs.Orders.{loss_in, loss_of}
use Rattle.sc_plan.specs.declared.lines.PlanLine.{PlanLine}
use Rattle.sc_plan.specs.declared.lines.PlanLine.TheVariants as lines
use Rattle.sc_tracker.specs.Trust.{are_lost, is_live}
use Rattle.sc_tracker.specs.TrackerData.{TrackerData, trust_of}
use Rattle.sc_core.specs.Losses.{LosesOrAborts, is_due_after, may_be_lost, runs_on, without_executor}
use Rattle.sc_core.specs.Sound.{IsSoundCore}
use Rattle.sc_core.proofs.TakeCases.{TakesSo, takes_so}
use Rattle.sc_core.proofs.LoseLemmas.{IsLessOne, lose_less}
use Rattle.sc_core.specs.Releases.{ReleasesIf, ReleasesOf}
use Rattle.sc_core.specs.Takes.{running_on}
use Rattle.sc_core.specs.Tells.{Tells, TellsTo}
use Rattle.sc_core.specs.declared.events.Event.TheVariants.{Post, Release, Side, Take, TellLost}
use Rattle.sc_core.specs.declared.running.Running.{Running}
use Rattle.sc_core.specs.declared.running.Shelved.{Shelved}
use Rattle.sc_core.proofs.RunningLemmas.{shorter}
use Rattle.sc_core.proofs.LeftLemmas.{Left, tells_left}
use Rattle.sc_core.proofs.ShelfLemmas.{find_in}

-- ---- attempts that are out

abbrev outs : List Running → List Running
outs rs = filter (λ r. r.is_out) rs

-- no more are out where some are taken away
outs_left : (q : Running → Bool) (rs : List Running)
    → length (outs (filter (λ r. not (q r)) rs)) ≤ length (outs rs)
outs_left q [] = omega arith
outs_left q (r ∷ rs) = by (q r) r.is_out refl (outs_left q rs)
  where
    by : (x y : Bool) → r.is_out ≡ y
        → length (outs (filter (λ r. not (q r)) rs)) ≤ length (outs rs)
        → length (outs (cond (not x) (r ∷ filter (λ r. not (q r)) rs)
        (filter (λ r. not (q r)) rs)))
        ≤ length (cond y (r ∷ outs rs) (outs rs))
    by true true e h = omega (arith, h)
    by true false e h = h
    by false true e h = rw e (omega (arith, h))
    by false false e h = rw e h

-- nor where one isn't out any more
outs_in : (a : AttemptId) (rs : List Running)
    → length (outs (map (as_in a) rs)) ≤ length (outs rs)
outs_in a [] = omega arith
outs_in a (r ∷ rs) = by (is_of a r) r.is_out refl (outs_in a rs)
  where
    by : (x y : Bool) → r.is_out ≡ y
        → length (outs (map (as_in a) rs)) ≤ length (outs rs)
        → length (outs ((if x then record r { is_out = false } else r) ∷ map (as_in a) rs))
        ≤ length (cond y (r ∷ outs rs) (outs rs))
    by true true e h = omega (arith, h)
    by true false e h = h
    by false true e h = rw e (omega (arith, h))
    by false false e h = rw e h

-- one fewer is out once an attempt that was out isn't
outs_fewer : (a : AttemptId) (one : Running) (rs : List Running) → find (is_of a) rs ≡ Some one
    → one.is_out ≡ true → length (outs (map (as_in a) rs)) < length (outs rs)
outs_fewer a one [] e out = absurd (search (rules, e))
outs_fewer a one (r ∷ rs) e out =
    by (is_of a r) e r.is_out refl (outs_in a rs) (λ f. outs_fewer a one rs f out)
  where
    by : (x : Bool) → cond x (Some r) (find (is_of a) rs) ≡ Some one → (y : Bool)
        → r.is_out ≡ y
        → length (outs (map (as_in a) rs)) ≤ length (outs rs)
        → (find (is_of a) rs ≡ Some one
        → length (outs (map (as_in a) rs)) < length (outs rs))
        → length (outs ((if x then record r { is_out = false } else r) ∷ map (as_in a) rs))
        < length (cond y (r ∷ outs rs) (outs rs))
    by true f true g le more = omega (arith, le)
    by true f false g le more =
        let same : r ≡ one = search (rules, f) in
        absurd (clash out (ap (λ (q : Running). q.is_out) (sym same) ∙ g))
    by false f true g le more = rw g (let lt = more f in omega (arith, lt))
    by false f false g le more = rw g (more f)

-- and once it runs no more
outs_gone : (a : AttemptId) (one : Running) (rs : List Running) → find (is_of a) rs ≡ Some one
    → one.is_out ≡ true → length (outs (filter (λ r. not (is_of a r)) rs)) < length (outs rs)
outs_gone a one [] e out = absurd (search (rules, e))
outs_gone a one (r ∷ rs) e out =
    by (is_of a r) e r.is_out refl (outs_left (is_of a) rs) (λ f. outs_gone a one rs f out)
  where
    by : (x : Bool) → cond x (Some r) (find (is_of a) rs) ≡ Some one → (y : Bool)
        → r.is_out ≡ y
        → length (outs (filter (λ r. not (is_of a r)) rs)) ≤ length (outs rs)
        → (find (is_of a) rs ≡ Some one
        → length (outs (filter (λ r. not (is_of a r)) rs)) < length (outs rs))
        → length (outs (cond (not x) (r ∷ filter (λ r. not (is_of a r)) rs)
        (filter (λ r. not (is_of a r)) rs)))
        < length (cond y (r ∷ outs rs) (outs rs))
    by true f true g le more = omega (arith, le)
    by true f false g le more =
        let same : r ≡ one = search (rules, f) in
        absurd (clash out (ap (λ (q : Running). q.is_out) (sym same) ∙ g))
    by false f true g le more = rw g (let lt = more f in omega (arith, lt))
    by false f false g le more = rw g (more f)

-- ---- what is left to do

-- less is left where fewer are out and no more is to be told than that
less_left : (h outs outs' shelf shelf' lose : ℕ) → 3 * outs' + shelf' < 3 * outs + shelf
    → 4 * h + 3 * outs' + shelf' + lose < 4 * h + 3 * outs + shelf + lose
less_left h outs outs' shelf shelf' lose lt = omega (arith, lt)

-- losses are as many as before where nobody was told lost
untold_same :
    (t u : TrackerData) (plan : List PlanLine)
    → ((e : ℕ) → (trust_of u e).lost ≡ (trust_of t e).lost)
    → filter (is_untold u) plan ≡ filter (is_untold t) plan
untold_same t u [] same = refl
untold_same t u (line ∷ plan) same =
    ap (λ b. cond b (line ∷ filter (is_untold u) plan) (filter (is_untold u) plan)) (one line)
    ∙ ap (λ xs. cond (is_untold t line) (line ∷ xs) xs) (untold_same t u plan same)
  where
    one : (l : PlanLine) → is_untold u l ≡ is_untold t l
    one (lines.Fail p) = refl
    one (lines.Late p count) = refl
    one (lines.Twice p) = refl
    one (lines.Drop e after) = refl
    one (lines.Lose e after told) = ap not (same e)
    one (lines.Evict e after) = refl

-- and fewer once one was
untold_fewer :
    (t u : TrackerData) (exec : ℕ) (plan : List PlanLine) → loss_of plan exec ≢ None
    → (trust_of t exec).lost ≡ false → (trust_of u exec).lost ≡ true
    → ((e : ℕ) → (e == exec) ≡ false → (trust_of u e).lost ≡ (trust_of t e).lost)
    → length (filter (is_untold u) plan) < length (filter (is_untold t) plan)
untold_fewer t u exec plan some was now same = fewer plan some
  where
    less : (l : PlanLine) → is_untold t l ≡ false → is_untold u l ≡ false
    less (lines.Fail p) e = refl
    less (lines.Late p count) e = refl
    less (lines.Twice p) e = refl
    less (lines.Drop e after) f = refl
    less (lines.Evict e after) f = refl
    less (lines.Lose e after told) f = by (e == exec) refl
      where
        by : (b : Bool) → (e == exec) ≡ b → not (trust_of u e).lost ≡ false
        by true g =
            let is : e ≡ exec = grind (arith, nat_tests, g) in
            ap (λ (x : ℕ). not (trust_of u x).lost) is ∙ ap not now
        by false g = ap not (same e g) ∙ f

    at_most : (plan : List PlanLine)
        → length (filter (is_untold u) plan) ≤ length (filter (is_untold t) plan)
    at_most [] = omega arith
    at_most (l ∷ ls) = by (is_untold t l) (is_untold u l) refl refl (at_most ls)
      where
        by : (x y : Bool) → is_untold t l ≡ x → is_untold u l ≡ y
            → length (filter (is_untold u) ls) ≤ length (filter (is_untold t) ls)
            → length (cond y (l ∷ filter (is_untold u) ls) (filter (is_untold u) ls))
            ≤ length (cond x (l ∷ filter (is_untold t) ls) (filter (is_untold t) ls))
        by true true e f le = omega (arith, le)
        by true false e f le = omega (arith, le)
        by false true e f le = absurd (clash f (less l e))
        by false false e f le = le

    fewer : (plan : List PlanLine) → loss_of plan exec ≢ None
        → length (filter (is_untold u) plan) < length (filter (is_untold t) plan)
    fewer [] none = absurd (none refl)
    fewer (lines.Fail p ∷ ls) n = fewer ls n
    fewer (lines.Late p count ∷ ls) n = fewer ls n
    fewer (lines.Twice p ∷ ls) n = fewer ls n
    fewer (lines.Drop e after ∷ ls) n = fewer ls n
    fewer (lines.Evict e after ∷ ls) n = fewer ls n
    fewer (lines.Lose e after told ∷ ls) n =
        by (e == exec) refl n (fewer ls) (at_most ls)
      where
        both : (x y : Bool) → not (trust_of t e).lost ≡ x → not (trust_of u e).lost ≡ y
            → (trust_of u e).lost ≡ (trust_of t e).lost → x ≡ y
        both x y f g h = sym f ∙ ap not (sym h) ∙ g

        by : (b : Bool) → (e == exec) ≡ b
            → slice_get (filter_map (loss_in exec) (lines.Lose e after told ∷ ls)) 0 ≢ None
            → (loss_of ls exec ≢ None
            → length (filter (is_untold u) ls) < length (filter (is_untold t) ls))
            → length (filter (is_untold u) ls) ≤ length (filter (is_untold t) ls)
            → length (filter (is_untold u) (lines.Lose e after told ∷ ls))
            < length (filter (is_untold t) (lines.Lose e after told ∷ ls))
        by true f some rest le =
            let is : e ≡ exec = grind (arith, nat_tests, f) in
            let before : (trust_of t e).lost ≡ false =
            ap (λ (x : ℕ). (trust_of t x).lost) is ∙ was in
            let after : (trust_of u e).lost ≡ true =
            ap (λ (x : ℕ). (trust_of u x).lost) is ∙ now in
            rw (before, after) (omega (arith, le))
        by false f some rest le =
            rw (same e f) (step (trust_of t e).lost (rest (rw f at some)))
          where
            step : (x : Bool)
                → length (filter (is_untold u) ls) < length (filter (is_untold t) ls)
                → length (cond (not x) (lines.Lose e after told ∷ filter (is_untold u) ls)
                (filter (is_untold u) ls))
                < length (cond (not x) (lines.Lose e after told ∷ filter (is_untold t) ls)
                (filter (is_untold t) ls))
            step true lt = lt
            step false lt = omega (arith, lt)

-- what is left to do, once what goes on was told
told_less :
    (c m after : CoreData) → Left m after → job_runs after ≡ true
    → m.dag.limits ≡ c.dag.limits → m.handed ≡ c.handed → m.dag.tracker ≡ c.dag.tracker
    → m.plan ≡ c.plan
    → 3 * length (outs m.running) + length m.shelf
    < 3 * length (outs c.running) + length c.shelf
    → left_to_do after < left_to_do c
told_less c m after left runs limits handed tracker plan lt =
    rw (
      left.limits,
      left.handed,
      left.running,
      left.shelf runs,
      limits,
      handed,
      left.plan,
      untold_same m.dag.tracker after.dag.tracker m.plan left.lost,
      tracker,
      plan,
    )
    (less_left (c.dag.limits.hand_outs - c.handed) (length (outs c.running))
    (length (outs m.running)) (length c.shelf) (length m.shelf)
    (length (filter (is_untold c.dag.tracker) c.plan)) lt)

-- and once an executor was told lost
lost_less :
    (c : CoreData) (exec : ℕ) → IsSoundCore c → may_be_lost c exec ≡ true
    → left_to_do (without_executor c exec) < left_to_do c
lost_less c exec sound may =
    let fewer =
    untold_fewer c.dag.tracker next.dag.tracker exec c.plan some facts.was facts.now facts.others in
    let less = outs_left (runs_on exec) c.running in
    rw (facts.limits, facts.handed, facts.shelf, facts.plan) (adds
    (4 * (c.dag.limits.hand_outs - c.handed)) (length (outs c.running))
    (length (outs (filter (λ r. not (runs_on exec r)) c.running))) (length c.shelf)
    (length (filter (is_untold c.dag.tracker) c.plan))
    (length (filter (is_untold next.dag.tracker) c.plan)) less fewer)
  where
    next : CoreData
    next = without_executor c exec

    facts : IsLessOne exec c (without_executor c exec)
    facts = lose_less c exec sound may

    due : is_due_after (loss_of c.plan exec) c.told ≡ true
    due =
        both_right (is_live (slice_get c.dag.tracker.trust exec)) _
        (both_right (job_runs c) _ may)

    some : loss_of c.plan exec ≢ None
    some n = true≢false (sym due ∙ ap (λ o. is_due_after o c.told) n)

    adds : (h k k' s l l' : ℕ) → k' ≤ k → l' < l
        → h + 3 * k' + s + l' < h + 3 * k + s + l
    adds h k k' s l l' le lt = omega (arith, le, lt)

-- and once a task was handed out
task_less : (h k s l n : ℕ) → n < h
    → 4 * (h - (n + 1)) + 3 * (k + 1) + s + l < 4 * (h - n) + 3 * k + s + l
task_less h k s l n lt = omega (arith, lt)

outs_push : (h : HandOutData) (exec : ℕ) (rs : List Running)
    → length (outs (rs ++ running_on h exec ∷ [])) ≡ length (outs rs) + 1
outs_push h exec [] = refl
outs_push h exec (r ∷ rs) = by r.is_out (outs_push h exec rs)
  where
    by : (b : Bool) → length (outs (rs ++ running_on h exec ∷ [])) ≡ length (outs rs) + 1
        → length (cond b (r ∷ outs (rs ++ running_on h exec ∷ []))
        (outs (rs ++ running_on h exec ∷ [])))
        ≡ length (cond b (r ∷ outs rs) (outs rs)) + 1
    by true e = omega (arith, e)
    by false e = e

pub steps_are_spent : StepsAreSpent
steps_are_spent c after (Post a outcome) answer sound step spends runs = by (job_runs c) refl step
  where
    still : (r : Running) → running_of c a ≡ Some r → r.is_out ≡ true → (delay : ℕ)
        → (twice : Bool)
        → left_to_do (shelved_if twice (shelved c a outcome delay) a outcome delay)
        < left_to_do c
    still r e out delay false =
        less_left (c.dag.limits.hand_outs - c.handed) (length (outs c.running))
        (length (outs (map (as_in a) c.running))) (length c.shelf)
        (length (c.shelf ++ to_be_told c a outcome delay ∷ []))
        (length (filter (is_untold c.dag.tracker) c.plan))
        (rw (length-append c.shelf (to_be_told c a outcome delay ∷ []))
        (let fewer = outs_fewer a r c.running e out in omega (arith, fewer)))
    still r e out delay true =
        let next = shelved c a outcome delay in
        less_left (c.dag.limits.hand_outs - c.handed) (length (outs c.running))
        (length (outs (map (as_in a) next.running))) (length c.shelf)
        (length (next.shelf ++ to_be_told next a outcome delay ∷ []))
        (length (filter (is_untold c.dag.tracker) c.plan))
        (rw (
          length-append next.shelf (to_be_told next a outcome delay ∷ []),
          length-append c.shelf (to_be_told c a outcome delay ∷ []),
        )
        (let fewer = outs_fewer a r c.running e out in
        let more = outs_in a next.running in omega (arith, fewer, more)))

    told : (r : Running) → running_of c a ≡ Some r → r.is_out ≡ true → (twice : Bool)
        → TellsNow (shelved_if twice c a outcome 0) a outcome answer after
        → left_to_do after < left_to_do c
    told r e out false now =
        let tells : Tells (taken_off c a) r outcome answer after = rw e at now in
        told_less c (taken_off c a) after (tells_left (taken_off c a) after r outcome answer tells)
        runs refl refl refl refl
        (let fewer = outs_gone a r c.running e out in omega (arith, fewer))
    told r e out true now =
        let next = shelved c a outcome 0 in
        let found : running_of next a ≡ Some (as_in a r) =
        find_in a a c.running ∙ ap (option_map (as_in a)) e in
        let tells : Tells (taken_off next a) (as_in a r) outcome answer after = rw found at now in
        told_less c (taken_off next a) after
        (tells_left (taken_off next a) after (as_in a r) outcome answer tells)
        runs refl refl refl refl
        (rw (length-append c.shelf (to_be_told c a outcome 0 ∷ []))
        (let fewer = outs_fewer a r c.running e out in
        let less = outs_left (is_of a) next.running in omega (arith, fewer, less)))

    posts : (r : Running) → running_of c a ≡ Some r → r.is_out ≡ true → (delay : Option ℕ)
        → PostsBy delay c a outcome answer after → left_to_do after < left_to_do c
    posts r e out None tells = told r e out (comes_twice c a) tells
    posts r e out (Some delay) (says, is) =
        subst (λ x. left_to_do x < left_to_do c) (sym is)
        (still r e out delay (comes_twice c a))

    of : (o : Option Running) → running_of c a ≡ o
        → spends_nothing c (Post a outcome) answer ≡ false → PostsOf o c a outcome answer after
        → left_to_do after < left_to_do c
    of None e none h = absurd (true≢false (sym (out_none e) ∙ none))
      where
        out_none : running_of c a ≡ None → spends_nothing c (Post a outcome) answer ≡ true
        out_none f = rw f refl
    of (Some r) e some (fit, h) =
        posts r e (is_out r.is_out (rw e at some)) (delay_for c a) h
      where
        is_out : (b : Bool) → not b ≡ false → b ≡ true
        is_out true f = refl
        is_out false f = absurd (true≢false f)

    by : (b : Bool) → job_runs c ≡ b → PostsIf b c a outcome answer after
        → left_to_do after < left_to_do c
    by false e (says, is) = absurd (clash (ap job_runs (sym is) ∙ runs) e)
    by true e h = of (running_of c a) refl spends h
steps_are_spent c after (Release key) answer sound step spends runs = by (job_runs c) refl step
  where
    next : CoreData
    next = without_shelved c key

    fewer : (s : Shelved) → shelved_of c key ≡ Some s → length next.shelf < length c.shelf
    fewer s e = shorter (has_key key) c.shelf (λ n. search (rules, n, e))

    late : (s : Shelved) → shelved_of c key ≡ Some s → (o : Option Running)
        → TellsTo o next s.attempt s.outcome answer after → left_to_do after < left_to_do c
    late s e None (says, is) =
        subst (λ x. left_to_do x < left_to_do c) (sym is)
        (less_left (c.dag.limits.hand_outs - c.handed) (length (outs c.running))
        (length (outs c.running)) (length c.shelf) (length next.shelf)
        (length (filter (is_untold c.dag.tracker) c.plan))
        (let lt = fewer s e in omega (arith, lt)))
    late s e (Some r) tells =
        told_less c (taken_off next s.attempt) after
        (tells_left (taken_off next s.attempt) after r s.outcome answer tells) runs
        refl refl refl refl
        (let lt = fewer s e in
        let less = outs_left (is_of s.attempt) c.running in omega (arith, lt, less))

    of : (o : Option Shelved) → shelved_of c key ≡ o → ReleasesOf o c key answer after
        → left_to_do after < left_to_do c
    of None e bad = absurd bad
    of (Some s) e tells = late s e (running_of c s.attempt) tells

    by : (b : Bool) → job_runs c ≡ b → ReleasesIf b c key answer after
        → left_to_do after < left_to_do c
    by false e (says, is) = absurd (clash (ap job_runs (sym is) ∙ runs) e)
    by true e h = of (shelved_of c key) refl h
steps_are_spent c after (Side event) answer sound step spends runs = absurd (true≢false spends)
steps_are_spent c after (TellLost exec) answer sound (may, step) spends runs =
    by (are_lost (without_executor c exec).dag.tracker.trust) step
  where
    next : CoreData
    next = without_executor c exec

    by : (b : Bool) → LosesOrAborts b next answer after → left_to_do after < left_to_do c
    by true (says, is) = absurd (true≢false (sym runs ∙ ap job_runs is))
    by false (says, is) =
        subst (λ x. left_to_do x < left_to_do c) (sym is) (lost_less c exec sound may)
steps_are_spent c after (Take exec) answer sound step changes runs =
    by (takes_so c after exec answer step)
  where
    by : TakesSo c after exec answer → left_to_do after < left_to_do c
    by (inl t) =
        subst (λ x. left_to_do x < left_to_do c) (sym t.is)
        (rw (outs_push t.task exec c.running)
        (task_less c.dag.limits.hand_outs (length (outs c.running)) (length c.shelf)
        (length (filter (is_untold c.dag.tracker) c.plan)) c.handed t.below))
    by (inr (inl b)) = absurd (true≢false (sym runs ∙ ap job_runs b.is))
    by (inr (inr same)) = absurd (true≢false (sym same.told ∙ changes))
