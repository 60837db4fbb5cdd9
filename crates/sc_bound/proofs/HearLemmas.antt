-- What runs once a report is told, or none is.
use Rattle.std.proofs.Common.{◌≡◌, ◌⊎◌, inl, inr, ℕ, not, All, Bool, true, false, cond, if◌then◌else◌, List, [], ◌∷◌, map, Option, Some, None, find, option_map, count_by, refl, ap, sym, subst, ◌∙◌, rules}
use Rattle.std.specs.List.{AllPairs, filter}
use Rattle.std.proofs.lemmas.List.Elements.{All-cons, All-weaker}
use Rattle.sc_ids.specs.declared.attempts.AttemptId.{AttemptId}
use Rattle.sc_commit.specs.Committing.{is_same}
use Rattle.sc_taskset.proofs.FindLemmas.{found_is, pairs_head, pairs_tail}
use Rattle.sc_dag.specs.Sound.{runner_of}
use Rattle.sc_dag.proofs.Tests.{clash}
use Rattle.sc_core.specs.CoreData.{CoreData, as_in, has_key, is_of, job_runs, running_of, shelved, shelved_if, shelved_of, taken_off, told_once, without_shelved}
use Rattle.sc_core.specs.HandOuts.{HandOutData}
use Rattle.sc_core.specs.Posts.{PostsBy, PostsIf, PostsOf, TellsNow, comes_twice, delay_for, fits}
use Rattle.sc_core.specs.Releases.{ReleasesIf, ReleasesOf}
use Rattle.sc_core.specs.Sound.{AreTwo, IsShelvedWell, IsSoundCore}
use Rattle.sc_core.specs.Tells.{Tells, TellsTo}
use Rattle.sc_core.specs.declared.answers.Answer.{Answer}
use Rattle.sc_core.specs.declared.answers.Answer.TheVariants as says
use Rattle.sc_core.specs.declared.events.Event.{Event}
use Rattle.sc_core.specs.declared.events.Event.TheVariants.{Post, Release}
use Rattle.sc_core.specs.declared.events.Outcome.{Outcome}
use Rattle.sc_core.specs.declared.running.Running.{Running}
use Rattle.sc_core.specs.declared.running.Shelved.{Shelved}
use Rattle.sc_core.proofs.LookupLemmas.{same_is}
use Rattle.sc_core.proofs.ShelfLemmas.{awaits_it, find_in, fits_in, in_same}
use Rattle.sc_core.proofs.StepLemmas.{posted}
use Rattle.sc_history.specs.Tellings.{is_heard, telling, told_late}
use Rattle.sc_history.proofs.Events.{IsKnown, in_exec, in_phase}
use Rattle.sc_bound.specs.Accounts.{runs_for}
use Rattle.sc_bound.proofs.CountLemmas.{count_map}

-- ---- one attempt among those that run

-- the attempt that is found is the only one of its numbers
pub found_alone : (a : AttemptId) (rs : List Running) (ran : Running) → AllPairs AreTwo rs
    → find (is_of a) rs ≡ Some ran → All (λ r. is_of a r ≡ true → r ≡ ran) rs
found_alone a [] ran pairs found = absurd (search (rules, found))
found_alone a (x ∷ xs) ran pairs found =
    by (is_of a x) refl found
    (λ f. found_alone a xs ran (pairs_tail AreTwo x xs pairs) f)
  where
    others : is_of a x ≡ true → All (λ r. is_of a r ≡ true → r ≡ ran) xs
    others e =
        All-weaker (AreTwo x) (λ r. is_of a r ≡ true → r ≡ ran)
        (λ r two f. absurd (clash
        (subst (λ b. is_same x.hand_out.attempt b ≡ true) (sym (same_is r.hand_out.attempt a f)) e)
        two.attempts)) xs (pairs_head AreTwo x xs pairs)

    by : (b : Bool) → is_of a x ≡ b → cond b (Some x) (find (is_of a) xs) ≡ Some ran
        → (find (is_of a) xs ≡ Some ran → All (λ r. is_of a r ≡ true → r ≡ ran) xs)
        → All (λ r. is_of a r ≡ true → r ≡ ran) (x ∷ xs)
    by true e f rest =
        let is : x ≡ ran = search (rules, f) in
        All-cons (λ r. is_of a r ≡ true → r ≡ ran) x xs (λ h. is) (others e)
    by false e f rest =
        All-cons (λ r. is_of a r ≡ true → r ≡ ran) x xs (λ h. absurd (clash h e)) (rest f)

-- ---- those that are left once a report of one of them is told

-- those that run but for it
abbrev pub left_of : AttemptId → CoreData → List Running
left_of a c = filter (λ r. not (is_of a r)) c.running

-- an attempt that isn't out any more counts as before
abbrev pub CountsAlike : (Running → Bool) → Type 0
CountsAlike test = (a : AttemptId) (r : Running) → test (as_in a r) ≡ test r

-- a report is told to its attempt, and the others run as before
pub record Hears (c after : CoreData) (event : Event) (answer : Answer) : Type 0 where
  pub runs : job_runs c ≡ true
  pub mid : CoreData
  pub dag : mid.dag ≡ c.dag
  pub committers : mid.committers ≡ c.committers
  pub one : Running
  pub outcome : Outcome
  pub tells : Tells mid one outcome answer after
  pub known : IsKnown c event answer one outcome
  pub count : (test : Running → Bool) → CountsAlike test
      → count_by test mid.running ≡ count_by test (left_of one.hand_out.attempt c)

-- none is told, and the stages and what runs are as before
pub record Silent (c after : CoreData) (answer : Answer) : Type 0 where
  pub dag : after.dag ≡ c.dag
  pub count : (test : Running → Bool) → CountsAlike test
      → count_by test after.running ≡ count_by test c.running
  pub job : after.job ≡ c.job
  pub unheard : is_heard answer ≡ false

abbrev pub Hearing : CoreData → CoreData → Event → Answer → Type 0
Hearing c after event answer = Silent c after answer ⊎ Hears c after event answer

silent : (c after d : CoreData) (answer said : Answer) → after ≡ d → d.dag ≡ c.dag
    → ((test : Running → Bool) → CountsAlike test
    → count_by test d.running ≡ count_by test c.running)
    → d.job ≡ c.job → answer ≡ said → is_heard said ≡ false → Silent c after answer
silent c after d answer said is dag count job told unheard =
    record {
      dag = ap (λ (x : CoreData). x.dag) is ∙ dag;
      count = λ test alike. ap (λ (x : CoreData). count_by test x.running) is ∙ count test alike;
      job = ap (λ (x : CoreData). x.job) is ∙ job;
      unheard = ap is_heard told ∙ unheard;
    }

-- so counts one that wasn't denied
pub in_runs : (s k p : ℕ) (a : AttemptId) (r : Running)
    → runs_for s k p (as_in a r) ≡ runs_for s k p r
in_runs s k p a r = by (is_of a r)
  where
    by : (b : Bool)
        → runs_for s k p (if b then record r { is_out = false } else r) ≡ runs_for s k p r
    by true = refl
    by false = refl

in_hand : (a : AttemptId) (r : Running) → (as_in a r).hand_out ≡ r.hand_out
in_hand a r = by (is_of a r)
  where
    by : (b : Bool) → (if b then record r { is_out = false } else r).hand_out ≡ r.hand_out
    by true = refl
    by false = refl

shelved_runs : (c : CoreData) (a : AttemptId) (outcome : Outcome) (delay : ℕ)
    (test : Running → Bool) → CountsAlike test
    → count_by test (shelved c a outcome delay).running ≡ count_by test c.running
shelved_runs c a outcome delay test alike = count_map test (as_in a) c.running (alike a)

-- taken away from those that aren't out any more
left_mapped : (p w : Running → Bool) (g : Running → Running) (xs : List Running)
    → ((r : Running) → p (g r) ≡ p r) → ((r : Running) → w (g r) ≡ w r)
    → count_by p (filter w (map g xs)) ≡ count_by p (filter w xs)
left_mapped p w g xs same keeps =
    ap (λ ys. count_by p ys) (filter_mapped xs) ∙ count_map p g (filter w xs) same
  where
    filter_mapped : (ys : List Running) → filter w (map g ys) ≡ map g (filter w ys)
    filter_mapped [] = refl
    filter_mapped (y ∷ ys) = rw (keeps y) (by (w y) (filter_mapped ys))
      where
        by : (b : Bool) → filter w (map g ys) ≡ map g (filter w ys)
            → cond b (g y ∷ filter w (map g ys)) (filter w (map g ys))
            ≡ map g (cond b (y ∷ filter w ys) (filter w ys))
        by true h = ap (λ zs. g y ∷ zs) h
        by false h = h

-- ---- each event

pub posts_hear : (c after : CoreData) (a : AttemptId) (outcome : Outcome) (answer : Answer)
    → IsSoundCore c → PostsIf (job_runs c) c a outcome answer after
    → Hearing c after (Post a outcome) answer
posts_hear c after a outcome answer sound step = by (job_runs c) refl step
  where
    Goal : Type 0
    Goal = Hearing c after (Post a outcome) answer

    known : (r one : Running) → running_of c a ≡ Some r → fits c r outcome ≡ true
        → one.hand_out ≡ r.hand_out → one.exec ≡ r.exec → one.phase ≡ r.phase
        → fits c one outcome ≡ fits c r outcome
        → IsKnown c (Post a outcome) answer one outcome
    known r one e fit hand exec phase same =
        let p = posted c a r sound.job e in
        let at = ap (λ (h : HandOutData). h.attempt) hand in
        record {
          told = ap (λ b. telling b outcome answer ∷ []) (sym (at ∙ p.attempt));
          in_set = ap (λ b. runner_of c.dag b) at ∙ p.well.in_set ∙ ap Some (sym exec);
          fit = same ∙ fit;
          ran = r;
          found = subst (λ b. running_of c b ≡ Some r) (sym p.attempt) e;
          hand = sym hand;
          phase = phase;
          exec = exec;
        }

    -- the attempt is that of the report
    is_it : (r : Running) → running_of c a ≡ Some r → a ≡ r.hand_out.attempt
    is_it r e = sym (posted c a r sound.job e).attempt

    now : (r : Running) → running_of c a ≡ Some r → fits c r outcome ≡ true
        → job_runs c ≡ true → (twice : Bool)
        → TellsNow (shelved_if twice c a outcome 0) a outcome answer after
        → Hearing c after (Post a outcome) answer
    now r e fit runs false h =
        let tells : Tells (taken_off c a) r outcome answer after = rw e at h in
        inr (record {
          runs = runs;
          mid = taken_off c a;
          dag = refl;
          committers = refl;
          one = r;
          outcome = outcome;
          tells = tells;
          known = known r r e fit refl refl refl refl;
          count = λ test alike. ap (λ b. count_by test (left_of b c)) (is_it r e);
        })
    now r e fit runs true h =
        let next = shelved c a outcome 0 in
        let found : running_of next a ≡ Some (as_in a r) =
        find_in a a c.running ∙ ap (option_map (as_in a)) e in
        let tells : Tells (taken_off next a) (as_in a r) outcome answer after = rw found at h in
        inr (record {
          runs = runs;
          mid = taken_off next a;
          dag = refl;
          committers = refl;
          one = as_in a r;
          outcome = outcome;
          tells = tells;
          known = known r (as_in a r) e fit (in_hand a r) (in_exec a r) (in_phase a r)
              (fits_in c a r outcome);
          count = λ test alike. left_mapped test (λ q. not (is_of a q)) (as_in a) c.running
              (alike a) (λ q. ap not (in_same a a q))
              ∙ ap (λ b. count_by test (left_of b c))
              (is_it r e ∙ ap (λ (x : HandOutData). x.attempt) (sym (in_hand a r)));
        })

    late : (delay : ℕ) (twice : Bool) → answer ≡ says.Shelved
        → after ≡ shelved_if twice (shelved c a outcome delay) a outcome delay
        → Hearing c after (Post a outcome) answer
    late delay false told is =
        inl (silent c after (shelved c a outcome delay) answer says.Shelved is refl
        (shelved_runs c a outcome delay) refl told refl)
    late delay true told is =
        inl (silent c after (shelved (shelved c a outcome delay) a outcome delay) answer
        says.Shelved is refl
        (λ test alike. shelved_runs (shelved c a outcome delay) a outcome delay test alike
        ∙ shelved_runs c a outcome delay test alike) refl told refl)

    posts : (r : Running) → running_of c a ≡ Some r → fits c r outcome ≡ true
        → job_runs c ≡ true → (delay : Option ℕ) → PostsBy delay c a outcome answer after
        → Hearing c after (Post a outcome) answer
    posts r e fit runs None h = now r e fit runs (comes_twice c a) h
    posts r e fit runs (Some delay) (told, is) = late delay (comes_twice c a) told is

    of : (o : Option Running) → running_of c a ≡ o → job_runs c ≡ true
        → PostsOf o c a outcome answer after → Hearing c after (Post a outcome) answer
    of None e runs (told, is) =
        inl (silent c after (told_once c) answer says.Ignored is refl (λ test alike. refl) refl told
        refl)
    of (Some r) e runs (fit, h) = posts r e fit runs (delay_for c a) h

    by : (b : Bool) → job_runs c ≡ b → PostsIf b c a outcome answer after → Goal
    by false runs (told, is) =
        inl (silent c after c answer says.Ignored is refl (λ test alike. refl) refl told refl)
    by true runs h = of (running_of c a) refl runs h

pub releases_hear : (c after : CoreData) (key : ℕ) (answer : Answer)
    → IsSoundCore c → ReleasesIf (job_runs c) c key answer after
    → Hearing c after (Release key) answer
releases_hear c after key answer sound step = by (job_runs c) refl step
  where
    next : CoreData
    next = without_shelved c key

    late : (s : Shelved) → shelved_of c key ≡ Some s → job_runs c ≡ true
        → (o : Option Running) → running_of c s.attempt ≡ o
        → TellsTo o next s.attempt s.outcome answer after → Hearing c after (Release key) answer
    late s e runs None f (told, is) =
        inl (silent c after (told_once next) answer says.Ignored is refl (λ test alike. refl) refl
        told refl)
    late s e runs (Some r) f tells =
        inr (record {
          runs = runs;
          mid = taken_off next s.attempt;
          dag = refl;
          committers = refl;
          one = r;
          outcome = s.outcome;
          tells = tells;
          known = known;
          count = λ test alike. ap (λ b. count_by test (left_of b c))
              (sym (posted c s.attempt r sound.job f).attempt);
        })
      where
        known : IsKnown c (Release key) answer r s.outcome
        known =
            let p = posted c s.attempt r sound.job f in
            let well : IsShelvedWell c s =
            found_is (IsShelvedWell c) (has_key key) c.shelf s (sound.shelf runs).each e in
            record {
              told = ap (λ o. told_late o answer) e
                  ∙ ap (λ b. telling b s.outcome answer ∷ []) (sym p.attempt);
              in_set = p.well.in_set;
              fit = (awaits_it c s r well f).fit;
              ran = r;
              found = subst (λ b. running_of c b ≡ Some r) (sym p.attempt) f;
              hand = refl;
              phase = refl;
              exec = refl;
            }

    of : (o : Option Shelved) → shelved_of c key ≡ o → job_runs c ≡ true
        → ReleasesOf o c key answer after → Hearing c after (Release key) answer
    of None e runs h = absurd h
    of (Some s) e runs h = late s e runs (running_of c s.attempt) refl h

    by : (b : Bool) → job_runs c ≡ b → ReleasesIf b c key answer after
        → Hearing c after (Release key) answer
    by false runs (told, is) =
        inl (silent c after c answer says.Ignored is refl (λ test alike. refl) refl told refl)
    by true runs h = of (shelved_of c key) refl runs h
