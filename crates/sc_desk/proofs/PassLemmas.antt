-- What each event leaves of the plan, of how many were told, of who was seen, and of the shelf.
use Rattle.std.proofs.Common.{◌≡◌, ◌≢◌, inl, inr, ℕ, ◌+◌, ◌<◌, ◌≤◌, ◌^◌, ◌++◌, not, All, Bool, true, false, List, [], ◌∷◌, length, filter, Option, Some, None, refl, ap, sym, subst, ◌∙◌, arith, true≢false}
use Rattle.std.proofs.lemmas.List.{append-nil, append_assoc}
use Rattle.std.proofs.lemmas.List.Elements.{All-cons, All-nil}
use Rattle.sc_ids.specs.declared.attempts.AttemptId.{AttemptId}
use Rattle.sc_commit.specs.declared.committers.Ending.TheVariants as endings
use Rattle.sc_tracker.specs.Trust.{are_lost}
use Rattle.sc_dag.specs.Losses.{after_lost}
use Rattle.sc_dag.proofs.Tests.{both_left, clash}
use Rattle.sc_core.specs.CoreData.{CoreData, has_key, is_running_job, job_runs, running_of, shelved, shelved_if, shelved_of, taken_off, to_be_told, with_dag, without_shelved}
use Rattle.sc_core.specs.Losses.{Loses, LosesOrAborts, all_released, attempts_on, without_executor}
use Rattle.sc_core.specs.Posts.{Posts, PostsBy, PostsIf, PostsOf, comes_twice, delay_for}
use Rattle.sc_core.specs.Releases.{Releases, ReleasesIf, ReleasesOf}
use Rattle.sc_core.specs.Takes.{Takes}
use Rattle.sc_core.specs.Tells.{TellsTo, released}
use Rattle.sc_core.specs.declared.answers.Answer.{Answer}
use Rattle.sc_core.specs.declared.answers.Answer.TheVariants as says
use Rattle.sc_core.specs.declared.events.Outcome.{Outcome}
use Rattle.sc_core.specs.declared.running.Running.{Running}
use Rattle.sc_core.specs.declared.running.Shelved.{Shelved}
use Rattle.sc_core.proofs.LeftLemmas.{Left, tells_left}
use Rattle.sc_core.proofs.LoseLemmas.{all_left}
use Rattle.sc_core.proofs.PlannedLemmas.{counted_more}
use Rattle.sc_desk.proofs.TrackLemmas.{Sees, ShowsWithin, StaysOrDrops, Tracks, all_released_trust, lost_sees, sees_same, sees_then, tells_track}
use Rattle.sc_core.proofs.TakeCases.{TakesSo, takes_so}
use Rattle.sc_dag.specs.DagData.{DagData}
use Rattle.sc_core.specs.Sides.{IsAside, MayHold}

-- the shelf of a job that has ended is empty
abbrev pub EndsEmpty : CoreData → Type 0
EndsEmpty c = job_runs c ≡ false → c.shelf ≡ []

-- what every event leaves
pub record Passes (bound : ℕ → ℕ) (c after : CoreData) : Type 0 where
  pub plan : after.plan ≡ c.plan
  pub told : c.told ≤ after.told
  pub sees : Sees bound c.dag after.dag
  pub ends : EndsEmpty c → EndsEmpty after

-- nothing changes
passes_same : (bound : ℕ → ℕ) (c after : CoreData) → after ≡ c → Passes bound c after
passes_same bound c after is =
    subst (λ x. Passes bound c x) (sym is)
    (record {
      plan = refl;
      told = omega arith;
      sees = sees_same bound c.dag c.dag refl;
      ends = λ h. h;
    })

-- ---- reports that are told

-- what a report that is told to its attempt, or to nobody, leaves of a core whose job runs
pub record Telling (bound : ℕ → ℕ) (c after : CoreData) : Type 0 where
  pub passes : Passes bound c after
  pub shelf : job_runs after ≡ true → after.shelf ≡ c.shelf

telling :
    (bound : ℕ → ℕ) (c after : CoreData) (o : Option Running) (a : AttemptId) (outcome : Outcome)
    (answer : Answer) → job_runs c ≡ true → c.told < 2 ^ 64 → ShowsWithin bound outcome
    → TellsTo o c a outcome answer after → Telling bound c after
telling bound c after None a outcome answer runs few shows (told, is) =
    subst (λ x. Telling bound c x) (sym is)
    (record {
      passes =
          record {
            plan = refl;
            told = counted_more c.told few;
            sees = sees_same bound c.dag c.dag refl;
            ends = λ h. h;
          };
      shelf = λ r. refl;
    })
telling bound c after (Some r) a outcome answer runs few shows h =
    record {
      passes =
          record {
            plan = left.plan;
            told = subst (λ (n : ℕ). c.told ≤ n) (sym left.told) (counted_more c.told few);
            sees = tracks.sees;
            ends = λ before over. drop tracks.drops over;
          };
      shelf = λ r. left.shelf r;
    }
  where
    left : Left (taken_off c a) after
    left = tells_left (taken_off c a) after r outcome answer h

    tracks : Tracks bound (taken_off c a) after
    tracks = tells_track bound (taken_off c a) after r outcome answer shows h

    drop : StaysOrDrops (taken_off c a) after → job_runs after ≡ false → after.shelf ≡ []
    drop (inl (job, shelf)) over = absurd (clash runs (sym (ap is_running_job job) ∙ over))
    drop (inr none) over = none

-- ---- events

pub takes_pass :
    (bound : ℕ → ℕ) (c after : CoreData) (exec : ℕ) (answer : Answer) → Takes c exec answer after
    → Telling bound c after
takes_pass bound c after exec answer step = by (takes_so c after exec answer step)
  where
    by : TakesSo c after exec answer → Telling bound c after
    by (inl t) =
        subst (λ x. Telling bound c x) (sym t.is)
        (record {
          passes =
              record {
                plan = refl;
                told = omega arith;
                sees = sees_same bound c.dag _ refl;
                ends = λ h. h;
              };
          shelf = λ r. refl;
        })
    by (inr (inl b)) =
        subst (λ x. Telling bound c x) (sym b.is)
        (record {
          passes =
              record {
                plan = refl;
                told = omega arith;
                sees = sees_same bound c.dag c.dag refl;
                ends = λ h over. refl;
              };
          shelf = λ r. absurd (true≢false (sym r));
        })
    by (inr (inr same)) =
        record {
          passes = passes_same bound c after same.is;
          shelf = λ r. ap (λ (x : CoreData). x.shelf) same.is;
        }

-- where a partition may be held back, nothing is heard of executors
held_trust : (d after : DagData) → MayHold d after → after.tracker.trust ≡ d.tracker.trust
held_trust d after (inl is) = ap (λ (x : DagData). x.tracker.trust) is
held_trust d after (inr (s, p, denied, is)) = ap (λ (x : DagData). x.tracker.trust) is

-- what happens beside the reports
pub aside_pass : (bound : ℕ → ℕ) (c after : CoreData) → IsAside c after → Telling bound c after
aside_pass bound c after is =
    record {
      passes =
          record {
            plan = is.plan;
            told = rw is.told (omega arith);
            sees = sees_same bound c.dag after.dag (held_trust c.dag after.dag is.dag);
            ends = λ h over. is.shelf ∙ h (ap is_running_job (sym is.job) ∙ over);
          };
      shelf = λ r. is.shelf;
    }

-- ---- losses

pub losses_pass :
    (bound : ℕ → ℕ) (c after : CoreData) (exec : ℕ) (answer : Answer) → Loses c exec answer after
    → Telling bound c after
losses_pass bound c after exec answer (may, step) = by (are_lost next.dag.tracker.trust) step
  where
    next : CoreData
    next = without_executor c exec

    from : CoreData
    from = with_dag c (after_lost c.dag exec)

    these : List AttemptId
    these = attempts_on exec c.running

    left : Left from (all_released these from)
    left = all_left these from

    runs : job_runs c ≡ true
    runs = both_left (job_runs c) _ may

    jobs_same : (these : List AttemptId) (m : CoreData) → (all_released these m).job ≡ m.job
    jobs_same [] m = refl
    jobs_same (a ∷ these) m = jobs_same these (released m a endings.Failed)

    all_shelf : (these : List AttemptId) (m : CoreData)
        → (all_released these m).shelf ≡ m.shelf
    all_shelf [] m = refl
    all_shelf (a ∷ these) m = all_shelf these (released m a endings.Failed)

    sees : Sees bound c.dag next.dag
    sees =
        sees_then bound c.dag from.dag next.dag (lost_sees bound c.dag exec)
        (sees_same bound from.dag next.dag (all_released_trust these from))

    told : c.told ≤ next.told
    told = subst (λ (n : ℕ). c.told ≤ n) (sym left.told) (omega arith)

    by : (b : Bool) → LosesOrAborts b next answer after → Telling bound c after
    by true (says_so, is) =
        subst (λ x. Telling bound c x) (sym is)
        (record {
          passes =
              record { plan = left.plan; told = told; sees = sees; ends = λ h over. refl };
          shelf = λ r. absurd (true≢false (sym r));
        })
    by false (says_so, is) =
        subst (λ x. Telling bound c x) (sym is)
        (record {
          passes =
              record {
                plan = left.plan;
                told = told;
                sees = sees;
                ends = λ h over.
                    absurd (clash runs (sym (ap is_running_job (jobs_same these from)) ∙ over));
              };
          shelf = λ r. all_shelf these from;
        })

-- ---- releases

pub record Released (bound : ℕ → ℕ) (c : CoreData) (key : ℕ) (after : CoreData) : Type 0 where
  pub passes : Passes bound c after
  pub shelf : job_runs after ≡ true → after.shelf ≡ filter (λ s. not (has_key key s)) c.shelf

-- the report under a key shows no generation above its bound
abbrev pub ReleaseShows : (ℕ → ℕ) → Option Shelved → Type 0
ReleaseShows bound None = Unit {0}
ReleaseShows bound (Some s) = ShowsWithin bound s.outcome

pub releases_pass :
    (bound : ℕ → ℕ) (c after : CoreData) (key : ℕ) (answer : Answer) → c.told < 2 ^ 64
    → ReleaseShows bound (shelved_of c key) → Releases c key answer after
    → Released bound c key after
releases_pass bound c after key answer few shows step = by (job_runs c) refl step
  where
    next : CoreData
    next = without_shelved c key

    tells : job_runs c ≡ true → (s : Shelved) → ShowsWithin bound s.outcome
        → TellsTo (running_of c s.attempt) next s.attempt s.outcome answer after
        → Released bound c key after
    tells runs s show h =
        let t = telling bound next after (running_of c s.attempt) s.attempt s.outcome answer runs
        few show h in
        record {
          passes =
              record {
                plan = t.passes.plan;
                told = t.passes.told;
                sees = t.passes.sees;
                ends = λ before. t.passes.ends (λ over. absurd (clash runs over));
              };
          shelf = t.shelf;
        }

    of : job_runs c ≡ true → (o : Option Shelved) → ReleaseShows bound o
        → ReleasesOf o c key answer after → Released bound c key after
    of runs None show h = absurd h
    of runs (Some s) show h = tells runs s show h

    by : (b : Bool) → job_runs c ≡ b → ReleasesIf b c key answer after
        → Released bound c key after
    by false over (told, is) =
        record {
          passes = passes_same bound c after is;
          shelf = λ r. absurd (clash (sym (ap job_runs is) ∙ r) over);
        }
    by true runs h = of runs (shelved_of c key) shows h

-- ---- posts

-- how many copies of a report come later than the first one
abbrev pub copies_if : Bool → ℕ
copies_if false = 0
copies_if true = 1

-- a report that is to be told later is this one, of an attempt that runs
pub record IsPutOff (c : CoreData) (a : AttemptId) (outcome : Outcome) (s : Shelved) : Type 0
  where
    pub attempt : s.attempt ≡ a
    pub outcome_is : s.outcome ≡ outcome
    pub one : Running
    pub runs : job_runs c ≡ true
    pub running : running_of c a ≡ Some one

-- what a report that is posted leaves: it stands on the shelf once for each time that it is to be
-- told later
pub record Posted (bound : ℕ → ℕ) (c : CoreData) (a : AttemptId) (outcome : Outcome)
    (answer : Answer) (after : CoreData) : Type 0 where
  pub passes : Passes bound c after
  pub news : List Shelved
  pub shelf : job_runs after ≡ true → after.shelf ≡ c.shelf ++ news
  pub put_off : All (IsPutOff c a outcome) news
  pub few : length news ≤ 1 + copies_if (comes_twice c a)
  pub told : answer ≢ says.Shelved → length news ≤ copies_if (comes_twice c a)

pub posts_pass :
    (bound : ℕ → ℕ) (c after : CoreData) (a : AttemptId) (outcome : Outcome) (answer : Answer)
    → c.told < 2 ^ 64 → ShowsWithin bound outcome → Posts c a outcome answer after
    → Posted bound c a outcome answer after
posts_pass bound c after a outcome answer few shows step = by (job_runs c) refl step
  where
    put : (r : Running) → job_runs c ≡ true → running_of c a ≡ Some r → (m : CoreData)
        (delay : ℕ) → IsPutOff c a outcome (to_be_told m a outcome delay)
    put r runs e m delay =
        record { attempt = refl; outcome_is = refl; one = r; runs = runs; running = e }

    none : Passes bound c after → after.shelf ≡ c.shelf → Posted bound c a outcome answer after
    none passes shelf =
        record {
          passes = passes;
          news = [];
          shelf = λ r. shelf ∙ sym (append-nil c.shelf);
          put_off = All-nil (IsPutOff c a outcome);
          few = omega arith;
          told = λ e. omega arith;
        }

    now : (r : Running) → running_of c a ≡ Some r → (twice : Bool) → comes_twice c a ≡ twice
        → job_runs c ≡ true
        → TellsTo (running_of (shelved_if twice c a outcome 0) a) (shelved_if twice c a outcome 0)
        a outcome answer after
        → Posted bound c a outcome answer after
    now r f false e runs h =
        let t = telling bound c after (running_of c a) a outcome answer runs few shows h in
        record {
          passes = t.passes;
          news = [];
          shelf = λ r. t.shelf r ∙ sym (append-nil c.shelf);
          put_off = All-nil (IsPutOff c a outcome);
          few = omega arith;
          told = λ n. omega arith;
        }
    now r f true e runs h =
        let mid = shelved c a outcome 0 in
        let t = telling bound mid after (running_of mid a) a outcome answer runs few shows h in
        record {
          passes =
              record {
                plan = t.passes.plan;
                told = t.passes.told;
                sees = t.passes.sees;
                ends = λ before. t.passes.ends (λ over. absurd (clash runs over));
              };
          news = to_be_told c a outcome 0 ∷ [];
          shelf = t.shelf;
          put_off =
              All-cons (IsPutOff c a outcome) (to_be_told c a outcome 0) [] (put r runs f c 0)
              (All-nil (IsPutOff c a outcome));
          few = rw e (omega arith);
          told = λ n. rw e (omega arith);
        }

    late : (r : Running) → running_of c a ≡ Some r → (delay : ℕ) (twice : Bool)
        → comes_twice c a ≡ twice → job_runs c ≡ true → answer ≡ says.Shelved
        → after ≡ shelved_if twice (shelved c a outcome delay) a outcome delay
        → Posted bound c a outcome answer after
    late r f delay false e runs told is =
        subst (λ x. Posted bound c a outcome answer x) (sym is)
        (record {
          passes =
              record {
                plan = refl;
                told = omega arith;
                sees = sees_same bound c.dag c.dag refl;
                ends = λ h over. absurd (clash runs over);
              };
          news = to_be_told c a outcome delay ∷ [];
          shelf = λ r. refl;
          put_off =
              All-cons (IsPutOff c a outcome) (to_be_told c a outcome delay) []
              (put r runs f c delay)
              (All-nil (IsPutOff c a outcome));
          few = omega arith;
          told = λ n. absurd (n told);
        })
    late r f delay true e runs told is =
        let mid = shelved c a outcome delay in
        subst (λ x. Posted bound c a outcome answer x) (sym is)
        (record {
          passes =
              record {
                plan = refl;
                told = omega arith;
                sees = sees_same bound c.dag c.dag refl;
                ends = λ h over. absurd (clash runs over);
              };
          news = to_be_told c a outcome delay ∷ to_be_told mid a outcome delay ∷ [];
          shelf = λ r.
              append_assoc c.shelf (to_be_told c a outcome delay ∷ [])
              (to_be_told mid a outcome delay ∷ []);
          put_off =
              All-cons (IsPutOff c a outcome) (to_be_told c a outcome delay)
              (to_be_told mid a outcome delay ∷ []) (put r runs f c delay)
              (All-cons (IsPutOff c a outcome) (to_be_told mid a outcome delay) []
              (put r runs f mid delay)
              (All-nil (IsPutOff c a outcome)));
          few = rw e (omega arith);
          told = λ n. absurd (n told);
        })

    posts : (r : Running) → running_of c a ≡ Some r → job_runs c ≡ true → (delay : Option ℕ)
        → PostsBy delay c a outcome answer after → Posted bound c a outcome answer after
    posts r f runs None h = now r f (comes_twice c a) refl runs h
    posts r f runs (Some delay) (told, is) = late r f delay (comes_twice c a) refl runs told is

    of : job_runs c ≡ true → (o : Option Running) → running_of c a ≡ o
        → PostsOf o c a outcome answer after
        → Posted bound c a outcome answer after
    of runs None f (told, is) =
        none
        (subst (λ x. Passes bound c x) (sym is)
        (record {
          plan = refl;
          told = counted_more c.told few;
          sees = sees_same bound c.dag c.dag refl;
          ends = λ h. h;
        }))
        (ap (λ (x : CoreData). x.shelf) is)
    of runs (Some r) f (fit, h) = posts r f runs (delay_for c a) h

    by : (b : Bool) → job_runs c ≡ b → PostsIf b c a outcome answer after
        → Posted bound c a outcome answer after
    by false over (told, is) =
        none (passes_same bound c after is) (ap (λ (x : CoreData). x.shelf) is)
    by true runs h = of runs (running_of c a) refl h
