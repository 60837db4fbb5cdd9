-- What turns leave: who rests, and how much is left to do.
use Rattle.std.proofs.Common.{◌≡◌, ◌≢◌, inl, inr, ℕ, ◌+◌, ◌<◌, ◌≤◌, ◌&&◌, Bool, true, false, Contains, List, [], Option, Some, None, IfSome, get_or, length, slice_get, refl, ap, sym, subst, ◌∙◌, arith, rules}
use Rattle.std.specs.List.{find}
use Rattle.std.specs.Option.{option_map}
use Rattle.std.proofs.lemmas.List.Elements.{All-contains_itself}
use Rattle.std.proofs.lemmas.List.Folds.{list_any_none}
use Rattle.std.proofs.lemmas.Option.{slice_get_within}
use Rattle.sc_base.specs.Lists.{at_or}
use Rattle.sc_ids.specs.declared.attempts.AttemptId.{AttemptId}
use Rattle.sc_ids.specs.declared.attempts.Mark.{Mark}
use Rattle.sc_ids.specs.declared.blocks.BlockId.{BlockId}
use Rattle.sc_ids.specs.declared.blocks.Loc.{Loc}
use Rattle.sc_ids.proofs.ChangeLemmas.{at_or_change_other, at_or_change_same}
use Rattle.sc_taskset.proofs.FindLemmas.{found_is, found_passes}
use Rattle.sc_tracker.specs.declared.outputs.Location.{Location}
use Rattle.sc_dag.specs.Offers.{HasNone}
use Rattle.sc_dag.proofs.Tests.{clash}
use Rattle.sc_core.specs.CoreData.{CoreData, held_by, is_out_on, job_runs, running_of, under_way}
use Rattle.sc_core.specs.Laws.{left_to_do, spends_nothing}
use Rattle.sc_core.specs.Posts as posting
use Rattle.sc_core.specs.Sound.{IsSoundCore}
use Rattle.sc_core.specs.Steps.{Steps}
use Rattle.sc_core.specs.Takes as taking
use Rattle.sc_core.specs.declared.answers.Answer.{Answer}
use Rattle.sc_core.specs.declared.answers.Answer.TheVariants as says
use Rattle.sc_core.specs.declared.events.Event.{Event}
use Rattle.sc_core.specs.declared.events.Event.TheVariants.{Post, Take}
use Rattle.sc_core.specs.declared.events.Outcome.{Outcome}
use Rattle.sc_core.specs.declared.running.Running.{Running}
use Rattle.sc_core.proofs.SpendLemmas.{steps_are_spent}
use Rattle.sc_core.proofs.TakeAgreeLemmas.{no_offer}
use Rattle.sc_plan.specs.declared.orders.Order.{Order}
use Rattle.sc_lineage.specs.ScriptData.{WorkData}
use Rattle.sc_store.specs.StoreData.{StoreData}
use Rattle.sc_net.specs.Reports.{outcome_of}
use Rattle.sc_net.specs.Tasks.{TaskData, blocks_of_task}
use Rattle.sc_net.specs.declared.findings.Finding.TheVariants as findings
use Rattle.sc_task.specs.Attempts.{AttemptData, assigned, computed, reported}
use Rattle.sc_task.specs.Nexts.{next_at, next_of}
use Rattle.sc_task.specs.declared.next.Next.{Next}
use Rattle.sc_task.specs.declared.next.Next.TheVariants.{Complete, Fetch, Missing}
use Rattle.sc_desk.specs.DeskData.{DeskData, core_of}
use Rattle.sc_desk.specs.Dues.{IsDueReport, IsOrderedIf, is_any_out}
use Rattle.sc_desk.specs.Entries.{Enters}
use Rattle.sc_desk.specs.Orders.{ComesNext, IsDueOrder, after_order, orders_left}
use Rattle.sc_desk.specs.Sound.{IsSoundDesk}
use Rattle.sc_desk.proofs.OrderLemmas.{next_orders_are_due}
use Rattle.sc_world.specs.Runs.{IsWorld}
use Rattle.sc_world.specs.declared.steps.Kept.{Kept}
use Rattle.sc_world.specs.Serial.{Advances, Asks, Finishes, GoesOn, IsAlone, IsLess, IsLive, IsNoMore, IsResting, Turns, left_in, steps_left}
use Rattle.sc_world.specs.Sound.{IsSoundWorld, IsThatOf, RunsThere}
use Rattle.sc_world.specs.Steps.{Computes, HandsOrder, HasMade, LosesOne, Makes, Posts, Puts, Reads, ReadsNext, ReleasesOne, Takes, given_to}
use Rattle.sc_world.specs.WorldData.{WorldData, core_in, held_at, with_desk, with_held}
use Rattle.sc_world.proofs.CodeAmong.{is_there}
use Rattle.sc_world.proofs.CodeRuns.{computes_on, given_desk, goes_then, loses_on, orders_on, posts_on, puts_on, reads_on, releases_on, takes_on}

-- ---- who has an attempt out

-- an executor's attempt goes on, and no other has one
pub alone_still : (w : WorldData) (exec : ℕ) (o : Option AttemptData) → IsAlone exec w
    → IsAlone exec (with_held w exec o)
alone_still w exec o alone other differs =
    at_or_change_other w.held exec other None (λ _. o) differs ∙ alone other differs

-- ---- where all rest nothing is out

not_out : (work : WorkData) (w : WorldData) → IsSoundWorld work w → job_runs (core_in w) ≡ true
    → IsResting w → (r : Running) → Contains (core_in w).running r → r.is_out ≡ true → ⊥
not_out work w sound runs rests r there is =
    let o = sound.out runs r there is in
    let bad : None ≡ Some o.attempt = sym (rests r.exec) ∙ o.held in
    search (rules, bad)

none_found : {A : Type 0} (q : A → Bool) (xs : List A)
    → ((x : A) → Contains xs x → q x ≡ true → ⊥) → find q xs ≡ None
none_found {A = A} q xs none = by (find q xs) refl
  where
    by : (o : Option A) → find q xs ≡ o → o ≡ None
    by None e = refl
    by (Some x) e =
        absurd (none x (found_is (Contains xs) q xs x (All-contains_itself xs) e)
        (found_passes q xs x e))

none_out : (work : WorkData) (w : WorldData) → IsSoundWorld work w → job_runs (core_in w) ≡ true
    → IsResting w → is_any_out (core_in w) ≡ false
none_out work w sound runs rests =
    list_any_none (λ r. r.is_out) rs
    (λ k d l. by (get_or rs k d).is_out (get_or rs k d).is_out refl
    (not_out work w sound runs rests (get_or rs k d) (All-contains_itself rs k d l)))
  where
    rs : List Running
    rs = (core_in w).running

    by : (b c : Bool) → c ≡ b → (c ≡ true → ⊥) → c ≡ false
    by true c e never = absurd (never e)
    by false c e never = e

none_held : (work : WorkData) (w : WorldData) (exec : ℕ) → IsSoundWorld work w
    → job_runs (core_in w) ≡ true → IsResting w → held_by (core_in w) exec ≡ None
none_held work w exec sound runs rests =
    ap (option_map (λ (r : Running). r.hand_out.attempt))
    (none_found (is_out_on exec) (core_in w).running
    (λ r there is. not_out work w sound runs rests r there (and_left r.is_out _ is)))
  where
    and_left : (a b : Bool) → (a && b) ≡ true → a ≡ true
    and_left true b e = refl
    and_left false b e = e

-- nothing is waited for, where no report is to be told later
none_under_way : (work : WorkData) (w : WorldData) → IsSoundWorld work w
    → job_runs (core_in w) ≡ true → IsResting w → (core_in w).shelf ≡ []
    → under_way (core_in w) ≡ None
none_under_way work w sound runs rests empty =
    rw (none_found (λ r. r.is_out) (core_in w).running (not_out work w sound runs rests), empty)
    refl

-- ---- an executor asks

-- an executor that isn't lost doesn't wait where all rest and no report is due
waits_not : (work : WorkData) (w : WorldData) (exec : ℕ) → IsSoundWorld work w
    → job_runs (core_in w) ≡ true → IsResting w → IsDueReport (core_in w) exec None
    → HasNone (core_in w).dag exec (core_in w).now → (out : AttemptId)
    → under_way (core_in w) ≡ Some out → ⊥
waits_not work w exec sound runs rests (none, inl empty) has out under =
    let bad : None ≡ Some out = sym (none_under_way work w sound runs rests empty) ∙ under in
    search (rules, bad)
waits_not work w exec sound runs rests (none, inr (inl any)) has out under =
    clash any (none_out work w sound runs rests)
waits_not work w exec sound runs rests (none, inr (inr (a, offer))) has out under =
    no_offer (core_in w).dag exec (core_in w).now a has offer

-- so it gets a task, or the job ends
asks_well : (c after : CoreData) (exec : ℕ) (answer : Answer) → job_runs c ≡ true
    → c.left_first ≡ None → taking.is_lost c exec ≡ false → held_by c exec ≡ None
    → (HasNone c.dag exec c.now → (out : AttemptId) → under_way c ≡ Some out → ⊥)
    → taking.Takes c exec answer after → spends_nothing c (Take exec) answer ≡ false
asks_well c after exec says.Ended runs stays live free waits (e, is) = absurd (clash runs e)
asks_well c after exec (says.Stopped first) runs stays live free waits (e, left, is) =
    let bad : None ≡ Some first = sym stays ∙ left in absurd (search (rules, bad))
asks_well c after exec says.Lost runs stays live free waits (e, left, lost, is) =
    absurd (clash lost live)
asks_well c after exec (says.Busy held) runs stays live free waits (e, left, on, has, is) =
    let bad : None ≡ Some held = sym free ∙ has in absurd (search (rules, bad))
asks_well c after exec (says.Task h) runs stays live free waits step = refl
asks_well c after exec (says.Aborted why) runs stays live free waits step = refl
asks_well c after exec (says.Wait out) runs stays live free waits (asks, none, under, is) =
    absurd (waits none out under)
asks_well c after exec says.Ignored runs stays live free waits step = absurd step
asks_well c after exec says.Told runs stays live free waits step = absurd step
asks_well c after exec says.Shelved runs stays live free waits step = absurd step
asks_well c after exec says.Repeated runs stays live free waits step = absurd step
asks_well c after exec says.Registered runs stays live free waits step = absurd step
asks_well c after exec says.Bogus runs stays live free waits step = absurd step
asks_well c after exec says.Finished runs stays live free waits step = absurd step
asks_well c after exec says.Again runs stays live free waits step = absurd step
asks_well c after exec says.Resubmitted runs stays live free waits step = absurd step
asks_well c after exec (says.Side said) runs stays live free waits step = absurd step

-- ---- how much is left

-- what is entered leaves less to do, unless it only asks
pub spent : (work : WorkData) (w after : WorldData) (by : Mark) (event : Event) (answer : Answer)
    (desk : DeskData) → IsSoundCore (core_in w) → Enters w.desk by event answer desk
    → after.desk ≡ desk → spends_nothing (core_in w) event answer ≡ false → IsLess work w after
spent work w after by event answer desk sound enters is spends =
    subst Less (sym is)
    (λ runs. let lt : left_to_do (core_of desk) < left_to_do (core_in w) =
    steps_are_spent (core_in w) (core_of desk) event answer sound enters.step spends runs in
    rw enters.ordered (omega (arith, lt)))
  where
    Less : DeskData → Type 0
    Less d =
        job_runs (core_of d) ≡ true
        → left_to_do (core_of d) + orders_left work.plan d.ordered < left_in work w

-- the same desk has no more to do
pub no_more : (work : WorkData) (w after : WorldData) → after.desk ≡ w.desk → IsNoMore work w after
no_more work w after is runs = (
  subst (λ (d : DeskData). job_runs (core_of d) ≡ true) is runs,
  subst (λ (d : DeskData). left_to_do (core_of d) + orders_left work.plan d.ordered
      ≤ left_in work w) (sym is) (omega arith),
)

-- ---- turns of the driver

pub losses_turn : (work : WorkData) (w after : WorldData) (exec : ℕ) (answer : Answer)
    → IsSoundCore (core_in w) → IsResting w → LosesOne w exec answer after
    → IsSoundDesk work after.desk → Turns work w after
losses_turn work w after exec answer sound rests r desk =
    record {
      on = loses_on work w after exec answer r desk;
      rests = λ e. ap (λ (x : WorldData). held_at x e) r.is ∙ rests e;
      less = spent work w after _ _ r.receipt.answer r.desk sound r.tells.enters
          (ap (λ (x : WorldData). x.desk) r.is) refl;
    }

pub releases_turn : (work : WorkData) (w after : WorldData) (key : ℕ) (answer : Answer)
    → IsSoundCore (core_in w) → IsResting w → ReleasesOne w key answer after
    → IsSoundDesk work after.desk → Turns work w after
releases_turn work w after key answer sound rests r desk =
    record {
      on = releases_on work w after key answer r desk;
      rests = λ e. ap (λ (x : WorldData). held_at x e) r.is ∙ rests e;
      less = spent work w after _ _ r.receipt.answer r.desk sound r.releases.enters
          (ap (λ (x : WorldData). x.desk) r.is) refl;
    }

-- ---- an attempt goes on

pub asks_in : (work : WorkData) (w after : WorldData) (exec : ℕ) (answer : Answer)
    → IsSoundCore (core_in w) → IsSoundWorld work w → job_runs (core_in w) ≡ true → IsResting w
    → IsDueReport (core_in w) exec None → IsLive w exec → Takes w exec answer after
    → IsSoundDesk work after.desk → Asks work exec w after
asks_in work w after exec answer core sound runs rests due live r desk =
    record {
      on = takes_on work w after exec answer live.there r desk;
      alone = λ other differs.
          ap (λ (x : WorldData). held_at x other) r.is ∙ by answer other differs;
      less = spent work w after _ _ answer r.desk core r.enters
          (ap (λ (x : WorldData). x.desk) r.is ∙ given_desk w exec r.desk answer)
          (asks_well (core_in w) (core_of r.desk) exec answer runs sound.stays live.live
          (none_held work w exec sound runs rests)
          (waits_not work w exec sound runs rests due) r.enters.step);
    }
  where
    by : (a : Answer) (other : ℕ) → other ≢ exec
        → held_at (given_to w exec r.desk a) other ≡ None
    by (says.Task h) other differs =
        alone_still (with_desk w r.desk) exec _ (λ o e. rests o) other differs
    by (says.Wait out) other differs = rests other
    by (says.Busy held) other differs = rests other
    by says.Lost other differs = rests other
    by (says.Stopped first) other differs = rests other
    by says.Ended other differs = rests other
    by (says.Aborted why) other differs = rests other
    by says.Ignored other differs = rests other
    by says.Told other differs = rests other
    by says.Shelved other differs = rests other
    by says.Repeated other differs = rests other
    by says.Registered other differs = rests other
    by says.Bogus other differs = rests other
    by says.Finished other differs = rests other
    by says.Again other differs = rests other
    by says.Resubmitted other differs = rests other
    by (says.Side said) other differs = rests other

-- what is fetched is one of the inputs
fetch_within : (block : Option BlockId) (inputs : List Location) (got : ℕ) (b : BlockId) (loc : Loc)
    → next_at block (slice_get inputs got) ≡ Fetch b loc → got < length inputs
fetch_within block inputs got b loc e = by block (slice_get inputs got) refl e
  where
    by : (o : Option BlockId) (l : Option Location) → slice_get inputs got ≡ l
        → next_at o l ≡ Fetch b loc → got < length inputs
    by o (Some location) is f = slice_get_within inputs got location is
    by (Some x) None is f = absurd (search (rules, f))
    by None None is f = absurd (search (rules, f))

reads_fewer : (stores : List StoreData) (t : TaskData) (got : ℕ) (next : AttemptData)
    → ReadsNext stores t got (next_of t got) next
    → steps_left (Some next) < steps_left (Some (assigned t got))
reads_fewer stores t got next reads = by (next_of t got) refl reads
  where
    Fewer : AttemptData → Type 0
    Fewer a = steps_left (Some a) < steps_left (Some (assigned t got))

    by : (n : Next) → next_of t got ≡ n → ReadsNext stores t got n next → Fewer next
    by (Fetch block loc) e (store, there, inl (le, is)) =
        let below =
        fetch_within (slice_get (blocks_of_task t) got) t.hand_out.inputs got block loc e in
        subst Fewer (sym is) (omega (arith, below))
    by (Fetch block loc) e (store, there, inr (lt, is)) = subst Fewer (sym is) (omega arith)
    by (Missing (Some last)) e is = subst Fewer (sym is) (omega arith)
    by (Missing None) e bad = absurd bad
    by Complete e bad = absurd bad

makes_fewer : (work : WorkData) (t : TaskData) (got : ℕ) (next : AttemptData) → Makes work t next
    → steps_left (Some next) < steps_left (Some (assigned t got))
makes_fewer work t got next (inl (finding, fails, is)) =
    subst (λ a. steps_left (Some a) < steps_left (Some (assigned t got))) (sym is) (omega arith)
makes_fewer work t got next (inr (planned, raise, made)) = by next made
  where
    by : (a : AttemptData) → HasMade work t a
        → steps_left (Some a) < steps_left (Some (assigned t got))
    by (computed x) h = omega arith
    by (reported x (findings.Result given)) h = omega arith
    by a bad = absurd bad

-- the attempt of an executor once it has gone on, and that of one that is there
held_now : (w : WorldData) (exec : ℕ) (a : AttemptData) (o : Option AttemptData)
    → held_at w exec ≡ Some a → held_at (with_held w exec o) exec ≡ o
held_now w exec a o is =
    at_or_change_same w.held exec None (λ _. o)
    (is_there w.held exec (λ none. search (rules, sym is ∙ none)))

fewer_in : (w after : WorldData) (exec : ℕ) (before : AttemptData) (o : Option AttemptData)
    → held_at w exec ≡ Some before → held_at after exec ≡ o
    → steps_left o < steps_left (Some before)
    → steps_left (held_at after exec) < steps_left (held_at w exec)
fewer_in w after exec before o was is lt = rw (was, is) lt

pub reads_advance : (work : WorkData) (w after : WorldData) (exec : ℕ) → IsAlone exec w
    → Reads w exec after → IsSoundDesk work w.desk → Advances work exec w after
reads_advance work w after exec alone r desk =
    record {
      on = reads_on work w after exec r desk;
      alone = λ other differs. ap (λ (x : WorldData). held_at x other) r.is
          ∙ alone_still w exec r.held alone other differs;
      fewer = fewer_in w after exec (assigned r.reads.task r.reads.got) (Some r.reads.next)
          r.reads.held
          (ap (λ (x : WorldData). held_at x exec) r.is
          ∙ held_now w exec (assigned r.reads.task r.reads.got) r.held r.reads.held ∙ r.reads.is)
          (reads_fewer w.stores r.reads.task r.reads.got r.reads.next r.reads.reads);
      no_more = no_more work w after (ap (λ (x : WorldData). x.desk) r.is);
    }

pub computes_advance : (work : WorkData) (w after : WorldData) (exec : ℕ) (kept : Kept)
    → IsAlone exec w → Computes work w exec kept after → IsSoundDesk work w.desk
    → Advances work exec w after
computes_advance work w after exec kept alone r desk =
    record {
      on = computes_on work w after exec kept r desk;
      alone = λ other differs. ap (λ (x : WorldData). held_at x other) r.is
          ∙ alone_still w exec (Some r.next) alone other differs;
      fewer = fewer_in w after exec (assigned r.task r.got) (Some r.next) r.held
          (ap (λ (x : WorldData). held_at x exec) r.is
          ∙ held_now w exec (assigned r.task r.got) (Some r.next) r.held)
          (makes_fewer work r.task r.got r.next r.makes);
      no_more = no_more work w after (ap (λ (x : WorldData). x.desk) r.is);
    }

pub puts_advance : (work : WorkData) (w after : WorldData) (exec : ℕ) (loc : Loc)
    → IsAlone exec w → Puts work w exec loc after → IsSoundDesk work w.desk
    → Advances work exec w after
puts_advance work w after exec loc alone r desk =
    record {
      on = puts_on work w after exec loc r desk;
      alone = λ other differs. ap (λ (x : WorldData). held_at x other) r.is
          ∙ alone_still w exec next alone other differs;
      fewer = fewer_in w after exec (computed r.task) next r.held
          (ap (λ (x : WorldData). held_at x exec) r.is
          ∙ held_now w exec (computed r.task) next r.held)
          (omega arith);
      no_more = no_more work w after (ap (λ (x : WorldData). x.desk) r.is);
    }
  where
    next : Option AttemptData
    next = Some (reported r.task (findings.Map loc))

-- a report of an attempt that runs is out leaves no more to do
told_no_more : (c after : CoreData) (a : AttemptId) (outcome : Outcome) (answer : Answer)
    → IsSoundCore c → (job_runs c ≡ true → IfSome (running_of c a) (λ r. r.is_out ≡ true))
    → Steps c (Post a outcome) answer after → job_runs after ≡ true
    → (job_runs c ≡ true) × (left_to_do after ≤ left_to_do c)
told_no_more c after a outcome answer sound outs step runs = by (job_runs c) refl step
  where
    of : (o : Option Running) → running_of c a ≡ o → IfSome o (λ r. r.is_out ≡ true)
        → posting.PostsOf o c a outcome answer after → left_to_do after ≤ left_to_do c
    of None e out (told, is) = subst (λ x. left_to_do x ≤ left_to_do c) (sym is) (omega arith)
    of (Some r) e out h =
        let lt : left_to_do after < left_to_do c =
        steps_are_spent c after (Post a outcome) answer sound step (rw (e, out) refl) runs in
        omega (arith, lt)

    by : (b : Bool) → job_runs c ≡ b → posting.PostsIf b c a outcome answer after
        → (job_runs c ≡ true) × (left_to_do after ≤ left_to_do c)
    by false e (told, is) = absurd (clash (ap job_runs (sym is) ∙ runs) e)
    by true e h = (e, of (running_of c a) refl (outs e) h)

pub posts_advance : (work : WorkData) (w after : WorldData) (exec : ℕ) (answer : Answer)
    → IsSoundCore (core_in w) → IsSoundWorld work w → IsAlone exec w
    → Posts work w exec answer after → IsSoundDesk work after.desk → Advances work exec w after
posts_advance work w after exec answer core sound alone r desk =
    record {
      on = posts_on work w after exec answer r desk;
      alone = λ other differs. ap (λ (x : WorldData). held_at x other) r.is
          ∙ alone_still (with_desk w r.desk) exec None alone other differs;
      fewer = fewer_in w after exec (reported r.task r.finding) None r.held
          (ap (λ (x : WorldData). held_at x exec) r.is
          ∙ held_now (with_desk w r.desk) exec (reported r.task r.finding) None r.held)
          (omega arith);
      no_more = subst NoMore (sym (ap (λ (x : WorldData). x.desk) r.is))
          (λ runs. let told = told_no_more (core_in w) (core_of r.desk) r.task.hand_out.attempt
          (outcome_of r.finding) r.receipt.answer core outs r.receives.enters.step runs in
          let le : left_to_do (core_of r.desk) ≤ left_to_do (core_in w) = told.1 in
          (told.0, rw r.receives.enters.ordered (omega (arith, le))));
    }
  where
    NoMore : DeskData → Type 0
    NoMore d =
        job_runs (core_of d) ≡ true
        → (job_runs (core_in w) ≡ true)
        × (left_to_do (core_of d) + orders_left work.plan d.ordered ≤ left_in work w)

    outs : job_runs (core_in w) ≡ true
        → IfSome (running_of (core_in w) r.task.hand_out.attempt) (λ q. q.is_out ≡ true)
    outs runs = by (running_of (core_in w) r.task.hand_out.attempt) there
      where
        there : RunsThere work (core_in w) exec (reported r.task r.finding)
        there = subst (λ o. IfSome o (RunsThere work (core_in w) exec)) r.held
            (sound.runs runs exec)

        by : (o : Option Running) → IfSome o (IsThatOf work exec (reported r.task r.finding))
            → IfSome o (λ q. q.is_out ≡ true)
        by None h = tt
        by (Some q) h = h.out

-- ---- turns of an executor

-- there is no more to do after two steps
pub no_more_then : (work : WorkData) (w mid after : WorldData) → IsNoMore work w mid
    → IsNoMore work mid after → IsNoMore work w after
no_more_then work w mid after a b runs =
    let two = b runs in
    let one = a two.0 in
    let le : left_in work after ≤ left_in work mid = two.1 in
    let more : left_in work mid ≤ left_in work w = one.1 in
    (one.0, omega (arith, le, more))

-- an executor that asked has finished, so its turn is over
pub asks_then : (work : WorkData) (w mid after : WorldData) (exec : ℕ) → Asks work exec w mid
    → Finishes work mid after → Turns work w after
asks_then work w mid after exec a f =
    record {
      on = goes_then work w mid after a.on f.on;
      rests = f.rests;
      less = λ runs. let two = f.no_more runs in
          let lt : left_in work mid < left_in work w = a.less two.0 in
          let le : left_in work after ≤ left_in work mid = two.1 in
          omega (arith, lt, le);
    }

-- how many turns may come: none, once the job has ended
abbrev pub turns_left : Bool → ℕ → ℕ
turns_left true left = left + 1
turns_left false left = 0

-- ---- orders

-- what a desk is once an order was handed out
abbrev ordered_desk : DeskData → Option Order → DeskData
ordered_desk d order = record d { ordered = after_order d.ordered order }

-- what is handed out while the job runs
pub handed_so : (work : WorkData) (w after : WorldData) (order : Option Order)
    → HandsOrder work w order after
    → ComesNext work.plan (core_in w).told w.desk.ordered order
    × (after ≡ with_desk w (ordered_desk w.desk order))
handed_so work w after order r =
    let h : IsOrderedIf true work w.desk order r.desk =
    subst (λ b. IsOrderedIf b work w.desk order r.desk) r.runs r.ordered in
    (h.0, r.is ∙ ap (with_desk w) h.1)

-- an order that is handed out and carried out is the driver's turn
pub orders_turn : (work : WorkData) (w mid after : WorldData) (order : Order) → IsResting w
    → HandsOrder work w (Some order) mid → IsSoundDesk work mid.desk → GoesOn work mid after
    → after.desk ≡ mid.desk → after.held ≡ mid.held → Turns work w after
orders_turn work w mid after order rests r sound on desk held =
    record {
      on = goes_then work w mid after (orders_on work w mid (Some order) r sound) on;
      rests = λ e. ap (λ h. at_or h e None) (held ∙ ap (λ (x : WorldData). x.held) is) ∙ rests e;
      less = λ runs. subst (λ (d : DeskData). left_to_do (core_of d)
          + orders_left work.plan d.ordered < left_in work w)
          (sym (desk ∙ ap (λ (x : WorldData). x.desk) is))
          (omega (arith, fewer));
    }
  where
    so : ComesNext work.plan (core_in w).told w.desk.ordered (Some order)
        × (mid ≡ with_desk w (ordered_desk w.desk (Some order)))
    so = handed_so work w mid (Some order) r

    is : mid ≡ with_desk w (ordered_desk w.desk (Some order))
    is = so.1

    fewer : orders_left work.plan (after_order w.desk.ordered (Some order))
        < orders_left work.plan w.desk.ordered
    fewer =
        (next_orders_are_due work.plan (core_in w).told w.desk.ordered order so.0).fewer

-- an order that was handed out is due still, at an executor that has a store
pub order_due : (work : WorkData) (w mid : WorldData) (order : Order)
    → HandsOrder work w (Some order) mid
    → IsDueOrder work.plan (core_in mid).told order.kind order
order_due work w mid order r =
    let so = handed_so work w mid (Some order) r in
    subst (λ (x : WorldData). IsDueOrder work.plan (core_in x).told order.kind order) (sym so.1)
    (next_orders_are_due work.plan (core_in w).told w.desk.ordered order so.0).due

-- and the executor has a store
pub order_there : (work : WorkData) (w mid : WorldData) (order : Order) → IsWorld work w
    → HandsOrder work w (Some order) mid → order.exec < length mid.stores
order_there work w mid order is r =
    let so = handed_so work w mid (Some order) r in
    subst (λ (x : WorldData). order.exec < length x.stores) (sym so.1)
    (rw (is.sound.stores ∙ sym is.desk.many) so.0.known)
