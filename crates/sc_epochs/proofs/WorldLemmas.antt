-- What epochs find in a world they find behind each of its steps.
use Rattle.std.proofs.Common.{◌≡◌, inl, inr, ℕ, zero, suc, ◌≤◌, Bool, true, false, not, All, List, Option, Some, None, IfSome, drop, get_or, length, replicate, map, refl, ap, sym, subst, ◌∙◌, arith, rules}
use Rattle.std.proofs.lemmas.List.Elements.{All-append, All-filter, All-map, All-weaker}
use Rattle.sc_base.specs.Lists.{at_or}
use Rattle.sc_commit.specs.Committing.{is_same}
use Rattle.sc_ids.specs.declared.attempts.AttemptId.{AttemptId}
use Rattle.sc_ids.specs.declared.blocks.Loc.{Loc}
use Rattle.sc_lineage.specs.ScriptData.{WorkData}
use Rattle.sc_plan.specs.declared.orders.Order.{Order}
use Rattle.sc_tracker.specs.TrackerData.{TrackerData, trust_of}
use Rattle.sc_dag.proofs.Items.{all_unmapped}
use Rattle.sc_dag.proofs.Tests.{clash}
use Rattle.sc_core.specs.CoreData.{CoreData, is_of, job_runs, running_of}
use Rattle.sc_core.specs.HandOuts.{HandOutData}
use Rattle.sc_core.specs.Sound.{AreTwo, IsShelvedWell, was_given}
use Rattle.sc_core.specs.Takes.{Takes as CoreTakes}
use Rattle.sc_core.specs.Takes.{IsAsking, IsHandOut}
use Rattle.sc_core.specs.declared.answers.Answer.{Answer}
use Rattle.sc_core.specs.declared.answers.Answer.TheVariants as says
use Rattle.sc_core.specs.declared.answers.SideAnswer.{SideAnswer}
use Rattle.sc_core.specs.declared.answers.SideAnswer.TheVariants as sides
use Rattle.sc_core.specs.declared.events.Event.TheVariants.{Post, Release, Side, Take, TellLost}
use Rattle.sc_core.specs.declared.events.SideEvent.{SideEvent}
use Rattle.sc_core.specs.declared.events.SideEvent.TheVariants.{Tick}
use Rattle.sc_core.specs.declared.running.Running.{Running}
use Rattle.sc_core.specs.declared.running.Shelved.{Shelved}
use Rattle.sc_core.proofs.LookupLemmas.{same_is}
use Rattle.sc_core.proofs.OfferLemmas.{offered}
use Rattle.sc_core.proofs.PlaceLemmas.{clash as two_clash}
use Rattle.sc_core.proofs.RunningLemmas.{none_passes}
use Rattle.sc_core.proofs.ShelfLemmas.{found_alone, offered_fresh}
use Rattle.sc_net.specs.Reports.{ReportData, outcome_of, report_data}
use Rattle.sc_net.specs.Shelves.{is_under}
use Rattle.sc_net.specs.Tasks.{TaskData, task_data}
use Rattle.sc_net.specs.declared.findings.Finding.{Finding}
use Rattle.sc_net.specs.declared.findings.Finding.TheVariants as findings
use Rattle.sc_net.specs.declared.shelved.ShelvedReport.{ShelvedReport}
use Rattle.sc_store.specs.StoreData.{StoreData}
use Rattle.sc_store.specs.declared.answers.WipeAnswer.{WipeAnswer}
use Rattle.sc_task.specs.Attempts.{AttemptData, assigned, computed, granted, reported, staged, stored, task_of}
use Rattle.sc_task.specs.Nexts.{next_of}
use Rattle.sc_task.specs.Steps.{FailsAs}
use Rattle.sc_task.specs.declared.next.Next.{Next}
use Rattle.sc_task.specs.declared.next.Next.TheVariants.{Fetch, Missing, Complete}
use Rattle.sc_desk.specs.DeskData.{DeskData, core_of}
use Rattle.sc_desk.specs.Dues.{IsOrderedIf}
use Rattle.sc_desk.specs.Shelves.{as_shelved, shelf_in, with_key_of, with_more, without_key}
use Rattle.sc_world.specs.Runs.{IsWorld}
use Rattle.sc_world.specs.Sound.{IsThatOf, RunsThere}
use Rattle.sc_world.specs.Steps.{Computes, Does, EvictsOne, GoesAside, HandsOrder, HasMade, LosesOne, Makes, Posts, Puts, Reads, ReadsNext, ReleasesOne, Takes, TicksOne, WipesOne, after_side, given_to}
use Rattle.sc_world.specs.Ties.{generation_in}
use Rattle.sc_world.specs.WorldData.{WorldData, core_in, held_at, with_desk, with_held, with_store}
use Rattle.sc_world.specs.declared.steps.Applied.{Applied}
use Rattle.sc_world.specs.declared.steps.Applied.TheVariants as applied
use Rattle.sc_world.specs.declared.steps.Kept.{Kept}
use Rattle.sc_world.specs.declared.steps.Step.{Step}
use Rattle.sc_world.specs.declared.steps.Step.TheVariants as steps
use Rattle.sc_epochs.specs.Found.{FindsStale, HoldsFound, ShelvesFound, TellsFound}
use Rattle.sc_epochs.specs.Laws.{BeginningsFindStale, StepsFindStale}
use Rattle.sc_epochs.proofs.DeskLemmas.{AllFound, both_all, desk_found, like_found, place_found, shelf_all, shelf_kept, store_found}

-- ---- a task is taken

-- reports that are to be told later are of attempts that were handed out
shelved_given : (work : WorkData) (w : WorldData) → IsWorld work w → job_runs (core_in w) ≡ true
    → All (λ s. was_given (core_in w).dag s.report.task.hand_out.attempt ≡ true) w.desk.shelf
shelved_given work w h runs =
    All-weaker (λ s. IsShelvedWell (core_in w) (as_shelved s))
    (λ s. was_given (core_in w).dag s.report.task.hand_out.attempt ≡ true)
    (λ s well. well.given) w.desk.shelf
    (all_unmapped (IsShelvedWell (core_in w)) as_shelved w.desk.shelf
    (subst (λ (shelf : List Shelved). All (IsShelvedWell (core_in w)) shelf) (sym h.desk.shelf)
    (h.core.shelf runs).each))

-- so none of them is the one that is handed out
taken_fresh : (work : WorkData) (w : WorldData) (desk : DeskData) (exec : ℕ) (t : HandOutData)
    → IsWorld work w → IsAsking (core_in w) exec → IsHandOut (core_in w) exec t
    → desk.shelf ≡ shelf_in (core_of desk) w.desk.shelf
    → All (λ s. is_same t.attempt s.report.task.hand_out.attempt ≡ false) desk.shelf
taken_fresh work w desk exec t h asks out is =
    subst (λ shelf. All Other shelf) (sym is)
    (shelf_all Other (core_of desk) w.desk.shelf
    (All-weaker (λ s. was_given c.dag s.report.task.hand_out.attempt ≡ true) Other
    (λ s given. apart s.report.task.hand_out.attempt given) w.desk.shelf
    (shelved_given work w h asks.runs)))
  where
    c : CoreData
    c = core_in w

    Other : ShelvedReport ReportData → Type 0
    Other s = is_same t.attempt s.report.task.hand_out.attempt ≡ false

    apart : (a : AttemptId) → was_given (core_in w).dag a ≡ true → is_same t.attempt a ≡ false
    apart a given = by (is_same t.attempt a) refl
      where
        by : (b : Bool) → is_same t.attempt a ≡ b → is_same t.attempt a ≡ false
        by false e = e
        by true e =
            absurd (clash given (subst (λ n. was_given c.dag n ≡ false) (same_is t.attempt a e)
            (offered_fresh c.dag exec c.now t.attempt
            (offered c.dag exec c.now t.attempt h.core.job.dag out.offer) out.offer.newest)))

takes_found : (work : WorkData) (w : WorldData) (exec : ℕ) (answer : Answer) (after : WorldData)
    → IsWorld work w → FindsStale w → Takes w exec answer after → FindsStale after
takes_found work w exec answer after h found takes =
    subst FindsStale (sym takes.is) (by answer takes.enters.step)
  where
    c : CoreData
    c = core_in w

    fresh : (answer : Answer) → CoreTakes (core_in w) exec answer (core_of takes.desk)
        → (e : ℕ) (t : HandOutData) → Take exec ≡ Take e → answer ≡ says.Task t
        → All (λ s. is_same t.attempt s.report.task.hand_out.attempt ≡ false) takes.desk.shelf
    fresh answer step e t same told = given (subst
        (λ x. CoreTakes (core_in w) exec x (core_of takes.desk)) told step)
      where
        given : CoreTakes (core_in w) exec (says.Task t) (core_of takes.desk)
            → All (λ s. is_same t.attempt s.report.task.hand_out.attempt ≡ false)
            takes.desk.shelf
        given (asks, out, below, is) =
            taken_fresh work w takes.desk exec t h asks out takes.shelf

    base : FindsStale (with_desk w takes.desk)
    base =
        desk_found w takes.desk (Take exec) answer h.core found takes.enters.step
        (shelf_kept w takes.desk found takes.shelf) (fresh answer takes.enters.step)

    by : (answer : Answer) → CoreTakes (core_in w) exec answer (core_of takes.desk)
        → FindsStale (given_to w exec takes.desk answer)
    by (says.Task t) (asks, out, below, is) =
        place_found (with_desk w takes.desk) exec (Some (assigned (task_data w.desk.job t) 0)) base
        (subst (λ (x : CoreData). t.epoch ≤ x.dag.tracker.epoch) (sym is)
        (let same = out.epoch in omega (arith, same))) tt
    by (says.Aborted why) step = base
    by says.Ended step = base
    by (says.Stopped first) step = base
    by says.Lost step = base
    by (says.Busy held) step = base
    by (says.Wait out) step = base
    by says.Ignored step = base
    by says.Repeated step = base
    by says.Registered step = base
    by says.Bogus step = base
    by says.Finished step = base
    by says.Again step = base
    by says.Resubmitted step = base
    by says.Shelved step = base
    by says.Told step = base
    by (says.Side said) step = base

-- ---- reports

-- what runs under the numbers of what an executor has out runs with its hand-out
pub runs_own : (work : WorkData) (w : WorldData) (exec : ℕ) (a : AttemptData) → IsWorld work w
    → held_at w exec ≡ Some a → job_runs (core_in w) ≡ true
    → All (λ r. is_of (task_of a).hand_out.attempt r ≡ true → r.hand_out ≡ (task_of a).hand_out)
    (core_in w).running
runs_own work w exec a h held runs =
    by (running_of c (task_of a).hand_out.attempt) refl
    (subst (λ o. IfSome o (RunsThere work (core_in w) exec)) held (h.sound.runs runs exec))
  where
    c : CoreData
    c = core_in w

    b : AttemptId
    b = (task_of a).hand_out.attempt

    Own : Running → Type 0
    Own r = is_of (task_of a).hand_out.attempt r ≡ true → r.hand_out ≡ (task_of a).hand_out

    by : (o : Option Running) → running_of (core_in w) (task_of a).hand_out.attempt ≡ o
        → IfSome o (IsThatOf work exec a) → All Own (core_in w).running
    by None e k =
        All-weaker (λ r. is_of b r ≡ false) Own (λ r none is. absurd (clash is none)) c.running
        (none_passes (is_of b) c.running e)
    by (Some q) e k =
        All-weaker (λ r. is_of b r ≡ true → r ≡ q) Own
        (λ r same is. ap (λ (x : Running). x.hand_out) (same is) ∙ k.same) c.running
        (found_alone AreTwo (is_of b) (two_clash b) c.running q h.core.job.apart e)

posts_found : (work : WorkData) (w : WorldData) (exec : ℕ) (answer : Answer) (after : WorldData)
    → IsWorld work w → FindsStale w → Posts work w exec answer after → FindsStale after
posts_found work w exec answer after h found p =
    subst FindsStale (sym p.is)
    (place_found (with_desk w p.desk) exec None
    (desk_found w p.desk (Post p.task.hand_out.attempt (outcome_of p.finding)) p.receipt.answer
    h.core found p.receives.enters.step shelf (λ e t is told. absurd (search (rules, is)))) tt tt)
  where
    c : CoreData
    c = core_in w

    t : TrackerData
    t = (core_in w).dag.tracker

    says_so : TellsFound (core_in w).dag.tracker p.task.hand_out.epoch p.finding
    says_so = subst (λ o. IfSome o (HoldsFound t)) p.held (found.held exec)

    one : (r : Running)
        → (is_of p.task.hand_out.attempt r ≡ true → r.hand_out ≡ p.task.hand_out)
        → (s : Shelved)
        → ShelvesFound (core_in w).dag.tracker r
        (with_key_of (report_data p.task p.finding) s)
    one r same s is =
        subst (λ (x : HandOutData). TellsFound t x.epoch p.finding) (sym (same is)) says_so

    more : (r : Running)
        → (is_of p.task.hand_out.attempt r ≡ true → r.hand_out ≡ p.task.hand_out)
        → AllFound (core_in w).dag.tracker w.desk.shelf r
        → AllFound (core_in w).dag.tracker p.desk.shelf r
    more r same all =
        subst (λ shelf. AllFound t shelf r) (sym p.receives.shelf)
        (shelf_all (ShelvesFound t r) (core_of p.desk)
        (with_more w.desk.shelf (report_data p.task p.finding) (core_of p.desk).shelf)
        (All-append (ShelvesFound t r) w.desk.shelf
        (map (with_key_of (report_data p.task p.finding))
        (drop (length w.desk.shelf) (core_of p.desk).shelf)) all
        (All-map (ShelvesFound t r) (with_key_of (report_data p.task p.finding))
        (drop (length w.desk.shelf) (core_of p.desk).shelf)
        (λ i d l. one r same
        (get_or (drop (length w.desk.shelf) (core_of p.desk).shelf) i d)))))

    shelf : job_runs (core_in w) ≡ true
        → All (AllFound (core_in w).dag.tracker p.desk.shelf) (core_in w).running
    shelf runs =
        both_all
        (λ r. is_of p.task.hand_out.attempt r ≡ true → r.hand_out ≡ p.task.hand_out)
        (AllFound t w.desk.shelf) (AllFound t p.desk.shelf) more c.running
        (runs_own work w exec (reported p.task p.finding) h p.held runs) (found.shelved runs)

releases_found : (work : WorkData) (w : WorldData) (key : ℕ) (answer : Answer) (after : WorldData)
    → IsWorld work w → FindsStale w → ReleasesOne w key answer after → FindsStale after
releases_found work w key answer after h found p =
    subst FindsStale (sym p.is)
    (desk_found w p.desk (Release key) p.receipt.answer h.core found p.releases.enters.step shelf
    (λ e t is told. absurd (search (rules, is))))
  where
    t : TrackerData
    t = (core_in w).dag.tracker

    shelf : job_runs (core_in w) ≡ true
        → All (AllFound (core_in w).dag.tracker p.desk.shelf) (core_in w).running
    shelf runs =
        All-weaker (AllFound t w.desk.shelf) (AllFound t p.desk.shelf)
        (λ r all. subst (λ s. AllFound t s r) (sym p.releases.shelf)
        (shelf_all (ShelvesFound t r) (core_of p.desk) (without_key w.desk.shelf key)
        (All-filter (λ s. not (is_under key s)) (ShelvesFound t r) w.desk.shelf all)))
        (core_in w).running (found.shelved runs)

loses_found : (work : WorkData) (w : WorldData) (exec : ℕ) (answer : Answer) (after : WorldData)
    → IsWorld work w → FindsStale w → LosesOne w exec answer after → FindsStale after
loses_found work w exec answer after h found p =
    subst FindsStale (sym p.is)
    (desk_found w p.desk (TellLost exec) p.receipt.answer h.core found p.tells.enters.step
    (shelf_kept w p.desk found p.tells.shelf) (λ e t is told. absurd (search (rules, is))))

-- ---- beside the reports

-- what an attempt of a save is then tells of no map output
record IsCalmly (a : AttemptData) (t : TaskData) : Type 0 where
  same : task_of a ≡ t
  found : (u : TrackerData) → HoldsFound u a

staged_calm : (t : TaskData) (said : SideAnswer)
    → IfSome (after_side (computed t) said) (λ a. IsCalmly a t)
staged_calm t sides.Staged = record { same = refl; found = λ u. tt }
staged_calm t (sides.Fault fault) = record { same = refl; found = λ u. tt }
staged_calm t sides.Ignored = tt
staged_calm t sides.Left = tt
staged_calm t sides.Ticked = tt
staged_calm t sides.Over = tt
staged_calm t sides.Granted = tt
staged_calm t (sides.Denied by) = tt
staged_calm t sides.Moved = tt

granted_calm : (t : TaskData) (said : SideAnswer)
    → IfSome (after_side (staged t) said) (λ a. IsCalmly a t)
granted_calm t sides.Granted = record { same = refl; found = λ u. tt }
granted_calm t (sides.Denied by) = record { same = refl; found = λ u. tt }
granted_calm t sides.Ignored = tt
granted_calm t sides.Left = tt
granted_calm t sides.Ticked = tt
granted_calm t sides.Over = tt
granted_calm t sides.Staged = tt
granted_calm t (sides.Fault fault) = tt
granted_calm t sides.Moved = tt

moved_calm : (t : TaskData) (said : SideAnswer)
    → IfSome (after_side (granted t) said) (λ a. IsCalmly a t)
moved_calm t sides.Moved = record { same = refl; found = λ u. tt }
moved_calm t (sides.Fault fault) = record { same = refl; found = λ u. tt }
moved_calm t sides.Ignored = tt
moved_calm t sides.Left = tt
moved_calm t sides.Ticked = tt
moved_calm t sides.Over = tt
moved_calm t sides.Staged = tt
moved_calm t sides.Granted = tt
moved_calm t (sides.Denied by) = tt

-- an executor's attempt goes on with its task, and tells of no map output
calm_found : (w : WorldData) (exec : ℕ) (t : TaskData) (o : Option AttemptData) → FindsStale w
    → t.hand_out.epoch ≤ (core_in w).dag.tracker.epoch → IfSome o (λ a. IsCalmly a t)
    → FindsStale (with_held w exec o)
calm_found w exec t None found le calm = place_found w exec None found tt tt
calm_found w exec t (Some a) found le calm =
    place_found w exec (Some a) found
    (subst (λ (x : TaskData). x.hand_out.epoch ≤ (core_in w).dag.tracker.epoch) (sym calm.same) le)
    (calm.found (core_in w).dag.tracker)

-- the epoch of what an executor has out
past_of : (w : WorldData) (exec : ℕ) (a : AttemptData) → FindsStale w → held_at w exec ≡ Some a
    → (task_of a).hand_out.epoch ≤ (core_in w).dag.tracker.epoch
past_of w exec a found held =
    subst (λ o. IfSome o (λ x. (task_of x).hand_out.epoch ≤ (core_in w).dag.tracker.epoch)) held
    (found.past exec)

asides_found : (work : WorkData) (w : WorldData) (exec : ℕ) (before : AttemptData)
    (event : SideEvent) (answer : SideAnswer) (after : WorldData) → IsWorld work w → FindsStale w
    → GoesAside w exec before event answer after
    → ((said : SideAnswer) → IfSome (after_side before said) (λ a. IsCalmly a (task_of before)))
    → FindsStale after
asides_found work w exec before event answer after h found g calm =
    subst FindsStale (sym g.is)
    (calm_found (with_desk w g.desk) exec (task_of before) (after_side before answer) base
    (past_of (with_desk w g.desk) exec before base g.held) (calm answer))
  where
    base : FindsStale (with_desk w g.desk)
    base =
        desk_found w g.desk (Side event) (says.Side g.noted.answer) h.core found
        g.notes.enters.step (shelf_kept w g.desk found g.notes.shelf)
        (λ e t is told. absurd (search (rules, is)))

ticks_found : (work : WorkData) (w : WorldData) (now : ℕ) (answer : SideAnswer)
    (after : WorldData) → IsWorld work w → FindsStale w → TicksOne w now answer after
    → FindsStale after
ticks_found work w now answer after h found p =
    subst FindsStale (sym p.is)
    (desk_found w p.desk (Side (Tick now)) (says.Side p.noted.answer) h.core found
    p.notes.enters.step (shelf_kept w p.desk found p.notes.shelf)
    (λ e t is told. absurd (search (rules, is))))

-- ---- steps at executors

read_calm : (stores : List StoreData) (t : TaskData) (got : ℕ) (n : Next) (next : AttemptData)
    → ReadsNext stores t got n next → IsCalmly next t
read_calm stores t got (Fetch block loc) next (store, there, inl (le, is)) =
    subst (λ a. IsCalmly a t) (sym is) (record { same = refl; found = λ u. tt })
read_calm stores t got (Fetch block loc) next (store, there, inr (lt, is)) =
    subst (λ a. IsCalmly a t) (sym is) (record { same = refl; found = λ u. tt })
read_calm stores t got (Missing (Some last)) next is =
    subst (λ a. IsCalmly a t) (sym is) (record { same = refl; found = λ u. tt })
read_calm stores t got (Missing None) next bad = absurd bad
read_calm stores t got Complete next bad = absurd bad

reads_found : (w : WorldData) (exec : ℕ) (after : WorldData) → FindsStale w → Reads w exec after
    → FindsStale after
reads_found w exec after found r =
    subst FindsStale (sym r.is)
    (calm_found w exec r.reads.task r.held found
    (past_of w exec (assigned r.reads.task r.reads.got) found r.reads.held)
    (subst (λ o. IfSome o (λ a. IsCalmly a r.reads.task)) (sym r.reads.is)
    (read_calm w.stores r.reads.task r.reads.got (next_of r.reads.task r.reads.got) r.reads.next
    r.reads.reads)))

fail_calm : (work : WorkData) (t : TaskData) (finding : Finding) → FailsAs work t finding
    → IsCalmly (reported t finding) t
fail_calm work t findings.Planned f = record { same = refl; found = λ u. tt }
fail_calm work t (findings.Raised raise) f = record { same = refl; found = λ u. tt }
fail_calm work t (findings.Map loc) f = absurd f
fail_calm work t (findings.Result given) f = absurd f
fail_calm work t (findings.Gone on wanted found) f = absurd f
fail_calm work t (findings.Metadata last) f = absurd f
fail_calm work t (findings.Device fault) f = absurd f
fail_calm work t findings.Denied f = absurd f

made_calm : (work : WorkData) (t : TaskData) (next : AttemptData) → HasMade work t next
    → IsCalmly next t
made_calm work t (computed u) (same, aside) = record { same = same; found = λ u. tt }
made_calm work t (reported u (findings.Result given)) (same, aside, own) =
    record { same = same; found = λ u. tt }
made_calm work t (reported u (findings.Map loc)) bad = absurd bad
made_calm work t (reported u findings.Planned) bad = absurd bad
made_calm work t (reported u (findings.Raised raise)) bad = absurd bad
made_calm work t (reported u (findings.Gone on wanted found)) bad = absurd bad
made_calm work t (reported u (findings.Metadata last)) bad = absurd bad
made_calm work t (reported u (findings.Device fault)) bad = absurd bad
made_calm work t (reported u findings.Denied) bad = absurd bad
made_calm work t (assigned u got) bad = absurd bad
made_calm work t (stored u loc) bad = absurd bad
made_calm work t (staged u) bad = absurd bad
made_calm work t (granted u) bad = absurd bad

makes_calm : (work : WorkData) (t : TaskData) (next : AttemptData) → Makes work t next
    → IsCalmly next t
makes_calm work t next (inl (finding, f, is)) =
    subst (λ a. IsCalmly a t) (sym is) (fail_calm work t finding f)
makes_calm work t next (inr (planned, raise, has)) = made_calm work t next has

computes_found : (work : WorkData) (w : WorldData) (exec : ℕ) (kept : Kept) (after : WorldData)
    → FindsStale w → Computes work w exec kept after → FindsStale after
computes_found work w exec kept after found p =
    subst FindsStale (sym p.is)
    (calm_found (with_store w exec p.cached) exec p.task (Some p.next)
    (store_found w exec p.cached found) (past_of w exec (assigned p.task p.got) found p.held)
    (makes_calm work p.task p.next p.makes))

-- no generation was seen that the store of an executor hasn't reached as it puts a block
puts_found : (work : WorkData) (w : WorldData) (exec : ℕ) (loc : Loc) (after : WorldData)
    → IsWorld work w → FindsStale w → Puts work w exec loc after → FindsStale after
puts_found work w exec loc after h found p =
    subst FindsStale (sym p.is)
    (place_found (with_store w exec p.next) exec (Some (reported p.task (findings.Map loc)))
    (store_found w exec p.next found) (past_of w exec (computed p.task) found p.held)
    (subst (λ (l : Loc). TellsFound t p.task.hand_out.epoch (findings.Map l)) (sym p.loc_is)
    (inl (subst (λ o. (trust_of t exec).seen ≤ generation_in o) p.own (h.sound.tied.seen exec)))))
  where
    t : TrackerData
    t = (core_in w).dag.tracker

wipes_found : (work : WorkData) (w : WorldData) (order : Order) (answer : WipeAnswer)
    (after : WorldData) → FindsStale w → WipesOne work w order answer after → FindsStale after
wipes_found work w order answer after found p =
    subst FindsStale (sym p.is) (store_found w order.exec p.next found)

evicts_found : (w : WorldData) (exec : ℕ) (after : WorldData) → FindsStale w
    → EvictsOne w exec after → FindsStale after
evicts_found w exec after found p = subst FindsStale (sym p.is) (store_found w exec _ found)

orders_found : (work : WorkData) (w : WorldData) (order : Option Order) (after : WorldData)
    → FindsStale w → HandsOrder work w order after → FindsStale after
orders_found work w order after found p =
    subst FindsStale (sym p.is) (by (job_runs (core_in w)) p.ordered)
  where
    by : (b : Bool) → IsOrderedIf b work w.desk order p.desk → FindsStale (with_desk w p.desk)
    by false (none, is) =
        like_found w p.desk found (ap core_of is) (ap (λ (x : DeskData). x.shelf) is)
    by true (next, is) =
        like_found w p.desk found (ap core_of is) (ap (λ (x : DeskData). x.shelf) is)

-- ---- any step

does_found : (work : WorkData) (w after : WorldData) (step : Step) (answer : Applied)
    → IsWorld work w → FindsStale w → Does work w step answer after → FindsStale after
does_found work w after (steps.Take exec) (applied.Told answer) h found (place, takes) =
    takes_found work w exec answer after h found takes
does_found work w after (steps.Read exec) applied.Done h found p =
    reads_found w exec after found p
does_found work w after (steps.Compute exec) (applied.Computed kept) h found p =
    computes_found work w exec kept after found p
does_found work w after (steps.Put exec) (applied.Put loc) h found p =
    puts_found work w exec loc after h found p
does_found work w after (steps.Stage exec) (applied.Noted answer) h found p =
    asides_found work w exec (computed p.task) _ answer after h found p.goes (staged_calm p.task)
does_found work w after (steps.Ask exec) (applied.Noted answer) h found p =
    asides_found work w exec (staged p.task) _ answer after h found p.goes (granted_calm p.task)
does_found work w after (steps.Move exec) (applied.Noted answer) h found p =
    asides_found work w exec (granted p.task) _ answer after h found p.goes (moved_calm p.task)
does_found work w after (steps.Post exec) (applied.Told answer) h found p =
    posts_found work w exec answer after h found p
does_found work w after (steps.Release key) (applied.Told answer) h found p =
    releases_found work w key answer after h found p
does_found work w after (steps.TellLost exec) (applied.Told answer) h found p =
    loses_found work w exec answer after h found p
does_found work w after (steps.Tick now) (applied.Noted answer) h found p =
    ticks_found work w now answer after h found p
does_found work w after (steps.Wipe order) (applied.Wipe answer) h found p =
    wipes_found work w order answer after found p
does_found work w after (steps.Evict exec) applied.Done h found p =
    evicts_found w exec after found p
does_found work w after steps.NextOrder (applied.Ordered order) h found p =
    orders_found work w order after found p
does_found work w after step answer h found bad = absurd bad

pub steps_find_stale : StepsFindStale
steps_find_stale work w after step applied.NotEnabled h found (refused, is) =
    subst FindsStale (sym is) found
steps_find_stale work w after step (applied.Told answer) h found goes =
    does_found work w after step (applied.Told answer) h found goes
steps_find_stale work w after step (applied.Noted answer) h found goes =
    does_found work w after step (applied.Noted answer) h found goes
steps_find_stale work w after step (applied.Computed kept) h found goes =
    does_found work w after step (applied.Computed kept) h found goes
steps_find_stale work w after step (applied.Put loc) h found goes =
    does_found work w after step (applied.Put loc) h found goes
steps_find_stale work w after step (applied.Wipe answer) h found goes =
    does_found work w after step (applied.Wipe answer) h found goes
steps_find_stale work w after step (applied.Ordered order) h found goes =
    does_found work w after step (applied.Ordered order) h found goes
steps_find_stale work w after step applied.Done h found goes =
    does_found work w after step applied.Done h found goes

-- where nobody has anything out, all that is out is as it should be
none_out : (P : AttemptData → Type 0) (n e : ℕ) → IfSome (at_or (replicate n None) e None) P
none_out P zero zero = tt
none_out P zero (suc e) = tt
none_out P (suc n) zero = tt
none_out P (suc n) (suc e) = none_out P n e

pub beginnings_find_stale : BeginningsFindStale
beginnings_find_stale work desk stores none =
    record {
      past = λ exec. none_out _ work.limits.executors exec;
      held = λ exec. none_out _ work.limits.executors exec;
      shelved = λ runs i d l. subst
          (λ shelf. All (ShelvesFound (core_of desk).dag.tracker
          (get_or (core_of desk).running i d)) shelf) (sym none)
          (λ j e m. absurd (omega (arith, m)));
    }
