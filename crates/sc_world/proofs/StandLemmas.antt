-- The files of a world's job stand behind each step that does nothing with them, and nothing is
-- counted.
use Rattle.std.proofs.Common.{◌≡◌, ◌∙◌, inl, inr, ℕ, Bool, true, false, Option, Some, None, Result, Ok, Err, IfOk, OnErr, OnOk, refl, ap, sym, subst, true≢false}
use Rattle.sc_base.specs.Outside.{FilesState}
use Rattle.sc_ids.specs.declared.attempts.Mark.TheVariants.{Driver}
use Rattle.sc_lineage.specs.ScriptData.{WorkData}
use Rattle.sc_plan.specs.declared.orders.Order.{Order}
use Rattle.sc_plan.specs.declared.orders.OrderKind.{OrderKind}
use Rattle.sc_plan.specs.declared.orders.OrderKind.TheVariants as kinds
use Rattle.sc_core.specs.declared.answers.Answer.{Answer}
use Rattle.sc_core.specs.declared.answers.Answer.TheVariants as says
use Rattle.sc_core.specs.declared.answers.SideAnswer.{SideAnswer}
use Rattle.sc_core.specs.declared.events.Event.{Event}
use Rattle.sc_core.specs.declared.events.Event.TheVariants.{Release, Side, Take, TellLost}
use Rattle.sc_core.specs.declared.events.SideEvent.TheVariants.{Ask, Tick}
use Rattle.sc_staging.specs.Outputs.{output_dir, output_files}
use Rattle.sc_staging.specs.declared.outputs.Output.{Output}
use Rattle.sc_desk.specs.DeskData.{DeskData}
use Rattle.sc_desk.specs.Entries.{Enters}
use Rattle.sc_desk.specs.Files.{CountsGoOn, FilesStand, deed_in, deeds_of, fault_in, faults_of}
use Rattle.sc_desk.proofs.CountLemmas.{counts_entered, counts_same}
use Rattle.sc_desk.proofs.FilesLemmas.{files_go_on}
use Rattle.sc_world.specs.Files.{OutputGoesOn, OutputStands}
use Rattle.sc_world.specs.Steps.{AsksOne, Does, Goes, HandsOrder, LosesOne, Posts, ReleasesOne, Takes, TicksOne}
use Rattle.sc_world.specs.Turns.{AdvancesPlain, CarriesOutAs, DoesDue}
use Rattle.sc_world.specs.WorldData.{WorldData}
use Rattle.sc_world.specs.declared.steps.Applied.{Applied}
use Rattle.sc_world.specs.declared.steps.Applied.TheVariants as applied
use Rattle.sc_world.specs.declared.steps.Step.{Step}
use Rattle.sc_world.specs.declared.steps.Step.TheVariants as steps
use Rattle.sc_world.proofs.CodeRuns.{given_desk}
use Rattle.sc_world.proofs.CodeTurns.{handed_so}
use Rattle.sc_world.proofs.FilesLemmas.{goes_on_then, stands_same, stays_on, stays_same}

-- ---- by what becomes of the desk

-- it is the same
same_stand : {F : Type 0} (work : WorkData) (w after : WorldData) (state : F → FilesState)
    (o : Output F) → after.desk ≡ w.desk → OutputStands work w state o
    → OutputGoesOn work w after state o o
same_stand work w after state o same stands =
    let files = output_files state o in
    stays_on work w after state o
    (counts_same w.desk after.desk files
    (ap (λ (d : DeskData). faults_of d.journal.entries) same))
    (subst (λ (d : DeskData). FilesStand work d (output_dir o) files) (sym same) stands)

-- something is entered that is no deed, and tells of no fault
entered_stand : {F : Type 0} (work : WorkData) (w after : WorldData)
    (desk : DeskData) (event : Event) (answer : Answer) (state : F → FilesState) (o : Output F)
    → Enters w.desk Driver event answer desk → deed_in event answer ≡ None
    → fault_in event answer ≡ None → after.desk ≡ desk → OutputStands work w state o
    → OutputGoesOn work w after state o o
entered_stand work w after desk event answer state o enters none no_fault is stands =
    let files = output_files state o in
    stays_on work w after state o
    (subst (λ (d : DeskData). CountsGoOn w.desk d files files) (sym is)
    (counts_entered w.desk desk Driver event answer files enters no_fault))
    (subst (λ (d : DeskData). FilesStand work d (output_dir o) files) (sym is)
    (files_go_on.entered work w.desk desk Driver event answer (output_dir o) files enters none
    stands))

-- ---- by steps

pub takes_stand : {F : Type 0} (work : WorkData) (w after : WorldData)
    (exec : ℕ) (answer : Answer) (state : F → FilesState) (o : Output F)
    → Takes w exec answer after → OutputStands work w state o → OutputGoesOn work w after state o o
takes_stand work w after exec answer state o r stands =
    entered_stand work w after r.desk (Take exec) answer state o r.enters refl refl
    (ap (λ (x : WorldData). x.desk) r.is ∙ given_desk w exec r.desk answer) stands

asks_stand : {F : Type 0} (work : WorkData) (w after : WorldData)
    (exec : ℕ) (answer : SideAnswer) (state : F → FilesState) (o : Output F)
    → AsksOne w exec answer after → OutputStands work w state o
    → OutputGoesOn work w after state o o
asks_stand work w after exec answer state o r stands =
    entered_stand work w after r.goes.desk (Side (Ask r.task.hand_out.attempt))
    (says.Side r.goes.noted.answer) state o r.goes.notes.enters refl refl
    (ap (λ (x : WorldData). x.desk) r.goes.is) stands

ticks_stand : {F : Type 0} (work : WorkData) (w after : WorldData)
    (now : ℕ) (answer : SideAnswer) (state : F → FilesState) (o : Output F)
    → TicksOne w now answer after → OutputStands work w state o
    → OutputGoesOn work w after state o o
ticks_stand work w after now answer state o r stands =
    entered_stand work w after r.desk (Side (Tick now)) (says.Side r.noted.answer) state o
    r.notes.enters refl refl (ap (λ (x : WorldData). x.desk) r.is) stands

posts_stand : {F : Type 0} (work : WorkData) (w after : WorldData)
    (exec : ℕ) (answer : Answer) (state : F → FilesState) (o : Output F)
    → Posts work w exec answer after → OutputStands work w state o
    → OutputGoesOn work w after state o o
posts_stand work w after exec answer state o r stands =
    entered_stand work w after r.desk _ r.receipt.answer state o r.receives.enters refl refl
    (ap (λ (x : WorldData). x.desk) r.is) stands

releases_stand : {F : Type 0} (work : WorkData) (w after : WorldData)
    (key : ℕ) (answer : Answer) (state : F → FilesState) (o : Output F)
    → ReleasesOne w key answer after → OutputStands work w state o
    → OutputGoesOn work w after state o o
releases_stand work w after key answer state o r stands =
    entered_stand work w after r.desk (Release key) r.receipt.answer state o
    r.releases.enters refl refl (ap (λ (x : WorldData). x.desk) r.is) stands

loses_stand : {F : Type 0} (work : WorkData) (w after : WorldData)
    (exec : ℕ) (answer : Answer) (state : F → FilesState) (o : Output F)
    → LosesOne w exec answer after → OutputStands work w state o
    → OutputGoesOn work w after state o o
loses_stand work w after exec answer state o r stands =
    entered_stand work w after r.desk (TellLost exec) r.receipt.answer state o
    r.tells.enters refl refl (ap (λ (x : WorldData). x.desk) r.is) stands

-- the next order changes what was handed out alone
orders_stand : {F : Type 0} (work : WorkData) (w after : WorldData) (order : Option Order)
    (state : F → FilesState) (o : Output F) → HandsOrder work w order after
    → OutputStands work w state o → OutputGoesOn work w after state o o
orders_stand work w after order state o r stands =
    let is = (handed_so work w after order r).1 in
    let files = output_files state o in
    stays_on work w after state o
    (counts_same w.desk after.desk files
    (ap (λ (x : WorldData). faults_of x.desk.journal.entries) is))
    (stands_same work w.desk after.desk (output_dir o) files
    (ap (λ (x : WorldData). x.desk.job) is)
    (ap (λ (x : WorldData). deeds_of x.desk.journal.entries) is) stands)

-- ---- any step

-- a step that does nothing with files
abbrev pub is_without : Step → Bool
is_without (steps.Stage exec) = false
is_without (steps.Move exec) = false
is_without step = true

does_stand : {F : Type 0} (work : WorkData) (w after : WorldData)
    (step : Step) (answer : Applied) (state : F → FilesState) (o : Output F)
    → is_without step ≡ true → Does work w step answer after → OutputStands work w state o
    → OutputGoesOn work w after state o o
does_stand work w after (steps.Take exec) (applied.Told answer) state o is r stands =
    takes_stand work w after exec answer state o r.1 stands
does_stand work w after (steps.Read exec) applied.Done state o is r stands =
    same_stand work w after state o (ap (λ (x : WorldData). x.desk) r.is) stands
does_stand work w after (steps.Compute exec) (applied.Computed kept) state o is r stands =
    same_stand work w after state o (ap (λ (x : WorldData). x.desk) r.is) stands
does_stand work w after (steps.Put exec) (applied.Put loc) state o is r stands =
    same_stand work w after state o (ap (λ (x : WorldData). x.desk) r.is) stands
does_stand work w after (steps.Stage exec) answer state o is r stands =
    absurd (true≢false (sym is))
does_stand work w after (steps.Ask exec) (applied.Noted answer) state o is r stands =
    asks_stand work w after exec answer state o r stands
does_stand work w after (steps.Move exec) answer state o is r stands =
    absurd (true≢false (sym is))
does_stand work w after (steps.Post exec) (applied.Told answer) state o is r stands =
    posts_stand work w after exec answer state o r stands
does_stand work w after (steps.Release key) (applied.Told answer) state o is r stands =
    releases_stand work w after key answer state o r stands
does_stand work w after (steps.TellLost exec) (applied.Told answer) state o is r stands =
    loses_stand work w after exec answer state o r stands
does_stand work w after (steps.Tick now) (applied.Noted answer) state o is r stands =
    ticks_stand work w after now answer state o r stands
does_stand work w after (steps.Wipe order) (applied.Wipe answer) state o is r stands =
    same_stand work w after state o (ap (λ (x : WorldData). x.desk) r.is) stands
does_stand work w after (steps.Evict exec) applied.Done state o is r stands =
    same_stand work w after state o (ap (λ (x : WorldData). x.desk) r.is) stands
does_stand work w after steps.NextOrder (applied.Ordered order) state o is r stands =
    orders_stand work w after order state o r stands
does_stand work w after step answer state o is bad stands = absurd bad

pub goes_stand : {F : Type 0} (work : WorkData) (w after : WorldData)
    (step : Step) (answer : Applied) (state : F → FilesState) (o : Output F)
    → is_without step ≡ true → Goes work w step answer after → OutputStands work w state o
    → OutputGoesOn work w after state o o
goes_stand work w after step applied.NotEnabled state o is (not, same) stands =
    same_stand work w after state o (ap (λ (x : WorldData). x.desk) same) stands
goes_stand work w after step answer state o is r stands =
    does_stand work w after step answer state o is r stands

-- a call that does such a step, or is refused
pub calls_on : {F E : Type 0} (work : WorkData) (w after : WorldData)
    (step : Step) (state : F → FilesState) (o : Output F) (r : Result Applied E)
    → is_without step ≡ true → IfOk r (λ answer. Goes work w step answer after)
    → OnErr r (after ≡ w) → OutputStands work w state o → OutputGoesOn work w after state o o
calls_on work w after step state o (Ok answer) is goes same stands =
    goes_stand work w after step answer state o is goes stands
calls_on work w after step state o (Err e) is goes same stands =
    stays_same work w after state o same stands

-- ---- turns

-- what the driver does that is due
carries_stand : {F : Type 0} (work : WorkData) (w after : WorldData) (order : Order)
    (kind : OrderKind) (state : F → FilesState) (o : Output F)
    → CarriesOutAs kind work order w after → OutputStands work w state o
    → OutputGoesOn work w after state o o
carries_stand work w after order kinds.Drop state o (answer, r) stands =
    same_stand work w after state o (ap (λ (x : WorldData). x.desk) r.is) stands
carries_stand work w after order kinds.Lose state o (answer, r) stands =
    same_stand work w after state o (ap (λ (x : WorldData). x.desk) r.is) stands
carries_stand work w after order kinds.Evict state o r stands =
    same_stand work w after state o (ap (λ (x : WorldData). x.desk) r.is) stands

pub due_stand : {F : Type 0} (work : WorkData) (w after : WorldData)
    (exec : ℕ) (state : F → FilesState) (o : Output F) → DoesDue work exec w after
    → OutputStands work w state o → OutputGoesOn work w after state o o
due_stand work w after exec state o (inl r) stands =
    loses_stand work w after r.lost r.answer state o r.tells stands
due_stand work w after exec state o (inr (inl (none, r))) stands =
    releases_stand work w after r.key r.answer state o r.tells stands
due_stand work w after exec state o (inr (inr (none, due, r))) stands =
    let handed = orders_stand work w r.handed (Some r.order) state o r.hands stands in
    goes_on_then work w r.handed after state o o o handed
    (carries_stand work r.handed after r.order r.order.kind state o r.obeys handed.stand)

-- an attempt that goes on without files
pub plain_stand : {F : Type 0} (work : WorkData) (w after : WorldData)
    (exec : ℕ) (state : F → FilesState) (o : Output F) → AdvancesPlain work exec w after
    → OutputStands work w state o → OutputGoesOn work w after state o o
plain_stand work w after exec state o (inl r) stands =
    same_stand work w after state o (ap (λ (x : WorldData). x.desk) r.is) stands
plain_stand work w after exec state o (inr (inl (kept, r))) stands =
    same_stand work w after state o (ap (λ (x : WorldData). x.desk) r.is) stands
plain_stand work w after exec state o (inr (inr (inl (loc, r)))) stands =
    same_stand work w after state o (ap (λ (x : WorldData). x.desk) r.is) stands
plain_stand work w after exec state o (inr (inr (inr (answer, r)))) stands =
    posts_stand work w after exec answer state o r stands

pub plain_on : {F A E : Type 0} (work : WorkData) (w after : WorldData)
    (exec : ℕ) (state : F → FilesState) (o : Output F) (r : Result A E)
    → OnOk r (AdvancesPlain work exec w after) → OnErr r (after ≡ w) → OutputStands work w state o
    → OutputGoesOn work w after state o o
plain_on work w after exec state o (Ok x) goes same stands =
    plain_stand work w after exec state o goes stands
plain_on work w after exec state o (Err e) goes same stands =
    stays_same work w after state o same stands
