-- What the files have counted behind jobs, by what the histories of these tell of.
use Rattle.std.specs.declared.alloc.Global.{Global}
use Rattle.std.proofs.Common.{◌≡◌, ◌∙◌, ◌⊎◌, inl, inr, List, [], ◌∷◌, ◌++◌, Option, Some, None, append_assoc, refl, ap, sym, subst, arith, Vec}
use Rattle.std.specs.Option.{option_to_list}
use Rattle.std.specs.Prelude.{IfErr, IfOk, Result, Ok, Err}
use Rattle.std.proofs.lemmas.List.{append-nil}
use Rattle.sc_base.specs.Outside.{FilesState, IsLaterFiles, IsQuietFiles}
use Rattle.sc_base.specs.Trees.{Path}
use Rattle.sc_base.specs.declared.refusals.OrMemory.{OrMemory}
use Rattle.sc_base.specs.declared.refusals.OrMemory.TheVariants.{Fault, OutOfMemory}
use Rattle.sc_base.proofs.ChangeLemmas.{changes-none}
use Rattle.sc_ids.specs.declared.failures.Fault as device
use Rattle.sc_lineage.specs.ScriptData.{WorkData}
use Rattle.sc_output.specs.Calls.{Call, IsNotDone, MakesCalls}
use Rattle.sc_output.specs.Commits.{abort_calls, commit_calls}
use Rattle.sc_commit.specs.declared.committers.Committer.{Committer}
use Rattle.sc_core.specs.CoreData.{CoreData}
use Rattle.sc_core.specs.declared.answers.JobState.{JobState}
use Rattle.sc_core.specs.declared.answers.JobState.TheVariants as jobs
use Rattle.sc_core.specs.declared.journals.JobHistory.{JobHistory}
use Rattle.sc_compute.specs.declared.results.TaskResult.{TaskResult}
use Rattle.sc_output.proofs.CallLemmas.{later-then}
use Rattle.sc_desk.specs.Files.{AreCounted, faults_of}
use Rattle.sc_desk.proofs.CountLemmas.{counted_none, counted_quiet, counted_then}
use Rattle.sc_context.specs.Files.{CountAll, CountsLast, CountsOf, HasCounted, HaveLeft, IsOfRenewal, faults_with}
use Rattle.sc_context.specs.Histories.{HasCome}
use Rattle.sc_context.specs.Outputs.{CountsIn, EndsOutput, EndsSave, IsLeftOpen, IsNotBegun, IsOpenIn, IsRenewedIn, LacksBy, LacksResults, RefusesIn, RefusesOutput, RefusesRenewalIn}
use Rattle.sc_context.specs.Progress.{Progress}
use Rattle.sc_context.specs.declared.stops.JobFault.{JobFault}
use Rattle.sc_context.specs.declared.stops.JobFault.TheVariants as faults

-- ---- files that stay

pub quiet_none : (f : FilesState) → IsQuietFiles f f
quiet_none f = record { faults = refl; clashes = refl }

pub later_none : (f : FilesState) → IsLaterFiles f f
later_none f =
    record {
      shown = changes-none (λ t u. Unit {0}) f.shown (λ t. tt);
      faults = omega arith;
      clashes = omega arith;
    }

-- ---- what the end of a job counts

-- by how the files of a job were ended
abbrev Counts : Result (Unit {0}) (OrMemory Path) → FilesState → FilesState → Type 0
Counts (Ok u) before after = IsQuietFiles before after
Counts (Err (Fault path)) before after = IsNotDone before after
Counts (Err OutOfMemory) before after = IsQuietFiles before after

calls_count : (calls : List Call) (before after : FilesState)
    (ended : Result (Unit {0}) (OrMemory Path)) → MakesCalls calls before after ended
    → Counts ended before after
calls_count calls before after (Ok u) makes = makes.0
calls_count calls before after (Err (Fault path)) makes = makes.1
calls_count calls before after (Err OutOfMemory) makes = makes.0

same_counts : (ended : Result (Unit {0}) (OrMemory Path)) (before after : FilesState)
    → after ≡ before → Counts ended before before → Counts ended before after
same_counts ended before after same counts =
    subst (λ (f : FilesState). Counts ended before f) (sym same) counts

save_counts : (dir : Path) (committers : List Committer) (job : JobState)
    (before after : FilesState) (ended : Result (Unit {0}) (OrMemory Path))
    → EndsSave dir committers job before after ended → Counts ended before after
save_counts dir committers jobs.Done before after ended (inl makes) =
    calls_count (commit_calls dir makes.winners) before after ended makes.makes
save_counts dir committers jobs.Done before after ended (inr none) =
    subst (λ e. Counts e before after) (sym none.1)
    (same_counts (Err OutOfMemory) before after none.0 (quiet_none before))
save_counts dir committers (jobs.Aborted abort) before after ended makes =
    calls_count (abort_calls dir) before after ended makes
save_counts dir committers jobs.Running before after ended none =
    subst (λ e. Counts e before after) (sym none.1)
    (same_counts (Ok tt) before after none.0 (quiet_none before))

output_counts : (dir : Option Path) (end : CoreData) (before after : FilesState)
    (ended : Result (Unit {0}) (OrMemory Path)) → EndsOutput dir end before after ended
    → Counts ended before after
output_counts None end before after ended none =
    subst (λ e. Counts e before after) (sym none.1)
    (same_counts (Ok tt) before after none.0 (quiet_none before))
output_counts (Some dir) end before after ended ends =
    save_counts dir end.committers end.job before after ended ends

lacks_count : (end : CoreData) (why : OrMemory JobFault) (before after : FilesState)
    → LacksResults end why → IsQuietFiles before after → CountsLast why before after
lacks_count end (Fault (faults.Aborted abort)) before after lacks quiet = quiet
lacks_count end (Fault (faults.Exists path)) before after lacks quiet = absurd lacks
lacks_count end (Fault (faults.Device path)) before after lacks quiet = absurd lacks
lacks_count end OutOfMemory before after lacks quiet = quiet

last_count : (ended : Result (Unit {0}) (OrMemory Path)) (end : CoreData)
    (why : OrMemory JobFault) (before after : FilesState) → LacksBy ended end why
    → Counts ended before after → CountsLast why before after
last_count (Ok u) end why before after lacks counts =
    lacks_count end why before after lacks counts
last_count (Err (Fault path)) end why before after lacks counts =
    subst (λ w. CountsLast w before after) (sym lacks) counts
last_count (Err OutOfMemory) end why before after lacks counts =
    subst (λ w. CountsLast w before after) (sym lacks) counts

-- ---- a job from its beginning to its end

pub went_counts : {A : Type 0} (told : List device.Fault) (dir : Option Path) (end : CoreData)
    (opened mid closed : FilesState) (ended : Result (Unit {0}) (OrMemory Path))
    (results : Result A (OrMemory JobFault))
    → AreCounted opened told mid → IsLaterFiles mid closed
    → EndsOutput dir end mid closed ended → IfOk results (λ a. ended ≡ Ok tt)
    → IfErr results (LacksBy ended end) → CountsIn told opened closed results
went_counts told dir end opened mid closed ended (Ok a) counted later ends ok lacks =
    subst (λ l. AreCounted opened l closed) (append-nil told)
    (counted_then opened mid closed told [] counted
    (counted_quiet mid closed later (subst (λ e. Counts e mid closed) ok
    (output_counts dir end mid closed ended ends))))
went_counts told dir end opened mid closed ended (Err why) counted later ends ok lacks =
    record {
      last = mid;
      counted = counted;
      later = later;
      ends = last_count ended end why mid closed lacks
          (output_counts dir end mid closed ended ends);
    }

-- what is counted while it is opened
open_counts : (dir : Option Path) (before opened : FilesState) → IsOpenIn dir before opened
    → AreCounted before [] opened
open_counts None before opened is =
    subst (λ (f : FilesState). AreCounted before [] f) (sym is) (counted_none before)
open_counts (Some dir) before opened is = counted_quiet before opened is.0 is.1

open_later : (dir : Option Path) (before opened : FilesState) → IsOpenIn dir before opened
    → IsLaterFiles before opened
open_later None before opened is =
    subst (λ (f : FilesState). IsLaterFiles before f) (sym is) (later_none before)
open_later (Some dir) before opened is = is.0

-- what is counted while it runs, behind what was counted before
pub counts_then : {A : Type 0} (told more : List device.Fault) (opened mid closed : FilesState)
    (results : Result A (OrMemory JobFault))
    → AreCounted opened told mid → CountsIn more mid closed results
    → CountsIn (told ++ more) opened closed results
counts_then told more opened mid closed (Ok a) first then =
    counted_then opened mid closed told more first then
counts_then told more opened mid closed (Err why) first then =
    record {
      last = then.last;
      counted = counted_then opened mid then.last told more first then.counted;
      later = then.later;
      ends = then.ends;
    }

-- from before its files were opened
from_open : (dir : Option Path) (told : List device.Fault) (before opened last : FilesState)
    → IsOpenIn dir before opened → AreCounted opened told last → AreCounted before told last
from_open dir told before opened last is_open counted =
    counted_then before opened last [] told (open_counts dir before opened is_open) counted

pub done_counts : (dir : Option Path) (tried : Option JobHistory) (h : JobHistory)
    (before opened after : FilesState) (given : Vec TaskResult Global)
    (results : Result (Vec TaskResult Global) (OrMemory JobFault))
    → results ≡ Ok given → IsOpenIn dir before opened
    → CountsIn (faults_with tried h) opened after results → CountsOf tried h before after
done_counts dir tried h before opened after given results ok is_open counts =
    from_open dir (faults_with tried h) before opened after is_open
    (subst (CountsIn (faults_with tried h) opened after) ok counts)

-- one job was counted, and no other was given up
count_one : (tried : Option JobHistory) (h : JobHistory) (before after : FilesState)
    → CountsOf tried h before after → CountAll (h ∷ []) (option_to_list tried) before after
count_one tried h before after counted =
    record {
      tried = tried;
      rest = [];
      all = sym (append-nil (option_to_list tried));
      mid = after;
      counted = counted;
      then = (refl, refl);
    }

pub stop_counts : (dir : Option Path) (tried : Option JobHistory) (h : JobHistory)
    (before opened after : FilesState) (why : OrMemory JobFault)
    (results : Result (Vec TaskResult Global) (OrMemory JobFault)) → results ≡ Err why
    → IsOpenIn dir before opened → CountsIn (faults_with tried h) opened after results
    → HasCounted (h ∷ []) (option_to_list tried) why before after
stop_counts dir tried h before opened after why results is is_open counts =
    let has = subst (CountsIn (faults_with tried h) opened after) is counts in
    record {
      front = option_to_list tried;
      unfinished = None;
      all = sym (append-nil (option_to_list tried));
      last = has.last;
      counted = count_one tried h before has.last
          (from_open dir (faults_with tried h) before opened has.last is_open has.counted);
      later = has.later;
      ends = has.ends;
    }

-- ---- jobs that stop

-- no job was run, and this ended the next one
none_counts : (why : OrMemory JobFault) (before after : FilesState) → IsLaterFiles before after
    → CountsLast why before after → HasCounted [] [] why before after
none_counts why before after later ends =
    record {
      front = [];
      unfinished = None;
      all = refl;
      last = before;
      counted = (refl, refl);
      later = later;
      ends = ends;
    }

-- nothing was done
pub still_counts : (before after : FilesState) → after ≡ before
    → HasCounted [] [] OutOfMemory before after
still_counts before after same =
    subst (λ (f : FilesState). HasCounted [] [] OutOfMemory before f) (sym same)
    (none_counts OutOfMemory before before (later_none before) (quiet_none before))

-- memory ran out behind a job that is done
pub ended_counts : (tried : Option JobHistory) (h : JobHistory) (before after : FilesState)
    → CountsOf tried h before after
    → HasCounted (h ∷ []) (option_to_list tried) OutOfMemory before after
ended_counts tried h before after counted =
    record {
      front = option_to_list tried;
      unfinished = None;
      all = sym (append-nil (option_to_list tried));
      last = after;
      counted = count_one tried h before after counted;
      later = later_none after;
      ends = quiet_none after;
    }

-- its files weren't opened
refused_in : (dir : Path) (before after : FilesState) (why : OrMemory JobFault)
    → RefusesIn dir before after why → CountsLast why before after
refused_in dir before after (Fault (faults.Aborted abort)) refused = absurd refused
refused_in dir before after (Fault (faults.Exists path)) refused = refused.1
refused_in dir before after (Fault (faults.Device path)) refused = inl refused.1.failed
refused_in dir before after OutOfMemory refused = refused.0

pub refused_counts : (dir : Option Path) (before after : FilesState)
    (why : OrMemory JobFault) → RefusesOutput dir before after why
    → HasCounted [] [] why before after
refused_counts None before after why refused = absurd refused
refused_counts (Some dir) before after why refused =
    none_counts why before after refused.0 (refused_in dir before after why refused.1)

-- they were opened, and memory ran out then
pub opened_counts : (dir : Option Path) (before opened : FilesState)
    → IsOpenIn dir before opened → HasCounted [] [] OutOfMemory before opened
opened_counts None before opened is = still_counts before opened is
opened_counts (Some dir) before opened is = none_counts OutOfMemory before opened is.0 is.1

-- what is counted where a job didn't begin again
renewed_counts : (dir : Option Path) (left after : FilesState)
    → (after ≡ left) ⊎ IsRenewedIn dir left after
    → IsLaterFiles left after × IsQuietFiles left after
renewed_counts dir left after (inl same) =
    subst (λ (f : FilesState). IsLaterFiles left f × IsQuietFiles left f) (sym same)
    (later_none left, quiet_none left)
renewed_counts None left after (inr same) =
    subst (λ (f : FilesState). IsLaterFiles left f × IsQuietFiles left f) (sym same)
    (later_none left, quiet_none left)
renewed_counts (Some dir) left after (inr renewed) = (renewed.0, renewed.1)

pub renewed_counted : (dir : Option Path) (left after : FilesState) → IsRenewedIn dir left after
    → AreCounted left [] after
renewed_counted dir left after renewed =
    let counts = renewed_counts dir left after (inr renewed) in
    counted_quiet left after counts.0 counts.1

abbrev pub EndsAgain : OrMemory JobFault → FilesState → FilesState → Type 0
EndsAgain why left after = IsOfRenewal why × IsLaterFiles left after × CountsLast why left after

unrenewed_counts : (dir : Path) (left after : FilesState) (why : OrMemory JobFault)
    → IsLaterFiles left after → RefusesRenewalIn dir left after why → EndsAgain why left after
unrenewed_counts dir left after (Fault (faults.Aborted abort)) later refused = absurd refused
unrenewed_counts dir left after (Fault (faults.Exists path)) later refused = absurd refused
unrenewed_counts dir left after (Fault (faults.Device path)) later refused =
    (tt, later, refused.1)
unrenewed_counts dir left after OutOfMemory later refused = (tt, later, refused.0)

pub not_begun_counts : (dir : Option Path) (left after : FilesState) (why : OrMemory JobFault)
    → IsNotBegun dir left after why → EndsAgain why left after
not_begun_counts dir left after why (inl (none, how)) =
    let counts = renewed_counts dir left after how in
    subst (λ w. EndsAgain w left after) (sym none) (tt, counts.0, counts.1)
not_begun_counts None left after why (inr refused) = absurd refused
not_begun_counts (Some dir) left after why (inr refused) =
    unrenewed_counts dir left after why refused.0 refused.1

-- or its executors gave it up before, and it didn't begin again
pub given_up_counts : (dir : Option Path) (before opened left files : FilesState)
    (tried : JobHistory) (why : OrMemory JobFault) → IsOpenIn dir before opened
    → IsLeftOpen dir opened left → AreCounted opened (faults_of tried.entries.items) left
    → IsNotBegun dir left files why → HasCounted [] (tried ∷ []) why before files
given_up_counts dir before opened left files tried why is lay counted not_begun =
    let ends = not_begun_counts dir left files why not_begun in
    record {
      front = [];
      unfinished = Some tried;
      all = refl;
      last = before;
      counted = (refl, refl);
      later = later-then before left files
          (later-then before opened left (open_later dir before opened is) lay.0) ends.1;
      ends = (
        ends.0,
        (
          left,
          from_open dir (faults_of tried.entries.items) before opened left is counted,
          ends.1,
          ends.2,
        ),
      );
    }

-- ---- jobs one behind the other

all_append : (xs xgs ys ygs : List JobHistory) (before then after : FilesState)
    → CountAll xs xgs before then → CountAll ys ygs then after
    → CountAll (xs ++ ys) (xgs ++ ygs) before after
all_append [] xgs ys ygs before then after same counted =
    subst (λ gs. CountAll ys (gs ++ ygs) before after) (sym same.1)
    (subst (λ (f : FilesState). CountAll ys ygs f after) same.0 counted)
all_append (h ∷ xs) xgs ys ygs before then after first counted =
    record {
      tried = first.tried;
      rest = first.rest ++ ygs;
      all = ap (λ gs. gs ++ ygs) first.all
          ∙ append_assoc (option_to_list first.tried) first.rest ygs;
      mid = first.mid;
      counted = first.counted;
      then = all_append xs first.rest ys ygs first.mid then after first.then counted;
    }

pub left_counts : (work : WorkData) (p q : Progress) (histories given_up : List JobHistory)
    (before after : FilesState) (come : HasCome work p histories given_up q)
    → HaveLeft work p histories given_up q come before after
    → CountAll histories given_up before after
left_counts work p q [] given_up before after come left = (left, come.1)
left_counts work p q (h ∷ histories) given_up before after come left =
    record {
      tried = come.tried;
      rest = come.rest;
      all = come.all;
      mid = left.0;
      counted = left.1.counted;
      then = left_counts work come.mid q histories come.rest left.0 after come.then left.2;
    }

pub counts_behind : (front given more others : List JobHistory) (why : OrMemory JobFault)
    (before then after : FilesState) → CountAll front given before then
    → HasCounted more others why then after
    → HasCounted (front ++ more) (given ++ others) why before after
counts_behind front given more others why before then after first has =
    record {
      front = given ++ has.front;
      unfinished = has.unfinished;
      all = ap (λ gs. given ++ gs) has.all
          ∙ sym (append_assoc given has.front (option_to_list has.unfinished));
      last = has.last;
      counted = all_append front given more has.front before then has.last first has.counted;
      later = has.later;
      ends = has.ends;
    }
