-- What jobs leave of the files, one behind the other, and how the files of a save stand.
use Rattle.std.proofs.Common.{◌≡◌, ◌∙◌, inl, inr, List, [], ◌∷◌, ◌++◌, Option, Some, None, append_assoc, ap, refl, sym, subst}
use Rattle.std.specs.Option.{option_to_list}
use Rattle.std.specs.Prelude.{Result, Ok, Err}
use Rattle.std.proofs.lemmas.List.{append-nil}
use Rattle.sc_base.specs.Outside.{FilesState}
use Rattle.sc_base.specs.Trees.{Path}
use Rattle.sc_base.specs.declared.refusals.OrMemory.{OrMemory}
use Rattle.sc_base.specs.declared.refusals.OrMemory.TheVariants.{Fault, OutOfMemory}
use Rattle.sc_base.proofs.ChangeLemmas.{changes-none}
use Rattle.sc_lineage.specs.ScriptData.{WorkData}
use Rattle.sc_output.specs.Calls.{Call}
use Rattle.sc_output.specs.Commits.{abort_calls, commit_calls}
use Rattle.sc_output.proofs.CallLemmas.{later-then}
use Rattle.sc_staging.specs.Laws.{WaysGoOn}
use Rattle.sc_core.specs.CoreData.{CoreData}
use Rattle.sc_core.specs.declared.journals.JobHistory.{JobHistory}
use Rattle.sc_jobs.specs.declared.goals.Goal.{Goal}
use Rattle.sc_jobs.specs.declared.goals.Goal.TheVariants as goals
use Rattle.sc_desk.specs.Files.{dir_of_job}
use Rattle.sc_context.specs.Files.{EndsBy, FailsIn, HaveLeft, IsOfNoFiles, IsTriedIn, LeavesFiles, LeavesIn, StopsFiles, StopsIn}
use Rattle.sc_context.specs.Histories.{HasCome, IsDone}
use Rattle.sc_context.specs.Outputs.{FailsAtEnd, HasBegunIn, IsOpenIn, MakesAtEnd, RefusesIn, RefusesOutput, WentIn}
use Rattle.sc_context.specs.Progress.{IsNext, Progress}
use Rattle.sc_context.specs.declared.stops.JobFault.{JobFault}
use Rattle.sc_context.specs.declared.stops.JobFault.TheVariants as faults
use Rattle.sc_context.proofs.RenewalLemmas.{begun_since, goes_since}

-- ---- jobs one behind the other

-- some jobs were done, and left the files so
pub record HaveGone (work : WorkData) (p : Progress) (histories given_up : List JobHistory)
    (q : Progress) (before after : FilesState) : Type 0 where
  pub come : HasCome work p histories given_up q
  pub left : HaveLeft work p histories given_up q come before after

pub gone_then : (work : WorkData) (p mid q : Progress) (xs xgs ys ygs : List JobHistory)
    (before then after : FilesState) → HaveGone work p xs xgs mid before then
    → HaveGone work mid ys ygs q then after
    → HaveGone work p (xs ++ ys) (xgs ++ ygs) q before after
gone_then work p mid q [] xgs ys ygs before then after one two =
    subst (λ gs. HaveGone work p ys (gs ++ ygs) q before after) (sym one.come.1)
    (subst (λ x. HaveGone work x ys ygs q before after) one.come.0
    (subst (λ f. HaveGone work mid ys ygs q f after) one.left two))
gone_then work p mid q (x ∷ xs) xgs ys ygs before then after one two =
    let come = one.come in
    let rest = gone_then work come.mid mid q xs come.rest ys ygs one.left.0 then after
    (record { come = come.then; left = one.left.2 }) two in
    record {
      come = record {
        mid = come.mid;
        tried = come.tried;
        rest = come.rest ++ ygs;
        all = ap (λ gs. gs ++ ygs) come.all
            ∙ append_assoc (option_to_list come.tried) come.rest ygs;
        done = come.done;
        then = rest.come;
      };
      left = (one.left.0, one.left.1, rest.left);
    }

-- one job
pub gone_once : (work : WorkData) (p q : Progress) (tried : Option JobHistory) (h : JobHistory)
    (before after : FilesState) → (done : IsDone work p tried h q)
    → LeavesFiles work done.goal tried h before after
    → HaveGone work p (h ∷ []) (option_to_list tried) q before after
gone_once work p q tried h before after done left =
    record {
      come = record {
        mid = q;
        tried = tried;
        rest = [];
        all = sym (append-nil (option_to_list tried));
        done = done;
        then = (refl, refl);
      };
      left = (after, left, refl);
    }

-- ---- a job that comes to no end

-- nothing was done to the files
pub unchanged_stops : (work : WorkData) (given : List JobHistory) (dir : Option Path)
    (before after : FilesState) (why : OrMemory JobFault) → after ≡ before → IsOfNoFiles why
    → StopsIn work given dir before after why
unchanged_stops work given None before after why same none = (same, none)
unchanged_stops work given (Some dir) before after why same none = inl (same, none)

-- the job that comes next is the action's own, or saves nothing
pub stops_for : (work : WorkData) (given : List JobHistory) (p : Progress) (goal : Goal)
    (before after : FilesState) (why : OrMemory JobFault) → IsNext work p goal
    → StopsIn work given (dir_of_job work goal) before after why
    → StopsFiles work given p.actions before after why
stops_for work given p (goals.Action number) before after why next stops =
    subst (λ k. StopsFiles work given k before after why) next.0 stops
stops_for work given p (goals.Bounds sort) before after why next stops =
    unchanged_stops work given (dir_of_job work (goals.Action p.actions)) before after why stops.0
    stops.1

-- its files weren't opened
refused_fails : (work : WorkData) (given : List JobHistory) (dir : Path)
    (before after : FilesState) (why : OrMemory JobFault)
    → RefusesIn dir before after why → FailsIn work given dir before after why
refused_fails work given dir before after (Fault (faults.Aborted abort)) refused = absurd refused
refused_fails work given dir before after (Fault (faults.Exists path)) refused = refused
refused_fails work given dir before after (Fault (faults.Device path)) refused = inl refused
refused_fails work given dir before after OutOfMemory refused = inl refused

pub refused_stops : (work : WorkData) (given : List JobHistory) (dir : Option Path)
    (before after : FilesState) (why : OrMemory JobFault)
    → RefusesOutput dir before after why → StopsIn work given dir before after why
refused_stops work given None before after why refused = absurd refused
refused_stops work given (Some dir) before after why refused =
    inr (refused.0, refused_fails work given dir before after why refused.1)

-- it is done, and memory ran out then
pub left_stops : (dir : Option Path) (work : WorkData) (goal : Goal) (given : List JobHistory)
    (tried : Option JobHistory) (h : JobHistory) (before after : FilesState)
    → ((p : Path) → dir ≡ Some p → IsTriedIn work given tried)
    → LeavesIn dir work goal tried h before after
    → StopsIn work given dir before after OutOfMemory
left_stops None work goal given tried h before after own left = (left, tt)
left_stops (Some dir) work goal given tried h before after own left =
    let c = left.0 in
    inr (
      left.1,
      inr (
        commit_calls dir c.winners,
        inr (c.winners, refl),
        inl (record {
          tried = tried;
          own = own dir refl;
          mid = c.mid;
          way = c.way;
          makes = c.commits;
        }),
      ),
    )

-- ---- a save that was opened

-- It began, and was given up before, if it was.
module _ (ways : WaysGoOn) (work : WorkData) (given : List JobHistory) (dir : Path)
    (before opened begun : FilesState) (open_is : IsOpenIn (Some dir) before opened)
    (tried : Option JobHistory) (own : IsTriedIn work given tried)
    (began : HasBegunIn tried (Some dir) opened begun) where
  pub ends_by : (after : FilesState) (calls : List Call)
      (result : Result (Unit {0}) (OrMemory Path)) → MakesAtEnd dir begun after calls result
      → EndsBy work given dir before after calls result
  ends_by after calls result made =
      record {
        tried = tried;
        own = own;
        mid = made.mid;
        way = goes_since ways dir before opened open_is tried begun made.mid
            (begun_since ways dir before opened open_is tried begun began) made.later made.goes;
        makes = made.makes;
      }

  went_fails : (after : FilesState) (why : OrMemory JobFault) → FailsAtEnd dir begun after why
      → FailsIn work given dir before after why
  went_fails after (Fault (faults.Aborted abort)) made =
      ends_by after (abort_calls dir) (Ok tt) made
  went_fails after (Fault (faults.Exists path)) made = absurd made
  went_fails after (Fault (faults.Device path)) (calls, ending, made) =
      inr (inl (calls, ending, ends_by after calls (Err (Fault path)) made))
  went_fails after OutOfMemory (calls, ending, inl made) =
      inr (calls, ending, inl (ends_by after calls (Ok tt) made))
  went_fails after OutOfMemory (calls, ending, inr made) =
      inr (calls, ending, inr (ends_by after calls (Err OutOfMemory) made))

  -- memory ran out before its job came to an end
  begun_fails : FailsIn work given dir before begun OutOfMemory
  begun_fails =
      inr (
        abort_calls dir,
        inl refl,
        inr (record {
          tried = tried;
          own = own;
          mid = begun;
          way = begun_since ways dir before opened open_is tried begun began;
          makes = (
            record { faults = refl; clashes = refl },
            changes-none _ begun.shown (λ t. inl refl),
          );
        }),
      )

-- files that aren't of a save stay as they are where a job begins, again too
pub begun_same : (tried : Option JobHistory) (opened begun : FilesState)
    → HasBegunIn tried None opened begun → begun ≡ opened
begun_same None opened begun same = same
begun_same (Some tried) opened begun (left, lay, same) = same ∙ lay.1

-- the files of a job that was opened, and came to no end
pub went_stops : {A : Type 0} (ways : WaysGoOn) (dir : Option Path) (work : WorkData)
    (goal : Goal) (given : List JobHistory) (tried : Option JobHistory) (end : CoreData)
    (before opened begun after : FilesState) (why : OrMemory JobFault)
    (results : Result A (OrMemory JobFault)) → results ≡ Err why → IsOpenIn dir before opened
    → HasBegunIn tried dir opened begun
    → ((p : Path) → dir ≡ Some p → IsTriedIn work given tried)
    → WentIn dir work goal end begun after results → StopsIn work given dir before after why
went_stops ways dir work goal given tried end before opened begun after why results is open_is
    began own went =
    by dir open_is began own went
  where
    by : (dir : Option Path) → IsOpenIn dir before opened → HasBegunIn tried dir opened begun
        → ((p : Path) → dir ≡ Some p → IsTriedIn work given tried)
        → WentIn dir work goal end begun after results → StopsIn work given dir before after why
    by None open_is began own went =
        let w = subst (WentIn None work goal end begun after) is went in
        (w.0 ∙ begun_same tried opened begun began ∙ open_is, w.1)
    by (Some dir) open_is began own went =
        let w = subst (WentIn (Some dir) work goal end begun after) is went in
        inr (
          later-then before begun after
              (begun_since ways dir before opened open_is tried begun began).later w.0,
          went_fails ways work given dir before opened begun open_is tried (own dir refl) began
              after why w.1,
        )

-- memory ran out before its job began
pub unbegun_stops : (ways : WaysGoOn) (work : WorkData) (given : List JobHistory)
    (dir : Option Path) (before opened : FilesState) → IsOpenIn dir before opened
    → StopsIn work given dir before opened OutOfMemory
unbegun_stops ways work given None before opened open_is = (open_is, tt)
unbegun_stops ways work given (Some dir) before opened open_is =
    inr (
      open_is.0,
      begun_fails ways work given dir before opened opened open_is None tt refl,
    )
