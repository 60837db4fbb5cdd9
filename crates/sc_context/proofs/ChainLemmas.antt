-- Jobs one behind the other.
use Rattle.std.proofs.Common.{◌≡◌, ◌∙◌, inl, inr, ◌+◌, ◌-◌, ◌<◌, List, [], ◌∷◌, ◌++◌, Option, Some, None, length, slice_get, refl, ap, sym, subst, arith, append_assoc}
use Rattle.std.specs.Option.{option_map, option_to_list}
use Rattle.std.proofs.lemmas.List.{append-nil, length-append}
use Rattle.sc_base.specs.Outside.{FilesState}
use Rattle.sc_base.specs.Trees.{Path}
use Rattle.sc_base.specs.declared.refusals.OrMemory.{OrMemory}
use Rattle.sc_base.specs.declared.refusals.OrMemory.TheVariants.{Fault, OutOfMemory}
use Rattle.sc_compute.specs.declared.evaluation.Evaluated.{Evaluated}
use Rattle.sc_compute.specs.declared.results.TaskResult.{TaskResult}
use Rattle.sc_lineage.specs.ScriptData.{WorkData, IsSoundScript}
use Rattle.sc_core.specs.CoreData.{CoreData}
use Rattle.sc_core.specs.declared.answers.JobState.TheVariants as jobs
use Rattle.sc_core.specs.declared.journals.JobHistory.{JobHistory}
use Rattle.sc_stagecut.specs.Carrying.{HasBounds}
use Rattle.sc_stagecut.specs.Cuts.{IsCut}
use Rattle.sc_jobs.specs.JobData.{IsGoal, goal_action, goal_node}
use Rattle.sc_jobs.specs.declared.goals.Goal.{Goal}
use Rattle.sc_jobs.specs.declared.goals.Goal.TheVariants as goals
use Rattle.sc_jobs.proofs.SortLemmas.{first_bounds_can_be_found}
use Rattle.sc_staging.specs.Laws.{WaysGoOn}
use Rattle.sc_desk.specs.DeskData.{PassedData}
use Rattle.sc_desk.specs.Files.{dir_of_job}
use Rattle.sc_context.specs.Aborts.{IsHalted}
use Rattle.sc_context.specs.Bounding.{GoesOn}
use Rattle.sc_context.specs.Contexts.{ContextData, Evaluates, GivesNext, IsEnded, ShowsStop, StandBehind, Stops}
use Rattle.sc_context.specs.Files.{HasCounted, IsOfRenewal, StopsFiles}
use Rattle.sc_context.specs.Histories.{HasCome, IsCutShort, IsDone, IsHistory, IsUnaborted, last_end}
use Rattle.sc_context.specs.Goings.{IsLeftOver}
use Rattle.sc_context.specs.Outputs.{IsOpenIn, RefusesOutput}
use Rattle.sc_context.specs.Progress.{IsNext, Progress, behind_job, first_progress, next_node}
use Rattle.sc_context.specs.declared.stops.JobFault.{JobFault}
use Rattle.sc_context.specs.declared.stops.JobFault.TheVariants as faults
use Rattle.sc_context.proofs.CountingLemmas.{counts_behind, ended_counts, given_up_counts, left_counts, not_begun_counts, opened_counts, refused_counts, still_counts}
use Rattle.sc_context.proofs.BehindLemmas.{tried_so}
use Rattle.sc_context.proofs.DoneLemmas.{aborted_undone}
use Rattle.sc_context.proofs.FilesLemmas.{HaveGone, gone_then, left_stops, refused_stops, stops_for, unbegun_stops, unchanged_stops}
use Rattle.sc_context.proofs.GivenLemmas.{own_trial, own_tried, stops_more}
use Rattle.sc_context.proofs.RenewalLemmas.{not_begun_stops}

-- one job more is done
pub come_more : (work : WorkData) (p mid after : Progress) (histories given_up : List JobHistory)
    (tried : Option JobHistory) (h : JobHistory) → HasCome work p histories given_up mid
    → IsDone work mid tried h after
    → HasCome work p (histories ++ h ∷ []) (given_up ++ option_to_list tried) after
come_more work p mid after [] given_up tried h come done =
    record {
      mid = after;
      tried = tried;
      rest = [];
      all = ap (λ gs. gs ++ option_to_list tried) come.1
          ∙ sym (append-nil (option_to_list tried));
      done = subst (λ q. IsDone work q tried h after) come.0 done;
      then = (refl, refl);
    }
come_more work p mid after (x ∷ histories) given_up tried h come done =
    record {
      mid = come.mid;
      tried = come.tried;
      rest = come.rest ++ option_to_list tried;
      all = ap (λ gs. gs ++ option_to_list tried) come.all
          ∙ append_assoc (option_to_list come.tried) come.rest (option_to_list tried);
      done = come.done;
      then = come_more work come.mid mid after histories come.rest tried h come.then done;
    }

-- the core that the last job left
pub last_more : (histories : List JobHistory) (h : JobHistory)
    → last_end (histories ++ h ∷ []) ≡ Some h.end
last_more histories h =
    let len = length-append histories (h ∷ []) in
    let place : length (histories ++ h ∷ []) - 1 ≡ length histories = omega (arith, len) in
    ap (λ i. option_map (λ (x : JobHistory). x.end) (slice_get (histories ++ h ∷ []) i)) place
    ∙ ap (option_map (λ (x : JobHistory). x.end)) (behind histories)
  where
    behind : (xs : List JobHistory) → slice_get (xs ++ h ∷ []) (length xs) ≡ Some h
    behind [] = refl
    behind (x ∷ xs) = behind xs

-- the job that comes next is for something that is there, and lacks no bounds
pub next_known : (work : WorkData) (p : Progress) (goal : Goal)
    → IsSoundScript work.script → p.actions < length work.script.actions → IsNext work p goal
    → IsGoal work goal × HasBounds work.script.nodes p.carried (goal_node work goal)
next_known work p (goals.Action number) sound within (same, first) = (
  subst (λ n. n < length work.script.actions) (sym same) within,
  subst (λ n. HasBounds work.script.nodes p.carried (goal_node work (goals.Action n)))
      (sym same) first,
)
next_known work p (goals.Bounds sort) sound within first =
    first_bounds_can_be_found work p.carried (next_node work p) sort sound first

-- a job that is done, as the progress behind it has it
pub ended_come : (work : WorkData) (p : Progress) (histories given_up : List JobHistory)
    (tried : Option JobHistory) (h : JobHistory) (goal : Goal)
    → HasCome work (first_progress work) histories given_up p
    → (is : IsHistory work p goal tried h) → h.end.job ≡ jobs.Done
    → HasCome work (first_progress work) (histories ++ h ∷ [])
    (given_up ++ option_to_list tried) (behind_job work p goal is.graph h.end)
ended_come work p histories given_up tried h goal come is done =
    come_more work (first_progress work) p (behind_job work p goal is.graph h.end) histories
    given_up tried h come (record { goal = goal; is = is; done = done; behind = refl })

-- memory ran out behind a job that was not aborted
pub ended_short : (work : WorkData) (p : Progress) (before given after given_up : List JobHistory)
    (tried : Option JobHistory) (h : JobHistory) (goal : Goal)
    → HasCome work (first_progress work) before given p → IsHistory work p goal tried h
    → IsUnaborted h.end → after ≡ before ++ h ∷ [] → given_up ≡ given ++ option_to_list tried
    → IsCutShort work p.actions after given_up
ended_short work p before given after given_up tried h goal come is unaborted all all_given = (
  p,
  refl,
  inr (inr (
    goal,
    h,
    record {
      before = before;
      all = all;
      given_before = given;
      tried = tried;
      all_given = all_given;
      come = come;
      is = is;
    },
    unaborted,
  )),
)

-- some jobs were done, as lists that are the same tell
come_same : (work : WorkData) (c : ContextData) (histories given_up : List JobHistory)
    → HasCome work (first_progress work) c.histories c.given_up c.progress
    → histories ≡ c.histories → given_up ≡ c.given_up
    → HasCome work (first_progress work) histories given_up c.progress
come_same work c histories given_up come all all_given =
    subst (λ gs. HasCome work (first_progress work) histories gs c.progress) (sym all_given)
    (subst (λ hs. HasCome work (first_progress work) hs c.given_up c.progress) (sym all) come)

-- memory ran out before a job began
cut_short : (work : WorkData) (c : ContextData) (histories given_up : List JobHistory)
    → HasCome work (first_progress work) c.histories c.given_up c.progress
    → histories ≡ c.histories → given_up ≡ c.given_up
    → IsHalted work c.progress.actions histories given_up
cut_short work c histories given_up come all all_given =
    inl (c.progress, refl, inl (come_same work c histories given_up come all all_given))

-- what stands behind no further job
abbrev none_behind : (c : ContextData) (histories given_up : List JobHistory)
    → histories ≡ c.histories → given_up ≡ c.given_up → StandBehind c histories given_up
none_behind c histories given_up all all_given =
    record {
      more = [];
      all = all ∙ sym (append-nil c.histories);
      given = [];
      all_given = all_given ∙ sym (append-nil c.given_up);
    }

-- a job that is done was not aborted
done_unaborted : (end : CoreData) → end.job ≡ jobs.Done → IsUnaborted end
done_unaborted end done abort aborted = aborted_undone end.job abort aborted done

-- ---- memory that runs out

-- before a job
pub stops_short : (work : WorkData) (c : ContextData) (why : OrMemory JobFault)
    (histories given_up : List JobHistory) (files : FilesState)
    → HasCome work (first_progress work) c.histories c.given_up c.progress
    → why ≡ OutOfMemory → histories ≡ c.histories → given_up ≡ c.given_up → files ≡ c.files
    → Stops work c why histories given_up files
stops_short work c why histories given_up files come none all all_given same =
    subst (λ w. Stops work c w histories given_up files) (sym none)
    (record {
      behind = none_behind c histories given_up all all_given;
      shows = cut_short work c histories given_up come all all_given;
      over = unchanged_stops work [] (dir_of_job work (goals.Action c.progress.actions)) c.files
          files OutOfMemory same tt;
      counted = still_counts c.files files same;
    })

-- or behind one that is done
pub stops_ended : (work : WorkData) (c : ContextData) (goal : Goal) (why : OrMemory JobFault)
    (passed : PassedData) (histories given_up left given_left : List JobHistory)
    (given : List TaskResult) (files files_left : FilesState) → IsNext work c.progress goal
    → HasCome work (first_progress work) c.histories c.given_up c.progress
    → IsEnded work c goal passed histories given_up given files → why ≡ OutOfMemory
    → left ≡ histories → given_left ≡ given_up → files_left ≡ files
    → Stops work c why left given_left files_left
stops_ended work c goal why passed histories given_up left given_left given files files_left next
    come ended none all all_given same =
    subst (λ w. Stops work c w left given_left files_left) (sym none)
    (record {
      behind = record {
        more = ended.history ∷ [];
        all = all ∙ ended.all;
        given = option_to_list ended.tried;
        all_given = all_given ∙ ended.all_given;
      };
      shows = inl (ended_short work c.progress c.histories c.given_up left given_left ended.tried
          ended.history goal come ended.is (done_unaborted ended.history.end ended.done)
          (all ∙ ended.all) (all_given ∙ ended.all_given));
      over = subst (λ f. StopsFiles work (option_to_list ended.tried) c.progress.actions c.files
          f OutOfMemory) (sym same)
          (stops_for work (option_to_list ended.tried) c.progress goal c.files files OutOfMemory
          next
          (left_stops (dir_of_job work goal) work goal (option_to_list ended.tried) ended.tried
          ended.history c.files files
          (own_tried work c.progress goal ended.is.graph (dir_of_job work goal) ended.tried refl
          ended.is.was_tried)
          ended.left.left));
      counted = subst (λ f. HasCounted (ended.history ∷ []) (option_to_list ended.tried)
          OutOfMemory c.files f) (sym same)
          (ended_counts ended.tried ended.history c.files files ended.left.counted);
    })

-- the files of a job weren't opened, so it never began
pub stops_unbegun : (work : WorkData) (c : ContextData) (goal : Goal) (why : OrMemory JobFault)
    (histories given_up : List JobHistory) (files : FilesState) → IsNext work c.progress goal
    → HasCome work (first_progress work) c.histories c.given_up c.progress
    → RefusesOutput (dir_of_job work goal) c.files files why → histories ≡ c.histories
    → given_up ≡ c.given_up → Stops work c why histories given_up files
stops_unbegun work c goal why histories given_up files next come refused all all_given =
    record {
      behind = none_behind c histories given_up all all_given;
      shows = shows (dir_of_job work goal) why refused;
      over = stops_for work [] c.progress goal c.files files why next
          (refused_stops work [] (dir_of_job work goal) c.files files why refused);
      counted = refused_counts (dir_of_job work goal) c.files files why refused;
    }
  where
    shows : (dir : Option Path) (why : OrMemory JobFault)
        → RefusesOutput dir c.files files why
        → ShowsStop work c.progress.actions why histories given_up
    shows None why refused = absurd refused
    shows (Some dir) (Fault (faults.Aborted abort)) refused = absurd refused.1
    shows (Some dir) (Fault (faults.Exists path)) refused =
        (c.progress, come_same work c histories given_up come all all_given, refl)
    shows (Some dir) (Fault (faults.Device path)) refused =
        cut_short work c histories given_up come all all_given
    shows (Some dir) OutOfMemory refused =
        cut_short work c histories given_up come all all_given

-- they were opened, and memory ran out before it began
pub stops_opened : WaysGoOn → (work : WorkData) (c : ContextData) (goal : Goal)
    (why : OrMemory JobFault) (histories given_up : List JobHistory) (files : FilesState)
    → IsNext work c.progress goal
    → HasCome work (first_progress work) c.histories c.given_up c.progress
    → IsOpenIn (dir_of_job work goal) c.files files → why ≡ OutOfMemory
    → histories ≡ c.histories → given_up ≡ c.given_up
    → Stops work c why histories given_up files
stops_opened ways work c goal why histories given_up files next come opened none all all_given =
    subst (λ w. Stops work c w histories given_up files) (sym none)
    (record {
      behind = none_behind c histories given_up all all_given;
      shows = cut_short work c histories given_up come all all_given;
      over = stops_for work [] c.progress goal c.files files OutOfMemory next
          (unbegun_stops ways work [] (dir_of_job work goal) c.files files opened);
      counted = opened_counts (dir_of_job work goal) c.files files opened;
    })

-- they were opened, and its executors gave it up, and it didn't begin again
pub stops_given_up : WaysGoOn → (work : WorkData) (c : ContextData) (goal : Goal)
    (passed : PassedData) (why : OrMemory JobFault) (histories given_up : List JobHistory)
    (tried : JobHistory) (opened files : FilesState) → IsNext work c.progress goal
    → passed.carried ≡ c.progress.carried
    → HasCome work (first_progress work) c.histories c.given_up c.progress
    → IsOpenIn (dir_of_job work goal) c.files opened
    → IsLeftOver work passed c.progress.last goal (dir_of_job work goal) opened tried why files
    → histories ≡ c.histories → given_up ≡ c.given_up ++ tried ∷ []
    → Stops work c why histories given_up files
stops_given_up ways work c goal passed why histories given_up tried opened files next same come
    is_open left all all_given =
    record {
      behind = record {
        more = [];
        all = all ∙ sym (append-nil c.histories);
        given = tried ∷ [];
        all_given = all_given;
      };
      shows = shows why
          (not_begun_counts (dir_of_job work goal) left.left files why left.not_begun).0;
      over = stops_for work (tried ∷ []) c.progress goal c.files files why next
          (not_begun_stops ways work (tried ∷ []) tried (dir_of_job work goal) c.files opened
          left.left files why is_open left.left_open left.not_begun
          (own_trial work c.progress.last goal left.desk.job (dir_of_job work goal) (Some tried)
          refl left.was_tried));
      counted = given_up_counts (dir_of_job work goal) c.files opened left.left files tried why
          is_open left.left_open left.counted left.not_begun;
    }
  where
    gone : IsCutShort work c.progress.actions histories given_up
    gone = (
      c.progress,
      refl,
      inr (inl (record {
        given_before = c.given_up;
        tried = tried;
        all_given = all_given;
        come = subst (λ hs. HasCome work (first_progress work) hs c.given_up c.progress) (sym all)
            come;
        goal = goal;
        next = next;
        graph = left.desk.job.graph;
        cut = subst (λ k. IsCut work k (goal_node work goal) left.desk.job.graph) same
            left.begins.cut;
        was_tried = tried_so work c.progress goal left.desk.job tried left.begins.goal_is
            left.was_tried;
      })),
    )

    shows : (why : OrMemory JobFault) → IsOfRenewal why
        → ShowsStop work c.progress.actions why histories given_up
    shows (Fault (faults.Aborted abort)) is = absurd is
    shows (Fault (faults.Exists path)) is = absurd is
    shows (Fault (faults.Device path)) is = inl gone
    shows OutOfMemory is = inl gone

-- ---- contexts that go on

pub goes_on : (work : WorkData) (c d e : ContextData) → GoesOn work c d → GoesOn work d e
    → GoesOn work c e
goes_on work c d e h k =
    record {
      actions = k.actions ∙ h.actions;
      more = h.more ++ k.more;
      all = k.all ∙ ap (λ hs. hs ++ k.more) h.all ∙ append_assoc c.histories h.more k.more;
      given = h.given ++ k.given;
      all_given = k.all_given ∙ ap (λ gs. gs ++ k.given) h.all_given
          ∙ append_assoc c.given_up h.given k.given;
      come = gone.come;
      left = gone.left;
      files = k.files ∙ h.files;
    }
  where
    gone : HaveGone work c.progress (h.more ++ k.more) (h.given ++ k.given) e.progress c.files
        e.files
    gone =
        gone_then work c.progress d.progress e.progress h.more h.given k.more k.given c.files
        d.files e.files (record { come = h.come; left = h.left })
        (record { come = k.come; left = k.left })

pub stays : (work : WorkData) (c : ContextData) → GoesOn work c c
stays work c =
    record {
      actions = refl;
      more = [];
      all = sym (append-nil c.histories);
      given = [];
      all_given = sym (append-nil c.given_up);
      come = (refl, refl);
      left = refl;
      files = refl;
    }

-- what stands behind more jobs stands behind these too
abbrev stand_behind : (work : WorkData) (c d : ContextData) (histories given_up : List JobHistory)
    → GoesOn work c d → StandBehind d histories given_up → StandBehind c histories given_up
stand_behind work c d histories given_up on stand =
    record {
      more = on.more ++ stand.more;
      all = stand.all ∙ ap (λ hs. hs ++ stand.more) on.all
          ∙ append_assoc c.histories on.more stand.more;
      given = on.given ++ stand.given;
      all_given = stand.all_given ∙ ap (λ gs. gs ++ stand.given) on.all_given
          ∙ append_assoc c.given_up on.given stand.given;
    }

-- and what stops there stops here
pub stops_behind : (work : WorkData) (c d : ContextData) (why : OrMemory JobFault)
    (histories given_up : List JobHistory) (files : FilesState) → GoesOn work c d
    → Stops work d why histories given_up files → Stops work c why histories given_up files
stops_behind work c d why histories given_up files on stops =
    record {
      behind = stand_behind work c d histories given_up on stops.behind;
      shows = subst (λ k. ShowsStop work k why histories given_up) on.actions stops.shows;
      over = stops_more work on.given stops.behind.given
          (dir_of_job work (goals.Action c.progress.actions)) c.files files why
          (subst (λ f. StopsFiles work stops.behind.given c.progress.actions f files why) on.files
          (subst (λ k. StopsFiles work stops.behind.given k d.files files why) on.actions
          stops.over));
      counted = counts_behind on.more on.given stops.behind.more stops.behind.given why c.files
          d.files files
          (left_counts work c.progress d.progress on.more on.given c.files d.files on.come on.left)
          stops.counted;
    }

-- what the next action gave it gave behind fewer jobs too
pub gives_behind : (work : WorkData) (c d after : ContextData) (value : Evaluated)
    → GoesOn work c d → GivesNext work d value after → GivesNext work c value after
gives_behind work c d after value on gives =
    record {
      evaluates = subst (λ k. Evaluates work (goal_action work (goals.Action k)) value) on.actions
          gives.evaluates;
      one_more = gives.one_more ∙ ap (λ n. n + 1) on.actions;
      more = on.more ++ gives.more;
      all = gives.all ∙ ap (λ hs. hs ++ gives.more) on.all
          ∙ append_assoc c.histories on.more gives.more;
      given = on.given ++ gives.given;
      all_given = gives.all_given ∙ ap (λ gs. gs ++ gives.given) on.all_given
          ∙ append_assoc c.given_up on.given gives.given;
      come = gone.come;
      left = gone.left;
    }
  where
    gone : HaveGone work c.progress (on.more ++ gives.more) (on.given ++ gives.given)
        after.progress c.files after.files
    gone =
        gone_then work c.progress d.progress after.progress on.more on.given gives.more
        gives.given c.files d.files after.files (record { come = on.come; left = on.left })
        (record { come = gives.come; left = gives.left })
