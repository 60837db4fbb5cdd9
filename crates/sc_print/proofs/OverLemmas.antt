-- How the files stand once jobs are done, and where the running ends.
use Rattle.std.proofs.Common.{◌≡◌, inl, inr, ℕ, ◌+◌, List, [], ◌++◌, subst, sym, refl, Option, Some, None}
use Rattle.std.specs.Prelude.{Result, Ok, Err}
use Rattle.sc_base.specs.Outside.{FilesState, IsLaterFiles, SinkState}
use Rattle.sc_base.specs.Trees.{Path}
use Rattle.sc_base.specs.declared.refusals.OrMemory.{OrMemory}
use Rattle.sc_base.specs.declared.refusals.OrMemory.TheVariants.{Fault, OutOfMemory}
use Rattle.sc_lineage.specs.Saves.{SavesAreLawful}
use Rattle.sc_lineage.specs.ScriptData.{WorkData}
use Rattle.sc_output.proofs.CallLemmas.{later-then}
use Rattle.sc_core.specs.declared.journals.JobHistory.{JobHistory}
use Rattle.sc_jobs.specs.declared.goals.Goal.TheVariants as goals
use Rattle.sc_desk.specs.Files.{dir_of_job}
use Rattle.sc_context.specs.Contexts.{ContextData, Stops, new_context}
use Rattle.sc_context.specs.Files.{HaveLeft, StopsIn}
use Rattle.sc_context.specs.Histories.{HasCome}
use Rattle.sc_context.specs.Progress.{Progress, first_progress}
use Rattle.sc_context.specs.declared.stops.JobFault.{JobFault}
use Rattle.sc_context.proofs.FilesLemmas.{HaveGone, gone_then}
use Rattle.sc_print.specs.declared.faults.PrintFault.{PrintFault}
use Rattle.sc_print.specs.declared.faults.PrintFault.TheVariants.{Aborted, Device, Driver, Exists, Write}
use Rattle.sc_print.specs.Printing.{EndsOver, GoesOneFurther, HasDoneOver, Prints, PrintsNext}
use Rattle.sc_print.proofs.SavedLemmas.{later-same, left-later, left-saved}

-- jobs that were done one behind the other from the first on
pub done_over : (laws : SavesAreLawful) (work : WorkData) (histories given_up : List JobHistory)
    (p : Progress) (before after : FilesState)
    → HaveGone work (first_progress work) histories given_up p before after
    → HasDoneOver work before after histories given_up p.actions
done_over laws work histories given_up p before after gone =
    record {
      progress = p;
      come = gone.come;
      at = refl;
      left = gone.left;
      later = left-later work histories given_up (first_progress work) p gone.come before after
          gone.left;
      saved = λ opening shown apart.
          left-saved laws work opening apart histories given_up (first_progress work) p gone.come
          before after gone.left shown;
    }

-- no job was done
pub none_over : (work : WorkData) (files : FilesState) → HasDoneOver work files files [] [] 0
none_over work files =
    record {
      progress = first_progress work;
      come = (refl, refl);
      at = refl;
      left = refl;
      later = later-same files;
      saved = λ opening shown apart. shown;
    }

-- nor in a context in which none has run
pub gone_first : (work : WorkData) (files : FilesState) (c : ContextData)
    → c ≡ new_context work files
    → HaveGone work (first_progress work) c.histories c.given_up c.progress files c.files
gone_first work files c new =
    subst (λ (x : ContextData). HaveGone work (first_progress work) x.histories x.given_up
    x.progress files x.files) (sym new) (record { come = (refl, refl); left = refl })

module _ (work : WorkData) (before : FilesState) (c : ContextData)
    (gone : HaveGone work (first_progress work) c.histories c.given_up c.progress before c.files)
  where
    -- those of a context, with its histories and files as they are handed back
    pub done_all : (laws : SavesAreLawful) (k : ℕ) → c.progress.actions ≡ k
        → (histories given_up : List JobHistory) (files : FilesState) → histories ≡ c.histories
        → given_up ≡ c.given_up → files ≡ c.files
        → HasDoneOver work before files histories given_up k
    done_all laws k all histories given_up files same same_given still =
        subst (λ n. HasDoneOver work before files histories given_up n) all
        (done_over laws work histories given_up c.progress before files
        (subst (λ f. HaveGone work (first_progress work) histories given_up c.progress before f)
        (sym still)
        (subst (λ gs. HaveGone work (first_progress work) histories gs c.progress before c.files)
        (sym same_given)
        (subst (λ hs. HaveGone work (first_progress work) hs c.given_up c.progress before c.files)
        (sym same) gone))))

    -- more jobs were done behind those of a context
    gone_more : (histories given_up more given : List JobHistory) (q : Progress)
        (files : FilesState) → histories ≡ c.histories ++ more → given_up ≡ c.given_up ++ given
        → (come : HasCome work c.progress more given q)
        → HaveLeft work c.progress more given q come c.files files
        → HaveGone work (first_progress work) histories given_up q before files
    gone_more histories given_up more given q files all all_given come left =
        subst (λ gs. HaveGone work (first_progress work) histories gs q before files)
        (sym all_given)
        (subst (λ hs. HaveGone work (first_progress work) hs (c.given_up ++ given) q before files)
        (sym all)
        (gone_then work (first_progress work) c.progress q c.histories c.given_up more given before
        c.files files gone (record { come = come; left = left })))

    -- those of the next action, which was printed
    pub gone_printed : (state then : SinkState) (next : ContextData)
        → PrintsNext work state then c next
        → HaveGone work (first_progress work) next.histories next.given_up next.progress before
        next.files
    gone_printed state then next one =
        gone_more next.histories next.given_up one.more one.given next.progress next.files one.all
        one.all_given one.come one.left

    -- those of the next action
    pub gone_further : (histories given_up : List JobHistory) (files : FilesState)
        → (goes : GoesOneFurther work c histories given_up files)
        → HaveGone work (first_progress work) histories given_up goes.next before files
    gone_further histories given_up files goes =
        gone_more histories given_up goes.more goes.given goes.next files goes.all goes.all_given
        goes.come goes.left

    pub done_further : (laws : SavesAreLawful) (histories given_up : List JobHistory)
        (files : FilesState) → GoesOneFurther work c histories given_up files
        → HasDoneOver work before files histories given_up (c.progress.actions + 1)
    done_further laws histories given_up files goes =
        subst (λ k. HasDoneOver work before files histories given_up k) goes.one_more
        (done_over laws work histories given_up goes.next before files
        (gone_further histories given_up files goes))

    -- the next action came to no end
    pub stopped_over : (laws : SavesAreLawful) (why : OrMemory JobFault)
        (histories given_up : List JobHistory) (files : FilesState)
        → Stops work c why histories given_up files
        → EndsOver work before files histories given_up c.progress.actions why
    stopped_over laws why histories given_up files stops =
        record {
          front = c.histories;
          given_front = c.given_up;
          mid = c.files;
          done = done_over laws work c.histories c.given_up c.progress before c.files gone;
          more = stops.behind.more;
          all = stops.behind.all;
          given = stops.behind.given;
          all_given = stops.behind.all_given;
          over = stops.over;
          counted = stops.counted;
        }

-- ---- files go on

-- a job that came to no end leaves later files
stops-later : (work : WorkData) (given : List JobHistory) (dir : Option Path)
    (before after : FilesState) (why : OrMemory JobFault)
    → StopsIn work given dir before after why → IsLaterFiles before after
stops-later work given None before after why stops =
    subst (λ s. IsLaterFiles before s) (sym stops.0) (later-same before)
stops-later work given (Some dir) before after why (inl stops) =
    subst (λ s. IsLaterFiles before s) (sym stops.0) (later-same before)
stops-later work given (Some dir) before after why (inr stops) = stops.0

ends-later : (work : WorkData) (before after : FilesState)
    (histories given_up : List JobHistory) (k : ℕ) (why : OrMemory JobFault)
    → EndsOver work before after histories given_up k why → IsLaterFiles before after
ends-later work before after histories given_up k why ends =
    later-then before ends.mid after ends.done.later
    (stops-later work ends.given (dir_of_job work (goals.Action k)) ends.mid after why ends.over)

-- however the running ends, it leaves later files
pub prints-later : (work : WorkData) (start now : SinkState) (before after : FilesState)
    (end : Result (Unit {0}) (OrMemory PrintFault)) (histories given_up : List JobHistory)
    → Prints work start now before after end histories given_up → IsLaterFiles before after
prints-later work start now before after (Ok done) histories given_up x = x.1.later
prints-later work start now before after (Err (Fault (Aborted k abort))) histories given_up x =
    ends-later work before after histories given_up k _ x.2
prints-later work start now before after (Err (Fault (Exists k path))) histories given_up x =
    ends-later work before after histories given_up k _ x.2
prints-later work start now before after (Err (Fault (Device k path))) histories given_up x =
    ends-later work before after histories given_up k _ x.2
prints-later work start now before after (Err (Fault (Driver k fault))) histories given_up x =
    x.1.later
prints-later work start now before after (Err (Fault Write)) histories given_up x = x.1.later
prints-later work start now before after (Err OutOfMemory) histories given_up x =
    ends-later work before after histories given_up x.actions OutOfMemory x.over
