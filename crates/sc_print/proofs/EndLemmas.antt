-- How the running ends, and what the histories and the files then show.
use Rattle.std.proofs.Common.{◌≡◌, ◌∙◌, inl, inr, ℕ, ◌+◌, ◌≤◌, List, [], ◌∷◌, length, take, subst, sym, ap, refl, arith}
use Rattle.std.specs.Prelude.{Ok, Err}
use Rattle.std.proofs.lemmas.List.{append-nil}
use Rattle.sc_base.specs.Counts.{Rose}
use Rattle.sc_base.specs.Outside.{FilesState, SinkState, with_more}
use Rattle.sc_base.specs.declared.refusals.OrMemory.{OrMemory}
use Rattle.sc_base.specs.declared.refusals.OrMemory.TheVariants.{Fault, OutOfMemory}
use Rattle.sc_lineage.specs.Actions.{texts_by}
use Rattle.sc_lineage.specs.Saves.{SavesAreLawful}
use Rattle.sc_lineage.specs.ScriptData.{WorkData}
use Rattle.sc_core.specs.declared.journals.JobHistory.{JobHistory}
use Rattle.sc_jobs.specs.declared.goals.Goal.TheVariants as goals
use Rattle.sc_desk.specs.Files.{dir_of_job}
use Rattle.sc_context.specs.Aborts.{IsAborted, IsHalted}
use Rattle.sc_context.specs.Contexts.{ContextData}
use Rattle.sc_context.specs.Histories.{HasDone}
use Rattle.sc_context.specs.Progress.{first_progress}
use Rattle.sc_context.specs.declared.stops.JobFault.TheVariants as faults
use Rattle.sc_context.proofs.CountingLemmas.{still_counts}
use Rattle.sc_context.proofs.FilesLemmas.{HaveGone, unchanged_stops}
use Rattle.sc_print.specs.declared.faults.PrintFault.{PrintFault}
use Rattle.sc_print.specs.declared.faults.PrintFault.TheVariants.{Aborted, Device, Driver, Exists, Write}
use Rattle.sc_print.specs.Printing.{EndsOver, HasDoneOver, HasPrinted, Prints, StopsAtDriver, StopsNext}
use Rattle.sc_print.proofs.OverLemmas.{done_all, done_further, gone_further, none_over, stopped_over}
use Rattle.sc_print.proofs.PrintLemmas.{printed-all, printed-none, with_more-append}

-- want of memory leaves the files as they are
still-over : (work : WorkData) (before after : FilesState)
    (histories given_up : List JobHistory) (k : ℕ)
    → HasDoneOver work before after histories given_up k
    → EndsOver work before after histories given_up k OutOfMemory
still-over work before after histories given_up k done =
    record {
      front = histories;
      given_front = given_up;
      mid = after;
      done = done;
      more = [];
      all = sym (append-nil histories);
      given = [];
      all_given = sym (append-nil given_up);
      over = unchanged_stops work [] (dir_of_job work (goals.Action k)) after after OutOfMemory
          refl tt;
      counted = still_counts after after refl;
    }

-- nothing is printed, and no job has run
pub nothing_done : (work : WorkData) (state : SinkState) (before after : FilesState)
    → after ≡ before → (histories given_up : List JobHistory) → histories ≡ [] → given_up ≡ []
    → Prints work state state before after (Err OutOfMemory) histories given_up
nothing_done work state before after still histories given_up none none_given =
    subst (λ f. Prints work state state before f (Err OutOfMemory) histories given_up) (sym still)
    (subst (λ gs. Prints work state state before before (Err OutOfMemory) histories gs)
    (sym none_given)
    (subst (λ hs. Prints work state state before before (Err OutOfMemory) hs []) (sym none)
    (record {
      k = 0;
      printed = printed-none work state;
      actions = 0;
      printed_all = omega arith;
      but_one = omega arith;
      jobs = inl (first_progress work, refl, inl (refl, refl));
      over = still-over work before before [] [] 0 (none_over work before);
    })))

module _ (laws : SavesAreLawful) (work : WorkData) (start now : SinkState) (before : FilesState)
    (c : ContextData) (so_far : HasPrinted work start now c.progress.actions)
    (gone : HaveGone work (first_progress work) c.histories c.given_up c.progress before c.files)
  where
    -- all is printed, and all jobs are done
    pub all_done : length work.script.actions ≤ c.progress.actions
        → c.progress.actions ≤ length work.script.actions
        → (histories given_up : List JobHistory) (files : FilesState)
        → histories ≡ c.histories → given_up ≡ c.given_up → files ≡ c.files → (done : Unit {0})
        → Prints work start now before files (Ok done) histories given_up
    all_done past within histories given_up files same same_given still done =
        let all : c.progress.actions ≡ length work.script.actions = omega (arith, past, within) in (
          printed-all work start now c.progress.actions past so_far,
          done_all work before c gone laws (length work.script.actions) all histories given_up
              files same same_given still,
        )

    -- what ends the running at the next action ends the whole
    pub printing-stops : (after : SinkState) (files : FilesState) (why : OrMemory PrintFault)
        (histories given_up : List JobHistory)
        → StopsNext work now after c files why histories given_up
        → Prints work start after before files (Err why) histories given_up
    printing-stops after files (Fault (Aborted n abort)) histories given_up x =
        subst (λ k. HasPrinted work start after k × IsAborted work k histories given_up abort
        × EndsOver work before files histories given_up k (Fault (faults.Aborted abort)))
        (sym x.0) (
          subst (λ s. HasPrinted work start s c.progress.actions) (sym x.1) so_far,
          x.2.shows,
          stopped_over work before c gone laws (Fault (faults.Aborted abort)) histories given_up
              files x.2,
        )
    printing-stops after files (Fault (Exists n path)) histories given_up x =
        subst (λ k. HasPrinted work start after k × HasDone work histories given_up k
        × EndsOver work before files histories given_up k (Fault (faults.Exists path))) (sym x.0) (
          subst (λ s. HasPrinted work start s c.progress.actions) (sym x.1) so_far,
          x.2.shows,
          stopped_over work before c gone laws (Fault (faults.Exists path)) histories given_up
              files x.2,
        )
    printing-stops after files (Fault (Device n path)) histories given_up x =
        subst (λ k. HasPrinted work start after k × IsHalted work k histories given_up
        × EndsOver work before files histories given_up k (Fault (faults.Device path))) (sym x.0) (
          subst (λ s. HasPrinted work start s c.progress.actions) (sym x.1) so_far,
          x.2.shows,
          stopped_over work before c gone laws (Fault (faults.Device path)) histories given_up
              files x.2,
        )
    printing-stops after files (Fault (Driver n fault)) histories given_up x =
        subst (λ k. StopsAtDriver work start after k fault
        × HasDoneOver work before files histories given_up (k + 1)) (sym x.0) (
          record {
            action = x.3.0;
            is_action = x.3.1;
            faults_so = x.3.2;
            printed = subst (λ s. HasPrinted work start s c.progress.actions) (sym x.1) so_far;
          },
          done_further work before c gone laws histories given_up files x.2,
        )
    printing-stops after files (Fault Write) histories given_up x = (
      record {
        k = c.progress.actions;
        action = x.1.1;
        is_action = x.1.2;
        texts = so_far.texts;
        printed = x.1.0;
        prints_so = x.1.3;
        not_empty = x.1.4.not_empty;
        n = x.1.4.n;
        pieces = x.1.4.pieces
            ∙ ap (λ s. with_more s (take x.1.4.n x.1.0 ∷ [])) so_far.pieces
            ∙ with_more-append start.pieces (texts_by work c.progress.actions)
            (take x.1.4.n x.1.0 ∷ []);
        rose = subst (λ n. Rose n after.faults) so_far.quiet x.1.4.rose;
      },
      done_further work before c gone laws histories given_up files x.0,
    )
    printing-stops after files OutOfMemory histories given_up (same, inl stops) =
        record {
          k = c.progress.actions;
          printed = subst (λ s. HasPrinted work start s c.progress.actions) (sym same) so_far;
          actions = c.progress.actions;
          printed_all = omega arith;
          but_one = omega arith;
          jobs = stops.shows;
          over = stopped_over work before c gone laws OutOfMemory histories given_up files stops;
        }
    printing-stops after files OutOfMemory histories given_up (same, inr goes) =
        record {
          k = c.progress.actions;
          printed = subst (λ s. HasPrinted work start s c.progress.actions) (sym same) so_far;
          actions = c.progress.actions + 1;
          printed_all = omega arith;
          but_one = omega arith;
          jobs = inl (
            goes.next,
            goes.one_more,
            inl (gone_further work before c gone histories given_up files goes).come,
          );
          over = still-over work before files histories given_up (c.progress.actions + 1)
              (done_further work before c gone laws histories given_up files goes);
        }
