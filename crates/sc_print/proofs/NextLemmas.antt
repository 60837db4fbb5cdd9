-- How the next action ends: printed, or with what ends the running.
use Rattle.std.proofs.Common.{◌≡◌, ◌∙◌, inl, inr, ℕ, ◌<◌, List, [], length, subst, sym, ap, refl, rules, Some}
use Rattle.std.specs.Prelude.{slice_get, Ok, Err}
use Rattle.sc_base.specs.Outside.{FilesState, SinkState}
use Rattle.sc_base.specs.declared.refusals.OrMemory.{OrMemory}
use Rattle.sc_base.specs.declared.refusals.OrMemory.TheVariants.{Fault, OutOfMemory}
use Rattle.sc_lineage.specs.Actions.{text_of_outcome}
use Rattle.sc_lineage.specs.ScriptData.{WorkData, collect_action}
use Rattle.sc_compute.specs.declared.evaluation.Evaluated.{Evaluated}
use Rattle.sc_compute.specs.declared.evaluation.Evaluated.TheVariants as evaluated
use Rattle.sc_core.specs.declared.journals.JobHistory.{JobHistory}
use Rattle.sc_jobs.specs.JobData.{goal_action}
use Rattle.sc_jobs.specs.declared.goals.Goal.TheVariants as goals
use Rattle.sc_context.specs.Contexts.{ContextData, GivesNext, Stops}
use Rattle.sc_context.specs.declared.stops.JobFault.{JobFault}
use Rattle.sc_context.specs.declared.stops.JobFault.TheVariants as faults
use Rattle.sc_print.specs.declared.faults.PrintFault.{PrintFault}
use Rattle.sc_print.specs.declared.faults.PrintFault.TheVariants.{Aborted, Device, Driver, Exists, Write}
use Rattle.sc_print.specs.Printing.{GoesOneFurther, PrintsNext, StopsNext, WritesValue, fault_of}
use Rattle.sc_print.proofs.PrintLemmas.{slice_get-at, with_more-none}

-- where a context ran no further the running ends, and the sink stays as it is
pub context-stops : (work : WorkData) (state : SinkState) (c : ContextData) (number : ℕ)
    → number ≡ c.progress.actions → (why : OrMemory JobFault)
    (histories given_up : List JobHistory) (files : FilesState)
    → Stops work c why histories given_up files
    → StopsNext work state state c files (fault_of number why) histories given_up
context-stops work state c number same (Fault (faults.Aborted abort)) histories given_up files
    stops =
    (same, refl, stops)
context-stops work state c number same (Fault (faults.Exists path)) histories given_up files stops =
    (same, refl, stops)
context-stops work state c number same (Fault (faults.Device path)) histories given_up files stops =
    (same, refl, stops)
context-stops work state c number same OutOfMemory histories given_up files stops =
    (refl, inl stops)

module _ (work : WorkData) (before after : SinkState) (c next : ContextData)
    (within : c.progress.actions < length work.script.actions)
    (number : ℕ) (same : number ≡ c.progress.actions)
  where
    -- the next action is there
    there : slice_get work.script.actions c.progress.actions
        ≡ Some (goal_action work (goals.Action c.progress.actions))
    there = slice_get-at work.script.actions c.progress.actions (collect_action 0) within

    -- it is printed
    pub next-printed : (value : Evaluated) → GivesNext work c value next → (done : Unit {0})
        → WritesValue number value before after (Ok done) → PrintsNext work before after c next
    next-printed (evaluated.Prints text) gives done writes =
        record {
          text = text;
          action = goal_action work (goals.Action c.progress.actions);
          is_action = there;
          prints_so = ap text_of_outcome gives.evaluates;
          printed = writes;
          one_more = gives.one_more;
          more = gives.more;
          all = gives.all;
          given = gives.given;
          all_given = gives.all_given;
          come = gives.come;
          left = gives.left;
        }
    next-printed evaluated.Saves gives done writes =
        record {
          text = [];
          action = goal_action work (goals.Action c.progress.actions);
          is_action = there;
          prints_so = ap text_of_outcome gives.evaluates.2;
          printed = record {
            pieces = ap (λ (s : SinkState). s.pieces) writes.1
                ∙ sym (with_more-none before.pieces);
            quiet = ap (λ (s : SinkState). s.faults) writes.1;
          };
          one_more = gives.one_more;
          more = gives.more;
          all = gives.all;
          given = gives.given;
          all_given = gives.all_given;
          come = gives.come;
          left = gives.left;
        }
    next-printed (evaluated.Faults fault) gives done writes = absurd (search (rules, writes.0))
    next-printed (evaluated.Never p) gives done writes = absurd writes

    -- its jobs are done
    further : (value : Evaluated) → GivesNext work c value next
        → GoesOneFurther work c next.histories next.given_up next.files
    further value gives =
        record {
          next = next.progress;
          one_more = gives.one_more;
          more = gives.more;
          all = gives.all;
          given = gives.given;
          all_given = gives.all_given;
          come = gives.come;
          left = gives.left;
        }

    -- and the running ends at it
    pub next-stops : (value : Evaluated) → GivesNext work c value next
        → (histories given_up : List JobHistory) (files : FilesState)
        → histories ≡ next.histories → given_up ≡ next.given_up → files ≡ next.files
        → (why : OrMemory PrintFault)
        → WritesValue number value before after (Err why)
        → StopsNext work before after c files why histories given_up
    next-stops value gives histories given_up files as_there given_there still why writes =
        subst (λ hs. StopsNext work before after c files why hs given_up) (sym as_there)
        (subst (λ gs. StopsNext work before after c files why next.histories gs)
        (sym given_there)
        (subst (λ f. StopsNext work before after c f why next.histories next.given_up)
        (sym still) (by value gives why writes)))
      where
        by : (value : Evaluated) → GivesNext work c value next → (why : OrMemory PrintFault)
            → WritesValue number value before after (Err why)
            → StopsNext work before after c next.files why next.histories next.given_up
        by (evaluated.Prints text) gives (Fault (Aborted k abort)) writes = absurd writes
        by (evaluated.Prints text) gives (Fault (Exists k path)) writes = absurd writes
        by (evaluated.Prints text) gives (Fault (Device k path)) writes = absurd writes
        by (evaluated.Prints text) gives (Fault (Driver k fault)) writes = absurd writes
        by (evaluated.Prints text) gives (Fault Write) writes = (
          further (evaluated.Prints text) gives,
          (
            text,
            goal_action work (goals.Action c.progress.actions),
            there,
            gives.evaluates,
            writes,
          ),
        )
        by (evaluated.Prints text) gives OutOfMemory writes =
            (writes, inr (further (evaluated.Prints text) gives))
        by evaluated.Saves gives why writes = absurd (search (rules, writes.0))
        by (evaluated.Faults fault) gives why writes =
            let e : why ≡ Fault (Driver number fault) = search (rules, writes.0) in
            subst (λ w. StopsNext work before after c next.files w next.histories next.given_up)
            (sym e) (
              same,
              writes.1,
              further (evaluated.Faults fault) gives,
              (goal_action work (goals.Action c.progress.actions), there, gives.evaluates),
            )
        by (evaluated.Never p) gives why writes = absurd writes
