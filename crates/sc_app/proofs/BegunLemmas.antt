-- The script and the plan of a run: they were read, or the reading of the script ends the run.
use Rattle.std.proofs.Common.{◌≡◌, ◌∙◌, ℕ, List, [], ◌∷◌, ◌++◌, subst, sym, ap, refl, Option, Some, None, inl, inr}
use Rattle.std.specs.Prelude.{Ok, Err}
use Rattle.sc_base.specs.Outside.{Files, FilesState, SourceState, SinkState, HasAsked, IsLaterSource, IsQuietSource, outside_of}
use Rattle.sc_base.specs.declared.refusals.OrMemory.{OrMemory}
use Rattle.sc_base.specs.declared.refusals.OrMemory.TheVariants as refusals
use Rattle.sc_core.specs.declared.journals.JobHistory.{JobHistory}
use Rattle.sc_lineage.specs.ScriptData.{ScriptData}
use Rattle.sc_plan.specs.declared.lines.PlanLine.{PlanLine}
use Rattle.sc_plan.specs.declared.plans.Plan.{Plan}
use Rattle.sc_read.specs.declared.reads.Read.{Read}
use Rattle.sc_read.specs.declared.stops.ScriptStop.{ScriptStop}
use Rattle.sc_read.specs.declared.stops.ScriptStop.TheVariants as script_stops
use Rattle.sc_read.specs.Plans.{IsPlanOf, IsPlanShown, TakesAsPlan}
use Rattle.sc_read.specs.Reads.{IsShown, names_of_reads, plan_read, plan_reads, script_read}
use Rattle.sc_read.specs.Scripts.{TakesAsScript, TakesScript}
use Rattle.sc_read.proofs.ReadLemmas.{asked-more, later-more, quiet-more}
use Rattle.sc_script.specs.Scripts.{ReadsScript}
use Rattle.sc_app.specs.declared.ran.Status.TheVariants as statuses
use Rattle.sc_app.specs.Ends.{NothingRan}
use Rattle.sc_app.specs.Handed.{IsRun}
use Rattle.sc_app.specs.Runs.{run_of}
use Rattle.sc_app.specs.Statuses.{is_missing, status_of_script}
use Rattle.sc_words.specs.Words.{command_of}
use Rattle.sc_words.specs.declared.commands.Command.{Command}
use Rattle.sc_app.proofs.AskedLemmas.{told_cause, usage-none, asked-none, asks}

-- the script, and the plan where one is named, were read, and neither has a fault
pub record HasBegun (word : List ℕ) (named : Option (List ℕ)) (executors : ℕ)
    (before after : SourceState) (reads : List Read) (script : ScriptData) (plan : List PlanLine)
    : Type 0 where
  pub bytes : List ℕ
  pub plan_bytes : Option (List ℕ)
  pub kept : reads ≡ script_read bytes ∷ plan_reads plan_bytes
  pub asked : HasAsked before after (names_of_reads word named reads)
  pub quiet : IsQuietSource before after
  pub later : IsLaterSource before after
  pub is_shown : IsShown before.shown word bytes
  pub plan_shown : IsPlanShown before.shown named plan_bytes
  pub is_script : ReadsScript bytes script
  pub is_plan : IsPlanOf named executors plan_bytes plan

-- a script was read, and then the plan
pub begun : (word : List ℕ) (named : Option (List ℕ)) (executors : ℕ)
    (before mid after : SourceState) (first reads : List Read) (bytes : List ℕ)
    (script : ScriptData) (plan : Plan) → IsLaterSource before mid → IsLaterSource mid after
    → TakesScript before mid word [] first bytes → ReadsScript bytes script
    → TakesAsPlan mid after named executors first reads (Ok plan)
    → HasBegun word named executors before after reads script plan
begun word None executors before mid after first reads bytes script plan was next taken is_script
    x =
    let kept : reads ≡ script_read bytes ∷ [] = x.1 ∙ taken.kept in
    record {
      bytes = bytes;
      plan_bytes = None;
      kept = kept;
      asked = subst (λ s. HasAsked before s (names_of_reads word None reads)) (sym x.2)
          (subst (λ (rs : List Read). HasAsked before mid (names_of_reads word None rs)) (sym kept)
          taken.file.asked);
      quiet = subst (λ s. IsQuietSource before s) (sym x.2) taken.file.quiet;
      later = later-more before mid after was next;
      is_shown = taken.file.shown;
      plan_shown = tt;
      is_script = is_script;
      is_plan = (refl, x.0);
    }
begun word (Some name) executors before mid after first reads bytes script plan was next taken
    is_script x =
    let kept : reads ≡ script_read bytes ∷ plan_read x.0 ∷ [] =
    x.1.kept ∙ ap (λ (rs : List Read). rs ++ plan_read x.0 ∷ []) taken.kept in
    record {
      bytes = bytes;
      plan_bytes = Some x.0;
      kept = kept;
      asked = subst (λ (rs : List Read). HasAsked before after (names_of_reads word (Some name) rs))
          (sym kept)
          (asked-more before mid after (word ∷ []) (name ∷ []) taken.file.asked x.1.file.asked);
      quiet = quiet-more before mid after taken.file.quiet x.1.file.quiet;
      later = later-more before mid after was next;
      is_shown = taken.file.shown;
      plan_shown = subst (λ (shown : Option Files). IsShown shown name x.0) was.shown
          x.1.file.shown;
      is_script = is_script;
      is_plan = x.2;
    }

module _ (words : List (List ℕ)) (command : Command)
    (is_command : command_of words ≡ Some command) (history given_up : List JobHistory)
    (none_ran : NothingRan history given_up) where
  abbrev name : List ℕ
  name = command.script

  abbrev plan_name : Option (List ℕ)
  plan_name = command.plan

  -- the reading of the script stops the run
  pub script-stops : (before after : SourceState) (sink : SinkState) (files : FilesState)
      (reads : List Read) (stop : OrMemory ScriptStop)
      → TakesAsScript before after name [] reads (Err stop)
      → IsRun (run_of words reads (outside_of before sink) (outside_of after sink) files files)
      history given_up (status_of_script name stop)
  script-stops before after sink files reads (refusals.Fault (script_stops.Faulty fault)) x =
      let run = run_of words reads (outside_of before sink) (outside_of after sink) files files in
      record {
        reads = inr (record {
          command = command;
          taken = record { script = x.0; plan = None; inputs = [] };
          is_command = is_command;
          is = x.1.kept;
          are_shown = x.1.file.shown;
          plan_shown = tt;
          of_script = inl (refl, refl);
        });
        asked = asks words command is_command run (statuses.Script fault) (name ∷ []) refl
            x.1.file.asked
            (ap (λ rs. names_of_reads name plan_name rs ++ []) (sym x.1.kept));
        ends = record {
          bytes = x.0;
          is = x.1.kept;
          faults = x.2;
          quiet = x.1.file.quiet;
          nothing_written = (refl, refl);
          nothing_ran = none_ran;
        };
        jobs = λ e. absurd cc;
        usage = usage-none (statuses.Script fault) words command is_command
            (λ e. cc);
      }
  script-stops before after sink files reads (refusals.Fault (script_stops.Unreadable why)) x =
      let run = run_of words reads (outside_of before sink) (outside_of after sink) files files in
      let status = statuses.Input name (is_missing why) in
      record {
        reads = inl x.0;
        asked = asks words command is_command run status (name ∷ []) refl x.1.asked
            (ap (λ rs. names_of_reads name plan_name rs ++ name ∷ []) (sym x.0));
        ends = record {
          is_next = inl (x.0, (command, is_command, refl));
          cause = told_cause before after name why x.1.cause;
          nothing_written = (refl, refl);
          nothing_ran = none_ran;
        };
        jobs = λ e. absurd cc;
        usage = usage-none status words command is_command (λ e. cc);
      }
  script-stops before after sink files reads refusals.OutOfMemory (inl x) =
      let run = run_of words reads (outside_of before sink) (outside_of after sink) files files in
      record {
        reads = inl x.0;
        asked = asks words command is_command run statuses.OutOfMemory [] refl
            (subst (λ s. HasAsked before s []) (sym x.1) (asked-none before))
            (ap (λ rs. names_of_reads name plan_name rs ++ []) (sym x.0));
        ends = record {
          quiet = subst (λ s. IsQuietSource before s) (sym x.1)
              (record { faults = refl; misses = refl });
          stands = inl ((refl, refl), none_ran);
        };
        jobs = λ e. absurd cc;
        usage = usage-none statuses.OutOfMemory words command is_command
            (λ e. cc);
      }
  script-stops before after sink files reads refusals.OutOfMemory (inr x) =
      let run = run_of words reads (outside_of before sink) (outside_of after sink) files files in
      record {
        reads = inr (record {
          command = command;
          taken = record { script = x.0; plan = None; inputs = [] };
          is_command = is_command;
          is = x.1.kept;
          are_shown = x.1.file.shown;
          plan_shown = tt;
          of_script = inl (refl, refl);
        });
        asked = asks words command is_command run statuses.OutOfMemory (name ∷ []) refl
            x.1.file.asked
            (ap (λ rs. names_of_reads name plan_name rs ++ []) (sym x.1.kept));
        ends = record { quiet = x.1.file.quiet; stands = inl ((refl, refl), none_ran) };
        jobs = λ e. absurd cc;
        usage = usage-none statuses.OutOfMemory words command is_command
            (λ e. cc);
      }
