-- The reading of the plan ends a run.
use Rattle.std.proofs.Common.{◌≡◌, ◌∙◌, ℕ, List, [], ◌∷◌, ◌++◌, subst, sym, ap, refl, Option, Some, None, inl, inr}
use Rattle.std.specs.Prelude.{Err}
use Rattle.sc_base.specs.Outside.{Files, FilesState, SourceState, SinkState, HasAsked, IsLaterSource, IsQuietSource, outside_of}
use Rattle.sc_base.specs.declared.refusals.OrMemory.{OrMemory}
use Rattle.sc_base.specs.declared.refusals.OrMemory.TheVariants as refusals
use Rattle.sc_core.specs.declared.journals.JobHistory.{JobHistory}
use Rattle.sc_lineage.specs.ScriptData.{ScriptData}
use Rattle.sc_read.specs.declared.reads.Read.{Read}
use Rattle.sc_read.specs.declared.stops.PlanStop.{PlanStop}
use Rattle.sc_read.specs.declared.stops.PlanStop.TheVariants as plan_stops
use Rattle.sc_read.specs.Files.{MissesFile}
use Rattle.sc_read.specs.Plans.{TakesAsNamedPlan, TakesAsPlan}
use Rattle.sc_read.specs.Reads.{IsShown, names_of_reads, plan_read}
use Rattle.sc_read.specs.Scripts.{TakesScript}
use Rattle.sc_read.proofs.ReadLemmas.{asked-more, quiet-more, unreadable-since}
use Rattle.sc_script.specs.Scripts.{ReadsScript}
use Rattle.sc_app.specs.declared.ran.Status.{Status}
use Rattle.sc_app.specs.declared.ran.Status.TheVariants as statuses
use Rattle.sc_app.specs.Ends.{NothingRan}
use Rattle.sc_app.specs.Handed.{IsRun}
use Rattle.sc_app.specs.Runs.{RunData, AreReads, AsksOnce, name_missed, run_of}
use Rattle.sc_app.specs.Statuses.{is_missing, status_of_plan}
use Rattle.sc_words.specs.Words.{command_of}
use Rattle.sc_words.specs.declared.commands.Command.{Command}
use Rattle.sc_app.proofs.AskedLemmas.{told_cause, usage-none, asks}

module _ (words : List (List ℕ)) (command : Command)
    (is_command : command_of words ≡ Some command) (history given_up : List JobHistory)
    (none_ran : NothingRan history given_up) where
  abbrev name : List ℕ
  name = command.script

  abbrev plan_name : Option (List ℕ)
  plan_name = command.plan

  -- the script was read and has no fault
  module _ (start mid : SourceState) (was : IsLaterSource start mid) (first : List Read)
      (bytes : List ℕ) (taken : TakesScript start mid name [] first bytes) (script : ScriptData)
      (is_script : ReadsScript bytes script) where
    -- the script alone was read
    alone : (run : RunData) → run.words ≡ words → run.before.source ≡ start
        → run.reads ≡ first → AreReads run
    alone run same source e =
        inr (record {
          command = command;
          taken = record { script = bytes; plan = None; inputs = [] };
          is_command = ap command_of same ∙ is_command;
          is = e ∙ taken.kept;
          are_shown = rw source taken.file.shown;
          plan_shown = tt;
          of_script = inr (script, is_script, inl refl);
        })

    -- the script and the plan were read
    with_plan : (run : RunData) (named plan_bytes : List ℕ) → run.words ≡ words
        → run.before.source ≡ start → plan_name ≡ Some named
        → IsShown mid.shown named plan_bytes
        → run.reads ≡ first ++ plan_read plan_bytes ∷ [] → AreReads run
    with_plan run named plan_bytes same source is_named shown e =
        inr (record {
          command = command;
          taken = record { script = bytes; plan = Some plan_bytes; inputs = [] };
          is_command = ap command_of same ∙ is_command;
          is = e ∙ ap (λ (rs : List Read). rs ++ plan_read plan_bytes ∷ []) taken.kept;
          are_shown = rw source taken.file.shown;
          plan_shown = rw (source, is_named)
              (subst (λ (s : Option Files). IsShown s named plan_bytes) was.shown shown);
          of_script = inr (script, is_script, inl refl);
        })

    -- the script was asked for, and the plan, which was kept
    asked_both : (run : RunData) (status : Status) (named plan_bytes : List ℕ) → run.words ≡ words
        → run.before.source ≡ start → plan_name ≡ Some named → name_missed status ≡ []
        → HasAsked mid run.after.source (named ∷ [])
        → run.reads ≡ first ++ plan_read plan_bytes ∷ [] → AsksOnce run status
    asked_both run status named plan_bytes same source is_named none were e =
        asks words command is_command run status (name ∷ named ∷ []) same
        (rw source (asked-more start mid run.after.source (name ∷ []) (named ∷ []) taken.file.asked
        were))
        (rw (e, taken.kept, is_named, none) refl)

    -- the reading of a plan of this name stops the run
    named-stops : (after : SourceState) (sink : SinkState) (files : FilesState)
        (more : List Read) (stop : OrMemory PlanStop) (named : List ℕ) → plan_name ≡ Some named
        → TakesAsNamedPlan mid after named command.limits.executors first more (Err stop)
        → IsRun (run_of words more (outside_of start sink) (outside_of after sink) files files)
        history given_up (status_of_plan stop)
    named-stops after sink files more (refusals.Fault (plan_stops.Faulty fault)) named is_named x =
        let run = run_of words more (outside_of start sink) (outside_of after sink) files files in
        record {
          reads = with_plan run named x.0 refl refl is_named x.1.file.shown x.1.kept;
          asked = asked_both run (statuses.Plan fault) named x.0 refl refl is_named refl
              x.1.file.asked x.1.kept;
          ends = record {
            command = command;
            bytes = bytes;
            script = script;
            plan_bytes = x.0;
            is_command = is_command;
            is = x.1.kept ∙ ap (λ (rs : List Read). rs ++ plan_read x.0 ∷ []) taken.kept;
            is_script = is_script;
            faults = x.2;
            quiet = quiet-more start mid after taken.file.quiet x.1.file.quiet;
            nothing_written = (refl, refl);
            nothing_ran = none_ran;
          };
          jobs = λ e. absurd cc;
          usage = usage-none (statuses.Plan fault) words command is_command (λ e. cc);
        }
    named-stops after sink files more (refusals.Fault (plan_stops.Unreadable n why)) named is_named
        x =
        let run = run_of words more (outside_of start sink) (outside_of after sink) files files in
        let status = statuses.Input n (is_missing why) in
        let is_next : plan_name ≡ Some n = is_named ∙ ap Some (sym x.0) in
        let missed = subst (λ m. MissesFile mid after m why) (sym x.0) x.2 in
        record {
          reads = alone run refl refl x.1;
          asked = asks words command is_command run status (name ∷ n ∷ []) refl
              (asked-more start mid after (name ∷ []) (n ∷ []) taken.file.asked missed.asked)
              (ap (λ rs. names_of_reads name plan_name rs ++ n ∷ []) (sym (x.1 ∙ taken.kept)));
          ends = record {
            is_next = inr (inl (record {
              command = command;
              bytes = bytes;
              script = script;
              is_command = is_command;
              is = x.1 ∙ taken.kept;
              is_script = is_script;
              named = is_next;
            }));
            cause = told_cause start after n why
                (unreadable-since script start first mid after n why was taken.file.quiet
                missed.cause);
            nothing_written = (refl, refl);
            nothing_ran = none_ran;
          };
          jobs = λ e. absurd cc;
          usage = usage-none status words command is_command (λ e. cc);
        }
    named-stops after sink files more refusals.OutOfMemory named is_named (inl x) =
        let run = run_of words more (outside_of start sink) (outside_of after sink) files files in
        record {
          reads = alone run refl refl x.0;
          asked = asks words command is_command run statuses.OutOfMemory (name ∷ []) refl
              (subst (λ s. HasAsked start s (name ∷ [])) (sym x.1) taken.file.asked)
              (ap (λ rs. names_of_reads name plan_name rs ++ []) (sym (x.0 ∙ taken.kept)));
          ends = record {
            quiet = subst (λ s. IsQuietSource start s) (sym x.1) taken.file.quiet;
            stands = inl ((refl, refl), none_ran);
          };
          jobs = λ e. absurd cc;
          usage = usage-none statuses.OutOfMemory words command is_command (λ e. cc);
        }
    named-stops after sink files more refusals.OutOfMemory named is_named (inr x) =
        let run = run_of words more (outside_of start sink) (outside_of after sink) files files in
        record {
          reads = with_plan run named x.0 refl refl is_named x.1.file.shown x.1.kept;
          asked = asked_both run statuses.OutOfMemory named x.0 refl refl is_named refl
              x.1.file.asked x.1.kept;
          ends = record {
            quiet = quiet-more start mid after taken.file.quiet x.1.file.quiet;
            stands = inl ((refl, refl), none_ran);
          };
          jobs = λ e. absurd cc;
          usage = usage-none statuses.OutOfMemory words command is_command (λ e. cc);
        }

    -- the reading of the plan stops the run
    pub plan-stops : (after : SourceState) (sink : SinkState) (files : FilesState)
        (more : List Read) (stop : OrMemory PlanStop)
        → TakesAsPlan mid after plan_name command.limits.executors first more (Err stop)
        → IsRun (run_of words more (outside_of start sink) (outside_of after sink) files files)
        history given_up (status_of_plan stop)
    plan-stops after sink files more stop x = by_name plan_name refl x
      where
        by_name : (named : Option (List ℕ)) → plan_name ≡ named
            → TakesAsPlan mid after named command.limits.executors first more (Err stop)
            → IsRun (run_of words more (outside_of start sink) (outside_of after sink) files files)
            history given_up (status_of_plan stop)
        by_name None is y = absurd y
        by_name (Some n) is y = named-stops after sink files more stop n is y
