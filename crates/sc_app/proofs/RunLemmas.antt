-- How a run ends behind its script and its plan, from how its parts did, or before them.
use Rattle.std.proofs.Common.{append_assoc, ◌≡◌, ◌∙◌, ℕ, List, [], ◌∷◌, ◌++◌, length, map, subst, sym, ap, refl, Option, Some, inl, inr}
use Rattle.std.specs.Prelude.{Err}
use Rattle.std.specs.Option.{option_map}
use Rattle.std.proofs.lemmas.List.{append-nil}
use Rattle.sc_base.specs.Outside.{Files, FilesState, SourceState, SinkState, HasAsked, IsQuietSource, outside_of}
use Rattle.sc_base.specs.declared.refusals.OrMemory.{OrMemory}
use Rattle.sc_base.specs.declared.refusals.OrMemory.TheVariants as refusals
use Rattle.sc_core.specs.declared.journals.JobHistory.{JobHistory}
use Rattle.sc_lineage.specs.ScriptData.{ScriptData, WorkData, IsSoundWork, name_of_input}
use Rattle.sc_plan.specs.declared.lines.PlanLine.{PlanLine}
use Rattle.sc_print.specs.declared.faults.PrintFault.{PrintFault}
use Rattle.sc_print.specs.declared.faults.PrintFault.TheVariants as print_faults
use Rattle.sc_print.specs.Printing.{HasDoneOver, Prints, PrintsAll}
use Rattle.sc_read.specs.declared.reads.Read.{Read}
use Rattle.sc_read.specs.declared.stops.InputStop.{InputStop}
use Rattle.sc_read.specs.declared.stops.InputStop.TheVariants as inputs_stops
use Rattle.sc_read.specs.Inputs.{TakesAsWork, TakesInputs}
use Rattle.sc_read.specs.Reads.{AreFirstInputs, input_read, names_of_reads, reads_of}
use Rattle.sc_read.proofs.ReadLemmas.{asked-more, quiet-more, unreadable-since}
use Rattle.sc_app.specs.declared.ran.Status.{Status}
use Rattle.sc_app.specs.declared.ran.Status.TheVariants as statuses
use Rattle.sc_app.specs.Ends.{NothingRan}
use Rattle.sc_app.specs.Handed.{IsRun, RanAllJobs}
use Rattle.sc_app.specs.Promises.{Ends}
use Rattle.sc_app.specs.Runs.{RunData, AreReads, AsksOnce, HasRead, HasReadWork, name_missed, run_of}
use Rattle.sc_app.specs.Statuses.{is_missing, status_of_input, status_of_print}
use Rattle.sc_words.specs.Words.{command_of}
use Rattle.sc_words.specs.declared.commands.Command.{Command}
use Rattle.sc_app.proofs.PieceLemmas.{text-printed}
use Rattle.sc_app.proofs.AskedLemmas.{told_cause, names-behind, usage-none, asked-none, asks}
use Rattle.sc_app.proofs.BegunLemmas.{HasBegun}

module _ (words : List (List ℕ)) (command : Command)
    (is_command : command_of words ≡ Some command) where
  abbrev name : List ℕ
  name = command.script

  abbrev plan_name : Option (List ℕ)
  plan_name = command.plan

  -- the script and the plan were read
  module _ (start before : SourceState) (reads : List Read) (script : ScriptData)
      (plan : List PlanLine)
      (began : HasBegun name plan_name command.limits.executors start before reads script plan)
    where
      -- script, plan and these inputs
      behind : (inputs : Files) (more : List Read) → more ≡ reads ++ map input_read inputs
          → more ≡ reads_of
          (record { script = began.bytes; plan = began.plan_bytes; inputs = inputs })
      behind inputs more e = e ∙ ap (λ (rs : List Read). rs ++ map input_read inputs) began.kept

      has_read : (inputs : Files) (more : List Read) → more ≡ reads ++ map input_read inputs
          → HasRead words more script plan inputs
      has_read inputs more e = record {
        command = command;
        bytes = began.bytes;
        plan_bytes = began.plan_bytes;
        is_command = is_command;
        is = behind inputs more e;
        is_script = began.is_script;
        is_plan = began.is_plan;
      }

      in_order : (run : RunData) (inputs : Files) → run.words ≡ words
          → run.before.source ≡ start → run.reads ≡ reads ++ map input_read inputs
          → AreFirstInputs script before.shown inputs → AreReads run
      in_order run inputs same source e firsts =
          inr (record {
            command = command;
            taken = record { script = began.bytes; plan = began.plan_bytes; inputs = inputs };
            is_command = ap command_of same ∙ is_command;
            is = behind inputs run.reads e;
            are_shown = rw source began.is_shown;
            plan_shown = rw source began.plan_shown;
            of_script = inr (
              script,
              began.is_script,
              inr (
                plan,
                began.is_plan,
                rw source (subst (λ shown. AreFirstInputs script shown inputs) began.later.shown
                    firsts),
              ),
            );
          })

      -- script, plan and these were asked for
      asked : (run : RunData) (status : Status) (inputs : Files) (names : List (List ℕ))
          → run.words ≡ words → run.before.source ≡ start
          → run.reads ≡ reads ++ map input_read inputs
          → HasAsked before run.after.source (map name_of_input inputs ++ names)
          → names ≡ name_missed status → AsksOnce run status
      asked run status inputs names same source e were are =
          let begin = names_of_reads name plan_name reads in
          asks words command is_command run status (begin ++ (map name_of_input inputs ++ names))
          same
          (rw source (asked-more start before run.after.source begin
          (map name_of_input inputs ++ names) began.asked were))
          (sym (append_assoc begin (map name_of_input inputs) names)
          ∙ ap (λ (ns : List (List ℕ)). ns ++ names)
          (sym (names-behind name plan_name reads inputs))
          ∙ ap (λ rs. names_of_reads name plan_name rs ++ names) (sym e)
          ∙ ap (λ ns. names_of_reads name plan_name run.reads ++ ns) are)

      -- the same, where no name was asked for in vain
      asked-all : (run : RunData) (status : Status) (inputs : Files)
          → run.words ≡ words → run.before.source ≡ start
          → run.reads ≡ reads ++ map input_read inputs
          → HasAsked before run.after.source (map name_of_input inputs)
          → name_missed status ≡ [] → AsksOnce run status
      asked-all run status inputs same source e were none =
          asked run status inputs [] same source e
          (subst (λ ns. HasAsked before run.after.source ns)
          (sym (append-nil (map name_of_input inputs))) were)
          (sym none)

      -- the reading of the inputs stops the run
      pub inputs-stop : (history given_up : List JobHistory) → NothingRan history given_up
          → (after : SourceState) (sink : SinkState) (files : FilesState) (more : List Read)
          (stop : OrMemory InputStop)
          → TakesAsWork script plan command.limits before after reads more (Err stop)
          → IsRun (run_of words more (outside_of start sink) (outside_of after sink) files files)
          history given_up (status_of_input stop)
      inputs-stop history given_up none_ran after sink files more
          (refusals.Fault (inputs_stops.Unreadable n why)) x =
          let run = run_of words more (outside_of start sink) (outside_of after sink) files files in
          let status = statuses.Input n (is_missing why) in
          record {
            reads = in_order run x.inputs refl refl x.kept x.first;
            asked = asked run status x.inputs (n ∷ []) refl refl x.kept x.asked refl;
            ends = record {
              is_next = inr (inr (
                script,
                plan,
                x.inputs,
                has_read x.inputs more x.kept,
                x.is_next,
              ));
              cause = told_cause start after n why
                  (unreadable-since script start reads before after n why began.later began.quiet
                  x.cause);
              nothing_written = (refl, refl);
              nothing_ran = none_ran;
            };
            jobs = λ e. absurd cc;
            usage = usage-none status words command is_command (λ e. cc);
          }
      inputs-stop history given_up none_ran after sink files more
          (refusals.Fault (inputs_stops.NotText n)) x =
          let run = run_of words more (outside_of start sink) (outside_of after sink) files files in
          let inputs = x.inputs ++ (n, x.bytes) ∷ [] in
          record {
            reads = in_order run inputs refl refl x.taken.kept x.taken.first;
            asked = asked-all run (statuses.NotText n) inputs refl refl x.taken.kept x.taken.asked
                refl;
            ends = record {
              script = script;
              plan = plan;
              inputs = x.inputs;
              bytes = x.bytes;
              read = has_read inputs more x.taken.kept;
              is_next = x.is_next;
              no_text = x.no_text;
              quiet = quiet-more start before after began.quiet x.taken.quiet;
              nothing_written = (refl, refl);
              nothing_ran = none_ran;
            };
            jobs = λ e. absurd cc;
            usage = usage-none (statuses.NotText n) words command is_command
                (λ e. cc);
          }
      inputs-stop history given_up none_ran after sink files more refusals.OutOfMemory x =
          let run = run_of words more (outside_of start sink) (outside_of after sink) files files in
          record {
            reads = in_order run x.0 refl refl x.1.kept x.1.first;
            asked = asked-all run statuses.OutOfMemory x.0 refl refl x.1.kept x.1.asked refl;
            ends = record {
              quiet = quiet-more start before after began.quiet x.1.quiet;
              stands = inl ((refl, refl), none_ran);
            };
            jobs = λ e. absurd cc;
            usage = usage-none statuses.OutOfMemory words command is_command
                (λ e. cc);
          }

      -- all inputs were read
      module _ (after : SourceState) (more : List Read) (work : WorkData)
          (same : work.script ≡ script) (planned : work.plan ≡ plan)
          (limits : work.limits ≡ command.limits)
          (inputs : TakesInputs script before after reads more work.inputs)
          (sound : IsSoundWork work) where
        pub has_work : HasReadWork words more work
        has_work = record {
          read = subst (λ p. HasRead words more work.script p work.inputs) (sym planned)
              (subst (λ s. HasRead words more s plan work.inputs) (sym same)
              (has_read work.inputs more inputs.kept));
          sound = sound;
          limits = ap (option_map (λ (c : Command). c.limits)) is_command ∙ ap Some (sym limits);
        }

        quiet : IsQuietSource start after
        quiet = quiet-more start before after began.quiet inputs.quiet

        -- a run that read all, with how its jobs went and with what its end says
        module _ (histories given_up : List JobHistory) (sink sink' : SinkState)
            (files files' : FilesState) where
          abbrev ran : RunData
          ran = run_of words more (outside_of start sink) (outside_of after sink') files files'

          all_read : (status : Status) → name_missed status ≡ [] → (status ≡ statuses.Usage → ⊥)
              → (status ≡ statuses.Done → RanAllJobs ran histories given_up)
              → Ends ran histories given_up status → IsRun ran histories given_up status
          all_read status none other jobs ends =
              record {
                reads = in_order ran work.inputs refl refl inputs.kept inputs.first;
                asked = asked-all ran status work.inputs refl refl inputs.kept inputs.asked none;
                ends = ends;
                jobs = jobs;
                usage = usage-none status words command is_command other;
              }

          -- all actions were printed
          pub run-done : PrintsAll work sink sink'
              → HasDoneOver work files files' histories given_up (length work.script.actions)
              → IsRun ran histories given_up statuses.Done
          run-done prints jobs =
              all_read statuses.Done refl (λ e. cc) (λ e. (work, has_work, jobs)) (record {
                work = work;
                read = has_work;
                quiet = quiet;
                prints = prints;
                text = text-printed work sink sink' prints;
                saves = jobs.saved;
              })

          -- the printing stops the run
          pub printing-stops : (stop : OrMemory PrintFault)
              → Prints work sink sink' files files' (Err stop) histories given_up
              → IsRun ran histories given_up (status_of_print stop)
          printing-stops (refusals.Fault (print_faults.Aborted k abort)) x =
              all_read (statuses.Aborted abort) refl (λ e. cc) (λ e. absurd cc) (record {
                work = work;
                read = has_work;
                quiet = quiet;
                k = k;
                printed = x.0;
                aborted = x.1;
                over = x.2;
              })
          printing-stops (refusals.Fault (print_faults.Exists k path)) x =
              all_read (statuses.OutputExists path) refl (λ e. cc) (λ e. absurd cc) (record {
                work = work;
                read = has_work;
                quiet = quiet;
                k = k;
                printed = x.0;
                jobs = x.1;
                over = x.2;
              })
          printing-stops (refusals.Fault (print_faults.Device k path)) x =
              all_read (statuses.Device path) refl (λ e. cc) (λ e. absurd cc) (record {
                work = work;
                read = has_work;
                quiet = quiet;
                k = k;
                printed = x.0;
                jobs = x.1;
                over = x.2;
              })
          printing-stops (refusals.Fault (print_faults.Driver k fault)) x =
              all_read (statuses.DriverFault k fault) refl (λ e. cc) (λ e. absurd cc) (record {
                work = work;
                read = has_work;
                quiet = quiet;
                stops = x.0;
                jobs = x.1;
              })
          printing-stops (refusals.Fault print_faults.Write) x =
              all_read statuses.WriteFault refl (λ e. cc) (λ e. absurd cc) (record {
                work = work;
                read = has_work;
                quiet = quiet;
                stops = x.0;
                jobs = x.1;
              })
          printing-stops refusals.OutOfMemory x =
              all_read statuses.OutOfMemory refl (λ e. cc) (λ e. absurd cc) (record {
                quiet = quiet;
                stands = inr (record {
                  work = work;
                  read = has_work;
                  stands = x;
                });
              })

-- memory ran out before anything was read
pub no-memory : (words : List (List ℕ)) (source : SourceState) (sink : SinkState)
    (files : FilesState)
    → IsRun (run_of words [] (outside_of source sink) (outside_of source sink) files files) []
    [] statuses.OutOfMemory
no-memory words source sink files =
    record {
      reads = inl refl;
      asked = λ command e. asked-none source;
      ends = record {
        quiet = record { faults = refl; misses = refl };
        stands = inl ((refl, refl), (refl, refl));
      };
      jobs = λ e. absurd cc;
      usage = ((λ e. absurd cc), (λ r. inr refl));
    }

-- the same where it is known that nothing was read and that no job ran
pub no-memory-yet : (words : List (List ℕ)) (reads : List Read)
    (history given_up : List JobHistory) (source : SourceState) (sink : SinkState)
    (files : FilesState) → reads ≡ [] → NothingRan history given_up
    → IsRun (run_of words reads (outside_of source sink) (outside_of source sink) files files)
    history given_up statuses.OutOfMemory
no-memory-yet words reads history given_up source sink files empty none =
    subst (λ rs. IsRun
    (run_of words rs (outside_of source sink) (outside_of source sink) files files) history
    given_up statuses.OutOfMemory) (sym empty)
    (subst (λ hs. IsRun
    (run_of words [] (outside_of source sink) (outside_of source sink) files files) hs given_up
    statuses.OutOfMemory) (sym none.0)
    (subst (λ gs. IsRun
    (run_of words [] (outside_of source sink) (outside_of source sink) files files) [] gs
    statuses.OutOfMemory) (sym none.1) (no-memory words source sink files)))
