-- What is kept of the jobs of a run.
use Rattle.std.proofs.Common.{inl, inr, ℕ, List, [], subst, sym, Vec}
use Rattle.std.specs.declared.alloc.Global.{Global}
use Rattle.std.specs.Prelude.{All}
use Rattle.std.specs.List.{AllZip}
use Rattle.std.proofs.lemmas.List.Elements.{All-nil, All-weaker}
use Rattle.sc_core.specs.declared.journals.JobHistory.{JobHistory}
use Rattle.sc_lineage.specs.ScriptData.{WorkData}
use Rattle.sc_logs.specs.declared.logs.ExecLog.{ExecLog}
use Rattle.sc_plan.specs.Plans.{PlansHaveOneReading}
use Rattle.sc_read.specs.declared.reads.Read.{Read}
use Rattle.sc_script.specs.Parsing.{HaveOneReading}
use Rattle.sc_context.specs.Records.{IsGivenUp, IsLogged}
use Rattle.sc_context.specs.declared.records.Records.{Records}
use Rattle.sc_app.specs.Handed.{HasNoJob, KeepsRecords, KeepsRecordsOf}
use Rattle.sc_app.specs.Promises.{IsGivenUpIn}
use Rattle.sc_app.proofs.ReadingLemmas.{one_work}
use Rattle.sc_words.specs.declared.commands.Command.{Command}

-- no job is kept, whatever was read
pub none-kept : (command : Command) (reads : List Read) (r : Records) → HasNoJob r
    → KeepsRecordsOf command reads r
none-kept command reads r none = λ words is. inl none

-- each job has its logs
pub logged-kept : (words : List (List ℕ)) (reads : List Read) (r : Records)
    → KeepsRecords words reads r
    → AllZip (λ h logs. IsLogged h logs.items) r.histories.items r.logs.items
logged-kept words reads r (inl (none, unlogged, ungiven)) =
    subst (λ hs. AllZip logged hs r.logs.items) (sym none)
    (subst (λ (ls : List (Vec ExecLog Global)). AllZip logged [] ls) (sym unlogged) tt)
  where
    logged : JobHistory → Vec ExecLog Global → Type 0
    logged h logs = IsLogged h logs.items
logged-kept words reads r (inr (work, read, kept)) = kept.logged

-- and each that was given up had its reason
pub given-kept : HaveOneReading → PlansHaveOneReading → (words : List (List ℕ))
    (reads : List Read) (r : Records) → KeepsRecords words reads r
    → All (IsGivenUpIn words reads) r.gave_up.items
given-kept law plans words reads r (inl (none, unlogged, ungiven)) =
    subst (All (IsGivenUpIn words reads)) (sym ungiven) (All-nil (IsGivenUpIn words reads))
given-kept law plans words reads r (inr (work, read, kept)) =
    All-weaker (IsGivenUp work) (IsGivenUpIn words reads)
    (λ g is. (
      (work, read),
      λ other was. subst (λ (w : WorkData). IsGivenUp w g)
          (sym (one_work law plans words reads other work was read)) is,
    ))
    r.gave_up.items kept.given_up
