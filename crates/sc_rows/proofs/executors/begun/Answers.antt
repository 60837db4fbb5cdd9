use Rattle.std.proofs.Common.{◌≡◌, ◌∙◌, ℕ, All, ap, subst}
use Rattle.sc_ids.specs.declared.limits.Limits.{Limits}
use Rattle.sc_lineage.specs.ScriptData.{WorkData}
use Rattle.sc_staging.specs.Outputs.{output_dir, output_files}
use Rattle.sc_exec.specs.Workers.{AreInPlace}
use Rattle.sc_exec.specs.Working.{IsFresh}
use Rattle.sc_rows.proofs.WorldLemmas.{begun_stands}
use Rattle.sc_rows.proofs.executors.begun.Goals as goal

pub returns-clause-stand : goal.returns-clause-stand
returns-clause-stand g c =
    begun_stands c.files_go_on.ensures g.W.Naming.work c.desk_of-desk.result
    (output_dir c.output_of-output.result)
    (output_files g.F.Files.state c.output_of-output.result) c.desk_of-desk.ensures.first
    c.output_of-output.ensures.dir c.output_of-output.ensures.opened

pub returns-clause-fresh : goal.returns-clause-fresh
returns-clause-fresh g c =
    let many : c.limits-executors.result.executors ≡ g.W.Naming.work.limits.executors =
    ap (λ (l : Limits). l.executors) c.limits-executors.ensures
    ∙ ap (λ (w : WorkData). w.limits.executors) (c.get.ensures ∙ c.is_named.ensures) in
    subst (λ (n : ℕ). All (IsFresh n) c.crew.result.items) many c.crew.ensures.fresh

pub returns-clause-places : goal.returns-clause-places
returns-clause-places g c =
    let many : c.limits-executors.result.executors ≡ g.W.Naming.work.limits.executors =
    ap (λ (l : Limits). l.executors) c.limits-executors.ensures
    ∙ ap (λ (w : WorkData). w.limits.executors) (c.get.ensures ∙ c.is_named.ensures) in
    subst (λ (n : ℕ). AreInPlace n c.crew.result.items) many c.crew.ensures.places
