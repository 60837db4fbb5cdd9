use Rattle.std.proofs.Common.{subst, sym}
use Rattle.sc_desk.specs.DeskData.{core_of}
use Rattle.sc_world.specs.Runs.{AreReady}
use Rattle.sc_staging.specs.Outputs.{output_dir, output_files}
use Rattle.sc_rows.proofs.WorldLemmas.{first_ready, first_stands}
use Rattle.sc_rows.proofs.world_lines.world_of.Goals as goal

pub begin-requires-clause-ready : goal.begin-requires-clause-ready
begin-requires-clause-ready g c =
    let desk = c.desk_of-desk.result in
    subst (λ stores. AreReady g.W.Naming.work stores (core_of desk).dag.tracker (core_of desk).told)
    (sym c.new_stores-stores.ensures)
    (first_ready g.W.Naming.work desk c.desk_of-desk.ensures.first)

pub invariant_of-result : goal.invariant_of-result
invariant_of-result g c =
    first_stands c.files_go_on.ensures g.W.Naming.work c.desk_of-desk.result
    c.new_stores-stores.result.items c.in-Ok.world
    (output_dir c.output_of-output.result)
    (output_files g.F.Files.state c.output_of-output.result) c.desk_of-desk.ensures.first
    c.in-Ok.ensures.begun c.output_of-output.ensures.dir c.output_of-output.ensures.opened
