use Rattle.std.proofs.Common.{subst, sym}
use Rattle.sc_desk.specs.Files.{FilesStand}
use Rattle.sc_staging.specs.Outputs.{output_dir, output_files}
use Rattle.sc_rows.proofs.alone.run_again.Goals as goal

pub run_alone-requires-clause-stand : goal.run_alone-requires-clause-stand
run_alone-requires-clause-stand g c =
    subst (λ dir. FilesStand g.W.Naming.work c.begun_again-desk.result dir
    (output_files g.F.Files.state c.renewed-output.result)) (sym c.renewed-output.ensures.dir)
    (c.begun_again-desk.ensures.stand (output_dir c.args.output)
    (output_files g.F.Files.state c.args.output)
    (output_files g.F.Files.state c.renewed-output.result) c.requires.stand
    c.renewed-output.ensures.renewed)
