use Rattle.sc_rows.proofs.WorldLemmas.{newly_opened}
use Rattle.sc_rows.proofs.world_lines.output_of.Goals as goal

pub returns-in-Staging-clause-opened : goal.returns-in-Staging-clause-opened
returns-in-Staging-clause-opened g c =
    let opens = c.in-Staging.ensures.opens in
    newly_opened _ c.in-Staging.staging.dir (g.F.Files.state c.args.files).shown
    c.in-Staging.staging.files.shown opens.0 opens.2
