use Rattle.std.proofs.Common.{subst}
use Rattle.std.specs.Prelude.{IfOk}
use Rattle.sc_output.specs.Calls.{rename_call}
use Rattle.sc_output.specs.Names.{committed_path}
use Rattle.sc_staging.specs.Parts.{EndsPart}
use Rattle.sc_staging.proofs.staging.Staging.rename_part.Goals as goal

pub returns-clause-ends : goal.returns-clause-ends
returns-clause-ends g c =
    rw (← c.self.view_is) (subst (λ p. IfOk c.rename_file.result
    (EndsPart (rename_call p (committed_path c.self.inside.dir c.args.attempt))
    (g.F.Files.state c.self.inside.files) (g.F.Files.state c.rename_file.new.files)))
    c.in_ok-from.ensures
    (subst (λ q. IfOk c.rename_file.result
    (EndsPart (rename_call c.in_ok-from.from q)
    (g.F.Files.state c.self.inside.files) (g.F.Files.state c.rename_file.new.files)))
    c.in_ok-to.ensures c.rename_file.ensures.ends))
