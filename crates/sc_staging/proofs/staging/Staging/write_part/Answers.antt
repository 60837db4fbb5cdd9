use Rattle.std.proofs.Common.{subst}
use Rattle.std.specs.Prelude.{IfOk}
use Rattle.sc_output.specs.Calls.{write_call}
use Rattle.sc_staging.specs.Parts.{EndsPart}
use Rattle.sc_staging.proofs.PartLemmas.{may_write}
use Rattle.sc_staging.proofs.staging.Staging.write_part.Goals as goal

pub write_file-requires : goal.write_file-requires
write_file-requires g c =
    may_write c.self.inside.dir c.in_ok-path.path c.args.attempt c.args.text.now _
    c.is_within_types.ensures c.in_ok-path.ensures c.self.invariant.there

pub returns-clause-ends : goal.returns-clause-ends
returns-clause-ends g c =
    rw (← c.self.view_is) (subst (λ p. IfOk c.write_file.result
    (EndsPart (write_call p c.args.text.now) (g.F.Files.state c.self.inside.files)
    (g.F.Files.state c.write_file.new.files))) c.in_ok-path.ensures c.write_file.ensures.ends)
