use Rattle.std.proofs.Common.{◌∙◌, sym}
use Rattle.sc_exec.proofs.VerdictLemmas.{any_by}
use Rattle.sc_exec.proofs.verdicts.has_log.Goals as goal

pub returns : goal.returns
returns c = c.is_any.ensures ∙ sym (any_by c.args.e.now c.args.workers.now)
