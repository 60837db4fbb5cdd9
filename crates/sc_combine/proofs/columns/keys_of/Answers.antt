use Rattle.std.proofs.Common.{◌∙◌, ap}
use Rattle.std.proofs.lemmas.Result.{IfOk-weaker}
use Rattle.sc_keys.specs.Keyed.{keys_in}
use Rattle.sc_combine.proofs.PairLemmas.{keys-firsts}
use Rattle.sc_combine.proofs.columns.keys_of.Goals as goal

pub returns : goal.returns
returns c =
    IfOk-weaker c.of.result _ _
    (λ k is. is ∙ ap keys_in c.in_ok-both.ensures.first ∙ keys-firsts c.args.rows.now)
    c.of.ensures
