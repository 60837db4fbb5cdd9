use Rattle.std.proofs.Common.{◌∙◌}
use Rattle.sc_script.proofs.TokenBlanks.{skips, skip_boundary}
use Rattle.sc_script.proofs.tokens.skip_blanks.Goals as goal

pub range_from-requires : goal.range_from-requires
range_from-requires c =
    let found = skips c.args.line.now _ _ c.as_bytes.ensures.value c.blanks_len.ensures
    c.as_bytes.ensures.utf8 in
    λ _. skip_boundary c.args.line.now c.blanks_len.result found

pub returns : goal.returns
returns c =
    let found = skips c.args.line.now _ _ c.as_bytes.ensures.value c.blanks_len.ensures
    c.as_bytes.ensures.utf8 in
    c.range_from.ensures.value ∙ found.is
