use Rattle.std.proofs.Common.{sym, subst, Some, None, arith}
use Rattle.std.proofs.lemmas.Str.Pattern.{strip_prefix_char}
use Rattle.sc_script.proofs.TokenFinds.{token_at-quote, token_at-other}
use Rattle.sc_script.proofs.TokenFronts.{token_at-opening, token_at-closing}
use Rattle.sc_script.specs.TokenReading.{Finds, front_of, IsShortFront}
use Rattle.sc_script.proofs.tokens.token_at.Goals as goal

pub returns-in-Some : goal.returns-in-Some
returns-in-Some c =
    let line = c.args.line.now in (
      token_at-opening line _
          (strip_prefix_char 40 line (Some c.in-Some.after) c.in-Some.ensures.cases (omega arith)),
      tt,
    )

pub returns-in-Some-strip_prefix : goal.returns-in-Some-strip_prefix
returns-in-Some-strip_prefix c =
    let line = c.args.line.now in
    let after = c.in-Some-strip_prefix.after in (
      token_at-closing line _
          (strip_prefix_char 41 line (Some after) c.in-Some-strip_prefix.ensures.cases
          (omega arith)),
      tt,
    )

pub returns-in-Some-strip_prefix-2 : goal.returns-in-Some-strip_prefix-2
returns-in-Some-strip_prefix-2 c =
    let line = c.args.line.now in
    let inner = c.in-Some-strip_prefix-2.inner in
    let is = strip_prefix_char 34 line (Some inner) c.in-Some-strip_prefix-2.ensures.cases
    (omega arith) in
    subst (Finds front_of IsShortFront c.text_token.result) (sym (token_at-quote line inner.now is))
    c.text_token.ensures

pub returns : goal.returns
returns c =
    let line = c.args.line.now in
    let no_opening = strip_prefix_char 40 line None c.in_default.ensures.cases (omega arith) in
    let no_closing = strip_prefix_char 41 line None c.in_default-strip_prefix.ensures.cases
    (omega arith) in
    let no_quote = strip_prefix_char 34 line None c.in_default-strip_prefix-2.ensures.cases
    (omega arith) in
    subst (Finds front_of IsShortFront c.piece_token.result)
    (sym (token_at-other line no_opening no_closing no_quote)) c.piece_token.ensures
