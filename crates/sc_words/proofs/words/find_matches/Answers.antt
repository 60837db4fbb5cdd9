use Rattle.std.proofs.Common.{◌∙◌, ap, map}
use Rattle.std.specs.String.{string_bytes}
use Rattle.clap.specs.Words.{App, is_simple, subcommand_of}
use Rattle.sc_words.proofs.TakenLemmas.{refused, taken}
use Rattle.sc_words.proofs.words.find_matches.Goals as goal

pub returns-in-Ok : goal.returns-in-Ok
returns-in-Ok c =
    let is = c.in_ok-command.ensures in
    let words = map string_bytes c.args.words.now in (
      taken _ words is c.in-Ok.ensures.kinds,
      (c.in-Ok.ensures.matches (ap is_simple is)).1
          ∙ ap (λ (a : App). subcommand_of a words) is,
    )

pub returns-in-Err : goal.returns-in-Err
returns-in-Err c = refused _ (map string_bytes c.args.words.now) c.in-Err.error c.refusal_of.result
    c.in_ok-command.ensures c.in-Err.ensures.kinds c.refusal_of.ensures
