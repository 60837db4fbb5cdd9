use Rattle.std.proofs.Common.{◌∙◌, ap, ℕ, Option}
use Rattle.std.specs.Option.{unwrap_or}
use Rattle.std.specs.Prelude.{option_and_then}
use Rattle.std.specs.Str.Parse.{ParsesUnsigned, ExplainsUnsignedError, HasUnsignedDigitsIfOk}
use Rattle.clap.specs.Words.{found_of}
use Rattle.clap.proofs.WalkLemmas.{one_text-rows}
use Rattle.sc_words.specs.Words.{number_of, within}
use Rattle.sc_words.proofs.GetterLemmas.{number_read}
use Rattle.sc_words.proofs.words.number_from.Goals as goal

pub returns : goal.returns
returns c =
    let read = number_read
    (λ bs r. ParsesUnsigned 32 10 bs r × ExplainsUnsignedError 10 bs r × HasUnsignedDigitsIfOk bs r)
    _ c.get_one.result (λ u x g. g.0) c.get_one.ensures.none c.get_one.ensures.value in
    c.within.ensures
    ∙ ap (λ (n : ℕ). within c.args.least c.args.most n c.args.other) (c.unwrap_or-number.ensures
    ∙ ap (λ (o : Option ℕ). unwrap_or o c.args.other)
    (read ∙ ap (option_and_then number_of)
    (one_text-rows (found_of c.args.found.now) c.args.option.now)))
