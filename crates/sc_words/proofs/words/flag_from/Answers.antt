use Rattle.std.proofs.Common.{◌∙◌, ap, List, ℕ, Option, bytes_eq, codes, false}
use Rattle.std.specs.Option.{option_map_or}
use Rattle.clap.specs.Words.{found_of}
use Rattle.clap.proofs.WalkLemmas.{one_text-rows}
use Rattle.sc_words.proofs.GetterLemmas.{flag_read}
use Rattle.sc_words.proofs.words.flag_from.Goals as goal

pub returns : goal.returns
returns c =
    c.unwrap_or.ensures
    ∙ flag_read _ _ c.get_one.result c.get_one.ensures.none c.get_one.ensures.value
    ∙ ap (λ (o : Option (List ℕ)). option_map_or (bytes_eq (codes "true")) o false)
    (one_text-rows (found_of c.args.found.now) c.args.flag.now)
