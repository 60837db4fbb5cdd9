use Rattle.std.proofs.Common.{◌∙◌, ap, rules}
use Rattle.std.proofs.lemmas.Fn.{filter_same}
use Rattle.sc_files.specs.Listed.{files_in}
use Rattle.sc_files.proofs.ListedLemmas.{files_in-without}
use Rattle.sc_files.proofs.listed.remove_file.Goals as goal

pub returns-clause-files : goal.returns-clause-files
returns-clause-files c =
    ap files_in (filter_same _ _ _ (λ x b f' k. search rules) _ _ c.retain.ensures.filtered)
    ∙ files_in-without c.args.path.now _
