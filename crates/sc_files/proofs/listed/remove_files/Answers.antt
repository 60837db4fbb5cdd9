use Rattle.std.proofs.Common.{◌∙◌, ap, not, rules}
use Rattle.std.proofs.lemmas.Fn.{filter_same}
use Rattle.sc_base.specs.Trees.{lies_under}
use Rattle.sc_files.specs.Listed.{files_in}
use Rattle.sc_files.proofs.ListedLemmas.{files_in-filter}
use Rattle.sc_files.proofs.listed.remove_files.Goals as goal

pub returns : goal.returns
returns c =
    ap files_in (filter_same _ _ _ (λ x b f' k. search rules) _ _ c.retain.ensures.filtered)
    ∙ files_in-filter (λ path. not (lies_under c.args.dir.now path)) _
