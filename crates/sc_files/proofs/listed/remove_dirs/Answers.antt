use Rattle.std.proofs.Common.{◌∙◌, ap, not, rules}
use Rattle.std.proofs.lemmas.Fn.{filter_same}
use Rattle.sc_base.specs.Trees.{is_in}
use Rattle.sc_files.specs.Listed.{dirs_in}
use Rattle.sc_files.proofs.ListedLemmas.{dirs_in-filter}
use Rattle.sc_files.proofs.listed.remove_dirs.Goals as goal

pub returns : goal.returns
returns c =
    ap dirs_in (filter_same _ _ _ (λ x b f' k. search rules) _ _ c.retain.ensures.filtered)
    ∙ dirs_in-filter (λ path. not (is_in c.args.dir.now path)) _
