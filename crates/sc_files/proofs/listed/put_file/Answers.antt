use Rattle.std.proofs.Common.{◌∙◌, ap}
use Rattle.sc_files.specs.Listed.{files_in}
use Rattle.sc_files.proofs.ListedLemmas.{files_in-put}
use Rattle.sc_files.proofs.listed.put_file.Goals as goal

pub returns : goal.returns
returns c =
    ap files_in c.push_reserved.ensures.items
    ∙ files_in-put c.args.path c.args.bytes _ _ c.remove_file.ensures.files
