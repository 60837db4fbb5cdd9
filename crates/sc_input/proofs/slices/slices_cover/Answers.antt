use Rattle.sc_input.proofs.SliceLemmas.{are_even}
use Rattle.sc_input.proofs.slices.slices_cover.Goals as goal

pub returns : goal.returns
returns g c = are_even c.args.items.now c.args.n c.requires
