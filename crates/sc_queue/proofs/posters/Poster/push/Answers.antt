use Rattle.std.proofs.Common.{refl, arith}
use Rattle.sc_queue.proofs.PushLemmas.{pushes_as}
use Rattle.sc_queue.proofs.posters.Poster.push.Goals as goal

pub push_as-requires-clause-rule : goal.push_as-requires-clause-rule
push_as-requires-clause-rule g c =
    let fits = c.in-Some.ensures.1 in
    let counted = c.args.self.now.counted in (
      pushes_as _ _ _ _ _ _ c.args.self.now.own refl (omega (arith, fits, counted)),
      λ items views h at. tt,
    )
