use Rattle.std.proofs.Common.{[], ◌∷◌, ap}
use Rattle.sc_compute.proofs.SideLemmas.{own_read}
use Rattle.sc_compute.proofs.shuffles.own_rows.Goals as goal

pub returns : goal.returns
returns c = (
  c.in_ok-rows.rows ∷ [],
  ap (λ s. s ∷ []) c.in_ok-rows.ensures,
  own_read c.in_ok-rows-2.field-0 c.in_ok-rows.rows c.in_ok-dealt.dealt c.args.n c.args.p
      c.in_ok-rows-2.ensures (c.in_ok-dealt.ensures 0),
)
