use Rattle.std.proofs.Common.{ap, arith, refl, ◌-◌, ◌∙◌}
use Rattle.std.proofs.lemmas.List.{length-map, length-set}
use Rattle.sc_dag.specs.Rows.{fate_for, is_looked_at, is_submitted, outlook}
use Rattle.sc_dag.proofs.FateLemmas.{fates_more, fates_none}
use Rattle.sc_dag.proofs.fates.note_fates.Goals as goal

pub loop-k-init : goal.loop-k-init
loop-k-init c =
    let rows = c.args.rows.now in
    let d = outlook rows c.args.tracker.now in
    record {
      are = fates_none d (is_submitted c.args.submitted d) _ c.args.fates.now.items
          c.requires.fates (length-map rows (λ r. r.stage));
      len = refl;
      below = omega arith;
    }

pub loop-k-preserved : goal.loop-k-preserved
loop-k-preserved c =
    let d = outlook c.args.rows.now c.args.tracker.now in
    let fates = c.loop-k.fates.items in
    let submitted = is_submitted c.args.submitted d in
    record {
      are = fates_more d submitted c.loop-k.k fates c.fate_of-fate.result c.requires.older
          c.loop-k-test.true
          (omega (arith, c.loop-k.invariant.below, c.loop-k.invariant.len, c.requires.fates))
          c.loop-k.invariant.are
          (c.fate_of-fate.ensures
          ∙ ap (λ fs. fate_for d submitted (is_looked_at fs) (c.loop-k.k - 1))
          c.deref.ensures.value);
      len = length-set fates (c.loop-k.k - 1) c.fate_of-fate.result ∙ c.loop-k.invariant.len;
      below = omega (arith, c.loop-k.invariant.below);
    }
