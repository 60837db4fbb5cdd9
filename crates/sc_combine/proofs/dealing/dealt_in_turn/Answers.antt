use Rattle.std.proofs.Common.{◌∙◌, length, map, ap, refl}
use Rattle.sc_base.specs.Lists.{numbers_below}
use Rattle.sc_lineage.specs.Shuffles.{in_turn}
use Rattle.sc_combine.specs.Deals.{turn_of}
use Rattle.sc_combine.proofs.DealLemmas.{turn_buckets, length-buckets}
use Rattle.sc_combine.proofs.dealing.dealt_in_turn.Goals as goal

pub of_buckets-requires-clause-level : goal.of_buckets-requires-clause-level
of_buckets-requires-clause-level c =
    let rows = c.args.rows.now in
    let n = c.args.n in
    let m = c.args.m in
    ap length (c.deref.ensures.value ∙ c.in_ok-buckets.ensures.are
    ∙ ap (λ k. map (turn_of m n) (numbers_below k)) c.len-2.ensures ∙ turn_buckets n m 0 rows)
    ∙ length-buckets (in_turn n) m 0 rows

pub returns-clause-dealt : goal.returns-clause-dealt
returns-clause-dealt c =
    let rows = c.args.rows.now in
    let n = c.args.n in
    let m = c.args.m in
    c.in_ok-dealt.ensures (in_turn n) m
    (c.deref.ensures.value ∙ c.in_ok-buckets.ensures.are
    ∙ ap (λ k. map (turn_of m n) (numbers_below k)) c.len-2.ensures ∙ turn_buckets n m 0 rows)
    refl
