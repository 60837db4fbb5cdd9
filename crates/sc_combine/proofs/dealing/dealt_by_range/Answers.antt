use Rattle.std.proofs.Common.{◌∙◌, ◌+◌, ◌<◌, ◌≤◌, length, map, ap, subst, sym, arith}
use Rattle.std.specs.List.{All}
use Rattle.std.proofs.lemmas.List.Elements.{All-weaker}
use Rattle.sc_lineage.specs.Shuffles.{by_range}
use Rattle.sc_part.specs.Bounds.{range_of}
use Rattle.sc_combine.proofs.DealLemmas.{range_buckets, length-buckets}
use Rattle.sc_combine.proofs.dealing.dealt_by_range.Goals as goal

pub of_buckets-requires-clause-level : goal.of_buckets-requires-clause-level
of_buckets-requires-clause-level c =
    let rows = c.args.rows.now in
    let bounds = c.args.bounds.now in
    ap length (c.deref.ensures.value ∙ c.in_ok-ranges.ensures.are
    ∙ ap (map (range_of bounds)) c.in_ok-keys.ensures ∙ range_buckets bounds 0 0 rows)
    ∙ length-buckets (by_range bounds) 0 0 rows

pub of_buckets-requires-clause-below : goal.of_buckets-requires-clause-below
of_buckets-requires-clause-below c =
    let count = c.len-2.ensures.count in
    subst (All (λ r. r < c.len-2.result + 1)) (sym c.deref.ensures.value)
    (All-weaker (λ r. r ≤ length c.args.bounds.now) (λ r. r < c.len-2.result + 1)
    (λ r within. omega arith) c.in_ok-ranges.ranges.items c.in_ok-ranges.ensures.below)

pub returns-clause-dealt : goal.returns-clause-dealt
returns-clause-dealt c =
    let rows = c.args.rows.now in
    let bounds = c.args.bounds.now in
    λ m. c.in_ok-dealt.ensures (by_range bounds) m
    (c.deref.ensures.value ∙ c.in_ok-ranges.ensures.are
    ∙ ap (map (range_of bounds)) c.in_ok-keys.ensures ∙ range_buckets bounds m 0 rows)
    (ap (λ k. k + 1) c.len-2.ensures.count)
