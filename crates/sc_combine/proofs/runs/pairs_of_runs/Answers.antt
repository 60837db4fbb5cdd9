use Rattle.std.proofs.Common.{IfSome, ◌∙◌, ◌+◌, ◌<◌, ◌≤◌, length, ap, ap₂, sym, subst, arith}
use Rattle.std.proofs.lemmas.List.{length-append, take_all}
use Rattle.std.specs.List.{flat_map}
use Rattle.sc_columns.specs.Columns.{zip_with}
use Rattle.sc_columns.specs.Parts.{ArePairs}
use Rattle.sc_value.specs.Datum.{pair}
use Rattle.sc_combine.proofs.PairLemmas.{are_pairs, pairs_more}
use Rattle.sc_combine.proofs.runs.pairs_of_runs.Goals as goal

pub loop-i-preserved : goal.loop-i-preserved
loop-i-preserved c =
    let run = c.index.result.now in
    let both = c.in-Some.both in
    let so_far = c.loop-i.invariant in
    let within : c.loop-i.i < length c.in_ok-runs.runs.items = omega arith in
    let pairs = subst (λ o. IfSome o (ArePairs run)) c.in-Some.is c.in_ok-both.ensures in
    let grown = c.in_ok-append-in-Some.ensures in
    let also = c.in_ok-append-in-Some-2.ensures in
    record {
      are = pairs_more c.in_ok-runs.runs.items c.loop-i.i run c.loop-i.first c.loop-i.second
          c.append.new.self c.append-in-Some.new.self both.first both.second within c.index.ensures
          pairs.are grown also so_far.level so_far.are;
      level = ap length grown ∙ length-append c.loop-i.first both.first
          ∙ ap₂ (λ m n. m + n) so_far.level (pairs.first_len ∙ sym pairs.second_len)
          ∙ sym (ap length also ∙ length-append c.loop-i.second both.second);
    }

pub returns : goal.returns
returns c =
    let first = c.in_ok-first.ensures in
    let second = c.in_ok-second.ensures in
    let past : length c.in_ok-runs.runs.items ≤ c.loop-i.i = omega arith in
    are_pairs c.args.rows.now
    (record { first = c.in_ok-first.first; second = c.in_ok-second.second })
    (ap₂ (zip_with pair) first second ∙ c.loop-i.invariant.are
    ∙ ap (flat_map (λ r. r)) (take_all c.loop-i.i c.in_ok-runs.runs.items past)
    ∙ c.in_ok-runs.ensures)
    (ap length first ∙ c.loop-i.invariant.level ∙ sym (ap length second))
