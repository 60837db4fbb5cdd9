use Rattle.std.proofs.Common.{◌+◌, ◌%◌, ap₂}
use Rattle.sc_combine.proofs.DealLemmas.{turns_more}
use Rattle.sc_combine.proofs.dealing.turns.Goals as goal

pub loop-k-preserved : goal.loop-k-preserved
loop-k-preserved c =
    turns_more c.args.m c.args.n c.loop-k.k
    ((c.from.result + c.from-in-loop-k.result) % c.from-in-loop-k-2.result) c.loop-k.out.items
    c.push.new.self.items c.requires.some_buckets
    (ap₂ (λ a b. a % b) (ap₂ (λ a b. a + b) c.from.ensures c.from-in-loop-k.ensures)
    c.from-in-loop-k-2.ensures)
    c.in_ok-push.ensures.items c.loop-k.invariant.0 c.loop-k.invariant.1
