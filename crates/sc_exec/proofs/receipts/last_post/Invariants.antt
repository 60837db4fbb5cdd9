use Rattle.std.proofs.Common.{◌≡◌, ◌-◌, None, length, take}
use Rattle.sc_exec.specs.Receipts.{last_post}
use Rattle.sc_exec.proofs.receipts.last_post.Given as goal

abbrev pub invariant-loop-seen : goal.invariant-loop-seen
invariant-loop-seen l =
    (l.many ≡ length l.entries)
    × (last_post l.exec None l.entries ≡ last_post l.exec None (take (l.many - l.seen) l.entries))
