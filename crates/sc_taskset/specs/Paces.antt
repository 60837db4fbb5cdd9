-- The pace of a set, by which its running attempts are slow or aren't.
use Rattle.std.specs.Prelude.{Bool}
use Rattle.sc_taskset.specs.Offers.{slow_by}
use Rattle.sc_taskset.specs.declared.paces.Pace.{Pace}
use Rattle.sc_taskset.specs.declared.tasks.RunningCopy.{RunningCopy}

-- a running attempt is slow at a pace
abbrev pub slow_at : Pace → RunningCopy → Bool
slow_at pace = slow_by pace.durations.now pace.tasks pace.now
