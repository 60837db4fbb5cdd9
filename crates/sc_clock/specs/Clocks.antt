-- What clocks in memory give.
use Rattle.std.specs.Prelude.{ℕ, ◌+◌, ◌-◌, ◌^◌, List, length, min}
use Rattle.sc_base.specs.Counts.{counted}
use Rattle.sc_base.specs.Lists.{at_or}
use Rattle.sc_clock.specs.declared.steps.StepClock.{StepClock}

-- a clock that goes on by steps, once it was asked, as far as its type goes
abbrev pub after_step : StepClock → StepClock
after_step c = record { time = min (c.time + c.step) (2 ^ 64 - 1); step = c.step }

-- a clock that gives numbers from a list
pub record ListClockData : Type 0 where
  pub times : List ℕ
  -- how often it was asked
  pub calls : ℕ

abbrev pub list_clock : List ℕ → ℕ → ListClockData
list_clock times calls = record { times = times; calls = calls }

-- it, once it was asked
abbrev pub after_call : ListClockData → ListClockData
after_call c = list_clock c.times (counted c.calls)

-- what it then gives: the next number, and behind the last one that again
abbrev pub time_of : ListClockData → ℕ
time_of c = at_or c.times (min c.calls (length c.times - 1)) 0
