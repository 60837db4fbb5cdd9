-- When a running attempt is worth a second one beside it.
use Rattle.std.specs.Prelude.{ℕ, ◌-◌, ◌*◌, ◌/◌, ◌&&◌, Bool, List, length, max, nat_le, nat_lt}
use Rattle.sc_base.specs.Lists.{at_or}

-- how many tasks of a set of so many have to have succeeded: three quarters, and at least one
abbrev pub successes_wanted : ℕ → ℕ
successes_wanted tasks = max (3 * tasks / 4) 1

-- the median of sorted durations
abbrev pub median : List ℕ → ℕ
median durations = at_or durations (length durations / 2) 0

-- how long an attempt has run that was started at a time: none where that lies ahead
abbrev pub run_time : ℕ → ℕ → ℕ
run_time started now = now - started

-- an attempt has run for more than one and a half medians, and for more than 100 milliseconds
abbrev pub has_run_long : List ℕ → ℕ → Bool
has_run_long durations run = nat_lt (max (3 * median durations) 200) (2 * run)

-- An attempt of a set of so many tasks, whose successes took these sorted durations, is worth a
-- second one.
abbrev pub is_speculatable : List ℕ → ℕ → ℕ → ℕ → Bool
is_speculatable durations tasks started now =
    nat_le (successes_wanted tasks) (length durations)
    && has_run_long durations (run_time started now)
