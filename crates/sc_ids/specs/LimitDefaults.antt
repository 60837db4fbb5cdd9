-- The limits of a run that sets none.
use Rattle.std.specs.Prelude.{false}
use Rattle.sc_ids.specs.declared.limits.Limits.{Limits}

-- the limits of a run that sets none
abbrev pub default_limits : Limits
default_limits =
    record {
      task_failures = 4;
      stage_attempts = 4;
      executors = 2;
      cache = 64;
      speculation = false;
      hand_outs = 16777216;
    }
