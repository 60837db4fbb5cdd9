-- What holds of task sets whatever they are told.
use Rattle.std.specs.Prelude.{ℕ, ◌≡◌, ◌+◌, true, None}
use Rattle.sc_taskset.specs.TaskSetData.{TaskSetData}
use Rattle.sc_taskset.specs.Offers.{Offers, given_of, handed, may_be_given}
use Rattle.sc_taskset.specs.Accounting.{left_of}

-- a zombie has nothing for anyone
abbrev pub ZombiesOfferNothing : Type 0
ZombiesOfferNothing =
    (s : TaskSetData) (exec now : ℕ) → s.is_zombie ≡ true → Offers s exec now None

-- a hand-out of a partition is one of those that were left of it
abbrev pub HandOutsKeepAccount : Type 0
HandOutsKeepAccount =
    (s : TaskSetData) (exec partition now : ℕ) → may_be_given s exec now partition ≡ true
    → given_of (handed s partition exec now) partition
    + left_of (handed s partition exec now) partition
    ≡ given_of s partition + left_of s partition
