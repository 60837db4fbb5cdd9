-- Who is told lost was planned to be, whatever happens.
use Rattle.std.proofs.Common.{◌≡◌, ℕ, ◌^◌, ◌<◌, ◌≤◌, true, Option, Some, None, ap, sym, ◌∙◌, arith}
use Rattle.std.proofs.lemmas.Bool.Decides.{nat_tests}
use Rattle.sc_base.specs.Counts.{counted}
use Rattle.sc_plan.specs.Orders.{loss_of}
use Rattle.sc_tracker.specs.TrackerData.{trust_of}
use Rattle.sc_core.specs.CoreData.{CoreData}
use Rattle.sc_core.specs.Losses.{is_due_after}
use Rattle.sc_core.specs.Sound.{AreLostAsPlanned}

-- what is due stays so
due_still : (o : Option ℕ) (told more : ℕ) → told ≤ more → is_due_after o told ≡ true
    → is_due_after o more ≡ true
due_still None told more le h = h
due_still (Some due) told more le h = grind (arith, nat_tests, le, h)

-- while nobody more is told lost, and no fewer reports were told
pub planned_still :
    (c after : CoreData) → AreLostAsPlanned c
    → ((e : ℕ) → (trust_of after.dag.tracker e).lost ≡ (trust_of c.dag.tracker e).lost)
    → after.plan ≡ c.plan → c.told ≤ after.told → AreLostAsPlanned after
planned_still c after planned lost plan told exec h =
    ap (λ ls. is_due_after (loss_of ls exec) after.told) plan
    ∙ due_still (loss_of c.plan exec) c.told after.told told
    (planned exec (sym (lost exec) ∙ h))

-- one report more
pub counted_more : (told : ℕ) → told < 2 ^ 64 → told ≤ counted told
counted_more told lt = omega (arith, lt)

pub counted_fits : (told : ℕ) → counted told < 2 ^ 64
counted_fits told = omega arith
