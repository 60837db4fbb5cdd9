-- An attempt of a save between two steps, in code.
use Rattle.std.proofs.Common.{◌≡◌, Bool, true, false, Some, refl, sym, rules}
use Rattle.sc_net.specs.Tasks.{TaskData, is_map_task}
use Rattle.sc_task.specs.Attempts.{AttemptData, assigned, computed, granted, reported, staged, stored}
use Rattle.sc_task.specs.Nexts.{next_of}
use Rattle.sc_task.specs.declared.next.Next.{Next}
use Rattle.sc_task.specs.declared.next.Next.TheVariants.{Complete, Fetch, Missing}
use Rattle.sc_world.specs.Steps.{phase_of, phase_reading}
use Rattle.sc_world.specs.declared.places.AttemptState.{AttemptState}
use Rattle.sc_world.specs.declared.places.AttemptState.TheVariants as phases

-- one that reads its inputs reads on, or computes next
reading_never : (n : Next) (p : AttemptState) → phase_reading n ≡ p
    → (p ≡ phases.Reads → ⊥) → (p ≡ phases.Computes → ⊥) → ⊥
reading_never (Fetch block loc) p e reads computes = reads (sym e)
reading_never (Missing last) p e reads computes = reads (sym e)
reading_never Complete p e reads computes = computes (sym e)

-- one that asks has staged its part, and one that moves it was granted that
pub asks_staged : (a : AttemptData) → phase_of (Some a) ≡ phases.Asks
    → (t : TaskData) × (a ≡ staged t)
asks_staged (assigned t got) e =
    absurd (reading_never (next_of t got) phases.Asks e (λ x. search (rules, x))
    (λ x. search (rules, x)))
asks_staged (computed t) e = absurd (by (is_map_task t) refl e)
  where
    by : (b : Bool) → is_map_task t ≡ b → phase_of (Some (computed t)) ≡ phases.Asks → ⊥
    by true is e = let bad = rw is at e in search (rules, bad)
    by false is e = let bad = rw is at e in search (rules, bad)
asks_staged (stored t loc) e = absurd (search (rules, e))
asks_staged (staged t) e = (t, refl)
asks_staged (granted t) e = absurd (search (rules, e))
asks_staged (reported t finding) e = absurd (search (rules, e))

pub moves_granted : (a : AttemptData) → phase_of (Some a) ≡ phases.Moves
    → (t : TaskData) × (a ≡ granted t)
moves_granted (assigned t got) e =
    absurd (reading_never (next_of t got) phases.Moves e (λ x. search (rules, x))
    (λ x. search (rules, x)))
moves_granted (computed t) e = absurd (by (is_map_task t) refl e)
  where
    by : (b : Bool) → is_map_task t ≡ b → phase_of (Some (computed t)) ≡ phases.Moves → ⊥
    by true is e = let bad = rw is at e in search (rules, bad)
    by false is e = let bad = rw is at e in search (rules, bad)
moves_granted (stored t loc) e = absurd (search (rules, e))
moves_granted (staged t) e = absurd (search (rules, e))
moves_granted (granted t) e = (t, refl)
moves_granted (reported t finding) e = absurd (search (rules, e))
