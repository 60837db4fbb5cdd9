use Rattle.std.proofs.Common.{◌≤◌, ℕ, subst, sym, vec_capacity}
use Rattle.sc_context.proofs.alone.run_over.Goals as goal

pub locked-requires-clause-room : goal.locked-requires-clause-room
locked-requires-clause-room g c =
    subst (λ (n : ℕ). n ≤ vec_capacity c.args.room) (sym c.run_world-went.ensures.many)
    c.requires.room

pub returns-clause-went : goal.returns-clause-went
returns-clause-went g c = c.run_world-went.ensures.went

pub returns-clause-drivers : goal.returns-clause-drivers
returns-clause-drivers g c = c.run_world-went.ensures.drivers

pub returns-clause-counted : goal.returns-clause-counted
returns-clause-counted g c = c.run_world-went.ensures.counted
