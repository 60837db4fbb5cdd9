use Rattle.std.proofs.Common.{◌≡◌, true}
use Rattle.crossbeam_queue.specs.Passes.{IsPassOf, view}
use Rattle.sc_queue.specs.Rule.{is_driver, joined_of, made_of, popped_of}
use Rattle.sc_queue.proofs.relays.drain.Given as goal

abbrev pub invariant-loop : goal.invariant-loop
invariant-loop g l =
    IsPassOf l.queue l.pass × (is_driver (view l.pass) ≡ true)
    × (popped_of (view l.pass) ≡ l.got.items)
    × (made_of (view l.pass) ≡ made_of (view l.fn.pass))
    × (joined_of (view l.pass) ≡ joined_of (view l.fn.pass))
