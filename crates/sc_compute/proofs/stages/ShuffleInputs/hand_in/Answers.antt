use Rattle.std.proofs.Common.{ℕ, List, Vec, nat_eq, refl}
use Rattle.std.specs.HashMap.{get}
use Rattle.std.specs.declared.alloc.Global.{Global}
use Rattle.sc_value.specs.Datum.{Datum}
use Rattle.sc_compute.specs.Keeping.{same_place}
use Rattle.sc_compute.specs.Stages.{AreOutputs}
use Rattle.sc_compute.proofs.KeepingLemmas.{right-under_two}
use Rattle.sc_compute.proofs.PutLemmas.{read_none}
use Rattle.sc_compute.proofs.stages.ShuffleInputs.hand_in.Goals as goal

pub returns-clause-right : goal.returns-clause-right
returns-clause-right c =
    let P : ℕ → ℕ → Vec (List (List Datum)) Global → Type 0 =
    λ node side outputs. AreOutputs c.args.work.now node side outputs.items in
    record {
      counts = c.requires.right.counts;
      each = c.requires.right.each;
      read = read_none
          (λ k side. get same_place c.insert.new.self (k, side))
          (get nat_eq c.args.self.now.sides) c.requires.unmade;
      handed = right-under_two P (get same_place c.args.self.now.handed)
          (get same_place c.insert.new.self) c.args.node c.args.side c.requires.right.handed
          c.args.outputs c.requires.outputs c.in_ok-insert.ensures.updates.0;
      told = c.requires.right.told;
    }

pub returns-clause-hands_in : goal.returns-clause-hands_in
returns-clause-hands_in c = record {
  handed = λ k s. c.in_ok-insert.ensures.updates.0 (k, s);
  counts = refl;
  made = refl;
  told = refl;
}
