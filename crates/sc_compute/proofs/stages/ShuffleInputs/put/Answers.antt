use Rattle.std.proofs.Common.{◌∙◌, refl, ap}
use Rattle.std.proofs.lemmas.List.{length-set}
use Rattle.std.specs.HashMap.{get}
use Rattle.std.specs.Map.{lookup}
use Rattle.std.specs.Prelude.{nat_eq}
use Rattle.sc_compute.specs.Stages.{handed_in}
use Rattle.sc_compute.proofs.PutLemmas.{makes_none, makes_put, read_put, read_same}
use Rattle.sc_compute.proofs.StageLemmas.{right-put, right-same}
use Rattle.sc_compute.proofs.stages.ShuffleInputs.put.Goals as goal

pub returns-in_err-insert-clause-right : goal.returns-in_err-insert-clause-right
returns-in_err-insert-clause-right c =
    record {
      counts = c.requires.right.counts;
      each = right-same c.args.work.now (get nat_eq c.args.self.now.sides)
          (get nat_eq c.insert.new.self) c.args.self.now.counts.items
          (λ k. ap (lookup (nat_eq k)) c.in_err-insert.ensures.err)
          c.requires.right.each;
      read = read_same (handed_in c.args.self.now) (get nat_eq c.args.self.now.sides)
          (get nat_eq c.insert.new.self) c.requires.right.read
          (λ k. ap (lookup (nat_eq k)) c.in_err-insert.ensures.err);
      handed = c.requires.right.handed;
      told = c.requires.right.told;
    }

pub returns-clause-right : goal.returns-clause-right
returns-clause-right c =
    record {
      counts = length-set c.args.self.now.counts.items c.args.node c.args.count
          ∙ c.requires.right.counts;
      each = right-put c.args.work.now (get nat_eq c.args.self.now.sides)
          (get nat_eq c.insert.new.self) c.args.node c.args.sides
          c.in_ok-insert.ensures.updates.0 c.args.self.now.counts.items c.args.count
          c.requires.known c.requires.right.counts c.requires.count c.requires.parents
          c.requires.are c.requires.right.each;
      read = read_put (handed_in c.args.self.now) (get nat_eq c.args.self.now.sides)
          (get nat_eq c.insert.new.self) c.requires.right.read c.args.node c.args.sides
          c.in_ok-insert.ensures.updates.0 c.requires.read;
      handed = c.requires.right.handed;
      told = c.requires.right.told;
    }

pub returns-in_err-insert-clause-makes : goal.returns-in_err-insert-clause-makes
returns-in_err-insert-clause-makes c =
    makes_none c.args.node c.args.self.now _
    (λ k. ap (lookup (nat_eq k)) c.in_err-insert.ensures.err) refl refl

pub returns-clause-makes : goal.returns-clause-makes
returns-clause-makes c =
    makes_put c.args.node c.args.self.now _ c.args.sides c.requires.unmade
    c.in_ok-insert.ensures.updates.0 refl refl
