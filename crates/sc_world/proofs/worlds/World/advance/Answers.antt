use Rattle.std.proofs.Common.{inl}
use Rattle.std.proofs.lemmas.Result.{on_ok_weaker}
use Rattle.sc_world.proofs.StandLemmas.{plain_on}
use Rattle.sc_world.proofs.worlds.World.advance.Goals as goal

pub returns-in_default : goal.returns-in_default
returns-in_default g c =
    record {
      advances = c.advance_plain.ensures.advances;
      goes = on_ok_weaker c.advance_plain.result (λ p. inl p) c.advance_plain.ensures.goes;
      refused = c.advance_plain.ensures.refused;
      files = plain_on g.W.Naming.work c.args.self.now c.advance_plain.new.self c.args.exec
          g.F.Files.state c.args.output.now c.advance_plain.result
          c.advance_plain.ensures.goes c.advance_plain.ensures.refused c.requires.stand;
    }
