use Rattle.std.proofs.Common.{◌≡◌, false, subst}
use Rattle.sc_core.specs.Releases.{has_no_shelved}
use Rattle.sc_world.specs.WorldData.{WorldData, core_in}
use Rattle.sc_desk.proofs.DueLemmas.{due_there}
use Rattle.sc_world.proofs.CodeTurns.{releases_turn}
use Rattle.sc_world.proofs.worlds.World.tell_next.Goals as goal

pub release-requires : goal.release-requires
release-requires g c =
    record {
      shelved = subst (λ (x : WorldData). has_no_shelved (core_in x) c.in-Some.key ≡ false)
          c.self.view_is
          (due_there c.self.inside.desk.journal.core c.args.exec c.in-Some.key
          c.in-Some.ensures);
    }

pub returns-in_ok-release-in-Some-clause-drives : goal.returns-in_ok-release-in-Some-clause-drives
returns-in_ok-release-in-Some-clause-drives g c =
    releases_turn g.W.Naming.work c.args.self.now c.release.new.self c.in-Some.key
    c.in_ok-release-in-Some.field-0 c.is_world.ensures.core c.requires.rests
    c.in_ok-release-in-Some.ensures.releases c.has_sound_desk.ensures
