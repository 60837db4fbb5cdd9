use Rattle.std.proofs.Common.{refl}
use Rattle.std.specs.HashMap.{get}
use Rattle.sc_lineage.specs.Views.{place_data_of}
use Rattle.sc_compute.specs.Keeping.{same_place}
use Rattle.sc_compute.proofs.KeepingLemmas.{kept_inserted, right-inserted}
use Rattle.sc_compute.proofs.kept.KeptStreams.insert.Goals as goal

pub returns-clause-right : goal.returns-clause-right
returns-clause-right c = λ work is right. record {
  streams = right-inserted work (get same_place c.args.self.now.streams)
      (get same_place c.insert.new.self) c.args.at.node c.args.at.partition right.streams
      c.args.kept is c.in_ok-insert.ensures.updates.0;
  known = right.known;
}

pub returns-clause-keeps : goal.returns-clause-keeps
returns-clause-keeps c = record {
  known = refl;
  one_more = λ at is. kept_inserted (get same_place c.args.self.now.streams)
      (get same_place c.insert.new.self) (place_data_of c.args.at) c.args.kept
      c.in_ok-insert.ensures.updates.0 at is;
}
