use Rattle.std.proofs.Common.{refl}
use Rattle.std.specs.HashMap.{get}
use Rattle.sc_lineage.specs.Views.{place_data_of}
use Rattle.sc_compute.specs.Keeping.{same_place}
use Rattle.sc_compute.proofs.KeepingLemmas.{kept_removed, right-removed}
use Rattle.sc_compute.proofs.kept.KeptStreams.remove.Goals as goal

pub returns-clause-right : goal.returns-clause-right
returns-clause-right c = λ work right. record {
  streams = right-removed work (get same_place c.args.self.now.streams)
      (get same_place c.remove.new.self) c.args.at.node c.args.at.partition right.streams
      c.remove.ensures.updates.0;
  known = right.known;
}

pub returns-clause-less : goal.returns-clause-less
returns-clause-less c = record {
  known = refl;
  fewer = λ at is. kept_removed (get same_place c.args.self.now.streams)
      (get same_place c.remove.new.self) (place_data_of c.args.at) at
      c.remove.ensures.updates.0 is;
}
