use Rattle.sc_cache.proofs.LawLemmas.{goes_law, kept_law, left_law, let_go_law, stays_law, used_law}
use Rattle.sc_cache.proofs.laws.caches_are_lawful.Goals as goal

pub returns : goal.returns
returns g c =
    record {
      used = used_law;
      kept = kept_law;
      stays = λ m id other block sound differ goes.
          stays_law m id other differ block sound goes;
      goes = λ m id other block sound differ goes.
          goes_law m id other differ block sound goes;
      left = left_law;
      let_go = let_go_law;
    }
