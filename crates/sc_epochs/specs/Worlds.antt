-- The worlds that a job comes to.
use Rattle.std.specs.Prelude.{◌≡◌, List, [], Option}
use Rattle.sc_lineage.specs.ScriptData.{WorkData}
use Rattle.sc_core.specs.CoreData.{CoreData}
use Rattle.sc_core.specs.Openings.{IsOpening}
use Rattle.sc_core.specs.Sound.{IsSoundCore}
use Rattle.sc_jobs.specs.JobData.{saves}
use Rattle.sc_store.specs.StoreData.{StoreData}
use Rattle.sc_desk.specs.DeskData.{DeskData, core_of}
use Rattle.sc_desk.specs.Sound.{IsSoundDesk}
use Rattle.sc_world.specs.Runs.{AreReady, Reaches, idle_world}
use Rattle.sc_world.specs.WorldData.{WorldData}

-- where a job begins over stores that have what its tracker knows
pub record IsBegun (work : WorkData) (desk : DeskData) (stores : List StoreData) : Type 0 where
  pub last : Option CoreData
  pub core : IsSoundCore (core_of desk)
  pub sound : IsSoundDesk work desk
  pub opening : IsOpening desk.job.graph work.limits (saves work desk.job.goal) work.plan last
      (core_of desk)
  pub shelf : desk.shelf ≡ []
  pub ready : AreReady work stores (core_of desk).dag.tracker (core_of desk).told

-- a job comes to a world, from where it begins, by some steps in any order
pub record ComesAbout (work : WorkData) (w : WorldData) : Type 0 where
  pub desk : DeskData
  pub stores : List StoreData
  pub begun : IsBegun work desk stores
  pub reaches : Reaches work (idle_world work desk stores) w
