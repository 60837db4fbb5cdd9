-- What a core leaves to the job behind it.
use Rattle.std.proofs.Common.{Option, Some, None, IfSome}
use Rattle.sc_tracker.proofs.TrackerLemmas.{unregistered_sound}
use Rattle.sc_core.specs.CoreData.{CoreData}
use Rattle.sc_core.specs.Laws.{SoundCoresLeaveWell, UnregisteredLeaveWell}
use Rattle.sc_core.specs.Sound.{IsSoundCore, LeavesWell}

pub sound_cores_leave_well : SoundCoresLeaveWell
sound_cores_leave_well c sound =
    record {
      tracker = sound.job.dag.tracker;
      placed = sound.job.placed;
      lost = sound.lost;
      told = sound.told;
    }

pub last_leaves_well : (last : Option CoreData) → IfSome last IsSoundCore → IfSome last LeavesWell
last_leaves_well None sound = tt
last_leaves_well (Some last) sound = sound_cores_leave_well last sound

pub unregistered_leave_well : UnregisteredLeaveWell
unregistered_leave_well c = (
  λ well. record {
    tracker = unregistered_sound c.dag.tracker well.tracker;
    placed = λ block. tt;
    lost = well.lost;
    told = well.told;
  },
  λ (exec, live). (exec, record { there = live.there; live = live.live }),
)
