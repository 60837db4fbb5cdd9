-- What the executors of a job share may be shared by threads.
use Prim.Native.Nat.{ℕ}
use mathlib.Core.List.{List, [], ◌∷◌}
use denote.RattleType.{RattleType}
use denote.Struct.Tuple.{TupleAt, field_at, type_at}
use denote.Struct.Declared.{shape}
use denote.Param.Send.{IsSend, IsSync, sendable, recorded_sync, struct_sync}
use Rattle.std.proofs.Crossing.{crosses}
use Rattle.std.proofs.sync.Mutex.TheSendSync as mutex
use Rattle.std.specs.contracts.alloc.Global as global
use Rattle.std.specs.contracts.option.Option as option
use Rattle.sc_value.proofs.text.Text.TheSendSync as text
use Rattle.sc_value.proofs.name.Name.TheSendSync as name
use Rattle.sc_files.specs.declared.files.Files as files
use Rattle.sc_staging.specs.contracts.outputs.Output as output
use Rattle.sc_staging.specs.contracts.staging.Staging as staging
use Rattle.sc_work.specs.declared.naming.Naming as naming
use Rattle.atomic_table.proofs.shared.Seat.TheSendSync as seat
use Rattle.crossbeam_queue.proofs.array_queue.Slotted.TheSendSync as slotted
use Rattle.sc_queue.proofs.posters.Poster.TheSendSync as poster
use Rattle.sc_queue.proofs.rules.Posted.TheSendSync as posted
use Rattle.sc_queue.specs.contracts.rules.Posted as posted_type
use Rattle.sc_exec.proofs.JobsCross.{desk_send, entry_send, report_send, store_send}
use Rattle.sc_exec.specs.contracts.crews.Member as member
use Rattle.sc_exec.specs.contracts.helms.Helm as helm
use Rattle.sc_exec.specs.contracts.visits.Witnessed as witnessed
use Rattle.sc_exec.specs.contracts.driver.Driver as driver
use Rattle.sc_exec.specs.contracts.job_desks.JobDesk as job_desk
use Rattle.sc_exec.specs.contracts.places.Stores as stores
use Rattle.sc_exec.specs.declared.openings.Opening as opening
use Rattle.sc_queue.specs.declared.queued.Queued as queued

ruleset known = (text.the_send, text.the_sync, name.the_send, name.the_sync, crosses, sendable)

staging_send : (F : RattleType) (f : files.Ghosts F.Denot) → IsSend F
    → IsSend (staging.the_row F f)
staging_send F f s = search known depth 60 fits 20000

output_send : (F : RattleType) (f : files.Ghosts F.Denot) → IsSend F
    → IsSend (output.the_field F f).row
output_send F f s = search (staging_send, crosses, sendable) depth 60 fits 20000

pub job_desk_send : (W J F : RattleType) (g : naming.Ghosts W.Denot) (o : opening.Ghosts J.Denot)
    (q : queued.Ghosts J.Denot) (f : files.Ghosts F.Denot) → IsSend W → IsSend J → IsSend F
    → IsSend (job_desk.the_row W J F g o q f)
job_desk_send W J F g o q f s t u =
    search (desk_send, output_send, crosses, sendable) depth 60 fits 20000

pub global_sync : IsSync global.the_row
global_sync = search (crosses, sendable) depth 60 fits 20000

-- what is on its way, and what lies behind the lock
pub witnessed_send : (W : RattleType) (g : naming.Ghosts W.Denot) → IsSend W
    → IsSend (witnessed.the_row W g)
witnessed_send W g s = search (report_send, crosses, sendable) depth 60 fits 20000

-- on its way, or perhaps not there
posted_send : (W : RattleType) (g : naming.Ghosts W.Denot) → IsSend W
    → IsSend (option.the_row (posted_type.the_row (witnessed.the_row W g)))
posted_send W g s = search (witnessed_send, posted.the_send, crosses, sendable) depth 60 fits 20000

pub helm_send : (W J F : RattleType) (g : naming.Ghosts W.Denot) (o : opening.Ghosts J.Denot)
    (q : queued.Ghosts J.Denot) (f : files.Ghosts F.Denot) → IsSend W → IsSend J → IsSend F
    → IsSend (helm.the_row W J F g o q f)
helm_send W J F g o q f s t u =
    search (job_desk_send, witnessed_send, posted.the_send, seat.the_send, crosses, sendable)
    depth 60 fits 20000

pub driver_sync : (W J F : RattleType) (g : naming.Ghosts W.Denot) (o : opening.Ghosts J.Denot)
    (q : queued.Ghosts J.Denot) (f : files.Ghosts F.Denot) → IsSend W → IsSend J → IsSend F
    → IsSync (driver.the_row W J F g o q f)
driver_sync W J F g o q f s t u =
    recorded_sync (driver.the_field W J F g o q f).row _ _ (driver.the_type W J F g o q f).to_one
    (struct_sync (shape (driver.the_type W J F g o q f)) (
      search (helm_send, mutex.the_sync, crosses, sendable) depth 60 fits 20000,
      (
        search (crosses, sendable) depth 60 fits 20000,
        (
          search (slotted.the_field_sync, posted_send, global_sync, crosses, sendable)
              depth 60 fits 20000,
          tt,
        ),
      ),
    ))

-- an executor with its side of the queue
pub member_send : (W J : RattleType) (q : queued.Ghosts J.Denot) (g : naming.Ghosts W.Denot)
    → IsSend W → IsSend J → IsSend (member.the_row W J q g)
member_send W J q g s t =
    search (entry_send, witnessed_send, poster.the_field_send, crosses, sendable)
    depth 60 fits 20000

pub stores_sync : (W : RattleType) (g : naming.Ghosts W.Denot) → IsSend W
    → IsSync (stores.the_row W g)
stores_sync W g s = search (store_send, mutex.the_sync, crosses, sendable) depth 60 fits 20000

-- six values that a closure captures
pub six_sync : (n : List ℕ) (A B C D E F : RattleType) → IsSync A → IsSync B → IsSync C
    → IsSync D → IsSync E → IsSync F → IsSync (TupleAt n (A ∷ B ∷ C ∷ D ∷ E ∷ F ∷ []))
six_sync n A B C D E F a b c d e f =
    recorded_sync (field_at n (A ∷ B ∷ C ∷ D ∷ E ∷ F ∷ [])).row _ _
    (type_at n (A ∷ B ∷ C ∷ D ∷ E ∷ F ∷ [])).to_one
    (struct_sync (shape (type_at n (A ∷ B ∷ C ∷ D ∷ E ∷ F ∷ [])))
    (a, (b, (c, (d, (e, (f, tt)))))))
