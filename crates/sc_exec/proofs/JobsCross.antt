-- Stores, jobs, tasks, reports and desks may cross threads.
use denote.RattleType.{RattleType}
use denote.Param.Send.{IsSend, IsSync, sendable}
use Rattle.std.proofs.Crossing.{crosses}
use Rattle.std.proofs.collections.HashMap.TheSendSync as maps
use Rattle.lru.proofs.LruCache.TheSendSync as lru
use Rattle.sc_value.proofs.held.Held.TheSendSync as held
use Rattle.sc_value.proofs.text.Text.TheSendSync as text
use Rattle.sc_core.proofs.cores.Core.TheSendSync as core_sent
use Rattle.sc_core.specs.contracts.answers.Answer as answer
use Rattle.sc_core.specs.contracts.cores.Core as core
use Rattle.sc_core.specs.contracts.entries.Entry as entry
use Rattle.sc_core.specs.contracts.events.Event as event
use Rattle.sc_core.specs.contracts.journals.Journal as journal
use Rattle.sc_core.specs.contracts.running.HandOut as hand_out
use Rattle.sc_compute.specs.contracts.results.TaskResult as result
use Rattle.sc_desk.specs.contracts.desks.Desk as desk
use Rattle.sc_desk.specs.contracts.journals.DeskJournal as desk_journal
use Rattle.sc_desk.specs.contracts.orders.Orders as orders
use Rattle.sc_jobs.specs.contracts.jobs.Job as job
use Rattle.sc_jobs.specs.contracts.jobs.Plan as plan
use Rattle.sc_net.specs.contracts.findings.Finding as finding
use Rattle.sc_net.specs.contracts.reports.Report as report
use Rattle.sc_net.specs.contracts.shelved.ShelvedReport as shelved
use Rattle.sc_net.specs.contracts.tasks.Task as task
use Rattle.sc_part.specs.contracts.ranges.Bounds as bounds
use Rattle.sc_stagecut.specs.contracts.carried.Carried as carried
use Rattle.sc_store.specs.contracts.store.Store as store
use Rattle.sc_work.specs.contracts.shared.SharedWork as shared
use Rattle.sc_work.specs.declared.naming.Naming.{Ghosts}
use Rattle.sc_exec.proofs.WorksCross.{action_field_send, action_field_sync, output_send, rows_send, work_send, work_sync}

ruleset known = (held.the_send, held.the_sync, text.the_send, text.the_sync, crosses, sendable)

-- ---- stores

pub shared_send : (W : RattleType) (g : Ghosts W.Denot) → IsSend W → IsSend (shared.the_row W g)
shared_send W g s = search (work_send, work_sync, crosses, sendable) depth 60 fits 20000

pub store_send : (W : RattleType) (g : Ghosts W.Denot) → IsSend W → IsSend (store.the_row W g)
store_send W g s =
    search (shared_send, output_send, rows_send, maps.the_send, lru.the_send, crosses, sendable)
    depth 60 fits 20000

-- ---- jobs

bounds_send : IsSend bounds.the_row
bounds_send = search known depth 60 fits 20000

bounds_sync : IsSync bounds.the_row
bounds_sync = search known depth 60 fits 20000

plan_send : IsSend plan.the_row
plan_send =
    search (bounds_send, action_field_send, crosses, sendable) depth 60 fits 20000

plan_sync : IsSync plan.the_row
plan_sync =
    search (bounds_sync, action_field_sync, crosses, sendable) depth 60 fits 20000

pub job_send : (W : RattleType) (g : Ghosts W.Denot) → IsSend W → IsSend (job.the_row W g)
job_send W g s = search (plan_send, plan_sync, crosses, sendable) depth 60 fits 20000

-- ---- tasks and reports

hand_out_send : IsSend hand_out.the_row
hand_out_send = search (crosses, sendable) depth 60 fits 20000

pub task_send : (W : RattleType) (g : Ghosts W.Denot) → IsSend W → IsSend (task.the_row W g)
task_send W g s =
    search (shared_send, job_send, hand_out_send, crosses, sendable) depth 60 fits 20000

result_send : IsSend result.the_row
result_send = search (rows_send, crosses, sendable) depth 60 fits 20000

finding_field_send : IsSend (finding.the_field).row
finding_field_send = search (rows_send, crosses, sendable) depth 60 fits 20000

pub report_send : (W : RattleType) (g : Ghosts W.Denot) → IsSend W → IsSend (report.the_row W g)
report_send W g s =
    search (task_send, finding_field_send, crosses, sendable) depth 60 fits 20000

pub shelved_send : (R : RattleType) → IsSend R → IsSend (shelved.the_row R)
shelved_send R s = search (crosses, sendable) depth 60 fits 20000

-- ---- desks

carried_send : IsSend carried.the_row
carried_send = search (bounds_send, crosses, sendable) depth 60 fits 20000

orders_send : IsSend orders.the_row
orders_send = search (crosses, sendable) depth 60 fits 20000

core_send : IsSend core.the_row
core_send = core_sent.the_send

answer_field_send : IsSend (answer.the_field).row
answer_field_send = search (hand_out_send, crosses, sendable) depth 60 fits 20000

event_field_send : IsSend (event.the_field).row
event_field_send = search (crosses, sendable) depth 60 fits 20000

-- what happened, by whom, and what it was answered
pub entry_send : IsSend entry.the_row
entry_send =
    search (answer_field_send, event_field_send, crosses, sendable) depth 60 fits 20000

journal_send : IsSend journal.the_row
journal_send = search (core_send, entry_send, crosses, sendable) depth 60 fits 20000

desk_journal_send : IsSend desk_journal.the_row
desk_journal_send = search (journal_send, crosses, sendable) depth 60 fits 20000

pub desk_send : (W : RattleType) (g : Ghosts W.Denot) → IsSend W → IsSend (desk.the_row W g)
desk_send W g s =
    search (
      shared_send,
      job_send,
      report_send,
      shelved_send,
      carried_send,
      orders_send,
      desk_journal_send,
      result_send,
      crosses,
      sendable,
    )
    depth 60 fits 20000
