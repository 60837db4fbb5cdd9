-- The laws of cores, by those of the stages of a job.
use Rattle.sc_dag.proofs.CalmCalls.{others_go_on}
use Rattle.sc_dag.proofs.GoingOn.{failures_go_on}
use Rattle.sc_dag.proofs.Looking.{submissions_agree}
use Rattle.sc_dag.proofs.MapsGoOn.{map_successes_go_on}
use Rattle.sc_dag.proofs.Opening as dag
use Rattle.sc_dag.proofs.ResultsGoOn.{result_successes_go_on}
use Rattle.sc_dag.proofs.Settling.{submissions_settle}
use Rattle.sc_dag.proofs.SoundCalls.{calls_keep_sound}
use Rattle.sc_dag.proofs.Stuck.{nothing_is_stuck}
use Rattle.sc_core.specs.Laws.{AsksAreOver, EventsAreAnswered, OpeningsAreSound, ReplaysAgree, ReplaysKeepSound, SideEventsStayAside, StepsAgree, StepsKeepSound, TaskLimitsAreReached, WaitsHaveCause}
use Rattle.sc_core.proofs.AbortLemmas.{task_limits_by}
use Rattle.sc_core.proofs.AgreeLemmas.{replays_agree_by, steps_agree_by}
use Rattle.sc_core.proofs.AnswerLemmas.{answered_by}
use Rattle.sc_core.proofs.OpeningLemmas.{openings_by}
use Rattle.sc_core.proofs.OverLemmas.{over_exactly}
use Rattle.sc_core.proofs.SideLemmas.{aside_left, steps_aside}
use Rattle.sc_core.proofs.StepLemmas.{replays_keep_by, steps_keep_by}
use Rattle.sc_core.proofs.WaitLemmas.{waits_by}

pub waits_have_cause : WaitsHaveCause
waits_have_cause = waits_by nothing_is_stuck

pub events_are_answered : EventsAreAnswered
events_are_answered = answered_by calls_keep_sound others_go_on waits_have_cause

pub openings_are_sound : OpeningsAreSound
openings_are_sound = openings_by calls_keep_sound dag.openings_are_sound submissions_settle

pub steps_keep_sound : StepsKeepSound
steps_keep_sound =
    steps_keep_by calls_keep_sound map_successes_go_on result_successes_go_on failures_go_on
    others_go_on

pub replays_keep_sound : ReplaysKeepSound
replays_keep_sound = replays_keep_by steps_keep_sound

pub steps_agree : StepsAgree
steps_agree = steps_agree_by calls_keep_sound others_go_on submissions_agree

pub replays_agree : ReplaysAgree
replays_agree = replays_agree_by steps_keep_sound steps_agree

pub task_limits_are_reached : TaskLimitsAreReached
task_limits_are_reached = task_limits_by steps_keep_sound

pub asks_are_over : AsksAreOver
asks_are_over = over_exactly

pub side_events_stay_aside : SideEventsStayAside
side_events_stay_aside c after event answer step =
    let is = steps_aside c after event answer step in
    (is, aside_left c after is)
