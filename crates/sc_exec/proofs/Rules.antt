-- The lemmas that the goals of a function take, where they are several.
use Rattle.sc_exec.proofs.CrewLemmas.{unworked}
use Rattle.sc_exec.proofs.HinderLemmas.{drained_hinders, drained_reason, unheard_reason}
use Rattle.sc_exec.proofs.JobDeskLemmas.{job_opened, job_same}
use Rattle.sc_exec.proofs.LogLemmas.{log_leave, log_post, said_post}
use Rattle.sc_exec.proofs.OwedLemmas.{fresh_works, leaves_cause, leaves_told, moves_owed, posts_owed, stages_owed}
use Rattle.sc_exec.proofs.ReceiptLemmas.{post_before, post_begins, post_found, post_missing, post_nowhere, sent_awaits}
use Rattle.sc_exec.proofs.SendLemmas.{busy_after, drained_free, ends_free, over_busy, over_sends, sends_turn, sent_last, unheard_busy}
use Rattle.sc_exec.proofs.TurnLemmas.{works_same}

-- ---- at the desk

pub ruleset opens = (job_opened, unworked)

pub ruleset says_post = (said_post, job_same)

pub ruleset logs_post = (log_post, job_same)

pub ruleset logs_leave = (log_leave, job_same)

-- ---- in an attempt

pub ruleset stages = (stages_owed, drained_hinders)

pub ruleset moves = (moves_owed, drained_hinders)

pub ruleset hands_in = (posts_owed, drained_hinders)

pub ruleset pushes = (drained_hinders, sent_awaits, works_same)

-- ---- in a turn

pub ruleset finds_post = (post_begins, post_found, post_missing, post_before, post_nowhere)

pub ruleset begins = (drained_reason, unheard_reason, drained_free, unheard_busy)

pub ruleset follows = (ends_free, over_busy, over_sends, sends_turn)

pub ruleset leaves = (leaves_cause, leaves_told)

pub ruleset works = (fresh_works, busy_after, sent_last)
