-- Somebody is live behind jobs that are done.
use Rattle.std.proofs.Common.{◌≡◌, ◌≢◌, ◌<◌, List, [], ◌∷◌, Option, subst, sym, ap, rules}
use Rattle.sc_lineage.specs.ScriptData.{WorkData}
use Rattle.sc_core.specs.CoreData.{CoreData}
use Rattle.sc_core.specs.Openings.{tracker_behind}
use Rattle.sc_core.specs.Sound.{HasLive}
use Rattle.sc_core.specs.declared.answers.Abort.TheVariants.{NoExecutor}
use Rattle.sc_core.specs.declared.answers.JobState.TheVariants as jobs
use Rattle.sc_core.specs.declared.journals.JobHistory.{JobHistory}
use Rattle.sc_core.proofs.LawLemmas.{replays_keep_sound}
use Rattle.sc_core.proofs.StaffLemmas.{first_has_live}
use Rattle.sc_context.specs.Histories.{HasCome, IsDone}
use Rattle.sc_context.specs.Progress.{Progress, first_progress}

module _ (work : WorkData) where
  abbrev LiveBehind : Option CoreData → Type 0
  LiveBehind last = HasLive (tracker_behind last work.limits)

  done_live : (p after : Progress) (tried : Option JobHistory) (h : JobHistory)
      → IsDone work p tried h after → LiveBehind after.last
  done_live p after tried h done =
      subst LiveBehind (sym (ap (λ (q : Progress). q.last) done.behind))
      ((replays_keep_sound h.opening h.end h.entries.items done.is.began done.is.replays).staffed
      (not_aborted h.end done.done))
    where
      not_aborted : (end : CoreData) → end.job ≡ jobs.Done → end.job ≢ jobs.Aborted NoExecutor
      not_aborted end is e = absurd (search (rules, is, e))

  come_live : (p after : Progress) (hs given_up : List JobHistory) → LiveBehind p.last
      → HasCome work p hs given_up after → LiveBehind after.last
  come_live p after [] given_up live is =
      subst LiveBehind (sym (ap (λ (q : Progress). q.last) is.0)) live
  come_live p after (h ∷ hs) given_up live come =
      come_live come.mid after hs come.rest (done_live p come.mid come.tried h come.done) come.then

  -- and before the first one, where there are executors
  pub live_behind : (p : Progress) (hs given_up : List JobHistory) → 0 < work.limits.executors
      → HasCome work (first_progress work) hs given_up p → LiveBehind p.last
  live_behind p hs given_up some come =
      come_live (first_progress work) p hs given_up (first_has_live work.limits some) come
