-- What a report leaves that is told to its attempt, or to nobody where that runs no more.
use Rattle.std.proofs.Common.{◌≡◌, ◌⊎◌, inl, not, All, true, false, List, [], ◌∷◌, Option, Some, None, refl, ap, sym, subst}
use Rattle.std.specs.List.{filter}
use Rattle.std.proofs.lemmas.List.Elements.{All-head, All-tail}
use Rattle.sc_ids.specs.declared.attempts.AttemptId.{AttemptId}
use Rattle.sc_taskset.proofs.FindLemmas.{found_passes}
use Rattle.sc_base.specs.Counts.{counted}
use Rattle.sc_core.specs.CoreData.{CoreData, is_of, job_runs, running_of, taken_off}
use Rattle.sc_core.specs.Posts.{is_save}
use Rattle.sc_core.specs.Sound.{was_given}
use Rattle.sc_core.specs.Tells.{TellsTo}
use Rattle.sc_core.specs.declared.answers.Answer.{Answer}
use Rattle.sc_core.specs.declared.events.Outcome.{Outcome}
use Rattle.sc_core.specs.declared.running.Running.{Running}
use Rattle.sc_core.proofs.LeftLemmas.{Left, tells_left}
use Rattle.sc_core.proofs.LookupLemmas.{same_is}
use Rattle.sc_core.proofs.RunningLemmas.{none_passes}
use Rattle.sc_world.specs.Tracks.{Learns, Tracks, own_block}
use Rattle.sc_world.proofs.TrackLemmas.{reports_move_trackers}

-- what is left once a report of an attempt is told: it runs no more, and the tracker learns at most
-- what the report says
pub record IsTold (c : CoreData) (a : AttemptId) (outcome : Outcome) (after : CoreData) : Type 0
  where
    pub stages : after.dag.stages ≡ c.dag.stages
    pub tracker : (after.dag.tracker ≡ c.dag.tracker)
        ⊎ Learns c.dag.tracker (own_block c a) outcome after.dag.tracker
    pub running : after.running ≡ filter (λ r. not (is_of a r)) c.running
    pub told : after.told ≡ counted c.told
    pub given : (b : AttemptId) → was_given c.dag b ≡ true → was_given after.dag b ≡ true
    pub stays : after.left_first ≡ c.left_first
    pub saves : is_save after.committers ≡ is_save c.committers
    pub runs : job_runs after ≡ true → job_runs c ≡ true

-- an attempt that doesn't run isn't taken away
none_off : (a : AttemptId) (running : List Running) → All (λ r. is_of a r ≡ false) running
    → filter (λ r. not (is_of a r)) running ≡ running
none_off a [] all = refl
none_off a (r ∷ rs) all =
    rw (All-head (λ q. is_of a q ≡ false) r rs all)
    (ap (λ xs. r ∷ xs) (none_off a rs (All-tail (λ q. is_of a q ≡ false) r rs all)))

pub told_is : (c after : CoreData) (a : AttemptId) (outcome : Outcome) (answer : Answer)
    → TellsTo (running_of c a) c a outcome answer after → IsTold c a outcome after
told_is c after a outcome answer tells = by (running_of c a) refl tells
  where
    by : (o : Option Running) → running_of c a ≡ o → TellsTo o c a outcome answer after
        → IsTold c a outcome after
    by None e (says, is) =
        subst (λ x. IsTold c a outcome x) (sym is)
        (record {
          stages = refl;
          tracker = inl refl;
          running = sym (none_off a c.running (none_passes (is_of a) c.running e));
          told = refl;
          given = λ b g. g;
          stays = refl;
          saves = refl;
          runs = λ r. r;
        })
    by (Some r) e h =
        let own : r.hand_out.attempt ≡ a =
        same_is r.hand_out.attempt a (found_passes (is_of a) c.running r e) in
        let left : Left (taken_off c a) after =
        tells_left (taken_off c a) after r outcome answer h in
        let tracks : Tracks (taken_off c a) a outcome after =
        subst (λ b. Tracks (taken_off c a) b outcome after) own
        (reports_move_trackers (taken_off c a) after r outcome answer h) in
        record {
          stages = tracks.stages;
          tracker = tracks.tracker;
          running = left.running;
          told = left.told;
          given = left.given;
          stays = tracks.stays;
          saves = tracks.saves;
          runs = left.runs;
        }
