-- Worlds that steps lead to.
use Rattle.std.proofs.Common.{◌≡◌, ℕ, ◌<◌, true, List, [], ◌∷◌, ◌++◌, Option, get_or, length, take, ◌+◌, refl, ap, subst, sym, ◌∙◌}
use Rattle.std.proofs.lemmas.List.{take_more}
use Rattle.sc_ids.specs.declared.blocks.Loc.{Loc}
use Rattle.sc_lineage.specs.ScriptData.{WorkData}
use Rattle.sc_core.specs.declared.answers.Answer.{Answer}
use Rattle.sc_core.specs.declared.answers.Answer.TheVariants as says
use Rattle.sc_core.specs.declared.events.Event.{Event}
use Rattle.sc_ids.specs.declared.attempts.Mark.{Mark}
use Rattle.sc_plan.specs.declared.orders.Order.{Order}
use Rattle.sc_store.specs.declared.answers.WipeAnswer.{WipeAnswer}
use Rattle.sc_desk.specs.DeskData.{DeskData}
use Rattle.sc_desk.specs.Dues.{IsOrderedIf}
use Rattle.sc_desk.specs.Entries.{Enters}
use Rattle.sc_desk.specs.Sound.{IsSoundDesk}
use Rattle.sc_world.specs.Runs.{Reaches, Runs}
use Rattle.sc_world.specs.Serial.{GoesOn, IsSameJob}
use Rattle.sc_world.specs.Steps.{Computes, EvictsOne, Goes, HandsOrder, LosesOne, Posts, Puts, Reads, ReleasesOne, Takes, WipesOne, given_to}
use Rattle.sc_world.specs.WorldData.{WorldData}
use Rattle.sc_world.specs.declared.steps.Applied.{Applied}
use Rattle.sc_world.specs.declared.steps.Applied.TheVariants as applied
use Rattle.sc_world.specs.declared.steps.Kept.{Kept}
use Rattle.sc_world.specs.declared.steps.Step.{Step}
use Rattle.sc_world.specs.declared.steps.Step.TheVariants as steps

-- ---- runs

pub runs_then : (work : WorkData) (w mid after : WorldData) (xs ys : List Step)
    (qs bs : List Applied) → Runs work w xs qs mid → Runs work mid ys bs after
    → Runs work w (xs ++ ys) (qs ++ bs) after
runs_then work w mid after [] ys [] bs is rest =
    subst (λ x. Runs work x ys bs after) is rest
runs_then work w mid after (x ∷ xs) ys (a ∷ qs) bs (next, goes, sound, runs) rest =
    (next, goes, sound, runs_then work next mid after xs ys qs bs runs rest)
runs_then work w mid after [] ys (a ∷ qs) bs bad rest = absurd bad
runs_then work w mid after (x ∷ xs) ys [] bs bad rest = absurd bad

pub runs_one : (work : WorkData) (w after : WorldData) (step : Step) (answer : Applied)
    → Goes work w step answer after → IsSoundDesk work after.desk
    → Runs work w (step ∷ []) (answer ∷ []) after
runs_one work w after step answer goes sound = (after, goes, sound, refl)

-- one more step of some, of which so many were done
pub runs_more : (work : WorkData) (w mid after : WorldData) (xs done : List Step)
    (qs : List Applied) (step : Step) (answer : Applied) → Runs work w done qs mid
    → Goes work mid step answer after → IsSoundDesk work after.desk
    → Runs work w (done ++ step ∷ []) (qs ++ answer ∷ []) after
runs_more work w mid after xs done qs step answer runs goes sound =
    runs_then work w mid after done (step ∷ []) qs (answer ∷ []) runs
    (runs_one work mid after step answer goes sound)

-- the same where the steps are the first of some
pub runs_next : (work : WorkData) (w mid after : WorldData) (xs : List Step) (i : ℕ) (d : Step)
    (qs more : List Applied) (answer : Applied) → i < length xs → Runs work w (take i xs) qs mid
    → Goes work mid (get_or xs i d) answer after → IsSoundDesk work after.desk
    → more ≡ qs ++ answer ∷ [] → Runs work w (take (i + 1) xs) more after
runs_next work w mid after xs i d qs more answer lt runs goes sound is =
    rw (take_more xs i d lt, is)
    (runs_more work w mid after xs (take i xs) qs (get_or xs i d) answer runs goes sound)

-- ---- worlds that are reached

pub reached : (work : WorkData) (w : WorldData) → Reaches work w w
reached work w = record { steps = []; answers = []; runs = refl }

pub reached_by : (work : WorkData) (w after : WorldData) (step : Step) (answer : Applied)
    → Goes work w step answer after → IsSoundDesk work after.desk → Reaches work w after
reached_by work w after step answer goes sound =
    record {
      steps = step ∷ [];
      answers = answer ∷ [];
      runs = runs_one work w after step answer goes sound;
    }

pub reached_then : (work : WorkData) (w mid after : WorldData) → Reaches work w mid
    → Reaches work mid after → Reaches work w after
reached_then work w mid after a b =
    record {
      steps = a.steps ++ b.steps;
      answers = a.answers ++ b.answers;
      runs = runs_then work w mid after a.steps b.steps a.answers b.answers a.runs b.runs;
    }

-- the same by a step that lets the desk as it is
reached_beside : (work : WorkData) (w after : WorldData) (step : Step) (answer : Applied)
    → Goes work w step answer after → after.desk ≡ w.desk → IsSoundDesk work w.desk
    → Reaches work w after
reached_beside work w after step answer goes is sound =
    reached_by work w after step answer goes (subst (IsSoundDesk work) (sym is) sound)

-- ---- a job that goes on

pub stays : (work : WorkData) (w : WorldData) → GoesOn work w w
stays work w =
    record {
      reaches = reached work w;
      same = record { job = refl; opening = refl; carried = refl };
    }

pub goes_then : (work : WorkData) (w mid after : WorldData) → GoesOn work w mid
    → GoesOn work mid after → GoesOn work w after
goes_then work w mid after a b =
    record {
      reaches = reached_then work w mid after a.reaches b.reaches;
      same = record {
        job = b.same.job ∙ a.same.job;
        opening = b.same.opening ∙ a.same.opening;
        carried = b.same.carried ∙ a.same.carried;
      };
    }

-- the same job, where the desk is the same
same_desk : (w after : WorldData) → after.desk ≡ w.desk → IsSameJob w after
same_desk w after e =
    record {
      job = ap (λ (d : DeskData). d.job) e;
      opening = ap (λ (d : DeskData). d.journal.opening) e;
      carried = ap (λ (d : DeskData). d.carried) e;
    }

-- and where something was entered there
same_entered : (w after : WorldData) (desk : DeskData) (by : Mark) (event : Event)
    (answer : Answer) → Enters w.desk by event answer desk → after.desk ≡ desk
    → IsSameJob w after
same_entered w after desk by event answer enters e =
    record {
      job = ap (λ (d : DeskData). d.job) e ∙ enters.job;
      opening = ap (λ (d : DeskData). d.journal.opening) e ∙ enters.opening;
      carried = ap (λ (d : DeskData). d.carried) e ∙ enters.carried;
    }

pub given_desk : (w : WorldData) (exec : ℕ) (desk : DeskData) (answer : Answer)
    → (given_to w exec desk answer).desk ≡ desk
given_desk w exec desk (says.Task h) = refl
given_desk w exec desk (says.Wait out) = refl
given_desk w exec desk (says.Busy held) = refl
given_desk w exec desk says.Lost = refl
given_desk w exec desk (says.Stopped first) = refl
given_desk w exec desk says.Ended = refl
given_desk w exec desk (says.Aborted why) = refl
given_desk w exec desk says.Ignored = refl
given_desk w exec desk says.Told = refl
given_desk w exec desk says.Shelved = refl
given_desk w exec desk says.Repeated = refl
given_desk w exec desk says.Registered = refl
given_desk w exec desk says.Bogus = refl
given_desk w exec desk says.Finished = refl
given_desk w exec desk says.Again = refl
given_desk w exec desk says.Resubmitted = refl
given_desk w exec desk (says.Side said) = refl

pub takes_on : (work : WorkData) (w after : WorldData) (exec : ℕ) (answer : Answer)
    → exec < length w.held → Takes w exec answer after → IsSoundDesk work after.desk
    → GoesOn work w after
takes_on work w after exec answer there r sound =
    record {
      reaches = reached_by work w after (steps.Take exec) (applied.Told answer) (there, r) sound;
      same = same_entered w after r.desk _ _ answer r.enters
          (ap (λ (x : WorldData). x.desk) r.is ∙ given_desk w exec r.desk answer);
    }

pub reads_on : (work : WorkData) (w after : WorldData) (exec : ℕ) → Reads w exec after
    → IsSoundDesk work w.desk → GoesOn work w after
reads_on work w after exec r sound =
    let is = ap (λ (x : WorldData). x.desk) r.is in
    record {
      reaches = reached_beside work w after (steps.Read exec) applied.Done r is sound;
      same = same_desk w after is;
    }

pub computes_on : (work : WorkData) (w after : WorldData) (exec : ℕ) (kept : Kept)
    → Computes work w exec kept after → IsSoundDesk work w.desk → GoesOn work w after
computes_on work w after exec kept r sound =
    let is = ap (λ (x : WorldData). x.desk) r.is in
    record {
      reaches = reached_beside work w after (steps.Compute exec) (applied.Computed kept) r is
          sound;
      same = same_desk w after is;
    }

pub puts_on : (work : WorkData) (w after : WorldData) (exec : ℕ) (loc : Loc)
    → Puts work w exec loc after → IsSoundDesk work w.desk → GoesOn work w after
puts_on work w after exec loc r sound =
    let is = ap (λ (x : WorldData). x.desk) r.is in
    record {
      reaches = reached_beside work w after (steps.Put exec) (applied.Put loc) r is sound;
      same = same_desk w after is;
    }

pub posts_on : (work : WorkData) (w after : WorldData) (exec : ℕ) (answer : Answer)
    → Posts work w exec answer after → IsSoundDesk work after.desk → GoesOn work w after
posts_on work w after exec answer r sound =
    record {
      reaches = reached_by work w after (steps.Post exec) (applied.Told answer) r sound;
      same = same_entered w after r.desk _ _ r.receipt.answer r.receives.enters
          (ap (λ (x : WorldData). x.desk) r.is);
    }

pub releases_on : (work : WorkData) (w after : WorldData) (key : ℕ) (answer : Answer)
    → ReleasesOne w key answer after → IsSoundDesk work after.desk → GoesOn work w after
releases_on work w after key answer r sound =
    record {
      reaches = reached_by work w after (steps.Release key) (applied.Told answer) r sound;
      same = same_entered w after r.desk _ _ r.receipt.answer r.releases.enters
          (ap (λ (x : WorldData). x.desk) r.is);
    }

pub loses_on : (work : WorkData) (w after : WorldData) (exec : ℕ) (answer : Answer)
    → LosesOne w exec answer after → IsSoundDesk work after.desk → GoesOn work w after
loses_on work w after exec answer r sound =
    record {
      reaches = reached_by work w after (steps.TellLost exec) (applied.Told answer) r sound;
      same = same_entered w after r.desk _ _ r.receipt.answer r.tells.enters
          (ap (λ (x : WorldData). x.desk) r.is);
    }

pub wipes_on : (work : WorkData) (w after : WorldData) (order : Order) (answer : WipeAnswer)
    → WipesOne work w order answer after → IsSoundDesk work w.desk → GoesOn work w after
wipes_on work w after order answer r sound =
    let is = ap (λ (x : WorldData). x.desk) r.is in
    record {
      reaches = reached_beside work w after (steps.Wipe order) (applied.Wipe answer) r is sound;
      same = same_desk w after is;
    }

pub evicts_on : (work : WorkData) (w after : WorldData) (exec : ℕ) → EvictsOne w exec after
    → IsSoundDesk work w.desk → GoesOn work w after
evicts_on work w after exec r sound =
    let is = ap (λ (x : WorldData). x.desk) r.is in
    record {
      reaches = reached_beside work w after (steps.Evict exec) applied.Done r is sound;
      same = same_desk w after is;
    }

pub orders_on : (work : WorkData) (w after : WorldData) (order : Option Order)
    → HandsOrder work w order after → IsSoundDesk work after.desk → GoesOn work w after
orders_on work w after order r sound =
    record {
      reaches = reached_by work w after steps.NextOrder (applied.Ordered order) r sound;
      same = by (subst (λ b. IsOrderedIf b work w.desk order r.desk) r.runs r.ordered);
    }
  where
    by : IsOrderedIf true work w.desk order r.desk → IsSameJob w after
    by (next, is) =
        let e = ap (λ (x : WorldData). x.desk) r.is ∙ is in
        record {
          job = ap (λ (d : DeskData). d.job) e;
          opening = ap (λ (d : DeskData). d.journal.opening) e;
          carried = ap (λ (d : DeskData). d.carried) e;
        }
