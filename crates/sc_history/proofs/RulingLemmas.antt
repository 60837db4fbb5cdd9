-- What events rule out of what is known of map outputs.
use Rattle.std.proofs.Common.{◌≡◌, ◌⊎◌, inl, inr, ℕ, ◌+◌, ◌≤◌, true, if◌then◌else◌, [], ◌∷◌, IfSome, IsSomeAnd, Option, Some, None, refl, ap, sym, subst, ◌∙◌, arith}
use Rattle.sc_ids.specs.declared.blocks.Loc.{Loc}
use Rattle.sc_tracker.specs.TrackerData.{TrackerData, trust_of}
use Rattle.sc_tracker.specs.TrackerLaws.{IsLaterTracker, IsLaterTrust}
use Rattle.sc_tracker.specs.Tracking.{after_executor_lost, after_gone, is_bogus}
use Rattle.sc_tracker.specs.declared.trust.Trust.{Trust}
use Rattle.sc_tracker.proofs.BlockLemmas.{forgets_on_one}
use Rattle.sc_tracker.proofs.TrustLemmas.{bogus_stays_bogus, calls_go_forward, older_tasks_are_bogus}
use Rattle.sc_core.specs.CoreData.{CoreData}
use Rattle.sc_core.specs.Sound.{IsSoundCore}
use Rattle.sc_core.proofs.LawLemmas.{steps_keep_sound}
use Rattle.sc_history.specs.Ruling.{BogusStays, EventsForgetAtOne, ForgetsAt, OthersForgetNone, ReplaysGoForward}
use Rattle.sc_history.specs.Trackers.{LosesOne, RegistersOwn, SeesNewer, Tracks}
use Rattle.sc_history.proofs.TrackerLemmas.{steps_count_epochs, steps_track}

-- ---- what was heard stays

later_trust : (t : Trust) → IsLaterTrust t t
later_trust t =
    record { seen = omega arith; mark = by t.mark; lost = λ h. h }
  where
    by : (m : Option ℕ) → IfSome m (λ mark. IsSomeAnd m (λ later. mark ≤ later))
    by None = tt
    by (Some mark) = omega arith

later_same : (t : TrackerData) → IsLaterTracker t t
later_same t = record { epoch = omega arith; trust = λ exec. later_trust (trust_of t exec) }

trust_then : (a b c : Trust) → IsLaterTrust a b → IsLaterTrust b c → IsLaterTrust a c
trust_then a b c h k =
    record {
      seen = (let x = h.seen in let y = k.seen in omega (arith, x, y));
      mark = marks a.mark b.mark c.mark h.mark k.mark;
      lost = λ e. k.lost (h.lost e);
    }
  where
    marks : (x y z : Option ℕ) → IfSome x (λ m. IsSomeAnd y (λ n. m ≤ n))
        → IfSome y (λ m. IsSomeAnd z (λ n. m ≤ n)) → IfSome x (λ m. IsSomeAnd z (λ n. m ≤ n))
    marks None y z h k = tt
    marks (Some m) None z h k = absurd h
    marks (Some m) (Some n) None h k = absurd k
    marks (Some m) (Some n) (Some o) h k = omega (arith, h, k)

later_then : (t u v : TrackerData) → IsLaterTracker t u → IsLaterTracker u v → IsLaterTracker t v
later_then t u v h k =
    record {
      epoch = (let x = h.epoch in let y = k.epoch in omega (arith, x, y));
      trust = λ exec. trust_then (trust_of t exec) (trust_of u exec) (trust_of v exec)
          (h.trust exec) (k.trust exec);
    }

tracks_forward : (c : CoreData) (u : TrackerData) → IsSoundCore c → Tracks c u
    → IsLaterTracker c.dag.tracker u
tracks_forward c u sound (inl same) =
    subst (λ x. IsLaterTracker c.dag.tracker x) (sym same) (later_same c.dag.tracker)
tracks_forward c u sound (inr (inl r)) =
    subst (λ x. IsLaterTracker c.dag.tracker x) (sym r.is)
    ((calls_go_forward c.dag.tracker sound.job.dag.tracker).1 r.block r.loc)
tracks_forward c u sound (inr (inr (inl s))) =
    subst (λ x. IsLaterTracker c.dag.tracker x) (sym s.is)
    ((calls_go_forward c.dag.tracker sound.job.dag.tracker).2 s.exec s.found)
tracks_forward c u sound (inr (inr (inr l))) =
    subst (λ x. IsLaterTracker c.dag.tracker x) (sym l.is)
    ((calls_go_forward c.dag.tracker sound.job.dag.tracker).3 l.exec)

pub replays_go_forward : ReplaysGoForward
replays_go_forward opening end [] sound is =
    subst (λ (x : CoreData). IsLaterTracker opening.dag.tracker x.dag.tracker) (sym is)
    (later_same opening.dag.tracker)
replays_go_forward opening end (entry ∷ entries) sound (mid, step, rest) =
    later_then opening.dag.tracker mid.dag.tracker end.dag.tracker
    (tracks_forward opening mid.dag.tracker sound
    (steps_track opening mid entry.event entry.answer sound step))
    (replays_go_forward mid end entries
    (steps_keep_sound opening mid entry.event entry.answer sound step) rest)

pub bogus_stays : BogusStays
bogus_stays opening end entries loc epoch sound replays bogus =
    bogus_stays_bogus opening.dag.tracker end.dag.tracker loc epoch
    (replays_go_forward opening end entries sound replays) bogus

-- ---- what is forgotten

sees_at : (t u : TrackerData) → SeesNewer t u → ForgetsAt t u
sees_at t u s =
    subst (ForgetsAt t) (sym s.is)
    (record {
      exec = s.exec;
      outputs = λ block. (forgets_on_one t s.exec block).0 s.found s.newer;
      older = λ loc epoch at le. older loc epoch at le;
    })
  where
    older : (loc : Loc) (epoch : ℕ) → loc.exec ≡ s.exec → epoch ≤ t.epoch
        → is_bogus (after_gone t s.exec s.found) loc epoch ≡ true
    older loc epoch at le =
        subst (λ (e : ℕ). is_bogus (after_gone t e s.found) loc epoch ≡ true) at
        ((older_tasks_are_bogus t loc epoch le).0 s.found (rw at s.newer))

loses_at : (t u : TrackerData) → LosesOne t u → ForgetsAt t u
loses_at t u l =
    subst (ForgetsAt t) (sym l.is)
    (record {
      exec = l.exec;
      outputs = λ block. (forgets_on_one t l.exec block).1 l.live;
      older = λ loc epoch at le. older loc epoch at le;
    })
  where
    older : (loc : Loc) (epoch : ℕ) → loc.exec ≡ l.exec → epoch ≤ t.epoch
        → is_bogus (after_executor_lost t l.exec) loc epoch ≡ true
    older loc epoch at le =
        subst (λ (e : ℕ). is_bogus (after_executor_lost t e) loc epoch ≡ true) at
        ((older_tasks_are_bogus t loc epoch le).1 (rw at l.live))

pub events_forget_at_one : EventsForgetAtOne
events_forget_at_one c after event answer sound step is_so =
    by (steps_track c after event answer sound step)
  where
    one_more : after.dag.tracker.epoch ≡ c.dag.tracker.epoch + 1
    one_more =
        steps_count_epochs c after event answer sound step
        ∙ ap (λ b. c.dag.tracker.epoch + (if b then 1 else 0)) is_so

    not_same : after.dag.tracker.epoch ≡ c.dag.tracker.epoch → ⊥
    not_same same = omega (arith, same, one_more)

    by : Tracks c after.dag.tracker → ForgetsAt c.dag.tracker after.dag.tracker
    by (inl same) = absurd (not_same (ap (λ (t : TrackerData). t.epoch) same))
    by (inr (inl r)) = absurd (not_same (ap (λ (t : TrackerData). t.epoch) r.is))
    by (inr (inr (inl s))) = sees_at c.dag.tracker after.dag.tracker s
    by (inr (inr (inr l))) = loses_at c.dag.tracker after.dag.tracker l

pub others_forget_none : OthersForgetNone
others_forget_none c after event answer sound step not_so =
    by (steps_track c after event answer sound step)
  where
    as_many : after.dag.tracker.epoch ≡ c.dag.tracker.epoch + 0
    as_many =
        steps_count_epochs c after event answer sound step
        ∙ ap (λ b. c.dag.tracker.epoch + (if b then 1 else 0)) not_so

    not_more : after.dag.tracker.epoch ≡ c.dag.tracker.epoch + 1 → ⊥
    not_more more = omega (arith, more, as_many)

    by : Tracks c after.dag.tracker
        → (after.dag.tracker ≡ c.dag.tracker) ⊎ RegistersOwn c after.dag.tracker
    by (inl same) = inl same
    by (inr (inl r)) = inr r
    by (inr (inr (inl s))) =
        absurd (not_more (ap (λ (t : TrackerData). t.epoch) s.is ∙ (rw s.newer refl)))
    by (inr (inr (inr l))) =
        absurd (not_more (ap (λ (t : TrackerData). t.epoch) l.is ∙ (rw l.live refl)))
