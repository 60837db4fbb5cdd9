-- What the tracker hears leaves the epochs of tasks as telling as they were.
use Rattle.std.proofs.Common.{◌≡◌, ◌⊎◌, inl, inr, ℕ, ◌<◌, ◌≤◌, ◌==◌, Bool, true, false, List, length, Option, Some, None, slice_get, refl, ap, sym, subst, ◌∙◌, arith, true≢false}
use Rattle.std.proofs.lemmas.Bool.Decides.{nat_tests}
use Rattle.std.proofs.lemmas.Option.{slice_get_within}
use Rattle.sc_ids.specs.Changes.{change_at}
use Rattle.sc_ids.specs.declared.blocks.Loc.{Loc}
use Rattle.sc_ids.proofs.ChangeLemmas.{at_or_change_other, at_or_change_same}
use Rattle.sc_tracker.specs.TrackerData.{TrackerData}
use Rattle.sc_tracker.specs.Trust.{is_live, is_marked, is_newer, lost_at, seen_at, trust_at, untold}
use Rattle.sc_tracker.specs.declared.trust.Trust.{Trust}
use Rattle.sc_core.specs.CoreData.{CoreData}
use Rattle.sc_net.specs.declared.findings.Finding.{Finding}
use Rattle.sc_net.specs.declared.findings.Finding.TheVariants as findings
use Rattle.sc_task.specs.Attempts.{AttemptData, assigned, computed, granted, reported, staged, stored, task_of}
use Rattle.sc_history.specs.Trackers.{Tracks}
use Rattle.sc_epochs.specs.Found.{HoldsFound, IsFoundByEpoch, TellsFound}

-- what was heard of an executor finds an output
abbrev FoundIn : Trust → ℕ → ℕ → Type 0
FoundIn heard epoch generation =
    (heard.seen ≤ generation) ⊎ (is_marked heard.mark epoch ≡ true)

-- an executor is marked by an epoch that isn't behind the task's
marked_in : (trust : List Trust) (exec e epoch mark generation : ℕ) (f : Trust → Trust)
    → exec < length trust → ((x : Trust) → (f x).mark ≡ Some mark) → epoch ≤ mark
    → FoundIn (trust_at trust e) epoch generation
    → FoundIn (trust_at (change_at trust exec f) e) epoch generation
marked_in trust exec e epoch mark generation f lt marks le h = by (exec == e) refl
  where
    here : is_marked (trust_at (change_at trust exec f) exec).mark epoch ≡ true
    here =
        ap (λ (x : Trust). is_marked x.mark epoch) (at_or_change_same trust exec untold f lt)
        ∙ ap (λ m. is_marked m epoch) (marks (trust_at trust exec))
        ∙ grind (arith, nat_tests, le)

    by : (b : Bool) → (exec == e) ≡ b
        → FoundIn (trust_at (change_at trust exec f) e) epoch generation
    by true q =
        let is : exec ≡ e = grind (arith, nat_tests, q) in
        subst (λ (n : ℕ). FoundIn (trust_at (change_at trust exec f) n) epoch generation) is
        (inr here)
    by false q =
        rw (at_or_change_other trust exec e untold f (λ is. grind (arith, nat_tests, q, is))) h

newer_there : (trust : List Trust) (exec found : ℕ)
    → is_newer (slice_get trust exec) found ≡ true → exec < length trust
newer_there trust exec found e = by (slice_get trust exec) refl e
  where
    by : (o : Option Trust) → slice_get trust exec ≡ o → is_newer o found ≡ true
        → exec < length trust
    by None at h = absurd (true≢false (sym h))
    by (Some x) at h = slice_get_within trust exec x at

live_there : (trust : List Trust) (exec : ℕ) → is_live (slice_get trust exec) ≡ true
    → exec < length trust
live_there trust exec e = by (slice_get trust exec) refl e
  where
    by : (o : Option Trust) → slice_get trust exec ≡ o → is_live o ≡ true → exec < length trust
    by None at h = absurd (true≢false (sym h))
    by (Some x) at h = slice_get_within trust exec x at

pub found_later : (c : CoreData) (after : TrackerData) (epoch : ℕ) (loc : Loc) → Tracks c after
    → epoch ≤ c.dag.tracker.epoch → IsFoundByEpoch c.dag.tracker epoch loc
    → IsFoundByEpoch after epoch loc
found_later c after epoch loc (inl is) le h =
    subst (λ t. IsFoundByEpoch t epoch loc) (sym is) h
found_later c after epoch loc (inr (inl r)) le h =
    subst (λ t. IsFoundByEpoch t epoch loc) (sym r.is) h
found_later c after epoch loc (inr (inr (inl s))) le h =
    let t = c.dag.tracker in
    subst (λ t. IsFoundByEpoch t epoch loc) (sym s.is)
    (rw (s.newer) (marked_in t.trust s.exec loc.exec epoch t.epoch loc.generation
    (seen_at s.found t.epoch) (newer_there t.trust s.exec s.found s.newer) (λ x. refl) le h))
found_later c after epoch loc (inr (inr (inr l))) le h =
    let t = c.dag.tracker in
    subst (λ t. IsFoundByEpoch t epoch loc) (sym l.is)
    (rw (l.live) (marked_in t.trust l.exec loc.exec epoch t.epoch loc.generation
    (lost_at t.epoch) (live_there t.trust l.exec l.live) (λ x. refl) le h))

pub tells_later : (c : CoreData) (after : TrackerData) (epoch : ℕ) (finding : Finding)
    → Tracks c after → epoch ≤ c.dag.tracker.epoch → TellsFound c.dag.tracker epoch finding
    → TellsFound after epoch finding
tells_later c after epoch (findings.Map loc) tracks le h =
    found_later c after epoch loc tracks le h
tells_later c after epoch (findings.Result given) tracks le h = tt
tells_later c after epoch findings.Planned tracks le h = tt
tells_later c after epoch (findings.Raised raise) tracks le h = tt
tells_later c after epoch (findings.Gone on wanted found) tracks le h = tt
tells_later c after epoch (findings.Metadata last) tracks le h = tt
tells_later c after epoch (findings.Device fault) tracks le h = tt
tells_later c after epoch findings.Denied tracks le h = tt

pub holds_later : (c : CoreData) (after : TrackerData) (a : AttemptData) → Tracks c after
    → (task_of a).hand_out.epoch ≤ c.dag.tracker.epoch → HoldsFound c.dag.tracker a
    → HoldsFound after a
holds_later c after (assigned task got) tracks le h = tt
holds_later c after (computed task) tracks le h = tt
holds_later c after (stored task loc) tracks le h =
    found_later c after task.hand_out.epoch loc tracks le h
holds_later c after (staged task) tracks le h = tt
holds_later c after (granted task) tracks le h = tt
holds_later c after (reported task finding) tracks le h =
    tells_later c after task.hand_out.epoch finding tracks le h
