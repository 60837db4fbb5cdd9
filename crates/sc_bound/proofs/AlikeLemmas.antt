-- No event but a hand-out changes how often a partition was handed out in a set.
use Rattle.std.proofs.Common.{◌≡◌, inl, inr, ℕ, false, Option, Some, None, refl, ap, sym, subst, ◌∙◌, true≢false}
use Rattle.sc_ids.specs.declared.blocks.Loc.{Loc}
use Rattle.sc_taskset.specs.Offers.{given_of}
use Rattle.sc_taskset.specs.TaskSetData.{TaskSetData}
use Rattle.sc_dag.specs.DagData.{DagData}
use Rattle.sc_dag.specs.Reports.{after_hold, after_map_success, map_success_of, reaches_limit_in, set_of}
use Rattle.sc_core.specs.CoreData.{CoreData}
use Rattle.sc_core.specs.Owners.{has_task}
use Rattle.sc_core.specs.Sides.{MayHold, StepsAside}
use Rattle.sc_core.specs.Sound.{IsSoundCore}
use Rattle.sc_core.specs.Steps.{Steps}
use Rattle.sc_core.specs.Takes.{Takes}
use Rattle.sc_core.specs.Tells.{Tells, TellsMap}
use Rattle.sc_core.specs.declared.answers.Answer.{Answer}
use Rattle.sc_core.specs.declared.events.Event.{Event}
use Rattle.sc_core.specs.declared.events.Event.TheVariants.{Post, Release, Side, Take, TellLost}
use Rattle.sc_core.specs.declared.events.Outcome.{Outcome}
use Rattle.sc_core.specs.declared.events.Outcome.TheVariants as outcomes
use Rattle.sc_core.specs.declared.events.SideEvent.{SideEvent}
use Rattle.sc_core.specs.declared.running.Running.{Running}
use Rattle.sc_core.proofs.SideLemmas.{steps_aside}
use Rattle.sc_core.proofs.TakeCases.{TakesSo, takes_so}
use Rattle.sc_history.specs.Budgets.{gives_task}
use Rattle.sc_history.proofs.Events.{losses_come}
use Rattle.sc_bound.specs.Numbered.{set_at}
use Rattle.sc_bound.proofs.AccountLemmas.{Steady, fewer_order, steady_held, steady_order}
use Rattle.sc_bound.proofs.EventSteps.{losses_add, result_steady}
use Rattle.sc_bound.proofs.HearLemmas.{Hearing, Hears, posts_hear, releases_hear}
use Rattle.sc_bound.proofs.KeepLemmas.{IsOrder, Slot, hold_slots, map_slots}
use Rattle.sc_bound.proofs.ReportLemmas.{FewerAll, SteadyAll, follows_slots}
use Rattle.sc_bound.proofs.SetLemmas.{Fewer}
use Rattle.sc_bound.proofs.StepLemmas.{failure_steady}

-- how often a set that may be there has handed a partition out
abbrev pub given_at : Option TaskSetData → ℕ → ℕ
given_at None p = 0
given_at (Some set) p = given_of set p

-- each set of a job has handed out as much of each partition
abbrev pub Alike : DagData → DagData → Type 0
Alike d after = (s k p : ℕ) → given_at (set_at after s k) p ≡ given_at (set_at d s k) p

alike_then : (a b c : DagData) → Alike a b → Alike b c → Alike a c
alike_then a b c h k s n p = k s n p ∙ h s n p

alike_is : (d after : DagData) → after ≡ d → Alike d after
alike_is d after is s k p = ap (λ (x : DagData). given_at (set_at x s k) p) is

pub slot_given : (R : TaskSetData → TaskSetData → Type 0) (p : ℕ) → IsOrder R p
    → (o x : Option TaskSetData) → Slot R p o x → given_at x p ≡ given_at o p
slot_given R p order None None h = refl
slot_given R p order None (Some y) h = h
slot_given R p order (Some x) None h = absurd h
slot_given R p order (Some x) (Some y) h = order.given x y h

steady_alike : (d after : DagData) → ((p : ℕ) → SteadyAll p d after) → Alike d after
steady_alike d after h s k p =
    slot_given (Steady p) p (steady_order p) (set_at d s k) (set_at after s k) (h p s k)

fewer_alike : (d after : DagData) → ((p : ℕ) → FewerAll p d after) → Alike d after
fewer_alike d after h s k p =
    slot_given (Fewer p) p (fewer_order p) (set_at d s k) (set_at after s k) (h p s k)

-- ---- reports

map_alike : (c after : CoreData) (r : Running) (loc : Loc) (answer : Answer)
    → TellsMap c r loc answer after → Alike c.dag after.dag
map_alike c after r loc answer (dag, up, told, is) =
    subst (λ (x : CoreData). Alike c.dag x.dag) (sym is)
    (alike_then c.dag mid dag
    (fewer_alike c.dag mid (λ p. map_slots (Fewer p) p (fewer_order p) c.dag r.hand_out.attempt loc
    r.hand_out.epoch c.now))
    (fewer_alike mid dag (λ p. follows_slots p
    (map_success_of c.dag r.hand_out.attempt loc r.hand_out.epoch) mid dag
    r.hand_out.attempt.stage up)))
  where
    mid : DagData
    mid = after_map_success c.dag r.hand_out.attempt loc r.hand_out.epoch c.now

hears_alike : (c after : CoreData) (event : Event) (answer : Answer) → IsSoundCore c
    → Hears c after event answer → Alike c.dag after.dag
hears_alike c after event answer sound h =
    alike_then c.dag h.mid.dag after.dag (alike_is c.dag h.mid.dag h.dag) (by h.outcome h.tells)
  where
    by : (outcome : Outcome) → Tells h.mid h.one outcome answer after
        → Alike h.mid.dag after.dag
    by (outcomes.Map loc) tells = map_alike h.mid after h.one loc answer tells
    by outcomes.Result tells =
        steady_alike h.mid.dag after.dag (λ p. result_steady h.mid after h.one answer p tells)
    by (outcomes.Failed cause) tells =
        steady_alike h.mid.dag after.dag
        (failure_steady c after event answer sound h cause
        (reaches_limit_in (set_of h.mid.dag h.one.hand_out.attempt) h.one.hand_out.attempt cause)
        tells)

hearing_alike : (c after : CoreData) (event : Event) (answer : Answer) → IsSoundCore c
    → Hearing c after event answer → Alike c.dag after.dag
hearing_alike c after event answer sound (inl q) = alike_is c.dag after.dag q.dag
hearing_alike c after event answer sound (inr h) = hears_alike c after event answer sound h

-- ---- each event

takes_alike : (c after : CoreData) (exec : ℕ) (answer : Answer) → Takes c exec answer after
    → has_task answer ≡ false → Alike c.dag after.dag
takes_alike c after exec answer step none = by (takes_so c after exec answer step)
  where
    by : TakesSo c after exec answer → Alike c.dag after.dag
    by (inl g) = absurd (true≢false (sym (ap has_task g.told) ∙ none))
    by (inr (inl b)) = alike_is c.dag after.dag (ap (λ (x : CoreData). x.dag) b.is)
    by (inr (inr q)) = alike_is c.dag after.dag (ap (λ (x : CoreData). x.dag) q.is)

sides_alike : (c after : CoreData) (event : SideEvent) (answer : Answer)
    → StepsAside c event answer after → Alike c.dag after.dag
sides_alike c after event answer step = by (steps_aside c after event answer step).dag
  where
    by : MayHold c.dag after.dag → Alike c.dag after.dag
    by (inl is) = alike_is c.dag after.dag is
    by (inr (s, q, denied, is)) =
        subst (λ d. Alike c.dag d) (sym is)
        (steady_alike c.dag (after_hold c.dag s q denied)
        (λ p. hold_slots (Steady p) p (steady_order p) c.dag s q denied (steady_held p q denied)))

pub steps_alike : (c after : CoreData) (event : Event) (answer : Answer) → IsSoundCore c
    → Steps c event answer after → gives_task event answer ≡ false → Alike c.dag after.dag
steps_alike c after (Take exec) answer sound step none =
    takes_alike c after exec answer step none
steps_alike c after (Post a outcome) answer sound step none =
    hearing_alike c after (Post a outcome) answer sound
    (posts_hear c after a outcome answer sound step)
steps_alike c after (Release key) answer sound step none =
    hearing_alike c after (Release key) answer sound
    (releases_hear c after key answer sound step)
steps_alike c after (Side event) answer sound step none =
    sides_alike c after event answer step
steps_alike c after (TellLost exec) answer sound step none =
    steady_alike c.dag after.dag
    (λ p s k. losses_add c after exec answer s k p (losses_come c after exec answer step))
