-- An executor that is lost in the end was lost where the job began, or an entry tells it.
use Rattle.std.proofs.Common.{◌≡◌, ◌⊎◌, inl, inr, ℕ, ◌==◌, Bool, true, false, [], ◌∷◌, refl, ap, sym, ◌∙◌, arith}
use Rattle.std.proofs.lemmas.Bool.Decides.{nat_tests}
use Rattle.sc_tracker.specs.TrackerData.{TrackerData, trust_of}
use Rattle.sc_dag.specs.DagData.{DagData}
use Rattle.sc_plan.proofs.MemberLemmas.{contains_first, contains_more}
use Rattle.sc_core.proofs.SideLemmas.{held_tracker}
use Rattle.sc_core.specs.CoreData.{CoreData}
use Rattle.sc_core.specs.Losses.{Loses}
use Rattle.sc_core.specs.Sound.{IsSoundCore}
use Rattle.sc_core.specs.Steps.{Steps}
use Rattle.sc_core.specs.Takes.{Takes}
use Rattle.sc_core.specs.declared.answers.Answer.{Answer}
use Rattle.sc_core.specs.declared.events.Event.{Event}
use Rattle.sc_core.specs.declared.events.Event.TheVariants.{Post, Release, Side, Take, TellLost}
use Rattle.sc_core.proofs.LeftLemmas.{tells_left}
use Rattle.sc_core.proofs.LoseLemmas.{lose_less}
use Rattle.sc_core.proofs.LawLemmas.{steps_keep_sound}
use Rattle.sc_core.proofs.TakeCases.{TakesSo, takes_so}
use Rattle.sc_history.specs.Losses.{LossesAreShown, ShowsLoss}
use Rattle.sc_history.proofs.Events.{Comes, losses_come, posts_come, releases_come, sides_come}

-- whether an executor was told lost
abbrev has_lost : DagData → ℕ → Bool
has_lost d exec = (trust_of d.tracker exec).lost

takes_lose_none : (c after : CoreData) (by exec : ℕ) (answer : Answer) → Takes c by answer after
    → has_lost after.dag exec ≡ true → has_lost c.dag exec ≡ true
takes_lose_none c after by exec answer h lost = so (takes_so c after by answer h)
  where
    so : TakesSo c after by answer → has_lost c.dag exec ≡ true
    so (inl t) = ap (λ (x : CoreData). has_lost x.dag exec) (sym t.is) ∙ lost
    so (inr (inl b)) = ap (λ (x : CoreData). has_lost x.dag exec) (sym b.is) ∙ lost
    so (inr (inr same)) = ap (λ (x : CoreData). has_lost x.dag exec) (sym same.is) ∙ lost

-- no report loses an executor
comes_lose_none : (c after : CoreData) (event : Event) (answer : Answer) (exec : ℕ)
    → Comes c after event answer → has_lost after.dag exec ≡ true
    → has_lost c.dag exec ≡ true
comes_lose_none c after event answer exec (inl q) lost =
    ap (λ (t : TrackerData). (trust_of t exec).lost) (sym (held_tracker c.dag after.dag q.dag))
    ∙ lost
comes_lose_none c after event answer exec (inr h) lost =
    ap (λ (d : DagData). has_lost d exec) (sym h.dag)
    ∙ sym ((tells_left h.mid after h.one h.outcome answer h.tells).lost exec) ∙ lost

-- and the one that is told lost is the only one more
losses_lose_one : (c after : CoreData) (told exec : ℕ) (answer : Answer) → IsSoundCore c
    → Loses c told answer after → has_lost after.dag exec ≡ true
    → (has_lost c.dag exec ≡ true) ⊎ (TellLost told ≡ TellLost exec)
losses_lose_one c after told exec answer sound step lost = by (exec == told) refl
  where
    by : (b : Bool) → (exec == told) ≡ b
        → (has_lost c.dag exec ≡ true) ⊎ (TellLost told ≡ TellLost exec)
    by true e =
        let same : told ≡ exec = grind (arith, nat_tests, e) in
        inr (ap TellLost same)
    by false e =
        inl (sym ((lose_less c told sound step.0).others exec e)
        ∙ ap (λ (d : DagData). has_lost d exec) (sym (losses_come c after told answer step).dag)
        ∙ lost)

steps_lose : (c after : CoreData) (event : Event) (answer : Answer) (exec : ℕ) → IsSoundCore c
    → Steps c event answer after → has_lost after.dag exec ≡ true
    → (has_lost c.dag exec ≡ true) ⊎ (event ≡ TellLost exec)
steps_lose c after (Take asks) answer exec sound step lost =
    inl (takes_lose_none c after asks exec answer step lost)
steps_lose c after (Post a outcome) answer exec sound step lost =
    inl (comes_lose_none c after (Post a outcome) answer exec
    (posts_come c after a outcome answer step) lost)
steps_lose c after (Release key) answer exec sound step lost =
    inl (comes_lose_none c after (Release key) answer exec (releases_come c after key answer step)
    lost)
steps_lose c after (Side event) answer exec sound step lost =
    inl (comes_lose_none c after (Side event) answer exec (sides_come c after event answer step)
    lost)
steps_lose c after (TellLost told) answer exec sound step lost =
    losses_lose_one c after told exec answer sound step lost

pub losses_are_shown : LossesAreShown
losses_are_shown opening end [] exec sound is lost =
    inl (ap (λ (x : CoreData). has_lost x.dag exec) (sym is) ∙ lost)
losses_are_shown opening end (entry ∷ entries) exec sound (mid, step, rest) lost =
    later (losses_are_shown mid end entries exec
    (steps_keep_sound opening mid entry.event entry.answer sound step) rest lost)
  where
    first : (has_lost opening.dag exec ≡ true) ⊎ (entry.event ≡ TellLost exec)
        → ShowsLoss opening (entry ∷ entries) exec
    first (inl was) = inl was
    first (inr is) = inr (entry, contains_first entry entries, is)

    later : ShowsLoss mid entries exec → ShowsLoss opening (entry ∷ entries) exec
    later (inl was) =
        first (steps_lose opening mid entry.event entry.answer exec sound step was)
    later (inr (e, there, is)) = inr (e, contains_more entry e entries there, is)
