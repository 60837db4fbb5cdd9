-- Outputs are forgotten, and attempts of stages fail, no more often than a plan allows.
use Rattle.std.proofs.Common.{◌≡◌, ◌≢◌, ◌⊎◌, inl, inr, ℕ, ◌+◌, ◌<◌, ◌≤◌, All, Bool, true, false, if◌then◌else◌, Contains, IsSomeAnd, List, [], ◌∷◌, get_or, length, map, nat_le, nat_lt, Option, Some, None, refl, ap, sym, subst, ◌∙◌, arith, true≢false}
use Rattle.std.specs.List.{AllPairs, filter}
use Rattle.std.proofs.lemmas.Bool.{cases_eq}
use Rattle.std.proofs.lemmas.Bool.Decides.{nat_tests}
use Rattle.std.proofs.lemmas.List.{get_or_default}
use Rattle.std.proofs.lemmas.List.Elements.{All-append, All-contains, All-map, All-nil}
use Rattle.std.proofs.lemmas.List.Sums.{count_by-le-length, length-filter}
use Rattle.sc_plan.specs.Orders.{Due, due_count, wipes_of}
use Rattle.sc_core.specs.CoreData.{CoreData}
use Rattle.sc_core.specs.Journals.{Replays}
use Rattle.sc_core.specs.Losses.{is_due_after}
use Rattle.sc_core.specs.Sound.{IsSoundCore}
use Rattle.sc_core.specs.Steps.{Steps}
use Rattle.sc_core.specs.declared.answers.Answer.{Answer}
use Rattle.sc_core.specs.declared.entries.Entry.{Entry}
use Rattle.sc_core.specs.declared.events.Event.{Event}
use Rattle.sc_core.proofs.LawLemmas.{replays_keep_sound, steps_keep_sound}
use Rattle.sc_history.specs.Charges.{Charge, HaveOwnEvents, charge_of, charges_of, is_charge_of}
use Rattle.sc_history.specs.Tellings.{tellings_in}
use Rattle.sc_history.specs.Trackers.{forgets}
use Rattle.sc_history.proofs.ChargedLemmas.{failed_attempts_are_charged}
use Rattle.sc_history.proofs.TrackerLemmas.{steps_count_epochs}
use Rattle.sc_bound.specs.Charged.{EpochsArePlanned, FailedAttemptsArePlanned}
use Rattle.sc_bound.proofs.KeyLemmas.{few_keys}
use Rattle.sc_bound.proofs.TrustLemmas.{events_are_planned}

-- ---- what a core has heard

-- no more is due than there is
due_within : (dues : List Due) (told : ℕ) → due_count dues told ≤ length dues
due_within dues told =
    let is = length-filter (λ (due : Due). nat_le due.0 told) dues in
    let le = count_by-le-length (λ (due : Due). nat_le due.0 told) dues in
    omega (arith, is, le)

pub epochs_are_planned : EpochsArePlanned
epochs_are_planned c sound seen =
    events_are_planned c.plan c.dag.tracker sound.job.dag.tracker
    (record {
      seen = λ e. (let due = seen e in
          let within = due_within (wipes_of c.plan e) c.told in
          omega (arith, due, within));
      lost = λ e l none. true≢false (sym (sound.lost e l)
          ∙ ap (λ o. is_due_after o c.told) none);
    })

-- ---- failed attempts of a stage

-- an epoch never falls
step_epoch : (c after : CoreData) (event : Event) (answer : Answer) → IsSoundCore c
    → Steps c event answer after → c.dag.tracker.epoch ≤ after.dag.tracker.epoch
step_epoch c after event answer sound step =
    let is = steps_count_epochs c after event answer sound step in
    by (if forgets c event answer then 1 else 0) is
  where
    by : (n : ℕ) → after.dag.tracker.epoch ≡ c.dag.tracker.epoch + n
        → c.dag.tracker.epoch ≤ after.dag.tracker.epoch
    by n is = omega (arith, is)

epoch_grows : (opening end : CoreData) (entries : List Entry) → IsSoundCore opening
    → Replays opening entries end → opening.dag.tracker.epoch ≤ end.dag.tracker.epoch
epoch_grows opening end [] sound is =
    let same : end.dag.tracker.epoch ≡ opening.dag.tracker.epoch =
    ap (λ (x : CoreData). x.dag.tracker.epoch) is in
    omega (arith, same)
epoch_grows opening end (entry ∷ entries) sound (mid, step, rest) =
    let one = step_epoch opening mid entry.event entry.answer sound step in
    let more =
    epoch_grows mid end entries
    (steps_keep_sound opening mid entry.event entry.answer sound step) rest in
    omega (arith, one, more)

-- each was told by now
charges_past : (stage : ℕ) (opening end : CoreData) (entries : List Entry) → IsSoundCore opening
    → (replays : Replays opening entries end)
    → All (λ x. x.epoch ≤ end.dag.tracker.epoch) (charges_of stage opening entries end replays)
charges_past stage opening end [] sound is = All-nil (λ x. x.epoch ≤ end.dag.tracker.epoch)
charges_past stage opening end (entry ∷ entries) sound (mid, step, rest) =
    let next = steps_keep_sound opening mid entry.event entry.answer sound step in
    let le = epoch_grows mid end entries next rest in
    All-append (λ x. x.epoch ≤ end.dag.tracker.epoch)
    (map (charge_of opening.dag mid.dag.tracker.epoch)
    (filter (is_charge_of stage) (tellings_in opening entry.event entry.answer)))
    (charges_of stage mid entries end rest)
    (All-map (λ x. x.epoch ≤ end.dag.tracker.epoch) (charge_of opening.dag mid.dag.tracker.epoch)
    (filter (is_charge_of stage) (tellings_in opening entry.event entry.answer)) (λ k d l. le))
    (charges_past stage mid end entries next rest)

-- two of different attempts were told in different epochs
module _ (charges : List Charge) (own : HaveOwnEvents charges) where
  between : (o : Option ℕ) (m n : ℕ) → IsSomeAnd o (λ b. m ≤ b) → IsSomeAnd o (λ b. b < n) → m < n
  between None m n h k = absurd h
  between (Some b) m n h k = omega (arith, h, k)

  earlier : (x y : Charge) (a b : ℕ) → get_or charges a x ≡ x → get_or charges b y ≡ y → a < b
      → b < length charges → x.number ≢ y.number → x.epoch < y.epoch
  earlier x y a b is_x is_y lt l ne =
      between y.born x.epoch y.epoch
      (subst (λ (u : Charge). u.number ≢ y.number → IsSomeAnd y.born (λ k. u.epoch ≤ k)) is_x
      (subst (λ (v : Charge). (get_or charges a x).number ≢ v.number
      → IsSomeAnd v.born (λ k. (get_or charges a x).epoch ≤ k))
      (get_or_default charges b x y l ∙ is_y) (own.apart a b x lt l)) ne)
      (All-contains (λ v. IsSomeAnd v.born (λ k. k < v.epoch)) charges y own.own (b, l, is_y))

  pub told_apart : (x y : Charge) → Contains charges x → Contains charges y
      → x.number ≢ y.number → x.epoch ≢ y.epoch
  told_apart x y (a, la, is_x) (b, lb, is_y) ne same = by (cases_eq a b)
    where
      one : a ≡ b → x ≡ y
      one e =
          sym is_x ∙ get_or_default charges a x y la
          ∙ subst (λ (k : ℕ). get_or charges k y ≡ y) (sym e) is_y

      order : (t : Bool) → nat_lt a b ≡ t → (a ≡ b → ⊥) → ⊥
      order true lt other =
          let less = earlier x y a b is_x is_y (grind (arith, nat_tests, lt)) lb ne in
          omega (arith, less, same)
      order false lt other =
          let back : b < a = grind (arith, nat_tests, lt, other) in
          let less = earlier y x b a is_y is_x back la (λ e. ne (sym e)) in
          omega (arith, less, same)

      by : (a ≡ b) ⊎ (a ≡ b → ⊥) → ⊥
      by (inl e) = ne (ap (λ (z : Charge). z.number) (one e))
      by (inr other) = order (nat_lt a b) refl other

pub failed_attempts_are_planned : FailedAttemptsArePlanned
failed_attempts_are_planned opening end entries stage failed sound replays seen are =
    let few = few_keys (λ (x : Charge). x.epoch) failed end.dag.tracker.epoch pairs all in
    let most =
    epochs_are_planned end (replays_keep_sound opening end entries sound replays) seen in
    omega (arith, few, most)
  where
    charges : List Charge
    charges = charges_of stage opening entries end replays

    own : HaveOwnEvents (charges_of stage opening entries end replays)
    own = failed_attempts_are_charged opening end entries stage sound replays

    past : All (λ x. x.epoch ≤ end.dag.tracker.epoch) (charges_of stage opening entries end replays)
    past = charges_past stage opening end entries sound replays

    late : (o : Option ℕ) (e : ℕ) → IsSomeAnd o (λ b. b < e) → 1 ≤ e
    late None e h = absurd h
    late (Some b) e h = omega (arith, h)

    all : All (λ (x : Charge). (1 ≤ x.epoch) × (x.epoch ≤ end.dag.tracker.epoch)) failed
    all k d l =
        All-contains (λ (x : Charge). (1 ≤ x.epoch) × (x.epoch ≤ end.dag.tracker.epoch)) charges
        (get_or failed k d)
        (λ i e m. (
          late (get_or charges i e).born (get_or charges i e).epoch (own.own i e m),
          past i e m,
        ))
        (are.among k d l)

    pairs : AllPairs (λ (x y : Charge). x.epoch ≢ y.epoch) failed
    pairs i j d lt l =
        told_apart charges own (get_or failed i d) (get_or failed j d)
        (are.among i d (omega (arith, lt, l))) (are.among j d l) (are.apart i j d lt l)
