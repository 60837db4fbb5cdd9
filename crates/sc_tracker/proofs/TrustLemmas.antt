-- Lemmas on what was heard of executors.
use Rattle.std.proofs.Common.{◌≡◌, ℕ, ◌<◌, ◌≤◌, zero, suc, Bool, true, false, List, [], ◌∷◌, Option, Some, None, IfSome, IsSomeAnd, slice_get, refl, subst, arith, rules, ◌||◌, nat_lt}
use Rattle.std.proofs.lemmas.Bool.Decides.{nat_tests}
use Rattle.std.proofs.lemmas.Option.{get_or_from_slice_get, slice_get_within}
use Rattle.sc_ids.specs.declared.blocks.BlockId.{BlockId}
use Rattle.sc_ids.specs.declared.blocks.Loc.{Loc}
use Rattle.sc_ids.specs.declared.blocks.ShuffleId.{ShuffleId}
use Rattle.sc_ids.specs.Changes.{change_at}
use Rattle.sc_ids.proofs.ChangeLemmas.{All_at_or, at_or_change_same}
use Rattle.sc_tracker.specs.declared.trust.Trust.{Trust}
use Rattle.sc_tracker.specs.TrackerData.{TrackerData, trust_of}
use Rattle.sc_tracker.specs.TrackerFacts.{HasMarkBelow, IsSoundTracker}
use Rattle.sc_tracker.specs.TrackerLaws.{BogusStaysBogus, CallsGoForward, IsLaterTracker, IsLaterTrust, NewTasksAreTrusted, OlderTasksAreBogus}
use Rattle.sc_tracker.specs.Tracking.{after_executor_lost, after_gone, has_room, is_bogus, registered, sized}
use Rattle.sc_tracker.specs.Trust.{is_bogus_for, is_live, is_marked, is_newer, lost_at, seen_at, trust_at, untold}

-- what was heard is later than itself
same_mark : (mark : Option ℕ) → IfSome mark (λ m. IsSomeAnd mark (λ n. m ≤ n))
same_mark None = tt
same_mark (Some m) = omega arith

pub later_same : (x : Trust) → IsLaterTrust x x
later_same x = record { seen = omega arith; mark = same_mark x.mark; lost = λ e. e }

-- a change of one executor's that goes forward
later_change : (xs : List Trust) (exec : ℕ) (x : Trust) (f : Trust → Trust)
    → slice_get xs exec ≡ Some x → IsLaterTrust x (f x)
    → (e : ℕ) → IsLaterTrust (trust_at xs e) (trust_at (change_at xs exec f) e)
later_change [] exec x f is h e = absurd (search rules)
later_change (y ∷ ys) zero x f is h zero =
    let same : y ≡ x = search rules in rw same h
later_change (y ∷ ys) zero x f is h (suc e) = later_same (trust_at ys e)
later_change (y ∷ ys) (suc exec) x f is h zero = later_same y
later_change (y ∷ ys) (suc exec) x f is h (suc e) = later_change ys exec x f is h e

-- an event goes forward
later_event : (t : TrackerData) (exec : ℕ) (x : Trust) (f : Trust → Trust)
    → IsSoundTracker t → slice_get t.trust exec ≡ Some x
    → (f x).mark ≡ Some t.epoch → x.seen ≤ (f x).seen → (x.lost ≡ true → (f x).lost ≡ true)
    → (e : ℕ) → IsLaterTrust (trust_at t.trust e) (trust_at (change_at t.trust exec f) e)
later_event t exec x f s is mark seen lost =
    later_change t.trust exec x f is
    (record { seen = seen; mark = rw mark (below x.mark at); lost = lost })
  where
    at : HasMarkBelow t.epoch x
    at = subst (HasMarkBelow t.epoch) (get_or_from_slice_get t.trust exec x x is)
        (s.marks exec x (slice_get_within t.trust exec x is))

    below : (m : Option ℕ) → IfSome m (λ n. n < t.epoch) → IfSome m (λ n. n ≤ t.epoch)
    below None h = tt
    below (Some n) h = omega (arith, h)

pub calls_go_forward : CallsGoForward
calls_go_forward t s = (sizes, registers, gone, lost)
  where
    same : IsLaterTracker t t
    same = record { epoch = omega arith; trust = λ exec. later_same (trust_of t exec) }

    sizes : (shuffle : ShuffleId) (maps : ℕ) → IsLaterTracker t (sized t shuffle maps)
    sizes shuffle maps = by (has_room t shuffle) refl
      where
        by : (b : Bool) → has_room t shuffle ≡ b → IsLaterTracker t (sized t shuffle maps)
        by true e = rw e same
        by false e =
            rw e (record { epoch = omega arith; trust = λ exec. later_same (trust_of t exec) })

    registers : (block : BlockId) (loc : Loc) → IsLaterTracker t (registered t block loc)
    registers block loc =
        record { epoch = omega arith; trust = λ exec. later_same (trust_of t exec) }

    gone_at : (exec found : ℕ) (o : Option Trust) → slice_get t.trust exec ≡ o
        → (b : Bool) → is_newer o found ≡ b → IsLaterTracker t (after_gone t exec found)
    gone_at exec found None is true e = absurd (search rules)
    gone_at exec found (Some x) is true e =
        rw (is, e) (record {
          epoch = omega arith;
          trust = later_event t exec x (seen_at found t.epoch) s is refl
              (grind (arith, nat_tests)) (λ l. l);
        })
    gone_at exec found None is false e = rw is same
    gone_at exec found (Some x) is false e = rw (is, e) same

    gone : (exec found : ℕ) → IsLaterTracker t (after_gone t exec found)
    gone exec found =
        gone_at exec found (slice_get t.trust exec) refl
        (is_newer (slice_get t.trust exec) found) refl

    lost_from : (exec : ℕ) (o : Option Trust) → slice_get t.trust exec ≡ o
        → (b : Bool) → is_live o ≡ b → IsLaterTracker t (after_executor_lost t exec)
    lost_from exec None is true e = absurd (search rules)
    lost_from exec (Some x) is true e =
        rw (is, e) (record {
          epoch = omega arith;
          trust = later_event t exec x (lost_at t.epoch) s is refl (omega arith) (λ l. refl);
        })
    lost_from exec None is false e = rw is same
    lost_from exec (Some x) is false e = rw (is, e) same

    lost : (exec : ℕ) → IsLaterTracker t (after_executor_lost t exec)
    lost exec =
        lost_from exec (slice_get t.trust exec) refl (is_live (slice_get t.trust exec)) refl

-- what is ruled out stays so where the mark and the seen generation go forward
stays : (old new : Option ℕ) (seen later generation epoch : ℕ) → seen ≤ later
    → IfSome old (λ m. IsSomeAnd new (λ n. m ≤ n))
    → (is_marked old epoch || nat_lt generation seen) ≡ true
    → (is_marked new epoch || nat_lt generation later) ≡ true
stays None None seen later generation epoch h m e = grind (arith, nat_tests)
stays None (Some n) seen later generation epoch h m e = grind (arith, nat_tests)
stays (Some m) None seen later generation epoch h none e = absurd none
stays (Some m) (Some n) seen later generation epoch h up e = grind (arith, nat_tests)

pub bogus_stays_bogus : BogusStaysBogus
bogus_stays_bogus before after loc epoch h e =
    let x = trust_of before loc.exec in
    let y = trust_of after loc.exec in
    stays x.mark y.mark x.seen y.seen loc.generation epoch (h.trust loc.exec).seen
    (h.trust loc.exec).mark e

-- a mark below the epoch rules out no task of it
unmarked : (mark : Option ℕ) (now epoch seen generation : ℕ) → IfSome mark (λ m. m < now)
    → now ≤ epoch → seen ≤ generation
    → (is_marked mark epoch || nat_lt generation seen) ≡ false
unmarked None now epoch seen generation m h fresh = grind (arith, nat_tests)
unmarked (Some n) now epoch seen generation m h fresh = grind (arith, nat_tests)

pub new_tasks_are_trusted : NewTasksAreTrusted
new_tasks_are_trusted t loc epoch s h fresh =
    let x = trust_of t loc.exec in
    unmarked x.mark t.epoch epoch x.seen loc.generation
    (All_at_or (HasMarkBelow t.epoch) t.trust loc.exec untold tt s.marks) h fresh

-- a mark at the epoch of an event rules out every task from before it
marked : (xs : List Trust) (exec now epoch generation : ℕ) (x : Trust) (f : Trust → Trust)
    → slice_get xs exec ≡ Some x → ((y : Trust) → (f y).mark ≡ Some now) → epoch ≤ now
    → is_bogus_for (trust_at (change_at xs exec f) exec)
    (record { exec = exec; generation = generation }) epoch ≡ true
marked xs exec now epoch generation x f is mark h =
    rw (
      at_or_change_same xs exec untold f (slice_get_within xs exec x is),
      mark (trust_at xs exec),
    )
    (grind (arith, nat_tests))

pub older_tasks_are_bogus : OlderTasksAreBogus
older_tasks_are_bogus t loc epoch h = (gone, lost)
  where
    gone_at : (found : ℕ) (o : Option Trust) → slice_get t.trust loc.exec ≡ o
        → is_newer o found ≡ true → is_bogus (after_gone t loc.exec found) loc epoch ≡ true
    gone_at found None is e = absurd (search rules)
    gone_at found (Some x) is e =
        rw (is, e)
        (marked t.trust loc.exec t.epoch epoch loc.generation x (seen_at found t.epoch)
        is (λ y. refl) h)

    gone : (found : ℕ) → is_newer (slice_get t.trust loc.exec) found ≡ true
        → is_bogus (after_gone t loc.exec found) loc epoch ≡ true
    gone found e = gone_at found (slice_get t.trust loc.exec) refl e

    lost_from : (o : Option Trust) → slice_get t.trust loc.exec ≡ o
        → is_live o ≡ true → is_bogus (after_executor_lost t loc.exec) loc epoch ≡ true
    lost_from None is e = absurd (search rules)
    lost_from (Some x) is e =
        rw (is, e)
        (marked t.trust loc.exec t.epoch epoch loc.generation x (lost_at t.epoch)
        is (λ y. refl) h)

    lost : is_live (slice_get t.trust loc.exec) ≡ true
        → is_bogus (after_executor_lost t loc.exec) loc epoch ≡ true
    lost e = lost_from (slice_get t.trust loc.exec) refl e
