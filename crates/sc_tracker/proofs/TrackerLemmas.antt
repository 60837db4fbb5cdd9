-- Lemmas on what every tracker keeps.
use Rattle.std.proofs.Common.{◌≡◌, ℕ, ◌+◌, ◌^◌, ◌<◌, ◌≤◌, zero, suc, List, [], ◌∷◌, ◌++◌, Bool, true, false, Option, Some, None, IfSome, length, map, replicate, slice_get, refl, sym, subst, arith, true≢false, rules, if◌then◌else◌, ◌==◌, ◌||◌, nat_lt, not}
use Rattle.std.proofs.lemmas.Bool.Decides.{nat_tests}
use Rattle.std.proofs.lemmas.List.Elements.{All-cons, All-map, All-nil, All-push, All-weaker}
use Rattle.std.proofs.lemmas.List.Sums.{sum_by-cons, sum_by-le}
use Rattle.std.specs.List.{All, sum_by}
use Rattle.sc_ids.specs.declared.blocks.BlockId.{BlockId}
use Rattle.sc_ids.specs.declared.blocks.Loc.{Loc}
use Rattle.sc_ids.specs.Changes.{change_at}
use Rattle.sc_ids.proofs.ChangeLemmas.{All_change_at, at_or_change_other}
use Rattle.sc_tracker.specs.declared.trust.Trust.{Trust}
use Rattle.sc_tracker.specs.Outputs.{forgotten_on, never, placed}
use Rattle.sc_tracker.specs.TrackerData.{ShuffleData, TrackerData, place_of, tracker_data}
use Rattle.sc_tracker.specs.TrackerFacts.{HasMarkBelow, IsSoundOutput, IsSoundTracker, SeenFits, events_of}
use Rattle.sc_tracker.specs.Tracking.{is_bogus, registered, unregistered, with_forgotten_on, with_placed}
use Rattle.sc_tracker.specs.Trust.{is_live, is_marked, is_newer, lost_at, seen_at, trust_at, untold}

-- what isn't bogus isn't below the generation that was seen
pub not_below : (marked : Bool) (generation seen : ℕ)
    → (marked || nat_lt generation seen) ≡ false → seen ≤ generation
not_below marked generation seen e = grind (arith, nat_tests)

-- the outputs of a shuffle
abbrev SoundShuffle : List Trust → ℕ → ShuffleData → Type 0
SoundShuffle trust epoch s = All (IsSoundOutput trust epoch) s.outputs

-- a registration of what isn't bogus keeps the facts
pub registered_sound : (t : TrackerData) (block : BlockId) (loc : Loc) (epoch : ℕ)
    → IsSoundTracker t → is_bogus t loc epoch ≡ false
    → IsSoundTracker (registered t block loc)
registered_sound t block loc epoch s e =
    record {
      outputs = All_change_at (SoundShuffle t.trust t.epoch) t.shuffles
          (place_of t.shuffles block.shuffle) (with_placed block.map loc t.epoch)
          (λ x a. All_change_at (IsSoundOutput t.trust t.epoch) x.outputs block.map
          (placed loc t.epoch)
          (λ o p. record { fresh = fresh; is_last = refl; before = omega arith }) a)
          s.outputs;
      marks = s.marks;
      events = s.events;
    }
  where
    fresh : (trust_at t.trust loc.exec).seen ≤ loc.generation
    fresh = not_below (is_marked (trust_at t.trust loc.exec).mark epoch) loc.generation
        (trust_at t.trust loc.exec).seen e

-- an event at an executor keeps the facts of an output
forgotten_sound : (trust : List Trust) (epoch exec : ℕ) (f : Trust → Trust)
    (here last : Option Loc) (since : ℕ)
    → IsSoundOutput trust epoch (record { here = here; last = last; since = since })
    → IsSoundOutput (change_at trust exec f) (epoch + 1)
    (forgotten_on exec (record { here = here; last = last; since = since }))
forgotten_sound trust epoch exec f None last since s =
    record { fresh = tt; is_last = tt; before = let h = s.before in omega (arith, h) }
forgotten_sound trust epoch exec f (Some loc) last since s = by (loc.exec == exec) refl
  where
    by : (b : Bool) → (loc.exec == exec) ≡ b
        → IsSoundOutput (change_at trust exec f) (epoch + 1)
        (if b then record { here = None; last = last; since = since }
        else record { here = Some loc; last = last; since = since })
    by true e =
        record { fresh = tt; is_last = tt; before = let h = s.before in omega (arith, h) }
    by false e =
        let apart : loc.exec ≡ exec → ⊥ = λ same. grind (arith, nat_tests) in
        record {
          fresh = rw (at_or_change_other trust exec loc.exec untold f apart) s.fresh;
          is_last = s.is_last;
          before = let h = s.before in omega (arith, h);
        }

-- an event is one more of those that the epoch counts
events_rise : (xs : List Trust) (i : ℕ) (x : Trust) (f : Trust → Trust)
    → slice_get xs i ≡ Some x → events_of x + 1 ≤ events_of (f x)
    → sum_by events_of xs + 1 ≤ sum_by events_of (change_at xs i f)
events_rise [] i x f e h = absurd (search rules)
events_rise (y ∷ ys) zero x f e h =
    let same : y ≡ x = search rules in
    let more : events_of y + 1 ≤ events_of (f y) = rw same h in
    rw (sum_by-cons events_of y ys, sum_by-cons events_of (f y) ys) (omega (arith, more))
events_rise (y ∷ ys) (suc i) x f e h =
    let more = events_rise ys i x f e h in
    rw (sum_by-cons events_of y ys, sum_by-cons events_of y (change_at ys i f))
    (omega (arith, more))

-- an event at an executor keeps the facts
event_sound : (t : TrackerData) (exec : ℕ) (x : Trust) (f : Trust → Trust)
    → slice_get t.trust exec ≡ Some x → events_of x + 1 ≤ events_of (f x)
    → ((y : Trust) → (f y).mark ≡ Some t.epoch) → IsSoundTracker t
    → IsSoundTracker (tracker_data (map (with_forgotten_on exec) t.shuffles)
    (change_at t.trust exec f) (t.epoch + 1))
event_sound t exec x f e h m s =
    record {
      outputs = All-map (SoundShuffle trust' (t.epoch + 1)) (with_forgotten_on exec) t.shuffles
          (All-weaker (SoundShuffle t.trust t.epoch)
          (λ y. SoundShuffle trust' (t.epoch + 1) (with_forgotten_on exec y)) each
          t.shuffles s.outputs);
      marks = All_change_at (HasMarkBelow (t.epoch + 1)) t.trust exec f
          (λ y p. rw (m y) (omega arith))
          (All-weaker (HasMarkBelow t.epoch) (HasMarkBelow (t.epoch + 1))
          (λ y p. later y.mark p) t.trust s.marks);
      events = let more = events_rise t.trust exec x f e h in
          let before = s.events in omega (arith, more, before);
    }
  where
    trust' : List Trust
    trust' = change_at t.trust exec f

    later : (mark : Option ℕ) → IfSome mark (λ n. n < t.epoch)
        → IfSome mark (λ n. n < t.epoch + 1)
    later None p = tt
    later (Some n) p = omega (arith, p)

    each : (y : ShuffleData) → SoundShuffle t.trust t.epoch y
        → SoundShuffle trust' (t.epoch + 1) (with_forgotten_on exec y)
    each y a =
        All-map (IsSoundOutput trust' (t.epoch + 1)) (forgotten_on exec) y.outputs
        (All-weaker (IsSoundOutput t.trust t.epoch)
        (λ o. IsSoundOutput trust' (t.epoch + 1) (forgotten_on exec o))
        (λ o p. forgotten_sound t.trust t.epoch exec f o.here o.last o.since p)
        y.outputs a)

-- a newer generation keeps the facts
pub gone_sound : (t : TrackerData) (exec found : ℕ)
    → is_newer (slice_get t.trust exec) found ≡ true → IsSoundTracker t
    → IsSoundTracker (tracker_data (map (with_forgotten_on exec) t.shuffles)
    (change_at t.trust exec (seen_at found t.epoch)) (t.epoch + 1))
gone_sound t exec found e s = by (slice_get t.trust exec) refl e
  where
    by : (o : Option Trust) → slice_get t.trust exec ≡ o → is_newer o found ≡ true
        → IsSoundTracker (tracker_data (map (with_forgotten_on exec) t.shuffles)
        (change_at t.trust exec (seen_at found t.epoch)) (t.epoch + 1))
    by None is new = absurd (search rules)
    by (Some x) is new =
        event_sound t exec x (seen_at found t.epoch) is (grind (arith, nat_tests)) (λ y. refl) s

-- a loss keeps the facts
pub lost_sound : (t : TrackerData) (exec : ℕ)
    → is_live (slice_get t.trust exec) ≡ true → IsSoundTracker t
    → IsSoundTracker (tracker_data (map (with_forgotten_on exec) t.shuffles)
    (change_at t.trust exec (lost_at t.epoch)) (t.epoch + 1))
lost_sound t exec e s = by (slice_get t.trust exec) refl e
  where
    rises : (seen : ℕ) (lost : Bool) → not lost ≡ true
        → seen + (if lost then 1 else 0) + 1 ≤ seen + 1
    rises seen false e = omega arith
    rises seen true e = absurd (search rules)

    by : (o : Option Trust) → slice_get t.trust exec ≡ o → is_live o ≡ true
        → IsSoundTracker (tracker_data (map (with_forgotten_on exec) t.shuffles)
        (change_at t.trust exec (lost_at t.epoch)) (t.epoch + 1))
    by None is live = absurd (search rules)
    by (Some x) is live =
        event_sound t exec x (lost_at t.epoch) is (rises x.seen x.lost live) (λ y. refl) s

-- the epoch is far from the end of its type
pub epoch_fits : (trust : List Trust) (epoch : ℕ)
    → epoch ≤ sum_by events_of trust → SeenFits trust → length trust < 2 ^ 32
    → epoch + 1 < 2 ^ 64
epoch_fits trust epoch h fits short =
    let all = sum_by-le events_of (2 ^ 32) trust
    (All-weaker (λ x. x.seen < 2 ^ 32) (λ x. events_of x ≤ 2 ^ 32)
    (λ x p. one x.seen x.lost p) trust fits) in
    omega (arith, h, all, short)
  where
    one : (seen : ℕ) (lost : Bool) → seen < 2 ^ 32
        → seen + (if lost then 1 else 0) ≤ 2 ^ 32
    one seen true p = omega (arith, p)
    one seen false p = omega (arith, p)

-- a change keeps the generations within their type
pub seen_fits : (trust : List Trust) (exec : ℕ) (f : Trust → Trust)
    → ((x : Trust) → x.seen < 2 ^ 32 → (f x).seen < 2 ^ 32)
    → SeenFits trust → SeenFits (change_at trust exec f)
seen_fits trust exec f h a = All_change_at (λ x. x.seen < 2 ^ 32) trust exec f h a

-- so does a tracker with nothing registered
pub unregistered_sound : (t : TrackerData) → IsSoundTracker t → IsSoundTracker (unregistered t)
unregistered_sound t s =
    record {
      outputs = All-nil (SoundShuffle t.trust t.epoch);
      marks = s.marks;
      events = s.events;
    }

-- room for one more shuffle keeps the facts
pub sized_sound : (t : TrackerData) (s : ShuffleData) (n : ℕ) → s.outputs ≡ replicate n never
    → IsSoundTracker t → IsSoundTracker (tracker_data (t.shuffles ++ s ∷ []) t.trust t.epoch)
sized_sound t s n is sound =
    record {
      outputs = All-push (SoundShuffle t.trust t.epoch) t.shuffles s sound.outputs
          (subst (All (IsSoundOutput t.trust t.epoch)) (sym is) (blank n));
      marks = sound.marks;
      events = sound.events;
    }
  where
    blank : (k : ℕ) → All (IsSoundOutput t.trust t.epoch) (replicate k never)
    blank zero = All-nil (IsSoundOutput t.trust t.epoch)
    blank (suc k) =
        All-cons (IsSoundOutput t.trust t.epoch) never (replicate k never)
        (record { fresh = tt; is_last = tt; before = omega arith }) (blank k)

-- an executor of which something is heard is there
pub newer_within : (trust : List Trust) (exec found : ℕ)
    → is_newer (slice_get trust exec) found ≡ true → exec < length trust
newer_within [] exec found e = absurd (true≢false (sym e))
newer_within (x ∷ trust) zero found e = omega arith
newer_within (x ∷ trust) (suc exec) found e =
    let more = newer_within trust exec found e in omega (arith, more)

pub live_within : (trust : List Trust) (exec : ℕ)
    → is_live (slice_get trust exec) ≡ true → exec < length trust
live_within [] exec e = absurd (true≢false (sym e))
live_within (x ∷ trust) zero e = omega arith
live_within (x ∷ trust) (suc exec) e = let more = live_within trust exec e in omega (arith, more)
