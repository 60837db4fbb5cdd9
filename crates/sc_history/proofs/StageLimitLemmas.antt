-- A job that is aborted for the failed attempts of a stage shows them.
use Rattle.std.proofs.Common.{◌≡◌, ◌≢◌, ◌⊎◌, inl, inr, ℕ, zero, suc, ◌-◌, ◌<◌, ◌≤◌, ◌==◌, ◌&&◌, ◌||◌, Bool, true, false, cond, if◌then◌else◌, List, [], ◌∷◌, ◌++◌, All, count_by, length, nat_lt, Option, Some, None, refl, ap, sym, subst, ◌∙◌, append-nil, append_assoc, arith, rules, true≢false, slice_get}
use Rattle.std.specs.List.{AllPairs, list_any}
use Rattle.std.proofs.lemmas.Bool.{or_right}
use Rattle.std.proofs.lemmas.Bool.Decides.{nat_tests}
use Rattle.std.proofs.lemmas.List.{length-map}
use Rattle.std.proofs.lemmas.List.Elements.{All-cons, All-nil}
use Rattle.std.proofs.lemmas.List.Folds.{list_any-append}
use Rattle.std.proofs.lemmas.List.Kept.{AllPairs-cons}
use Rattle.std.proofs.lemmas.List.Sums.{sum_by-cons}
use Rattle.sc_ids.specs.Graphs.{StageData}
use Rattle.sc_ids.specs.declared.limits.Limits.{Limits}
use Rattle.sc_plan.specs.declared.lines.PlanLine.{PlanLine}
use Rattle.sc_dag.specs.DagData.{StageState, place_of_attempt}
use Rattle.sc_dag.specs.Outputs.{is_complete}
use Rattle.sc_dag.specs.Reports.{failed_count}
use Rattle.sc_dag.specs.Sound.{attempts_in, attempts_of}
use Rattle.sc_dag.specs.declared.attempts.StageAttempt.{StageAttempt}
use Rattle.sc_dag.proofs.Tests.{clash, is_in}
use Rattle.sc_core.specs.CoreData.{CoreData, job_runs}
use Rattle.sc_core.specs.Journals.{Replays}
use Rattle.sc_core.specs.Openings.{IsOpening}
use Rattle.sc_core.specs.Sound.{IsSoundCore}
use Rattle.sc_core.specs.Steps.{Steps}
use Rattle.sc_core.specs.declared.answers.Abort.TheVariants.{StageLimit}
use Rattle.sc_core.specs.declared.answers.JobState.TheVariants as jobs
use Rattle.sc_core.specs.declared.entries.Entry.{Entry}
use Rattle.sc_core.proofs.LawLemmas.{steps_keep_sound}
use Rattle.sc_history.specs.StageEvidence.{ShowsStageLimit, StageLimitsAreShown, StaysOpen, is_miss_of, number_of}
use Rattle.sc_history.specs.Tellings.{Telling, tellings, tellings_in}
use Rattle.sc_history.proofs.BudgetLemmas.{opening_limits, step_limits}
use Rattle.sc_history.proofs.Closing.{HasClosed, IsClosed, ended_stays, steps_close}
use Rattle.sc_history.proofs.Flags.{FewerFlags, NoFlag, flag_in, flags_calm, is_flagged, is_missed, no_flag, steps_flag}
use Rattle.sc_history.proofs.Growing.{attempt_among}
use Rattle.sc_history.proofs.Journals.{replays_induct}
use Rattle.sc_history.proofs.Picking.{Picked, all_picked}
use Rattle.sc_history.proofs.Starting.{opening_slot}

abbrev one_if : Bool → ℕ
one_if b = cond b 1 0

-- ---- journals that grow

replays_more : (opening c after : CoreData) (entries : List Entry) (e : Entry)
    → Replays opening entries c → Steps c e.event e.answer after
    → Replays opening (entries ++ e ∷ []) after
replays_more opening c after [] e is step =
    (after, subst (λ x. Steps x e.event e.answer after) is step, refl)
replays_more opening c after (x ∷ entries) e (mid, one, rest) step =
    (mid, one, replays_more mid c after entries e rest step)

stays_more : (s : ℕ) (mid c after : CoreData) (since : List Entry) (e : Entry)
    (replays : Replays mid since c) → StaysOpen s mid since c replays
    → (step : Steps c e.event e.answer after) → is_complete after.dag s ≡ false
    → StaysOpen s mid (since ++ e ∷ []) after (replays_more mid c after since e replays step)
unfolding replays_more
stays_more s mid c after [] e is opens step lacks = (lacks, tt)
stays_more s mid c after (x ∷ since) e (next, one, rest) (lacked, opens) step lacks =
    (lacked, stays_more s next c after since e rest opens step lacks)

-- one more entry may be of one more report
tellings_more : (mid c after : CoreData) (since : List Entry) (e : Entry)
    (replays : Replays mid since c) (step : Steps c e.event e.answer after)
    → tellings mid (since ++ e ∷ []) after (replays_more mid c after since e replays step)
    ≡ tellings mid since c replays ++ tellings_in c e.event e.answer
unfolding replays_more
tellings_more mid c after [] e is step =
    append-nil (tellings_in mid e.event e.answer)
    ∙ ap (λ x. tellings_in x e.event e.answer) (sym is)
tellings_more mid c after (x ∷ since) e (next, one, rest) step =
    ap (λ told. tellings_in mid x.event x.answer ++ told)
    (tellings_more next c after since e rest step)
    ∙ sym (append_assoc (tellings_in mid x.event x.answer) (tellings next since c rest)
    (tellings_in c e.event e.answer))

-- ---- the last part of a journal, in which a stage is complete after no entry

record IsWindow (opening : CoreData) (entries : List Entry) (c : CoreData) (s : ℕ) : Type 0 where
  before : List Entry
  since : List Entry
  mid : CoreData
  parts : entries ≡ before ++ since
  leads : Replays opening before mid
  ends : Replays mid since c
  open_since : StaysOpen s mid since c ends
  -- the attempts that count as failed were told there
  told : (k : ℕ) → is_flagged c.dag s k ≡ true
      → is_missed (tellings mid since c ends) s k ≡ true

-- a stage of a job that runs, or was aborted for it
abbrev IsLive : CoreData → ℕ → Type 0
IsLive c s = (job_runs c ≡ true) ⊎ (c.job ≡ jobs.Aborted (StageLimit s))

-- What holds along a journal.
record IsWatching (opening : CoreData) (L : Limits) (entries : List Entry) (c : CoreData)
    : Type 0 where
  sound : IsSoundCore c
  limits : c.dag.limits ≡ L
  replays : Replays opening entries c
  closed : HasClosed c
  windows : (s : ℕ) → IsLive c s → IsWindow opening entries c s

-- an attempt that counts as failed is one of its stage's
flag_counts : (o : Option StageState) (k : ℕ) → flag_in (attempt_among o k) ≡ true
    → list_any (λ x. x.has_failed) (attempts_in o) ≡ true
flag_counts None k e = absurd (true≢false (sym e))
flag_counts (Some state) k e = at state.attempts (place_of_attempt state k) e
  where
    at : (xs : List StageAttempt) (i : ℕ) → flag_in (slice_get xs i) ≡ true
        → list_any (λ x. x.has_failed) xs ≡ true
    at [] i h = absurd (true≢false (sym h))
    at (x ∷ xs) zero h = ap (λ b. b || list_any (λ y. y.has_failed) xs) h
    at (x ∷ xs) (suc i) h =
        or_right x.has_failed (list_any (λ y. y.has_failed) xs) (at xs i h)

counts_failed : (o : Option StageState) → list_any (λ x. x.has_failed) (attempts_in o) ≡ true
    → 0 < failed_count o
counts_failed None e = absurd (true≢false (sym e))
counts_failed (Some state) e = at state.attempts e
  where
    at : (xs : List StageAttempt) → list_any (λ x. x.has_failed) xs ≡ true
        → 0 < count_by (λ x. x.has_failed) xs
    at [] h = absurd (true≢false (sym h))
    at (x ∷ xs) h = by x.has_failed refl h (λ k. at xs k)
      where
        by : (b : Bool) → x.has_failed ≡ b → (b || list_any (λ y. y.has_failed) xs) ≡ true
            → (list_any (λ y. y.has_failed) xs ≡ true → 0 < count_by (λ y. y.has_failed) xs)
            → 0 < count_by (λ y. y.has_failed) (x ∷ xs)
        by true is k f =
            let all = sum_by-cons (λ (y : StageAttempt). one_if y.has_failed) x xs in
            let one : one_if x.has_failed ≡ 1 = ap one_if is in
            omega (arith, all, one)
        by false is k f =
            let all = sum_by-cons (λ (y : StageAttempt). one_if y.has_failed) x xs in
            let rest = f k in omega (arith, all, rest)

missed_first : (told more : List Telling) (s k : ℕ) → is_missed told s k ≡ true
    → is_missed (told ++ more) s k ≡ true
missed_first told more s k h =
    list_any-append (λ t. is_miss_of s t && (number_of t == k)) told more
    ∙ ap (λ b. b || is_missed more s k) h

missed_last : (told more : List Telling) (s k : ℕ) → is_missed more s k ≡ true
    → is_missed (told ++ more) s k ≡ true
missed_last told more s k h =
    list_any-append (λ t. is_miss_of s t && (number_of t == k)) told more
    ∙ or_right (is_missed told s k) (is_missed more s k) h

-- an entry makes the last part longer, or begins it anew
window_kept :
    (opening : CoreData) (entries : List Entry) (e : Entry) (c after : CoreData) (s : ℕ)
    → IsSoundCore c → Replays opening (entries ++ e ∷ []) after → Steps c e.event e.answer after
    → (list_any (λ x. x.has_failed) (attempts_of after.dag s) ≡ true
    → is_complete after.dag s ≡ false)
    → IsWindow opening entries c s → IsWindow opening (entries ++ e ∷ []) after s
window_kept opening entries e c after s sound replays step lacks w =
    by (list_any (λ x. x.has_failed) (attempts_of after.dag s)) refl
  where
    before : List Telling
    before = tellings w.mid w.since c w.ends

    more : List Telling
    more = tellings_in c e.event e.answer

    told : (k : ℕ) → (is_flagged c.dag s k ≡ true) ⊎ (is_missed more s k ≡ true)
        → is_missed (before ++ more) s k ≡ true
    told k (inl x) = missed_first before more s k (w.told k x)
    told k (inr x) = missed_last before more s k x

    by : (b : Bool) → list_any (λ x. x.has_failed) (attempts_of after.dag s) ≡ b
        → IsWindow opening (entries ++ e ∷ []) after s
    by true some =
        record {
          before = w.before;
          since = w.since ++ e ∷ [];
          mid = w.mid;
          parts = ap (λ es. es ++ e ∷ []) w.parts ∙ append_assoc w.before w.since (e ∷ []);
          leads = w.leads;
          ends = replays_more w.mid c after w.since e w.ends step;
          open_since = stays_more s w.mid c after w.since e w.ends w.open_since step (lacks some);
          told = λ k h.
              ap (λ all. is_missed all s k) (tellings_more w.mid c after w.since e w.ends step)
              ∙ told k (steps_flag c after e.event e.answer sound step s k h);
        }
    by false none =
        record {
          before = entries ++ e ∷ [];
          since = [];
          mid = after;
          parts = sym (append-nil (entries ++ e ∷ []));
          leads = replays;
          ends = refl;
          open_since = tt;
          told = λ k h.
              absurd (clash (flag_counts (slice_get after.dag.states s) k h) none);
        }

watching_kept :
    (opening : CoreData) (L : Limits) (entries : List Entry) (e : Entry) (c after : CoreData)
    → IsWatching opening L entries c → Steps c e.event e.answer after
    → IsWatching opening L (entries ++ e ∷ []) after
watching_kept opening L entries e c after h step =
    record {
      sound = sound;
      limits = step_limits c after e.event e.answer step ∙ h.limits;
      replays = replays;
      closed = closed;
      windows = λ s live.
          window_kept opening entries e c after s h.sound replays step (lacks s live)
          (h.windows s (lived s (job_runs c) refl live));
    }
  where
    sound : IsSoundCore after
    sound = steps_keep_sound c after e.event e.answer h.sound step

    replays : Replays opening (entries ++ e ∷ []) after
    replays = replays_more opening c after entries e h.replays step

    closed : HasClosed after
    closed = steps_close c after e.event e.answer step h.closed

    lived : (s : ℕ) (b : Bool) → job_runs c ≡ b → IsLive after s → IsLive c s
    lived s true runs live = inl runs
    lived s false ended live =
        subst (λ x. IsLive x s) (ended_stays c after e.event e.answer ended step) live

    lacks : (s : ℕ) → IsLive after s
        → list_any (λ x. x.has_failed) (attempts_of after.dag s) ≡ true
        → is_complete after.dag s ≡ false
    lacks s (inl runs) some =
        (sound.job.goes_on runs).settled.failed s
        (counts_failed (slice_get after.dag.states s) some)
    lacks s (inr aborted) some = (closed s aborted).lacks

-- ---- the attempts that count as failed

-- their numbers, where the first attempt has this one
numbers_failed : ℕ → List StageAttempt → List ℕ
numbers_failed n [] = []
numbers_failed n (x ∷ xs) =
    cond x.has_failed (n ∷ numbers_failed (suc n) xs) (numbers_failed (suc n) xs)

many_failed : (n : ℕ) (xs : List StageAttempt)
    → length (numbers_failed n xs) ≡ count_by (λ x. x.has_failed) xs
unfolding numbers_failed
many_failed n [] = refl
many_failed n (x ∷ xs) = by x.has_failed refl (many_failed (suc n) xs)
  where
    by : (b : Bool) → x.has_failed ≡ b
        → length (numbers_failed (suc n) xs) ≡ count_by (λ y. y.has_failed) xs
        → length (cond b (n ∷ numbers_failed (suc n) xs) (numbers_failed (suc n) xs))
        ≡ count_by (λ y. y.has_failed) (x ∷ xs)
    by true is rest =
        let all = sum_by-cons (λ (y : StageAttempt). one_if y.has_failed) x xs in
        let one : one_if x.has_failed ≡ 1 = ap one_if is in
        omega (arith, all, one, rest)
    by false is rest =
        let all = sum_by-cons (λ (y : StageAttempt). one_if y.has_failed) x xs in
        let one : one_if x.has_failed ≡ 0 = ap one_if is in
        omega (arith, all, one, rest)

-- an attempt of this number counts as failed
record IsFailedAt (n : ℕ) (xs : List StageAttempt) (m : ℕ) : Type 0 where
  above : n ≤ m
  flagged : flag_in (slice_get xs (m - n)) ≡ true

number_failed : (n : ℕ) (xs : List StageAttempt) (m : ℕ)
    → is_in (numbers_failed n xs) m ≡ true → IsFailedAt n xs m
unfolding numbers_failed
number_failed n [] m e = absurd (true≢false (sym e))
number_failed n (x ∷ xs) m e =
    by x.has_failed refl e (λ h. number_failed (suc n) xs m h)
  where
    later : IsFailedAt (suc n) xs m → IsFailedAt n (x ∷ xs) m
    later at =
        let least = at.above in
        let same : suc (m - suc n) ≡ m - n = omega (arith, least) in
        record {
          above = omega (arith, least);
          flagged =
              subst (λ (i : ℕ). flag_in (slice_get (x ∷ xs) i) ≡ true) same at.flagged;
        }

    here : x.has_failed ≡ true → (b : Bool) → (n == m) ≡ b
        → (b || is_in (numbers_failed (suc n) xs) m) ≡ true
        → (is_in (numbers_failed (suc n) xs) m ≡ true → IsFailedAt (suc n) xs m)
        → IsFailedAt n (x ∷ xs) m
    here is true same h rest =
        let at : n ≡ m = grind (arith, nat_tests, same) in
        let none : zero ≡ m - n = omega (arith, at) in
        record {
          above = omega (arith, at);
          flagged = subst (λ (i : ℕ). flag_in (slice_get (x ∷ xs) i) ≡ true) none is;
        }
    here is false other h rest = later (rest h)

    by : (b : Bool) → x.has_failed ≡ b
        → is_in (cond b (n ∷ numbers_failed (suc n) xs) (numbers_failed (suc n) xs)) m ≡ true
        → (is_in (numbers_failed (suc n) xs) m ≡ true → IsFailedAt (suc n) xs m)
        → IsFailedAt n (x ∷ xs) m
    by true is h rest = here is (n == m) refl h rest
    by false is h rest = later (rest h)

all_from_in : (P : ℕ → Type 0) (ns : List ℕ) → ((m : ℕ) → is_in ns m ≡ true → P m) → All P ns
all_from_in P [] h = All-nil P
all_from_in P (n ∷ ns) h =
    All-cons P n ns (h n itself)
    (all_from_in P ns (λ m is. h m (or_right (n == m) (is_in ns m) is)))
  where
    itself : is_in (n ∷ ns) n ≡ true
    itself = grind (arith, nat_tests)

apart_failed : (n : ℕ) (xs : List StageAttempt) → AllPairs (λ m k. m ≢ k) (numbers_failed n xs)
unfolding numbers_failed
apart_failed n [] = λ i j d lt within. absurd (omega (arith, within))
apart_failed n (x ∷ xs) = by x.has_failed (apart_failed (suc n) xs)
  where
    others : All (λ k. n ≢ k) (numbers_failed (suc n) xs)
    others =
        all_from_in (λ k. n ≢ k) (numbers_failed (suc n) xs)
        (λ k is same.
        (let least = (number_failed (suc n) xs k is).above in omega (arith, least, same)))

    by : (b : Bool) → AllPairs (λ m k. m ≢ k) (numbers_failed (suc n) xs)
        → AllPairs (λ m k. m ≢ k)
        (cond b (n ∷ numbers_failed (suc n) xs) (numbers_failed (suc n) xs))
    by true rest = AllPairs-cons (λ m k. m ≢ k) n (numbers_failed (suc n) xs) others rest
    by false rest = rest

-- the numbers of all attempts of a stage that count as failed
numbers_in : Option StageState → List ℕ
numbers_in None = []
numbers_in (Some state) = numbers_failed state.before state.attempts

many_in : (o : Option StageState) → length (numbers_in o) ≡ failed_count o
unfolding numbers_in
many_in None = refl
many_in (Some state) = many_failed state.before state.attempts

apart_in : (o : Option StageState) → AllPairs (λ m k. m ≢ k) (numbers_in o)
unfolding numbers_in
apart_in None = λ i j d lt within. absurd (omega (arith, within))
apart_in (Some state) = apart_failed state.before state.attempts

flagged_in : (o : Option StageState) (m : ℕ) → is_in (numbers_in o) m ≡ true
    → flag_in (attempt_among o m) ≡ true
unfolding numbers_in
flagged_in None m e = absurd (true≢false (sym e))
flagged_in (Some state) m e =
    by (nat_lt m state.before) refl (number_failed state.before state.attempts m e)
  where
    by : (b : Bool) → nat_lt m state.before ≡ b → IsFailedAt state.before state.attempts m
        → flag_in (slice_get state.attempts
        (if b then length state.attempts else m - state.before)) ≡ true
    by true below at =
        let least = at.above in absurd (grind (arith, nat_tests, below, least))
    by false above at = at.flagged

-- ---- the limit

begins_unflagged :
    (graph : List StageData) (limits : Limits) (saved : Bool) (plan : List PlanLine)
    (last : Option CoreData) (c : CoreData) → IsOpening graph limits saved plan last c → (s k : ℕ)
    → is_flagged c.dag s k ≡ true → is_missed [] s k ≡ true
begins_unflagged graph limits saved plan last c o s k e =
    absurd (clash e (no_flag (attempt_among (slice_get c.dag.states s) k)
    (opening_slot FewerFlags NoFlag graph limits saved plan last c (flags_calm limits) o s k)))

shown : (limits : Limits) (opening end : CoreData) (entries : List Entry) (s : ℕ)
    → end.dag.limits ≡ limits → IsClosed end.dag s → IsWindow opening entries end s
    → ShowsStageLimit limits opening entries end s
shown limits opening end entries s same closed w =
    record {
      before = w.before;
      since = w.since;
      parts = w.parts;
      mid = w.mid;
      leads = w.leads;
      ends = w.ends;
      open_since = w.open_since;
      failures = picked.picked;
      among = picked.among;
      are = picked.are;
      apart = subst (λ ns. AllPairs (λ m n. m ≢ n) ns) (sym picked.views) (apart_in o);
      many =
          let often = closed.often in
          let enough : end.dag.limits.stage_attempts ≤ failed_count o =
          grind (arith, nat_tests, often) in
          let as_many : length picked.picked ≡ failed_count o =
          sym (length-map picked.picked number_of) ∙ ap length picked.views ∙ many_in o in
          let limit : end.dag.limits.stage_attempts ≡ limits.stage_attempts =
          ap (λ (l : Limits). l.stage_attempts) same in
          omega (arith, enough, as_many, limit);
    }
  where
    o : Option StageState
    o = slice_get end.dag.states s

    picked : Picked (is_miss_of s) number_of (tellings w.mid w.since end w.ends)
        (numbers_in (slice_get end.dag.states s))
    picked =
        all_picked (is_miss_of s) number_of (tellings w.mid w.since end w.ends) (numbers_in o)
        (λ k has. w.told k (flagged_in o k has))

pub stage_limits_are_shown : StageLimitsAreShown
stage_limits_are_shown graph limits saved plan last opening end entries s o sound replays e =
    shown limits opening end entries s h.limits (h.closed s e) (h.windows s (inr e))
  where
    begins : IsWatching opening limits [] opening
    begins =
        record {
          sound = sound;
          limits = opening_limits graph limits saved plan last opening o;
          replays = refl;
          closed = λ r j. absurd (let job = o.job in search (rules, job, j));
          windows = λ r live. record {
            before = [];
            since = [];
            mid = opening;
            parts = refl;
            leads = refl;
            ends = refl;
            open_since = tt;
            told = λ k f. begins_unflagged graph limits saved plan last opening o r k f;
          };
        }

    h : IsWatching opening limits entries end
    h =
        replays_induct (λ es c. IsWatching opening limits es c) (watching_kept opening limits) []
        opening begins entries end replays
