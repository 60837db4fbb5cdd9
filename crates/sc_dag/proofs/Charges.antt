-- What is kept of attempts that failed or were given up.
use Rattle.std.proofs.Common.{◌≡◌, ℕ, zero, suc, ◌-◌, ◌<◌, ◌≤◌, true, List, [], ◌∷◌, All, AllPairs, length, map, Option, Some, None, IfSome, slice_get, sym, ◌∙◌, arith, rules}
use Rattle.std.proofs.lemmas.List.Elements.{All-head, All-map, All-nil, All-tail, All-weaker}
use Rattle.std.proofs.lemmas.List.Kept.{AllPairs-cons}
use Rattle.sc_ids.specs.Changes.{change_at}
use Rattle.sc_dag.specs.Births.{AreCharged, births_of, is_given_up}
use Rattle.sc_dag.specs.declared.attempts.StageAttempt.{StageAttempt}
use Rattle.sc_dag.proofs.Items.{all_changed, all_unmapped, pairs_head, pairs_tail}

-- ---- pairs

-- what holds of all pairs holds after a change that keeps it on both sides
pub pairs_changed :
    {A : Type 0} (R : A → A → Type 0) (xs : List A) (i : ℕ) (f : A → A)
    → ((x y : A) → R x y → R (f x) y) → ((x y : A) → R x y → R x (f y)) → AllPairs R xs
    → AllPairs R (change_at xs i f)
pairs_changed R [] i f front behind pairs = pairs
pairs_changed R (x ∷ xs) zero f front behind pairs =
    AllPairs-cons R (f x) xs
    (All-weaker (R x) (R (f x)) (λ y h. front x y h) xs (pairs_head R x xs pairs))
    (pairs_tail R x xs pairs)
pairs_changed R (x ∷ xs) (suc i) f front behind pairs =
    AllPairs-cons R x (change_at xs i f)
    (all_changed (R x) xs i f (λ y at h. behind x y h) (pairs_head R x xs pairs))
    (pairs_changed R xs i f front behind (pairs_tail R x xs pairs))

-- of the last one, behind the others
pub pairs_last :
    {A : Type 0} (R : A → A → Type 0) (xs : List A) (i : ℕ) (f : A → A) → length xs ≤ suc i
    → ((x y : A) → R x y → R x (f y)) → AllPairs R xs → AllPairs R (change_at xs i f)
pairs_last R [] i f many behind pairs = pairs
pairs_last R (x ∷ []) zero f many behind pairs =
    AllPairs-cons R (f x) [] (All-nil (R (f x))) (λ i j d lt l. absurd (omega (arith, l)))
pairs_last R (x ∷ y ∷ xs) zero f many behind pairs = absurd (omega (arith, many))
pairs_last R (x ∷ xs) (suc i) f many behind pairs =
    AllPairs-cons R x (change_at xs i f)
    (all_changed (R x) xs i f (λ y at h. behind x y h) (pairs_head R x xs pairs))
    (pairs_last R xs i f (omega (arith, many)) behind (pairs_tail R x xs pairs))

-- of all
pub pairs_mapped :
    {A : Type 0} (R : A → A → Type 0) (f : A → A) (xs : List A)
    → ((x y : A) → R x y → R (f x) (f y)) → AllPairs R xs → AllPairs R (map f xs)
pairs_mapped R f [] keeps pairs = λ i j d lt l. absurd (omega (arith, l))
pairs_mapped R f (x ∷ xs) keeps pairs =
    AllPairs-cons R (f x) (map f xs)
    (All-map (R (f x)) f xs
    (All-weaker (R x) (λ y. R (f x) (f y)) (λ y h. keeps x y h) xs (pairs_head R x xs pairs)))
    (pairs_mapped R f xs keeps (pairs_tail R x xs pairs))

-- ---- attempts

-- one that failed began in an epoch before
abbrev pub IsPast : ℕ → StageAttempt → Type 0
IsPast epoch a = a.has_failed ≡ true → a.set.born < epoch

-- and before another one
abbrev pub IsBefore : StageAttempt → StageAttempt → Type 0
IsBefore a b = a.has_failed ≡ true → a.set.born < b.set.born

-- so did one that is given up
abbrev pub IsGivenUp : ℕ → StageAttempt → Type 0
IsGivenUp epoch a = is_given_up a.set ≡ true → a.set.born < epoch

-- where there are none
pub charged_none : (epoch : ℕ) (attempts : List StageAttempt) → births_of attempts ≡ []
    → AreCharged epoch attempts
charged_none epoch [] e =
    record {
      past = All-nil (IsPast epoch);
      rising = λ i j d lt l. absurd (omega (arith, l));
      given_up = tt;
    }
charged_none epoch (a ∷ attempts) e = absurd (search (rules, e))

if_some_weaker :
    {A : Type 0} (P Q : A → Type 0) (o : Option A) → ((x : A) → P x → Q x) → IfSome o P
    → IfSome o Q
if_some_weaker P Q None weaker h = tt
if_some_weaker P Q (Some x) weaker h = weaker x h

-- later on
pub charged_later :
    (epoch later : ℕ) (attempts : List StageAttempt) → epoch ≤ later
    → AreCharged epoch attempts → AreCharged later attempts
charged_later epoch later attempts le are =
    record {
      past = All-weaker (IsPast epoch) (IsPast later)
          (λ a h e. (let lt = h e in omega (arith, lt, le))) attempts are.past;
      rising = are.rising;
      given_up = if_some_weaker (IsGivenUp epoch) (IsGivenUp later)
          (slice_get attempts (length attempts - 1))
          (λ a h e. (let lt = h e in omega (arith, lt, le))) are.given_up;
    }

some_of_all :
    {A : Type 0} (P : A → Type 0) (xs : List A) (i : ℕ) → All P xs → IfSome (slice_get xs i) P
some_of_all P [] i all = tt
some_of_all P (x ∷ xs) zero all = All-head P x xs all
some_of_all P (x ∷ xs) (suc i) all = some_of_all P xs i (All-tail P x xs all)

-- after an event
pub charged_event :
    (epoch later : ℕ) (attempts : List StageAttempt) → epoch < later
    → All (λ b. b ≤ epoch) (births_of attempts) → AreCharged epoch attempts
    → AreCharged later attempts
charged_event epoch later attempts lt births are =
    let before : All (λ a. a.set.born < later) attempts =
    All-weaker (λ a. a.set.born ≤ epoch) (λ a. a.set.born < later)
    (λ a le. omega (arith, le, lt)) attempts
    (all_unmapped (λ b. b ≤ epoch) (λ a. a.set.born) attempts births) in
    record {
      past = All-weaker (λ a. a.set.born < later) (IsPast later) (λ a l e. l) attempts before;
      rising = are.rising;
      given_up = some_of_all (IsGivenUp later) attempts (length attempts - 1)
          (All-weaker (λ a. a.set.born < later) (IsGivenUp later) (λ a l e. l) attempts before);
    }

-- after one that changes all of them
pub charged_lost :
    (epoch later : ℕ) (attempts : List StageAttempt) (f : StageAttempt → StageAttempt)
    → ((a : StageAttempt) → (f a).set.born ≡ a.set.born)
    → ((a : StageAttempt) → (f a).has_failed ≡ a.has_failed) → epoch < later
    → All (λ b. b ≤ epoch) (births_of attempts) → AreCharged epoch attempts
    → AreCharged later (map f attempts)
charged_lost epoch later attempts f born failed lt births are =
    let before : All (λ a. a.set.born < later) (map f attempts) =
    All-map (λ a. a.set.born < later) f attempts
    (All-weaker (λ a. a.set.born ≤ epoch) (λ a. (f a).set.born < later)
    (λ a le. rw (born a) (omega (arith, le, lt))) attempts
    (all_unmapped (λ b. b ≤ epoch) (λ a. a.set.born) attempts births)) in
    record {
      past = All-weaker (λ a. a.set.born < later) (IsPast later) (λ a l e. l) (map f attempts)
          before;
      rising = pairs_mapped IsBefore f attempts
          (λ a b h e. rw (born a, born b) (h (sym (failed a) ∙ e))) are.rising;
      given_up = some_of_all (IsGivenUp later) (map f attempts) (length (map f attempts) - 1)
          (All-weaker (λ a. a.set.born < later) (IsGivenUp later) (λ a l e. l)
          (map f attempts) before);
    }
