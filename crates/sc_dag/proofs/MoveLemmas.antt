-- What was noted of stages made of them, from the first number on.
use Rattle.std.proofs.Common.{◌≡◌, ℕ, ◌+◌, ◌<◌, ◌≤◌, zero, suc, Bool, true, false, Some, List, [], ◌∷◌, ◌++◌, length, slice_get, take, drop, refl, ap, sym, ◌∙◌, arith, rules}
use Rattle.std.specs.List.{list_all}
use Rattle.std.specs.Option.{option_map}
use Rattle.std.proofs.lemmas.List.{length-map}
use Rattle.std.proofs.lemmas.Option.{slice_get-map}
use Rattle.sc_base.specs.Lists.{at_or}
use Rattle.sc_ids.specs.Changes.{change_at}
use Rattle.sc_tracker.specs.TrackerData.{TrackerData}
use Rattle.sc_dag.specs.DagData.{DagData, StageState, no_stage, stage_at}
use Rattle.sc_dag.specs.Outputs.{is_complete_by, results_in}
use Rattle.sc_dag.specs.Submission.{by_number, moved_if}
use Rattle.sc_dag.specs.Rows.{RowData, SuitFates, SuitsFate, are_ready, fate_at, fated, is_complete_in, is_looked_at, ready_of, stages_of, states_of}
use Rattle.sc_dag.specs.declared.fates.Fate.{Fate}
use Rattle.sc_dag.specs.declared.fates.Fate.TheVariants.{Starts, Stays, Waits}

-- ---- lists

-- a change to what an item was
pub change_none : {A : Type 0} (xs : List A) (i : ℕ) (f : A → A) → ((x : A) → f x ≡ x)
    → change_at xs i f ≡ xs
change_none [] i f same = refl
change_none (x ∷ xs) zero f same = ap (λ y. y ∷ xs) (same x)
change_none (x ∷ xs) (suc i) f same = ap (λ ys. x ∷ ys) (change_none xs i f same)

-- one more item changed by its number
number_step : {A : Type 0} (f : ℕ → A → A) (n k : ℕ) (xs : List A) → k < length xs
    → change_at (by_number f n (take k xs) ++ drop k xs) k (f (n + k))
    ≡ by_number f n (take (suc k) xs) ++ drop (suc k) xs
number_step f n k [] l = absurd (omega (arith, l))
number_step f n zero (x ∷ xs) l =
    let same : n + 0 ≡ n = omega arith in ap (λ m. f m x ∷ xs) same
number_step f n (suc k) (x ∷ xs) l =
    let same : n + suc k ≡ suc n + k = omega arith in
    ap (λ m. f n x ∷ change_at (by_number f (suc n) (take k xs) ++ drop k xs) k (f m)) same
    ∙ ap (λ ys. f n x ∷ ys) (number_step f (suc n) k xs (omega (arith, l)))

-- all items changed by their numbers
pub number_all : {A : Type 0} (f : ℕ → A → A) (n k : ℕ) (xs : List A) → length xs ≤ k
    → by_number f n (take k xs) ++ drop k xs ≡ by_number f n xs
number_all f n zero [] le = refl
number_all f n (suc k) [] le = refl
number_all f n zero (x ∷ xs) le = absurd (omega (arith, le))
number_all f n (suc k) (x ∷ xs) le =
    ap (λ ys. f n x ∷ ys) (number_all f (suc n) k xs (omega (arith, le)))

drop_one : {A : Type 0} (k : ℕ) (xs : List A) → drop (suc k) xs ≡ drop 1 (drop k xs)
drop_one zero xs = refl
drop_one (suc k) [] = refl
drop_one (suc k) (x ∷ xs) = drop_one k xs

-- lists that are the same from a number on are so from the next one on
pub drop_more : {A : Type 0} (k : ℕ) (xs ys : List A) → drop k xs ≡ drop k ys
    → drop (k + 1) xs ≡ drop (k + 1) ys
drop_more k xs ys e =
    let one : k + 1 ≡ suc k = omega arith in
    rw one (drop_one k xs ∙ ap (drop 1) e ∙ sym (drop_one k ys))

-- an item behind what was dropped
slice_dropped : {A : Type 0} (xs : List A) (k : ℕ) → slice_get xs k ≡ slice_get (drop k xs) 0
slice_dropped [] zero = refl
slice_dropped [] (suc k) = refl
slice_dropped (x ∷ xs) zero = refl
slice_dropped (x ∷ xs) (suc k) = slice_dropped xs k

slice_same : {A : Type 0} (xs ys : List A) (k : ℕ) → drop k xs ≡ drop k ys
    → slice_get xs k ≡ slice_get ys k
slice_same xs ys k e =
    slice_dropped xs k ∙ ap (λ zs. slice_get zs 0) e ∙ sym (slice_dropped ys k)

all_there : (bs : List Bool) (k : ℕ) → list_all (λ b. b) bs ≡ true → k < length bs
    → slice_get bs k ≡ Some true
all_there [] k all l = absurd (omega (arith, l))
all_there (false ∷ bs) k all l = absurd (search (rules, all))
all_there (true ∷ bs) zero all l = refl
all_there (true ∷ bs) (suc k) all l = all_there bs k all (omega (arith, l))

-- ---- rows that are as they were from a number on

-- there is room for an attempt still
pub ready_still : (rows now : List RowData) (k : ℕ) → are_ready rows ≡ true → k < length rows
    → drop k now ≡ drop k rows → slice_get (ready_of now) k ≡ Some true
ready_still rows now k all l rest =
    slice_get-map (λ r. r.is_ready) now k
    ∙ ap (option_map (λ r. r.is_ready)) (slice_same now rows k rest)
    ∙ sym (slice_get-map (λ r. r.is_ready) rows k)
    ∙ all_there (ready_of rows) k all (rw (length-map rows (λ (r : RowData). r.is_ready)) l)

-- a stage is complete as it was
pub complete_still : (rows now : List RowData) (t : TrackerData) (k : ℕ)
    → stages_of now ≡ stages_of rows → drop k now ≡ drop k rows
    → is_complete_in now t k ≡ is_complete_in rows t k
complete_still rows now t k stages rest =
    let state : slice_get (states_of now) k ≡ slice_get (states_of rows) k =
    slice_get-map (λ r. r.state) now k
    ∙ ap (option_map (λ r. r.state)) (slice_same now rows k rest)
    ∙ sym (slice_get-map (λ r. r.state) rows k) in
    ap (λ s. is_complete_by t (at_or s k no_stage) (results_in (slice_get (states_of now) k)))
    stages
    ∙ ap (λ s. is_complete_by t (at_or (stages_of rows) k no_stage) (results_in s)) state

-- ---- stages

-- what becomes of a stage by its fate
pub fate_moves : (d : DagData) (fates : List Fate) (k : ℕ) (fate : Fate)
    → fate ≡ fate_at fates k → SuitFates d fates → (state : StageState)
    → fated fate d.tracker d.limits (stage_at d k) state
    ≡ moved_if d (is_looked_at fates) k state
fate_moves d fates k fate is suit state = by fate is (rw is (suit k))
  where
    by : (f : Fate) → f ≡ fate_at fates k → SuitsFate d k f
        → fated f d.tracker d.limits (stage_at d k) state
        ≡ moved_if d (is_looked_at fates) k state
    by Stays e s = rw (← e) refl
    by Waits e s = rw (← e, s) refl
    by Starts e s = rw (← e, s.0) refl

-- one more stage moved
pub one_moved : (d : DagData) (fates : List Fate) (k : ℕ) (fate : Fate)
    (now after : List StageState) → fate ≡ fate_at fates k → SuitFates d fates
    → k < length d.states
    → now ≡ by_number (moved_if d (is_looked_at fates)) 0 (take k d.states) ++ drop k d.states
    → after ≡ change_at now k (fated fate d.tracker d.limits (stage_at d k))
    → after ≡ by_number (moved_if d (is_looked_at fates)) 0 (take (k + 1) d.states)
    ++ drop (k + 1) d.states
one_moved d fates k fate now after is suit l before moved =
    let one : k + 1 ≡ suc k = omega arith in
    let none : k ≡ 0 + k = omega arith in
    let moves_as = moved_if d (is_looked_at fates) in
    let xs = by_number moves_as 0 (take k d.states) ++ drop k d.states in
    rw one
    (moved ∙ ap (λ ys. change_at ys k (fated fate d.tracker d.limits (stage_at d k))) before
    ∙ ap (change_at xs k) (λ i. λ state. fate_moves d fates k fate is suit state i)
    ∙ ap (λ n. change_at xs k (moves_as n)) none
    ∙ number_step moves_as 0 k d.states l)
