-- Rows for the stages of a job that begins.
use Rattle.std.proofs.Common.{◌≡◌, ℕ, ◌+◌, ◌<◌, ◌≤◌, ◌⊎◌, inl, inr, zero, suc, false, Option, Some, List, [], ◌∷◌, ◌++◌, length, get_or, replicate, slice_get, take, refl, ap, sym, subst, ◌∙◌, arith, rules}
use Rattle.std.specs.List.{All, AllPairs, Contains}
use Rattle.std.proofs.Math.Seq.{take-suc}
use Rattle.std.proofs.lemmas.Bool.{cases_eq, cases_lt}
use Rattle.std.proofs.lemmas.List.{append-nil, append_assoc, length-append, length-map, map-append, replicate_more}
use Rattle.std.proofs.lemmas.List.Elements.{All-append, All-cons, All-nil}
use Rattle.sc_base.specs.Lists.{at_or}
use Rattle.sc_ids.specs.Graphs.{StageData}
use Rattle.sc_dag.specs.DagData.{DagData, StageState, no_stage}
use Rattle.sc_dag.specs.Openings.{AreNumbered, attempts_so_far, blank_state, blank_states, number_behind}
use Rattle.sc_dag.specs.Rows.{AreBlank, RowData, row_data, stages_of}

-- ---- lists

slice_front : {A : Type 0} (xs ys : List A) (i : ℕ) (x : A) → slice_get xs i ≡ Some x
    → slice_get (xs ++ ys) i ≡ Some x
slice_front [] ys i x e = absurd (search (rules, e))
slice_front (z ∷ xs) ys zero x e = e
slice_front (z ∷ xs) ys (suc i) x e = slice_front xs ys i x e

slice_last : {A : Type 0} (xs : List A) (x : A) → slice_get (xs ++ x ∷ []) (length xs) ≡ Some x
slice_last [] x = refl
slice_last (z ∷ xs) x = slice_last xs x

at_or_front : {A : Type 0} (xs ys : List A) (i : ℕ) (d : A) → i < length xs
    → at_or (xs ++ ys) i d ≡ at_or xs i d
at_or_front [] ys i d l = absurd (omega (arith, l))
at_or_front (z ∷ xs) ys zero d l = refl
at_or_front (z ∷ xs) ys (suc i) d l = at_or_front xs ys i d (omega (arith, l))

at_or_last : {A : Type 0} (xs : List A) (x d : A) → at_or (xs ++ x ∷ []) (length xs) d ≡ x
at_or_last [] x d = refl
at_or_last (z ∷ xs) x d = at_or_last xs x d

at_or_behind : {A : Type 0} (xs : List A) (x d : A) (i : ℕ) → length xs < i
    → at_or (xs ++ x ∷ []) i d ≡ d
at_or_behind [] x d zero l = absurd (omega (arith, l))
at_or_behind [] x d (suc i) l = refl
at_or_behind (z ∷ xs) x d zero l = absurd (omega (arith, l))
at_or_behind (z ∷ xs) x d (suc i) l = at_or_behind xs x d i (omega (arith, l))

-- an item of a list is one of a longer list
in_more : {A : Type 0} (xs ys : List A) (x : A) → Contains xs x → Contains (xs ++ ys) x
in_more xs ys x has =
    (has.0, rw (length-append xs ys) (omega (arith, has.1)), at xs ys has.0 x has.1 has.2)
  where
    at : {A : Type 0} (xs ys : List A) (k : ℕ) (x : A) → k < length xs → get_or xs k x ≡ x
        → get_or (xs ++ ys) k x ≡ x
    at [] ys k x l e = absurd (omega (arith, l))
    at (z ∷ xs) ys zero x l e = e
    at (z ∷ xs) ys (suc k) x l e = at xs ys k x (omega (arith, l)) e

in_last : {A : Type 0} (xs : List A) (x : A) → Contains (xs ++ x ∷ []) x
in_last xs x = (length xs, rw (length-append xs (x ∷ [])) (omega arith), at xs x)
  where
    at : {A : Type 0} (xs : List A) (x : A) → get_or (xs ++ x ∷ []) (length xs) x ≡ x
    at [] x = refl
    at (z ∷ xs) x = at xs x

-- ---- numbers

-- stages stand at their numbers, and nothing else does
pub record StandAt (graph stages : List StageData) : Type 0 where
  pub each : All (λ stage. slice_get stages stage.id ≡ Some stage) graph
  pub only : (s : ℕ) → (at_or stages s no_stage ≡ no_stage)
      ⊎ (Contains graph (at_or stages s no_stage) × ((at_or stages s no_stage).id ≡ s))

-- the number behind all of them, and those that were there before
each_more : (graph stages : List StageData) (x : StageData)
    → All (λ stage. slice_get stages stage.id ≡ Some stage) graph
    → All (λ stage. slice_get (stages ++ x ∷ []) stage.id ≡ Some stage) graph
each_more graph stages x each = λ k d l.
    slice_front stages (x ∷ []) (get_or graph k d).id (get_or graph k d) (each k d l)

-- one number more without a stage
pub stand_gap : (graph stages : List StageData) → StandAt graph stages
    → StandAt graph (stages ++ no_stage ∷ [])
stand_gap graph stages h =
    record {
      each = each_more graph stages no_stage h.each;
      only = λ s. by s (cases_lt s (length stages)) (cases_eq s (length stages));
    }
  where
    by : (s : ℕ) → (s < length stages) ⊎ (length stages ≤ s)
        → (s ≡ length stages) ⊎ (s ≡ length stages → ⊥)
        → (at_or (stages ++ no_stage ∷ []) s no_stage ≡ no_stage)
        ⊎ (Contains graph (at_or (stages ++ no_stage ∷ []) s no_stage)
        × ((at_or (stages ++ no_stage ∷ []) s no_stage).id ≡ s))
    by s (inl l) e = rw (at_or_front stages (no_stage ∷ []) s no_stage l) (h.only s)
    by s (inr le) (inl e) = inl (rw e (at_or_last stages no_stage no_stage))
    by s (inr le) (inr ne) =
        inl (at_or_behind stages no_stage no_stage s (omega (arith, le, ne)))

-- one stage more at its number
pub stand_more : (graph stages : List StageData) (x : StageData) → StandAt graph stages
    → length stages ≡ x.id → StandAt (graph ++ x ∷ []) (stages ++ x ∷ [])
stand_more graph stages x h at =
    record {
      each = All-append (λ stage. slice_get (stages ++ x ∷ []) stage.id ≡ Some stage) graph (x ∷ [])
          (each_more graph stages x h.each)
          (All-cons (λ stage. slice_get (stages ++ x ∷ []) stage.id ≡ Some stage) x []
          (subst (λ n. slice_get (stages ++ x ∷ []) n ≡ Some x) at (slice_last stages x))
          (All-nil _));
      only = λ s. by s (cases_lt s (length stages)) (cases_eq s (length stages));
    }
  where
    more : (s : ℕ) → (at_or stages s no_stage ≡ no_stage)
        ⊎ (Contains graph (at_or stages s no_stage) × ((at_or stages s no_stage).id ≡ s))
        → (at_or stages s no_stage ≡ no_stage)
        ⊎ (Contains (graph ++ x ∷ []) (at_or stages s no_stage)
        × ((at_or stages s no_stage).id ≡ s))
    more s (inl none) = inl none
    more s (inr some) = inr (in_more graph (x ∷ []) (at_or stages s no_stage) some.0, some.1)

    by : (s : ℕ) → (s < length stages) ⊎ (length stages ≤ s)
        → (s ≡ length stages) ⊎ (s ≡ length stages → ⊥)
        → (at_or (stages ++ x ∷ []) s no_stage ≡ no_stage)
        ⊎ (Contains (graph ++ x ∷ []) (at_or (stages ++ x ∷ []) s no_stage)
        × ((at_or (stages ++ x ∷ []) s no_stage).id ≡ s))
    by s (inl l) e = rw (at_or_front stages (x ∷ []) s no_stage l) (more s (h.only s))
    by s (inr le) (inl e) =
        rw (e, at_or_last stages x no_stage) (inr (in_last graph x, sym at))
    by s (inr le) (inr ne) = inl (at_or_behind stages x no_stage s (omega (arith, le, ne)))

-- so many numbers more without stages
pub stand_gaps : (n : ℕ) (graph stages : List StageData) → StandAt graph stages
    → StandAt graph (stages ++ replicate n no_stage)
stand_gaps zero graph stages h = rw (append-nil stages) h
stand_gaps (suc n) graph stages h =
    subst (StandAt graph) (append_assoc stages (no_stage ∷ []) (replicate n no_stage))
    (stand_gaps n graph (stages ++ no_stage ∷ []) (stand_gap graph stages h))

-- the number behind the last one
behind_last : (graph : List StageData) (x : StageData)
    → number_behind (graph ++ x ∷ []) ≡ x.id + 1
behind_last [] x = refl
behind_last (y ∷ []) x = refl
behind_last (y ∷ z ∷ graph) x = behind_last (z ∷ graph) x

-- numbers rise
pub behind_below : (graph : List StageData) (i : ℕ) (d : StageData)
    → AllPairs (λ a b. a.id < b.id) graph → i < length graph
    → number_behind (take i graph) ≤ (get_or graph i d).id
behind_below graph zero d rising l = omega arith
behind_below graph (suc i) d rising l =
    rw (take-suc graph i d (omega (arith, l)), behind_last (take i graph) (get_or graph i d))
    (let less = rising i (suc i) d (omega arith) l in omega (arith, less))

-- stages at their numbers, up to the last one
pub numbered_by_stand : (graph stages : List StageData) → StandAt graph stages
    → length stages ≡ number_behind graph → AreNumbered graph stages
numbered_by_stand graph stages h many =
    record { many = many; each = h.each; only = h.only }

-- ---- rows

blank_push : (last : Option DagData) (n : ℕ) (stages : List StageData) (x : StageData)
    → blank_states last n (stages ++ x ∷ [])
    ≡ blank_states last n stages
    ++ blank_state x (attempts_so_far last (n + length stages)) ∷ []
blank_push last n [] x =
    let same : n ≡ n + 0 = omega arith in
    ap (λ m. blank_state x (attempts_so_far last m) ∷ []) same
blank_push last n (y ∷ stages) x =
    let same : n + 1 + length stages ≡ n + suc (length stages) = omega arith in
    ap (λ ss. blank_state y (attempts_so_far last n) ∷ ss)
    (blank_push last (n + 1) stages x
    ∙ ap (λ m. blank_states last (n + 1) stages ++ blank_state x (attempts_so_far last m) ∷ [])
    same)

-- one row more for which nothing was done
pub blank_more : (last : Option DagData) (rows after : List RowData) (stage : StageData)
    → AreBlank last rows
    → after ≡ rows
    ++ row_data stage (blank_state stage (attempts_so_far last (length rows))) false ∷ []
    → AreBlank last after
blank_more last rows after stage blank is =
    let row = row_data stage (blank_state stage (attempts_so_far last (length rows))) false in
    rw is
    (map-append (λ (r : RowData). r.state) rows (row ∷ [])
    ∙ ap (λ ss. ss ++ row.state ∷ []) blank
    ∙ ap (λ n. blank_states last 0 (stages_of rows)
    ++ blank_state stage (attempts_so_far last n) ∷ [])
    (let many = length-map rows (λ (r : RowData). r.stage) in
    let same : length rows ≡ 0 + length (stages_of rows) = omega (arith, many) in same)
    ∙ sym (blank_push last 0 (stages_of rows) stage)
    ∙ ap (blank_states last 0) (sym (map-append (λ (r : RowData). r.stage) rows (row ∷ []))))

-- its stage stands behind the others
pub stages_more : (rows after : List RowData) (stage : StageData) (state : StageState)
    → after ≡ rows ++ row_data stage state false ∷ []
    → stages_of after ≡ stages_of rows ++ stage ∷ []
stages_more rows after stage state is =
    ap stages_of is ∙ map-append (λ (r : RowData). r.stage) rows (row_data stage state false ∷ [])

pub many_more : (rows after : List RowData) (row : RowData) → after ≡ rows ++ row ∷ []
    → length after ≡ length rows + 1
many_more rows after row is = ap length is ∙ length-append rows (row ∷ [])

-- one gap more
pub gap_more : (stages now after : List StageData) (m n : ℕ)
    → now ≡ stages ++ replicate m no_stage → after ≡ now ++ no_stage ∷ [] → n ≡ m + 1
    → after ≡ stages ++ replicate n no_stage
gap_more stages now after m n is more e =
    more ∙ ap (λ xs. xs ++ no_stage ∷ []) is
    ∙ append_assoc stages (replicate m no_stage) (no_stage ∷ [])
    ∙ ap (λ xs. stages ++ xs) (replicate_more m no_stage)
    ∙ ap (λ k. stages ++ replicate k no_stage) (sym e)

-- one stage of the graph more
take_one : {A : Type 0} (i : ℕ) (xs : List A) (x : A) → i < length xs → x ≡ get_or xs i x
    → take (i + 1) xs ≡ take i xs ++ x ∷ []
take_one i xs x l e =
    let one : i + 1 ≡ suc i = omega arith in
    rw one (take-suc xs i x l ∙ ap (λ y. take i xs ++ y ∷ []) (sym e))

pub stand_next :
    (graph : List StageData) (i n : ℕ) (x copy : StageData) (state : StageState)
    (now filled after : List RowData)
    → i < length graph → x ≡ get_or graph i x → copy ≡ x
    → StandAt (take i graph) (stages_of now)
    → stages_of filled ≡ stages_of now ++ replicate n no_stage → length filled ≡ x.id
    → after ≡ filled ++ row_data copy state false ∷ []
    → StandAt (take (i + 1) graph) (stages_of after)
stand_next graph i n x copy state now filled after l at same stand fills many is =
    let before : StandAt (take i graph) (stages_of filled) =
    rw fills (stand_gaps n (take i graph) (stages_of now) stand) in
    let length_is : length (stages_of filled) ≡ x.id =
    length-map filled (λ (r : RowData). r.stage) ∙ many in
    let stages : stages_of after ≡ stages_of filled ++ x ∷ [] =
    stages_more filled after copy state is ∙ ap (λ y. stages_of filled ++ y ∷ []) same in
    subst (λ g. StandAt g (stages_of after)) (sym (take_one i graph x l at))
    (subst (StandAt (take i graph ++ x ∷ [])) (sym stages)
    (stand_more (take i graph) (stages_of filled) x before length_is))

pub behind_next : (graph : List StageData) (i : ℕ) (x : StageData) → i < length graph
    → x ≡ get_or graph i x → number_behind (take (i + 1) graph) ≡ x.id + 1
behind_next graph i x l at =
    ap number_behind (take_one i graph x l at) ∙ behind_last (take i graph) x
