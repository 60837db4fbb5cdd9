-- What a submission makes of stages, found from the greatest number down.
use Rattle.std.proofs.Common.{◌≡◌, ℕ, ◌-◌, ◌<◌, ◌≤◌, ◌==◌, ◌&&◌, ◌||◌, not, ◌⊎◌, inl, inr, zero, suc, Bool, true, false, if◌then◌else◌, List, [], ◌∷◌, length, slice_get, refl, ap, sym, subst, ◌∙◌, arith, rules}
use Rattle.std.specs.List.{All, list_any}
use Rattle.std.proofs.Math.ListN.{set}
use Rattle.std.proofs.lemmas.Bool.{cases_eq, cases_lt}
use Rattle.std.proofs.lemmas.Bool.Decides.{nat_tests}
use Rattle.std.proofs.lemmas.List.Elements.{All-head, All-tail}
use Rattle.sc_base.specs.Lists.{at_or, numbers_below}
use Rattle.sc_dag.specs.DagData.{DagData, no_stage, stage_at}
use Rattle.sc_dag.specs.Outputs.{has_inputs, is_complete, is_complete_by, results_in}
use Rattle.sc_dag.specs.Submission.{AreLookedAt, is_asked_for, is_idle_in, reads}
use Rattle.sc_dag.specs.Rows.{AreFates, AreFatesFrom, AreOlder, SuitFates, SuitsFate, fate_at, fate_for, is_looked_at, is_to_look_at, moves}
use Rattle.sc_dag.specs.declared.fates.Fate.{Fate}
use Rattle.sc_dag.specs.declared.fates.Fate.TheVariants.{Starts, Stays, Waits}

-- ---- lists

at_or_past : {A : Type 0} (xs : List A) (i : ℕ) (d : A) → length xs ≤ i → at_or xs i d ≡ d
at_or_past [] i d le = refl
at_or_past (x ∷ xs) zero d le = absurd (omega (arith, le))
at_or_past (x ∷ xs) (suc i) d le = at_or_past xs i d (omega (arith, le))

at_or_set_same : {A : Type 0} (xs : List A) (i : ℕ) (d x : A) → i < length xs
    → at_or (set xs i x) i d ≡ x
at_or_set_same [] i d x l = absurd (omega (arith, l))
at_or_set_same (y ∷ ys) zero d x l = refl
at_or_set_same (y ∷ ys) (suc i) d x l = at_or_set_same ys i d x (omega (arith, l))

at_or_set_other : {A : Type 0} (xs : List A) (i j : ℕ) (d x : A) → (j ≡ i → ⊥)
    → at_or (set xs i x) j d ≡ at_or xs j d
at_or_set_other [] i j d x ne = refl
at_or_set_other (y ∷ ys) zero zero d x ne = absurd (ne refl)
at_or_set_other (y ∷ ys) zero (suc j) d x ne = refl
at_or_set_other (y ∷ ys) (suc i) zero d x ne = refl
at_or_set_other (y ∷ ys) (suc i) (suc j) d x ne =
    at_or_set_other ys i j d x (λ e. ne (ap suc e))

-- ---- who asks for a stage

-- a stage reads no outputs of one that isn't below it
none_at : (ps : List ℕ) (child parent : ℕ) → All (λ p. p < child) ps → child ≤ parent
    → list_any (λ p. p == parent) ps ≡ false
none_at [] child parent all le = refl
none_at (p ∷ ps) child parent all le =
    by (p == parent) refl (All-head (λ p. p < child) p ps all)
    (none_at ps child parent (All-tail (λ p. p < child) p ps all) le)
  where
    by : (b : Bool) → (p == parent) ≡ b → p < child → list_any (λ q. q == parent) ps ≡ false
        → list_any (λ q. q == parent) (p ∷ ps) ≡ false
    by true e below rest = absurd (grind (arith, nat_tests))
    by false e below rest = rw e rest

reads_none : (d : DagData) (child s : ℕ) → AreOlder d.stages → child ≤ s
    → reads d child s ≡ false
reads_none d child s older le = none_at (stage_at d child).parents child s (older child) le

and_false : (a b : Bool) → (a && false) ≡ (b && false)
and_false true true = refl
and_false true false = refl
and_false false true = refl
and_false false false = refl

-- only stages with greater numbers ask for a stage
asked_same : (d : DagData) (looked other : ℕ → Bool) (s : ℕ) → AreOlder d.stages
    → ((child : ℕ) → s < child → looked child ≡ other child)
    → is_asked_for d looked s ≡ is_asked_for d other s
asked_same d looked other s older same =
    ap (λ test. list_any test (numbers_below (length d.stages))) (λ i. λ child. each child i)
  where
    by : (child : ℕ) → (s < child) ⊎ (child ≤ s)
        → (looked child && reads d child s) ≡ (other child && reads d child s)
    by child (inl l) = ap (λ b. b && reads d child s) (same child l)
    by child (inr le) =
        rw (reads_none d child s older le) (and_false (looked child) (other child))

    each : (child : ℕ) → (looked child && reads d child s) ≡ (other child && reads d child s)
    each child = by child (cases_lt s child)

-- ---- fates

fate_same : (d : DagData) (submitted looked other : ℕ → Bool) (s : ℕ) → AreOlder d.stages
    → ((child : ℕ) → s < child → looked child ≡ other child)
    → fate_for d submitted looked s ≡ fate_for d submitted other s
fate_same d submitted looked other s older same =
    ap (λ asked. if not (is_complete d s)
    && (submitted s || (is_idle_in (slice_get d.states s) && asked))
    then (if has_inputs d s then Starts else Waits) else Stays)
    (asked_same d looked other s older same)

-- nothing becomes of stages that aren't there
pub fates_none : (d : DagData) (submitted : ℕ → Bool) (n : ℕ) (fates : List Fate)
    → length fates ≡ n → length d.stages ≡ n → AreFatesFrom d submitted n fates
fates_none d submitted n fates many stages s le =
    let done : is_complete d s ≡ true =
    ap (λ stage. is_complete_by d.tracker stage (results_in (slice_get d.states s)))
    (at_or_past d.stages s no_stage (omega (arith, le, stages))) in
    at_or_past fates s Stays (omega (arith, le, many))
    ∙ rw done refl

-- one more fate
pub fates_more : (d : DagData) (submitted : ℕ → Bool) (k : ℕ) (fates : List Fate) (fate : Fate)
    → AreOlder d.stages → 0 < k → k ≤ length fates → AreFatesFrom d submitted k fates
    → fate ≡ fate_for d submitted (is_looked_at fates) (k - 1)
    → AreFatesFrom d submitted (k - 1) (set fates (k - 1) fate)
fates_more d submitted k fates fate older some le are is s from =
    by (cases_eq s (k - 1))
  where
    kept : (c : ℕ) → s < c → is_looked_at fates c ≡ is_looked_at (set fates (k - 1) fate) c
    kept c l =
        ap moves (sym (at_or_set_other fates (k - 1) c Stays fate
        (λ e. absurd (omega (arith, l, from, e)))))

    same : fate_for d submitted (is_looked_at fates) s
        ≡ fate_for d submitted (is_looked_at (set fates (k - 1) fate)) s
    same = fate_same d submitted (is_looked_at fates) (is_looked_at (set fates (k - 1) fate)) s
        older kept

    by : (s ≡ k - 1) ⊎ (s ≡ k - 1 → ⊥)
        → fate_at (set fates (k - 1) fate) s
        ≡ fate_for d submitted (is_looked_at (set fates (k - 1) fate)) s
    by (inl e) =
        ap (fate_at (set fates (k - 1) fate)) e
        ∙ at_or_set_same fates (k - 1) Stays fate (omega (arith, some, le))
        ∙ is ∙ ap (fate_for d submitted (is_looked_at fates)) (sym e) ∙ same
    by (inr ne) =
        at_or_set_other fates (k - 1) s Stays fate ne
        ∙ are s (omega (arith, some, from, ne)) ∙ same

-- what the fates say of who is looked at
moves_for : (b h : Bool) → moves (if b then (if h then Starts else Waits) else Stays) ≡ b
moves_for true true = refl
moves_for true false = refl
moves_for false h = refl

pub looked_by_fates : (d : DagData) (submitted : ℕ → Bool) (fates : List Fate)
    → AreFates d submitted fates → AreLookedAt d submitted (is_looked_at fates)
looked_by_fates d submitted fates are s =
    ap moves (are s (omega arith))
    ∙ moves_for (is_to_look_at d submitted (is_looked_at fates) s) (has_inputs d s)

-- and who starts
not_done : (done more : Bool) → (not done && more) ≡ true → done ≡ false
not_done true more e = absurd (search (rules, e))
not_done false more e = refl

suits : (d : DagData) (submitted looked : ℕ → Bool) (s : ℕ)
    → SuitsFate d s (fate_for d submitted looked s)
suits d submitted looked s = by (is_to_look_at d submitted looked s) (has_inputs d s) refl refl
  where
    by : (b h : Bool) → is_to_look_at d submitted looked s ≡ b → has_inputs d s ≡ h
        → SuitsFate d s (if b then (if h then Starts else Waits) else Stays)
    by true true look inputs = (inputs, not_done (is_complete d s) _ look)
    by true false look inputs = inputs
    by false h look inputs = tt

pub suit_by_fates : (d : DagData) (submitted : ℕ → Bool) (fates : List Fate)
    → AreFates d submitted fates → SuitFates d fates
suit_by_fates d submitted fates are s =
    subst (SuitsFate d s) (sym (are s (omega arith)))
    (suits d submitted (is_looked_at fates) s)
