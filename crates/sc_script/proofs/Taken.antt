-- Results gathered from items that are taken one after another, for loops that consume a vector.
use Rattle.std.proofs.Common.{◌≡◌, ◌∙◌, ◌≤◌, List, [], ◌∷◌, ◌++◌, length, map, refl, ap, arith, Err, Option, None}
use Rattle.sc_base.specs.Answers.{Finds}
use Rattle.sc_base.specs.declared.refusals.OrMemory.{OrMemory}
use Rattle.sc_base.specs.declared.refusals.OrMemory.TheVariants.{Fault, OutOfMemory}
use Rattle.sc_base.proofs.Gathering.{gathered, gathered-more, gathered-all, gathered-stopped}

-- F gathers what `one` gives at each item, front item first
module _ {X V D R O : Type 0}
    (F : List X → O) (one : X → R) (step : R → O → O) (good : D → R) (view : V → D)
    (next : (x : X) (xs : List X) → F (x ∷ xs) ≡ step (one x) (F xs)) where
  -- one more item is taken, and its result is pushed
  pub taken-more : (xs rest : List X) (x : X) (vs ws : List V) (v : V) (all : O) → xs ≡ x ∷ rest
      → all ≡ gathered step good (map view vs) (F xs) → one x ≡ good (view v) → ws ≡ vs ++ v ∷ []
      → all ≡ gathered step good (map view ws) (F rest)
  taken-more xs rest x vs ws v all is so_far found pushed =
      gathered-more F one step good view next (x ∷ rest) 0 x vs ws v all (omega arith) refl
      (so_far ∙ ap (λ ys. gathered step good (map view vs) (F ys)) is) found pushed

  -- no item is left
  pub taken-all : (done : List D → O) (xs : List X) (vs : List V) (all : O)
      → F [] ≡ done [] → ((d : D) (ds : List D) → step (good d) (done ds) ≡ done (d ∷ ds))
      → length xs ≤ 0 → all ≡ gathered step good (map view vs) (F xs) → all ≡ done (map view vs)
  taken-all done xs vs all none add past so_far =
      gathered-all F one step good view next done xs 0 vs all none add past so_far

  -- an item is taken whose result stops the rest
  pub taken-stopped : (bad : R) (stop : O) (xs rest : List X) (x : X) (vs : List V) (all : O)
      → ((o : O) → step bad o ≡ stop) → ((d : D) → step (good d) stop ≡ stop) → xs ≡ x ∷ rest
      → all ≡ gathered step good (map view vs) (F xs) → one x ≡ bad → all ≡ stop
  taken-stopped bad stop xs rest x vs all stops stays is so_far found =
      gathered-stopped F one step good view next bad stop (x ∷ rest) 0 x vs all (omega arith) refl
      (so_far ∙ ap (λ ys. gathered step good (map view vs) (F ys)) is) found stops stays

-- where one thing isn't found, another isn't either
pub not_found : {X Y Z W F : Type 0} (view : X → Y) (other : Z → W) (error : OrMemory F)
    (found : Option Y) (all : Option W) → (found ≡ None → all ≡ None)
    → Finds view (Err error) found → Finds other (Err error) all
not_found view other (Fault f) found all none is = none is
not_found view other OutOfMemory found all none is = tt
