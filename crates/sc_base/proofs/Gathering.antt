-- Results gathered one after another, up to the first that stops: for every loop that pushes each
-- result and leaves at the first refusal.
use Rattle.std.proofs.Common.{◌≡◌, ◌∙◌, ℕ, ◌+◌, ◌<◌, ◌≤◌, List, [], ◌∷◌, ◌++◌, length, map, drop, get_or, refl, ap, sym}
use Rattle.std.proofs.lemmas.List.{at_drop_more, at_drop_all, map-append}

-- results in front of what is gathered from the rest
abbrev pub gathered : {D R O : Type 0} → (R → O → O) → (D → R) → List D → O → O
gathered step good [] o = o
gathered step good (d ∷ ds) o = step (good d) (gathered step good ds o)

-- F gathers what `one` gives at each item, front item first
module _ {X V D R O : Type 0}
    (F : List X → O) (one : X → R) (step : R → O → O) (good : D → R) (view : V → D)
    (next : (x : X) (xs : List X) → F (x ∷ xs) ≡ step (one x) (F xs)) where
  gathered-push : (ds : List D) (d : D) (o : O)
      → gathered step good (ds ++ d ∷ []) o ≡ gathered step good ds (step (good d) o)
  gathered-push [] d o = refl
  gathered-push (e ∷ ds) d o = ap (step (good e)) (gathered-push ds d o)

  gathered-next : (xs : List X) (i : ℕ) (x : X) → i < length xs → x ≡ get_or xs i x
      → F (drop i xs) ≡ step (one x) (F (drop (i + 1) xs))
  gathered-next xs i x within is =
      at_drop_more F xs i x within
      ∙ next (get_or xs i x) (drop (i + 1) xs)
      ∙ ap (λ y. step (one y) (F (drop (i + 1) xs))) (sym is)

  -- one more result is pushed
  pub gathered-more : (xs : List X) (i : ℕ) (x : X) (vs ws : List V) (v : V) (all : O)
      → i < length xs → x ≡ get_or xs i x
      → all ≡ gathered step good (map view vs) (F (drop i xs)) → one x ≡ good (view v)
      → ws ≡ vs ++ v ∷ []
      → all ≡ gathered step good (map view ws) (F (drop (i + 1) xs))
  gathered-more xs i x vs ws v all within at so_far is pushed =
      let rest = F (drop (i + 1) xs) in
      so_far
      ∙ ap (gathered step good (map view vs)) (gathered-next xs i x within at)
      ∙ ap (λ r. gathered step good (map view vs) (step r rest)) is
      ∙ sym (gathered-push (map view vs) (view v) rest)
      ∙ ap (λ ds. gathered step good ds rest)
      (sym (ap (map view) pushed ∙ map-append view vs (v ∷ [])))

  -- all items are done
  pub gathered-all : (done : List D → O) (xs : List X) (i : ℕ) (vs : List V) (all : O)
      → F [] ≡ done [] → ((d : D) (ds : List D) → step (good d) (done ds) ≡ done (d ∷ ds))
      → length xs ≤ i → all ≡ gathered step good (map view vs) (F (drop i xs))
      → all ≡ done (map view vs)
  gathered-all done xs i vs all none add past so_far =
      so_far
      ∙ ap (gathered step good (map view vs)) (at_drop_all F xs i past ∙ none)
      ∙ each (map view vs)
    where
      each : (ds : List D) → gathered step good ds (done []) ≡ done ds
      each [] = refl
      each (d ∷ ds) = ap (step (good d)) (each ds) ∙ add d ds

  -- an item's result stops the rest
  pub gathered-stopped : (bad : R) (stop : O) (xs : List X) (i : ℕ) (x : X) (vs : List V) (all : O)
      → i < length xs → x ≡ get_or xs i x
      → all ≡ gathered step good (map view vs) (F (drop i xs)) → one x ≡ bad
      → ((o : O) → step bad o ≡ stop) → ((d : D) → step (good d) stop ≡ stop) → all ≡ stop
  gathered-stopped bad stop xs i x vs all within at so_far is stops stays =
      let rest = F (drop (i + 1) xs) in
      so_far
      ∙ ap (gathered step good (map view vs))
      (gathered-next xs i x within at ∙ ap (λ r. step r rest) is ∙ stops rest)
      ∙ kept (map view vs)
    where
      kept : (ds : List D) → gathered step good ds stop ≡ stop
      kept [] = refl
      kept (d ∷ ds) = ap (step (good d)) (kept ds) ∙ stays d
