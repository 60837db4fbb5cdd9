-- Directories that are kept apart.
use Rattle.std.proofs.Common.{◌≡◌, ◌∙◌, ◌⊎◌, inl, inr, ℕ, ◌&&◌, Bool, true, false, true≢false, [], ◌∷◌, refl, ap, sym}
use Rattle.std.specs.Prelude.{◌==◌}
use Rattle.std.proofs.lemmas.Bool.{eq-eqb, eqb-true}
use Rattle.sc_base.specs.Trees.{Path, lies_under}
use Rattle.sc_base.specs.Saves.{NoneUnderBoth}

and-parts : (a b : Bool) → (a && b) ≡ true → (a ≡ true) × (b ≡ true)
and-parts true b e = (refl, e)
and-parts false b e = absurd (true≢false (sym e))

-- two directories are one, or one of them lies under the other
abbrev AreInLine : Path → Path → Type 0
AreInLine d e = (d ≡ e) ⊎ ((lies_under d e ≡ true) ⊎ (lies_under e d ≡ true))

in_line-more : (a b : ℕ) (d e : Path) → a ≡ b → AreInLine d e → AreInLine (a ∷ d) (b ∷ e)
in_line-more a b d e same (inl is) = inl (λ i. same i ∷ is i)
in_line-more a b d e same (inr (inl is)) =
    inr (inl (ap (λ k. k && lies_under d e) (eq-eqb b a (sym same)) ∙ is))
in_line-more a b d e same (inr (inr is)) =
    inr (inr (ap (λ k. k && lies_under e d) (eq-eqb a b same) ∙ is))

-- a byte that is a slash and another one's equal
slash-same : (a c : ℕ) → (c == 47) ≡ true → (c == a) ≡ true → (a == 47) ≡ true
slash-same a c slash same = ap (λ k. k == 47) (sym (eqb-true c a same)) ∙ slash

-- two directories above one path
above-in_line : (d e q : Path) → lies_under d q ≡ true → lies_under e q ≡ true → AreInLine d e
above-in_line [] [] q x y = inl refl
above-in_line [] (b ∷ e) [] x y = absurd (true≢false (sym x))
above-in_line [] (b ∷ e) (c ∷ q) x y =
    inr (inl (slash-same b c x (and-parts (c == b) (lies_under e q) y).0))
above-in_line (a ∷ d) [] [] x y = absurd (true≢false (sym x))
above-in_line (a ∷ d) [] (c ∷ q) x y =
    inr (inr (slash-same a c y (and-parts (c == a) (lies_under d q) x).0))
above-in_line (a ∷ d) (b ∷ e) [] x y = absurd (true≢false (sym x))
above-in_line (a ∷ d) (b ∷ e) (c ∷ q) x y =
    let one = and-parts (c == a) (lies_under d q) x in
    let two = and-parts (c == b) (lies_under e q) y in
    in_line-more a b d e (sym (eqb-true c a one.0) ∙ eqb-true c b two.0)
    (above-in_line d e q one.1 two.1)

pub none_under_both : NoneUnderBoth
none_under_both d e q differ one two under = by (lies_under e q) refl
  where
    never : AreInLine d e → ⊥
    never (inl is) = differ is
    never (inr (inl is)) = true≢false (sym is ∙ one)
    never (inr (inr is)) = true≢false (sym is ∙ two)

    by : (b : Bool) → lies_under e q ≡ b → b ≡ false
    by true is = absurd (never (above-in_line d e q under is))
    by false is = refl
