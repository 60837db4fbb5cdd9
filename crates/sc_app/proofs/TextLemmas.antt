-- Texts that are equal, and pieces of a text.
use Rattle.std.proofs.Common.{◌≡◌, ◌∙◌, ℕ, List, ◌++◌, ap, append_assoc, Result, Ok, Err, IfOk}

-- a text that was made, by an equal text
pub text_by : {T E : Type 0} (f : T → List ℕ) (r : Result T E) (x y : List ℕ) → x ≡ y
    → IfOk r (λ t. f t ≡ x) → IfOk r (λ t. f t ≡ y)
text_by f (Ok t) x y e h = h ∙ e
text_by f (Err d) x y e h = h

-- four pieces, grouped from either end, the last by an equal one
pub four_pieces : (a b c d d' : List ℕ) → d ≡ d' → a ++ (b ++ (c ++ d)) ≡ a ++ b ++ c ++ d'
four_pieces a b c d d' e = ap (λ (t : List ℕ). a ++ (b ++ (c ++ t))) e ∙ simp append_assoc

-- six pieces, grouped from either end
pub six_pieces : (a b c d e f : List ℕ) → a ++ (b ++ (c ++ (d ++ (e ++ f))))
    ≡ a ++ b ++ c ++ d ++ e ++ f
six_pieces a b c d e f = simp append_assoc
