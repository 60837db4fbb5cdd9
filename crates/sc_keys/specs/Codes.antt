-- The codes of texts.
use Rattle.std.specs.Prelude.{◌≡◌, ◌+◌, ◌*◌, ◌<◌, ℕ, List, [], ◌∷◌, drop, take}
use Rattle.std.specs.List.{AllByRecursion}

-- bytes as a number, the first byte lowest
abbrev pub number_of : List ℕ → ℕ
number_of [] = 0
number_of (b ∷ bs) = b + 256 * number_of bs

-- the same with a 1 behind the last byte, which tells how many bytes there are
abbrev pub code : List ℕ → ℕ
code [] = 1
code (b ∷ bs) = b + 256 * code bs

-- numbers that are bytes
abbrev pub AreBytes : List ℕ → Type 0
AreBytes bytes = AllByRecursion (λ b. b < 256) bytes

-- the code of some bytes
pub record IsCode (bytes : List ℕ) (n : ℕ) : Type 0 where
  pub is : n ≡ code bytes
  pub digits : AreBytes bytes

-- the code of the first bytes of a text, and the bytes behind these
abbrev pub code_and_rest : List ℕ → ℕ × List ℕ
code_and_rest text = (code (take 15 text), drop 15 text)

-- the code and the rest of a text, of which the first bytes all give digits
pub record IsCoded (text : List ℕ) (key : ℕ × List ℕ) : Type 0 where
  pub is : key ≡ code_and_rest text
  pub digits : AreBytes (take 15 text)
