-- Pieces that stand one behind the other in one list.
use Rattle.std.specs.Prelude.{ℕ, ◌≡◌, ◌≤◌, List, [], ◌∷◌, length, take, drop}

-- a list cut into pieces of these lengths
abbrev pub pieces_of : List ℕ → List ℕ → List (List ℕ)
pieces_of [] bytes = []
pieces_of (len ∷ lens) bytes = take len bytes ∷ pieces_of lens (drop len bytes)

-- pieces of these lengths are the whole list
abbrev pub AreLengths : List ℕ → List ℕ → Type 0
AreLengths [] bytes = bytes ≡ []
AreLengths (len ∷ lens) bytes = (len ≤ length bytes) × AreLengths lens (drop len bytes)
