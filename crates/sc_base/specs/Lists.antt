-- Words on lists.
use Rattle.std.specs.Prelude.{ℕ, zero, suc, List, [], ◌∷◌, Option, Some, None, filter, not, if◌then◌else◌}
use Rattle.std.specs.Str.{bytes_eq}

-- the numbers from `first` on, so many of them
abbrev pub numbers_from : ℕ → ℕ → List ℕ
numbers_from first zero = []
numbers_from first (suc count) = first ∷ numbers_from (suc first) count

-- the numbers below a bound, in order
abbrev pub numbers_below : ℕ → List ℕ
numbers_below bound = numbers_from 0 bound

-- the item at a place, or another one past the end
abbrev pub at_or : {A : Type 0} → List A → ℕ → A → A
at_or [] i other = other
at_or (x ∷ xs) zero other = x
at_or (x ∷ xs) (suc i) other = at_or xs i other

-- what the first entry under a name holds
abbrev pub content_of : List (List ℕ × List ℕ) → List ℕ → Option (List ℕ)
content_of [] name = None
content_of (entry ∷ entries) name =
    if bytes_eq entry.0 name then Some entry.1 else content_of entries name

-- each of some names once, where it stands first
abbrev pub firsts : List (List ℕ) → List (List ℕ)
firsts [] = []
firsts (name ∷ names) = name ∷ filter (λ other. not (bytes_eq name other)) (firsts names)
