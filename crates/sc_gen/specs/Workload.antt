-- Generated lines: a word of sixteen and a number below a thousand, from a seed.
use Rattle.std.specs.Prelude.{ℕ, zero, suc, ◌+◌, ◌*◌, ◌/◌, ◌%◌, List, [], ◌∷◌, ◌++◌, codes, decimal}

-- the generator's number behind one draw
abbrev pub next_number : ℕ → ℕ
next_number s = (s * 1103515245 + 12345) % 2147483648

-- its number behind so many draws from a seed
abbrev pub number_after : ℕ → ℕ → ℕ
number_after seed zero = seed
number_after seed (suc n) = next_number (number_after seed n)

-- what the draw of a number gives, from 0, behind so many before it
abbrev pub draw : ℕ → ℕ → ℕ
draw seed n = number_after seed (suc n) / 65536

-- one line of two draws: a word, a space and a number
abbrev pub line : ℕ → ℕ → List ℕ
line key value = codes "k" ++ decimal (key % 16) ++ codes " " ++ decimal (value % 1000) ++ 10 ∷ []

-- the line of a number, from 0: each takes two draws
abbrev pub line_at : ℕ → ℕ → List ℕ
line_at seed i = line (draw seed (2 * i)) (draw seed (2 * i + 1))

-- so many lines
abbrev pub workload : ℕ → ℕ → List ℕ
workload seed zero = []
workload seed (suc n) = workload seed n ++ line_at seed n
