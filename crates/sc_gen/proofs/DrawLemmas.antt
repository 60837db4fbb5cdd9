-- One line more.
use Rattle.std.proofs.Common.{◌≡◌, ℕ, suc, ◌+◌, ◌*◌, ◌++◌, ◌/◌, ap, ◌∙◌, arith}
use Rattle.sc_gen.specs.Workload.{line, next_number, number_after, workload}

one_more : (k : ℕ) → suc (suc (2 * k)) ≡ 2 * (k + 1)
one_more k = omega arith

second_of : (k : ℕ) → suc (suc (2 * k)) ≡ suc (2 * k + 1)
second_of k = omega arith

next_line : (k : ℕ) → suc k ≡ k + 1
next_line k = omega arith

-- the number behind the two draws of a line
drawn_twice : (seed k number first second : ℕ) → number ≡ number_after seed (2 * k)
    → first ≡ next_number number → second ≡ next_number first
    → second ≡ number_after seed (suc (suc (2 * k)))
drawn_twice seed k number first second before one two =
    two ∙ ap next_number (one ∙ ap next_number before)

pub two_more : (seed k number first second : ℕ) → number ≡ number_after seed (2 * k)
    → first ≡ next_number number → second ≡ next_number first
    → second ≡ number_after seed (2 * (k + 1))
two_more seed k number first second before one two =
    drawn_twice seed k number first second before one two ∙ ap (number_after seed) (one_more k)

-- the lines with one more, by what was drawn for it
pub line_more : (seed k number first second : ℕ) → number ≡ number_after seed (2 * k)
    → first ≡ next_number number → second ≡ next_number first
    → workload seed k ++ line (first / 65536) (second / 65536) ≡ workload seed (k + 1)
line_more seed k number first second before one two =
    ap (λ n. workload seed k ++ line (first / 65536) (n / 65536))
    (drawn_twice seed k number first second before one two ∙ ap (number_after seed) (second_of k))
    ∙ ap (λ n. workload seed k ++ line (n / 65536) (number_after seed (suc (2 * k + 1)) / 65536))
    (one ∙ ap next_number before)
    ∙ ap (workload seed) (next_line k)
