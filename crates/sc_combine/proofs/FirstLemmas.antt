-- The places at which numbers stand first, one number after another.
use Rattle.std.proofs.Common.{◌≡◌, ◌≢◌, ◌∙◌, ℕ, suc, ◌+◌, ◌<◌, ◌==◌, Bool, true, false, List, [], ◌∷◌, ◌++◌, length, drop, get_or, ap, ap₂, sym, arith, if◌then◌else◌, append_assoc, ne_eqb}
use Rattle.std.proofs.lemmas.List.{drop_more, length_push}
use Rattle.std.proofs.lemmas.List.Elements.{All-cons, All-nil}
use Rattle.sc_keys.proofs.PlaceLemmas.{is_itself}
use Rattle.std.specs.List.{All}
use Rattle.sc_combine.specs.Groupings.{firsts_from}

firsts_next : (known i : ℕ) (numbers : List ℕ) → i < length numbers
    → firsts_from known i (drop i numbers)
    ≡ (if get_or numbers i 0 == known
    then i ∷ firsts_from (suc known) (suc i) (drop (i + 1) numbers)
    else firsts_from known (suc i) (drop (i + 1) numbers))
firsts_next known i numbers within = ap (firsts_from known i) (drop_more numbers i 0 within)

-- a number that stands first
pub firsts_put : (out after numbers whole : List ℕ) (i : ℕ) → i < length numbers
    → get_or numbers i 0 ≡ length out → after ≡ out ++ i ∷ []
    → out ++ firsts_from (length out) i (drop i numbers) ≡ whole
    → after ++ firsts_from (length after) (i + 1) (drop (i + 1) numbers) ≡ whole
firsts_put out after numbers whole i within new pushed so_far =
    let rest = drop (i + 1) numbers in
    let next : i + 1 ≡ suc i = omega arith in
    let size : length after ≡ suc (length out) =
    ap length pushed ∙ length_push out i ∙ omega arith in
    let step : firsts_from (length out) i (drop i numbers)
    ≡ i ∷ firsts_from (suc (length out)) (suc i) rest =
    firsts_next (length out) i numbers within
    ∙ ap (λ m. if m == length out then i ∷ firsts_from (suc (length out)) (suc i) rest
    else firsts_from (length out) (suc i) rest) new
    ∙ ap (λ b. if b then i ∷ firsts_from (suc (length out)) (suc i) rest
    else firsts_from (length out) (suc i) rest) (is_itself (length out)) in
    ap₂ (λ k j. after ++ firsts_from k j rest) size next
    ∙ ap (λ xs. xs ++ firsts_from (suc (length out)) (suc i) rest) pushed
    ∙ append_assoc out (i ∷ []) (firsts_from (suc (length out)) (suc i) rest)
    ∙ ap (λ xs. out ++ xs) (sym step) ∙ so_far

-- a number that stood before
pub firsts_pass : (out numbers whole : List ℕ) (i : ℕ) → i < length numbers
    → get_or numbers i 0 ≢ length out
    → out ++ firsts_from (length out) i (drop i numbers) ≡ whole
    → out ++ firsts_from (length out) (i + 1) (drop (i + 1) numbers) ≡ whole
firsts_pass out numbers whole i within other so_far =
    let rest = drop (i + 1) numbers in
    let next : i + 1 ≡ suc i = omega arith in
    ap (λ j. out ++ firsts_from (length out) j rest) next
    ∙ ap (λ b. out ++ (if b then i ∷ firsts_from (suc (length out)) (suc i) rest
    else firsts_from (length out) (suc i) rest))
    (sym (ne_eqb (get_or numbers i 0) (length out) other))
    ∙ ap (λ xs. out ++ xs) (sym (firsts_next (length out) i numbers within)) ∙ so_far

-- they are places of the numbers
inside_by : (b : Bool) (n i : ℕ) (ps qs : List ℕ) → i < n → All (λ p. p < n) ps
    → All (λ p. p < n) qs → All (λ p. p < n) (if b then i ∷ ps else qs)
inside_by true n i ps qs here first rest = All-cons (λ p. p < n) i ps here first
inside_by false n i ps qs here first rest = rest

inside : (n known i : ℕ) (ns : List ℕ) → i + length ns ≡ n
    → All (λ p. p < n) (firsts_from known i ns)
inside n known i [] is = All-nil (λ p. p < n)
inside n known i (m ∷ ns) is =
    inside_by (m == known) n i (firsts_from (suc known) (suc i) ns) (firsts_from known (suc i) ns)
    (omega arith) (inside n (suc known) (suc i) ns (omega arith))
    (inside n known (suc i) ns (omega arith))

pub firsts_inside : (ns : List ℕ) → All (λ p. p < length ns) (firsts_from 0 0 ns)
firsts_inside ns = inside (length ns) 0 0 ns (omega arith)
