-- There are at most as many lines as bytes.
use Rattle.std.proofs.Common.{◌≡◌, ℕ, suc, ◌≤◌, Bool, true, false, cond, eqb, List, [], ◌∷◌, length, ap, arith}
use Rattle.std.specs.List.{onto_first}
use Rattle.std.proofs.lemmas.Bool.{cond_both}
use Rattle.sc_value.specs.Lines.{lines_behind, text_lines}
use Rattle.sc_plan.specs.Limits.{plan_limit}

length-onto_first : (x : ℕ) (parts : List (List ℕ))
    → length (onto_first x parts) ≤ suc (length parts)
length-onto_first x [] = omega arith
length-onto_first x (part ∷ parts) = omega arith

few_behind : (b : Bool) (bytes : List ℕ) → length (lines_behind b bytes) ≤ length bytes
few_behind b [] = omega arith
few_behind b (x ∷ xs) =
    let rest : length (lines_behind false xs) ≤ length xs = few_behind false xs in
    let after : length (lines_behind true xs) ≤ length xs = few_behind true xs in
    let P : List (List ℕ) → Type 0 = λ ls. length ls ≤ suc (length xs) in
    cond_both (eqb x 10) (cond b (lines_behind false xs) ([] ∷ lines_behind false xs))
    (cond (eqb x 13) ([] ∷ lines_behind true xs) (onto_first x (lines_behind false xs))) P
    (λ _. cond_both b (lines_behind false xs) ([] ∷ lines_behind false xs) P (λ _. omega arith)
    (λ _. omega arith))
    (λ _. cond_both (eqb x 13) ([] ∷ lines_behind true xs) (onto_first x (lines_behind false xs)) P
    (λ _. omega arith) (λ _. omega (arith, length-onto_first x (lines_behind false xs))))

pub few_lines : (bytes : List ℕ) (lines : List (List ℕ)) → lines ≡ text_lines bytes
    → length bytes ≤ plan_limit → length lines ≤ plan_limit
few_lines bytes lines is size =
    let few : length (text_lines bytes) ≤ length bytes = few_behind false bytes in
    omega (arith, ap (λ (ls : List (List ℕ)). length ls) is)
