-- What is left to write, after some of it was taken.
use Rattle.std.proofs.Common.{◌≡◌, ◌∙◌, ℕ, ◌+◌, ◌-◌, ◌≤◌, List, ◌++◌, Option, length, take, drop, ap, sym, subst, arith, length-drop}
use Rattle.std.proofs.KnownBytes.{Appends-trans}
use Rattle.std.proofs.Math.Seq.{take-add}
use Rattle.std.proofs.lemmas.List.{drop-drop}
use Rattle.std.specs.Io.KnownBytes.{Appends}

-- so many places of some bytes stand before what is left of them
pub record IsLeft (start now : Option (List ℕ)) (bytes rest : List ℕ) : Type 0 where
  pub shorter : length rest ≤ length bytes
  pub left : rest ≡ drop (length bytes - length rest) bytes
  pub taken : Appends start now (take (length bytes - length rest) bytes)

-- some of what is left was taken
pub left_more : (start now next : Option (List ℕ)) (bytes rest rest' : List ℕ) (count : ℕ)
    → count ≤ length rest → rest' ≡ drop count rest → IsLeft start now bytes rest
    → Appends now next (take count rest) → IsLeft start next bytes rest'
left_more start now next bytes rest rest' count within is before more =
    let shorter = before.shorter in
    let long : length rest' ≡ length rest - count = ap length is ∙ length-drop count rest in
    let place : length bytes - length rest' ≡ length bytes - length rest + count = omega arith in
    record {
      shorter = omega arith;
      left = is ∙ ap (drop count) before.left
          ∙ drop-drop count (length bytes - length rest) bytes ∙ ap (λ n. drop n bytes) (sym place);
      taken = subst (Appends start next)
          (ap (λ xs. take (length bytes - length rest) bytes ++ take count xs) before.left
          ∙ sym (take-add (length bytes - length rest) count bytes)
          ∙ ap (λ n. take n bytes) (sym place))
          (Appends-trans start now next _ (take count rest) before.taken more);
    }
