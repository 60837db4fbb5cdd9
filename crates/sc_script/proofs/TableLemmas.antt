-- What is found in a table, proved once for every table.
use Rattle.std.proofs.Common.{◌≡◌, ◌∙◌, ℕ, zero, suc, Bool, true, false, ◌&&◌, not, List, [], ◌∷◌, Option, Some, refl, ap, sym, ◌⊎◌, inl, inr, arith}
use Rattle.std.proofs.lemmas.Bool.{and_parts}
use Rattle.std.proofs.lemmas.Option.{same_Some}
use Rattle.std.proofs.lemmas.Slice.Eq.{bytes_eq-Decides}
use Rattle.std.specs.Prelude.{Contains, if◌then◌else◌, is_some}
use Rattle.std.specs.Str.{bytes_eq}
use Rattle.sc_script.specs.Tables.{Table, found_in, operations, actions, words, signs, IsExact, TablesAreExact}

contains_cases : {X : Type 0} (x y : X) (xs : List X) → Contains (x ∷ xs) y
    → (x ≡ y) ⊎ Contains xs y
contains_cases x y xs (zero, within, is) = inl is
contains_cases x y xs (suc k, within, is) = inr (k, omega arith, is)

contains_more : {X : Type 0} (x y : X) (xs : List X) → Contains xs y → Contains (x ∷ xs) y
contains_more x y xs (k, within, is) = (suc k, omega arith, is)

-- no two lines have one spelling: a test that computes
abbrev distinct : {T : Type 0} → Table T → Bool
distinct [] = true
distinct (line ∷ lines) = not (is_some (found_in lines line.0)) && distinct lines

module _ {T : Type 0} where
  -- what is found at the first line of a table or behind it, by whether the word is spelled there
  abbrev found_at : Bool → List ℕ × T → Table T → List ℕ → Option T
  found_at here line lines w = if here then Some line.1 else found_in lines w

  sound_at : (line : List ℕ × T) (lines : Table T) (w : List ℕ) (t : T) (here : Bool)
      → bytes_eq w line.0 ≡ here → found_at here line lines w ≡ Some t
      → (found_in lines w ≡ Some t → Contains lines (w, t)) → Contains (line ∷ lines) (w, t)
  sound_at line lines w t true test e later =
      let spelled : w ≡ line.0 = (bytes_eq-Decides w line.0).0 test in
      let same : line.1 ≡ t = same_Some line.1 t e in
      (0, omega arith, ap (λ v. (v, line.1)) (sym spelled) ∙ ap (λ s. (w, s)) same)
  sound_at line lines w t false test e later = contains_more line (w, t) lines (later e)

  sound : (lines : Table T) (w : List ℕ) (t : T) → found_in lines w ≡ Some t
      → Contains lines (w, t)
  sound [] w t e = cc
  sound (line ∷ lines) w t e =
      sound_at line lines w t (bytes_eq w line.0) refl e (sound lines w t)

  complete_at : (line : List ℕ × T) (lines : Table T) (w : List ℕ) (t : T) (here : Bool)
      → bytes_eq w line.0 ≡ here → not (is_some (found_in lines line.0)) ≡ true
      → found_in lines w ≡ Some t → found_at here line lines w ≡ Some t
  complete_at line lines w t true test once later =
      let spelled : w ≡ line.0 = (bytes_eq-Decides w line.0).0 test in
      let again : found_in lines line.0 ≡ Some t = ap (found_in lines) (sym spelled) ∙ later in
      let no_other : not (is_some (Some t)) ≡ true = ap (λ o. not (is_some o)) (sym again) ∙ once in
      cc
  complete_at line lines w t false test once later = later

  complete : (lines : Table T) (w : List ℕ) (t : T) → distinct lines ≡ true
      → Contains lines (w, t) → found_in lines w ≡ Some t
  complete [] w t once (k, within, is) = absurd (omega arith)
  complete (line ∷ lines) w t once has =
      let p = and_parts (not (is_some (found_in lines line.0))) (distinct lines) once in
      elim (contains_cases line (w, t) lines has) [
        | inl here ↦
            (let test : bytes_eq w line.0 ≡ true =
            (bytes_eq-Decides w line.0).1 (sym (ap (λ l. l.0) here)) in
            ap (λ b. found_at b line lines w) test ∙ ap (λ l. Some l.1) here)
        | inr later ↦
            complete_at line lines w t (bytes_eq w line.0) refl p.0 (complete lines w t p.1 later)
      ]

  exact : (lines : Table T) → distinct lines ≡ true → IsExact lines
  exact lines once w t = (sound lines w t, complete lines w t once)

pub tables_exact : TablesAreExact
tables_exact = record {
  operations_exact = exact operations refl;
  actions_exact = exact actions refl;
  words_exact = exact words refl;
  signs_exact = exact signs refl;
}
