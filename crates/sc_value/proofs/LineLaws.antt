-- What the lines of a text are.
use Rattle.std.proofs.Common.{◌≡◌, ◌∙◌, ℕ, Bool, true, false, ◌==◌, cond, inl, inr, List, [], ◌∷◌, refl, ap, sym, subst}
use Rattle.std.proofs.lemmas.Bool.{eqb-true}
use Rattle.std.specs.List.{onto_first}
use Rattle.sc_value.specs.Lines.{AreLines, EndsLine, is_line_end, lines_behind, text_lines}

no_end : (x : ℕ) → (x == 10) ≡ false → (x == 13) ≡ false → is_line_end x ≡ false
no_end x feed return = simp (feed, return) refl

-- a line feed is first
feed_first : (x : ℕ) (xs : List ℕ) → x ≡ 10 → AreLines xs (lines_behind false xs)
    → AreLines (x ∷ xs) ([] ∷ lines_behind false xs)
feed_first x xs is rest = (10 ∷ [], xs, ap (λ y. y ∷ xs) is, tt, inl refl, rest)

-- a carriage return is first, and a line feed or something else behind it
behind_return : (y : ℕ) (ys : List ℕ) → (y == 10) ≡ false
    → lines_behind true (y ∷ ys) ≡ lines_behind false (y ∷ ys)
behind_return y ys is = simp is refl

return_first : (x : ℕ) (xs : List ℕ) → x ≡ 13 → AreLines xs (lines_behind false xs)
    → ((y : ℕ) (ys : List ℕ) → xs ≡ y ∷ ys → AreLines ys (lines_behind false ys))
    → AreLines (x ∷ xs) ([] ∷ lines_behind true xs)
return_first x [] is rest tail =
    (13 ∷ [], [], ap (λ y. y ∷ []) is, tt, inr (inr (inl (refl, tt))), refl)
return_first x (y ∷ ys) is rest tail = by_test (y == 10) refl (tail y ys refl) where
  by_test : (feed : Bool) → (y == 10) ≡ feed → AreLines ys (lines_behind false ys)
      → AreLines (x ∷ y ∷ ys) ([] ∷ lines_behind true (y ∷ ys))
  by_test true feed after =
      let P : List (List ℕ) → Type 0 = λ ls. AreLines ys ls in
      let same : lines_behind false ys ≡ lines_behind true (y ∷ ys) = simp feed refl in (
        13 ∷ 10 ∷ [],
        ys,
        ap (λ z. z ∷ y ∷ ys) is ∙ ap (λ z. 13 ∷ z ∷ ys) (eqb-true y 10 feed),
        tt,
        inr (inl refl),
        subst P same after,
      )
  by_test false feed after =
      let P : List (List ℕ) → Type 0 = λ ls. AreLines (y ∷ ys) ls in (
        13 ∷ [],
        y ∷ ys,
        ap (λ z. z ∷ y ∷ ys) is,
        tt,
        inr (inr (inl (refl, feed))),
        subst P (sym (behind_return y ys feed)) rest,
      )

-- a byte of a line is first
byte_first : (x : ℕ) (xs : List ℕ) (lines : List (List ℕ)) → is_line_end x ≡ false
    → AreLines xs lines → AreLines (x ∷ xs) (onto_first x lines)
byte_first x xs [] is are =
    ([], [], ap (λ r. x ∷ r) are, (is, tt), inr (inr (inr (refl, refl, λ e. cc))), refl)
byte_first x xs (line ∷ lines) is are =
    (are.0, are.1, ap (λ r. x ∷ r) are.2, (is, are.3), with_byte are.4, are.5) where
      with_byte : EndsLine line are.0 are.1 → EndsLine (x ∷ line) are.0 are.1
      with_byte (inl end) = inl end
      with_byte (inr (inl end)) = inr (inl end)
      with_byte (inr (inr (inl end))) = inr (inr (inl end))
      with_byte (inr (inr (inr end))) = inr (inr (inr (end.0, end.1, λ e. cc)))

-- lines of one byte more
one_more : (x : ℕ) (xs : List ℕ) → AreLines xs (text_lines xs)
    → ((y : ℕ) (ys : List ℕ) → xs ≡ y ∷ ys → AreLines ys (text_lines ys))
    → AreLines (x ∷ xs) (text_lines (x ∷ xs))
one_more x xs rest tail = by_tests (x == 10) (x == 13) refl refl where
  by_tests : (feed return : Bool) → (x == 10) ≡ feed → (x == 13) ≡ return
      → AreLines (x ∷ xs) (cond feed ([] ∷ lines_behind false xs)
      (cond return ([] ∷ lines_behind true xs) (onto_first x (lines_behind false xs))))
  by_tests true return f r = feed_first x xs (eqb-true x 10 f) rest
  by_tests false true f r = return_first x xs (eqb-true x 13 r) rest tail
  by_tests false false f r = byte_first x xs (lines_behind false xs) (no_end x f r) rest

pub are_lines : (bytes : List ℕ) → AreLines bytes (text_lines bytes)
are_lines [] = refl
are_lines (x ∷ []) = one_more x [] refl (λ y ys e. absurd (let f : [] ≡ y ∷ ys = e in cc))
are_lines (x ∷ y ∷ ys) = one_more x (y ∷ ys) (are_lines (y ∷ ys)) (λ z zs e.
    let same : ys ≡ zs = cc in
    let P : List ℕ → Type 0 = λ t. AreLines t (text_lines t) in
    subst P same (are_lines ys))
