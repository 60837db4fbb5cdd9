-- Pieces that stand one behind the other in one list.
use Rattle.std.proofs.Common.{◌≡◌, ◌∙◌, ℕ, List, [], ◌∷◌, ◌++◌, length, take, drop, ap, sym, subst, arith, le_refl, length-append}
use Rattle.std.specs.List.{concat}
use Rattle.std.proofs.lemmas.List.{take-append-le, drop-append-le, take-append-drop}
use Rattle.std.proofs.Math.Seq.{take-length, drop-length}
use Rattle.sc_sink.specs.Pieces.{pieces_of, AreLengths}

-- one more piece behind the others
pub pieces_of-push : (lens bytes more : List ℕ) → AreLengths lens bytes
    → pieces_of (lens ++ length more ∷ []) (bytes ++ more) ≡ pieces_of lens bytes ++ more ∷ []
pieces_of-push [] bytes more all =
    ap (λ xs. pieces_of (length more ∷ []) (xs ++ more)) all ∙ ap (λ xs. xs ∷ []) (take-length more)
pieces_of-push (len ∷ lens) bytes more all =
    ap (λ xs. xs ∷ pieces_of (lens ++ length more ∷ []) (drop len (bytes ++ more)))
    (take-append-le len bytes more all.0)
    ∙ ap (λ xs. take len bytes ∷ pieces_of (lens ++ length more ∷ []) xs)
    (drop-append-le len bytes more all.0)
    ∙ ap (λ xs. take len bytes ∷ xs) (pieces_of-push lens (drop len bytes) more all.1)

pub AreLengths-push : (lens bytes more : List ℕ) → AreLengths lens bytes
    → AreLengths (lens ++ length more ∷ []) (bytes ++ more)
AreLengths-push [] bytes more all =
    subst (λ xs. AreLengths (length more ∷ []) (xs ++ more)) (sym all)
    (le_refl (length more), drop-length more)
AreLengths-push (len ∷ lens) bytes more all = (
  omega (arith, all.0, length-append bytes more),
  subst (AreLengths (lens ++ length more ∷ [])) (sym (drop-append-le len bytes more all.0))
      (AreLengths-push lens (drop len bytes) more all.1),
)

-- all pieces are the whole list
pub concat-pieces_of : (lens bytes : List ℕ) → AreLengths lens bytes
    → concat (pieces_of lens bytes) ≡ bytes
concat-pieces_of [] bytes all = sym all
concat-pieces_of (len ∷ lens) bytes all =
    ap (λ xs. take len bytes ++ xs) (concat-pieces_of lens (drop len bytes) all.1)
    ∙ take-append-drop len bytes
