-- A text in quotes, as it is written and as it is read.
use Rattle.std.proofs.Common.{◌≡◌, ℕ, Bool, true, false, cond, eqb, List, [], ◌∷◌, ◌++◌, Option, Some, None, refl, ap, sym, ◌∙◌, subst, ◌⊎◌, inl, inr, ne_eqb, eqb-true}
use Rattle.std.proofs.lemmas.Bool.{eqb-false}
use Rattle.std.proofs.lemmas.Option.{none-some, some_pair_parts}
use Rattle.sc_script.proofs.TokenTools.{chosen, with_front_some}
use Rattle.sc_script.specs.Tokens.{SpellsText, nothing_more, plain_byte, escape, escaped_byte}
use Rattle.sc_script.specs.TokenReading.{text_at, with_front, with_escaped}

-- a text that is spelled before a quote is read up to it
pub text_at_spelled : (inner text after : List ℕ) → SpellsText inner text
    → text_at false (inner ++ 34 ∷ after) ≡ Some (text, after)
text_at_spelled _ _ after nothing_more = refl
text_at_spelled _ _ after (plain_byte c spelling text not_quote not_backslash spells) =
    let quote : eqb c 34 ≡ false = ne_eqb c 34 not_quote in
    let backslash : eqb c 92 ≡ false = ne_eqb c 92 not_backslash in
    rw (quote, backslash, text_at_spelled spelling text after spells) refl
text_at_spelled _ _ after (escape c d spelling text stands spells) =
    rw (stands, text_at_spelled spelling text after spells) refl

-- bytes that spell a text, a quote, and what follows
pub record IsText (bytes text after : List ℕ) : Type 0 where
  pub inner : List ℕ
  pub is : bytes ≡ inner ++ 34 ∷ after
  pub spells : SpellsText inner text

-- the bytes with the backslash before them, where one was read
abbrev pub with_backslash : Bool → List ℕ → List ℕ
with_backslash false bytes = bytes
with_backslash true bytes = 92 ∷ bytes

-- at the quote
at_quote : (c : ℕ) (cs text after : List ℕ) → eqb c 34 ≡ true
    → ◌≡◌ {A = Option (List ℕ × List ℕ)} (Some ([], cs)) (Some (text, after))
    → IsText (c ∷ cs) text after
at_quote c cs text after quote e =
    let parts = some_pair_parts [] text cs after e in
    let is : c ≡ 34 = eqb-true c 34 quote in
    record {
      inner = [];
      is = ap (λ d. d ∷ cs) is ∙ ap (λ bytes. 34 ∷ bytes) parts.1;
      spells = subst (SpellsText []) parts.0 nothing_more;
    }

-- at a byte that stands for itself
at_plain : (c : ℕ) (cs text after : List ℕ) → eqb c 34 ≡ false → eqb c 92 ≡ false
    → (inner : List ℕ) → text ≡ c ∷ inner → IsText cs inner after → IsText (c ∷ cs) text after
at_plain c cs text after quote backslash inner is rest = record {
  inner = c ∷ rest.inner;
  is = ap (λ bytes. c ∷ bytes) rest.is;
  spells = subst (SpellsText (c ∷ rest.inner)) (sym is)
      (plain_byte c rest.inner inner (eqb-false c 34 quote) (eqb-false c 92 backslash) rest.spells);
}

-- at an escape
at_escape : (c d : ℕ) (cs text after : List ℕ) → escaped_byte c ≡ Some d
    → (inner : List ℕ) → text ≡ d ∷ inner → IsText cs inner after → IsText (92 ∷ c ∷ cs) text after
at_escape c d cs text after stands inner is rest = record {
  inner = 92 ∷ c ∷ rest.inner;
  is = ap (λ bytes. 92 ∷ c ∷ bytes) rest.is;
  spells = subst (SpellsText (92 ∷ c ∷ rest.inner)) (sym is)
      (escape c d rest.inner inner stands rest.spells);
}

-- what is read as a text is spelled so
pub text_spelled : (escaped : Bool) (bytes text after : List ℕ)
    → text_at escaped bytes ≡ Some (text, after)
    → IsText (with_backslash escaped bytes) text after
text_spelled false [] text after e = absurd (none-some (text, after) e)
text_spelled true [] text after e = absurd (none-some (text, after) e)
text_spelled false (c ∷ cs) text after e =
    let by_backslash = text_spelled true cs text after in
    let by_rest = text_spelled false cs in
    go by_backslash by_rest (chosen (eqb c 34) (Some ([], cs)) _ (Some (text, after)) e)
  where
    behind : (text_at true cs ≡ Some (text, after) → IsText (92 ∷ cs) text after)
        → ((t a : List ℕ) → text_at false cs ≡ Some (t, a) → IsText cs t a) → eqb c 34 ≡ false
        → ((eqb c 92 ≡ true) × (text_at true cs ≡ Some (text, after)))
        ⊎ ((eqb c 92 ≡ false) × (with_front (c ∷ []) (text_at false cs) ≡ Some (text, after)))
        → IsText (c ∷ cs) text after
    behind by_backslash by_rest quote (inl p) =
        subst (λ (d : ℕ). IsText (d ∷ cs) text after) (sym (eqb-true c 92 p.0)) (by_backslash p.1)
    behind by_backslash by_rest quote (inr p) =
        let read = with_front_some (c ∷ []) (text_at false cs) text after p.1 in
        at_plain c cs text after quote p.0 read.0 read.2 (by_rest read.0 after read.1)

    go : (text_at true cs ≡ Some (text, after) → IsText (92 ∷ cs) text after)
        → ((t a : List ℕ) → text_at false cs ≡ Some (t, a) → IsText cs t a)
        → ((eqb c 34 ≡ true) ×
        (◌≡◌ {A = Option (List ℕ × List ℕ)} (Some ([], cs)) (Some (text, after))))
        ⊎ ((eqb c 34 ≡ false)
        × (cond (eqb c 92) (text_at true cs) (with_front (c ∷ []) (text_at false cs)) ≡ Some
        (text, after)))
        → IsText (c ∷ cs) text after
    go by_backslash by_rest (inl p) = at_quote c cs text after p.0 p.1
    go by_backslash by_rest (inr p) =
        behind by_backslash by_rest p.0
        (chosen (eqb c 92) (text_at true cs) _ (Some (text, after)) p.1)
text_spelled true (c ∷ cs) text after e = go (escaped_byte c) refl (text_spelled false cs) e
  where
    go : (d : Option ℕ) → escaped_byte c ≡ d
        → ((t a : List ℕ) → text_at false cs ≡ Some (t, a) → IsText cs t a)
        → with_escaped d (text_at false cs) ≡ Some (text, after) → IsText (92 ∷ c ∷ cs) text after
    go None stands by_rest e = absurd (none-some (text, after) e)
    go (Some d) stands by_rest e =
        let read = with_front_some (d ∷ []) (text_at false cs) text after e in
        at_escape c d cs text after stands read.0 read.2 (by_rest read.0 after read.1)
