-- Filters of rows under keys, and their leaders.
use Rattle.std.proofs.Common.{◌≡◌, ◌∙◌, ◌≤◌, Bool, true, false, cond, not, ◌&&◌, List, [], ◌∷◌, length, map, filter, refl, ap, ap₂, sym, arith, true≢false}
use Rattle.std.proofs.lemmas.Cmp.{eq_by_cmp_equiv}
use Rattle.std.specs.Cmp.{IsEquivalence}
use Rattle.sc_value.specs.Datum.{Datum}
use Rattle.sc_value.proofs.KeyLemmas.{keys_ordered}
use Rattle.sc_part.specs.Bounds.{is_same_key}
use Rattle.sc_lineage.specs.Keyed.{key_of, leaders, same_key}

-- whether two keys are the same is an equivalence
pub same_laws : IsEquivalence is_same_key
same_laws = eq_by_cmp_equiv keys_ordered.total

-- whether a row stands under another key than a given one
abbrev pub is_other : Datum → Datum → Bool
is_other row other = not (same_key row other)

module _ {X : Type 0} where
  -- two filters, one behind the other
  filter_step : (p : X → Bool) (b c : Bool) (x : X) (ys zs : List X) → filter p ys ≡ zs
      → p x ≡ c → filter p (cond b (x ∷ ys) ys) ≡ cond (c && b) (x ∷ zs) zs
  filter_step p true true x ys zs rest is = ap₂ (λ t r. cond t (x ∷ r) r) is rest
  filter_step p true false x ys zs rest is = ap₂ (λ t r. cond t (x ∷ r) r) is rest
  filter_step p false true x ys zs rest is = rest
  filter_step p false false x ys zs rest is = rest

  pub filter_both : (p q w : X → Bool) → ((x : X) → w x ≡ (p x && q x)) → (xs : List X)
      → filter p (filter q xs) ≡ filter w xs
  filter_both p q w is [] = refl
  filter_both p q w is (x ∷ xs) =
      filter_step p (q x) (p x) x (filter q xs) (filter w xs) (filter_both p q w is xs) refl
      ∙ ap (λ b. cond b (x ∷ filter w xs) (filter w xs)) (sym (is x))

  cond_length : (b : Bool) (x : X) (ys xs : List X) → length ys ≤ length xs
      → length (cond b (x ∷ ys) ys) ≤ length (x ∷ xs)
  cond_length true x ys xs short = omega (arith, short)
  cond_length false x ys xs short = omega (arith, short)

  pub filter_length : (p : X → Bool) (xs : List X) → length (filter p xs) ≤ length xs
  filter_length p [] = omega arith
  filter_length p (x ∷ xs) = cond_length (p x) x (filter p xs) xs (filter_length p xs)

  cond_map : {Y : Type 0} (f g : X → Y) (b : Bool) (x : X) (ys : List X) → (b ≡ true → f x ≡ g x)
      → map f ys ≡ map g ys → map f (cond b (x ∷ ys) ys) ≡ map g (cond b (x ∷ ys) ys)
  cond_map f g true x ys one rest = ap₂ (λ y r. y ∷ r) (one refl) rest
  cond_map f g false x ys one rest = rest

  -- functions that agree where a test passes agree on what it leaves
  pub map_filtered : {Y : Type 0} (f g : X → Y) (p : X → Bool) (xs : List X)
      → ((x : X) → p x ≡ true → f x ≡ g x) → map f (filter p xs) ≡ map g (filter p xs)
  map_filtered f g p [] same = refl
  map_filtered f g p (x ∷ xs) same =
      cond_map f g (p x) x (filter p xs) (same x) (map_filtered f g p xs same)

and_turned : (b c : Bool) → (b && c) ≡ (c && b)
and_turned true true = refl
and_turned true false = refl
and_turned false true = refl
and_turned false false = refl

-- where the second test follows from the first, both are the first
and_first : (b c : Bool) → (b ≡ true → c ≡ true) → b ≡ (b && c)
and_first true c follows = sym (follows refl)
and_first false c follows = refl

not_same : (b : Bool) → (b ≡ true → false ≡ true) → not b ≡ true
not_same true never = absurd (true≢false (sym (never refl)))
not_same false never = refl

-- a test of rows that goes by their keys
abbrev GoesByKey : (Datum → Bool) → Type 0
GoesByKey p = (a b : Datum) → same_key a b ≡ true → p a ≡ p b

leaders_step : (p : Datum → Bool) → GoesByKey p → (b : Bool) (row : Datum) (rows : List Datum)
    → p row ≡ b → leaders (filter p rows) ≡ filter p (leaders rows)
    → leaders (cond b (row ∷ filter p rows) (filter p rows))
    ≡ cond b (row ∷ filter p (filter (is_other row) (leaders rows)))
    (filter p (filter (is_other row) (leaders rows)))
leaders_step p by true row rows is rest =
    let w = λ (o : Datum). is_other row o && p o in
    ap (λ ls. row ∷ filter (is_other row) ls) rest
    ∙ ap (λ ls. row ∷ ls) (filter_both (is_other row) p w (λ o. refl) (leaders rows)
    ∙ sym (filter_both p (is_other row) w (λ o. and_turned (is_other row o) (p o)) (leaders rows)))
leaders_step p by false row rows is rest =
    rest
    ∙ sym (filter_both p (is_other row) p
    (λ o. and_first (p o) (is_other row o)
    (λ passes. not_same (same_key row o) (λ same. sym is ∙ by row o same ∙ passes)))
    (leaders rows))

-- the leaders of the rows that pass such a test are the leaders that pass it
pub leaders_filtered : (p : Datum → Bool) → GoesByKey p → (rows : List Datum)
    → leaders (filter p rows) ≡ filter p (leaders rows)
leaders_filtered p by [] = refl
leaders_filtered p by (row ∷ rows) =
    leaders_step p by (p row) row rows refl (leaders_filtered p by rows)

-- another key goes by the key
pub other_by_key : (row : Datum) → GoesByKey (is_other row)
other_by_key row a b same =
    ap not (same_laws.symm (key_of row) (key_of a)
    ∙ same_laws.congr (key_of a) (key_of b) (key_of row) same
    ∙ same_laws.symm (key_of b) (key_of row))

-- the rows under the key of one that stands under another key than a given one
pub under_other : (row leader : Datum) (rows : List Datum) → is_other row leader ≡ true
    → filter (same_key leader) (filter (is_other row) rows) ≡ filter (same_key leader) rows
under_other row leader rows other =
    filter_both (same_key leader) (is_other row) (same_key leader)
    (λ x. and_first (same_key leader x) (is_other row x)
    (λ same. sym (other_by_key row leader x same) ∙ other)) rows

-- a row that stands under another key isn't among those of a leader
pub not_under : (row leader : Datum) → is_other row leader ≡ true
    → same_key leader row ≡ false
not_under row leader other =
    same_laws.symm (key_of leader) (key_of row) ∙ by (same_key row leader) other
  where
    by : (b : Bool) → not b ≡ true → b ≡ false
    by true is = absurd (true≢false (sym is))
    by false is = refl
