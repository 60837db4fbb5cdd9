-- A line has one form, or one fault of the first two tests.
use Rattle.std.proofs.Common.{◌≡◌, inl, inr, ℕ, List, [], ◌∷◌, Result, Ok, Err, refl, ap, subst}
use Rattle.sc_script.specs.Lines.{HasForm, KeepsLimits}
use Rattle.sc_script.specs.Tokens.{TokenData, HasTokens, IsWithinLimits}
use Rattle.sc_script.specs.Trees.{LineData}
use Rattle.sc_script.specs.declared.faults.FaultKind.{FaultKind}
use Rattle.sc_script.specs.declared.faults.FaultKind.TheVariants.{Limit, Syntax}
use Rattle.sc_script.proofs.FormLemmas.{tokens_of_line-injective, form_exists}
use Rattle.sc_script.proofs.TokenLemmas.{HasTokens-unique, tokens_exist, within_limits}

-- there is exactly one reading
pub record HasOne (R : Type 0) (V : R → Type 0) : Type 0 where
  pub reading : R
  pub is : V reading
  pub only : (other : R) → V other → other ≡ reading

-- a line that has a form has no other one and no fault, and one that has a fault no other one
same_form : (line : List ℕ) (r s : Result LineData FaultKind) → HasForm line r → HasForm line s
    → s ≡ r
same_form line (Ok f) (Ok g) (kept, is) (_, other) =
    ap Ok (tokens_of_line-injective g f (HasTokens-unique other is).0)
same_form line (Ok f) (Err kind) (kept, is) (inl (_, past)) = absurd (past kept)
same_form line (Ok f) (Err kind) (kept, is) (inr (_, _, none)) = absurd (none f is)
same_form line (Err kind) (Ok g) (inl (_, past)) (kept, is) = absurd (past kept)
same_form line (Err kind) (Ok g) (inr (_, _, none)) (kept, is) = absurd (none g is)
same_form line (Err kind) (Err other) (inl (e, past)) (inl (o, _)) = cc
same_form line (Err kind) (Err other) (inl (e, past)) (inr (o, kept, none)) = absurd (past kept)
same_form line (Err kind) (Err other) (inr (e, kept, none)) (inl (o, past)) = absurd (past kept)
same_form line (Err kind) (Err other) (inr (e, kept, none)) (inr (o, _, _)) = cc

-- a line that keeps the limits has a form or none
of_tokens : (line : List ℕ) (ts : List TokenData) (rest : List ℕ) → HasTokens line ts rest
    → KeepsLimits line → (r : Result LineData FaultKind) × HasForm line r
of_tokens line ts [] has kept = elim (form_exists ts) [
  | inl form ↦
      let P : List TokenData → Type 0 = λ tokens. HasTokens line tokens [] in
      (Ok form.0, (kept, subst P form.1 has))
  | inr none ↦ (Err Syntax, inr (refl, kept, λ f is. none f (HasTokens-unique has is).0))
]
of_tokens line ts (c ∷ cs) has kept = (
  Err Syntax,
  inr (
    refl,
    kept,
    λ f is.
        let e = (HasTokens-unique has is).1 in absurd cc,
  ),
)

some_form : (line : List ℕ) → (r : Result LineData FaultKind) × HasForm line r
some_form line =
    let has = tokens_exist line in
    elim (within_limits line has.0) [
      | inl within ↦ of_tokens line has.0 has.1 has.2
          (record { tokens = has.0; rest = has.1; has = has.2; within = within })
      | inr past ↦
          let P : List TokenData → Type 0 = IsWithinLimits line in (
            Err Limit,
            inl (
              refl,
              λ kept.
                  past (subst P (HasTokens-unique kept.has has.2).0 kept.within),
            ),
          )
    ]

pub one_form : (line : List ℕ) → HasOne (Result LineData FaultKind) (HasForm line)
one_form line =
    let found = some_form line in
    record {
      reading = found.0;
      is = found.1;
      only = λ other is. same_form line found.0 other found.1 is;
    }
