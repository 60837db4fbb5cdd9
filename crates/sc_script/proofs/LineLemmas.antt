-- From what the steps of a line answer to what the line is read as.
use Rattle.std.proofs.Common.{inl, inr, ℕ, List, [], Result, Ok, Err, refl, sym, subst}
use Rattle.sc_base.specs.Answers.{Answers}
use Rattle.sc_base.specs.declared.refusals.OrMemory.{OrMemory}
use Rattle.sc_base.specs.declared.refusals.OrMemory.TheVariants.{Fault, OutOfMemory}
use Rattle.sc_script.specs.Faults.{IsAnswer}
use Rattle.sc_script.specs.Defining.{defined_data_of}
use Rattle.sc_script.specs.Lines.{DefinedData, HasForm, KeepsLimits, ReadsLine, added_by}
use Rattle.sc_script.specs.Parsing.{AreTokensOf, IsFormOf, IsTokensFault}
use Rattle.sc_script.specs.Tokens.{TokenData, HasTokens, IsWithinLimits}
use Rattle.sc_script.specs.Trees.{LineData}
use Rattle.sc_script.specs.Views.{form_data_of}
use Rattle.sc_script.specs.declared.defined.Defined.{Defined}
use Rattle.sc_script.specs.declared.faults.FaultKind.{FaultKind}
use Rattle.sc_script.specs.declared.faults.FaultKind.TheVariants.{NotText, Limit, Syntax, UnknownName, Twice, IllTyped}
use Rattle.sc_script.specs.declared.trees.Form.{Form}
use Rattle.sc_script.proofs.TokenLemmas.{HasTokens-unique}

-- a line that isn't tokens to its end
tokens_fault : (line : List ℕ) (kind : FaultKind) → IsTokensFault line kind
    → HasForm line (Err kind)
tokens_fault line NotText h = absurd h
tokens_fault line Limit h = inl (refl, h)
tokens_fault line Syntax h =
    inr (
      refl,
      record { tokens = h.tokens; rest = h.rest; has = h.has; within = h.within },
      λ form is. h.more (HasTokens-unique h.has is).1,
    )
tokens_fault line UnknownName h = absurd h
tokens_fault line Twice h = absurd h
tokens_fault line IllTyped h = absurd h

pub no_tokens : (line : List ℕ) (e : OrMemory FaultKind) → AreTokensOf line (Err e)
    → IsAnswer form_data_of (HasForm line) (Err e)
no_tokens line (Fault kind) h = tokens_fault line kind h
no_tokens line OutOfMemory h = tt

-- a line that is tokens to its end
pub formed : (line : List ℕ) (ts : List TokenData) (r : Result Form (OrMemory FaultKind))
    → HasTokens line ts [] → IsWithinLimits line ts → IsFormOf ts r
    → IsAnswer form_data_of (HasForm line) r
formed line ts r has within h = by_cases r h where
  kept : KeepsLimits line
  kept = record { tokens = ts; rest = []; has = has; within = within }

  by_cases : (r : Result Form (OrMemory FaultKind)) → IsFormOf ts r
      → IsAnswer form_data_of (HasForm line) r
  by_cases (Ok form) h =
      let P : List TokenData → Type 0 = λ tokens. HasTokens line tokens [] in
      (kept, subst P h has)
  by_cases (Err (Fault kind)) h =
      inr (h.0, kept, λ form is. h.1 form (HasTokens-unique has is).0)
  by_cases (Err OutOfMemory) h = tt

-- a line of no form
pub no_form : (d : DefinedData) (line : List ℕ) (e : OrMemory FaultKind)
    → IsAnswer form_data_of (HasForm line) (Err e)
    → IsAnswer defined_data_of (ReadsLine d line) (Err e)
no_form d line (Fault kind) h = record { form = Err kind; has_form = h; is = refl }
no_form d line OutOfMemory h = tt

-- a line of a form, which adds something or has a fault
pub added : (d : DefinedData) (line : List ℕ) (form : LineData)
    (r : Result Defined (OrMemory FaultKind)) → HasForm line (Ok form)
    → Answers defined_data_of (λ kind. kind) r (added_by d form)
    → IsAnswer defined_data_of (ReadsLine d line) r
added d line form (Ok after) has h = record { form = Ok form; has_form = has; is = sym h }
added d line form (Err (Fault kind)) has h =
    record { form = Ok form; has_form = has; is = sym h }
added d line form (Err OutOfMemory) has h = tt
