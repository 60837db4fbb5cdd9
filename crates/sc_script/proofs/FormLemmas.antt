-- The tokens of a line have at most one form, and whether they have one can be told.
use Rattle.std.proofs.Common.{◌≡◌, ℕ, Bool, true, false, List, [], ◌∷◌, ◌++◌, Option, Some, None, drop, refl, ap, sym, ◌∙◌, ◌⊎◌, inl, inr}
use Rattle.std.proofs.lemmas.Option.{option_and_then_some, same_Some, none-some}
use Rattle.std.specs.Option.{option_map}
use Rattle.sc_script.specs.Tokens.{TokenData, opening, closing, equals, int_token, text_token, word_token, sign_token}
use Rattle.sc_script.specs.Trees.{ArgData, int_arg, text_arg, word_arg, list_arg, ArgsData, no_args, more_args, LineData, definition_line, action_line, tokens_of_arg, tokens_of_args, tokens_of_line}
use Rattle.sc_script.specs.Views.{args_of}
use Rattle.sc_script.specs.FormReading.{args_from, first_word, begins_with_equals, action_from, operation_from, definition_from, form_behind, form_from}
use Rattle.std.specs.Prelude.{Result, Ok, Err, if◌then◌else◌}
use Rattle.sc_script.specs.declared.faults.FaultKind.{FaultKind}
use Rattle.sc_base.specs.declared.refusals.OrMemory.{OrMemory}
use Rattle.sc_base.specs.declared.refusals.OrMemory.TheVariants.{Fault, OutOfMemory}
use Rattle.sc_script.specs.declared.trees.Form.{Form}
use Rattle.sc_script.specs.Parsing.{IsFormOf}
use Rattle.sc_script.specs.Views.{form_data_of}
use Rattle.sc_script.specs.FormReading.{Reads}
use Rattle.sc_script.proofs.TreeLemmas.{args_of-list, args_from-so, args_from-again}

option_map_some : {A B P : Type 0} (f : A → B) (o : Option A) (y : B) → option_map f o ≡ Some y
    → ((x : A) → o ≡ Some x → f x ≡ y → P) → P
option_map_some f None y e k = cc
option_map_some f (Some x) y e k = k x refl (same_Some (f x) y e)

first_word-so : (ts : List TokenData) (w : List ℕ) → first_word ts ≡ Some w
    → ts ≡ word_token w ∷ drop 1 ts
first_word-so [] w e = cc
first_word-so (opening ∷ ts) w e = cc
first_word-so (closing ∷ ts) w e = cc
first_word-so (equals ∷ ts) w e = cc
first_word-so (int_token n ∷ ts) w e = cc
first_word-so (text_token t ∷ ts) w e = cc
first_word-so (word_token v ∷ ts) w e = ap (λ u. word_token u ∷ ts) (same_Some v w e)
first_word-so (sign_token s ∷ ts) w e = cc

begins_with_equals-so : (ts : List TokenData) → begins_with_equals ts ≡ true
    → ts ≡ equals ∷ drop 1 ts
begins_with_equals-so [] e = cc
begins_with_equals-so (opening ∷ ts) e = cc
begins_with_equals-so (closing ∷ ts) e = cc
begins_with_equals-so (equals ∷ ts) e = refl
begins_with_equals-so (int_token n ∷ ts) e = cc
begins_with_equals-so (text_token t ∷ ts) e = cc
begins_with_equals-so (word_token v ∷ ts) e = cc
begins_with_equals-so (sign_token s ∷ ts) e = cc

action_from-so : (name : List ℕ) (ts : List TokenData) (f : LineData) → action_from name ts ≡ Some f
    → word_token name ∷ ts ≡ tokens_of_line f
action_from-so name ts f e =
    option_map_some (λ (xs : List ArgData). action_line name (args_of xs)) (args_from ts) f e
    (λ xs is line.
    ap (λ us. word_token name ∷ us) (args_from-so ts xs is) ∙ ap tokens_of_line line)

operation_from-so : (name operation : List ℕ) (ts : List TokenData) (f : LineData)
    → operation_from name operation ts ≡ Some f
    → word_token name ∷ equals ∷ word_token operation ∷ ts ≡ tokens_of_line f
operation_from-so name operation ts f e =
    option_map_some (λ (xs : List ArgData). definition_line name operation (args_of xs))
    (args_from ts) f e
    (λ xs is line.
    ap (λ us. word_token name ∷ equals ∷ word_token operation ∷ us) (args_from-so ts xs is)
    ∙ ap tokens_of_line line)

definition_from-so : (name : List ℕ) (ts : List TokenData) (f : LineData)
    → definition_from name ts ≡ Some f
    → word_token name ∷ equals ∷ ts ≡ tokens_of_line f
definition_from-so name ts f e =
    option_and_then_some (λ (w : List ℕ). operation_from name w (drop 1 ts)) (first_word ts) f e
    (λ w word behind.
    ap (λ us. word_token name ∷ equals ∷ us) (first_word-so ts w word)
    ∙ operation_from-so name w (drop 1 ts) f behind)

behind_so : (name : List ℕ) (ts : List TokenData) (f : LineData) (b : Bool)
    → begins_with_equals ts ≡ b
    → (if b then definition_from name (drop 1 ts) else action_from name ts) ≡ Some f
    → word_token name ∷ ts ≡ tokens_of_line f
behind_so name ts f true begins e =
    ap (λ us. word_token name ∷ us) (begins_with_equals-so ts begins)
    ∙ definition_from-so name (drop 1 ts) f e
behind_so name ts f false begins e = action_from-so name ts f e

form_behind-so : (name : List ℕ) (ts : List TokenData) (f : LineData) → form_behind name ts ≡ Some f
    → word_token name ∷ ts ≡ tokens_of_line f
form_behind-so name ts f e = behind_so name ts f (begins_with_equals ts) refl e

-- tokens that were read as a form are the tokens of that form
pub form_from-so : (ts : List TokenData) (f : LineData) → form_from ts ≡ Some f
    → ts ≡ tokens_of_line f
form_from-so ts f e =
    option_and_then_some (λ (name : List ℕ). form_behind name (drop 1 ts)) (first_word ts) f e
    (λ name word behind. first_word-so ts name word ∙ form_behind-so name (drop 1 ts) f behind)

-- arguments don't begin with `=`
no_equals-arg : (a : ArgData) (ts : List TokenData)
    → begins_with_equals (tokens_of_arg a ++ ts) ≡ false
no_equals-arg (int_arg n) ts = refl
no_equals-arg (text_arg t) ts = refl
no_equals-arg (word_arg w) ts = refl
no_equals-arg (list_arg h args) ts = refl

no_equals : (args : ArgsData) → begins_with_equals (tokens_of_args args) ≡ false
no_equals no_args = refl
no_equals (more_args a args) = no_equals-arg a (tokens_of_args args)

-- the tokens of a form are read as that form
pub form_from-again : (f : LineData) → form_from (tokens_of_line f) ≡ Some f
form_from-again (definition_line name operation args) =
    ap (option_map (λ (xs : List ArgData). definition_line name operation (args_of xs)))
    (args_from-again args)
    ∙ ap (λ xs. Some (definition_line name operation xs)) (args_of-list args)
form_from-again (action_line name args) =
    rw (no_equals args)
    (ap (option_map (λ (xs : List ArgData). action_line name (args_of xs))) (args_from-again args)
    ∙ ap (λ xs. Some (action_line name xs)) (args_of-list args))

-- a line's tokens have at most one form
pub tokens_of_line-injective : (f g : LineData) → tokens_of_line f ≡ tokens_of_line g → f ≡ g
tokens_of_line-injective f g e =
    same_Some f g (sym (form_from-again f) ∙ ap form_from e ∙ form_from-again g)

-- tokens that are read as no form have none
pub form_from-none : (ts : List TokenData) → form_from ts ≡ None → (f : LineData)
    → ts ≡ tokens_of_line f → ⊥
form_from-none ts none f is = none-some f (sym none ∙ ap form_from is ∙ form_from-again f)

told : (ts : List TokenData) (o : Option LineData) → form_from ts ≡ o
    → ((f : LineData) × (ts ≡ tokens_of_line f)) ⊎ ((f : LineData) → ts ≡ tokens_of_line f → ⊥)
told ts (Some f) e = inl (f, form_from-so ts f e)
told ts None e = inr (form_from-none ts e)

-- tokens have a form or none
pub form_exists : (ts : List TokenData)
    → ((f : LineData) × (ts ≡ tokens_of_line f)) ⊎ ((f : LineData) → ts ≡ tokens_of_line f → ⊥)
form_exists ts = told ts (form_from ts) refl

-- an answer that reading gives is right
pub form_from_reading : (ts : List TokenData) (answer : Result Form (OrMemory FaultKind))
    → Reads form_data_of answer (form_from ts) → IsFormOf ts answer
form_from_reading ts (Ok form) is = form_from-so ts (form_data_of form) is
form_from_reading ts (Err (Fault kind)) is = (is.0, form_from-none ts is.1)
form_from_reading ts (Err OutOfMemory) is = tt
