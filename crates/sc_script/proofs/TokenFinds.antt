-- What the code finds at the front of a line, as it looks for one kind of token after the other.
use Rattle.std.proofs.Common.{◌≡◌, ◌≢◌, ℕ, false, eqb, List, [], ◌∷◌, Option, option_map, refl, ap, sym, ◌∙◌, subst, ne_eqb, Err, Bor}
use Rattle.std.proofs.lemmas.Bool.{cond-false}
use Rattle.sc_script.specs.Tokens.{TokenData, IsShort}
use Rattle.sc_script.specs.TokenReading.{token_at, piece_at, piece_of, after_piece, token_of_piece, text_at, text_token_of, Finds, IsFaultOf, IsShortFront, front_of}
use Rattle.sc_script.specs.Views.{token_data_of}
use Rattle.sc_script.specs.declared.faults.FaultKind.{FaultKind}
use Rattle.sc_script.specs.declared.faults.FaultKind.TheVariants.{NotText, Limit, Syntax, UnknownName, Twice, IllTyped}
use Rattle.sc_base.specs.declared.refusals.OrMemory.{OrMemory}
use Rattle.sc_base.specs.declared.refusals.OrMemory.TheVariants.{Fault, OutOfMemory}
use Rattle.sc_script.specs.declared.tokens.Token.{Token}

-- behind a quote a text is looked for, and without it a piece
quote_is_read : (inner : List ℕ) → token_at (34 ∷ inner) ≡ text_token_of (text_at false inner)
unfolding token_at
quote_is_read inner = refl

pub token_at-quote : (line inner : List ℕ) → line ≡ 34 ∷ inner
    → token_at line ≡ text_token_of (text_at false inner)
token_at-quote line inner is = ap token_at is ∙ quote_is_read inner

nothing_is_read : token_at [] ≡ piece_at []
unfolding token_at piece_at token_of_piece
nothing_is_read = refl

piece_is_read : (c : ℕ) (cs : List ℕ) → eqb c 40 ≡ false → eqb c 41 ≡ false → eqb c 34 ≡ false
    → token_at (c ∷ cs) ≡ piece_at (c ∷ cs)
unfolding token_at
piece_is_read c cs opens closes quote =
    cond-false (eqb c 40) _ _ opens ∙ cond-false (eqb c 41) _ _ closes
    ∙ cond-false (eqb c 34) _ _ quote

no_first : (c d : ℕ) (cs : List ℕ) → ((rest : List ℕ) → c ∷ cs ≢ d ∷ rest) → eqb c d ≡ false
no_first c d cs other = ne_eqb c d (λ is. other cs (ap (λ b. b ∷ cs) is))

pub token_at-other : (line : List ℕ) → ((rest : List ℕ) → line ≢ 40 ∷ rest)
    → ((rest : List ℕ) → line ≢ 41 ∷ rest)
    → ((rest : List ℕ) → line ≢ 34 ∷ rest) → token_at line ≡ piece_at line
token_at-other [] no_opening no_closing no_quote = nothing_is_read
token_at-other (c ∷ cs) no_opening no_closing no_quote =
    piece_is_read c cs (no_first c 40 cs no_opening) (no_first c 41 cs no_closing)
    (no_first c 34 cs no_quote)

-- the fault of a piece is that of the line's front
piece_at-cut : (line front back : List ℕ) → piece_of line ≡ front → after_piece line ≡ back
    → piece_at line ≡ option_map {U = TokenData × List ℕ} (λ t. (t, back))
    (token_of_piece front back)
unfolding piece_at
piece_at-cut line front back is behind =
    let before : Option TokenData → List ℕ
    → Option (TokenData × List ℕ) = λ read rest. option_map (λ t. (t, rest)) read in
    ap (λ p. before (token_of_piece p (after_piece line)) (after_piece line)) is
    ∙ ap (λ rest. before (token_of_piece front rest) rest) behind

fault_with_rest : (kind : FaultKind) (back : List ℕ) (found : Option TokenData)
    → IsFaultOf IsShort kind found
    → IsFaultOf IsShortFront kind (option_map {U = TokenData × List ℕ} (λ t. (t, back)) found)
fault_with_rest NotText back found fault = fault
fault_with_rest Limit back found fault =
    ((fault.0, back), ap (option_map {U = TokenData × List ℕ} (λ t. (t, back))) fault.1, fault.2)
fault_with_rest Syntax back found fault =
    ap (option_map {U = TokenData × List ℕ} (λ t. (t, back))) fault
fault_with_rest UnknownName back found fault = fault
fault_with_rest Twice back found fault = fault
fault_with_rest IllTyped back found fault = fault

pub piece_refused : (error : OrMemory FaultKind) (line front back : List ℕ) → piece_of line ≡ front
    → after_piece line ≡ back
    → Finds {X = Token} token_data_of IsShort (Err error) (token_of_piece front back)
    → Finds {X = Token × Bor (List ℕ)} front_of IsShortFront (Err error) (piece_at line)
piece_refused (Fault kind) line front back is behind fault =
    subst (IsFaultOf IsShortFront kind) (sym (piece_at-cut line front back is behind))
    (fault_with_rest kind back (token_of_piece front back) fault)
piece_refused OutOfMemory line front back is behind fault = tt
