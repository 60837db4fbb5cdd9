-- Which words `clap` takes, and what they name.
use Rattle.std.proofs.Common.{◌≡◌, ◌∙◌, ap, ap₂, sym, Bool, true, false, refl, subst, List, [], ◌∷◌, Option, Some, None, Err, inl, inr, is_some}
use Rattle.std.specs.Option.{option_map}
use Rattle.clap.specs.Faults.{check_fault, defaults_fault, fault_of, settle_fault, walk_fault, is_simple_and_free, level_fault}
use Rattle.clap.specs.Kinds.{HasKind, IsAmong, Kinds, or_else}
use Rattle.clap.specs.Simple.{App, Shape, built, names_of, subcommand_of}
use Rattle.clap.specs.Walk.{Held, Names, Row, Text, finished, nothing_held, settled, walk, walk_from}
use Rattle.clap.specs.Matches.{subcommand_name_of}
use Rattle.clap.specs.Words.{kind_of, subcommand_rows_of}
use Rattle.clap.specs.declared.ArgMatches.{ArgMatches}
use Rattle.clap.specs.declared.parser.matches.ArgMatches.TheViews.{out-ArgMatches}
use Rattle.clap.specs.declared.Error.{Error}
use Rattle.sc_base.specs.declared.refusals.OrMemory.{OrMemory}
use Rattle.sc_base.specs.declared.refusals.OrMemory.TheVariants.{Fault, OutOfMemory}
use Rattle.sc_words.specs.Program.{program}
use Rattle.sc_words.specs.Words.{AreTaken, FindsMatches, ReadsWords, RefusesFor, command_at, command_of, unless_refused}
use Rattle.sc_words.specs.declared.commands.Command.{Command}
use Rattle.sc_words.specs.declared.commands.Usage.{Usage}

-- two steps refuse nothing only where neither does
pub or_else_none : (a b : Kinds) → or_else a b ≡ [] → (a ≡ []) × (b ≡ [])
or_else_none [] b e = (refl, e)
or_else_none (k ∷ ks) b e = absurd cc

-- a level that refuses nothing has what it has to have
level_checks : (s : Shape) (names : Names) (h : Held) (words : List Text) (has : Bool)
    (below : Kinds) → level_fault s names h words has below ≡ []
    → check_fault s (finished s.rules (walk s.rules names h words).held) has ≡ []
level_checks s names h words has below e =
    let end = (walk s.rules names h words).held in
    let after_walk = (or_else_none (walk_fault s names (walk_from h) words) _ e).1 in
    let after_below = (or_else_none below _ after_walk).1 in
    let after_pending =
    (or_else_none (settle_fault s.rules s.args_override_self end) _ after_below).1 in
    (or_else_none (defaults_fault (settled s.rules end).rows s.rules) _ after_pending).1

-- words that are taken name a subcommand
pub names_one : (words : List Text) → AreTaken words
    → is_some (subcommand_of program words) ≡ true
unfolding AreTaken
names_one words taken = here (is_some (subcommand_of program words)) _ taken
  where
    here : (has : Bool) (below : Kinds)
        → level_fault (built program).top (names_of (built program)) nothing_held words has below
        ≡ [] → has ≡ true
    here true below e = refl
    here false below e =
        let bad = level_checks (built program).top (names_of (built program)) nothing_held words
        false below e in
        absurd cc

-- `clap` takes the words of a parse that succeeds
pub taken : (a : App) (words : List Text) → a ≡ program
    → (is_simple_and_free a ≡ true → fault_of a words ≡ []) → AreTaken words
unfolding AreTaken
taken a words is passes =
    subst (λ (x : App). fault_of x words ≡ []) is (passes (ap is_simple_and_free is))

-- a parse that fails refuses the words, or memory ran out
pub refused : (a : App) (words : List Text) (e : Error) (r : OrMemory Usage) → a ≡ program
    → (is_simple_and_free a ≡ true → HasKind (fault_of a words) e)
    → RefusesFor (kind_of e) r → FindsMatches words (Err r)
unfolding AreTaken
refused a words e (Fault usage) is fails other = by_kind (fails (ap is_simple_and_free is))
  where
    by_kind : HasKind (fault_of a words) e → fault_of program words ≡ [] → ⊥
    by_kind (inl memory) none = other memory
    by_kind (inr among) none =
        subst (λ (ks : Kinds). IsAmong (kind_of e) ks)
        (ap (λ (x : App). fault_of x words) is ∙ none) among
refused a words e OutOfMemory is fails other = tt

-- a name with its rows
abbrev pair_of : Text → List Row → Option (Text × List Row)
pair_of name rows = Some (name, rows)

-- two things that are found of one
both_found : {A : Type 0} (f : A → Text) (g : A → List Row) (o : Option A) (name : Text)
    (rows : List Row) → Some name ≡ option_map f o
    → Some rows ≡ option_map (λ (p : Text × List Row). p.1)
    (option_map {U = Text × List Row} (λ a. (f a, g a)) o)
    → option_map {U = Text × List Row} (λ a. (f a, g a)) o ≡ Some (name, rows)
both_found f g None name rows named rows_are = absurd cc
both_found f g (Some a) name rows named rows_are =
    let one : name ≡ f a = cc in
    let two : rows ≡ g a = cc in
    ap₂ pair_of (sym one) (sym two)

-- the command of words that are taken
pub command_found : (words : List Text) (name : Text) (rows : List Row) (m : ArgMatches)
    → AreTaken words → subcommand_rows_of m ≡ subcommand_of program words
    → Some name ≡ subcommand_name_of m → Some rows ≡ option_map (λ p. p.1) (subcommand_rows_of m)
    → command_of words ≡ Some (command_at (name, rows))
unfolding AreTaken command_of
command_found words name rows m none is named rows_are =
    rw (none, ← is, found_so name rows m named rows_are) refl
  where
    found_so : (name : Text) (rows : List Row) (m : ArgMatches)
        → Some name ≡ subcommand_name_of m
        → Some rows ≡ option_map (λ p. p.1) (subcommand_rows_of m)
        → subcommand_rows_of m ≡ Some (name, rows)
    found_so name rows m named rows_are =
        both_found _ _ (out-ArgMatches m).subcommand name rows named rows_are

-- words that aren't taken have no command
pub no_command : (words : List Text) → (AreTaken words → ⊥) → command_of words ≡ None
unfolding AreTaken command_of
no_command words refuses = by_kinds (fault_of program words) refl
  where
    by_kinds : (ks : Kinds) → fault_of program words ≡ ks → command_of words ≡ None
    by_kinds [] e = absurd (refuses e)
    by_kinds (k ∷ ks) e = rw e refl

-- a reading ends as the search for matches was refused
pub refused_so : (words : List Text) (r : OrMemory Usage) → FindsMatches words (Err r)
    → ReadsWords words (Err r)
refused_so words (Fault usage) refuses = (refuses, no_command words refuses)
refused_so words OutOfMemory any = tt

-- words that are taken don't lack a subcommand
pub lacks_none : (words : List Text) (found : Option (Text × List Row)) → AreTaken words
    → found ≡ subcommand_of program words → None ≡ option_map (λ p. p.1) found → ⊥
lacks_none words None taken is e =
    let some = ap is_some is ∙ names_one words taken in absurd cc
lacks_none words (Some p) taken is e = absurd cc

-- words that are a command are taken
pub command_taken : (words : List Text) (command : Command) → command_of words ≡ Some command
    → AreTaken words
unfolding AreTaken command_of
command_taken words command e =
    by_kinds (fault_of program words)
    (option_map command_at (subcommand_of program words)) e
  where
    by_kinds : (ks : Kinds) (given : Option Command) → unless_refused ks given ≡ Some command
        → ks ≡ []
    by_kinds [] given e = refl
    by_kinds (k ∷ ks) given e = absurd cc
