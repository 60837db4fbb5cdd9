-- A command that is built step by step.
use Rattle.std.proofs.Common.{◌≡◌, ◌∙◌, ◌||◌, ap, ap₂, false}
use Rattle.clap.specs.Words.{AddsArg, App, Rule, with_rule, with_subcommand}
use Rattle.clap.specs.declared.Arg.{Arg}
use Rattle.clap.specs.declared.Command.{Command}
use Rattle.clap.specs.declared.Command.TheViews.{out-Command}

-- an argument of one command alone leaves a command without others
pub stays_local : (old new : Command) (arg : Arg) → AddsArg old arg new → arg.global ≡ false
    → (out-Command old).has_globals ≡ false → (out-Command new).has_globals ≡ false
stays_local old new arg added local before =
    added.globals ∙ ap₂ (λ x y. x || y) before local

-- what a command with one argument more is, where command and argument are known
pub adds_rule : (new old a : App) (given r : Rule) → new ≡ with_rule old given → old ≡ a
    → given ≡ r → new ≡ with_rule a r
adds_rule new old a given r added is rule = added ∙ ap₂ with_rule is rule

-- what a command with one subcommand more is, where both are known
pub adds_subcommand : (new old a sub b : App) → new ≡ with_subcommand old sub.top → old ≡ a
    → sub ≡ b → new ≡ with_subcommand a b.top
adds_subcommand new old a sub b added is sub_is =
    added ∙ ap₂ with_subcommand is (ap (λ (x : App). x.top) sub_is)
