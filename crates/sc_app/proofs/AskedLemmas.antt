-- What a run asked for, and why a name gave no bytes.
use Rattle.std.proofs.Common.{◌≡◌, ◌∙◌, ℕ, List, [], ◌∷◌, ◌++◌, map, subst, sym, ap, refl, Option, Some, None}
use Rattle.std.specs.Option.{option_map}
use Rattle.std.proofs.lemmas.List.{append-nil, map-append}
use Rattle.sc_base.specs.Outside.{Files, SourceState, HasAsked}
use Rattle.sc_lineage.specs.ScriptData.{name_of_input}
use Rattle.sc_read.specs.declared.reads.Read.{Read}
use Rattle.sc_read.specs.declared.stops.Unreadable.{Unreadable}
use Rattle.sc_read.specs.declared.stops.Unreadable.TheVariants.{Missing, Failed}
use Rattle.sc_read.specs.Files.{IsUnreadable}
use Rattle.sc_read.specs.Reads.{input_read, name_of_role, names_of_reads}
use Rattle.sc_app.specs.declared.ran.Status.{Status}
use Rattle.sc_app.specs.declared.ran.Status.TheVariants as statuses
use Rattle.sc_app.specs.Exactly.{TellsUsage}
use Rattle.sc_app.specs.Ends.{why_of}
use Rattle.sc_app.specs.Runs.{RunData, AsksOnce, name_missed}
use Rattle.sc_app.specs.Statuses.{is_missing}
use Rattle.sc_words.specs.Words.{command_of}
use Rattle.sc_words.specs.declared.commands.Command.{Command}
use Rattle.sc_words.proofs.TakenLemmas.{command_taken}

-- the cause of a name that gave no bytes, as its status tells it
pub told_cause : (before after : SourceState) (name : List ℕ) (why : Unreadable)
    → IsUnreadable before after name why
    → IsUnreadable before after name (why_of (is_missing why))
told_cause before after name Missing x = x
told_cause before after name Failed x = x

-- the names of inputs that were read
pub names-inputs : (word : List ℕ) (named : Option (List ℕ)) (inputs : Files)
    → names_of_reads word named (map input_read inputs) ≡ map name_of_input inputs
names-inputs word named [] = refl
names-inputs word named (input ∷ inputs) =
    ap (λ ns. input.0 ∷ ns) (names-inputs word named inputs)

-- the names of reads and of inputs behind them
pub names-behind : (word : List ℕ) (named : Option (List ℕ)) (reads : List Read) (inputs : Files)
    → names_of_reads word named (reads ++ map input_read inputs)
    ≡ names_of_reads word named reads ++ map name_of_input inputs
names-behind word named reads inputs =
    map-append (λ (read : Read). name_of_role word named read.role) reads (map input_read inputs)
    ∙ ap (λ ns. names_of_reads word named reads ++ ns) (names-inputs word named inputs)

-- nothing that is Usage
pub usage-none : (status : Status) (words : List (List ℕ)) (command : Command)
    → command_of words ≡ Some command → (status ≡ statuses.Usage → ⊥)
    → TellsUsage words status
usage-none status words command is other =
    ((λ e. absurd (other e)), (λ refused. absurd (refused (command_taken words command is))))

-- nothing was asked for
pub asked-none : (s : SourceState) → HasAsked s s []
asked-none s = none s.asked
  where
    none : (shown : Option (List (List ℕ)))
        → shown ≡ option_map (λ (before : List (List ℕ)). before ++ []) shown
    none None = refl
    none (Some ns) = ap Some (sym (append-nil ns))

module _ (words : List (List ℕ)) (command : Command)
    (is_command : command_of words ≡ Some command) where
  abbrev name : List ℕ
  name = command.script

  abbrev plan_name : Option (List ℕ)
  plan_name = command.plan

  -- what was asked for, whatever the command is called
  pub asks : (run : RunData) (status : Status) (names : List (List ℕ)) → run.words ≡ words
      → HasAsked run.before.source run.after.source names
      → names ≡ names_of_reads name plan_name run.reads ++ name_missed status
      → AsksOnce run status
  asks run status names same asked are other e =
      subst (λ (c : Command). HasAsked run.before.source run.after.source
      (names_of_reads c.script c.plan run.reads ++ name_missed status))
      (by_some command other (sym is_command ∙ ap command_of (sym same) ∙ e))
      (subst (λ ns. HasAsked run.before.source run.after.source ns) are asked)
    where
      by_some : (a b : Command) → Some a ≡ Some b → a ≡ b
      by_some a b e = cc
