-- A script's name alone, and with the flag.
use Rattle.std.proofs.Common.{◌≡◌, ◌==◌, ℕ, Bool, [], ◌∷◌, Some, None, true, false, refl, codes}
use Rattle.clap.proofs.OnLiterals.{clap_on_literals}
use Rattle.std.proofs.lemmas.Bool.{ne_eqb}
use Rattle.std.specs.Str.{bytes_eq}
use Rattle.clap.specs.Lexer.{long_of, short_of}
use Rattle.clap.specs.Words.{Text}
use Rattle.sc_ids.specs.LimitDefaults.{default_limits}
use Rattle.sc_words.specs.Words.{FlagAsksForCopies, NamesAreCommands, command_of}
use Rattle.sc_words.specs.declared.commands.Command.{Command}

-- the run of a script with no other option set, where slow tasks may be copied or not
abbrev run_of : Text → Bool → Command
run_of name copies = record {
  script = name;
  plan = None;
  limits = record default_limits { speculation = copies };
  workload = None;
}

-- `run` and a name that doesn't begin with `-` (45) ask for its run with no option set
plain_run : (c : ℕ) (cs : Text) → (c == 45) ≡ false
    → command_of (codes "run" ∷ (c ∷ cs) ∷ []) ≡ Some (run_of (c ∷ cs) false)
unfolding command_of clap_on_literals
plain_run c cs e =
    let dashes : bytes_eq (c ∷ cs) (45 ∷ 45 ∷ []) ≡ false = rw e refl in
    let long : long_of (c ∷ cs) ≡ None = rw e refl in
    let short : short_of (c ∷ cs) ≡ None = rw e refl in
    rw (dashes, long, short) (refl {a = Some (run_of (c ∷ cs) false)})

-- and so do `run` and the empty name
empty_run : command_of (codes "run" ∷ [] ∷ []) ≡ Some (run_of [] false)
unfolding command_of clap_on_literals
empty_run = refl

pub names_are_commands : NamesAreCommands
names_are_commands [] plain = empty_run
names_are_commands (c ∷ cs) plain = plain_run c cs (ne_eqb c 45 plain)

-- with the flag behind them they ask for that run with copies
flag_run : (c : ℕ) (cs : Text) → (c == 45) ≡ false
    → command_of (codes "run" ∷ (c ∷ cs) ∷ codes "--speculation" ∷ [])
    ≡ Some (run_of (c ∷ cs) true)
unfolding command_of clap_on_literals
flag_run c cs e =
    let dashes : bytes_eq (c ∷ cs) (45 ∷ 45 ∷ []) ≡ false = rw e refl in
    let long : long_of (c ∷ cs) ≡ None = rw e refl in
    let short : short_of (c ∷ cs) ≡ None = rw e refl in
    rw (dashes, long, short) (refl {a = Some (run_of (c ∷ cs) true)})

-- and so with the empty name
empty_flag_run : command_of (codes "run" ∷ [] ∷ codes "--speculation" ∷ []) ≡ Some (run_of [] true)
unfolding command_of clap_on_literals
empty_flag_run = refl

pub flag_asks_for_copies : FlagAsksForCopies
flag_asks_for_copies [] plain = empty_flag_run
flag_asks_for_copies (c ∷ cs) plain = flag_run c cs (ne_eqb c 45 plain)
