-- The command line, as what `clap` reads of it: two subcommands, each with options.
use Rattle.std.specs.Prelude.{ℕ, true, false, List, [], ◌∷◌, Some, codes, pos}
use Rattle.clap.specs.Words.{App, Rule, Text, new_app, new_rule}
use Rattle.clap.specs.declared.builder.action.ArgAction.TheVariants.{SetTrue}
use Rattle.clap.specs.declared.builder.value_parser.ValueParser.TheVariants as parsers

-- the script's name, which has to be there
abbrev pub script_rule : Rule
script_rule = record (new_rule (codes "SCRIPT")) { required = true }

-- an option that takes a whole number from the first of these to the second
abbrev pub number_rule : Text → ℕ → ℕ → Rule
number_rule name least most = record (new_rule name) {
  long = Some name;
  parser = Some (parsers.Signed (pos least) (pos most));
}

-- the same where it has to be there
abbrev pub required_number_rule : Text → ℕ → ℕ → Rule
required_number_rule name least most = record (number_rule name least most) { required = true }

-- an option that takes a text
abbrev pub text_rule : Text → Rule
text_rule name = record (new_rule name) { long = Some name }

-- an option that takes nothing: the text found for it is `true` where it is given, else `false`
abbrev pub flag_rule : Text → Rule
flag_rule name = record (new_rule name) { long = Some name; action = Some SetTrue }

-- what `run` takes
abbrev pub run_rules : List Rule
run_rules =
    script_rule
    ∷ number_rule (codes "executors") 1 64
    ∷ number_rule (codes "task-failures") 1 16
    ∷ number_rule (codes "stage-attempts") 1 16
    ∷ number_rule (codes "cache") 1 4096
    ∷ text_rule (codes "plan")
    ∷ flag_rule (codes "speculation")
    ∷ []

-- the subcommand `run`
abbrev pub run_app : App
run_app = record {
  top = record (new_app (codes "run")).top { rules = run_rules };
  subs = [];
}

-- what `gen` takes
abbrev pub gen_rules : List Rule
gen_rules =
    required_number_rule (codes "seed") 0 2147483647
    ∷ required_number_rule (codes "size") 1 100000
    ∷ number_rule (codes "executors") 1 64
    ∷ []

-- the subcommand `gen`
abbrev pub gen_app : App
gen_app = record {
  top = record (new_app (codes "gen")).top { rules = gen_rules };
  subs = [];
}

-- the program's command without its subcommands: one has to be there, and the words come without
-- the program's name
abbrev pub bare_program : App
bare_program = record {
  top = record (new_app (codes "spark_run")).top {
    no_binary_name = true;
    subcommand_required = true;
  };
  subs = [];
}

-- the program's command
abbrev pub program : App
program = record {
  top = record bare_program.top { is_leaf = false };
  subs = run_app.top ∷ gen_app.top ∷ [];
}
