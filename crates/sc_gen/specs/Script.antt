-- The generator's script, and the files that it stands for.
use Rattle.std.specs.Prelude.{ℕ, ◌≡◌, List, [], ◌∷◌, ◌++◌, Some, None, codes}
use Rattle.sc_base.specs.Outside.{Files, SourceState}
use Rattle.sc_input.specs.declared.source.ReadAnswer.{ReadAnswer}
use Rattle.sc_input.specs.declared.source.ReadAnswer.TheVariants.{Bytes, NoFile, Failed, OutOfMemory}
use Rattle.sc_gen.specs.Workload.{workload}

-- the script
abbrev pub gen_script : List ℕ
gen_script =
    codes "l = text \"gen\" 8\n"
    ++ codes "p = map l (pair (nth (words x) 0) (int (nth (words x) 1)))\n"
    ++ codes "c = reduceByKey p 4 (+ a b)\n"
    ++ codes "s = sortByKey c 3\n"
    ++ codes "collect s\n"
    ++ codes "count p\n"

-- the name under which it reads the lines
abbrev pub gen_input : List ℕ
gen_input = codes "gen"

-- the script under a name, and so many lines from a seed
abbrev pub generated_files : List ℕ → ℕ → ℕ → Files
generated_files script seed size =
    (script, gen_script) ∷ (gen_input, workload seed size) ∷ []

-- files that are made, and how many reads named none of them
pub record GeneratedData : Type 0 where
  pub files : Files
  pub misses : ℕ

-- those of a workload, of which none was read
abbrev pub new_files : List ℕ → ℕ → ℕ → GeneratedData
new_files script seed size = record { files = generated_files script seed size; misses = 0 }

-- such a source shows its files, and not what it was asked for; none of its reads fails
abbrev pub shown_files : GeneratedData → SourceState
shown_files g = record { shown = Some g.files; asked = None; faults = 0; misses = g.misses }

-- bytes are given, unless memory is wanting
abbrev pub Gives : List ℕ → ReadAnswer → Type 0
Gives bytes (Bytes given) = given ≡ bytes
Gives bytes NoFile = ⊥
Gives bytes Failed = ⊥
Gives bytes OutOfMemory = Unit {0}
