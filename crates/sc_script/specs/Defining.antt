-- What the program holds of the lines so far.
use Rattle.std.specs.Prelude.{map}
use Rattle.sc_value.specs.Views.{type_data_of}
use Rattle.sc_script.specs.declared.defined.Defined.{Defined}
use Rattle.sc_script.specs.Lines.{DefinedData}

-- what the program holds of the lines so far
abbrev pub defined_data_of : Defined → DefinedData
defined_data_of d = record {
  names = d.names.items;
  types = map type_data_of d.types.items;
  script = d.script;
}
