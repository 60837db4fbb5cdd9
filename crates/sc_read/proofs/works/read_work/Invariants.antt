use Rattle.std.proofs.Common.{◌≡◌, length}
use Rattle.sc_base.specs.Outside.{IsLaterSource}
use Rattle.sc_lineage.specs.ScriptData.{AreTexts}
use Rattle.sc_read.specs.Inputs.{TakesInputs}
use Rattle.sc_read.proofs.works.read_work.Given as goal

abbrev pub invariant-loop-name : goal.invariant-loop-name
invariant-loop-name g l = record {
  later : IsLaterSource (g.S.Source.state l.initial.source) (g.S.Source.state l.source);
  count : length l.inputs.items ≡ l.name-index;
  texts : AreTexts l.inputs.items;
  taken : TakesInputs l.fn.script (g.S.Source.state l.initial.source) (g.S.Source.state l.source)
      l.initial.reads.items l.reads.items l.inputs.items;
}
