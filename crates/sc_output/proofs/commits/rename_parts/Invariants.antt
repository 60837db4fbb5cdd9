use Rattle.sc_base.specs.Outside.{IsLaterFiles}
use Rattle.sc_output.proofs.LoopLemmas.{HasRenamed}
use Rattle.sc_output.proofs.commits.rename_parts.Given as goal

-- the files of the winners that were passed were renamed, and no count has fallen
abbrev pub invariant-loop-winner : goal.invariant-loop-winner
invariant-loop-winner g l = record {
  later : IsLaterFiles (g.F.Files.state l.initial.files) (g.F.Files.state l.files);
  renamed : HasRenamed l.dir l.winners l.winner-index
      (g.F.Files.state l.initial.files) (g.F.Files.state l.files);
}
