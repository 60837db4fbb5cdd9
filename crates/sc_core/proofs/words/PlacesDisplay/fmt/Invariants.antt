use Rattle.std.proofs.Common.{take}
use Rattle.std.specs.Fmt.{HasWritten, IsPlainFormatter}
use Rattle.sc_core.specs.Texts.{locations_text}
use Rattle.sc_core.proofs.words.PlacesDisplay.fmt.Given as goal

abbrev pub invariant-loop-location : goal.invariant-loop-location
invariant-loop-location g l =
    IsPlainFormatter l.initial.f → HasWritten g.W.Write.write_str_gives l.initial.f
    (locations_text (take l.location-index l.location-items)) l.f
