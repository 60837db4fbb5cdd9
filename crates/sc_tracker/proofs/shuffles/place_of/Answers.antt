use Rattle.std.proofs.Common.{◌∙◌, ap, arith, sym}
use Rattle.sc_tracker.specs.TrackerData.{is_of}
use Rattle.sc_tracker.proofs.ApartLemmas.{stands_there}
use Rattle.sc_tracker.proofs.shuffles.place_of.Goals as goal

pub returns-then-is_of : goal.returns-then-is_of
returns-then-is_of c =
    stands_there c.args.shuffles.now c.args.guess c.index-shuffles-guess.result c.args.shuffle
    c.requires (omega (arith, c.if-guess-shuffles.true))
    (ap (is_of c.args.shuffle) (sym c.index-shuffles-guess.is) ∙ sym c.is_of.ensures
    ∙ c.if-is_of.true)
