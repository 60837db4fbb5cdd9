use Rattle.std.proofs.Common.{arith}
use Rattle.sc_value.proofs.CutPlaces.{IsPieceFrom-more, IsPieceFrom-none, IsPieceFrom-found, IsPieceFrom-part}
use Rattle.sc_value.proofs.cuts.piece_place.Goals as goal

pub returns-then-from-len-clause-piece : goal.returns-then-from-len-clause-piece
returns-then-from-len-clause-piece c =
    IsPieceFrom-none c.args.separator c.args.text.now c.args.first c.loop-left.from c.loop-left.len
    c.args.end c.args.k c.loop-left.left c.loop-left-test.true c.if-from-len.true
    c.loop-left.invariant

pub loop-left-preserved : goal.loop-left-preserved
loop-left-preserved c =
    IsPieceFrom-more c.args.separator c.args.text.now c.args.first c.loop-left.from c.loop-left.len
    c.args.end c.args.k c.loop-left.left c.piece_len-len-in-loop-left.result c.requires.ascii
    c.loop-left-test.true c.if-from-len.false c.piece_len-len-in-loop-left.ensures.len
    c.loop-left.invariant

pub returns-clause-piece : goal.returns-clause-piece
returns-clause-piece c =
    IsPieceFrom-found c.args.separator c.args.text.now c.args.first c.loop-left.from c.loop-left.len
    c.args.end c.args.k c.loop-left.left (omega arith) c.loop-left.invariant

pub returns-clause-part : goal.returns-clause-part
returns-clause-part c =
    IsPieceFrom-part c.args.separator c.args.text.now c.args.first c.loop-left.from c.loop-left.len
    c.args.end c.args.k c.loop-left.left c.requires.ascii c.loop-left.invariant
