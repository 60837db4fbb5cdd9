use Rattle.std.proofs.Common.{◌≡◌, ◌∙◌, ◌/◌, ◌<◌, arith, get_or, length}
use Rattle.sc_taskset.proofs.FlagLemmas.{put_clear, put_set}
use Rattle.sc_taskset.proofs.TableLemmas.{get_same}
use Rattle.sc_taskset.proofs.flags.put_flag.Goals as goal

pub returns-then-flag : goal.returns-then-flag
returns-then-flag c =
    let words = c.args.words.now.items in
    let within : c.args.place / 64 < length words = omega (arith, c.requires) in
    let word : c.index_mut.result.now ≡ get_or words (c.args.place / 64) 0 =
    c.index_mut.ensures.value ∙ get_same words (c.args.place / 64) _ 0 within in
    rw (word, c.if-flag.true) (put_set words c.args.place within)

pub returns-else-flag : goal.returns-else-flag
returns-else-flag c =
    let words = c.args.words.now.items in
    let within : c.args.place / 64 < length words = omega (arith, c.requires) in
    let word : c.index_mut-else-flag.result.now ≡ get_or words (c.args.place / 64) 0 =
    c.index_mut-else-flag.ensures.value ∙ get_same words (c.args.place / 64) _ 0 within in
    rw (word, c.if-flag.false) (put_clear words c.args.place within)
