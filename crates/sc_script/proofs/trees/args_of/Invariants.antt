use Rattle.std.proofs.Common.{◌≡◌, map}
use Rattle.sc_script.specs.FormReading.{reading_of, nothing_read, tokens_read}
use Rattle.sc_script.specs.Views.{token_data_of}
use Rattle.std.specs.Vec.Iter.{into_iter_items}
use Rattle.sc_script.proofs.trees.args_of.Given as goal

abbrev pub invariant-loop-token : goal.invariant-loop-token
invariant-loop-token l =
    tokens_read (reading_of l.reader) (map token_data_of (into_iter_items l.token-iterator))
    ≡ tokens_read nothing_read (map token_data_of (into_iter_items l.fn.tokens))
