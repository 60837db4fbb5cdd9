use Rattle.std.proofs.Common.{length, map}
use denote.Text.{Utf8}
use denote.Shadow.{shadow}
use Rattle.sc_script.specs.Views.{token_data_of}
use Rattle.sc_script.proofs.TokenLoop.{IsReadTo}
use Rattle.sc_script.proofs.tokens.tokens_of.Given as goal

abbrev pub invariant-loop-rest : goal.invariant-loop-rest
invariant-loop-rest l =
    shadow (Utf8 l.rest)
    × IsReadTo l.line (map token_data_of l.tokens.items) l.inside l.is_behind_blank l.rest

abbrev pub decreases-loop-rest : goal.decreases-loop-rest
decreases-loop-rest l = length l.rest
