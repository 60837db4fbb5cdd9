use Rattle.std.proofs.Common.{ap, ◌∙◌}
use Rattle.std.proofs.lemmas.Result.{err_from_is_err_and}
use Rattle.std.specs.List.{position_or_len}
use Rattle.sc_script.proofs.TokenFinds.{piece_refused}
use Rattle.sc_script.proofs.TokenFronts.{piece_at-read}
use Rattle.sc_script.proofs.TokenPieces.{cut_piece, token_end_is_ascii}
use Rattle.sc_script.proofs.TokenQuotes.{boundary_at_first}
use Rattle.sc_script.specs.TokenReading.{is_token_end}
use Rattle.sc_script.proofs.tokens.piece_token.Goals as goal

pub split_at-requires : goal.split_at-requires
split_at-requires c =
    let n = c.piece_len.ensures ∙ ap (position_or_len is_token_end) c.as_bytes.ensures.value in
    boundary_at_first is_token_end token_end_is_ascii c.args.line.now c.piece_len.result n

pub returns-in_err-token_of_piece : goal.returns-in_err-token_of_piece
returns-in_err-token_of_piece c =
    let line = c.args.line.now in
    let cut = cut_piece line _ _ _ _ c.as_bytes.ensures.value c.piece_len.ensures
    c.split_at.ensures.front c.split_at.ensures.back in
    let error = err_from_is_err_and c.from_residual.result c.from_residual.ensures.1 in
    rw (error.1, error.2)
    (piece_refused c.in_err-token_of_piece.field-0.0 line _ _ cut.0 cut.1
    c.in_err-token_of_piece.ensures)

pub returns : goal.returns
returns c =
    let line = c.args.line.now in
    let cut = cut_piece line _ _ _ _ c.as_bytes.ensures.value c.piece_len.ensures
    c.split_at.ensures.front c.split_at.ensures.back in
    let found = c.in_ok-token_of_piece.ensures in
    (piece_at-read line _ _ _ cut.0 cut.1 found.0, found.1)
