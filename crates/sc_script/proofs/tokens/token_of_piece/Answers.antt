use Rattle.std.proofs.Common.{◌≡◌, true, ap, sym, ◌∙◌, arith}
use Rattle.sc_script.proofs.TokenReading.{piece_is_word}
use Rattle.sc_script.specs.TokenReading.{is_word}
use Rattle.sc_script.specs.Tokens.{word_token}
use Rattle.sc_script.proofs.tokens.token_of_piece.Goals as goal

pub returns-then-piece-gt-WORD_LIMIT : goal.returns-then-piece-gt-WORD_LIMIT
returns-then-piece-gt-WORD_LIMIT c =
    let piece = c.args.piece.now in
    let word : is_word piece ≡ true =
    sym (ap is_word c.as_bytes.ensures.value) ∙ sym c.is_word.ensures ∙ c.if-is_word.true in
    (word_token piece, piece_is_word piece c.args.after.now word, λ short. omega arith)
