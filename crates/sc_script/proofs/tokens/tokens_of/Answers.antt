use Rattle.std.proofs.Common.{ap, sym, ◌∙◌, map}
use Rattle.std.proofs.lemmas.List.{map_push}
use Rattle.std.proofs.lemmas.Result.{err_from_is_err_and}
use Rattle.sc_script.proofs.TokenLoop.{read_nothing_yet, read_token, read_all, too_deep, refused_by, out_of_place, none_left, some_left, fewer_left}
use Rattle.sc_script.specs.Tokens.{begins_with_blank}
use Rattle.sc_script.specs.Views.{token_data_of}
use Rattle.sc_script.proofs.tokens.tokens_of.Goals as goal

pub loop-rest-init : goal.loop-rest-init
loop-rest-init c =
    let behind = c.begins_with_blank-is_behind_blank.ensures
    ∙ ap begins_with_blank c.as_bytes.ensures.value in (
      c.skip_blanks-rest.utf8,
      rw c.new-tokens.ensures.items
          (read_nothing_yet c.args.line.now _ _ c.skip_blanks-rest.ensures behind
          c.if-line-gt-LINE_LIMIT.false),
    )

pub returns-in_err-token : goal.returns-in_err-token
returns-in_err-token c =
    let left = c.loop-rest.rest.now in
    let error = err_from_is_err_and c.from_residual.result c.from_residual.ensures.1 in
    let some = some_left left (sym c.is_empty.ensures ∙ c.loop-rest-test.true) in
    rw (error.1, error.2)
    (refused_by c.in_err-token.field-0.0 c.args.line.now _ c.loop-rest.inside
    c.loop-rest.is_behind_blank left c.loop-rest.invariant.1 some c.in_err-token.ensures)

pub returns-then-not-stands_behind : goal.returns-then-not-stands_behind
returns-then-not-stands_behind c =
    let left = c.loop-rest.rest.now in
    let some = some_left left (sym c.is_empty.ensures ∙ c.loop-rest-test.true) in
    let read = c.in_ok-token.ensures in
    out_of_place c.args.line.now _ c.loop-rest.inside c.loop-rest.is_behind_blank left _ _
    c.loop-rest.invariant.1 some read.0
    (sym c.stands_behind.ensures ∙ c.if-not-stands_behind.true)

pub returns-then-inside-gt-DEPTH_LIMIT : goal.returns-then-inside-gt-DEPTH_LIMIT
returns-then-inside-gt-DEPTH_LIMIT c =
    let left = c.loop-rest.rest.now in
    let read = c.in_ok-token.ensures in
    too_deep c.args.line.now _ c.loop-rest.inside c.loop-rest.is_behind_blank left _ _ _
    c.loop-rest.invariant.1 read.0
    (sym c.stands_behind.ensures ∙ c.if-not-stands_behind.false)
    c.depth_after-inside.ensures c.if-inside-gt-DEPTH_LIMIT.true

pub loop-rest-smaller : goal.loop-rest-smaller
loop-rest-smaller c =
    let left = c.loop-rest.rest.now in
    let read = c.in_ok-token.ensures in
    fewer_left left _ _ c.skip_blanks-rest-in-loop-rest.result.now read.0
    c.skip_blanks-rest-in-loop-rest.ensures

pub loop-rest-preserved : goal.loop-rest-preserved
loop-rest-preserved c =
    let left = c.loop-rest.rest.now in
    let read = c.in_ok-token.ensures in
    let behind = c.begins_with_blank-is_behind_blank-in-loop-rest.ensures
    ∙ ap begins_with_blank c.as_bytes-in-loop-rest.ensures.value in
    let tokens = ap (map token_data_of) c.in_ok-push.ensures.items
    ∙ map_push token_data_of c.loop-rest.tokens.items c.in_ok-token.token in (
      c.skip_blanks-rest-in-loop-rest.utf8,
      rw tokens
          (read_token c.args.line.now _ c.loop-rest.inside c.loop-rest.is_behind_blank left _ _ _ _
          _ c.loop-rest.invariant.1 read.0
          (sym c.stands_behind.ensures ∙ c.if-not-stands_behind.false) read.1
          c.depth_after-inside.ensures c.if-inside-gt-DEPTH_LIMIT.false
          c.skip_blanks-rest-in-loop-rest.ensures behind),
    )

pub returns : goal.returns
returns c =
    let left = c.loop-rest.rest.now in
    let none = none_left left (sym c.is_empty.ensures ∙ c.loop-rest-test.false) in
    read_all c.args.line.now _ c.loop-rest.inside c.loop-rest.is_behind_blank left
    c.loop-rest.invariant.1 none
