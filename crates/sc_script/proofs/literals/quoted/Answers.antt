use Rattle.std.proofs.Common.{◌++◌, ap, subst, ◌∙◌, Some, string_bytes}
use Rattle.std.proofs.lemmas.Str.{IsCharBoundary-after_ascii}
use Rattle.std.specs.List.{position_or_len}
use Rattle.sc_script.specs.TokenReading.{is_mark}
use Rattle.sc_script.proofs.TokenQuotes.{boundary_at_first, mark_is_ascii, found_at_mark, Begins, EndsText, IsEscape, read_quote, read_escape, read_none}
use Rattle.sc_script.proofs.literals.quoted.Goals as goal

pub split_at-requires : goal.split_at-requires
split_at-requires c =
    let n = c.plain_len.ensures ∙ ap (position_or_len is_mark) c.as_bytes.ensures.value in
    boundary_at_first is_mark mark_is_ascii c.loop-text.rest.now c.plain_len.result n

pub range_from-requires : goal.range_from-requires
range_from-requires c =
    let marked = c.split_at.result.1.now in
    let found = found_at_mark c.args.line.now _ c.loop-text.rest.now _ _ marked _ _ _ _
    c.as_bytes.ensures.value c.plain_len.ensures c.split_at.ensures.front c.split_at.ensures.back
    c.in_ok-push_str.ensures.bytes
    c.as_bytes-in-loop-text.ensures.value c.as_bytes-in-loop-text.ensures.utf8 c.mark_at.ensures
    c.loop-text.invariant.1 in
    let ends : EndsText marked =
    subst (Begins marked) (c.in-Some-Quote.is ∙ ap Some c.in-Some-Quote.field-0-is)
    found.begins in
    λ _. IsCharBoundary-after_ascii marked 0 found.utf8 ends.some ends.byte

pub range_from-rest-requires : goal.range_from-rest-requires
range_from-rest-requires c =
    let marked = c.split_at.result.1.now in
    let found = found_at_mark c.args.line.now _ c.loop-text.rest.now _ _ marked _ _ _ _
    c.as_bytes.ensures.value c.plain_len.ensures c.split_at.ensures.front c.split_at.ensures.back
    c.in_ok-push_str.ensures.bytes
    c.as_bytes-in-loop-text.ensures.value c.as_bytes-in-loop-text.ensures.utf8 c.mark_at.ensures
    c.loop-text.invariant.1 in
    let escape : IsEscape marked c.in-Some-Escape.c =
    subst (Begins marked) (c.in-Some-Escape.is ∙ ap Some c.in-Some-Escape.field-0-is)
    found.begins in
    λ _. IsCharBoundary-after_ascii marked 1 found.utf8 escape.some escape.byte

pub returns-in-Some-Quote : goal.returns-in-Some-Quote
returns-in-Some-Quote c =
    let marked = c.split_at.result.1.now in
    let found = found_at_mark c.args.line.now _ c.loop-text.rest.now _ _ marked _ _ _ _
    c.as_bytes.ensures.value c.plain_len.ensures c.split_at.ensures.front c.split_at.ensures.back
    c.in_ok-push_str.ensures.bytes
    c.as_bytes-in-loop-text.ensures.value c.as_bytes-in-loop-text.ensures.utf8 c.mark_at.ensures
    c.loop-text.invariant.1 in
    let ends : EndsText marked =
    subst (Begins marked) (c.in-Some-Quote.is ∙ ap Some c.in-Some-Quote.field-0-is)
    found.begins in
    let text = c.of_string.ensures in (
      rw (text, c.range_from.ensures.value) (read_quote c.args.line.now _ marked found.read ends),
      tt,
    )

pub loop-text-preserved : goal.loop-text-preserved
loop-text-preserved c =
    let marked = c.split_at.result.1.now in
    let found = found_at_mark c.args.line.now _ c.loop-text.rest.now _ _ marked _ _ _ _
    c.as_bytes.ensures.value c.plain_len.ensures c.split_at.ensures.front c.split_at.ensures.back
    c.in_ok-push_str.ensures.bytes
    c.as_bytes-in-loop-text.ensures.value c.as_bytes-in-loop-text.ensures.utf8 c.mark_at.ensures
    c.loop-text.invariant.1 in
    let escape : IsEscape marked c.in-Some-Escape.c =
    subst (Begins marked) (c.in-Some-Escape.is ∙ ap Some c.in-Some-Escape.field-0-is)
    found.begins in
    let text = c.in_ok-push-in-Some-Escape.ensures.bytes
    ∙ ap (λ bytes. string_bytes c.push_str.new.self ++ bytes)
    (c.push.ensures.ascii escape.meant) in (
      c.range_from-rest.utf8,
      rw (text, c.range_from-rest.ensures.value)
          (read_escape c.args.line.now _ marked _ found.read escape),
    )

pub returns-in-None : goal.returns-in-None
returns-in-None c =
    let marked = c.split_at.result.1.now in
    let found = found_at_mark c.args.line.now _ c.loop-text.rest.now _ _ marked _ _ _ _
    c.as_bytes.ensures.value c.plain_len.ensures c.split_at.ensures.front c.split_at.ensures.back
    c.in_ok-push_str.ensures.bytes
    c.as_bytes-in-loop-text.ensures.value c.as_bytes-in-loop-text.ensures.utf8 c.mark_at.ensures
    c.loop-text.invariant.1 in
    read_none c.args.line.now _ marked found.read (subst (Begins marked) c.in-None.is found.begins)
