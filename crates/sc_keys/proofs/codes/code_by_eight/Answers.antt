use Rattle.std.proofs.Common.{◌≡◌, ◌∙◌, ◌+◌, ◌-◌, ◌*◌, ◌/◌, ◌^◌, ◌<◌, ap, arith, drop, length, sym, subst, Fits}
use Rattle.std.proofs.lemmas.List.{length-drop}
use Rattle.sc_keys.proofs.CodeLemmas.{are_bytes, behind_first, bytes_drop, code_few, eight_first}
use Rattle.sc_keys.specs.Codes.{AreBytes, code}
use mir.Syntax.{w128}
use Rattle.sc_keys.proofs.codes.code_by_eight.Goals as goal

pub overflow_mul-result : goal.overflow_mul-result
overflow_mul-result c =
    let bytes = c.args.bytes.now in
    let all : AreBytes bytes =
    are_bytes bytes (λ i. omega (arith, (c.type_inv.bytes i).fits)) in
    let behind : (18446744073709551616 + c.from-last.result) / 2 ^ (8 * (16 - length bytes))
    ≡ code (drop 8 bytes) =
    behind_first 8 bytes c.from-last.result c.requires.some (omega (arith, c.requires.few)) all
    (c.from-last.ensures ∙ c.eight.ensures) in
    let short : length (drop 8 bytes) ≡ length bytes - 8 = length-drop 8 bytes in
    let low : code (drop 8 bytes) < 144115188075855872 =
    code_few 7 (drop 8 bytes) (omega (arith, short, c.requires.few))
    (bytes_drop 8 bytes all) in
    subst (λ n. Fits w128 (n * 18446744073709551616)) (sym behind)
    (record { fits = omega (arith, low) })

pub overflow_add-result : goal.overflow_add-result
overflow_add-result c =
    let bytes = c.args.bytes.now in
    let all : AreBytes bytes =
    are_bytes bytes (λ i. omega (arith, (c.type_inv.bytes i).fits)) in
    let behind : (18446744073709551616 + c.from-last.result) / 2 ^ (8 * (16 - length bytes))
    ≡ code (drop 8 bytes) =
    behind_first 8 bytes c.from-last.result c.requires.some (omega (arith, c.requires.few)) all
    (c.from-last.ensures ∙ c.eight.ensures) in
    let sum : code (drop 8 bytes) * 18446744073709551616 + c.from.result ≡ code bytes =
    ap (λ n. code (drop 8 bytes) * 18446744073709551616 + n) (c.from.ensures ∙ c.eight-2.ensures)
    ∙ eight_first bytes c.requires.some in
    let low : code bytes < 2658455991569831745807614120560689152 =
    code_few 15 bytes c.requires.few all in
    subst (λ n. Fits w128 (n * 18446744073709551616 + c.from.result)) (sym behind)
    (subst (λ n. Fits w128 n) (sym sum) (record { fits = omega (arith, low) }))

pub returns : goal.returns
returns c =
    let bytes = c.args.bytes.now in
    let all : AreBytes bytes =
    are_bytes bytes (λ i. omega (arith, (c.type_inv.bytes i).fits)) in
    let behind : (18446744073709551616 + c.from-last.result) / 2 ^ (8 * (16 - length bytes))
    ≡ code (drop 8 bytes) =
    behind_first 8 bytes c.from-last.result c.requires.some (omega (arith, c.requires.few)) all
    (c.from-last.ensures ∙ c.eight.ensures) in
    let sum : code (drop 8 bytes) * 18446744073709551616 + c.from.result ≡ code bytes =
    ap (λ n. code (drop 8 bytes) * 18446744073709551616 + n) (c.from.ensures ∙ c.eight-2.ensures)
    ∙ eight_first bytes c.requires.some in
    record { is = ap (λ n. n * 18446744073709551616 + c.from.result) behind ∙ sum; digits = all }
