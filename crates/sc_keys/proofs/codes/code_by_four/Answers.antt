use Rattle.std.proofs.Common.{◌≡◌, ◌∙◌, ◌+◌, ◌-◌, ◌*◌, ◌/◌, ◌^◌, ◌<◌, ap, arith, drop, length, sym, subst, w64, Fits}
use Rattle.std.proofs.lemmas.List.{length-drop}
use Rattle.sc_keys.proofs.CodeLemmas.{are_bytes, behind_first, bytes_drop, code_few, four_first}
use Rattle.sc_keys.specs.Codes.{AreBytes, code}
use Rattle.sc_keys.proofs.codes.code_by_four.Goals as goal

pub overflow_mul-result : goal.overflow_mul-result
overflow_mul-result c =
    let bytes = c.args.bytes.now in
    let all : AreBytes bytes =
    are_bytes bytes (λ i. omega (arith, (c.type_inv.bytes i).fits)) in
    let behind : (4294967296 + c.from-last.result) / 2 ^ (8 * (8 - length bytes))
    ≡ code (drop 4 bytes) =
    behind_first 4 bytes c.from-last.result c.requires.some (omega (arith, c.requires.few)) all
    (c.from-last.ensures ∙ c.four.ensures) in
    let short : length (drop 4 bytes) ≡ length bytes - 4 = length-drop 4 bytes in
    let low : code (drop 4 bytes) < 33554432 =
    code_few 3 (drop 4 bytes) (omega (arith, short, c.requires.few))
    (bytes_drop 4 bytes all) in
    subst (λ n. Fits w64 (n * 4294967296)) (sym behind) (record { fits = omega (arith, low) })

pub overflow_add-result : goal.overflow_add-result
overflow_add-result c =
    let bytes = c.args.bytes.now in
    let all : AreBytes bytes =
    are_bytes bytes (λ i. omega (arith, (c.type_inv.bytes i).fits)) in
    let behind : (4294967296 + c.from-last.result) / 2 ^ (8 * (8 - length bytes))
    ≡ code (drop 4 bytes) =
    behind_first 4 bytes c.from-last.result c.requires.some (omega (arith, c.requires.few)) all
    (c.from-last.ensures ∙ c.four.ensures) in
    let sum : code (drop 4 bytes) * 4294967296 + c.from.result ≡ code bytes =
    ap (λ n. code (drop 4 bytes) * 4294967296 + n) (c.from.ensures ∙ c.four-2.ensures)
    ∙ four_first bytes c.requires.some in
    let low : code bytes < 144115188075855872 = code_few 7 bytes c.requires.few all in
    subst (λ n. Fits w64 (n * 4294967296 + c.from.result)) (sym behind)
    (subst (λ n. Fits w64 n) (sym sum) (record { fits = omega (arith, low) }))

pub returns : goal.returns
returns c =
    let bytes = c.args.bytes.now in
    let all : AreBytes bytes =
    are_bytes bytes (λ i. omega (arith, (c.type_inv.bytes i).fits)) in
    let behind : (4294967296 + c.from-last.result) / 2 ^ (8 * (8 - length bytes))
    ≡ code (drop 4 bytes) =
    behind_first 4 bytes c.from-last.result c.requires.some (omega (arith, c.requires.few)) all
    (c.from-last.ensures ∙ c.four.ensures) in
    let sum : code (drop 4 bytes) * 4294967296 + c.from.result ≡ code bytes =
    ap (λ n. code (drop 4 bytes) * 4294967296 + n) (c.from.ensures ∙ c.four-2.ensures)
    ∙ four_first bytes c.requires.some in
    record { is = ap (λ n. n * 4294967296 + c.from.result) behind ∙ sum; digits = all }
