use Rattle.std.proofs.Common.{◌∙◌, ap, sym, map, arith}
use Rattle.std.specs.Prelude.{replicate}
use Rattle.sc_value.specs.Datum.{text}
use Rattle.sc_batch.specs.Texts.{texts_in}
use Rattle.sc_batch.proofs.WordLemmas.{one_byte}
use Rattle.sc_batch.proofs.ZipLemmas.{map-replicate}
use Rattle.sc_batch.proofs.words.separator_of.Goals as goal

pub returns-in-len1 : goal.returns-in-len1
returns-in-len1 c =
    let n = c.in-Some-Same.rows in
    record {
      are = c.in-Some-Same.ensures ∙ ap (λ v. map text (texts_in v)) c.in-Some-Same.field-0-is
          ∙ sym (map-replicate text n c.in-Some-Same.text.now)
          ∙ ap (λ t. replicate n (text t)) (sym c.as_bytes.ensures.value
          ∙ one_byte c.as_bytes.result.now (omega arith));
      ascii = c.if-byte-lt128.true;
    }
