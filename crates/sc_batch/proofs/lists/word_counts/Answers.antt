use Rattle.std.proofs.Common.{◌∙◌, ap, map, pos, ◌++◌, ◌∷◌, [], arith}
use Rattle.std.proofs.lemmas.List.{take_all}
use Rattle.std.proofs.lemmas.Result.{IfOk-weaker}
use Rattle.sc_value.specs.Datum.{number}
use Rattle.sc_batch.specs.Lists.{count_of_words}
use Rattle.sc_batch.proofs.NumberLemmas.{count_as_number}
use Rattle.sc_batch.proofs.ZipLemmas.{mapped_more}
use Rattle.sc_batch.proofs.lists.word_counts.Goals as goal

pub loop-i-preserved : goal.loop-i-preserved
loop-i-preserved c =
    let out = c.loop-i.out.items in
    mapped_more count_of_words c.args.texts.now out c.push.new.self.items c.loop-i.i
    c.get.result.now
    c.get.ensures c.loop-i.invariant
    (c.in_ok-push.ensures.items ∙ ap (λ n. out ++ n ∷ [])
    (count_as_number c.word_count-count.result (omega arith) ∙ ap pos c.word_count-count.ensures))

pub returns : goal.returns
returns c =
    IfOk-weaker c.ints.result _ _ (λ s is. is
    ∙ ap (λ ns. record { rows = map number ns; raise = c.args.end }) (c.loop-i.invariant
    ∙ ap (map count_of_words) (take_all c.loop-i.i c.args.texts.now (omega arith)))) c.ints.ensures
