use Rattle.std.proofs.Common.{ℕ, ap, nat_eq}
use Rattle.std.proofs.lemmas.Iterator.{YieldsList-from_chars}
use Rattle.std.proofs.lemmas.Iterator.Consumers.{count_from_yields_List}
use Rattle.sc_script.proofs.fitting.is_character.Goals as goal

pub returns : goal.returns
returns c =
    ap (λ (n : ℕ). nat_eq n 1)
    (count_from_yields_List _ c.count.result c.count.ensures.ran
    (YieldsList-from_chars c.args.text.now c.utf8.text cc))
