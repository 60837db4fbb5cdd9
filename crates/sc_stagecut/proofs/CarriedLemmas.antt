-- What is carried behind a job.
use Rattle.std.proofs.Common.{◌≡◌, ◌∙◌, ℕ, suc, ◌+◌, ◌-◌, ◌<◌, List, [], ◌∷◌, length, get_or, ap, sym, arith}
use Rattle.sc_ids.specs.Graphs.{StageData}
use Rattle.sc_stagecut.specs.Carrying.{number_behind}

-- the number behind the last stage
pub number_behind-last : (next : ℕ) (stages : List StageData) (last : StageData)
    → 0 < length stages → last ≡ get_or stages (length stages - 1) last
    → number_behind next stages ≡ last.id + 1
number_behind-last next [] last some at = absurd (omega arith)
number_behind-last next (a ∷ []) last some at = ap (λ (s : StageData). s.id + 1) (sym at)
number_behind-last next (a ∷ b ∷ stages) last some at =
    let place : suc (suc (length stages)) - 1 ≡ suc (suc (length stages) - 1) = omega arith in
    number_behind-last (a.id + 1) (b ∷ stages) last (omega arith)
    (at ∙ ap (λ i. get_or (a ∷ b ∷ stages) i last) place)
