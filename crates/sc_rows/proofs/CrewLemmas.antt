-- Executors at their places, with one more behind them.
use Rattle.std.proofs.Common.{◌≡◌, ◌∙◌, ◌+◌, ◌<◌, ◌++◌, ℕ, zero, suc, List, [], ◌∷◌, arith, length, sym}
use Rattle.std.specs.List.{slice_index_or}
use Rattle.std.proofs.lemmas.List.{length_push}
use Rattle.sc_exec.specs.Workers.{AreInPlace}
use Rattle.sc_exec.specs.declared.workers.Worker.{Worker}

placed : (from : ℕ) (ws : List Worker) (w : Worker)
    → ((i : ℕ) (d : Worker) → i < length ws → (slice_index_or ws i d).log.exec ≡ from + i)
    → w.log.exec ≡ from + length ws → (i : ℕ) (d : Worker) → i < length (ws ++ w ∷ [])
    → (slice_index_or (ws ++ w ∷ []) i d).log.exec ≡ from + i
placed from [] w each is zero d lt = is
placed from [] w each is (suc i) d lt = absurd (omega (arith, lt))
placed from (x ∷ ws) w each is zero d lt = each zero d (omega arith)
placed from (x ∷ ws) w each is (suc i) d lt =
    let on : (j : ℕ) → from + suc j ≡ suc from + j = λ j. omega arith in
    let back : suc from + i ≡ from + suc i = omega arith in
    placed (suc from) ws w (λ j y l. each (suc j) y (omega (arith, l)) ∙ on j)
    (is ∙ on (length ws)) i d (omega (arith, lt))
    ∙ back

pub one_more_in_place : (exec : ℕ) (ws : List Worker) (w : Worker) → AreInPlace exec ws
    → w.log.exec ≡ exec → AreInPlace (exec + 1) (ws ++ w ∷ [])
one_more_in_place exec ws w places is =
    record {
      many = omega (arith, length_push ws w, places.many);
      place = λ i d lt.
          placed 0 ws w (λ j y l. places.place j y l ∙ from_0 j) last i d lt ∙ sym (from_0 i);
    }
  where
    from_0 : (i : ℕ) → i ≡ 0 + i
    from_0 i = omega arith

    last : w.log.exec ≡ 0 + length ws
    last = omega (arith, is, places.many)
