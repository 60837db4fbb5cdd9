-- One step of the walk that compares a log with the entries of its executor.
use Rattle.std.proofs.Common.{ℕ, ◌≡◌, ◌↔◌, List, [], ◌∷◌, true, filter, ap}
use Rattle.sc_core.specs.declared.entries.Entry.{Entry}
use Rattle.sc_logs.specs.Logs.{is_by}

tail_of : List Entry → List Entry
tail_of [] = []
tail_of (e ∷ es) = es

-- where the log goes on with an entry of its executor, the rest follows behind it
pub taken_step :
    (exec : ℕ) (e x : Entry) (rest log es : List Entry) → is_by exec e ≡ true → x ≡ e
    → log ≡ x ∷ rest
    → (filter (is_by exec) (e ∷ es) ≡ log) ↔ (filter (is_by exec) es ≡ rest)
unfolding tail_of
taken_step exec e x rest log es met same cut =
    rw (cut, same, met) ((λ h. ap tail_of h), (λ h. ap (λ r. e ∷ r) h))
