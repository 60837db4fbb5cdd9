-- What a commit leaves of what attempts did.
use Rattle.std.proofs.Common.{◌≡◌, ◌∙◌, ℕ, suc, ◌+◌, List, [], ◌∷◌, length, ap, sym, arith}
use Rattle.std.specs.Prelude.{Option, Some, None, IfSome}
use Rattle.sc_base.specs.Lists.{at_or}
use Rattle.sc_base.specs.Trees.{Tree, Path}
use Rattle.sc_base.proofs.ChangeLemmas.{changes-after}
use Rattle.sc_ids.specs.declared.attempts.AttemptId.{AttemptId}
use Rattle.sc_output.specs.Calls.{after_calls}
use Rattle.sc_output.specs.Commits.{AreWinnersFrom, abort_calls, commit_calls}
use Rattle.sc_base.specs.Saves.{saved_tree}
use Rattle.sc_output.specs.Saved.{HaveTexts, IsUnderWay}
use Rattle.sc_output.proofs.SavedLemmas.{aborted_is_empty, committed_is_saved}
use Rattle.sc_staging.specs.Done.{Done, HasFiles, HaveRenamed, renamed}
use Rattle.sc_staging.specs.Laws.{AbortLeaves, CommitSaves}

-- two facts of what there is
both-some : {A : Type 0} (P Q : A → Type 0) (a : Option A) → IfSome a P → IfSome a Q
    → IfSome a (λ t. P t × Q t)
both-some P Q None p q = tt
both-some P Q (Some t) p q = (p, q)

no-length : (n : ℕ) → 0 ≡ suc n → ⊥
no-length n e = omega (arith, e)

at-suc : (texts : List (List ℕ)) (first i : ℕ)
    → at_or texts (i + suc first) [] ≡ at_or texts (suc i + first) []
at-suc texts first i =
    let same : i + suc first ≡ suc i + first = omega arith in
    ap (λ p. at_or texts p []) same

at-first : (texts : List (List ℕ)) (first : ℕ)
    → at_or texts first [] ≡ at_or texts (0 + first) []
at-first texts first =
    let same : first ≡ 0 + first = omega arith in
    ap (λ p. at_or texts p []) same

at-zero : (texts : List (List ℕ)) (i : ℕ) → at_or texts (i + 0) [] ≡ at_or texts i []
at-zero texts i =
    let same : i + 0 ≡ i = omega arith in
    ap (λ p. at_or texts p []) same

-- the committed files of winners have the texts of their partitions
texts-of_winners : (dir : Path) (texts : List (List ℕ)) (ds : List Done) (first : ℕ)
    (ws : List AttemptId) (rest : List (List ℕ)) (t : Tree) → AreWinnersFrom first ws
    → HaveRenamed ds ws → length ws ≡ length rest
    → ((i : ℕ) → at_or texts (i + first) [] ≡ at_or rest i []) → HasFiles dir texts ds t
    → HaveTexts dir ws rest t
texts-of_winners dir texts ds first [] [] t are all long same has = tt
texts-of_winners dir texts ds first [] (x ∷ xs) t are all long same has =
    absurd (no-length (length xs) long)
texts-of_winners dir texts ds first (w ∷ ws) [] t are all long same has =
    absurd (no-length (length ws) (sym long))
texts-of_winners dir texts ds first (w ∷ ws) (x ∷ xs) t are all long same has = (
  has.standing w renamed are.1 all.0
      ∙ ap (λ p. Some (at_or texts p [])) are.0 ∙ ap Some (at-first texts first ∙ same 0),
  texts-of_winners dir texts ds (suc first) ws xs t are.2 all.1 (omega (arith, long))
      (λ i. at-suc texts first i ∙ same (suc i)) has,
)

pub commit_saves : CommitSaves
commit_saves dir texts ds ws opening old new apart are long all way has made =
    changes-after (λ t u. u ≡ after_calls t (commit_calls dir ws))
    (λ t. IsUnderWay dir opening t × HasFiles dir texts ds t)
    (λ u. u ≡ saved_tree dir texts opening) old.shown new.shown
    (λ t u before is. is ∙ committed_is_saved dir ws texts opening t apart before.0 are
    (texts-of_winners dir texts ds 0 ws texts t are all long
    (at-zero texts) before.1))
    (both-some (IsUnderWay dir opening) (HasFiles dir texts ds) old.shown way has) made.1

pub abort_leaves : AbortLeaves
abort_leaves dir opening old new apart way made =
    changes-after (λ t u. u ≡ after_calls t (abort_calls dir)) (IsUnderWay dir opening) _
    old.shown new.shown
    (λ t u before is. is ∙ aborted_is_empty dir opening t apart before) way made.1
