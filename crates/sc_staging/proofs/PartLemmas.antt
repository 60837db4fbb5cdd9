-- Calls for the parts of attempts.
use Rattle.std.proofs.Common.{◌≡◌, ◌∙◌, ℕ, append-nil, true, List, [], ◌∷◌, refl, ap, subst}
use Rattle.std.specs.Prelude.{codes, decimal, Option, Some, None, IfSome}
use Rattle.sc_base.specs.Trees.{Tree, Path, dir_part, dir_step, has_place}
use Rattle.sc_base.proofs.ChangeLemmas.{if_some-weaker}
use Rattle.sc_base.proofs.PathLemmas.{dir_part-append}
use Rattle.sc_ids.specs.declared.attempts.AttemptId.{AttemptId}
use Rattle.sc_output.specs.Calls.{IsOpen, write_call}
use Rattle.sc_output.specs.Names.{IsWithinTypes, committed_path, dashed, staged_path, staging_path}
use Rattle.sc_output.proofs.ReadyLemmas.{dir_part-decimal, has_place-dir}
use Rattle.sc_staging.specs.StagingData.{AreThere}

-- ---- the directories of names

dir_part-dashed : (a : AttemptId) → IsWithinTypes a → dir_part (dashed a) ≡ None
dir_part-dashed a within =
    dir_part-decimal a.stage _ within.stage (ap (dir_step 45)
    (dir_part-decimal a.stage_attempt _ within.stage_attempt (ap (dir_step 45)
    (dir_part-decimal a.partition _ within.partition (ap (dir_step 45)
    (subst (λ xs. dir_part xs ≡ None) (append-nil (decimal a.nth))
    (dir_part-decimal a.nth [] within.nth refl)))))))

pub dir_part-staged : (dir : Path) (a : AttemptId) → IsWithinTypes a
    → dir_part (staged_path dir a) ≡ Some (staging_path dir)
dir_part-staged dir a within =
    dir_part-append dir _ (codes "/_temporary")
    (dir_part-append (codes "/_temporary") (47 ∷ 115 ∷ 45 ∷ dashed a) []
    (ap (λ o. dir_step 47 (dir_step 115 (dir_step 45 o))) (dir_part-dashed a within)))

pub dir_part-committed : (dir : Path) (a : AttemptId) → IsWithinTypes a
    → dir_part (committed_path dir a) ≡ Some (staging_path dir)
dir_part-committed dir a within =
    dir_part-append dir _ (codes "/_temporary")
    (dir_part-append (codes "/_temporary") (47 ∷ 99 ∷ 45 ∷ dashed a) []
    (ap (λ o. dir_step 47 (dir_step 99 (dir_step 45 o))) (dir_part-dashed a within)))

pub committed-place : (dir : Path) (a : AttemptId) (t : Tree) → IsWithinTypes a → AreThere dir t
    → has_place t (committed_path dir a) ≡ true
committed-place dir a t within there =
    has_place-dir t (staging_path dir) (committed_path dir a) (dir_part-committed dir a within)
    there.staging

-- an attempt may write
pub may_write : (dir path : Path) (a : AttemptId) (text : List ℕ) (shown : Option Tree)
    → IsWithinTypes a → path ≡ staged_path dir a → IfSome shown (AreThere dir)
    → IfSome shown (IsOpen (write_call path text))
may_write dir path a text shown within is there =
    if_some-weaker (AreThere dir) (IsOpen (write_call path text)) shown
    (λ t both. ap (has_place t) is
    ∙ has_place-dir t (staging_path dir) (staged_path dir a) (dir_part-staged dir a within)
    both.staging) there
