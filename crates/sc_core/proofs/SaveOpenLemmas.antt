-- Nobody may commit yet as a job begins.
use Rattle.std.proofs.Common.{◌≡◌, ℕ, zero, suc, ◌+◌, ◌==◌, ◌&&◌, All, Bool, true, false, if◌then◌else◌, List, [], ◌∷◌, Option, IfSome, is_some, length, replicate, slice_get, refl, ap, sym, subst, ◌∙◌, arith, true≢false}
use Rattle.sc_base.specs.Lists.{at_or}
use Rattle.sc_ids.specs.Graphs.{StageData}
use Rattle.sc_commit.specs.CommitFacts.{IsSoundCommitter}
use Rattle.sc_commit.specs.Committers.{committer_at, holder_in, winner_in}
use Rattle.sc_commit.specs.Committing.{denies}
use Rattle.sc_commit.specs.declared.committers.Committer.TheVariants.{Nobody}
use Rattle.sc_dag.specs.DagData.{DagData, stage_at}
use Rattle.sc_dag.specs.Openings.{blank_states}
use Rattle.sc_dag.specs.Outputs.{held_in, is_done, results_in}
use Rattle.sc_dag.specs.Submission.{IsSubmitted, is_map}
use Rattle.sc_core.specs.CoreData.{CoreData, result_stage}
use Rattle.sc_core.specs.Openings.{committers_for}
use Rattle.sc_core.specs.Posts.{is_save}
use Rattle.sc_core.specs.Sound.{HasWon, HoldsWell, IsSoundSave, SavesWell}
use Rattle.sc_core.proofs.HeldLemmas.{submitted_held}
use Rattle.sc_core.proofs.SaveResultLemmas.{done_at}
use Rattle.sc_core.proofs.StageCallLemmas.{submitted_results}

-- ---- stages that nothing was done for

off : (n p : ℕ) → at_or (replicate n false) p false ≡ false
off zero p = refl
off (suc n) zero = refl
off (suc n) (suc p) = off n p

-- no result is there
blank_results : (last : Option DagData) (n : ℕ) (stages : List StageData) (s p : ℕ)
    → at_or (results_in (slice_get (blank_states last n stages) s)) p false ≡ false
blank_results last n [] s p = refl
blank_results last n (stage ∷ stages) zero p =
    off (if is_map stage.target then 0 else stage.tasks) p
blank_results last n (stage ∷ stages) (suc s) p = blank_results last (n + 1) stages s p

-- and nothing is held back
blank_held : (last : Option DagData) (n : ℕ) (stages : List StageData) (s p : ℕ)
    → at_or (held_in (slice_get (blank_states last n stages) s)) p false ≡ false
blank_held last n [] s p = refl
blank_held last n (stage ∷ stages) zero p = off stage.tasks p
blank_held last n (stage ∷ stages) (suc s) p = blank_held last (n + 1) stages s p

-- ---- committers

free_in : (n p : ℕ) → committer_at (replicate n Nobody) p ≡ Nobody
free_in zero p = refl
free_in (suc n) zero = refl
free_in (suc n) (suc p) = free_in n p

pub free_at : (saves : Bool) (d : DagData) (p : ℕ)
    → committer_at (committers_for saves d) p ≡ Nobody
free_at false d p = refl
free_at true d p = free_in (stage_at d (result_stage d)).tasks p

places_for : (saves : Bool) (d : DagData) → is_save (committers_for saves d) ≡ true
    → length (committers_for saves d) ≡ (stage_at d (result_stage d)).tasks
places_for false d e = absurd (true≢false (sym e))
places_for true d e = many (stage_at d (result_stage d)).tasks
  where
    many : (n : ℕ) → length (replicate n Nobody) ≡ n
    many zero = refl
    many (suc n) = ap suc (many n)

nobody_sound : (p : ℕ) → IsSoundCommitter p Nobody
nobody_sound p =
    record { holder = tt; winner = tt; apart = tt; denied = λ e. absurd (true≢false (sym e)) }

-- ---- the core

pub opened_saves :
    (c : CoreData) (d : DagData) (last : Option DagData) (saves : Bool) (submitted : ℕ → Bool)
    → IsSubmitted d submitted c.dag
    → is_map (stage_at c.dag (result_stage c.dag)).target ≡ false
    → d.states ≡ blank_states last 0 d.stages → c.running ≡ []
    → c.committers ≡ committers_for saves c.dag → IsSoundSave c
opened_saves c d last saves submitted submits kind blank running committers =
    record {
      commit = λ p. subst (IsSoundCommitter p) (sym (free p)) (nobody_sound p);
      places = λ s. ap length committers
          ∙ places_for saves c.dag (ap is_save (sym committers) ∙ s);
      phases = subst (λ rs. All (SavesWell c) rs) (sym running)
          (λ i r l. absurd (omega (arith, l)));
      holders = λ p. subst (λ k. IfSome (holder_in k) (HoldsWell c)) (sym (free p)) tt;
      winners = λ p. subst (λ k. IfSome (winner_in k) (HasWon c)) (sym (free p)) tt;
      won = λ s p. ap (λ k. is_some (winner_in k)) (free p) ∙ sym (undone p);
      mirrors = λ s p. ap (λ flags. at_or flags p false)
          (submitted_held d c.dag submitted submits s
          ∙ ap (λ states. held_in (slice_get states s)) blank)
          ∙ blank_held last 0 d.stages s p
          ∙ sym (ap (λ k. (s == result_stage c.dag) && denies k) (free p)
          ∙ none (s == result_stage c.dag));
    }
  where
    free : (p : ℕ) → committer_at c.committers p ≡ Nobody
    free p = ap (λ ks. committer_at ks p) committers ∙ free_at saves c.dag p

    undone : (p : ℕ) → is_done c.dag (result_stage c.dag) p ≡ false
    undone p =
        done_at c.dag (result_stage c.dag) p kind
        ∙ ap (λ rs. at_or rs p false)
        (submitted_results d c.dag submitted submits (result_stage c.dag)
        ∙ ap (λ states. results_in (slice_get states (result_stage c.dag))) blank)
        ∙ blank_results last 0 d.stages (result_stage c.dag) p

    none : (b : Bool) → (b && false) ≡ false
    none true = refl
    none false = refl
