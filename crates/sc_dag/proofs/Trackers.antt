-- What a change of the tracker does to the outputs of stages.
use Rattle.std.proofs.Common.{◌≡◌, ◌≢◌, ◌⊎◌, inl, inr, ℕ, Bool, List, length, Option, Some, None, is_some, refl, ap, sym, subst, ◌∙◌}
use Rattle.std.proofs.lemmas.Bool.{cases_eq}
use Rattle.sc_ids.specs.Changes.{change_at}
use Rattle.sc_ids.specs.Graphs.{StageData}
use Rattle.sc_ids.specs.declared.blocks.BlockId.{BlockId}
use Rattle.sc_ids.specs.declared.blocks.Loc.{Loc}
use Rattle.sc_ids.specs.declared.blocks.ShuffleId.{ShuffleId}
use Rattle.sc_ids.specs.declared.blocks.Target.{Target}
use Rattle.sc_ids.specs.declared.blocks.Target.TheVariants as targets
use Rattle.sc_ids.proofs.ChangeLemmas.{length_change_at}
use Rattle.sc_tracker.specs.Outputs.{placed}
use Rattle.sc_tracker.specs.TrackerData.{TrackerData, output_of, outputs_of}
use Rattle.sc_tracker.specs.Tracking.{registered}
use Rattle.sc_tracker.specs.declared.outputs.Output.{Output}
use Rattle.sc_tracker.proofs.BlockLemmas.{registers_one, under_changed, under_kept}
use Rattle.sc_dag.specs.DagData.{DagData, StageState, stage_at}
use Rattle.sc_dag.specs.Outputs.{block_of, is_done_by}
use Rattle.sc_dag.specs.Sound.{AreSoundStages}
use Rattle.sc_dag.proofs.SoundStages.{IsSoundAt}

-- two shuffles are the same or not
pub which_shuffle : (a b : ShuffleId) → (a ≡ b) ⊎ (a ≡ b → ⊥)
which_shuffle a b = by (cases_eq a.node b.node) (cases_eq a.side b.side)
  where
    shuffle : ℕ → ℕ → ShuffleId
    shuffle n s = record { node = n; side = s }

    by : (a.node ≡ b.node) ⊎ (a.node ≡ b.node → ⊥) → (a.side ≡ b.side) ⊎ (a.side ≡ b.side → ⊥)
        → (a ≡ b) ⊎ (a ≡ b → ⊥)
    by (inl n) (inl s) =
        inl (ap (λ m. shuffle m a.side) n ∙ ap (λ m. shuffle b.node m) s)
    by (inr ne) s = inr (λ e. ne (ap (λ (x : ShuffleId). x.node) e))
    by (inl n) (inr ne) = inr (λ e. ne (ap (λ (x : ShuffleId). x.side) e))

-- two blocks are the same or not
pub which_block : (a b : BlockId) → (a ≡ b) ⊎ (a ≡ b → ⊥)
which_block a b = by (which_shuffle a.shuffle b.shuffle) (cases_eq a.map b.map)
  where
    block : ShuffleId → ℕ → BlockId
    block shuffle map = record { shuffle = shuffle; map = map }

    by : (a.shuffle ≡ b.shuffle) ⊎ (a.shuffle ≡ b.shuffle → ⊥)
        → (a.map ≡ b.map) ⊎ (a.map ≡ b.map → ⊥) → (a ≡ b) ⊎ (a ≡ b → ⊥)
    by (inl s) (inl m) = inl (ap (λ x. block x a.map) s ∙ ap (λ x. block b.shuffle x) m)
    by (inr ne) m = inr (λ e. ne (ap (λ (x : BlockId). x.shuffle) e))
    by (inl s) (inr ne) = inr (λ e. ne (ap (λ (x : BlockId). x.map) e))

-- a registration makes no room and takes none
pub registered_room :
    (t : TrackerData) (block : BlockId) (loc : Loc) (shuffle : ShuffleId)
    → length (outputs_of (registered t block loc) shuffle) ≡ length (outputs_of t shuffle)
registered_room t block loc shuffle = by (which_shuffle shuffle block.shuffle)
  where
    change : List Output → List Output
    change outputs = change_at outputs block.map (placed loc t.epoch)

    here : length (outputs_of (registered t block loc) block.shuffle)
        ≡ length (outputs_of t block.shuffle)
    here =
        ap length (under_changed t.shuffles block.shuffle change refl)
        ∙ length_change_at (outputs_of t block.shuffle) block.map (placed loc t.epoch)

    by : (shuffle ≡ block.shuffle) ⊎ (shuffle ≡ block.shuffle → ⊥)
        → length (outputs_of (registered t block loc) shuffle) ≡ length (outputs_of t shuffle)
    by (inl e) =
        subst (λ s. length (outputs_of (registered t block loc) s) ≡ length (outputs_of t s))
        (sym e) here
    by (inr ne) = ap length (under_kept t.shuffles block.shuffle shuffle change ne)

-- what is done by outputs that are the same
pub done_alike :
    (t u : TrackerData) (target : Target) (results : List Bool) (p : ℕ)
    → ((shuffle : ShuffleId) → target ≡ targets.Map shuffle
    → output_of u (block_of shuffle p) ≡ output_of t (block_of shuffle p))
    → is_done_by u target results p ≡ is_done_by t target results p
done_alike t u (targets.Map shuffle) results p h = ap (λ o. is_some o.here) (h shuffle refl)
done_alike t u (targets.Result node) results p h = refl

-- the outputs of a stage are the same
abbrev pub SameOutputs : TrackerData → TrackerData → StageData → Type 0
SameOutputs t u stage =
    (p : ℕ) (shuffle : ShuffleId) → stage.target ≡ targets.Map shuffle
    → output_of u (block_of shuffle p) ≡ output_of t (block_of shuffle p)

-- a stage whose outputs are the same
pub sound_alike :
    (t u : TrackerData) (stage : StageData) (o : Option StageState) → SameOutputs t u stage
    → IsSoundAt t stage o → IsSoundAt u stage o
sound_alike t u stage None same is = is
sound_alike t u stage (Some state) same is =
    record {
      results = is.results;
      flags = is.flags;
      attempts = is.attempts;
      newest = record {
        made = λ p exec shuffle target h.
            rw (same p shuffle target) (is.newest.made p exec shuffle target h);
        wanted = λ p h.
            done_alike t u stage.target state.results p (same p) ∙ is.newest.wanted p h;
        covered = λ p kind lt ne h.
            done_alike t u stage.target state.results p (same p)
            ∙ is.newest.covered p kind lt ne h;
      };
    }

-- another stage makes other blocks
pub other_block :
    (d : DagData) (k s : ℕ) → AreSoundStages d.stages d.tracker → (k ≡ s → ⊥)
    → (p q : ℕ) (shuffle other : ShuffleId) → (stage_at d s).target ≡ targets.Map shuffle
    → (stage_at d k).target ≡ targets.Map other → block_of other p ≢ block_of shuffle q
other_block d k s sound ne p q shuffle other is is_other e =
    sound.apart k s ne other is_other
    (is ∙ ap targets.Map (sym (ap (λ (b : BlockId). b.shuffle) e)))

-- so a registration leaves its outputs as they are
pub other_outputs :
    (d : DagData) (k s q : ℕ) (shuffle : ShuffleId) (loc : Loc)
    → AreSoundStages d.stages d.tracker → (stage_at d s).target ≡ targets.Map shuffle
    → (k ≡ s → ⊥)
    → SameOutputs d.tracker (registered d.tracker (block_of shuffle q) loc) (stage_at d k)
other_outputs d k s q shuffle loc sound target ne p other is_other =
    (registers_one d.tracker (block_of shuffle q) loc).1 (block_of other p)
    (other_block d k s sound ne p q shuffle other target is_other)
