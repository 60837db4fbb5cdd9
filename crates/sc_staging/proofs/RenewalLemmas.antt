-- A staging area that is removed and made anew.
use Rattle.std.proofs.Common.{◌≡◌, ◌∙◌, ◌&&◌, Bool, true, false, true≢false, not, inl, inr, refl, ap, sym, subst}
use Rattle.std.specs.Prelude.{Option, Some, None}
use Rattle.sc_base.specs.Outside.{FilesState, Changes}
use Rattle.sc_base.specs.Trees.{Tree, Path, has_dir, with_dir, without_tree}
use Rattle.sc_base.proofs.ChangeLemmas.{changes-after, changes-compose}
use Rattle.sc_base.proofs.PathLemmas.{is_in-itself}
use Rattle.sc_base.proofs.TreeLemmas.{has_dir-with_dir, has_dir-without_tree}
use Rattle.sc_files.specs.Calls.{IsMakeCause, IsRemoveCause}
use Rattle.sc_files.specs.declared.files.FileAnswer.TheVariants as ends
use Rattle.sc_files.specs.declared.files.MakeAnswer.TheVariants as makes
use Rattle.sc_output.specs.Calls.{IsNotDone}
use Rattle.sc_output.specs.Names.{staging_path}
use Rattle.sc_output.proofs.CallLemmas.{not_done-then}
use Rattle.sc_output.proofs.ReadyLemmas.{has_dir-cleared}
use Rattle.sc_staging.specs.Renewal.{IsHalfRenewed, cleared_tree, renewed_tree}
use Rattle.sc_staging.specs.StagingData.{AreThere, IsSoundStaging, staging_data}
use Rattle.sc_staging.proofs.OpeningLemmas.{place-with_staging}

pub renewed-there : (dir : Path) (t : Tree) → AreThere dir t → AreThere dir (renewed_tree dir t)
renewed-there dir t there = record {
  place = place-with_staging (cleared_tree dir t) dir ∙ has_dir-cleared t dir there.place;
  staging = has_dir-with_dir (cleared_tree dir t) (staging_path dir);
}

-- what was made anew is sound
pub renewed-sound : (dir area : Path) (s u v : FilesState)
    → IsSoundStaging area (staging_data dir s) → IsRemoveCause s u area ends.Done
    → IsMakeCause u v area makes.Made → IsSoundStaging area (staging_data dir v)
renewed-sound dir area s u v sound one two = record {
  named = sound.named;
  there = changes-after (λ t k. k ≡ renewed_tree dir t) (AreThere dir) (AreThere dir)
      s.shown v.shown
      (λ t k there is. subst (AreThere dir) (sym is) (renewed-there dir t there)) sound.there
      (changes-compose _ _ (λ t k. k ≡ renewed_tree dir t) s.shown u.shown v.shown
      (λ t k l x y. y.1 ∙ ap (λ m. with_dir m area) x
      ∙ ap (λ p. with_dir (without_tree t p) p) sound.named) one.1 two.1);
}

and-false : (a : Bool) → (a && false) ≡ false
and-false true = refl
and-false false = refl

-- a directory that was removed isn't there
removed-not_there : (t : Tree) (area : Path) → has_dir (without_tree t area) area ≡ true → ⊥
removed-not_there t area there =
    true≢false (sym there ∙ has_dir-without_tree t area area
    ∙ ap (λ b. has_dir t area && not b) (is_in-itself area) ∙ and-false (has_dir t area))

-- so a clash shows that the files don't
clash-unseen : (area : Path) (a b c : Option Tree)
    → Changes (λ t u. u ≡ without_tree t area) a b
    → Changes (λ t u. (has_dir t area ≡ true) × (u ≡ t)) b c → b ≡ None
clash-unseen area None None c one two = refl
clash-unseen area None (Some u) c one two = absurd one
clash-unseen area (Some t) None c one two = absurd one
clash-unseen area (Some t) (Some u) None one two = absurd two
clash-unseen area (Some t) (Some u) (Some v) one two =
    absurd (removed-not_there t area (subst (λ k. has_dir k area ≡ true) one two.0))

-- a staging area that is there again
pub renewed-clash : (dir area : Path) (s u v : FilesState) → area ≡ staging_path dir
    → IsRemoveCause s u area ends.Done → IsMakeCause u v area makes.Exists
    → (area ≡ staging_path dir) × IsNotDone s v × Changes (IsHalfRenewed dir) s.shown v.shown
renewed-clash dir area s u v is one two = (
  is,
  not_done-then _ s u v one.0 one.1
      (inr (clash-unseen area s.shown u.shown v.shown one.1 two.1, two.0.clashed)),
  changes-compose _ _ (IsHalfRenewed dir) s.shown u.shown v.shown
      (λ t k l x y. inr (inl (y.1 ∙ x ∙ ap (without_tree t) is))) one.1 two.1,
)
