-- Two directories that are made one behind the other.
use Rattle.std.proofs.Common.{◌≡◌, ◌≢◌, ◌∙◌, inr, true, false, true≢false, ap, sym, subst}
use Rattle.std.specs.Prelude.{Option, Some, None, IfSome}
use Rattle.sc_base.specs.Counts.{Rose}
use Rattle.sc_base.specs.Outside.{FilesState, Changes, IsQuietFiles}
use Rattle.sc_base.specs.Trees.{Tree, Path, has_dir, lies_under, with_dir}
use Rattle.sc_base.proofs.ChangeLemmas.{changes-compose}
use Rattle.sc_base.proofs.PathLemmas.{lies_under-itself}
use Rattle.sc_base.proofs.TreeLemmas.{has_dir-with_dir, has_dir-with_dir_other}
use Rattle.sc_files.specs.Calls.{CountsClash, IsMakeCause}
use Rattle.sc_files.specs.declared.files.MakeAnswer.TheVariants as makes
use Rattle.sc_output.specs.Names.{staging_path}
use Rattle.sc_output.proofs.CallLemmas.{quiet-then}
use Rattle.sc_output.proofs.NameLemmas.{staging-under}
use Rattle.sc_staging.specs.Opening.{IsInTheWay, IsOfSave, IsOpened, opened_tree}
use Rattle.sc_staging.specs.StagingData.{AreThere, IsSoundStaging, staging_data}

-- what a change left
pub changes-leave : (R : Tree → Tree → Type 0) (Q : Tree → Type 0) (a b : Option Tree)
    → ((t u : Tree) → R t u → Q u) → Changes R a b → IfSome b Q
changes-leave R Q None None f x = tt
changes-leave R Q None (Some u) f x = absurd x
changes-leave R Q (Some t) None f x = absurd x
changes-leave R Q (Some t) (Some u) f x = f t u x

-- the staging area is another directory than its own
pub staging-other : (dir : Path) → staging_path dir ≢ dir
staging-other dir e =
    true≢false (sym (staging-under dir) ∙ ap (lies_under dir) e ∙ lies_under-itself dir)

-- the making of the directory is nothing to the staging area, and the other way round
pub staging-with_dir : (t : Tree) (dir : Path)
    → has_dir (with_dir t dir) (staging_path dir) ≡ has_dir t (staging_path dir)
staging-with_dir t dir = has_dir-with_dir_other t dir (staging_path dir) (staging-other dir)

pub place-with_staging : (t : Tree) (dir : Path)
    → has_dir (with_dir t (staging_path dir)) dir ≡ has_dir t dir
place-with_staging t dir =
    has_dir-with_dir_other t (staging_path dir) dir (λ e. staging-other dir (sym e))

pub opened-there : (dir : Path) (t : Tree) → AreThere dir (opened_tree dir t)
opened-there dir t = record {
  place = place-with_staging (with_dir t dir) dir ∙ has_dir-with_dir t dir;
  staging = has_dir-with_dir (with_dir t dir) (staging_path dir);
}

both-opened : (dir area : Path) (t u v : Tree) → area ≡ staging_path dir
    → (has_dir t dir ≡ false) × (u ≡ with_dir t dir)
    → (has_dir u area ≡ false) × (v ≡ with_dir u area) → IsOpened dir t v
both-opened dir area t u v is one two = record {
  place = one.0;
  staging = sym (ap (λ k. has_dir k (staging_path dir)) one.1 ∙ staging-with_dir t dir)
      ∙ ap (has_dir u) (sym is) ∙ two.0;
  made = two.1 ∙ ap (λ k. with_dir k area) one.1 ∙ ap (with_dir (with_dir t dir)) is;
}

-- both were made
pub opened-made : (dir name area : Path) (s u v : FilesState) → name ≡ dir
    → area ≡ staging_path name → IsMakeCause s u name makes.Made
    → IsMakeCause u v area makes.Made
    → (name ≡ dir) × IsQuietFiles s v × Changes (IsOpened dir) s.shown v.shown
opened-made dir name area s u v same is one two = (
  same,
  quiet-then s u v one.0 two.0,
  subst (λ d. Changes (IsOpened d) s.shown v.shown) same
      (changes-compose _ _ (IsOpened name) s.shown u.shown v.shown
      (λ t k l x y. both-opened name area t k l is x y) one.1 two.1),
)

second-there : (dir area : Path) (t u v : Tree) → area ≡ staging_path dir
    → (has_dir t dir ≡ false) × (u ≡ with_dir t dir)
    → (has_dir u area ≡ true) × (v ≡ u) → IsInTheWay dir area t v
second-there dir area t u v is one two =
    inr (
      is,
      one.0,
      sym (ap (λ k. has_dir k (staging_path dir)) one.1 ∙ staging-with_dir t dir)
          ∙ ap (has_dir u) (sym is) ∙ two.0,
      two.1 ∙ one.1,
    )

-- the staging area was there
pub opened-refused : (dir name area : Path) (s u v : FilesState) → name ≡ dir
    → area ≡ staging_path name → IsMakeCause s u name makes.Made
    → IsMakeCause u v area makes.Exists
    → IsOfSave dir area × CountsClash s v × Changes (IsInTheWay dir area) s.shown v.shown
opened-refused dir name area s u v same is one two = (
  inr (is ∙ ap staging_path same),
  record {
    clashed = subst (λ n. Rose n v.clashes) one.0.clashes two.0.clashed;
    faults = two.0.faults ∙ one.0.faults;
  },
  subst (λ d. Changes (IsInTheWay d area) s.shown v.shown) same
      (changes-compose _ _ (IsInTheWay name area) s.shown u.shown v.shown
      (λ t k l x y. second-there name area t k l is x y) one.1 two.1),
)

-- what was opened is sound
pub opened-sound : (name area : Path) (s u v : FilesState) → area ≡ staging_path name
    → IsMakeCause s u name makes.Made → IsMakeCause u v area makes.Made
    → IsSoundStaging area (staging_data name v)
opened-sound name area s u v is one two = record {
  named = is;
  there = changes-leave (IsOpened name) (AreThere name) s.shown v.shown
      (λ t k opened. subst (AreThere name) (sym opened.made) (opened-there name t))
      (changes-compose _ _ (IsOpened name) s.shown u.shown v.shown
      (λ t k l x y. both-opened name area t k l is x y) one.1 two.1);
}
