-- The files of a world's job: how they stand behind each step, and go on over some.
use Rattle.std.proofs.Common.{◌≡◌, ◌∙◌, ◌≤◌, List, Option, Some, None, IfSome, refl, ap, sym, subst, arith}
use Rattle.sc_base.specs.Outside.{FilesState, IsLaterFiles}
use Rattle.sc_base.specs.Trees.{Path}
use Rattle.sc_base.proofs.ChangeLemmas.{changes-compose, changes-none}
use Rattle.sc_lineage.specs.ScriptData.{WorkData}
use Rattle.sc_staging.specs.Done.{Done, HasFiles}
use Rattle.sc_staging.specs.Laws.{StaysUnderWay}
use Rattle.sc_staging.specs.Outputs.{GoesOnIn, OutputGoes, output_dir, output_files}
use Rattle.sc_staging.specs.declared.outputs.Output.{Output}
use Rattle.sc_jobs.specs.JobData.{JobData}
use Rattle.sc_desk.specs.DeskData.{DeskData}
use Rattle.sc_desk.specs.Files.{CountsGoOn, FilesStand, deeds_of, dir_of_job, part_texts}
use Rattle.sc_desk.proofs.CountLemmas.{counts_same, counts_then}
use Rattle.sc_world.specs.Files.{OutputGoesOn, OutputStands}
use Rattle.sc_world.specs.WorldData.{WorldData}

-- ---- files go on

later_none : (f : FilesState) → IsLaterFiles f f
later_none f =
    record {
      shown = changes-none (λ t u. Unit {0}) f.shown (λ t. tt);
      faults = omega arith;
      clashes = omega arith;
    }

later_then : (a b c : FilesState) → IsLaterFiles a b → IsLaterFiles b c → IsLaterFiles a c
later_then a b c x y =
    let faults : a.faults ≤ b.faults = x.faults in
    let more : b.faults ≤ c.faults = y.faults in
    let clashes : a.clashes ≤ b.clashes = x.clashes in
    let most : b.clashes ≤ c.clashes = y.clashes in
    record {
      shown = changes-compose (λ t u. Unit {0}) (λ t u. Unit {0}) (λ t u. Unit {0}) a.shown
          b.shown c.shown (λ t u v p q. tt) x.shown y.shown;
      faults = omega (arith, faults, more);
      clashes = omega (arith, clashes, most);
    }

in_none : (dir : Option Path) (f : FilesState) → GoesOnIn dir f f
in_none None f = refl
in_none (Some dir) f = changes-none (StaysUnderWay dir) f.shown (λ t opening under. under)

in_then : (dir : Option Path) (a b c : FilesState) → GoesOnIn dir a b → GoesOnIn dir b c
    → GoesOnIn dir a c
in_then None a b c x y = y ∙ x
in_then (Some dir) a b c x y =
    changes-compose (StaysUnderWay dir) (StaysUnderWay dir) (StaysUnderWay dir) a.shown b.shown
    c.shown (λ t u v p q opening under. q opening (p opening under)) x y

pub goes_none : {F : Type 0} (state : F → FilesState) (o : Output F) → OutputGoes state o o
goes_none state o =
    record {
      dir = refl;
      later = later_none (output_files state o);
      goes = in_none (output_dir o) (output_files state o);
    }

pub goes_behind : {F : Type 0} (state : F → FilesState) (a b c : Output F)
    → OutputGoes state a b → OutputGoes state b c → OutputGoes state a c
goes_behind state a b c x y =
    record {
      dir = y.dir ∙ x.dir;
      later = later_then (output_files state a) (output_files state b) (output_files state c)
          x.later y.later;
      goes = in_then (output_dir a) (output_files state a) (output_files state b)
          (output_files state c) x.goes
          (subst (λ dir. GoesOnIn dir (output_files state b) (output_files state c)) x.dir
          y.goes);
    }

-- ---- files that stand

-- files of a job stand where its desk is the same but for what they don't depend on
pub stands_same : (work : WorkData) (d after : DeskData) (dir : Option Path) (files : FilesState)
    → after.job ≡ d.job → deeds_of after.journal.entries ≡ deeds_of d.journal.entries
    → FilesStand work d dir files → FilesStand work after dir files
stands_same work d after dir files job deeds s =
    record {
      opened_for = s.opened_for ∙ ap (λ (j : JobData). dir_of_job work j.goal) (sym job);
      standing = subst (λ (done : List Done). Standing after.job done) (sym deeds)
          (subst (λ (j : JobData). Standing j (deeds_of d.journal.entries)) (sym job) s.standing);
    }
  where
    Standing : JobData → List Done → Type 0
    Standing j done =
        IfSome dir (λ x. IfSome files.shown (HasFiles x (part_texts work j.goal) done))

-- where nothing was written, the files are the same
pub stays_on : {F : Type 0} (work : WorkData) (w after : WorldData) (state : F → FilesState)
    (o : Output F) → CountsGoOn w.desk after.desk (output_files state o) (output_files state o)
    → OutputStands work after state o → OutputGoesOn work w after state o o
stays_on work w after state o counts stands =
    record { goes = goes_none state o; stand = stands; counts = counts }

-- and where nothing was done at all
pub stays_put : {F : Type 0} (work : WorkData) (w : WorldData) (state : F → FilesState)
    (o : Output F) → OutputStands work w state o → OutputGoesOn work w w state o o
stays_put work w state o stands =
    stays_on work w w state o (counts_same w.desk w.desk (output_files state o) refl) stands

pub goes_on_then : {F : Type 0} (work : WorkData) (w mid after : WorldData)
    (state : F → FilesState) (a b c : Output F) → OutputGoesOn work w mid state a b
    → OutputGoesOn work mid after state b c → OutputGoesOn work w after state a c
goes_on_then work w mid after state a b c x y =
    record {
      goes = goes_behind state a b c x.goes y.goes;
      stand = y.stand;
      counts = counts_then w.desk mid.desk after.desk (output_files state a)
          (output_files state b) (output_files state c) x.counts y.counts;
    }

-- where a call changes nothing
pub stays_same : {F : Type 0} (work : WorkData) (w after : WorldData) (state : F → FilesState)
    (o : Output F) → after ≡ w → OutputStands work w state o
    → OutputGoesOn work w after state o o
stays_same work w after state o same stands =
    subst (λ (x : WorldData). OutputGoesOn work w x state o o) (sym same)
    (stays_put work w state o stands)
