-- What an attempt reads next.
use Rattle.std.proofs.Common.{ℕ, ◌≡◌, ◌≢◌, ◌<◌, ◌∙◌, All, length, Option, Some, None, slice_get, refl, ap, rules}
use Rattle.std.proofs.lemmas.Option.{slice_get_within}
use Rattle.sc_ids.specs.declared.blocks.BlockId.{BlockId}
use Rattle.sc_ids.specs.declared.blocks.Loc.{Loc}
use Rattle.sc_tracker.specs.declared.outputs.Location.{Location}
use Rattle.sc_tracker.specs.declared.outputs.Location.TheVariants as locations
use Rattle.sc_dag.proofs.Items.{all_at}
use Rattle.sc_net.specs.Tasks.{TaskData, blocks_of_task}
use Rattle.sc_task.specs.Nexts.{LaySomewhere, next_at, next_of}
use Rattle.sc_task.specs.declared.next.Next.TheVariants.{Complete, Missing}
use Rattle.sc_exec.specs.Turns.{LiesOrLay}

-- where something is left to read, fewer blocks were read than the task reads
pub some_left : (t : TaskData) (got : ℕ) → next_of t got ≢ Complete
    → got < length t.hand_out.inputs
some_left t got more = by (slice_get t.hand_out.inputs got) refl
  where
    none : (b : Option BlockId) → next_at b None ≡ Complete
    none None = refl
    none (Some b) = refl

    by : (o : Option Location) → slice_get t.hand_out.inputs got ≡ o
        → got < length t.hand_out.inputs
    by None e =
        absurd (more (ap (next_at (slice_get (blocks_of_task t) got)) e
        ∙ none (slice_get (blocks_of_task t) got)))
    by (Some l) e = slice_get_within t.hand_out.inputs got l e

-- a block that has no location lay somewhere before
pub lay_somewhere : (t : TaskData) (got executors : ℕ) (last : Option Loc)
    → All (LiesOrLay executors) t.hand_out.inputs → next_of t got ≡ Missing last
    → LaySomewhere (next_of t got)
lay_somewhere t got executors last lay e =
    by (slice_get (blocks_of_task t) got) (slice_get t.hand_out.inputs got) refl e
  where
    by : (b : Option BlockId) (o : Option Location) → slice_get t.hand_out.inputs got ≡ o
        → next_at b o ≡ Missing last → LaySomewhere (next_at b o)
    by None o at is = absurd (search (rules, is))
    by (Some b) None at is = absurd (search (rules, is))
    by (Some b) (Some (locations.Here loc)) at is = absurd (search (rules, is))
    by (Some b) (Some (locations.Missing None)) at is =
        absurd (all_at (LiesOrLay executors) t.hand_out.inputs got (locations.Missing None) lay
        at)
    by (Some b) (Some (locations.Missing (Some x))) at is = tt
