-- What was read of a task's blocks.
use Rattle.std.proofs.Common.{◌≡◌, ◌∙◌, ℕ, zero, suc, List, [], ◌∷◌, ◌++◌, Option, Some, None, length, refl, ap, sym, subst, append_assoc, append-nil}
use Rattle.std.specs.List.{AllZip, slice_get}
use Rattle.std.specs.Option.{IfSome}
use Rattle.sc_value.specs.Datum.{Datum}
use Rattle.sc_ids.specs.declared.blocks.BlockId.{BlockId}
use Rattle.sc_lineage.specs.ScriptData.{WorkData}
use Rattle.sc_dag.specs.Outputs.{block_of}
use Rattle.sc_store.specs.OwnBlocks.{IsOwnBlock}
use Rattle.sc_net.specs.Tasks.{TaskData, blocks_of_task}
use Rattle.sc_task.specs.Cursors.{IsPlace, blocks_from}
use Rattle.sc_task.specs.States.{AreOf, HasRead, HasReadAll}
use Rattle.sc_task.specs.declared.cursors.Cursor.{Cursor}

module _ {A B : Type 0} (R : A → B → Type 0) where
  pub zip_push : (xs : List A) (ys : List B) (x : A) (y : B) → AllZip R xs ys → R x y
      → AllZip R (xs ++ x ∷ []) (ys ++ y ∷ [])
  zip_push [] [] x y all here = (here, tt)
  zip_push [] (b ∷ ys) x y all here = absurd all
  zip_push (a ∷ xs) [] x y all here = absurd all
  zip_push (a ∷ xs) (b ∷ ys) x y all here = (all.0, zip_push xs ys x y all.1 here)

  pub zip_length : (xs : List A) (ys : List B) → AllZip R xs ys → length xs ≡ length ys
  zip_length [] [] all = refl
  zip_length [] (b ∷ ys) all = absurd all
  zip_length (a ∷ xs) [] all = absurd all
  zip_length (a ∷ xs) (b ∷ ys) all = ap suc (zip_length xs ys all.1)

module _ {A : Type 0} where
  -- what stands at a place behind some items
  pub get_behind : (xs : List A) (y : A) (ys : List A)
      → slice_get (xs ++ y ∷ ys) (length xs) ≡ Some y
  get_behind [] y ys = refl
  get_behind (x ∷ xs) y ys = get_behind xs y ys

  pub get_past : (xs : List A) → slice_get xs (length xs) ≡ None
  get_past [] = refl
  get_past (x ∷ xs) = get_past xs

  -- lists of one length end at the same place
  pub none_beside : {B : Type 0} (xs : List A) (ys : List B) (n : ℕ) → length ys ≡ length xs
      → slice_get ys n ≡ None → slice_get xs n ≡ None
  none_beside [] ys n same none = refl
  none_beside (x ∷ xs) [] n same none = absurd (cc)
  none_beside (x ∷ xs) (y ∷ ys) zero same none = absurd (cc)
  none_beside (x ∷ xs) (y ∷ ys) (suc n) same none =
      let e : length ys ≡ length xs = cc in none_beside xs ys n e none

-- one more block was read
pub one_more_read : (work : WorkData) (t : TaskData) (got : List (List (List Datum)))
    (c : Cursor) (next : Option Cursor) (output : List (List Datum))
    → HasRead work t got (Some c) → IsOwnBlock work (block_of c.shuffle c.map) output
    → block_of c.shuffle c.map ∷ blocks_from t next ≡ blocks_from t (Some c)
    → IfSome next IsPlace → HasRead work t (got ++ output ∷ []) next
one_more_read work t got c next output has own behind place =
    let block = block_of c.shuffle c.map in
    record {
      before = has.before ++ block ∷ [];
      all =
          has.all ∙ ap (λ rest. has.before ++ rest) (sym behind)
          ∙ sym (append_assoc has.before (block ∷ []) (blocks_from t next));
      own =
          zip_push (IsOwnBlock work) has.before got block output has.own own;
      place = place;
    }

-- the block that is read next
pub next_block : (work : WorkData) (t : TaskData) (got : List (List (List Datum)))
    (c : Cursor) (rest : List BlockId) → HasRead work t got (Some c)
    → block_of c.shuffle c.map ∷ rest ≡ blocks_from t (Some c)
    → slice_get (blocks_of_task t) (length got) ≡ Some (block_of c.shuffle c.map)
next_block work t got c rest has starts =
    let block = block_of c.shuffle c.map in
    let all : blocks_of_task t ≡ has.before ++ block ∷ rest =
    has.all ∙ ap (λ others. has.before ++ others) (sym starts) in
    let count = zip_length (IsOwnBlock work) has.before got has.own in
    ap (λ bs. slice_get bs (length got)) all
    ∙ ap (λ n. slice_get (has.before ++ block ∷ rest) n) (sym count)
    ∙ get_behind has.before block rest

-- without a cursor all was read
pub all_before : (work : WorkData) (t : TaskData) (got : List (List (List Datum)))
    → HasRead work t got None → HasReadAll work t got
all_before work t got has =
    let P = λ (bs : List BlockId). AreOf work bs got in
    subst P (sym (has.all ∙ append-nil has.before)) has.own

pub no_block : (work : WorkData) (t : TaskData) (got : List (List (List Datum)))
    → HasRead work t got None → slice_get (blocks_of_task t) (length got) ≡ None
no_block work t got has =
    let count = zip_length (IsOwnBlock work) (blocks_of_task t) got (all_before work t got has) in
    ap (λ n. slice_get (blocks_of_task t) n) (sym count) ∙ get_past (blocks_of_task t)
