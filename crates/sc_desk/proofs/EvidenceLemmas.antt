-- The evidence of one entry more.
use Rattle.std.proofs.Common.{◌≡◌, ◌++◌, List, [], ◌∷◌, refl, sym, subst}
use Rattle.sc_lineage.specs.ScriptData.{WorkData}
use Rattle.sc_core.specs.CoreData.{CoreData}
use Rattle.sc_core.specs.Journals.{Replays}
use Rattle.sc_core.specs.Sound.{IsSoundCore}
use Rattle.sc_core.specs.Steps.{Steps}
use Rattle.sc_core.specs.declared.entries.Entry.{Entry}
use Rattle.sc_core.proofs.LawLemmas.{replays_agree}
use Rattle.sc_jobs.specs.JobData.{JobData}
use Rattle.sc_desk.specs.Sound.{AreEvident, IsEvident}

-- the last entry of a journal, and what its evidence and that of all before it give
record HasLast (work : WorkData) (job : JobData) (c : CoreData) (entries : List Entry) (e : Entry)
    (end : CoreData) (is : Replays c (entries ++ e ∷ []) end) : Type 0 where
  mid : CoreData
  left : Replays c entries mid
  step : Steps mid e.event e.answer end
  evident : AreEvident work job c entries mid left
      → IsEvident work job mid e.event e.answer
      → AreEvident work job c (entries ++ e ∷ []) end is

has_last :
    (work : WorkData) (job : JobData) (c : CoreData) (entries : List Entry) (e : Entry)
    (end : CoreData) (is : Replays c (entries ++ e ∷ []) end)
    → HasLast work job c entries e end is
has_last work job c [] e end (mid, step, rest) =
    record {
      mid = c;
      left = refl;
      step = subst (λ x. Steps c e.event e.answer x) (sym rest) step;
      evident = λ h k. (k, tt);
    }
has_last work job c (x ∷ entries) e end (mid, step, rest) =
    let l = has_last work job mid entries e end rest in
    record {
      mid = l.mid;
      left = (mid, step, l.left);
      step = l.step;
      evident = λ h k. (h.0, l.evident h.1 k);
    }

-- the evidence of a journal that leaves a state, whichever way it is read
abbrev pub IsAllEvident : WorkData → JobData → CoreData → List Entry → CoreData → Type 0
IsAllEvident work job c entries end =
    (is : Replays c entries end) → AreEvident work job c entries end is

-- one entry more has its evidence by the state before it
pub evident_more :
    (work : WorkData) (job : JobData) (c end after : CoreData) (entries : List Entry) (e : Entry)
    → IsSoundCore c → Replays c entries end → IsAllEvident work job c entries end
    → IsEvident work job end e.event e.answer
    → IsAllEvident work job c (entries ++ e ∷ []) after
evident_more work job c end after entries e sound replays all evident is =
    l.evident
    (subst (λ m. IsAllEvident work job c entries m) (sym same) all l.left)
    (subst (λ (m : CoreData). IsEvident work job m e.event e.answer) (sym same) evident)
  where
    l : HasLast work job c entries e after is
    l = has_last work job c entries e after is

    same : l.mid ≡ end
    same = replays_agree c l.mid end entries sound l.left replays

-- the same of parts that are the same
pub evident_as :
    (work : WorkData) (job : JobData) (c d end last : CoreData) (entries others : List Entry)
    → d ≡ c → others ≡ entries → last ≡ end → IsAllEvident work job c entries end
    → IsAllEvident work job d others last
evident_as work job c d end last entries others first es final h = rw (first, es, final) h
