-- The numbers of stages: which of them are new, and that they rise.
use Rattle.std.proofs.Common.{◌≡◌, ◌∙◌, ℕ, ◌+◌, ◌<◌, ◌≤◌, Bool, true, false, cond, if◌then◌else◌, nat_le, Option, Some, None, List, [], ◌∷◌, ◌++◌, filter, All, refl, ap, ap₂, arith}
use Rattle.std.proofs.lemmas.Bool.{le-leb, lt-leb}
use Rattle.std.proofs.lemmas.List.Elements.{All-cons, All-head, All-nil, All-tail}
use Rattle.std.proofs.lemmas.List.Kept.{AllPairs-cons}
use Rattle.std.specs.List.{AllPairs, AllZip, cons_option, filter_map}
use Rattle.std.specs.Option.{option_map}
use Rattle.sc_ids.specs.Graphs.{StageData}
use Rattle.sc_ids.specs.declared.blocks.Target.{Target}
use Rattle.sc_ids.specs.declared.blocks.Target.TheVariants as targets
use Rattle.sc_lineage.specs.ScriptData.{WorkData}
use Rattle.sc_stagecut.specs.Carrying.{new_number, number_behind, shuffle_of}
use Rattle.sc_stagecut.specs.Cuts.{IsMapStage}
use Rattle.sc_stagecut.specs.Numbering.{numbered}
use Rattle.sc_stagecut.specs.declared.carried.Numbered.{Numbered}
use Rattle.sc_stagecut.proofs.OrderLemmas.{AllPairs-head, AllPairs-tail}

-- the number behind a last stage
pub behind_last : (next : ℕ) (maps : List StageData) (last : StageData)
    → number_behind next (maps ++ last ∷ []) ≡ last.id + 1
behind_last next [] last = refl
behind_last next (stage ∷ maps) last = behind_last (stage.id + 1) maps last

-- the number of a new map stage is that of its shuffle
new_of_map : (next : ℕ) (n : Numbered) (stage : StageData) → stage.target ≡ targets.Map n.shuffle
    → stage.id ≡ n.stage → new_number next stage ≡ (if nat_le next n.stage then Some n else None)
new_of_map next n stage makes is =
    ap₂ (λ (i : ℕ) (t : Target). if nat_le next i then option_map (λ s. numbered s i) (shuffle_of t)
    else None) is makes

-- no number, whichever way
abbrev no_number : Option Numbered
no_number = None

neither : (b : Bool) → (if b then no_number else no_number) ≡ no_number
neither true = refl
neither false = refl

-- a result stage has none
pub new_of_result : (next node : ℕ) (stage : StageData) → stage.target ≡ targets.Result node
    → new_number next stage ≡ None
new_of_result next node stage makes =
    ap (λ (t : Target). if nat_le next stage.id then option_map (λ s. numbered s stage.id)
    (shuffle_of t) else None) makes
    ∙ neither (nat_le next stage.id)

-- numbers below a bound, and numbers from it on, among those from it on
pub none_from : (next : ℕ) (ns : List Numbered) → All (λ n. n.stage < next) ns
    → filter (λ n. nat_le next n.stage) ns ≡ []
none_from next [] all = refl
none_from next (n ∷ ns) all =
    let P : Numbered → Type 0 = λ x. x.stage < next in
    ap (λ (b : Bool). cond b (n ∷ filter (λ x. nat_le next x.stage) ns)
    (filter (λ x. nat_le next x.stage) ns)) (lt-leb next n.stage (All-head P n ns all))
    ∙ none_from next ns (All-tail P n ns all)

pub all_from : (next : ℕ) (ns : List Numbered) → All (λ n. next ≤ n.stage) ns
    → filter (λ n. nat_le next n.stage) ns ≡ ns
all_from next [] all = refl
all_from next (n ∷ ns) all =
    let P : Numbered → Type 0 = λ x. next ≤ x.stage in
    ap (λ (b : Bool). cond b (n ∷ filter (λ x. nat_le next x.stage) ns)
    (filter (λ x. nat_le next x.stage) ns)) (le-leb next n.stage (All-head P n ns all))
    ∙ ap (λ ms. n ∷ ms) (all_from next ns (All-tail P n ns all))

module _ (work : WorkData) (numbers : List Numbered) (next : ℕ) where
  -- the numbers of new map stages
  pub new_of_maps : (ns : List Numbered) (maps : List StageData)
      → AllZip (IsMapStage work numbers) ns maps
      → filter_map (new_number next) maps ≡ filter (λ n. nat_le next n.stage) ns
  new_of_maps [] [] zip = refl
  new_of_maps [] (stage ∷ maps) zip = absurd zip
  new_of_maps (n ∷ ns) [] zip = absurd zip
  new_of_maps (n ∷ ns) (stage ∷ maps) zip =
      let one = zip.0 in
      ap (λ (o : Option Numbered). cons_option o (filter_map (new_number next) maps))
      (new_of_map next n stage one.makes one.is_numbered)
      ∙ either (nat_le next n.stage) (filter_map (new_number next) maps)
      ∙ ap (λ ms. cond (nat_le next n.stage) (n ∷ ms) ms) (new_of_maps ns maps zip.1)
    where
      either : (b : Bool) (rest : List Numbered)
          → cons_option (if b then Some n else None) rest ≡ cond b (n ∷ rest) rest
      either true rest = refl
      either false rest = refl

  -- map stages rise as their numbers do, and have them
  pub maps_rise : (ns : List Numbered) (maps : List StageData)
      → AllZip (IsMapStage work numbers) ns maps
      → AllPairs (λ m n. m.stage < n.stage) ns → AllPairs (λ a b. a.id < b.id) maps
  maps_rise [] [] zip rising = λ i j d before at. absurd (omega arith)
  maps_rise [] (stage ∷ maps) zip rising = absurd zip
  maps_rise (n ∷ ns) [] zip rising = absurd zip
  maps_rise (n ∷ ns) (stage ∷ maps) zip rising =
      let one = zip.0 in
      AllPairs-cons (λ a b. a.id < b.id) stage maps
      (above ns maps zip.1 (AllPairs-head (λ x y. x.stage < y.stage) n ns rising))
      (maps_rise ns maps zip.1 (AllPairs-tail (λ x y. x.stage < y.stage) n ns rising))
    where
      above : (ms : List Numbered) (rest : List StageData)
          → AllZip (IsMapStage work numbers) ms rest → All (λ m. n.stage < m.stage) ms
          → All (λ b. stage.id < b.id) rest
      above [] [] zipped all = All-nil (λ b. stage.id < b.id)
      above [] (b ∷ rest) zipped all = absurd zipped
      above (m ∷ ms) [] zipped all = absurd zipped
      above (m ∷ ms) (b ∷ rest) zipped all =
          let P : Numbered → Type 0 = λ x. n.stage < x.stage in
          let less = All-head P m ms all in
          let first = zip.0.is_numbered in
          let second = zipped.0.is_numbered in
          All-cons (λ x. stage.id < x.id) b rest (omega (arith, less, first, second))
          (above ms rest zipped.1 (All-tail P m ms all))
