-- Paths one behind another, and paths without shuffles.
use Rattle.std.proofs.Common.{ℕ, List, [], ◌∷◌, ◌++◌, map, filter, sym, subst}
use Rattle.std.specs.List.{Contains}
use Rattle.sc_lineage.specs.Dependencies.{Dependency, parent_of}
use Rattle.sc_lineage.specs.NodeData.{NodeData}
use Rattle.sc_stagecut.specs.Reaching.{IsReached, IsWithin, Leads, Reaches, dependencies_at, followed_from, is_followed}
use Rattle.sc_stagecut.specs.declared.reads.Follow.TheVariants as follows
use Rattle.sc_stagecut.proofs.DependencyLemmas.{every}
use Rattle.sc_stagecut.proofs.OrderLemmas.{Contains-from_filter, Contains-from_map, Contains-map}

module _ (next : ℕ → List ℕ) where
  leads-append : (a b c : ℕ) (path more : List ℕ) → Leads next a path b → Leads next b more c
      → Leads next a (path ++ more) c
  leads-append a b c [] more first second =
      let P : ℕ → Type 0 = λ k. Leads next k more c in subst P (sym first) second
  leads-append a b c (via ∷ path) more first second =
      (first.0, leads-append via b c path more first.1 second)

  -- what is reached from what is reached
  pub reaches-further : (a b c : ℕ) → Reaches next a b → Reaches next b c → Reaches next a c
  reaches-further a b c first second =
      (first.0 ++ second.0, leads-append a b c first.0 second.0 first.1 second.1)

-- what is within is reached
pub within-reached : (nodes : List NodeData) (a b : ℕ) → IsWithin nodes a b → IsReached nodes a b
within-reached nodes a b is = (is.0, along a is.0 is.1)
  where
    step : (i via : ℕ) → Contains (followed_from follows.Narrow nodes i) via
        → Contains (followed_from follows.Every nodes i) via
    step i via c =
        let ds = dependencies_at nodes i in
        let one = Contains-from_map parent_of (filter (is_followed follows.Narrow) ds) via c in
        let was = Contains-from_filter (is_followed follows.Narrow) ds one.0 one.1 in
        let P : ℕ → Type 0 = λ k. Contains (map parent_of ds) k in
        let Q : List Dependency → Type 0 = λ es. Contains (map parent_of es) via in
        subst Q (sym (every ds)) (subst P one.2 (Contains-map parent_of ds one.0 was.0))

    along : (i : ℕ) (path : List ℕ) → Leads (followed_from follows.Narrow nodes) i path b
        → Leads (followed_from follows.Every nodes) i path b
    along i [] leads = leads
    along i (via ∷ path) leads = (step i via leads.0, along via path leads.1)
