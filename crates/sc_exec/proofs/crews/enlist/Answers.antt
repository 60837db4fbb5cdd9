use Rattle.std.proofs.Common.{◌≡◌, ◌∙◌, ◌≤◌, ◌+◌, ◌++◌, ℕ, All, List, [], ◌∷◌, ap, length, length-append, map, subst, sym}
use Rattle.std.proofs.lemmas.List.{map-append}
use Rattle.std.proofs.lemmas.List.Elements.{All-push}
use Rattle.sc_exec.specs.Crews.{IsMarked, worker_of}
use Rattle.sc_exec.specs.declared.workers.Worker.{Worker}
use Rattle.sc_exec.proofs.CrewLemmas.{given_place}
use Rattle.sc_exec.proofs.crews.enlist.Goals as goal

pub hire-poster-requires-clause-made : goal.hire-poster-requires-clause-made
hire-poster-requires-clause-made g c =
    given_place g.W.Naming.work.limits.executors c.args.workers.items _ c.in-Some.worker
    c.into_iter-worker-iterator.result c.loop-worker.worker-iterator c.next.new.self
    c.into_iter-worker-iterator.ensures.into_iter_gives.0 c.loop-worker.yielded_by
    c.in-Some.ensures.steps.0 c.requires.places
    ∙ sym c.loop-worker.invariant.4

pub loop-worker-preserved : goal.loop-worker-preserved
loop-worker-preserved g c =
    let i = c.loop-worker.invariant in
    let w = c.in-Some.worker in
    let place : w.log.exec ≡ length c.loop-worker.yielded =
    given_place g.W.Naming.work.limits.executors c.args.workers.items _ w
    c.into_iter-worker-iterator.result c.loop-worker.worker-iterator c.next.new.self
    c.into_iter-worker-iterator.ensures.into_iter_gives.0 c.loop-worker.yielded_by
    c.in-Some.ensures.steps.0 c.requires.places in (
      tt,
      tt,
      c.hire-poster.ensures.pass,
      c.hire-poster.ensures.driver,
      c.hire-poster.ensures.made ∙ ap (λ (n : ℕ). n + 1) place
          ∙ sym (length-append c.loop-worker.yielded (w ∷ [])),
      ap (map worker_of) c.push_reserved.ensures.items
          ∙ map-append worker_of c.loop-worker.members.items _
          ∙ ap (λ (ws : List Worker). ws ++ w ∷ []) i.5,
      subst (λ ms. All IsMarked ms) (sym c.push_reserved.ensures.items)
          (All-push IsMarked c.loop-worker.members.items _ i.6 c.hire-poster.ensures.exec),
      subst (λ (n : ℕ). length c.args.workers.items ≤ n)
          (sym c.push_reserved.ensures.capacity) i.7,
    )
