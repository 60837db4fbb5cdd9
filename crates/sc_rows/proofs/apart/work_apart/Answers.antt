use Rattle.std.proofs.Common.{◌∙◌, ◌≤◌, ℕ, All, List, ap, length, map, rules, subst, sym, vec_capacity}
use Rattle.std.proofs.lemmas.List.{with_items_is}
use Rattle.sc_exec.specs.Crews.{IsFreshMember, worker_of}
use Rattle.sc_exec.specs.Workers.{AreInPlace, HasCause}
use Rattle.sc_exec.specs.declared.workers.Worker.{Worker}
use Rattle.sc_exec.proofs.CrewLemmas.{fresh_members, length_map, worked_causes, worked_places}
use Rattle.sc_rows.proofs.apart.work_apart.Goals as goal

pub employ_apart-requires-clause-fresh : goal.employ_apart-requires-clause-fresh
employ_apart-requires-clause-fresh g c κs lives =
    subst (λ ms. All (IsFreshMember g.W.Naming.work.limits.executors) ms)
    (sym c.deref_mut.ensures.value)
    (fresh_members g.W.Naming.work.limits.executors c.enlist-members.result.items
    c.args.workers.items c.enlist-members.ensures.workers c.requires.fresh
    c.enlist-members.ensures.marked)

pub dismiss-requires-clause-room : goal.dismiss-requires-clause-room
dismiss-requires-clause-room g c =
    let same = with_items_is c.enlist-members.result c.employ_apart.new.members
    (c.employ_apart.auto.members ∙ c.deref_mut.ensures.len) in
    let are = ap (map worker_of) c.deref_mut.ensures.value ∙ c.enlist-members.ensures.workers in
    let room : length c.args.workers.items ≤ vec_capacity c.expect-room.result = search rules in
    subst (λ (n : ℕ). n ≤ vec_capacity c.expect-room.result)
    (sym (ap length same ∙ c.employ_apart.ensures.worked.many ∙ sym (length_map worker_of _)
    ∙ ap length are))
    room

pub returns-clause-worked : goal.returns-clause-worked
returns-clause-worked g c =
    let same = with_items_is c.enlist-members.result c.employ_apart.new.members
    (c.employ_apart.auto.members ∙ c.deref_mut.ensures.len) in
    subst (λ (ws : List Worker). All (HasCause g.W.Naming.work) ws)
    (sym (c.dismiss.ensures ∙ ap (map worker_of) same))
    (worked_causes g.W.Naming.work _ c.employ_apart.new.members c.employ_apart.ensures.worked)

pub returns-clause-places : goal.returns-clause-places
returns-clause-places g c =
    let same = with_items_is c.enlist-members.result c.employ_apart.new.members
    (c.employ_apart.auto.members ∙ c.deref_mut.ensures.len) in
    subst (λ (ws : List Worker). AreInPlace g.W.Naming.work.limits.executors ws)
    (sym (c.dismiss.ensures ∙ ap (map worker_of) same))
    (worked_places g.W.Naming.work _ c.employ_apart.new.members c.employ_apart.ensures.worked
    g.W.Naming.work.limits.executors
    (subst (λ (ws : List Worker). AreInPlace g.W.Naming.work.limits.executors ws)
    (sym (ap (map worker_of) c.deref_mut.ensures.value ∙ c.enlist-members.ensures.workers))
    c.requires.places))
