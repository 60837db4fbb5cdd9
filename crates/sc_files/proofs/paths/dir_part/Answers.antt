use Rattle.std.proofs.Common.{◌≡◌, ◌-◌, suc, drop, sym, subst, arith}
use Rattle.std.specs.Prelude.{None}
use Rattle.sc_base.specs.Trees.{dir_part}
use Rattle.sc_files.proofs.PathLemmas.{dir_part-slash}
use Rattle.sc_files.proofs.paths.dir_part.Goals as goal

pub returns-then-path-end-eq47 : goal.returns-then-path-end-eq47
returns-then-path-end-eq47 c =
    let path = c.args.path.now in
    let some = c.loop-end-test.true in
    let within = c.loop-end.invariant.within in
    let next : c.loop-end.end ≡ suc (c.loop-end.end - 1) = omega (arith, some) in
    sym (dir_part-slash path (c.loop-end.end - 1) (omega (arith, some, within))
    c.if-path-end-eq47.true
    (subst (λ k. dir_part (drop k path) ≡ None) next c.loop-end.invariant.none))
