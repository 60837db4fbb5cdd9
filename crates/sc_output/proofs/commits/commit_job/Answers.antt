use Rattle.std.proofs.Common.{[], ◌∷◌, map}
use Rattle.std.proofs.lemmas.Result.{err_from_is_err_and}
use Rattle.sc_base.specs.Saves.{success_path}
use Rattle.sc_output.specs.Calls.{remove_call, write_call}
use Rattle.sc_output.specs.Commits.{final_rename}
use Rattle.sc_output.specs.Names.{staging_path}
use Rattle.sc_output.proofs.CallLemmas.{calls-ended, calls-then}
use Rattle.sc_output.proofs.ReadyLemmas.{ready-finish, ready-renames}
use Rattle.sc_output.proofs.commits.commit_job.Goals as goal

pub rename_parts-requires : goal.rename_parts-requires
rename_parts-requires g c =
    ready-renames c.args.dir.now c.args.winners.now (g.F.Files.state c.args.files.now)
    c.requires.winners c.requires.ready

pub returns-in_err-rename_parts-clause-calls : goal.returns-in_err-rename_parts-clause-calls
returns-in_err-rename_parts-clause-calls g c =
    let dir = c.args.dir.now in
    let p = err_from_is_err_and c.from_residual.result c.from_residual.ensures.1 in
    rw (p.1, p.2) (calls-ended (map (final_rename dir) c.args.winners.now)
    (remove_call (staging_path dir) ∷ write_call (success_path dir) [] ∷ [])
    _ _ c.in_err-rename_parts.field-0.0 c.in_err-rename_parts.ensures.calls)

pub finish-requires : goal.finish-requires
finish-requires g c =
    ready-finish c.args.dir.now c.args.winners.now _ _ c.requires.winners c.requires.ready
    c.in_ok-rename_parts.ensures.calls

pub returns-clause-calls : goal.returns-clause-calls
returns-clause-calls g c =
    let dir = c.args.dir.now in
    calls-then (map (final_rename dir) c.args.winners.now)
    (remove_call (staging_path dir) ∷ write_call (success_path dir) [] ∷ [])
    _ _ _ _ c.in_ok-rename_parts.ensures.calls c.finish.ensures.calls
