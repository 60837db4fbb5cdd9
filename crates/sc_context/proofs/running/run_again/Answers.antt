use Rattle.std.proofs.Common.{inl, inr, refl, subst, sym}
use Rattle.std.specs.Prelude.{IfOk}
use Rattle.std.specs.Option.{option_map}
use Rattle.sc_core.specs.Openings.{unregistered_core}
use Rattle.sc_staging.specs.Outputs.{output_dir, output_files}
use Rattle.sc_desk.specs.Begins.{BeginsAgain}
use Rattle.sc_desk.specs.DeskData.{DeskData}
use Rattle.sc_desk.specs.Files.{FilesStand}
use Rattle.sc_context.proofs.AloneLemmas.{again_stands, again_unregistered}
use Rattle.sc_context.proofs.RunningLemmas.{begins_again, gives_up, renewed_again}
use Rattle.sc_context.proofs.running.run_again.Goals as goal

pub again-history-requires-clause-many : goal.again-history-requires-clause-many
again-history-requires-clause-many g c = c.requires.many

pub again-history-requires-clause-fits : goal.again-history-requires-clause-fits
again-history-requires-clause-fits g c = c.requires.fits

pub again-history-requires-clause-live : goal.again-history-requires-clause-live
again-history-requires-clause-live g c = c.requires.live

pub run_renewed-requires-clause-begun : goal.run_renewed-requires-clause-begun
run_renewed-requires-clause-begun g c =
    let last = option_map (λ l. l.now) c.args.last in
    let again = subst
    (λ r. IfOk r (λ (d : DeskData).
    BeginsAgain g.W.Naming.work c.args.given.desk last c.args.given.ordered d))
    c.in-Ok.is c.again-history.ensures.begun in
    let begun = begins_again g.W.Naming.work last c.args.given.ordered c.args.given.desk
    c.in-Ok.desk c.requires.from again in
    (begun.0, option_map unregistered_core last, begun.1, begun.2)

pub run_renewed-requires-clause-unregistered : goal.run_renewed-requires-clause-unregistered
run_renewed-requires-clause-unregistered g c =
    let last = option_map (λ l. l.now) c.args.last in
    let again = subst
    (λ r. IfOk r (λ (d : DeskData).
    BeginsAgain g.W.Naming.work c.args.given.desk last c.args.given.ordered d))
    c.in-Ok.is c.again-history.ensures.begun in
    let begun = begins_again g.W.Naming.work last c.args.given.ordered c.args.given.desk
    c.in-Ok.desk c.requires.from again in
    again_unregistered g.W.Naming.work begun.0 last begun.1 c.in-Ok.desk begun.2

pub run_renewed-requires-clause-stand : goal.run_renewed-requires-clause-stand
run_renewed-requires-clause-stand g c =
    let work = g.W.Naming.work in
    let state = g.F.Files.state in
    let last = option_map (λ l. l.now) c.args.last in
    let again = subst
    (λ r. IfOk r (λ (d : DeskData).
    BeginsAgain work c.args.given.desk last c.args.given.ordered d))
    c.in-Ok.is c.again-history.ensures.begun in
    let output = c.in-Ok-renew_output.output in
    let renewed = c.in-Ok-renew_output.ensures.renewed in
    subst (λ dir. FilesStand work c.in-Ok.desk dir (output_files state output))
    (sym renewed.dir)
    (again_stands c.laws_of_files.ensures work c.args.given.desk c.in-Ok.desk last
    c.args.given.ordered (output_dir c.args.output) (output_files state c.args.output)
    (output_files state output) again c.requires.stand renewed.renewed)

pub returns-in_default : goal.returns-in_default
returns-in_default g c =
    record {
      again = (
        gives_up g.W.Naming.work c.args.given.desk _ c.again-history.ensures.opening
            c.again-history.ensures.entries c.again-history.ensures.replays
            (c.again-history.ensures.evidence c.again-history.ensures.replays)
            c.requires.stopped c.requires.cause,
        inl (refl, inl c.close.ensures),
      );
    }

pub returns-in-Ok-renew_output : goal.returns-in-Ok-renew_output
returns-in-Ok-renew_output g c =
    let work = g.W.Naming.work in
    let state = g.F.Files.state in
    let last = option_map (λ l. l.now) c.args.last in
    let again = subst
    (λ r. IfOk r (λ (d : DeskData).
    BeginsAgain work c.args.given.desk last c.args.given.ordered d))
    c.in-Ok.is c.again-history.ensures.begun in
    let output = c.in-Ok-renew_output.output in
    let renewed = c.in-Ok-renew_output.ensures.renewed in
    record {
      again = renewed_again work state c.args.given.desk c.in-Ok.desk last c.args.given.ordered
          (output_dir c.args.output) (output_dir output) (output_files state c.args.output)
          (output_files state output) _ c.run_renewed.result
          (gives_up work c.args.given.desk _ c.again-history.ensures.opening
          c.again-history.ensures.entries c.again-history.ensures.replays
          (c.again-history.ensures.evidence c.again-history.ensures.replays) c.requires.stopped
          c.requires.cause)
          again renewed.dir renewed.renewed
          (again_stands c.laws_of_files.ensures work c.args.given.desk c.in-Ok.desk last
          c.args.given.ordered (output_dir c.args.output) (output_files state c.args.output)
          (output_files state output) again c.requires.stand renewed.renewed)
          c.run_renewed.ensures.runs;
    }

pub returns-in-Err : goal.returns-in-Err
returns-in-Err g c =
    record {
      again = (
        gives_up g.W.Naming.work c.args.given.desk _ c.again-history.ensures.opening
            c.again-history.ensures.entries c.again-history.ensures.replays
            (c.again-history.ensures.evidence c.again-history.ensures.replays)
            c.requires.stopped c.requires.cause,
        inr c.in-Err.ensures.refused,
      );
    }
