use Rattle.sc_staging.specs.Outputs.{output_files}
use Rattle.sc_context.proofs.SerialLemmas.{comes_alone, counted_alone, entered_alone, stands_left}
use Rattle.sc_context.proofs.alone.run_world.Goals as goal

pub finish-requires : goal.finish-requires
finish-requires g c =
    record {
      stand = stands_left g.W.Naming.work c.args.world c.serial.new.self
          c.into_parts-desk.result.0 g.F.Files.state c.args.output c.serial.new.output
          c.into_parts-desk.ensures.desk c.serial.ensures.files;
    }

pub returns-clause-went : goal.returns-clause-went
returns-clause-went g c = λ o from.
    c.finish.ensures.went o
    (comes_alone g.W.Naming.work c.args.world c.serial.new.self c.into_parts-desk.result.0
    g.F.Files.state c.args.output c.serial.new.output c.into_parts-desk.ensures.desk
    c.serial.ensures.same c.serial.ensures.files o from)

pub returns-clause-drivers : goal.returns-clause-drivers
returns-clause-drivers g c =
    entered_alone g.W.Naming.work c.args.world c.serial.new.self c.into_parts-desk.result.0
    g.F.Files.state c.args.output c.serial.new.output c.into_parts-desk.ensures.desk
    c.finish.result.history.entries.items c.requires.none
    (c.entries_are_the_drivers.ensures g.W.Naming.work c.args.world c.serial.new.self
    c.serial.ensures.reaches)
    c.finish.ensures.entries

pub returns-clause-counted : goal.returns-clause-counted
returns-clause-counted g c =
    c.finish.ensures.counted (output_files g.F.Files.state c.args.output)
    (counted_alone g.W.Naming.work c.args.world c.serial.new.self c.into_parts-desk.result.0
    g.F.Files.state c.args.output c.serial.new.output c.into_parts-desk.ensures.desk
    c.requires.none c.serial.ensures.files)
