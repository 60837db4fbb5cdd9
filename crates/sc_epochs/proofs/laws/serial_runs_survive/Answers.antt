use Rattle.sc_epochs.proofs.SerialLemmas as serial
use Rattle.sc_epochs.proofs.laws.serial_runs_survive.Goals as goal

pub returns-clause-begins : goal.returns-clause-begins
returns-clause-begins c = serial.beginnings_come_about

pub returns-clause-reached : goal.returns-clause-reached
returns-clause-reached c = serial.reached_come_about

pub returns-clause-room : goal.returns-clause-room
returns-clause-room c =
    serial.room_suffices c.worlds_stay_sound.ensures.begins c.worlds_stay_sound.ensures.steps

pub returns-clause-serial : goal.returns-clause-serial
returns-clause-serial c =
    serial.serial_runs_survive c.worlds_stay_sound.ensures.begins
    c.worlds_stay_sound.ensures.steps
