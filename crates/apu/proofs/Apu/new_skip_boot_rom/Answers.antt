-- What is written over the fresh unit is the definition's, by what the calls ensure. Assumes nothing.
use Rattle.apu.specs.Start.{skipped}
use Rattle.apu.proofs.Given.{skipped_given}
use Rattle.apu.proofs.Apu.new_skip_boot_rom.Goals as goal

pub returns : goal.returns
unfolding skipped
returns c =
    let length = c.write_sound_length-next in
    let on = c.set_enable-next in
    let duty = c.write_pattern_duty in
    let envelope = c.write_envelope_register-next in
    let fresh = c.new-next in
    record {
      value = rw (length.ensures, on.ensures, duty.ensures, envelope.ensures, fresh.ensures.value);
      held = skipped_given c.args.dmg (rw (length.ensures, on.ensures, duty.ensures, envelope.ensures, fresh.ensures.value));
    }
