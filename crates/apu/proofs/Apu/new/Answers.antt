-- The groups are fresh, by what their calls ensure. Assumes nothing.
use Rattle.apu.specs.Start.{fresh}
use Rattle.apu.proofs.Given.{new_given}
use Rattle.apu.proofs.Apu.new.Goals as goal

pub returns : goal.returns
unfolding fresh
returns c =
    record {
      value = rw (c.new-4.ensures, c.new-3.ensures, c.new-2.ensures, c.new.ensures);
      held = new_given c.args.dmg (rw (c.new-4.ensures, c.new-3.ensures, c.new-2.ensures, c.new.ensures));
    }
