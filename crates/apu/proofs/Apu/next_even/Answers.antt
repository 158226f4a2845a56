-- The next position is the definition's. Assumes nothing.
use Rattle.clocks.proofs.Positions.{read_back, next_read}
use Rattle.apu.proofs.Apu.next_even.Goals as goal

pub next_position-requires : goal.next_position-requires
next_position-requires c = rw (read_back c.args.self.sequencer_position c.requires.position) c.requires.position

pub returns : goal.returns
returns c = rw (next_read c.args.self.sequencer_position _ c.requires.position c.next_position.ensures)
