-- The five buffers as the code lends them, by reference. Assumes nothing.
use Rattle.std.specs.Prelude.{◌≡◌}
use Rattle.frame.specs.Buffers.{Buffers, five}
use Rattle.frame.specs.declared.buffers.Lent.{Lent}

-- what stands in them
abbrev pub lent_as : Lent → Buffers
lent_as b = five b.pulse1.now b.pulse2.now b.wave.now b.noise.now b.all.now

-- a and b lend the same five
pub record SameBuffers (a b : Lent) : Type 0 where
  pub pulse1 : b.pulse1.ghost_name ≡ a.pulse1.ghost_name
  pub pulse2 : b.pulse2.ghost_name ≡ a.pulse2.ghost_name
  pub wave : b.wave.ghost_name ≡ a.wave.ghost_name
  pub noise : b.noise.ghost_name ≡ a.noise.ghost_name
  pub all : b.all.ghost_name ≡ a.all.ghost_name
