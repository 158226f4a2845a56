-- What the test for room tells: every buffer has room. Assumes nothing.
use Prim.Native.Nat.{ℕ, ◌+◌}
use mathlib.Core.Path.{◌≡◌}
use mathlib.Core.Bool.{true}
use lib.ListN.{length}
use borrow.Author.Tests.{leb-true}
use Rattle.ground.proofs.Cases.{and_left, and_right}
use Rattle.frame.specs.Buffers.{Buffers, room_in, room_in_all, room_for, Room}

pub room_of : (place : ℕ) (b : Buffers) → room_for place b ≡ true → Room place b
unfolding room_in room_in_all
room_of place b e =
    let e2 = and_right (room_in (length b.pulse1) place) _ e in
    let e3 = and_right (room_in (length b.pulse2) place) _ e2 in
    let e4 = and_right (room_in (length b.wave) place) _ e3 in
    record {
      pulse1 = leb-true (place + 2) (length b.pulse1) (and_left (room_in (length b.pulse1) place) _ e);
      pulse2 = leb-true (place + 2) (length b.pulse2) (and_left (room_in (length b.pulse2) place) _ e2);
      wave = leb-true (place + 2) (length b.wave) (and_left (room_in (length b.wave) place) _ e3);
      noise = leb-true (place + 2) (length b.noise) (and_left (room_in (length b.noise) place) _ e4);
      all = leb-true (place + 2) (length b.all) (and_right (room_in (length b.noise) place) _ e4);
    }
