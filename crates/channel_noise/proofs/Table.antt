-- The list of the reloads has the rule's number at each byte, a channel's byte has the channel's reload, and bit 3 makes no difference. Assumes nothing.
use mathlib.Core.Path.{◌≡◌, refl, ap, ◌∙◌, sym}
use Prim.Native.Nat.{ℕ, zero, suc, ◌+◌, ◌*◌, ◌/◌, ◌%◌, ◌≤◌, ◌<◌}
use native.Mathlib.Nat.{add-zero, zero-add, add-suc, suc-add, le_of_suc-le-suc, not-suc-le-zero}
use native.Mathlib.Omega.{arith}
use lib.ListN.{length, get_or}
use Rattle.ground.proofs.Cases.{both_ways}
use Rattle.channel_noise.specs.Noise.{Held, byte_of, reload_of, reload_at}
use Rattle.channel_noise.specs.Reloads.{values_from, reload_list}
use Rattle.channel_noise.specs.declared.noise_channel.NoiseChannel.{NoiseChannel}

values_length : (rule : ℕ → ℕ) (n i : ℕ) → length (values_from rule i n) ≡ n
unfolding values_from
values_length rule zero i = refl
values_length rule (suc n) i = ap suc (values_length rule n (suc i))

value_there : (rule : ℕ → ℕ) (n i k : ℕ) → k < n → get_or (values_from rule i n) k 0 ≡ rule (i + k)
unfolding values_from
value_there rule zero i k h = absurd (not-suc-le-zero h)
value_there rule (suc n) i zero h = ap rule (sym (add-zero i))
value_there rule (suc n) i (suc k) h = value_there rule n (suc i) k (le_of_suc-le-suc h) ∙ ap rule (suc-add i k ∙ sym (add-suc i k))

pub reloads_length : length reload_list ≡ 256
unfolding reload_list
reloads_length = values_length reload_at 256 0

-- "indexed by the FF22 byte"
pub reload_there : (k : ℕ) → k < 256 → get_or reload_list k 0 ≡ reload_at k
unfolding reload_list
reload_there k h = value_there reload_at 256 0 k h ∙ ap reload_at (zero-add k)

-- what FF22 reads as has the channel's reload
pub byte_reload : (n : NoiseChannel) → Held n → reload_at (byte_of n) ≡ reload_of n
unfolding reload_at reload_of
byte_reload n h =
    let s = n.shift_clock_frequency in
    let c = n.divisor_code in
    let code : byte_of n % 8 ≡ c = both_ways (λ (bit : ℕ). (s % 16 * 16 + bit + c % 8) % 8 ≡ c) _ (omega arith) (omega arith) in
    let shift : byte_of n / 16 ≡ s = both_ways (λ (bit : ℕ). (s % 16 * 16 + bit + c % 8) / 16 ≡ s) _ (omega arith) (omega arith) in
    rw (code, shift)

byte_small : (n : NoiseChannel) → byte_of n < 256
byte_small n =
    let s = n.shift_clock_frequency in
    let c = n.divisor_code in
    both_ways (λ (bit : ℕ). s % 16 * 16 + bit + c % 8 < 256) n.step_mode_7_bits (omega arith) (omega arith)

-- so has the list there
pub reload_at_byte : (n : NoiseChannel) → Held n → get_or reload_list (byte_of n) 0 ≡ reload_of n
reload_at_byte n h = reload_there (byte_of n) (byte_small n) ∙ byte_reload n h

-- "bit 3 making no difference"
pub bit_3_no_difference : (shift code : ℕ) → code ≤ 7 → reload_at (shift * 16 + 8 + code) ≡ reload_at (shift * 16 + code)
unfolding reload_at
bit_3_no_difference shift code h =
    let low : (shift * 16 + 8 + code) % 8 ≡ (shift * 16 + code) % 8 = omega arith in
    let high : (shift * 16 + 8 + code) / 16 ≡ (shift * 16 + code) / 16 = omega arith in
    rw (low, high)
