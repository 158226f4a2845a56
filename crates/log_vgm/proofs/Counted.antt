-- What the code keeps of the samples is enough: the rest of a division goes into the next one, and 16,384 calls bring divider and phase round.
-- Assumes nothing.
use Prim.Native.Nat.{ℕ, zero, suc, ◌+◌, ◌-◌, ◌*◌, ◌/◌, ◌%◌}
use mathlib.Core.Path.{◌≡◌, refl, sym, ap, ap₂, ◌∙◌}
use mathlib.Core.List.{List, [], ◌∷◌, ◌++◌}
use native.Mathlib.Omega.{arith}
use lib.ListN.{replicate, replicate-append-replicate}
use Rattle.log_records.specs.Judge.{Judged}
use Rattle.log_vgm.specs.declared.clockwork.Clockwork.{Clockwork}
use Rattle.log_vgm.specs.declared.command.Command.{Command}
use Rattle.log_vgm.specs.declared.command.Command.TheVariants.{Store, Wait}
use Rattle.log_vgm.specs.Commands.{Track, ended, stopped, after}
use Rattle.log_vgm.specs.Clockwork.{calls_at, sample_after, clockwork_at, calls_in, moved_of}
use Rattle.log_vgm.specs.Log.{clock_record, wholes, rest_of, wait_records, records_at, records_on, written, records_by, bytes_on}
use Rattle.log_vgm.proofs.Lengths.{written_append}

-- ---- divider and phase
pub clock_round : (C k n : ℕ) → clock_record (C + k * 16384) n ≡ clock_record C n
clock_round C k n =
    let divider : (C + k * 16384) / 64 % 256 ≡ C / 64 % 256 = omega arith in
    let phase : (C + k * 16384) % 64 ≡ C % 64 = omega arith in
    rw (divider, phase)

-- the records of 16,384 calls of a wait are all alike
wholes_alike : (C k : ℕ) → wholes C k ≡ replicate k (clock_record C 16384)
unfolding wholes
wholes_alike C zero = refl
wholes_alike C (suc k) =
    let round : clock_record (C + 16384) 16384 ≡ clock_record C 16384 = clock_round C 1 16384 in
    ap (λ (l : List Judged). clock_record C 16384 ∷ l) (wholes_alike (C + 16384) k ∙ ap (replicate k) round)

pub wholes_more : (C k : ℕ) → wholes C (k + 1) ≡ wholes C k ++ (clock_record C 16384 ∷ [])
wholes_more C k =
    let r = clock_record C 16384 in
    wholes_alike C (k + 1) ∙ sym (replicate-append-replicate k 1 r) ∙ ap (λ (l : List Judged). l ++ (r ∷ [])) (sym (wholes_alike C k))

rest_round : (C k n : ℕ) → rest_of (C + k * 16384) n ≡ rest_of C n
unfolding rest_of
rest_round C k n = rw (clock_round C k n)

-- the records of a wait, all of them from the calls before the first
pub wait_alike : (C n : ℕ) → wait_records C n ≡ wholes C (n / 16384) ++ rest_of C (n % 16384)
wait_alike C n = ap (λ (l : List Judged). wholes C (n / 16384) ++ l) (rest_round C (n / 16384) (n % 16384))

wait_round : (C k n : ℕ) → wait_records (C + k * 16384) n ≡ wait_records C n
wait_round C k n =
    let whole = n / 16384 in
    let same : wholes (C + k * 16384) whole ≡ wholes C whole =
    wholes_alike (C + k * 16384) whole ∙ ap (replicate whole) (clock_round C k 16384) ∙ sym (wholes_alike C whole) in
    wait_alike (C + k * 16384) n ∙ ap₂ ◌++◌ same (rest_round C k (n % 16384)) ∙ sym (wait_alike C n)

-- ---- calls
pub calls-at : (s n : ℕ) → calls_in (clockwork_at s) n ≡ calls_at (s + n) - calls_at s
calls-at s n = omega arith

round_sum : (a b sum : ℕ) → a + b ≡ sum → (a % 16384 % 16384 + b) % 16384 ≡ sum % 16384
round_sum a b sum e = omega arith

pub moved_at : (s : ℕ) (command : Command) → moved_of (clockwork_at s) command ≡ clockwork_at (sample_after s command)
moved_at s (Store register value) = refl
moved_at s (Wait n) =
    let rest : (s * 262144 % 11025 + n * 262144) % 11025 ≡ (s + n) * 262144 % 11025 = omega arith in
    let all : calls_at s + calls_in (clockwork_at s) n ≡ calls_at (s + n) = omega arith in
    rw (rest, round_sum (calls_at s) (calls_in (clockwork_at s) n) (calls_at (s + n)) all)

records-at : (s : ℕ) (command : Command) → records_by (clockwork_at s) command ≡ records_at s command
records-at s (Store register value) = refl
records-at s (Wait n) =
    let C = calls_at s in
    let m = calls_at (s + n) - C in
    let round : C % 16384 + C / 16384 * 16384 ≡ C = omega arith in
    ap (wait_records (C % 16384)) (calls-at s n) ∙ sym (wait_round (C % 16384) (C / 16384) m) ∙ ap (λ (x : ℕ). wait_records x m) round

-- so the bytes by what the code keeps are those of the commands' records
pub bytes_at : (s : ℕ) (track : Track) → bytes_on (clockwork_at s) track ≡ written (records_on s track)
unfolding bytes_on records_on written
bytes_at s ended = refl
bytes_at s (stopped place) = refl
bytes_at s (after command rest) =
    ap₂ ◌++◌
    (ap written (records-at s command))
    (ap (λ (c : Clockwork). bytes_on c rest) (moved_at s command) ∙ bytes_at (sample_after s command) rest)
    ∙ sym (written_append (records_at s command) (records_on (sample_after s command) rest))
