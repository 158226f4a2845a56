-- What a player makes of an imported log: it is not refused, its records are the commands', its divider runs through, and S samples are S - 1 frames.
-- Assumes nothing.
use Prim.Native.Nat.{ℕ, zero, suc, ◌+◌, ◌-◌, ◌*◌, ◌/◌, ◌%◌, ◌^◌, ◌≤◌}
use mathlib.Core.Path.{◌≡◌, refl, sym, ap, ◌∙◌}
use mathlib.Core.Bool.{true}
use mathlib.Core.List.{List, ◌++◌, append_assoc}
use native.Mathlib.Omega.{arith}
use native.Mathlib.Nat.{add-zero, zero-add}
use borrow.Author.Tests.{le-leb, le-ltb, eqb-true, eqb-false}
use lib.ListN.{length}
use Rattle.std.specs.Prelude.{Some, None, Ok, Err, is_some}
use Rattle.ground.specs.Pick.{pick}
use Rattle.ground.proofs.Cases.{pick_holds}
use Rattle.clocks.specs.Calls.{K}
use Rattle.clocks.specs.Metered.{frames_of}
use Rattle.log_records.specs.Judge.{Judged}
use Rattle.log_records.specs.Divider.{divider_at}
use Rattle.log_records.specs.declared.divider.Divider.TheVariants.{Running}
use Rattle.log_records.specs.Records.{listed}
use Rattle.log_scan.specs.declared.scan.Sums.{Sums}
use Rattle.log_scan.specs.Sums.{asks, halves_of, sum_of}
use Rattle.log_scan.specs.Answers.{bad_start, first_refused}
use Rattle.log_scan.proofs.Bounds.{calls_low}
use Rattle.log_scan.proofs.Counting.{summed_append}
use Rattle.log_vgm.specs.declared.command.Command.{Command}
use Rattle.log_vgm.specs.declared.command.Command.TheVariants.{Store, Wait}
use Rattle.log_vgm.specs.Commands.{Next, next_at, Track, ended, stopped, after, grow, walk, commands_from, samples_in}
use Rattle.log_vgm.specs.Header.{start_of}
use Rattle.log_vgm.specs.Clockwork.{calls_at, sample_after}
use Rattle.log_vgm.specs.Log.{Low, write_record, clock_record, wholes, rest_of, wait_records, records_at, records_on, track_of, imported_records, log_of}
use Rattle.log_vgm.specs.Running.{RunsFrom}
use Rattle.log_vgm.specs.Imports.{is_done, imported_of}
use Rattle.log_vgm.proofs.Walking.{Fits, next_fits}
use Rattle.log_vgm.proofs.ReadBack.{Right, Each, each_append, read_back}
use Rattle.log_vgm.proofs.Answering.{done_fits}

-- ---- the registers of all commands are in their range
abbrev Lows : Track → Type 0
Lows ended = 0 ≤ 0
Lows (stopped place) = 0 ≤ 0
Lows (after command rest) = Low command × Lows rest

grow_low : (s : List ℕ) (at : ℕ) (rest : ℕ → Track) (k : Next) → Fits s at k → ((n : ℕ) → Lows (rest n)) → Lows (grow at rest k)
grow_low s at rest (Ok (Some taken)) h l = (h.1, l (at + 1 + taken.more))
grow_low s at rest (Ok None) h l = omega arith
grow_low s at rest (Err e) h l = omega arith

walk_low : (f : ℕ) (s : List ℕ) (at : ℕ) → Lows (walk f s at)
unfolding walk
walk_low zero s at = omega arith
walk_low (suc f) s at = grow_low s at (walk f s) (next_at s at) (next_fits s at) (λ n. walk_low f s n)

track_low : (s : List ℕ) → Lows (track_of s)
unfolding commands_from
track_low s = walk_low (length s) s (start_of s)

-- ---- so all records are right
write_right : (register value : ℕ) → register ≤ 0x2F → Right (write_record register value)
write_right register value h =
    let lo : 0xFF10 ≤ 0xFF10 + register = omega arith in
    let hi : 0xFF10 + register ≤ 0xFF3F = omega arith in
    rw (le-leb 0xFF10 (0xFF10 + register) lo, le-leb (0xFF10 + register) 0xFF3F hi)

clock_right : (C n : ℕ) → 1 ≤ n → n ≤ 16384 → Right (clock_record C n)
clock_right C n lo hi = (omega arith, (lo, hi))

wholes_right : (C k : ℕ) → Each (wholes C k)
unfolding wholes
wholes_right C zero = omega arith
wholes_right C (suc k) = (clock_right C 16384 (omega arith) (omega arith), wholes_right (C + 16384) k)

rest_right : (C n : ℕ) → n ≤ 16384 → Each (rest_of C n)
unfolding rest_of
rest_right C n h =
    pick_holds Each _ _ _ (λ _. omega arith)
    (λ e. let some = eqb-false n 0 e in (clock_right C n (omega arith) h, omega arith))

at_right : (s : ℕ) (command : Command) → Low command → Each (records_at s command)
at_right s (Store register value) h = (write_right register value h, omega arith)
at_right s (Wait n) h =
    let C = calls_at s in
    let m = calls_at (s + n) - C in
    each_append (wholes C (m / 16384)) _ (wholes_right C (m / 16384)) (rest_right (C + m / 16384 * 16384) (m % 16384) (omega arith))

on_right : (s : ℕ) (track : Track) → Lows track → Each (records_on s track)
unfolding records_on
on_right s ended h = omega arith
on_right s (stopped place) h = omega arith
on_right s (after command rest) h =
    each_append (records_at s command) _ (at_right s command h.0) (on_right (sample_after s command) rest h.1)

all_right : (s : List ℕ) → Each (imported_records s)
all_right s = (write_right 0x16 0x80 (omega arith), on_right 0 (track_of s) (track_low s))

-- THE LAW: the records of the log are those of the commands
pub imported_listed : (s : List ℕ) → listed (log_of s) ≡ imported_records s
imported_listed s = (read_back (imported_records s) (all_right s)).0

-- THE LAW: an imported log is refused by no 3, 4 or 5
pub imported_taken : (s : List ℕ) (room : ℕ) → is_done (imported_of s room) ≡ true → (last : ℕ) → first_refused (log_of s) last ≡ last
unfolding bad_start pick
imported_taken s room d last =
    let short = (done_fits s room d).0 in
    let clear = (read_back (imported_records s) (all_right s)).1 in
    let two : 2 ≤ length (log_of s) = omega arith in
    rw (le-ltb 65536 (length (log_of s)) short, le-ltb (length (log_of s)) 2 two, ap is_some clear)

-- ---- the divider
clock_runs : (C i : ℕ) → divider_at (Running (C / 64 % 256) (C % 64)) i ≡ (C + i) / 64 % 256
unfolding divider_at
clock_runs C i = omega arith

wholes_run : (C k : ℕ) (l : List Judged) → RunsFrom (C + k * 16384) l → RunsFrom C (wholes C k ++ l)
unfolding wholes
wholes_run C zero l h = let e : C + zero * 16384 ≡ C = omega arith in rw e at h
wholes_run C (suc k) l h =
    let e : C + suc k * 16384 ≡ C + 16384 + k * 16384 = omega arith in
    (λ i. clock_runs C i, wholes_run (C + 16384) k l (rw e at h))

rest_runs : (C n : ℕ) (l : List Judged) → RunsFrom (C + n) l → RunsFrom C (rest_of C n ++ l)
unfolding rest_of
rest_runs C n l h =
    pick_holds (λ (r : List Judged). RunsFrom C (r ++ l)) _ _ _
    (λ e. let none : C + n ≡ C = omega (arith, eqb-true n 0 e) in rw none at h)
    (λ _. (λ i. clock_runs C i, h))

wait_runs : (C m : ℕ) (l : List Judged) → RunsFrom (C + m) l → RunsFrom C (wait_records C m ++ l)
wait_runs C m l h =
    let rest = rest_of (C + m / 16384 * 16384) (m % 16384) in
    let e : C + m ≡ C + m / 16384 * 16384 + m % 16384 = omega arith in
    let r = rest_runs (C + m / 16384 * 16384) (m % 16384) l (rw e at h) in
    rw (append_assoc (wholes C (m / 16384)) rest l) (wholes_run C (m / 16384) (rest ++ l) r)

on_runs : (s : ℕ) (track : Track) → RunsFrom (calls_at s) (records_on s track)
unfolding records_on
on_runs s ended = omega arith
on_runs s (stopped place) = omega arith
on_runs s (after (Store register value) rest) = on_runs s rest
on_runs s (after (Wait n) rest) =
    let m = calls_at (s + n) - calls_at s in
    let e : calls_at (s + n) ≡ calls_at s + m = omega arith in
    wait_runs (calls_at s) m (records_on (s + n) rest) (rw e at (on_runs (s + n) rest))

-- THE LAW: in call j of the whole log the divider is j / 64 modulo 256
pub imported_runs : (s : List ℕ) → RunsFrom 0 (imported_records s)
imported_runs s = on_runs 0 (track_of s)

-- ---- calls and half-clocks
ask_append : (l m : List Judged) → sum_of asks (l ++ m) ≡ sum_of asks l + sum_of asks m
ask_append l m = ap (λ (x : Sums). x.calls) (summed_append l m)

wholes_ask : (C k : ℕ) → sum_of asks (wholes C k) ≡ k * 16384
unfolding sum_of wholes
wholes_ask C zero = refl
wholes_ask C (suc k) = omega (arith, wholes_ask (C + 16384) k)

rest_asks : (C n : ℕ) → sum_of asks (rest_of C n) ≡ n
unfolding sum_of rest_of
rest_asks C n =
    pick_holds (λ (r : List Judged). sum_of asks r ≡ n) _ _ _ (λ e. omega (arith, eqb-true n 0 e)) (λ _. omega arith)

wait_asks : (C m : ℕ) → sum_of asks (wait_records C m) ≡ m
wait_asks C m =
    let rest = rest_of (C + m / 16384 * 16384) (m % 16384) in
    let whole = wholes C (m / 16384) in
    omega (arith, ask_append whole rest, wholes_ask C (m / 16384), rest_asks (C + m / 16384 * 16384) (m % 16384))

on_asks : (s : ℕ) (track : Track) → sum_of asks (records_on s track) + calls_at s ≡ calls_at (s + samples_in track)
unfolding records_on sum_of
on_asks s ended = zero-add (calls_at s) ∙ ap calls_at (sym (add-zero s))
on_asks s (stopped place) = zero-add (calls_at s) ∙ ap calls_at (sym (add-zero s))
on_asks s (after (Store register value) rest) = omega (arith, on_asks s rest)
on_asks s (after (Wait n) rest) =
    let m = calls_at (s + n) - calls_at s in
    let both = ask_append (wait_records (calls_at s) m) (records_on (s + n) rest) in
    let e : s + (n + samples_in rest) ≡ s + n + samples_in rest = omega arith in
    let here = wait_asks (calls_at s) m in
    let more : calls_at s ≤ calls_at (s + n) = omega arith in
    let later = on_asks (s + n) rest in
    rw e (sums _ _ _ _ _ _ both here later more)
  where
    sums : (x y z a b c : ℕ) → z ≡ x + y → x ≡ b - a → y + b ≡ c → a ≤ b → z + a ≡ c
    sums x y z a b c p q r h = omega arith

-- THE LAW: the calls of the log are the clock count up to the last sample
pub imported_calls : (s : List ℕ) → sum_of asks (imported_records s) ≡ calls_at (samples_in (track_of s))
unfolding sum_of
imported_calls s = let h = rw (zero-add (samples_in (track_of s))) at (on_asks 0 (track_of s)) in omega (arith, h)

-- all of them at normal speed: two half-clocks each
abbrev Twice : List Judged → Type 0
Twice l = sum_of halves_of l ≡ sum_of asks l * 2

twice_append : (l m : List Judged) → Twice l → Twice m → Twice (l ++ m)
twice_append l m p q = omega (arith, p, q, ask_append l m, ap (λ (x : Sums). x.halves) (summed_append l m))

wholes_twice : (C k : ℕ) → Twice (wholes C k)
unfolding sum_of wholes
wholes_twice C zero = refl
wholes_twice C (suc k) = omega (arith, wholes_twice (C + 16384) k)

rest_twice : (C n : ℕ) → Twice (rest_of C n)
unfolding sum_of rest_of
rest_twice C n = pick_holds Twice _ _ _ (λ _. refl) (λ _. omega arith)

on_twice : (s : ℕ) (track : Track) → Twice (records_on s track)
unfolding records_on sum_of
on_twice s ended = refl
on_twice s (stopped place) = refl
on_twice s (after (Store register value) rest) = omega (arith, on_twice s rest)
on_twice s (after (Wait n) rest) =
    let C = calls_at s in
    let m = calls_at (s + n) - C in
    let whole = wholes C (m / 16384) in
    let last = rest_of (C + m / 16384 * 16384) (m % 16384) in
    let wait = twice_append whole last (wholes_twice C (m / 16384)) (rest_twice (C + m / 16384 * 16384) (m % 16384)) in
    twice_append (whole ++ last) (records_on (s + n) rest) wait (on_twice (s + n) rest)

-- ---- frames: c(S) calls are S - 1 frames of 1048576 / 44100 calls each, since c(S) is less than a call short of S of them
frames_number : (S : ℕ) → 1 ≤ S → S * 262144 / 11025 ≤ 1073741824 → S * 262144 / 11025 * 2 ^ 48 / K ≡ S - 1
frames_number S h small = omega arith

-- THE LAW: S samples, S being 1 and more, are S - 1 frames
pub imported_frames : (s : List ℕ) (room : ℕ) → is_done (imported_of s room) ≡ true → 1 ≤ samples_in (track_of s)
    → frames_of (sum_of halves_of (imported_records s)) ≡ samples_in (track_of s) - 1
unfolding frames_of sum_of
imported_frames s room d some =
    let S = samples_in (track_of s) in
    let calls = imported_calls s in
    let low = rw (imported_listed s) at (calls_low 2 (log_of s) (done_fits s room d).0) in
    let halves : sum_of halves_of (imported_records s) / 2 ≡ calls_at S = omega (arith, on_twice 0 (track_of s), calls) in
    rw halves (frames_number S some (rw calls at low))
