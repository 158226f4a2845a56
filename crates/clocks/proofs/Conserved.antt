-- Demand 3: t units in all since the start are t / K frames and t % K units kept, and each working clock adds 2 ^ u units with nothing rounded.
-- Assumes nothing.
use mathlib.Core.Path.{◌≡◌, refl, sym, ap, ◌∙◌}
use mathlib.Core.Bool.{Bool, true, false, not}
use mathlib.Core.List.{List, [], ◌∷◌}
use Prim.Native.Nat.{ℕ, zero, suc, ◌+◌, ◌-◌, ◌*◌, ◌/◌, ◌%◌, ◌^◌, ◌≤◌, ◌<◌}
use native.Mathlib.Nat.{mod-lt, mod-eq_of_lt, div-eq_of_lt, div-add-mod', mul-add-div_right, mul-add-mod_self_right, mod-eq-sub-div-mul}
use native.Mathlib.Nat.{add-zero, zero-add, add_assoc, add-sub_cancel_left, sub-zero, add-mul, one-mul, zero-mul, lt_of_lt_of_le, le_trans, le-add_right}
use native.Mathlib.Numerals.{one-add}
use native.Mathlib.Omega.{arith}
use lib.Dec.{T, leb, ltb, leb→le, nleb→lt, ltb→lt, nltb→le, lit≤, lit<}
use lib.Pow.{pow_pos}
use lib.IntN.{pos, negsuc}
use lib.Ieee.{fin, binary64, round}
use lib.Ieee.Scale.{round_same}
use Rattle.clocks.specs.declared.sample_counter.Ticked.{Ticked}
use Rattle.ground.specs.Units.{units_of}
use Rattle.clocks.specs.Counter.{every_at, tick_by}
use Rattle.clocks.specs.Calls.{Call, normal, double, other, refused, Clocks, more, after, clocked, run, fresh}
use Rattle.clocks.specs.Calls.{normals, doubles, times, working_clocks, K, Conserved}
use Rattle.clocks.specs.Metered.{Held, clocks_of, units_from, ConservedFrom}
use Rattle.clocks.specs.Metered as metered
use Rattle.clocks.specs.declared.meter.Meter.{Meter}
use Rattle.ground.proofs.Units.{exact}
use Rattle.clocks.proofs.Working.{left, Room, room_pos, tick_units}

-- ---- quotient and remainder, known by their sum
pub div_mod_is : (n M q r : ℕ) → r < M → n ≡ q * M + r → (n / M ≡ q) × (n % M ≡ r)
div_mod_is n M q r h e =
    let z : 0 < M = omega arith in (
      ap (λ (x : ℕ). x / M) e ∙ mul-add-div_right z q r ∙ ap (λ (x : ℕ). q + x) (div-eq_of_lt h) ∙ add-zero q,
      ap (λ (x : ℕ). x % M) e ∙ mul-add-mod_self_right q M r ∙ mod-eq_of_lt h,
    )

-- ---- t units in all, since there were f frames: t / M frames more, and t % M units left
abbrev pub held_at : ℕ → ℕ → ℕ → ℕ → ℕ → Clocks
held_at u M f h t = record { half = h; counter = units_of binary64 u (t % M); frames = f + t / M }

-- what one working clock adds to t, the counter's own step being known
abbrev counted : Ticked → ℕ → ℕ → Clocks
counted c h f = record { half = h; counter = c.counter; frames = more c.made f }

enough : (t M p q r : ℕ) → q * M + r ≡ t → M ≤ r + p → t + p ≡ (q + 1) * M + (r + p - M)
enough t M p q r e h =
    let d : (q + 1) * M ≡ q * M + M = add-mul q 1 M ∙ ap (λ (x : ℕ). q * M + x) (one-mul M) in
    omega arith

too_few : (t M p q r : ℕ) → q * M + r ≡ t → t + p ≡ q * M + (r + p)
too_few t M p q r e = omega arith

pub rest_lt : (r p M : ℕ) → r < M → p ≤ M → r + p - M < M
rest_lt r p M h l = omega arith

tock : (u M f h t : ℕ) → Room u M → counted (tick_by (units_of binary64 u M) (units_of binary64 u (t % M))) h (f + t / M) ≡ held_at u M f h (t + 2 ^ u)
tock u M f h t r =
    let p = 2 ^ u in
    let z : 0 < M = room_pos r in
    ap (λ (c : Ticked). counted c h (f + t / M)) (tick_units u M (t % M) r (mod-lt t z))
    ∙ go (leb M (t % M + p)) (leb→le M (t % M + p)) (nleb→lt M (t % M + p)) z
  where
    go : (b : Bool) → (T b → M ≤ t % M + 2 ^ u) → (T (not b) → t % M + 2 ^ u < M) → 0 < M
        → counted (left u M b (t % M + 2 ^ u)) h (f + t / M) ≡ held_at u M f h (t + 2 ^ u)
    go true g l z =
        let below = rest_lt (t % M) (2 ^ u) M (mod-lt t z) r.low in
        let sum = enough t M (2 ^ u) (t / M) (t % M) (div-add-mod' t M) (g tt) in
        let d = div_mod_is (t + 2 ^ u) M (t / M + 1) (t % M + 2 ^ u - M) below sum in
        rw (d.0, d.1, ← add_assoc f (t / M) 1)
    go false g l z =
        let d = div_mod_is (t + 2 ^ u) M (t / M) (t % M + 2 ^ u) (l tt) (too_few t M (2 ^ u) (t / M) (t % M) (div-add-mod' t M)) in
        rw (d.0, d.1)

-- ---- from a counter of k units and g half-clocks: after H half-clocks in all
abbrev pub reached : ℕ → ℕ → ℕ → ℕ → ℕ → Clocks
reached u M f k H = held_at u M f (H % 2) (k + H / 2 * 2 ^ u)

clocked_reached : (u M f k H d : ℕ) → Room u M → d ≤ 2 → clocked (units_of binary64 u M) d (reached u M f k H) ≡ reached u M f k (H + d)
clocked_reached u M f k H d r D = go (ltb (H % 2 + d) 2) (ltb→lt (H % 2 + d) 2) (nltb→le (H % 2 + d) 2)
  where
    one-clock : (n p : ℕ) → k + (n + 1) * p ≡ k + n * p + p
    one-clock n p = let e : (n + 1) * p ≡ n * p + 1 * p = add-mul n 1 p in omega arith

    go : (b : Bool) → (T b → H % 2 + d < 2) → (T (not b) → 2 ≤ H % 2 + d)
        → after b (units_of binary64 u M) (H % 2 + d) (reached u M f k H) ≡ reached u M f k (H + d)
    go true g l =
        let s : H % 2 + d < 2 = g tt in
        let a : (H + d) % 2 ≡ H % 2 + d = omega arith in
        let b : (H + d) / 2 ≡ H / 2 = omega arith in
        rw (a, b)
    go false g l =
        let s : 2 ≤ H % 2 + d = l tt in
        let a : (H + d) % 2 ≡ H % 2 + d - 2 = omega arith in
        let b : (H + d) / 2 ≡ H / 2 + 1 = omega arith in
        rw (a, b, one-clock (H / 2) (2 ^ u)) (tock u M f (H % 2 + d - 2) (k + H / 2 * 2 ^ u) r)

two_more : (H a b : ℕ) → H + 2 + (2 * a + b) ≡ H + (2 * (1 + a) + (0 + b))
two_more H a b = omega arith

one_more : (H a b : ℕ) → H + 1 + (2 * a + b) ≡ H + (2 * (0 + a) + (1 + b))
one_more H a b = omega arith

no_more : (H a b : ℕ) → H + (2 * a + b) ≡ H + (2 * (0 + a) + (0 + b))
no_more H a b = omega arith

-- the half-clocks of a row of calls
halves : List Call → ℕ
halves cs = 2 * normals cs + doubles cs

run_reached : (u M f k : ℕ) (cs : List Call) (H : ℕ) → Room u M → run (units_of binary64 u M) cs (reached u M f k H) ≡ reached u M f k (H + halves cs)
unfolding run halves normals doubles
run_reached u M f k [] H r = ap (reached u M f k) (sym (add-zero H))
run_reached u M f k (normal ∷ cs) H r =
    ap (run (units_of binary64 u M) cs) (clocked_reached u M f k H 2 r (lit≤ tt))
    ∙ run_reached u M f k cs (H + 2) r
    ∙ ap (reached u M f k) (two_more H (normals cs) (doubles cs))
run_reached u M f k (double ∷ cs) H r =
    ap (run (units_of binary64 u M) cs) (clocked_reached u M f k H 1 r (lit≤ tt))
    ∙ run_reached u M f k cs (H + 1) r
    ∙ ap (reached u M f k) (one_more H (normals cs) (doubles cs))
run_reached u M f k (other ∷ cs) H r = run_reached u M f k cs H r ∙ ap (reached u M f k) (no_more H (normals cs) (doubles cs))
run_reached u M f k (refused ∷ cs) H r = run_reached u M f k cs H r ∙ ap (reached u M f k) (no_more H (normals cs) (doubles cs))

-- ---- from f frames, a kept remainder of k units and g half-clocks (a unit that is taken up again has these), over any calls
pub from_kept : (u M f g k : ℕ) (cs : List Call) → Room u M → g < 2 → k < M
    → run (units_of binary64 u M) cs (record { half = g; counter = units_of binary64 u k; frames = f }) ≡ reached u M f k (g + (2 * normals cs + doubles cs))
unfolding halves
from_kept u M f g k cs r G h =
    let a : g % 2 ≡ g = omega arith in
    let b : g / 2 ≡ 0 = omega arith in
    let c : k + 0 * 2 ^ u ≡ k = ap (λ (x : ℕ). k + x) (zero-mul (2 ^ u)) ∙ add-zero k in
    let start : reached u M f k g ≡ record { half = g; counter = units_of binary64 u k; frames = f } =
    rw (a, b, c, mod-eq_of_lt h, div-eq_of_lt h, add-zero f) in
    ap (run (units_of binary64 u M) cs) (sym start) ∙ run_reached u M f k cs g r

-- demand 3 from there, in its words
pub conserved_from : (u M : ℕ) → Room u M → (m : Meter) → Held M m → (f : ℕ) (cs : List Call)
    → ConservedFrom u M m f cs (run (units_of binary64 u M) cs (clocks_of u m f))
conserved_from u M r m h f cs =
    let t = units_from u m cs in
    let small : t % M < 2 ^ 53 = lt_of_lt_of_le (mod-lt t (room_pos r)) (le_trans (le-add_right M (2 ^ u)) r.high) in
    rw (from_kept u M f m.half m.rest cs r h.half h.rest, ← add_assoc m.half (2 * normals cs) (doubles cs))
    (record {
      frames = refl;
      rest = rw (add-sub_cancel_left f (t / M), ← mod-eq-sub-div-mul t M) (exact binary64 u (t % M) r.deep small);
      half = odd m.half (normals cs) (doubles cs);
    })
  where
    odd : (g a b : ℕ) → (g + 2 * a + b) % 2 ≡ (g + b) % 2
    odd g a b = omega arith

-- ---- from a fresh unit, over any calls, with N as M units of 2 ^ -u
round_zero : round binary64 false 0 1 ≡ fin false 0 (pos 0)
unfolding round
round_zero = refl

zero_units : (u : ℕ) → units_of binary64 u 0 ≡ fin false 0 (pos 0)
unfolding units_of
zero_units u = round_same binary64 false 0 (2 ^ u) 0 1 (pow_pos u) (lit< tt) (sym (zero-mul (2 ^ u))) ∙ round_zero

same-W : (a b : ℕ) → (0 + 2 * a + b) / 2 ≡ a + b / 2
same-W a b = omega arith

-- the same, from a half-clock of 0 and a rest of 0
pub from_nothing : {u M : ℕ} {cs : List Call} {m : Clocks} → ConservedFrom u M metered.fresh 0 cs m → Conserved u M cs m
from_nothing {u} {M} {cs} {m} c =
    let same : units_from u metered.fresh cs ≡ working_clocks cs * 2 ^ u =
    rw (same-W (normals cs) (doubles cs), zero-add (working_clocks cs * 2 ^ u)) in
    record {
      frames = rw same at c.frames ∙ zero-add (working_clocks cs * 2 ^ u / M);
      rest = rw (same, sub-zero m.frames) at c.rest;
      half = c.half ∙ ap (λ (x : ℕ). x % 2) (zero-add (doubles cs));
    }

-- demand 3, in its words
pub conserved_by : (u M : ℕ) → Room u M → (cs : List Call) → Conserved u M cs (run (units_of binary64 u M) cs fresh)
conserved_by u M r cs =
    let held : Held M metered.fresh = record { half = lit< tt; rest = room_pos r } in
    rw (← zero_units u) (from_nothing (conserved_from u M r metered.fresh held 0 cs))

-- ---- at 44,100
pub K-is : 11025 * K ≡ 2 ^ 66 + 1511
K-is = refl

-- each side is computed by itself: compared with one another, two calls of `round` run to the step limit
nearest_is : every_at 44100 ≡ fin false K (negsuc 47)
unfolding every_at round
nearest_is = refl

units_are : units_of binary64 48 K ≡ fin false K (negsuc 47)
unfolding units_of round
units_are = refl

pub every_units : every_at 44100 ≡ units_of binary64 48 K
every_units = nearest_is ∙ sym units_are

pub room : Room 48 K
room = record { deep = lit≤ tt; low = lit≤ tt; high = lit≤ tt }

-- from a stored half-clock and remainder: document 02, "For it demand 3 starts from the stored remainder and half-clock"
pub conserved_from_44100 : (m : Meter) → Held K m → (f : ℕ) (cs : List Call) → ConservedFrom 48 K m f cs (run (every_at 44100) cs (clocks_of 48 m f))
conserved_from_44100 m h f cs = rw every_units (conserved_from 48 K room m h f cs)

pub conserved : (cs : List Call) → Conserved 48 K cs (run (every_at 44100) cs fresh)
conserved cs = rw every_units (conserved_by 48 K room cs)

normals_times : (n : ℕ) → normals (times n normal) ≡ n
unfolding normals times
normals_times zero = refl
normals_times (suc n) = ap (λ (x : ℕ). 1 + x) (normals_times n) ∙ one-add n

doubles_times : (n : ℕ) → doubles (times n normal) ≡ 0
unfolding doubles times
doubles_times zero = refl
doubles_times (suc n) = ap (λ (x : ℕ). 0 + x) (doubles_times n)

-- ---- the frames that n working clocks make from a fresh unit
pub frames_by_formula : (n : ℕ) → (run (every_at 44100) (times n normal) fresh).frames ≡ n * 2 ^ 48 / K
frames_by_formula n = (conserved (times n normal)).frames ∙ rw (normals_times n, doubles_times n, add-zero n)
