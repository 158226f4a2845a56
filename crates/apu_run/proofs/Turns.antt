-- A turn of a player's loop: some calls that see one divider bit, on a unit that owes working clocks; what comes after them is any `Later`. Assumes nothing.
use Prim.Native.Nat.{ℕ, ◌+◌, ◌-◌, ◌≤◌, ◌<◌}
use mathlib.Core.Path.{◌≡◌, sym, ◌∙◌, ap, subst}
use mathlib.Core.Bool.{Bool, true, false}
use mathlib.Core.List.{List, [], append-nil, append_assoc}
use native.Mathlib.Omega.{arith}
use lib.ListN.{length}
use lib.Seq.{sets}
use Rattle.ground.specs.Iterate.{iterate}
use Rattle.apu.specs.declared.Apu.{Apu}
use Rattle.apu.specs.With.{with_bit}
use Rattle.apu_clock.specs.Sequencer.{bit_of}
use Rattle.apu_clock.proofs.Untouched.{advances}
use Rattle.apu_run.specs.Working.{Take, working_on, ran_of}
use Rattle.log_records.specs.Divider.{divider_at}
use Rattle.apu_run.specs.Calls.{clocks_bytes, after_clocks}
use Rattle.apu_run.specs.Owed.{OneBit, met_of, marked, fallen}
use Rattle.apu_run.specs.declared.calls.Play.{Play}
use Rattle.log_records.specs.declared.divider.Divider.{Divider}
use Rattle.apu_run.specs.declared.calls.Met.{Met}
use Rattle.apu_run.proofs.Rows.{rows, rows_split}
use Rattle.apu_run.proofs.Beats.{call_by}
use Rattle.apu_run.proofs.Ranges.{Ready, ran_ready}
use Rattle.apu_run.proofs.Marks.{ran_own, front, ran_front, marked_ready, fallen_ready}
use Rattle.apu_run.proofs.Stretches.{fallen_take, met_on, met_fell, met_half, fell_some}
use Rattle.apu_run.proofs.Dividers.{by_bit}
use Rattle.apu_run.proofs.Playing.{Going, reckoned, room_now, written}

-- a unit that has made nothing yet
abbrev pub none : Apu → Take
none a = record { apu = a; bytes = [] }

-- what comes after leaves the bytes before it in front
pub record Later : Type 0 where
  pub on : Take → Take
  pub behind : (l : List ℕ) (t : Take) → on (front l t) ≡ front l (on t)

pub rows_behind : (double : Bool) (d : Divider) (i k : ℕ) (l : List ℕ) (t : Take) → rows double d i k (front l t) ≡ front l (rows double d i k t)
rows_behind double d i k l t =
    ap (λ (x : List ℕ). record { apu = after_clocks double d i k t.apu; bytes = x }) (append_assoc l t.bytes (clocks_bytes double d i k t.apu))

-- a fall, with the bytes before it in front
fallen_front : (n : ℕ) (t : Take) → iterate n working_on (fallen_take t) ≡ front t.bytes (ran_of n (fallen t.apu))
fallen_front n t =
    ap (λ (l : List ℕ). iterate n working_on (record { apu = fallen t.apu; bytes = l })) (sym (append-nil t.bytes))
    ∙ ran_front n t.bytes (none (fallen t.apu))

-- calls, and then more
abbrev pub calls_then : Bool → Divider → ℕ → ℕ → Later → Later
calls_then double d i n then =
    record {
      on = λ t. then.on (rows double d i n t);
      behind = λ l t. ap then.on (rows_behind double d i n l t) ∙ then.behind l (rows double d i n t);
    }

-- ---- what is owed is played, and then nothing is owed
module _
    {p : Play} {out₀ out : List ℕ} {whole : Take} {a : Apu} {at : ℕ} (then : Later) (owed : ℕ) (g : Going p out₀ whole a at out (then.on (ran_of owed a)))
  where
    abbrev ran : Take
    ran = ran_of owed a

    settled_is : then.on ran ≡ front ran.bytes (then.on (none ran.apu))
    settled_is =
        ap (λ (l : List ℕ). then.on (record { apu = ran.apu; bytes = l })) (sym (append-nil ran.bytes))
        ∙ then.behind ran.bytes (none ran.apu)

    pub settle_room : at + length ran.bytes ≤ length out
    settle_room = room_now g ran.bytes (then.on (none ran.apu)) settled_is

    pub settled : Going p out₀ whole ran.apu (at + length ran.bytes) (sets out at ran.bytes) (then.on (ran_of 0 ran.apu))
    unfolding iterate
    settled = written g ran.bytes (then.on (none ran.apu)) settled_is ran.apu (ran_ready owed a g.ready)

-- ---- how a turn's calls meet the unit: `some` of the n calls from call i on, which see one bit
pub record Meets (double : Bool) (d : Divider) (a : Apu) (i n some n' : ℕ) (m : Met) : Type 0 where
  pub split : n ≡ some + n'
  pub same_bit : OneBit double d i some
  pub is : m ≡ met_of a.clocks_counter a.power a.divider_sequencer_clock_bit double (bit_of double (divider_at d i)) some

pub meets : {double : Bool} {d : Divider} {a : Apu} {i n some n' : ℕ} {m : Met} {bit : Bool} {v : ℕ}
    → n ≡ some + n' → OneBit double d i some → v ≡ divider_at d i → bit ≡ bit_of double v
    → m ≡ met_of a.clocks_counter a.power a.divider_sequencer_clock_bit double bit some → Meets double d a i n some n' m
meets {double} {a = a} {some = some} l same_bit ve be me =
    record {
      split = l;
      same_bit = same_bit;
      is = me ∙ ap (λ (b : Bool). met_of a.clocks_counter a.power a.divider_sequencer_clock_bit double b some) (be ∙ ap (bit_of double) ve);
    }

-- ---- in numbers alone: such calls, on a unit that owes working clocks
module _ {double : Bool} {d : Divider} {a : Apu} {i n some n' : ℕ} {m : Met} (owed : ℕ) (h : a.clocks_counter ≤ 1) (s : Meets double d a i n some n' m) where
  abbrev bit : Bool
  bit = bit_of double (divider_at d i)

  abbrev met : Met
  met = met_of a.clocks_counter a.power a.divider_sequencer_clock_bit double bit some

  small : a.clocks_counter < 2
  small = below h
    where
      below : {n : ℕ} → n ≤ 1 → n < 2
      below h = omega arith

  by_calls : rows double d i n (ran_of owed a) ≡ rows double d (i + some) n' (iterate some (call_by double bit) (ran_of owed a))
  by_calls =
      ap (λ (k : ℕ). rows double d i k (ran_of owed a)) s.split
      ∙ rows_split double d i some n' (ran_of owed a)
      ∙ ap (rows double d (i + some) n') (by_bit double bit d i some (ran_of owed a) s.same_bit)

  pub half_few : m.half ≤ 1
  half_few = rw s.is (met_half a.clocks_counter a.power a.divider_sequencer_clock_bit double bit some)

  -- the bit does not fall: their working clocks are owed
  pub calls-on : m.fell ≡ false
      → rows double d i n (ran_of owed a) ≡ rows double d (i + some) n' (ran_of (owed + m.working) (marked a m.half m.stored))
  calls-on = subst On (sym s.is) (λ e. by_calls ∙ ap (rows double d (i + some) n') (met_on double bit some owed (none a) small e))
    where
      On : Met → Type 0
      On x = x.fell ≡ false → rows double d i n (ran_of owed a) ≡ rows double d (i + some) n' (ran_of (owed + x.working) (marked a x.half x.stored))

  -- it falls with the first of them: one working clock more than is owed, the sequencer's step, and the others are owed
  pub calls_fell : m.fell ≡ true
      → rows double d i n (ran_of owed a)
      ≡ rows double d (i + some) n' (iterate (m.working - 1) working_on (fallen_take (ran_of (owed + 1) (marked a m.half a.divider_sequencer_clock_bit))))
  calls_fell = subst Fell (sym s.is) (λ e. by_calls ∙ ap (rows double d (i + some) n') (met_fell double bit some owed (none a) small e))
    where
      down : Met → Take
      down x = iterate (x.working - 1) working_on (fallen_take (ran_of (owed + 1) (marked a x.half a.divider_sequencer_clock_bit)))

      Fell : Met → Type 0
      Fell x = x.fell ≡ true → rows double d i n (ran_of owed a) ≡ rows double d (i + some) n' (down x)

  pub fell_one : m.fell ≡ true → 1 ≤ m.working
  fell_one =
      subst (λ (x : Met). x.fell ≡ true → 1 ≤ x.working) (sym s.is)
      (fell_some a.clocks_counter a.power a.divider_sequencer_clock_bit double bit some)

-- ---- the same in a player's loop
module _
    {double : Bool} {d : Divider} {p : Play} {out₀ out : List ℕ} {whole : Take} {a : Apu} {at i n some n' : ℕ} {m : Met}
    (then : Later)
    (owed : ℕ)
    (g : Going p out₀ whole a at out (then.on (rows double d i n (ran_of owed a))))
    (s : Meets double d a i n some n' m)
  where
    -- what is still to come after these calls
    abbrev after : Take → Take
    after t = then.on (rows double d (i + some) n' t)

    abbrev few : a.clocks_counter ≤ 1
    few = g.ready.held.clocks

    -- ---- the bit does not fall
    abbrev on : Apu
    on = marked a m.half m.stored

    pub turn_on : m.fell ≡ false → Ready on × Going p out₀ whole on at out (after (ran_of (owed + m.working) on))
    turn_on e =
        let ready = marked_ready a m.half m.stored (half_few owed few s) g.ready in
        (ready, reckoned g _ _ ready (ap then.on (calls-on owed few s e)))

    -- ---- it falls
    abbrev falling : Apu
    falling = marked a m.half a.divider_sequencer_clock_bit

    abbrev first : Take
    first = ran_of (owed + 1) falling

    abbrev down : Apu
    down = fallen first.apu

    pub record Falls : Type 0 where
      pub ready : Ready falling
      pub count : 1 ≤ m.working
      pub room : at + length first.bytes ≤ length out
      pub half_is : down.clocks_counter ≡ m.half
      pub turn : Going p out₀ whole down (at + length first.bytes) (sets out at first.bytes) (after (ran_of (m.working - 1) down))

    pub turn_fell : m.fell ≡ true → Falls
    turn_fell e =
        let ready = marked_ready a m.half a.divider_sequencer_clock_bit (half_few owed few s) g.ready in
        record {
          ready = ready;
          count = fell_one owed few s e;
          room = room_now g first.bytes rest fell_is;
          half_is = (advances (with_bit first.apu false)).half ∙ ap (λ (x : Take). x.apu.clocks_counter) (ran_own (owed + 1) (none falling));
          turn = written g first.bytes rest fell_is down (fallen_ready _ (ran_ready (owed + 1) _ ready));
        }
      where
        rest : Take
        rest = after (ran_of (m.working - 1) down)

        fell_is : then.on (rows double d i n (ran_of owed a)) ≡ front first.bytes rest
        fell_is =
            ap then.on (calls_fell owed few s e)
            ∙ ap after (fallen_front (m.working - 1) first)
            ∙ (calls_then double d (i + some) n' then).behind first.bytes (ran_of (m.working - 1) down)
