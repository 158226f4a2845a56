-- A turn of `reckon`: calls of the clock record at the place, which see one divider bit, in numbers alone. Assumes nothing.
use Prim.Native.Nat.{ℕ, ◌+◌, ◌-◌, ◌≤◌, ◌<◌}
use mathlib.Core.Path.{◌≡◌, refl, sym, ◌∙◌, ap}
use mathlib.Core.Bool.{Bool, true, false, true≢false}
use mathlib.Core.List.{List}
use native.Mathlib.Omega.{arith}
use Rattle.std.specs.Prelude.{Option, Some, None}
use Rattle.ground.specs.Pick.{pick}
use Rattle.ground.specs.Iterate.{iterate}
use Rattle.apu.specs.declared.Apu.{Apu}
use Rattle.apu_clock.specs.Sequencer.{bit_of, advanced}
use Rattle.log_records.specs.Judge.{Judged}
use Rattle.log_records.specs.declared.judge.Clocks.{Clocks}
use Rattle.log_records.specs.Records.{clocks_at, clock_end, records_from, unrolled}
use Rattle.log_records.proofs.Framing.{clocks_stand}
use Rattle.apu_run.specs.Working.{Take, working_on, ran_of}
use Rattle.log_records.specs.Divider.{divider_at}
use Rattle.apu_run.specs.Owed.{OneBit, met_of, marked}
use Rattle.apu_run.specs.declared.calls.Met.{Met}
use Rattle.apu_run.proofs.Marks.{ran_marked, ran_own}
use Rattle.apu_run.proofs.Stretches.{fallen_take, met_half, met_few, fell_some}
use Rattle.apu_run.proofs.Turns.{none, Meets, calls-on, calls_fell}
use Rattle.log_player.specs.declared.reckon.Reckoned.{Reckoned}
use Rattle.log_player.specs.Coming.{records_on, calls_on, coming_at, Between, stepped_on, Reckons}
use Rattle.log_player.proofs.Coming.{coming_calls, Passed, passed_some, passed_all, stepped_none}

-- ---- the loop: nothing has fallen yet, and what is owed is little
pub record Reckoning (v : ℕ) (s : List ℕ) (at call more : ℕ) (power : Bool) (half : ℕ) (stored : Bool) (r : Reckoned) : Type 0 where
  pub far : Reckons v s at call more power half stored r
  pub level : r.fell ≡ false
  pub only : r.more ≡ 0
  pub little : r.owed ≤ 16383

-- it begins with what was owed before
pub reckoning : {v : ℕ} {s : List ℕ} {power : Bool} {r : Reckoned}
    → Between v s r.at r.call → r.owed ≤ 16383 → r.half ≤ 1 → r.fell ≡ false → r.more ≡ 0
    → Reckoning v s r.at r.call r.owed power r.half r.stored r
reckoning {v} {s} {power} {r} b l h e z =
    record {
      far =
          record {
            same = λ a _. ap (coming_at v s r.at r.call) (sym (stepped_none r e z (ran_of r.owed (marked a r.half r.stored))));
            place = b;
            halves = h;
            few = omega arith;
            fewer = omega arith;
            less = omega arith;
            falls = λ f. absurd (true≢false (sym f ∙ e));
          };
      level = e;
      only = z;
      little = l;
    }

-- none is there, by what the code knows
pub none_of : {x y : Option Clocks} → x ≡ y → ((c : Clocks) → x ≡ Some c → ⊥) → y ≡ None
none_of {x} e n = sym e ∙ go x refl
  where
    go : (o : Option Clocks) → x ≡ o → x ≡ None
    go None p = p
    go (Some c) p = absurd (n c p)

-- a clock record at the place has calls left
pub calls_left : {v : ℕ} {s : List ℕ} {at call more : ℕ} {power : Bool} {half : ℕ} {stored : Bool} {r : Reckoned} {c : Clocks}
    → Reckoning v s at call more power half stored r → clocks_at v s r.at ≡ Some c → r.call < c.count
calls_left g e = g.far.place.within _ e

pub calls_few : {v : ℕ} {s : List ℕ} {at call more : ℕ} {power : Bool} {half : ℕ} {stored : Bool} {r : Reckoned} {c : Clocks}
    → Reckoning v s at call more power half stored r → clocks_at v s r.at ≡ Some c → c.count ≤ 16384
calls_few {v} {s} {r = r} g e = (clocks_stand v s r.at e).few

-- ---- a turn's calls: some of those that the clock record at the place still has
pub record Turn (v : ℕ) (s : List ℕ) (power : Bool) (r : Reckoned) (c : Clocks) (some : ℕ) (m : Met) : Type 0 where
  pub found : clocks_at v s r.at ≡ Some c
  pub first : 1 ≤ some
  pub within : some ≤ c.count - r.call
  pub same_bit : OneBit c.double c.divider r.call some
  pub is : m ≡ met_of r.half power r.stored c.double (bit_of c.double (divider_at c.divider r.call)) some

pub turn_of : {v : ℕ} {s : List ℕ} {power : Bool} {r : Reckoned} {c : Clocks} {some byte : ℕ} {bit : Bool} {m : Met}
    → clocks_at v s r.at ≡ Some c
    → ((1 ≤ some) × (some ≤ c.count - r.call)) × OneBit c.double c.divider r.call some
    → byte ≡ divider_at c.divider r.call → bit ≡ bit_of c.double byte → m ≡ met_of r.half power r.stored c.double bit some
    → Turn v s power r c some m
turn_of {power = power} {r} {c} {some} found stretch ve be me =
    record {
      found = found;
      first = stretch.0.0;
      within = stretch.0.1;
      same_bit = stretch.1;
      is = me ∙ ap (λ (b : Bool). met_of r.half power r.stored c.double b some) (be ∙ ap (bit_of c.double) ve);
    }

module _ {v : ℕ} {s : List ℕ} {power : Bool} {r : Reckoned} {c : Clocks} {some : ℕ} {m : Met} (t : Turn v s power r c some m) where
  abbrev d : Bool
  d = c.double

  abbrev bit : Bool
  bit = bit_of d (divider_at c.divider r.call)

  pub turn_count : c.count ≤ 16384
  turn_count = (clocks_stand v s r.at t.found).few

  pub turn_half : m.half ≤ 1
  turn_half = rw t.is (met_half r.half power r.stored d bit some)

  pub turn_few : r.half ≤ 1 → m.working ≤ 16384
  turn_few h = rw t.is (met_few r.half power r.stored d bit some h (omega (arith, t.within, turn_count)))

  pub turn_fell : m.fell ≡ true → 1 ≤ m.working
  turn_fell = rw t.is (fell_some r.half power r.stored d bit some)

  -- the same for a unit with that power
  meets : (a : Apu) → a.power ≡ power
      → Meets d c.divider (marked a r.half r.stored) r.call (c.count - r.call) some (c.count - (r.call + some)) m
  meets a e =
      record {
        split = omega (arith, t.within);
        same_bit = t.same_bit;
        is = t.is ∙ ap (λ (p : Bool). met_of r.half p r.stored d bit some) (sym e);
      }

  -- these calls are past, and nothing else has changed but the half-clocks
  pub record Past (r' : Reckoned) : Type 0 where
    pub passed : Passed v s r.at t.found r.call some r'.at r'.call
    pub owed : r'.owed ≡ r.owed
    pub more : r'.more ≡ r.more
    pub half : r'.half ≡ m.half
    pub fell : r'.fell ≡ r.fell

  pub past_all : {r' : Reckoned} → r.call + some ≡ c.count
      → r' ≡ record { at = c.end; call = 0; owed = r.owed; more = r.more; half = m.half; stored = r.stored; fell = r.fell } → Past r'
  past_all e q =
      let within : r.call < c.count = omega (arith, t.first) in
      let end : c.end ≡ clock_end v r.at = (clocks_stand v s r.at t.found).ends in
      let is =
      q
      ∙ ap (λ (n : ℕ). record { at = n; call = 0; owed = r.owed; more = r.more; half = m.half; stored = r.stored; fell = r.fell }) end in
      rw is
      (record {
        passed = passed_all v s r.at t.found r.call some within e;
        owed = refl;
        more = refl;
        half = refl;
        fell = refl;
      })

  pub past_some : {r' : Reckoned} → (r.call + some ≡ c.count → ⊥)
      → r' ≡ record { at = r.at; call = r.call + some; owed = r.owed; more = r.more; half = m.half; stored = r.stored; fell = r.fell } → Past r'
  past_some e q =
      let within : r.call + some < c.count = omega (arith, t.first, t.within, e) in
      rw q
      (record {
        passed = passed_some v s r.at t.found r.call some t.first within;
        owed = refl;
        more = refl;
        half = refl;
        fell = refl;
      })

-- a fall: the step on a unit whose stored bit is marked false before the run is that after it
fallen_marked : (n : ℕ) (a : Apu) (h : ℕ) (x : Bool)
    → fallen_take (ran_of n (marked a h x)) ≡ record { apu = advanced (ran_of n (marked a h false)).apu; bytes = (ran_of n (marked a h false)).bytes }
fallen_marked n a h x =
    ap fallen_take (ran_own n (none (marked a h x)))
    ∙ ap (λ (t : Take). record { apu = advanced t.apu; bytes = t.bytes }) (sym (ran_marked n (none (marked a h x)) h false))

module _
    {v : ℕ} {s : List ℕ} {at call more : ℕ} {power : Bool} {half : ℕ} {stored : Bool} {r r' : Reckoned} {c : Clocks} {some : ℕ} {m : Met}
    (g : Reckoning v s at call more power half stored r)
    (t : Turn v s power r c some m)
    (p : Past t r')
  where
    abbrev after : List Judged
    after = unrolled (records_from v s (clock_end v r.at))

    working_few : m.working ≤ 16384
    working_few = turn_few t g.far.halves

    -- what was to come before these calls
    before : (a : Apu) → a.power ≡ power
        → coming_at v s at call (ran_of more (marked a half stored)) ≡ records_on after (calls_on (Some c) r.call (ran_of r.owed (marked a r.half r.stored)))
    before a e =
        let x = ran_of r.owed (marked a r.half r.stored) in
        g.far.same a e
        ∙ ap (coming_at v s r.at r.call) (stepped_none r g.level g.only x)
        ∙ coming_calls v s r.at t.found r.call x

    -- and after them
    past : (x : Take) → records_on after (calls_on (Some c) (r.call + some) x) ≡ coming_at v s r'.at r'.call x
    past x = p.passed.coming x

    -- the bit does not fall
    abbrev on : Reckoned
    on = record { at = r'.at; call = r'.call; owed = r'.owed + m.working; more = r'.more; half = r'.half; stored = m.stored; fell = r'.fell }

    pub reckons_on : m.fell ≡ false → Reckons v s at call more power half stored on
    reckons_on f =
        record {
          same = same;
          place = p.passed.place;
          halves = rw p.half (turn_half t);
          few = omega (arith, g.little, working_few, p.owed);
          fewer = rw p.more g.far.fewer;
          less = omega (arith, g.far.less, p.passed.less, working_few, p.owed, p.more);
          falls = λ e. absurd (true≢false (sym e ∙ p.fell ∙ g.level));
        }
      where
        same : (a : Apu) → a.power ≡ power
            → coming_at v s at call (ran_of more (marked a half stored))
            ≡ coming_at v s r'.at r'.call (stepped_on on (ran_of (r'.owed + m.working) (marked a r'.half m.stored)))
        same a e =
            let x = ran_of (r.owed + m.working) (marked a m.half m.stored) in
            rw (p.owed, p.half)
            (before a e
            ∙ ap (records_on after) (calls-on r.owed g.far.halves (meets t a e) f)
            ∙ past x
            ∙ ap (coming_at v s r'.at r'.call) (sym (stepped_none on (p.fell ∙ g.level) (p.more ∙ g.only) x)))

    pub reckoning_on : m.fell ≡ false → r'.owed + m.working ≤ 16383 → Reckoning v s at call more power half stored on
    reckoning_on f l = record { far = reckons_on f; level = p.fell ∙ g.level; only = p.more ∙ g.only; little = l }

    -- it falls with the first of them
    abbrev down : Reckoned
    down = record { at = r'.at; call = r'.call; owed = r'.owed + 1; more = m.working - 1; half = r'.half; stored = false; fell = true }

    pub reckons_fell : m.fell ≡ true → Reckons v s at call more power half stored down
    unfolding pick
    reckons_fell f =
        record {
          same = same;
          place = p.passed.place;
          halves = rw p.half (turn_half t);
          few = omega (arith, g.little, p.owed);
          fewer = omega (arith, working_few);
          less = omega (arith, g.far.less, p.passed.less, working_few, p.owed);
          falls = λ _. omega (arith, g.far.less, p.passed.less, working_few, p.owed);
        }
      where
        same : (a : Apu) → a.power ≡ power
            → coming_at v s at call (ran_of more (marked a half stored))
            ≡ coming_at v s r'.at r'.call (stepped_on down (ran_of (r'.owed + 1) (marked a r'.half false)))
        same a e =
            rw (p.owed, p.half)
            (before a e
            ∙ ap (records_on after) (calls_fell r.owed g.far.halves (meets t a e) f)
            ∙ past _
            ∙ ap (λ (x : Take). coming_at v s r'.at r'.call (iterate (m.working - 1) working_on x)) (fallen_marked (r.owed + 1) a m.half r.stored))
