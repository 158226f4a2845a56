-- At every turn the bytes put so far, and those of what is to come, are those of all. Assumes nothing.
use Prim.{⊥}
use Prim.Native.Nat.{ℕ, ◌+◌, ◌-◌, ◌*◌, ◌/◌, ◌%◌, ◌≤◌}
use mathlib.Core.Path.{◌≡◌, sym, ap, ◌∙◌}
use mathlib.Core.List.{List, [], ◌∷◌, ◌++◌, append-nil, append_assoc}
use native.Mathlib.Nat.{zero-add}
use native.Mathlib.Omega.{arith}
use Rattle.std.proofs.lemmas.List.{take_rest, drop-drop, drop_all}
use borrow.Author.Tests.{eq-eqb, ne_eqb}
use borrow.Rule.Slice.PartMut.{put_mid}
use lib.ListN.{length, take, drop, length-append, length-drop}
use lib.Seq.{sets, length-sets, sets-eq}
use Rattle.ground.specs.Pick.{pick}
use Rattle.log_items.proofs.Stores.{sets_append}
use Rattle.log_vgm.specs.declared.clockwork.Walk.{Walk}
use Rattle.log_vgm.specs.declared.command.Taken.{Taken}
use Rattle.log_vgm.specs.Commands.{ended, stopped, after, commands_from}
use Rattle.log_vgm.specs.Clockwork.{walked_of}
use Rattle.log_vgm.specs.Log.{clock_record, wholes, rest_of, wait_records, record_bytes, written, bytes_by, bytes_on, opening, wait_bytes}
use Rattle.log_vgm.proofs.Lengths.{written_append, wholes_long, wait_long}
use Rattle.log_vgm.proofs.Counted.{wholes_more, wait_alike}

-- ---- bytes at the front of a part of the lent bytes, as a run of stores
pub front_put : (out bytes : List ℕ) → length bytes ≤ length out → bytes ++ drop (length bytes) out ≡ sets out 0 bytes
front_put out bytes h = sym (rw (zero-add (length bytes)) at (sets-eq bytes out 0 (rw (zero-add (length bytes)) h)))

pub front_append : (out xs ys : List ℕ) → sets (sets out 0 xs) (length xs) ys ≡ sets out 0 (xs ++ ys)
front_append out xs ys = sym (rw (zero-add (length xs)) at (sets_append out 0 xs ys))

module _ (out : List ℕ) (at : ℕ) where
  abbrev part : List ℕ
  part = take (length out - at) (drop at out)

  pub part_long : length part ≡ length out - at
  part_long = rw (take_rest out at) (length-drop at out)

  pub part_put : (bytes : List ℕ) → at + length bytes ≤ length out → {put : List ℕ} → put ≡ sets part 0 bytes
      → put_mid at (length out - at) out put ≡ sets out at bytes
  part_put bytes h {put} e =
      let few : length bytes ≤ length (drop at out) = omega (arith, length-drop at out) in
      let here : put ≡ bytes ++ drop (at + length bytes) out =
      e ∙ rw (take_rest out at) (sym (front_put (drop at out) bytes few) ∙ ap (λ (l : List ℕ). bytes ++ l) (drop-drop (length bytes) at out)) in
      let none : drop (length out - at) (drop at out) ≡ [] = drop_all (length out - at) (drop at out) (omega (arith, length-drop at out)) in
      rw (here, none, append-nil (bytes ++ drop (at + length bytes) out)) (sym (sets-eq bytes out at h ∙ append_assoc (take at out) bytes _))

-- ---- records of 16,384 calls
pub one_more : (out₀ out : List ℕ) (calls i : ℕ) → out ≡ sets out₀ 0 (written (wholes calls i)) → {out' : List ℕ}
    → out' ≡ sets out (i * 8) (record_bytes (clock_record calls 16384)) → out' ≡ sets out₀ 0 (written (wholes calls (i + 1)))
unfolding written
one_more out₀ out calls i is {out'} e =
    let one = clock_record calls 16384 ∷ [] in
    let here : i * 8 ≡ length (written (wholes calls i)) = omega (arith, wholes_long calls i) in
    e
    ∙ rw (is, here) (front_append out₀ (written (wholes calls i)) (record_bytes (clock_record calls 16384)))
    ∙ ap (sets out₀ 0) (sym (written_append (wholes calls i) one) ∙ ap written (sym (wholes_more calls i)))

-- ---- a wait: its records of 16,384 calls, then one for the rest
module _ (C n : ℕ) where
  abbrev whole : List ℕ
  whole = written (wholes C (n / 16384))

  abbrev bytes : List ℕ
  bytes = written (wait_records C n)

  none_left : n % 16384 ≡ 0 → whole ≡ bytes
  unfolding rest_of pick written
  none_left e = rw (wait_alike C n, written_append (wholes C (n / 16384)) (rest_of C (n % 16384)), eq-eqb _ _ e, append-nil whole)

  some_left : (n % 16384 ≡ 0 → ⊥) → whole ++ record_bytes (clock_record C (n % 16384)) ≡ bytes
  unfolding rest_of pick written
  some_left e = rw (wait_alike C n, written_append (wholes C (n / 16384)) (rest_of C (n % 16384)), ne_eqb _ _ e)

  pub wholes_fit : n / 16384 * 8 ≤ length bytes
  unfolding wait_bytes
  wholes_fit = rw (wait_long C n) (omega arith)

  pub rest_fits : (n % 16384 ≡ 0 → ⊥) → n / 16384 * 8 + 8 ≡ length bytes
  unfolding wait_bytes pick
  rest_fits e = rw (wait_long C n, ne_eqb _ _ e)

  module _ (out : List ℕ) {first : List ℕ} (put : first ≡ sets out 0 whole) where
    pub none_put : n % 16384 ≡ 0 → (first ≡ sets out 0 bytes) × (n / 16384 * 8 ≡ length bytes)
    none_put e = (put ∙ ap (sets out 0) (none_left e), sym (wholes_long C (n / 16384)) ∙ ap length (none_left e))

    pub rest_put : (n % 16384 ≡ 0 → ⊥) → {second : List ℕ} → second ≡ sets first (n / 16384 * 8) (record_bytes (clock_record C (n % 16384)))
        → (second ≡ sets out 0 bytes) × (n / 16384 * 8 + 8 ≡ length bytes)
    rest_put e {second} f =
        let here : n / 16384 * 8 ≡ length whole = sym (wholes_long C (n / 16384)) in
        let rest = record_bytes (clock_record C (n % 16384)) in (
          f ∙ rw (put, here) (front_append out whole rest) ∙ ap (sets out 0) (some_left e),
          rest_fits e,
        )

-- ---- all commands
pub record Putting (s : List ℕ) (from : Walk) (out₀ : List ℕ) (out : List ℕ) (walk : Walk) (at : ℕ) : Type 0 where
  pub gone : List ℕ
  pub here : at ≡ length gone
  pub bytes : out ≡ sets out₀ 0 gone
  pub rest : gone ++ bytes_on walk.clockwork (commands_from s walk.at) ≡ bytes_on from.clockwork (commands_from s from.at)
  pub room : length (bytes_on from.clockwork (commands_from s from.at)) ≤ length out₀

module _ {s : List ℕ} {from : Walk} {out₀ : List ℕ} {out : List ℕ} {walk : Walk} {at : ℕ} (inv : Putting s from out₀ out walk at) where
  pub put_same : length out ≡ length out₀
  put_same = ap length inv.bytes ∙ length-sets out₀ 0 inv.gone

  module _ (taken : Taken) (step : commands_from s walk.at ≡ after taken.command (commands_from s (walk.at + 1 + taken.more))) where
    abbrev next : List ℕ
    next = bytes_by walk.clockwork taken.command

    abbrev on : Walk
    on = walked_of walk taken

    whole_is : (inv.gone ++ next) ++ bytes_on on.clockwork (commands_from s on.at) ≡ bytes_on from.clockwork (commands_from s from.at)
    unfolding bytes_on
    whole_is =
        append_assoc inv.gone next (bytes_on on.clockwork (commands_from s on.at))
        ∙ ap (λ (l : List ℕ). inv.gone ++ l) (sym (ap (bytes_on walk.clockwork) step))
        ∙ inv.rest

    pub next_fits : at + length next ≤ length out
    next_fits =
        let all = ap length whole_is in
        let l = length-append (inv.gone ++ next) (bytes_on on.clockwork (commands_from s on.at)) in
        let m = length-append inv.gone next in
        omega (arith, put_same, inv.here, inv.room)

    pub put_more : {walk' : Walk} → walk' ≡ on → {out' : List ℕ} → out' ≡ sets out at next → {at' : ℕ} → at' ≡ at + length next
        → Putting s from out₀ out' walk' at'
    put_more w {out'} o {at'} a =
        record {
          gone = inv.gone ++ next;
          here = let l = length-append inv.gone next in omega (arith, a, inv.here, l);
          bytes = o ∙ rw (inv.bytes, inv.here) (front_append out₀ inv.gone next);
          rest = rw w whole_is;
          room = inv.room;
        }

  -- nothing is left, whether the commands end or one is not taken
  all_put : bytes_on walk.clockwork (commands_from s walk.at) ≡ [] → out ≡ sets out₀ 0 (bytes_on from.clockwork (commands_from s from.at))
  all_put e =
      inv.bytes
      ∙ ap (sets out₀ 0) (sym (append-nil inv.gone) ∙ ap (λ (l : List ℕ). inv.gone ++ l) (sym e) ∙ inv.rest)

  pub ended_put : commands_from s walk.at ≡ ended → out ≡ sets out₀ 0 (bytes_on from.clockwork (commands_from s from.at))
  unfolding bytes_on
  ended_put e = all_put (ap (bytes_on walk.clockwork) e)

  pub stopped_put : {where_to : ℕ} → commands_from s walk.at ≡ stopped where_to → out ≡ sets out₀ 0 (bytes_on from.clockwork (commands_from s from.at))
  unfolding bytes_on
  stopped_put e = all_put (ap (bytes_on walk.clockwork) e)

-- ---- the opening, and the commands behind it
pub opening_fits : (l : List ℕ) (n : ℕ) → length (opening ++ l) ≤ n → (8 ≤ n) × (8 + length l ≤ n)
opening_fits l n h = let e = length-append opening l in (omega arith, omega arith)
