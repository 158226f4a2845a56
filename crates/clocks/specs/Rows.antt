-- A row of calls C on states S, whatever unit they belong to: the state after it, and each call as the clocks see it. Assumes nothing.
use Rattle.std.specs.Prelude.{List, [], ◌∷◌}
use Rattle.clocks.specs.Calls.{Call}

-- the state after a row of calls, the first one first
unfoldable pub steps : {S C : Type 0} → (C → S → S) → List C → S → S
steps step [] s = s
steps step (c ∷ cs) s = steps step cs (step c s)

-- their kinds; which one a call is may turn on the state that it finds: a clock call is refused there or not
unfoldable pub kinds : {S C : Type 0} → (C → S → Call) → (C → S → S) → List C → S → List Call
kinds kind step [] s = []
kinds kind step (c ∷ cs) s = kind c s ∷ kinds kind step cs (step c s)
