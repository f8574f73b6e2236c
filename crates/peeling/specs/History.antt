-- What a row of calls means: which pixels are missing, which bins wait, which grants are out.
-- Nothing here looks at a table or at the state.
use Rattle.std.specs.Prelude.{ℕ, ◌+◌, ◌-◌, Bool, true, not, ◌&&◌, ◌||◌, List, [], ◌∷◌, ◌==◌}
use Rattle.peeling.specs.Counting.{one_if}
use Rattle.peeling.specs.Incidence.{Incidence, pixels_in}

-- A call since the accepted seal: a take that granted a bin, a settle or a give back served with a bin's grant, or a refused call.
pub data Call : Type 0 where
  took settled gave_back : ℕ → Call
  refused : Call

-- The calls since the accepted seal, the newest first.
abbrev pub History : Type 0
History = List Call

module _ (I : Incidence) where
  -- A pixel is missing until a settle is served on a bin in which it alone is missing.
  unfoldable pub missing : History → ℕ → Bool
  missing [] c = true
  missing (took b ∷ h) c = missing h c
  missing (settled b ∷ h) c = missing h c && not (I.lies c b && pixels_in I b (missing h) == 1)
  missing (gave_back b ∷ h) c = missing h c
  missing (refused ∷ h) c = missing h c

  -- how many pixels of bin b are missing
  abbrev pub missing_in : History → ℕ → ℕ
  missing_in h b = pixels_in I b (missing h)

  -- A bin waits from the seal if it has one pixel, from the settle that brings it down to one missing pixel,
  -- and from the give back of its grant, until a take grants it.
  unfoldable pub waits : History → ℕ → Bool
  waits [] b = (missing_in [] b) == 1
  waits (took a ∷ h) b = waits h b && not (a == b)
  waits (settled a ∷ h) b = waits h b || (not (missing_in h b == 1) && missing_in (settled a ∷ h) b == 1)
  waits (gave_back a ∷ h) b = waits h b || a == b
  waits (refused ∷ h) b = waits h b

-- How many grants of bin b are out: a grant is out from its take until a settle or a give back with it.
unfoldable pub out : History → ℕ → ℕ
out [] b = 0
out (took a ∷ h) b = out h b + one_if (a == b)
out (settled a ∷ h) b = out h b - one_if (a == b)
out (gave_back a ∷ h) b = out h b - one_if (a == b)
out (refused ∷ h) b = out h b

-- how many settles were served
unfoldable pub settles : History → ℕ
settles [] = 0
settles (took a ∷ h) = settles h
settles (settled a ∷ h) = settles h + 1
settles (gave_back a ∷ h) = settles h
settles (refused ∷ h) = settles h
