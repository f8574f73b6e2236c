-- Numbers brought between -1000 and 1000: every number of a file in range is nearer to 0.
use Rattle.std.specs.Prelude.{min, ℤ, pos, negsuc, Some, None, Option}

abbrev pub capped : Option ℤ → Option ℤ
capped None = None
capped (Some (pos n)) = Some (pos (min 1000 n))
capped (Some (negsuc n)) = Some (negsuc (min 999 n))
