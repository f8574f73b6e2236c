-- Samples found in a text by the byte of their codes.
use Rattle.std.specs.Prelude.{ℕ, suc, ◌+◌, ◌*◌, List, map, take, drop}
use Rattle.std.specs.List.{range_with_len}
use Rattle.std.specs.Option.{unwrap_or}
use Rattle.samples.specs.declared.coded.Coded.{Ghosts as Codes}
use Rattle.samples.specs.declared.kind.Kind.{Ghosts as Operations}
use Rattle.samples.specs.Reading.{read_code}

module _ {S : Type 0} (K : Operations S) (C : Codes S) (t : List ℕ) where
  -- the sample whose code begins at byte o; zero where there is no code
  abbrev pub found_at : ℕ → S
  found_at o = unwrap_or (read_code C (take C.width (drop o t))) K.zero

  -- the samples of b codes, each after a space, from byte o on
  abbrev pub found_from : ℕ → ℕ → List S
  found_from o b = map (λ j. found_at (o + j * suc C.width + 1)) (range_with_len 0 b)
