-- Which stream failed.
use Rattle.rebuild.specs.declared.failure.Failure.{Failure}
use Rattle.rebuild.specs.declared.failure.Failure.TheVariants.{Read, Write}

-- what there is to read could not be read
abbrev pub IsUnread : Failure → Type 0
IsUnread (Read _) = Unit {0}
IsUnread (Write _) = ⊥
