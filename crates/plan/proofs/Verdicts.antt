-- What a list of records says beyond its end.
use Rattle.std.proofs.Common.{pos}
use Rattle.mojette.specs.declared.direction.Record.{Record}

abbrev pub no_record : Record
no_record = record { direction = record { p = pos 0; q = pos 0 }; cause = 0 }
