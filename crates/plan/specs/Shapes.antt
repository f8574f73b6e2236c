-- What a plan of the code stands for.
use Rattle.std.specs.Prelude.{List, take}
use Rattle.mojette.specs.Meaning.{Shape}
use Rattle.plan.specs.declared.places.Place.{Place}
use Rattle.plan.specs.declared.plan.Plan.{Plan}
use Rattle.plan.specs.Laid.{shape_from}

abbrev pub places_of : Plan → List Place
places_of x = take x.count x.places

abbrev pub shape : Plan → Shape
shape x = shape_from x.size.columns x.size.rows (places_of x)
