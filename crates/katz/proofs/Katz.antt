-- Katz's theorem: where the criterion fails there is the made ghost, and where it holds there is none.
use Rattle.samples.specs.declared.kind.Kind.{Ghosts as Operations}
use Rattle.mojette.specs.Bins.{whole_directions}
use Rattle.katz.specs.Ghosts.{Katz}
use Rattle.katz.specs.Made.{ghost_tile}
use Rattle.katz.proofs.Made.{ghost_is_made}
use Rattle.katz.proofs.Order.{whole_lawful}
use Rattle.katz.proofs.Zeros.{zero_tile}

pub katz : {S : Type 0} (K : Operations S) → Katz K
katz K P Q es laws =
    let ds = whole_directions es in
    let kept = whole_lawful es laws in (
      λ fails. (ghost_tile K P Q ds, (ghost_is_made K P Q ds kept fails).ghost),
      λ found criterion.
          let g = found.1 in g.nonzero.2 (zero_tile K P Q found.0 ds kept g.vanishes criterion g.nonzero.0 g.nonzero.1),
    )
