use Rattle.std.proofs.Common.{◌≡◌, ◌≤◌, ◌⊎◌, refl, inl, inr}
use Rattle.walk.proofs.Tallies.{column_here, none_here}
use Rattle.walk.proofs.columns.Columns.pass.Goals as goal
use Rattle.walk.proofs.columns.Columns.pass.Goals.{else-self-bin-via-then-self-bin+else-bin-self, else-self-bin-via-else-self-bin}

pub returns-then-bin-self : goal.returns-then-bin-self
returns-then-bin-self c P q first x = column_here c.args.self.now _ P q first c.args.bin x refl refl c.if-self-bin.true c.if-bin-self.true refl

pub returns-else-self-bin : goal.returns-else-self-bin
returns-else-self-bin c P q first x =
    let miss : (c.args.self.now.next ≡ c.args.bin → ⊥) ⊎ (c.args.self.now.end ≤ c.args.bin) = elim c.else-self-bin.branch [
      | else-self-bin-via-then-self-bin+else-bin-self w ↦ inr w.if-bin-self.false
      | else-self-bin-via-else-self-bin w ↦ inl w.if-self-bin.false
    ] in
    none_here c.args.self.now c.args.self.now P q first c.args.bin x refl refl miss refl
