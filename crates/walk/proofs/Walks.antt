-- The walk along the pixels of a line: to the first, and from one to the next.
use Rattle.std.proofs.Common.{◌≡◌, ℕ, ◌+◌, ◌-◌, ◌*◌, ◌<◌, ◌≤◌, Bool, true, false, ◌⊎◌, is_some, Some, None, Option, refl, ap, ◌∙◌, subst, inl, inr, ⊎_elim, arith, MatchOption}
use Rattle.std.proofs.lemmas.Nat.{mul-le}
use Rattle.std.proofs.lemmas.Bool.{cases_lt, both_ways, true≢false, false≢true}
use Rattle.walk.specs.declared.line.Line.{Line}
use Rattle.walk.specs.declared.pixel.Pixel.{Pixel}
use Rattle.walk.specs.Walking.{On, Ahead, pixel_at}

module _ (l : Line) where
  abbrev q : ℕ
  q = l.place.q

  abbrev s : ℕ
  s = l.place.slope

  -- To the first pixel ------------------------------------------------------------------------------------------

  module _ (x y : ℕ) (ahead : Ahead l x y) (u v : ℕ) (p : On l u v) where
    pub short : x * q + y * s < l.bin → ((u ≤ x) × (y < v))
    short under =
        let a = ahead u v p in
        let b = mul-le u q x q a.0 (omega arith) in
        (a.0, ⊎_elim (λ (k : y < v). k) (λ (k : v ≤ y). absurd (let d = mul-le v s y s k (omega arith) in omega arith)) (cases_lt y v))

  -- From one to the next ----------------------------------------------------------------------------------------

  -- a pixel that is not before (x, y) is (x, y), or at least one step on
  jump : (x y u v : ℕ) → On l x y → On l u v → u ≤ x → y ≤ v → ((u ≡ x) × (v ≡ y)) ⊎ ((u + s ≤ x) × (y + q ≤ v))
  jump x y u v e f h h' = go (x - u) (v - y) (omega arith) (omega arith)
    where
      go : (a c : ℕ) → x ≡ u + a → v ≡ y + c → ((u ≡ x) × (v ≡ y)) ⊎ ((u + s ≤ x) × (y + q ≤ v))
      go a c k k' =
          let same : a * q ≡ c * s =
          let k₁ = ap (λ (n : ℕ). n * q) k in
          let k₂ = ap (λ (n : ℕ). n * s) k' in
          omega (arith, e.on, f.on) in
          let zeros = l.on_tile.coprime a c same in
          ⊎_elim
          (λ (m : a < s).
          let none = zeros.0 m in
          let k₃ : a * q ≡ 0 = ap (λ (n : ℕ). n * q) none ∙ omega arith in
          let k₄ = mul-le c 1 c s (omega arith) (omega arith) in
          inl (omega arith, omega arith))
          (λ (m : s ≤ a). ⊎_elim
          (λ (m' : c < q).
          let none = zeros.1 m' in
          let k₃ : c * s ≡ 0 = ap (λ (n : ℕ). n * s) none ∙ omega arith in
          let k₄ = mul-le a 1 a q (omega arith) (omega arith) in
          inl (omega arith, omega arith))
          (λ (m' : q ≤ c). inr (omega arith, omega arith))
          (cases_lt c q))
          (cases_lt a s)

  module _ (test : ℕ → ℕ → Bool) where
    -- a pixel of the line that passes
    pub record Passes (u v : ℕ) : Type 0 where
      pub on : On l u v
      pub is : test u v ≡ true

    -- No other does.
    pub record Alone (w : Pixel) : Type 0 where
      pub u : ℕ
      pub v : ℕ
      pub same : w ≡ pixel_at l u v
      pub here : Passes u v
      pub only : (a b : ℕ) → Passes a b → ((a ≡ u) × (b ≡ v))

    abbrev pub NoneAlone : Type 0
    NoneAlone = (w : Pixel) → Alone w → ⊥

    pub record OnlySoFar (More : ℕ → ℕ → Type 0) (w : Pixel) : Type 0 where
      pub u : ℕ
      pub v : ℕ
      pub same : w ≡ pixel_at l u v
      pub here : Passes u v
      pub apart : More u v → ⊥
      pub others : (a b : ℕ) → Passes a b → More a b ⊎ ((a ≡ u) × (b ≡ v))

    -- what passed before the pixels of which More says that they are yet to come
    abbrev Known : (ℕ → ℕ → Type 0) → Option Pixel → Type 0
    Known More None = (u v : ℕ) → Passes u v → More u v
    Known More (Some w) = OnlySoFar More w

    -- before the turn at (x, y), and after it
    abbrev pub Before : Option Pixel → ℕ → ℕ → Type 0
    Before lone x y = Known (λ u v. (u ≤ x) × (y ≤ v)) lone

    abbrev pub After : Option Pixel → ℕ → ℕ → Type 0
    After lone x y = Known (λ u v. (u + s ≤ x) × (y + q ≤ v)) lone

    module _ (x y : ℕ) (on : On l x y) where
      turn_lone : Before None x y → test x y ≡ true → After (Some (pixel_at l x y)) x y
      turn_lone known is = record {
        u = x;
        v = y;
        same = refl;
        here = record { on = on; is = is };
        apart = λ m. let h = l.on_tile.steps in omega (arith, m.0, m.1);
        others = λ a b p. let m = known a b p in ⊎_elim inr inl (jump x y a b on p.on m.0 m.1);
      }

      turn_none : Before None x y → test x y ≡ false → After None x y
      turn_none known not u v p =
          let m = known u v p in
          ⊎_elim
          (λ (e : (u ≡ x) × (v ≡ y)). absurd (both_ways (test x y) not (subst (λ a. test a y ≡ true) e.0 (subst (λ b. test u b ≡ true) e.1 p.is))))
          (λ m'. m')
          (jump x y u v on p.on m.0 m.1)

      turn_some : (w : Pixel) → Before (Some w) x y → test x y ≡ false → After (Some w) x y
      turn_some w known not = record {
        u = known.u;
        v = known.v;
        same = known.same;
        here = known.here;
        apart = λ m. known.apart (omega (arith, m.0), omega (arith, m.1));
        others = λ a b p. ⊎_elim
            (λ (m : (a ≤ x) × (y ≤ b)). ⊎_elim
            (λ (e : (a ≡ x) × (b ≡ y)). absurd (both_ways (test x y) not (subst (λ c. test c y ≡ true) e.0 (subst (λ d. test a d ≡ true) e.1 p.is))))
            inl
            (jump x y a b on p.on m.0 m.1))
            inr
            (known.others a b p);
      }

      pub turn_on : (lone : Option Pixel) → Before lone x y → test x y ≡ false → After lone x y
      turn_on None known not = turn_none known not
      turn_on (Some w) known not = turn_some w known not

      -- a second one
      turn_second : (w : Pixel) → Before (Some w) x y → test x y ≡ true → NoneAlone
      turn_second w known is z alone =
          let first = alone.only known.u known.v known.here in
          let second = alone.only x y (record { on = on; is = is }) in
          known.apart (omega (arith, first.0, second.0), omega (arith, first.1, second.1))

      pub turn_goes_on : (lone : Option Pixel) → s ≤ x → After lone x y → Before lone (x - s) (y + q)
      turn_goes_on None h known = λ u v p. let m = known u v p in (omega (arith, m.0), omega (arith, m.1))
      turn_goes_on (Some w) h known = record {
        u = known.u;
        v = known.v;
        same = known.same;
        here = known.here;
        apart = λ m. known.apart (omega (arith, m.0), omega (arith, m.1));
        others = λ a b p. ⊎_elim (λ (m : (a + s ≤ x) × (y + q ≤ b)). inl (omega (arith, m.0), m.1)) inr (known.others a b p);
      }

      -- no more pixels
      pub turn_ends : (lone : Option Pixel) → (x < s) ⊎ (l.size.rows ≤ y + q) → After lone x y → MatchOption lone NoneAlone Alone
      turn_ends None end known = λ w alone.
          let m = known alone.u alone.v alone.here in
          ⊎_elim (λ (h : x < s). omega (arith, m.0)) (λ (h : l.size.rows ≤ y + q). omega (arith, m.1, alone.here.on.low)) end
      turn_ends (Some w) end known = record {
        u = known.u;
        v = known.v;
        same = known.same;
        here = known.here;
        only = λ a b p. ⊎_elim
            (λ (m : (a + s ≤ x) × (y + q ≤ b)). absurd (⊎_elim (λ (h : x < s). omega (arith, m.0)) (λ (h : l.size.rows ≤ y + q). omega (arith, m.1, p.on.low)) end))
            (λ e. e)
            (known.others a b p);
      }

      -- by whether one passed before
      pub turn_first : (lone : Option Pixel) → is_some lone ≡ false → Before lone x y → test x y ≡ true → After (Some (pixel_at l x y)) x y
      turn_first None e known is = turn_lone known is
      turn_first (Some w) e known is = absurd (true≢false e)

      pub turn_stops : (lone : Option Pixel) → is_some lone ≡ true → Before lone x y → test x y ≡ true → NoneAlone
      turn_stops None e known is = absurd (false≢true e)
      turn_stops (Some w) e known is = turn_second w known is

      pub still_on : s ≤ x → y + q < l.size.rows → On l (x - s) (y + q)
      still_on h h' = record { left = omega (arith, on.left); low = h'; on = go (x - s) (omega arith) }
        where
          go : (d : ℕ) → x ≡ d + s → d * q + (y + q) * s ≡ l.bin
          go d e = let k = ap (λ (n : ℕ). n * q) e in omega (arith, on.on)
