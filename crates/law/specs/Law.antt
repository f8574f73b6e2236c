-- The law of a tile's life: what holds each time a call on it ends.
use Rattle.std.specs.Prelude.{◌≡◌, ℕ, ◌*◌, ◌<◌, ◌≤◌, true, false, cond, ◌&&◌, ◌⊎◌, ◌↔◌, List, ◌∷◌, length, take as first, Some, None, Option, ◌==◌, slice_index_or, suc, ◌-◌}
use Rattle.samples.specs.declared.kind.Kind.{Ghosts as Operations}
use Rattle.mojette.specs.Meaning.{Shape, Meaning, Agrees, Ghost, shape_of, bins_of}
use Rattle.mojette.specs.Refusals.{Refusal, no_place_to_load, unloaded_places, ghost_left, nothing_waits, missing_pixels, outstanding_grants}
use Rattle.peeling.specs.declared.state.State.{State}
use Rattle.peeling.specs.Counting.{number, tally, least}
use Rattle.peeling.specs.History.{missing, missing_in, waits, out, settles}
use Rattle.peeling.specs.History.{settled as settled_at}
use Rattle.law.specs.Positions.{incidence}
use Rattle.law.specs.Steps.{Stage, loading, peeling, finished, Tables, Answer, done, granted, settled, refused, Outcome, C, R, with_ghost, seal, take, settle, give_back, finish, load}
use Rattle.law.specs.Leftover.{TellsLeft}
use Rattle.law.specs.Opening.{OpensExactly}
use Rattle.law.specs.Life.{Call, History, loaded_places, since_seal, Does, Life, seals}

abbrev pub Refused : Answer → Type 0
Refused a = (r : Refusal) × (a ≡ refused r)

module _ {S : Type 0} (K : Operations S) (m : Meaning S) where
  -- what the first P·Q cells of the picture hold
  abbrev pub shown : Tables S → List S
  shown t = first (m.P * m.Q) t.picture

  -- T, the number of all bins
  abbrev pub T : ℕ
  T = bins_of (shape_of m)

  -- the refusal for a ghost
  abbrev pub ghosts_remain : Answer
  ghosts_remain = refused (ghost_left (C (shape_of m)) (R (shape_of m)))

  -- After the calls h: the pixel in cell c is missing, or found; so many pixels of bin b are missing; bin b waits;
  -- so many grants of bin b are out; so many settles were served.
  abbrev pub Missing : History → ℕ → Type 0
  Missing h c = missing (incidence (shape_of m)) (since_seal h) c ≡ true

  abbrev pub Found : History → ℕ → Type 0
  Found h c = missing (incidence (shape_of m)) (since_seal h) c ≡ false

  abbrev pub missing_of : History → ℕ → ℕ
  missing_of h b = missing_in (incidence (shape_of m)) (since_seal h) b

  abbrev pub Waits : History → ℕ → Type 0
  Waits h b = waits (incidence (shape_of m)) (since_seal h) b ≡ true

  abbrev pub grants_of : History → ℕ → ℕ
  grants_of h b = out (since_seal h) b

  abbrev pub settles_of : History → ℕ
  settles_of h = settles (since_seal h)

  -- the pixel that alone is missing in bin b
  abbrev pub lone : History → ℕ → Option ℕ
  lone h b =
      cond (missing_of h b == 1)
      (Some (least (m.P * m.Q) (λ c. (incidence (shape_of m)).lies c b && missing (incidence (shape_of m)) (since_seal h) c))) None

  -- On a tile that is loading:
  pub record WhileLoading (h : History) (n : ℕ) (t : Tables S) : Type 0 where
    pub loaded_is : n ≡ loaded_places h
    -- Load is served while places are left, and else refuses.
    pub load_serves : loaded_places h < length m.places → (load K (shape_of m) m n t).answer ≡ done
    pub load_ends : loaded_places h ≡ length m.places → (load K (shape_of m) m n t).answer ≡ refused no_place_to_load
    -- Seal tells how many are left, while some are.
    pub seal_waits : loaded_places h < length m.places → (seal K (shape_of m) n t).answer ≡ refused (unloaded_places (length m.places - loaded_places h))
    -- Seal, once every place is loaded, is served, or refuses for a ghost: exactly when there is one. The picture then holds one.
    pub seal_answers : loaded_places h ≡ length m.places →
        ((seal K (shape_of m) n t).answer ≡ done) ⊎ ((seal K (shape_of m) n t).answer ≡ ghosts_remain)
    pub seal_refuses : loaded_places h ≡ length m.places →
        ((seal K (shape_of m) n t).answer ≡ ghosts_remain) ↔ ((g : List S) × Ghost K m g)
    pub ghost_shown : loaded_places h ≡ length m.places →
        (seal K (shape_of m) n t).answer ≡ ghosts_remain → Ghost K m (shown (seal K (shape_of m) n t).tables)

  -- On a tile that is peeled:
  pub record WhilePeeling (h : History) (s : State) (t : Tables S) : Type 0 where
    -- While pixels are missing, some bin with just one missing pixel waits or is out on a grant.
    pub goes_on : (c : ℕ) → c < m.P * m.Q → Missing h c →
        (b : ℕ) × (b < T) × (missing_of h b ≡ 1) × (Waits h b ⊎ (0 < grants_of h b))
    -- Take is refused exactly when no bin waits, and for that reason alone; it grants a bin that waits.
    pub take_refuses : Refused (take K (shape_of m) s t).answer ↔ ((b : ℕ) → b < T → ¬ (Waits h b))
    pub take_tells : (r : Refusal) → (take K (shape_of m) s t).answer ≡ refused r → r ≡ nothing_waits
    pub take_grants : (b : ℕ) → (take K (shape_of m) s t).answer ≡ granted b → (b < T) × Waits h b
    -- A settle with a grant that is out is served: it tells the pixel that alone is missing in its bin, if one is, and
    -- how many pixels are then missing. So is a give back.
    pub settle_serves : (b : ℕ) → 0 < grants_of h b →
        (settle K (shape_of m) b s t).answer ≡ settled (lone h b) (number (m.P * m.Q) (missing (incidence (shape_of m)) (settled_at b ∷ since_seal h)))
    pub give_back_serves : (b : ℕ) → 0 < grants_of h b → (give_back K (shape_of m) b s t).answer ≡ done
    -- The state counts the missing pixels, the grants that are out, and the served settles, which never outnumber the T bins.
    pub left_is : s.left ≡ number (m.P * m.Q) (missing (incidence (shape_of m)) (since_seal h))
    pub out_is : s.out ≡ tally T (grants_of h)
    pub settled_is : s.settled ≡ settles_of h
    pub settles_few : settles_of h ≤ T
    -- A pixel found has the picture's value in every tile that agrees with the source.
    pub found_right : (c : ℕ) → c < m.P * m.Q → Found h c →
        (tile : List S) → Agrees K m tile → slice_index_or tile c K.zero ≡ slice_index_or t.picture c K.zero
    -- Finish tells how many pixels are missing, while some are; and else how many grants are out, while some are.
    pub finish_misses : (n : ℕ) → number (m.P * m.Q) (missing (incidence (shape_of m)) (since_seal h)) ≡ suc n →
        (finish K (shape_of m) s t).answer ≡ refused (missing_pixels (suc n))
    pub finish_waits : ((c : ℕ) → c < m.P * m.Q → Found h c) → (n : ℕ) → tally T (grants_of h) ≡ suc n →
        (finish K (shape_of m) s t).answer ≡ refused (outstanding_grants (suc n))
    -- Finish, with no pixel missing and no grant out, is served exactly when some tile agrees with the source.
    -- The picture then holds that tile, and no other agrees.
    pub finish_serves : ((c : ℕ) → c < m.P * m.Q → Found h c) → ((b : ℕ) → b < T → grants_of h b ≡ 0) →
        ((finish K (shape_of m) s t).answer ≡ done) ↔ ((tile : List S) × Agrees K m tile)
    pub picture_agrees : (finish K (shape_of m) s t).answer ≡ done → Agrees K m (shown t)
    pub no_other : (finish K (shape_of m) s t).answer ≡ done → (tile : List S) → Agrees K m tile → tile ≡ shown t

  -- On a finished tile no pixel is missing and no grant is out. The picture holds the only tile that agrees with the source.
  pub record WhenFinished (h : History) (t : Tables S) : Type 0 where
    pub none_missing : (c : ℕ) → c < m.P * m.Q → Found h c
    pub none_out : (b : ℕ) → b < T → grants_of h b ≡ 0
    pub settles_few : settles_of h ≤ T
    pub picture_agrees : Agrees K m (shown t)
    pub no_other : (tile : List S) → Agrees K m tile → tile ≡ shown t

  -- What holds each time a call ends, by the stage that it leaves.
  abbrev pub Facts : History → Stage → Tables S → Type 0
  Facts h (loading n) t = WhileLoading h n t
  Facts h (peeling s) t = WhilePeeling h s t
  Facts h finished t = WhenFinished h t

-- A refused call leaves the stage and the tables as they were; but a seal that is refused for a ghost writes it.
abbrev pub RefusalsKeep : {S : Type 0} → Operations S → Type 0
RefusalsKeep {S} K = (shape : Shape) (m : Meaning S) (c : Call) (stage : Stage) (t : Tables S) (o : Outcome S) → Does K shape m c stage t o →
    (r : Refusal) → o.answer ≡ refused r →
    (o.stage ≡ stage) × ((o.tables ≡ t) ⊎ ((c ≡ seals) × (r ≡ ghost_left (C shape) (R shape)) × (o.tables ≡ with_ghost K shape t)))

-- The law, for a kind of sample: which meanings are opened; what a refused call leaves; which sum is told as left over; and whatever a source means,
-- whatever calls a tile has met since the open that gave it, in whatever order and number, the facts hold.
pub record Law {S : Type 0} (K : Operations S) : Type 0 where
  pub opens : OpensExactly
  pub refusals : RefusalsKeep K
  pub left_over : (shape : Shape) → TellsLeft K shape
  pub lives : (m : Meaning S) (h : History) (stage : Stage) (t : Tables S) → Life K m h stage t → Facts K m h stage t
