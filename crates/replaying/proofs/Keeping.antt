-- A value of each state, kept by the number of rooms: what is stored for a state leaves those of the states with fewer rooms as they are.
use mathlib.Core.List.{List, [], ◌∷◌}
use mathlib.Core.Path.{◌≡◌, sym, ap, ◌∙◌}
use Prim.Native.Nat.{ℕ, ◌≤◌, ◌<◌}
use native.Mathlib.Omega.{arith}
use lib.ListN.{length, get_or, set}
use lib.Seq.{get_or-set_same, get_or-set_other}
use Rattle.record.specs.Triple.{Triple}
use Rattle.traces.specs.State.{rooms_of}
use Rattle.replaying.specs.Turn.{Below, Kept}

module _ (value : List Triple → ℕ) where
  below_past : (present : List Triple) (kept : List ℕ) (j v : ℕ) → rooms_of present ≤ j → Below value present kept
      → Below value present (set kept j v)
  below_past [] kept j v h b = tt
  below_past (t ∷ present) kept j v h (e, b) =
      (get_or-set_other kept j (rooms_of present) v 0 (omega arith) ∙ e, below_past present kept j v (omega arith) b)

  -- the value of a state is stored
  pub kept_stored : (present : List Triple) (kept : List ℕ) (j v : ℕ) → j ≡ rooms_of present → v ≡ value present → j < length kept
      → Below value present kept → Kept value present (set kept j v)
  kept_stored present kept j v place e room b = (
    ap (λ (i : ℕ). get_or (set kept j v) i 0) (sym place) ∙ get_or-set_same kept j v 0 room ∙ e,
    below_past present kept j v (omega arith) b,
  )
