-- The states to which adding alone leads.
use Rattle.std.specs.Prelude.{List, [], ◌∷◌}
use Rattle.record.specs.Triple.{Triple}
use Rattle.record.specs.Read.{Missing}
use Rattle.traces.specs.State.{counts_of}
use Rattle.traces.specs.Cause.{Past255}

-- a state that adding alone can build
pub data Built : List Triple → Type 0 where
  start : Built []
  grown : {t : Triple} {present : List Triple} → ¬ Past255 (t ∷ present) → ¬ Missing (counts_of (t ∷ present)) → Built present
      → Built (t ∷ present)
