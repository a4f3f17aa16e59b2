-- A text that is put whole.
use Rattle.std.specs.Prelude.{List, ◌≡◌, ℕ, ◌≤◌, length, take}
use Rattle.std.proofs.Common.{◌∙◌, arith, length-take}
use Rattle.io.specs.Counts.{IsPrefixLen}
use Rattle.finite.specs.Put.{Put}

-- a text that is put from the front, and ends within its store, is all there
pub put_whole : {before after part whole : List ℕ} {end : ℕ} → end ≤ length before → part ≡ whole → Put before 0 part after end
    → (take end after ≡ whole) × IsPrefixLen end after
put_whole {after = after} {end = end} h e p = (p.front ∙ e, (omega (arith, p.size), omega (arith, p.size, length-take end after)))
