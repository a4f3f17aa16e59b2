-- The moves of a trace. "A trace is a row of moves over a plan that starts with one room. Kind 1 has a one-byte body, a triple as a number
-- 0 to 7 with the first bit worth 4, and adds a room. Kind 2 has no body and takes the newest room away. Kind 3 has no body and claims that
-- one run is left."
use Rattle.std.specs.Prelude.{List, [], ◌∷◌, ℕ, zero, suc}
use Rattle.std.proofs.Math.Logic.{ite}
use Rattle.std.proofs.Math.Decide.{dec_lt}
use Rattle.record.specs.Triple.{Triple}
use Rattle.record.specs.TripleNumber.{triple_of}

pub data Move : Type 0 where
  add : Triple → Move
  take_away : Move
  claim : Move
  -- "an unknown kind, a missing body or a triple above 7"
  unknown : Move

-- the moves of a row of bytes, as far as the first one that is unknown
unfoldable pub moves_of : List ℕ → List Move
unfolding dec_lt
moves_of [] = []
moves_of (zero ∷ rest) = unknown ∷ []
moves_of (suc zero ∷ []) = unknown ∷ []
moves_of (suc zero ∷ (body ∷ rest)) = ite (dec_lt body 8) (add (triple_of body) ∷ moves_of rest) (unknown ∷ [])
moves_of (suc (suc zero) ∷ rest) = take_away ∷ moves_of rest
moves_of (suc (suc (suc zero)) ∷ rest) = claim ∷ moves_of rest
moves_of (suc (suc (suc (suc kind))) ∷ rest) = unknown ∷ []
