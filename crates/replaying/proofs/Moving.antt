-- The move at a place: read from the bytes, and made or refused.
use mathlib.Core.List.{List, [], ◌∷◌}
use mathlib.Core.Path.{◌≡◌}
use Prim.Native.Nat.{ℕ, ◌+◌, ◌≤◌, ◌<◌}
use native.Mathlib.Omega.{arith}
use lib.ListN.{length, drop}
use Rattle.record.specs.Triple.{Triple}
use Rattle.record.specs.declared.Refusal.TheVariants.{BadMove}
use Rattle.traces.specs.Move.{add, unknown, moves_of}
use Rattle.traces.specs.Cause.{bad_move}
use Rattle.std.specs.Prelude.{Ok, Err}
use Rattle.record.specs.declared.Refusal.{Refusal}
use Rattle.replaying.specs.declared.Plan.{Plan}
use Rattle.replaying.specs.declared.Turn.TheVariants.{Added, Back}
use Rattle.replaying.specs.Turn.{Stands, AddTurn, back_move, Backed, Halts, Turned}

module _ (xs : List ℕ) (at : ℕ) (present : List Triple) where
  pub turned_bad : moves_of (drop at xs) ≡ unknown ∷ [] → Halts xs at present BadMove
  turned_bad e = record { move = unknown; rest = []; begins = e; refuses = bad_move }

  module _ (kept : List ℕ) where
    pub turned_added : (t : Triple) → at + 2 ≤ length xs → moves_of (drop at xs) ≡ add t ∷ moves_of (drop (at + 2) xs)
        → {plan next : Plan} → Stands present plan → AddTurn t plan (Ok next) → Turned xs at present kept (Ok (Added next))
    turned_added t within begins s told =
        let (makes, stands) = told present s in
        (t, record { move = add t; ahead = omega arith; within = within; begins = begins; makes = makes }, stands)

    pub turned_past : (t : Triple) → moves_of (drop at xs) ≡ add t ∷ moves_of (drop (at + 2) xs)
        → {plan : Plan} {refusal : Refusal} → Stands present plan → AddTurn t plan (Err refusal) → Turned xs at present kept (Err refusal)
    turned_past t begins s told =
        record { move = add t; rest = moves_of (drop (at + 2) xs); begins = begins; refuses = told present s }

    module _ (kind : ℕ) (begins : moves_of (drop at xs) ≡ back_move kind ∷ moves_of (drop (at + 1) xs)) where
      pub turned_back : {next : Plan} → at < length xs → Backed kind present kept (Ok next) → Turned xs at present kept (Ok (Back next))
      turned_back within told = (
        told.state,
        record { move = back_move kind; ahead = omega arith; within = omega arith; begins = begins; makes = told.makes },
        told.stands,
        told.kept_are,
      )

      pub turned_halt : {refusal : Refusal} → Backed kind present kept (Err refusal) → Turned xs at present kept (Err refusal)
      turned_halt told = record { move = back_move kind; rest = moves_of (drop (at + 1) xs); begins = begins; refuses = told }
