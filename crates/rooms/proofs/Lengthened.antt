-- A stretch lengthened as far as drawn unit edges go on, both ways, is a segment, and it holds the stretch.
use Rattle.std.specs.Prelude.{List}
use Rattle.std.proofs.Math.Path.{refl}
use Rattle.std.proofs.Common.{arith}
use Rattle.std.proofs.Math.Logic.{inl, inr}
use Prim.Native.Nat.{ℕ, ◌+◌, ◌-◌, ◌<◌}
use Rattle.finite.specs.Decide.{le_or_lt}
use Rattle.finite.specs.Search.{Each}
use Rattle.drawing.specs.declared.Room.{Room}
use Rattle.rooms.specs.Segment.{Stretch, Drawn, Segment, Holds}
use Rattle.rooms.specs.DecideSegment.{limit, drawn→before_limit, dec_drawn}
use Rattle.rooms.specs.Runs.{run_start, run_start_lem, run_end, run_end_lem}

module _ (rooms : List Room) where
  -- a stretch made as long as drawn unit edges go on, both ways
  unfoldable pub lengthened : Stretch → Stretch
  lengthened s = record {
    direction = s.direction;
    line = s.line;
    from = run_start (Drawn rooms s.direction s.line) (dec_drawn rooms s.direction s.line) s.from;
    to = run_end (Drawn rooms s.direction s.line) (dec_drawn rooms s.direction s.line) (limit rooms - s.to) s.to;
  }

  pub drawn→lengthened_segment : (s : Stretch) → s.from < s.to → Each (Drawn rooms s.direction s.line) s.from s.to
      → Segment rooms (lengthened s) × Holds (lengthened s) s
  unfolding lengthened
  drawn→lengthened_segment s h f =
      let start = run_start_lem P (dec_drawn rooms s.direction s.line) s.from in
      let end = run_end_lem P (dec_drawn rooms s.direction s.line) (limit rooms - s.to) s.to past_limit in (
        record {
          some = omega (arith, start.le, end.le);
          unbroken = λ z a b. elim (le_or_lt s.from z) [
            | inr c ↦ start.has z a c
            | inl c ↦ elim (le_or_lt s.to z) [ inr e ↦ f z c e | inl e ↦ end.has z e b ]
          ];
          ends = end.not_there;
          starts = start.not_before;
        },
        record { direction = refl; line = refl; from = start.le; to = end.le },
      )
    where
      P : ℕ → Type 0
      P = Drawn rooms s.direction s.line

      past_limit : ¬ P (s.to + (limit rooms - s.to))
      past_limit q = omega (arith, drawn→before_limit rooms s.direction s.line (s.to + (limit rooms - s.to)) q)
