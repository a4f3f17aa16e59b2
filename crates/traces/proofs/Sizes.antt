-- How large the numbers of an answer can be: a count of moves and an ordinal have 16 bits, rooms and runs have 8.
use Rattle.std.specs.Prelude.{List, ℕ, length}
use Rattle.std.proofs.Common.{sym, subst, arith}
use Rattle.traces.specs.Answer.{TraceAnswer, trace_answer, Traced}
use Rattle.traces.proofs.Row.{stops_within}
use Rattle.traces.specs.Still.{start}
use Rattle.traces.proofs.Still.{built_few, built_runs, leads_built, stops_built}
use Rattle.traces.specs.Bytes.{moves_few}
use Rattle.traces.proofs.Demand1.{TraceSays, too_long, refused_move, short, replayed, demand1_trace_cause}
use Rattle.traces.specs.Sizes.{TraceFits}

pub m111_answer_fits : (bytes : List ℕ) (capacity : ℕ) → TraceFits (trace_answer bytes capacity)
m111_answer_fits bytes capacity = go (demand1_trace_cause bytes capacity)
  where
    go : {answer : TraceAnswer} → TraceSays bytes capacity answer → TraceFits answer
    go (too_long h) = tt
    go (refused_move h s) =
        let b = stops_built s start in
        (omega (arith, stops_within s, moves_few bytes), built_few b, omega (arith, built_runs b, built_few b))
    go (short h l s) = tt
    go (replayed h l s) =
        let b = leads_built l start in
        (omega (arith, moves_few bytes), built_few b, omega (arith, built_runs b, built_few b))

pub traced_fits : {bytes before after : List ℕ} {answer : TraceAnswer} → Traced bytes before answer after → TraceFits answer
traced_fits {bytes} {before} did = subst TraceFits (sym did.answered) (m111_answer_fits bytes (length before))
