-- How large a figure can be: for up to 17 rooms it fits 64 bits with a sign.
use Rattle.std.specs.Prelude.{◌^◌, ◌<◌, Ok, Err}
use Rattle.counting.specs.Answer.{CountAnswer}

abbrev pub CountFits : CountAnswer → Type 0
CountFits (Ok figure) = figure < 2 ^ 63
CountFits (Err refusal) = Unit
