-- The first lines, computed from the definitions.
use Rattle.std.specs.Prelude.{◌≡◌, refl}
use Rattle.digits.specs.Ascii.{ascii}
use Rattle.digits.specs.Decimal.{digits_in, decimal}
use Rattle.record.specs.Walk.{step}
use Rattle.counting.specs.Ways.{ways, plan_count}
use Rattle.plancount.specs.Text.{lines_of, up_to}

pub worked_lines : up_to plan_count 5
    ≡ ascii "1 0 1\n2 0 1\n2 1 1\n3 0 1\n3 1 4\n3 2 1\n4 0 1\n4 1 10\n4 2 10\n4 3 1\n5 0 1\n5 1 20\n5 2 50\n5 3 20\n5 4 1\n"
unfolding up_to lines_of decimal digits_in plan_count ways step
worked_lines = refl
