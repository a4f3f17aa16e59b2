-- `searching::Placed::first_pattern` meets its contract. Where no pattern starts at the first few positions and Labels in refuses the list,
-- one starts at a later position.
use mathlib.Core.Path.{sym}
use Rattle.patterns.proofs.M105.{first, m105_answer}
use Rattle.searching.proofs.Refused.{barred_judged, found_in_barred}
use Rattle.searching.proofs.Placed.first_pattern.Goals as goal

pub returns-in-Some : goal.returns-in-Some
returns-in-Some c = m105_answer c.args.self.now.labels.now (first c.args.self.now.permutation c.in-Some.ensures)

pub returns : goal.returns
returns c =
    let labels = c.args.self.now.labels.now in
    let permutation = c.args.self.now.permutation in
    found_in_barred labels permutation c.search-2.result c.search-2.ensures
    (barred_judged labels permutation c.judge.result c.judge.ensures (sym c.if-is_ok.ensures.value))
