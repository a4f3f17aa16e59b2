-- `searching::pattern` meets its contract: a list that is not the labels 1 to n, each once, is refused as by Labels in.
use Rattle.record.specs.Judged.{Permutation}
use Rattle.labels.specs.Verdicts.{verdict_refused}
use Rattle.searching.proofs.Refused.{refused_answer}
use Rattle.searching.proofs.pattern.Goals as goal
use Rattle.searching.proofs.pattern.Goals.{After-judge}

not_permutation : (c : After-judge) → ¬ Permutation c.args.labels.now
not_permutation c = rw c.if-list_places.false at c.list_places.ensures

pub returns-in-Err : goal.returns-in-Err
returns-in-Err c =
    let labels = c.args.labels.now in
    refused_answer labels (not_permutation (goal.at.returns-in-Err c).After-judge) (verdict_refused labels c.in-Err.ensures)
