-- The measure of the cycle of calls {put_number}: a number's tenth is less than the number.
use Rattle.text.proofs.+put_number.Given as goal

abbrev pub decreases-put_number : goal.decreases-put_number
decreases-put_number l = l.number
