-- `report::put_digits` meets its contract; the number of digits still allowed falls. Assumes nothing.
use Rattle.report.proofs.+put_digits.Given as goal

abbrev pub decreases-put_digits : goal.decreases-put_digits
decreases-put_digits l = l.d
