-- `random_lists::links::Reading::read` ends: the levels below rise to the fourth. Assumes nothing.
use Rattle.std.proofs.Common.{◌-◌}
use Rattle.random_lists.proofs.links.Reading.+read.Given as goal

abbrev pub decreases-read : goal.decreases-read
decreases-read l = 4 - l.level
