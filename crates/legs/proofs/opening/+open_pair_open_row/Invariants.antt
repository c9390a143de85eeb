-- The cycle of calls {open_pair, open_row}: the row number falls.
use Rattle.std.proofs.Common.{◌+◌, ◌*◌, max}
use Rattle.legs.proofs.opening.+open_pair_open_row.Given as goal

abbrev pub decreases-open_pair : goal.decreases-open_pair
decreases-open_pair l = 2 * max l.first l.second + 1

abbrev pub decreases-open_row : goal.decreases-open_row
decreases-open_row l = 2 * l.row
