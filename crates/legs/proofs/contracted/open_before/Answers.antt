-- `legs::contracted::open_before` opens one row of the journey room in place. Assumes nothing.
use mathlib.Core.Path.{refl}
use Rattle.legs.proofs.RowsInPlace.{count_inside, row_fits_behind, legs_before}
use Rattle.legs.proofs.contracted.open_before.Goals as goal

pub overflow_sub-begin : goal.overflow_sub-begin
overflow_sub-begin c = count_inside c.requires c.row_at-row.ensures

pub open_row-requires : goal.open_row-requires
open_row-requires c = row_fits_behind c.requires c.row_at-row.ensures refl refl

pub returns : goal.returns
returns c = legs_before c.requires c.row_at-row.ensures refl refl c.open_row.ensures
