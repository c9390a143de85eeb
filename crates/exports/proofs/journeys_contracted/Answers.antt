-- `exports::journeys_contracted` refuses a sheet of a wrong length, else searches. Assumes nothing.
use Rattle.exports.proofs.SheetLaws.{contracted_asked}
use Rattle.exports.proofs.journeys_contracted.Goals as goal

pub returns : goal.returns
returns c = contracted_asked c.if-sheet-ne-SHEET_BYTES.false c.read_sheet-sheet.ensures c.search_contracted.ensures
