-- `exports::journeys_plain` refuses a sheet of a wrong length, else searches. Assumes nothing.
use Rattle.exports.proofs.SheetLaws.{plain_asked}
use Rattle.exports.proofs.journeys_plain.Goals as goal

pub returns : goal.returns
returns c = plain_asked c.if-sheet-ne-SHEET_BYTES.false c.read_sheet-sheet.ensures c.search_plain.ensures
