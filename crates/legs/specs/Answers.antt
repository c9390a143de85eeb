-- What the contracted search answers: number, place, time, count, and every lent room (01, "Numbers the unit shows").
use Rattle.std.specs.Prelude.{◌≡◌, List, [], ◌++◌, ℕ, ◌<◌, ◌≤◌, length, drop}
use Rattle.network.specs.declared.answer.Answer.{Answer}
use Rattle.network.specs.declared.weight.Weight.{Weight}
use Rattle.network.specs.declared.rows.Row.{Row}
use Rattle.network.specs.Network.{Network}
use Rattle.network.specs.declared.sheet.Sheet.{Sheet}
use Rattle.network.specs.Rows.{Columns, table}
use Rattle.network.specs.Journey.{weight, Journey, Least, None}
use Rattle.network.specs.Refusal.{Refused, Passed}
use Rattle.network.specs.Answers.{shown}
use Rattle.search.specs.UpDown.{UpDownJourney}
use Rattle.search.specs.Orders.{rows_order}
use Rattle.columns.specs.Rooms.{Untouched, Zeroed}
use Rattle.search.specs.Answers.{told}

-- What the contracted search answers where no rule is broken. "Over sound rows its answer is the least weight of an accepted row path in which
-- no inner node is contracted before both its neighbours .., or 7 where there is none."
pub data Travelled (N : Network) (ss : List Row) (S : Sheet) (from to : ℕ) (journey journey' : List ℕ) (a : Answer) : Type 0 where
  no_journey : None (UpDownJourney N ss S from to) → a ≡ shown 7 0 → journey' ≡ journey → Travelled N ss S from to journey journey' a
  no_room : {w : Weight} → Least N ss (UpDownJourney N ss S from to) w → length journey < w.edges → a ≡ told 8 w → journey' ≡ journey
      → Travelled N ss S from to journey journey' a
  -- the legs are edges of the network: an accepted path from `from` to `to`, of that time and of that many edges
  found : {w : Weight} {legs : List ℕ} → Least N ss (UpDownJourney N ss S from to) w → w.edges ≤ length journey → a ≡ told 0 w
      → Journey N [] S from to legs → weight N [] legs ≡ w → length legs ≡ w.edges → journey' ≡ legs ++ drop (length legs) journey
      → Travelled N ss S from to journey journey' a

-- What the contracted search answers: the first rule that is broken, or how the traveller goes.
pub data Contracted (N : Network) (T : Columns) (S : Sheet) (from to : ℕ) (journey journey' wide wide' narrow narrow' : List ℕ) (a : Answer)
    : Type 0 where
  refuses : {number place : ℕ} → Refused (rows_order N T S from to (length wide) (length narrow)) number place → a ≡ shown number place
      → journey' ≡ journey → Untouched wide wide' narrow narrow' → Contracted N T S from to journey journey' wide wide' narrow narrow' a
  searches : Passed (rows_order N T S from to (length wide) (length narrow)) → Travelled N (table T) S from to journey journey' a
      → Zeroed wide wide' narrow narrow' → Contracted N T S from to journey journey' wide wide' narrow narrow' a
