-- What the searches answer: number, place, time, count, and every lent room (01, "Numbers the unit shows").
use Rattle.std.specs.Prelude.{◌≡◌, List, ◌++◌, ℕ, ◌-◌, ◌*◌, ◌<◌, ◌≤◌, length, drop}
use Rattle.network.specs.declared.answer.Answer.{Answer}
use Rattle.network.specs.declared.weight.Weight.{Weight}
use Rattle.network.specs.declared.rows.Row.{Row}
use Rattle.network.specs.Network.{Network}
use Rattle.network.specs.Journey.{weight, Least, None}
use Rattle.network.specs.Refusal.{Rule, Refused, Passed}
use Rattle.network.specs.Answers.{shown}
use Rattle.columns.specs.Rooms.{Untouched, Zeroed}

-- a number with the time and count of a path
abbrev pub told : ℕ → Weight → Answer
told number w = record { number = number; place = 0; time = w.time; count = w.edges }

-- how many legs stand written with an answer of the plain search: as many as it counts where its number is 0, else none
abbrev pub legs_of : Answer → ℕ
legs_of a = (1 - a.number) * a.count

-- What a search over the paths of P answers where no rule is broken: with w the least weight, the rows of one such path stand at the front of the
-- journey room, and `written` tells how many they are.
pub data Sought (N : Network) (ss : List Row) (P : List ℕ → Type 0) (journey journey' : List ℕ) (a : Answer) (written : ℕ) : Type 0 where
  -- "no accepted path"
  no_journey : None P → a ≡ shown 7 0 → written ≡ 0 → journey' ≡ journey → Sought N ss P journey journey' a written
  -- "journey room below the edge count"; 8 "gives those of the journey that didn't fit"
  no_room : {w : Weight} → Least N ss P w → length journey < w.edges → a ≡ told 8 w → written ≡ 0 → journey' ≡ journey
      → Sought N ss P journey journey' a written
  -- "An answer fills the front of the journey room and leaves the rest."
  found : {w : Weight} {legs : List ℕ} → Least N ss P w → w.edges ≤ length journey → a ≡ told 0 w → P legs → weight N ss legs ≡ w
      → written ≡ length legs → journey' ≡ legs ++ drop (length legs) journey → Sought N ss P journey journey' a written

-- What a search answers: the first rule that is broken, or what it sought.
pub data Answered (rules : List Rule) (N : Network) (ss : List Row) (P : List ℕ → Type 0) (journey journey' wide wide' narrow narrow' : List ℕ)
    (a : Answer) (written : ℕ) : Type 0 where
  refuses : {number place : ℕ} → Refused rules number place → a ≡ shown number place → written ≡ 0 → journey' ≡ journey
      → Untouched wide wide' narrow narrow' → Answered rules N ss P journey journey' wide wide' narrow narrow' a written
  searches : Passed rules → Sought N ss P journey journey' a written → Zeroed wide wide' narrow narrow'
      → Answered rules N ss P journey journey' wide wide' narrow narrow' a written
