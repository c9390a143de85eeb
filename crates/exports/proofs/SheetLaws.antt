-- A sheet handed over as bytes: reading it, and what the two searches promise with it.
use mathlib.Core.Path.{◌≡◌, refl, subst}
use mathlib.Core.List.{List, [], ◌∷◌}
use Prim.Native.Nat.{ℕ, ◌+◌, ◌*◌}
use lib.ListN.{length, get_or}
use Rattle.network.specs.declared.answer.Answer.{Answer}
use Rattle.network.specs.declared.sheet.Sheet.{Sheet}
use Rattle.network.specs.Network.{Network}
use Rattle.network.specs.Rows.{Columns}
use Rattle.network.specs.Journey.{Journey}
use Rattle.network.specs.Answers.{shown}
use Rattle.search.specs.Orders.{plain_order}
use Rattle.search.specs.Answers.{legs_of, Answered}
use Rattle.legs.specs.Answers.{Contracted}
use Rattle.exports.specs.Calls.{sheet_read, SheetRefused, PlainCalled, ContractedCalled}

-- the length of the sheet is refused, and no room was touched
sheet_refused : {bytes journey wide narrow : List ℕ} {a : Answer} → (length bytes ≡ 24 → ⊥) → a ≡ shown 1 0
    → SheetRefused bytes journey journey wide wide narrow narrow a
sheet_refused n e =
    record { not_24 = n; refused = e; journey_same = refl; rooms_same = record { wide_same = refl; narrow_same = refl } }

module _ {N : Network} {bytes : List ℕ} {states from to : ℕ} where
  pub plain_refused : {journey wide narrow : List ℕ} {a : Answer} → (length bytes ≡ 24 → ⊥) → a ≡ shown 1 0
      → PlainCalled N bytes states from to journey journey wide wide narrow narrow a
  plain_refused n e = PlainCalled.no_sheet (sheet_refused n e)

  pub plain_asked : {sheet : Sheet} {journey journey' wide wide' narrow narrow' : List ℕ} {a : Answer} → length bytes ≡ 24
      → sheet ≡ sheet_read bytes states
      → Answered (plain_order N sheet from to (length wide) (length narrow)) N [] (Journey N [] sheet from to) journey
      journey' wide wide' narrow narrow' a (legs_of a) → PlainCalled N bytes states from to journey journey' wide wide' narrow narrow' a
  plain_asked {journey = journey} {journey' = journey'} {wide = wide} {wide' = wide'} {narrow = narrow} {narrow' = narrow'} {a = a} h e p =
      PlainCalled.asked h
      (subst
      (λ (sheet : Sheet). Answered (plain_order N sheet from to (length wide) (length narrow)) N [] (Journey N [] sheet from to) journey journey' wide wide' narrow narrow' a (legs_of a))
      e p)

  module _ {T : Columns} where
    pub contracted_refused : {journey wide narrow : List ℕ} {a : Answer} → (length bytes ≡ 24 → ⊥) → a ≡ shown 1 0
        → ContractedCalled N T bytes states from to journey journey wide wide narrow narrow a
    contracted_refused n e = ContractedCalled.no_sheet (sheet_refused n e)

    pub contracted_asked : {sheet : Sheet} {journey journey' wide wide' narrow narrow' : List ℕ} {a : Answer} → length bytes ≡ 24
        → sheet ≡ sheet_read bytes states → Contracted N T sheet from to journey journey' wide wide' narrow narrow' a
        → ContractedCalled N T bytes states from to journey journey' wide wide' narrow narrow' a
    contracted_asked {journey = journey} {journey' = journey'} {wide = wide} {wide' = wide'} {narrow = narrow} {narrow' = narrow'} {a = a} h e p =
        ContractedCalled.asked h
        (subst
        (λ (sheet : Sheet). Contracted N T sheet from to journey journey' wide wide' narrow narrow' a)
        e p)
