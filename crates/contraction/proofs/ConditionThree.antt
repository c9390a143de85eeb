-- Condition 3: over the table that preparation made, the contracted search answers what the plain search answers.
use mathlib.Core.Path.{◌≡◌, sym, ap, subst, ◌∙◌}
use mathlib.Core.List.{List, [], ◌++◌}
use Prim.Native.Nat.{ℕ}
use native.Mathlib.Omega.{arith}
use lib.ListN.{length, drop}
use Rattle.network.specs.declared.answer.Answer.{Answer}
use Rattle.network.specs.declared.weight.Weight.{Weight}
use Rattle.network.specs.Network.{Network}
use Rattle.network.specs.declared.sheet.Sheet.{Sheet}
use Rattle.network.specs.Rows.{Columns}
use Rattle.network.specs.Journey.{weight, Journey}
use Rattle.search.specs.Orders.{plain_order}
use Rattle.search.specs.Answers.{Answered}
use Rattle.legs.specs.Answers.{no_journey, no_room, found, Contracted, searches, refuses}
use Rattle.preparation.specs.Answers.{PreparedInto}
use Rattle.network.specs.Lent.{front_columns}
use Rattle.legs.proofs.RowsInPlace.{refused_not_zero}
use Rattle.preparation.proofs.TableMade.{table_made}
use Rattle.contraction.proofs.ContractedPlain.{plain_same}

-- The journey room tells how the traveller goes: its front holds edges that are an accepted path of the answer's time and count, as many as it
-- counts, and the rest of it is as it was.
pub record Goes (N : Network) (S : Sheet) (from to : ℕ) (a : Answer) (journey journey' : List ℕ) : Type 0 where
  pub legs : List ℕ
  pub accepted : Journey N [] S from to legs
  pub weighs : weight N [] legs ≡ record { time = a.time; edges = a.count }
  pub as_many : length legs ≡ a.count
  pub stands : journey' ≡ legs ++ drop (length legs) journey

-- the contracted search's answer b against the plain search's answer a
pub record Agrees (N : Network) (S : Sheet) (from to : ℕ) (a b : Answer) (journey journey' : List ℕ) : Type 0 where
  -- number, place, time and count
  pub answer_same : a ≡ b
  -- where they answer, the legs that the contracted search wrote are a journey of the plain search's time and count
  pub goes : a.number ≡ 0 → Goes N S from to a journey journey'

-- the contracted search writes such legs over any table
module _ {N : Network} {T : Columns} {S : Sheet} {from to : ℕ} {journey journey' wide wide' narrow narrow' : List ℕ} {a : Answer} where
  pub contracted_goes : Contracted N T S from to journey journey' wide wide' narrow narrow' a → a.number ≡ 0 → Goes N S from to a journey journey'
  contracted_goes (refuses {number = n} {place = p} r e j u) z =
      absurd (refused_not_zero N T S from to (length wide) (length narrow) n p r (sym (ap (λ (x : Answer). x.number) e) ∙ z))
  contracted_goes (searches q (no_journey n e j) u) z = absurd (omega (arith, ap (λ (x : Answer). x.number) e))
  contracted_goes (searches q (no_room l h e j) u) z = absurd (omega (arith, ap (λ (x : Answer). x.number) e))
  contracted_goes (searches q (found {legs = ls} l h e p m k j) u) z = record {
    legs = ls;
    accepted = p;
    weighs = m ∙ ap costs (sym e);
    as_many = k ∙ ap (λ (x : Answer). x.count) (sym e);
    stands = j;
  }
    where
      costs : Answer → Weight
      costs x = record { time = x.time; edges = x.count }

-- Condition 3, over the promises of the three public functions. Preparation of N, lent the rows T, answered p with the number 0 and left T'. To a
-- question from, to with the sheet S the plain search answered a, and the contracted search answered b, lent the first of the rows T', as many as p
-- tells, and rooms of the same sizes. Then a and b are one answer, and the legs that the contracted search wrote are a journey of that answer.
pub condition_three : {N : Network} {T T' : Columns} {S : Sheet} {from to written : ℕ} {p a b : Answer} {wide wide' narrow narrow' : List ℕ}
    {journey₁ journey₁' wide₁ wide₁' narrow₁ narrow₁' journey₂ journey₂' wide₂ wide₂' narrow₂ narrow₂' : List ℕ}
    → PreparedInto N T T' wide wide' narrow narrow' p → p.number ≡ 0
    → Answered (plain_order N S from to (length wide₁) (length narrow₁)) N [] (Journey N [] S from to) journey₁ journey₁' wide₁ wide₁'
    narrow₁ narrow₁' a written
    → Contracted N (front_columns p.count T') S from to journey₂ journey₂' wide₂ wide₂' narrow₂ narrow₂' b
    → length journey₁ ≡ length journey₂ → length wide₁ ≡ length wide₂ → length narrow₁ ≡ length narrow₂
    → Agrees N S from to a b journey₂ journey₂'
condition_three {N} {S = S} {from} {to} {a = a} {b} {journey₂ = journey₂} {journey₂'} prepared z plain contracted j w n =
    let same : a ≡ b = plain_same (table_made prepared z) plain contracted j w n in
    record {
      answer_same = same;
      goes = λ y. subst (λ (x : Answer). Goes N S from to x journey₂ journey₂') (sym same)
          (contracted_goes contracted (ap (λ (x : Answer). x.number) (sym same) ∙ y));
    }
