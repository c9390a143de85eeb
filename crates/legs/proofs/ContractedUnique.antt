-- Two results that the promise of the contracted search allows for one input are equal in number, place, time, count and all rooms, but for which of
-- several journeys of the least weight is written: its legs stand at the front of the journey room, as many as the answer counts edges.
use mathlib.Core.Path.{◌≡◌, sym, ap, subst, ◌∙◌}
use mathlib.Core.List.{List, []}
use Prim.Native.Nat.{ℕ, ◌-◌, ◌*◌}
use native.Mathlib.Nat.{mul-zero}
use native.Mathlib.Omega.{arith}
use lib.ListN.{length}
use Rattle.network.specs.declared.answer.Answer.{Answer}
use Rattle.network.specs.declared.weight.Weight.{Weight}
use Rattle.network.specs.declared.rows.Row.{Row}
use Rattle.network.specs.Weight.{Lighter}
use Rattle.network.specs.Network.{Network, nodes, Sound}
use Rattle.network.specs.declared.sheet.Sheet.{Sheet}
use Rattle.network.specs.Rows.{Columns, SoundTable, table}
use Rattle.network.specs.Journey.{weight, Least, None}
use Rattle.network.specs.Answers.{shown}
use Rattle.network.proofs.Unique.{whole_single, each_single, sheet_single, question_single}
use Rattle.search.specs.UpDown.{UpDownJourney}
use Rattle.search.specs.Orders.{rows_order}
use Rattle.search.specs.Answers.{legs_of, Sought, Answered}
use Rattle.search.specs.Answers
use Rattle.search.proofs.SearchUnique.{Determined, answered_determined}
use Rattle.legs.specs.Opening.{opened_all}
use Rattle.legs.specs.Answers.{Travelled, no_journey, no_room, found, Contracted, searches, refuses}
use Rattle.legs.proofs.OpeningLaws.{opened_journey}
use Rattle.legs.proofs.RowsInPlace.{rows_accepted}

-- how many legs stand written with an answer
pub legs_refused : {a : Answer} {number place : ℕ} → a ≡ shown number place → legs_of a ≡ 0
legs_refused {number = k} e = ap legs_of e ∙ mul-zero (1 - k)

pub legs_too_many : {a : Answer} {w : Weight} → a ≡ Answers.told 8 w → legs_of a ≡ 0
legs_too_many {w = w} e = let z : (1 - 8) * w.edges ≡ 0 = omega arith in ap legs_of e ∙ z

pub legs_found : {a : Answer} {w : Weight} {n : ℕ} → a ≡ Answers.told 0 w → n ≡ w.edges → legs_of a ≡ n
legs_found {w = w} e k = let z : (1 - 0) * w.edges ≡ w.edges = omega arith in ap legs_of e ∙ z ∙ sym k

-- legs that weigh what some up-down journey over the rows weighs
record Legs (N : Network) (ss : List Row) (S : Sheet) (from to : ℕ) (legs : List ℕ) : Type 0 where
  rs : List ℕ
  path : UpDownJourney N ss S from to rs
  same_weight : weight N [] legs ≡ weight N ss rs
  as_many : length legs ≡ (weight N [] legs).edges

module _ {N : Network} {ss : List Row} {S : Sheet} {from to : ℕ} (s : Sound N) (t : SoundTable N ss) where
  row_legs : {rs : List ℕ} → UpDownJourney N ss S from to rs → Legs N ss S from to (opened_all N ss rs)
  row_legs {rs} p =
      let o = opened_journey s t p.journey in
      record { rs = rs; path = p; same_weight = o.same_weight; as_many = o.as_many ∙ ap (λ (w : Weight). w.edges) (sym o.same_weight) }

  no_legs : None (UpDownJourney N ss S from to) → None (Legs N ss S from to)
  no_legs n = record { no_path = λ legs l. n.no_path l.rs l.path }

  least_legs : {w : Weight} → Least N ss (UpDownJourney N ss S from to) w → Least N [] (Legs N ss S from to) w
  least_legs {w} l = record {
    path = opened_all N ss l.path;
    allowed = row_legs l.allowed;
    weighs = (opened_journey s t l.allowed.journey).same_weight ∙ l.weighs;
    none_lighter = λ legs x h. l.none_lighter x.rs x.path (subst (λ (y : Weight). Lighter y w) x.same_weight h);
  }

  travelled_sought : {journey journey' : List ℕ} {a : Answer} → Travelled N ss S from to journey journey' a
      → Sought N [] (Legs N ss S from to) journey journey' a (legs_of a)
  travelled_sought (no_journey n e j) = Answers.no_journey (no_legs n) e (legs_refused e) j
  travelled_sought (no_room l h e j) = Answers.no_room (least_legs l) h e (legs_too_many e) j
  travelled_sought (found {legs = legs} l h e p m k j) =
      Answers.found {legs = legs} (least_legs l) h e
      (record { rs = l.path; path = l.allowed; same_weight = m ∙ sym l.weighs; as_many = k ∙ sym (ap (λ (w : Weight). w.edges) m) })
      m (legs_found e k) j

module _ {N : Network} {T : Columns} {S : Sheet} {from to : ℕ} where
  -- the promise as one over legs
  contracted_answered : {journey journey' wide wide' narrow narrow' : List ℕ} {a : Answer}
      → Contracted N T S from to journey journey' wide wide' narrow narrow' a
      → Answered (rows_order N T S from to (length wide) (length narrow)) N [] (Legs N (table T) S from to) journey journey' wide wide' narrow narrow'
      a (legs_of a)
  contracted_answered (refuses r e j u) = Answers.refuses r e (legs_refused e) j u
  contracted_answered {wide = wide} {narrow = narrow} (searches q t z) =
      let k = rows_accepted N T S from to (length wide) (length narrow) q in
      Answers.searches q (travelled_sought k.sound k.sound_table t) z

  -- `search_contracted`, of which the count of an answer tells how many legs are written
  pub contracted_unique : {journey journey₁ journey₂ wide wide₁ wide₂ narrow narrow₁ narrow₂ : List ℕ} {a b : Answer}
      → Contracted N T S from to journey journey₁ wide wide₁ narrow narrow₁ a
      → Contracted N T S from to journey journey₂ wide wide₂ narrow narrow₂ b
      → Determined a b journey₁ journey₂ wide₁ wide₂ narrow₁ narrow₂ (legs_of a) (legs_of b)
  contracted_unique s t = answered_determined (
    whole_single,
    (whole_single, (each_single, (each_single, (each_single, (each_single, (sheet_single S, (question_single (nodes N) from to, tt))))))),
  )
      (λ q legs l. let e = l.as_many in omega arith) (contracted_answered s) (contracted_answered t)
