-- For each call: two results that its promise allows for one input are equal, but for which of several least journeys is written. The core's
-- theorems say it; here only a sheet of a wrong length is added.
use mathlib.Core.Path.{◌≡◌, sym, ap, ◌∙◌}
use mathlib.Core.List.{List}
use Prim.Native.Nat.{ℕ}
use lib.ListN.{length, drop}
use Rattle.network.specs.declared.answer.Answer.{Answer}
use Rattle.network.specs.Network.{Network}
use Rattle.network.specs.Rows.{Columns}
use Rattle.network.specs.Refusal.{network_order}
use Rattle.network.specs.Answers.{Checked}
use Rattle.network.proofs.Unique.{network_unique}
use Rattle.search.specs.Answers.{legs_of}
use Rattle.search.proofs.SearchUnique.{Determined, plain_search_unique}
use Rattle.preparation.specs.Answers.{PreparedInto}
use Rattle.legs.specs.Opened.{OpenedInto}
use Rattle.preparation.proofs.PrepareUnique.{prepare_unique}
use Rattle.legs.proofs.ContractedUnique.{contracted_unique}
use Rattle.legs.proofs.OpenUnique.{opened_into_unique}
use Rattle.exports.specs.Calls.{SheetRefused, PlainCalled, ContractedCalled}

-- `journeys_check`
pub check_call_unique : (N : Network) {a b : Answer} → Checked (network_order N) a → Checked (network_order N) b → a ≡ b
check_call_unique = network_unique

-- `journeys_prepare`: the answer, the lent rows and the work rooms
pub prepare_call_unique : {N : Network} {T T₁ T₂ : Columns} {wide wide₁ wide₂ narrow narrow₁ narrow₂ : List ℕ} {a b : Answer}
    → PreparedInto N T T₁ wide wide₁ narrow narrow₁ a → PreparedInto N T T₂ wide wide₂ narrow narrow₂ b
    → (a ≡ b) × (T₁ ≡ T₂) × (wide₁ ≡ wide₂) × (narrow₁ ≡ narrow₂)
prepare_call_unique = prepare_unique

-- `journeys_open`: what it answers, and the whole room
pub open_call_unique : {N : Network} {T : Columns} {r n m : ℕ} {room room₁ room₂ : List ℕ} → OpenedInto N T r room n room₁
    → OpenedInto N T r room m room₂ → (n ≡ m) × (room₁ ≡ room₂)
open_call_unique = opened_into_unique

-- two refusals of a sheet's length
sheet_refused_unique : {bytes journey journey₁ journey₂ wide wide₁ wide₂ narrow narrow₁ narrow₂ : List ℕ} {a b : Answer}
    → SheetRefused bytes journey journey₁ wide wide₁ narrow narrow₁ a → SheetRefused bytes journey journey₂ wide wide₂ narrow narrow₂ b
    → Determined a b journey₁ journey₂ wide₁ wide₂ narrow₁ narrow₂ (legs_of a) (legs_of b)
sheet_refused_unique {a = a} s t =
    let e = s.refused ∙ sym t.refused in
    let j = s.journey_same ∙ sym t.journey_same in
    record {
      answer_same = e;
      wide_same = s.rooms_same.wide_same ∙ sym t.rooms_same.wide_same;
      narrow_same = s.rooms_same.narrow_same ∙ sym t.rooms_same.narrow_same;
      journey_size = ap length j;
      behind_same = ap (drop a.count) j;
      refused_same = λ n. j;
      refused_rows = λ n. ap legs_of e;
    }

-- `journeys_plain`
pub plain_call_unique : {N : Network} {bytes : List ℕ} {states from to : ℕ}
    {journey journey₁ journey₂ wide wide₁ wide₂ narrow narrow₁ narrow₂ : List ℕ} {a b : Answer}
    → PlainCalled N bytes states from to journey journey₁ wide wide₁ narrow narrow₁ a
    → PlainCalled N bytes states from to journey journey₂ wide wide₂ narrow narrow₂ b
    → Determined a b journey₁ journey₂ wide₁ wide₂ narrow₁ narrow₂ (legs_of a) (legs_of b)
plain_call_unique (PlainCalled.no_sheet s) (PlainCalled.no_sheet t) = sheet_refused_unique s t
plain_call_unique (PlainCalled.no_sheet s) (PlainCalled.asked h t) = absurd (s.not_24 h)
plain_call_unique (PlainCalled.asked h s) (PlainCalled.no_sheet t) = absurd (t.not_24 h)
plain_call_unique (PlainCalled.asked h s) (PlainCalled.asked k t) = plain_search_unique s t

-- `journeys_contracted`
pub contracted_call_unique : {N : Network} {T : Columns} {bytes : List ℕ} {states from to : ℕ}
    {journey journey₁ journey₂ wide wide₁ wide₂ narrow narrow₁ narrow₂ : List ℕ} {a b : Answer}
    → ContractedCalled N T bytes states from to journey journey₁ wide wide₁ narrow narrow₁ a
    → ContractedCalled N T bytes states from to journey journey₂ wide wide₂ narrow narrow₂ b
    → Determined a b journey₁ journey₂ wide₁ wide₂ narrow₁ narrow₂ (legs_of a) (legs_of b)
contracted_call_unique (ContractedCalled.no_sheet s) (ContractedCalled.no_sheet t) = sheet_refused_unique s t
contracted_call_unique (ContractedCalled.no_sheet s) (ContractedCalled.asked h t) = absurd (s.not_24 h)
contracted_call_unique (ContractedCalled.asked h s) (ContractedCalled.no_sheet t) = absurd (t.not_24 h)
contracted_call_unique (ContractedCalled.asked h s) (ContractedCalled.asked k t) = contracted_unique s t
