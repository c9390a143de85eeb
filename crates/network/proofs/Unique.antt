-- For each public promise of this crate: two results that it allows for one input are equal. And the least weight is one.
use mathlib.Core.Path.{◌≡◌, refl, sym, ◌∙◌, ap, ap₂, subst}
use mathlib.Core.Bool.{Bool, true, false}
use mathlib.Core.Logic.{inl, inr}
use mathlib.Core.List.{List, [], ◌∷◌}
use Prim.Native.Nat.{ℕ, ◌<◌}
use native.Mathlib.Omega.{arith}
use native.Mathlib.Decide.{dec_lt}
use lib.ListN.{get_or}
use Rattle.std.specs.Prelude.{Option, None, Some, Result, Ok, Err}
use Rattle.network.specs.declared.answer.Answer.{Answer}
use Rattle.network.specs.declared.refusal.Fault.{Fault}
use Rattle.network.specs.declared.refusal.Fault.TheVariants.{
  Sizes,
  NodeMode,
  Edge,
  Transfer,
  Sheet as SheetFault,
  Question,
  NoJourney,
  JourneyRoom,
  ShortcutSpace,
  Shortcut,
  WorkRoom,
  Record,
}
use Rattle.network.specs.declared.refusal.Refusal.{Refusal}
use Rattle.network.specs.declared.weight.Weight.{Weight}
use Rattle.network.specs.declared.rows.Row.{Row}
use Rattle.network.specs.Weight.{Lighter, Sum, whole, too_large}
use Rattle.network.specs.Network.{Network}
use Rattle.network.specs.declared.sheet.Sheet.{Sheet}
use Rattle.network.specs.Sheet.{SheetSound}
use Rattle.network.specs.Rows.{Columns}
use Rattle.network.specs.Journey as journey
use Rattle.network.specs.Journey.{Least}
use Rattle.network.specs.Refusal.{
  Rule,
  Refused,
  Passed,
  Lowest,
  whole_rule,
  each_rule,
  sheet_rules,
  question,
  entries_order,
  network_order,
  rows_order,
  sheet_order,
  question_order,
}
use Rattle.network.specs.Answers.{Decides, Found, shown, number_of, verdict, Ruled, Checked, accepts, refuses}
use Rattle.network.proofs.WeightLaws.{neither_lighter}

-- A promise that is an equation, as those of `Fault::at`, `Network::front`, `Shortcuts::front`, `ShortcutRoom::read`, `ShortcutRoom::front`, `Row::cost`,
-- `row_at`, `tail_at`, and of `Answer::from` a refusal or a check: `equal_unique` of the crate `columns`.

-- A promise that is a decision: `Weight::lighter`, `contracted_before`, `network_sized`, `even_rows`, `rows_sized`.
pub decides_unique : (P : Type 0) (r r' : Bool) → Decides r P → Decides r' P → r ≡ r'
decides_unique P true true p q = refl
decides_unique P true false p n = absurd (n p)
decides_unique P false true n q = absurd (n q)
decides_unique P false false n m = refl

-- `Weight::plus`
pub sum_unique : {a b r r' : Weight} → Sum a b r → Sum a b r' → r ≡ r'
sum_unique (whole h e) (whole k f) = e ∙ sym f
sum_unique (whole h e) (too_large n f) = absurd (n h)
sum_unique (too_large n e) (whole k f) = absurd (n k)
sum_unique (too_large n e) (too_large m f) = e ∙ sym f

-- A rule gives one place, and where it is kept none.
pub record Single (rule : Rule) : Type 0 where
  pub one_place : (p q : ℕ) → rule.Broken p → rule.Broken q → p ≡ q
  pub not_both : rule.Kept → (p : ℕ) → rule.Broken p → ⊥

abbrev pub Singles : List Rule → Type 0
Singles [] = Unit {0}
Singles (rule ∷ others) = Single rule × Singles others

pub refused_unique : (rules : List Rule) → Singles rules → (n n' p p' : ℕ) → Refused rules n p → Refused rules n' p' → (n ≡ n') × (p ≡ p')
refused_unique [] s n n' p p' r r' = absurd r
refused_unique (rule ∷ others) s n n' p p' (inl (e, b)) (inl (e', b')) = (e ∙ sym e', s.0.one_place p p' b b')
refused_unique (rule ∷ others) s n n' p p' (inl (e, b)) (inr (k, r')) = absurd (s.0.not_both k p b)
refused_unique (rule ∷ others) s n n' p p' (inr (k, r)) (inl (e, b)) = absurd (s.0.not_both k p' b)
refused_unique (rule ∷ others) s n n' p p' (inr (k, r)) (inr (k', r')) = refused_unique others s.1 n n' p p' r r'

pub refused_passed : (rules : List Rule) → Singles rules → (n p : ℕ) → Refused rules n p → Passed rules → ⊥
refused_passed [] s n p r q = r
refused_passed (rule ∷ others) s n p (inl (e, b)) q = s.0.not_both q.0 p b
refused_passed (rule ∷ others) s n p (inr (k, r)) q = refused_passed others s.1 n p r q.1

pub checked_unique : {rules : List Rule} {a a' : Answer} → Singles rules → Checked rules a → Checked rules a' → a ≡ a'
checked_unique s (accepts e p) (accepts f q) = e ∙ sym f
checked_unique {rules} s (accepts e p) (refuses {number = n} {place = k} f q) = absurd (refused_passed rules s n k q p)
checked_unique {rules} s (refuses {number = n} {place = k} e p) (accepts f q) = absurd (refused_passed rules s n k p q)
checked_unique {rules} s (refuses {number = n} {place = k} e p) (refuses {number = n'} {place = k'} f q) =
    let u = refused_unique rules s n n' k k' p q in
    e ∙ ap₂ shown u.0 u.1 ∙ sym f

pub lowest_unique : {P : ℕ → Type 0} {start n p q : ℕ} → Lowest P start n p → Lowest P start n q → p ≡ q
lowest_unique {P} {start} {n} {p} {q} a b = go (dec_lt p q) (dec_lt q p)
  where
    go : Dec (p < q) → Dec (q < p) → p ≡ q
    go (yes h) k = absurd (a.broken (b.before_fine p a.from_start h))
    go (no h) (yes k) = absurd (b.broken (a.before_fine q b.from_start k))
    go (no h) (no k) = omega arith

-- what a search finds: `Found`
pub found_unique : (P : ℕ → Type 0) (start n : ℕ) (r r' : Option ℕ) → Found P start n r → Found P start n r' → r ≡ r'
found_unique P start n None None h k = refl
found_unique P start n None (Some q) h k = absurd (k.broken (h q k.from_start k.below))
found_unique P start n (Some p) None h k = absurd (h.broken (k p h.from_start h.below))
found_unique P start n (Some p) (Some q) h k = ap Some (lowest_unique h k)

-- No two faults show one number: the fault that shows n stands at n.
faults : List Fault
faults =
    Record
    ∷ Sizes
    ∷ NodeMode
    ∷ Edge
    ∷ Transfer
    ∷ SheetFault
    ∷ Question
    ∷ NoJourney
    ∷ JourneyRoom
    ∷ ShortcutSpace
    ∷ Shortcut
    ∷ WorkRoom
    ∷ []

fault_shown : (f : Fault) → get_or faults (number_of f) Record ≡ f
unfolding faults
fault_shown Sizes = refl
fault_shown NodeMode = refl
fault_shown Edge = refl
fault_shown Transfer = refl
fault_shown SheetFault = refl
fault_shown Question = refl
fault_shown NoJourney = refl
fault_shown JourneyRoom = refl
fault_shown ShortcutSpace = refl
fault_shown Shortcut = refl
fault_shown WorkRoom = refl
fault_shown Record = refl

pub number_of_injective : (f g : Fault) → number_of f ≡ number_of g → f ≡ g
number_of_injective f g e = sym (fault_shown f) ∙ ap (λ n. get_or faults n Record) e ∙ fault_shown g

-- What a check answers: `Ruled`. It is one, and it shows what `Checked` allows.
pub ruled_unique : (rules : List Rule) → Singles rules → (r r' : Result Unit Refusal) → Ruled rules r → Ruled rules r' → r ≡ r'
ruled_unique rules s (Ok a) (Ok b) p q = refl
ruled_unique rules s (Ok a) (Err y) p q = absurd (refused_passed rules s (number_of y.fault) y.place q p)
ruled_unique rules s (Err x) (Ok b) p q = absurd (refused_passed rules s (number_of x.fault) x.place p q)
ruled_unique rules s (Err x) (Err y) p q =
    let u = refused_unique rules s (number_of x.fault) (number_of y.fault) x.place y.place p q in
    let fault = number_of_injective x.fault y.fault u.0 in
    λ i. Err (record { fault = fault i; place = u.1 i })

pub ruled_checked : {rules : List Rule} (r : Result Unit Refusal) → Ruled rules r → Checked rules (verdict r)
ruled_checked (Ok a) p = accepts refl p
ruled_checked (Err x) p = refuses refl p

-- the rules
pub whole_single : {number : ℕ} {A : Type 0} → Single (whole_rule number A)
whole_single = record { one_place = λ p q a b. a.0 ∙ sym b.0; not_both = λ k p b. b.1 k }

pub each_single : {number : ℕ} {P : ℕ → Type 0} {start n : ℕ} → Single (each_rule number P start n)
each_single = record { one_place = λ p q. lowest_unique; not_both = λ k p b. b.broken (k p b.from_start b.below) }

pub sheet_single : (S : Sheet) → Single (sheet_rules S)
sheet_single S = record { one_place = one; not_both = not }
  where
    one : (p q : ℕ) → (sheet_rules S).Broken p → (sheet_rules S).Broken q → p ≡ q
    one p q (inl a) (inl b) = a.0 ∙ sym b.0
    one p q (inl a) (inr b) = absurd (a.1 b.0)
    one p q (inr a) (inl b) = absurd (b.1 a.0)
    one p q (inr a) (inr b) = lowest_unique a.1 b.1

    not : SheetSound S → (p : ℕ) → (sheet_rules S).Broken p → ⊥
    not k p (inl a) = a.1 k.counted
    not k p (inr a) = a.1.broken (k.state_fine p a.1.below)

pub question_single : (n from to : ℕ) → Single (question n from to)
question_single n from to = record { one_place = one; not_both = not }
  where
    one : (p q : ℕ) → (question n from to).Broken p → (question n from to).Broken q → p ≡ q
    one p q (inl a) (inl b) = a.0 ∙ sym b.0
    one p q (inl a) (inr b) = absurd (omega arith)
    one p q (inr a) (inl b) = absurd (omega arith)
    one p q (inr a) (inr b) = a.0 ∙ sym b.0

    not : (from < n) × (to < n) → (p : ℕ) → (question n from to).Broken p → ⊥
    not k p (inl a) = omega arith
    not k p (inr a) = omega arith

pub entries_singles : (N : Network) → Singles (entries_order N)
entries_singles N = (each_single, (each_single, (each_single, tt)))

pub network_singles : (N : Network) → Singles (network_order N)
network_singles N = (whole_single, entries_singles N)

pub rows_singles : (N : Network) (T : Columns) → Singles (rows_order N T)
rows_singles N T = (whole_single, (each_single, tt))

pub sheet_singles : (S : Sheet) → Singles (sheet_order S)
sheet_singles S = (sheet_single S, tt)

pub question_singles : (n from to : ℕ) → Singles (question_order n from to)
question_singles n from to = (question_single n from to, tt)

-- `check_network`: what it shows, and what it answers
pub network_unique : (N : Network) {a a' : Answer} → Checked (network_order N) a → Checked (network_order N) a' → a ≡ a'
network_unique N = checked_unique (network_singles N)

pub check_network_unique : (N : Network) (r r' : Result Unit Refusal) → Ruled (network_order N) r → Ruled (network_order N) r' → r ≡ r'
check_network_unique N = ruled_unique (network_order N) (network_singles N)

-- `check_entries`
pub check_entries_unique : (N : Network) (r r' : Result Unit Refusal) → Ruled (entries_order N) r → Ruled (entries_order N) r' → r ≡ r'
check_entries_unique N = ruled_unique (entries_order N) (entries_singles N)

-- `check_rows`
pub rows_unique : (N : Network) (T : Columns) {a a' : Answer} → Checked (rows_order N T) a → Checked (rows_order N T) a' → a ≡ a'
rows_unique N T = checked_unique (rows_singles N T)

pub check_rows_unique : (N : Network) (T : Columns) (r r' : Result Unit Refusal) → Ruled (rows_order N T) r → Ruled (rows_order N T) r' → r ≡ r'
check_rows_unique N T = ruled_unique (rows_order N T) (rows_singles N T)

-- `check_sheet`
pub sheet_unique : (S : Sheet) {a a' : Answer} → Checked (sheet_order S) a → Checked (sheet_order S) a' → a ≡ a'
sheet_unique S = checked_unique (sheet_singles S)

pub check_sheet_unique : (S : Sheet) (r r' : Result Unit Refusal) → Ruled (sheet_order S) r → Ruled (sheet_order S) r' → r ≡ r'
check_sheet_unique S = ruled_unique (sheet_order S) (sheet_singles S)

-- `check_question`
pub question_unique : (n from to : ℕ) {a a' : Answer} → Checked (question_order n from to) a → Checked (question_order n from to) a' → a ≡ a'
question_unique n from to = checked_unique (question_singles n from to)

pub check_question_unique : (n from to : ℕ) (r r' : Result Unit Refusal) → Ruled (question_order n from to) r
    → Ruled (question_order n from to) r' → r ≡ r'
check_question_unique n from to = ruled_unique (question_order n from to) (question_singles n from to)

-- The least weight is one, and it excludes that there is no path.
pub least_unique : {N : Network} {ss : List Row} {P : List ℕ → Type 0} {w w' : Weight} → Least N ss P w → Least N ss P w' → w ≡ w'
least_unique {w = w} {w' = w'} a b = neither_lighter
    (λ h. b.none_lighter a.path a.allowed (subst (λ x. Lighter x w') (sym a.weighs) h))
    (λ h. a.none_lighter b.path b.allowed (subst (λ x. Lighter x w) (sym b.weighs) h))

pub least_not_none : {N : Network} {ss : List Row} {P : List ℕ → Type 0} {w : Weight} → Least N ss P w → journey.None P → ⊥
least_not_none a n = n.no_path a.path a.allowed
