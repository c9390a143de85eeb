-- Two results that the promise of a search allows for one input are equal in number, place, time, count and all rooms, but for which of several
-- least journeys is written: their rows stand at the front of the journey room, no more of them than the answer counts edges.
use mathlib.Core.Path.{◌≡◌, refl, sym, ap, ap₂, subst, ◌∙◌}
use mathlib.Core.List.{List, [], ◌∷◌, ◌++◌}
use Prim.Native.Nat.{ℕ, zero, suc, ◌+◌, ◌*◌, ◌-◌, ◌≤◌}
use native.Mathlib.Omega.{arith}
use lib.ListN.{length, drop, length-append, length-drop}
use Rattle.network.specs.declared.answer.Answer.{Answer}
use Rattle.network.specs.declared.weight.Weight.{Weight}
use Rattle.network.specs.declared.rows.Row.{Row}
use Rattle.network.specs.Weight.{zero_weight}
use Rattle.network.specs.Network.{Network, nodes, Sound}
use Rattle.network.specs.declared.sheet.Sheet.{Sheet}
use Rattle.network.specs.Rows.{Columns, SoundTable, table}
use Rattle.network.specs.Journey.{weight, Journey}
use Rattle.network.specs.Refusal.{Rule, Passed}
use Rattle.network.specs.Answers.{shown}
use Rattle.network.proofs.RowLaws.{no_table}
use Rattle.network.proofs.Unique.{Singles, refused_unique, refused_passed, whole_single, each_single, sheet_single, question_single, least_unique, least_not_none}
use Rattle.search.specs.UpDown.{UpDownJourney}
use Rattle.search.specs.Orders.{plain_order, rows_order}
use Rattle.search.specs.Answers.{told, Sought, no_journey, no_room, found, Answered, refuses, searches}
use Rattle.search.proofs.Places.{trail_rows}
use Rattle.search.proofs.Searches.{Walks, rows_within, along_grown, up_down_walks, plain_walks}
use Rattle.search.proofs.LegLaws.{rows_ready, plain_ready}

-- what is equal of two results: answers a and b, journey rooms, work rooms, and how many rows were written
pub record Determined (a b : Answer) (journey₁ journey₂ wide₁ wide₂ narrow₁ narrow₂ : List ℕ) (rows₁ rows₂ : ℕ) : Type 0 where
  pub answer_same : a ≡ b
  pub wide_same : wide₁ ≡ wide₂
  pub narrow_same : narrow₁ ≡ narrow₂
  pub journey_size : length journey₁ ≡ length journey₂
  pub behind_same : drop a.count journey₁ ≡ drop a.count journey₂
  pub refused_same : (a.number ≡ 0 → ⊥) → journey₁ ≡ journey₂
  pub refused_rows : (a.number ≡ 0 → ⊥) → rows₁ ≡ rows₂

-- what one result leaves of the journey room
record Leaves (journey journey' : List ℕ) (a : Answer) (written : ℕ) : Type 0 where
  size : length journey' ≡ length journey
  behind : drop a.count journey' ≡ drop a.count journey
  unless : (a.number ≡ 0 → ⊥) → (journey' ≡ journey) × (written ≡ 0)

-- behind what was written to the front, the room is as it was
drop_past : (xs zs : List ℕ) (k : ℕ) → drop (length xs + k) (xs ++ zs) ≡ drop k zs
drop_past [] zs k = let z : 0 + k ≡ k = omega arith in ap (λ (n : ℕ). drop n zs) z
drop_past (x ∷ xs) zs k =
    let z : length (x ∷ xs) + k ≡ suc (length xs + k) = omega arith in ap (λ (n : ℕ). drop n (x ∷ (xs ++ zs))) z ∙ drop_past xs zs k

drop_twice : (n k : ℕ) (ys : List ℕ) → drop k (drop n ys) ≡ drop (n + k) ys
drop_twice zero k ys = let z : k ≡ 0 + k = omega arith in ap (λ (n : ℕ). drop n ys) z
drop_twice (suc n) k [] =
    let none : (m : ℕ) → drop m [] ≡ [] = drop_none in none k ∙ sym (none (suc n + k))
  where
    drop_none : (m : ℕ) → drop {A = ℕ} m [] ≡ []
    drop_none zero = refl
    drop_none (suc m) = refl
drop_twice (suc n) k (y ∷ ys) =
    let z : suc (n + k) ≡ suc n + k = omega arith in drop_twice n k ys ∙ ap (λ (m : ℕ). drop m (y ∷ ys)) z

behind_front : (xs ys : List ℕ) (m : ℕ) → length xs ≤ m → drop m (xs ++ drop (length xs) ys) ≡ drop m ys
behind_front xs ys m l =
    let z : m ≡ length xs + (m - length xs) = omega arith in
    ap (λ (n : ℕ). drop n (xs ++ drop (length xs) ys)) z ∙ drop_past xs (drop (length xs) ys) (m - length xs)
    ∙ drop_twice (length xs) (m - length xs) ys ∙ ap (λ (n : ℕ). drop n ys) (sym z)

front_size : (xs ys : List ℕ) → length xs ≤ length ys → length (xs ++ drop (length xs) ys) ≡ length ys
front_size xs ys l = omega (arith, length-append xs (drop (length xs) ys), length-drop (length xs) ys)

-- the room was not written to
same_room : {journey journey' : List ℕ} {a : Answer} {written : ℕ} → journey' ≡ journey → written ≡ 0 → Leaves journey journey' a written
same_room {a = a} j w = record { size = ap length j; behind = ap (drop a.count) j; unless = λ n. (j, w) }

-- over the paths of P, none of which has more rows than edges
module _ {N : Network} {ss : List Row} {P : List ℕ → Type 0} where
  sought_leaves : {journey journey' : List ℕ} {a : Answer} {written : ℕ} → ((rs : List ℕ) → P rs → length rs ≤ (weight N ss rs).edges)
      → Sought N ss P journey journey' a written → Leaves journey journey' a written
  sought_leaves short (no_journey n e w j) = same_room j w
  sought_leaves short (no_room l h e w j) = same_room j w
  sought_leaves {journey} {a = a} short (found {w = v} {legs = legs} l h e p s w j) =
      let c : a.count ≡ v.edges = ap (λ (x : Answer). x.count) e in
      let m : length legs ≤ v.edges = subst (λ (x : Weight). length legs ≤ x.edges) s (short legs p) in
      record {
        size = ap length j ∙ front_size legs journey (omega arith);
        behind = ap (drop a.count) j ∙ behind_front legs journey a.count (omega arith);
        unless = λ n. absurd (n (ap (λ (x : Answer). x.number) e));
      }

  sought_answer : {journey journey₁ journey₂ : List ℕ} {a b : Answer} {k m : ℕ} → Sought N ss P journey journey₁ a k
      → Sought N ss P journey journey₂ b m → a ≡ b
  sought_answer (no_journey n e w j) (no_journey n' e' w' j') = e ∙ sym e'
  sought_answer (no_journey n e w j) (no_room l h e' w' j') = absurd (least_not_none l n)
  sought_answer (no_journey n e w j) (found l h e' p s w' j') = absurd (least_not_none l n)
  sought_answer (no_room l h e w j) (no_journey n e' w' j') = absurd (least_not_none l n)
  sought_answer (no_room l h e w j) (no_room l' h' e' w' j') = e ∙ ap (told 8) (least_unique l l') ∙ sym e'
  sought_answer (no_room l h e w j) (found l' h' e' p s w' j') = absurd (omega (arith, ap (λ (x : Weight). x.edges) (least_unique l l')))
  sought_answer (found l h e p s w j) (no_journey n e' w' j') = absurd (least_not_none l n)
  sought_answer (found l h e p s w j) (no_room l' h' e' w' j') = absurd (omega (arith, ap (λ (x : Weight). x.edges) (least_unique l l')))
  sought_answer (found l h e p s w j) (found l' h' e' p' s' w' j') = e ∙ ap (told 0) (least_unique l l') ∙ sym e'

  module _ {rules : List Rule} (singles : Singles rules) {journey wide narrow : List ℕ} where
    answered_answer : {journey₁ journey₂ wide₁ wide₂ narrow₁ narrow₂ : List ℕ} {a b : Answer} {k m : ℕ}
        → Answered rules N ss P journey journey₁ wide wide₁ narrow narrow₁ a k → Answered rules N ss P journey journey₂ wide wide₂ narrow narrow₂ b m
        → (a ≡ b) × (wide₁ ≡ wide₂) × (narrow₁ ≡ narrow₂)
    answered_answer (refuses {number = n} {place = p} r e w j u) (refuses {number = n'} {place = p'} r' e' w' j' u') =
        let q = refused_unique rules singles n n' p p' r r' in
        (e ∙ ap₂ shown q.0 q.1 ∙ sym e', u.wide_same ∙ sym u'.wide_same, u.narrow_same ∙ sym u'.narrow_same)
    answered_answer (refuses {number = n} {place = p} r e w j u) (searches q s z) = absurd (refused_passed rules singles n p r q)
    answered_answer (searches q s z) (refuses {number = n} {place = p} r e w j u) = absurd (refused_passed rules singles n p r q)
    answered_answer (searches q s z) (searches q' s' z') =
        (sought_answer s s', z.wide_zero ∙ sym z'.wide_zero, z.narrow_zero ∙ sym z'.narrow_zero)

    module _ (short : Passed rules → (rs : List ℕ) → P rs → length rs ≤ (weight N ss rs).edges) where
      answered_leaves : {journey' wide' narrow' : List ℕ} {a : Answer} {k : ℕ} → Answered rules N ss P journey journey' wide wide' narrow narrow' a k
          → Leaves journey journey' a k
      answered_leaves (refuses r e w j u) = same_room j w
      answered_leaves (searches q s z) = sought_leaves (short q) s

      pub answered_determined : {journey₁ journey₂ wide₁ wide₂ narrow₁ narrow₂ : List ℕ} {a b : Answer} {k m : ℕ}
          → Answered rules N ss P journey journey₁ wide wide₁ narrow narrow₁ a k
          → Answered rules N ss P journey journey₂ wide wide₂ narrow narrow₂ b m
          → Determined a b journey₁ journey₂ wide₁ wide₂ narrow₁ narrow₂ k m
      answered_determined {journey₂ = journey₂} {a = a} {b = b} s t =
          let q = answered_answer s t in
          let f = answered_leaves s in
          let g = answered_leaves t in
          record {
            answer_same = q.0;
            wide_same = q.1;
            narrow_same = q.2;
            journey_size = f.size ∙ sym g.size;
            behind_same = f.behind
                ∙ sym (subst (λ (x : Answer). drop x.count journey₂ ≡ drop x.count journey) (sym q.0) g.behind);
            refused_same = λ n. (f.unless n).0 ∙ sym (g.unless (λ z. n (ap (λ (x : Answer). x.number) q.0 ∙ z))).0;
            refused_rows = λ n. (f.unless n).1 ∙ sym (g.unless (λ z. n (ap (λ (x : Answer). x.number) q.0 ∙ z))).1;
          }

-- each row counts for at least one edge
rows_short : {N : Network} {ss : List Row} {S : Sheet} {Down : ℕ → ℕ → Type 0} {from to : ℕ} {P : List ℕ → Type 0} → Sound N → SoundTable N ss
    → Walks N ss S Down from to P → (rs : List ℕ) → P rs → length rs ≤ (weight N ss rs).edges
rows_short sound table walks rs p =
    omega (arith, (along_grown (rows_within sound table) rs (trail_rows (walks.to_walk rs p).trail) zero_weight).edges_more)

-- `search_rows`
pub rows_search_unique : {N : Network} {T : Columns} {S : Sheet} {from to : ℕ}
    {journey journey₁ journey₂ wide wide₁ wide₂ narrow narrow₁ narrow₂ : List ℕ} {a b : Answer} {k m : ℕ}
    → Answered (rows_order N T S from to (length wide) (length narrow)) N (table T) (UpDownJourney N (table T) S from to) journey journey₁ wide wide₁ narrow narrow₁ a k
    → Answered (rows_order N T S from to (length wide) (length narrow)) N (table T) (UpDownJourney N (table T) S from to) journey journey₂ wide wide₂ narrow narrow₂ b m
    → Determined a b journey₁ journey₂ wide₁ wide₂ narrow₁ narrow₂ k m
rows_search_unique {N} {T} {S} {from} {to} {wide = wide} {narrow = narrow} = answered_determined
    (whole_single, (whole_single, (each_single, (each_single, (each_single, (each_single, (sheet_single S, (question_single (nodes N) from to, tt))))))))
    (λ q.
    let r = rows_ready {N = N} {T = T} {S = S} {from = from} {to = to} {w = length wide} {n = length narrow} q in
    rows_short r.table_sound.sound r.table_sound.sound_table (up_down_walks r.table_sound.sound r.table_sound.sound_table r.sheet.counted))

-- `search_plain`, of which the count of an answer tells how many edges are written
pub plain_search_unique : {N : Network} {S : Sheet} {from to : ℕ}
    {journey journey₁ journey₂ wide wide₁ wide₂ narrow narrow₁ narrow₂ : List ℕ} {a b : Answer}
    → Answered (plain_order N S from to (length wide) (length narrow)) N [] (Journey N [] S from to) journey journey₁ wide wide₁ narrow narrow₁ a ((1 - a.number) * a.count)
    → Answered (plain_order N S from to (length wide) (length narrow)) N [] (Journey N [] S from to) journey journey₂ wide wide₂ narrow narrow₂ b ((1 - b.number) * b.count)
    → Determined a b journey₁ journey₂ wide₁ wide₂ narrow₁ narrow₂ ((1 - a.number) * a.count) ((1 - b.number) * b.count)
plain_search_unique {N} {S} {from} {to} {wide = wide} {narrow = narrow} = answered_determined
    (whole_single, (whole_single, (each_single, (each_single, (each_single, (sheet_single S, (question_single (nodes N) from to, tt)))))))
    (λ q.
    let r = plain_ready {N = N} {S = S} {from = from} {to = to} {w = length wide} {n = length narrow} q in
    rows_short r.table_sound.sound (no_table r.table_sound.sound) (plain_walks r.table_sound.sound r.sheet.counted))
