-- How a journey is read back and written: the steps back lead to the first place, and the rows are those of a least path.
use mathlib.Core.Path.{◌≡◌, refl, sym, ap, ap₂, subst, ◌∙◌}
use mathlib.Core.Bool.{Bool, true, false}
use mathlib.Core.List.{List, [], ◌∷◌, ◌++◌}
use Prim.Native.Nat.{ℕ, zero, suc, ◌+◌, ◌*◌, ◌-◌, ◌/◌, ◌%◌, ◌<◌, ◌≤◌, min}
use native.Mathlib.Nat.{mul-zero}
use native.Mathlib.Omega.{arith}
use lib.ListN.{length, set, take, drop, replicate, length-set, length-take, length-drop, take-append-drop}
use lib.Seq.{drop-cons, drop-set-lt, get_or-set_same}
use Rattle.std.specs.Prelude.{Option, None, Some as is}
use Rattle.network.specs.declared.answer.Answer.{Answer}
use Rattle.network.specs.declared.weight.Weight.{Weight}
use Rattle.network.specs.declared.refusal.Refusal.{Refusal}
use Rattle.network.specs.declared.rows.Row.{Row}
use Rattle.network.specs.Network.{Network, nodes, Sound}
use Rattle.network.specs.Rows.{Columns, columns, Even, SoundTable, row, listed, table}
use Rattle.network.specs.declared.sheet.Sheet.{Sheet}
use Rattle.network.specs.Refusal.{Rule, Refused, Passed}
use Rattle.network.specs.Answers.{row_read, number_of, refused, shown}
use Rattle.network.specs.Journey.{Journey}
use Rattle.network.specs.Weight.{zero_weight}
use Rattle.network.proofs.Bounds.{way_adds}
use Rattle.network.proofs.Checking.{passed_sound, passed_table}
use Rattle.network.proofs.RowLaws.{read_row, no_table}
use Rattle.network.proofs.WeightLaws.{not-≼-lighter}
use Rattle.search.specs.UpDown.{UpDownJourney}
use Rattle.columns.specs.Rooms.{Zeroed}
use Rattle.search.specs.Answers.{told, Sought, no_journey, no_room, found, Answered, refuses, searches}
use Rattle.search.specs.Orders.{plain_order, rows_order}
use Rattle.search.specs.Graph.{Greedy, Some, back}
use Rattle.search.specs.Places.{search_graph}
use Rattle.search.specs.Labels.{label, word, mark, row_before, place_before, Falls}
use Rattle.search.specs.Steps.{Ready, Arrived, Ended, Ran}
use Rattle.search.specs.Delivery.{edges_to, rows_to, Leads, begins, steps, Reached, Reach, FromPlace, too_short, delivered, Delivered}
use Rattle.search.proofs.Greedy.{tracing_start, tracing_parent}
use Rattle.search.proofs.Searches.{Walks, search_laws, search_counts, label_small, up_down_walks, plain_walks}
use Rattle.search.proofs.Answers.{search_found, search_none, search_traced}

-- what is read of the columns is the place before
pub place_read : (N : Network) {T : Columns} → Even T → (narrow : List ℕ) (p : ℕ) {r low : ℕ} {x : Row} → r ≡ row_before narrow p
    → x ≡ row_read N T r → low ≡ word narrow p / 2 % 16 → 16 * x.tail + low ≡ place_before N (table T) narrow p
place_read N {T} v narrow p {r} {low} {x} er ex el =
    ap₂ (λ (y : Row) (l : ℕ). 16 * y.tail + l) (ex ∙ read_row v N r ∙ ap (row N (table T)) er) el

-- one step back from the place v
pub record Step (N : Network) (ss : List Row) (narrow : List ℕ) (v : ℕ) (rs all : List ℕ) : Type 0 where
  pub falls : edges_to narrow (place_before N ss narrow v) < edges_to narrow v
  pub rest : Leads N ss narrow (place_before N ss narrow v) (row_before narrow v ∷ rs) all

module _ {N : Network} {ss : List Row} {narrow : List ℕ} where
  pub leads_in : {v : ℕ} {rs all : List ℕ} → Leads N ss narrow v rs all → v < 8192
  leads_in (begins l z e) = l
  leads_in (steps l f t) = l

  pub leads_whole : {v : ℕ} {rs all : List ℕ} → Leads N ss narrow v rs all → edges_to narrow v ≡ 0 → all ≡ rs
  leads_whole (begins l z e) n = e
  leads_whole (steps l f t) n = absurd (omega arith)

  pub leads_step : {v : ℕ} {rs all : List ℕ} → Leads N ss narrow v rs all → (edges_to narrow v ≡ 0 → ⊥) → Step N ss narrow v rs all
  leads_step (begins l z e) n = absurd (n z)
  leads_step (steps l f t) n = record { falls = f; rest = t }

  -- the rows in front are as many as the steps
  leads_least : {v : ℕ} {rs all : List ℕ} → Leads N ss narrow v rs all → length rs ≤ length all
  leads_least (begins l z e) = omega (arith, ap length e)
  leads_least (steps l f t) = omega (arith, leads_least t)

  pub leads_most : {v : ℕ} {rs all : List ℕ} → Leads N ss narrow v rs all → length all ≤ length rs + edges_to narrow v
  leads_most (begins l z e) = omega (arith, ap length e)
  leads_most (steps l f t) = omega (arith, leads_most t)

  pub leads_more : {v : ℕ} {rs all : List ℕ} → Leads N ss narrow v rs all → length rs < length all → Step N ss narrow v rs all
  leads_more (begins l z e) m = absurd (omega (arith, ap length e))
  leads_more (steps l f t) m = record { falls = f; rest = t }

  pub leads_full : {v : ℕ} {rs all : List ℕ} → Leads N ss narrow v rs all → length all ≤ length rs → all ≡ rs
  leads_full (begins l z e) m = e
  leads_full (steps l f t) m = absurd (omega (arith, leads_least t))

-- n rows are counted, and v is the place before them
pub record Counting (N : Network) (ss : List Row) (narrow : List ℕ) (p : ℕ) (all : List ℕ) (n v : ℕ) : Type 0 where
  pub seen : List ℕ
  pub leads : Leads N ss narrow v seen all
  pub counted : n ≡ length seen
  pub fewer : n + edges_to narrow v ≤ edges_to narrow p

module _ {N : Network} {ss : List Row} {narrow : List ℕ} {p : ℕ} {all : List ℕ} where
  -- the label w was read at the place v
  module _ {n v : ℕ} {w : Weight} (wide : List ℕ) (k : Counting N ss narrow p all n v) (ew : w ≡ label wide narrow v) where
    on_way : (w.edges ≡ 0 → ⊥) → Step N ss narrow v k.seen all
    on_way z = leads_step k.leads (λ e. z (ap (λ x. x.edges) ew ∙ e))

    pub steps_more : (w.edges ≡ 0 → ⊥) → {x : ℕ} → x ≡ place_before N ss narrow v → Counting N ss narrow p all (n + 1) x
    steps_more z {x} e = subst (λ (y : ℕ). Counting N ss narrow p all (n + 1) y) (sym e) (record {
      seen = row_before narrow v ∷ k.seen;
      leads = (on_way z).rest;
      counted = omega (arith, k.counted);
      fewer = omega (arith, k.fewer, (on_way z).falls);
    })

    pub steps_fall : (w.edges ≡ 0 → ⊥) → {x : ℕ} → x ≡ place_before N ss narrow v → edges_to narrow x < edges_to narrow v
    steps_fall z e = subst (λ (y : ℕ). edges_to narrow y < edges_to narrow v) (sym e) (on_way z).falls

    pub steps_done : w.edges ≡ 0 → n ≡ length all
    steps_done z = k.counted ∙ ap length (sym (leads_whole k.leads (sym (ap (λ x. x.edges) ew) ∙ z)))

-- the rows from the place k of the journey room on are written, and v is the place before them
pub record Writing (N : Network) (ss : List Row) (narrow : List ℕ) (n : ℕ) (all journey₀ journey : List ℕ) (v k : ℕ) : Type 0 where
  pub within : k ≤ n
  pub size : length journey ≡ length journey₀
  pub leads : Leads N ss narrow v (take (n - k) (drop k journey)) all
  pub rest : drop n journey ≡ drop n journey₀

module _ {N : Network} {ss : List Row} {narrow : List ℕ} {n : ℕ} {all journey₀ journey : List ℕ} (whole : n ≡ length all)
    (room : n ≤ length journey₀) where
  written_length : {v k : ℕ} → Writing N ss narrow n all journey₀ journey v k → length (take (n - k) (drop k journey)) ≡ n - k
  written_length {v} {k} w =
      length-take (n - k) (drop k journey) ∙ ap (min (n - k)) (length-drop k journey) ∙ omega (arith, w.within, w.size, room)

  turn_at : {v : ℕ} (j : ℕ) → Writing N ss narrow n all journey₀ journey v (suc j) → {journey' : List ℕ}
      → journey' ≡ set journey j (row_before narrow v) → Writing N ss narrow n all journey₀ journey' (place_before N ss narrow v) j
  turn_at {v} j w {journey'} f = record {
    within = omega (arith, w.within);
    size = ap length f ∙ simp length-set w.size;
    leads = subst (λ (rs : List ℕ). Leads N ss narrow (place_before N ss narrow v) rs all) (sym part)
        (leads_more w.leads (omega (arith, whole, written_length w, w.within))).rest;
    rest = ap (drop n) f ∙ drop-set-lt n journey j (row_before narrow v) (omega (arith, w.within)) ∙ w.rest;
  }
    where
      part : take (n - j) (drop j journey') ≡ row_before narrow v ∷ take (n - suc j) (drop (suc j) journey)
      part =
          let x = row_before narrow v in
          let z : n - j ≡ suc (n - suc j) = omega (arith, w.within) in
          let l : j < length (set journey j x) = simp length-set (omega (arith, w.within, w.size, room)) in
          let c : drop j (set journey j x) ≡ x ∷ drop (suc j) journey =
          drop-cons (set journey j x) j 0 l ∙ ap₂ (λ (y : ℕ) (ys : List ℕ). y ∷ ys) (get_or-set_same journey j x 0 (omega (arith, w.within, w.size, room))) (drop-set-lt (suc j) journey j x (omega arith)) in
          ap₂ take z (ap (drop j) f ∙ c)

  pub write_turn : {v : ℕ} (k : ℕ) → 0 < k → Writing N ss narrow n all journey₀ journey v k → {r : ℕ} → r ≡ row_before narrow v → {journey' : List ℕ}
      → journey' ≡ set journey (k - 1) r → {x : ℕ} → x ≡ place_before N ss narrow v → Writing N ss narrow n all journey₀ journey' x (k - 1)
  write_turn zero m w er f ex = absurd (omega arith)
  write_turn {v} (suc j) m w {r} er {journey'} f {x} ex =
      let z : suc j - 1 ≡ j = omega arith in
      subst (λ (y : ℕ). Writing N ss narrow n all journey₀ journey' y (suc j - 1)) (sym ex)
      (subst (λ (y : ℕ). Writing N ss narrow n all journey₀ journey' (place_before N ss narrow v) y) (sym z)
      (turn_at j w (f ∙ ap₂ (set journey) z er)))

  pub write_done : {v : ℕ} (k : ℕ) → Writing N ss narrow n all journey₀ journey v k → k ≤ 0 → journey ≡ all ++ drop n journey₀
  write_done {v} zero w m =
      let z : n - 0 ≡ n = omega arith in
      sym (take-append-drop n journey)
      ∙ ap₂ ◌++◌ (ap (λ (x : ℕ). take x journey) (sym z) ∙ sym (leads_full w.leads (omega (arith, whole, written_length w)))) w.rest
  write_done (suc k) w m = absurd (omega arith)

-- what is known of the end, at the place u
module _ (N : Network) (ss : List Row) (narrow : List ℕ) {end : Option ℕ} {u : ℕ} (e : end ≡ is u) where
  pub reach_at : Reach N ss narrow end → Reached N ss narrow u
  reach_at = subst (Reach N ss narrow) e

  module _ {w : Weight} (wide : List ℕ) (ew : w ≡ label wide narrow u) (journey : List ℕ) {a : Answer} where
    -- the answers from there
    pub deliver_short : length journey < w.edges → a ≡ told 8 w → Delivered N ss wide narrow end journey journey a 0
    deliver_short h ea = subst (λ x. Delivered N ss wide narrow x journey journey a 0) (sym e)
        (too_short (subst (λ (x : Weight). length journey < x.edges) ew h) (ea ∙ ap (told 8) ew) refl refl)

    pub deliver_whole : {journey' : List ℕ} {n : ℕ} → w.edges ≤ length journey → a ≡ told 0 w → n ≡ length (rows_to N ss narrow u)
        → journey' ≡ rows_to N ss narrow u ++ drop n journey → Delivered N ss wide narrow end journey journey' a n
    deliver_whole {journey'} {n} h ea c j = subst (λ x. Delivered N ss wide narrow x journey journey' a n) (sym e)
        (delivered (subst (λ (x : Weight). x.edges ≤ length journey) ew h) (ea ∙ ap (told 0) ew) c
        (j ∙ ap (λ (m : ℕ). rows_to N ss narrow u ++ drop m journey) c))

-- there is no end
pub deliver_nowhere : (N : Network) (ss : List Row) (wide narrow : List ℕ) (end : Option ℕ) (journey : List ℕ) {a : Answer}
    → ((u : ℕ) → end ≡ is u → ⊥) → a ≡ shown 7 0 → Delivered N ss wide narrow end journey journey a 0
deliver_nowhere N ss wide narrow None journey n e = record { number = e; no_rows = refl; room_same = refl }
deliver_nowhere N ss wide narrow (is u) journey n e = absurd (n u refl)

-- the rows are no more than the edges
pub rows_fit : {N : Network} {ss : List Row} {narrow : List ℕ} {u n m k : ℕ} {all : List ℕ} → Leads N ss narrow u [] all → n ≡ length all
    → k ≡ edges_to narrow u → k ≤ m → n ≤ m
rows_fit t c e h = omega (arith, leads_most t)

-- Where a search ended, the steps back lead to the first place.
module _ {N : Network} {ss : List Row} {S : Sheet} {Down : ℕ → ℕ → Type 0} {from to : ℕ} (sound : Sound N) (table : SoundTable N ss)
    (inside : from < nodes N) (wide narrow : List ℕ) {k : ℕ}
    (g : Greedy (search_graph N ss S Down from to) (label wide narrow) (mark narrow) (row_before narrow) (place_before N ss narrow) k) where
  leads_back : (n : ℕ) {v : ℕ} {rs : List ℕ} → v < 16 * nodes N → Some (search_graph N ss S Down from to) (label wide narrow v) → edges_to narrow v ≤ n
      → Leads N ss narrow v rs (back (edges_to narrow) (row_before narrow) (place_before N ss narrow) n v rs)
  unfolding back
  leads_back zero {v} l h m = let i : v < 8192 = omega (arith, l, sound.sized.few_nodes) in begins i (omega arith) refl
  leads_back (suc n) {v} {rs} l h m = go (edges_to narrow v) refl (λ a b c. leads_back n a b c)
    where
      x : ℕ
      x = place_before N ss narrow v

      r_before : ℕ
      r_before = row_before narrow v

      go : (c : ℕ) → edges_to narrow v ≡ c
          → (x < 16 * nodes N → Some (search_graph N ss S Down from to) (label wide narrow x) → edges_to narrow x ≤ n
          → Leads N ss narrow x (r_before ∷ rs) (back (edges_to narrow) (row_before narrow) (place_before N ss narrow) n x (r_before ∷ rs)))
          → Leads N ss narrow v rs (elim c [ zero ↦ rs | suc m ↦ back (edges_to narrow) (row_before narrow) (place_before N ss narrow) n x (r_before ∷ rs) ])
      go zero e ih = let i : v < 8192 = omega (arith, l, sound.sized.few_nodes) in begins i e refl
      go (suc c) e ih =
          let laws = search_laws sound table inside in
          let q = tracing_parent laws g (search_counts sound table) (tracing_start laws g v l h) (λ z. omega arith) in
          let i = laws.tail_in x r_before v q.0.arc in
          let j : v < 8192 = omega (arith, l, sound.sized.few_nodes) in
          steps j q.1 (ih i (g.labelled x i q.0.settled) (omega (arith, q.1)))

  pub reached_by : {u : ℕ} → u < 16 * nodes N → Some (search_graph N ss S Down from to) (label wide narrow u) → Reached N ss narrow u
  reached_by {u} l h =
      let b = label_small sound table g l (not-≼-lighter h) in
      record { few = omega (arith, b.few, b.edges_small); leads = leads_back (edges_to narrow u) l h (omega arith) }

module _ {N : Network} {ss : List Row} (S : Sheet) (Down : ℕ → ℕ → Type 0) {from : ℕ} (to : ℕ) (sound : Sound N) (table : SoundTable N ss)
    (inside : from < nodes N) (wide narrow : List ℕ) where
  pub ended_reach : (end : Option ℕ)
      → Ended (search_graph N ss S Down from to) (label wide narrow) (mark narrow) (row_before narrow) (place_before N ss narrow) end
      → Reach N ss narrow end
  ended_reach None e = tt
  ended_reach (is u) e = reached_by sound table inside wide narrow e.greedy e.lightest.inside e.lightest.some

-- So the answer that is delivered is what was sought.
module _ {N : Network} {ss : List Row} {S : Sheet} {Down : ℕ → ℕ → Type 0} {from to : ℕ} {P : List ℕ → Type 0} (sound : Sound N)
    (table : SoundTable N ss) (inside : from < nodes N) (walks : Walks N ss S Down from to P) (wide narrow : List ℕ) where
  found_sought : {u : ℕ} {journey journey' : List ℕ} {a : Answer} {written : ℕ}
      → Arrived (search_graph N ss S Down from to) (label wide narrow) (mark narrow) (row_before narrow) (place_before N ss narrow) u
      → FromPlace (label wide narrow u) (rows_to N ss narrow u) journey journey' a written → Sought N ss P journey journey' a written
  found_sought e (too_short f d w j) = no_room (search_found sound table inside walks e.greedy e.lightest e.unmet e.target) f d w j
  found_sought {u} e (delivered f d w j) =
      let o = search_traced sound table inside walks e.greedy e.lightest e.target (edges_to narrow u) (omega arith) in
      found (search_found sound table inside walks e.greedy e.lightest e.unmet e.target) f d o.0 o.1 w j

  pub ended_sought : (end : Option ℕ) {journey journey' : List ℕ} {a : Answer} {written : ℕ}
      → Ended (search_graph N ss S Down from to) (label wide narrow) (mark narrow) (row_before narrow) (place_before N ss narrow) end
      → Delivered N ss wide narrow end journey journey' a written → Sought N ss P journey journey' a written
  ended_sought None e d = no_journey (search_none sound table inside walks e.greedy e.nobody e.unmet) d.number d.no_rows d.room_same
  ended_sought (is u) e d = found_sought e d

-- What the search functions answer.
pub answered_refused : {rules : List Rule} {N : Network} {ss : List Row} {P : List ℕ → Type 0} {journey wide narrow : List ℕ} {a : Answer}
    (r : Refusal) → Refused rules (number_of r.fault) r.place → a ≡ refused r → Answered rules N ss P journey journey wide wide narrow narrow a 0
answered_refused r broken e = refuses broken e refl refl (record { wide_same = refl; narrow_same = refl })

-- zeroed after a search, which left the rooms as long as they were
ran_zeroed : {plain : Bool} {N : Network} {ss : List Row} {S : Sheet} {from to : ℕ} {end : Option ℕ} {wide wide₁ wide' narrow narrow₁ narrow' : List ℕ}
    → Ran plain N ss S from to wide narrow wide₁ narrow₁ end → Zeroed wide₁ wide' narrow₁ narrow' → Zeroed wide wide' narrow narrow'
ran_zeroed ran z = record {
  wide_zero = z.wide_zero ∙ ap (λ (n : ℕ). replicate n 0) ran.wide_size;
  narrow_zero = z.narrow_zero ∙ ap (λ (n : ℕ). replicate n 0) ran.narrow_size;
}

-- what is lent to `deliver`
pub ran_lent : {plain : Bool} {N : Network} {T : Columns} {S : Sheet} {from to w n : ℕ} {end : Option ℕ} {wide wide₁ narrow narrow₁ : List ℕ} → Ready N T S from to w n
    → Ran plain N (table T) S from to wide narrow wide₁ narrow₁ end → Reach N (table T) narrow₁ end
ran_lent {plain} {N} {S = S} {to = to} {end = end} {wide₁ = wide₁} {narrow₁ = narrow₁} ready ran =
    let t = ready.table_sound in ended_reach S (Falls plain N.node_ranks) to t.sound t.sound_table ready.from_in wide₁ narrow₁ end ran.ended

-- over rows
pub rows_ready : {N : Network} {T : Columns} {S : Sheet} {from to w n : ℕ} → Passed (rows_order N T S from to w n) → Ready N T S from to w n
rows_ready {N} {T} p = record {
  table_sound = record {
    sound = passed_sound N (p.0.0, (p.1.1.0, (p.1.1.1.0, (p.1.1.1.1.0, tt))));
    even = p.0.1.even;
    sound_table = passed_table N T (p.0.1, (p.1.1.1.1.1.0, tt));
  };
  sheet = p.1.1.1.1.1.1.0;
  from_in = p.1.1.1.1.1.1.1.0.0;
  to_in = p.1.1.1.1.1.1.1.0.1;
  roomy = p.1.0;
}

pub rows_searched : {N : Network} {T : Columns} {S : Sheet} {from to : ℕ} {end : Option ℕ} {b : Answer} {written : ℕ}
    {journey journey' wide wide₁ wide' narrow narrow₁ narrow' : List ℕ}
    → Passed (rows_order N T S from to (length wide) (length narrow))
    → Ran false N (table T) S from to wide narrow wide₁ narrow₁ end
    → Delivered N (table T) wide₁ narrow₁ end journey journey' b written
    → Zeroed wide₁ wide' narrow₁ narrow'
    → Answered (rows_order N T S from to (length wide) (length narrow)) N (table T) (UpDownJourney N (table T) S from to) journey journey' wide wide' narrow narrow' b written
rows_searched {end = end} {wide₁ = wide₁} {narrow₁ = narrow₁} passed ran del cleared =
    let r = rows_ready passed in
    let t = r.table_sound in
    searches passed
    (ended_sought t.sound t.sound_table r.from_in (up_down_walks t.sound t.sound_table r.sheet.counted) wide₁ narrow₁ end ran.ended del)
    (ran_zeroed ran cleared)

-- over the edges alone
abbrev pub no_columns : Columns
no_columns = columns [] [] [] [] [] [] []

no_shortcuts : table no_columns ≡ []
unfolding table listed
no_shortcuts = refl

pub plain_ready : {N : Network} {S : Sheet} {from to w n : ℕ} → Passed (plain_order N S from to w n) → Ready N no_columns S from to w n
plain_ready {N} p =
    let sound = passed_sound N (p.0, (p.1.1.0, (p.1.1.1.0, (p.1.1.1.1.0, tt)))) in
    record {
      table_sound = record {
        sound = sound;
        even = record { heads_even = refl; modes_even = refl; lengths_even = refl; counts_even = refl; firsts_even = refl; seconds_even = refl };
        sound_table = subst (SoundTable N) (sym no_shortcuts) (no_table sound);
      };
      sheet = p.1.1.1.1.1.0;
      from_in = p.1.1.1.1.1.1.0.0;
      to_in = p.1.1.1.1.1.1.0.1;
      roomy = p.1.0;
    }

-- as many edges are written as the answer counts, and none with a number above 0
abbrev written_by : Answer → ℕ
written_by a = (1 - a.number) * a.count

plain_written : {N : Network} {S : Sheet} {from to : ℕ} {journey journey' : List ℕ} {a : Answer} {written : ℕ} → Sound N
    → Sought N [] (Journey N [] S from to) journey journey' a written → written ≡ written_by a
plain_written sound (no_journey n e w j) = w ∙ sym (ap written_by e)
plain_written sound (no_room {w = v} l h e w j) = let o : 0 ≡ (1 - 8) * v.edges = omega arith in w ∙ o ∙ sym (ap written_by e)
plain_written {N} {S} {from} {to} sound (found {w = v} {legs = legs} l h e p s w j) =
    let k = (way_adds sound p.way zero_weight).1 in
    let m : length legs ≡ v.edges = omega (arith, k, ap (λ (x : Weight). x.edges) s) in
    let o : v.edges ≡ (1 - 0) * v.edges = omega arith in
    w ∙ m ∙ o ∙ sym (ap written_by e)

pub answered_refused_plain : {rules : List Rule} {N : Network} {ss : List Row} {P : List ℕ → Type 0} {journey wide narrow : List ℕ} {a : Answer}
    (r : Refusal) → Refused rules (number_of r.fault) r.place → a ≡ refused r
    → Answered rules N ss P journey journey wide wide narrow narrow a ((1 - a.number) * a.count)
answered_refused_plain r broken e =
    let o : (1 - number_of r.fault) * 0 ≡ 0 = mul-zero (1 - number_of r.fault) in
    refuses broken e (ap written_by e ∙ o) refl (record { wide_same = refl; narrow_same = refl })

pub plain_searched : {N : Network} {S : Sheet} {from to : ℕ} {end : Option ℕ} {b : Answer} (written : ℕ)
    {journey journey' wide wide₁ wide' narrow narrow₁ narrow' : List ℕ}
    → Passed (plain_order N S from to (length wide) (length narrow))
    → Ran true N (table no_columns) S from to wide narrow wide₁ narrow₁ end
    → Delivered N (table no_columns) wide₁ narrow₁ end journey journey' b written
    → Zeroed wide₁ wide' narrow₁ narrow'
    → Answered (plain_order N S from to (length wide) (length narrow)) N [] (Journey N [] S from to) journey journey' wide wide' narrow narrow' b ((1 - b.number) * b.count)
plain_searched {N} {S} {from} {to} {end} {b = b} written {journey} {journey'} {wide} {wide₁} {narrow = narrow} {narrow₁ = narrow₁} passed ran del cleared =
    let r = plain_ready passed in
    let sound = r.table_sound.sound in
    let ran' = subst (λ (ss : List Row). Ran true N ss S from to wide narrow wide₁ narrow₁ end) no_shortcuts ran in
    let del' = subst (λ (ss : List Row). Delivered N ss wide₁ narrow₁ end journey journey' b written) no_shortcuts del in
    let s = ended_sought sound (no_table sound) r.from_in (plain_walks sound r.sheet.counted) wide₁ narrow₁ end ran'.ended del' in
    searches passed
    (subst (λ (m : ℕ). Sought N [] (Journey N [] S from to) journey journey' b m) (plain_written sound s) s)
    (ran_zeroed ran cleared)
