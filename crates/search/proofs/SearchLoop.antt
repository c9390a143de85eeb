-- The loop of a search, in the rooms.
use mathlib.Core.Path.{◌≡◌, refl, ◌∙◌}
use mathlib.Core.List.{List}
use Prim.Native.Nat.{ℕ, ◌+◌, ◌*◌, ◌<◌}
use native.Mathlib.Omega.{arith}
use lib.ListN.{length}
use Rattle.std.specs.Prelude.{Option, Some}
use Rattle.network.specs.Network.{nodes}
use Rattle.network.proofs.WeightLaws.{≼-not_lighter}
use Rattle.network.proofs.Counting.{waiting, waiting_drop}
use Rattle.search.specs.declared.question.Question.{Question}
use Rattle.search.specs.Graph.{Greedy, Unmet, Lightest}
use Rattle.search.specs.Places.{TargetAt}
use Rattle.search.specs.Labels.{label, mark, row_before}
use Rattle.search.specs.Steps.{Foremost}
use Rattle.search.specs.Questions.{roads, graph_of, place_before, Light, Hinted, Begins, Left, Ran}
use Rattle.search.proofs.Greedy.{greedy_start, greedy_turn, unmet_start, unmet_turn}
use Rattle.search.proofs.Searches.{label_small, after_held}
use Rattle.search.proofs.Attempting.{laws_of}

-- what holds at the head of the loop
pub record Searching (Q : Question) (wide₀ narrow₀ wide narrow : List ℕ) : Type 0 where
  pub wide_size : length wide ≡ length wide₀
  pub narrow_size : length narrow ≡ length narrow₀
  pub settled : ℕ
  pub greedy : Greedy (graph_of Q) (label wide narrow) (mark narrow) (row_before narrow) (place_before Q narrow) settled
  pub unmet : Unmet (graph_of Q) (mark narrow)
  pub hinted : Hinted Q narrow

-- how many places wait
abbrev pub left_over : Question → List ℕ → ℕ
left_over Q narrow = waiting (mark narrow) (16 * nodes (roads Q))

pub searching_start : (Q : Question) {wide narrow wide' narrow' : List ℕ} → Begins Q wide narrow wide' narrow'
    → Searching Q wide' narrow' wide' narrow'
searching_start Q b = record {
  wide_size = refl;
  narrow_size = refl;
  settled = 0;
  greedy = greedy_start (laws_of Q) b.begun;
  unmet = unmet_start b.begun;
  hinted = b.hinted;
}

-- the place u is picked
module _ {Q : Question} {wide₀ narrow₀ wide narrow : List ℕ} (s : Searching Q wide₀ narrow₀ wide narrow) {u : ℕ}
    (picked : Foremost (16 * nodes (roads Q)) (label wide narrow) (mark narrow) u) where
  lightest : Lightest (graph_of Q) (label wide narrow) (mark narrow) u
  lightest = record { inside = picked.inside; waits = picked.waits; some = λ k. ≼-not_lighter k picked.labelled; least = picked.least }

  pub turn_light : Light Q (label wide narrow u)
  turn_light = record {
    each = λ r l. after_held Q.accepted.sound Q.accepted.sound_table
        (label_small Q.accepted.sound Q.accepted.sound_table s.greedy picked.inside picked.labelled) r l;
  }

  pub turn_over : TargetAt Q.sheet Q.to u → Ran Q wide₀ narrow₀ wide narrow (Some u)
  turn_over t = record {
    wide_size = s.wide_size;
    narrow_size = s.narrow_size;
    ended = record { settled = s.settled; greedy = s.greedy; unmet = s.unmet; lightest = lightest; target = t };
  }

  module _ {wide' narrow' : List ℕ} (l : Left Q u wide narrow wide' narrow') where
    pub turn_again : (TargetAt Q.sheet Q.to u → ⊥) → Searching Q wide₀ narrow₀ wide' narrow'
    turn_again no_target = record {
      wide_size = l.wide_size ∙ s.wide_size;
      narrow_size = l.narrow_size ∙ s.narrow_size;
      settled = s.settled + 1;
      greedy = greedy_turn (laws_of Q) s.greedy lightest refl (record { each = λ r v a. a.move.row_in }) l.relaxed l.settles;
      unmet = unmet_turn l.settles no_target s.unmet;
      hinted = l.hinted;
    }

    pub turn_less : left_over Q narrow' < left_over Q narrow
    turn_less = omega (
      arith,
      waiting_drop (mark narrow) (mark narrow') (16 * nodes (roads Q)) u picked.inside picked.waits l.settles.hit l.settles.miss,
    )

-- the same, from rooms of the same length
pub ran_from : (Q : Question) {wide₀ narrow₀ wide narrow wide' narrow' : List ℕ} {end : Option ℕ} → Ran Q wide narrow wide' narrow' end
    → length wide ≡ length wide₀ → length narrow ≡ length narrow₀ → Ran Q wide₀ narrow₀ wide' narrow' end
ran_from Q r a b = record { wide_size = r.wide_size ∙ a; narrow_size = r.narrow_size ∙ b; ended = r.ended }
