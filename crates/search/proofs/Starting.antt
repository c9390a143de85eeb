-- The rooms as a search begins.
use mathlib.Core.Path.{◌≡◌, sym, ap, subst, ◌∙◌}
use mathlib.Core.List.{List}
use Prim.Native.Nat.{ℕ, ◌+◌, ◌*◌, ◌<◌, ◌≤◌}
use native.Mathlib.Omega.{arith}
use lib.ListN.{length, get_or, replicate, length-replicate, get_or-replicate}
use Rattle.network.specs.declared.sheet.State.{State}
use Rattle.network.specs.Weight.{zero_weight, none_yet}
use Rattle.network.specs.Network.{nodes}
use Rattle.network.specs.Sheet.{no_state, Bit}
use Rattle.network.proofs.WeightLaws.{weight-≡}
use Rattle.search.specs.Places.{StartAt, state_of}
use Rattle.search.specs.Labels.{label, word}
use Rattle.search.specs.declared.question.Question.{Question}
use Rattle.search.specs.Steps.{Starting}
use Rattle.search.specs.Questions.{roads, Roomy, Begins}
use Rattle.search.proofs.Answers.{start_known}

-- the initial ones of the first q states at the node are labelled
pub record StartingTo (sheet : List State) (from states : ℕ) (wide₀ narrow₀ wide narrow : List ℕ) (q : ℕ) : Type 0 where
  pub within : q ≤ states
  pub so_far : Starting sheet from q wide₀ narrow₀ wide narrow

-- all of it: rooms filled with the largest numbers, then the starts labelled
module _ (Q : Question) (wide narrow : List ℕ) {wide₁ narrow₁ wide' narrow' : List ℕ} (roomy : Roomy Q (length wide) (length narrow))
    (ew : wide₁ ≡ replicate (length wide) 18446744073709551615) (en : narrow₁ ≡ replicate (length narrow) 4294967295)
    (s : Starting Q.sheet.entries Q.from Q.sheet.states wide₁ narrow₁ wide' narrow') where
  full_label : (v : ℕ) → v < 16 * nodes (roads Q) → label wide₁ narrow₁ v ≡ none_yet
  full_label v l = weight-≡
      (ap (λ (x : List ℕ). get_or x v 0) ew ∙ get_or-replicate (length wide) v 18446744073709551615 0 (omega (arith, roomy.wide_enough)))
      (ap (λ (x : List ℕ). get_or x (2 * v) 0) en ∙ get_or-replicate (length narrow) (2 * v) 4294967295 0 (omega (arith, roomy.narrow_enough)))

  full_word : (v : ℕ) → v < 16 * nodes (roads Q) → word narrow' v ≡ 4294967295
  full_word v l =
      s.words v ∙ ap (λ (x : List ℕ). word x v) en ∙ get_or-replicate (length narrow) (2 * v + 1) 4294967295 0 (omega (arith, roomy.narrow_enough))

  at_start : (v : ℕ) → StartAt Q.sheet Q.from v → label wide' narrow' v ≡ zero_weight
  at_start v a =
      let e : v ≡ 16 * Q.from + 2 * state_of v = omega (arith, a.here, a.fresh) in
      ap (label wide' narrow') e ∙ s.hit (state_of v) a.known a.initial

  elsewhere : (v : ℕ) → v < 16 * nodes (roads Q) → (StartAt Q.sheet Q.from v → ⊥) → label wide' narrow' v ≡ none_yet
  elsewhere v l n = s.miss v (λ q k h e. n (record {
    here = omega (arith, few);
    fresh = omega arith;
    known = let z : state_of v ≡ q = omega (arith, few) in subst (λ (i : ℕ). i < Q.sheet.states) (sym z) k;
    initial = let z : state_of v ≡ q = omega (arith, few) in subst (λ (i : ℕ). Bit (get_or Q.sheet.entries i no_state).ends 0) (sym z) h;
  })) ∙ full_label v l
    where
      few : Q.sheet.states ≤ 8
      few = Q.sheet_sound.counted.few_states

  pub begins : Begins Q wide narrow wide' narrow'
  begins = record {
    wide_size = s.wide_size ∙ ap length ew ∙ length-replicate (length wide) 18446744073709551615;
    narrow_size = s.narrow_size ∙ ap length en ∙ length-replicate (length narrow) 4294967295;
    begun = record {
      at_starts = at_start;
      elsewhere = elsewhere;
      start_known = λ v l. start_known Q.sheet Q.from v;
      all_wait = λ v l z. omega (arith, full_word v l);
    };
    hinted = record {
      truly = λ v l h. absurd (omega (arith, full_word (16 * v) (omega arith)));
      falsely = λ v l h. absurd (omega (arith, full_word (16 * v) (omega arith)));
    };
  }
