-- `preparation::testing::note_sums` notes the sums. Assumes nothing.
use Rattle.network.specs.Lent.{network_of, columns_of}
use Rattle.preparation.specs.Sifting.{cost_read, SumsNoted}
use Rattle.preparation.proofs.testing.note_sums.Given as goal

abbrev pub invariant-loop-w : goal.invariant-loop-w
invariant-loop-w l =
    SumsNoted (cost_read (network_of l.network) (columns_of l.shortcuts)) l.nodes l.u l.into l.w l.initial.wide l.initial.narrow l.wide l.narrow l.bound
