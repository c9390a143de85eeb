-- `search::legs::write_back` writes the rows that lead to a place. Assumes nothing.
use Rattle.search.proofs.LegLaws.{leads_in, write_turn, write_done}
use Rattle.search.proofs.legs.write_back.Goals as goal

pub loop-k-preserved : goal.loop-k-preserved
loop-k-preserved c = write_turn c.requires.n_value.0 c.requires.n_value.1 _ c.loop-k-test.true c.loop-k.invariant c.row_before.ensures c.put.ensures c.place_before-v.ensures

pub returns : goal.returns
returns c = write_done c.requires.n_value.0 c.requires.n_value.1 _ c.loop-k.invariant c.loop-k-test.false

pub row_before-requires : goal.row_before-requires
row_before-requires c = leads_in c.loop-k.invariant.leads

pub place_before-v-requires : goal.place_before-v-requires
place_before-v-requires c = leads_in c.loop-k.invariant.leads
