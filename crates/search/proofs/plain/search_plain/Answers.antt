-- `search::plain::search_plain` answers the question. Assumes nothing.
use Rattle.search.proofs.LegLaws.{answered_refused_plain, ran_lent, plain_ready, plain_searched}
use Rattle.search.proofs.plain.search_plain.Goals as goal

pub returns-in-Err : goal.returns-in-Err
returns-in-Err c = answered_refused_plain c.in-Err.refusal c.in-Err.ensures c.into.ensures

pub deliver-told-requires : goal.deliver-told-requires
deliver-told-requires c = ran_lent (plain_ready c.in_default.ensures) c.run-end.ensures

pub returns : goal.returns
returns c = plain_searched _ c.in_default.ensures c.run-end.ensures c.deliver-told.ensures c.clear.ensures

pub invariant_of-question : goal.invariant_of-question
invariant_of-question c =
    let r = plain_ready c.in_default.ensures in
    record { accepted = r.table_sound; sheet_sound = r.sheet; from_in = r.from_in; to_in = r.to_in }
