use Rattle.desk.proofs.folder.tickets.give.Goals as goal

pub returns-in-Keep-clause-step : goal.returns-in-Keep-clause-step
returns-in-Keep-clause-step g c = rw c.in-Keep.is c.keep.ensures.step

pub returns-in-Strike-clause-step : goal.returns-in-Strike-clause-step
returns-in-Strike-clause-step g c = rw c.in-Strike.is c.strike.ensures.step
