-- The counter cases by their proofs, the half ones from the contract of the call that promises them.
use Rattle.books.proofs.Travels.{counter_products, counter_travels, travels_shown}
use Rattle.books.proofs.theorems.worked_cases.Goals as goal

pub returns-clause-cases : goal.returns-clause-cases
returns-clause-cases c = record { products = counter_products; travels = counter_travels; halves = c.half_over.ensures.cases }

pub returns-clause-shown : goal.returns-clause-shown
returns-clause-shown c = travels_shown
