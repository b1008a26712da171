use Rattle.procedures.proofs.latest.next_slip.Goals as goal

pub returns-in-0 : goal.returns-in-0
returns-in-0 g c = rw c.in-0.is c.pick.ensures

pub returns-in-1 : goal.returns-in-1
returns-in-1 g c = rw c.in-1.is (rw c.backed.ensures.value at c.ready.ensures)
