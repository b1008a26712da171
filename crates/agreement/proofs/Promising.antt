-- Every procedure that keeps the laws keeps the promise. Assumes nothing.
use Rattle.std.proofs.Common.{Bool}
use Rattle.setup.specs.Orders.{Ordered}
use Rattle.agreement.specs.Laws.{Lawful}
use Rattle.agreement.specs.Promise.{Promise}
use Rattle.agreement.specs.Protocols.{Protocol}
use Rattle.agreement.proofs.Bookkeeping.{books}
use Rattle.agreement.proofs.Holding.{agreement, settling, validity}

pub promised : {V : Type 0} {before : V → V → Bool} → Ordered before → (p : Protocol V) → Lawful p → Promise before p
promised o p law proposals calls call at worked = record {
  agreement = agreement p law proposals calls call at worked;
  validity = validity p law proposals calls call at worked;
  books = books o p law proposals calls call at worked;
  settling = settling p law proposals calls call at worked;
}
