use Rattle.std.proofs.Common.{map}
use Rattle.setup.proofs.Walked.{Gathered}
use Rattle.procedures.proofs.Polling.{Lacks}
use Rattle.procedures.proofs.Trying.{Seen, not_tried}
use Rattle.procedures.proofs.received.backer.Given as goal

-- the senders found so far, and the boxes that are left
abbrev pub invariant-loop-j : goal.invariant-loop-j
invariant-loop-j g l = Gathered g.V.Setup.before l.v (map (g.F.Field.reads l.field) l.row) (not_tried l.heard l.tried) l.j-iterator.left l.senders

-- what was tried so far is backed by no quorum
abbrev pub invariant-loop-i : goal.invariant-loop-i
invariant-loop-i g l = Seen (map (g.F.Field.reads l.field) l.row) l.heard (Lacks (g.R.Rule.family l.rule) g.V.Setup.before l.others (map (g.F.Field.reads l.field) l.row) l.heard) l.i-iterator.left l.tried
