-- Worked shifts: what the definition gives, and what it should be. Assumes nothing.
use Rattle.std.specs.Prelude.{ℕ, List, [], ◌∷◌, map, Some, None, codes, Option}
use Rattle.quorum.specs.declared.refusals.Refusal.TheVariants.{Length, Stranger, Wait}
use Rattle.quorum.specs.declared.refusals.RuleFault.TheVariants.{Roster}
use Rattle.agreement.specs.declared.faults.RunFault.TheVariants.{Rule}
use Rattle.shift.specs.declared.faults.Cause.TheVariants.{Key}
use Rattle.shift.specs.Faults.{at_line, at_run, no_value}
use Rattle.office.specs.Answers.{answer}
use Rattle.office.specs.Shown.{Shown}
use Rattle.office.specs.Shown.Shown.{declined, fault, phase}

-- a setup for each box
abbrev each : List ℕ → List (Option ℕ)
each setups = map Some setups

-- a text without a line; one without a box; a beat that waits and then a decision; a split vote under thirds; a decision that one box misses, and a line that
-- breaks off; and one box, with a stranger, a beat of two boxes, and a leading zero
abbrev texts : List (List ℕ)
texts =
    []
    ∷ codes "boxes=0\n"
    ∷ codes "boxes=3\nrule=majority\nprocedure=observing\nsetup=3\nsetup=1\nsetup=2\nbeat=3,6,7\nbeat=1,7,7\nbeat=7,7,7\nbeat=7,7,7\nbeat=7,7,7\n"
    ∷ codes "boxes=4\nrule=thirds\nprocedure=fast\nsetup=5\nsetup=5\nsetup=2\nsetup=2\nbeat=15,15,15,15\nbeat=15,15,15,15\n"
    ∷ codes "boxes=2\nrule=anchored\nprocedure=latest\nsetup=9\nsetup=4\nbeat=3,3\nbeat=3,3\nbeat=3,2\nbea"
    ∷ codes "boxes=1\nrule=majority\nprocedure=fast\nsetup=7\nbeat=2\nbeat=1\nbeat=1,1\nbeat=01\n"
    ∷ []

abbrev pub computed : List (List Shown)
computed = map answer texts

abbrev pub expected : List (List Shown)
expected =
    (fault (at_line Key 1) ∷ [])
    ∷ (fault (at_run (Rule Roster) (record { line = 1; column = 7 })) ∷ [])
    ∷ (declined Wait ∷ phase 0 (None ∷ None ∷ None ∷ []) (None ∷ None ∷ None ∷ []) ∷ phase 1 (each (1 ∷ 1 ∷ 1 ∷ [])) (each (1 ∷ 1 ∷ 1 ∷ [])) ∷ [])
    ∷ (phase 0 (each (5 ∷ 5 ∷ 2 ∷ 2 ∷ [])) (None ∷ None ∷ None ∷ None ∷ []) ∷ phase 1 (each (2 ∷ 2 ∷ 2 ∷ 2 ∷ [])) (each (2 ∷ 2 ∷ 2 ∷ 2 ∷ [])) ∷ [])
    ∷ (phase 0 (each (4 ∷ 4 ∷ [])) (Some 4 ∷ None ∷ []) ∷ fault (at_line Key 9) ∷ [])
    ∷ (declined Stranger ∷ phase 0 (each (7 ∷ [])) (each (7 ∷ [])) ∷ declined Length ∷ fault (no_value (record { line = 8; column = 6 })) ∷ [])
    ∷ []
