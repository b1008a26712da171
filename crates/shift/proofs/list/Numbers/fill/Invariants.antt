use Rattle.std.proofs.Common.{◌≡◌, length, drop}
use Rattle.std.specs.List.{slice_split}
use Rattle.std.specs.Slice.Iter.{split_rest}
use Rattle.shift.specs.declared.classes.Class.TheVariants.{Comma}
use Rattle.shift.specs.Classes.{is}
use Rattle.shift.specs.Lists.{listed, numbers}
use Rattle.shift.proofs.Gather.{gathered}
use Rattle.shift.proofs.list.Numbers.fill.Given as goal

-- the numbers so far, and those of the pieces that are left, are the answer
abbrev pub invariant-loop-piece : goal.invariant-loop-piece
invariant-loop-piece l = record {
  whole : split_rest l.initial.piece-iterator ≡ l.value;
  so_far : gathered (listed l.self) (drop (length l.yielded) (slice_split (is Comma) l.value)) ≡ numbers l.value;
}
