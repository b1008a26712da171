use Rattle.std.proofs.Common.{ap, ◌∙◌, rules}
use Rattle.std.proofs.lemmas.Iterator.Splits.{YieldsList-from_slice_split}
use Rattle.std.specs.Option.{option_map}
use Rattle.shift.specs.declared.classes.Class.TheVariants.{Comma}
use Rattle.shift.specs.Classes.{is}
use Rattle.shift.specs.Lists.{listed, numbers}
use Rattle.shift.proofs.Gather.{at_most_32, goes_on, ends, closes}
use Rattle.shift.proofs.list.Numbers.fill.Goals as goal

pub loop-piece-preserved : goal.loop-piece-preserved
loop-piece-preserved c =
    let pieces = YieldsList-from_slice_split _ (is Comma) c.args.value.now c.loop-piece.invariant.whole (cc) (cc) (λ x b q k. search rules) in
    record {
      whole = c.loop-piece.invariant.whole;
      so_far = goes_on _ _ (numbers c.args.value.now) pieces _ _ _ c.loop-piece.yielded_by c.loop-piece.invariant.so_far _ c.in-Some.piece c.in-Some.is c.next.ensures.steps (listed c.push_piece.new.self) c.in_ok-push_piece.ensures;
    }

pub returns-in_err-push_piece : goal.returns-in_err-push_piece
returns-in_err-push_piece c =
    let pieces = YieldsList-from_slice_split _ (is Comma) c.args.value.now c.loop-piece.invariant.whole (cc) (cc) (λ x b q k. search rules) in
    ap (option_map (λ u. listed c.push_piece.new.self)) c.from_residual.ensures
    ∙ ends _ _ (numbers c.args.value.now) pieces _ _ _ c.loop-piece.yielded_by c.loop-piece.invariant.so_far _ c.in-Some.piece c.in-Some.is c.next.ensures.steps c.in_err-push_piece.ensures

pub returns : goal.returns
returns c =
    let pieces = YieldsList-from_slice_split _ (is Comma) c.args.value.now c.loop-piece.invariant.whole (cc) (cc) (λ x b q k. search rules) in
    let list = c.loop-piece.self in
    closes _ _ (numbers c.args.value.now) pieces _ _ _ c.loop-piece.yielded_by c.loop-piece.invariant.so_far _ c.in-None.is c.next.ensures.steps (at_most_32 list.items list.count list.len list.room)
