-- A fresh book takes the finished phases of every run. Assumes nothing.
use Rattle.std.proofs.Common.{◌≡◌, ℕ, zero, suc, ◌<◌, ◌≤◌, Bool, ◌⊎◌, List, length, Ok, Option, Result, sym, refl, ap, ◌∙◌, subst, inl, inr, arith}
use Rattle.std.proofs.lemmas.List.{length-map}
use Rattle.std.proofs.lemmas.Bool.{cases_lt}
use Rattle.quorum.specs.Rules.{Family}
use Rattle.quorum.proofs.Refused.{does_none}
use Rattle.setup.specs.Orders.{Ordered}
use Rattle.book.specs.declared.faults.BookFault.{BookFault}
use Rattle.book.specs.Entering.{Enters, declined}
use Rattle.book.specs.Pages.{Pages, extended, row, rows}
use Rattle.book.specs.Voting.{Guards, Loyal}
use Rattle.book.proofs.Places.{row_entered, row_extended, rows_extended}
use Rattle.book.proofs.Voting.{guards_taken}
use Rattle.agreement.specs.declared.slips.Slip.{Slip}
use Rattle.agreement.specs.Laws.{Lawful, ended}
use Rattle.agreement.specs.Promise.{Books, Call, Kept, Moment, Worked}
use Rattle.agreement.specs.Protocols.{Protocol}
use Rattle.agreement.specs.Slips.{casts, news}
use Rattle.agreement.proofs.Holding.{decisions, guarded, size, votes}
use Rattle.agreement.proofs.Moments.{clock_of, course, table_at, table_is}

module _ {V : Type 0} {before : V → V → Bool} (o : Ordered before) (p : Protocol V) (law : Lawful p) (proposals : List V) (calls : ℕ) (call : ℕ → Call V) (at : ℕ → Moment V) (worked : Worked p proposals calls call at) where
  module _ (phases : ℕ) (book : ℕ → Pages V) (answer : ℕ → Result (Unit {0}) BookFault) (kept : Kept before p calls at phases book answer) where
    -- the table when phase k has ended
    end_table : (k : ℕ) → k < phases → (at (kept.end k)).table ≡ ended p proposals (course p law proposals calls call at worked) k
    end_table k lt =
        let e = kept.ends k lt in
        table_is p law proposals calls call at worked (kept.end k) (kept.made k lt) ∙ ap (table_at p proposals (course p law proposals calls call at worked)) (λ i. clock_of (e.0 i) (e.1 i))

    same_rule : (k : ℕ) → k < phases → kept.rule k ≡ p.rule
    same_rule k lt = let e = kept.rules k lt in λ i. record { boxes = e.0 i; quorum = λ s. e.1 s i }

    -- each phase is entered with its votes and decisions, under the procedure's rule
    entered : (k : ℕ) → k < phases
        → Enters p.rule before (book k) (votes p law proposals calls call at worked k) (decisions p law proposals calls call at worked k) (answer k) (book (suc k))
    entered k lt =
        subst (λ (t : List (Slip V)). Enters p.rule before (book k) (casts t) (news t) (answer k) (book (suc k))) (end_table k lt)
        (subst (λ (f : Family). Enters f before (book k) (casts (at (kept.end k)).table) (news (at (kept.end k)).table) (answer k) (book (suc k))) (same_rule k lt) (kept.enters k lt))

    end_size : (k : ℕ) → k < phases → length (ended p proposals (course p law proposals calls call at worked) k) ≡ p.rule.boxes
    end_size k lt = ap length (sym (end_table k lt)) ∙ size p law proposals calls call at worked (kept.end k) (kept.made k lt)

    -- the book after the first k phases
    record Filled (k : ℕ) : Type 0 where
      boxes : (book k).boxes ≡ p.rule.boxes
      written : (book k).written ≡ k
      room : rows (book k) ≡ rows (book 0)
      entries : (j : ℕ) → j < k → row (book k) j ≡ votes p law proposals calls call at worked j

    takes : (k : ℕ) → k < phases → k < rows (book 0) → Filled k → (answer k ≡ Ok tt) × (book (suc k) ≡ extended (book k) (votes p law proposals calls call at worked k))
    takes k lt room f =
        let votes_of = votes p law proposals calls call at worked in
        let decisions_of = decisions p law proposals calls call at worked in
        let e = kept.ends k lt in
        let g = guarded p law proposals calls call at worked (kept.end k) k (kept.made k lt) (omega (arith, e.0)) in
        let ready_votes : length (votes_of k) ≡ (book k).boxes = simp length-map (end_size k lt ∙ sym f.boxes) in
        let ready_decisions : length (decisions_of k) ≡ (book k).boxes = simp length-map (end_size k lt ∙ sym f.boxes) in
        let guards : Guards p.rule (row (book k)) (book k).written (votes_of k) (decisions_of k) = (
          λ r below. let l : r < k = omega (arith, below, f.written) in subst (λ (old : List (Option V)). Loyal p.rule old (votes_of k)) (sym (f.entries r l)) (g.0 r l),
          g.1,
        ) in
        does_none (declined p.rule before (book k) (votes_of k) (decisions_of k)) _ _ (answer k)
        (guards_taken o p.rule law.ruled (book k) (votes_of k) (decisions_of k)
        (record { roster = sym f.boxes; voting = ready_votes; deciding = ready_decisions; room = omega (arith, f.written, f.room, room) }) guards)
        (entered k lt)

    fills : (k : ℕ) → k ≤ phases → k ≤ rows (book 0) → Filled k
    fills zero le room = record {
      boxes = ap (λ (b : Pages V). b.boxes) kept.opens;
      written = ap (λ (b : Pages V). b.written) kept.opens;
      room = refl;
      entries = λ j lt. absurd (omega arith);
    }
    fills (suc k) le room = go (fills k (omega arith) (omega arith))
      where
        go : Filled k → Filled (suc k)
        go f =
            let votes_of = votes p law proposals calls call at worked in
            let t = takes k le room f in
            let space : (book k).written < rows (book k) = omega (arith, f.written, f.room, room) in
            let long : length (votes_of k) ≡ (book k).boxes = simp length-map (end_size k le ∙ sym f.boxes) in
            record {
              boxes = ap (λ (b : Pages V). b.boxes) t.1 ∙ f.boxes;
              written = ap (λ (b : Pages V). b.written) t.1 ∙ omega (arith, f.written);
              room = ap rows t.1 ∙ rows_extended (book k) (votes_of k) space long ∙ f.room;
              entries = λ j lt. pick f t space long j lt (cases_lt j k);
            }
          where
            pick : (f : Filled k) → (answer k ≡ Ok tt) × (book (suc k) ≡ extended (book k) (votes p law proposals calls call at worked k)) → (book k).written < rows (book k)
                → length (votes p law proposals calls call at worked k) ≡ (book k).boxes → (j : ℕ) → j < suc k → (j < k) ⊎ (k ≤ j) → row (book (suc k)) j ≡ votes p law proposals calls call at worked j
            pick f t space long j lt (inl l) =
                ap (λ (b : Pages V). row b j) t.1 ∙ row_extended (book k) (votes p law proposals calls call at worked k) space long j (omega (arith, f.written)) ∙ f.entries j l
            pick f t space long j lt (inr g) =
                let same : j ≡ (book k).written = omega (arith, f.written) in
                let back : k ≡ j = omega arith in
                ap (λ (b : Pages V). row b j) t.1 ∙ ap (row (extended (book k) (votes p law proposals calls call at worked k))) same
                ∙ row_entered (book k) (votes p law proposals calls call at worked k) space long ∙ ap (votes p law proposals calls call at worked) back

  pub books : Books before p calls at
  books phases book answer kept k lt room = (takes phases book answer kept k lt room (fills phases book answer kept k (omega arith) (omega arith))).0
