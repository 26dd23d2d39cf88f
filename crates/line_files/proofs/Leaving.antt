-- What the lines before a fault made.
use Rattle.std.proofs.Common.{ℕ, ◌≡◌, ◌+◌, List, [], ◌∷◌, ◌++◌, length, Option, Some, None, Result}
use Rattle.std.proofs.Common.{Err, refl, sym, ap, ◌∙◌, append_assoc, append-nil, subst}
use Rattle.counted_devices.specs.Cuts.{Splits}
use Rattle.counted_devices.specs.FirstFaults.{LineRules}
use Rattle.counted_devices.specs.Judgements.{ShowsItem}
use Rattle.counted_devices.specs.ReadFaults.{IsFaultBy, kind_of}
use Rattle.counted_devices.specs.declared.judgement.Judgement.{Judgement}
use Rattle.counted_devices.specs.declared.read_fault.FaultKind.{FaultKind}
use Rattle.counted_devices.specs.declared.read_fault.ReadFault.{ReadFault}
use Rattle.counted_devices.specs.declared.read_fault.Stop.{Stop}
use Rattle.counted_devices.specs.declared.read_fault.Stop.TheVariants as stop
use Rattle.counted_devices.proofs.CutLemmas.{Splits-join, cut_of}
use Rattle.counted_devices.proofs.FaultKinds.{of_line}
use Rattle.line_files.specs.declared.progress.Progress.{Progress}
use Rattle.line_files.specs.LinesRead.{ShownUnder, HasRead, AreReadBefore, HasReadBefore}
use Rattle.line_files.specs.LinesRead.{LeavesRead, LeavesReadIn, LeavesJudged, LeavesShown}
use Rattle.line_files.specs.Steps.{StaysAtFault}
use Rattle.line_files.proofs.LineByLine.{Goes, never_empty, parts}

-- a line that isn't read leaves what was made, if that was to stay
pub stays_made : {L Contents : Type 0} (IsMade : Contents → Type 0) (s : Stop L) (contents : Contents) → IsMade contents
    → StaysAtFault IsMade (Err s) contents
stays_made IsMade (stop.Fault fault) contents h = h
stays_made IsMade stop.Memory contents h = tt

module _ {L Contents : Type 0} (Reads : List (List ℕ) → Contents → Type 0) where
  of_stop : (before : List (List ℕ)) (line : List ℕ) (number : ℕ) (s : Stop L) (contents : Contents) → number ≡ length before + 1
      → StaysAtFault (Reads before) (Err s) contents
      → IsFaultBy (λ _. AreReadBefore Reads (before ++ line ∷ []) number contents) ⊥ (kind_of s)
  of_stop before line number (stop.Fault fault) contents counted kept =
      record { earlier = before; later = line ∷ []; whole = refl; counted = counted; made = kept }
  of_stop before line number stop.Memory contents counted kept = tt

  -- the line after those that were read isn't read
  pub leaves_line : (before : List (List ℕ)) (line : List ℕ) (fault : ReadFault L) (s : Stop L) (contents : Contents)
      → fault.line ≡ length before + 1 → fault.kind ≡ kind_of s → StaysAtFault (Reads before) (Err s) contents
      → IsFaultBy (λ _. AreReadBefore Reads (before ++ line ∷ []) fault.line contents) ⊥ fault.kind
  leaves_line before line fault s contents counted kind kept =
      let P : FaultKind L → Type 0 = λ k. IsFaultBy (λ _. AreReadBefore Reads (before ++ line ∷ []) fault.line contents) ⊥ k in
      subst P (sym kind) (of_stop before line fault.line s contents counted kept)

  -- lines after the fault change nothing
  pub leaves_more : (lines more : List (List ℕ)) (number : ℕ) (k : FaultKind L) (contents : Contents)
      → IsFaultBy (λ _. AreReadBefore Reads lines number contents) ⊥ k
      → IsFaultBy (λ _. AreReadBefore Reads (lines ++ more) number contents) ⊥ k
  leaves_more lines more number k contents h =
      of_line (λ _. AreReadBefore Reads lines number contents) (λ _. AreReadBefore Reads (lines ++ more) number contents) ⊥ k
      (λ fault left. record {
        earlier = left.earlier;
        later = left.later ++ more;
        whole = ap (λ (ls : List (List ℕ)). ls ++ more) left.whole ∙ append_assoc left.earlier left.later more;
        counted = left.counted;
        made = left.made;
      }) h

  -- the lines are those of the bytes
  pub leaves_in : (bytes : List ℕ) (lines : List (List ℕ)) (rest : List ℕ) (number : ℕ) (k : FaultKind L) (contents : Contents)
      → Splits bytes lines rest → IsFaultBy (λ _. AreReadBefore Reads lines number contents) ⊥ k
      → IsFaultBy (λ _. HasReadBefore Reads bytes number contents) ⊥ k
  leaves_in bytes lines rest number k contents s h =
      of_line (λ _. AreReadBefore Reads lines number contents) (λ _. HasReadBefore Reads bytes number contents) ⊥ k
      (λ fault left. record { lines = lines; rest = rest; splits = s; at = left }) h

  -- whatever bytes follow
  pub leaves_before : (bytes : List ℕ) (lines : List (List ℕ)) (rest : List ℕ) (number : ℕ) (k : FaultKind L) (contents : Contents)
      → Splits bytes lines rest → IsFaultBy (λ _. AreReadBefore Reads lines number contents) ⊥ k → (more : List ℕ)
      → IsFaultBy (λ _. HasReadBefore Reads (bytes ++ more) number contents) ⊥ k
  leaves_before bytes lines rest number k contents s h more =
      let cut = cut_of (rest ++ more) in
      leaves_in (bytes ++ more) (lines ++ cut.lines) cut.rest number k contents
      (Splits-join bytes more lines cut.lines rest cut.rest s cut.splits) (leaves_more lines cut.lines number k contents h)

module _ {Contents : Type 0} (Reads : List (List ℕ) → Contents → Type 0) where
  -- all lines were read, and the one under way is too long
  pub leaves_long : (bytes : List ℕ) (lines : List (List ℕ)) (rest : List ℕ) (number : ℕ) (contents : Contents) → Splits bytes lines rest
      → number ≡ length lines + 1 → Reads lines contents → HasReadBefore Reads bytes number contents
  leaves_long bytes lines rest number contents s counted made = record {
    lines = lines;
    rest = rest;
    splits = s;
    at = record { earlier = lines; later = []; whole = sym (append-nil lines); counted = counted; made = made };
  }

module _ {L Item Context Contents : Type 0} (rules : LineRules L) (Reads : List (List ℕ) → Contents → Type 0) (context : Contents
    → Option Context) (Shows : Context → List ℕ → Result Item L → Type 0) where
  module _ (old : Progress Contents) (j : Judgement Item L) (r : Result (Unit {0}) (ReadFault L)) (new : Progress Contents)
      (leaves : LeavesJudged Reads context Shows old j r new) where
    leaves_under : (o : Option Context) → context old.contents ≡ o → (lines : List (List ℕ)) → ShownUnder Shows o lines (j ∷ [])
        → (before : List (List ℕ)) → HasRead Reads before old → LeavesRead Reads (before ++ lines) r new.contents
    leaves_under None e lines shown = absurd (never_empty j [] shown.1)
    leaves_under (Some under) e [] shown = absurd shown
    leaves_under (Some under) e (line ∷ []) shown = leaves under line e shown.0
    leaves_under (Some under) e (line ∷ next ∷ lines) shown = absurd shown.1

    -- of a line's judgement as of those of the one line
    pub one_leaves : LeavesShown Reads context Shows old (j ∷ []) r new
    one_leaves lines shown = leaves_under (context old.contents) refl lines shown

  -- some of the lines were read, and one of a run after them has a fault
  pub Goes-leave : (lines : List (List ℕ)) (old mid : Progress Contents) (js more : List (Judgement Item L))
      → Goes rules Reads context Shows lines old mid (js ++ more) → (new : Progress Contents) (fault : ReadFault L)
      → LeavesShown Reads {X = Unit {0}} context Shows mid js (Err fault) new
      → (before : List (List ℕ)) → HasRead Reads before old
      → IsFaultBy (λ _. AreReadBefore Reads (before ++ lines) fault.line new.contents) ⊥ fault.kind
  Goes-leave lines old mid js more goes new fault leaves before at =
      let h = goes.each before at in
      let p = parts Shows (context old.contents) h.rest js more h.shown in
      let S : Option Context → Type 0 = λ o. ShownUnder Shows o p.front js in
      let one = leaves p.front (subst S (sym h.same) p.first) (before ++ h.done) h.at in
      let P : List (List ℕ) → Type 0 = λ ls. IsFaultBy (λ _. AreReadBefore Reads ls fault.line new.contents) ⊥ fault.kind in
      let whole : ((before ++ h.done) ++ p.front) ++ p.back ≡ before ++ lines =
      append_assoc (before ++ h.done) p.front p.back ∙ append_assoc before h.done (p.front ++ p.back)
      ∙ ap (λ (ls : List (List ℕ)). before ++ (h.done ++ ls)) (sym p.whole) ∙ ap (λ (ls : List (List ℕ)). before ++ ls) (sym h.whole) in
      subst P whole (leaves_more Reads ((before ++ h.done) ++ p.front) p.back fault.line fault.kind new.contents one)
