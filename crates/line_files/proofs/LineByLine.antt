-- Lines that are read one after another.
use Rattle.std.proofs.Common.{ℕ, ◌≡◌, ◌+◌, List, [], ◌∷◌, ◌++◌, length, Option, Some, None, Result, Ok, Err, refl, sym, ap, ◌∙◌, append_assoc, append-nil, length-append, suc-ne-zero, arith, subst}
use Rattle.std.specs.List.{AllZip}
use Rattle.counted_devices.specs.declared.judgement.Judgement.{Judgement}
use Rattle.counted_devices.specs.declared.read_fault.FaultKind.{FaultKind}
use Rattle.counted_devices.specs.declared.read_fault.ReadFault.{ReadFault}
use Rattle.counted_devices.specs.FirstFaults.{LineRules, IsFirstFault, IsFirstOfKind}
use Rattle.counted_devices.specs.Judgements.{ShowsItem}
use Rattle.counted_devices.specs.ReadFaults.{IsFaultBy}
use Rattle.counted_devices.proofs.FaultKinds.{of_line}
use Rattle.counted_devices.proofs.Zips.{front_and_back}
use Rattle.line_files.specs.declared.progress.Progress.{Progress}
use Rattle.line_files.specs.LinesRead.{ShownUnder, HasRead, ReadsMore, ReadsJudged, ReadsShown}

module _ {L : Type 0} (rules : LineRules L) where
  -- the line after lines without a fault has the first
  pub first_after : (before : List (List ℕ)) (line : List ℕ) (number : ℕ) (fault : L) → number ≡ length before + 1 → rules.HasFault before line fault → IsFirstFault rules (before ++ line ∷ []) number fault
  first_after before line number fault counted faulty = record { earlier = before; line = line; later = []; place = refl; counted = counted; faulty = faulty }

  -- the same of why it wasn't read
  pub stopped : (before : List (List ℕ)) (line : List ℕ) (number : ℕ) (k : FaultKind L) → number ≡ length before + 1 → IsFaultBy (rules.HasFault before line) ⊥ k → IsFirstOfKind rules (before ++ line ∷ []) number k
  stopped before line number k counted h = of_line (rules.HasFault before line) (IsFirstFault rules (before ++ line ∷ []) number) ⊥ k (λ fault faulty. first_after before line number fault counted faulty) h

  -- lines after the first fault change nothing
  pub IsFirstFault-more : (lines more : List (List ℕ)) (number : ℕ) (fault : L) → IsFirstFault rules lines number fault → IsFirstFault rules (lines ++ more) number fault
  IsFirstFault-more lines more number fault h = record {
    earlier = h.earlier;
    line = h.line;
    later = h.later ++ more;
    place = ap (λ (ls : List (List ℕ)). ls ++ more) h.place ∙ append_assoc h.earlier (h.line ∷ h.later) more;
    counted = h.counted;
    faulty = h.faulty;
  }

  pub IsFirstOfKind-more : (lines more : List (List ℕ)) (number : ℕ) (k : FaultKind L) → IsFirstOfKind rules lines number k → IsFirstOfKind rules (lines ++ more) number k
  IsFirstOfKind-more lines more number k h = of_line (IsFirstFault rules lines number) (IsFirstFault rules (lines ++ more) number) ⊥ k (λ fault first. IsFirstFault-more lines more number fault first) h

-- a list with an item isn't empty
pub never_empty : {X : Type 0} (x : X) (xs : List X) → x ∷ xs ≡ [] → ⊥
never_empty x xs e = suc-ne-zero (length xs) (ap length e)

module _ {Contents : Type 0} (Reads : List (List ℕ) → Contents → Type 0) where
  -- a line more was read
  pub read_more : (before : List (List ℕ)) (line : List ℕ) (old new : Progress Contents) → HasRead Reads before old → Reads (before ++ line ∷ []) new.contents → new.lines ≡ old.lines + 1 → HasRead Reads (before ++ line ∷ []) new
  read_more before line old new at made lines = record { made = made; counted = omega (arith, lines, at.counted, length-append before (line ∷ [])) }

  -- a line more was read under a context
  pub read_under : {Context : Type 0} (context : Contents → Option Context) (under : Context) (before : List (List ℕ)) (line : List ℕ) (old new : Progress Contents) → HasRead Reads before old → context old.contents ≡ Some under → Reads (before ++ line ∷ []) new.contents × (context new.contents ≡ Some under) → new.lines ≡ old.lines + 1 → HasRead Reads (before ++ line ∷ []) new × (context new.contents ≡ context old.contents)
  read_under context under before line old new at e made lines = (read_more before line old new at made.0 lines, made.1 ∙ sym e)

module _ {L Item Context : Type 0} (Shows : Context → List ℕ → Result Item L → Type 0) where
  -- no line shows nothing
  pub none_shown : (o : Option Context) (js : List (Judgement Item L)) → js ≡ [] → ShownUnder Shows o [] js
  none_shown None js none = (refl, none)
  none_shown (Some under) js none = let P : List (Judgement Item L) → Type 0 = λ xs. AllZip (ShowsItem (Shows under)) [] xs in subst P (sym none) tt

  shows_none : (o : Option Context) (lines : List (List ℕ)) → ShownUnder Shows o lines [] → lines ≡ []
  shows_none None lines shown = shown.0
  shows_none (Some under) [] shown = refl
  shows_none (Some under) (line ∷ lines) shown = absurd shown

  -- lines whose first show that, and those after them the others
  pub record Parts (o : Option Context) (lines : List (List ℕ)) (js more : List (Judgement Item L)) : Type 0 where
    pub front : List (List ℕ)
    pub back : List (List ℕ)
    pub whole : lines ≡ front ++ back
    pub first : ShownUnder Shows o front js
    pub second : ShownUnder Shows o back more

  pub parts : (o : Option Context) (lines : List (List ℕ)) (js more : List (Judgement Item L)) → ShownUnder Shows o lines (js ++ more) → Parts o lines js more
  parts None lines [] more shown = record { front = []; back = lines; whole = refl; first = (refl, refl); second = shown }
  parts None lines (j ∷ js) more shown = absurd (never_empty j (js ++ more) shown.1)
  parts (Some under) lines js more shown =
      let p = front_and_back (ShowsItem (Shows under)) lines js more shown in
      record { front = p.front; back = p.back; whole = p.whole; first = p.first; second = p.second }

module _ {L Item Context Contents : Type 0} (rules : LineRules L) (Reads : List (List ℕ) → Contents → Type 0) (context : Contents → Option Context) (Shows : Context → List ℕ → Result Item L → Type 0) where
  module _ (old : Progress Contents) (j : Judgement Item L) (r : Result (Unit {0}) (ReadFault L)) (new : Progress Contents) (takes : ReadsJudged Reads rules context Shows old j r (λ (done : Unit {0}). new)) where
    judged_under : (o : Option Context) → context old.contents ≡ o → (lines : List (List ℕ)) → ShownUnder Shows o lines (j ∷ []) → ReadsMore Reads rules context Shows old lines r (λ (done : Unit {0}). new)
    judged_under None e lines shown = absurd (never_empty j [] shown.1)
    judged_under (Some under) e [] shown = absurd shown
    judged_under (Some under) e (line ∷ []) shown = takes under line e shown.0
    judged_under (Some under) e (line ∷ next ∷ lines) shown = absurd shown.1

    -- what a line's judgement makes is what those of the one line make
    pub one_judged : ReadsShown Reads rules context Shows old (j ∷ []) r (λ (done : Unit {0}). new)
    one_judged lines shown = judged_under (context old.contents) refl lines shown

  -- some of the lines were read, and what is left is judged
  pub record Half (before lines : List (List ℕ)) (old new : Progress Contents) (judgements : List (Judgement Item L)) : Type 0 where
    pub done : List (List ℕ)
    pub rest : List (List ℕ)
    pub whole : lines ≡ done ++ rest
    pub at : HasRead Reads (before ++ done) new
    pub same : context new.contents ≡ context old.contents
    pub shown : ShownUnder Shows (context old.contents) rest judgements

  pub record Goes (lines : List (List ℕ)) (old new : Progress Contents) (judgements : List (Judgement Item L)) : Type 0 where
    pub each : (before : List (List ℕ)) → HasRead Reads before old → Half before lines old new judgements

  pub Goes-start : (lines : List (List ℕ)) (old : Progress Contents) (judgements : List (Judgement Item L)) → ShownUnder Shows (context old.contents) lines judgements → Goes lines old old judgements
  Goes-start lines old judgements shown = record {
    each = λ before at. record {
      done = [];
      rest = lines;
      whole = refl;
      at = let P : List (List ℕ) → Type 0 = λ ls. HasRead Reads ls old in subst P (sym (append-nil before)) at;
      same = refl;
      shown = shown;
    };
  }

  -- a run of lines more
  module _ (lines : List (List ℕ)) (old mid : Progress Contents) (js more : List (Judgement Item L)) (goes : Goes lines old mid (js ++ more)) (new : Progress Contents) where
    pub Goes-run : ReadsShown Reads rules context Shows mid js (Ok tt) (λ (done : Unit {0}). new) → Goes lines old new more
    Goes-run takes = record {
      each = λ before at.
          let h = goes.each before at in
          let p = parts Shows (context old.contents) h.rest js more h.shown in
          let S : Option Context → Type 0 = λ o. ShownUnder Shows o p.front js in
          let P : List (List ℕ) → Type 0 = λ ls. HasRead Reads ls new in
          let took = takes p.front (subst S (sym h.same) p.first) (before ++ h.done) h.at in
          record {
            done = h.done ++ p.front;
            rest = p.back;
            whole = h.whole ∙ ap (λ (ls : List (List ℕ)). h.done ++ ls) p.whole ∙ sym (append_assoc h.done p.front p.back);
            at = subst P (append_assoc before h.done p.front) took.0;
            same = took.1 ∙ h.same;
            shown = p.second;
          };
    }

    pub Goes-stop : (fault : ReadFault L) → ReadsShown Reads rules context Shows mid js (Err fault) (λ (done : Unit {0}). new) → (before : List (List ℕ)) → HasRead Reads before old → IsFirstOfKind rules (before ++ lines) fault.line fault.kind
    Goes-stop fault takes before at =
        let h = goes.each before at in
        let p = parts Shows (context old.contents) h.rest js more h.shown in
        let S : Option Context → Type 0 = λ o. ShownUnder Shows o p.front js in
        let one = takes p.front (subst S (sym h.same) p.first) (before ++ h.done) h.at in
        let P : List (List ℕ) → Type 0 = λ ls. IsFirstOfKind rules ls fault.line fault.kind in
        let whole : ((before ++ h.done) ++ p.front) ++ p.back ≡ before ++ lines =
        append_assoc (before ++ h.done) p.front p.back ∙ append_assoc before h.done (p.front ++ p.back) ∙ ap (λ (ls : List (List ℕ)). before ++ (h.done ++ ls)) (sym p.whole) ∙ ap (λ (ls : List (List ℕ)). before ++ ls) (sym h.whole) in
        subst P whole (IsFirstOfKind-more rules ((before ++ h.done) ++ p.front) p.back fault.line fault.kind one)

  pub Goes-end : (lines : List (List ℕ)) (old new : Progress Contents) → Goes lines old new [] → (before : List (List ℕ)) → HasRead Reads before old → HasRead Reads (before ++ lines) new × (context new.contents ≡ context old.contents)
  Goes-end lines old new goes before at =
      let h = goes.each before at in
      let P : List (List ℕ) → Type 0 = λ ls. HasRead Reads (before ++ ls) new in
      let all : h.done ≡ lines = sym (append-nil h.done) ∙ ap (λ (ls : List (List ℕ)). h.done ++ ls) (sym (shows_none Shows (context old.contents) h.rest h.shown)) ∙ sym h.whole in
      (subst P all h.at, h.same)
