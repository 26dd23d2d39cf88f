-- Lines that are judged, and read after that.
use Rattle.std.proofs.Common.{ℕ, Bor, map, take, slice_index, ◌≡◌, ◌≢◌, ◌<◌, ◌≤◌, ◌+◌, List, [], ◌∷◌, ◌++◌, length, Bool, true, false, cond, nat_lt, Option, Some, None, Result, Ok, Err, sym, ap, ◌∙◌, append_assoc, append-nil, arith, subst}
use Rattle.std.specs.Prelude.{IfOk}
use Rattle.std.specs.List.{flat_map}
use Rattle.std.proofs.lemmas.Slice.Zip.{AllZip-long}
use Rattle.std.proofs.lemmas.Bool.{lt-ltb}
use Rattle.std.proofs.lemmas.List.Elements.{All-append}
use Rattle.counted_devices.specs.declared.read_fault.FaultKind.{FaultKind}
use Rattle.counted_devices.specs.Cuts.{with_end, Splits, Divides, HasNoEnd}
use Rattle.counted_devices.specs.FirstFaults.{LineRules, IsFirstFault, IsFirstOfKind, FirstFaultSoFar, FaultSoFar, faults_by}
use Rattle.counted_devices.specs.Judgements.{ShowsItem, ShowChunks}
use Rattle.counted_devices.specs.ReadFaults.{IsFaultBy}
use Rattle.counted_devices.proofs.CutLemmas.{Splits-join, Splits-room, Splits-none, Splits-rest, behind, cut_at, cut_of}
use Rattle.counted_devices.proofs.FaultKinds.{of_line}
use Rattle.line_files.specs.declared.judged_lines.JudgedLines.{JudgedLines}
use Rattle.line_files.specs.declared.progress.Progress.{Progress}
use Rattle.line_files.specs.Ahead.{IsJudged, AreReadOrJudged}
use Rattle.line_files.specs.LinesRead.{ShownUnder, HasRead, ReadsShown, AreRead, HasReadFront, AreReadBefore, HasReadBefore}
use Rattle.line_files.proofs.LineByLine.{IsFirstFault-more, IsFirstOfKind-more, first_after, none_shown}
use Rattle.line_files.proofs.Ends.{line_ended}
use Rattle.line_files.proofs.Leaving.{leaves_before}

module _ {L : Type 0} (rules : LineRules L) where
  with_more : (b : Bool) (lines : List (List ℕ)) (rest : List ℕ) (number : ℕ) (fault : L) → IsFirstFault rules lines number fault → IsFirstFault rules (cond b (lines ++ rest ∷ []) lines) number fault
  with_more true lines rest number fault h = IsFirstFault-more rules lines (rest ∷ []) number fault h
  with_more false lines rest number fault h = h

  long_first : (b : Bool) (lines : List (List ℕ)) (rest : List ℕ) (number : ℕ) (fault : L) → b ≡ true → number ≡ length lines + 1 → rules.HasFault lines rest fault → IsFirstFault rules (cond b (lines ++ rest ∷ []) lines) number fault
  long_first false lines rest number fault e counted faulty = cc
  long_first true lines rest number fault e counted faulty = first_after rules lines rest number fault counted faulty

  -- a fault among the whole lines
  pub so_far : (bytes : List ℕ) (lines : List (List ℕ)) (rest : List ℕ) (number : ℕ) (k : FaultKind L) → Splits bytes lines rest → IsFirstOfKind rules lines number k → FaultSoFar (faults_by rules) bytes number k
  so_far bytes lines rest number k s h = of_line (IsFirstFault rules lines number) (FirstFaultSoFar rules bytes number) ⊥ k (λ fault first. record {
    lines = lines;
    rest = rest;
    splits = s;
    first = with_more (nat_lt 65536 (length rest)) lines rest number fault first;
  }) h

  -- it stays the first, whatever follows
  pub stays : (bytes : List ℕ) (lines : List (List ℕ)) (rest : List ℕ) (number : ℕ) (k : FaultKind L) → Splits bytes lines rest → IsFirstOfKind rules lines number k → (more : List ℕ) → FaultSoFar (faults_by rules) (bytes ++ more) number k
  stays bytes lines rest number k s h more =
      let cut = cut_of (rest ++ more) in
      so_far (bytes ++ more) (lines ++ cut.lines) cut.rest number k (Splits-join bytes more lines cut.lines rest cut.rest s cut.splits) (IsFirstOfKind-more rules lines cut.lines number k h)

  -- a line under way that is too long already
  pub long_so_far : (bytes : List ℕ) (lines : List (List ℕ)) (rest : List ℕ) (number : ℕ) (fault : L) → Splits bytes lines rest → 65536 < length rest → number ≡ length lines + 1 → rules.HasFault lines rest fault → FirstFaultSoFar rules bytes number fault
  long_so_far bytes lines rest number fault s long counted faulty = record {
    lines = lines;
    rest = rest;
    splits = s;
    first = long_first (nat_lt 65536 (length rest)) lines rest number fault (lt-ltb 65536 (length rest) long) counted faulty;
  }

module _ {Contents : Type 0} (Reads : List (List ℕ) → Contents → Type 0) (bytes block rest line : List ℕ) (end : ℕ) (inside : end < length block) (none : HasNoEnd (take end block)) (ten : slice_index block end ≡ 10) (same : line ≡ rest ++ take end block) (old : Progress Contents) (r : AreRead Reads bytes old rest) where
  ended : Splits (bytes ++ (take end block ++ 10 ∷ [])) (r.lines ++ line ∷ []) []
  ended =
      let P : List ℕ → Type 0 = λ xs. Splits (bytes ++ (take end block ++ 10 ∷ [])) (r.lines ++ xs ∷ []) [] in
      subst P (sym same) (line_ended bytes rest (take end block) r.lines r.splits none)

  whole : (bytes ++ (take end block ++ 10 ∷ [])) ++ behind block end ≡ bytes ++ block
  whole =
      append_assoc bytes (take end block ++ 10 ∷ []) (behind block end)
      ∙ ap (λ (xs : List ℕ). bytes ++ xs) (append_assoc (take end block) (10 ∷ []) (behind block end) ∙ sym (cut_at block end inside ten))

  -- the block ends the line that the rest began
  pub first_ended : (new : Progress Contents) (left : List ℕ) → left ≡ [] → HasRead Reads (r.lines ++ line ∷ []) new → HasReadFront Reads (bytes ++ block) (behind block end) new left
  first_ended new left empty at =
      let P : List ℕ → Type 0 = λ xs. Splits (bytes ++ (take end block ++ 10 ∷ [])) (r.lines ++ line ∷ []) xs in
      record {
        read = bytes ++ (take end block ++ 10 ∷ []);
        whole = whole;
        at = record { lines = r.lines ++ line ∷ []; splits = subst P (sym empty) ended; at = at };
      }

  -- that line has a fault
  pub first_stops : {L : Type 0} (rules : LineRules L) (number : ℕ) (k : FaultKind L) → IsFirstOfKind rules (r.lines ++ line ∷ []) number k → FaultSoFar (faults_by rules) (bytes ++ block) number k
  first_stops rules number k h =
      let P : List ℕ → Type 0 = λ xs. FaultSoFar (faults_by rules) xs number k in
      subst P whole (stays rules (bytes ++ (take end block ++ 10 ∷ [])) (r.lines ++ line ∷ []) [] number k ended h (behind block end))

  -- and the lines before it were read
  pub first_leaves : {L : Type 0} (number : ℕ) (k : FaultKind L) (contents : Contents) → IsFaultBy (λ _. AreReadBefore Reads (r.lines ++ line ∷ []) number contents) ⊥ k → IsFaultBy (λ _. HasReadBefore Reads (bytes ++ block) number contents) ⊥ k
  first_leaves number k contents h =
      let P : List ℕ → Type 0 = λ xs. IsFaultBy (λ _. HasReadBefore Reads xs number contents) ⊥ k in
      subst P whole (leaves_before Reads (bytes ++ (take end block ++ 10 ∷ [])) (r.lines ++ line ∷ []) [] number k contents ended h (behind block end))

module _ {L Item Context : Type 0} (Shows : Context → List ℕ → Result Item L → Type 0) where
  -- bytes without an end have no whole line
  judged_none : (context : Option Context) (bytes : List ℕ) (judged : JudgedLines Item L) → HasNoEnd bytes → judged.judgements ≡ [] → judged.rest.items ≡ bytes → IsJudged Shows context bytes judged
  judged_none context bytes judged h none r =
      let Q : List ℕ → Type 0 = λ xs. Splits bytes [] xs in
      record { lines = []; splits = subst Q (sym r) (Splits-none bytes h); shown = none_shown Shows context judged.judgements none }

  -- the rest with a block that ends no line
  pub nothing_judged : {E : Type 0} (context : Option Context) (rest block : List ℕ) (r : Result (JudgedLines Item L) E) → IfOk r (λ judged. judged.judgements ≡ []) → IfOk r (λ judged. judged.rest.items ≡ rest ++ block) → ((context ≡ None → HasNoEnd block) → HasNoEnd block) → IfOk r (λ judged. HasNoEnd rest → (context ≡ None → HasNoEnd block) → IsJudged Shows context (rest ++ block) judged)
  nothing_judged context rest block (Ok judged) none left ends = λ partial begun. judged_none context (rest ++ block) judged (All-append (λ (b : ℕ). b ≢ 10) rest block partial (ends begun)) none left
  nothing_judged context rest block (Err e) none left ends = tt

  -- the first line is after the rest, the others are those of the tail's chunks
  judged_chunks : (under : Context) (rest front tail : List ℕ) (chunks : List (List ℕ)) (judged : JudgedLines Item L) → Divides tail chunks judged.rest.items → ShowChunks (Shows under) ((rest ++ front) ∷ chunks) judged.judgements → IsJudged Shows (Some under) (rest ++ (front ++ 10 ∷ tail)) judged
  judged_chunks under rest front tail chunks judged d h =
      let left = judged.rest.items in
      let line = rest ++ front in
      let whole : flat_map with_end (line ∷ chunks) ++ left ≡ rest ++ (front ++ 10 ∷ tail) =
      append_assoc (with_end line) (flat_map with_end chunks) left ∙ ap (λ (xs : List ℕ). with_end line ++ xs) (sym d.whole) ∙ append_assoc line (10 ∷ []) tail ∙ append_assoc rest front (10 ∷ tail) in
      let P : List ℕ → Type 0 = λ xs. Splits xs h.lines left in
      record { lines = h.lines; splits = subst P whole (Splits-rest (flat_map with_end (line ∷ chunks)) left h.lines h.cut d.partial); shown = h.shown }

  -- each line and its end is a byte at least
  pub judged_room : (under : Context) (bytes : List ℕ) (judged : JudgedLines Item L) → IsJudged Shows (Some under) bytes judged → length judged.judgements + length judged.rest.items ≤ length bytes
  judged_room under bytes judged j = omega (arith, AllZip-long (ShowsItem (Shows under)) j.lines judged.judgements j.shown, Splits-room bytes j.lines judged.rest.items j.splits)

  -- the first chunk ends the rest's line, the others are those of the block after that line
  pub block_judged : (under : Context) (rest block : List ℕ) (end : ℕ) (judged : JudgedLines Item L) (first : Bor (List ℕ)) (found all : List (Bor (List ℕ))) (left : List ℕ) → end < length block → slice_index block end ≡ 10 → first.now ≡ rest ++ take end block → first ∷ found ≡ all
      → Divides (behind block end) (map (λ (chunk : Bor (List ℕ)). chunk.now) found) left → judged.rest.items ≡ left → ShowChunks (Shows under) (map (λ (chunk : Bor (List ℕ)). chunk.now) all) judged.judgements → IsJudged Shows (Some under) (rest ++ block) judged
  block_judged under rest block end judged first found all left inside ten whole same divides kept shown =
      let chunks = map (λ (chunk : Bor (List ℕ)). chunk.now) found in
      let D : List ℕ → Type 0 = λ xs. Divides (behind block end) chunks xs in
      let A : List (Bor (List ℕ)) → Type 0 = λ ps. ShowChunks (Shows under) (map (λ (chunk : Bor (List ℕ)). chunk.now) ps) judged.judgements in
      let F : List ℕ → Type 0 = λ xs. ShowChunks (Shows under) (xs ∷ chunks) judged.judgements in
      let J : List ℕ → Type 0 = λ xs. IsJudged Shows (Some under) (rest ++ xs) judged in
      subst J (sym (cut_at block end inside ten)) (judged_chunks under rest (take end block) (behind block end) chunks judged (subst D (sym kept) divides) (subst F whole (subst A (sym same) shown)))

  module _ {Contents : Type 0} (Reads : List (List ℕ) → Contents → Type 0) (context : Contents → Option Context) where
    -- the lines that were judged are read
    pub all_read : (rules : LineRules L) (bytes : List ℕ) (old new : Progress Contents) (judged : JudgedLines Item L) → AreReadOrJudged Reads context Shows bytes old judged → ReadsShown Reads rules context Shows old judged.judgements (Ok new) (λ (new : Progress Contents). new) → AreRead Reads bytes new judged.rest.items
    all_read rules bytes old new judged a records = record {
      lines = a.read ++ a.waiting;
      splits = a.splits;
      at = (records a.waiting a.shown a.read a.at).0;
    }

    -- no line waits
    pub nothing_waits : (bytes : List ℕ) (progress : Progress Contents) (judged : JudgedLines Item L) → AreRead Reads bytes progress judged.rest.items → judged.judgements ≡ [] → AreReadOrJudged Reads context Shows bytes progress judged
    nothing_waits bytes progress judged r none =
        let P : List (List ℕ) → Type 0 = λ ls. Splits bytes ls judged.rest.items in
        record {
          read = r.lines;
          waiting = [];
          splits = subst P (sym (append-nil r.lines)) r.splits;
          at = r.at;
          shown = none_shown Shows (context progress.contents) judged.judgements none;
        }

    -- the lines of a block more are judged
    pub judged_more : (bytes block rest : List ℕ) (progress : Progress Contents) (under : Option Context) (judged : JudgedLines Item L) → AreRead Reads bytes progress rest → IsJudged Shows under (rest ++ block) judged → under ≡ context progress.contents → AreReadOrJudged Reads context Shows (bytes ++ block) progress judged
    judged_more bytes block rest progress under judged r j known =
        let S : Option Context → Type 0 = λ o. ShownUnder Shows o j.lines judged.judgements in
        record {
          read = r.lines;
          waiting = j.lines;
          splits = Splits-join bytes block r.lines j.lines rest judged.rest.items r.splits j.splits;
          at = r.at;
          shown = subst S known j.shown;
        }
