-- How far the lines of a file were read, and the first fault among them.
use Rattle.std.specs.Prelude.{ℕ, ◌≡◌, ◌≤◌, List, [], ◌∷◌, ◌++◌, length, Option, Some, None, Result}
use Rattle.std.specs.Prelude.{◌+◌, MatchResult, IfErr, Vec}
use Rattle.std.specs.List.{AllZip}
use Rattle.std.specs.declared.alloc.Global.{Global}
use Rattle.counted_devices.specs.Cuts.{Splits, longest_line}
use Rattle.counted_devices.specs.FirstFaults.{LineRules, FaultSoFar, IsFirstOfKind, faults_by}
use Rattle.counted_devices.specs.Judgements.{ShowsItem}
use Rattle.counted_devices.specs.ReadFaults.{IsFaultBy}
use Rattle.counted_devices.specs.declared.judgement.Judgement.{Judgement}
use Rattle.counted_devices.specs.declared.read_fault.ReadFault.{ReadFault}
use Rattle.line_files.specs.declared.progress.Progress.{Progress}

-- what lines show under a context; without one no line is judged
abbrev pub ShownUnder : {L Item Context : Type 0} → (Context → List ℕ → Result Item L → Type 0)
    → Option Context → List (List ℕ) → List (Judgement Item L) → Type 0
ShownUnder Shows None lines judgements = (lines ≡ []) × (judgements ≡ [])
ShownUnder Shows (Some under) lines judgements = AllZip (ShowsItem (Shows under)) lines judgements

module _ {Contents : Type 0} (Reads : List (List ℕ) → Contents → Type 0) where
  -- the lines were read, and counted
  pub record HasRead (lines : List (List ℕ)) (progress : Progress Contents) : Type 0 where
    pub made : Reads lines progress.contents
    pub counted : progress.lines ≡ length lines

  -- the whole lines of the bytes were read, and that rest is left
  pub record AreRead (bytes : List ℕ) (progress : Progress Contents) (rest : List ℕ) : Type 0 where
    pub lines : List (List ℕ)
    pub splits : Splits bytes lines rest
    pub at : HasRead lines progress

  -- the bytes up to those that are left were read, with that rest
  pub record HasReadFront (bytes left : List ℕ) (progress : Progress Contents) (rest : List ℕ) :
      Type 0 where
    pub read : List ℕ
    pub whole : read ++ left ≡ bytes
    pub at : AreRead read progress rest

  -- of the lines those before that number were read, and no others
  pub record AreReadBefore (lines : List (List ℕ)) (number : ℕ) (contents : Contents) : Type 0
    where
      pub earlier : List (List ℕ)
      pub later : List (List ℕ)
      pub whole : lines ≡ earlier ++ later
      pub counted : number ≡ length earlier + 1
      pub made : Reads earlier contents

  -- the same of the lines of the bytes
  pub record HasReadBefore (bytes : List ℕ) (number : ℕ) (contents : Contents) : Type 0 where
    pub lines : List (List ℕ)
    pub rest : List ℕ
    pub splits : Splits bytes lines rest
    pub at : AreReadBefore lines number contents

  module _ {L X : Type 0} where
    -- where a line has a fault, the lines before it were read
    abbrev pub LeavesRead : List (List ℕ) → Result X (ReadFault L) → Contents → Type 0
    LeavesRead lines result contents = IfErr result
        (λ fault. IsFaultBy (λ _. AreReadBefore lines fault.line contents) ⊥ fault.kind)

    -- the same of a line of the bytes
    abbrev pub LeavesReadIn : List ℕ → Result X (ReadFault L) → Contents → Type 0
    LeavesReadIn bytes result contents = IfErr result
        (λ fault. IsFaultBy (λ _. HasReadBefore bytes fault.line contents) ⊥ fault.kind)

  module _ {L X Item Context : Type 0} (context : Contents → Option Context)
      (Shows : Context → List ℕ → Result Item L → Type 0) where
    -- the same of a line after those that were read, by what it shows
    abbrev pub LeavesJudged : Progress Contents → Judgement Item L → Result X (ReadFault L)
        → Progress Contents → Type 0
    LeavesJudged old judgement result new = (under : Context) (line : List ℕ)
        → context old.contents ≡ Some under → ShowsItem (Shows under) line judgement
        → (before : List (List ℕ)) → HasRead before old
        → LeavesRead (before ++ line ∷ []) result new.contents

    -- the same of lines, by what they show
    abbrev pub LeavesShown : Progress Contents → List (Judgement Item L)
        → Result X (ReadFault L) → Progress Contents → Type 0
    LeavesShown old judgements result new = (lines : List (List ℕ))
        → ShownUnder Shows (context old.contents) lines judgements
        → (before : List (List ℕ)) → HasRead before old
        → LeavesRead (before ++ lines) result new.contents

  module _ {L : Type 0} (rules : LineRules L) where
    -- the next line is read, or the first fault of all is answered
    abbrev pub ReadsNext : {X : Type 0} → Progress Contents → List ℕ → Result X (ReadFault L)
        → (X → Progress Contents) → Type 0
    ReadsNext old line result new =
        (before : List (List ℕ)) → HasRead before old
        → MatchResult result (λ x. HasRead (before ++ line ∷ []) (new x))
        (λ fault. IsFirstOfKind rules (before ++ line ∷ []) fault.line fault.kind)

    -- the whole lines of the bytes are read and the rest is answered, which isn't too long, or the
    -- first fault so far is answered
    abbrev pub ReadsBytes : List ℕ → Result (Vec ℕ Global) (ReadFault L) → Progress Contents
        → Type 0
    ReadsBytes bytes result new = MatchResult result
        (λ rest. AreRead bytes new rest.items × (length rest.items ≤ longest_line))
        (λ fault. FaultSoFar (faults_by rules) bytes fault.line fault.kind)

    module _ {Item Context : Type 0} (context : Contents → Option Context)
        (Shows : Context → List ℕ → Result Item L → Type 0) where
      -- lines are read after those that were read, under the same context, or the first fault of
      -- them all is answered
      abbrev pub ReadsMore : {X : Type 0} → Progress Contents → List (List ℕ)
          → Result X (ReadFault L) → (X → Progress Contents) → Type 0
      ReadsMore old lines result new = (before : List (List ℕ)) → HasRead before old
          → MatchResult result (λ x. HasRead (before ++ lines) (new x)
          × (context (new x).contents ≡ context old.contents))
          (λ fault. IsFirstOfKind rules (before ++ lines) fault.line fault.kind)

      -- the same of one line, by what it shows
      abbrev pub ReadsJudged : {X : Type 0} → Progress Contents → Judgement Item L
          → Result X (ReadFault L) → (X → Progress Contents) → Type 0
      ReadsJudged old judgement result new = (under : Context) (line : List ℕ)
          → context old.contents ≡ Some under → ShowsItem (Shows under) line judgement
          → ReadsMore old (line ∷ []) result new

      -- the same of lines, by what they show
      abbrev pub ReadsShown : {X : Type 0} → Progress Contents → List (Judgement Item L)
          → Result X (ReadFault L) → (X → Progress Contents) → Type 0
      ReadsShown old judgements result new = (lines : List (List ℕ))
          → ShownUnder Shows (context old.contents) lines judgements
          → ReadsMore old lines result new
