-- The first fault of what a reader delivered.
use Rattle.std.specs.Prelude.{ℕ, ◌≡◌, ◌≤◌, ◌+◌, ◌⊎◌, List, [], ◌∷◌, ◌++◌, length, nat_lt, Option}
use Rattle.std.specs.Prelude.{Result, Ok, Err, MatchResult, if◌then◌else◌}
use Rattle.std.specs.Io.KnownBytes.{IsAtEnd}
use Rattle.counted_devices.specs.declared.read_fault.FaultKind.{FaultKind}
use Rattle.counted_devices.specs.declared.read_fault.ReadFault.{ReadFault}
use Rattle.counted_devices.specs.Cuts.{Splits, last_lines, longest_line}
use Rattle.counted_devices.specs.Deliveries.{Delivers}
use Rattle.counted_devices.specs.DeviceStates.{DeviceStates}
use Rattle.counted_devices.specs.ReadFaults.{IsFaultBy, FailsFrom}

-- for a kind of file: when whole lines have no fault, and which fault of a line is the first, in
-- the lines of the bytes that are whole so far, or in all lines at the bytes' end
pub record LineFaults (L : Type 0) : Type 1 where
  pub HaveNone : List (List ℕ) → Type 0
  pub IsFirstSoFar : List ℕ → ℕ → L → Type 0
  pub IsFirstInAll : List ℕ → ℕ → L → Type 0

-- for a kind of file: when whole lines, so far, have no fault; which fault the next line has after
-- lines that have none; and which fault all the lines have at their end, where none of them has one
pub record LineRules (L : Type 0) : Type 1 where
  pub AreSound : List (List ℕ) → Type 0
  pub HasFault : List (List ℕ) → List ℕ → L → Type 0
  pub LacksAtEnd : List (List ℕ) → L → Type 0

-- the whole lines so far: each that has its end, and a rest that is too long already
abbrev pub whole_lines : List (List ℕ) → List ℕ → List (List ℕ)
whole_lines lines rest =
    if nat_lt longest_line (length rest) then lines ++ rest ∷ [] else lines

module _ {L : Type 0} (rules : LineRules L) where
  -- the first of the lines that has a fault has that number and that fault
  pub record IsFirstFault (lines : List (List ℕ)) (number : ℕ) (fault : L) : Type 0 where
    pub earlier : List (List ℕ)
    pub line : List ℕ
    pub later : List (List ℕ)
    pub place : lines ≡ earlier ++ line ∷ later
    pub counted : number ≡ length earlier + 1
    pub faulty : rules.HasFault earlier line fault

  -- among the lines that are whole so far, the first with a fault has that number and that fault
  pub record FirstFaultSoFar (bytes : List ℕ) (number : ℕ) (fault : L) : Type 0 where
    pub lines : List (List ℕ)
    pub rest : List ℕ
    pub splits : Splits bytes lines rest
    pub first : IsFirstFault (whole_lines lines rest) number fault

  -- the first fault of all lines, or what they lack at the bytes' end, which is told of line 1
  pub record FirstFaultInAll (bytes : List ℕ) (number : ℕ) (fault : L) : Type 0 where
    pub lines : List (List ℕ)
    pub rest : List ℕ
    pub splits : Splits bytes lines rest
    pub first : IsFirstFault (last_lines lines rest) number fault
        ⊎ (rules.LacksAtEnd (last_lines lines rest) fault × (number ≡ 1))

  -- the faults of files by those rules
  abbrev pub faults_by : LineFaults L
  faults_by = record {
    HaveNone = rules.AreSound;
    IsFirstSoFar = FirstFaultSoFar;
    IsFirstInAll = FirstFaultInAll;
  }

  -- the fault is the first of the lines; it is of a line, or an allocation was refused
  abbrev pub IsFirstOfKind : List (List ℕ) → ℕ → FaultKind L → Type 0
  IsFirstOfKind lines number kind = IsFaultBy (IsFirstFault lines number) ⊥ kind

module _ {L : Type 0} (faults : LineFaults L) where
  -- no line of the bytes that is whole has a fault, and the line under way has that number
  pub record IsUnderWay (bytes : List ℕ) (number : ℕ) : Type 0 where
    pub lines : List (List ℕ)
    pub rest : List ℕ
    pub splits : Splits bytes lines rest
    pub short : length rest ≤ longest_line
    pub sound : faults.HaveNone lines
    pub counted : number ≡ length lines + 1

  -- the fault of a line is the first of the bytes, so far or at the reader's end; a device's fault
  -- comes after whole lines without a fault, and names the line under way
  abbrev pub StopsWith : Option (List ℕ) → ℕ → FaultKind L → List ℕ → Type 0
  StopsWith left number kind bytes =
      IsFaultBy (λ fault. faults.IsFirstSoFar bytes number fault
      ⊎ (IsAtEnd left × faults.IsFirstInAll bytes number fault)) (IsUnderWay bytes number) kind

  -- the same of a fault with its line and its kind
  abbrev pub StopsAt : Option (List ℕ) → ReadFault L → List ℕ → Type 0
  StopsAt left fault bytes = StopsWith left fault.line fault.kind bytes

  -- that fault is the first of what the reader gave
  abbrev pub StopsFrom : DeviceStates → ReadFault L → Type 0
  StopsFrom reader fault = Delivers reader.old reader.new (StopsAt reader.new fault)

  -- the fault is the first so far; it is of a line, or an allocation was refused
  abbrev pub FaultSoFar : List ℕ → ℕ → FaultKind L → Type 0
  FaultSoFar bytes number kind = IsFaultBy (faults.IsFirstSoFar bytes number) ⊥ kind

  -- the fault is the first of all the bytes; it is of a line, or an allocation was refused
  abbrev pub FaultInAll : List ℕ → ℕ → FaultKind L → Type 0
  FaultInAll bytes number kind = IsFaultBy (faults.IsFirstInAll bytes number) ⊥ kind

  -- a feed that was fed these bytes in all stands for them, or their first fault so far is answered
  abbrev pub FeedAnswers : {F : Type 0} → (List ℕ → F → Type 0) → List ℕ
      → Result (Unit {0}) (ReadFault L) → F → Type 0
  FeedAnswers Stands bytes (Ok done) new = Stands bytes new
  FeedAnswers Stands bytes (Err fault) new = FaultSoFar bytes fault.line fault.kind

  -- at their end the bytes are read as the contents, or their first fault is answered
  abbrev pub FileAnswers : {X : Type 0} → (List ℕ → X → Type 0) → List ℕ → Result X (ReadFault L)
      → Type 0
  FileAnswers Reads bytes result = MatchResult result (λ contents. Reads bytes contents)
      (λ fault. FaultInAll bytes fault.line fault.kind)

  -- what was made fits the bytes that the reader gave, or their first fault is answered, of the
  -- device only where it failed
  abbrev pub ReadsOn : {X : Type 0} → (List ℕ → X → Type 0) → DeviceStates → Result X (ReadFault L)
      → Type 0
  ReadsOn Fits reader result =
      MatchResult result (λ made. Delivers reader.old reader.new (λ bytes. Fits bytes made))
      (λ fault. StopsFrom reader fault × FailsFrom reader fault)
