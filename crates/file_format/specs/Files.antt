-- Whole lines of a file: the header and the items that they are, and their faults.
use Rattle.std.specs.Prelude.{ℕ, ◌≡◌, ◌⊎◌, List, [], ◌∷◌, Ok, Err}
use Rattle.std.specs.List.{AllZip}
use Rattle.counted_devices.specs.FirstFaults.{LineRules, LineFaults, faults_by}
use Rattle.file_format.specs.declared.fault.LineFault.{LineFault}
use Rattle.file_format.specs.declared.fault.LineFault.TheVariants.{NoHeader}
use Rattle.file_format.specs.Lines.{LineShows}
use Rattle.file_format.specs.Formats.{Format}

module _ {Header Item : Type 0} (format : Format Header Item) where
  -- the line is that header of such a file
  abbrev pub IsHeader : List ℕ → Header → Type 0
  IsHeader line header = LineShows format.heading line (Ok header)

  -- after that header, the line is one of the item
  abbrev pub IsLineOf : Header → List ℕ → Item → Type 0
  IsLineOf header line item = LineShows (format.meaning header) line (Ok item)

  -- the first line is the header, the others are lines of the items, one for one
  abbrev pub AreSpelled : List (List ℕ) → Header → List Item → Type 0
  AreSpelled [] header items = items ≡ []
  AreSpelled (first ∷ lines) header items =
      IsHeader first header × AllZip (IsLineOf header) lines items

  -- the lines, so far, are those of a file of that header and the items; before the first line any
  -- header may come
  pub record AreLinesOf (lines : List (List ℕ)) (header : Header) (items : List Item) : Type 0 where
    pub spelled : AreSpelled lines header items
    pub fits : format.Admits header items

  -- the line's fault, after those lines of that header and those items
  abbrev pub HasFault : List (List ℕ) → Header → List Item → List ℕ → LineFault → Type 0
  HasFault [] header items line fault = LineShows format.heading line (Err fault)
  HasFault (first ∷ lines) header items line fault =
      LineShows (format.meaning header) line (Err fault)
      ⊎ ((item : Item) × IsLineOf header line item × format.HasFault header items item fault)

  -- the lines are those of a file, so far
  pub record AreSound (lines : List (List ℕ)) : Type 0 where
    pub header : Header
    pub items : List Item
    pub read : AreLinesOf lines header items

  -- the line has that fault after those lines, which are those of a file so far
  pub record HasFaultAfter (lines : List (List ℕ)) (line : List ℕ) (fault : LineFault) : Type 0
    where
      pub header : Header
      pub items : List Item
      pub sound : AreLinesOf lines header items
      pub faulty : HasFault lines header items line fault

  -- a file without a line has no header
  abbrev pub LacksHeader : List (List ℕ) → LineFault → Type 0
  LacksHeader lines fault = (lines ≡ []) × (fault ≡ NoHeader)

  -- the faults of a file's lines, one after another
  abbrev pub file_rules : LineRules LineFault
  file_rules = record { AreSound = AreSound; HasFault = HasFaultAfter; LacksAtEnd = LacksHeader }

  -- the faults of files of the format
  abbrev pub file_faults : LineFaults LineFault
  file_faults = faults_by file_rules
