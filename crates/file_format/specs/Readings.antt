-- What is read of whole files.
use Rattle.std.specs.Prelude.{ℕ, ◌<◌, List, length}
use Rattle.counted_devices.specs.Cuts.{Splits, last_lines}
use Rattle.file_format.specs.Formats.{Format}
use Rattle.file_format.specs.Files.{AreLinesOf}

module _ {Header Item Contents : Type 0} (format : Format Header Item)
    (Makes : Header → List Item → Contents → Type 0) where
  -- the bytes of a whole file are a header and the lines of items, of which that is made
  pub record Reads (bytes : List ℕ) (contents : Contents) : Type 0 where
    pub lines : List (List ℕ)
    pub rest : List ℕ
    pub splits : Splits bytes lines rest
    pub some : 0 < length (last_lines lines rest)
    pub header : Header
    pub items : List Item
    pub read : AreLinesOf format (last_lines lines rest) header items
    pub made : Makes header items contents
