-- What lines have made, and the faults of the next one. The impl of `Contents` cites it, so it
-- stands here.
use Rattle.std.specs.Prelude.{ℕ, ◌≡◌, ◌<◌, List, [], ◌∷◌, Option, Some, None, Err, length}
use Rattle.std.specs.Prelude.{option_map}
use Rattle.std.proofs.Common.{refl, sym, ◌∙◌, subst, arith, inl}
use Rattle.counted_devices.specs.Cuts.{longest_line}
use Rattle.file_format.specs.declared.fault.LineFault.{LineFault}
use Rattle.file_format.specs.declared.fault.LineFault.TheVariants.{TooLong}
use Rattle.file_format.specs.Files.{AreSound, HasFault, HasFaultAfter}
use Rattle.file_format.specs.Formats.{Format}
use Rattle.file_format.specs.Lines.{LineShows}
use Rattle.history_file.specs.Beginnings.{CanBegin, TellsHeader, AreMade, HaveMade}

inside : {X : Type 0} {x y : X} → Some x ≡ Some y → x ≡ y
inside e = cc

module _ {Header Item : Type 0} (format : Format Header Item) where
  nothing_sound : CanBegin format → AreSound format []
  nothing_sound opens = record {
    header = opens.header;
    items = [];
    read = record { spelled = refl; fits = opens.fits };
  }

  -- a later line that shows a fault has it
  pub later_fault : (lines : List (List ℕ)) (header : Header) (items : List Item) (line : List ℕ)
      (fault : LineFault) → 0 < length lines → LineShows (format.meaning header) line (Err fault)
      → HasFault format lines header items line fault
  later_fault [] header items line fault some shown = absurd (omega (arith, some))
  later_fault (first ∷ lines) header items line fault some shown = inl shown

  -- a line that is too long has that fault, the first one or a later
  pub long_fault : (lines : List (List ℕ)) (header : Header) (items : List Item) (line : List ℕ)
      → longest_line < length line → HasFault format lines header items line TooLong
  long_fault [] header items line long = long
  long_fault (first ∷ lines) header items line long = inl long

module _ {Header Item Body : Type 0} (format : Format Header Item)
    (Makes : Header → List Item → Body → Type 0) where
  pub made_sound : CanBegin format → (lines : List (List ℕ)) (made : Option Body)
      → HaveMade format Makes lines made → AreSound format lines
  made_sound opens lines None h = subst (AreSound format) (sym h) (nothing_sound format opens)
  made_sound opens lines (Some body) h =
      record { header = h.header; items = h.items; read = h.read }

  pub made_long : CanBegin format → (lines : List (List ℕ)) (made : Option Body) (line : List ℕ)
      → HaveMade format Makes lines made → longest_line < length line
      → HasFaultAfter format lines line TooLong
  made_long opens lines made line h long =
      let sound = made_sound opens lines made h in
      record {
        header = sound.header;
        items = sound.items;
        sound = sound.read;
        faulty = long_fault format lines sound.header sound.items line long;
      }

  -- the header under which the next line is judged is that of the lines before
  pub told_header : (told : Body → Header) → TellsHeader Makes told → (lines : List (List ℕ))
      (body : Body) (under : Header) (h : AreMade format Makes lines body)
      → option_map told (Some body) ≡ Some under → h.header ≡ under
  told_header told tells lines body under h e = sym (tells h.header h.items body h.made) ∙ inside e

  pub made_faulty : (told : Body → Header) → TellsHeader Makes told → (lines : List (List ℕ))
      (made : Option Body) (under : Header) (line : List ℕ) (fault : LineFault)
      → HaveMade format Makes lines made → option_map told made ≡ Some under
      → LineShows (format.meaning under) line (Err fault) → HasFaultAfter format lines line fault
  made_faulty told tells lines None under line fault h e shown = absurd (cc)
  made_faulty told tells lines (Some body) under line fault h e shown =
      let Shows : Header → Type 0 = λ header. LineShows (format.meaning header) line (Err fault) in
      let same : h.header ≡ under = told_header told tells lines body under h e in
      let own : Shows h.header = subst Shows (sym same) shown in
      record {
        header = h.header;
        items = h.items;
        sound = h.read;
        faulty = later_fault format lines h.header h.items line fault h.some own;
      }
