-- Lines behind a header, one after another.
use Rattle.std.proofs.Common.{ℕ, ◌≡◌, ◌<◌, ◌+◌, List, [], ◌∷◌, ◌++◌, Option, Some, Result, Ok, Err, length, sym, ap, ◌∙◌, subst, inr, arith, length-append}
use Rattle.std.specs.Prelude.{option_map, IfOk, OnErr, Vec}
use Rattle.std.specs.declared.alloc.Global.{Global}
use Rattle.tag.specs.declared.memory.Memory.{Memory}
use Rattle.counted_devices.specs.declared.judgement.Judgement.{Judgement}
use Rattle.counted_devices.specs.Judgements.{ShowChunks}
use Rattle.std.proofs.lemmas.Slice.Zip.{AllZip-long}
use Rattle.counted_devices.specs.declared.read_fault.Stop.{Stop}
use Rattle.counted_devices.specs.declared.read_fault.Stop.TheVariants as stop
use Rattle.counted_devices.proofs.Zips.{AllZip-push_both}
use Rattle.file_format.specs.declared.fault.LineFault.{LineFault}
use Rattle.file_format.specs.Faults.{LineStop}
use Rattle.file_format.specs.Files.{IsLineOf, AreSpelled, HasFault, file_rules}
use Rattle.file_format.specs.Formats.{Format, Follows}
use Rattle.file_format.specs.Readings.{Reads}
use Rattle.file_format.specs.Places.{FollowsAfter}
use Rattle.recorder.specs.Histories.{Recorded}
use Rattle.recorder.specs.declared.row.Row.{Row}
use Rattle.line_files.specs.Steps.{ReadsUnder, StaysAtFault}
use Rattle.history_file.specs.Beginnings.{TellsHeader, AreMade, HaveMade}
use Rattle.history_file.specs.BodyLaws.{told_header}

-- bytes that are read as some contents are read as what the same items make besides
pub Reads-as : {Header Item A B : Type 0} (format : Format Header Item) (MakesA : Header → List Item → A → Type 0) (MakesB : Header → List Item → B → Type 0) (bytes : List ℕ) (a : A) (b : B)
    → ((header : Header) (items : List Item) → MakesA header items a → MakesB header items b) → Reads format MakesA bytes a → Reads format MakesB bytes b
Reads-as format MakesA MakesB bytes a b makes r = record {
  lines = r.lines;
  rest = r.rest;
  splits = r.splits;
  some = r.some;
  header = r.header;
  items = r.items;
  read = r.read;
  made = makes r.header r.items r.made;
}

-- what lines show under a meaning they show under one that is the same
pub shown_alike : {M X : Type 0} (Shows : M → List ℕ → Result X LineFault → Type 0) (m n : M) → m ≡ n → (chunks : List (List ℕ)) (run : Result (Vec (Judgement X LineFault) Global) Memory) → IfOk run (λ (js : Vec (Judgement X LineFault) Global). ShowChunks (Shows m) chunks js.items)
    → IfOk run (λ (js : Vec (Judgement X LineFault) Global). ShowChunks (Shows n) chunks js.items)
shown_alike {M} {X} Shows m n same chunks run h =
    subst (λ (meaning : M). IfOk run (λ (js : Vec (Judgement X LineFault) Global). ShowChunks (Shows meaning) chunks js.items)) same h

module _ {Header Item Body : Type 0} (format : Format Header Item) (Makes : Header → List Item → Body → Type 0) where
  -- the header's line, and one for each item
  length-lines : (lines : List (List ℕ)) (header : Header) (items : List Item) → 0 < length lines → AreSpelled format lines header items → length lines ≡ length items + 1
  length-lines [] header items some h = absurd (omega (arith, some))
  length-lines (first ∷ lines) header items some h = omega (arith, AllZip-long (IsLineOf format header) lines items h.1)

  -- the number of the line under way
  next_line : (lines : List (List ℕ)) (body : Body) (number : ℕ) (h : AreMade format Makes lines body) → number ≡ length lines + 1 → number ≡ length h.items + 2
  next_line lines body number h counted = omega (arith, counted, length-lines lines h.header h.items h.some h.read.spelled)

  pub AreSpelled-push : (before : List (List ℕ)) (header : Header) (items : List Item) (line : List ℕ) (item : Item) → 0 < length before → AreSpelled format before header items → IsLineOf format header line item → AreSpelled format (before ++ line ∷ []) header (items ++ item ∷ [])
  AreSpelled-push [] header items line item some h l = absurd (omega (arith, some))
  AreSpelled-push (first ∷ lines) header items line item some h l = (h.0, AllZip-push_both (IsLineOf format header) lines items line item h.1 l)

  pub item_fault : (before : List (List ℕ)) (header : Header) (items : List Item) (line : List ℕ) (item : Item) (fault : LineFault) → 0 < length before → IsLineOf format header line item → format.HasFault header items item fault → HasFault format before header items line fault
  item_fault [] header items line item fault some l h = absurd (omega (arith, some))
  item_fault (first ∷ lines) header items line item fault some l h = inr (item, l, h)

  module _ (told : Body → Header) (tells : TellsHeader Makes told) (before : List (List ℕ)) (line : List ℕ) (under : Header) (old new : Body) (item : Item) where
    own_line : (h : AreMade format Makes before old) → option_map told (Some old) ≡ Some under → IsLineOf format under line item → IsLineOf format h.header line item
    own_line h e l = subst (λ (header : Header). IsLineOf format header line item) (sym (told_header format Makes told tells before old under h e)) l

    one_more : (h : AreMade format Makes before old) → IsLineOf format h.header line item → format.Admits h.header (h.items ++ item ∷ []) → Makes h.header (h.items ++ item ∷ []) new → AreMade format Makes (before ++ line ∷ []) new
    one_more h l fits made = record {
      some = omega (arith, length-append before (line ∷ []));
      header = h.header;
      items = h.items ++ item ∷ [];
      read = record { spelled = AreSpelled-push before h.header h.items line item h.some h.read.spelled l; fits = fits };
      made = made;
    }

    -- the item is added to the body, or has its fault
    stepped : {File : Type 0} (body : File → Option Body) (file : File) → body file ≡ Some new → (h : AreMade format Makes before old) → option_map told (Some old) ≡ Some under → IsLineOf format under line item → (result : Result (Unit {0}) LineStop) → Follows format Makes h.header h.items item result new
        → ReadsUnder (file_rules format) (λ lines file. HaveMade format Makes lines (body file)) (λ file. option_map told (body file)) under before line result file
    stepped body file is h e l (Ok done) f =
        let same : Some (told new) ≡ Some under = ap Some (tells h.header (h.items ++ item ∷ []) new f.1 ∙ told_header format Makes told tells before old under h e) in (
          subst (HaveMade format Makes (before ++ line ∷ [])) (sym is) (one_more h (own_line h e l) f.0 f.1),
          ap (option_map told) is ∙ same,
        )
    stepped body file is h e l (Err (stop.Fault fault)) f = record {
      header = h.header;
      items = h.items;
      sound = h.read;
      faulty = item_fault before h.header h.items line item fault h.some (own_line h e l) f;
    }
    stepped body file is h e l (Err stop.Memory) f = tt

    pub followed : {File : Type 0} (body : File → Option Body) (file : File) → body file ≡ Some new → (made : Option Body) → made ≡ Some old → HaveMade format Makes before made → option_map told made ≡ Some under → IsLineOf format under line item
        → (number : ℕ) → number ≡ length before + 1 → (result : Result (Unit {0}) LineStop)
        → ((header : Header) (items : List Item) → Makes header items old → format.Admits header items → number ≡ length items + 2 → Follows format Makes header items item result new)
        → ReadsUnder (file_rules format) (λ lines file. HaveMade format Makes lines (body file)) (λ file. option_map told (body file)) under before line result file
    followed body file is made was h e l number counted result follows =
        let own : AreMade format Makes before old = subst (HaveMade format Makes before) was h in
        let told_so : option_map told (Some old) ≡ Some under = subst (λ (o : Option Body). option_map told o ≡ Some under) was e in
        stepped body file is own told_so l result (follows own.header own.items own.made own.read.fits (next_line before old number own counted))

-- what a refusal left as it was is made of the same items
pub kept_unchanged : {L Contents : Type 0} (IsMade : Contents → Type 0) (result : Result (Unit {0}) (Stop L)) (old new : Contents)
    → OnErr result (new ≡ old) → IsMade old → StaysAtFault IsMade result new
kept_unchanged IsMade (Ok done) old new same made = tt
kept_unchanged IsMade (Err (stop.Fault fault)) old new same made = subst IsMade (sym same) made
kept_unchanged IsMade (Err stop.Memory) old new same made = tt

-- a row that a history refuses leaves it as it was
pub refusal_keeps : (calls : ℕ) (old : Recorded) (row : Row) (result : Result (Unit {0}) LineStop) (new : Recorded)
    → FollowsAfter calls old row result new → OnErr result (new ≡ old)
refusal_keeps calls old row (Ok done) new h = tt
refusal_keeps calls old row (Err (stop.Fault fault)) new h = h.1
refusal_keeps calls old row (Err stop.Memory) new h = h.1

module _ {Header Item Body : Type 0} (format : Format Header Item) (Makes : Header → List Item → Body
    → Type 0) (before : List (List ℕ)) (old new : Body) where
  kept_so : {File : Type 0} (body : File → Option Body) (file : File) → body file ≡ Some new → (h : AreMade format Makes before old)
      → (result : Result (Unit {0}) LineStop) → StaysAtFault (Makes h.header h.items) result new
      → StaysAtFault (λ (f : File). HaveMade format Makes before (body f)) result file
  kept_so body file is h (Ok done) kept = tt
  kept_so body file is h (Err (stop.Fault fault)) kept = subst (HaveMade format Makes before) (sym is) (record { some = h.some; header = h.header; items = h.items; read = h.read; made = kept })
  kept_so body file is h (Err stop.Memory) kept = tt

  -- an item with a fault leaves what the lines before it made
  pub kept_behind : {File : Type 0} (body : File → Option Body) (file : File) → body file ≡ Some new → (made : Option Body)
      → made ≡ Some old → HaveMade format Makes before made → (result : Result (Unit {0}) LineStop)
      → ((header : Header) (items : List Item) → Makes header items old → format.Admits header items
      → StaysAtFault (Makes header items) result new) → StaysAtFault (λ (f : File). HaveMade format Makes before (body f)) result file
  kept_behind body file is made was h result kept =
      let own : AreMade format Makes before old = subst (HaveMade format Makes before) was h in
      kept_so body file is own result (kept own.header own.items own.made own.read.fits)
