-- A file whose lines are those of its items is read as them.
use Rattle.std.proofs.Common.{◌≡◌, ◌<◌, ◌≤◌, ℕ, zero, suc, List, [], ◌∷◌, ◌++◌, length, get_or}
use Rattle.std.proofs.Common.{Some, Result, Ok, codes, IsUtf8, map, refl, sym, ap, ◌∙◌, subst, arith}
use Rattle.std.proofs.Common.{append-nil, map-id, length-append}
use Rattle.std.specs.Prelude.{All}
use Rattle.std.specs.List.{slice_get, flat_map, AllZip}
use Rattle.json.specs.Print.{quoted}
use Rattle.json.proofs.Printed.Utf8.{IsUtf8-are_ascii}
use Rattle.serde_json.specs.Data.{Data}
use Rattle.serde_json.specs.Read.{read}
use Rattle.serde_json.specs.Written.{compact_text}
use Rattle.serde_json.proofs.Numbers.{number_of-decimal}
use Rattle.counted_devices.specs.Cuts.{with_end, HasNoEnd}
use Rattle.file_format.specs.declared.fault.LineFault.{LineFault}
use Rattle.file_format.specs.Formats.{Format}
use Rattle.file_format.specs.Files.{IsLineOf}
use Rattle.file_format.specs.Headers.{header_in}
use Rattle.file_format.specs.Lines.{LineShows}
use Rattle.file_format.specs.Readings.{Reads}
use Rattle.file_format.specs.Texts.{header_data, line_text}
use Rattle.file_format.proofs.Compact.{IsSimple, read-compact_text, IsUtf8-compact_text, HasNoEnd-compact_text, length-quoted}
use Rattle.file_format.proofs.SayingPieces.{header_there}
use Rattle.file_format.proofs.Spelling.{header_bytes}
use Rattle.file_format.proofs.WrittenLines.{line_length}

-- the name in the header of a file of that format
pub record IsName (name : List ℕ) : Type 0 where
  pub text : IsUtf8 name
  pub short : length name ≤ 100

-- the value's line says that
pub record IsGoodLine {X : Type 0} (meaning : Data → Result X LineFault) (d : Data) (thing : X) : Type 0 where
  pub simple : IsSimple d
  pub short : length (compact_text d) ≤ 65536
  pub back : read (compact_text d) ≡ Some d
  pub meant : meaning d ≡ Ok thing

pub line_of_item : {X : Type 0} (meaning : Data → Result X LineFault) (d : Data) (thing : X) → IsGoodLine meaning d thing
    → LineShows meaning (compact_text d) (Ok thing)
line_of_item meaning d thing h = record { short = h.short; value = d; json = (IsUtf8-compact_text d h.simple, h.back); meant = h.meant }

header_simple : (name : List ℕ) → IsUtf8 name → IsSimple (header_data name)
unfolding header_data
header_simple name text = (IsUtf8-are_ascii (codes "abd") refl, text, (IsUtf8-are_ascii (codes "version") refl, omega arith, tt))

header_read : (name : List ℕ) → IsUtf8 name → read (compact_text (header_data name)) ≡ Some (header_data name)
unfolding header_data
header_read name text = read-compact_text (header_data name) (header_simple name text) (omega arith)
    (rw (number_of-decimal 1 (omega arith)) refl)

header_short : (name : List ℕ) → length name ≤ 100 → length (compact_text (header_data name)) ≤ 65536
header_short name short =
    line_length (header_data name)
    (rw (header_bytes name) (omega (
      arith,
      length-append (codes "{\"abd\":") (quoted name ++ codes ",\"version\":1}\n"),
      length-append (quoted name) (codes ",\"version\":1}\n"),
      length-quoted name,
    )))

-- the header of a file of that name, and of version 1
pub header_good : (name : List ℕ) → IsName name → IsGoodLine (header_in name) (header_data name) tt
unfolding header_data
header_good name h = record {
  simple = header_simple name h.text;
  short = header_short name h.short;
  back = header_read name h.text;
  meant = header_there name (header_data name) (record { abd = refl; version = refl });
}

all_more : (line : List ℕ) (lines : List (List ℕ)) → HasNoEnd line → All HasNoEnd lines → All HasNoEnd (line ∷ lines)
all_more line lines h more = λ k d lt. at k d lt
  where
    at : (k : ℕ) (d : List ℕ) → k < length (line ∷ lines) → HasNoEnd (get_or (line ∷ lines) k d)
    at zero d lt = h
    at (suc k) d lt = more k d (omega arith)

module _ {Header Item Thing : Type 0} (format : Format Header Item) (header : Header) (value : Thing → Data) (item : Thing → Item) where
  line_at : Thing → List ℕ
  line_at thing = compact_text (value thing)

  lines_text : (things : List Thing) → flat_map (λ thing. line_text (value thing)) things ≡ flat_map with_end (map line_at things)
  unfolding line_text line_at
  lines_text [] = refl
  lines_text (thing ∷ things) = ap (λ (s : List ℕ). with_end (line_at thing) ++ s) (lines_text things)

  AreGood : List Thing → Type 0
  AreGood things = (k : ℕ) (thing : Thing) → slice_get things k ≡ Some thing
      → IsGoodLine (format.meaning header) (value thing) (item thing)

  spelled : (things : List Thing) → AreGood things → AllZip (IsLineOf format header) (map line_at things) (map item things)
  unfolding AreGood line_at
  spelled [] h = tt
  spelled (thing ∷ things) h = (
    line_of_item (format.meaning header) (value thing) (item thing) (h 0 thing refl),
    spelled things (λ k other e. h (suc k) other e),
  )

  whole_lines : (things : List Thing) → AreGood things → All HasNoEnd (map line_at things)
  unfolding AreGood line_at
  whole_lines [] h = λ k d lt. absurd (omega arith)
  whole_lines (thing ∷ things) h =
      all_more (line_at thing) (map line_at things) (HasNoEnd-compact_text (value thing) (h 0 thing refl).simple)
      (whole_lines things (λ k other e. h (suc k) other e))

  -- a line for each thing, which is one of its item
  pub things_read : {Contents : Type 0} (Makes : Header → List Item → Contents → Type 0) (first : Data) (things : List Thing)
      (contents : Contents) → IsGoodLine format.heading first header
      → ((k : ℕ) (thing : Thing) → slice_get things k ≡ Some thing → IsGoodLine (format.meaning header) (value thing) (item thing))
      → format.Admits header (map item things) → Makes header (map item things) contents
      → Reads format Makes (line_text first ++ flat_map (λ thing. line_text (value thing)) things) contents
  unfolding line_text AreGood
  things_read Makes first things contents head good fits made =
      let line = compact_text first in
      record {
        lines = line ∷ map line_at things;
        rest = [];
        splits = record {
          whole = ap (λ (s : List ℕ). with_end line ++ s) (lines_text things)
              ∙ sym (append-nil (flat_map with_end (line ∷ map line_at things)));
          each = all_more line (map line_at things) (HasNoEnd-compact_text first head.simple) (whole_lines things good);
          partial = λ k d lt. absurd (omega arith);
        };
        some = omega arith;
        header = header;
        items = map item things;
        read = record { spelled = (line_of_item format.heading first header head, spelled things good); fits = fits };
        made = made;
      }

-- a line for each item
pub written_reads : {Header Item Contents : Type 0} (format : Format Header Item) (header : Header) (value : Item → Data)
    (Makes : Header → List Item → Contents → Type 0) (first : Data) (items : List Item) (contents : Contents)
    → IsGoodLine format.heading first header
    → ((k : ℕ) (thing : Item) → slice_get items k ≡ Some thing → IsGoodLine (format.meaning header) (value thing) thing)
    → format.Admits header items → Makes header items contents
    → Reads format Makes (line_text first ++ flat_map (λ thing. line_text (value thing)) items) contents
written_reads {Item = Item} format header value Makes first items contents head good fits made =
    let same : items ≡ map (λ (thing : Item). thing) items = sym (map-id items) in
    things_read format header value (λ (thing : Item). thing) Makes first items contents head good
    (subst (λ (all : List Item). format.Admits header all) same fits)
    (subst (λ (all : List Item). Makes header all contents) same made)
