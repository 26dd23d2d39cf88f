-- A line shows one thing, and a file is read as one: bytes are cut in one way, and each line says one item.
use Rattle.std.proofs.Common.{ℕ, ◌≡◌, ◌≤◌, ◌<◌, ◌⊎◌, inl, inr, List, [], ◌∷◌, length, Some, Result}
use Rattle.std.proofs.Common.{Ok, Err, refl, sym, ap, ◌∙◌, subst, arith}
use Rattle.std.specs.List.{AllZip}
use Rattle.serde_json.specs.Data.{Data}
use Rattle.counted_devices.specs.Cuts.{last_lines}
use Rattle.counted_devices.proofs.CutOnce.{splits_once}
use Rattle.file_format.specs.declared.fault.LineFault.{LineFault}
use Rattle.file_format.specs.declared.fault.LineFault.TheVariants.{NotJson, TooLong}
use Rattle.row_members.specs.Values.{IsJson}
use Rattle.file_format.specs.Formats.{Format}
use Rattle.file_format.specs.Lines.{LineSays, LineShows}
use Rattle.file_format.specs.Files.{IsHeader, IsLineOf, AreSpelled}
use Rattle.file_format.specs.Readings.{Reads}

-- what a line shows is of one of three kinds
record IsLong {X : Type 0} (line : List ℕ) (said : Result X LineFault) : Type 0 where
  pub is : said ≡ Err TooLong
  pub long : 65536 < length line

record IsNone {X : Type 0} (line : List ℕ) (said : Result X LineFault) : Type 0 where
  pub is : said ≡ Err NotJson
  pub short : length line ≤ 65536
  pub none : (d : Data) → IsJson line d → ⊥

kind_of : {X : Type 0} (meaning : Data → Result X LineFault) (line : List ℕ) (said : Result X LineFault) → LineShows meaning line said
    → IsLong line said ⊎ (IsNone line said ⊎ LineSays meaning line said)
kind_of meaning line (Ok x) h = inr (inr h)
kind_of meaning line (Err TooLong) h = inl (record { is = refl; long = h })
kind_of meaning line (Err NotJson) h = inr (inl (record { is = refl; short = h.0; none = h.1 }))
kind_of meaning line (Err _) h = inr (inr h)

same_value : (line : List ℕ) (c d : Data) → IsJson line c → IsJson line d → c ≡ d
same_value line c d h k = let e : Some c ≡ Some d = sym h.1 ∙ k.1 in cc

-- a line shows one thing
pub shows_once : {X : Type 0} (meaning : Data → Result X LineFault) (line : List ℕ) (a b : Result X LineFault) → LineShows meaning line a
    → LineShows meaning line b → a ≡ b
shows_once {X} meaning line a b h k =
    elim (kind_of meaning line a h) [
      | inl u ↦ elim (kind_of meaning line b k) [
        | inl v ↦ u.is ∙ sym v.is
        | inr w ↦ elim w [ inl v ↦ absurd (omega (arith, u.long, v.short)) | inr v ↦ absurd (omega (arith, u.long, v.short)) ]
      ]
      | inr t ↦ elim t [
        | inl u ↦ elim (kind_of meaning line b k) [
          | inl v ↦ absurd (omega (arith, u.short, v.long))
          | inr w ↦ elim w [ inl v ↦ u.is ∙ sym v.is | inr v ↦ absurd (u.none v.value v.json) ]
        ]
        | inr u ↦ elim (kind_of meaning line b k) [
          | inl v ↦ absurd (omega (arith, u.short, v.long))
          | inr w ↦ elim w [
            | inl v ↦ absurd (v.none u.value u.json)
            | inr v ↦ sym u.meant
                ∙ ap meaning (same_value line u.value v.value u.json v.json) ∙ v.meant
          ]
        ]
      ]
    ]

module _ {Header Item : Type 0} (format : Format Header Item) where
  -- a line is one header
  pub header_once : (line : List ℕ) (a b : Header) → IsHeader format line a → IsHeader format line b → a ≡ b
  header_once line a b h k = let e = shows_once format.heading line (Ok a) (Ok b) h k in cc

  items_once : (header : Header) (lines : List (List ℕ)) (is js : List Item) → AllZip (IsLineOf format header) lines is
      → AllZip (IsLineOf format header) lines js → is ≡ js
  items_once header [] [] [] h k = refl
  items_once header [] [] (j ∷ js) h k = absurd k
  items_once header [] (i ∷ is) js h k = absurd h
  items_once header (line ∷ lines) [] js h k = absurd h
  items_once header (line ∷ lines) (i ∷ is) [] h k = absurd k
  items_once header (line ∷ lines) (i ∷ is) (j ∷ js) h k =
      let e = shows_once (format.meaning header) line (Ok i) (Ok j) h.0 k.0 in
      let one : i ≡ j = cc in
      let others = items_once header lines is js h.1 k.1 in
      cc

  pub spelled_once : (lines : List (List ℕ)) (a b : Header) (is js : List Item) → AreSpelled format lines a is
      → AreSpelled format lines b js → is ≡ js
  spelled_once [] a b is js h k = h ∙ sym k
  spelled_once (first ∷ lines) a b is js h k =
      let P : Header → Type 0 = λ header. AllZip (IsLineOf format header) lines is in
      items_once b lines is js (subst P (header_once first a b h.0 k.0) h.1) k.1

  headers_once : (lines : List (List ℕ)) (a b : Header) (is js : List Item) → 0 < length lines → AreSpelled format lines a is
      → AreSpelled format lines b js → a ≡ b
  headers_once [] a b is js some h k = absurd (omega arith)
  headers_once (first ∷ lines) a b is js some h k = header_once first a b h.0 k.0

  -- what two readings of the same bytes have is of the same lines
  same_lines : {Contents : Type 0} (Makes : Header → List Item → Contents → Type 0) (bytes : List ℕ) (a b : Contents)
      (h : Reads format Makes bytes a) (k : Reads format Makes bytes b) → AreSpelled format (last_lines k.lines k.rest) h.header h.items
  same_lines Makes bytes a b h k =
      let w = splits_once bytes h.lines k.lines h.rest k.rest h.splits k.splits in
      let Lines : List (List ℕ) → Type 0 = λ ls. AreSpelled format (last_lines ls k.rest) h.header h.items in
      let Rest : List ℕ → Type 0 = λ r. AreSpelled format (last_lines h.lines r) h.header h.items in
      subst Lines w.0 (subst Rest w.1 h.read.spelled)

  -- a file has one header
  pub reads_one_header : {Contents : Type 0} (Makes : Header → List Item → Contents → Type 0) (bytes : List ℕ) (a b : Contents)
      (h : Reads format Makes bytes a) (k : Reads format Makes bytes b) → h.header ≡ k.header
  reads_one_header Makes bytes a b h k =
      headers_once (last_lines k.lines k.rest) h.header k.header h.items k.items k.some (same_lines Makes bytes a b h k) k.read.spelled

  -- a file has one list of items
  pub reads_once : {Contents : Type 0} (Makes : Header → List Item → Contents → Type 0) (bytes : List ℕ) (a b : Contents)
      (h : Reads format Makes bytes a) (k : Reads format Makes bytes b) → h.items ≡ k.items
  reads_once Makes bytes a b h k =
      spelled_once (last_lines k.lines k.rest) h.header k.header h.items k.items (same_lines Makes bytes a b h k) k.read.spelled
