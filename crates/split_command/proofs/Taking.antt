-- What a row makes of pieces that are written.
use Rattle.std.proofs.Common.{ℕ, ◌≡◌, ◌<◌, ◌+◌, inl, inr, List, [], ◌∷◌, ◌++◌, Option, Some, None, Result, Ok, Err, OnOk, cond, nat_eq}
use Rattle.std.proofs.Common.{length, length-append, append_assoc, sym, ◌∙◌, ap, subst, refl, arith}
use Rattle.std.specs.List.{flat_map, slice_get}
use Rattle.std.proofs.lemmas.Bool.{cases_eq, eq-eqb, ne_eqb}
use Rattle.std.proofs.lemmas.List.{append-nil, length-map}
use Rattle.std.proofs.lemmas.Option.{slice_get_within}
use Rattle.counted_devices.specs.declared.read_fault.Stop.TheVariants as stop
use Rattle.counted_devices.specs.declared.write_fault.WriteFault.{WriteFault}
use Rattle.tag.proofs.Lists.{push_cases, slice_get-push_left}
use Rattle.recorder.specs.declared.row.Row.{Row}
use Rattle.recorder.specs.Histories.{IsWellFormed, MayFollow}
use Rattle.file_format.specs.Faults.{LineStop}
use Rattle.file_format.specs.LongHistories.{IsTakenAfter}
use Rattle.file_format.specs.NumberedRows.{NumberedRow, rows_alone}
use Rattle.file_format.specs.Ranges.{IsNumberedInRange}
use Rattle.file_format.specs.Texts.{numbered_history_text, numbered_text}
use Rattle.open_calls.specs.declared.refusal.CallRefusal.{CallRefusal}
use Rattle.open_calls.specs.declared.refusal.CallRefusal.TheVariants as refusal
use Rattle.line_answers.specs.Stops.{line_answer, stop_of}
use Rattle.line_answers.proofs.Refusals.{stopped}
use Rattle.split_rows.specs.declared.moved.Moved.{Moved}
use Rattle.split_rows.specs.declared.taken.Taken.{Taken}
use Rattle.split_rows.specs.Pieces.{with_op, with_row}
use Rattle.split_rows.specs.Splits.{SplitsRow}
use Rattle.split_rows.specs.Taken.{KeepsRows}
use Rattle.split_command.specs.declared.piece_files.PieceFiles.{PieceFiles}
use Rattle.split_command.specs.declared.pieces.Pieces.{Pieces}
use Rattle.split_command.specs.Files.{AddsRow, HoldTexts, file_count}
use Rattle.split_command.specs.PieceTexts.{AreOnLines, IsLonger, header_text}
use Rattle.split_command.specs.Rows.{EndsRow}
use Rattle.split_command.specs.Written.{AreWritten, HasWritten}
use Rattle.split_command.proofs.Places.{OnePieceOfKey, last_place, same_place}

-- ---- lists

alone_more : (numbered : List NumberedRow) (n : NumberedRow) → rows_alone (numbered ++ n ∷ []) ≡ rows_alone numbered ++ n.row ∷ []
alone_more [] n = refl
alone_more (x ∷ numbered) n = ap (λ (l : List Row). x.row ∷ l) (alone_more numbered n)

texts_more : (numbered : List NumberedRow) (n : NumberedRow)
    → flat_map numbered_text (numbered ++ n ∷ []) ≡ flat_map numbered_text numbered ++ numbered_text n
texts_more [] n = append-nil (numbered_text n)
texts_more (x ∷ numbered) n = ap (λ (l : List ℕ). numbered_text x ++ l) (texts_more numbered n)
    ∙ sym (append_assoc (numbered_text x) (flat_map numbered_text numbered) (numbered_text n))

history_more : (numbered : List NumberedRow) (n : NumberedRow)
    → numbered_history_text (numbered ++ n ∷ []) ≡ numbered_history_text numbered ++ numbered_text n
history_more numbered n = ap (λ (l : List ℕ). header_text ++ l) (texts_more numbered n)
    ∙ sym (append_assoc header_text (flat_map numbered_text numbered) (numbered_text n))

-- one row more at the end of a piece
module _ {X : Type 0} (all : ℕ → List X) (p : ℕ) (x : X) where
  abbrev pub with_more : ℕ → List X
  with_more q = cond (nat_eq q p) (all q ++ x ∷ []) (all q)

  more_here : (q : ℕ) → q ≡ p → with_more q ≡ all q ++ x ∷ []
  more_here q same = ap (λ b. cond b (all q ++ x ∷ []) (all q)) (eq-eqb q p same)

  more_other : (q : ℕ) → (q ≡ p → ⊥) → with_more q ≡ all q
  more_other q apart = ap (λ b. cond b (all q ++ x ∷ []) (all q)) (ne_eqb q p apart)

  grows : (q k : ℕ) (r : X) → slice_get (all q) k ≡ Some r → slice_get (with_more q) k ≡ Some r
  grows q k r at = elim (cases_eq q p) [
    | inl here ↦ ap (λ (l : List X). slice_get l k) (more_here q here) ∙ slice_get-push_left (all q) x k r at
    | inr apart ↦ ap (λ (l : List X). slice_get l k) (more_other q apart) ∙ at
  ]

-- ---- lines

module _ (places later : ℕ → ℕ) (piece : List Row) (numbered : List NumberedRow) (are : AreOnLines places piece numbered)
    (same : (k : ℕ) → k < length piece → later k ≡ places k) where
  as_many : length numbered ≡ length piece
  as_many = sym (length-map numbered (λ (each : NumberedRow). each.row)) ∙ ap length are.alone

  line_before : (k : ℕ) (row : NumberedRow) → slice_get numbered k ≡ Some row → row.line ≡ later k + 2
  line_before k row at =
      let within = slice_get_within numbered k row at in
      are.lines k row at ∙ ap (λ (n : ℕ). n + 2) (sym (same k (omega (arith, within, as_many))))

  on_lines_still : AreOnLines later piece numbered
  on_lines_still = record { alone = are.alone; lines = line_before; ranges = are.ranges }

  on_lines_more : (n : NumberedRow) → IsNumberedInRange n → n.line ≡ later (length piece) + 2
      → AreOnLines later (piece ++ n.row ∷ []) (numbered ++ n ∷ [])
  on_lines_more n range line = record {
    alone = alone_more numbered n ∙ ap (λ (l : List Row). l ++ n.row ∷ []) are.alone;
    lines = λ k row at. elim (push_cases numbered n k row at) [
      | inl w ↦ line_before k row w
      | inr w ↦ ap (λ (r : NumberedRow). r.line) (sym w.1) ∙ line ∙ ap (λ (m : ℕ). later m + 2) (sym as_many ∙ sym w.0)
    ];
    ranges = λ k row at. elim (push_cases numbered n k row at) [
      | inl w ↦ are.ranges k row w
      | inr w ↦ subst IsNumberedInRange w.1 range
    ];
  }

module _ {W : Type 0} (contents : W → Option (List ℕ)) (rows : List Row) (old : Pieces W) (h : HasWritten contents rows old) where
  -- ---- a row that is refused

  module _ (next : Option Taken) where
    stays : next ≡ old.splitter → HasWritten contents rows (record old { splitter = next })
    stays same = record {
      taken = h.taken;
      kept = same ∙ h.kept;
      parts = h.parts;
      count = h.count;
      pieces = h.pieces;
      keeps = h.keeps;
      written = λ ok few.
          let w = h.written ok few in
          record { line = w.line; numbered = w.numbered; on_lines = w.on_lines; texts = w.texts };
    }

    refused : (row : Row) (why : CallRefusal) → SplitsRow h.parts rows h.pieces old.splitter row (Err why) next
        → IsTakenAfter (HasWritten contents) rows row (Err (stop_of why)) (record old { splitter = next })
    refused row refusal.OutOfTurn t = (stopped rows row refusal.OutOfTurn t.0, stays t.1)
    refused row refusal.ClientBusy t = (stopped rows row refusal.ClientBusy t.0, stays t.1)
    refused row refusal.NotPending t = (stopped rows row refusal.NotPending t.0, stays t.1)
    refused row refusal.WrongKind t = (stopped rows row refusal.WrongKind t.0, stays t.1)
    refused row refusal.NoteTwice t = (stopped rows row refusal.NoteTwice t.0, stays t.1)
    refused row refusal.Memory t = stopped rows row refusal.Memory t.0

    pub answered : (row : Row) (answer : Result Moved CallRefusal) (why : LineStop) → line_answer answer ≡ Err why
        → SplitsRow h.parts rows h.pieces old.splitter row answer next
        → IsTakenAfter (HasWritten contents) rows row (Err why) (record old { splitter = next })
    answered row (Ok moved) why e t = absurd (cc e)
    answered row (Err refusal) why e t =
        let same : stop_of refusal ≡ why = cc e in
        subst (λ (s : LineStop). IsTakenAfter (HasWritten contents) rows row (Err s) (record old { splitter = next })) same
        (refused row refusal t)

    pub went : (row : Row) (answer : Result Moved CallRefusal) (moved : Moved) → line_answer answer ≡ Ok moved
        → SplitsRow h.parts rows h.pieces old.splitter row answer next → SplitsRow h.parts rows h.pieces old.splitter row (Ok moved) next
    went row (Ok m) moved e t =
        let same : m ≡ moved = cc e in
        subst (λ (x : Moved). SplitsRow h.parts rows h.pieces old.splitter row (Ok x) next) same t
    went row (Err refusal) moved e t = absurd (cc e)

  -- ---- a row that is taken

  module _ (law : OnePieceOfKey) (formed : IsWellFormed rows) (row : Row) (may : MayFollow rows row) (moved : Moved) (taken : Taken)
      (keeps : KeepsRows h.parts (rows ++ row ∷ []) (with_row h.pieces moved.piece (with_op row moved.op)) taken) where
    abbrev added_row : NumberedRow
    added_row = record { line = old.line; row = with_op row moved.op }

    abbrev after : ℕ → List Row
    after = with_row h.pieces moved.piece (with_op row moved.op)

    module _ (q : ℕ) where
      same_at : (k : ℕ) → k < length (h.pieces q) → (keeps.are.each q).place k ≡ (h.keeps.are.each q).place k
      same_at k within = same_place law h.parts h.keeps.some rows row formed may h.taken.keys taken.keys h.keeps.number keeps.number h.pieces
          after h.keeps.are keeps.are (grows h.pieces moved.piece (with_op row moved.op)) q k within

      last_at : length (h.pieces q) < length (after q) → (keeps.are.each q).place (length (h.pieces q)) ≡ length rows
      last_at within = last_place law h.parts h.keeps.some rows row formed may h.taken.keys taken.keys h.keeps.number keeps.number h.pieces
          after h.keeps.are keeps.are (grows h.pieces moved.piece (with_op row moved.op)) q within

    module _ (w : AreWritten contents rows (λ p. (h.keeps.are.each p).place) h.pieces old) (range : IsNumberedInRange added_row) where
      abbrev numbered : ℕ → List NumberedRow
      numbered = with_more w.numbered moved.piece added_row

      lines_here : (q : ℕ) → q ≡ moved.piece → AreOnLines (keeps.are.each q).place (after q) (numbered q)
      lines_here q here =
          let piece_is = more_here h.pieces moved.piece (with_op row moved.op) q here in
          let longer : length (after q) ≡ length (h.pieces q) + 1 = ap length piece_is ∙ length-append (h.pieces q) (with_op row moved.op ∷ []) in
          let last = last_at q (omega (arith, longer)) in
          subst (λ (l : List Row). AreOnLines (keeps.are.each q).place l (numbered q)) (sym piece_is)
          (subst (AreOnLines (keeps.are.each q).place (h.pieces q ++ with_op row moved.op ∷ []))
          (sym (more_here w.numbered moved.piece added_row q here))
          (on_lines_more (h.keeps.are.each q).place (keeps.are.each q).place (h.pieces q) (w.numbered q) (w.on_lines q) (same_at q) added_row range
          (w.line ∙ ap (λ (n : ℕ). n + 2) (sym last))))

      lines_other : (q : ℕ) → (q ≡ moved.piece → ⊥) → AreOnLines (keeps.are.each q).place (after q) (numbered q)
      lines_other q apart =
          subst (λ (l : List Row). AreOnLines (keeps.are.each q).place l (numbered q))
          (sym (more_other h.pieces moved.piece (with_op row moved.op) q apart))
          (subst (AreOnLines (keeps.are.each q).place (h.pieces q)) (sym (more_other w.numbered moved.piece added_row q apart))
          (on_lines_still (h.keeps.are.each q).place (keeps.are.each q).place (h.pieces q) (w.numbered q) (w.on_lines q) (same_at q)))

      lines_after : (q : ℕ) → AreOnLines (keeps.are.each q).place (after q) (numbered q)
      lines_after q = elim (cases_eq q moved.piece) [ inl here ↦ lines_here q here | inr apart ↦ lines_other q apart ]

      longer_text : IsLonger (λ p. numbered_history_text (w.numbered p)) (λ p. numbered_history_text (numbered p)) moved.piece
          (numbered_text added_row)
      longer_text = record {
        here = ap numbered_history_text (more_here w.numbered moved.piece added_row moved.piece refl)
            ∙ history_more (w.numbered moved.piece) added_row;
        others = λ p apart. ap numbered_history_text (more_other w.numbered moved.piece added_row p apart);
      }

    taken_with : (files : PieceFiles W) (new : Pieces W) (added : Result (Unit {0}) WriteFault) (answer : Result (Unit {0}) LineStop)
        → answer ≡ Ok tt → file_count files ≡ file_count old.files → OnOk added (AddsRow contents old.files files moved.piece added_row)
        → EndsRow (record old { splitter = Some taken; files = files }) added answer new → HasWritten contents (rows ++ row ∷ []) new
    taken_with files new added answer done count adds ends = record {
      taken = taken;
      kept = ends.splitter;
      parts = h.parts;
      count = ap file_count ends.files ∙ count ∙ h.count;
      pieces = after;
      keeps = keeps;
      written = λ ok few.
          let one = length-append rows (row ∷ []) in
          let f = ends.failed done ok in
          let w = h.written f.0 (omega (arith, few, one)) in
          let a : AddsRow contents old.files files moved.piece added_row
          = subst (λ (r : Result (Unit {0}) WriteFault). OnOk r (AddsRow contents old.files files moved.piece added_row)) f.1 adds in
          record {
            line = omega (arith, ends.line, w.line, few, one);
            numbered = numbered w a.range;
            on_lines = lines_after w a.range;
            texts = subst (HoldTexts contents (λ p. numbered_history_text (numbered w a.range p))) (sym ends.files)
                (a.text (λ p. numbered_history_text (w.numbered p)) (λ p. numbered_history_text (numbered w a.range p)) (longer_text w a.range)
                w.texts);
          };
    }

  -- the row went to its piece, and its line was added so
  module _ (law : OnePieceOfKey) (formed : IsWellFormed rows) (row : Row) (moved : Moved) (files : PieceFiles W) (new : Pieces W)
      (added : Result (Unit {0}) WriteFault) (count : file_count files ≡ file_count old.files)
      (adds : OnOk added (AddsRow contents old.files files moved.piece (record { line = old.line; row = with_op row moved.op }))) where
    has_written : (next : Option Taken) (answer : Result (Unit {0}) LineStop) → answer ≡ Ok tt → SplitsRow h.parts rows h.pieces old.splitter row (Ok moved) next
        → EndsRow (record old { splitter = next; files = files }) added answer new → HasWritten contents (rows ++ row ∷ []) new
    has_written None answer done t ends = absurd t.2
    has_written (Some taken) answer done t ends = taken_with law formed row t.0 moved taken t.2 files new added answer done count adds ends

    pub taken_by : (next : Option Taken) (answer : Result (Unit {0}) LineStop) → SplitsRow h.parts rows h.pieces old.splitter row (Ok moved) next
        → EndsRow (record old { splitter = next; files = files }) added answer new → IsTakenAfter (HasWritten contents) rows row answer new
    taken_by next (Ok done) t ends = (t.0, has_written next (Ok done) refl t ends)
    taken_by next (Err (stop.Fault fault)) t ends = absurd (cc ends.memory)
    taken_by next (Err stop.Memory) t ends = t.0
