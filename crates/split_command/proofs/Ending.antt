-- The beginning and the end of a split.
use Rattle.std.proofs.Common.{ℕ, ◌≡◌, ◌<◌, ◌^◌, List, [], Option, None, Some, false, length, sym, ◌∙◌, ap, subst, refl}
use Rattle.std.proofs.lemmas.List.{append-nil}
use Rattle.tag.proofs.Options.{none_some}
use Rattle.recorder.specs.declared.row.Row.{Row}
use Rattle.file_format.specs.Texts.{numbered_history_text}
use Rattle.split_rows.specs.declared.taken.Taken.{Taken}
use Rattle.split_rows.specs.Pieces.{all_empty}
use Rattle.split_rows.specs.Splits.{HasSplit, begun_of, key_count_of}
use Rattle.split_command.specs.declared.pieces.Pieces.{Pieces}
use Rattle.split_command.specs.declared.splitting.Split.{Split}
use Rattle.split_command.specs.Endings.{HasPieces}
use Rattle.split_command.specs.Files.{HoldTexts, file_count}
use Rattle.split_command.specs.PieceTexts.{AreOnLines, HaveTexts, header_text}
use Rattle.split_command.specs.Written.{HasWritten}

none_on_lines : (places : ℕ → ℕ) → AreOnLines places [] []
none_on_lines places = record { alone = refl; lines = λ k row at. none_some at; ranges = λ k row at. none_some at }

module _ {W : Type 0} (contents : W → Option (List ℕ)) where
  -- nothing was taken
  begins : (parts : ℕ) (new : Pieces W) (splitter : Option Taken) → new.splitter ≡ splitter → HasSplit parts [] all_empty splitter
      → file_count new.files ≡ parts → HoldTexts contents (λ p. header_text) new.files → new.line ≡ 2 → HasWritten contents [] new
  begins parts new None same h count texts line = absurd h
  begins parts new (Some taken) same h count texts line = record {
    taken = taken;
    kept = same;
    parts = parts;
    count = count;
    pieces = all_empty;
    keeps = h;
    written = λ ok few. record {
      line = line;
      numbered = λ p. [];
      on_lines = λ p. none_on_lines (h.are.each p).place;
      texts = λ p w v at_w at_v known. texts p w v at_w at_v known ∙ ap Some (sym (append-nil header_text));
    };
  }

  pub begun_pieces : (parts : ℕ) (new : Pieces W) → HasSplit parts [] all_empty new.splitter → file_count new.files ≡ parts
      → HoldTexts contents (λ p. header_text) new.files → new.line ≡ 2 → HasWritten contents [] new
  begun_pieces parts new h count texts line = begins parts new new.splitter refl h count texts line

  -- all went out
  pub has_pieces : (parts : ℕ) (rows : List Row) (old : Pieces W) (split : Split W) → HasWritten contents rows old → length rows < 2 ^ 62
      → old.has_failed ≡ false → file_count old.files ≡ parts → length split.files.items ≡ file_count old.files
      → ((texts : ℕ → List ℕ) → HoldTexts contents texts old.files → HaveTexts contents texts split.files.items)
      → split.calls ≡ begun_of old.splitter → split.keys ≡ key_count_of old.splitter → HasPieces contents parts rows split
  has_pieces parts rows old split h few ok many count texts calls keys =
      let w = h.written ok few in
      subst (λ (n : ℕ). HasPieces contents n rows split) (sym h.count ∙ many) (record {
        keys = h.taken.keys;
        number = h.keeps.number;
        pieces = h.pieces;
        are = h.keeps.are;
        numbered = w.numbered;
        on_lines = w.on_lines;
        count = count ∙ h.count;
        texts = texts (λ p. numbered_history_text (w.numbered p)) w.texts;
        calls = calls ∙ ap begun_of h.kept ∙ h.keeps.opens.begun;
        key_count = keys ∙ ap key_count_of h.kept;
      })
