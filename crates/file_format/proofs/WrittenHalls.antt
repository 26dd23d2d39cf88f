-- The text of histories by hall is read as their rows and quorums, and as nothing else.
use Rattle.std.proofs.Common.{ℕ, ◌≡◌, ◌<◌, ◌≤◌, ◌^◌, List, ◌++◌}
use Rattle.std.proofs.Common.{false, Option, Some, None, length, decimal, codes, refl, subst, arith}
use Rattle.std.proofs.Common.{length-append}
use Rattle.std.specs.Prelude.{⊤}
use Rattle.std.specs.List.{All}
use Rattle.std.proofs.lemmas.Option.{slice_get_within, get_or_from_slice_get}
use Rattle.json.proofs.Printed.Utf8.{IsUtf8-are_ascii}
use Rattle.serde_json.specs.Written.{items_text}
use Rattle.serde_json.proofs.Numbers.{number_of-decimal}
use Rattle.quorum.specs.Quorums.{Quorums, IsLawful}
use Rattle.recorder.specs.Halls.{RecordedHalls, AreHalls, IsHallCount}
use Rattle.file_format.specs.declared.file_header.FileHeader.{FileHeader}
use Rattle.file_format.specs.declared.file_header.FileHeader.TheVariants.{Version1, Version2}
use Rattle.file_format.specs.declared.hall_row.HallRow.{HallRow}
use Rattle.file_format.specs.FileHeaders.{halls_in, written_hall, header_with, file_header_in}
use Rattle.file_format.specs.HallRows.{hall_row_in}
use Rattle.file_format.specs.HistoriesFormat.{histories_format, MakesHistories}
use Rattle.file_format.specs.declared.marks.Marks.{Marks}
use Rattle.file_format.specs.Ranges.{IsRowInRange, HasLineIn, HasRowsInRange, HaveFormed, HasLawful}
use Rattle.file_format.specs.Readings.{Reads}
use Rattle.file_format.specs.ReadAgain.{with_room, IsTextOfHistories}
use Rattle.file_format.specs.Says.{SaysHallRow}
use Rattle.file_format.specs.Texts.{numbers_data, header_data, file_header_data, header_of_histories}
use Rattle.file_format.specs.Texts.{rows_from, hall_row_data, histories_text, line_text, marked_data}
use Rattle.file_format.proofs.Compact.{IsSimple, read-compact_text, length-digits}
use Rattle.file_format.proofs.ListedNumbers.{AreSmall, numbers_simple, numbers_back, numbers_depth, numbers_there, numbers_length}
use Rattle.file_format.proofs.QuorumRules.{votes_few}
use Rattle.file_format.proofs.Once.{reads_once, reads_one_header}
use Rattle.file_format.proofs.RowsByHall.{is_from, count_of_halls, fits_again, made_again, made_once}
use Rattle.file_format.proofs.SayingHalls.{file_header_there, hall_row_there}
use Rattle.file_format.proofs.Spelling.{quorums_bytes}
use Rattle.file_format.proofs.WrittenFiles.{IsGoodLine, header_good, written_reads}
use Rattle.file_format.proofs.WrittenHistories.{good_row}
use Rattle.file_format.proofs.WrittenLines.{IsPlace, says_row, says_hall, line_length}

-- ---- the header

abbrev AreVotes : List ℕ → Type 0
AreVotes votes = All (λ v. (1 ≤ v) × (v ≤ 9)) votes

small_votes : (votes : List ℕ) → AreVotes votes → AreSmall votes
small_votes votes h k n e =
    omega (arith, (h k n (slice_get_within votes k n e)).1, get_or_from_slice_get votes k n n e)

quorums_short : (halls : ℕ) (quorums : Quorums) → IsHallCount halls → IsLawful quorums → quorums.ask < 2 ^ 64 → quorums.put < 2 ^ 64
    → length (line_text (file_header_data (Version2 halls quorums))) ≤ 65537
quorums_short halls quorums count lawful ask put =
    let votes = items_text false (numbers_data quorums.votes) in
    let after_put = codes ",\"version\":2,\"votes\":[" ++ (votes ++ codes "}\n") in
    let after_halls = codes ",\"put\":" ++ (decimal quorums.put ++ after_put) in
    let after_ask = codes ",\"halls\":" ++ (decimal halls ++ after_halls) in
    rw (quorums_bytes halls quorums) (omega (
      arith,
      length-append (codes "{\"abd\":\"history\",\"ask\":") (decimal quorums.ask ++ after_ask),
      length-append (decimal quorums.ask) after_ask,
      length-append (codes ",\"halls\":") (decimal halls ++ after_halls),
      length-append (decimal halls) after_halls,
      length-append (codes ",\"put\":") (decimal quorums.put ++ after_put),
      length-append (decimal quorums.put) after_put,
      length-append (codes ",\"version\":2,\"votes\":[") (votes ++ codes "}\n"),
      length-append votes (codes "}\n"),
      length-digits quorums.ask ask,
      length-digits quorums.put put,
      length-digits halls (omega (arith, count.most)),
      numbers_length false quorums.votes (small_votes quorums.votes lawful.each_votes),
      lawful.most_replicas,
    ))

small_quorums : (quorums : Quorums) → IsLawful quorums → (quorums.ask ≤ 135) × (quorums.put ≤ 135)
small_quorums quorums lawful =
    let few = votes_few quorums.votes quorums.ask quorums.put lawful in
    (omega (arith, few, lawful.most_ask), omega (arith, few, lawful.most_put))

quorums_good : (halls : ℕ) (quorums : Quorums) → IsHallCount halls → IsLawful quorums
    → IsGoodLine file_header_in (file_header_data (Version2 halls quorums)) (Version2 halls quorums)
unfolding file_header_data
quorums_good halls quorums count lawful =
    let small = small_quorums quorums lawful in
    let ask : quorums.ask < 2 ^ 64 = omega (arith, small.0) in
    let put : quorums.put < 2 ^ 64 = omega (arith, small.1) in
    let many : halls < 2 ^ 64 = omega (arith, count.most) in
    let simple : IsSimple (file_header_data (Version2 halls quorums)) = (
      IsUtf8-are_ascii (codes "abd") refl,
      IsUtf8-are_ascii (codes "history") refl,
      (
        IsUtf8-are_ascii (codes "ask") refl,
        ask,
        (
          IsUtf8-are_ascii (codes "halls") refl,
          many,
          (
            IsUtf8-are_ascii (codes "put") refl,
            put,
            (
              IsUtf8-are_ascii (codes "version") refl,
              omega arith,
              (IsUtf8-are_ascii (codes "votes") refl, numbers_simple quorums.votes (small_votes quorums.votes lawful.each_votes), tt),
            ),
          ),
        ),
      ),
    ) in
    record {
      simple = simple;
      short = line_length (file_header_data (Version2 halls quorums)) (quorums_short halls quorums count lawful ask put);
      back = read-compact_text (file_header_data (Version2 halls quorums)) simple (omega (arith, numbers_depth quorums.votes))
          (rw (
            number_of-decimal quorums.ask ask,
            number_of-decimal halls many,
            number_of-decimal quorums.put put,
            number_of-decimal 2 (omega arith),
            numbers_back quorums.votes (small_votes quorums.votes lawful.each_votes),
          ) refl);
      meant = file_header_there (file_header_data (Version2 halls quorums)) (Version2 halls quorums)
          (record {
            abd = refl;
            version = refl;
            told = refl;
            count = count;
            votes = numbers_there quorums.votes;
            ask = refl;
            put = refl;
            lawful = lawful;
          });
    }

-- the numbers of a header are inside their rules
abbrev pub IsHeaderInRange : FileHeader → Type 0
IsHeaderInRange Version1 = ⊤
IsHeaderInRange (Version2 halls quorums) = IsHallCount halls × IsLawful quorums

first_good : IsGoodLine file_header_in (file_header_data Version1) Version1
unfolding file_header_data header_data
first_good =
    let plain = header_good (codes "history") (record { text = IsUtf8-are_ascii (codes "history") refl; short = omega arith }) in
    record {
      simple = plain.simple;
      short = plain.short;
      back = plain.back;
      meant = file_header_there (file_header_data Version1) Version1 (record { abd = refl; version = refl });
    }

pub file_header_good : (header : FileHeader) → IsHeaderInRange header → IsGoodLine file_header_in (file_header_data header) header
file_header_good Version1 h = first_good
file_header_good (Version2 halls quorums) h = quorums_good halls quorums h.0 h.1

-- ---- the rows

place_small : (header : FileHeader) (hall : ℕ) → hall < 64 → IsPlace (written_hall header hall)
place_small Version1 hall h = tt
place_small (Version2 halls quorums) hall h = omega (arith, h)

-- the members that a row of a hall is marked by after that header
abbrev pub placed_marks : FileHeader → ℕ → Option ℕ → Marks
placed_marks header hall line = record { hall = written_hall header hall; line = line }

says_hall_row : (header : FileHeader) (item : HallRow) (line : Option ℕ) → item.hall < halls_in header → IsRowInRange item.row
    → SaysHallRow header (marked_data (placed_marks header item.hall line) item.row) item
says_hall_row Version1 item line below range =
    (omega (arith, below), says_row (record { hall = None; line = line }) item.row range)
says_hall_row (Version2 halls quorums) item line below range = record {
  hall = says_hall item.hall line item.row;
  below = below;
  said = says_row (record { hall = Some item.hall; line = line }) item.row range;
}

pub good_hall_row : (header : FileHeader) (item : HallRow) (line : Option ℕ) → HasLineIn line → item.hall < halls_in header
    → item.hall < 64 → IsRowInRange item.row
    → IsGoodLine (hall_row_in header) (marked_data (placed_marks header item.hall line) item.row) item
good_hall_row header item line numbered below small range =
    let marks = placed_marks header item.hall line in
    let plain = good_row marks item.row (record { hall = place_small header item.hall small; line = numbered }) range in
    record {
      simple = plain.simple;
      short = plain.short;
      back = plain.back;
      meant = hall_row_there header (marked_data marks item.row) item (says_hall_row header item line below range);
    }

-- ---- the whole text

fine_header : (histories : RecordedHalls) → AreHalls histories → HasLawful histories.quorums
    → IsHeaderInRange (header_of_histories histories)
fine_header histories h lawful = at histories.quorums lawful
  where
    at : (quorums : Option Quorums) → HasLawful quorums → IsHeaderInRange (header_with (length histories.halls) quorums)
    at None l = tt
    at (Some quorums) l = (h.count, l)

pub histories_read : (histories : RecordedHalls) → AreHalls histories → HasLawful histories.quorums → HaveFormed histories.halls
    → HasRowsInRange histories.halls
    → Reads histories_format MakesHistories (histories_text histories)
    (record { halls = with_room histories.halls; quorums = histories.quorums })
histories_read histories h lawful formed ranges =
    let header = header_of_histories histories in
    let items = rows_from 0 histories.halls in
    written_reads histories_format header (hall_row_data header) MakesHistories (file_header_data header) items
    (record { halls = with_room histories.halls; quorums = histories.quorums })
    (file_header_good header (fine_header histories h lawful))
    (λ k item e.
    let fits = fits_again histories h formed in
    let f = is_from 0 histories.halls k item e in
    let below = (fits.placed k item e).below in
    good_hall_row header item None tt below (omega (arith, below, count_of_halls histories h, h.count.most))
    (ranges f.hall f.history f.there f.place item.row f.row))
    (fits_again histories h formed) (made_again histories h)

-- bytes are read as one row of histories
pub made_same : (bytes : List ℕ) (a b : RecordedHalls) → Reads histories_format MakesHistories bytes a
    → Reads histories_format MakesHistories bytes b → a ≡ b
made_same bytes a b h k =
    let header = reads_one_header histories_format MakesHistories bytes a b h k in
    let items = reads_once histories_format MakesHistories bytes a b h k in
    made_once k.header k.items a b
    (subst (λ (i : List HallRow). MakesHistories k.header i a) items
    (subst (λ (f : FileHeader). MakesHistories f h.items a) header h.made)) k.made

pub histories_text_of : (histories : RecordedHalls) → AreHalls histories → HasLawful histories.quorums → HaveFormed histories.halls
    → HasRowsInRange histories.halls → IsTextOfHistories (histories_text histories) histories
histories_text_of histories h lawful formed ranges =
    let own = histories_read histories h lawful formed ranges in
    record { read = own; alone = λ others read. made_same (histories_text histories) others _ read own }
