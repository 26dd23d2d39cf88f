-- The page: a table of the keys, and for each of the first of them a section with its picture.
use Rattle.std.specs.Prelude.{ℕ, zero, suc, ◌≡◌, ◌+◌, ◌-◌, ◌==◌, ◌&&◌, not, Bool, true, false}
use Rattle.std.specs.Prelude.{List, [], ◌∷◌, ◌++◌, Option, Some, None}
use Rattle.std.specs.Prelude.{cond, decimal, filter, length, map, nat_lt, slice_get, take}
use Rattle.std.specs.List.{list_any}
use Rattle.std.specs.Str.Lines.{lines}
use Rattle.std.specs.Str.Lossy.{utf8_lossy}
use Rattle.markup.specs.Markup.{Markup, NamedText, nothing, text, element, both, each}
use Rattle.markup.specs.Texts.{of_class, plain, worded}
use Rattle.markup.specs.declared.names.AttributeName.TheVariants as name
use Rattle.markup.specs.declared.names.Element.TheVariants as tag
use Rattle.history_file.specs.declared.numbered_format.NumberedHistories.{NumberedHistories}
use Rattle.tag.specs.declared.numbers.OpId.{OpId}
use Rattle.recorder.specs.Halls.{hall_of}
use Rattle.recorder.specs.declared.part.Call.{Call}
use Rattle.call_links.specs.Ids.{bar_ids, bar_target, bar_targets}
use Rattle.call_links.specs.Linked.{linked}
use Rattle.sentences.specs.Words.{quoted_text}
use Rattle.parallel_keys.specs.CheckedKeys.{CheckedKey}
use Rattle.scenes.specs.Listed.{AreFirstPlaces}
use Rattle.cli.specs.Hints.{has_note}
use Rattle.pictures.specs.Pictures.{picture_markup}
use Rattle.pictures.specs.Sheets.{legend, style}
use Rattle.pictures.specs.Tables.{table_markup as call_table}
use Rattle.pictures.specs.declared.keys.CallKeys.{CallKeys}
use Rattle.pictures.specs.declared.keys.CallKeys.TheVariants as keys
use Rattle.pictures.specs.declared.picture.Picture.{Picture}
use Rattle.judged_keys.specs.Findings.{is_refused, is_undecided}
use Rattle.judged_keys.specs.Halls.{IsHallOfKey}
use Rattle.judged_keys.specs.Judgements.{Judgement}
use Rattle.judged_keys.specs.declared.finding.Finding.{Finding}
use Rattle.explain_command.specs.Lines.{finding_line, missing_text}
use Rattle.draw_command.specs.Counts.{AreCountsOf}
use Rattle.draw_command.specs.Frames.{titled_frame}
use Rattle.draw_command.specs.Drawings.{IsBrokenArrow, IsKeyScene, IsWhy, refused_order}
use Rattle.draw_command.specs.Pictured.{ArePictured}
use Rattle.draw_command.specs.Ranges.{ranges_markup, ranges_of}
use Rattle.draw_command.specs.declared.counts.KeyCounts.{KeyCounts}
use Rattle.draw_command.specs.declared.drawn.Drawn.{Drawn}
use Rattle.draw_command.specs.declared.words.TheConstants as word

-- ---- pieces

-- words, a number, more words and a number
abbrev pub numbers : List ℕ → ℕ → List ℕ → ℕ → Markup
numbers before n between m =
    both (text before) (both (text (decimal n)) (both (text between) (text (decimal m))))

-- a paragraph of that class with these
abbrev pub counted : List ℕ → List ℕ → ℕ → List ℕ → ℕ → Markup
counted class before n between m = element tag.P (of_class class) (numbers before n between m)

-- what bytes say, without the ends of lines
abbrev pub said : List ℕ → Markup
said words = each (λ line. text line) (lines (utf8_lossy words))

-- what was found of a key
abbrev pub finding_said : Judgement → Markup
finding_said key = said (finding_line key.one.key key.finding)

-- the class of a key that is refused, of one that is undecided, and of any other
abbrev pub verdict_class : Finding → List ℕ
verdict_class finding = cond (is_refused finding) word.NO.now
    (cond (is_undecided finding) word.UNDECIDED.now word.YES.now)

-- ---- the table

-- where the line of the key leads that has that number in the table: to the bar of the first of the
-- calls that show why it is refused, or, if there are none, to its section
abbrev pub fault_target : ℕ → List OpId → List ℕ
fault_target n [] = word.TO_KEY.now ++ decimal n
fault_target n (call ∷ calls) = bar_target n call.0

-- a link that leads there
abbrev pub fault_href : ℕ → List OpId → List NamedText
fault_href n faulty = record { name = name.Href; value = fault_target n faulty } ∷ []

-- what was found of the key that has that number in the table; if it has a picture, in which these
-- calls show why it is refused, it leads there
abbrev pub finding_link : ℕ → Option (List OpId) → Judgement → Markup
finding_link n None key = finding_said key
finding_link n (Some faulty) key = element tag.A (fault_href n faulty) (finding_said key)

-- the first cell of a key's row
abbrev pub finding_cell : ℕ → Option (List OpId) → Judgement → Markup
finding_cell n faulty key =
    element tag.Th (record { name = name.Scope; value = word.ROW_SCOPE.now } ∷ [])
    (finding_link n faulty key)

-- a cell with a number
abbrev pub count_cell : ℕ → Markup
count_cell count = worded tag.Td word.COUNT.now (decimal count)

-- the cells of the counts of a key's calls
abbrev pub count_cells : KeyCounts → Markup
count_cells counts = both (count_cell counts.calls) (both (count_cell counts.clients)
    (both (count_cell counts.pending) (count_cell counts.at_once)))

-- the row of the key that has that number in the table
abbrev pub row_markup : ℕ → Option (List OpId) → Judgement → KeyCounts → Markup
row_markup n faulty key counts = element tag.Tr (of_class (verdict_class key.finding))
    (both (finding_cell n faulty key) (count_cells counts))

-- the head of a column
abbrev pub column_head : List ℕ → Markup
column_head words =
    element tag.Th (record { name = name.Scope; value = word.COLUMN_SCOPE.now } ∷ []) (text words)

-- the heads of the table's columns
abbrev pub columns_markup : Markup
columns_markup = both (column_head word.FOUND.now) (both (column_head word.CALLS.now)
    (both (column_head word.CLIENTS.now) (both (column_head word.PENDING.now)
    (column_head word.AT_ONCE.now))))

-- what stands in the table above its rows
abbrev pub table_front : Markup
table_front = both (plain tag.Caption word.CAPTION.now)
    (element tag.Thead [] (element tag.Tr [] columns_markup))

-- the table with those rows
abbrev pub table_markup : Markup → Markup
table_markup rows =
    element tag.Table (of_class word.KEYS.now) (both table_front (element tag.Tbody [] rows))

-- how many keys a table has at most
abbrev pub table_size : ℕ
table_size = 1000

-- after those words how many keys are left out, and how many of these are refused, if any is
abbrev pub rest_line : List ℕ → ℕ → ℕ → Markup
rest_line words zero refused = nothing
rest_line words (suc count) refused =
    counted word.REST.now words (suc count) word.MORE_REFUSED.now refused

-- how many of so many keys, of which so many are refused, have no row, and how many no picture
abbrev pub left_out : ℕ → ℕ → ℕ → Markup
left_out pictured count refused =
    both (rest_line word.MORE.now (count - table_size) (refused - table_size))
    (rest_line word.UNDRAWN.now (count - pictured) (refused - pictured))

-- what stands below the table: that, and what the pictures' signs mean, of tags if there are some
abbrev pub below_table : ℕ → ℕ → ℕ → Bool → Markup
below_table pictured count refused tagged = both (left_out pictured count refused) (legend tagged)

-- a call on one of the keys has a note
abbrev pub have_notes : List Judgement → Bool
have_notes keys = list_any (λ key. has_note key.one.part) keys

-- ---- a section

-- a paragraph of the sentence, in which the calls that it names lead to their bars
abbrev pub why_line : List ℕ → List OpId → List ℕ → Markup
why_line targets calls line = element tag.P (of_class word.WHY.now) (linked targets calls line)

-- a paragraph for each line of the sentences
abbrev pub why_lines : List ℕ → List OpId → List ℕ → Markup
why_lines targets calls words = each (why_line targets calls) (lines words)

-- the same of their bytes
abbrev pub why_markup : List ℕ → List OpId → List ℕ → Markup
why_markup targets calls words = why_lines targets calls (utf8_lossy words)

-- how to see others, if not all calls are shown
abbrev pub others_markup : ℕ → ℕ → Markup
others_markup shown all = cond (nat_lt shown all) (text word.OTHERS.now) nothing

-- so many of so many, and how to see others
abbrev pub share_markup : ℕ → ℕ → Markup
share_markup shown all = both (numbers word.SHARE.now shown word.OF.now all)
    (both (text word.SHARE_END.now) (others_markup shown all))

-- which of the calls its picture shows, and how many
abbrev pub shown_line : Picture → Markup
shown_line picture = element tag.P (of_class word.SHOWN.now) (both (text word.CALLS_SHOWN.now)
    (both (ranges_markup (ranges_of picture.scene.now.gaps.items picture.scene.now.bars.items))
    (share_markup (length picture.scene.now.bars.items) (length picture.part.now))))

-- one of the calls has the number
abbrev pub has_call : List Call → ℕ → Bool
has_call part number = list_any (λ call. call.op.0 == number) part

-- the call around which calls are to be shown isn't among these, if it is so
abbrev pub around_line : Option ℕ → List Call → Markup
around_line None part = nothing
around_line (Some number) part = cond (has_call part number) nothing
    (element tag.P (of_class word.HINT.now) (both (text word.AROUND.now)
    (both (text (decimal number)) (text word.NOT_THERE.now))))

-- the names of those of the keys that have the call of that number
abbrev pub keys_with : ℕ → List CheckedKey → List (List ℕ)
keys_with number keys = map (λ one. one.key) (filter (λ one. has_call one.part number) keys)

-- the same of the call around which calls are to be shown, if one is given
abbrev pub keys_around : Option ℕ → List CheckedKey → List (List ℕ)
keys_around None keys = []
keys_around (Some number) keys = keys_with number keys

-- that the call of that number is on that key, which isn't drawn
abbrev pub elsewhere_line : ℕ → List ℕ → Markup
elsewhere_line number key = element tag.P (of_class word.HINT.now) (both (text word.AROUND.now)
    (both (text (decimal number)) (both (text word.ON_KEY.now)
    (both (said (quoted_text key)) (text word.UNDRAWN_KEY.now)))))

-- that there is no call of that number, if so many keys have one and that is none
abbrev pub nowhere_line : ℕ → ℕ → Markup
nowhere_line number zero = element tag.P (of_class word.HINT.now)
    (both (text word.NOWHERE.now) (both (text (decimal number)) (text word.STOP.now)))
nowhere_line number (suc count) = nothing

-- that the call of that number is on each of these keys, or that there is none
abbrev pub elsewhere_markup : ℕ → List (List ℕ) → Markup
elsewhere_markup number keys =
    both (each (elsewhere_line number) keys) (nowhere_line number (length keys))

-- where the call is around which calls are to be shown, if one is given that none of the drawn keys
-- has; these keys have it
abbrev pub search_markup : Option ℕ → List Judgement → List (List ℕ) → Markup
search_markup None drawn keys = nothing
search_markup (Some number) drawn keys = cond (list_any (λ key. has_call key.one.part number) drawn)
    nothing (elsewhere_markup number keys)

-- what a section shows: which calls, the picture, and the calls as a table
abbrev pub showing_markup : Option ℕ → Picture → Markup
showing_markup around picture = both (shown_line picture)
    (both (around_line around picture.part.now)
    (both (picture_markup picture) (call_table picture)))

-- why a key is refused, and what its section shows
abbrev pub content_markup : List ℕ → List OpId → List ℕ → Option ℕ → Picture → Markup
content_markup targets calls why around picture =
    both (why_markup targets calls why) (showing_markup around picture)

-- the number of the key's hall among so many, if there are several
abbrev pub hall_among : ℕ → List ℕ → Option ℕ
hall_among halls key = cond (nat_lt 1 halls) (Some (hall_of halls key)) None

-- the number of a hall, if one is to be said
abbrev pub hall_markup : Option ℕ → Markup
hall_markup None = nothing
hall_markup (Some hall) = both (text word.IN_HALL.now) (text (decimal hall))

-- the heading of a section: what was found of the key, and its hall, if one is to be said
abbrev pub heading_markup : Option ℕ → Judgement → Markup
heading_markup hall key = element tag.H2 [] (both (finding_said key) (hall_markup hall))

-- beside refused keys the sections of keys with points are folded
abbrev pub is_folded : Bool → Finding → Bool
is_folded refused finding = refused && not (is_refused finding) && not (is_undecided finding)

-- the heading, and below it the content, folded if that is so
abbrev pub said_markup : Bool → Markup → Markup → Markup
said_markup false heading content = both heading content
said_markup true heading content = element tag.Details (of_class word.FOLDED.now)
    (both (element tag.Summary [] heading) content)

-- the section of the key that has that number in the table
abbrev pub section_markup : ℕ → Bool → Option ℕ → Judgement → Markup → Markup
section_markup n refused hall key content =
    element tag.Section (record { name = name.Id; value = word.KEY_ID.now ++ decimal n }
    ∷ record { name = name.Class; value = verdict_class key.finding } ∷ [])
    (said_markup (is_folded refused key.finding) (heading_markup hall key) content)

-- ---- the page

-- the styles: that of pictures, and that of what stands around them
abbrev pub styles_markup : Markup
styles_markup = both style (plain tag.Style word.STYLE.now)

-- the line that says that no key has the name
abbrev pub missing_line : List ℕ → Markup
missing_line name = element tag.P (of_class word.MISSING.now) (said (missing_text name))

-- the words that no call is drawn, if there are no keys
abbrev pub none_line : ℕ → Markup
none_line zero = worded tag.P word.HINT.now word.NO_KEYS.now
none_line (suc count) = nothing

-- what stands above the table: how many keys are refused, and the names that no key has
abbrev pub front_markup : ℕ → ℕ → List (List ℕ) → Markup
front_markup count refused missing = both
    (counted word.SUM.now word.REFUSED.now refused word.OF_KEYS.now count)
    (both (none_line count) (each missing_line missing))

-- the sentence that says that values judge a history without notes, if that is to be said
abbrev pub hint_markup : Bool → Markup
hint_markup true = worded tag.P word.HINT.now word.NO_NOTES.now
hint_markup false = nothing

-- something of which that holds, below that sentence
abbrev pub IsBelowHint : Bool → (Markup → Type 0) → Markup → Type 0
IsBelowHint hinted Is markup =
    (below : Markup) × Is below × (markup ≡ both (hint_markup hinted) below)

-- the title of a page of the file of that name; one without a name has the command's
abbrev pub title_words : List ℕ → List ℕ → List ℕ
title_words [] command = command
title_words (byte ∷ file) command = byte ∷ file

-- how many keys are refused of so many, if one is
abbrev pub refused_words : ℕ → ℕ → Markup
refused_words zero count = nothing
refused_words (suc refused) count = both (text word.COLON.now)
    (both (text (decimal (suc refused))) (both (text word.OF_KEYS.now)
    (both (text (decimal count)) (text word.ARE_REFUSED.now))))

-- what the title of the page of that file says: its name, and how many keys are refused
abbrev pub heading_words : List ℕ → ℕ → ℕ → Markup
heading_words file refused count =
    both (text (title_words file word.TITLE.now)) (refused_words refused count)

-- the page of that file, of whose keys so many are refused of so many, around what it says and
-- shows of them
abbrev pub page_markup : List ℕ → ℕ → ℕ → Markup → Markup
page_markup file refused count content =
    titled_frame (heading_words file refused count) styles_markup content

-- what the frame makes of something of which that holds
abbrev pub IsFramed : (Markup → Markup) → (Markup → Type 0) → Markup → Type 0
IsFramed frame Is markup = (inside : Markup) × Is inside × (markup ≡ frame inside)

-- for each item one of these, in the same order; the first item has that number
abbrev pub IsEach : {X : Type 0} → (ℕ → X → Markup → Type 0) → ℕ → List X → Markup → Type 0
IsEach Is n [] markup = markup ≡ nothing
IsEach Is n (x ∷ xs) markup = (first : Markup) × (others : Markup) × Is n x first
    × IsEach Is (n + 1) xs others × (markup ≡ both first others)

-- the row of a key, with the counts of its calls; if it has a picture, these calls show in it why
-- the key is refused
abbrev pub IsRow : ℕ → Option (List OpId) → Judgement → Markup → Type 0
IsRow n faulty key row = (counts : KeyCounts) × AreCountsOf key.one.part counts
    × (row ≡ row_markup n faulty key counts)

-- the same, where the list has such calls of each key that has a picture
abbrev pub IsRowOf : List (List OpId) → ℕ → Judgement → Markup → Type 0
IsRowOf faulty n key row = IsRow n (slice_get faulty n) key row

-- the table of the first of the keys
abbrev pub IsTableOf : List (List OpId) → List Judgement → Markup → Type 0
IsTableOf faulty keys table =
    IsFramed table_markup (IsEach (IsRowOf faulty) 0 (take table_size keys)) table

-- the calls are on that key
abbrev pub IsOne : CallKeys → List ℕ → Type 0
IsOne (keys.One own) key = own.now ≡ key
IsOne keys.Recorded key = ⊥

module _ (numbered : NumberedHistories) (drawn : Drawn) where
  -- the picture of a key's scene, in which the calls are marked that show why the key is refused,
  -- and have their places in an order that is refused, with the arrow between two of them whose
  -- precedence it breaks; the words say why, and the ids of its bars are those of the section of
  -- that number
  pub record IsPictureOf (n : ℕ) (key : Judgement) (words : List ℕ) (picture : Picture) : Type 0
    where
      pub of_key : IsOne picture.keys key.one.key
      pub of_part : picture.part.now ≡ key.one.part
      pub hall : IsHallOfKey numbered key.one.key picture.hall
      pub why : IsWhy picture.hall key words picture.faulty.now
      pub scene : IsKeyScene drawn picture.hall key picture.faulty.now picture.scene.now
      pub ids : picture.ids.now ≡ bar_ids n
      pub places : AreFirstPlaces (refused_order key.one key.finding)
          picture.scene.now.bars.items picture.places.now
      pub before : IsBrokenArrow key.one key.finding picture.scene.now.bars.items picture.before

  -- the section of the key that has that number in the table, in whose picture these calls show why
  -- it is refused, on a page with refused keys or without: its hall is named if there are several,
  -- and the calls that its sentences name lead to their bars
  abbrev pub IsSectionOf : Bool → ℕ → Judgement × List OpId → Markup → Type 0
  IsSectionOf refused n own section = (words : List ℕ) × (picture : Picture)
      × IsPictureOf n own.0 words picture × (picture.faulty.now ≡ own.1)
      × (section ≡ section_markup n refused
      (hall_among (length numbered.histories.halls) own.0.one.key) own.0
      (content_markup (bar_targets n) own.1 words drawn.around picture))

  -- what a page says and shows of these keys: how many there are, and of them how many are refused;
  -- a table of the first, which leads to faulty calls; and for as many as a page has room for a
  -- section, in which these calls show why the key is refused. Names that no key has are given, and
  -- the keys that have the call around which calls are to be shown
  pub record IsContentOf (keys : List Judgement) (refused : ℕ) (missing having : List (List ℕ))
      (content : Markup) : Type 0 where
    pub pictured : ℕ
    pub fitting : ArePictured drawn keys pictured
    pub first : List (Judgement × List OpId)
    pub first_are : map (λ own. own.0) first ≡ take pictured keys
    pub table : Markup
    pub tabled : IsTableOf (map (λ own. own.1) first) keys table
    pub sections : Markup
    pub drawn_are : IsEach (IsSectionOf (nat_lt 0 refused)) 0 first sections
    pub is : content ≡ both (both (front_markup (length keys) refused missing)
        (search_markup drawn.around (take pictured keys) having)) (both table
        (both (below_table pictured (length keys) refused (have_notes keys)) sections))
