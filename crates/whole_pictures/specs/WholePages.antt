-- The page of whole histories: a section for each hall, with a picture of all its calls.
use Rattle.std.specs.Prelude.{ℕ, ◌≡◌, Bool, true, false, List, [], ◌∷◌, ◌++◌, None, Some}
use Rattle.std.specs.Prelude.{cond, decimal, length, map, nat_lt, slice_get}
use Rattle.std.specs.List.{AllZip, list_any}
use Rattle.markup.specs.Markup.{Markup, nothing, text, element, both, page_text}
use Rattle.markup.specs.Texts.{of_class, plain, worded}
use Rattle.markup.specs.declared.names.AttributeName.TheVariants as name
use Rattle.markup.specs.declared.names.Element.TheVariants as tag
use Rattle.recorder.specs.declared.order.KeyOrder.{KeyOrder}
use Rattle.recorder.specs.Histories.{Recorded}
use Rattle.recorder.specs.Records.{AreParts}
use Rattle.tag.specs.declared.numbers.OpId.{OpId}
use Rattle.history_file.specs.declared.numbered_format.NumberedHistories.{NumberedHistories}
use Rattle.parallel_keys.specs.CheckedKeys.{CheckedKey, KeyParts, all_parts, recorded_key}
use Rattle.parallel_keys.specs.Histories.{AreHallParts}
use Rattle.store_orders.specs.Turns.{AreCallsOf}
use Rattle.explanations.specs.declared.hall_rows.HallRows.{HallRows}
use Rattle.call_links.specs.Ids.{bar_ids, bar_targets}
use Rattle.cli.specs.Hints.{has_note}
use Rattle.pictures.specs.Sheets.{legend}
use Rattle.pictures.specs.declared.keys.CallKeys.TheVariants as keys
use Rattle.pictures.specs.declared.picture.Picture.{Picture}
use Rattle.cli.specs.declared.outcome.Found.{Found}
use Rattle.cli.specs.declared.outcome.Found.TheVariants as found
use Rattle.cli.specs.declared.outcome.Outcome.{Outcome}
use Rattle.judged_keys.specs.Halls.{IsHallOfKey}
use Rattle.judged_keys.specs.Judgements.{judgement_of}
use Rattle.judged_keys.specs.Notes.{judges_no_notes}
use Rattle.judged_keys.specs.declared.finding.JudgedKey.{JudgedKey}
use Rattle.judged_keys.specs.declared.judged.Judged.{Judged}
use Rattle.draw_command.specs.Drawings.{IsWhy}
use Rattle.draw_command.specs.Frames.{page_frame}
use Rattle.draw_command.specs.Pages.{IsBelowHint, IsEach, IsFramed, finding_said, showing_markup}
use Rattle.draw_command.specs.Pages.{styles_markup, title_words, why_markup}
use Rattle.draw_command.specs.declared.drawn.Drawn.{Drawn}
use Rattle.whole_pictures.specs.Together.{IsTogether, found_of_all}
use Rattle.whole_pictures.specs.WholeScenes.{IsShownOf, IsWholeScene}
use Rattle.whole_pictures.specs.declared.together.Together.{Together}
use Rattle.whole_pictures.specs.declared.together.Together.TheVariants as together
use Rattle.whole_pictures.specs.declared.whole.Whole.{Whole}
use Rattle.whole_pictures.specs.declared.words.TheConstants as word

-- ---- pieces

-- what is said of keys of which that was found together
abbrev pub found_words : Together → List ℕ
found_words (together.Ordered orders) = word.ONE_ORDER.now
found_words (together.Refused key count) = word.A_KEY_IS_REFUSED.now
found_words (together.Undecided key) = word.A_KEY_IS_UNDECIDED.now

-- the class of such a section
abbrev pub found_class : Together → List ℕ
found_class (together.Ordered orders) = word.YES.now
found_class (together.Refused key count) = word.NO.now
found_class (together.Undecided key) = word.UNDECIDED.now

-- the number of a hall, if there are several
abbrev pub hall_words : ℕ → ℕ → Markup
hall_words n halls = cond (nat_lt 1 halls)
    (both (text word.HALL.now) (both (text (decimal n)) (text word.COMMA.now))) nothing

-- the heading of a hall's section
abbrev pub heading_markup : ℕ → ℕ → Together → Markup
heading_markup n halls t = element tag.H2 []
    (both (hall_words n halls) (both (text word.ALL_KEYS.now) (text (found_words t))))

-- what was found of a key, and why: the calls that the sentences name lead to their bars
abbrev pub key_markup : List ℕ → List OpId → JudgedKey → List ℕ → Markup
key_markup targets calls key words =
    both (element tag.P (of_class word.WHY.now) (finding_said (judgement_of key)))
    (why_markup targets calls words)

-- how many keys are refused, and where the others are drawn
abbrev pub count_markup : ℕ → Markup
count_markup count = element tag.P (of_class word.SUM.now) (both (text word.KEYS_REFUSED.now)
    (both (text (decimal count)) (text word.WHY_THE_FIRST_IS.now)))

-- the same of the key that is refused or undecided, if one is; above a refused one how many are
abbrev pub reason_markup : List ℕ → List OpId → Together → List ℕ → Markup
reason_markup targets calls (together.Ordered orders) words = nothing
reason_markup targets calls (together.Refused key count) words =
    both (count_markup count) (key_markup targets calls key words)
reason_markup targets calls (together.Undecided key) words = key_markup targets calls key words

-- the section of a hall: its heading, what was found of a key that is refused or undecided, and
-- what is shown
abbrev pub section_markup : ℕ → ℕ → Together → Markup → Markup → Markup
section_markup n halls t reason showing = element tag.Section
    (record { name = name.Id; value = word.HALL_ID.now ++ decimal n }
    ∷ record { name = name.Class; value = found_class t } ∷ [])
    (both (heading_markup n halls t) (both reason showing))

-- the section of keys without calls
abbrev pub others_markup : Together → List ℕ → Markup
others_markup t words = element tag.Section
    (record { name = name.Id; value = word.OTHERS_ID.now }
    ∷ record { name = name.Class; value = found_class t } ∷ [])
    (both (plain tag.H2 word.NO_CALLS.now) (reason_markup [] [] t words))

-- ---- the page

-- a call on one of the keys has a note
abbrev pub have_notes : List CheckedKey → Bool
have_notes keys = list_any (λ one. has_note one.part) keys

-- one of the keys has a call
abbrev pub have_calls : List CheckedKey → Bool
have_calls keys = list_any (λ one. nat_lt 0 (length one.part)) keys

-- the words that no call is drawn, unless there is one
abbrev pub none_line : Bool → Markup
none_line true = nothing
none_line false = worded tag.P word.HINT.now word.NO_CALL.now

-- what stands above the sections: that, and what the signs of pictures mean, of tags if there are
-- some
abbrev pub above_sections : Bool → Bool → Markup
above_sections called tagged = both (none_line called) (legend tagged)

-- that was found of the keys of each hall
abbrev pub AreFoundOf : Judged → List KeyOrder → List KeyParts → List Together → Type 0
AreFoundOf judged orders parts all =
    AllZip (λ own t. IsTogether judged (map (recorded_key orders) own) t) parts all

module _ (numbered : NumberedHistories) where
  -- those are the rows of the hall of that number, and the lines on which they stand
  pub record IsHall (n : ℕ) (hall : HallRows) : Type 0 where
    pub recorded : slice_get numbered.histories.halls n ≡ Some hall.history.now
    pub lines : slice_get numbered.lines.items n ≡ Some hall.lines.now

  -- these are the keys of the hall of that number, each with an order
  pub record AreOfHall (n : ℕ) (checked : List CheckedKey) : Type 0 where
    pub history : Recorded
    pub recorded : slice_get numbered.histories.halls n ≡ Some history
    pub parts : KeyParts
    pub are : AreParts history.rows parts
    pub orders : List KeyOrder
    pub keys : checked ≡ map (recorded_key orders) parts

  -- the section of keys without calls, if one of them is refused
  abbrev pub IsSectionOfOthers : Together → Markup → Type 0
  IsSectionOfOthers (together.Refused key count) section = (hall : HallRows) × (words : List ℕ)
      × (faulty : List OpId) × IsHallOfKey numbered (judgement_of key).one.key hall
      × IsWhy hall (judgement_of key) words faulty
      × (section ≡ others_markup (together.Refused key count) words)
  IsSectionOfOthers t section = section ≡ nothing

module _ (numbered : NumberedHistories) (drawn : Drawn) where
  -- the picture of all calls of a hall of whose keys that was found; the words say why one of them
  -- is refused, and the ids of its bars are those of that hall
  pub record IsPictureOfHall (n : ℕ) (t : Together) (words : List ℕ) (picture : Picture) : Type 0
    where
      pub each : picture.keys ≡ keys.Recorded
      pub hall : IsHall numbered n picture.hall
      pub calls : AreCallsOf picture.hall.history.now.rows picture.part.now
      pub order : List OpId
      pub shown : IsShownOf picture.hall t order words picture.faulty.now
      pub scene : IsWholeScene drawn picture.hall.history.now.rows picture.part.now order
          picture.faulty.now picture.scene.now
      pub ids : picture.ids.now ≡ bar_ids n
      pub no_places : picture.places.now ≡ []
      pub no_arrow : picture.before ≡ None

  -- the section of the hall of that number, of whose keys that was found
  abbrev pub IsSectionOfHall : ℕ → Together → Markup → Type 0
  IsSectionOfHall n t section = (words : List ℕ) × (picture : Picture)
      × IsPictureOfHall n t words picture
      × (section ≡ section_markup n (length numbered.histories.halls) t
      (reason_markup (bar_targets n) picture.faulty.now t words)
      (showing_markup drawn.around picture))

  -- what a page says and shows of the keys: that there is no call, if there is none; for each hall
  -- its section; and one for keys without calls
  pub record IsWholeContent (checked : List CheckedKey) (f : Found) (content : Markup) : Type 0
    where
      pub orders : List KeyOrder
      pub parts : List KeyParts
      pub recorded : AreHallParts numbered.histories.halls parts
      pub others : List CheckedKey
      pub split : checked ≡ map (recorded_key orders) (all_parts parts) ++ others
      pub halls : List Together
      pub found_are : AreFoundOf drawn.selection.judged orders parts halls
      pub rest : Together
      pub rest_is : IsTogether drawn.selection.judged others rest
      pub sections : Markup
      pub drawn_are : IsEach IsSectionOfHall 0 halls sections
      pub last : Markup
      pub last_is : IsSectionOfOthers numbered rest last
      pub found_is : f ≡ found_of_all found.Good (halls ++ rest ∷ [])
      pub is : content ≡ both (above_sections (have_calls checked) (have_notes checked))
          (both sections last)

-- the page around what it says and shows
abbrev pub page_markup : List ℕ → Markup → Markup
page_markup file content = page_frame (title_words file word.TITLE.now) styles_markup content

-- the page of whole histories, and what was found of all
pub record IsWholePage (whole : Whole) (numbered : NumberedHistories) (checked : List CheckedKey)
    (outcome : Outcome) : Type 0 where
  pub page : Markup
  pub page_is : IsFramed (page_markup whole.drawn.file.now)
      (IsBelowHint (judges_no_notes whole.drawn.selection.judged checked)
      (IsWholeContent numbered whole.drawn checked outcome.found)) page
  pub text : outcome.text.items ≡ page_text page
  pub quiet : outcome.notes.items ≡ []
