-- What a page of any command shows of histories: what a page of `abd draw` without orders says and
-- shows of their keys.
use Rattle.std.specs.Prelude.{◌≡◌, List, [], length}
use Rattle.markup.specs.Markup.{Markup}
use Rattle.history_file.specs.declared.numbered_format.NumberedHistories.{NumberedHistories}
use Rattle.parallel_keys.specs.CheckedKeys.{CheckedKey}
use Rattle.judged_keys.specs.Files.{HaveKeys}
use Rattle.judged_keys.specs.Judgements.{Judgement, has_undecided, refused_count, refused_first}
use Rattle.judged_keys.specs.Selected.{missing_names, names_of}
use Rattle.judged_keys.specs.Tellings.{AreFound, found_in}
use Rattle.draw_command.specs.Pages.{IsContentOf, keys_around}
use Rattle.draw_command.specs.declared.drawn.Drawn.{Drawn}
use Rattle.draw_command.specs.declared.history_pictures.Told.{Told}

module _ (numbered : NumberedHistories) (drawn : Drawn) where
  -- those of the keys that are selected were judged, and that is what a page says and shows of them
  pub record IsContentOfKeys (all : List CheckedKey) (content : Markup) : Type 0 where
    pub keys : List Judgement
    pub keys_are : AreFound drawn.selection all keys
    pub content_is : IsContentOf numbered drawn (refused_first keys) (refused_count keys)
        (missing_names all (names_of drawn.selection)) (keys_around drawn.around all) content

  -- the same; and that is told of them: what was found of all, how many there are, and how many of
  -- them are refused
  pub record IsJudgedContent (all : List CheckedKey) (told : Told) (content : Markup) : Type 0
    where
      pub shown : IsContentOfKeys all content
      pub found : told.found ≡ found_in (refused_count shown.keys) (has_undecided shown.keys)
          (missing_names all (names_of drawn.selection))
      pub refused : told.refused ≡ refused_count shown.keys
      pub count : told.count ≡ length (refused_first shown.keys)

  -- the keys of the histories were judged, hall by hall, in each in the order in which its rows
  -- first see them; and that is what a page says and shows of them
  pub record IsContentOfHistory (content : Markup) : Type 0 where
    pub keys : List CheckedKey
    pub keys_are : HaveKeys numbered.histories [] keys
    pub shown : IsContentOfKeys keys content
