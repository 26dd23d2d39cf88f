-- What a page of pictures has once: its style sheet and its legend.
use Rattle.std.specs.Prelude.{Bool, true, false, [], ◌∷◌}
use Rattle.markup.specs.Markup.{Markup, nothing, text, element, both}
use Rattle.markup.specs.declared.names.AttributeName.TheVariants as name
use Rattle.markup.specs.declared.names.Element.TheVariants as tag
use Rattle.labels.specs.Labels.{words_of}
use Rattle.labels.specs.Samples.{sample}
use Rattle.pictures.specs.declared.sheet.TheConstants.{LEGEND_TAGS, LEGEND_VERDICTS}
use Rattle.pictures.specs.declared.sheet.TheConstants.{LEGEND_WORDS, SHEET}
use Rattle.pictures.specs.declared.style.TheConstants.{FAULTY_KEY, FAULTY_READ, LEGEND}
use Rattle.pictures.specs.declared.style.TheConstants.{OPEN, OPEN_KEY, READ, READ_KEY, WRITE}
use Rattle.pictures.specs.declared.style.TheConstants.{WRITE_KEY}

-- the style sheet
abbrev pub style : Markup
style = element tag.Style [] (text SHEET.now)

-- a sample of each kind of bar
abbrev pub legend_keys : Markup
legend_keys = both (sample WRITE.now WRITE_KEY.now) (both (sample READ.now READ_KEY.now)
    (both (sample OPEN.now OPEN_KEY.now) (sample FAULTY_READ.now FAULTY_KEY.now)))

-- what the legend says of tags, if calls have some
abbrev pub legend_tags : Bool → Markup
legend_tags true = text LEGEND_TAGS.now
legend_tags false = nothing

-- the legend of the pictures
abbrev pub legend : Bool → Markup
legend tagged = element tag.P (words_of name.Class LEGEND.now ∷ [])
    (both legend_keys (both (text LEGEND_WORDS.now) (both (legend_tags tagged)
    (text LEGEND_VERDICTS.now))))
