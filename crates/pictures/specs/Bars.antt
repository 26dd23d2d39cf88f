-- Bars, one for each call: its sentence, its shape and its texts.
use Rattle.std.specs.Prelude.{ℕ, ◌==◌, Bool, if◌then◌else◌, List, [], ◌∷◌, ◌++◌}
use Rattle.std.specs.Prelude.{Option, Some, None, decimal, slice_get, unwrap_or}
use Rattle.std.specs.List.{find, list_any}
use Rattle.markup.specs.Markup.{Markup, NamedText, element, both}
use Rattle.markup.specs.declared.names.AttributeName.TheVariants as name
use Rattle.markup.specs.declared.names.Element.TheVariants as tag
use Rattle.labels.specs.Labels.{title, words_of}
use Rattle.tag.specs.declared.actions.Action.{Action}
use Rattle.tag.specs.declared.actions.Action.TheVariants.{Read, Write}
use Rattle.tag.specs.declared.numbers.OpId.{OpId}
use Rattle.recorder.specs.declared.part.Call.{Call}
use Rattle.explanations.specs.Sentences.{call_text}
use Rattle.scenes.specs.declared.scene.Bar.{Bar}
use Rattle.pictures.specs.declared.picture.Picture.{Picture}
use Rattle.pictures.specs.declared.style.TheConstants.{FAULTY_READ, FAULTY_WRITE, READ, WRITE}
use Rattle.pictures.specs.Frames.{corner_of, shape}
use Rattle.pictures.specs.Keys.{key_of, said_key}
use Rattle.pictures.specs.Texts.{if_any, texts}

-- the call of that number, if it is one of these
abbrev pub call_of : List Call → OpId → Option Call
call_of calls op = find (λ call. call.op.0 == op.0) calls

-- the class of a bar of that action
abbrev pub class_of : Action → Bool → List ℕ
class_of Read faulty = if faulty then FAULTY_READ.now else READ.now
class_of (Write value) faulty = if faulty then FAULTY_WRITE.now else WRITE.now

module _ (p : Picture) where
  -- the call shows why a key is refused
  abbrev pub is_faulty : OpId → Bool
  is_faulty op = list_any (λ other. other.0 == op.0) p.faulty.now

  -- the place in a refused order of the call of the bar of that index, if there is one
  abbrev pub place_of : ℕ → Option ℕ
  place_of index = unwrap_or (slice_get p.places.now index) None

  -- the call's sentence, as a title
  abbrev pub sentence : List ℕ → Call → Markup
  sentence key call = title (call_text key p.hall call)

  -- what stands in the element of the bar of a call on that key: its sentence, its shape, and its
  -- texts
  abbrev pub in_bar : ℕ → Bar → Call → List ℕ → Markup
  in_bar index bar call key = both (sentence key call)
      (both (shape p.scene.now bar (corner_of call.action))
      (texts p.scene.now bar (is_faulty call.op) (place_of index) (said_key p.keys key) call))

  -- the id of the call's bar, and the class of what the call does
  abbrev pub bar_attributes : Call → List NamedText
  bar_attributes call = words_of name.Id (p.ids.now ++ decimal call.op.0)
      ∷ words_of name.Class (class_of call.action (is_faulty call.op)) ∷ []

  -- the bar of a call on that key
  abbrev pub call_bar : ℕ → Bar → Call → List ℕ → Markup
  call_bar index bar call key =
      element tag.G (bar_attributes call) (in_bar index bar call key)

  -- the key that the call is on
  abbrev pub own_key : Call → Option (List ℕ)
  own_key call = key_of p.keys p.hall.history.now.rows call

  -- the bar of that index, with the call of its number
  abbrev pub bar_markup : ℕ → Bar → Markup
  bar_markup index bar = if_any (λ call. if_any (call_bar index bar call) (own_key call))
      (call_of p.part.now bar.call)
