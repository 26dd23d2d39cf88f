use Rattle.std.proofs.Common.{ℕ, ◌≡◌, Bool, true, false, cond, List, [], refl, sym, ap, ◌∙◌}
use Rattle.std.specs.Str.{IsUtf8, is_utf8}
use Rattle.std.proofs.lemmas.Str.{IsUtf8-from_is_utf8}
use Rattle.labels.specs.Texts.{text_of}
use Rattle.labels.proofs.ShownWords.{text_stays}
use Rattle.labels.proofs.texts.text_of.Goals as goal

none_by : (words : List ℕ) (b : Bool) → is_utf8 words ≡ b → (IsUtf8 words → ⊥) → text_of words ≡ []
none_by words true is other = absurd (other (IsUtf8-from_is_utf8 words is))
none_by words false is other = ap (λ (b : Bool). cond b words []) is

pub returns-in-Ok : goal.returns-in-Ok
returns-in-Ok c = c.in-Ok.ensures.cases.0 ∙ sym (text_stays c.args.words.now c.in-Ok.ensures.cases.1)

pub returns-in-Err : goal.returns-in-Err
returns-in-Err c = sym (none_by c.args.words.now (is_utf8 c.args.words.now) refl c.in-Err.ensures.cases.0)
