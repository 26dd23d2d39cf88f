-- What is shown of words is a text.
use Rattle.std.proofs.Common.{ℕ, ◌≡◌, Bool, true, false, cond, List, [], refl, ap}
use Rattle.std.specs.Str.{IsUtf8, is_utf8}
use Rattle.std.proofs.lemmas.Str.{IsUtf8-from_is_utf8, IsUtf8-nil, is_utf8-from_IsUtf8}
use Rattle.sentences.proofs.Shown.{text_is_shown}
use Rattle.labels.specs.Texts.{shown_words, text_of}

-- a text stays
pub text_stays : (words : List ℕ) → IsUtf8 words → text_of words ≡ words
text_stays words utf8 = ap (λ (b : Bool). cond b words []) (is_utf8-from_IsUtf8 words utf8)

text_by : (words : List ℕ) (b : Bool) → is_utf8 words ≡ b → IsUtf8 (cond b words [])
text_by words true is = IsUtf8-from_is_utf8 words is
text_by words false is = IsUtf8-nil

-- words as a text are one
pub text_is_utf8 : (words : List ℕ) → IsUtf8 (text_of words)
text_is_utf8 words = text_by words (is_utf8 words) refl

-- and so is what is shown of them
pub shown_is_utf8 : (words : List ℕ) → IsUtf8 (shown_words words)
shown_is_utf8 words = (text_is_shown (text_of words) (text_is_utf8 words)).utf8

pub shown_is_text : (words : List ℕ) → text_of (shown_words words) ≡ shown_words words
shown_is_text words = text_stays (shown_words words) (shown_is_utf8 words)
