-- What is shown of bytes has none below 32.
use Rattle.std.proofs.Common.{ℕ, ◌≡◌, ◌+◌, ◌≤◌, ◌%◌, ◌/◌, ◌∷◌, [], ◌∙◌, ◌==◌, ◌||◌, List, Bool, true, false, cond, refl, nat_le, nat_lt, arith}
use Rattle.std.specs.List.{list_all}
use Rattle.std.specs.Char.{digit_char}
use Rattle.std.proofs.lemmas.Bool.{and_from, both_ways, le-leb, ltb-false}
use Rattle.std.proofs.lemmas.List.Folds.{list_all-append}
use Rattle.sentences.specs.Words.{control_escape}
use Rattle.fault_details.specs.Shown.{is_control, piece, plain_after}

abbrev ok : ℕ → Bool
ok b = nat_le 32 b

one : (byte : ℕ) → 32 ≤ byte → list_all ok (byte ∷ []) ≡ true
one byte h = and_from (ok byte) true (le-leb 32 byte h) refl

on_cond : (d : ℕ) (b : Bool) → 32 ≤ cond b (48 + d) (87 + d)
on_cond d true = omega arith
on_cond d false = omega arith

digit_ok : (d : ℕ) → 32 ≤ digit_char d
digit_ok d = on_cond d (nat_lt d 10)

escaped_ok : (byte : ℕ) → list_all ok (control_escape byte) ≡ true
escaped_ok byte = and_from (ok (digit_char (byte / 16))) (list_all ok (digit_char (byte % 16) ∷ []))
    (le-leb 32 (digit_char (byte / 16)) (digit_ok (byte / 16))) (one (digit_char (byte % 16)) (digit_ok (byte % 16)))

after_lead : (byte : ℕ) (b : Bool) → nat_lt byte 160 ≡ b → list_all ok (cond b (control_escape byte) (194 ∷ byte ∷ [])) ≡ true
after_lead byte true e = escaped_ok byte
after_lead byte false e = let high : 160 ≤ byte = ltb-false byte 160 e in one byte (omega (arith, high))

not_low : (byte : ℕ) (b : Bool) → nat_lt byte 32 ≡ b → (b || byte == 127) ≡ false → 32 ≤ byte
not_low byte true e h = absurd (both_ways true h refl)
not_low byte false e h = ltb-false byte 32 e

by_itself : (byte : ℕ) (b : Bool) → is_control byte ≡ b → list_all ok (cond b (control_escape byte) (byte ∷ [])) ≡ true
by_itself byte true e = escaped_ok byte
by_itself byte false e = one byte (not_low byte (nat_lt byte 32) refl e)

alone : (byte : ℕ) (b : Bool) → list_all ok (cond b [] (cond (is_control byte) (control_escape byte) (byte ∷ []))) ≡ true
alone byte true = refl
alone byte false = by_itself byte (is_control byte) refl

either : (byte : ℕ) (b : Bool) → list_all ok (cond b (cond (nat_lt byte 160) (control_escape byte) (194 ∷ byte ∷ []))
    (cond (byte == 194) [] (cond (is_control byte) (control_escape byte) (byte ∷ [])))) ≡ true
either byte true = after_lead byte (nat_lt byte 160) refl
either byte false = alone byte (byte == 194)

piece_ok : (before byte : ℕ) → list_all ok (piece before byte) ≡ true
unfolding piece
piece_ok before byte = either byte (before == 194)

pub plain_ok : (before : ℕ) (bytes : List ℕ) → list_all ok (plain_after before bytes) ≡ true
plain_ok before [] = refl
plain_ok before (byte ∷ bytes) = list_all-append ok (piece before byte) (plain_after byte bytes)
    ∙ and_from (list_all ok (piece before byte)) (list_all ok (plain_after byte bytes)) (piece_ok before byte) (plain_ok byte bytes)
