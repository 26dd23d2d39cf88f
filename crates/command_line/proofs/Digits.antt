-- The digits of votes.
use Rattle.std.proofs.Common.{◌≡◌, ◌<◌, ◌≤◌, ◌+◌, ◌-◌, ℕ, suc, List, [], ◌∷◌, ◌++◌, length, map, take, get_or, slice_get, refl, sym, ap, subst, ◌∙◌, arith}
use Rattle.std.proofs.Math.Seq.{take-suc}
use Rattle.std.proofs.lemmas.List.{length-map, map-append}
use Rattle.std.proofs.lemmas.List.Elements.{All-push}
use Rattle.std.proofs.lemmas.Option.{same_Some, slice_get-map, slice_get-get_or}
use Rattle.std.specs.Option.{option_map}
use Rattle.command_line.specs.RunWords.{AreDigits}
use Rattle.tag.proofs.Lists.{same_head, same_tail}

-- one digit more
pub digits_more : (text votes now : List ℕ) (i byte : ℕ) → i < length text → byte ≡ get_or text i byte → 49 ≤ byte → byte ≤ 57 → now ≡ votes ++ (byte - 48) ∷ [] → AreDigits (take i text) votes
    → AreDigits (take (i + 1) text) now
digits_more text votes now i byte below is least most grown so_far =
    let digit : byte ≡ 48 + (byte - 48) = omega (arith, least) in
    let next : i + 1 ≡ suc i = omega arith in
    let front : take (i + 1) text ≡ take i text ++ byte ∷ [] = ap (λ n. take n text) next ∙ take-suc text i byte below ∙ ap (λ b. take i text ++ b ∷ []) (sym is) in
    subst (AreDigits (take (i + 1) text)) (sym grown) (record {
      spelled = front ∙ ap (λ l. l ++ byte ∷ []) so_far.spelled ∙ ap (λ b. map (λ v. 48 + v) votes ++ b ∷ []) digit ∙ sym (map-append (λ v. 48 + v) votes ((byte - 48) ∷ []));
      each = All-push (λ v. (1 ≤ v) × (v ≤ 9)) votes (byte - 48) so_far.each (omega (arith, least), omega (arith, most));
    })

-- a text with another byte has no such digits
pub no_digit : (text : List ℕ) (i : ℕ) → i < length text → (49 ≤ get_or text i 0 → get_or text i 0 ≤ 57 → ⊥) → (votes : List ℕ) → AreDigits text votes → ⊥
no_digit text i below none votes digits =
    let len : length text ≡ length votes = ap length digits.spelled ∙ length-map votes (λ v. 48 + v) in
    let within : i < length votes = omega (arith, below, len) in
    let same : get_or text i 0 ≡ 48 + get_or votes i 0 = same_Some _ _ (sym (slice_get-get_or text i 0 below) ∙ ap (λ (l : List ℕ). slice_get l i) digits.spelled ∙ slice_get-map (λ v. 48 + v) votes i ∙ ap (option_map (λ v. 48 + v)) (slice_get-get_or votes i 0 within)) in
    let each = digits.each i 0 within in
    let least : 1 ≤ get_or votes i 0 = each.0 in
    let most : get_or votes i 0 ≤ 9 = each.1 in
    none (omega (arith, same, least)) (omega (arith, same, most))

same_list : (a b : List ℕ) → map (λ v. 48 + v) a ≡ map (λ v. 48 + v) b → a ≡ b
same_list [] [] e = refl
same_list [] (w ∷ b) e = absurd (cc)
same_list (v ∷ a) [] e = absurd (cc)
same_list (v ∷ a) (w ∷ b) e =
    let same : 48 + v ≡ 48 + w = same_head _ _ _ _ e in
    let first : v ≡ w = omega (arith, same) in
    ap (λ n. n ∷ a) first ∙ ap (λ l. w ∷ l) (same_list a b (same_tail _ _ _ _ e))

-- a text is the digits of one list of votes
pub same_votes : (text a b : List ℕ) → AreDigits text a → AreDigits text b → a ≡ b
same_votes text a b first second = same_list a b (sym first.spelled ∙ second.spelled)
