-- Lines that end.
use Rattle.std.proofs.Common.{ℕ, ◌≢◌, ◌<◌, List, [], ◌∷◌, ◌++◌, length, sym, ap, ◌∙◌, append-nil, subst}
use Rattle.std.proofs.lemmas.List.Elements.{All-nil}
use Rattle.counted_devices.specs.Cuts.{HasNoEnd, Splits, last_lines}
use Rattle.counted_devices.proofs.CutLemmas.{Splits-join, Splits-none, Splits-line, last_some}

-- no byte, no end
pub no_byte : HasNoEnd []
no_byte = All-nil (λ (b : ℕ). b ≢ 10)

-- a line that the rest began ends
pub line_ended : (bytes rest front : List ℕ) (lines : List (List ℕ)) → Splits bytes lines rest → HasNoEnd front → Splits (bytes ++ (front ++ 10 ∷ [])) (lines ++ (rest ++ front) ∷ []) []
line_ended bytes rest front lines s none =
    Splits-join bytes (front ++ 10 ∷ []) lines ((rest ++ front) ∷ []) rest [] s (Splits-line rest front [] [] [] s.partial none (Splits-none [] no_byte))

-- the last line, with the end that it hadn't
pub last_ended : (bytes : List ℕ) (lines : List (List ℕ)) (rest : List ℕ) → Splits bytes lines rest → 0 < length rest → Splits (bytes ++ 10 ∷ []) (last_lines lines rest) []
last_ended bytes lines rest s some =
    let P : List (List ℕ) → Type 0 = λ ls. Splits (bytes ++ 10 ∷ []) ls [] in
    subst P (ap (λ (line : List ℕ). lines ++ line ∷ []) (append-nil rest) ∙ sym (last_some lines rest some)) (line_ended bytes rest [] lines s no_byte)
